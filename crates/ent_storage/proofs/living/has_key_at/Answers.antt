use Rattle.ent_storage.proofs.Common.{◌≡◌, rules, slice_get-get_or, eq_by_cmp, handle_cmp}
use Rattle.ent_storage.proofs.EntitiesOfResidents.{test_at}
use Rattle.ent_storage.proofs.living.has_key_at.Goals as goal

pub returns-in-Some : goal.returns-in-Some
returns-in-Some c =
    let look = rw c.deref.ensures.value at c.in-Some.ensures.lookup in
    let tests : c.is_of.result ≡ eq_by_cmp handle_cmp c.in-Some.entity.now.handle c.args.key =
    search rules in
    search (rules, slice_get-get_or, test_at, look)
