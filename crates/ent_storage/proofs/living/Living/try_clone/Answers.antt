use Rattle.ent_storage.proofs.Common.{rules, ◌≡◌, AllZip, IsCopy}
use Rattle.ent_storage.proofs.Copied.{columns_copied, in_use_copied}
use Rattle.ent_storage.proofs.living.Living.try_clone.Goals as goal

pub invariant_of-result : goal.invariant_of-result
invariant_of-result c =
    let copies : AllZip IsCopy c.self.inside.columns.items c.in_ok-try_clone.field-0.items =
    search rules in
    let residents : c.extend_from_slice.new.self.items ≡ c.self.inside.residents.items =
    search rules in
    let used : c.extend_from_slice-2.new.self.items ≡ c.self.inside.used.items = search rules in
    rw (residents, used) (
      columns_copied _ _ copies _ c.self.invariant.0,
      in_use_copied _ _ copies _ c.self.invariant.1,
    )
