use Rattle.ent_alloc.proofs.Common.{◌≡◌, ◌+◌, ◌-◌, arith, rules, append_assoc, append-nil}
use Rattle.ent_alloc.proofs.FreshHandles.{fresh-none}
use Rattle.ent_alloc.proofs.Listing.{fresh-push, replicate-push}
use Rattle.ent_alloc.proofs.slot_record.make_all.Goals as goal

pub loop-index-init : goal.loop-index-init
loop-index-init c =
    let none : c.len-made.result - c.len-made.result ≡ 0 = omega arith in
    search (rules, none, fresh-none, append-nil)

pub loop-index-preserved : goal.loop-index-preserved
loop-index-preserved c =
    let at : c.len-made.result + (c.loop-index.index - c.len-made.result) ≡ c.loop-index.index =
    omega arith in
    search (rules, arith, c.first_occupant.ensures, append_assoc, replicate-push, fresh-push, at)
