use Rattle.ent_alloc.proofs.Common.{rules, arith, ◌-◌, length, append-nil, drop_all}
use borrow.Rule.Slice.PartMut.{Post-is}
use Rattle.ent_alloc.proofs.Fronts.{placed_is}
use Rattle.ent_alloc.proofs.front.place_last.Goals as goal

pub returns : goal.returns
returns c =
    let pending = c.args.pending.now in
    let kept = length pending - length c.args.order.now in
    search (
      rules,
      arith,
      append-nil,
      drop_all (length pending) pending,
      Post-is kept (length pending) pending (omega arith),
      placed_is pending (length pending) c.args.order.now,
    )
