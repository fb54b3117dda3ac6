use Rattle.ent_shared.proofs.Common.{rules, own_of}
use Rattle.ent_shared.proofs.Steps.{meets_at, splits_others}
use Rattle.ent_shared.proofs.word.meet.Goals as goal

pub join_seat-requires : goal.join_seat-requires
join_seat-requires c = (
  search rules,
  search rules,
  search rules,
  search rules,
  meets_at _ _ _ _ _ _ (own_of c.args.a.now.views) (own_of c.args.b.now.views) (search rules)
      (search rules),
)

pub split_seat-requires : goal.split_seat-requires
split_seat-requires c = search (rules, splits_others)
