use Rattle.ent_shared.proofs.Common.{rules, arith, ints}
use Rattle.ent_shared.proofs.Steps.{goes_by_records}
use Rattle.ent_shared.proofs.Sharing.{AreShared, none_shared, next_holding, shared_more, own_again}
use Rattle.ent_shared.proofs.Sharing.{none_used, all_of}
use Rattle.ent_shared.proofs.phase.share.Goals as goal

pub loop-number-init : goal.loop-number-init
loop-number-init c = search (rules, none_shared)

pub split_first-requires-clause-rule : goal.split_first-requires-clause-rule
split_first-requires-clause-rule c = goes_by_records _ _

pub new-requires : goal.new-requires
new-requires c =
    let small = c.top.type_inv in
    let holding =
    next_holding _ _ c.loop-number.number _ _ _ _ c.loop-number-test.true
    c.loop-number.invariant.first in
    holding c.split_first.result.views _ c.split_first.ensures.first.1
    (omega (arith, ints, c.top.ensures, c.from-top.ensures, c.requires.flushed))

pub loop-number-preserved : goal.loop-number-preserved
loop-number-preserved c = record {
  first =
      shared_more _ _ c.loop-number.number _ _ _ _ c.loop-number-test.true
      c.loop-number.invariant.first _ _ _
      c.split_first.ensures.kept.0 c.split_first.ensures.kept.1 c.split_first.result.views
      c.split_first.ensures.first.1
      (search rules) _ c.push_reserved.ensures.items;
  count = search (rules, c.loop-number.invariant.count, c.push_reserved.ensures.len);
  room = omega (arith, c.loop-number.invariant.room, c.push_reserved.ensures.capacity);
}

-- all reservers are made
made : (c : goal.After-drop-all)
    → AreShared c.args.entities.allocator c.args.n c.args.n c.in-Ok-open.word.shared.table_id
    c.loop-number.reservers.items c.loop-number.all.table_id c.loop-number.all.me
made c = search rules

pub returns-clause-reservers : goal.returns-clause-reservers
returns-clause-reservers c = search (rules, own_again, (made c).made_is)

pub returns-clause-own : goal.returns-clause-own
returns-clause-own c =
    search (
      rules,
      made,
      all_of c.args.entities.allocator c.args.entities.rows c.args.n
          c.in-Ok-open.word.shared.table_id 0 c.args.n,
    )

pub returns-clause-unused : goal.returns-clause-unused
returns-clause-unused c = search (rules, none_used, made)
