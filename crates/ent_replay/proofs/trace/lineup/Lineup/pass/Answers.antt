use Rattle.ent_replay.proofs.Common.{nil_from_length, rules, ◌≡◌, ◌∷◌, [], sym, ◌∙◌, to_z, of_z}
use Rattle.ent_replay.proofs.Common.{w64, pos, ◌-ℤ◌, ints}
use Rattle.ent_replay.proofs.Lineups.{Passing-least, Passing-passed, Passing-lower, started}
use Rattle.ent_replay.proofs.Lineups.{placed_next, left_next, over_lined, over_stuck}
use Rattle.ent_replay.proofs.MachineEvents.{some_of, none_of}
use Rattle.ent_replay.proofs.trace.lineup.Lineup.pass.Goals as goal
use Rattle.ent_replay.proofs.trace.lineup.Lineup.pass.Goals.{In_ok-push}

pub loop-one-init : goal.loop-one-init
loop-one-init c = search (rules, started)

pub fits_at-requires : goal.fits_at-requires
fits_at-requires c = search (rules, ints, Passing-least, Passing-passed)

pub overflow_sub-at : goal.overflow_sub-at
overflow_sub-at c =
    let parts : c.loop-one.one-iterator.rest.items ≡ c.in-Some.one ∷ c.next.new.self.rest.items =
    search rules in
    search (
      rules,
      ints,
      Passing-lower c.requires c.loop-one.invariant parts,
      c.from-at.ensures,
      c.loop-one.auto.at-fits,
    )

lowered : (c : In_ok-push)
    → to_z w64 (of_z w64 (to_z w64 c.loop-one.at-bits -ℤ to_z w64 (of_z w64 c.from-at.result)))
    ≡ to_z w64 c.loop-one.at-bits -ℤ pos c.in-Some.one.reservation.requested
lowered c =
    let parts : c.loop-one.one-iterator.rest.items ≡ c.in-Some.one ∷ c.next.new.self.rest.items =
    search rules in
    search (
      rules,
      ints,
      Passing-lower c.requires c.loop-one.invariant parts,
      c.from-at.ensures,
      c.loop-one.auto.at-fits,
    )

pub loop-one-preserved-then-branch : goal.loop-one-preserved-then-branch
loop-one-preserved-then-branch c =
    placed_next c.requires c.loop-one.invariant (search rules) c.in_ok-push.ensures.items
    (lowered c) (sym c.get.ensures ∙ none_of c.get.result (sym c.if-free.ensures))
    (search (rules, c.in_ok-fits_at.ensures, c.if-branch.true))

pub loop-one-preserved : goal.loop-one-preserved
loop-one-preserved c =
    left_next c.requires c.loop-one.invariant (search rules) _ c.in_ok-push-2.ensures.items
    c.in_ok-insert.ensures.ok (search (rules, c.else-free.branch, some_of))

pub returns-clause-lined : goal.returns-clause-lined
returns-clause-lined c =
    let over : c.loop-one.one-iterator.rest.items ≡ [] = search (rules, nil_from_length) in
    search (rules, over_lined)

pub returns-clause-keeps : goal.returns-clause-keeps
returns-clause-keeps c = search (rules, nil_from_length)

pub returns-clause-stuck : goal.returns-clause-stuck
returns-clause-stuck c = over_stuck
    (record {
      placed = c.loop-one.placed;
      rest = c.loop-one.left;
      at = to_z w64 c.loop-one.at-bits;
    })
    c.requires (search (rules, nil_from_length)) c.loop-one.invariant
