use Rattle.ent_world.proofs.Common.{rules, sym, ◌∙◌, drop}
use Rattle.ent_world.proofs.Born.{named_now, named_before, keeps_name}
use Rattle.ent_world.proofs.PlacedRows.{stands_from, stands_before}
use Rattle.ent_world.proofs.births.name.Goals.{else-before-place-via-then-before-place+else-birth_at}
use Rattle.ent_world.proofs.births.name.Goals.{else-before-place-via-else-before-place}
use Rattle.ent_world.proofs.births.name.Goals as goal

-- it is born now, and has no birth of a system
pub returns-then-birth_at-clause-named : goal.returns-then-birth_at-clause-named
returns-then-birth_at-clause-named c =
    search (rules, named_now, stands_from, c.requires c.args.handle c.in-Some.place)

-- it has one, or was born before
pub returns-else-before-place-clause-named : goal.returns-else-before-place-clause-named
returns-else-before-place-clause-named c = elim c.else-before-place.branch [
  | else-before-place-via-then-before-place+else-birth_at w ↦ search (rules, keeps_name)
  | else-before-place-via-else-before-place w ↦ sym
      (named_before (drop c.args.before c.args.storage.now.places)
      c.args.handle c.args.birth c.args.storage.now.entities
      (stands_before c.args.storage.now.places c.args.before c.in-Some.place c.args.handle
      (λ k is. sym c.in-Some.is ∙ c.place_of.ensures ∙ (c.requires c.args.handle k).1 is)
      w.if-before-place.false))
]
