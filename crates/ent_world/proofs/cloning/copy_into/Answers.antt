use Rattle.ent_world.proofs.Common.{rules, ◌≡◌, Result, OnErr, none-some, EntityMap, AreBare}
use Rattle.std.specs.FinMap as map
use Rattle.ent_world.proofs.cloning.copy_into.Goals as goal

-- of nobody no copy takes memory
never : {T E : Type 0} (r : Result T E) (P Q : Type 0) → OnErr r P → (P → ⊥) → OnErr r Q
never it P Q so not = search rules

no_entities_bare : (m : EntityMap) → m ≡ map.empty → AreBare m
no_entities_bare m empty h e at = search (rules, none-some, map.get-empty)

pub returns-then-entities-eq0-clause-entities : goal.returns-then-entities-eq0-clause-entities
returns-then-entities-eq0-clause-entities c = search
    (rules, map.empty_of_len, c.new.ensures, c.try_clone_from-then-entities-eq0.ensures)

pub returns-then-entities-eq0-clause-memory : goal.returns-then-entities-eq0-clause-memory
returns-then-entities-eq0-clause-memory c = search (rules, never, no_entities_bare)
