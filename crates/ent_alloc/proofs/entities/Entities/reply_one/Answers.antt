use Rattle.ent_alloc.proofs.Common.{rules, ◌≡◌, ◌+◌, pos, ◌-ℤ◌, nat_abs, ap, ◌∙◌, ◌∷◌, [], Ok}
use Rattle.ent_alloc.proofs.Common.{arith, to_z, of_z, w64, ints, Handle}
use Rattle.ent_alloc.proofs.Meaning.{allocator_is}
use Rattle.ent_alloc.proofs.OneReply.{IsBelowTop, below_top, one_pending, one_fresh, one_refused}
use Rattle.ent_alloc.proofs.entities.Entities.reply_one.Goals.{After-self, After-slots}
use Rattle.ent_alloc.proofs.entities.Entities.reply_one.Goals as goal

-- where the position lies
lies : (c : After-self) → IsBelowTop c.self.inside.slots c.args.high
lies c = search (rules, below_top, allocator_is)

-- how many slots may be made
slots_is : (c : After-slots) → c.slots.result ≡ c.self.inside.slots.limits.slots
slots_is c = search rules

pub returns-then-position-ge0 : goal.returns-then-position-ge0
returns-then-position-ge0 c = search (rules, lies, one_pending, allocator_is, ints)

pub returns-then-index-from : goal.returns-then-index-from
returns-then-index-from c =
    let at = lies (goal.at.returns-then-index-from c).After-self in
    let slots = slots_is (goal.at.returns-then-index-from c).After-slots in
    ap (λ (h : Handle). Ok (h ∷ [])) c.first_occupant.ensures ∙ one_fresh _ _ _ _ _ c.self.invariant
    (allocator_is c.self.view_is) _ at.within (omega (arith, ints)) (omega arith) (omega arith)

pub returns-else-index-from : goal.returns-else-index-from
returns-else-index-from c =
    let at = lies (goal.at.returns-else-index-from c).After-self in
    search (
      rules,
      ints,
      slots_is,
      one_refused _ _ _ _ _ c.self.invariant (allocator_is c.self.view_is)
          (c.from.result + nat_abs (to_z w64 (of_z w64 (pos 0 -ℤ to_z w64 (of_z w64 c.args.high)))))
          at.within,
    )
