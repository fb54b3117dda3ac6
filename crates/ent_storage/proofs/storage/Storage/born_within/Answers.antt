use Rattle.ent_storage.proofs.Common.{rules, ◌≡◌, ◌∙◌, None, Option, Store, ap, arith, false≢true}
use Rattle.ent_storage.proofs.Common.{is_none, is_some, sym, true, false, fin_get}
use Rattle.ent_storage.proofs.KeptIndex.{kept_push, known}
use Rattle.ent_storage.proofs.storage.Storage.born_within.Goals as goal

none_from_test : {A : Type 0} (o : Option A) → is_none o ≡ true → o ≡ None
none_from_test o e = search rules

none_of : {A B : Type 0} (o : Option A) (p : Option B) → is_some o ≡ is_some p → is_none o ≡ true
    → p ≡ None
none_of o p same e = search (rules, false≢true)

some_of : {A B : Type 0} (o : Option A) (p : Option B) → is_some o ≡ is_some p
    → is_none o ≡ false → is_some p ≡ true
some_of o p same e = search (rules, false≢true)

-- the handle is new
pub push-requires-clause-new : goal.push-requires-clause-new
push-requires-clause-new c = none_of _ _ (known _ _ _ c.self.invariant c.args.handle)
    (sym c.put.ensures.new ∙ c.if-put.true)

-- and there is room
pub invariant_of-self : goal.invariant_of-self
invariant_of-self c =
    let new = none_from_test _ (sym c.put.ensures.new ∙ c.if-put.true) in
    let spare = ap (λ (s : Store). s.spare) c.self.view_is in
    kept_push _ _ _ c.self.invariant _ _ _ c.args.handle _ c.push.ensures.places
    c.push.ensures.entities new (c.put.ensures.placed c.if-put.true)
    (c.put.ensures.kept c.if-put.true) (omega (arith, spare, c.requires.room, c.put.ensures.room))

-- the handle is there exactly if the index has a place of it that counts
pub returns-then-put-clause-present : goal.returns-then-put-clause-present
returns-then-put-clause-present c =
    let none = none_of _ _ (known _ _ _ c.self.invariant c.args.handle)
    (sym c.put.ensures.new ∙ c.if-put.true) in
    let same = ap (λ (s : Store). fin_get s.entities c.args.handle) c.self.view_is in
    search (rules, none, same, false≢true)

pub returns-else-put-clause-present : goal.returns-else-put-clause-present
returns-else-put-clause-present c =
    let some = some_of _ _ (known _ _ _ c.self.invariant c.args.handle)
    (sym c.put.ensures.new ∙ c.if-put.false) in
    let same = ap (λ (s : Store). fin_get s.entities c.args.handle) c.self.view_is in
    search (rules, some, same)
