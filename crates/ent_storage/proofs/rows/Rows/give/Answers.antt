use Rattle.ent_storage.proofs.Common.{rules, ◌≡◌, ap, sym, subst, refl, ◌∙◌, Result, OnOk, OnErr}
use Rattle.ent_storage.proofs.Common.{EntityMap, Store, birth_of, value_of, to_z-of_z, fin_get}
use Rattle.ent_storage.proofs.ImageGiven.{given, given_value, given_others, given_birth, given_rest}
use Rattle.ent_storage.proofs.rows.Rows.give.Goals.{After-give_one}
use Rattle.ent_storage.proofs.rows.Rows.give.Goals as goal

either : {T E A B : Type 0} (P : Type 0) (r : Result T E) → (A → P) → (B → P) → OnOk r A → OnErr r B
    → P
either P r f g a b = search rules

if_ok : {T E A B : Type 0} (r : Result T E) → (A → B) → OnOk r A → OnOk r B
if_ok r f a = search rules

-- the entity was given the component, if there was memory
is_given : (c : After-give_one)
    → OnOk c.give_one.result
    (c.give_one.new.self.entities ≡ given c.args.self.now.entities c.args.handle c.args.id
    c.in-Some.value)
is_given c = search (rules, if_ok, to_z-of_z)

-- what holds with the component and without it
holds : (c : After-give_one) (P : EntityMap → Type 0)
    → P (given c.args.self.now.entities c.args.handle c.args.id c.in-Some.value)
    → P c.args.self.now.entities → P c.give_one.new.self.entities
holds c P new old = either _ c.give_one.result (λ is. subst P (sym is) new)
    (λ is. subst (λ (s : Store). P s.entities) (sym is) old) (is_given c) c.give_one.ensures.err

pub returns-in-Some-clause-here : goal.returns-in-Some-clause-here
returns-in-Some-clause-here c = if_ok c.give_one.result
    (λ is. ap (λ (m : EntityMap). value_of m c.args.handle c.args.id) is
    ∙ given_value c.args.self.now.entities c.args.handle c.args.id c.in-Some.value c.requires.there
    ∙ sym c.in-Some.is) (is_given (goal.at.returns-in-Some-clause-here c).After-give_one)

pub returns-in-Some-clause-others : goal.returns-in-Some-clause-others
returns-in-Some-clause-others c other apart =
    holds (goal.at.returns-in-Some-clause-others c).After-give_one
    (λ m. value_of m c.args.handle other ≡ value_of c.args.self.now.entities c.args.handle other)
    (given_others _ _ _ _ c.requires.there other apart) refl

pub returns-in-Some-clause-birth : goal.returns-in-Some-clause-birth
returns-in-Some-clause-birth c = holds (goal.at.returns-in-Some-clause-birth c).After-give_one
    (λ m. birth_of m c.args.handle ≡ birth_of c.args.self.now.entities c.args.handle)
    (given_birth _ _ _ _ c.requires.there) refl

pub returns-in-Some-clause-rest : goal.returns-in-Some-clause-rest
returns-in-Some-clause-rest c h apart = holds (goal.at.returns-in-Some-clause-rest c).After-give_one
    (λ m. fin_get m h ≡ fin_get c.args.self.now.entities h) (given_rest _ _ _ _ h apart) refl
