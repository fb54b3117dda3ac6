use Rattle.ent_storage.proofs.Common.{◌≡◌, ◌≢◌, refl, ap, sym, ◌∙◌, Some, Option, slice_get, subst}
use Rattle.ent_storage.proofs.Common.{is_some, IsSomeAnd, option_map, option_and_then, Birth}
use Rattle.ent_storage.proofs.Common.{component_cmp, Handle, total, same, Entity, EntityMap}
use Rattle.ent_storage.proofs.Common.{birth_of, IsBirth, fin_get, fin_get-empty}
use Rattle.ent_storage.proofs.ElementsAt.{at_pushed}
use Rattle.ent_storage.proofs.Keys.{get-insert_same, get-insert_other}
use Rattle.ent_storage.proofs.ImageEntities.{entity_short, entity_read, entity_refused}
use Rattle.ent_storage.proofs.image.read_entity.Goals.{After-push}
use Rattle.ent_storage.proofs.image.read_entity.Goals as goal

-- the entity was born
born : (c : After-push) → birth_of c.push.new.self.entities c.args.handle
    ≡ Some c.read_birth.result.0
born c = ap (λ (n : EntityMap). birth_of n c.args.handle) c.push.ensures.entities
    ∙ ap (option_map (λ (e : Entity). e.birth)) (get-insert_same total same _ _ _ _ refl)

others : (c : After-push) (q : Handle) → q ≢ c.args.handle → fin_get c.push.new.self.entities q
    ≡ fin_get c.args.storage.now.entities q
others c q apart = ap (λ (n : EntityMap). fin_get n q) c.push.ensures.entities
    ∙ get-insert_other total same _ _ _ q apart

pub returns-then-bytes-lt16-clause-none : goal.returns-then-bytes-lt16-clause-none
returns-then-bytes-lt16-clause-none c m rest is = entity_short _ m _ _ rest c.if-bytes-lt16.true is

pub read_values-requires-clause-at : goal.read_values-requires-clause-at
read_values-requires-clause-at c =
    (λ i. slice_get (c.push.ensures.places i) (c.len-place.ensures.places i))
    ∙ at_pushed c.args.storage.now.places c.args.handle

pub read_values-requires-clause-free : goal.read_values-requires-clause-free
read_values-requires-clause-free c id =
    ap
    (λ (m : EntityMap). option_and_then (λ (e : Entity). fin_get e.components id)
    (fin_get m c.args.handle)) c.push.ensures.entities
    ∙ ap (option_and_then (λ (e : Entity). fin_get e.components id))
    (get-insert_same total same _ _ _ _ refl) ∙ fin_get-empty component_cmp id

pub read_values-requires-clause-there : goal.read_values-requires-clause-there
read_values-requires-clause-there c =
    ap is_some (born (goal.at.read_values-requires-clause-there c).After-push)

pub returns-in_err-rest-clause-rest : goal.returns-in_err-rest-clause-rest
returns-in_err-rest-clause-rest c h apart = c.in_err-rest.ensures.rest h apart
    ∙ others (goal.at.returns-in_err-rest-clause-rest c).After-push h apart

pub returns-in_default-clause-none : goal.returns-in_default-clause-none
returns-in_default-clause-none c m rest is same =
    let none = rw c.in_default.is at c.in_ok-rest.ensures.none in
    entity_refused _ m _ _ _ _ rest c.read_birth.ensures.fits c.read_birth.ensures.bytes none is
    same

pub returns-in_default-clause-rest : goal.returns-in_default-clause-rest
returns-in_default-clause-rest c h apart = c.in_ok-rest.ensures.rest h apart
    ∙ others (goal.at.returns-in_default-clause-rest c).After-push h apart

pub returns-clause-found : goal.returns-clause-found
returns-clause-found c =
    let birth = c.in_ok-rest.ensures.birth ∙ born (goal.at.returns-clause-found c).After-push in
    entity_read _ _ _ _ _ _ _ birth c.read_birth.ensures.bytes
    (rw c.in-Some.is at c.in_ok-rest.ensures.found)

pub returns-clause-stored : goal.returns-clause-stored
returns-clause-stored c =
    let birth = c.in_ok-rest.ensures.birth ∙ born (goal.at.returns-clause-stored c).After-push in
    record {
      birth =
          subst (λ (o : Option Birth). IsSomeAnd o IsBirth) (sym birth) c.read_birth.ensures.fits;
      numbered = λ id v at. (c.in_ok-rest.ensures.fits id v at).0;
      values = λ id v at. (c.in_ok-rest.ensures.fits id v at).1;
    }

pub returns-clause-rest : goal.returns-clause-rest
returns-clause-rest c h apart =
    c.in_ok-rest.ensures.rest h apart ∙ others (goal.at.returns-clause-rest c).After-push h apart
