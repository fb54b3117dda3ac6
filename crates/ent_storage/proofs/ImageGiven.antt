-- An entity that was given a component.
use Rattle.ent_storage.proofs.Common.{arith, common_steps, rules, ◌≡◌, ◌≢◌, refl, ap, ◌∙◌, ℤ, true}
use Rattle.ent_storage.proofs.Common.{[], ◌∷◌, Some, is_some, ComponentId, component_cmp_total}
use Rattle.ent_storage.proofs.Common.{component_cmp-IsAntisymmetric, Handle, handle_cmp_total}
use Rattle.ent_storage.proofs.Common.{handle_cmp-IsAntisymmetric, with_items, Entity, EntityMap}
use Rattle.ent_storage.proofs.Common.{birth_of, value_of, with_components, fin_get, fin_insert}
use Rattle.ent_storage.proofs.Keys.{some_value, get-insert_same, get-insert_other}

module _ (m : EntityMap) (h : Handle) (id : ComponentId) (v : ℤ) where
  abbrev pub given : EntityMap
  given = with_components m h (λ held. with_items held ((id, v) ∷ []))

  abbrev with_one : Entity → Entity
  with_one e = record { birth = e.birth; components = fin_insert e.components id v }

  given_is : (e : Entity) → fin_get m h ≡ Some e → given ≡ fin_insert m h (with_one e)
  given_is e at = search rules

  get_here : (e : Entity) → fin_get m h ≡ Some e → fin_get given h ≡ Some (with_one e)
  get_here e at = ap (λ x. fin_get x h) (given_is e at)
      ∙ get-insert_same handle_cmp_total handle_cmp-IsAntisymmetric m h (with_one e) h refl

  pub given_rest : (q : Handle) → q ≢ h → fin_get given q ≡ fin_get m q
  given_rest q other =
      grind (
        arith,
        common_steps,
        λ (e : Entity). given_is e,
        λ (e : Entity). get-insert_other handle_cmp_total handle_cmp-IsAntisymmetric m h (with_one e)
            q other,
      )

  module _ (there : is_some (birth_of m h) ≡ true) where
    entity : (e : Entity) × (fin_get m h ≡ Some e)
    entity = some_value (fin_get m h) (search rules)

    pub given_value : value_of given h id ≡ Some v
    given_value =
        rw (get_here entity.0 entity.1)
        (get-insert_same component_cmp_total component_cmp-IsAntisymmetric entity.0.components id v
        id refl)

    pub given_others : (other : ComponentId) → other ≢ id
        → value_of given h other ≡ value_of m h other
    given_others other apart =
        rw (get_here entity.0 entity.1, entity.1)
        (get-insert_other component_cmp_total component_cmp-IsAntisymmetric entity.0.components id v
        other apart)

    pub given_birth : birth_of given h ≡ birth_of m h
    given_birth = search (rules, get_here)
