-- Entities, one by one: what is written of them tells them.
use Rattle.ent_storage.proofs.Common.{same_Some, Contains-append_right, common_steps, rules, ◌≡◌}
use Rattle.ent_storage.proofs.Common.{◌≢◌, refl, sym, ap, ◌∙◌, ℕ, zero, suc, ℤ, ◌+◌, ◌*◌, ◌<◌, ◌≤◌}
use Rattle.ent_storage.proofs.Common.{Bool, false, List, [], ◌∷◌, ◌++◌, length, arith, Option, None}
use Rattle.ent_storage.proofs.Common.{Some, is_some, Contains, ◌⊎◌, flat_map, list_any, cases_eq}
use Rattle.ent_storage.proofs.Common.{cases_lt, false≢true, append_assoc, length-append, Birth}
use Rattle.ent_storage.proofs.Common.{ComponentId, component_cmp_total}
use Rattle.ent_storage.proofs.Common.{component_cmp-IsAntisymmetric, Handle, handle_cmp_total}
use Rattle.ent_storage.proofs.Common.{handle_cmp-IsAntisymmetric, Entity, EntityMap, birth_of}
use Rattle.ent_storage.proofs.Common.{value_of, birth_bytes, values_bytes, component, entity_bytes}
use Rattle.ent_storage.proofs.Common.{entities_bytes, is_held, width_below, width, IsBirth}
use Rattle.ent_storage.proofs.Common.{IsStored, AreStored, fin_get, fin_same_map}
use Rattle.ent_storage.proofs.Keys.{none_from}
use Rattle.ent_handle.proofs.Spelled.{length-word, length-long, same_words, same_longs}
use Rattle.ent_storage.proofs.ImageValues.{AllFit, same_values}

-- ---- births

length-birth_bytes : (b : Birth) → length (birth_bytes b) ≡ 16
length-birth_bytes b = search (rules, length-append, length-long, length-word)

same_births : (a b : Birth) (xs ys : List ℕ) → IsBirth a → IsBirth b
    → birth_bytes a ++ xs ≡ birth_bytes b ++ ys → (a ≡ b) × (xs ≡ ys)
same_births a b xs ys fa fb same = search (rules, same_longs, same_words, append_assoc)

-- ---- one entity

-- the birth of an entity that is there
pub birth_known : (m : EntityMap) (h : Handle) → IsStored m h
    → (b : Birth) × ((birth_of m h ≡ Some b) × IsBirth b)
birth_known m h is = search rules

pub entity_is : (n : ℕ) (m : EntityMap) (h : Handle) (b : Birth) (rest : List ℕ)
    → birth_of m h ≡ Some b → entity_bytes n m h ++ rest
    ≡ birth_bytes b ++ (values_bytes (value_of m h) n ++ rest)
unfolding entity_bytes
entity_is n m h b rest is = search (rules, append_assoc)

pub entity_alone : (n : ℕ) (m : EntityMap) (h : Handle) (b : Birth) → birth_of m h ≡ Some b
    → entity_bytes n m h ≡ birth_bytes b ++ values_bytes (value_of m h) n
unfolding entity_bytes
entity_alone n m h b is = search rules

-- an entity that was read
pub entity_read : (n : ℕ) (m : EntityMap) (h : Handle) (b : Birth) (bytes left rest : List ℕ)
    → birth_of m h ≡ Some b → bytes ≡ birth_bytes b ++ left
    → left ≡ values_bytes (value_of m h) n ++ rest → bytes ≡ entity_bytes n m h ++ rest
entity_read n m h b bytes left rest is first second = search (rules, entity_is)

-- no entity has fewer than 16 bytes
pub entity_short : (n : ℕ) (m : EntityMap) (h : Handle) (bytes rest : List ℕ) → length bytes < 16
    → IsStored m h → bytes ≢ entity_bytes n m h ++ rest
entity_short n m h bytes rest short is same =
    let birth = birth_known m h is in
    grind (arith, common_steps, entity_is n m h birth.0 rest birth.1.0, length-birth_bytes birth.0)

fit_all : (m : EntityMap) (h : Handle) → IsStored m h → AllFit (value_of m h)
fit_all m h is id v at = is.values id v at

-- where no values are written, no entity is
pub entity_refused : (n : ℕ) (m : EntityMap) (h : Handle) (b : Birth) (bytes left rest : List ℕ)
    → IsBirth b → bytes ≡ birth_bytes b ++ left
    → ((value : ComponentId → Option ℤ) (more : List ℕ) → AllFit value
    → left ≢ values_bytes value n ++ more) → IsStored m h → bytes ≢ entity_bytes n m h ++ rest
entity_refused n m h b bytes left rest fits first none is same =
    let birth = birth_known m h is in
    search (rules, fit_all, same_births b birth.0, entity_is n m h birth.0 rest birth.1.0)

-- the two maps have the same birth under the handle, and the same first values
pub record IsAlike (n : ℕ) (a b : EntityMap) (h : Handle) : Type 0 where
  pub birth : birth_of a h ≡ birth_of b h
  pub values : (k : ℕ) → k < n → value_of a h (component k) ≡ value_of b h (component k)

same_entity : (n : ℕ) (a b : EntityMap) (h : Handle) (xs ys : List ℕ) → IsStored a h → IsStored b h
    → entity_bytes n a h ++ xs ≡ entity_bytes n b h ++ ys → IsAlike n a b h × (xs ≡ ys)
same_entity n a b h xs ys is_a is_b same =
    let birth_a = birth_known a h is_a in
    let birth_b = birth_known b h is_b in
    let births = same_births _ _ _ _ birth_a.1.1 birth_b.1.1
    (rw (entity_is n a h _ xs birth_a.1.0, entity_is n b h _ ys birth_b.1.0) at same) in
    search (rules, same_values, fit_all)

-- what is written of an entity depends on it alone
pub written_alike : (n : ℕ) (a b : EntityMap) (h : Handle) → fin_get a h ≡ fin_get b h
    → entity_bytes n a h ≡ entity_bytes n b h
unfolding entity_bytes
written_alike n a b h same = search rules

pub stored_alike : (a b : EntityMap) (h : Handle) → fin_get a h ≡ fin_get b h → IsStored a h
    → IsStored b h
stored_alike a b h same is = search (rules)

-- ---- entities

first_in : (h : Handle) (hs : List Handle) → Contains (h ∷ hs) h
first_in h hs = (0, omega arith, refl)

pub all_alike : (n : ℕ) (a b : EntityMap) (hs : List Handle)
    → ((h : Handle) → Contains hs h → fin_get a h ≡ fin_get b h)
    → flat_map (entity_bytes n a) hs ≡ flat_map (entity_bytes n b) hs
all_alike n a b [] each = refl
all_alike n a b (h ∷ hs) each =
    let here = written_alike n a b h (each h (first_in h hs)) in
    let rest = all_alike n a b hs (λ g is. each g (Contains-append_right (h ∷ []) hs g is)) in
    λ i. here i ++ rest i

listed_least : (n : ℕ) (m : EntityMap) (hs : List Handle)
    → ((h : Handle) → Contains hs h → IsStored m h)
    → 16 * length hs ≤ length (flat_map (entity_bytes n m) hs)
listed_least n m [] stored = omega arith
listed_least n m (h ∷ hs) stored =
    let birth = birth_known m h (stored h (first_in h hs)) in
    let rest = listed_least n m hs (λ g is. stored g (Contains-append_right (h ∷ []) hs g is)) in
    grind (arith, common_steps, entity_alone n m h birth.0 birth.1.0, length-birth_bytes birth.0)

pub entities_least : (m : EntityMap) (hs : List Handle) → AreStored m hs
    → 4 + 16 * length hs ≤ length (entities_bytes m hs)
entities_least m hs stored = search (rules, listed_least, length-append, length-word)

-- the first handle, or a later one
cases_in : (g : Handle) (hs : List Handle) (h : Handle) → Contains (g ∷ hs) h
    → (g ≡ h) ⊎ Contains hs h
cases_in g hs h at = search rules

pub same_listed : (n : ℕ) (a b : EntityMap) (hs : List Handle) (xs ys : List ℕ)
    → ((h : Handle) → Contains hs h → IsStored a h) → ((h : Handle) → Contains hs h → IsStored b h)
    → flat_map (entity_bytes n a) hs ++ xs ≡ flat_map (entity_bytes n b) hs ++ ys
    → ((h : Handle) → Contains hs h → IsAlike n a b h) × (xs ≡ ys)
same_listed n a b [] xs ys in_a in_b same = ((λ h is. absurd (omega (arith, is.1))), same)
same_listed n a b (h ∷ hs) xs ys in_a in_b same =
    let one =
    same_entity n a b h _ _ (in_a h (first_in h hs)) (in_b h (first_in h hs))
    (simp append_assoc at same) in
    let rest = same_listed n a b hs xs ys (λ g is. in_a g (Contains-append_right (h ∷ []) hs g is))
    (λ g is. in_b g (Contains-append_right (h ∷ []) hs g is)) one.1 in
    search (rules, cases_in)

-- ---- the width

width_most : (m : EntityMap) (hs : List Handle) (n : ℕ) → width_below m hs n ≤ n
width_most m hs zero = omega arith
width_most m hs (suc n) = search (rules, width_most m hs n)

pub width_few : (m : EntityMap) (hs : List Handle) → width m hs ≤ 256
unfolding width
width_few m hs = width_most m hs 256

pub not_held : (m : EntityMap) (hs : List Handle) (n k : ℕ) → width_below m hs n ≤ k → k < n
    → is_held m hs k ≡ false
not_held m hs zero k least below = absurd (omega arith)
not_held m hs (suc n) k least below = search (rules, cases_eq, not_held m hs n k)

any_false : (p : Handle → Bool) (hs : List Handle) → list_any p hs ≡ false → (h : Handle)
    → Contains hs h → p h ≡ false
any_false p hs none h is = grind (arith, common_steps, cases_in, false≢true)

-- no entity has a component past the width
pub value_beyond : (m : EntityMap) (hs : List Handle) → AreStored m hs → (h : Handle)
    → Contains hs h → (id : ComponentId) → width m hs ≤ id.0 → value_of m h id ≡ None
unfolding width
value_beyond m hs stored h is id least = none_from (value_of m h id)
    (λ v at. let none = any_false (λ g. is_some (value_of m g (component id.0))) hs
    (not_held m hs 256 id.0 least ((stored.each h is).numbered id v at)) h is in
    false≢true (sym none ∙ ap is_some at))

-- ---- all of them

pub never_stored : (m : EntityMap) (h : Handle) → fin_get m h ≡ None → IsStored m h → ⊥
never_stored m h none is = search rules

module _ (a b : EntityMap) (hs : List Handle) (in_a : AreStored a hs) (in_b : AreStored b hs)
    (n : ℕ)
    (beyond_a : (h : Handle) → Contains hs h → (id : ComponentId) → n ≤ id.0
    → value_of a h id ≡ None)
    (beyond_b : (h : Handle) → Contains hs h → (id : ComponentId) → n ≤ id.0
    → value_of b h id ≡ None)
    (alike : (h : Handle) → Contains hs h → IsAlike n a b h) where
  same_values_of : (h : Handle) → Contains hs h → (id : ComponentId)
      → value_of a h id ≡ value_of b h id
  same_values_of h is id = search (rules, cases_lt)

  same_at : (h : Handle) (o p : Option Entity) → fin_get a h ≡ o → fin_get b h ≡ p → o ≡ p
  same_at h None None is_a is_b = refl
  same_at h None (Some f) is_a is_b = search (rules, never_stored)
  same_at h (Some e) None is_a is_b = search (rules, never_stored)
  same_at h (Some e) (Some f) is_a is_b =
      let listed = in_a.only h (ap (λ x. is_some x) is_a) in
      let births = same_Some _ _ (rw (is_a, is_b) at (alike h listed).birth) in
      let components =
      fin_same_map component_cmp_total component_cmp-IsAntisymmetric e.components f.components
      (λ id. rw (is_a, is_b) at (same_values_of h listed id)) in
      λ i. Some (record { birth = births i; components = components i })

  pub same_all : a ≡ b
  same_all =
      fin_same_map handle_cmp_total handle_cmp-IsAntisymmetric a b (λ h. same_at h _ _ refl refl)
