-- Two lists that rise and have the same members are the same: so are the handles of what passes a
-- test, in the order of births.
use Rattle.ent_storage.proofs.Common.{rules, ◌≡◌, zero, suc, Bool, true, List, [], ◌∷◌, Contains}
use Rattle.ent_storage.proofs.Common.{refl, sym, arith, Less, IsTotalOrder, then_total, on_total}
use Rattle.ent_storage.proofs.Common.{options_total, AllPairs, ComponentId, birth_cmp_total, Handle}
use Rattle.ent_storage.proofs.Common.{handle_cmp_total, Entity, EntityMap, birth_of, birth_order}
use Rattle.ent_storage.proofs.Common.{ListsByBirth, ListsAll, ListsWith, Ordering}

module _ {X : Type 0} (R : X → X → Type 0) (asym : (a b : X) → R a b → ¬ (R b a)) where
  -- two lists that rise and have one another's first member begin alike
  front : (x y : X) (xs ys : List X) → AllPairs R (x ∷ xs) → AllPairs R (y ∷ ys)
      → Contains (y ∷ ys) x → Contains (x ∷ xs) y → x ≡ y
  front x y xs ys p q (zero, l, e) at = sym e
  front x y xs ys p q (suc k, l, e) (zero, m, f) = f
  front x y xs ys p q (suc k, l, e) (suc j, m, f) =
      search (rules, asym x y, p 0 (suc j) y, q 0 (suc k) x)

  -- behind two heads that are the same, what is in one list is in the other
  within : (x y : X) (xs ys : List X) → x ≡ y → AllPairs R (x ∷ xs)
      → ((z : X) → Contains (x ∷ xs) z → Contains (y ∷ ys) z) → (z : X) → Contains xs z
      → Contains ys z
  within x y xs ys same p f z (k, l, e) = by (f z (suc k, omega (arith, l), e))
    where
      by : Contains (y ∷ ys) z → Contains ys z
      by (zero, m, g) = search (rules, asym x z, p 0 (suc k) z)
      by (suc j, m, g) = (j, omega (arith, m), g)

  others : (x : X) (xs : List X) → AllPairs R (x ∷ xs) → AllPairs R xs
  others x xs p i j d lt l = p (suc i) (suc j) d (omega (arith, lt)) (omega (arith, l))

  -- two lists that rise and have the same members are the same
  pub same_list : (xs ys : List X) → AllPairs R xs → AllPairs R ys
      → ((z : X) → Contains xs z → Contains ys z) → ((z : X) → Contains ys z → Contains xs z)
      → xs ≡ ys
  same_list [] [] p q f g = refl
  same_list [] (y ∷ ys) p q f g = absurd (omega (arith, (g y (0, omega arith, refl)).1))
  same_list (x ∷ xs) [] p q f g = absurd (omega (arith, (f x (0, omega arith, refl)).1))
  same_list (x ∷ xs) (y ∷ ys) p q f g =
      let same : x ≡ y =
      front x y xs ys p q (f x (0, omega arith, refl)) (g y (0, omega arith, refl)) in
      search (
        rules,
        same_list xs ys (others x xs p) (others y ys q) (within x y xs ys same p f)
            (within y x ys xs (sym same) q g),
      )

not_both : {K : Type 0} {C : K → K → Ordering} → IsTotalOrder C → (a b : K) → C a b ≡ Less
    → ¬ (C b a ≡ Less)
not_both o a b r s = search (rules)

-- the entities that pass a test have one list
pub one_list : (passes : Entity → Bool) (m : EntityMap) (hs ks : List Handle)
    → ListsByBirth passes m hs → ListsByBirth passes m ks → hs ≡ ks
one_list passes m hs ks a b =
    same_list (λ x y. birth_order m x y ≡ Less)
    (not_both (then_total (on_total (birth_of m) (options_total birth_cmp_total)) handle_cmp_total))
    hs ks a.rising b.rising (λ h c. (b.holds h).1 ((a.holds h).0 c))
    (λ h c. (a.holds h).1 ((b.holds h).0 c))

-- so have all entities
pub one_list_of_all : (m : EntityMap) (hs ks : List Handle) → ListsAll m hs → ListsAll m ks
    → hs ≡ ks
one_list_of_all m hs ks a b = one_list (λ _. true) m hs ks a b

-- and those that have a component
pub one_list_with : (id : ComponentId) (m : EntityMap) (hs ks : List Handle) → ListsWith id m hs
    → ListsWith id m ks → hs ≡ ks
one_list_with id m hs ks a b = search (rules, one_list)
