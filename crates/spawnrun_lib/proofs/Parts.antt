-- Texts following one another.
use Rattle.spawnrun_lib.proofs.Common.{◌≡◌, ℕ, ◌+◌, ◌<◌, ◌≤◌, List, ◌∷◌, ◌++◌, length, get_or, drop}
use Rattle.spawnrun_lib.proofs.Common.{ap, append_assoc, arith, common_steps, flat_map}
use Rattle.spawnrun_lib.proofs.Common.{length-append, append-nil, rules, Option, None, Some, []}
use Rattle.spawnrun_lib.proofs.Common.{take, take_more}
use Rattle.std.proofs.lemmas.List.Concat.{flat_map-append}
use Rattle.std.specs.Io.KnownBytes.{Appends}

-- what is written and the next part are no longer than all
pub part_fits : {X : Type 0} (g : X → List ℕ) (old now : List ℕ) (xs : List X) (i : ℕ) (x : X)
    → i < length xs → x ≡ get_or xs i x → now ++ flat_map g (drop i xs) ≡ old ++ flat_map g xs
    → length now + length (g x) ≤ length old + length (flat_map g xs)
part_fits g old now xs i x lt is e = grind (arith, common_steps, ap length e)

-- the same if the next part is the first of those that are left
pub first_fits : {X : Type 0} (g : X → List ℕ) (old now : List ℕ) (all left rest : List X) (x : X)
    → left ≡ x ∷ rest → now ++ flat_map g left ≡ old ++ flat_map g all
    → length now + length (g x) ≤ length old + length (flat_map g all)
first_fits g old now all left rest x front e =
    omega (arith, simp length-append at (ap length (rw front at e)))

-- four parts, each written behind the one before
pub four_parts : (old one two three new a b c d : List ℕ) → one ≡ old ++ a → two ≡ one ++ b
    → three ≡ two ++ c → new ≡ three ++ d → new ≡ old ++ (a ++ b ++ c ++ d)
four_parts old one two three new a b c d p q r s = rw (s, r, q, p) (simp append_assoc)

-- nothing was appended
pub appends_none : (known : Option (List ℕ)) → Appends known known []
appends_none None = tt
appends_none (Some xs) = search (rules, append-nil)

appends_both : (a b c : Option (List ℕ)) (x y : List ℕ) → Appends a b x → Appends b c y
    → Appends a c (x ++ y)
appends_both None b c x y p q = tt
appends_both (Some xs) None c x y p q = absurd p
appends_both (Some xs) (Some ys) None x y p q = absurd q
appends_both (Some xs) (Some ys) (Some zs) x y p q = search (rules, append_assoc)

-- one part more
pub appends_on : {X : Type 0} (g : X → List ℕ) (a b c : Option (List ℕ)) (xs : List X) (i : ℕ)
    (x : X) → i < length xs → x ≡ get_or xs i x → Appends a b (flat_map g (take i xs))
    → Appends b c (g x) → Appends a c (flat_map g (take (i + 1) xs))
appends_on g a b c xs i x less is p q = search (
  rules,
  take_more xs i x less,
  flat_map-append g (take i xs),
  append-nil,
  is,
  appends_both a b c _ _ p q,
)
