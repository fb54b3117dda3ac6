-- Texts in rooms of fixed size, and births that differ in the last digit.
use Rattle.spawnrun_lib.proofs.Common.{◌≡◌, ℕ, ◌+◌, ◌-◌, ◌<◌, ◌≤◌, ◌/◌, ◌%◌, ◌^◌, List, [], ◌∷◌}
use Rattle.spawnrun_lib.proofs.Common.{◌++◌, ◌∙◌, zero, suc, inl, inr, ap, append_assoc, arith, Birth}
use Rattle.spawnrun_lib.proofs.Common.{cases_lt, decimal, get_or, length, length-append, codes}
use Rattle.spawnrun_lib.proofs.Common.{rules, set, subst, sym, take, take_more}
use Rattle.std.proofs.lemmas.Fmt.{decimal_digit, decimal_step}
use Rattle.std.proofs.lemmas.List.{get_or-replicate, get_or-set_other, get_or-set_same}
use Rattle.std.proofs.lemmas.List.{length-replicate, length-set, same_from_push}
use Rattle.std.proofs.Common.{replicate, ℤ, pos, negsuc, ◌≤ℤ◌, unsigned_abs}
use Rattle.std.specs.Fmt.{signed_decimal}
use Rattle.std.proofs.lemmas.Bool.{cases_eq}
use Rattle.spawnrun_lib.specs.Heads.{AreAlike}
use Rattle.spawnrun_lib.specs.Pieces.{AreLabels, IsLabel}
use Rattle.spawnrun_lib.specs.declared.piece.Piece.{Piece}
use Rattle.spawnrun_lib.specs.WorldText.{birth_text, component_name}

one_less : (n : ℕ) → 0 < n → n - 1 + 1 ≡ n
one_less n some = omega arith

-- what stands in front of the last byte
cut : (xs ys : List ℕ) (x n : ℕ) → 0 < n → n ≤ length xs → take n xs ≡ ys ++ x ∷ []
    → take (n - 1) xs ≡ ys
cut xs ys x n some within e =
    let same = same_from_push (take (n - 1) xs) ys (get_or xs (n - 1) x) x
    (sym (take_more xs (n - 1) x (omega arith)) ∙ ap (λ k. take k xs) (one_less n some) ∙ e) in
    same.0

last_of_one : (n : ℕ) → n < 10 → decimal n ≡ (48 + n % 10) ∷ []
last_of_one n small = search (rules, decimal_digit)

-- a number in place of one with the same digits but the last
last : (pre bytes : List ℕ) (len m n : ℕ) → 0 < len → len ≤ length bytes
    → take len bytes ≡ pre ++ decimal m → m / 10 ≡ n / 10 → m < 2 ^ 64 → n < 2 ^ 64
    → take (len - 1) bytes ++ (48 + n % 10) ∷ [] ≡ pre ++ decimal n
last pre bytes len m n some within e same m_fits n_fits = elim (cases_lt m 10) [
  | inl small ↦
      let before = cut bytes pre (48 + m) len some within
      (e ∙ ap (λ d. pre ++ d) (decimal_digit m small)) in
      ap (λ l. l ++ (48 + n % 10) ∷ []) before
      ∙ ap (λ d. pre ++ d) (sym (last_of_one n (omega arith)))
  | inr large ↦
      let before = cut bytes (pre ++ decimal (m / 10)) (48 + m % 10) len some within
      (e ∙ ap (λ d. pre ++ d) (decimal_step m large m_fits)
      ∙ sym (append_assoc pre (decimal (m / 10)) ((48 + m % 10) ∷ []))) in
      ap (λ l. l ++ (48 + n % 10) ∷ []) before
      ∙ append_assoc pre (decimal (m / 10)) ((48 + n % 10) ∷ [])
      ∙ ap (λ d. pre ++ d) (ap (λ k. decimal k ++ (48 + n % 10) ∷ []) same
      ∙ sym (decimal_step n (omega arith) n_fits))
]

-- what a line of that system begins with
abbrev front : Birth → List ℕ
front b = decimal b.frame ++ (codes "." ++ decimal b.system ++ codes ".")

front-birth : (b : Birth) → birth_text b ≡ front b ++ decimal b.ordinal
front-birth b = sym (append_assoc (decimal b.frame) (codes "." ++ decimal b.system ++ codes ".")
    (decimal b.ordinal))

pub turned : (bytes : List ℕ) (len : ℕ) (old new : Birth) → 0 < len → len ≤ length bytes
    → take len bytes ≡ birth_text old → AreAlike old new → old.ordinal < 2 ^ 64
    → new.ordinal < 2 ^ 64
    → take (len - 1) bytes ++ (48 + new.ordinal % 10) ∷ [] ≡ birth_text new
turned bytes len old new some within e alike old_fits new_fits =
    last (front old) bytes len old.ordinal new.ordinal some within (e ∙ front-birth old) alike.tens
    old_fits new_fits
    ∙ ap (λ f. decimal f ++ (codes "." ++ decimal old.system ++ codes ".") ++ decimal new.ordinal)
    alike.frame
    ∙ ap (λ s. decimal new.frame ++ (codes "." ++ decimal s ++ codes ".") ++ decimal new.ordinal)
    alike.system
    ∙ sym (front-birth new)

-- a birth's text isn't empty
pub some_birth : (bytes : List ℕ) (len : ℕ) (b : Birth) → take len bytes ≡ birth_text b → 0 < len
some_birth bytes zero b e = omega (arith, simp length-append at (ap length e))
some_birth bytes (suc k) b e = omega arith

-- ---- a value of one digit

pub one_digit : (v : ℤ) → pos 0 ≤ℤ v → unsigned_abs v < 10
    → signed_decimal v ≡ (48 + unsigned_abs v) ∷ []
one_digit (pos m) positive small = decimal_digit m small
one_digit (negsuc m) positive small = absurd (omega (positive, arith))

-- ---- labels

no_label : (name : List ℕ) (piece : Piece) → piece.len ≡ 0 → IsLabel name piece
no_label name piece none = record {
  within = omega arith;
  text = λ some. absurd (some none);
}

pub no_labels : (names : List (List ℕ)) (piece : Piece) (n : ℕ) → piece.len ≡ 0
    → AreLabels names (replicate n piece)
no_labels names piece n none = record {
  at = λ id d lt. subst (IsLabel (component_name names id))
      (sym (get_or-replicate n id.0 piece d (rw (length-replicate n piece) at lt)))
      (no_label (component_name names id) piece none);
}

-- one label more
pub more_labels : (names : List (List ℕ)) (pieces : List Piece) (place : ℕ) (piece : Piece)
    → place < length pieces
    → AreLabels names pieces → IsLabel (component_name names (record { 0 = place })) piece
    → AreLabels names (set pieces place piece)
more_labels names pieces place piece within labels one = record {
  at = λ id d lt. elim (cases_eq id.0 place) [
    | inl same ↦ search (rules, one, get_or-set_same)
    | inr other ↦ search (rules, labels.at, get_or-set_other, length-set)
  ];
}
