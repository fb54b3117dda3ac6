-- The texts of births, cut at their dots.
use Rattle.ent_script.proofs.Common.{rules, ◌≡◌, ◌≢◌, ℕ, Bool, true, false, eqb, List, [], ◌∷◌}
use Rattle.ent_script.proofs.Common.{◌++◌, Err, All, refl, arith, common_steps, slice_split}
use Rattle.ent_script.proofs.Common.{cases_Bool, ne_eqb, cond-false, get_or_default}
use Rattle.ent_script.proofs.Common.{slice_split_none, slice_split_at, join_with_byte-slice_split}
use Rattle.ent_script.proofs.Common.{is_decimal, plain_from_decimal, birth_number, birth_of_parts}
use Rattle.ent_script.proofs.Common.{birth_of}
use Rattle.ent_script.specs.declared.cause.Cause.TheVariants as cause

abbrev is_dot : ℕ → Bool
is_dot b = eqb b 46

-- the dot is not among the bytes
abbrev pub IsWithoutDot : List ℕ → Type 0
IsWithoutDot bytes = All (λ b. b ≢ 46) bytes

fails : (bytes : List ℕ) → IsWithoutDot bytes → All (λ b. is_dot b ≡ false) bytes
fails bytes h k d lt = ne_eqb _ 46 (h k d lt)

decimal_without_dot : (ds : List ℕ) → is_decimal ds ≡ true → IsWithoutDot ds
decimal_without_dot ds is k d lt e =
    grind (arith, common_steps, plain_from_decimal ds is, get_or_default ds k 0 d lt)

-- what is no decimal has no number
number_refused : (ds : List ℕ) → is_decimal ds ≡ false → birth_number ds ≡ Err cause.Birth
number_refused ds lacks = search (rules, cond-false)

pub ordinal_refused : (before : ℕ) (frame system ordinal : List ℕ)
    → birth_number ordinal ≡ Err cause.Birth
    → birth_of_parts before (frame ∷ system ∷ ordinal ∷ []) ≡ Err cause.Birth
ordinal_refused before frame system ordinal lacks = grind (arith, common_steps)

-- no dot: no birth
pub birth_of_whole : (before : ℕ) (text : List ℕ) → IsWithoutDot text
    → birth_of before text ≡ Err cause.Birth
unfolding birth_of
birth_of_whole before text h = search (rules, slice_split_none, ne_eqb)

-- one dot: no birth
pub birth_of_halves : (before : ℕ) (text frame others : List ℕ) → text ≡ frame ++ 46 ∷ others
    → IsWithoutDot frame → IsWithoutDot others → birth_of before text ≡ Err cause.Birth
unfolding birth_of
birth_of_halves before text frame others e f h =
    search (rules, slice_split_none, slice_split_at, fails)

one_part : (before : ℕ) (frame system ordinal : List ℕ) (parts : List (List ℕ))
    → slice_split is_dot ordinal ≡ parts → is_decimal ordinal ≡ false
    → birth_of_parts before (frame ∷ system ∷ parts) ≡ Err cause.Birth
one_part before frame system ordinal [] e lacks = refl
one_part before frame system ordinal parts e lacks =
    search (rules, cond-false, join_with_byte-slice_split 46 ordinal)

-- the parts round the first two dots are the numbers, or there is no birth
pub birth_of_split : (before : ℕ) (text frame others system ordinal : List ℕ)
    → text ≡ frame ++ 46 ∷ others → others ≡ system ++ 46 ∷ ordinal → IsWithoutDot frame
    → IsWithoutDot system → birth_of before text
    ≡ birth_of_parts before (frame ∷ system ∷ ordinal ∷ [])
unfolding birth_of
birth_of_split before text frame others system ordinal e e' f s =
    rw (
      e,
      slice_split_at is_dot frame 46 others (fails frame f) refl,
      e',
      slice_split_at is_dot system 46 ordinal (fails system s) refl,
    ) (search (
      rules,
      cases_Bool (is_decimal ordinal),
      slice_split_none,
      fails,
      decimal_without_dot,
      one_part,
      ordinal_refused,
      number_refused,
    ))
