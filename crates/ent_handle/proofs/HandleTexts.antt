-- The text of each handle is read as that handle, and no other text is read as it.
use Rattle.std.proofs.Common.{rules, ◌≡◌, ◌≢◌, ℕ, ◌<◌, ◌↔◌, ◌⊎◌, Bool, true, false, ◌&&◌, cond, eqb}
use Rattle.std.proofs.Common.{List, [], ◌∷◌, ◌++◌, length, Option, Some, None, Result, Ok, Err, All}
use Rattle.std.proofs.Common.{IsSome, IfSome, IfOk, IsErrOf, refl, sym, ap, subst, ◌∙◌, inl, inr}
use Rattle.std.proofs.Common.{arith}
use Rattle.std.proofs.lemmas.Grind.{common_steps}
use Rattle.std.specs.Fmt.{decimal}
use Rattle.std.specs.List.{join_with_byte, slice_split, before_first, after_first, position_or_len}
use Rattle.std.specs.Option.{ok_or}
use Rattle.std.proofs.lemmas.Bool.{cases_Bool, cases_lt, false_from_ne_true, false≢true, cond-true}
use Rattle.std.proofs.lemmas.Bool.{cond-false, eqb-true, eqb-false, ne_eqb, and_parts, and_from}
use Rattle.std.proofs.lemmas.Bool.{and_left, and_right, lt-ltb, le-leb, ltb-true, leb-true}
use Rattle.std.proofs.lemmas.List.{get_or_default, get_or-take, length-take}
use Rattle.std.proofs.lemmas.List.Sums.{split_at_first, fails_before_first, passes_at_first}
use Rattle.std.proofs.lemmas.List.Splits.{slice_split_none, slice_split_at, length-slice_split}
use Rattle.std.proofs.lemmas.List.Splits.{join_with_byte-slice_split}
use Rattle.std.proofs.lemmas.Str.Parse.{not_in_digits}
use Rattle.ent_handle.specs.Handle.{Handle, IsHandle}
use Rattle.ent_handle.specs.declared.text.TextFault.{TextFault}
use Rattle.ent_handle.specs.declared.text.TextFault.TheVariants.{Shape, Range}
use Rattle.ent_handle.specs.Text.{is_decimal, IsDecimal, handle_text, HasHandleForm, is_handle}
use Rattle.ent_handle.specs.Text.{written, handle_of_parts, handle_of}
use Rattle.ent_handle.proofs.Decimals.{digit_texts, plain_from_decimal, decimal-value}
use Rattle.ent_handle.proofs.Decimals.{decimal_is_decimal, value-decimal}

abbrev handle_of_numbers : List ℕ → List ℕ → Result Handle TextFault
handle_of_numbers index generation = handle_of_parts (index ∷ generation ∷ [])

abbrev is_letter : ℕ → Bool
is_letter b = eqb b 118

-- the letter `v` is not among the bytes
abbrev pub IsWithoutLetter : List ℕ → Type 0
IsWithoutLetter bytes = All (λ b. b ≢ 118) bytes

fails : (bytes : List ℕ) → IsWithoutLetter bytes → All (λ b. is_letter b ≡ false) bytes
fails bytes h k d lt = ne_eqb _ 118 (h k d lt)

decimal_without_letter : (ds : List ℕ) → IsDecimal ds → IsWithoutLetter ds
decimal_without_letter ds is k d lt e =
    grind (arith, common_steps, not_in_digits, digit_texts, plain_from_decimal)

-- no letter: no handle
pub handle_of_whole : (bytes : List ℕ) → IsWithoutLetter bytes → handle_of bytes ≡ Err Shape
handle_of_whole bytes h = rw (slice_split_none is_letter bytes (fails bytes h)) refl

one_part : (index generation : List ℕ) (parts : List (List ℕ))
    → slice_split is_letter generation ≡ parts → is_decimal generation ≡ false
    → handle_of_parts (index ∷ parts) ≡ handle_of_numbers index generation
one_part index generation [] e lacks = search (rules, length-slice_split)
one_part index generation (part ∷ []) e lacks = ap (handle_of_numbers index)
    (sym (ap (join_with_byte 118) e) ∙ join_with_byte-slice_split 118 generation)
one_part index generation (part ∷ more ∷ others) e lacks = search (rules, cond-false, and_right)

-- the parts round the first letter are the handle's numbers, or there is no handle
handle_of-split : (bytes index generation : List ℕ) → bytes ≡ index ++ 118 ∷ generation
    → IsWithoutLetter index → handle_of bytes ≡ handle_of_numbers index generation
handle_of-split bytes index generation e h =
    let parts = slice_split_at is_letter index 118 generation (fails index h) refl in
    elim (cases_Bool (is_decimal generation)) [
      | inl is ↦ rw (
        e,
        parts,
        slice_split_none is_letter generation
            (fails generation (decimal_without_letter generation is)),
      )
      | inr lacks ↦ rw (e, parts) (one_part index generation _ refl lacks)
    ]

same_handle : (h k : Handle) → h.index ≡ k.index → h.generation ≡ k.generation → h ≡ k
same_handle h k i g = λ t. record { index = i t; generation = g t }

pub is_handle_from : (h : Handle) → IsHandle h → is_handle h ≡ true
is_handle_from h is = search (rules, and_from, lt-ltb, le-leb)

pub handle_from : (h : Handle) → is_handle h ≡ true → IsHandle h
handle_from h e = search (rules, and_parts, ltb-true, leb-true)

handle_of_decimals : (index generation : List ℕ) → IsDecimal index → IsDecimal generation
    → handle_of_numbers index generation
    ≡ cond (is_handle (written index generation)) (Ok (written index generation)) (Err Range)
handle_of_decimals index generation i g = cond-true _ _ _ (and_from _ _ i g)

-- a text of the form gives its handle, or is out of range
pub handle_of_form : (bytes index generation : List ℕ) → IsDecimal index → IsDecimal generation
    → bytes ≡ index ++ 118 ∷ generation
    → handle_of bytes ≡ cond (is_handle (written index generation)) (Ok (written index generation))
    (Err Range)
handle_of_form bytes index generation i g e =
    handle_of-split bytes index generation e (decimal_without_letter index i)
    ∙ handle_of_decimals index generation i g

pub shape_of_none : (bytes : List ℕ) → handle_of bytes ≡ Err Shape → ¬ HasHandleForm bytes
shape_of_none bytes e form =
    let f = sym (handle_of_form bytes form.0 form.1 form.2 form.3 form.4) ∙ e in
    search (rules, cases_Bool, cond-true, cond-false)

parts_of : (bytes : List ℕ) → position_or_len is_letter bytes < length bytes
    → bytes ≡ before_first is_letter bytes ++ 118 ∷ after_first is_letter bytes
parts_of bytes lt =
    rw (eqb-true _ 118 (passes_at_first is_letter bytes 0 lt)) at
    (split_at_first is_letter bytes 0 lt)

-- a text is of the form, with its two decimals, or it is not, and then no handle is read
abbrev pub Reading : List ℕ → Type 0
Reading bytes = HasHandleForm bytes ⊎ ((¬ HasHandleForm bytes) × (handle_of bytes ≡ Err Shape))

pub reading : (bytes : List ℕ) → Reading bytes
reading bytes =
    elim (cases_lt (position_or_len is_letter bytes) (length bytes)) [
      | inl lt ↦ reading_parts bytes (before_first is_letter bytes) (after_first is_letter bytes)
          (parts_of bytes lt) (λ k d below e. eqb-false _ 118 (fails_before_first is_letter bytes k
          d (omega (arith, length-take (position_or_len is_letter bytes) bytes, below)))
          (sym (get_or-take (position_or_len is_letter bytes) bytes k d
          (omega (arith, length-take (position_or_len is_letter bytes) bytes, below))) ∙ e))
      | inr le ↦ let e = handle_of_whole bytes
          (λ k d lt f. eqb-false _ 118 (fails_before_first is_letter bytes k d (omega arith)) f) in
          inr (shape_of_none bytes e, e)
    ]
  where
    reading_parts : (bytes index generation : List ℕ) → bytes ≡ index ++ 118 ∷ generation
        → IsWithoutLetter index → Reading bytes
    reading_parts bytes index generation e h =
        elim (cases_Bool (is_decimal index && is_decimal generation)) [
          | inl both ↦ let p = and_parts _ _ both in inl (index, generation, p.0, p.1, e)
          | inr lacks ↦
              let f = handle_of-split bytes index generation e h ∙ cond-false _ _ _ lacks in
              inr (shape_of_none bytes f, f)
        ]

-- what the two parts round the first letter are read as
pub read_parts : (bytes index generation : List ℕ) → bytes ≡ index ++ 118 ∷ generation
    → IsWithoutLetter index → IsDecimal index → IsDecimal generation → (o : Option Handle)
    → IfSome o (λ h. h ≡ written index generation) → IsSome o ↔ IsHandle (written index generation)
    → ok_or o Range ≡ handle_of bytes
read_parts bytes index generation e h i g it value in_range =
    let form = handle_of_form bytes index generation i g e in
    grind (arith, common_steps, form, is_handle_from, handle_from)

pub shapeless_parts : (bytes index generation : List ℕ) → bytes ≡ index ++ 118 ∷ generation
    → IsWithoutLetter index → (is_decimal index ≡ false) ⊎ (is_decimal generation ≡ false)
    → handle_of bytes ≡ Err Shape
shapeless_parts bytes index generation e h (inl i) = handle_of-split bytes index generation e h
    ∙ cond-false _ _ _ (and_left _ _ i)
shapeless_parts bytes index generation e h (inr g) = handle_of-split bytes index generation e h
    ∙ cond-false _ _ _ (and_right _ _ g)

pub handle_of_text : (h : Handle) → IsHandle h → handle_of (handle_text h) ≡ Ok h
handle_of_text h is =
    let index = decimal h.index in
    let generation = decimal h.generation in
    let i = decimal_is_decimal h.index (omega (arith, is.index)) in
    let g = decimal_is_decimal h.generation (omega (arith, is.greatest)) in
    let same : written index generation ≡ h = search (rules, same_handle, value-decimal) in
    handle_of_form (handle_text h) index generation i g refl
    ∙ ap (λ (k : Handle). cond (is_handle k) (Ok k)
    (Err Range)) same ∙ cond-true _ _ _ (is_handle_from h is)

-- a text that is read is the text of that handle
spelled : (bytes index generation : List ℕ) → IsDecimal index → IsDecimal generation
    → bytes ≡ index ++ 118 ∷ generation → IsHandle (written index generation)
    → bytes ≡ handle_text (written index generation)
spelled bytes index generation i g e is = search (rules, decimal-value)

-- ---- what reading gives, in plain facts

pub handle_found : (bytes : List ℕ) (r : Result Handle TextFault) → r ≡ handle_of bytes
    → IfOk r (λ h. IsHandle h × (bytes ≡ handle_text h))
handle_found bytes r e =
    let P : Result Handle TextFault
    → Type 0 = λ x. IfOk x (λ h. IsHandle h × (bytes ≡ handle_text h)) in
    elim (reading bytes) [
      | inr lacks ↦ subst P (sym (e ∙ lacks.1)) tt
      | inl form ↦ let w = written form.0 form.1 in
          let f = e ∙ handle_of_form bytes form.0 form.1 form.2 form.3 form.4 in
          elim (cases_Bool (is_handle w)) [
            | inl is ↦ subst P (sym (f ∙ cond-true _ (Ok w) (Err Range) is)) (
              handle_from w is,
              spelled bytes form.0 form.1 form.2 form.3 form.4 (handle_from w is),
            )
            | inr large ↦ subst P
                (sym (f ∙ cond-false _ (Ok w) (Err Range) large)) tt
          ]
    ]

pub handle_only : (bytes : List ℕ) (r : Result Handle TextFault) → r ≡ handle_of bytes
    → (h : Handle) → IsHandle h → bytes ≡ handle_text h → r ≡ Ok h
handle_only bytes r e h is spelled = search (rules, handle_of_text)

pub handle_shape : (bytes : List ℕ) (r : Result Handle TextFault) → r ≡ handle_of bytes
    → IsErrOf r Shape ↔ (¬ HasHandleForm bytes)
handle_shape bytes r e = search (rules, shape_of_none, reading)

pub handle_range : (bytes : List ℕ) (r : Result Handle TextFault) → r ≡ handle_of bytes
    → IsErrOf r Range ↔ (HasHandleForm bytes × ((h : Handle) → IsHandle h → bytes ≢ handle_text h))
handle_range bytes r e = (
  λ range. elim (reading bytes) [
    | inl form ↦ (
      form,
      λ h is text. let f = sym range ∙ handle_only bytes r e h is text in
          absurd cc,
    )
    | inr
        lacks ↦ let f = sym range ∙ e ∙ lacks.1 in absurd cc
  ],
  λ p. let w = written p.0.0 p.0.1 in
      let f = e ∙ handle_of_form bytes p.0.0 p.0.1 p.0.2 p.0.3 p.0.4 in elim
      (cases_Bool (is_handle w)) [
        | inl is ↦ absurd (p.1 w (handle_from w is)
            (spelled bytes p.0.0 p.0.1 p.0.2 p.0.3 p.0.4 (handle_from w is)))
        | inr large ↦ f
            ∙ cond-false _ (Ok w) (Err Range) large
      ],
)
