-- A decimal is what std's `decimal` writes of its value, and reading gives the value of nothing
-- else.
use Rattle.std.proofs.lemmas.Grind.{common_steps}
use Rattle.std.proofs.Common.{◌≡◌, ℕ, ◌+◌, ◌*◌, ◌^◌, ◌<◌, ◌≤◌, ◌↔◌, true, false, List, [], ◌∷◌}
use Rattle.std.proofs.Common.{length, take, get_or, Option, Result, Ok, Err, IsSome, IfSome, IfOk}
use Rattle.std.proofs.Common.{IsErrOf, refl, ap, ◌∙◌, arith, rules}
use Rattle.std.specs.Char.{is_ascii_digit}
use Rattle.std.specs.Fmt.{decimal}
use Rattle.std.specs.List.{list_all}
use Rattle.std.specs.Option.{ok_or}
use Rattle.std.specs.Str.Parse.{digits_value}
use Rattle.std.proofs.lemmas.Int.Digits.{digits_value_more}
use Rattle.std.proofs.lemmas.Str.{digit_value_digit}
use Rattle.std.proofs.lemmas.Bool.{false≢true, cases_Bool, cases_eq, cases_lt, cond-true}
use Rattle.std.proofs.lemmas.Bool.{cond-false, eqb-true, eq-eqb, ne_eqb, lt-ltb, le-ltb}
use Rattle.std.proofs.lemmas.List.{nil_from_length}
use Rattle.std.proofs.lemmas.Str.Parse.{IsNumeralModel, numerals_by_value, digit_at}
use Rattle.std.proofs.lemmas.Str.Parse.{digits_value-take-le}
use Rattle.std.proofs.lemmas.Fmt.{decimal_is_IsNumeral, decimal-digits_value, digits_decimal}
use Rattle.std.proofs.lemmas.Fmt.{decimal_digit, decimal_nonempty, first_decimal}
use Rattle.ent_handle.specs.declared.text.TextFault.{TextFault}
use Rattle.ent_handle.specs.declared.text.TextFault.TheVariants.{Shape, Range}
use Rattle.ent_handle.specs.Text.{is_decimal, IsDecimal, number_of}

-- digits, in the words of this crate
pub digit_texts : IsNumeralModel (λ ds. list_all is_ascii_digit ds ≡ true) (digits_value 10)
digit_texts = numerals_by_value _ (search rules)

pub record IsPlain (ds : List ℕ) : Type 0 where
  pub digits : list_all is_ascii_digit ds ≡ true
  pub nonempty : 0 < length ds
  pub no_leading_zero : get_or ds 0 0 ≡ 48 → length ds ≡ 1

zero_is_plain : (c : ℕ) (cs : List ℕ) → c ≡ 48 → cs ≡ [] → IsPlain (c ∷ cs)
zero_is_plain c cs e n = search rules

pub plain_from_decimal : (ds : List ℕ) → IsDecimal ds → IsPlain ds
plain_from_decimal cs h =
    search (rules, cases_Bool, zero_is_plain, eqb-true, nil_from_length, cond-true)

pub decimal_from_plain : (ds : List ℕ) → IsPlain ds → IsDecimal ds
decimal_from_plain cs h = search (rules, cases_Bool, cond-true, eq-eqb, eqb-true, cond-false)

-- a decimal is the text of its value
pub decimal-value : (ds : List ℕ) → IsDecimal ds → digits_value 10 ds < 2 ^ 64
    → decimal (digits_value 10 ds) ≡ ds
decimal-value ds h small =
    let p = plain_from_decimal ds h in
    decimal-digits_value digit_texts ds p.digits p.nonempty p.no_leading_zero small

one_digit : (n : ℕ) → n ≡ 0 → IsPlain (decimal n)
one_digit n e = search (rules, decimal_digit)

-- the text of a number is a decimal
pub decimal_is_decimal : (n : ℕ) → n < 2 ^ 64 → IsDecimal (decimal n)
decimal_is_decimal n small =
    search (
      rules,
      decimal_from_plain,
      cases_eq,
      one_digit,
      digits_decimal,
      digit_texts,
      decimal_nonempty,
      first_decimal,
    )

pub value-decimal : (n : ℕ) → n < 2 ^ 64 → digits_value 10 (decimal n) ≡ n
value-decimal n small = (decimal_is_IsNumeral n small).1

-- ---- reading

pub is_decimal_unless_zero : (ds : List ℕ) → 0 < length ds → (get_or ds 0 0 ≡ 48 → ⊥)
    → is_decimal ds ≡ list_all is_ascii_digit ds
is_decimal_unless_zero cs long other = search (rules, cond-false, ne_eqb)

pub number_in_range : (ds : List ℕ) → IsDecimal ds → digits_value 10 ds < 2 ^ 32
    → number_of ds ≡ Ok (digits_value 10 ds)
number_in_range ds h small = rw (h, lt-ltb _ _ small) refl

pub number_too_large : (ds : List ℕ) → IsDecimal ds → 2 ^ 32 ≤ digits_value 10 ds
    → number_of ds ≡ Err Range
number_too_large ds h large = rw (h, le-ltb _ _ large) refl

pub number_of_none : (ds : List ℕ) → is_decimal ds ≡ false → number_of ds ≡ Err Shape
number_of_none ds h = rw h refl

pub number_of-decimal : (n : ℕ) → n < 2 ^ 32 → number_of (decimal n) ≡ Ok n
number_of-decimal n small = search (rules, value-decimal, number_in_range, decimal_is_decimal)

-- ---- what reading gives, in plain facts

pub number_found : (ds : List ℕ) (r : Result ℕ TextFault) → r ≡ number_of ds
    → IfOk r (λ n. ds ≡ decimal n)
number_found ds r e = search
    (rules, cases_Bool, number_of_none, cases_lt, number_in_range, decimal-value, number_too_large)

pub number_only : (ds : List ℕ) (r : Result ℕ TextFault) → r ≡ number_of ds → (n : ℕ) → n < 2 ^ 32
    → ds ≡ decimal n → r ≡ Ok n
number_only ds r e n small is = e ∙ ap number_of is ∙ number_of-decimal n small

pub number_shape : (ds : List ℕ) (r : Result ℕ TextFault) → r ≡ number_of ds
    → IsErrOf r Shape ↔ (¬ IsDecimal ds)
number_shape ds r e = search (rules, cases_lt (digits_value 10 ds) (2 ^ 32))

pub number_range : (ds : List ℕ) (r : Result ℕ TextFault) → r ≡ number_of ds
    → IsErrOf r Range ↔ (IsDecimal ds × (2 ^ 32 ≤ digits_value 10 ds))
number_range ds r e =
    search (rules, cases_Bool, number_of_none, cases_lt, number_in_range, number_too_large)

-- what one digit more adds
pub value_more : (ds : List ℕ) (i : ℕ) → IsDecimal ds → i < length ds
    → digits_value 10 (take (i + 1) ds) + 48 ≡ digits_value 10 (take i ds) * 10 + get_or ds i 0
value_more ds i is within = grind
    (arith, common_steps, digits_value_more, plain_from_decimal, digit_value_digit, digit_at)

-- no part of the digits before it writes more
pub value_least : (ds : List ℕ) (i : ℕ) → digits_value 10 (take i ds) ≤ digits_value 10 ds
value_least ds i = digits_value-take-le 10 ds i (omega arith)

-- what a decimal is read as
pub record IsValue (ds : List ℕ) (o : Option ℕ) : Type 0 where
  pub value : IfSome o (λ n. n ≡ digits_value 10 ds)
  pub in_range : IsSome o ↔ (digits_value 10 ds < 2 ^ 32)

pub number_from_value : (ds : List ℕ) (o : Option ℕ) → IsDecimal ds → IsValue ds o
    → ok_or o Range ≡ number_of ds
number_from_value ds it is v =
    search (rules, number_in_range, cases_lt, false≢true, number_too_large)
