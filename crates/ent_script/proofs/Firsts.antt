-- The first of a list that passes a test, and keys as they lie in memory.
use Rattle.ent_script.proofs.Common.{String, Global, string_bytes, rules, arith, ◌≡◌, sym, ◌∙◌, ℕ}
use Rattle.ent_script.proofs.Common.{Bool, true, false, cond, List, ◌∷◌, map, Some, Option, ℤ}
use Rattle.ent_script.proofs.Common.{is_some, is_none, true≢false, ◌+◌, ◌<◌, drop, take, length}
use Rattle.ent_script.proofs.Common.{get_or, whole, twice, unwhole_in, bad_name}
use Rattle.ent_script.proofs.Common.{is_text, key_but, common_steps, list_any, view}
use Rattle.ent_script.proofs.Common.{Value, drop_more, take_more, map-append, as_name}
use Rattle.ent_script.proofs.Common.{[], refl}
use Rattle.ent_script.proofs.Values.{pair_view}

-- a test of what each element is mapped to
pub any_of_map : {X Y : Type 0} (test : Y → Bool) (of : X → Y) (xs : List X)
    → list_any (λ x. test (of x)) xs ≡ list_any test (map of xs)
any_of_map test of [] = refl
any_of_map test of (x ∷ xs) = search (rules, any_of_map test of xs)

-- what is not there, and what is
none_if : (o : Option ℤ) → is_some o ≡ false → is_none o ≡ true
none_if it fails = search (rules, true≢false)

abbrev pub Entry : Type 0
Entry = String Global × Value

-- the next key of an object, where it is known if one of these passes a test
pub next_key : {X Y : Type 0} (is : List ℕ → Y → Bool) (of : X → Y) (known : List X)
    (es : List Entry) (e : Entry) (rest : List Entry) (key : List ℕ) (test : Bool) → es ≡ e ∷ rest
    → key ≡ string_bytes e.0 → list_any (λ x. is key (of x)) known ≡ test
    → key_but (λ key. list_any (is key) (map of known)) (map pair_view es)
    ≡ cond test (key_but (λ key. list_any (is key) (map of known)) (map pair_view rest))
    (Some (string_bytes e.0))
next_key is of known es e rest key test same own passes =
    let at = sym (any_of_map (is key) of known) ∙ passes in search rules

-- and its next value
pub next_whole : (es : List Entry) (e : Entry) (rest : List Entry) (test : Bool) → es ≡ e ∷ rest
    → is_some (whole (view e.1)) ≡ test → unwhole_in (map pair_view es)
    ≡ cond test (unwhole_in (map pair_view rest)) (Some (pair_view e))
next_whole es e rest test is known = search (rules, none_if, true≢false)

-- a name that an earlier value is, or a new one
pub next_name : (list : List Value) (n : ℕ) (v : Value) (text : List ℕ) (test : Bool)
    → n < length list → v ≡ get_or list n v → as_name (view v) ≡ Some text
    → list_any (λ v. is_text text (view v)) (take n list) ≡ test
    → bad_name (map view (take n list)) (map view (drop n list))
    ≡ cond test (twice text)
    (bad_name (map view (take (n + 1) list)) (map view (drop (n + 1) list)))
next_name list n v text test inside is named listed =
    grind (
      arith,
      common_steps,
      drop_more,
      take_more,
      map-append,
      any_of_map (is_text text) view (take n list),
    )
