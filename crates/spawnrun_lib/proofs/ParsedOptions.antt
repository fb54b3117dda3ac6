-- One induction over clap's walk: where clap's parse of a command of options doesn't fail, each
-- option has one value, which it accepts.
use Rattle.spawnrun_lib.proofs.Common.{list_any-append, common_steps, rules, ◌≡◌, ◌⊎◌, ℕ, Bool}
use Rattle.spawnrun_lib.proofs.Common.{true, false, List, [], ◌∷◌, ◌++◌, length, zero, suc, refl}
use Rattle.spawnrun_lib.proofs.Common.{arith, append-nil, Option, Some, None, IfSome, fold, find}
use Rattle.spawnrun_lib.proofs.Common.{AllByRecursion, option_map_or, bytes_eq-Decides, Row, Rule}
use Rattle.spawnrun_lib.proofs.Common.{Shape, Text, first_of, one_of, read_as, Kinds, or_else}
use Rattle.spawnrun_lib.proofs.Common.{range_kinds, is_request, value_passes, nothing_held}
use Rattle.spawnrun_lib.proofs.Common.{long_or_other, Held, Outcome, Waiting, Walk, action_of}
use Rattle.spawnrun_lib.proofs.Common.{arg_by_id, at_row, bundle_met, has_row, long_met, option_met}
use Rattle.spawnrun_lib.proofs.Common.{reacted, reading_by, rows_after, settled, short_met, used_as}
use Rattle.spawnrun_lib.proofs.Common.{used_by_id, values_or_missing, walked, with_default}
use Rattle.spawnrun_lib.proofs.Common.{set_fault, flag_word_fault, flags_fault, level_fault}
use Rattle.spawnrun_lib.proofs.Common.{long_fault, option_fault, react_fault, settle_fault}
use Rattle.spawnrun_lib.proofs.Common.{short_fault, turn_fault, use_fault, walk_fault, Set, ◌==◌}

-- ---- kinds of errors

-- two steps in turn fail in no way where neither does
pub none_of : (first second : Kinds) → or_else first second ≡ [] → (first ≡ []) × (second ≡ [])
none_of ks second e = search rules

-- ---- rows

-- a row that isn't there is added at the end
at_row-absent : (id : Text) (change : Row → List Row) (missing rows : List Row)
    → has_row id rows ≡ false → at_row id change missing rows ≡ rows ++ missing
at_row-absent id change missing [] e = refl
at_row-absent id change missing (r ∷ rs) e =
    grind (arith, common_steps, at_row-absent id change missing rs)

-- ---- the arguments of a command

abbrev pub TakesOne : Rule → Type 0
TakesOne a =
    (action_of a ≡ Set) × (a.range ≡ Some (record { start_inclusive = 1; end_inclusive = 1 }))

-- a default, which the option accepts
abbrev pub HasDefault : Rule → Type 0
HasDefault a = (text : Text) × (a.defaults ≡ text ∷ []) × (value_passes a text ≡ true)

-- the matches have a value of the option, which it accepts
pub record HasValue (a : Rule) (rows : List Row) : Type 0 where
  pub text : Text
  pub written : first_of a.id rows ≡ Some text
  pub is : one_of a.id rows ≡ Some (read_as (reading_by a) text)
  pub passes : value_passes a text ≡ true

-- or have none
abbrev pub MayHaveValue : Rule → List Row → Type 0
MayHaveValue a rows = (one_of a.id rows ≡ None) ⊎ HasValue a rows

module _ (c : List Rule) where
  -- the command's only argument of its id: an option that takes one value, or a flag that asks for
  -- help
  pub record Fits (a : Rule) : Type 0 where
    pub own : arg_by_id c a.id ≡ Some a
    pub does : TakesOne a ⊎ (is_request (action_of a) ≡ true)
    pub default : (a.defaults ≡ []) ⊎ HasDefault a
    pub named : a.index ≡ None

  abbrev pub Among : Rule → List Rule → Type 0
  Among a [] = ⊥
  Among a (x ∷ xs) = (x ≡ a) ⊎ Among a xs

  -- the row has one value, and the argument of its id accepts it
  pub record IsGood (r : Row) : Type 0 where
    pub rule : Rule
    pub own : arg_by_id c r.id ≡ Some rule
    pub text : Text
    pub one : r.values ≡ text ∷ []
    pub read : r.reading ≡ reading_by rule
    pub passes : value_passes rule text ≡ true

  abbrev Good : List Row → Type 0
  Good = AllByRecursion IsGood

  Good-append : (xs ys : List Row) → Good xs → Good ys → Good (xs ++ ys)
  Good-append [] ys good more = more
  Good-append (x ∷ xs) ys good more = (good.0, Good-append xs ys good.1 more)

  -- a use that doesn't fail adds a good row
  set-good : (a : Rule) → arg_by_id c a.id ≡ Some a → (values : List Text) (rows : List Row)
      → Good rows
      → or_else (range_kinds 1 1 (length values))
      (set_fault false a (values_or_missing a values) rows) ≡ []
      → Good (used_as Set a.id (reading_by a) (values_or_missing a values) rows)
  set-good a own (text ∷ []) rows good e =
      search (rules, none_of, Good-append, at_row-absent, append-nil)
  set-good a own _ rows good e = search rules

  used_by_id-good : (found : Option Rule) → IfSome found Fits
      → (values : List Text) (rows : List Row) → Good rows
      → option_map_or (λ a. use_fault false a values rows) found [] ≡ []
      → Good (used_by_id found values rows)
  used_by_id-good it fit values rows good e = search (rules, set-good)

  module _ (all : AllByRecursion Fits c) where
    find-fits : (test : Rule → Bool) (xs : List Rule) → AllByRecursion Fits xs
        → IfSome (find test xs) Fits
    find-fits test [] fits = tt
    find-fits test (x ∷ xs) fits = search (rules, find-fits test xs fits.1)

    -- what is pending is used
    settle-good : (h : Held) → Good h.rows → settle_fault c false h ≡ [] → Good (settled c h).rows
    settle-good h good e = search (rules, used_by_id-good, find-fits)

    reacted-good : (a : Rule) → Fits a → (values : List Text) (h : Held) → Good h.rows
        → react_fault c false a values h ≡ [] → Good (reacted c a values h).rows
    reacted-good a fit values h good e = search (rules, none_of, settle-good, set-good)

    option-good : (a : Rule) → Fits a → (v : Option Text) (h : Held) → Good h.rows
        → option_fault c false a v h ≡ [] → Good (option_met c a v h).0.rows
    option-good a fit None h good e = settle-good h good e
    option-good a fit (Some text) h good e = reacted-good a fit (text ∷ []) h good e

    long-good : (o : Option Rule) → IfSome o Fits → (v : Option Text) (h : Held) → Good h.rows
        → long_fault c false o v h ≡ [] → Good (long_met c o v h).0.rows
    long-good it fit v h good e = search (rules, option-good, reacted-good)

    -- what stands in a bundle of flags after its first
    abbrev GoesOn : (Held → Kinds) → (Held → Held × Outcome) → Type 0
    GoesOn fault met = (h : Held) → Good h.rows → fault h ≡ [] → Good (met h).0.rows

    short-good : (o : Option Rule) → IfSome o Fits
        → (rest : Text) (h : Held) (fault : Held → Kinds) (met : Held → Held × Outcome)
        → GoesOn fault met → Good h.rows → short_fault c false o rest h fault ≡ []
        → Good (short_met c o rest h met).0.rows
    short-good it rest h fault met goes_on good e =
        grind (arith, common_steps, option-good, none_of, reacted-good, goes_on)

    bundle-good : (k : ℕ) (flags : Text) (skip : ℕ) (so_far : Outcome) (h : Held) → Good h.rows
        → flags_fault c false k flags skip h ≡ [] → Good (bundle_met c k flags skip so_far h).0.rows
    unfolding bundle_met flags_fault
    bundle-good zero flags skip so_far h good e = good
    bundle-good (suc k) flags skip so_far h good e =
        search (rules, short-good, find-fits, bundle-good k)

    flag_word-good : (waiting : Waiting) (word : Text) (long : Option (Text × Option Text))
        (h : Held) → Good h.rows → flag_word_fault c false long word h ≡ []
        → Good (long_or_other c waiting word long h).0.rows
    flag_word-good waiting word it h good e = search (rules, long-good, find-fits, bundle-good)

    no_positional : (i : ℕ) (xs : List Rule) → AllByRecursion Fits xs
        → find (λ a. option_map_or (λ k. k == i) a.index false) xs ≡ None
    no_positional i [] fits = refl
    no_positional i (x ∷ xs) fits = search (rules, no_positional i xs fits.1)

    -- ---- defaults

    default-good : (a : Rule) → Fits a → (rows : List Row) → Good rows → Good (with_default rows a)
    default-good a fits rows good =
        search (rules, at_row-absent, Good-append, fits.own, fits.default)

    defaults-good : (xs : List Rule) → AllByRecursion Fits xs → (rows : List Row) → Good rows
        → Good (fold with_default rows xs)
    defaults-good [] fits rows good = good
    defaults-good (x ∷ xs) fits rows good = search (rules, defaults-good xs, default-good)

    has_row-last : (id : Text) (r : Row) (rows : List Row) → r.id ≡ id
        → has_row id (rows ++ r ∷ []) ≡ true
    has_row-last id r rows own = grind (arith, common_steps, bytes_eq-Decides)

    defaults-keep : (xs : List Rule) → AllByRecursion Fits xs → (id : Text) (rows : List Row)
        → has_row id rows ≡ true → has_row id (fold with_default rows xs) ≡ true
    defaults-keep [] fits id rows e = e
    defaults-keep (x ∷ xs) fits id rows e =
        search (rules, defaults-keep xs, at_row-absent, list_any-append)

    defaults-add : (xs : List Rule) → AllByRecursion Fits xs → (a : Rule) → HasDefault a
        → Among a xs → (rows : List Row) → has_row a.id (fold with_default rows xs) ≡ true
    defaults-add [] fits a default among rows = absurd among
    defaults-add (x ∷ xs) fits a default among rows =
        search (rules, defaults-add xs, defaults-keep, at_row-absent, has_row-last, default.1)

    -- ---- the walk, and what the rows give

    value-found : (a : Rule) → arg_by_id c a.id ≡ Some a → (rows : List Row) → Good rows
        → has_row a.id rows ≡ true → HasValue a rows
    value-found a own [] good e = cc
    value-found a own (r ∷ rs) good e =
        search (rules, bytes_eq-Decides, value-found a own rs good.1)

    none-found : (id : Text) (rows : List Row) → has_row id rows ≡ false → one_of id rows ≡ None
    none-found id [] e = refl
    none-found id (r ∷ rs) e = search (rules, none-found id rs)

    module _ (t : Shape) where
      abbrev s : Shape
      s = record t { rules = c; args_override_self = false }

      turn-good : (w : Walk) (word : Text) → Good w.held.rows → turn_fault s [] w word ≡ []
          → Good (walked c [] w word).held.rows
      unfolding walked
      turn-good w word good e = search (rules, none_of, flag_word-good, no_positional)

      walk-good : (words : List Text) (w : Walk) → Good w.held.rows → walk_fault s [] w words ≡ []
          → Good (fold (walked c []) w words).held.rows
      unfolding walk_fault
      walk-good [] w good e = good
      walk-good (word ∷ rest) w good e = search (rules, none_of, turn-good, walk-good rest)

      module _ (words : List Text) (e : level_fault s [] nothing_held words false [] ≡ [])
          (a : Rule)
          (own : arg_by_id c a.id ≡ Some a) where
        -- each option of a parse that doesn't fail has one value, which it accepts
        pub option-has_value : HasDefault a → Among a c → HasValue a (rows_after c [] words)
        option-has_value default among =
            search
            (rules, value-found, defaults-add, walk-good, none_of, settle-good, defaults-good)

        -- and one without a default has one at most
        pub optional-has_value : MayHaveValue a (rows_after c [] words)
        optional-has_value =
            search (rules, value-found, none-found, walk-good, none_of, settle-good, defaults-good)
