-- Clap reads the names that an option takes, and not where they stand in memory: the rows that it
-- makes of words, the faults that it finds in them and which words it takes stay the same if they
-- move.
use Rattle.spawnrun_lib.proofs.Common.{rules, ◌≡◌, ℕ, Bool, List, [], ◌∷◌, cond, zero, suc, refl}
use Rattle.spawnrun_lib.proofs.Common.{sym, map, Option, fold, find, option_map, turn_fault}
use Rattle.spawnrun_lib.proofs.Common.{step_fault, list_any, Row, Rule, Shape, Text, Kinds, or_else}
use Rattle.spawnrun_lib.proofs.Common.{same_text, Held, Names, Outcome, Waiting, Walk, bundle_met}
use Rattle.spawnrun_lib.proofs.Common.{long_met, reacted, rows_after, settled, texts, used, walked}
use Rattle.spawnrun_lib.proofs.Common.{walked_from, with_default, word_met, ValueParser, find-map}
use Rattle.spawnrun_lib.proofs.Common.{references_to, Bor, ◌&&◌, not, Some, None, is_given, Step}
use Rattle.spawnrun_lib.proofs.Common.{action_fault, check_fault, defaults_fault, flags_fault}
use Rattle.spawnrun_lib.proofs.Common.{level_fault, long_fault, option_fault, react_fault}
use Rattle.spawnrun_lib.proofs.Common.{settle_fault, short_fault, walk_fault, ArgAction}
use Rattle.spawnrun_lib.proofs.Common.{list_all-map, list_any-map, ◌||◌, list_all, action_passes}
use Rattle.spawnrun_lib.proofs.Common.{default_passes, flags_pass, is_valid, level_passes}
use Rattle.spawnrun_lib.proofs.Common.{long_passes, option_passes, react_passes, settle_passes}
use Rattle.spawnrun_lib.proofs.Common.{short_passes, step_passes, values_pass, walk_passes}
use Rattle.clap.specs.declared.builder.value_parser.ValueParser.TheVariants as vp

abbrev pub moved : ValueParser → ValueParser
moved (vp.Names names) = vp.Names (references_to (texts names.now))
moved parser = parser

abbrev pub moved_rule : Rule → Rule
moved_rule a = record a { parser = option_map moved a.parser }

abbrev pub moved_shape : Shape → Shape
moved_shape s = record s { rules = map moved_rule s.rules }

pub both_arms : {X : Type 0} (test : Bool) {x y z w : X} → x ≡ z → y ≡ w
    → cond test x y ≡ cond test z w
both_arms b first second = search rules

pub either : {first second before after : Kinds} → first ≡ before → second ≡ after
    → or_else first second ≡ or_else before after
either {first} {second} {before} {after} same also = search rules

pub any_name-moved : (ignore_case : Bool) (names : List (Bor Text)) (text : Text)
    → list_any (λ name. same_text ignore_case name.now text) (references_to (texts names)).now
    ≡ list_any (λ name. same_text ignore_case name.now text) names
any_name-moved ignore_case [] text = refl
any_name-moved ignore_case (name ∷ names) text =
    search (rules, any_name-moved ignore_case names text)

-- ---- the walk

used-moved : (a : Rule) (values : List Text) (rows : List Row)
    → used (moved_rule a) values rows ≡ used a values rows
used-moved a values rows = search rules

defaults-moved : (xs : List Rule) (rows : List Row) → fold with_default rows (map moved_rule xs)
    ≡ fold with_default rows xs
defaults-moved [] rows = refl
defaults-moved (x ∷ xs) rows = search (rules, defaults-moved xs (with_default rows x))

module _ (c : List Rule) where
  abbrev m : List Rule
  m = map moved_rule c

  pub found-moved : (test : Rule → Bool)
      → find test m ≡ option_map moved_rule (find (λ a. test (moved_rule a)) c)
  found-moved test = sym (find-map test moved_rule c)

  pub settled-moved : (h : Held) → settled m h ≡ settled c h
  settled-moved h = search (rules, found-moved, used-moved)

  pub reacted-moved : (a : Rule) (values : List Text) (h : Held)
      → reacted m (moved_rule a) values h ≡ reacted c a values h
  reacted-moved a values h = search (rules, settled-moved h)

  long_met-moved : (o : Option Rule) (v : Option Text) (h : Held)
      → long_met m (option_map moved_rule o) v h ≡ long_met c o v h
  long_met-moved it v h = search (rules, both_arms, reacted-moved, settled-moved)

  bundle_met-moved : (k : ℕ) (flags : Text) (skip : ℕ) (so_far : Outcome) (h : Held)
      → bundle_met m k flags skip so_far h ≡ bundle_met c k flags skip so_far h
  unfolding bundle_met
  bundle_met-moved zero flags skip so_far h = refl
  bundle_met-moved (suc k) flags skip so_far h =
      search (rules, found-moved, bundle_met-moved k, both_arms, settled-moved, reacted-moved)

  pub word_met-moved : (names : Names) (is_trailing : Bool) (waiting : Waiting) (position : ℕ)
      (word : Text) (h : Held) → word_met m names is_trailing waiting position word h
      ≡ word_met c names is_trailing waiting position word h
  word_met-moved names is_trailing waiting position word h =
      search (rules, both_arms, found-moved, long_met-moved, bundle_met-moved)

  walked_from-moved : (names : Names) (stopped : Option (Text × List Text)) (w : Walk) (word : Text)
      → walked_from m names stopped w word ≡ walked_from c names stopped w word
  walked_from-moved names it w word =
      search (rules, word_met-moved, found-moved, both_arms, settled-moved)

  pub walked-moved : (names : Names) (w : Walk) (word : Text)
      → walked m names w word ≡ walked c names w word
  unfolding walked
  walked-moved names w word = walked_from-moved names w.stopped w word

  pub walk-moved : (names : Names) (words : List Text) (w : Walk)
      → fold (walked m names) w words ≡ fold (walked c names) w words
  walk-moved names [] w = refl
  walk-moved names (word ∷ rest) w = search (rules, walked-moved, walk-moved names rest)

  pub rows_after-moved : (names : Names) (words : List Text)
      → rows_after m names words ≡ rows_after c names words
  rows_after-moved names words = search (rules, walk-moved, settled-moved, defaults-moved)

-- ---- the faults of one argument

action_fault-moved : (x : ArgAction) (again : Bool) (a : Rule) (values : List Text)
    (rows : List Row) → action_fault x again (moved_rule a) values rows
    ≡ action_fault x again a values rows
action_fault-moved it again a values rows = search (rules, any_name-moved, either)

defaults_fault-moved : (xs : List Rule) (rows : List Row)
    → defaults_fault rows (map moved_rule xs) ≡ defaults_fault rows xs
unfolding defaults_fault
defaults_fault-moved [] rows = refl
defaults_fault-moved (x ∷ xs) rows =
    search (rules, either, defaults_fault-moved xs, both_arms, any_name-moved)

-- ---- one argument's values that pass

both_hold : {first second before after : Bool} → first ≡ before → second ≡ after
    → (first && second) ≡ (before && after)
both_hold {first} {second} {before} {after} same also = search rules

values_pass-moved : (a : Rule) (values : List Text)
    → values_pass (moved_rule a) values ≡ values_pass a values
values_pass-moved a vs = search (rules, both_hold, any_name-moved)

action_passes-moved : (x : ArgAction) (again : Bool) (a : Rule) (values : List Text)
    (rows : List Row) → action_passes x again (moved_rule a) values rows
    ≡ action_passes x again a values rows
action_passes-moved it again a values rows =
    search (rules, both_hold, any_name-moved, values_pass-moved)

all_defaults-moved : (xs : List Rule)
    → list_all default_passes (map moved_rule xs) ≡ list_all default_passes xs
all_defaults-moved [] = refl
all_defaults-moved (x ∷ xs) = both_hold (search (rules, values_pass-moved)) (all_defaults-moved xs)

-- ---- an argument where it stands in words: its faults, and whether it passes

module _ (c : List Rule) (again : Bool) where
  abbrev n : List Rule
  n = map moved_rule c

  settle_fault-moved : (h : Held) → settle_fault n again h ≡ settle_fault c again h
  settle_fault-moved h = search (rules, found-moved, either, moved_rule, action_fault-moved)

  react_fault-moved : (a : Rule) (values : List Text) (h : Held)
      → react_fault n again (moved_rule a) values h ≡ react_fault c again a values h
  react_fault-moved a values h =
      search (rules, either, settle_fault-moved, settled-moved, moved_rule, action_fault-moved)

  option_fault-moved : (a : Rule) (v : Option Text) (h : Held)
      → option_fault n again (moved_rule a) v h ≡ option_fault c again a v h
  option_fault-moved a (Some v) h = react_fault-moved a (v ∷ []) h
  option_fault-moved a None h = settle_fault-moved h

  long_fault-moved : (o : Option Rule) (v : Option Text) (h : Held)
      → long_fault n again (option_map moved_rule o) v h ≡ long_fault c again o v h
  long_fault-moved None v h = refl
  long_fault-moved (Some a) v h = search (rules, both_arms, option_fault-moved, react_fault-moved)

  short_fault-moved : (o : Option Rule) (rest : Text) (h : Held) (after before : Held → Kinds)
      → ((held : Held) → after held ≡ before held)
      → short_fault n again (option_map moved_rule o) rest h after
      ≡ short_fault c again o rest h before
  short_fault-moved None rest h after before same = refl
  short_fault-moved (Some a) rest h after before same =
      search (rules, both_arms, option_fault-moved, either, react_fault-moved, reacted-moved)

  flags_fault-moved : (k : ℕ) (flags : Text) (skip : ℕ) (h : Held)
      → flags_fault n again k flags skip h ≡ flags_fault c again k flags skip h
  unfolding flags_fault
  flags_fault-moved zero flags skip h = refl
  flags_fault-moved (suc k) flags skip h =
      search (rules, found-moved, short_fault-moved, flags_fault-moved k)

  settle_passes-moved : (h : Held) → settle_passes n again h ≡ settle_passes c again h
  settle_passes-moved h = search (rules, found-moved, both_hold, moved_rule, action_passes-moved)

  react_passes-moved : (a : Rule) (values : List Text) (h : Held)
      → react_passes n again (moved_rule a) values h ≡ react_passes c again a values h
  react_passes-moved a values h =
      search (rules, both_hold, settle_passes-moved, settled-moved, moved_rule, action_passes-moved)

  option_passes-moved : (a : Rule) (v : Option Text) (h : Held)
      → option_passes n again (moved_rule a) v h ≡ option_passes c again a v h
  option_passes-moved a (Some v) h = react_passes-moved a (v ∷ []) h
  option_passes-moved a None h = settle_passes-moved h

  long_passes-moved : (o : Option Rule) (v : Option Text) (h : Held)
      → long_passes n again (option_map moved_rule o) v h ≡ long_passes c again o v h
  long_passes-moved None v h = refl
  long_passes-moved (Some a) v h =
      search (rules, both_arms, option_passes-moved, both_hold, react_passes-moved)

  short_passes-moved : (o : Option Rule) (rest : Text) (h : Held) (after before : Held → Bool)
      → ((held : Held) → after held ≡ before held)
      → short_passes n again (option_map moved_rule o) rest h after
      ≡ short_passes c again o rest h before
  short_passes-moved None rest h after before same = refl
  short_passes-moved (Some a) rest h after before same =
      search (rules, both_arms, option_passes-moved, both_hold, react_passes-moved, reacted-moved)

  flags_pass-moved : (k : ℕ) (flags : Text) (skip : ℕ) (h : Held)
      → flags_pass n again k flags skip h ≡ flags_pass c again k flags skip h
  unfolding flags_pass
  flags_pass-moved zero flags skip h = refl
  flags_pass-moved (suc k) flags skip h =
      search (rules, found-moved, short_passes-moved, flags_pass-moved k)

module _ (s : Shape) where
  abbrev t : Shape
  t = moved_shape s

  step_fault-moved : (position : ℕ) (h : Held) (step : Step)
      → step_fault t position h step ≡ step_fault s position h step
  step_fault-moved position h it = search (rules, found-moved, both_arms, settle_fault-moved)

  turn_fault-moved : (names : Names) (w : Walk) (word : Text)
      → turn_fault t names w word ≡ turn_fault s names w word
  turn_fault-moved names w word =
      search (
        rules,
        both_arms,
        either,
        word_met-moved,
        step_fault-moved,
        found-moved,
        long_fault-moved,
        flags_fault-moved,
      )

  walk_fault-moved : (names : Names) (words : List Text) (w : Walk)
      → walk_fault t names w words ≡ walk_fault s names w words
  unfolding walk_fault
  walk_fault-moved names [] w = refl
  walk_fault-moved names (word ∷ rest) w =
      search (rules, either, turn_fault-moved, walked-moved, walk_fault-moved names rest)

  check_fault-moved : (rows : List Row) (has : Bool)
      → check_fault t rows has ≡ check_fault s rows has
  check_fault-moved rows has =
      cc (list_any-map (λ (a : Rule). a.required && not (is_given a.id rows)) moved_rule s.rules)

  pub level_fault-moved : (names : Names) (h : Held) (words : List Text) (has : Bool)
      (below : Kinds) → level_fault t names h words has below
      ≡ level_fault s names h words has below
  level_fault-moved names h words has below = search (
    rules,
    walk-moved,
    walk_fault-moved,
    settle_fault-moved,
    settled-moved,
    defaults_fault-moved,
    check_fault-moved,
    defaults-moved,
  )

  step_passes-moved : (position : ℕ) (h : Held) (step : Step)
      → step_passes t position h step ≡ step_passes s position h step
  step_passes-moved position h it = search (rules, found-moved, settle_passes-moved)

  walk_passes-moved : (names : Names) (words : List Text) (w : Walk)
      → walk_passes t names w words ≡ walk_passes s names w words
  unfolding walk_passes
  walk_passes-moved names [] w = refl
  walk_passes-moved names (word ∷ rest) w = search (
    rules,
    both_hold,
    walked-moved,
    walk_passes-moved names rest,
    word_met-moved,
    step_passes-moved,
    found-moved,
    long_passes-moved,
    flags_pass-moved,
  )

  is_valid-moved : (rows : List Row) (has : Bool) → is_valid t rows has ≡ is_valid s rows has
  is_valid-moved rows has = cc (
    list_all-map (λ (a : Rule). a.is_free) moved_rule s.rules,
    list_all-map (λ (a : Rule). not a.required || is_given a.id rows) moved_rule s.rules,
  )

  pub level_passes-moved : (names : Names) (h : Held) (words : List Text) (has : Bool)
      → level_passes t names h words has ≡ level_passes s names h words has
  level_passes-moved names h words has = search (
    rules,
    walk-moved,
    both_hold,
    walk_passes-moved,
    settle_passes-moved,
    all_defaults-moved,
    is_valid-moved,
    settled-moved,
    defaults-moved,
  )
