-- What a parse says of where a trace begins, and the fault of limits beside an image.
use Rattle.tracecheck.proofs.Common.{some_of, common_steps, rules, length-map, ◌≡◌, ◌∙◌, ◌⊎◌, ◌<◌}
use Rattle.tracecheck.proofs.Common.{◌≤◌, ℕ, true, false, List, [], ◌∷◌, length, zero, suc, refl}
use Rattle.tracecheck.proofs.Common.{sym, ap, subst, inl, inr, codes, arith, map, Option, Some}
use Rattle.tracecheck.proofs.Common.{None, is_some, false≢true, bytes_eq-Decides, Bor, list_all}
use Rattle.tracecheck.proofs.Common.{slice_index_or, option_map, pos, bytes_eq, IsAuto}
use Rattle.tracecheck.proofs.Common.{IsParsedFrom, SameRules, Entry, EntryPasses, HasId, HasReading}
use Rattle.tracecheck.proofs.Common.{IsFilledEntry, IsKnownGroup, MayBeEmpty, PassesArg, ValuesPass}
use Rattle.tracecheck.proofs.Common.{WantsDefault, args_of, groups_of, least_values}
use Rattle.tracecheck.proofs.Common.{unwrap_or_range, matched_of, App, IsSimple, IsSimpleArg}
use Rattle.tracecheck.proofs.Common.{app_of, is_ready, is_ready_leaf, IsSignedIn, Rule, Text}
use Rattle.tracecheck.proofs.Common.{rows_of, rule_of, texts, items_of, Set, Arg, Command, Reading}
use Rattle.tracecheck.proofs.Common.{WithoutMinus, Signed, ArgMatches, Found, MatchedArg}
use Rattle.tracecheck.proofs.Common.{default_present, entry_by_id, same_rules_by_id}
use Rattle.tracecheck.proofs.Common.{clap_on_literals, ready_simple, simple_groups, one_text-rows}
use Rattle.tracecheck.proofs.Common.{HasNumber, given, number_option, program, All, find, found_of}
use Rattle.tracecheck.proofs.Common.{Bool, IfErr, IsErrAnd, OnErr, OnOk, ◌&&◌, not, option_and_then}
use Rattle.tracecheck.proofs.Common.{if◌then◌else◌, is_simple_and_free, HasKind, Kinds, or_else}
use Rattle.tracecheck.proofs.Common.{first_value, HasMatchesOf, matches_of, Row, first_of, fault_of}
use Rattle.tracecheck.proofs.Common.{takes, Error, ArgumentConflict, find_row, first_value-rows}
use Rattle.tracecheck.proofs.Common.{IsFaultAmong, IsFaultOf, LineFault, Memory, found_fault}
use Rattle.tracecheck.proofs.Common.{IsFaultIn, both_fault, fault_in, has_both, image_in, is_taken}
use Rattle.tracecheck.proofs.Common.{Beginning, Result, Ok, Err, is_simple}

pub program-simple : is_simple program ≡ true
unfolding clap_on_literals
program-simple = refl

program-free : is_simple_and_free program ≡ true
unfolding clap_on_literals
program-free = refl

pub is_free : (app : App) → app ≡ program → is_simple_and_free app ≡ true
is_free app is = ap is_simple_and_free is ∙ program-free

-- ---- what the getters of the matches read, by the rows

pub source-rows : (f : Found) (option : Text)
    → option_and_then (λ (a : MatchedArg). a.source) (matched_of f option)
    ≡ option_and_then (λ (row : Row). row.source)
    (find (λ (row : Row). bytes_eq row.id option) (rows_of f))
source-rows f option = search (rules, find_row)

pub text-rows : (f : Found) (option : Text) {r found : Option (Bor Text)}
    → option_map (λ s. s.now) r ≡ first_value f option → r ≡ found
    → first_of option (rows_of f) ≡ option_map (λ s. s.now) found
text-rows f option {r} {found} reads is = search (rules, first_value-rows)

-- ---- the words

pub rows_asked : (app : App) (words : List Text) (m : ArgMatches) → app ≡ program
    → HasMatchesOf app words m → given m ≡ matches_of program words
rows_asked app words m is matches = search (rules, program-simple)

pub name_asked : (words : List Text) (f : Found) (r : Option (Bor Text))
    → option_map (λ s. s.now) r ≡ first_value f (codes "from")
    → rows_of f ≡ matches_of program words → option_map (λ s. s.now) r ≡ image_in words
name_asked words f r reads are =
    sym (text-rows f (codes "from") reads refl) ∙ ap (first_of (codes "from")) are

left_true : (a b : Bool) → (a && b) ≡ true → a ≡ true
left_true a b e = search rules

pub is_taken-takes : (words : List Text) → is_taken words ≡ true → takes program words ≡ true
is_taken-takes words taken = left_true (takes program words) _ taken

-- a fault that clap finds comes first
later_too : {T : Type 0} (r : Result T LineFault) (kinds later : Kinds)
    → IfErr r (IsFaultAmong kinds) → IfErr r (IsFaultAmong (or_else kinds later))
later_too r kinds later found = search rules

pub clap_fault : {T : Type 0} (r : Result T LineFault) (error : Error) (app : App)
    (words : List Text) → app ≡ program → IsErrAnd r (IsFaultOf error)
    → (is_simple_and_free app ≡ true → HasKind (fault_of app words) error)
    → IfErr r (IsFaultIn words)
clap_fault r error app words is fault kinds = later_too r (fault_of program words)
    (both_fault (matches_of program words)) (found_fault r error (fault_of program words) fault
    (subst (λ (a : App). HasKind (fault_of a words) error) is (kinds (is_free app is))))

-- ---- limits beside an image

fault_of_both : (words : List Text) → fault_of program words ≡ [] → (both : Bool)
    → has_both (matches_of program words) ≡ both
    → fault_in words ≡ (if both then ArgumentConflict ∷ [] else [])
fault_of_both words none both is = search rules

not_both : (a b : Bool) → (a && not b) ≡ true → b ≡ true → ⊥
not_both a b e both = search (rules, false≢true)

module _ (app : App) (words : List Text) (m : ArgMatches) (is : app ≡ program)
    (matches : HasMatchesOf app words m) where
  -- such words are not taken
  pub both_not_taken : (r : Result Beginning LineFault) → OnErr r (has_both (given m) ≡ true)
      → IfErr r (λ fault. is_taken words ≡ true → fault ≡ Memory)
  both_not_taken (Ok begin) both = tt
  both_not_taken (Err fault) both = let rows = rows_asked app words m is matches in
      search (rules, not_both)

  module _ (r : Result Beginning LineFault)
      (kinds : is_simple_and_free app ≡ true → fault_of app words ≡ []) where
    faultless : fault_of program words ≡ []
    faultless = search (rules, is_free)

    pub faultless_of_one : OnOk r (has_both (given m) ≡ false) → OnOk r (fault_in words ≡ [])
    faultless_of_one one = let rows = rows_asked app words m is matches in search (rules, faultless)

    pub faulty_of_both : OnErr r (has_both (given m) ≡ true)
        → IfErr r (IsFaultAmong (ArgumentConflict ∷ [])) → IfErr r (IsFaultIn words)
    faulty_of_both both fault = let rows = rows_asked app words m is matches in
        search (rules, fault_of_both, faultless)

-- ---- an option with a default has a number in its range: the arguments of the program's command

rule_at : (xs : List Arg) (k : ℕ) (d : Arg) → k < length xs
    → rule_of (slice_index_or xs k d) ≡ slice_index_or (map rule_of xs) k (rule_of d)
rule_at [] k d lt = absurd (omega arith)
rule_at (x ∷ xs) zero d lt = refl
rule_at (x ∷ xs) (suc k) d lt = rule_at xs k d (omega arith)

first_arg : (xs : List Arg) → 0 < length xs → Arg
first_arg [] some = absurd (omega arith)
first_arg (x ∷ xs) some = x

some_text : (vs : List (Bor Text)) (text : Text) → texts vs ≡ text ∷ [] → 0 < length vs
some_text vs text e = grind (arith, common_steps)

-- ---- an entry of clap's matches

-- an argument that takes one number from 1 to `most`
record TakesNumber (most : ℕ) (a : Arg) : Type 0 where
  pub parser : a.value_parser ≡ Some (Signed (pos 1) (pos most))
  pub ignore_case : a.ignore_case ≡ false
  pub action : a.action ≡ Some Set
  pub delimiter : a.val_delim ≡ None
  pub least : 1 ≤ least_values a

-- an id is found where an entry has it
has-found : (xs : List Entry) (id : Text) (i : ℕ) → i < length xs
    → ((d : Entry) → bytes_eq (slice_index_or xs i d).0.now id ≡ true)
    → is_some (option_map (λ (e : Entry). e.1) (find (λ (e : Entry). bytes_eq e.0.now id) xs))
    ≡ true
has-found [] id i lt at = absurd (omega arith)
has-found (x ∷ xs) id zero lt at = rw (at x) refl
has-found (x ∷ xs) id (suc j) lt at = search (rules, has-found xs id j (omega arith) at)

module _ (c : Command) (id : Text) (most : ℕ) (no_groups : groups_of c ≡ []) (named : id ≡ [] → ⊥)
    (only : (j : ℕ) (a : Arg) → j < length (args_of c) → slice_index_or (args_of c) j a ≡ a
    → bytes_eq a.id.now id ≡ true → TakesNumber most a) where
  no_group : IsKnownGroup c id → ⊥
  no_group which = search rules

  not_empty : (a : Arg) → TakesNumber most a → MayBeEmpty a → ⊥
  not_empty a takes which = search (rules, false≢true)

  -- the entry of the id has a value
  filled : (e : Entry) → e.0.now ≡ id → IsFilledEntry c e → 0 < length e.1.vals.items
  filled e key which = search (rules, no_group, not_empty)

  -- which is read without its minus
  read : (reading : Reading) → HasReading c id reading → reading ≡ WithoutMinus
  read reading any = search rules

  -- and in the range
  accepted : (text : Text) → PassesArg c id text → IsSignedIn (pos 1) (pos most) text
  accepted text any = search rules

  number_in : (f : Found) (x : MatchedArg) → matched_of f id ≡ Some x → x.reading ≡ WithoutMinus
      → (vs : List (Bor Text)) → x.vals.items ≡ vs → All (λ v. PassesArg c id v.now) vs
      → 0 < length vs → HasNumber id most (rows_of f)
  number_in f x found reading [] is all some = absurd (omega arith)
  number_in f x found reading (v ∷ vs) is all some = search
      (rules, one_text-rows f id, accepted v.now (all 0 v (omega arith)))

  entry-number : (f : Found) (x : MatchedArg) → matched_of f id ≡ Some x
      → ((e : Entry) × (e.1 ≡ x) × (bytes_eq e.0.now id ≡ true) × EntryPasses c e)
      → HasNumber id most (rows_of f)
  entry-number f x found got =
      let e = got.0 in
      let key : e.0.now ≡ id = (bytes_eq-Decides e.0.now id).0 got.2 in
      let alone : e.1.is_group ≡ true
      → ⊥ = λ group. no_group (subst (IsKnownGroup c) key (got.3.3 group)) in
      number_in f e.1 (found ∙ ap (λ y. Some y) (sym got.1))
      (read e.1.reading (subst (λ (text : Text). HasReading c text e.1.reading) key
      (not_left (e.1.is_group ≡ true) _ alone got.3.4))) e.1.vals.items refl
      (subst (λ (text : Text). All (λ v. PassesArg c text v.now) e.1.vals.items) key
      (not_left (e.1.is_group ≡ true) _ alone got.3.0)) (filled e key got.3.1)
    where
      not_left : (A B : Type 0) → (A → ⊥) → A ⊎ B → B
      not_left A B never (inl a) = absurd (never a)
      not_left A B never (inr b) = b

  number-found : (f : Found) → ValuesPass c f → HasId f id → HasNumber id most (rows_of f)
  number-found f values has =
      let x = some_of (matched_of f id) (sym (has-found f.entries.items id has.0 has.1 has.2)) in
      entry-number f x.0 x.1 (entry_by_id (EntryPasses c) f.entries.items id x.0 values x.1)

-- ---- an option of the program

-- two options of the program are never one
abbrev Alone : ℕ → Text → Type 0
Alone k option = (j : ℕ) (e : Rule) → j < 3
    → bytes_eq (slice_index_or program.top.rules j e).id option ≡ true → j ≡ k

program-ready : is_ready program.top ≡ true
unfolding clap_on_literals
program-ready = refl

number-given : (cmd : Command) (m : ArgMatches) → app_of cmd ≡ program → IsParsedFrom cmd m
    → (k : ℕ) (option : Text) (most : ℕ) (default : Text) → k < 3
    → ((e : Rule) → slice_index_or program.top.rules k e ≡ number_option option most default)
    → Alone k option → (option ≡ [] → ⊥)
    → ((option ≡ codes "help") ⊎ (option ≡ codes "version") → ⊥) → HasNumber option most (given m)
number-given cmd m is p k option most default below at alone named own =
    let same : map rule_of (args_of cmd) ≡ program.top.rules = ap (λ (a : App). a.top.rules) is in
    let count : length (args_of cmd) ≡ 3 = sym (length-map (args_of cmd) rule_of)
    ∙ ap length same in
    let d : Arg = first_arg (args_of cmd) (omega arith) in
    let a : Arg = slice_index_or (args_of cmd) k d in
    let lt : k < length (args_of cmd) = omega arith in
    let rule : rule_of a ≡ number_option option most default =
    cc (rule_at (args_of cmd) k d lt, at (rule_of d)) in
    let id : a.id.now ≡ option = ap (λ (r : Rule). r.id) rule in
    let simple : IsSimple cmd =
    ready_simple cmd (ap (λ (a : App). is_ready a.top) is ∙ program-ready)
    (ap (λ (a : App). list_all is_ready_leaf a.subs) is) in
    let simple_arg : IsSimpleArg a = simple.args k d lt in
    let set : a.action ≡ Some Set = ap (λ (r : Rule). r.action) rule in
    let least : least_values a ≡ 1 =
    ap (λ (r : Rule). (unwrap_or_range r.range).start_inclusive) rule in
    let parsed = p.parsed (p.from.globals ∙ simple.globals) in
    let groups : groups_of p.built ≡ [] = (p.from.same_groups
    (simple_groups cmd (ap (λ (a : App). list_all (λ (r : Rule). r.is_simple) a.top.rules) is))).1
    ∙ simple.groups in
    let wants : WantsDefault a = (
      simple_arg.default_ifs,
      some_text (items_of a.default_vals) default (ap (λ (r : Rule). r.defaults) rule),
    ) in
    let unique : (j : ℕ) (e : Arg) → j < length (args_of cmd)
    → bytes_eq (slice_index_or (args_of cmd) j e).id.now
    a.id.now ≡ true → j ≡ k = λ j e low same_id. alone j (rule_of e) (omega arith)
    (subst (λ (r : Rule). bytes_eq r.id option ≡ true) (rule_at (args_of cmd) j e low
    ∙ ap (λ (rs : List Rule). slice_index_or rs j (rule_of e)) same)
    (subst (λ (text : Text). bytes_eq (slice_index_or (args_of cmd) j e).id.now text ≡ true) id
    same_id)) in
    let free : IsAuto a → ⊥ = λ auto. own (search rules) in
    let only : (j : ℕ) (x : Arg) → j < length (args_of p.built)
    → slice_index_or (args_of p.built) j x ≡ x
    → bytes_eq x.id.now option ≡ true → TakesNumber most x =
    λ j x high here same_id. let kept : SameRules a x =
    same_rules_by_id cmd m p k d lt unique free j x high here
    (subst (λ (text : Text). bytes_eq x.id.now text ≡ true) (sym id) same_id) in record {
      parser = kept.parser _ (ap (λ (r : Rule). r.parser) rule);
      ignore_case = kept.ignore_case ∙ ap (λ (r : Rule). r.ignore_case) rule;
      action = kept.action Set set;
      delimiter = kept.val_delim ∙ simple_arg.delimiter;
      least = kept.least set (omega (arith, least));
    } in
    number-found p.built option most groups named only (found_of m) parsed.values
    (subst (λ (text : Text). HasId (found_of m) text) id
    (default_present cmd m p simple.globals k d lt wants))

-- ---- both

-- a text that differs from another
differs : (a b : Text) → bytes_eq a b ≡ false → bytes_eq b b ≡ true → a ≡ b → ⊥
differs a b other same e = search (rules, false≢true)

slots-alone : Alone 0 (codes "slots")
slots-alone j e lt same = search (rules, arith, false≢true)

generations-alone : Alone 1 (codes "generations")
generations-alone j e lt same = search (rules, arith, false≢true)

pub slots-given : (cmd : Command) (m : ArgMatches) → app_of cmd ≡ program → IsParsedFrom cmd m
    → HasNumber (codes "slots") 4294967295 (given m)
slots-given cmd m is p =
    number-given cmd m is p 0 (codes "slots") 4294967295 (codes "4294967295") (omega arith)
    (λ e. refl) slots-alone (differs (codes "slots") [] refl refl) (search (rules, differs))

pub generations-given : (cmd : Command) (m : ArgMatches) → app_of cmd ≡ program → IsParsedFrom cmd m
    → HasNumber (codes "generations") 2147483647 (given m)
generations-given cmd m is p =
    number-given cmd m is p 1 (codes "generations") 2147483647 (codes "2147483647") (omega arith)
    (λ e. refl) generations-alone (differs (codes "generations") [] refl refl)
    (search (rules, differs))
