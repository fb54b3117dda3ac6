-- A script that is read is in its ranges: its parts (numbers, components, bundles, names, targets
-- and operations), its systems, its frames and the whole.
use Rattle.ent_script.proofs.Common.{rules, ℕ, ℤ, ◌+◌, ◌<◌, ◌≤◌, zero, suc, Bool, cond, List, []}
use Rattle.ent_script.proofs.Common.{◌∷◌, length, length-append, take, Option, Result, IfSome}
use Rattle.ent_script.proofs.Common.{codes, arith, common_steps, IfOk, AllByRecursion, fold, Data}
use Rattle.ent_script.proofs.Common.{get, ComponentId, component_cmp, with_put, Format, Kind}
use Rattle.ent_script.proofs.Common.{at_most, whole_within, with_part, names_in, IsBundleOf}
use Rattle.ent_script.proofs.Common.{IsBindingAt, IsTargetAt, IsOperationAt, ◌>>=◌, numbered}
use Rattle.ent_script.proofs.Common.{component_of, items_of, read_bundle, with_of, count_of}
use Rattle.ent_script.proofs.Common.{binding_of, removed_of, target_at, target_of, of_kind}
use Rattle.ent_script.proofs.Common.{operation_of, bound_name, birth_of, births_before}
use Rattle.ent_script.proofs.Common.{target_birth, at_operation, operation_at, system_of, frame_of}
use Rattle.ent_script.proofs.Common.{component_at, component_names, heading_of, script_of, ReadsAs}
use Rattle.ent_script.proofs.Common.{AreLimits, Cause, Heading, ReadFault, Script, AllFrom}
use Rattle.ent_script.proofs.Common.{IsSystemOf, IsFrameOf, IsScript}
use Rattle.std.specs.FinMap.{put}
use Rattle.ent_script.specs.declared.kind.Kind.TheVariants as kinds
use Rattle.ent_script.proofs.NamesLaws.{number_within}

pub then_any : {A B E : Type 0} (P : B → Type 0) (r : Result A E) (f : A → Result B E)
    → ((x : A) → IfOk (f x) P) → IfOk (r >>= f) P
then_any P it f k = search rules

either : {A E : Type 0} (P : A → Type 0) (b : Bool) (x y : Result A E) → IfOk x P → IfOk y P
    → IfOk (cond b x y) P
either P b x y h k = search rules

pub numbered_each : {A E : Type 0} (P : A → Type 0) (f : ℕ → Data → Result A E) (n : ℕ)
    (ds : List Data) → ((i : ℕ) (d : Data) → IfOk (f i d) P)
    → IfOk (numbered f n ds) (λ xs. (length xs ≤ length ds) × AllByRecursion P xs)
numbered_each P f n [] each = (omega arith, tt)
numbered_each P f n (d ∷ ds) each = search (rules, numbered_each P f (n + 1) ds each)

-- ---- numbers

abbrev pub Between : ℕ → ℕ → ℕ → Type 0
Between low high n = (low ≤ n) × (n ≤ high)

pub whole_in : (low high : ℕ) (d : Data) → IfSome (whole_within low high d) (Between low high)
whole_in low high d = search rules

pub few : (most : ℕ) (d : Data) → IfSome (at_most most d) (λ ds. length ds ≤ most)
few most d = grind (arith, common_steps)

-- ---- components and bundles

component_in : (components : List (List ℕ)) (text : List ℕ)
    → IfSome (component_of components text) (λ c. c.0 < length components)
component_in components text = search (rules, number_within text components)

items_in : (components : List (List ℕ)) (ms : List (List ℕ × Data))
    → IfOk (items_of components ms) (IsBundleOf (length components))
items_in components [] = tt
items_in components (m ∷ ms) = search (rules, component_in components m.0, items_in components ms)

insert_in : (n : ℕ) (bundle : List (ComponentId × ℤ)) (id : ComponentId) (value : ℤ) → id.0 < n
    → IsBundleOf n bundle → IsBundleOf n (put component_cmp id value bundle)
insert_in n [] id value h all = (h, tt)
insert_in n (e ∷ es) id value h all = search (rules, insert_in n es id value h all.1)

with_put_in : (n : ℕ) (bundle items : List (ComponentId × ℤ)) → IsBundleOf n bundle
    → IsBundleOf n items → IsBundleOf n (with_put bundle items)
with_put_in n bundle [] h all = h
with_put_in n bundle (item ∷ items) h all = search
    (rules, insert_in, with_put_in n (put component_cmp item.0 item.1 bundle) items)

bundle_in : (components : List (List ℕ)) (part : Option Data)
    → IfOk (read_bundle components part) (IsBundleOf (length components))
unfolding read_bundle
bundle_in components part = search (rules, items_in components, with_put_in (length components) [])

with_in : (components : List (List ℕ)) (part : Option Data)
    → IfOk (with_of components part) (IsBundleOf (length components))
with_in components it = search (rules, bundle_in components)

count_in : (part : Option Data) → IfOk (count_of part) (λ n. n ≤ 65536)
unfolding count_of
count_in part = search (rules, whole_in)

removed_in : (components : List (List ℕ)) (part : Option Data)
    → IfOk (removed_of components part) (λ c. c.0 < length components)
unfolding removed_of
removed_in components it = search (rules, component_in components)

-- ---- names

binding_in : (bound : List (List ℕ)) (most : ℕ) → length bound ≤ most → (part : Option Data)
    → IfOk (binding_of bound part) (IsBindingAt most)
unfolding binding_of
binding_in bound most few it = search (rules, λ (name : List ℕ). number_within name bound)

names_from : (f : Data → Option (List ℕ)) (i : ℕ) (names : List (List ℕ)) (ds : List Data)
    → length (fold (λ names d. with_part names (f d)) names (take i ds)) ≤ length names + i
names_from f zero names ds = omega arith
names_from f (suc i) names ds = search (rules, length-append, names_from f i)

-- at most as many names as operations
pub few_names : (i : ℕ) (ds : List Data) → length (names_in bound_name (take i ds)) ≤ i
few_names i ds = omega (arith, names_from bound_name i [] ds)

-- ---- targets and operations

birth_in : (components most : ℕ) (format : Format) (frame : ℕ) (text : List ℕ)
    → IfOk (target_birth (births_before format frame) text) (IsTargetAt components frame most)
unfolding birth_of
birth_in components most it frame text = search rules

module _ (components bound : List (List ℕ)) (format : Format) (frame most : ℕ)
    (few_bound : length bound ≤ most) where
  target_at_in : (key text : List ℕ)
      → IfOk (target_at components bound (births_before format frame) key text)
      (IsTargetAt (length components) frame most)
  unfolding target_at
  target_at_in key text = search (
    rules,
    either,
    number_within text bound,
    component_in components text,
    birth_in (length components) most format frame text,
    few_bound,
  )

  target_in : (part : Option Data)
      → IfOk (target_of components bound (births_before format frame) part)
      (IsTargetAt (length components) frame most)
  unfolding target_of
  target_in part = search (rules, target_at_in)

  of_kind_in : (d : Data) (kind : Kind)
      → IfOk (of_kind components bound (births_before format frame) d kind)
      (IsOperationAt (length components) frame most)
  unfolding of_kind
  of_kind_in d kinds.Spawn =
      search (
        rules,
        bundle_in components (get (codes "spawn") d),
        binding_in bound most few_bound (get (codes "as") d),
      )
  of_kind_in d kinds.SpawnMany = search (
    rules,
    count_in (get (codes "spawn_many") d),
    with_in components (get (codes "with") d),
    binding_in bound most few_bound (get (codes "as") d),
  )
  of_kind_in d kinds.Insert = search
      (rules, bundle_in components (get (codes "insert") d), target_in (get (codes "on") d))
  of_kind_in d kinds.Remove = search
      (rules, removed_in components (get (codes "remove") d), target_in (get (codes "on") d))
  of_kind_in d kinds.Despawn = search (rules, target_in (get (codes "despawn") d))

  pub operation_in : (d : Data)
      → IfOk (operation_of components bound (births_before format frame) d)
      (IsOperationAt (length components) frame most)
  unfolding operation_of
  operation_in d = search (rules, of_kind_in)

at_in : {A : Type 0} (P : A → Type 0) (f s o : ℕ) (r : Result A Cause) → IfOk r P
    → IfOk (at_operation f s o r) P
at_in P f s o it h = search rules

-- at most so many, each with its number
abbrev AreFrom : {A : Type 0} → (ℕ → A → Type 0) → ℕ → ℕ → List A → Type 0
AreFrom P n most xs = (length xs ≤ most) × AllFrom P n xs

numbered_from : {A E : Type 0} (P : ℕ → A → Type 0) (f : ℕ → Data → Result A E) (n : ℕ)
    (ds : List Data) → ((i : ℕ) (d : Data) → IfOk (f i d) (P i))
    → IfOk (numbered f n ds) (AreFrom P n (length ds))
numbered_from P f n [] each = (omega arith, tt)
numbered_from P f n (d ∷ ds) each = search (rules, numbered_from P f (n + 1) ds each)

system_in : (format : Format) (components : List (List ℕ)) (frame number : ℕ) (d : Data)
    → IfOk (system_of format components frame number d) (IsSystemOf (length components) frame)
unfolding system_of
system_in format components frame number d = search (
  rules,
  few 10000 d,
  at_in,
  λ (ds : List Data). numbered_from (IsOperationAt (length components) frame)
      (operation_at format components frame number ds) 0 ds,
  few_names,
  operation_in,
)

frame_in : (format : Format) (components : List (List ℕ)) (number : ℕ) (d : Data)
    → IfOk (frame_of format components number d) (IsFrameOf (length components) number)
unfolding frame_of
frame_in format components number d =
    search (
      rules,
      few 256 d,
      λ (ds : List Data).
          numbered_each (IsSystemOf (length components) number) (system_of format components number) 0 ds
          (system_in format components number),
    )

components_in : (part : Option Data) → IfOk (component_names part) (λ names. length names ≤ 256)
unfolding component_names
components_in part =
    search (
      rules,
      few,
      λ (ds : List Data).
          numbered_each (λ _. Unit {0}) (component_at ds) 0 ds (λ i e. search rules),
    )

abbrev HasLimits : Heading → Type 0
HasLimits heading = AreLimits heading.limits

heading_in : (d : Data) → IfOk (heading_of d) HasLimits
unfolding heading_of
heading_in d = search (rules, whole_in, then_any)

-- what a value means is a script
pub script_in : (d : Data) → IfOk (script_of d) IsScript
unfolding script_of
script_in d =
    search (
      rules,
      heading_in d,
      components_in (get (codes "components") d),
      few 1000,
      λ (format : Format) (components : List (List ℕ)) (ds : List Data).
          numbered_from (IsFrameOf (length components)) (frame_of format components) 0 ds
          (frame_in format components),
    )

-- so is what was returned, if it is what a value means
pub returned_in : (r : Result Script ReadFault) (d : Data) → ReadsAs r (script_of d)
    → IfOk r IsScript
returned_in it d e = search (rules, script_in d)
