-- The shares of several workers, and what two of them make together.
use Rattle.ent_script.proofs.Common.{◌≡◌, ℕ, ◌+◌, ◌<◌, List, [], ◌∷◌, true}
use Rattle.ent_script.proofs.Common.{◌||◌, Result, Ok, Err, Option, Some, refl, rules, arith}
use Rattle.ent_script.proofs.Common.{codes, get, Data, ◌>>=◌, numbered, Format, Operation, ReadFault}
use Rattle.ent_script.proofs.Common.{Share, both, with_operations, has, system_by, frames_by}
use Rattle.ent_script.specs.Shares.{Makes}
use Rattle.ent_script.proofs.Common.{system_of, frame_of, script_of, frame_by, script_by, Script}
use Rattle.ent_script.proofs.Common.{heading_of, component_names, in_script, frames_of}
use Rattle.ent_script.proofs.Common.{option_and_then, ok_or, at_most, None, Heading}
use Rattle.ent_script.proofs.Common.{◌++◌, append_assoc, length}
use Rattle.std.specs.Prelude.{option_to_list, IsSome, ◌↔◌}
use Rattle.std.specs.Option.{option_map_or}
use Rattle.ent_alloc.specs.Limits.{Limits}
use Rattle.ent_script.specs.Sizes.{most_frames}
use Rattle.ent_script.specs.declared.cause.ScriptCause.TheVariants as script_cause
use Rattle.ent_script.specs.declared.read_fault.ReadFault.TheVariants as fault

abbrev script_with : Limits → List (List ℕ) → List (List (List Operation))
    → Result Script ReadFault
script_with limits names frames =
    Ok (record { limits = limits; components = names; frames = frames })

-- what each element means, if it means the same by both
same_numbered : {A : Type 0} (f g : ℕ → Data → Result A ReadFault)
    → ((n : ℕ) (d : Data) → f n d ≡ g n d) → (n : ℕ) (ds : List Data)
    → numbered f n ds ≡ numbered g n ds
same_numbered f g same n [] = refl
same_numbered f g same n (d ∷ ds) =
    search (rules, same n d, same_numbered f g same (n + 1) ds)

-- two readings of the same elements, put together
both_numbered : {A : Type 0} (e : A → A → A) (f g h : ℕ → Data → Result A ReadFault)
    → ((n : ℕ) (d : Data) (x y : A) → f n d ≡ Ok x → g n d ≡ Ok y → h n d ≡ Ok (e x y))
    → (n : ℕ) (ds : List Data) (xs ys : List A) → numbered f n ds ≡ Ok xs
    → numbered g n ds ≡ Ok ys → numbered h n ds ≡ Ok (both e xs ys)
both_numbered e f g h put n [] xs ys a b = search rules
both_numbered e f g h put n (d ∷ ds) xs ys a b =
    search (rules, put n d, both_numbered e f g h put (n + 1) ds)

both_none : {A : Type 0} (e : A → A → A) (xs : List A) → both e xs [] ≡ xs
both_none e [] = refl
both_none e (x ∷ xs) = refl

-- one more element, and what is left of both lists
pub put_on : {A : Type 0} (e : A → A → A) (done all : List A) (x : A) (other : Option A)
    (xs ys rest : List A) → ys ≡ option_to_list other ++ rest → (other ≡ None → rest ≡ [])
    → done ++ both e (x ∷ xs) ys ≡ all
    → (done ++ option_map_or (e x) other x ∷ []) ++ both e xs rest ≡ all
put_on e done all x None xs ys rest is none was =
    search (rules, append_assoc, both_none e xs, is, none refl)
put_on e done all x (Some y) xs ys rest is none was = search (rules, append_assoc, is)

-- what is left of a list from which an element was taken, if there was one
pub taken : {A : Type 0} (other : Option A) (s t : List A) (m n : ℕ)
    → s ≡ option_to_list other ++ t → m ≡ length s → n + length (option_to_list other) ≡ m
    → (IsSome other ↔ (0 < m)) → (n ≡ length t) × (other ≡ None → t ≡ [])
taken None [] [] m n is long less some = search (rules, arith)
taken None [] (y ∷ t) m n is long less some = search (rules, arith)
taken None (x ∷ s) t m n is long less some = search (rules, arith)
taken (Some y) s t m n is long less some = search (rules, arith)

-- these workers, and those behind them
module _ (low high all : Share) (first : low.first ≡ all.first)
    (next : high.first ≡ all.first + low.count) (count : all.count ≡ low.count + high.count)
    (of_low : low.workers ≡ all.workers) (of_high : high.workers ≡ all.workers) where
  has_both : (frame system : ℕ)
      → has all frame system ≡ (has low frame system || has high frame system)
  has_both frame system = search (rules, arith, first, next, count, of_low, of_high)

  both_systems : (format : Format) (names : List (List ℕ)) (frame n : ℕ) (d : Data)
      (xs ys : List Operation) → system_by low format names frame n d ≡ Ok xs
      → system_by high format names frame n d ≡ Ok ys
      → system_by all format names frame n d ≡ Ok (with_operations xs ys)
  both_systems format names frame n d xs ys a b = search (rules, has_both frame n)

  both_frames : (format : Format) (names : List (List ℕ)) (n : ℕ) (d : Data)
      (xs ys : List (List Operation)) → frame_by low format names n d ≡ Ok xs
      → frame_by high format names n d ≡ Ok ys
      → frame_by all format names n d ≡ Ok (both with_operations xs ys)
  unfolding frame_by
  both_frames format names n d xs ys a b = search (
    rules,
    both_numbered with_operations (system_by low format names n) (system_by high format names n)
        (system_by all format names n) (both_systems format names n),
  )

  both_scripts : (d : Data) (x y : Script) → script_by low d ≡ Ok x → script_by high d ≡ Ok y
      → script_by all d ≡ Ok (record x { frames = both (both with_operations) x.frames y.frames })
  unfolding script_by
  both_scripts d x y a b = search (
    rules,
    λ (format : Format) (names : List (List ℕ)).
        both_numbered (both with_operations) (frame_by low format names) (frame_by high format names)
        (frame_by all format names) (both_frames format names),
  )

  pub put_together : (text : List ℕ) (x y : Script) → Makes low text x → Makes high text y
      → Makes all text (record x { frames = both (both with_operations) x.frames y.frames })
  put_together text x y a b =
      let same : b.value ≡ a.value = search (rules, a.is_read, b.is_read) in
      record {
        value = a.value;
        is_read = a.is_read;
        means = both_scripts a.value x y a.means (rw same at b.means);
      }

-- all workers have each system
module _ (share : Share) (first : share.first ≡ 0) (all : share.count ≡ share.workers)
    (some : 0 < share.workers) where
  has_all : (frame system : ℕ) → has share frame system ≡ true
  has_all frame system = search (rules, arith, first, all, some)

  whole_system : (format : Format) (names : List (List ℕ)) (frame n : ℕ) (d : Data)
      → system_by share format names frame n d ≡ system_of format names frame n d
  whole_system format names frame n d = search (rules, has_all frame n)

  whole_frame : (format : Format) (names : List (List ℕ)) (n : ℕ) (d : Data)
      → frame_by share format names n d ≡ frame_of format names n d
  unfolding frame_by frame_of
  whole_frame format names n d = search (
    rules,
    same_numbered (system_by share format names n) (system_of format names n)
        (whole_system format names n),
  )

  pub whole_frames : (format : Format) (names : List (List ℕ)) (part : Option Data)
      → frames_by share format names part ≡ frames_of format names part
  whole_frames format names part = search (
    rules,
    same_numbered (frame_by share format names) (frame_of format names) (whole_frame format names),
  )

  whole_rest : (part : Option Data) (limits : Limits) (format : Format) (names : List (List ℕ))
      (ds : Option (List Data))
      → ds ≡ option_and_then (at_most most_frames) part
      → (frames_by share format names part >>= λ frames. script_with limits names frames)
      ≡ (ok_or ds (fault.Script script_cause.Frames) >>= λ ds. numbered (frame_of format names) 0 ds
      >>= λ frames. script_with limits names frames)
  whole_rest part limits format names None e = search (rules, whole_frames format names part)
  whole_rest part limits format names (Some ds) e = search (rules, whole_frames format names part)

  whole_behind : (d : Data) (heading : Result Heading ReadFault)
      (names : Result (List (List ℕ)) ReadFault)
      → (heading >>= λ heading. names >>= λ names.
      frames_by share heading.format names (get (codes "frames") d)
      >>= λ frames. script_with heading.limits names frames)
      ≡ (heading >>= λ heading. names >>= λ names.
      ok_or (option_and_then (at_most most_frames) (get (codes "frames") d))
      (fault.Script script_cause.Frames) >>= λ ds.
      numbered (frame_of heading.format names) 0 ds
      >>= λ frames. script_with heading.limits names frames)
  whole_behind d (Err e) names = refl
  whole_behind d (Ok heading) (Err e) = refl
  whole_behind d (Ok heading) (Ok names) =
      whole_rest (get (codes "frames") d) heading.limits heading.format names _ refl

  pub whole_script : (d : Data) → script_by share d ≡ script_of d
  unfolding script_by script_of
  whole_script d = whole_behind d (in_script (heading_of d))
      (in_script (component_names (get (codes "components") d)))
