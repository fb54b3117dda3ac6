-- Reading the elements of an array one after another.
use Rattle.ent_script.proofs.Common.{rules, ◌≡◌, ℕ, ◌+◌, ◌<◌, List, [], ◌∷◌, ◌++◌, length, map}
use Rattle.ent_script.proofs.Common.{take, drop, get_or, Result, Ok, Err, Option, append_assoc}
use Rattle.ent_script.proofs.Common.{Data, view, Value, with_part, names_in, ◌>>=◌, numbered}
use Rattle.ent_script.proofs.Common.{drop_more, get_or-map, length-map, take_more, fold-append}

-- the elements from this one on
abbrev pub from : List Value → ℕ → List Data
from vs i = drop i (map view vs)

-- those before it
abbrev pub until : List Value → ℕ → List Data
until vs i = take i (map view vs)

-- what was read so far, with what is read after it
abbrev pub onto : {A E : Type 0} → List A → Result (List A) E → Result (List A) E
onto front (Ok xs) = Ok (front ++ xs)
onto front (Err e) = Err e

pub onto_one : {A E : Type 0} (front : List A) (x : A) (read : Result (List A) E)
    → onto front (read >>= λ xs. Ok (x ∷ xs)) ≡ onto (front ++ x ∷ []) read
onto_one front x it = search (rules, append_assoc)

module _ {A E : Type 0} (f : ℕ → Data → Result A E) where
  pub goes_on : (vs : List Value) (i : ℕ) (v : Value) (front : List A) (x : A)
      (total : Result (List A) E) → i < length vs → v ≡ get_or vs i v → f i (view v) ≡ Ok x
      → onto front (numbered f i (from vs i)) ≡ total
      → onto (front ++ x ∷ []) (numbered f (i + 1) (from vs (i + 1))) ≡ total
  goes_on vs i v front x total h is means invariant = search (
    rules,
    onto_one,
    drop_more (map view vs) i (view v),
    get_or-map view vs i v (view v),
    length-map,
  )

  pub stops : (vs : List Value) (i : ℕ) (v : Value) (front : List A) (e : E)
      (total : Result (List A) E) → i < length vs → v ≡ get_or vs i v → f i (view v) ≡ Err e
      → onto front (numbered f i (from vs i)) ≡ total → total ≡ Err e
  stops vs i v front e total h is means invariant = search
      (rules, drop_more (map view vs) i (view v), get_or-map view vs i v (view v), length-map)

-- the names that are found as far as the next element
pub names_on : (f : Data → Option (List ℕ)) (vs : List Value) (i : ℕ) (v : Value) → i < length vs
    → v ≡ get_or vs i v → names_in f (until vs (i + 1))
    ≡ with_part (names_in f (until vs i)) (f (view v))
names_on f vs i v h is =
    search (
      rules,
      fold-append,
      take_more (map view vs) i (view v),
      get_or-map view vs i v (view v),
      length-map,
    )
