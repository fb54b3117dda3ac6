-- Reading the elements of an array one after another, of at most so many, and the operations of a
-- system.
use Rattle.ent_script.proofs.Common.{le-leb, rules, ◌≡◌, ℕ, ◌+◌, ◌-◌, ◌<◌, ◌≤◌, List, [], ◌∷◌, ◌++◌}
use Rattle.ent_script.proofs.Common.{length, Some, None, Result, Ok, Err, false, cond, ok_or}
use Rattle.ent_script.proofs.Common.{lt-leb, append-nil, nat_le, Token, Parse, after_end_array}
use Rattle.ent_script.proofs.Common.{items, Data, Items, of_json, of_items, converted, list_of}
use Rattle.ent_script.proofs.Common.{◌>>=◌, numbered, ReadsList, Streams, StreamsList, FaultOfArray}
use Rattle.ent_script.proofs.Common.{ran_out, ReadFault, Memory, zero, suc, take, drop, arith}
use Rattle.ent_script.proofs.Common.{add-one, common_steps, fold-append, cut, with_part, names_in}
use Rattle.ent_script.proofs.Common.{bound_name}
use Rattle.std.specs.Global.{Vec}
use Rattle.json.specs.Json as json
use Rattle.ent_script.proofs.Numbering.{onto, onto_one}
use Rattle.ent_script.proofs.Finding.{next_item, last_item}

pub streams_fault : {A : Type 0} (e : ReadFault) (left : List Token) (read : Result A ReadFault)
    (rest : List Token) → (e ≡ Memory → ⊥) → Streams {A = A} (Err e) left read rest
    → (read ≡ Err e) × (left ≡ rest)
streams_fault it left read rest other h = search rules

pub fault_streams : {A : Type 0} (e : ReadFault) (left : List Token) (read : Result A ReadFault)
    (rest : List Token) → ((e ≡ Memory → ⊥) → (read ≡ Err e) × (left ≡ rest))
    → Streams {A = A} (Err e) left read rest
fault_streams it left read rest h = search rules

pub fault_streams_list : {A : Type 0} (e : ReadFault) (left : List Token)
    (read : Result (List A) ReadFault) (rest : List Token)
    → ((e ≡ Memory → ⊥) → (read ≡ Err e) × (left ≡ rest))
    → StreamsList {A = A} (Err e) left read rest
fault_streams_list it left read rest h = search rules

-- what so many elements mean at most
abbrev pub listed : {A : Type 0} → ℕ → (ℕ → Data → Result A ReadFault) → ReadFault → List Data
    → Result (List A) ReadFault
listed most f limit ds =
    ok_or (cond (nat_le (length ds) most) (Some ds) None) limit >>= λ xs. numbered f 0 xs

-- of an array that is read as ds, so many elements were taken
abbrev pub At : {A : Type 0} → Parse json.Json → (ℕ → Data → Result A ReadFault) → List A → ℕ
    → List Token → Items → List Token → Type 0
At p f done number now ds rest = (m : ℕ) × (later : Items)
    × (converted of_items (items p m now) ≡ Some (later, rest))
    × (length (list_of ds) ≡ number + length (list_of later))
    × (onto done (numbered f number (list_of later)) ≡ numbered f 0 (list_of ds))

-- a cut value that was read, and the value that the tokens have
pub cut_read : (p : Parse json.Json) (ts left rest : List Token) (d was v : Data)
    → converted of_json (p ts) ≡ Some (was, left) → v ≡ cut 1 was
    → converted of_json (p ts) ≡ Some (d, rest) → (v ≡ cut 1 d) × (left ≡ rest)
cut_read p ts left rest d was v found seen e = grind (arith, common_steps)

here : (ds : List Data) (i : ℕ) (d : Data) (later : List Data) → drop i ds ≡ d ∷ later
    → (drop (suc i) ds ≡ later) × (take (suc i) ds ≡ take i ds ++ d ∷ [])
here [] zero d later e = absurd (cc e)
here [] (suc i) d later e = absurd (cc e)
here (x ∷ ds) zero d later e = search rules
here (x ∷ ds) (suc i) d later e = search (rules, here ds i d later e)

-- of an array that is read as ds, so many operations were taken, which bind these names
abbrev pub Reached : {A : Type 0} → Parse json.Json → (ℕ → Data → Result A ReadFault) → List A → ℕ
    → List Token → Items → List Token → List (List ℕ) → Type 0
Reached p f done number now ds rest bound = (m : ℕ) × (later : Items)
    × (converted of_items (items p m now) ≡ Some (later, rest))
    × (length (list_of ds) ≡ number + length (list_of later))
    × (onto done (numbered f number (list_of later)) ≡ numbered f 0 (list_of ds))
    × (drop number (list_of ds) ≡ list_of later)
    × (bound ≡ names_in bound_name (take number (list_of ds)))

module _ {A : Type 0} (p : Parse json.Json) (f : ℕ → Data → Result A ReadFault) where
  pub listed_many : (most : ℕ) (limit : ReadFault) (ds : List Data) → most < length ds
      → listed most f limit ds ≡ Err limit
  listed_many most limit ds h = search (rules, lt-leb)

  pub at_next : (done : List A) (number : ℕ) (now left : List Token) (x : A) (ds : Items)
      (rest : List Token) → At p f done number now ds rest → after_end_array now ≡ None
      → ((d : Data) (r : List Token) → converted of_json (p now) ≡ Some (d, r)
      → Streams (Ok x) left (f number d) r) → At p f (done ++ x ∷ []) (number + 1) left ds rest
  at_next done number now left x ds rest at going reads = search
      (rules, next_item p at.0 now rest at.1 going at.2, onto_one, onto)

  pub at_end : (most : ℕ) (limit : ReadFault) (done : List A) (number : ℕ) (now left : List Token)
      (ds : Items) (rest : List Token) → At p f done number now ds rest
      → after_end_array now ≡ Some left → number ≤ most
      → (listed most f limit (list_of ds) ≡ Ok done) × (left ≡ rest)
  at_end most limit done number now left ds rest at over few = search (rules, last_item, append-nil)

  -- one element too many
  pub at_most_many : (most : ℕ) (limit found : ReadFault) (done : List A) (number : ℕ)
      (now left : List Token) (ds : Items) (rest : List Token) → At p f done number now ds rest
      → after_end_array now ≡ None → number ≡ most
      → ((n : ℕ) (later : Items) (r : List Token)
      → converted of_items (items p n now) ≡ Some (later, r)
      → FaultOfArray 0 limit limit found left later r)
      → (listed most f limit (list_of ds) ≡ Err found) × (left ≡ rest)
  at_most_many most limit found done number now left ds rest at going full faults = search
      (rules, next_item, listed_many)

  -- an element that means nothing
  pub at_fault : (most room : ℕ) (limit e found : ReadFault) (done : List A) (number : ℕ)
      (now left after : List Token) (ds : Items) (rest : List Token)
      → At p f done number now ds rest → after_end_array now ≡ None → room + number + 1 ≡ most
      → (e ≡ Memory → ⊥)
      → ((d : Data) (r : List Token) → converted of_json (p now) ≡ Some (d, r)
      → Streams {A = A} (Err e) left (f number d) r) → ((n : ℕ) (later : Items) (r : List Token)
      → converted of_items (items p n left) ≡ Some (later, r)
      → FaultOfArray room e limit found after later r)
      → (listed most f limit (list_of ds) ≡ Err found) × (after ≡ rest)
  at_fault most room limit e found done number now left after ds rest at going more other reads
      faults =
      let next = next_item p at.0 now rest at.1 going at.2 in
      search (
        rules,
        arith,
        le-leb,
        lt-leb,
        onto,
        streams_fault e left (f number next.0) next.1 other (reads next.0 next.1 next.4),
        faults (at.0 - 1) next.2 rest,
        next,
      )

  pub reached_next : (done : List A) (number : ℕ) (now left : List Token) (x : A) (ds : Items)
      (rest : List Token) (bound after : List (List ℕ)) → Reached p f done number now ds rest bound
      → after_end_array now ≡ None
      → ((d : Data) (r : List Token) → converted of_json (p now) ≡ Some (d, r)
      → Streams (Ok x) left (f number d) r) → ((d : Data) (r : List Token)
      → converted of_json (p now) ≡ Some (d, r) → after ≡ with_part bound (bound_name d))
      → Reached p f (done ++ x ∷ []) (number + 1) left ds rest after
  reached_next done number now left x ds rest bound after at going reads binds =
      let next = next_item p at.0 now rest at.1 going at.2 in
      let now = here (list_of ds) number next.0 (list_of next.2) in
      search (
        rules,
        add-one,
        onto_one,
        onto,
        fold-append,
        now,
        next,
        reads next.0 next.1 next.4,
        binds next.0 next.1 next.4,
      )

pub streamed_list : {A : Type 0} (r : Result (Vec A) ReadFault) (left : List Token)
    (read : Result (List A) ReadFault) (rest : List Token) → ran_out r ≡ false
    → StreamsList r left read rest → ReadsList r read × (left ≡ rest)
streamed_list it left read rest e h = search rules

-- elements that mean something among all of them
pub listed_among : {A : Type 0} (most : ℕ) (g : List Data → ℕ → Data → Result A ReadFault)
    (limit : ReadFault) (ds : List Data)
    → (ok_or (cond (nat_le (length ds) most) (Some ds) None) limit >>= λ xs. numbered (g xs) 0 xs)
    ≡ listed most (g ds) limit ds
listed_among most g limit ds = search rules
