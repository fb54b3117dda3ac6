-- What a relation says of the output of a job alone holds of each output. What jobs did with what
-- was lent to them, seen by one part of it.
use Rattle.ent_runner.proofs.Common.{rules, arith, common_steps, all_pairs_push, All, AllPairs}
use Rattle.ent_runner.proofs.Common.{StopShort, get_or, slice_get, [], List, Some, inl, inr, length}
use Rattle.ent_runner.proofs.Common.{ℕ, Option, ◌<◌, ◌∷◌, ◌≡◌, ◌⊎◌, FoldsTo-push, All-cons, All-nil}
use Rattle.ent_runner.proofs.Common.{get_or-range_with_len, length-range_with_len, All-permutation}
use Rattle.ent_runner.proofs.Common.{get_or_from_slice_get, slice_get_within, flat_map}
use Rattle.ent_runner.proofs.Common.{range_with_len, IsPermutation, AreBrokenOff, AreDone, DidAll}
use Rattle.ent_runner.proofs.Common.{DidUntil, DoesAt, Ended, OfEach, map, ap, ◌∙◌, ⊎_elim}
use Rattle.ent_runner.proofs.Common.{length-map, None, zero, suc, refl, sym, ◌++◌, replicate, ◌≢◌}
use Rattle.ent_runner.proofs.Common.{none-some, first_some, first_error}
use Rattle.ent_runner.specs.Runs.{HasReturned}
use Rattle.ent_runner.proofs.Lists.{at_within, all_flat, all_from_each, mapped_at, get_mapped}

-- what holds of the jobs of each worker, holds of each job
pub everywhere : (P : ℕ → Type 0) (total : ℕ) (ran : List (List ℕ))
    → IsPermutation (flat_map (λ mine. mine) ran) (range_with_len 0 total)
    → ((k : ℕ) (mine : List ℕ) → slice_get ran k ≡ Some mine → All P mine) → (n : ℕ) → n < total
    → P n
everywhere P total ran once each n less = search (
  rules,
  all_flat P (λ mine. mine) ran (all_from_each (λ mine. All P mine) ran each),
  All-permutation P (flat_map (λ mine. mine) ran) (range_with_len 0 total) once,
  get_or-range_with_len 0 total n 0,
  length-range_with_len 0 total,
)

-- if one of these is there, there is a first one
first_found : {X : Type 0} (xs : List (Option X)) (n : ℕ) (x : X) → get_or xs n None ≡ Some x
    → first_some xs ≢ None
first_found [] n x at = absurd (none-some x at)
first_found (None ∷ xs) zero x at = absurd (none-some x at)
first_found (None ∷ xs) (suc n) x at = first_found xs n x at
first_found (Some y ∷ xs) n x at = λ none. none-some y (sym none)

-- the first error of outputs behind which there are none
pub first_of : {O E : Type 0} (made : List (O × Option E)) (more : ℕ)
    → first_error (map Some made ++ replicate more None)
    ≡ first_some (map (λ (one : O × Option E). one.1) made)
first_of [] zero = refl
first_of [] (suc more) = first_of [] more
first_of ((output, None) ∷ made) more = first_of made more
first_of ((output, Some error) ∷ made) more = refl

-- it holds of the output of this job
abbrev pub HoldsAt : {O : Type 0} → (ℕ → O → Type 0) → List O → ℕ → Type 0
HoldsAt {O} P outputs n = (output : O) → slice_get outputs n ≡ Some output → P n output

module _ {O L : Type 0} where
  -- jobs that ended or stopped: each did one or the other
  module _ (may leave either : ℕ → L → O → L → Type 0)
      (ended : (n : ℕ) (a : L) (o : O) (b : L) → may n a o b
      → either n a o b) (stopped : (n : ℕ) (a : L) (o : O) (b : L) → leave n a o b → either n a o b)
      (outputs : List O) where
    all_ended : (a : L) (mine : List ℕ) (b : L) → DidAll may outputs a mine b
        → DidAll either outputs a mine b
    all_ended a [] b same = same
    all_ended a (n ∷ mine) b (j, (o, at, does), rest) =
        (j, (o, at, ended n a o j does), all_ended j mine b rest)

    pub did_either : (a : L) (mine : List ℕ) (b : L)
        → DidAll may outputs a mine b ⊎ DidUntil may leave outputs a mine b
        → DidAll either outputs a mine b
    did_either a mine b (inl did) = all_ended a mine b did
    did_either a mine b (inr did) = search (
      rules,
      did.numbers_are,
      FoldsTo-push (DoesAt either outputs) a did.earlier did.between did.last b
          (all_ended a did.earlier did.between did.ended),
      did.stopped,
      stopped did.last did.between,
    )

  -- what follows of the number of each job
  module _ (may : ℕ → L → O → L → Type 0) (outputs : List O) (Q : ℕ → Type 0)
      (holds : (n : ℕ) (a : L) (o : O) (b : L) → slice_get outputs n ≡ Some o → may n a o b → Q n)
    where
      pub held : (a : L) (mine : List ℕ) (b : L) → DidAll may outputs a mine b → All Q mine
      held a [] b did = All-nil Q
      held a (n ∷ mine) b (j, (o, at, does), rest) =
          All-cons Q n mine (holds n a o j at does) (held j mine b rest)

      pub each_held : (jobs : ℕ) (before after : List L) (ran : List (List ℕ))
          → length ran ≡ length before → length after ≡ length before
          → IsPermutation (flat_map (λ mine. mine) ran) (range_with_len 0 jobs)
          → OfEach ran before after (λ mine a b. DidAll may outputs a mine b) → (n : ℕ) → n < jobs
          → Q n
      each_held jobs before after ran teams same once did = everywhere Q jobs ran once (λ k mine at.
          let a = at_within before k (search (rules, slice_get_within ran k mine at)) in
          let b = at_within after k (search (rules, slice_get_within ran k mine at)) in
          held a.0 mine b.0 (did k mine a.0 b.0 at a.1 b.1))

  abbrev Either : (ℕ → L → O → L → Type 0) → (ℕ → L → O → L → Type 0) → ℕ → L → O → L → Type 0
  Either may leave n a o b = may n a o b ⊎ leave n a o b

  -- Each of the jobs that were broken off did one or the other.
  module _ (may leave : ℕ → L → O → L → Type 0) (jobs : ℕ) (before : List L)
      (left : List (Option O)) (after : List L)
      (same : length after ≡ length before)
      (done : AreBrokenOff may leave jobs before left after) where
    each_did : (Q : ℕ → Type 0)
        → ((n : ℕ) (a : L) (o : O) (b : L) → slice_get done.outputs n ≡ Some o
        → Either may leave n a o b → Q n)
        → (n : ℕ) → n < done.count → Q n
    each_did Q holds =
        each_held (Either may leave) done.outputs Q holds done.count before after done.ran
        done.run.each_worker same done.run.once
        (λ k mine a b x y z. did_either may leave (Either may leave)
        (λ n a o b it. inl it) (λ n a o b it. inr it) done.outputs a mine b
        (done.did k mine a b x y z))

  -- Jobs that were broken off, seen as what each system filled and returned: the systems stopped
  -- short.
  module _ {K E : Type 0} (may leave : ℕ → L → O → L → Type 0) (May : ℕ → K → Type 0)
      (Leave : ℕ → K → E → Type 0)
      (jobs : ℕ) (before : List L) (left : List (Option O)) (after : List L)
      (same : length after ≡ length before)
      (done : AreBrokenOff may leave jobs before left after) (seen : List K) (empty : K)
      (errors : List (Option E))
      (many : length seen ≡ done.count) (many_errors : length errors ≡ done.count)
      (ends : (n : ℕ) (a : L) (o : O) (b : L) → slice_get done.outputs n ≡ Some o → may n a o b
      → (get_or errors n None ≡ None) × May n (get_or seen n empty))
      (stops : (n : ℕ) (a : L) (o : O) (b : L) → slice_get done.outputs n ≡ Some o → leave n a o b
      → (error : E) × (get_or errors n None ≡ Some error) × Leave n (get_or seen n empty) error)
      (error : Option E) (first : error ≡ first_some errors) where
    abbrev EndedAt : ℕ → Type 0
    EndedAt n = get_or errors n None ≡ None

    ended_at : (n : ℕ) (a : L) (o : O) (b : L) → slice_get done.outputs n ≡ Some o → may n a o b
        → EndedAt n
    ended_at n a o b at did = (ends n a o b at did).0

    -- A worker did a job after another one only if that one had ended.
    in_turn : (a : L) (mine : List ℕ) (b : L)
        → DidAll may done.outputs a mine b ⊎ DidUntil may leave done.outputs a mine b
        → AllPairs (λ earlier later. EndedAt earlier) mine
    in_turn a mine b (inl did) = search (rules, held may done.outputs EndedAt ended_at a mine b did)
    in_turn a mine b (inr did) = grind (
      arith,
      common_steps,
      all_pairs_push,
      held may done.outputs EndedAt ended_at a did.earlier did.between did.ended,
    )

    abbrev Returned : ℕ → Type 0
    Returned n = HasReturned May Leave seen empty errors n (get_or errors n None)

    returned : (n : ℕ) (a : L) (o : O) (b : L) → slice_get done.outputs n ≡ Some o
        → Either may leave n a o b → Returned n
    returned n a o b at (inl did) = let e = ends n a o b at did in rw e.0 e.1
    returned n a o b at (inr did) = let s = stops n a o b at did in rw s.1 s.2

    -- A job that stopped returned an error.
    why : (worker : ℕ)
        → ((mine : List ℕ) × (a : L) × (b : L) × (slice_get done.ran worker ≡ Some mine)
        × (slice_get before worker ≡ Some a) × (slice_get after worker ≡ Some b)
        × DidUntil may leave done.outputs a mine b) → first_some errors ≢ None
    why worker s =
        let d = s.6 in
        let o = d.stopped in
        let e = stops d.last d.between o.0 s.2 o.1 o.2 in
        first_found errors d.last e.0 e.1

    pub stop_short : StopShort May Leave seen empty errors jobs done.count done.ran error
    stop_short = record {
      within = done.within;
      some = done.some;
      each_output = many;
      each_error = many_errors;
      each_system = each_did may leave jobs before left after same done Returned returned;
      ended = λ worker mine at.
          let within = slice_get_within done.ran worker mine at in
          let a = at_within before worker (omega (arith, within, done.run.each_worker)) in
          let b = at_within after worker (omega (arith, within, done.run.each_worker, same)) in
          in_turn a.0 mine b.0 (done.did worker mine a.0 b.0 at a.1 b.1);
      first = first;
      left =
          λ none.
          ⊎_elim (λ s. absurd (why s.0 (s.1, s.2, s.3, s.4, s.5, s.6, s.7) (rw first at none)))
          (λ less. less) done.why;
      busy = done.busy;
    }

  abbrev Alone : (ℕ → O → Type 0) → ℕ → L → O → L → Type 0
  Alone P number before output after = P number output

  pub each_done : (P : ℕ → O → Type 0) (jobs : ℕ) (before : List L) (outputs : List O)
      (after : List L) → length after ≡ length before → AreDone (Alone P) jobs before outputs after
      → (n : ℕ) → n < jobs → HoldsAt P outputs n
  each_done P jobs before outputs after same done n less output at =
      rw (get_or_from_slice_get outputs n output output at)
      at (each_held (Alone P) outputs (λ m. P m (get_or outputs m output))
      (λ m a o b there it. rw (get_or_from_slice_get outputs m o output there) it) jobs before after
      done.ran
      done.run.each_worker same done.run.once done.did n less)

  pub each_either : (P Q : ℕ → O → Type 0) (jobs : ℕ) (before : List L) (left : List (Option O))
      (after : List L) → length after ≡ length before
      → (done : AreBrokenOff (Alone P) (Alone Q) jobs before left after) → (n : ℕ) → n < done.count
      → HoldsAt (λ m output. P m output ⊎ Q m output) done.outputs n
  each_either P Q jobs before left after same done n less output at =
      let outputs : List O = done.outputs in
      let here : (m : ℕ) (o : O) → slice_get outputs m ≡ Some o → get_or outputs m output ≡ o =
      λ m o there. get_or_from_slice_get outputs m o output there in
      rw (here n output at) at (each_did (Alone P) (Alone Q) jobs before left after same done
      (λ m. P m (get_or outputs m output) ⊎ Q m (get_or outputs m output))
      (λ m a o b there it. rw (here m o there) it) n less)

-- What jobs did is what they did with one part of their outputs.
pub did_mapped : {X O L : Type 0} (f : X → O) (from : ℕ → L → X → L → Type 0)
    (to : ℕ → L → O → L → Type 0)
    → ((n : ℕ) (a : L) (x : X) (b : L) → from n a x b → to n a (f x) b)
    → (outputs : List X) (a : L) (mine : List ℕ) (b : L) → DidAll from outputs a mine b
    → DidAll to (map f outputs) a mine b
did_mapped f from to each outputs a [] b same = same
did_mapped f from to each outputs a (n ∷ mine) b (j, (x, at, does), rest) = (
  j,
  (f x, get_mapped f outputs n x at, each n a x j does),
  did_mapped f from to each outputs j mine b rest,
)

-- Jobs whose outputs were made with no error made them.
pub done_made : {O E L : Type 0} (may : ℕ → L → O → L → Type 0) (jobs : ℕ) (before : List L)
    (made : List (O × Option E)) (after : List L) → AreDone (Ended may) jobs before made after
    → AreDone may jobs before (map (λ (one : O × Option E). one.0) made) after
done_made may jobs before made after done = record {
  ran = done.ran;
  run = done.run;
  count = length-map made (λ one. one.0) ∙ done.count;
  did =
      λ worker mine a b at at_a at_b.
      did_mapped (λ one. one.0) (Ended may) may (λ n a one b it. it.1) made a mine b
      (done.did worker mine a b at at_a at_b);
}

-- What was done with what was lent says this of the part that is seen.
module _ {O L K : Type 0} (f : L → K) (may : ℕ → K → O → K → Type 0) (done : ℕ → L → O → L → Type 0)
    (ended : (n : ℕ) (a : L) (o : O) (b : L) → done n a o b → may n (f a) o (f b)) where
  did_seen : (outputs : List O) (mine : List ℕ) (a b : L) → DidAll done outputs a mine b
      → DidAll may outputs (f a) mine (f b)
  did_seen outputs [] a b same = ap f same
  did_seen outputs (n ∷ mine) a b (j, (o, at, does), rest) =
      (f j, (o, at, ended n a o j does), did_seen outputs mine j b rest)

  pub done_seen : (jobs : ℕ) (before : List L) (outputs : List O) (after : List L)
      → AreDone done jobs before outputs after
      → AreDone may jobs (map f before) outputs (map f after)
  done_seen jobs before outputs after all = record {
    ran = all.ran;
    run = rw (length-map before f) all.run;
    count = all.count;
    did =
        λ worker mine a b at at_a at_b.
        search (rules, all.did worker mine, mapped_at, did_seen outputs mine);
  }

  module _ (leave : ℕ → K → O → K → Type 0) (left : ℕ → L → O → L → Type 0)
      (stopped : (n : ℕ) (a : L) (o : O) (b : L) → left n a o b → leave n (f a) o (f b)) where
    until_seen : (outputs : List O) (mine : List ℕ) (a b : L) → DidUntil done left outputs a mine b
        → DidUntil may leave outputs (f a) mine (f b)
    until_seen outputs mine a b did = record {
      earlier = did.earlier;
      last = did.last;
      numbers_are = did.numbers_are;
      between = f did.between;
      ended = did_seen outputs did.earlier a did.between did.ended;
      stopped = (
        did.stopped.0,
        did.stopped.1,
        stopped did.last did.between did.stopped.0 b did.stopped.2,
      );
    }

    pub broken_off_seen : (jobs : ℕ) (before : List L) (left_out : List (Option O)) (after : List L)
        → AreBrokenOff done left jobs before left_out after
        → AreBrokenOff may leave jobs (map f before) left_out (map f after)
    broken_off_seen jobs before left_out after all = record {
      ran = all.ran;
      count = all.count;
      run = rw (length-map before f) all.run;
      within = all.within;
      some = all.some;
      outputs = all.outputs;
      each_output = all.each_output;
      left_are = all.left_are;
      did =
          λ worker mine a b at at_a at_b.
          search (
            rules,
            all.did worker mine,
            mapped_at,
            did_seen all.outputs mine,
            until_seen all.outputs mine,
          );
      why = ⊎_elim (λ s. inl (search (
        rules,
        s,
        get_mapped f before s.0 s.2 s.5,
        get_mapped f after s.0 s.3 s.6,
        until_seen all.outputs s.1 s.2 s.3 s.7,
      ))) inr all.why;
      busy = all.busy;
    }
