-- Jobs whose outputs are lists, each of which adds to the record of its worker's reserver: what
-- workers have added that did such jobs, and what is known of the history of their reservers.
use Rattle.ent_runner.proofs.Common.{All, get_or, subst, slice_get, [], zero, suc, List, Some, ap}
use Rattle.ent_runner.proofs.Common.{arith, inl, inr, length, map, refl, rules, sym, ℕ, ◌++◌, ◌+◌}
use Rattle.ent_runner.proofs.Common.{◌-◌, ◌<◌, ◌∙◌, ◌∷◌, ◌≡◌, ◌⊎◌, All-map, get_or_from_slice_get}
use Rattle.ent_runner.proofs.Common.{slice_get_within, flat_map, range_with_len, IsPermutation}
use Rattle.ent_runner.proofs.Common.{Call, Allocator, all_sorted, as_call, history_of, own_of_all}
use Rattle.ent_runner.proofs.Common.{reservations_of, opened, own_reservations, opened_records}
use Rattle.ent_runner.proofs.Common.{Record, Own, Reservation, DidAll, DidUntil, Ended, OfEach}
use Rattle.ent_runner.proofs.Common.{Option, Stopped}
use Rattle.ent_runner.proofs.Lists.{at_within, all_flat}
use Rattle.ent_runner.proofs.EachOutput.{did_either, did_mapped, each_held}

-- the reservations of a record that was opened, and has met nobody
pub own_mapped : (rs : List Reservation) → own_reservations (map Own rs) ≡ rs
own_mapped [] = refl
own_mapped (r ∷ rs) = ap (λ more. r ∷ more) (own_mapped rs)

opened_get : (start : Allocator) (number count k : ℕ) → k < count
    → slice_get (opened_records start number count) k ≡ Some (opened start (number + k))
unfolding opened_records
opened_get start number zero k less = absurd (omega arith)
opened_get start number (suc count) zero less = ap (λ n. Some (opened start n)) (omega arith)
opened_get start number (suc count) (suc k) less =
    opened_get start (number + 1) count k (omega arith)
    ∙ ap (λ n. Some (opened start n)) (omega arith)

module _ {E : Type 0} (Adds : Record → List E → Record → Type 0) where
  -- a job that adds its output, which is as it may be
  abbrev pub Does : (ℕ → List E → Type 0) → ℕ → Record → List E → Record → Type 0
  Does P n before output after = Adds before output after × P n output

  -- one that adds its output, which is as it may be with this error
  abbrev pub Leaves : {F : Type 0} → (ℕ → List E → F → Type 0) → ℕ → Record → List E → F → Record
      → Type 0
  Leaves Q n before output error after = Adds before output after × Q n output error

  module _ {F : Type 0} (P : ℕ → List E → Type 0) (Q : ℕ → List E → F → Type 0)
      (made : List (List E × Option F)) where
    abbrev pub Either : ℕ → List E → Type 0
    Either n output = P n output ⊎ ((error : F) × Q n output error)

    pub all_either : (a : Record) (mine : List ℕ) (b : Record)
        → DidAll (Ended (Does P)) made a mine b
        ⊎ DidUntil (Ended (Does P)) (Stopped (Leaves Q)) made a mine b
        → DidAll (Does Either) (map (λ (one : List E × Option F). one.0) made) a mine b
    all_either a mine b did = did_mapped (λ (one : List E × Option F). one.0)
        (λ n a one b. Does Either n a one.0 b) (Does Either) (λ n a one b it. it) made a mine b
        (did_either (Ended (Does P)) (Stopped (Leaves Q)) (λ n a one b. Does Either n a one.0 b)
        (λ n a one b it. (it.1.0, inl it.1.1)) (λ n a one b it. (it.2.0, inr (it.0, it.2.1))) made a
        mine b did)

  module _ (nothing : (a : Record) → Adds a [] a)
      (joined : (a b c : Record) (xs ys : List E) → Adds a xs b
      → Adds b ys c → Adds a (xs ++ ys) c) (P : ℕ → List E → Type 0) (outputs : List (List E)) where
    -- what a worker has added with all its jobs
    added : (a : Record) (mine : List ℕ) (b : Record) → DidAll (Does P) outputs a mine b
        → Adds a (flat_map (λ n. get_or outputs n []) mine) b
    added a [] b same = subst (Adds a []) same (nothing a)
    added a (n ∷ mine) b (j, (o, at, does), rest) = joined a j b _ _
        (rw (get_or_from_slice_get outputs n o [] at) does.0) (added j mine b rest)

    module _ (start : Allocator) (workers : ℕ) (opens records : List Record)
        (opened_are : opens ≡ opened_records start 0 workers) (many : length opens ≡ workers)
        (long : length records ≡ workers) (ran : List (List ℕ)) (teams : length ran ≡ length opens)
        (did : OfEach ran opens records (λ mine a b. DidAll (Does P) outputs a mine b)) where
      pub added_at : (k : ℕ) (mine : List ℕ) → slice_get ran k ≡ Some mine → (r : Record)
          × (slice_get records k ≡ Some r)
          × Adds (opened start k) (flat_map (λ n. get_or outputs n []) mine) r
      added_at k mine at =
          let r = at_within records k (search (rules, slice_get_within ran k mine at)) in (
            r.0,
            r.1,
            added (opened start k) mine r.0
                (did k mine (opened start k) r.0 at
                (search (rules, opened_get, slice_get_within ran k mine at)) r.1),
          )

      -- what is so of each worker's own reservations is so of all
      pub of_each : (Q : Call → Type 0) → ((k : ℕ) (xs : List E) (r : Record) → k < workers
          → Adds (opened start k) xs r → All (λ c. Q (as_call c)) (own_reservations r.entries))
          → All Q (history_of records)
      of_each Q own =
          All-map Q as_call (reservations_of records)
          (all_sorted (λ c. Q (as_call c)) (own_of_all records)
          (all_flat (λ c. Q (as_call c)) (λ (r : Record). own_reservations r.entries) records
          (λ k d within i e inner.
          let mine = at_within ran k (omega (arith, teams, many, long)) in
          let r = added_at k mine.0 mine.1 in
          let less : k < workers =
          omega (arith, many, teams, slice_get_within ran k mine.0 mine.1) in
          search (rules, get_or_from_slice_get records k r.0 d r.1, own k _ r.0 less r.2 i e))))

      -- the history has no calls of others
      pub ours : ((k : ℕ) (xs : List E) (r : Record) → Adds (opened start k) xs r
          → All (λ (c : Reservation). c.caller ≡ k) (own_reservations r.entries))
          → All (λ (call : Call). call.caller < workers) (history_of records)
      ours own = of_each (λ call. call.caller < workers)
          (λ k xs r less adds i e within. rw (own k xs r adds i e within) less)

      -- each output is as it may be
      pub each_may : (jobs : ℕ)
          → IsPermutation (flat_map (λ mine. mine) ran) (range_with_len 0 jobs) → (n : ℕ) → n < jobs
          → P n (get_or outputs n [])
      each_may jobs once = each_held (Does P) outputs (λ n. P n (get_or outputs n []))
          (λ n a o b at it. rw (get_or_from_slice_get outputs n o [] at) it.1) jobs opens records
          ran teams
          (long ∙ sym many) once did
