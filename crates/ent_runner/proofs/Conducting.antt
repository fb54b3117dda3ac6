-- What the workers of a crew have done together, once all of them are back.
use Rattle.ent_runner.proofs.Common.{common_steps, rules, ◌≡◌, ℕ, ◌<◌, ◌≤◌, List, [], ◌∷◌, ◌++◌}
use Rattle.ent_runner.proofs.Common.{length, map, get_or, refl, ap, sym, ◌∙◌, arith, Option, Some}
use Rattle.ent_runner.proofs.Common.{None, false, Bool, take, drop, inl, inr, true, ◌⊎◌, Vec}
use Rattle.ent_runner.proofs.Common.{Global, reverse, slice_get, replicate, IsSome}
use Rattle.ent_runner.proofs.Common.{◌-◌, vec_capacity, All, AllPairs}
use Rattle.ent_runner.proofs.Common.{flat_map, range_with_len, IsPermutation, cases_lt}
use Rattle.ent_runner.proofs.Common.{slice_get_within, get_or_from_slice_get, slice_get-get_or}
use Rattle.ent_runner.proofs.Common.{length-map, length-append, take-append-le, take_all}
use Rattle.ent_runner.proofs.Common.{length-replicate, map-append, length-reverse, flat_map-map}
use Rattle.ent_runner.proofs.Common.{All-permutation, IsPermutation-reverse, length_permutation}
use Rattle.ent_runner.proofs.Common.{length-range_with_len, All-map, All-left, Claims, Claimer}
use Rattle.ent_runner.proofs.Common.{AreFirst, IsClaimerOf, outputs_put, AreDone, AreBrokenOff}
use Rattle.ent_runner.proofs.Common.{AreRun, DidAll, DidUntil, Done, Worker, HasWorked}
use Rattle.ent_runner.proofs.Common.{HaveAllWorked, HaveDoneFirst, HasClaimed, OfEach, IsUnused}
use Rattle.ent_runner.proofs.Common.{IsRoomForOne, IsLostFor, numbers_of, all_done, IsRoom}
use Rattle.ent_runner.proofs.Common.{All-right}
use Rattle.ent_runner.proofs.Lists.{of_mapped, each_of_all, mapped_at, same_flat, get_mapped}
use Rattle.ent_runner.proofs.Lists.{map_flat, at_within, flat_all}
use Rattle.ent_runner.proofs.Outputs.{length_put, put_first, full, left_out, long, outputs_at}
use Rattle.ent_runner.proofs.Outputs.{unwrapped, kept_all}

-- a slice of the same length that was written back
pub written_back : {X : Type 0} (n : ℕ) (old new : List X) → n ≡ length old
    → length new ≡ length old → take n (new ++ drop (length new) old) ≡ new
written_back n old new n_is same = search (rules, take-append-le, take_all)

module _ {O : Type 0} where
  -- A crew is made: its claims are open, its workers are ready, and there is room for all outputs.
  pub room_of : {P : Type 0} (claims seen : Claims) (jobs workers : ℕ) (team : List (Worker O))
      (fresh : List Claimer) (claimers : Vec Claimer Global) (by_number : List (Option O))
      (outputs : Vec P Global) → claims ≡ seen → claims.numbers ≡ jobs → claims.workers ≡ workers
      → 0 < workers → length fresh ≡ workers → All (IsClaimerOf claims) fresh → All IsUnused fresh
      → map (λ (w : Worker O). w.claimer) team ≡ reverse fresh
      → All (λ (w : Worker O). IsRoomForOne w.done) team → claimers.items ≡ []
      → length fresh ≤ vec_capacity claimers → by_number ≡ replicate jobs None → outputs.items ≡ []
      → jobs ≤ vec_capacity outputs → IsRoom seen team claimers by_number outputs
  room_of claims seen jobs workers team fresh claimers by_number outputs same numbers many some
      count own unused theirs
      empty none fits without outputs_none outputs_fit = search (
        rules,
        All-permutation (λ c. IsClaimerOf claims c × IsUnused c) fresh (reverse fresh)
            (IsPermutation-reverse fresh),
        of_mapped (λ c. IsClaimerOf claims c × IsUnused c) (λ (w : Worker O). w.claimer) team,
        length-map team (λ (w : Worker O). w.claimer),
        length-reverse fresh,
        ap length theirs,
      )

  abbrev claimers_of : List (Worker O) → List Claimer
  claimers_of team = map (λ (w : Worker O). w.claimer) team

  -- What is known of workers that have claimed.
  module _ (claims : Claims) (team : List (Worker O)) (each : All (HasClaimed claims) team) where
    pub claimers_own : All (IsClaimerOf claims) (map (λ (w : Worker O). w.claimer) team)
    claimers_own = All-map (IsClaimerOf claims) _ team (λ k d within. (each k d within).claimer)

    -- each job has a number that there is
    pub numbers_below :
        All (λ (w : Worker O). All (λ (d : Done O). d.number < claims.numbers) w.done.items) team
    numbers_below k w within =
        search (
          rules,
          of_mapped (λ n. n < claims.numbers) (λ (d : Done O). d.number)
              (get_or team k w).done.items,
          each k w within,
        )

  -- A worker did a job, if some are left: else it had found none left.
  busy_all : (claims : Claims) (team : List (Worker O)) → All (HasClaimed claims) team
      → (claimers : List Claimer) → claimers ≡ map (λ (w : Worker O). w.claimer) team
      → (first : AreFirst claims.numbers claimers) → first.count < claims.numbers
      → All (λ (w : Worker O). 0 < length w.done.items) team
  busy_all claims team each claimers theirs first less k d within = grind (
    arith,
    common_steps,
    each k d within,
    first.whole k (get_or team k d).claimer,
    get_mapped (λ (w : Worker O). w.claimer) team k _ (slice_get-get_or team k d within),
  )

  -- So some were done, if there are any.
  some_ran : (numbers count : ℕ) (team : List (Worker O)) → 0 < length team
      → IsPermutation (numbers_of (all_done team)) (range_with_len 0 count)
      → (count < numbers → All (λ (w : Worker O). 0 < length w.done.items) team) → 0 < numbers
      → 0 < count
  some_ran numbers count [] many once busy less = absurd (omega arith)
  some_ran numbers count (w ∷ team) many once busy less = grind (
    arith,
    common_steps,
    length_permutation _ _ once,
    length-range_with_len,
    length-map,
    length-append,
    cases_lt count numbers,
    λ (left : count < numbers). busy left 0 w (omega arith),
  )

  pub first_closed : (claims : Claims) (team : List (Worker O)) → All (HasClaimed claims) team
      → (claimers : List Claimer) → claimers ≡ map (λ (w : Worker O). w.claimer) team
      → 0 < length team → AreFirst claims.numbers claimers → HaveDoneFirst claims.numbers team
  first_closed claims team each claimers theirs many first = search (
    rules,
    map_flat,
    same_flat,
    flat_map-map,
    busy_all claims team each claimers theirs first,
    some_ran claims.numbers first.count team,
    first,
    each,
  )

  abbrev no_output : Option O
  no_output = None

  abbrev by_number : ℕ → List (Worker O) → List (Option O)
  by_number numbers team = outputs_put (all_done team) (replicate numbers None)

  module _ (numbers : ℕ) (team : List (Worker O)) (first : HaveDoneFirst numbers team) where
    -- if each job has an output, all were done
    pub all_ran : (outputs : List O) → map Some outputs ≡ by_number numbers team
        → first.count ≡ numbers
    all_ran outputs each = search (
      rules,
      arith,
      cases_lt first.count numbers,
      first.within,
      left_out first.count (all_done team) first.once numbers first.count no_output,
      slice_get-get_or (by_number numbers team) first.count no_output,
      length_put,
      length-replicate,
      mapped_at Some outputs first.count no_output,
    )

    counted : length (all_done team) ≡ first.count
    counted = search (
      rules,
      length_permutation _ _ first.once,
      length-range_with_len 0 first.count,
      length-map (all_done team) (λ (d : Done O). d.number),
    )

    -- if none lacks, each job has an output
    pub all_there : numbers - length (all_done team) ≡ 0 → All IsSome (by_number numbers team)
    all_there none =
        let all : first.count ≡ numbers = omega (arith, counted, first.within, none) in
        rw all at (full first.count (all_done team) first.once)

  -- the outputs by number after all were put in, as they are written back
  pub outputs_back : (count n : ℕ) (done : List (Done O)) (start new : List (Option O))
      → start ≡ replicate count None → n ≡ length start → new ≡ outputs_put done start
      → take n (new ++ drop (length new) start) ≡ outputs_put done (replicate count None)
  outputs_back count n done start new empty n_is put = search (rules, length_put, written_back)

  -- what all workers together have done
  module _ {L : Type 0} (may leave : ℕ → L → O → L → Type 0) (may_have : L → Type 0)
      (claims : Claims)
      (before after : List L) (team : List (Worker O))
      (worked : HaveAllWorked may leave may_have claims before after
      team) where
    worked_at : (k : ℕ) (w : Worker O) (a b : L) → slice_get team k ≡ Some w
        → slice_get before k ≡ Some a
        → slice_get after k ≡ Some b → HasWorked may leave may_have claims a b w
    worked_at k w a b at_w at_a at_b =
        search (rules, get_or_from_slice_get, worked.each k a b w, slice_get_within)

    pub stay : All may_have after
    stay k d within =
        let a = at_within before k (omega (arith, worked.lent)) in
        let w = at_within team k (omega (arith, worked.count, worked.lent)) in
        search (rules, worked_at k w.0 a.0, a.1, w.1, slice_get-get_or)

    pub all_claimed : All (HasClaimed claims) team
    all_claimed k d within =
        let a = at_within before k (omega (arith, worked.count)) in
        let b = at_within after k (omega (arith, worked.lent, worked.count)) in
        search (
          rules,
          worked_at k (get_or team k d) a.0 b.0,
          a.1,
          b.1,
          slice_get-get_or,
          length-append,
        )

    abbrev ran : List (List ℕ)
    ran = map (λ (w : Worker O). numbers_of w.done.items) team

    ran_flat : flat_map (λ mine. mine) ran ≡ numbers_of (all_done team)
    ran_flat = search (rules, flat_map-map, map_flat)

    rising : All (AllPairs (λ m n. m < n)) ran
    rising =
        All-map (AllPairs (λ m n. m < n)) (λ (w : Worker O). numbers_of w.done.items) team
        (search (rules, all_claimed))

    long_ran : length ran ≡ length before
    long_ran = length-map team _ ∙ worked.count

    runs : (count : ℕ) → IsPermutation (numbers_of (all_done team)) (range_with_len 0 count)
        → AreRun (length before) count ran
    runs count once = record { each_worker = long_ran; once = rw ran_flat once; rising = rising }

    module _ (outputs : List O)
        (at : All (λ (d : Done O). slice_get outputs d.number ≡ Some d.output) (all_done team))
        (k : ℕ) (w : Worker O) (a b : L) (at_w : slice_get team k ≡ Some w)
        (at_a : slice_get before k ≡ Some a)
        (at_b : slice_get after k ≡ Some b) where
      own_at : All (λ (d : Done O). slice_get outputs d.number ≡ Some d.output) w.done.items
      own_at =
          search (
            rules,
            each_of_all
                (λ (w : Worker O). All (λ (d : Done O). slice_get outputs d.number ≡ Some d.output)
                w.done.items) team k w,
            flat_all (λ (d : Done O). slice_get outputs d.number
                ≡ Some d.output) (λ (w : Worker O). w.done.items) team,
          )

      ended_by : w.stopped ≡ false → DidAll may outputs a (numbers_of w.done.items) b
      ended_by going =
          kept_all may outputs a w.done.items b own_at
          ((worked_at k w a b at_w at_a at_b).ended going)

      -- one whose last job stopped
      stopped_by : w.stopped ≡ true → DidUntil may leave outputs a (numbers_of w.done.items) b
      stopped_by stopped =
          let At : Done O → Type 0 = λ (d : Done O). slice_get outputs d.number ≡ Some d.output in
          let s = (worked_at k w a b at_w at_a at_b).stopped stopped in
          search (
            rules,
            s,
            own_at,
            kept_all may outputs a s.earlier s.between,
            All-left At s.earlier (s.last ∷ []),
            All-right At s.earlier (s.last ∷ []),
            map-append,
          )

      either_by : (stopped : Bool) → w.stopped ≡ stopped
          → DidAll may outputs a (numbers_of w.done.items) b
          ⊎ DidUntil may leave outputs a (numbers_of w.done.items) b
      either_by false is = inl (ended_by is)
      either_by true is = inr (stopped_by is)

    pub are_done : (first : HaveDoneFirst claims.numbers team)
        → All (λ (w : Worker O). w.stopped ≡ false) team → (outputs : List O)
        → map Some outputs ≡ by_number claims.numbers team
        → AreDone may claims.numbers before outputs after
    are_done first going outputs each =
        let all = all_ran claims.numbers team first outputs each in
        let once : IsPermutation (numbers_of (all_done team)) (range_with_len 0 claims.numbers) =
        rw (sym all)
        first.once in
        let ended =
        ended_by outputs (outputs_at claims.numbers (all_done team) once outputs each) in
        let did : OfEach ran before after (λ mine a b. DidAll may outputs a mine b) =
        λ k mine a b is at_a at_b.
        let w = mapped_at _ team k mine is in
        rw (sym w.2) (ended k w.0 a b w.1 at_a at_b (search
        (rules, going, each_of_all (λ (w : Worker O). w.stopped ≡ false) team k w.0))) in
        search (
          rules,
          runs claims.numbers once,
          long claims.numbers (all_done team) once outputs each,
          did,
        )

    pub are_broken_off : HaveDoneFirst claims.numbers team → IsLostFor claims.numbers team
        → (left : List (Option O)) → left ≡ by_number claims.numbers team
        → AreBrokenOff may leave claims.numbers before left after
    are_broken_off first lost left left_is =
        let there =
        unwrapped (by_number first.count team) (full first.count (all_done team) first.once) in
        let at = outputs_at first.count (all_done team) first.once there.0 there.1 in
        let did : OfEach ran before after (λ mine a b. DidAll may there.0 a mine b
        ⊎ DidUntil may leave there.0 a mine b) = λ k mine a b is at_a at_b.
        let w = mapped_at (λ (w : Worker O). numbers_of w.done.items) team k mine is in
        rw (sym w.2) (either_by there.0 at k w.0 a b w.1 at_a at_b w.0.stopped refl) in
        let busy = λ (less : first.count < claims.numbers). All-map (λ mine. 0 < length mine)
        (λ (w : Worker O). numbers_of w.done.items) team (search (rules, first.busy, length-map)) in
        search (
          rules,
          first,
          runs first.count first.once,
          long first.count (all_done team) first.once there.0 there.1,
          left_is ∙ put_first first.count (all_done team) first.once claims.numbers first.within
              ∙ ap (λ them. them ++ replicate (claims.numbers - first.count) None) (sym there.1),
          did,
          why first there.0 at lost,
          busy,
        )
      where
        why : (first : HaveDoneFirst claims.numbers team) (outputs : List O)
            → All (λ (d : Done O). slice_get outputs d.number ≡ Some d.output) (all_done team)
            → IsLostFor claims.numbers team
            → ((worker : ℕ) × (mine : List ℕ) × (a : L) × (b : L)
            × (slice_get ran worker ≡ Some mine) × (slice_get before worker ≡ Some a)
            × (slice_get after worker ≡ Some b) × DidUntil may leave outputs a mine b)
            ⊎ (first.count < claims.numbers)
        why first outputs at (inl (k, w, within, at_k, stopped)) =
            let at_w = slice_get-get_or team k w within ∙ ap Some at_k in
            let a = at_within before k (omega (arith, worked.count)) in
            let b = at_within after k (omega (arith, worked.lent, worked.count)) in
            let mine = get_mapped (λ (w : Worker O). numbers_of w.done.items) team k w at_w in
            inl (
              k,
              _,
              a.0,
              b.0,
              mine,
              a.1,
              b.1,
              stopped_by outputs at k w a.0 b.0 at_w a.1 b.1 stopped,
            )
        why first outputs at (inr less) =
            inr
            (search (
              rules,
              length_permutation _ _ first.once,
              length-range_with_len 0 first.count,
              length-map,
            ))

    -- a worker that has stopped has done a job
    pub some_jobs : IsLostFor claims.numbers team → 0 < claims.numbers
    some_jobs (inr less) = omega arith
    some_jobs (inl (k, w, within, at, stopped)) = grind
        (arith, common_steps, slice_get-get_or, each_of_all, all_claimed, numbers_below, at_within)
