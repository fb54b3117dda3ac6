-- What a test of a machine's answer tells, and what a refusal for lack of memory has to be.
use Rattle.ent_replay.proofs.Common.{allocator_is, rules, ◌≡◌, sym, ◌∙◌, ℕ, ◌<◌, true, false, List}
use Rattle.ent_replay.proofs.Common.{◌∷◌, drop, slice_get, Option, Some, None, Result, Ok, Err}
use Rattle.ent_replay.proofs.Common.{arith, option_map, is_some, OnOk, OnErr, is_err, next}
use Rattle.ent_replay.proofs.Common.{Allocator, Outcome, ReplayFault, MachineState, Returned}
use Rattle.ent_replay.proofs.Common.{event_takes_memory, Makes, machine_state, AreConsistent}
use Rattle.ent_replay.proofs.Common.{nat_cmp, StoredCall, none, Step, cond-true, cond-false}
use Rattle.ent_replay.proofs.Common.{All-nil, ap, ◌+◌, ◌^◌, ◌≤◌, inl, inr, unwrap_or, FinMap}
use Rattle.ent_replay.proofs.Common.{get-empty, len-empty, empty_of_len, nat_tests, Handle, quota}
use Rattle.ent_replay.proofs.Common.{born, after_alloc, after_free, after_flush, IsSound}
use Rattle.ent_replay.proofs.Common.{after_alloc-sound, after_free-sound, after_flush-sound}
use Rattle.ent_replay.proofs.Common.{OpenCall, is_busy, on_alloc, on_free, on_flush, alloc_front}
use Rattle.ent_replay.proofs.Common.{callers, sum_below, all_held, map_values, open_call_of}
use Rattle.ent_replay.proofs.Common.{awaited, cases_eq, get-remove, pos, ◌-ℤ◌, nat_lt, ints}
use Rattle.ent_replay.proofs.Common.{same_Some, none-some, ℕ_discrete, Span, cursor, reply_from}
use Rattle.ent_replay.proofs.Common.{pool_at, after_take, available-after_take, after_take-sound}
use Rattle.ent_replay.proofs.Common.{made-after_take, asked-after_take, top-after_take}
use Rattle.ent_replay.proofs.Common.{cursor-after_take, reply-cursor, on_begin, on_step, on_answer}
use Rattle.ent_replay.proofs.Common.{left_of, reported, unasked, HasPassed}
use Rattle.std.specs.FinMap as finite
use Rattle.ent_replay.specs.declared.fault.ReplayFault.TheVariants as fault
use Rattle.ent_replay.proofs.Tables.{no_test, sum_below-bound, sum_below-none, maps_alike}
use Rattle.ent_replay.proofs.Tables.{get-map_values, map_values-empty, nothing_in, get-inserted}
use Rattle.ent_replay.proofs.Tables.{get-insert_other, get-removed, get-remove_other}
use Rattle.ent_replay.proofs.Tables.{map_values-insert, on_inserted, on_removed, sum_below-changed}
use Rattle.ent_replay.proofs.Tables.{sum_below-part}
use Rattle.std.specs.FinSet as set
use Rattle.ent_alloc.specs.Spent as given
use Rattle.ent_replay.specs.declared.outcome.Outcome.TheVariants as outcome
use Rattle.ent_replay.specs.declared.event.Event.TheVariants as event
use Rattle.ent_replay.proofs.Histories.{all_held-none, all_held-next}

-- The machine did what the step says, or refused for lack of memory: told of the values that a
-- contract sees.
pub done : (on : MachineState → Returned) {inside now : MachineState} → inside ≡ now
    → {result answer : Result Outcome ReplayFault} → result ≡ answer → {after next : MachineState}
    → after ≡ next → on inside ≡ (answer, next) → Makes (on now) now result after
done on view is is_next step = search rules

-- It found a fault, and changed nothing.
pub faulty : (on : MachineState → Returned) {inside now : MachineState} → inside ≡ now
    → (why : ReplayFault) → on inside ≡ (Err why, inside) → Makes (on now) now (Err why) now
faulty on view why = search (rules, done)

pub refused : (on : MachineState → Returned) {inside now : MachineState} → inside ≡ now
    → {result : Result Outcome ReplayFault} → result ≡ Err fault.Memory → {after : MachineState}
    → after ≡ inside → event_takes_memory inside (on inside).0 ≡ true
    → Makes (on now) now result after
refused on view is unchanged takes = search rules

-- The same of an event that the allocator alone decides.
module _ (on : MachineState → Returned) (s : Allocator) (spent : finite.FinMap nat_cmp ℕ)
    (calls : finite.FinMap nat_cmp StoredCall) (now : MachineState)
    (view : machine_state s spent calls ≡ now)
    (result : Result Outcome ReplayFault) (new : Allocator) where
  pub allocator_did : (answer : Result Outcome ReplayFault) → result ≡ answer → (next : Allocator)
      → new ≡ next
      → on (machine_state s spent calls) ≡ (answer, machine_state next spent calls)
      → Makes (on now) now result (machine_state new spent calls)
  allocator_did answer is next is_next step = search rules

  pub allocator_refused : result ≡ Err fault.Memory → new ≡ s
      → event_takes_memory (machine_state s spent calls) (on (machine_state s spent calls)).0 ≡ true
      → Makes (on now) now result (machine_state new spent calls)
  allocator_refused is unchanged takes = search rules

-- what is consistent of an allocator is so under another name
pub consistent_as : {s t : Allocator} {spent : finite.FinMap nat_cmp ℕ}
    {calls : finite.FinMap nat_cmp StoredCall} → t ≡ s → AreConsistent s spent calls
    → AreConsistent t spent calls
consistent_as {s} {t} {spent} {calls} is h = rw is h

-- what a test of an answer tells
pub some_of : {X : Type 0} (o : Option X) → true ≡ is_some o → (x : X) × (o ≡ Some x)
some_of it is = search (rules, no_test)

pub none_of : {X : Type 0} (o : Option X) → false ≡ is_some o → o ≡ None
none_of it is = search (rules, no_test)

pub on_ok : {T E : Type 0} {P : Type 0} (r : Result T E) → false ≡ is_err r → OnOk r P → P
on_ok it is holds = search (rules, no_test)

pub on_err : {T E : Type 0} {P : Type 0} (r : Result T E) → true ≡ is_err r → OnErr r P → P
on_err it is holds = search (rules, no_test)

-- nothing was asked for
pub flushed : {asked : ℕ} → ¬ (0 < asked) → asked ≡ 0
flushed none = omega arith

-- an answer is no refusal
pub ok_not_err : {T E : Type 0} (x : T) (e : E) → Ok x ≡ Err e → ⊥
ok_not_err x e is = cc

-- and one refusal is no other
pub not_other : {T E : Type 0} (x why other : E) → x ≡ why → ¬ (why ≡ other)
    → ◌≡◌ {A = Result T E} (Err x) (Err other) → ⊥
not_other x why other is differ same = let also : x ≡ other = cc in differ (sym is ∙ also)

-- what an event says that the allocator refused, or did
pub ruleset told = (allocator_did, allocator_is, allocator_refused, flushed, not_other, ok_not_err)

pub front : {X : Type 0} (xs : List X) (x : X) → slice_get xs 0 ≡ Some x → xs ≡ x ∷ drop 1 xs
front ys x is = search rules

pub none_is_none : {X Y : Type 0} (f : X → Y) (o : Option X) → option_map f o ≡ None → o ≡ None
none_is_none f it is = search rules

-- ---- what events do to the fields of a `Machine`, and that they keep them in order

-- a call after its step
abbrev pub stepped : Allocator → StoredCall → StoredCall
stepped s call = record {
  requested = call.requested;
  span = Some (record { high = cursor s; low = cursor s -ℤ pos call.requested });
}

module _ (s : Allocator) (spent : FinMap nat_cmp ℕ) (calls : FinMap nat_cmp StoredCall) where
  abbrev pub here : MachineState
  here = machine_state s spent calls

  -- ---- whether a call is open

  pub quiet : calls ≡ finite.empty → is_busy here ≡ false
  quiet none = cc (none, map_values-empty (open_call_of s), len-empty nat_cmp OpenCall)

  pub busy : ¬ (calls ≡ finite.empty) → is_busy here ≡ true
  busy some = elim (cases_eq (finite.len (map_values (open_call_of s) calls)) 0) [
    | inl is ↦
        let none = empty_of_len (map_values (open_call_of s) calls) is in
        absurd
        (some
        (maps_alike calls finite.empty (λ q. none_is_none (open_call_of s) (finite.get calls q)
        (cc (get-map_values (open_call_of s) calls q, none, get-empty {X = _} nat_cmp q))
        ∙ sym (get-empty nat_cmp q))))
    | inr other ↦ grind (arith, nat_tests)
  ]

  -- nor is anything kept for one
  quiet_once : calls ≡ finite.empty → (t : Allocator)
      → given.AreSpent t (all_held (map_values (open_call_of t) calls))
  quiet_once none t = search (rules, All-nil, all_held-none, map_values-empty)

  pub quiet_played : AreConsistent s spent calls → calls ≡ finite.empty → (t : Allocator)
      → IsSound t → t.asked ≡ s.asked → AreConsistent t spent calls
  quiet_played h none t sound same =
      let once = quiet_once none t in search (rules, once, nothing_in, h.quota, h.requests)

  -- what was asked for, and what is still to be, is within what a span can have
  pub asked-bound : AreConsistent s spent calls
      → s.asked + sum_below (λ q. awaited (finite.get calls q)) callers ≤ 2 ^ 50
  unfolding quota
  asked-bound h =
      search (
        rules,
        sum_below-bound (λ q. unwrap_or (finite.get spent q) 0) quota callers h.quota,
        h.asked,
      )

  -- ---- events that need the allocator to themselves

  pub busy-alloc : ¬ (calls ≡ finite.empty) → on_alloc here ≡ (Err fault.Busy, here)
  busy-alloc some = search (rules, cond-true, busy)

  pub busy-free : ¬ (calls ≡ finite.empty) → (h : Handle) → on_free here h ≡ (Err fault.Busy, here)
  busy-free some h = search (rules, cond-true, busy)

  pub busy-flush : ¬ (calls ≡ finite.empty) → on_flush here ≡ (Err fault.Busy, here)
  busy-flush some = search (rules, cond-true, busy)

  module _ (none : calls ≡ finite.empty) where
    pub alloc-needs_flush : 0 < s.asked → on_alloc here ≡ (Ok outcome.NeedsFlush, here)
    alloc-needs_flush some = search (rules, quiet none, nat_tests)

    pub alloc-flushed : ¬ (0 < s.asked) → on_alloc here ≡ alloc_front here s.pool
    alloc-flushed rest = search (rules, quiet none, nat_tests)

    pub alloc-given : (h : Handle) → ¬ (0 < s.asked) → slice_get s.pool 0 ≡ Some h
        → on_alloc here ≡ (Ok (outcome.Handle h), machine_state (after_alloc s h) spent calls)
    alloc-given h rest first = search (rules, alloc-flushed, front, map_values-empty)

    pub alloc-consistent : (h : Handle) → AreConsistent s spent calls → ¬ (0 < s.asked)
        → slice_get s.pool 0 ≡ Some h → AreConsistent (after_alloc s h) spent calls
    alloc-consistent h played rest first =
        let nothing : s.asked ≡ 0 = omega arith in
        search (rules, quiet_played, after_alloc-sound, front)

    pub free-needs_flush : (h : Handle) → 0 < s.asked
        → on_free here h ≡ (Ok outcome.NeedsFlush, here)
    free-needs_flush h some = search (rules, quiet none, nat_tests)

    pub free-not_alive : (h : Handle) → s.asked ≡ 0 → set.contains s.live h ≡ false
        → on_free here h ≡ (Ok outcome.NotAlive, here)
    free-not_alive h rest gone = search (rules, quiet none, nat_tests)

    pub free-freed : (h : Handle) → ¬ (0 < s.asked) → set.contains s.live h ≡ true
        → on_free here h
        ≡ (Ok (outcome.Freed h (next s.limits h)), machine_state (after_free s h) spent calls)
    free-freed h rest lives =
        search (rules, cond-false, quiet, nat_tests, cond-true, map_values-empty)

    pub free-consistent : (h : Handle) → AreConsistent s spent calls → ¬ (0 < s.asked)
        → set.contains s.live h ≡ true → AreConsistent (after_free s h) spent calls
    free-consistent h played rest lives =
        let nothing : s.asked ≡ 0 = omega arith in search (rules, quiet_played, after_free-sound)

    pub flush-flushed : on_flush here
        ≡ (Ok (outcome.Born (born s)), machine_state (after_flush s) finite.empty calls)
    flush-flushed = search (rules, cond-false, quiet, map_values-empty)

    pub flush-consistent : AreConsistent s spent calls
        → AreConsistent (after_flush s) finite.empty calls
    flush-consistent played =
        let once = quiet_once none (after_flush s) in
        search
        (rules, once, after_flush-sound, get-empty, sum_below-none, nothing_in, played.requests)

  -- ---- events of a call

  module _ (caller : ℕ) (below : caller < callers) where
    is_caller : nat_lt caller callers ≡ true
    is_caller = grind (arith, nat_tests)

    opened : (o : Option StoredCall) → finite.get calls caller ≡ o
        → finite.get (map_values (open_call_of s) calls) caller ≡ option_map (open_call_of s) o
    opened o is = simp (get-map_values, is)

    -- what waits for this caller is counted
    pub awaited-bound : AreConsistent s spent calls → (call : StoredCall)
        → finite.get calls caller ≡ Some call → s.asked + unasked call.requested call.span ≤ 2 ^ 50
    awaited-bound h call is = search
        (rules, asked-bound h, sum_below-part (λ q. awaited (finite.get calls q)) _ _ below)

    -- what waits in all where this call is new
    waits-inserted : (new : StoredCall)
        → sum_below (λ q. awaited (finite.get calls q)) callers + awaited (Some new)
        ≡ sum_below (λ q. awaited (finite.get (finite.insert calls caller new) q)) callers
        + awaited (finite.get calls caller)
    waits-inserted new = simp get-inserted at (sum_below-changed (λ q. awaited (finite.get calls q))
        (λ q. awaited (finite.get (finite.insert calls caller new) q)) caller callers below
        (λ q other. ap awaited (sym (get-insert_other calls caller new q other))))

    module _ (none : finite.get calls caller ≡ None) where
      pub step-not_open : on_step here caller ≡ (Err fault.NotOpen, here)
      step-not_open = search (rules, is_caller, opened None none)

      pub answer-not_open : on_answer here caller ≡ (Err fault.NotOpen, here)
      answer-not_open = search (rules, is_caller, opened None none)

      pub begin-quota : (n : ℕ) → left_of here caller < n → on_begin here caller n
          ≡ (Err (fault.Quota (left_of here caller)), here)
      begin-quota n short = search (rules, is_caller, opened None none, nat_tests)

      module _ (n : ℕ) (enough : n ≤ left_of here caller) where
        -- the call as it begins
        abbrev pub begun : StoredCall
        begun = record { requested = n; span = None }

        abbrev pub more : FinMap nat_cmp ℕ
        more = finite.insert spent caller (unwrap_or (finite.get spent caller) 0 + n)

        pub begin-begun : on_begin here caller n
            ≡ (Ok outcome.Open, machine_state s more (finite.insert calls caller begun))
        begin-begun = search (rules, is_caller, opened None none, nat_tests, map_values-insert)

        pub begin-takes_memory : event_takes_memory here (on_begin here caller n).0 ≡ true
        begin-takes_memory = rw begin-begun

        pub begin-consistent : AreConsistent s spent calls → n < 2 ^ 32
            → AreConsistent s more (finite.insert calls caller begun)
        begin-consistent h small = record {
          sound = h.sound;
          quota = search (rules, ℕ_discrete, get-inserted, get-insert_other);
          asked =
              let before = h.asked in
              let waits = waits-inserted begun in
              let waited : awaited (finite.get calls caller) ≡ 0 = ap awaited none in
              let spends =
              simp get-inserted at (sum_below-changed (λ q. unwrap_or (finite.get spent q) 0)
              (λ q. unwrap_or (finite.get more q) 0) caller callers below
              (λ q other. ap (λ o. unwrap_or o 0)
              (sym (get-insert_other spent caller _ q other)))) in
              omega arith;
          requests =
              search (rules, on_inserted (λ q (c : StoredCall). c.requested < 2 ^ 32), h.requests);
          spans =
              λ q call span at.
              on_inserted (λ q c. c.span ≡ Some span → HasPassed s c.requested span) calls caller
              (λ q c _ at. h.spans q c span at) begun (λ no. absurd (none-some span no)) q call at;
          once = all_held-next here (event.Begin caller n) begin-begun h.sound h.once;
        }

    module _ (call : StoredCall) (is : finite.get calls caller ≡ Some call) where
      pub begin-open : (n : ℕ) → on_begin here caller n ≡ (Err fault.AlreadyOpen, here)
      begin-open n = search (rules, is_caller, opened (Some call) is)

      pub step-stepped : (span : Span) → call.span ≡ Some span
          → on_step here caller ≡ (Err fault.AlreadyStepped, here)
      step-stepped span passed = search (rules, is_caller, opened (Some call) is)

      pub step-taken : IsSound s → call.span ≡ None
          → on_step here caller
          ≡ (
            Ok (outcome.Cursor (cursor s -ℤ pos call.requested)),
            machine_state (after_take s call.requested) spent
                (finite.insert calls caller (stepped s call)),
          )
      step-taken sound waits =
          let made = made-after_take s call.requested in
          let given = available-after_take s call.requested sound in
          let fs : open_call_of s ≡ open_call_of (after_take s call.requested) = λ i c. same c i in
          search (
            rules,
            is_caller,
            opened (Some call) is,
            cursor-after_take,
            reply-cursor,
            map_values-insert,
          )
        where
          same : (c : StoredCall) → open_call_of s c ≡ open_call_of (after_take s call.requested) c
          same c = simp (made-after_take, available-after_take)

      pub step-consistent : AreConsistent s spent calls → call.span ≡ None
          → AreConsistent (after_take s call.requested) spent
          (finite.insert calls caller (stepped s call))
      step-consistent h waits = record {
        sound = after_take-sound s call.requested h.sound;
        quota = h.quota;
        asked =
            let before = h.asked in
            let all = waits-inserted (stepped s call) in
            let waited : awaited (finite.get calls caller) ≡ call.requested = ap awaited is
            ∙ ap (unasked call.requested) waits in
            omega (arith, asked-after_take);
        requests =
            search (rules, on_inserted (λ q (c : StoredCall). c.requested < 2 ^ 32), h.requests);
        spans =
            λ q other_call span at. on_inserted
            (λ q c. c.span ≡ Some span → HasPassed (after_take s call.requested) c.requested span) _
            _
            (λ q c _ at passed.
            search (rules, h.spans q c span at passed, top-after_take s call.requested h.sound)) _
            (λ passed. search (rules, same_Some _ span passed, asked-bound, top-after_take, ints)) q
            _ at;
        once = all_held-next here (event.Step caller) (step-taken h.sound waits) h.sound h.once;
      }

      pub answer-not_stepped : call.span ≡ None
          → on_answer here caller ≡ (Err fault.NotStepped, here)
      answer-not_stepped waits = search (rules, is_caller, opened (Some call) is)

      module _ (span : Span) (passed : call.span ≡ Some span) where
        pub answer-answered : on_answer here caller
            ≡ (
              Ok (reported (reply_from s.made (pool_at s span.high) call.requested)),
              machine_state s spent (finite.remove calls caller),
            )
        answer-answered =
            let left = maps_alike (map_values (open_call_of s) (finite.remove calls caller))
            (finite.remove (map_values (open_call_of s) calls) caller) in
            search (rules, is_caller, opened (Some call) is, left, get-map_values, get-remove)

        pub answer-consistent : AreConsistent s spent calls
            → AreConsistent s spent (finite.remove calls caller)
        answer-consistent h = record {
          sound = h.sound;
          quota = h.quota;
          asked =
              let before = h.asked in
              let all = simp get-removed at (sum_below-changed (λ q. awaited (finite.get calls q))
              (λ q. awaited (finite.get (finite.remove calls caller) q)) caller callers below
              (λ q other. ap awaited (sym (get-remove_other calls caller q other)))) in
              let waited : awaited (finite.get calls caller) ≡ 0 = ap awaited is
              ∙ ap (unasked call.requested) passed in
              omega arith;
          requests =
              search (rules, on_removed (λ q (c : StoredCall). c.requested < 2 ^ 32), h.requests);
          spans =
              λ q other_call span at. on_removed
              (λ q c. c.span ≡ Some span → HasPassed s c.requested span) calls caller
              (λ q c _ at. h.spans q c span at) q other_call at;
          once = all_held-next here (event.Answer caller) answer-answered h.sound h.once;
        }
