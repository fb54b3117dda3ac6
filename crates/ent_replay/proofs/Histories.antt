-- The kinds of event, by what they do to a machine: no handle is given twice in a run, and its
-- reservations are a legal history, of which each answer tells a reply.
use Rattle.ent_replay.proofs.Common.{none, Alloc, Free, Flush, Begin, Step, Answer, rules, ◌≡◌}
use Rattle.ent_replay.proofs.Common.{refl, ℕ, ◌+◌, ◌<◌, Bool, true, false, cond, nat_lt, List, []}
use Rattle.ent_replay.proofs.Common.{◌∷◌, Option, Some, None, Result, Ok, Err, arith, nat_cmp}
use Rattle.ent_replay.proofs.Common.{FinMap, empty_of_len, cond_both, nat_tests, Handle, after_take}
use Rattle.ent_replay.proofs.Common.{after_free, after_flush, next, born, reply_to, IsLive, Event}
use Rattle.ent_replay.proofs.Common.{Outcome, ReplayFault, MachineState, OpenCall, Reply, Returned}
use Rattle.ent_replay.proofs.Common.{is_busy, on_event, alloc_front, begin_with, step_with}
use Rattle.ent_replay.proofs.Common.{step_open, answer_with, say, answer_open, callers, reported}
use Rattle.ent_replay.proofs.Common.{refuse, reserved_by_request, reserved_by_call, reservations}
use Rattle.ent_replay.proofs.Common.{given_by, ◌≢◌, sym, ap, subst, ◌∙◌, zero, suc, ◌++◌, AllPairs}
use Rattle.ent_replay.proofs.Common.{IsPermutation, inl, inr, get-empty, cases_lt}
use Rattle.ent_replay.proofs.Common.{IsPermutation-refl, IsPermutation-sym, IsPermutation-trans}
use Rattle.ent_replay.proofs.Common.{IsPermutation-append_left, IsPermutation-append_right}
use Rattle.ent_replay.proofs.Common.{IsPermutation-append_comm, Allocator, IsSound, handles_in}
use Rattle.ent_replay.proofs.Common.{AreGivenOnce, All-right, AllPairs-left, AllPairs-right}
use Rattle.ent_replay.proofs.Common.{requested-given, alloc-given, free-given, flush-given}
use Rattle.ent_replay.proofs.Common.{given-IsPermutation, after_take-sound, after_alloc-sound}
use Rattle.ent_replay.proofs.Common.{after_free-sound, after_flush-sound, outcome_of, after_event}
use Rattle.ent_replay.proofs.Common.{outcomes_of, joined, held_by, held, all_held, given_by_all}
use Rattle.ent_replay.proofs.Common.{cond-false, ◌⊎◌, ◌==◌, same_Some, none-some, IsLegal}
use Rattle.ent_replay.proofs.Common.{after_history, asked-after_take, after_take-none, reply-none}
use Rattle.ent_replay.proofs.Common.{Phase, phase_after, last_of, TellsReply, StandInHistory}
use Rattle.ent_replay.proofs.Common.{IsAtRest, new_phase, append-nil, append_assoc}
use Rattle.std.specs.FinMap as finite
use Rattle.ent_replay.specs.declared.event.Event.TheVariants as event
use Rattle.ent_replay.specs.declared.outcome.Outcome.TheVariants as outcome
use Rattle.ent_replay.specs.declared.fault.ReplayFault.TheVariants as fault
use Rattle.ent_alloc.specs.Spent as spent
use Rattle.ent_alloc.specs.History.{Call}
use Rattle.ent_replay.proofs.Tables.{get-inserted, get-insert_other, get-removed, get-remove_other}
use Rattle.ent_replay.proofs.Tables.{nothing_in, on_inserted, on_removed}

-- the state where this call is open
abbrev pub with_call : MachineState → FinMap nat_cmp ℕ → ℕ → OpenCall → MachineState
with_call s spent caller call =
    record s { spent = spent; calls = finite.insert s.calls caller call }

-- What the event returns, with the state after it, and what it reserves: it leaves all as it was;
-- it allocates, frees, flushes; it begins a call, makes its step, answers it.
pub data Move (s : MachineState) : Event → Returned → List Call → Type 0 where
  stays : {e : Event} (r : Result Outcome ReplayFault) → given_by r ≡ []
      → ((told : Outcome) (caller : ℕ) → e ≡ event.Answer caller → r ≡ Ok told → ⊥)
      → Move s e (r, s) []
  allocates : (h : Handle) (rest : List Handle) → s.calls ≡ finite.empty → s.allocator.asked ≡ 0
      → s.allocator.pool ≡ h ∷ rest → Move s event.Alloc (alloc_front s (h ∷ rest)) []
  frees : (h : Handle) → s.calls ≡ finite.empty → s.allocator.asked ≡ 0 → IsLive s.allocator h
      → Move s (event.Free h) (
        Ok (outcome.Freed h (next s.allocator.limits h)),
        record s { allocator = after_free s.allocator h },
      ) []
  flushes : s.calls ≡ finite.empty → Move s event.Flush (
    Ok (outcome.Born (born s.allocator)),
    record s { allocator = after_flush s.allocator; spent = finite.empty },
  ) []
  begins : (caller n : ℕ) (spent : FinMap nat_cmp ℕ) → caller < callers
      → finite.get s.calls caller ≡ None
      → Move s (event.Begin caller n)
      (Ok outcome.Open, with_call s spent caller (record { requested = n; reply = None })) []
  steps : (caller : ℕ) (call : OpenCall) → caller < callers → finite.get s.calls caller ≡ Some call
      → call.reply ≡ None → Move s (event.Step caller) (step_with s caller call.requested None)
      (reserved_by_request s caller call.requested None)
  answers : (caller : ℕ) (call : OpenCall) (reply : Reply) → caller < callers
      → finite.get s.calls caller ≡ Some call
      → call.reply ≡ Some reply
      → Move s (event.Answer caller) (answer_with s caller (Some reply)) []

-- what holds with no value and with any holds
at_option : {X : Type 0} (P : Option X → Type 0) (o : Option X) → (o ≡ None → P None)
    → ((x : X) → o ≡ Some x → P (Some x)) → P o
at_option P it none some = search rules

module _ (s : MachineState) where
  closed : is_busy s ≡ false → s.calls ≡ finite.empty
  closed quiet = empty_of_len s.calls (grind (arith, nat_tests))

  faulty : (e : Event) (why : ReplayFault) → Move s e (refuse s why) []
  faulty e why = stays (Err why) refl (search rules)

  -- an event that needs the allocator to itself
  exclusive : (e : Event) (x : Returned) → ((caller : ℕ) → e ≡ event.Answer caller → ⊥)
      → (s.calls ≡ finite.empty → s.allocator.asked ≡ 0 → Move s e x [])
      → Move s e
      (cond (is_busy s) (refuse s fault.Busy)
      (cond (nat_lt 0 s.allocator.asked) (say s outcome.NeedsFlush) x)) []
  exclusive e x other rest =
      cond_both (is_busy s) _ _ (λ y. Move s e y []) (λ busy. faulty e fault.Busy)
      (λ quiet. cond_both _ _ _ (λ y. Move s e y []) (λ asked. stays (Ok outcome.NeedsFlush) refl
      (λ told caller at. absurd (other caller at))) (λ flushed.
      rest (closed quiet) (grind (arith, nat_tests))))

  alloc_move : (pool : List Handle) → s.allocator.pool ≡ pool → s.calls ≡ finite.empty
      → s.allocator.asked ≡ 0 → Move s event.Alloc (alloc_front s pool) []
  alloc_move [] is none flushed = stays (Ok (outcome.Space 1 0)) refl (λ told caller at. absurd cc)
  alloc_move (h ∷ rest) is none flushed = allocates h rest none flushed is

  step_move : (caller : ℕ) (b : Bool) → nat_lt caller callers ≡ b
      → Move s (event.Step caller)
      (cond b (step_open s caller (finite.get s.calls caller)) (refuse s fault.Caller))
      (cond b (reserved_by_call s caller (finite.get s.calls caller)) [])
  step_move caller true is = at_option (λ o. Move s (event.Step caller) (step_open s caller o)
      (reserved_by_call s caller o)) (finite.get s.calls caller) (λ none.
      faulty (event.Step caller) fault.NotOpen)
      (λ call some. at_option (λ o. Move s (event.Step caller) (step_with s caller call.requested o)
      (reserved_by_request s caller call.requested o)) call.reply (λ waits.
      steps caller call (grind (arith, nat_tests))
      some waits) (λ reply stepped. faulty (event.Step caller) fault.AlreadyStepped))
  step_move caller false above = faulty (event.Step caller) fault.Caller

-- each event is one of them
pub move : (s : MachineState) (e : Event) → Move s e (on_event s e) (reservations s e)
move s event.Alloc = search (rules, exclusive, alloc_move)
move s (event.Free h) =
    exclusive s _ _ (λ caller at. absurd cc)
    (λ none flushed. cond_both _ _ _ (λ y. Move s (event.Free h) y [])
    (λ lives. frees h none flushed lives) (λ gone. stays _ refl (λ told caller at. absurd cc)))
move s event.Flush =
    cond_both (is_busy s) _ _ (λ y. Move s event.Flush y [])
    (λ busy. faulty s event.Flush fault.Busy) (λ quiet. flushes (closed s quiet))
move s (event.Begin caller n) =
    let Begun : Returned → Type 0 = λ y. Move s (event.Begin caller n) y [] in
    cond_both _ _ _ Begun (λ is. at_option (λ o. Begun (begin_with s caller n o)) _
    (λ none. cond_both _ _ _ Begun (λ short. faulty s _ _)
    (λ enough. begins caller n _ (grind (arith, nat_tests))
    none)) (λ call some. faulty s _ fault.AlreadyOpen)) (λ above. faulty s _ fault.Caller)
move s (event.Step caller) = step_move s caller (nat_lt caller callers) refl
move s (event.Answer caller) =
    let Answered : Returned → Type 0 = λ y. Move s (event.Answer caller) y [] in
    cond_both _ _ _ Answered (λ is. at_option (λ o. Answered (answer_open s caller o)) _
    (λ none. faulty s _ fault.NotOpen)
    (λ call some. at_option (λ o. Answered (answer_with s caller o)) call.reply
    (λ waits. faulty s _ fault.NotStepped)
    (λ reply stepped. answers caller call reply (grind (arith, nat_tests)) some
    stepped))) (λ above. faulty s _ fault.Caller)

-- ---- lists of all callers, one after the other

joined-alike : (f g : ℕ → List Handle) (n : ℕ) → ((q : ℕ) → q < n → f q ≡ g q)
    → joined f n ≡ joined g n
unfolding joined
joined-alike f g zero alike = refl
joined-alike f g (suc n) alike =
    cc (joined-alike f g n (λ q lt. alike q (omega arith)), alike n (omega arith))

joined-none : (f : ℕ → List Handle) (n : ℕ) → ((q : ℕ) → f q ≡ []) → joined f n ≡ []
unfolding joined
joined-none f zero none = refl
joined-none f (suc n) none = simp (joined-none f n none, none n)

same_order : (xs ys : List Handle) → xs ≡ ys → IsPermutation xs ys
same_order xs ys same = rw (← same) (IsPermutation-refl xs)

-- the last two parts of a list are swapped
swapped : (xs ys zs : List Handle) → IsPermutation ((xs ++ ys) ++ zs) ((xs ++ zs) ++ ys)
swapped xs ys zs =
    search (
      rules,
      IsPermutation-trans,
      same_order,
      append_assoc,
      IsPermutation-append_right,
      IsPermutation-append_comm,
    )

-- where one of them has more
joined-more : (f g : ℕ → List Handle) (c n : ℕ) → c < n → f c ≡ [] → ((q : ℕ) → q ≢ c → f q ≡ g q)
    → IsPermutation (joined f n ++ g c) (joined g n)
unfolding joined
joined-more f g c zero lt none alike = absurd (omega arith)
joined-more f g c (suc n) lt none alike = elim (cases_lt c n) [
  | inl below ↦
      let last : f n ≡ g n = alike n (λ same. absurd (omega arith)) in
      IsPermutation-trans _ _ _ (swapped (joined f n) (f n) (g c))
      (rw (← last) (IsPermutation-append_left _ _ _ (joined-more f g c n below none alike)))
  | inr past ↦
      let here : c ≡ n = omega arith in
      let rest = joined-alike f g n (λ q below. alike q (λ same. absurd (omega arith))) in
      same_order _ _ (cc (here, none, append-nil (joined f n), rest))
]

-- ---- the handles that are kept for open calls

pub all_held-none : (calls : FinMap nat_cmp OpenCall) → calls ≡ finite.empty → all_held calls ≡ []
all_held-none calls none = search (rules, joined-none, get-empty)

module _ (calls : FinMap nat_cmp OpenCall) (caller : ℕ) (below : caller < callers) where
  all_held-inserted : (new : OpenCall) → held (finite.get calls caller) ≡ []
      → IsPermutation (all_held calls ++ held_by new.reply)
      (all_held (finite.insert calls caller new))
  all_held-inserted new none = rw (← ap held (get-inserted calls caller new))
      (joined-more (λ q. held (finite.get calls q))
      (λ q. held (finite.get (finite.insert calls caller new) q)) caller
      callers below none (λ q other. ap held (sym (get-insert_other calls caller new q other))))

  all_held-removed : IsPermutation
      (all_held (finite.remove calls caller) ++ held (finite.get calls caller)) (all_held calls)
  all_held-removed = joined-more (λ q. held (finite.get (finite.remove calls caller) q))
      (λ q. held (finite.get calls q)) caller callers below (ap held (get-removed calls caller))
      (λ q other. ap held (get-remove_other calls caller q other))

-- ---- what is kept from event to event

record IsGiven (s : MachineState) (given : List Handle) : Type 0 where
  sound : IsSound s.allocator
  once : spent.AreSpent s.allocator (given ++ all_held s.calls)

given_by-reported : (reply : Reply) → given_by (Ok (reported reply)) ≡ handles_in reply
given_by-reported it = search rules

given-next : (s : MachineState) (given : List Handle) {e : Event} {x : Returned} {m : List Call}
    → IsGiven s given → Move s e x m → IsGiven x.1 (given ++ given_by x.0)
given-next s given h (stays r gives tells) = rw (gives, append-nil) h
given-next s given h (allocates x rest none flushed pool) =
    let nothing = all_held-none s.calls none in
    let once =
    alloc-given s.allocator x rest given h.sound flushed pool
    (rw (nothing, append-nil) at h.once) in
    search (rules, nothing, append-nil, after_alloc-sound, once)
given-next s given h (frees x none flushed lives) =
    search (rules, after_free-sound, append-nil, free-given)
given-next s given h (flushes none) = search (rules, after_flush-sound, append-nil, flush-given)
given-next s given h (begins caller n costs below none) =
    let kept =
    all_held-inserted s.calls caller below (record { requested = n; reply = None })
    (ap held none) in
    let order = IsPermutation-append_right given (all_held s.calls) _ (rw append-nil at kept) in
    search (
      rules,
      append-nil,
      given-IsPermutation s.allocator (given ++ all_held s.calls),
      order,
      h.once,
    )
given-next s given h (steps caller call below some waits) =
    let n = call.requested in
    let new : OpenCall = record { requested = n; reply = Some (reply_to s.allocator n) } in
    let kept = all_held-inserted _ _ below new (ap held some ∙ ap held_by waits) in
    record {
      sound = after_take-sound s.allocator n h.sound;
      once =
          rw append-nil
          (given-IsPermutation _ _ _ (rw append_assoc (IsPermutation-append_right _ _ _ kept))
          (requested-given s.allocator n _ h.sound h.once));
    }
given-next s given h (answers caller call reply below some stepped) =
    let left = all_held (finite.remove s.calls caller) in
    let hs = handles_in reply in
    let kept : IsPermutation (left ++ hs) (all_held s.calls) = rw (some, stepped) at
    (all_held-removed s.calls caller below) in
    let order : IsPermutation (all_held s.calls) (hs ++ left) = search
    (rules, IsPermutation-sym, IsPermutation-trans, IsPermutation-append_comm, kept) in
    let again = given-IsPermutation s.allocator (given ++ all_held s.calls) in
    search
    (rules, given_by-reported, append_assoc, again, IsPermutation-append_right, order, h.once)

-- ---- the handles that are kept for open calls, after one event

-- where a list was given once, its second part was
given-right : (s : Allocator) (xs ys : List Handle) → spent.AreSpent s (xs ++ ys)
    → spent.AreSpent s ys
given-right s xs ys h =
    search (
      rules,
      AllPairs-right (λ g h. g ≢ h) xs ys h.distinct,
      All-right (spent.IsSpent s) xs ys h.spent,
    )

pub all_held-next : (s : MachineState) (e : Event) {r : Result Outcome ReplayFault}
    {t : MachineState} → on_event s e ≡ (r, t) → IsSound s.allocator
    → spent.AreSpent s.allocator (all_held s.calls) → spent.AreSpent t.allocator (all_held t.calls)
all_held-next s e is sound once =
    subst (λ (p : Returned). spent.AreSpent p.1.allocator (all_held p.1.calls)) is
    (search
    (rules, given-right, given-next s [] (record { sound = sound; once = once }) (move s e)))

-- ---- whole runs

given_run : (s : MachineState) (events : List Event) (given : List Handle) → IsGiven s given
    → AllPairs (λ g h. g ≢ h) (given ++ given_by_all (outcomes_of s events))
given_run s [] given h =
    rw append-nil (AllPairs-left (λ g h. g ≢ h) given (all_held s.calls) h.once.distinct)
given_run s (e ∷ events) given h =
    subst (AllPairs (λ g h. g ≢ h)) (search (rules, append_assoc))
    (given_run (after_event s e) events (given ++ given_by (outcome_of s e))
    (given-next s given h (move s e)))

pub given_once : (s : MachineState) (events : List Event) → IsSound s.allocator
    → spent.AreSpent s.allocator (all_held s.calls)
    → AreGivenOnce (given_by_all (outcomes_of s events))
given_once s events sound once = given_run s events [] (record { sound = sound; once = once })

-- ---- histories

IsLegal-append : (s : Allocator) (calls more : List Call) → IsLegal s calls
    → IsLegal (after_history s calls) more → IsLegal s (calls ++ more)
IsLegal-append s [] more h rest = rest
IsLegal-append s (call ∷ calls) more h rest =
    (h.0, h.1, IsLegal-append (after_take s _) calls more h.2 rest)

after_history-append : (s : Allocator) (calls more : List Call)
    → after_history s (calls ++ more) ≡ after_history (after_history s calls) more
after_history-append s [] more = refl
after_history-append s (call ∷ calls) more =
    after_history-append (after_take s call.requested) calls more

last_of-append : (q : ℕ) (calls : List Call) (call : Call) → call.caller ≡ q
    → last_of q (calls ++ call ∷ []) ≡ Some call
last_of-append q [] call own = grind (arith, nat_tests)
last_of-append q (c ∷ calls) call own = search (rules, last_of-append q calls call own)

last_of-append_other : (q : ℕ) (calls : List Call) (call : Call) → call.caller ≢ q
    → last_of q (calls ++ call ∷ []) ≡ last_of q calls
last_of-append_other q [] call other = cond-false (call.caller == q) _ _ (grind (arith, nat_tests))
last_of-append_other q (c ∷ calls) call other =
    search (rules, last_of-append_other q calls call other)

-- ---- what is kept from event to event

-- a request for none, which was given nothing
abbrev RequestedNone : ℕ → Reply → Type 0
RequestedNone requested r = (requested ≡ 0) × (r ≡ Ok [])

-- what was told to an open call
abbrev Told : (ℕ → ℕ → Reply → Type 0) → ℕ → OpenCall → Type 0
Told P q call = (r : Reply) → call.reply ≡ Some r → P q call.requested r

abbrev AreTold : (ℕ → ℕ → Reply → Type 0) → MachineState → Type 0
AreTold P s = (q : ℕ) (call : OpenCall) → finite.get s.calls q ≡ Some call → Told P q call

-- every open call that has made its step requested none
abbrev NothingTold : MachineState → Type 0
NothingTold s = AreTold (λ q. RequestedNone) s

-- the reply was given by the caller's last reservation, of this request, or is that to a request
-- for none
abbrev IsOfHistory : List Call → ℕ → ℕ → Reply → Type 0
IsOfHistory calls q requested r = RequestedNone requested r
    ⊎ ((made : Call) × (last_of q calls ≡ Some made) × (made.requested ≡ requested)
    × (r ≡ made.reply))

pub record IsFollowed (p : Phase) (s : MachineState) : Type 0 where
  pub legal : IsLegal p.start p.calls
  pub reached : after_history p.start p.calls ≡ s.allocator
  pub rest : s.allocator.asked ≡ 0 → NothingTold s
  pub open_calls : AreTold (IsOfHistory p.calls) s

-- ---- after an event

module _ (p : Phase) (s : MachineState) (h : IsFollowed p s) where
  -- one more call, which was told nothing
  one_more : (spent : FinMap nat_cmp ℕ) (caller : ℕ) (new : OpenCall)
      → ((r : Reply) → new.reply ≡ Some r → RequestedNone new.requested r)
      → IsFollowed p (with_call s spent caller new)
  one_more spent caller new none = record {
    legal = h.legal;
    reached = h.reached;
    rest = λ zero_asked. on_inserted _ _ _ (λ q call _. h.rest zero_asked q call) new none;
    open_calls =
        on_inserted _ _ _ (λ q call _. h.open_calls q call) new (λ r told. inl (none r told));
  }

  -- a step of some request, as the request is
  after_step : (caller n : ℕ)
      → IsFollowed (record p { calls = p.calls ++ reserved_by_request s caller n None })
      (step_with s caller n None).1
  after_step caller zero = rw (append-nil, after_take-none, reply-none)
      (one_more s.spent caller _ (λ r told. (refl, sym (same_Some (Ok []) r told))))
  after_step caller (suc n) =
      let made : Call =
      record { caller = caller; requested = suc n; reply = reply_to s.allocator (suc n) } in
      let asked = asked-after_take s.allocator (suc n) in
      record {
        legal =
            IsLegal-append p.start p.calls (made ∷ []) h.legal
            (rw h.reached (omega arith, refl, tt));
        reached = simp (after_history-append, h.reached);
        rest = λ zero_asked. absurd (omega arith);
        open_calls =
            on_inserted (Told (IsOfHistory (p.calls ++ made ∷ []))) s.calls caller
            (λ q call other at r told. search
            (rules, last_of-append_other, h.open_calls q call at r told)) _ (λ r told.
            search (rules, last_of-append caller p.calls made refl, same_Some _ r told));
      }

  -- the phase goes on, or nothing is asked for and no call is open
  goes_on : {e : Event} {x : Returned} {m : List Call} → Move s e x m
      → IsFollowed (record p { calls = p.calls ++ m }) x.1
      ⊎ ((x.1.allocator.asked ≡ 0) × NothingTold x.1)
  goes_on (stays r gives none) = inl (rw append-nil h)
  goes_on (begins caller n spent below none) = inl (rw append-nil
      (one_more spent caller _ (λ r told. absurd (none-some r told))))
  goes_on (steps caller call below some waits) = inl (after_step caller call.requested)
  goes_on (answers caller call reply below some stepped) =
      let rest = on_removed (Told (λ q. RequestedNone)) s.calls caller in
      let open_calls = on_removed (Told (IsOfHistory p.calls)) s.calls caller in
      inl (search (rules, append-nil, rest, open_calls, h.legal, h.reached, h.rest, h.open_calls))
  goes_on (allocates x rest none flushed pool) =
      inr (flushed, λ q call at. absurd (nothing_in s.calls none q call at))
  goes_on (frees x none flushed lives) =
      inr (flushed, λ q call at. absurd (nothing_in s.calls none q call at))
  goes_on (flushes none) = inr (refl, λ q call at. absurd (nothing_in s.calls none q call at))

  pub followed-next : (e : Event) → IsFollowed (phase_after p s e) (after_event s e)
  followed-next e =
      cond_both ((after_event s e).allocator.asked == 0) _ _ (λ q. IsFollowed q (after_event s e))
      (λ is. search (rules, nat_tests, goes_on (move s e)))
      (λ is. search (rules, nat_tests, goes_on (move s e)))

-- ---- what an answer tells

tells : (p : Phase) (s : MachineState) {e : Event} {x : Returned} {m : List Call} → IsFollowed p s
    → Move s e x m → TellsReply s p.calls e x.0
tells p s h (stays {e = event.Answer caller} (Ok told) gives none) =
    absurd (none told caller refl refl)
tells p s h (answers caller call reply below some stepped) = search
    (rules, some, h.open_calls caller call some reply stepped)
tells p s h _ = tt

-- ---- whole runs

follows : (p : Phase) (s : MachineState) (events : List Event) → IsFollowed p s
    → StandInHistory p s events (outcomes_of s events)
follows p s [] h = tt
follows p s (e ∷ events) h =
    let then = followed-next p s h e in (
      tells p s h (move s e),
      then.legal,
      then.reached,
      follows (phase_after p s e) (after_event s e) events then,
    )

pub linear : (s : MachineState) (events : List Event) → IsAtRest s
    → StandInHistory (new_phase s) s events (outcomes_of s events)
linear s events rest = follows (new_phase s) s events (search (rules, nothing_in))
