-- The handles of all spawns are reserved in the allocator after the run.
use Rattle.ent_runner.proofs.Common.{rules, ◌≡◌, ℕ, ◌<◌, List, [], ◌∷◌, refl, arith, get_or, Bool}
use Rattle.ent_runner.proofs.Common.{true, false, None, filter, ◌==◌, if◌then◌else◌, IsTrue, All}
use Rattle.ent_runner.proofs.Common.{common_steps, slice_get_within, All-head, All-tail, All-append}
use Rattle.ent_runner.proofs.Common.{Contains-get_or, All-permutation, IsPermutation-sym, Handle}
use Rattle.ent_runner.proofs.Common.{Allocator, state_of, stands_in, IsSound, IsLive}
use Rattle.ent_runner.proofs.Common.{given_in-taken, given_in-not_live, after_history-takes}
use Rattle.ent_runner.proofs.Common.{live-after_takes, stands_in-from_Contains, Call, given_in}
use Rattle.ent_runner.proofs.Common.{handles_in, after_history, All-left, All-right, Entry}
use Rattle.ent_runner.proofs.Common.{spawned_by, spawned_in, entries_of, first_unreserved}
use Rattle.ent_runner.proofs.Common.{is_reserved, HaveRun, log_at, get_or_from_slice_get}
use Rattle.ent_runner.proofs.EachOutput.{everywhere}
use Rattle.ent_runner.proofs.ListedOnce.{flat_flat}
use Rattle.ent_runner.proofs.Lists.{all_flat, all_from_each, flat_all}

module _ (P : Handle → Type 0) where
  kept : (call : Call) (more : List Call) (b : Bool) → All P (handles_in call.reply)
      → All P (given_in more)
      → All P (given_in (if b then call ∷ more else more))
  kept call more true here rest = All-append P (handles_in call.reply) (given_in more) here rest
  kept call more false here rest = rest

  given_kept : (p : Call → Bool) (history : List Call) → All P (given_in history)
      → All P (given_in (filter p history))
  given_kept p [] all = all
  given_kept p (call ∷ history) all =
      search (rules, kept, All-left, All-right, given_kept p history)

module _ {C : Type 0} (start after : Allocator) (workers count : ℕ) (logs : List (List (Entry C)))
    (run : HaveRun workers count start logs after) (Q : Handle → Type 0)
    (all : All Q (given_in run.history)) where
  abbrev In : ℕ → Type 0
  In n = All Q (spawned_in (log_at logs n))

  in_log : (n : ℕ) → n < count → In n
  in_log =
      everywhere In count run.ran run.run.once
      (λ k mine at. flat_all Q (λ n. spawned_in (log_at logs n)) mine
      (rw (run.given k mine at, flat_flat spawned_by (log_at logs) mine) at
      (given_kept Q (λ (call : Call). call.caller == k) run.history all)))

  pub in_all : All Q (spawned_in (entries_of logs))
  in_all =
      rw (flat_flat spawned_by (λ (log : List (Entry C)). log) logs)
      (all_flat Q (λ (log : List (Entry C)). spawned_in log) logs
      (all_from_each (λ log. All Q (spawned_in log)) logs
      (λ k log at. rw (get_or_from_slice_get logs k log [] at) at
      (in_log k (omega (arith, slice_get_within logs k log at, run.each_log))))))

abbrev IsReserved : Allocator → Handle → Type 0
IsReserved s h = is_reserved (state_of s h) ≡ true

none_unreserved : (s : Allocator) (hs : List Handle) → All (IsReserved s) hs
    → first_unreserved s hs ≡ None
none_unreserved s [] all = refl
none_unreserved s (h ∷ hs) all =
    search (
      rules,
      All-head (IsReserved s) h hs all,
      none_unreserved s hs (All-tail (IsReserved s) h hs all),
    )

reserved_here : (s : Allocator) (h : Handle) → IsTrue (stands_in s.taken h) → ¬ (IsLive s h)
    → IsReserved s h
reserved_here s h taken not_live = grind (arith, common_steps)

stand_there : (hs : List Handle) → All (λ h. IsTrue (stands_in hs h)) hs
stand_there hs = search (rules, stands_in-from_Contains, Contains-get_or)

pub reserved_all : {C : Type 0} (start after : Allocator) (workers count : ℕ)
    (logs : List (List (Entry C))) → HaveRun workers count start logs after → IsSound start
    → start.asked ≡ 0 → first_unreserved after (spawned_in (entries_of logs)) ≡ None
reserved_all start after workers count logs run sound flushed =
    let given : List Handle = given_in run.history in
    let taken : List Handle = (after_history start run.history).taken in
    let there =
    All-permutation (λ h. IsTrue (stands_in taken h)) taken given (IsPermutation-sym given taken
    (given_in-taken start run.history sound run.legal flushed)) (stand_there taken) in
    let away = given_in-not_live start run.history sound run.legal in
    let live : (after_history start run.history).live ≡ start.live =
    search (rules, after_history-takes, live-after_takes) in
    none_unreserved after (spawned_in (entries_of logs))
    (in_all start after workers count logs run (IsReserved after)
    (rw run.after_is
    (λ k d within. reserved_here (after_history start run.history) (get_or given k d)
    (there k d within) (λ alive. away k d within (rw live at alive)))))
