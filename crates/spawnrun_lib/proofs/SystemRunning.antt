-- A system whose first operations have run: what they have issued, the names that they bound, and
-- their targets.
use Rattle.spawnrun_lib.proofs.Common.{rules, ◌≡◌, refl, ◌∙◌, ℕ, ◌+◌, ◌<◌, List, [], ◌∷◌, ◌++◌}
use Rattle.spawnrun_lib.proofs.Common.{length, get_or, drop, inr, append_assoc, append-nil, arith}
use Rattle.spawnrun_lib.proofs.Common.{drop_more, Handle, Command, View, Operation, Bindings}
use Rattle.spawnrun_lib.proofs.Common.{unbound, IssuesAll, MayIssue, StopsAmong, names_of}
use Rattle.spawnrun_lib.proofs.Common.{HasIssued, common_steps, set, eqb-suc-zero, eqb-zero-suc}
use Rattle.spawnrun_lib.proofs.Common.{eqb-suc-suc, bound, map, Result, OnOk, OnErr, Memory, Target}
use Rattle.spawnrun_lib.proofs.Common.{IsTargeted, StopsOnEach, Stops, HasIssuedOn, HasStoppedOn}
use Rattle.spawnrun_lib.proofs.Common.{HasStopped, HasStoppedAmong, sym}
use Rattle.std.specs.Prelude.{Ok, Err}
use Rattle.ent_script.specs.declared.target.Target.TheVariants as target

-- The first i operations have issued what was added; whatever the others may issue, all may issue
-- both.
pub record HasRun (view : View) (ops : List Operation) (i : ℕ) (names : Bindings)
    (start now : List Command) : Type 0 where
  pub added : List Command
  pub queue : now ≡ start ++ added
  pub rest : (cs : List Command) → IssuesAll view names (drop i ops) cs → IssuesAll view unbound ops
      (added ++ cs)
  pub stop : (cs : List Command) → StopsAmong view names (drop i ops) cs
      → StopsAmong view unbound ops (added ++ cs)

pub has_begun : (view : View) (ops : List Operation) (start : List Command)
    (lists : List (List Handle)) → lists ≡ [] → HasRun view ops 0 (names_of lists) start start
has_begun view ops start lists none = search (rules, append-nil)

pub has_gone_on : (view : View) (ops : List Operation) (i : ℕ) (op : Operation)
    (start : List Command) (before after : List Command) (lists lists_after : List (List Handle))
    → i < length ops → op ≡ get_or ops i op → HasRun view ops i (names_of lists) start before
    → HasIssued view op before after lists lists_after
    → HasRun view ops (i + 1) (names_of lists_after) start after
has_gone_on view ops i op start before after lists lists_after within is run step =
    let from : drop i ops ≡ op ∷ drop (i + 1) ops = cc (drop_more ops i op within) in
    record {
      added = run.added ++ step.issued;
      queue = step.queue ∙ rw (run.queue, append_assoc);
      rest = λ cs may. rw append_assoc (run.rest (step.issued ++ cs)
          (rw from (step.issued, cs, refl, step.may, rw step.names at may)));
      stop = λ cs may. rw append_assoc (run.stop (step.issued ++ cs)
          (rw from (inr (step.issued, cs, refl, step.may, rw step.names at may))));
    }

pub has_ended : (view : View) (ops : List Operation) (i : ℕ) (names : Bindings)
    (start now : List Command) → drop i ops ≡ [] → HasRun view ops i names start now → start ≡ []
    → MayIssue ops view now
has_ended view ops i names start now none run empty =
    grind (arith, common_steps, append-nil run.added, run.added, run.queue, run.rest)

-- ---- the lists of names as a function of the number

-- an empty list that is added binds nothing
added_at : (lists : List (List Handle)) (n : ℕ) → names_of (lists ++ [] ∷ []) n ≡ names_of lists n
added_at [] n = search rules
added_at (hs ∷ lists) n = search (rules, added_at lists)

pub names_added : (lists : List (List Handle)) → names_of (lists ++ [] ∷ []) ≡ names_of lists
names_added lists = λ i n. added_at lists n i

-- a list that is put where another one stood
set_at : (lists : List (List Handle)) (hs : List Handle) (n : ℕ) → n < length lists → (m : ℕ)
    → names_of (set lists n hs) m ≡ bound n hs (names_of lists) m
set_at [] hs n within m = absurd (omega arith)
set_at (xs ∷ lists) hs n within m =
    search (rules, arith, eqb-suc-zero, eqb-zero-suc, eqb-suc-suc, set_at lists hs)

pub names_set : (lists : List (List Handle)) (hs : List Handle) (n : ℕ) → n < length lists
    → names_of (set lists n hs) ≡ bound n hs (names_of lists)
names_set lists hs n within = λ i m. set_at lists hs n within m i

-- ---- commands for the handles of a target

pub issued_on : (view : View) (names : Bindings) (on : Target) (command : Handle → Command)
    (before after : List Command) (hs : List Handle) (result : Result (Unit {0}) Memory)
    → IsTargeted view names on hs → OnOk result (after ≡ before ++ map command hs)
    → OnOk result (HasIssuedOn view names on command before after)
issued_on view names on command before after hs it targeted queue = search rules

-- The handles of a target were known when memory ran out.
pub stopped_on : (view : View) (names : Bindings) (on : Target) (command : Handle → Command)
    (before after : List Command) (hs : List Handle) (result : Result (Unit {0}) Memory)
    → IsTargeted view names on hs → OnErr result (HasStoppedAmong hs command before after)
    → OnErr result (HasStoppedOn view names on command before after)
stopped_on view names on command before after hs (Ok x) targeted stopped = tt
stopped_on view names on command before after hs (Err why) targeted stopped = record {
  issued = map command stopped.done;
  queue = stopped.queue;
  may = inr (record {
    done = stopped.done;
    missing = stopped.missing;
    others = stopped.others;
    target = rw stopped.all targeted;
    commands = refl;
  });
}

-- what holds anyway holds of an error
pub on_error : (result : Result (Unit {0}) Memory) (P : Type 0) → P → OnErr result P
on_error it P holds = search rules

-- memory ran out before the first of the handles
pub none_issued : (hs : List Handle) (command : Handle → Command) (before after : List Command)
    (result : Result (Unit {0}) Memory) → 0 < length hs → OnErr result (after ≡ before)
    → OnErr result (HasStoppedAmong hs command before after)
none_issued [] command before after result some err = absurd (omega arith)
none_issued (h ∷ hs) command before after (Ok it) some err = tt
none_issued (h ∷ hs) command before after (Err why) some err = record {
  done = [];
  missing = h;
  others = hs;
  all = refl;
  queue = err ∙ sym (append-nil before);
}

-- the operation is a change of its target
pub stopped_in : (view : View) (lists : List (List Handle)) (op : Operation) (on : Target)
    (command : Handle → Command) (before after : List Command) (result : Result (Unit {0}) Memory)
    → ((issued : List Command) → StopsOnEach view (names_of lists) on command issued
    → Stops view (names_of lists) op issued)
    → OnErr result (HasStoppedOn view (names_of lists) on command before after)
    → OnErr result (HasStopped view op before after lists)
stopped_in view lists op on command before after it is stopped = search rules
