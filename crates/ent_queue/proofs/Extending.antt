-- For who writes a system, or any function that fills an output: what its calls add up to. Put
-- `#[tactic(auto, using(ent_queue::proofs::Extending::extends_then))]` above it.
use Rattle.ent_queue.proofs.Common.{rules, ◌≡◌, ◌∙◌, ap, refl, ℕ, List, [], ◌∷◌, ◌++◌, append-nil}
use Rattle.ent_queue.proofs.Common.{Ok, Err, Result, IfOk, IfErr, OnOk, OnErr, IsErrOf, Vec, Global}
use Rattle.ent_queue.proofs.Common.{length, common_steps, flat_map-append, Handle, Memory, Refusal}
use Rattle.ent_queue.proofs.Common.{Space, Quota, QueueFault, listed_alone, Bundle, AreServed}
use Rattle.ent_queue.proofs.Common.{Replying, Request, served_none, served_one, served_then}
use Rattle.ent_queue.proofs.Common.{Command, Spawn, SpawnMany, Refused, requests_of, refused_by}
use Rattle.ent_queue.proofs.Common.{queued, as_list, returned, refusal_entered, Entry, Commands}
use Rattle.ent_queue.proofs.Common.{Extends, IsReady, output_of, reserver_of, source_of, Issues}
use Rattle.ent_queue.proofs.Common.{Logs, request_of, Insert, flat_map, map, sym}
use Rattle.ent_alloc.specs.declared.reserve_error.ReserveError.TheVariants as fault
use Rattle.ent_log.specs.declared.entry.Entry.TheVariants as entry

module _ {O S R : Type 0} (Adds : O → List Request → O → Type 0) (serves : S → R → Type 0)
    (may : S → Replying R) where
  pub nothing_extends : ((a : O) → Adds a [] a) → (a : Commands O S R) → IsReady serves a
      → Extends Adds serves may a a
  nothing_extends nothing a ready = record {
    same = refl;
    source = refl;
    ready = ready;
    requests = [];
    adds = nothing _;
    served = refl;
  }

  pub then_extends : ((a b c : O) (first second : List Request) → Adds a first b → Adds b second c
      → Adds a (first ++ second) c) → (a b c : Commands O S R) → Extends Adds serves may a b
      → Extends Adds serves may b c → Extends Adds serves may a c
  then_extends more a b c first second = record {
    same = second.same ∙ first.same;
    source = second.source ∙ first.source;
    ready = second.ready;
    requests = first.requests ++ second.requests;
    adds = more _ _ _ _ _ first.adds second.adds;
    served = served_then _ _ _ _ _ _ first.served (rw first.source at second.served);
  }

-- the requests that a call made, and what it added for them
pub record Called {O R : Type 0} (Adds : O → List Request → O → Type 0) (may : Replying R)
    (old new : O) (before after : R)
    : Type 0 where
  pub requests : List Request
  pub adds : Adds old requests new
  pub served : AreServed may before requests after

-- So the call extends what was there, with the same reserver of the same source.
pub extends_called : {O S R : Type 0} (Adds : O → List Request → O → Type 0)
    (serves : S → R → Type 0) (may : S → Replying R) (a b : Commands O S R)
    → b.reserver.ghost_name ≡ a.reserver.ghost_name → source_of b ≡ source_of a → IsReady serves b
    → Called Adds (may (source_of a)) (output_of a) (output_of b) (reserver_of a) (reserver_of b)
    → Extends Adds serves may a b
extends_called Adds serves may a b same source ready call = record {
  same = same;
  source = source;
  ready = ready;
  requests = call.requests;
  adds = call.adds;
  served = call.served;
}

-- ---- queues

issues_more : (a b c : List Command) (first second : List Request) → Issues a first b
    → Issues b second c → Issues a (first ++ second) c
issues_more a b c first second one two = search (rules, common_steps, flat_map-append)

issues_nothing : (a : List Command) → Issues a [] a
issues_nothing a = search (rules, append-nil)

issues_one : (a b : List Command) (c : Command) → b ≡ a ++ c ∷ [] → Issues a (requests_of c) b
issues_one a b c e = record { added = c ∷ []; queue = e; requests_are = search (rules, append-nil) }

module _ {S R : Type 0} {serves : S → R → Type 0} {may : S → Replying R} where
  -- where nothing is issued: on a path without a call, and before the first turn of a loop
  pub extends_nothing : (a : Commands (List Command) S R) → IsReady serves a
      → Extends Issues serves may a a
  extends_nothing = nothing_extends Issues serves may issues_nothing

  -- where one call follows another, also over the turns of a loop
  pub extends_then : (a b c : Commands (List Command) S R) → Extends Issues serves may a b
      → Extends Issues serves may b c → Extends Issues serves may a c
  extends_then = then_extends Issues serves may issues_more

-- an insertion reserves nothing
pub inserts_request_nothing : (items : Bundle) (hs : List Handle)
    → flat_map requests_of (map (λ h. Insert h items) hs) ≡ []
inserts_request_nothing items [] = refl
inserts_request_nothing items (h ∷ hs) = search (rules, inserts_request_nothing items hs)

module _ {R : Type 0} (may : Replying R) (old new : List Command) (before after : R) where
  -- a command that reserves nothing, or no command
  pub called_none : {E : Type 0} (c : Command) (result : Result (Unit {0}) E) → requests_of c ≡ []
      → OnOk result (new ≡ old ++ c ∷ []) → OnErr result (new ≡ old) → after ≡ before
      → Called Issues may old new before after
  called_none c (Ok it) none ok err same = record {
    requests = [];
    adds = rw none at (issues_one old new c ok);
    served = served_none may before after same;
  }
  called_none c (Err why) none ok err same = record {
    requests = [];
    adds = rw err (issues_nothing old);
    served = served_none may before after same;
  }

  -- commands that reserve nothing, or no commands
  pub called_nones : {E : Type 0} (cs : List Command) (result : Result (Unit {0}) E)
      → flat_map requests_of cs ≡ [] → OnOk result (new ≡ old ++ cs) → OnErr result (new ≡ old)
      → after ≡ before → Called Issues may old new before after
  called_nones cs (Ok it) none ok err same = record {
    requests = [];
    adds = record { added = cs; queue = ok; requests_are = sym none };
    served = served_none may before after same;
  }
  called_nones cs (Err why) none ok err same = record {
    requests = [];
    adds = rw err (issues_nothing old);
    served = served_none may before after same;
  }

  refused_called : (n : ℕ) (f : QueueFault) → new ≡ old ++ refused_by n f
      → (f ≡ fault.Memory → after ≡ before)
      → ((why : Refusal) → Err f ≡ queued {X = List Handle} (Err why)
      → may before after n (Err why)) → Called Issues may old new before after
  refused_called n (fault.Space wanted left) queue memory replied = record {
    requests = (n, Err (Space wanted left)) ∷ [];
    adds = issues_one old new (Refused n (Space wanted left)) queue;
    served = served_one may before after _ (replied (Space wanted left) refl);
  }
  refused_called n (fault.Quota left) queue memory replied = record {
    requests = (n, Err (Quota left)) ∷ [];
    adds = issues_one old new (Refused n (Quota left)) queue;
    served = served_one may before after _ (replied (Quota left) refl);
  }
  refused_called n fault.Memory queue memory replied = record {
    requests = [];
    adds = record { added = []; queue = queue; requests_are = refl };
    served = served_none may before after (memory refl);
  }

  pub called_spawn : (items : Bundle) (result : Result Handle QueueFault)
      → IfOk result (λ h. new ≡ old ++ Spawn h items ∷ [])
      → IfErr result (λ f. new ≡ old ++ refused_by 1 f)
      → (IsErrOf result fault.Memory → after ≡ before)
      → ((reply : Result Handle Refusal) → result ≡ queued reply
      → may before after 1 (listed_alone reply)) → Called Issues may old new before after
  called_spawn items (Ok h) ok refused memory replied = record {
    requests = (1, Ok (h ∷ [])) ∷ [];
    adds = issues_one old new (Spawn h items) ok;
    served = served_one may before after _ (replied (Ok h) refl);
  }
  called_spawn items (Err f) ok refused memory replied =
      refused_called 1 f refused (λ e. memory (ap Err e)) (λ why e. replied (Err why) (cc))

  pub called_many : (n : ℕ) (items : Bundle) (result : Result (Vec Handle Global) QueueFault)
      → IfOk result (λ hs. new ≡ old ++ SpawnMany hs.items items ∷ [])
      → IfErr result (λ f. new ≡ old ++ refused_by n f)
      → (IsErrOf result fault.Memory → after ≡ before)
      → ((reply : Result (List Handle) Refusal) → as_list result ≡ queued reply
      → may before after n reply) → IfOk result (λ hs. length hs.items ≡ n)
      → Called Issues may old new before after
  called_many n items (Ok hs) ok refused memory replied number = record {
    requests = (length hs.items, Ok hs.items) ∷ [];
    adds = issues_one old new (SpawnMany hs.items items) ok;
    served = served_one may before after _ (rw number (replied (Ok hs.items) refl));
  }
  called_many n items (Err f) ok refused memory replied number =
      refused_called n f refused (λ e. memory (ap Err e)) (λ why e. replied (Err why) (cc))

-- ---- logs

module _ {C : Type 0} where
  logs_more : (a b c : List (Entry C)) (first second : List Request) → Logs a first b
      → Logs b second c → Logs a (first ++ second) c
  logs_more a b c first second one two = search (rules, common_steps, flat_map-append)

  logs_nothing : (a : List (Entry C)) → Logs a [] a
  logs_nothing a = search (rules, append-nil)

  logs_one : (a b : List (Entry C)) (e : Entry C) → b ≡ a ++ e ∷ [] → Logs a (request_of e) b
  logs_one a b e is = record { added = e ∷ []; log = is; requests_are = search (rules, append-nil) }

  module _ {S R : Type 0} {serves : S → R → Type 0} {may : S → Replying R} where
    pub log_extends_nothing : (a : Commands (List (Entry C)) S R) → IsReady serves a
        → Extends Logs serves may a a
    log_extends_nothing = nothing_extends Logs serves may logs_nothing

    pub log_extends_then : (a b c : Commands (List (Entry C)) S R) → Extends Logs serves may a b
        → Extends Logs serves may b c → Extends Logs serves may a c
    log_extends_then = then_extends Logs serves may logs_more

  module _ {R : Type 0} (may : Replying R) (old new : List (Entry C)) (before after : R) where
    pub called_push : (command : C) (result : Result (Unit {0}) Memory)
        → OnOk result (new ≡ old ++ entry.Command command ∷ []) → OnErr result (new ≡ old)
        → after ≡ before → Called Logs may old new before after
    called_push command (Ok it) ok err same = record {
      requests = [];
      adds = logs_one old new (entry.Command command) ok;
      served = served_none may before after same;
    }
    called_push command (Err why) ok err same = record {
      requests = [];
      adds = rw err (logs_nothing old);
      served = served_none may before after same;
    }

    log_refused : (why : Refusal) → new ≡ old ++ entry.Refused why ∷ []
        → may before after 1 (Err why) → Called Logs may old new before after
    log_refused why log replied = record {
      requests = (1, Err why) ∷ [];
      adds = logs_one old new (entry.Refused why) log;
      served = served_one may before after _ replied;
    }

    pub called_log_spawn : (result : Result Handle QueueFault)
        → IfOk result (λ h. new ≡ old ++ entry.Spawn h ∷ [])
        → IfErr result (λ error. new ≡ old ++ refusal_entered error)
        → (IsErrOf result fault.Memory → after ≡ before)
        → ((reply : Result Handle Refusal) → result ≡ returned reply
        → may before after 1 (listed_alone reply)) → Called Logs may old new before after
    called_log_spawn (Ok h) ok refused memory replied = record {
      requests = (1, Ok (h ∷ [])) ∷ [];
      adds = logs_one old new (entry.Spawn h) ok;
      served = served_one may before after _ (replied (Ok h) refl);
    }
    called_log_spawn (Err (fault.Space wanted left)) ok refused memory replied =
        log_refused (Space wanted left) refused (replied (Err (Space wanted left)) refl)
    called_log_spawn (Err (fault.Quota left)) ok refused memory replied =
        log_refused (Quota left) refused (replied (Err (Quota left)) refl)
    called_log_spawn (Err fault.Memory) ok refused memory replied = record {
      requests = [];
      adds = record { added = []; log = refused; requests_are = refl };
      served = served_none may before after (memory refl);
    }
