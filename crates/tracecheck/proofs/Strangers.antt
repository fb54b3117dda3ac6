-- What is said of a trace whose first line can't be. The edits in must-fail/ say something else of
-- it.
use Rattle.tracecheck.proofs.Common.{no_middle, rules, ◌≡◌, ℕ, ◌+◌, ◌^◌, ◌<◌, List, [], ◌∷◌, ◌++◌}
use Rattle.tracecheck.proofs.Common.{length, take, None, Some, Ok, Err, refl, arith, if◌then◌else◌}
use Rattle.tracecheck.proofs.Common.{common_steps, Handle, Space, Limits, Allocator, cursor}
use Rattle.tracecheck.proofs.Common.{opening, Difference, Call, Reservation, AreAnswered, Fits}
use Rattle.tracecheck.proofs.Common.{FitsReserved, IsOrderOf, after_line, line_of, words_of}
use Rattle.tracecheck.proofs.Common.{calls_from, requested_from, AskFew, HasTaken, IsVerdict}
use Rattle.tracecheck.proofs.Common.{asks_too_many, differs, Checking, Bool, true}
use Rattle.ent_replay.specs.declared.trace.call.Call.TheVariants as line
use Rattle.ent_replay.specs.declared.trace.reply.ReserveReply.TheVariants as reserve
use Rattle.tracecheck.specs.declared.verdict.Verdict.TheVariants as verdict
use Rattle.tracecheck.specs.declared.verdict.Refusal.TheVariants as refusal

-- a request for none that was refused
abbrev pub never : ℕ → ℕ → Reservation
never number caller =
    record { number = number; caller = caller; requested = 0; reply = reserve.Space }

none_refused : (b : Bool) (x : List Handle) (e : Space) → b ≡ true
    → FitsReserved reserve.Space (if b then Ok x else Err
    e) → ⊥
none_refused it x e is fits = grind (arith, common_steps)

never_fits : (number caller : ℕ) (s : Allocator) → Fits s (line.Reserve (never number caller)) → ⊥
never_fits number caller s fits = search (rules, none_refused)

-- a line that fits nowhere stands in no trace that agrees
dead : (l : Call) → ((s : Allocator) → Fits s l → ⊥) → (order rest : List Call) (s : Allocator)
    → IsOrderOf (l ∷ rest) order → AreAnswered s order → ⊥
dead l unfit [] rest s is answered = absurd cc
dead l unfit (k ∷ order) rest s ([], after, parts, passes, more) answered = search rules
dead l unfit (k ∷ order) rest s (x ∷ before, after, parts, passes, more) answered =
    let same : x ≡ l =
    cc in dead l unfit order (before ++ after) (after_line s k) (rw same at more) answered.1

-- the first line of the trace, and the line that is named
abbrev first : Reservation
first = never 1 1

abbrev named : Reservation
named = never 1 1

no_order : (s : Allocator) (order : List Call) → IsOrderOf (line.Reserve named ∷ []) order
    → AreAnswered s order → ⊥
no_order s order is answered = search (rules, dead, never_fits)

-- of the two lines only the first may come next
only_first : (s : Allocator) (next : Call) (left : List Call)
    → IsOrderOf (line.Reserve named ∷ line.Flush None ∷ []) (next ∷ left) → Fits s next → ⊥
only_first s next left ([], after, parts, passes, more) fits = search (rules, never_fits)
only_first s next left (b ∷ [], after, parts, passes, more) fits = search rules
only_first s next left (b ∷ d ∷ before, after, parts, passes, more) fits =
    no_middle before after next cc

-- the state in which it is compared
abbrev state : Limits → Allocator
state limits = opening limits

abbrev said : Limits → Difference
said limits = record {
  number = named.number;
  told = line.Reserve named;
  expected = line.Reserve (record named { reply = reserve.Handles [] });
  front = take 8 (state limits).pool;
  cursor = cursor (state limits);
}

module _ (limits : Limits) (one two : List ℕ)
    (read : calls_from 1 (one ∷ []) ≡ Ok (line.Reserve first ∷ [])) where
  few : AskFew 0 (line.Reserve first ∷ [])
  few = (omega arith, omega arith)

  pub names_the_first : line_of 2 (words_of two) ≡ Ok (Some (line.Flush None))
      → IsVerdict (opening limits) (one ∷ two ∷ []) (verdict.Differs (said limits))
  names_the_first is = differs (said limits) (record {
    number = 2;
    calls = line.Reserve first ∷ [];
    next = line.Flush None;
    stands =
        record {
          before = one ∷ [];
          text = two;
          after = [];
          is = refl;
          number_is = refl;
          read = read;
          named = is;
        };
    alone = tt;
    few = few;
    checked = record { allocator = state limits; run = named ∷ [] };
    reached = (record { allocator = opening limits; run = first ∷ [] }, refl, refl);
    shows = record {
      placed = [];
      next = line.Reserve named;
      left = line.Flush None ∷ [];
      is_order = ([], line.Flush None ∷ [], refl, tt, ([], [], refl, tt, refl));
      answered = tt;
      differs = record {
        unlike = never_fits named.number named.caller (state limits);
        expected = grind (arith, common_steps);
        number_is = refl;
        told_is = refl;
        front_is = refl;
        cursor_is = refl;
      };
      stuck = only_first (state limits);
      blamed = no_order (state limits);
    };
    none = search (rules, dead, never_fits);
  })

-- a trace is refused for its requests since the last flush
pub refuses_too_many : (limits : Limits) (texts after : List (List ℕ)) (text : List ℕ)
    (r : Reservation) (old : Checking) (h : HasTaken (opening limits) texts old)
    → line_of (length texts + 1) (words_of text) ≡ Ok (Some (line.Reserve r))
    → 2 ^ 50 < requested_from 0 (h.calls ++ line.Reserve r ∷ [])
    → IsVerdict (opening limits) (texts ++ text ∷ after)
    (verdict.Refused (length texts + 1) refusal.Requests)
refuses_too_many limits texts after text r old h named many =
    asks_too_many (length texts + 1) (record {
      calls = h.calls;
      next = line.Reserve r;
      stands = search rules;
      checked = old.comparer;
      reached = h.reached;
      few = h.few;
      many = many;
    })
