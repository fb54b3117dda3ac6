-- What lines request, and orders that lines may have come in: of a front and a rest, and what they
-- are answered.
use Rattle.ent_replay.proofs.Common.{rules, ◌≡◌, ℕ, ◌+◌, Bool, if◌then◌else◌, arith, List, [], ◌∷◌}
use Rattle.ent_replay.proofs.Common.{◌++◌, ap, sym, refl, sum_by-cons, sum_by_push, AllByRecursion}
use Rattle.ent_replay.proofs.Common.{Handle, Allocator, after_free, asked-after_take, Call}
use Rattle.ent_replay.proofs.Common.{Reservation, IsOrderOf, after_front, after_line, after_lines}
use Rattle.ent_replay.proofs.Common.{Checked, IsSettled, Reaches, ReachesAll, requested_in}
use Rattle.ent_replay.proofs.Common.{reserve_lines, length, common_steps, append_assoc, append-nil}
use Rattle.ent_replay.proofs.Common.{length-append, Fits, AreAnswered, IsAlone, AgreesWith, Follows}
use Rattle.ent_replay.proofs.Common.{Differs, IfReserve, Shows, HasNoOrder, NoneFollows, Difference}
use Rattle.ent_replay.specs.declared.trace.call.Call.TheVariants as line
use Rattle.ent_replay.proofs.Lists.{all_at, all_without, IsReserve, all_reserve, parts, parted}

abbrev asks_line : Call → ℕ
asks_line (line.Reserve r) = r.requested
asks_line other = 0

abbrev asks_in : List Call → ℕ
asks_in [] = 0
asks_in (l ∷ lines) = asks_line l + asks_in lines

asks-run : (run : List Reservation) → asks_in (reserve_lines run) ≡ requested_in run
asks-run [] = refl
asks-run (r ∷ run) = search (rules, sum_by-cons, asks-run run)

asks-middle : (before after : List Call) (l : Call) → asks_in (before ++ l ∷ after) ≡ asks_line l
    + asks_in (before ++ after)
asks-middle [] after l = refl
asks-middle (b ∷ before) after l = omega (arith, asks-middle before after l)

asks-ordered : (order lines : List Call) → IsOrderOf lines order → asks_in order ≡ asks_in lines
asks-ordered [] lines is = ap asks_in (sym is)
asks-ordered (l ∷ order) lines (before, after, parts, passes, more) = search
    (rules, asks-ordered order (before ++ after) more, asks-middle, parts)

pub reserves-ordered : (order lines : List Call) → IsOrderOf lines order
    → AllByRecursion IsReserve lines → AllByRecursion IsReserve order
reserves-ordered [] lines is all = tt
reserves-ordered (l ∷ order) lines (before, after, parts, passes, more) all =
    let here = rw parts at all in
    search (rules, all_at, all_without, reserves-ordered order (before ++ after) more)

asked-reserves : (order : List Call) (s : Allocator) → AllByRecursion IsReserve order
    → (after_lines s order).asked ≡ s.asked + asks_in order
asked-reserves [] s all = omega arith
asked-reserves (it ∷ order) s all =
    search (rules, arith, asked-after_take, asked-reserves order (after_line s it))

-- the state after a run has asked for what the run requests
pub asked-settled : (c : Checked) (at : Allocator) → IsSettled c at
    → at.asked ≡ c.allocator.asked + requested_in c.run
asked-settled c at settled =
    search (rules, asked-reserves, reserves-ordered, all_reserve, asks-ordered, asks-run)

-- ---- after one more line

asked-front : (s : Allocator) (pool : List Handle) → (after_front s pool).asked ≡ s.asked
asked-front s it = search rules

asked-alloc : (b : Bool) (s : Allocator) → (if b then s else after_front s s.pool).asked ≡ s.asked
asked-alloc it s = search (rules, asked-front)

asked-free : (b c : Bool) (s : Allocator) (h : Handle)
    → (if b then s else (if c then after_free s h else s)).asked
    ≡ s.asked
asked-free it other s h = search rules

-- how many are requested since the last flush, in the lines that were taken
abbrev pub requested_by : Checked → ℕ
requested_by c = c.allocator.asked + requested_in c.run

-- and with one more line, if so many were before it
abbrev pub requested_with : ℕ → Call → ℕ
requested_with n (line.Reserve r) = n + r.requested
requested_with n (line.Flush told) = 0
requested_with n other = n

pub requested-next : (old new : Checked) (l : Call) → Reaches old l new
    → requested_by new ≡ requested_with (requested_by old) l
requested-next old new (line.Reserve r) is = search (rules, sum_by_push)
requested-next old new (line.Flush told) (at, settled, fits, is) = ap requested_by is
requested-next old new l (at, settled, fits, is) = search
    (rules, arith, is, asked-settled old at settled, asked-alloc, asked-free)

-- one line after the others
pub ReachesAll-next : (old middle new : Checked) (lines : List Call) (l : Call)
    → ReachesAll old lines middle → Reaches middle l new → ReachesAll old (lines ++ l ∷ []) new
ReachesAll-next old middle new [] l is next = (new, rw (← is) next, refl)
ReachesAll-next old middle new (x ∷ lines) l (second, first, more) next =
    (second, first, ReachesAll-next second middle new lines l more next)

-- ---- orders of a front and a rest

-- an order of the front and one of the rest are one of all
pub IsOrderOf-append : (front rest first second : List Call) → IsOrderOf front first
    → IsOrderOf rest second → IsOrderOf (front ++ rest) (first ++ second)
IsOrderOf-append front rest [] second none is = search rules
IsOrderOf-append front rest (l ∷ first) second (before, after, parts, passes, more) is = search
    (rules, parts, append_assoc, IsOrderOf-append (before ++ after) rest first second more is)

-- one line first
pub IsOrderOf-cons : (l : Call) (rest order : List Call) → IsOrderOf rest order
    → IsOrderOf (l ∷ rest) (l ∷ order)
IsOrderOf-cons l rest order is = ([], rest, refl, tt, is)

pub AreAnswered-append : (s : Allocator) (first second : List Call) → AreAnswered s first
    → AreAnswered (after_lines s first) second → AreAnswered s (first ++ second)
AreAnswered-append s [] second first_yes more = more
AreAnswered-append s (l ∷ first) second first_yes more =
    (first_yes.0, AreAnswered-append (after_line s l) first second first_yes.1 more)

-- one more reservation in the run, or as the next line
pub run_more : (run : List Reservation) (r : Reservation) (rest : List Call)
    → reserve_lines (run ++ r ∷ []) ++ rest ≡ reserve_lines run ++ line.Reserve r ∷ rest
run_more run r rest = grind (arith, common_steps)

answered_front : (s : Allocator) (first second : List Call) → AreAnswered s (first ++ second)
    → AreAnswered s first
answered_front s [] second all = tt
answered_front s (l ∷ first) second all =
    (all.0, answered_front (after_line s l) first second all.1)

pub answered_back : (s : Allocator) (first second : List Call) → AreAnswered s (first ++ second)
    → AreAnswered (after_lines s first) second
answered_back s [] second all = all
answered_back s (l ∷ first) second all = answered_back (after_line s l) first second all.1

-- what a trace that begins with the run and this line tells: of the run, of the line and of the
-- rest
pub record Told (c : Checked) (l : Call) (rest : List Call) : Type 0 where
  pub first : List Call
  pub second : List Call
  pub is_order : IsOrderOf (reserve_lines c.run) first
  pub answered : AreAnswered c.allocator first
  pub fits : Fits (after_lines c.allocator first) l
  pub rest_is_order : IsOrderOf rest second
  pub rest_answered : AreAnswered (after_line (after_lines c.allocator first) l) second

pub told : (c : Checked) (l : Call) (rest : List Call) → IsAlone l → AgreesWith c (l ∷ rest)
    → Told c l rest
told c l rest alone agrees = search (rules, parts, all_reserve, answered_back, answered_front)

-- the run was settled, and the line fits then
pub called-Follows : (c : Checked) (l : Call) (after : Allocator) → IsAlone l → IsSettled c after
    → Fits after l
    → Follows c l (record { allocator = after_line after l; run = [] })
called-Follows c l after alone settled fits = record {
  sound = λ rest agrees. record {
    order = settled.order ++ l ∷ agrees.order;
    is_order = IsOrderOf-append _ _ _ _ settled.is_order (IsOrderOf-cons l _ _ agrees.is_order);
    answered =
        AreAnswered-append c.allocator _ _ settled.answered
        (rw (← settled.after_is) (fits, agrees.answered));
  };
  complete = λ rest agrees. search (rules, told c l _ alone agrees);
}

-- ---- where a trace doesn't agree

length-ordered : (order lines : List Call) → IsOrderOf lines order → length order ≡ length lines
length-ordered [] lines is = ap length (sym is)
length-ordered (l ∷ order) lines (before, after, parts, passes, more) = search
    (rules, length-append, parts, length-ordered order (before ++ after) more)

-- an alone line isn't one of a run
not_in_run : (run : List Reservation) (order before after : List Call) (l : Call)
    → IsOrderOf (reserve_lines run) order → order ≡ before ++ l ∷ after → IsAlone l → ⊥
not_in_run run order before after it is parts alone =
    search (rules, parts, reserves-ordered, all_reserve, all_at)

-- one more line doesn't change it
pub Shows-more : (c : Checked) (n : ℕ) (l : Call) (d : Difference) → IsAlone l → Shows c n [] d
    → Shows c n (l ∷ []) d
Shows-more c n l d alone shows = record {
  placed = shows.placed;
  next = shows.next;
  left = shows.left ++ l ∷ [];
  is_order = rw (← append_assoc shows.placed (shows.next ∷ shows.left) (l ∷ []))
      (IsOrderOf-append _ _ _ _ (rw append-nil at shows.is_order) (IsOrderOf-cons l [] [] refl));
  answered = shows.answered;
  differs = shows.differs;
  blamed = shows.blamed;
  stuck = λ x more is.
      let p = parts _ [] l (shows.placed ++ x ∷ more) (all_reserve _) alone is in
      let own = rw append-nil at shows.is_order in
      let stands = parted _ _ _ _ x l p.is in
      let a = length-ordered _ _ p.first_is in
      let b = length-ordered _ _ own in
      grind (arith, common_steps, not_in_run, length-append, append_assoc, append-nil, shows.stuck);
}

none_blamed : (l : Call) (P : Type 0) → IsAlone l → IfReserve l P
none_blamed it P alone = search rules

-- the run was settled, and the line differs then
pub called-Shows : (c : Checked) (l : Call) (after : Allocator) (n : ℕ) (d : Difference) → IsAlone l
    → IsSettled c after → Differs after n l d → Shows c n (l ∷ []) d
called-Shows c l after n d alone settled differs = record {
  placed = settled.order;
  next = l;
  left = [];
  is_order = IsOrderOf-append _ _ _ _ settled.is_order (IsOrderOf-cons l [] [] refl);
  answered = settled.answered;
  differs = rw (← settled.after_is) differs;
  blamed = none_blamed l (HasNoOrder c) alone;
  stuck =
      grind
      (arith, common_steps, parts, all_reserve, parted, not_in_run, length-ordered, length-append);
}

-- and no other order of the run would help
pub called-None : (c : Checked) (l : Call) (after : Allocator) → IsAlone l → IsSettled c after
    → ¬ (Fits after l) → NoneFollows c l
called-None c l after alone settled unlike rest agrees = grind
    (arith, common_steps, told c l rest alone agrees, settled.only)

-- no order of the run is answered so
pub settled-None : (c : Checked) (l : Call) → IsAlone l → HasNoOrder c → NoneFollows c l
settled-None c l alone none rest agrees = grind (arith, common_steps, told c l rest alone agrees)

-- a call that nothing overlaps is made in the state after the run
pub alone_Reaches : (c : Checked) (l : Call) (new : Checked) (at : Allocator) → IsAlone l
    → IsSettled c at → Fits at l
    → new ≡ record { allocator = after_line at l; run = [] } → Reaches c l new
alone_Reaches c (line.Reserve r) new at alone settled fits is = absurd alone
alone_Reaches c l new at alone settled fits is = (at, settled, fits, is)
