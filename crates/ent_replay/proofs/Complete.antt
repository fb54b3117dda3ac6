-- Reservations one after the other: those for nothing can be left out, of those that follow a
-- refusal none is served, and what the key of one tells of where it comes.
use Rattle.ent_replay.proofs.Common.{rules, ◌≡◌, ℕ, ◌+◌, ◌<◌, Bool, true, false, nat_lt, List, []}
use Rattle.ent_replay.proofs.Common.{◌∷◌, length, filter, Ok, Err, refl, ap, ◌∙◌, arith, inl, inr}
use Rattle.ent_replay.proofs.Common.{◌⊎◌, common_steps, AllByRecursion, lt-ltb, Allocator}
use Rattle.ent_replay.proofs.Common.{after_take, reply_to, reply-none, after_take-none}
use Rattle.ent_replay.proofs.Common.{after_take-refused, Placed, AreAnswered, FitsReserved}
use Rattle.ent_replay.proofs.Common.{after_lines, ◌≢◌, ◌-◌, ◌^◌, ◌≤◌, ◌++◌, take, drop, get_or}
use Rattle.ent_replay.proofs.Common.{slice_get, Some, sym, true≢false, Contains, eq-eqb, ne_eqb}
use Rattle.ent_replay.proofs.Common.{cases_lt, get_or-take, get_or-drop, length-take, length-drop}
use Rattle.ent_replay.proofs.Common.{Contains-permutation, IsPermutation-sym, length_permutation}
use Rattle.ent_replay.proofs.Common.{get_or_from_slice_get, slice_get_within, Handle, available}
use Rattle.ent_replay.proofs.Common.{listed, stands_in, IsSound, reply-served, reply-refused}
use Rattle.ent_replay.proofs.Common.{listed-IsPermutation, stands_in-from_Contains}
use Rattle.ent_replay.proofs.Common.{asked-after_take, after_take-sound, available-after_take}
use Rattle.ent_replay.proofs.Common.{ReserveReply, KeyOf, IsKeyed, AreKeyed, raised, append-nil}
use Rattle.ent_replay.proofs.Common.{none, emptied, zero, suc, All-filter, All-from_recursion}
use Rattle.ent_replay.specs.declared.trace.reply.ReserveReply.TheVariants as reserve
use Rattle.ent_replay.proofs.Sorted.{lines, tie, tie_from, IsRising, TieAlike, whole, least, begins}
use Rattle.ent_replay.proofs.Sorted.{nothing_left, alike_rest}
use Rattle.ent_replay.proofs.Lists.{no_middle, split, all_at, all_without, all_weaker, itself_or}

abbrev pub asks : Placed → ℕ
asks p = p.reservation.requested

abbrev pub asks_some : Placed → Bool
asks_some p = nat_lt 0 (asks p)

-- the reply fits where so many are left, and that is too few
abbrev pub FitsLeft : ℕ → Placed → Type 0
FitsLeft left p = FitsReserved p.reservation.reply (Err (record { wanted = asks p; left = left }))

-- a request for nothing was answered by nothing
abbrev pub FitsNothing : Placed → Type 0
FitsNothing p = asks p ≡ 0 → FitsReserved p.reservation.reply (Ok [])

abbrev pub Answers : Allocator → List Placed → Type 0
Answers s run = AreAnswered s (lines run)

abbrev pub after_run : Allocator → List Placed → Allocator
after_run s run = after_lines s (lines run)

-- ---- requests for nothing

pub some_or_none : (n : ℕ) → ((nat_lt 0 n ≡ true) × (0 < n)) ⊎ ((nat_lt 0 n ≡ false) × (n ≡ 0))
some_or_none n = search (rules, lt-ltb)

module _ (p : Placed) (run : List Placed) where
  pub kept : nat_lt 0 (asks p) ≡ true → filter asks_some (p ∷ run) ≡ p ∷ filter asks_some run
  kept some = cc

  pub left_out : nat_lt 0 (asks p) ≡ false → filter asks_some (p ∷ run) ≡ filter asks_some run
  left_out none = cc

-- it changes nothing
nothing-after : (s : Allocator) (p : Placed) → asks p ≡ 0 → after_take s (asks p) ≡ s
nothing-after s p none = cc (none, after_take-none s)

-- and is always answered so
nothing-reply : (s : Allocator) (p : Placed) → asks p ≡ 0 → reply_to s (asks p) ≡ Ok []
nothing-reply s p none = ap (reply_to s) none ∙ reply-none s

pub Answers-some : (run : List Placed) (s : Allocator) → Answers s run
    → Answers s (filter asks_some run)
Answers-some [] s answered = tt
Answers-some (p ∷ run) s answered =
    search (
      rules,
      some_or_none,
      kept,
      left_out,
      nothing-after,
      Answers-some run (after_take s (asks p)) answered.1,
    )

pub after-some : (run : List Placed) (s : Allocator)
    → after_run s run ≡ after_run s (filter asks_some run)
after-some [] s = refl
after-some (p ∷ run) s =
    search (
      rules,
      some_or_none,
      kept,
      nothing-after,
      left_out,
      after-some run (after_take s (asks p)),
      after-some run s,
    )

pub nothing-fits : (run : List Placed) (s : Allocator) → Answers s run
    → AllByRecursion FitsNothing run
nothing-fits [] s answered = tt
nothing-fits (p ∷ run) s answered =
    search (rules, nothing-fits run (after_take s (asks p)) answered.1)

pub Answers-from_some : (run : List Placed) (s : Allocator) → AllByRecursion FitsNothing run
    → Answers s (filter asks_some run) → Answers s run
Answers-from_some [] s fits answered = tt
Answers-from_some (p ∷ run) s fits answered =
    let served = Answers-from_some run (after_take s (asks p)) fits.1 in
    let none = Answers-from_some run s fits.1 in
    search (rules, some_or_none, kept, left_out, nothing-reply, nothing-after, served, none)

-- ---- after a refusal

-- it asks for something, and the reply fits where nothing is left
pub record FindsNone (p : Placed) : Type 0 where
  pub some : 0 < asks p
  pub fits : FitsLeft 0 p

empty-refuses : (s : Allocator) (n : ℕ) → s.pool ≡ [] → 0 < n
    → reply_to s n ≡ Err (record { wanted = n; left = 0 })
empty-refuses s n none some = grind (arith, common_steps)

stays-empty : (s : Allocator) (n : ℕ) → s.pool ≡ [] → (after_take s n).pool ≡ []
stays-empty s n none = grind (arith, common_steps)

pub Answers-empty : (run : List Placed) (s : Allocator) → s.pool ≡ [] → AllByRecursion FindsNone run
    → Answers s run
Answers-empty [] s none all = tt
Answers-empty (p ∷ run) s none all =
    search (
      rules,
      empty-refuses,
      Answers-empty run (after_take s (asks p)) (stays-empty s (asks p) none) all.1,
    )

pub empty-Answers : (run : List Placed) (s : Allocator) → s.pool ≡ []
    → AllByRecursion (λ p. 0 < asks p) run → Answers s run → AllByRecursion FindsNone run
empty-Answers [] s none some answered = tt
empty-Answers (p ∷ run) s none some answered =
    search (
      rules,
      empty-refuses,
      empty-Answers run (after_take s (asks p)) (stays-empty s (asks p) none) some.1 answered.1,
    )

-- how much is requested in all
abbrev pub total : List Placed → ℕ
total [] = 0
total (p ∷ run) = asks p + total run

-- all that it leaves is that so much more was asked for
pub after-empty : (run : List Placed) (s : Allocator) → s.pool ≡ []
    → AllByRecursion (λ p. 0 < asks p) run
    → after_run s run ≡ record s { asked = s.asked + total run }
after-empty [] s none some = search rules
after-empty (p ∷ run) s none some =
    let more = after-empty run (record s { asked = s.asked + asks p }) none some.1 in
    search (rules, after_take-refused, append-nil, more)

module _ (given : List Handle) (s : Allocator) (sound : IsSound s) (is : available s ≡ given)
    (n own : ℕ) where
  -- a served reply's key lies among the places that the request passed
  pub record InPlace : Type 0 where
    pub from : s.asked ≤ own
    pub below : own < s.asked + n
    pub small : own < 2 ^ 32

  in_place : (h : Handle) → Contains (take n s.pool) h → (own < 2 ^ 32)
      × ((slice_get given own ≡ Some h) ⊎ (stands_in given h ≡ false)) → InPlace
  in_place h has key =
      let i = has.0 in
      let inside : (i < n) × (i < length s.pool) = search (rules, arith, length-take n s.pool) in
      let pool_is : s.pool ≡ drop s.asked given = cc (sound.pool, is) in
      let there : s.asked + i < length given =
      omega (arith, length-drop s.asked given, ap length pool_is) in
      let found : get_or given (s.asked + i) h ≡ h = search (rules, get_or-drop, get_or-take) in
      let apart = rw is at sound.apart in
      let stands = stands_in-from_Contains given h (s.asked + i, there, found) in
      search (
        rules,
        arith,
        true≢false,
        stands,
        key,
        slice_get_within given own h,
        get_or_from_slice_get given own h h,
      )

  some_listed : 0 < n → n ≤ length s.pool → [] ≡ listed s.made (take n s.pool) → ⊥
  some_listed some enough none =
      let long = length_permutation _ _ (listed-IsPermutation s.made (take n s.pool)) in
      grind (arith, common_steps, length-take n s.pool)

  served_by : (reply : ReserveReply) → 0 < n → n ≤ length s.pool
      → FitsReserved reply (Ok (listed s.made (take n s.pool))) → KeyOf given n reply own → InPlace
  served_by (reserve.Handles (h ∷ told)) some enough fits key = in_place h
      (Contains-permutation (listed s.made (take n s.pool)) (take n s.pool) h
      (search (rules, IsPermutation-sym, listed-IsPermutation))
      (rw (← fits) (0, omega arith, refl))) key
  served_by it some enough fits key = absurd (search (rules, some_listed))

  pub served_key : (reply : ReserveReply) → 0 < n → n ≤ length s.pool
      → FitsReserved reply (reply_to s n) → KeyOf given n reply own → InPlace
  served_key reply some enough fits key = search (rules, served_by, reply-served)

-- a refused one's lies above all places
pub refused_key : (given : List Handle) (n own left : ℕ) (reply : ReserveReply) → n < 2 ^ 32
    → FitsReserved reply (Err (record { wanted = n; left = left })) → KeyOf given n reply own
    → 2 ^ 32 ≤ own
refused_key given n own left told small fits key = search rules

-- ---- keys along a caller

pub raised_other : (f : ℕ → ℕ) (p : Placed) (q : ℕ) → q ≢ p.reservation.caller → raised f p q ≡ f q
raised_other f p q other = simp ne_eqb

pub raised_own : (f : ℕ → ℕ) (p : Placed) (q : ℕ) → q ≡ p.reservation.caller → raised f p q ≡ p.key
raised_own f p q same = simp eq-eqb

-- those before are of other callers
abbrev pub IsOfOther : Placed → Placed → Type 0
IsOfOther c b = b.reservation.caller ≢ c.reservation.caller

module _ (given : List Handle) (after : List Placed) (c : Placed) where
  pub keyed_head : (before : List Placed) (f : ℕ → ℕ) → AllByRecursion (IsOfOther c) before
      → AreKeyed given f (before ++ c ∷ after) → IsKeyed given (f c.reservation.caller) c
  keyed_head [] f others keyed = keyed.0
  keyed_head (b ∷ before) f others keyed =
      search (rules, keyed_head before (raised f b) others.1 keyed.1)

  pub keyed_without : (before : List Placed) (f : ℕ → ℕ) → AllByRecursion (IsOfOther c) before
      → AreKeyed given f (before ++ c ∷ after) → AreKeyed given (raised f c) (before ++ after)
  keyed_without [] f others keyed = keyed.1
  keyed_without (b ∷ before) f others keyed =
      search (rules, raised_other, keyed_without before _ others.1 keyed.1)

-- each has its own key or a greater one
pub record HasKey (given : List Handle) (p : Placed) : Type 0 where
  pub own : ℕ
  pub key_of : KeyOf given (asks p) p.reservation.reply own
  pub least : own ≤ p.key
  pub small : asks p < 2 ^ 32

pub has_keys : (given : List Handle) (f : ℕ → ℕ) (run : List Placed) → AreKeyed given f run
    → AllByRecursion (HasKey given) run
has_keys given f [] keyed = tt
has_keys given f (p ∷ run) keyed = search (rules, has_keys given (raised f p) run keyed.1)

-- what comes later in a legal order has no lesser key than what was asked for
pub later_keys : (given : List Handle) (run : List Placed) (s : Allocator) (k : ℕ) → IsSound s
    → available s ≡ given → k ≤ s.asked → k ≤ 2 ^ 32 → AllByRecursion (λ p. 0 < asks p) run
    → AllByRecursion (HasKey given) run → Answers s run
    → AllByRecursion (λ (p : Placed). k ≤ p.key) run
later_keys given [] s k sound is low few some keys answered = tt
later_keys given (p ∷ run) s k sound is low few some keys answered =
    let n = asks p in
    let key = keys.0 in
    let refused = refused_key given n key.own (length s.pool) p.reservation.reply key.small in
    let served = served_key given s sound is n key.own p.reservation.reply some.0 in
    let more = asked-after_take s n in
    let t_sound = after_take-sound s n sound in
    let t_is = available-after_take s n sound ∙ is in
    let later =
    later_keys given run (after_take s n) k t_sound t_is (omega arith) few some.1 keys.1
    answered.1 in
    search (
      rules,
      arith,
      cases_lt (length s.pool) n,
      reply-refused,
      refused,
      served,
      answered.0,
      key.key_of,
      later,
    )

-- ---- if any order of a run is answered so, the sorted one is

-- an order of placed reservations that keeps each caller's
abbrev pub IsPlacedOrder : List Placed → List Placed → Type 0
IsPlacedOrder run [] = run ≡ []
IsPlacedOrder run (p ∷ order) = (before : List Placed) × (after : List Placed)
    × (run ≡ before ++ p ∷ after) × AllByRecursion (IsOfOther p) before
    × IsPlacedOrder (before ++ after) order

-- what holds of all in the run holds of all in the order, and the other way round
module _ (P : Placed → Type 0) where
  all_with : (before after : List Placed) (p : Placed) → P p → AllByRecursion P (before ++ after)
      → AllByRecursion P (before ++ p ∷ after)
  all_with [] after p here all = (here, all)
  all_with (b ∷ before) after p here all = (all.0, all_with before after p here all.1)

  pub all_ordered : (run order : List Placed) → IsPlacedOrder run order → AllByRecursion P run
      → AllByRecursion P order
  all_ordered run [] is all = tt
  all_ordered run (p ∷ order) (before, after, parts, others, more) all =
      let here = rw parts at all in
      search (rules, all_at, all_without, all_ordered (before ++ after) order more)

  pub all_unordered : (run order : List Placed) → IsPlacedOrder run order → AllByRecursion P order
      → AllByRecursion P run
  all_unordered run [] is all = rw is tt
  all_unordered run (p ∷ order) (before, after, parts, others, more) all = rw parts
      (search (rules, all_with, all_unordered (before ++ after) order more all.1))

-- what holds of all that tie with any one in one list does so in the other
pub all_alike : (P : Placed → Type 0) (sorted run : List Placed) → TieAlike sorted run
    → AllByRecursion P run → AllByRecursion P sorted
all_alike P sorted run alike all = whole P sorted (λ x. search
    (rules, All-filter (tie x) P run (All-from_recursion P run all)))

nothing_sorted : (sorted : List Placed) → TieAlike sorted [] → sorted ≡ []
nothing_sorted [] alike = refl
nothing_sorted (d ∷ sorted) alike = grind (arith, common_steps, tie d, tie_from d d)

-- ---- refusals

module _ (given : List Handle) where
  -- what was refused where nothing is left comes after the one that says how many it left
  none_high : (n own : ℕ) (reply : ReserveReply) → n < 2 ^ 32
      → FitsReserved reply (Err (record { wanted = n; left = 0 })) → KeyOf given n reply own
      → 2 ^ 32 < own
  none_high n own told small fits key = search rules

  -- a first refusal would do as a later one, or says that it left some
  later_or_first : (n left : ℕ) (reply : ReserveReply)
      → FitsReserved reply (Err (record { wanted = n; left = left }))
      → FitsReserved reply (Err (record { wanted = n; left = 0 }))
      ⊎ ((own : ℕ) → KeyOf given n reply own → own ≡ 2
      ^ 32)
  later_or_first n left (reserve.SpaceLeft zero) fits = inl refl
  later_or_first n left (reserve.SpaceLeft (suc told)) fits = inr (λ own key. key)
  later_or_first n left it fits = search rules

  -- one with no greater key may be the first in its place
  pub takes_place : (n m left own other : ℕ) (reply mine : ReserveReply)
      → FitsReserved reply (Err (record { wanted = n; left = left }))
      → FitsReserved reply (Err (record { wanted = n; left = 0 })) → left < n
      → KeyOf given n reply own
      → FitsReserved mine (Err (record { wanted = m; left = 0 })) → 0 < m → KeyOf given m mine other
      → other ≤ own
      → FitsReserved mine (Err (record { wanted = m; left = left })) × (left < m)
  takes_place n m left own other it t fits later more key answered some of le = search rules

-- a run of which the first is refused, and nothing is left to the others
refused_run : (s : Allocator) (h : Placed) (run : List Placed) → length s.pool < asks h
    → FitsLeft (length s.pool) h
    → AllByRecursion FindsNone run → Answers s (h ∷ run) × (after_run s (h ∷ run)
    ≡ record s { aside = s.aside ++ s.pool; pool = []; asked = s.asked + (asks h + total run) })
refused_run s h run short fits all =
    search (
      rules,
      asks,
      after_take-refused,
      all_weaker,
      total,
      reply-refused,
      Answers-empty,
      after_run,
      after-empty,
    )

-- ---- the front of the order stands in the run where the front of the sorted run does

abbrev IsLow : (ℕ → ℕ) → Allocator → Type 0
IsLow f s = (q : ℕ) → (f q ≤ s.asked) × (f q < 2 ^ 32)

low_next : (f : ℕ → ℕ) (s : Allocator) (c : Placed) → IsLow f s → c.key < s.asked + asks c
    → c.key < 2 ^ 32 → IsLow (raised f c) (after_take s (asks c))
low_next f s c low below small q = grind (arith, common_steps)

module _ (given : List Handle) where
  pub sorted_is : (order sorted run : List Placed) (s : Allocator) (f : ℕ → ℕ) → IsSound s
      → available s ≡ given → IsLow f s → AreKeyed given f run → IsPlacedOrder run order
      → AllByRecursion (λ p. 0 < asks p) order → Answers s order → IsRising sorted
      → TieAlike sorted run → total sorted ≡ total order
      → Answers s sorted × (after_run s order ≡ after_run s sorted)
  sorted_is [] sorted run s f sound is low keyed none some answered up alike sum = search
      (rules, nothing_sorted, after_run)
  sorted_is (c ∷ order) [] run s f sound is low keyed (before, after, parts, others, more) some
      answered up alike sum =
      search (rules, no_middle, nothing_left)
  sorted_is (c ∷ order) (h ∷ sorted) run s f sound is low keyed (before, after, parts, others, more)
      some answered up
      alike sum =
      let n = asks c in
      let keyed_here = rw parts at keyed in
      let head = keyed_head given after c before f others keyed_here in
      let rest_keyed = keyed_without given after c before f others keyed_here in
      let rest_keys = has_keys given (raised f c) (before ++ after) rest_keyed in
      let order_keys = all_ordered (HasKey given) (before ++ after) order more rest_keys in
      let sp = split (tie h) h (filter (tie h) sorted) run (begins h sorted run alike) in
      let both : before ++ c ∷ after ≡ sp.before ++ h ∷ sp.after = sym parts ∙ sp.is in
      let least_here = rw parts at (least h sorted run up.0 alike) in
      let lowest : h.key ≤ c.key =
      all_at (λ (p : Placed). h.key ≤ p.key) before after c least_here in
      let alike_here = alike_rest h sorted sp.before sp.after sp.none (rw (← sp.is) alike) in
      let floor = low c.reservation.caller in
      let h_key =
      all_at (HasKey given) sp.before sp.after h (rw (← sp.is) (has_keys given f run keyed)) in
      elim (cases_lt (length s.pool) n) [
        | inr enough ↦
            let place =
            served_key given s sound is n head.own c.reservation.reply some.0 enough answered.0
            head.key_of in
            let key_own : c.key ≤ head.own =
            elim head.either [ inl own ↦ omega arith | inr old ↦ omega arith ] in
            let asked = asked-after_take s n in
            let t_sound = after_take-sound s n sound in
            let t_is = available-after_take s n sound ∙ is in
            let order_later =
            later_keys given order (after_take s n) (head.own + 1) t_sound t_is (omega arith)
            (omega arith) some.1 order_keys answered.1 in
            let later =
            all_unordered (λ (p : Placed). head.own + 1 ≤ p.key) (before ++ after) order more
            order_later in
            elim
            (itself_or (λ (p : Placed). head.own + 1 ≤ p.key) before after sp.before sp.after c
            h both later) [
              | inl above ↦ absurd (omega arith)
              | inr p ↦
                  let rest =
                  sorted_is order sorted (before ++ after) (after_take s n) (raised f c) t_sound
                  t_is
                  (low_next f s c low (omega arith) (omega arith)) rest_keyed more some.1 answered.1
                  up.1
                  (rw (p.before_is, p.after_is) at alike_here) (omega (arith, ap asks p.is)) in
                  search (rules, p.is, answered.0, rest)
            ]
        | inl short ↦
            let left = length s.pool in
            let fits = rw reply-refused at answered.0 in
            let emptied = ap (λ (t : Allocator). t.pool) (after_take-refused s n short) in
            let order_none = empty-Answers order (after_take s n) emptied some.1 answered.1 in
            let rest_none = all_unordered FindsNone (before ++ after) order more order_none in
            let high =
            refused_key given n head.own left c.reservation.reply head.small fits head.key_of in
            let key_own : c.key ≤ head.own =
            elim head.either [ inl own ↦ omega arith | inr old ↦ omega arith ] in
            let ordered = refused_run s c order short fits order_none in
            let ends : left < asks h → FitsLeft left h → AllByRecursion FindsNone sorted
            → Answers s (h ∷ sorted) × (after_run s (c ∷ order) ≡ after_run s (h ∷ sorted)) =
            λ h_short h_fits none. let other = refused_run s h sorted h_short h_fits none in
            let same : s.asked
            + (n + total order) ≡ s.asked + (asks h + total sorted) = omega arith in search
            (rules, other, ordered, same) in
            elim (later_or_first given n left c.reservation.reply fits) [
              | inl c_later ↦
                  let c_none : FindsNone c = record { some = some.0; fits = c_later } in
                  let all_none = all_with FindsNone before after c c_none rest_none in
                  let h_all = rw both at all_none in
                  let h_none = all_at FindsNone sp.before sp.after h h_all in
                  let first =
                  takes_place _ n _ _ _ _ _ _ fits c_later short head.key_of h_none.fits
                  h_none.some
                  h_key.key_of (omega arith) in
                  ends first.1 first.0
                  (all_alike FindsNone sorted (sp.before ++ sp.after) alike_here
                  (all_without FindsNone sp.before sp.after h h_all))
              | inr only ↦
                  let own : head.own ≡ 2 ^ 32 = only head.own head.key_of in
                  elim (itself_or FindsNone before after sp.before sp.after c h both rest_none) [
                    | inl none ↦
                        let above =
                        none_high given (asks h) h_key.own h.reservation.reply h_key.small
                        none.fits
                        h_key.key_of in
                        absurd (omega arith)
                    | inr p ↦
                        ends (omega (arith, ap asks p.is)) (rw p.is fits)
                        (all_alike FindsNone sorted (before ++ after)
                        (rw (p.before_is, p.after_is) at alike_here) rest_none)
                  ]
            ]
      ]
