-- Every step of the sequential allocator leads from a sound state to a sound state.
use Rattle.ent_alloc.proofs.Common.{rules, ◌≡◌, refl, sym, ap, ◌∙◌, subst, ℕ, zero, suc, ◌+◌, ◌-◌}
use Rattle.ent_alloc.proofs.Common.{◌<◌, ◌≤◌, true≢false, List, [], ◌∷◌, ◌++◌, length, get_or, drop}
use Rattle.ent_alloc.proofs.Common.{All, arith, ◌≢◌, Some, None, Option, common_steps, cases_lt}
use Rattle.ent_alloc.proofs.Common.{drop-drop, drop_all, append-nil, lt-ltb, le-ltb, All-drop}
use Rattle.ent_alloc.proofs.Common.{All-head, All-tail, All-nil, All-cons, All-weaker, All-filter}
use Rattle.ent_alloc.proofs.Common.{AllPairs-filter, AllPairs-cons, Handle, handle_cmp, Limits}
use Rattle.ent_alloc.proofs.Common.{AreLimits, Allocator, opening, available, after_take}
use Rattle.ent_alloc.proofs.Common.{after_flush, after_alloc, after_free, next, following, in_front}
use Rattle.ent_alloc.proofs.Common.{fresh, is_old, IsSound, IsWithin, AreApart, IsLive, IfSome}
use Rattle.std.specs.FinSet as set
use Rattle.ent_alloc.proofs.ListLaws.{AllPairs-left, AllPairs-across, All-left, AllPairs-drop}
use Rattle.ent_alloc.proofs.ListLaws.{AllPairs-head, AllPairs-tail}
use Rattle.ent_alloc.proofs.FreshHandles.{fresh-next, fresh-none, first_of_slot}
use Rattle.ent_alloc.proofs.HandleSets.{in_removed, one_occupant_inserted, one_occupant_joined}
use Rattle.ent_alloc.proofs.HandleSets.{of_inserted, of_joined}
use Rattle.ent_alloc.proofs.LaidOut.{old_ones, old_ones_below, IsLaidOut, laid_out-sound}
use Rattle.ent_alloc.proofs.LaidOut.{flushed-laid_out, apart_by_made}
use Rattle.ent_alloc.proofs.Taken.{aside_or_pool, length-pool, take_moves, after_take-served}
use Rattle.ent_alloc.proofs.Taken.{after_take-refused, enough, left-parts, taken_below}
use Rattle.ent_alloc.proofs.Taken.{made-after_flush}

pub opening-sound : (limits : Limits) → AreLimits limits → IsSound (opening limits)
opening-sound limits ok =
    let no_one : (h : Handle) → IsLive (opening limits) h
    → ⊥ = λ h alive. true≢false (sym alive ∙ set.contains-empty
    handle_cmp h) in
    laid_out-sound (opening limits) [] (search (rules, no_one, All-nil))

-- other lists of the same handles, as far as the requests have reached
pub IsSound-moved : (s : Allocator) (taken aside pool : List Handle) (asked : ℕ) → IsSound s
    → taken ++ (aside ++ pool) ≡ available s → pool ≡ drop asked (available s)
    → (asked ≤ length (available s) → aside ≡ []) → IsSound
    (record s { taken = taken; aside = aside; pool = pool; asked = asked })
IsSound-moved s taken aside pool asked h same rest enough = search (rules, enough)

-- a request, served or refused
pub after_take-sound : (s : Allocator) (n : ℕ) → IsSound s → IsSound (after_take s n)
after_take-sound s n h = search (
  rules,
  arith,
  cases_lt (length s.pool) n,
  take_moves s.taken s.aside s.pool n (aside_or_pool s h),
  ap (drop n) h.pool,
  drop-drop n s.asked (available s),
  length-pool,
  after_take-refused,
  after_take-served,
  IsSound-moved,
  append-nil,
  drop_all,
  enough,
)

-- what holds of what follows
pub of_next : (P : Handle → Type 0) (limits : Limits) (h : Handle)
    → (h.generation ≢ limits.generations → P (following h)) → IfSome (next limits h) P
of_next P limits h each = grind (arith, common_steps)

-- what holds of a list and of what stands in front of it
pub All-in_front : (P : Handle → Type 0) (o : Option Handle) (handles : List Handle) → IfSome o P
    → All P handles → All P (in_front o handles)
All-in_front P None handles first all = all
All-in_front P (Some h) handles first all = All-cons P h handles first all

pub after_free-sound : (s : Allocator) (x : Handle) → IsSound s → s.asked ≡ 0 → IsLive s x
    → IsSound (after_free s x)
after_free-sound s x h flushed alive =
    search (
      rules,
      flushed-laid_out,
      laid_out-sound,
      old_ones,
      All-in_front,
      of_next,
      in_removed,
      AllPairs-cons,
    )

after_alloc-old : (s : Allocator) (x : Handle) → x.index < s.made
    → after_alloc s x ≡ record s { live = set.insert s.live x; pool = drop 1 s.pool }
after_alloc-old s x old = search (rules, lt-ltb)

after_alloc-fresh : (s : Allocator) (x : Handle) → s.made ≤ x.index
    → after_alloc s x
    ≡ record s { live = set.insert s.live x; pool = drop 1 s.pool; made = s.made + 1 }
after_alloc-fresh s x new = search (rules, le-ltb)

-- the first old handle comes to life
alloc_of_old : (s : Allocator) (x : Handle) (old : List Handle) → IsLaidOut s (x ∷ old)
    → IsLaidOut (record s { live = set.insert s.live x; pool = drop 1 s.pool }) old
alloc_of_old s x old was =
    let pool = ap (drop 1) was.pool in
    let apart = AllPairs-tail AreApart x old was.apart in
    let within =
    of_inserted (IsWithin s.limits) s.live x (was.within 0 x (omega arith)) was.live_within in
    let below =
    of_inserted (λ h. h.index < s.made) s.live x (was.below 0 x (omega arith)) was.live_below in
    let live_apart =
    of_inserted (λ h. All (AreApart h) old) s.live x (AllPairs-head AreApart x old was.apart)
    (λ y alive. All-tail (AreApart y) x old (was.live_apart y alive)) in
    let one =
    one_occupant_inserted s.live x (λ y alive. was.live_apart y alive 0 x (omega arith))
    was.one_occupant in
    search (rules, pool, apart, All-tail, within, below, live_apart, one)

-- where no old handle waits, the first occupant of a new slot does
alloc_of_fresh : (s : Allocator) (more : ℕ) → IsLaidOut s [] → s.limits.slots - s.made ≡ suc more
    → IsLaidOut
    (record s {
      live = set.insert s.live (first_of_slot s.made);
      pool = drop 1 s.pool;
      made = s.made + 1;
    })
    []
alloc_of_fresh s more was some =
    let x = first_of_slot s.made in
    let fewer : s.limits.slots - (s.made + 1) ≡ more = omega arith in
    search (
      rules,
      arith,
      some,
      fresh-next,
      fewer,
      All-nil,
      of_inserted (IsWithin s.limits) s.live x,
      of_inserted (λ h. h.index < s.made + 1) s.live x,
      was.live_within,
      was.live_below,
      one_occupant_inserted,
      apart_by_made,
    )

-- the handle at the front of the pool comes to life
pub after_alloc-sound : (s : Allocator) (x : Handle) (rest : List Handle) → IsSound s → s.asked ≡ 0
    → s.pool ≡ x ∷ rest → IsSound (after_alloc s x)
after_alloc-sound s x rest h flushed front = by_first (old_ones s) (s.limits.slots - s.made) refl
    (flushed-laid_out s h flushed)
  where
    by_first : (old : List Handle) (room : ℕ) → s.limits.slots - s.made ≡ room → IsLaidOut s old
        → IsSound (after_alloc s x)
    by_first [] zero none was =
        let nothing : [] ≡ x ∷ rest = search (rules, fresh-none, none, was.pool, front) in cc
    by_first [] (suc more) some was =
        let joined : x ∷ rest ≡ first_of_slot s.made ∷ fresh (s.made + 1) more =
        search (rules, fresh-next, was.pool, front, some) in
        let is : x ≡ first_of_slot s.made = cc in
        rw (is, after_alloc-fresh s (first_of_slot s.made) (omega arith))
        (laid_out-sound _ [] (alloc_of_fresh s more was some))
    by_first (y ∷ old) room _ was =
        let joined = sym front ∙ was.pool in
        let is : x ≡ y = cc in
        rw (is, after_alloc-old s y (All-head (λ h. h.index < s.made) y old was.below))
        (laid_out-sound _ old (alloc_of_old s y old was))

-- a flush leaves the old handles that were not taken
pub flush-laid_out : (s : Allocator) → IsSound s
    → IsLaidOut (after_flush s) (drop (length s.taken) (old_ones s))
flush-laid_out s h =
    let k = length s.taken in
    let old = drop k (old_ones s) in
    let olds : (P : Handle → Type 0) → All P (available s)
    → All P old = λ P all. All-drop P k (old_ones s)
    (All-filter (is_old s.made) P (available s) all) in
    let made : (after_flush s).made ≤ s.limits.slots =
    omega (arith, made-after_flush s h, enough s h, h.made) in
    let below : All (λ h. h.index < (after_flush s).made) old =
    grind (arith, common_steps, All-drop, old_ones, All-weaker, old_ones_below) in
    let apart = AllPairs-drop AreApart k (old_ones s)
    (AllPairs-filter AreApart (is_old s.made) (available s) h.apart) in
    let live_apart = of_joined (λ h. All (AreApart h) old) s.live s.taken
    (λ x alive. olds (AreApart x) (h.live x alive).apart)
    (λ i d lt. All-left (AreApart (get_or s.taken i d)) old _
    (subst (All (AreApart (get_or s.taken i d))) (left-parts s h)
    (AllPairs-across AreApart s.taken (s.aside ++ s.pool) h.apart i d lt))) in
    let one =
    one_occupant_joined s.live s.taken
    (λ x alive. All-left (AreApart x) s.taken (s.aside ++ s.pool)
    (h.live x alive).apart) (AllPairs-left AreApart s.taken (s.aside ++ s.pool) h.apart)
    h.one_occupant in
    search (
      rules,
      arith,
      olds (IsWithin s.limits) h.within,
      made,
      below,
      apart,
      left-parts s h,
      of_joined (IsWithin s.limits) s.live s.taken,
      All-left (IsWithin s.limits) s.taken (s.aside ++ s.pool) h.within,
      of_joined (λ h. h.index < (after_flush s).made) s.live s.taken,
      h.live,
      taken_below s h,
      live_apart,
      one,
    )

pub after_flush-sound : (s : Allocator) → IsSound s → IsSound (after_flush s)
after_flush-sound s h = laid_out-sound (after_flush s) _ (flush-laid_out s h)
