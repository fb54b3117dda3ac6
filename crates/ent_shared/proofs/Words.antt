-- The cursor word stays in its range, and what the code makes of it.
use Rattle.ent_shared.proofs.Common.{suc, rules, ◌≡◌, ℕ, ◌+◌, ◌*◌, ◌-◌, ◌%◌, ◌^◌, ◌<◌, ◌≤◌, ℤ, pos}
use Rattle.ent_shared.proofs.Common.{◌+ℤ◌, ◌-ℤ◌, ◌≤ℤ◌, List, [], ◌∷◌, length, arith, suc-mul}
use Rattle.ent_shared.proofs.Common.{add-mul, common_steps, ◌==◌, count_by, sum_by, All, All-weaker}
use Rattle.ent_shared.proofs.Common.{sum_by-cons, ints, nat_abs, State, quota, Allocator}
use Rattle.ent_shared.proofs.Common.{Reservation, Record, low, offset, cursor_of, Follow, weigh}
use Rattle.ent_shared.proofs.Common.{IsKept, IsRuled, w64, to_z, of_z}

abbrev pub requested : Reservation → ℕ
requested c = c.requested

-- how much was requested by reservations that follow each other
pub follow_asked : (high : ℤ) (cs : List Reservation) (end : ℤ) → Follow high cs end
    → high ≡ end +ℤ pos (sum_by requested cs)
follow_asked high [] end f = omega (arith, ints, f)
follow_asked high (c ∷ cs) end f = search
    (rules, c.requested, sum_by-cons, c.high, ints, follow_asked (low c) cs end f.2)

-- the word as the code turns it into a cursor
pub cursor_is : (word : ℕ) → offset ≤ word + 2 ^ 50 → word < offset + 2 ^ 32
    → to_z w64 (of_z w64 (to_z w64 word -ℤ pos 4611686018427387904)) ≡ cursor_of word
unfolding offset
cursor_is word least greatest = omega (arith, ints)

pub least_cursor : (word : ℕ) → offset ≤ word + 2 ^ 50 → (pos 0 -ℤ pos (2 ^ 50)) ≤ℤ cursor_of word
unfolding offset
least_cursor word least = omega (arith, ints)

-- the word that the code makes of a cursor
pub word_is : (at : ℤ) (top : ℕ) → top < 2 ^ 32 → at ≡ pos top
    → cursor_of (nat_abs (to_z w64 (of_z w64 (to_z w64 (of_z w64 at) +ℤ pos 4611686018427387904))))
    ≡ at
unfolding offset
word_is at top few is = omega (arith, ints)

-- what a reservation leaves of the word
pub lowered : (word n : ℕ) → offset ≤ word + 2 ^ 50 → word < offset + 2 ^ 32 → n ≤ quota
    → (word + (2 ^ 64 - n)) % 2 ^ 64 ≡ word - n
unfolding offset quota
lowered word n least greatest within = omega arith

pub lowered_cursor : (word n : ℕ) → offset ≤ word + 2 ^ 50 → n ≤ quota
    → cursor_of (word - n) ≡ cursor_of word -ℤ pos n
unfolding offset quota
lowered_cursor word n least within = omega (arith, ints)

-- two sums make up a third one if their terms do
pub sum_parts : {X : Type 0} (f g h : X → ℕ) (m : ℕ) (xs : List X)
    → All (λ x. f x + g x ≡ h x * m) xs → sum_by f xs + sum_by g xs ≡ sum_by h xs * m
sum_parts f g h m [] all = omega arith
sum_parts f g h m (x ∷ xs) all =
    search (
      rules,
      add-mul,
      sum_by-cons,
      all 0 x (omega arith),
      sum_parts f g h m xs (λ i d lt. all (suc i) d (omega arith)),
    )

-- the quota of all reservers is no more than this
pub few_asked : (n count : ℕ) → n ≤ count * quota → count ≤ 1024 → n ≤ 2 ^ 50
unfolding quota
few_asked n count le few = omega arith

-- how many of a holder's records have this number
abbrev pub numbered : ℕ → List Record → ℕ
numbered number = count_by (λ (r : Record). r.number == number)

-- what the records of a holder have left
abbrev pub left_of : List Record → ℕ
left_of view = sum_by (λ (r : Record). r.left) view

-- what the records of a holder have left and what they have requested is their quota
view_quota : (start : Allocator) (at : ℤ) (log : List Reservation) (view : List Record)
    → All (IsKept start at log) view → left_of view + weigh requested view ≡ length view * quota
view_quota start at log [] all = omega arith
view_quota start at log (r ∷ view) all =
    let here = (all 0 r (omega arith)).quota.quota in
    search (
      rules,
      sum_by-cons,
      suc-mul,
      view_quota start at log view (λ i d lt. all (suc i) d (omega arith)),
    )

module _ (start : Allocator) (count : ℕ) (s : State (Unit {0}) (List Record))
    (k : IsRuled start count s) where
  -- and so it is with the records of all holders
  pub all_quota : sum_by left_of s.views + sum_by requested k.spans.log ≡ count * quota
  all_quota =
      let each =
      All-weaker _ (λ (v : List Record). left_of v + weigh requested v ≡ length v * quota)
      (view_quota start (cursor_of k.word) k.spans.log) s.views k.each in
      grind (arith, common_steps, sum_parts)

  pub word_least : offset ≤ k.word + 2 ^ 50
  word_least =
      search (
        rules,
        follow_asked,
        ints,
        few_asked (sum_by requested k.spans.log) count (omega (arith, all_quota)) k.few,
      )

  pub word_greatest : k.word < offset + 2 ^ 32
  word_greatest = search (rules, follow_asked, ints)
