-- A position of the pool, from its front, and what a request finds there.
use Rattle.ent_blocks.proofs.Common.{rules, ◌≡◌, refl, sym, ap, ◌∙◌, ℕ, ℤ, pos, ◌-ℤ◌, ◌+◌, ◌-◌, ◌<◌}
use Rattle.ent_blocks.proofs.Common.{◌≤◌, List, [], ◌∷◌, ◌++◌, length, take, drop, get_or, arith}
use Rattle.ent_blocks.proofs.Common.{Ok, Err, slice_get, Some, Result, common_steps, le-leb, lt-leb}
use Rattle.ent_blocks.proofs.Common.{get_or-drop, length-drop, take_more, drop_more, drop-take}
use Rattle.ent_blocks.proofs.Common.{length-take-le, take-take, drop-drop, length_permutation}
use Rattle.ent_blocks.proofs.Common.{get_or_from_slice_get, slice_get_read, Handle, Space}
use Rattle.ent_blocks.proofs.Common.{Allocator, top, cursor, asked_at, pool_at, reply_from, listed}
use Rattle.ent_blocks.proofs.Common.{listed_alone, IsSound, asked_at-is, flushed-laid_out}
use Rattle.ent_blocks.proofs.Common.{listed-IsPermutation, Block, used_of, rest_of}

-- one more of what begins at a position
pub list_more : (pool : List Handle) (from more : ℕ) (h : Handle)
    → slice_get pool (from + more) ≡ Some h → from + more < length pool
    → take (more + 1) (drop from pool) ≡ take more (drop from pool) ++ h ∷ []
list_more pool from more h at below =
    take_more (drop from pool) more h (omega (arith, length-drop from pool))
    ∙ ap (λ x. take more (drop from pool) ++ x ∷ [])
    (get_or-drop from pool more h ∙ get_or_from_slice_get pool (from + more) h h at)

single : (made : ℕ) (x : Handle) → listed made (x ∷ []) ≡ x ∷ []
single made x = grind (arith, common_steps)

module _ (s : Allocator) (sound : IsSound s) (flushed : s.asked ≡ 0) (position : ℕ) (high : ℤ)
    (at : high ≡ cursor s -ℤ pos position) where
  asked_is : asked_at (top s) high ≡ position
  asked_is = search (rules, asked_at-is)

  -- the pool from there on
  pub pool_there : pool_at s high ≡ drop position s.pool
  pool_there = search (rules, asked_is, flushed-laid_out)

  -- one handle
  pub one_there : (reply : Result Handle Space) → position < length s.pool
      → listed_alone reply ≡ reply_from s.made (pool_at s high) 1 → (h : Handle) → reply ≡ Ok h
      → slice_get s.pool position ≡ Some h
  one_there reply below replies h is =
      let x = get_or s.pool position h in
      let rest : drop position s.pool ≡ x ∷ drop (position + 1) s.pool =
      drop_more s.pool position h below in
      let given : reply_from s.made (drop position s.pool) 1 ≡ Ok (listed s.made (x ∷ [])) =
      search (rules, le-leb) in
      let here : x ≡ h = grind (arith, common_steps, pool_there, single) in
      slice_get_read s.pool (length s.pool) position h refl below (sym here)

-- ---- a block

-- enough are left
pub served : (made n : ℕ) (pool : List Handle) → n ≤ length pool
    → reply_from made pool n ≡ Ok (listed made (take n pool))
served made n pool enough = search (rules, le-leb)

-- what is left of it
pub rest_is : (pool : List Handle) (b : Block) → b.used ≤ b.size → b.before + b.size ≤ length pool
    → rest_of pool b ≡ take (b.size - b.used) (drop (b.before + b.used) pool)
rest_is pool b used within =
    let whole : b.used + (b.size - b.used) ≡ b.size = omega arith in
    search (rules, drop-take, drop-drop)

pub length-rest : (pool : List Handle) (b : Block) → b.used ≤ b.size
    → b.before + b.size ≤ length pool → length (rest_of pool b) ≡ b.size - b.used
length-rest pool b used within = search (rules, rest_is, length-take-le, length-drop)

pub used_is : (pool : List Handle) (b : Block) → b.used ≤ b.size
    → used_of pool b ≡ take b.used (drop b.before pool)
used_is pool b used = take-take b.used b.size (drop b.before pool) used

pub length-used : (pool : List Handle) (b : Block) → b.used ≤ b.size
    → b.before + b.size ≤ length pool → length (used_of pool b) ≡ b.used
length-used pool b used within = search (rules, used_is, length-take-le, length-drop)

-- too few are left
pub refused : (made n left : ℕ) (rest : List Handle) → length rest ≡ left → left < n
    → reply_from made rest n ≡ Err (record { wanted = n; left = left })
refused made n left rest long less = search (rules, lt-leb)

-- one of a block
pub served_one : (made : ℕ) (pool : List Handle) (b : Block) (h : Handle) → b.used < b.size
    → b.before + b.size ≤ length pool → slice_get pool (b.before + b.used) ≡ Some h
    → Ok (h ∷ []) ≡ reply_from made (rest_of pool b) 1
served_one made pool b h less within at =
    let rest = rest_of pool b in
    let long : length rest ≡ b.size - b.used = length-rest pool b (omega arith) within in
    let first : take 1 rest ≡ h ∷ [] =
    search (rules, rest_is, take-take, list_more pool (b.before + b.used) 0 h) in
    search (rules, served, single)

-- n of a block are those that begin where its rest begins
pub served_many : (made n : ℕ) (pool : List Handle) (b : Block) → b.used + n ≤ b.size
    → b.before + b.size ≤ length pool
    → reply_from made (drop (b.before + b.used) pool) n ≡ reply_from made (rest_of pool b) n
served_many made n pool b few within =
    search (rules, length-rest, rest_is, take-take, served, length-drop)

-- as many are listed as are given
pub length-listed : (made : ℕ) (given : List Handle) → length (listed made given) ≡ length given
length-listed made given = search (rules, length_permutation, listed-IsPermutation)
