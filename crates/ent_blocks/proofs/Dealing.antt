-- Blocks that are dealt one after the other: where they lie in the pool, and what becomes of it.
use Rattle.ent_blocks.proofs.Common.{rules, ◌≡◌, refl, ap, ℕ, zero, suc, ◌+◌, ◌-◌, ◌<◌, ◌≤◌, List}
use Rattle.ent_blocks.proofs.Common.{[], ◌∷◌, ◌++◌, length, drop, get_or, map, arith, Contains}
use Rattle.ent_blocks.proofs.Common.{append_assoc, flat_map, common_steps, drop_more, drop-drop}
use Rattle.ent_blocks.proofs.Common.{Handle, Allocator, left_of, size_of, after_portions, AreUsed}
use Rattle.ent_blocks.proofs.Common.{first_used, others_used, length-used, take_of_take, Block}
use Rattle.ent_blocks.proofs.Common.{used_of, rest_of, dealt, lesser, blocks_from, portions_of}
use Rattle.ent_blocks.proofs.Common.{after_blocks, unused, AreLaid, ◌^◌, IsSound, AreDealt, Blocks}
use Rattle.ent_blocks.proofs.Common.{IsOf}
use Rattle.ent_alloc.specs.Portions as portions

add-zero : (n : ℕ) → n + 0 ≡ n
add-zero n = omega arith

add-joined : (a b c : ℕ) → a + (b + c) ≡ (a + b) + c
add-joined a b c = omega arith

-- ---- opening

pub laid_from : (before left : ℕ) (sizes : List ℕ) → AreLaid before (blocks_from before left sizes)
laid_from before left [] = tt
laid_from before left (n ∷ sizes) =
    (refl, refl, laid_from (before + lesser n left) (left - lesser n left) sizes)

pub lesser_within : (n left : ℕ) → lesser n left ≤ left
lesser_within n left = grind (arith, common_steps)

pub dealt_from : (before left : ℕ) (sizes : List ℕ) → dealt (blocks_from before left sizes) ≤ left
dealt_from before left [] = omega arith
dealt_from before left (n ∷ sizes) = omega
    (arith, lesser_within n left, dealt_from (before + lesser n left) (left - lesser n left) sizes)

pub are_dealt : (s : Allocator) (sizes : List ℕ) → IsSound s → s.asked ≡ 0
    → dealt (blocks_from 0 (length s.pool) sizes) < 2 ^ 32
    → AreDealt s (blocks_from 0 (length s.pool) sizes)
are_dealt s sizes sound flushed few = search (rules, laid_from, dealt_from)

pub length-from : (before left : ℕ) (sizes : List ℕ)
    → length (blocks_from before left sizes) ≡ length sizes
length-from before left [] = refl
length-from before left (n ∷ sizes) =
    ap suc (length-from (before + lesser n left) (left - lesser n left) sizes)

pub none_used : (before k : ℕ) (blocks : List Block) (d : Block) → AreLaid before blocks
    → k < length blocks → (get_or blocks k d).used ≡ 0
none_used before k [] d laid lt = absurd (omega arith)
none_used before zero (b ∷ blocks) d laid lt = laid.1
none_used before (suc k) (b ∷ blocks) d laid lt =
    none_used (before + b.size) k blocks d laid.2 (omega arith)

-- ---- where they lie

pub in_laid : (before k : ℕ) (blocks : List Block) (d : Block) → AreLaid before blocks
    → k < length blocks → (get_or blocks k d).before + (get_or blocks k d).size
    ≤ before + dealt blocks
in_laid before k [] d laid lt = absurd (omega arith)
in_laid before zero (b ∷ blocks) d laid lt = let at = laid.0 in omega arith
in_laid before (suc k) (b ∷ blocks) d laid lt =
    search (rules, arith, in_laid (before + b.size) k blocks d laid.2)

-- how many are dealt does not depend on how many were used
pub dealt-unused : (blocks : List Block) → dealt (map unused blocks) ≡ dealt blocks
dealt-unused [] = refl
dealt-unused (b ∷ blocks) = ap (λ n. b.size + n) (dealt-unused blocks)

pub of_phase : (blocks : List Block) (b : Block) → AreLaid 0 blocks → Contains blocks (unused b)
    → b.before + b.size ≤ dealt blocks
of_phase blocks b laid has = search (rules, in_laid)

pub record LiesIn (s : Allocator) (b : Block) : Type 0 where
  pub within : b.before + b.size ≤ length s.pool
  pub few : b.before + b.size < 2 ^ 32

-- a reserver's block
pub lies_in : (p : Blocks) (b : Block) → AreDealt p.start p.blocks → IsOf p b → LiesIn p.start b
lies_in p b are has = search (rules, arith, of_phase p.blocks b are.laid has, are)

-- ---- closing

pub size-portions : (blocks : List Block) → size_of (portions_of blocks) ≡ dealt blocks
size-portions [] = refl
size-portions (b ∷ blocks) = ap (λ n. b.size + n) (size-portions blocks)

-- where the blocks lie
behind : (before : ℕ) (b : Block) (pool : List Handle)
    → drop b.size (drop before pool) ≡ drop (before + b.size) pool
behind before b pool = drop-drop b.size before pool

used_laid : (before : ℕ) (blocks : List Block) (pool : List Handle)
    → AreLaid before (map unused blocks) → AreUsed (portions_of blocks)
    → flat_map (used_of pool) blocks ≡ portions.used_of (drop before pool) (portions_of blocks)
used_laid before [] pool laid fits = refl
used_laid before (b ∷ blocks) pool laid fits =
    search (
      rules,
      behind,
      laid.0,
      take_of_take,
      first_used,
      others_used,
      used_laid (before + b.size) blocks pool,
    )

left_laid : (before : ℕ) (blocks : List Block) (pool : List Handle)
    → AreLaid before (map unused blocks)
    → flat_map (rest_of pool) blocks ++ drop (before + dealt blocks) pool
    ≡ left_of (drop before pool) (portions_of blocks)
left_laid before [] pool laid = ap (λ n. drop n pool) (add-zero before)
left_laid before (b ∷ blocks) pool laid =
    search (
      rules,
      laid.0,
      append_assoc,
      add-joined,
      behind,
      left_laid (before + b.size) blocks pool laid.2,
    )

module _ (s : Allocator) (blocks : List Block) (laid : AreLaid 0 (map unused blocks))
    (fits : AreUsed (portions_of blocks)) (within : dealt blocks ≤ length s.pool) where
  pub portions_within : size_of (portions_of blocks) ≤ length s.pool
  portions_within = omega (arith, size-portions blocks)

  pub closed_is : after_portions s (portions_of blocks) ≡ after_blocks s blocks
  closed_is =
      search
      (rules, used_laid 0 blocks s.pool, left_laid 0 blocks s.pool, length-used, portions_within)

-- ---- one more block

pub dealt-push : (blocks : List Block) (b : Block)
    → dealt (blocks ++ b ∷ []) ≡ dealt blocks + b.size
dealt-push [] b = omega arith
dealt-push (c ∷ blocks) b = omega (arith, dealt-push blocks b)

pub blocks_more : (before left : ℕ) (sizes : List ℕ) (k n : ℕ) → k < length sizes
    → get_or sizes k n ≡ n
    → blocks_from before left (drop k sizes)
    ≡ record { before = before; size = lesser n left; used = 0 }
    ∷ blocks_from (before + lesser n left) (left - lesser n left) (drop (k + 1) sizes)
blocks_more before left sizes k n below is = search (rules, drop_more)
