-- Handles in blocks: the front of the pool is dealt to callers, and each gets the handles of its
-- own block, in the pool's order, whatever the others do.
use Rattle.std.specs.Prelude.{◌≡◌, ℕ, ◌+◌, ◌-◌, ◌^◌, ◌<◌, ◌≤◌, nat_le, ◌==◌, ◌&&◌, Bool}
use Rattle.std.specs.Prelude.{if◌then◌else◌, true, false, List, [], ◌∷◌, ◌++◌, length, take, drop}
use Rattle.std.specs.Prelude.{map, refl}
use Rattle.std.specs.Prelude.{max, min}
use Rattle.std.specs.List.{flat_map, Contains}
use Rattle.std.specs.Coded.{Coded, code_by, coded×, coded_ℕ, coded_list}
use Rattle.std.specs.FinMap as maps
use Rattle.ent_handle.specs.Handle.{Handle, handle_cmp, handle_code}
use Rattle.ent_alloc.specs.Sequential.{Allocator, allocator_code}
use Rattle.ent_alloc.specs.Portions.{made_for}
use Rattle.ent_alloc.specs.declared.portion.Portion.{Portion}
use Rattle.ent_alloc.specs.Sound.{IsSound}

-- A block of the pool: how many handles come before it, how many it has, and how many of them were
-- used.
pub record Block : Type 0 where
  pub before : ℕ
  pub size : ℕ
  pub used : ℕ

-- its handles, those that were used, and the rest
abbrev pub handles_of : List Handle → Block → List Handle
handles_of pool b = take b.size (drop b.before pool)

abbrev pub used_of : List Handle → Block → List Handle
used_of pool b = take b.used (handles_of pool b)

abbrev pub rest_of : List Handle → Block → List Handle
rest_of pool b = drop b.used (handles_of pool b)

-- how many handles the blocks have in all
abbrev pub dealt : List Block → ℕ
dealt [] = 0
dealt (b ∷ blocks) = b.size + dealt blocks

-- Opening: a block for each size, one after the other from the pool's front, smaller where the pool
-- ends.
abbrev pub lesser : ℕ → ℕ → ℕ
lesser n left = if nat_le n left then n else left

abbrev pub blocks_from : ℕ → ℕ → List ℕ → List Block
blocks_from before left [] = []
blocks_from before left (n ∷ sizes) =
    record { before = before; size = lesser n left; used = 0 }
    ∷ blocks_from (before + lesser n left) (left - lesser n left) sizes

-- the blocks as portions of the pool's front, one after the other
abbrev pub portion_of : Block → Portion
portion_of b = record { size = b.size; used = b.used }

abbrev pub portions_of : List Block → List Portion
portions_of = map portion_of

-- Closing: what was used of the blocks is taken, in the order of the callers. The pool is what is
-- left of the blocks, followed by what was not dealt, in its own order. If something is left before
-- the last handle that was used, the slots up to that handle are made. So a fresh slot among them
-- that wasn't used waits, with generation 1.
abbrev pub after_blocks : Allocator → List Block → Allocator
after_blocks s blocks = record s {
  taken = flat_map (used_of s.pool) blocks;
  pool = flat_map (rest_of s.pool) blocks ++ drop (dealt blocks) s.pool;
  made = s.made + made_for s (portions_of blocks);
  asked = length (flat_map (used_of s.pool) blocks);
}

-- the block as it was dealt
abbrev pub unused : Block → Block
unused b = record b { used = 0 }

-- after that many more were used
abbrev pub after_use : Block → ℕ → Block
after_use b n = record b { used = b.used + n }

-- ---- what contracts see

-- the allocator as it was when the phase was opened, the rows that are kept with its living
-- handles, and the blocks as they were dealt
pub record Blocks : Type 0 where
  pub start : Allocator
  pub rows : maps.FinMap handle_cmp ℕ
  pub blocks : List Block

-- the block is one of those of this phase
abbrev pub IsOf : Blocks → Block → Type 0
IsOf phase b = Contains phase.blocks (unused b)

-- the block of a reserver, and how many handles the largest of its refused requests was for
pub record Reserver : Type 0 where
  pub block : Block
  pub refused : ℕ

-- after a request for that many, which the block didn't have
abbrev pub after_refusal : Reserver → ℕ → Reserver
after_refusal r n = record r { refused = max r.refused n }

-- nothing is left of its block
abbrev pub used_up : Reserver → Reserver
used_up r = record r { block = record r.block { used = r.block.size } }

-- How many handles would have been enough: those that were used, and the largest request that was
-- refused. A number of 32 bits holds it.
abbrev pub wanted_by : Reserver → ℕ
wanted_by r = min (r.block.used + r.refused) (2 ^ 32 - 1)

-- It has requested nothing yet.
pub record IsUnused (r : Reserver) : Type 0 where
  pub none : r.block.used ≡ 0
  pub none_refused : r.refused ≡ 0

abbrev pub blocks_of : List Reserver → List Block
blocks_of reservers = map (λ (r : Reserver). r.block) reservers

-- the two are one block, however many of its handles are used
abbrev pub is_same : Block → Block → Bool
is_same a b = (a.before == b.before) && (a.size == b.size)

-- The second ones are some of the first, in their order.
abbrev pub are_among : List Block → List Block → Bool
are_among [] [] = true
are_among [] (r ∷ reservers) = false
are_among (b ∷ blocks) [] = are_among blocks []
are_among (b ∷ blocks) (r ∷ reservers) =
    if is_same b r then are_among blocks reservers else are_among blocks (r ∷ reservers)

-- What was used of all blocks, if these reservers are here. What a lost one may have used counts as
-- used.
abbrev pub accounted : List Block → List Block → List Block
accounted [] reservers = []
accounted (b ∷ blocks) [] = record b { used = b.size } ∷ accounted blocks []
accounted (b ∷ blocks) (r ∷ reservers) =
    if is_same b r
    then record b { used = r.used } ∷ accounted blocks reservers
    else record b { used = b.size } ∷ accounted blocks (r ∷ reservers)

-- A phase that has ended: the allocator as it was opened, with its rows; the blocks with what was
-- used of each, and behind them what came from a shared cursor, as one more block; and how many
-- handles were requested from there.
pub record Ended : Type 0 where
  pub phase : Blocks
  pub requested : ℕ

-- For proofs: the blocks follow one another without a gap, and none of them was used.
abbrev pub AreLaid : ℕ → List Block → Type 0
AreLaid before [] = Unit {0}
AreLaid before (b ∷ blocks) =
    (b.before ≡ before) × (b.used ≡ 0) × AreLaid (before + b.size) blocks

-- nothing is reserved, and the pool has all that is dealt
pub record AreDealt (s : Allocator) (blocks : List Block) : Type 0 where
  pub sound : IsSound s
  pub flushed : s.asked ≡ 0
  pub laid : AreLaid 0 blocks
  pub within : dealt blocks ≤ length s.pool
  pub few : dealt blocks < 2 ^ 32

-- What was used lies in the pool of a flushed allocator.
pub record AreUsedOf (phase : Blocks) : Type 0 where
  pub sound : IsSound phase.start
  pub flushed : phase.start.asked ≡ 0
  pub laid : AreLaid 0 (map unused phase.blocks)
  pub within : dealt phase.blocks ≤ length phase.start.pool

abbrev pub block_code : Coded Block
block_code =
    code_by (ℕ × (ℕ × ℕ)) (coded× coded_ℕ (coded× coded_ℕ coded_ℕ))
    (λ b. (b.before, (b.size, b.used)))
    (λ p. record { before = p.0; size = p.1.0; used = p.1.1 }) (λ _. refl)

abbrev pub blocks_code : Coded Blocks
blocks_code =
    code_by (Allocator × (maps.FinMap handle_cmp ℕ × List Block))
    (coded× allocator_code (coded× (maps.code handle_code coded_ℕ) (coded_list block_code)))
    (λ b. (b.start, (b.rows, b.blocks)))
    (λ p. record { start = p.0; rows = p.1.0; blocks = p.1.1 }) (λ _. refl)

abbrev pub reserver_code : Coded Reserver
reserver_code =
    code_by (Block × ℕ) (coded× block_code coded_ℕ) (λ r. (r.block, r.refused))
    (λ p. record { block = p.0; refused = p.1 }) (λ _. refl)

abbrev pub ended_code : Coded Ended
ended_code =
    code_by (Blocks × ℕ) (coded× blocks_code coded_ℕ) (λ e. (e.phase, e.requested))
    (λ p. record { phase = p.0; requested = p.1 }) (λ _. refl)
