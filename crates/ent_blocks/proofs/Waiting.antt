-- How many slots wait after a close: those that waited before, or no more than were dealt.
use Rattle.ent_blocks.proofs.Common.{rules, ◌≡◌, ap, ◌∙◌, ◌-◌, ◌≤◌, max, List, length, take, map}
use Rattle.ent_blocks.proofs.Common.{arith, length-append, length_permutation, common_steps, Handle}
use Rattle.ent_blocks.proofs.Common.{with_front, AreUsed, arranged, after_portions, front_of}
use Rattle.ent_blocks.proofs.Common.{count_of, reach_of, size_of, Allocator, available, top}
use Rattle.ent_blocks.proofs.Common.{IsSound, Portion, with_front-sound, flushed-laid_out}
use Rattle.ent_blocks.proofs.Common.{top-after_take, portions_taken, front_same, reach_within}
use Rattle.ent_blocks.proofs.Common.{length-available, Block, dealt, unused, AreLaid, portions_of}
use Rattle.ent_blocks.proofs.Common.{after_blocks}
use Rattle.std.proofs.Common.{length-drop, length-take-le}
use Rattle.ent_blocks.proofs.Dealing.{closed_is, portions_within, size-portions}

module _ (s : Allocator) (ps : List Portion) (sound : IsSound s) (flushed : s.asked ≡ 0)
    (fits : AreUsed ps)
    (within : size_of ps ≤ length s.pool) where
  abbrev front : List Handle
  front = front_of s.pool ps

  reached : reach_of ps ≤ length s.pool
  reached = omega (arith, reach_within ps fits)

  front_long : length front ≡ reach_of ps
  front_long =
      length_permutation (take (reach_of ps) s.pool) front (front_same s.pool ps fits within)
      ∙ length-take-le (reach_of ps) s.pool reached

  front_sound : IsSound (with_front s front)
  front_sound = search (rules, with_front-sound, front_long, reached, front_same)

  -- with nothing reserved, all that there is to give is the pool
  pool_long : length (available s) ≡ length s.pool
  pool_long = search (rules, flushed-laid_out)

  front_available : length (available (with_front s front)) ≡ length s.pool
  front_available =
      search (rules, flushed-laid_out, front_sound, length-append, length-drop, front_long, reached)

  top_front : top (with_front s front) ≤ max (top s) (size_of ps)
  top_front =
      search
      (rules, length-available, front_sound, reach_within, pool_long, front_available, front_long)

  top_arranged : top (arranged s ps) ≤ max (top s) (size_of ps)
  top_arranged = grind (arith, common_steps, top_front)

  arranged_sound : IsSound (arranged s ps)
  arranged_sound = grind (arith, common_steps, front_sound)

  top_portions : top (after_portions s ps) ≤ max (top s) (size_of ps)
  top_portions =
      let taken =
      portions_taken s ps fits within (flushed-laid_out s sound flushed).taken flushed in
      omega (
        arith,
        ap top taken,
        top-after_take (arranged s ps) (count_of ps) arranged_sound,
        top_arranged,
      )

pub waiting : (s : Allocator) (blocks : List Block) → IsSound s → s.asked ≡ 0
    → AreLaid 0 (map unused blocks) → dealt blocks ≤ length s.pool → AreUsed (portions_of blocks)
    → top (after_blocks s blocks) ≤ max (top s) (dealt blocks)
waiting s blocks sound flushed laid within fits =
    search (
      rules,
      top_portions s (portions_of blocks) sound flushed fits,
      portions_within,
      closed_is,
      size-portions,
    )
