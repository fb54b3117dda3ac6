-- What was used of the blocks: no handle twice, none that was alive, and a flush brings to life
-- just these.
use Rattle.ent_blocks.proofs.Common.{rules, ◌≡◌, ◌≢◌, ◌⊎◌, ◌↔◌, inl, inr, ap, ◌≤◌, List, ◌++◌}
use Rattle.ent_blocks.proofs.Common.{length, get_or, map, All, AllPairs, Contains, flat_map, Handle}
use Rattle.ent_blocks.proofs.Common.{Allocator, after_flush, IsSound, AreApart, IsLive, AreUsed}
use Rattle.ent_blocks.proofs.Common.{after_portions-sound, live-after_flush, live-stays}
use Rattle.ent_blocks.proofs.Common.{taken-lives, All-left, AllPairs-left, not_apart, Block}
use Rattle.ent_blocks.proofs.Common.{used_of, dealt, unused, AreLaid, portions_of, after_blocks}
use Rattle.ent_blocks.proofs.Dealing.{closed_is, portions_within}

module _ (s : Allocator) (blocks : List Block) (sound : IsSound s) (flushed : s.asked ≡ 0)
    (laid : AreLaid 0 (map unused blocks)) (within : dealt blocks ≤ length s.pool)
    (fits : AreUsed (portions_of blocks)) where
  abbrev pub used : List Handle
  used = flat_map (used_of s.pool) blocks

  pub after_blocks-sound : IsSound (after_blocks s blocks)
  after_blocks-sound = search (rules, closed_is, after_portions-sound, portions_within)

  abbrev pub left : List Handle
  left = (after_blocks s blocks).aside ++ (after_blocks s blocks).pool

  pub used-distinct : AllPairs (λ g h. g ≢ h) used
  used-distinct i j d lt in_part same =
      AllPairs-left AreApart used left after_blocks-sound.apart i j d lt in_part
      (ap (λ (h : Handle). h.index) same)

  pub used-not_live : All (λ h. ¬ (IsLive s h)) used
  used-not_live k d lt alive =
      let h = get_or used k d in
      not_apart h (All-left (AreApart h) used left (after_blocks-sound.live h alive).apart k d lt)

  pub used-live : (h : Handle) → IsLive (after_flush (after_blocks s blocks)) h
      ↔ (IsLive s h ⊎ Contains used h)
  used-live h = (
    live-after_flush (after_blocks s blocks) h,
    λ either. elim either [
      | inl alive ↦ live-stays (after_blocks s blocks) h alive
      | inr has ↦ taken-lives
          (after_blocks s blocks) h has
    ],
  )
