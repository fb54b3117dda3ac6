-- What systems in blocks have drawn that filled queues: each system's handles are the next ones of
-- its block, and the blocks after it follow from the queues.
use Rattle.spawnrun_lib.proofs.Common.{rules, ◌≡◌, refl, sym, ap, ◌∙◌, arith, ℕ, zero, suc, List, []}
use Rattle.spawnrun_lib.proofs.Common.{◌∷◌, length, Block, Command, World, Operation, at_within}
use Rattle.spawnrun_lib.proofs.Common.{View, view_of}
use Rattle.std.proofs.Common.{Some, slice_get, if◌then◌else◌}
use Rattle.std.proofs.lemmas.Option.{get_or_from_slice_get, slice_get_within}
use Rattle.ent_blocks.specs.Blocks.{Blocks, Reserver, are_among, blocks_of, is_same}
use Rattle.ent_blocks.specs.Drawing.{IsDrawn}
use Rattle.ent_queue.proofs.DrawnBlocks.{draws_of}
use Rattle.ent_queue.specs.Drawing.{Draws, after_commands}
use Rattle.ent_queue.specs.Issuing.{Issues}
use Rattle.ent_runner.proofs.Lists.{mapped_at}
use Rattle.ent_runner.specs.Blocks.{HaveFilled}
use Rattle.ent_runner.specs.Filling.{IsFilled}
use Rattle.ent_runner.specs.Frame.{SystemMayIssue}
use Rattle.spawnrun_lib.specs.Issuing.{MayIssue}
use Rattle.spawnrun_lib.specs.ReportInBlocks.{HaveIssued, blocks_after}

pub length_after : (before : List Block) (queues : List (List Command))
    → length (blocks_after before queues) ≡ length before
length_after (r ∷ before) (queue ∷ queues) = ap suc (length_after before queues)
length_after _ _ = refl

-- Blocks that systems have used are the same blocks.
pub among_after : (blocks before : List Block) (queues : List (List Command))
    → are_among blocks (blocks_after before queues) ≡ are_among blocks before
among_after [] [] queues = refl
among_after [] (r ∷ before) [] = refl
among_after [] (r ∷ before) (queue ∷ queues) = refl
among_after (b ∷ blocks) [] queues = refl
among_after (b ∷ blocks) (r ∷ before) [] = refl
among_after (b ∷ blocks) (r ∷ before) (queue ∷ queues) =
    let first = among_after blocks before queues in
    let other = among_after blocks (r ∷ before) (queue ∷ queues) in
    λ i. if is_same b r then first i else other i

-- each block is used as its system's queue says
used_after : (before after : List Reserver) (queues : List (List Command))
    → length queues ≡ length before → length after ≡ length before
    → ((n : ℕ) (first : Reserver) (queue : List Command) (last : Reserver)
    → slice_get before n ≡ Some first → slice_get queues n ≡ Some queue
    → slice_get after n ≡ Some last → last.block ≡ after_commands first.block queue)
    → blocks_of after ≡ blocks_after (blocks_of before) queues
used_after [] [] [] queued many each = refl
used_after (r ∷ before) (a ∷ after) (queue ∷ queues) queued many each =
    let here = each zero r queue a refl refl refl in
    let rest = used_after before after queues (omega arith) (omega arith)
    (λ n first queue last x y z. each (suc n) first queue last x y z) in
    search (rules, here, rest)
used_after _ _ _ queued many each = absurd (omega arith)

module _ (phase : Blocks) where
  queue_draws : (first : Reserver) (queue : List Command) (last : Reserver)
      → IsFilled Issues [] (IsDrawn phase) first queue last
      → Draws phase.start first.block queue last.block
  queue_draws first queue last f =
      rw f.adds.queue
      (draws_of phase first last f.adds.added (rw f.adds.requests_are at f.served))

  module _ (systems : List (List Operation)) (w : World) (view : View)
      (before after : List Reserver) (queues : List (List Command))
      (start : phase.start ≡ w.allocator) (sees : view ≡ view_of w)
      (ran : HaveFilled Issues [] phase (SystemMayIssue MayIssue systems view) (length systems)
      before queues after) where
    pub blocks_used : blocks_of after ≡ blocks_after (blocks_of before) queues
    blocks_used =
        used_after before after queues (ran.each_output ∙ sym ran.each_before)
        (ran.each_after ∙ sym ran.each_before)
        (λ n first queue last x y z.
        (queue_draws first queue last (ran.each_block n first queue last x y z)).used)

    pub have_issued : HaveIssued systems w (blocks_of before) queues
    have_issued = record {
      each_queue = ran.each_output;
      each_system = λ n system at.
          let queue =
          at_within queues n
          (omega (arith, slice_get_within systems n system at, ran.each_output)) in
          let is = get_or_from_slice_get queues n queue.0 [] queue.1 in
          rw (sees, sym is) at (ran.each_system n queue.0 queue.1 system at);
      draws = λ n block at.
          let first = mapped_at (λ (r : Reserver). r.block) before n block at in
          let less = slice_get_within before n first.0 first.1 in
          let queue = at_within queues n (omega (arith, less, ran.each_output, ran.each_before)) in
          let last = at_within after n (omega (arith, less, ran.each_after, ran.each_before)) in
          let drawn =
          queue_draws first.0 queue.0 last.0
          (ran.each_block n first.0 queue.0 last.0 first.1 queue.1 last.1) in
          let is = get_or_from_slice_get queues n queue.0 [] queue.1 in
          rw (first.2, start, sym is) at drawn.each;
    }
