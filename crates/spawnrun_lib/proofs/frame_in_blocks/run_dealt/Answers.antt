use Rattle.spawnrun_lib.proofs.Common.{rules, ◌≡◌, ◌∙◌, ap, sym, List, Command, blocks_in}
use Rattle.spawnrun_lib.proofs.Common.{reserved_in, view_of}
use Rattle.spawnrun_lib.proofs.DrawnQueues.{among_after, blocks_used, have_issued}
use Rattle.ent_blocks.specs.Blocks.{blocks_of}
use Rattle.ent_world.specs.InBlocks.{world_after, world_with}
use Rattle.spawnrun_lib.specs.ReportInBlocks.{HaveIssued, blocks_after}
use Rattle.spawnrun_lib.specs.declared.frame_in_blocks.Undone.TheVariants.{Lost}
use Rattle.spawnrun_lib.proofs.frame_in_blocks.run_dealt.Given as given
use Rattle.spawnrun_lib.proofs.frame_in_blocks.run_dealt.Goals.{In-Ok-filled}
use Rattle.spawnrun_lib.proofs.frame_in_blocks.run_dealt.Goals as goal

-- all systems ran
module _ (g : given.Over) (c : In-Ok-filled g) where
  abbrev queues : List (List Command)
  queues = c.in-Ok-filled.filled.0.items

  blocks_are : blocks_of c.in-Ok.reservers.items ≡ blocks_in c.args.sizes.now c.args.world
  blocks_are = c.in-Ok.ensures.reservers ∙ c.in-Ok.ensures.blocks

  start_is : c.dealer.result.now.start ≡ c.args.world.allocator
  start_is = ap (λ b. b.start) c.dealer.ensures ∙ ap (λ w. w.allocator) c.in-Ok.ensures.world

  view_is : c.view.result ≡ view_of c.args.world
  view_is = search rules

  used : blocks_of c.in-Ok-filled.filled.1.items
      ≡ blocks_after (blocks_of c.in-Ok.reservers.items) queues
  used =
      blocks_used c.dealer.result.now c.args.systems.now c.args.world _ _ _ _ start_is view_is
      c.in-Ok-filled.ensures.ok

  issued : HaveIssued c.args.systems.now c.args.world (blocks_in c.args.sizes.now c.args.world) queues
  issued =
      rw blocks_are
      at (have_issued c.dealer.result.now c.args.systems.now c.args.world _ _ _ _ start_is view_is
      c.in-Ok-filled.ensures.ok)

pub run_in_blocks-filled-requires-clause-own : goal.run_in_blocks-filled-requires-clause-own
run_in_blocks-filled-requires-clause-own g c κs within =
    rw c.dealer.ensures c.in-Ok.ensures.own

pub close-requires-clause-among : goal.close-requires-clause-among
close-requires-clause-among g c =
    rw (
      c.into_parts-blocks.ensures.source,
      used g (goal.at.close-requires-clause-among g c).In-Ok-filled,
    )
    (among_after c.in-Ok.dealt.source.blocks (blocks_of c.in-Ok.reservers.items)
    c.in-Ok-filled.filled.0.items ∙ c.in-Ok.ensures.takes)

pub returns-in-Ok-apply-clause-went : goal.returns-in-Ok-apply-clause-went
returns-in-Ok-apply-clause-went g c =
    let here = (goal.at.returns-in-Ok-apply-clause-went g c).In-Ok-filled in
    let queues = c.in-Ok-filled.filled.0.items in
    let world : world_with c.close.result.phase.start c.into_parts-blocks.result.1 ≡ c.args.world =
    search rules in
    let blocks : c.close.result.phase.blocks
    ≡ blocks_after (blocks_in c.args.sizes.now c.args.world) queues =
    ap (λ e. e.phase.blocks) c.close.ensures.is ∙ used g here
    ∙ ap (λ b. blocks_after b queues) (blocks_are g here) in
    let settled : c.in-Ok-settle.world ≡ reserved_in c.args.sizes.now c.args.world queues =
    c.in-Ok-settle.ensures.after ∙ (λ i. world_after (world i) (blocks i)) in (
      queues,
      record {
        issued = issued g here;
        world = search (rules, settled);
        born_are = search (rules, settled);
        faults_are = search (rules, settled);
      },
    )

pub returns-in-Err-clause-lost : goal.returns-in-Err-clause-lost
returns-in-Err-clause-lost g c is =
    let of_run : c.why_undone.result ≡ Lost = cc in
    let why = c.why_undone.ensures of_run in
    let view : c.view.result ≡ view_of c.args.world = search rules in
    record {
      phase = c.dealer.result.now;
      reservers = c.in-Ok.reservers.items;
      start =
          ap (λ b. b.start) c.dealer.ensures ∙ ap (λ w. w.allocator) c.in-Ok.ensures.world;
      blocks = c.in-Ok.ensures.reservers ∙ c.in-Ok.ensures.blocks;
      error = why.0;
      broken_off = rw (sym view)
          (rw (sym c.into_parts-error.ensures.error ∙ why.1) at c.in-Err.ensures.lost);
    }
