use Rattle.ent_queue.proofs.Common.{rules, arith, common_steps, ◌≡◌, ◌≤◌, ◌+◌, ◌++◌, ◌∷◌, []}
use Rattle.ent_queue.proofs.Common.{take, take_more, length, append-nil, All-push, IsHandle}
use Rattle.ent_queue.proofs.Common.{handle_bytes}
use Rattle.ent_queue.proofs.Queues.{piece_fits}
use Rattle.ent_queue.proofs.writing.write_each.Goals as goal

pub loop-handle-preserved : goal.loop-handle-preserved
loop-handle-preserved c =
    let i = c.loop-handle.handle-index in
    let handles = c.args.handles.now in
    let rest = c.args.rest.now in
    let h = c.handle-item.result in
    let more : take (i + 1) handles ≡ take i handles ++ h ∷ [] = search
    (rules, arith, take_more, c.handle-item.is) in
    let fits = piece_fits i (length handles) (9 + length rest) (search (rules, arith)) in
    let first : c.write_u8_u64.new.bytes.items
    ≡ c.loop-handle.bytes.items ++ c.args.kind ∷ handle_bytes h = search rules in
    let room : c.write_u8_u64.new.bytes.len + length rest ≤ c.write_u8_u64.new.bytes.cap = search
    (rules, arith, fits, c.loop-handle.invariant) in
    let second : c.extend_from_slice.new.self.items ≡ c.write_u8_u64.new.bytes.items ++ rest =
    search (rules, arith, room) in
    record {
      each = rw more (All-push IsHandle _ h c.loop-handle.invariant.each c.to_bits.ensures.in_range);
      items = rw (more, second, first, c.loop-handle.invariant.items)
          (grind (arith, common_steps, append-nil));
      len = search (rules, arith, room);
      capacity = search (rules, arith, room);
    }
