use Rattle.ent_shared.proofs.Common.{◌≡◌, ◌≤◌, vec_len, vec_capacity}
use Rattle.ent_shared.proofs.Sharing.{AreShared}
use Rattle.ent_shared.proofs.phase.share.Given as goal

abbrev pub invariant-loop-number : goal.invariant-loop-number
invariant-loop-number l = record {
  first : AreShared l.fn.entities.allocator l.n l.number l.word.shared.table_id l.reservers.items
      l.all.table_id
      l.all.me;
  count : vec_len l.reservers ≡ l.number;
  room : l.n ≤ vec_capacity l.reservers;
}
