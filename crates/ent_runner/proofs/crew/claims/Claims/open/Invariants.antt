use Rattle.ent_runner.proofs.Common.{◌≡◌, ◌≤◌, vec_len, vec_capacity}
use Rattle.ent_runner.proofs.Claiming.{AreOpened}
use Rattle.ent_runner.proofs.crew.claims.Claims.open.Given as goal

abbrev pub invariant-loop : goal.invariant-loop
invariant-loop l = record {
  first : AreOpened l.numbers l.workers l.counter l.word.shared.table_id l.claimers.items
      l.all.table_id l.all.me;
  count : vec_len l.claimers ≡ l.counter;
  room : l.workers ≤ vec_capacity l.claimers;
}
