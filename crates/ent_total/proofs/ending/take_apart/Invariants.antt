use Rattle.ent_total.proofs.Common.{◌≡◌, ◌≤◌, ◌+◌, ◌++◌, length, vec_len, vec_capacity}
use Rattle.ent_total.specs.Issuing.{queues_in, reservers_in}
use Rattle.ent_total.proofs.ending.take_apart.Given as goal

-- those that came so far
abbrev pub invariant-loop-reserver : goal.invariant-loop-reserver
invariant-loop-reserver l = record {
  all : l.yielded ++ l.reserver-iterator.rest.items ≡ l.fn.callers.items;
  reservers : l.reservers.items ≡ l.initial.reservers.items ++ reservers_in l.yielded;
  queues : l.queues.items ≡ l.initial.queues.items ++ queues_in l.yielded;
  room : vec_len l.reservers + length l.reserver-iterator.rest.items ≤ vec_capacity l.reservers;
  queue_room : vec_len l.queues + length l.reserver-iterator.rest.items ≤ vec_capacity l.queues;
}
