use Rattle.std.proofs.Common.{◌≡◌, ◌+◌, vec_len}
use Rattle.ent_shared.specs.Phase.{IsOf}
use Rattle.cases_and_examples.proofs.examples.caller.Caller.one_by_one.Given as goal

-- the reserver stays one of this allocator, and each round gave a handle
abbrev pub invariant-loop-served : goal.invariant-loop-served
invariant-loop-served l = record {
  stays : IsOf l.shared l.self.reserver;
  given : vec_len l.self.given ≡ vec_len l.initial.self.given + l._served;
}
