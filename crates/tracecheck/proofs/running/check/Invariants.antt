use Rattle.tracecheck.proofs.Common.{◌≡◌, List, ℕ, false, Consumes, HasRead}
use Rattle.tracecheck.proofs.running.check.Given as goal

-- a text was taken of the input, and it was read
abbrev pub invariant-loop : goal.invariant-loop
invariant-loop g l =
    let device = g.I.Source in
    record {
      read : (text : List ℕ) × Consumes (device.remaining l.initial.input)
          (device.remaining l.input) text
          × HasRead l.fn.entities.allocator text l.checking l.pending.items;
      failures : device.failures l.input ≡ device.failures l.initial.input;
      untold : l.tells ≡ false → l.terminal ≡ l.initial.terminal;
    }
