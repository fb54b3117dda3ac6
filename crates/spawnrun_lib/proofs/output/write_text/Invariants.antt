use Rattle.spawnrun_lib.proofs.Common.{◌≡◌, take, flat_map}
use Rattle.std.specs.Io.KnownBytes.{Appends}
use Rattle.spawnrun_lib.proofs.output.write_text.Given as goal

abbrev pub invariant-loop-part : goal.invariant-loop-part
invariant-loop-part g l = record {
  written : Appends (g.O.Sink.written l.fn.output) (g.O.Sink.written l.output)
      (flat_map (λ part. part.items) (take l.part-index l.parts));
  failures : g.O.Sink.failures l.output ≡ g.O.Sink.failures l.fn.output;
}
