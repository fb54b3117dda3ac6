use Rattle.std.specs.Io.KnownBytes.{Keeps}
use Rattle.cli.proofs.devices.counted.read_on.Given as goal

-- the interrupted reads took nothing
abbrev pub invariant-loop : goal.invariant-loop
invariant-loop g l = Keeps (g.R.Read.remaining l.initial.reader) (g.R.Read.remaining l.reader)
