use Rattle.std.proofs.Common.{◌≡◌, ◌≤◌, vec_len}
use Rattle.std.specs.Io.KnownBytes.{Consumes}
use Rattle.cli.proofs.devices.input.read_all.Given as goal

abbrev pub invariant-loop : goal.invariant-loop
invariant-loop g l =
    let device = g.S.Source in
    record {
      progress : l.counter ≤ vec_len l.bytes;
      within : vec_len l.bytes ≤ l.limit;
      taken : Consumes (device.remaining l.initial.source) (device.remaining l.source)
          l.bytes.items;
      failures : device.failures l.source ≡ device.failures l.initial.source;
    }
