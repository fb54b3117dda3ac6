-- Who goes on after a stop of the frame's sync point, as far as the end, ends the frame.
use Rattle.ent_runner.proofs.Common.{rules, ◌≡◌, ℕ, List, ◌++◌, refl, Command, World, View, sync}
use Rattle.ent_runner.proofs.Common.{HasStoppedSo, Fault, SyncReport, StopsAt, Ends}
use Rattle.ent_world.specs.declared.fault.SyncFault.TheVariants as stop

pub ends_frame : {S : Type 0} (may : S → View → List Command → Type 0) (systems : List S)
    (workers : ℕ) (before now after : World) (queues : List (List Command))
    (system command done : ℕ) (so_far : SyncReport) (faults : List Fault)
    → StopsAt may systems workers before queues now (stop.Memory system command done so_far)
    → ((w : World) (earlier : List Fault) → HasStoppedSo system command done queues w now earlier
    → after ≡ (sync queues w).world) → ((w : World) (earlier : List Fault)
    → HasStoppedSo system command done queues w now earlier
    → earlier ++ faults ≡ (sync queues w).faults)
    → Ends may systems workers before queues after so_far.born.items (so_far.faults.items ++ faults)
ends_frame may systems workers before now after queues system command done so_far faults stops
    whole_world
    whole_faults =
    let half = stops.memory system command done so_far refl in search rules
