-- How a run of systems fails.
use Rattle.std.specs.Prelude.{Option}
use Rattle.ent_runner.specs.declared.run_error.RunError.{RunError}
use Rattle.ent_runner.specs.declared.run_error.RunError.TheVariants as failed

-- what holds if the systems were broken off, with this error if there is one
abbrev pub IfLost : {E : Type 0} → (Option E → Type 0) → RunError E → Type 0
IfLost P (failed.Lost error) = P error
IfLost P _ = Unit {0}

-- what holds of another error
abbrev pub IfNotLost : {E : Type 0} → Type 0 → RunError E → Type 0
IfNotLost P (failed.Lost error) = Unit {0}
IfNotLost P _ = P

-- an error of a run over an allocator
abbrev pub IsOfAllocator : {E : Type 0} → RunError E → Type 0
IsOfAllocator failed.Reservers = ⊥
IsOfAllocator failed.OtherPhase = ⊥
IsOfAllocator _ = Unit {0}

-- an error of a run in blocks
abbrev pub IsOfBlocks : {E : Type 0} → RunError E → Type 0
IsOfBlocks failed.NeedsFlush = ⊥
IsOfBlocks failed.Unborn = ⊥
IsOfBlocks _ = Unit {0}
