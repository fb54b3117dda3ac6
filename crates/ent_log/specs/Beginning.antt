-- Why a sync point did not begin.
use Rattle.std.specs.Prelude.{Option, None, Some}
use Rattle.ent_handle.specs.Handle.{Handle}
use Rattle.ent_log.specs.declared.begin_error.BeginError.{BeginError}
use Rattle.ent_log.specs.declared.begin_error.BeginError.TheVariants.{NotReserved, Memory}

-- the handle that the error names
abbrev pub unreserved_of : BeginError → Option Handle
unreserved_of (NotReserved h) = Some h
unreserved_of Memory = None
