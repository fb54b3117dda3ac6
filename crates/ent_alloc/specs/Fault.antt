-- What a fault prints, and which fault becomes which other one.
use Rattle.std.specs.Prelude.{ℕ, List, ◌++◌, codes}
use Rattle.std.specs.Fmt.{decimal}
use Rattle.ent_alloc.specs.declared.space.Space.{Space}
use Rattle.ent_alloc.specs.declared.refused.Refused.{Refused}
use Rattle.ent_alloc.specs.declared.refused.Refused.TheVariants as refused
use Rattle.ent_alloc.specs.declared.reserve_error.ReserveError.{ReserveError}
use Rattle.ent_alloc.specs.declared.reserve_error.ReserveError.TheVariants as reserve

abbrev pub space_text : Space → List ℕ
space_text s = decimal s.wanted ++ (codes " wanted and " ++ (decimal s.left ++ codes " left"))

-- the refusal as a fault of a call that lists what it reserves
abbrev pub as_reserve_error : Refused → ReserveError
as_reserve_error (refused.Space wanted left) = reserve.Space wanted left
as_reserve_error (refused.Quota left) = reserve.Quota left
