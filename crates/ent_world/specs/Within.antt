-- Images of worlds that a reader with a bound takes: a flush of what was read leaves no more slots
-- than that.
use Rattle.std.specs.Prelude.{◌≡◌, ℕ, ◌<◌, List, Result, Ok, Err, nat_le, if◌then◌else◌}
use Rattle.ent_alloc.specs.Sequential.{Allocator}
use Rattle.ent_alloc.specs.Within.{slots_after_flush}
use Rattle.ent_world.specs.Image.{image, HasImage}
use Rattle.ent_world.specs.World.{World}
use Rattle.ent_world.specs.declared.image_fault.WorldImageFault.{WorldImageFault}
use Rattle.ent_world.specs.declared.image_fault.WorldImageFault.TheVariants.{Bound}

-- what has this allocator, if that many slots are allowed
abbrev pub within : {T : Type 0} → ℕ → Allocator → T → Result T WorldImageFault
within most s it =
    if nat_le (slots_after_flush s) most then Ok it else Err (Bound (slots_after_flush s))

-- what a reader that allows that many slots returns, if this was read
abbrev pub allowed : {T : Type 0} → (T → Allocator) → ℕ → Result T WorldImageFault
    → Result T WorldImageFault
allowed of most (Ok it) = within most (of it) it
allowed of most (Err fault) = Err fault

-- the bytes are an image, and it is refused for the bound by this fault
abbrev pub IsBeyond : List ℕ → ℕ → WorldImageFault → Type 0
IsBeyond bytes most fault =
    (w : World) × HasImage w × (image w ≡ bytes) × (most < slots_after_flush w.allocator)
    × (fault ≡ Bound (slots_after_flush w.allocator))
