-- Images that a reader with a bound takes: a flush of what was read leaves no more slots than that.
use Rattle.std.specs.Prelude.{◌≡◌, ℕ, ◌+◌, List, Result, Ok, Err, nat_le, if◌then◌else◌}
use Rattle.ent_alloc.specs.Entities.{Entities}
use Rattle.ent_alloc.specs.Image.{image, HasImage}
use Rattle.ent_alloc.specs.Sequential.{Allocator, made_at_flush}
use Rattle.ent_alloc.specs.declared.image_fault.ImageFault.{ImageFault}
use Rattle.ent_alloc.specs.declared.image_fault.ImageFault.TheVariants.{Bound}

-- how many slots there are after the next flush
abbrev pub slots_after_flush : Allocator → ℕ
slots_after_flush s = s.made + made_at_flush s

-- what reading an image of these entities returns if that many slots are allowed
abbrev pub within : ℕ → Entities → Result Entities ImageFault
within most e =
    if nat_le (slots_after_flush e.allocator) most
    then Ok e
    else Err (Bound (slots_after_flush e.allocator))

-- what a reader that allows that many slots returns if this was read
abbrev pub allowed : ℕ → Result Entities ImageFault → Result Entities ImageFault
allowed most (Ok e) = within most e
allowed most (Err fault) = Err fault

-- the bytes are an image, and it is refused for the bound by this fault
abbrev pub IsBeyond : List ℕ → ℕ → ImageFault → Type 0
IsBeyond bytes most fault =
    (e : Entities) × HasImage e × (image e ≡ bytes) × (within most e ≡ Err fault)
