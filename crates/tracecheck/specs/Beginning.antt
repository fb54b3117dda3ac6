-- The state in which a trace begins, and the image that it may have.
use Rattle.std.specs.Prelude.{⊤, ◌≡◌, ℕ, List, [], ◌++◌, Some, codes}
use Rattle.std.specs.Fmt.{decimal}
use Rattle.ent_alloc.specs.Entities.{Entities}
use Rattle.ent_alloc.specs.FirstFault.{first_fault}
use Rattle.ent_alloc.specs.Image.{HasImage, image}
use Rattle.ent_alloc.specs.Sequential.{Allocator}
use Rattle.ent_alloc.specs.declared.image_fault.ImageFault.{ImageFault}
use Rattle.ent_alloc.specs.declared.image_fault.ImageFault.TheVariants as fault
use Rattle.ent_replay.specs.Checker.{Checked}
use Rattle.tracecheck.specs.declared.image.Unread.{Unread}
use Rattle.tracecheck.specs.declared.image.Unread.TheVariants as unread

-- no line is checked yet
abbrev pub begun : Allocator → Checked
begun begin = record { allocator = begin; run = [] }

-- The bytes are the image of these entities, and so of no others.
pub record IsImageOf (bytes : List ℕ) (e : Entities) : Type 0 where
  pub has_image : HasImage e
  pub is : image e ≡ bytes

-- why these bytes may be unread: for their first fault, or because of memory or the device
abbrev pub MayBeUnread : List ℕ → Unread → Type 0
MayBeUnread bytes (unread.Fault fault) = first_fault bytes ≡ Some fault
MayBeUnread bytes other = ⊤

abbrev pub unread_by : ImageFault → Unread
unread_by fault.Memory = unread.Memory
unread_by other = unread.Fault other

-- ---- the text that says why bytes are no image

-- what is wrong, and the version, the length, the slot or the position
abbrev pub fault_text : ImageFault → List ℕ
fault_text fault.Magic = codes "magic"
fault_text (fault.Version version) = codes "version " ++ decimal version
fault_text fault.Limits = codes "limits"
fault_text fault.Counts = codes "counts"
fault_text (fault.Length expected) = codes "length " ++ decimal expected
fault_text fault.Requests = codes "requests"
fault_text (fault.Slot index) = codes "slot " ++ decimal index
fault_text (fault.Position position) = codes "position " ++ decimal position
fault_text (fault.Bound slots) = codes "bound " ++ decimal slots
fault_text fault.Memory = codes "memory"

abbrev pub refused_image_text : ImageFault → List ℕ
refused_image_text fault = codes "refused image " ++ fault_text fault ++ codes "\n"
