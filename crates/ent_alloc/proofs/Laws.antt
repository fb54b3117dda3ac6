-- The lemmas that close goals without an answer: the prover tries them together at each such goal
-- of this crate.
use Rattle.std.proofs.lemmas.Grind.{common_steps}
use Rattle.std.proofs.Math.ListN.{drop_of_length-le}
use Rattle.std.proofs.lemmas.Bool.{cases_lt, le-ltb, lt-ltb, ne_eqb}
use Rattle.std.proofs.lemmas.List.{append-nil, append_assoc, drop_all, length-append, length-drop}
use Rattle.std.proofs.lemmas.List.{length-map, length-reverse, length-take-le, reverse-reverse}
use Rattle.ent_alloc.proofs.FreshHandles.{length-fresh}
use Rattle.ent_alloc.proofs.FrontPools.{few_of, room_of}
use Rattle.ent_alloc.proofs.ImageFront.{front_fault, front_passes, length_fault, magic_fault}
use Rattle.ent_alloc.proofs.ImageFront.{too_short_for_magic, version_fault}
use Rattle.ent_alloc.proofs.ImageHeader.{header_then, letters, numbers_then, other_magic}
use Rattle.ent_alloc.proofs.ImageHeader.{other_version, too_short}
use Rattle.ent_alloc.proofs.ImageOf.{handed_on}
use Rattle.ent_alloc.proofs.ImageSound.{roster_is}
use Rattle.ent_alloc.proofs.Occupants.{rising_occupants, len_occupants}
use Rattle.ent_alloc.proofs.LaidOut.{flushed-laid_out}
use Rattle.ent_alloc.proofs.Listing.{handles_of-fresh, handles_of-none, length-handles_of}
use Rattle.ent_alloc.proofs.Looked.{fresh_no, fresh_yes}
use Rattle.ent_alloc.proofs.Meaning.{allocator_is, available_is, length-idle, length_available}
use Rattle.ent_alloc.proofs.Meaning.{length_left, top_view}
use Rattle.ent_alloc.proofs.MeaningOfSteps.{born_is_listed, cancelled_view}
use Rattle.ent_alloc.proofs.PortionPools.{arranged_asked, portions_taken}
use Rattle.ent_alloc.proofs.Portioned.{count_more, count_size, count_within, list_more, no_portion}
use Rattle.ent_alloc.proofs.Portioned.{portion_is, reach_within}
use Rattle.ent_alloc.proofs.ListLaws.{drop-reverse, take-reverse}
use Rattle.ent_alloc.proofs.Waits.{new_waiting-push, range-push}

pub ruleset laws = (
  common_steps,
  allocator_is,
  append-nil,
  append_assoc,
  arranged_asked,
  available_is,
  born_is_listed,
  cancelled_view,
  cases_lt,
  count_more,
  count_size,
  count_within,
  drop-reverse,
  drop_all,
  drop_of_length-le,
  few_of,
  flushed-laid_out,
  fresh_no,
  fresh_yes,
  front_fault,
  front_passes,
  handed_on,
  handles_of-fresh,
  handles_of-none,
  header_then,
  le-ltb,
  len_occupants,
  length-append,
  length-drop,
  length-fresh,
  length-handles_of,
  length-idle,
  length-map,
  length-reverse,
  length-take-le,
  length_available,
  length_fault,
  length_left,
  letters,
  list_more,
  lt-ltb,
  magic_fault,
  ne_eqb,
  new_waiting-push,
  no_portion,
  numbers_then,
  other_magic,
  other_version,
  portion_is,
  portions_taken,
  range-push,
  reach_within,
  reverse-reverse,
  rising_occupants,
  room_of,
  roster_is,
  take-reverse,
  too_short,
  too_short_for_magic,
  top_view,
  version_fault,
)
