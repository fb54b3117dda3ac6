-- The lemmas that close goals without an answer: the prover tries them together at each such goal
-- of this crate.
use Rattle.std.proofs.lemmas.Grind.{common_steps}
use Rattle.std.proofs.Common.{true≢false}
use Rattle.std.proofs.lemmas.List.{append_assoc, take-append-drop}
use Rattle.std.proofs.lemmas.List.Concat.{flat_map-cons}
use Rattle.std.proofs.lemmas.Option.{slice_get-get_or, slice_get_read}
use Rattle.std.proofs.lemmas.Result.{err_from_is_err_and}
use Rattle.ent_alloc.proofs.Listing.{drop_at}
use Rattle.ent_world.proofs.Folds.{next_left, next_takes_memory, some_left, stop_takes_memory}
use Rattle.ent_world.proofs.Folds.{takes_memory_in}
use Rattle.ent_world.proofs.ImageRead.{appended_4, header_alone, header_is, letters, other_letters}
use Rattle.ent_world.proofs.ImageRead.{other_magic, short_letters, too_short, bounded, handed_on}
use Rattle.ent_world.proofs.ImageRead.{kept_by_image, refused_from_exact, have_rows}
use Rattle.ent_world.proofs.Left.{commands_cut-step, commands_left-skip, each_left-next}
use Rattle.ent_world.proofs.Kept.{keys-components, same_keys-components}
use Rattle.ent_world.proofs.PlacedRows.{anyhow, end_taken_back, on_err, on_ok, some_entity}
use Rattle.ent_world.proofs.PlacedRows.{taken_back, new_later, stands_nowhere}
use Rattle.ent_world.proofs.Born.{named-append, named_before, named_queues-nobody}

pub ruleset laws = (
  common_steps,
  anyhow,
  append_assoc,
  appended_4,
  bounded,
  commands_cut-step,
  commands_left-skip,
  drop_at,
  each_left-next,
  end_taken_back,
  err_from_is_err_and,
  flat_map-cons,
  handed_on,
  have_rows,
  header_alone,
  header_is,
  kept_by_image,
  keys-components,
  letters,
  named-append,
  named_before,
  named_queues-nobody,
  new_later,
  next_left,
  next_takes_memory,
  on_err,
  on_ok,
  other_letters,
  other_magic,
  refused_from_exact,
  same_keys-components,
  short_letters,
  slice_get-get_or,
  slice_get_read,
  some_entity,
  some_left,
  stands_nowhere,
  stop_takes_memory,
  take-append-drop,
  taken_back,
  takes_memory_in,
  too_short,
  true≢false,
)
