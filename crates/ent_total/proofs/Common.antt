-- The names that proofs of this crate cite, of std, of the crates below and of its own specs.
-- Declares nothing.
pub use Rattle.std.proofs.Common.{All, Err, Global, IfErr, IsErrAnd, List, Ok, Result, Vec, [], ap}
pub use Rattle.std.proofs.Common.{append_assoc, arith, inl, inr, length, map, refl, reverse, rules}
pub use Rattle.std.proofs.Common.{drop, subst, sym, take, vec_len, ℕ, ◌++◌, ◌+◌, ◌-◌, ◌<◌, ◌^◌, ◌↔◌, ◌∙◌}
pub use Rattle.std.proofs.Common.{◌∷◌, ◌≡◌, ◌≢◌, ◌≤◌, ◌⊎◌}
pub use Rattle.std.proofs.lemmas.Grind.{common_steps}
pub use Rattle.std.proofs.lemmas.List.{append-nil, length-append, length-take-le, map-append}
pub use Rattle.std.proofs.lemmas.List.{nil_from_length, reverse-reverse, take-append-drop}
pub use Rattle.std.proofs.lemmas.List.{take_all, take_at}
pub use Rattle.std.proofs.lemmas.List.Elements.{All-head, All-map, All-more, All-push, All-same}
pub use Rattle.std.proofs.lemmas.List.Elements.{All-tail}
pub use Rattle.std.specs.Prelude.{IfOk, IsErrOf, OnErr, Option, Some, vec_capacity}
pub use Rattle.ent_alloc.specs.History.{after_history}
pub use Rattle.ent_alloc.specs.Sequential.{Allocator, listed_alone}
pub use Rattle.ent_alloc.specs.Spent.{AreSpent}
pub use Rattle.ent_alloc.specs.declared.refused.Refused.{Refused}
pub use Rattle.ent_alloc.specs.declared.refused.Refused.TheVariants.{Quota, Space}
pub use Rattle.ent_alloc.specs.declared.reserve_error.ReserveError.{ReserveError}
pub use Rattle.ent_handle.specs.Handle.{Handle}
pub use Rattle.ent_queue.specs.Reserving.{as_list, queued}
pub use Rattle.ent_shared.proofs.Returned.{given_more, given_no_more}
pub use Rattle.ent_shared.specs.Order.{handles_given, history_of, own_of_all}
pub use Rattle.ent_shared.specs.Phase.{IsOf, Reserver, Shared, records_of}
pub use Rattle.ent_shared.specs.Replies.{IsReturned}
pub use Rattle.ent_handle.proofs.Spelled.{length-word, same_parts, same_words}
pub use Rattle.ent_handle.specs.Bytes.{word}
pub use Rattle.ent_world.proofs.ImageRead.{bounded as world_bounded, read_is, refused_is}
pub use Rattle.ent_world.specs.FirstFault.{HasFault, MayTakeMemory}
pub use Rattle.ent_world.specs.Image.{HasImage, image as world_image, least, magic}
pub use Rattle.ent_world.specs.World.{World as WorldValue}
pub use Rattle.ent_world.specs.declared.image_fault.WorldImageFault.{WorldImageFault}
pub use Rattle.ent_world.specs.declared.image_fault.WorldImageFault.TheVariants.{Memory}
pub use Rattle.ent_total.specs.Image.{before_count, image}
pub use Rattle.ent_total.specs.Issuing.{Commands, IsRefused}
pub use Rattle.ent_total.specs.Phases.{AreOf, all_returned, reservers_of}
