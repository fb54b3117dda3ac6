-- The names that proofs of this crate cite, of std, of the crates below and of its own specs.
-- Declares nothing.
pub use Rattle.std.proofs.Common.{All, BTreeMap, Bool, Bor, Equal, Err, Global, Greater, IfSome}
pub use Rattle.std.proofs.Common.{Less, List, MatchOption, None, Ok, Option, Ordering, Result, Some}
pub use Rattle.std.proofs.Common.{String, Vec, [], add-one, ap, append_assoc, arith, bytes_eq}
pub use Rattle.std.proofs.Common.{chars, codes, cond, drop, encode_utf8, eqb, false, get_or, inl}
pub use Rattle.std.proofs.Common.{inr, is_eq, is_none, is_some, le-leb, length, length-append}
pub use Rattle.std.proofs.Common.{length-drop, map, min, nat_cmp, ok_or, option_and_then}
pub use Rattle.std.proofs.Common.{option_map, refl, rules, slice_get, slice_index, string_bytes}
pub use Rattle.std.proofs.Common.{string_cmp, subst, suc, sym, take, take_all, true, true≢false}
pub use Rattle.std.proofs.Common.{zero, ℕ, ℤ, ◌%◌, ◌&&◌, ◌*◌, ◌++◌, ◌+◌, ◌-◌, ◌/◌, ◌<◌, ◌^◌, ◌||◌}
pub use Rattle.std.proofs.Common.{◌∙◌, ◌∷◌, ◌≡◌, ◌≢◌, ◌≤◌, ◌⊎◌}
pub use Rattle.std.proofs.lemmas.Bool.{cases_Bool, cond-false, lt-leb, ne_eqb}
pub use Rattle.std.proofs.lemmas.Cmp.{nat_list_cmp_total, tied_itself}
pub use Rattle.std.proofs.lemmas.Grind.{common_steps, flat_map-append}
pub use Rattle.std.proofs.lemmas.List.{append-nil, drop_more, get_or-map, get_or_default}
pub use Rattle.std.proofs.lemmas.List.{length-map, length-take, length-take-le, map-append}
pub use Rattle.std.proofs.lemmas.List.{nil_from_length, take-append-drop, take-append-le, take-map}
pub use Rattle.std.proofs.lemmas.List.{take_more}
pub use Rattle.std.proofs.lemmas.List.Splits.{join_with_byte-slice_split, slice_split_at}
pub use Rattle.std.proofs.lemmas.List.Splits.{slice_split_none}
pub use Rattle.std.proofs.lemmas.List.Sums.{fold-append}
pub use Rattle.std.proofs.lemmas.Map.Text.{btree_map_updates_str, is_eq-slice_cmp}
pub use Rattle.std.proofs.lemmas.Slice.Eq.{bytes_eq-Decides}
pub use Rattle.std.proofs.lemmas.Str.{IsUtf8-from_is_utf8, IsUtf8-past_char, chars-IsAscii}
pub use Rattle.std.proofs.lemmas.Str.{chars-nil, chars_past_char, is_utf8-from_IsUtf8}
pub use Rattle.std.specs.BTreeMap.{Updates, get_by, insert_entry}
pub use Rattle.std.specs.Cmp.Lexicographic.{slice_cmp}
pub use Rattle.std.specs.List.{AllByRecursion, flat_map, fold, list_all, list_any, slice_split}
pub use Rattle.std.specs.Map.{keys_of}
pub use Rattle.std.specs.Ordering.{match_ordering}
pub use Rattle.std.specs.Prelude.{IfOk, nat_le, option_copied}
pub use Rattle.std.specs.Str.{IsUtf8, is_utf8}
pub use Rattle.std.proofs.lemmas.Fmt.{decimal_by_steps}
pub use Rattle.std.proofs.lemmas.Option.{IfSome_then}
pub use Rattle.std.proofs.lemmas.Str.Ascii.{IsAscii-from_all}
pub use Rattle.std.specs.Fmt.{decimal, is_char_start}
unfoldable pub use Rattle.std.specs.Fmt.Cut.{cut_to, floor_char_boundary}
pub use Rattle.std.specs.Fmt.InlineText.{inline_text}
pub use Rattle.std.specs.Str.Iter.{chars_rest}
pub use Rattle.ent_alloc.specs.Limits.{AreLimits}
pub use Rattle.ent_alloc.proofs.Common.{All-append, All-cons, All-head, All-nil, All-push, All-tail}
pub use Rattle.ent_alloc.proofs.Common.{All-take, All-weaker, and_parts, cases_lt, cond-true}
pub use Rattle.ent_alloc.proofs.Common.{nat_tests}
pub use Rattle.ent_handle.proofs.Decimals.{plain_from_decimal}
pub use Rattle.ent_handle.specs.Component.{component_cmp}
pub use Rattle.ent_handle.specs.Text.{is_decimal}
pub use Rattle.ent_handle.specs.declared.component.ComponentId.{ComponentId}
pub use Rattle.ent_storage.specs.Bundle.{Bundle, with_put}
pub use Rattle.fast_float.specs.Text.{scan}
pub use Rattle.json.proofs.Grammar.{items_end, items_more, left-parse_map, left_none, left_some}
pub use Rattle.json.proofs.Grammar.{members_end, members_more, members_no_key, read_key-shorter}
pub use Rattle.json.proofs.Grammar.{value-begin_array, value-begin_object, value_is}
pub use Rattle.json.specs.Json.{Parse, after_end_array, parse_map, read_key}
unfoldable pub use Rattle.json.specs.Json.{items, members, value}
pub use Rattle.json.specs.Lex.{tokens}
pub use Rattle.json.specs.Reads.{token_of}
pub use Rattle.json.specs.Token.{Token}
pub use Rattle.serde_json.specs.Data.{Data, Items, Members, array, boolean, item, member, no_items}
pub use Rattle.serde_json.specs.Data.{no_members, null, number, object, put, string}
pub use Rattle.serde_json.specs.Find.{as_array, as_object, as_str, get, get_member}
pub use Rattle.serde_json.specs.Read.{converted, of_items, of_json, of_members, read}
unfoldable pub use Rattle.serde_json.specs.Read.{number_of}
pub use Rattle.serde_json.specs.View.{items_view, members_view, number_view, view}
pub use Rattle.serde_json.specs.declared.value.Value.{Array, Object, Value, the_lemmas}
pub use Rattle.ent_script.specs.Cut.{cut, cut_members}
pub use Rattle.ent_script.specs.Fields.{AreAmong, AreFields, BeginsObject, IsUnder}
unfoldable pub use Rattle.ent_script.specs.Fields.{of_fields}
pub use Rattle.ent_script.specs.Front.{IsFront}
pub use Rattle.ent_script.specs.Json.{at_most, keys_among, list_of, pairs_of, whole, whole_within}
pub use Rattle.ent_script.specs.Names.{as_name, names_in, number_among, with_name, with_part}
pub use Rattle.ent_script.specs.Numbers.{HaveNumbers}
pub use Rattle.ent_script.specs.Part.{data_of, leaf_data, leaves_of, members_of}
pub use Rattle.ent_script.specs.Passing.{Passes, after_items, after_members, left}
pub use Rattle.ent_script.specs.Ranges.{AllFrom, IsBindingAt, IsBundleOf, IsFrameOf, IsOperationAt}
pub use Rattle.ent_script.specs.Ranges.{IsScript, IsSystemOf, IsTargetAt}
pub use Rattle.ent_script.specs.Reading.{ReadsAs, ReadsList, at_operation, birth_number}
pub use Rattle.ent_script.specs.Reading.{birth_of_parts, births_before, bound_name, bundle_by}
pub use Rattle.ent_script.specs.Reading.{component_at, component_of, format_of, in_script, items_of}
pub use Rattle.ent_script.specs.Reading.{json_of, new_name, numbered, only, operation_at, or_absent}
pub use Rattle.ent_script.specs.Reading.{target_birth, with_of, ◌>>=◌}
unfoldable pub use Rattle.ent_script.specs.Reading.{
  binding_of,
  birth_of,
  component_names,
  count_of,
  frame_of,
  has_keys,
  heading_of,
  is_despawn,
  is_insert,
  is_remove,
  is_spawn,
  is_spawn_many,
  of_kind,
  operation_of,
  read_bundle,
  removed_of,
  script_of,
  system_of,
  target_at,
  target_of,
}
pub use Rattle.ent_script.specs.Script.{Script}
pub use Rattle.ent_script.specs.Shares.{Share, both, frames_by, has, system_by, turn}
pub use Rattle.ent_script.specs.Shares.{with_operations}
unfoldable pub use Rattle.ent_script.specs.Shares.{frame_by, script_by}
pub use Rattle.ent_script.specs.Streaming.{BeginsArray, FaultOfArray, PassesAtMost, Streams}
pub use Rattle.ent_script.specs.Streaming.{StreamsList, begins_object, frames_of, ran_out}
pub use Rattle.ent_script.specs.Top.{head, heads}
pub use Rattle.ent_script.specs.Place.{bad_name, is_among, is_listed, is_text, key_but, key_char}
pub use Rattle.ent_script.specs.Place.{quoted, twice, unwhole_in}
pub use Rattle.ent_script.specs.Shown.{ArePrintable, IsPrintable, byte_text, char_text, hex}
pub use Rattle.ent_script.specs.Shown.{is_printable, plain, unit_text}
unfoldable pub use Rattle.ent_script.specs.Shown.{front}
pub use Rattle.ent_script.specs.declared.cause.Cause.{Cause}
pub use Rattle.ent_script.specs.declared.cause.ScriptCause.{ScriptCause}
pub use Rattle.ent_script.specs.declared.fields.Fields.{Fields}
pub use Rattle.ent_script.specs.declared.format.Format.{Format}
pub use Rattle.ent_script.specs.declared.heading.Heading.{Heading}
pub use Rattle.ent_script.specs.declared.kind.Kind.{Kind}
pub use Rattle.ent_script.specs.declared.leaf.Leaf.{Leaf}
pub use Rattle.ent_script.specs.declared.operation.Operation.{Operation}
pub use Rattle.ent_script.specs.declared.part.Part.{Part}
pub use Rattle.ent_script.specs.declared.read_fault.ReadFault.{ReadFault}
pub use Rattle.ent_script.specs.declared.read_fault.ReadFault.TheVariants.{Json, Memory}
