use Rattle.std.proofs.Common.{rules, ◌≡◌, ◌⊎◌, false, sym, ◌∙◌}
use Rattle.ent_handle.specs.Text.{is_decimal}
use Rattle.ent_handle.proofs.HandleTexts.{handle_of_whole, read_parts, shapeless_parts}
use Rattle.ent_handle.proofs.HandleTexts.{handle_found, handle_only, handle_shape, handle_range}
use Rattle.ent_handle.proofs.handle.Handle.read_text.Goals as goal

pub returns-in_default : goal.returns-in_default
returns-in_default c =
    let text = c.args.bytes.now in
    let e = sym (handle_of_whole text c.in_default.ensures.none) in
    search (rules, handle_only, handle_shape, handle_range)

pub returns-then-not-is_decimal : goal.returns-then-not-is_decimal
returns-then-not-is_decimal c =
    let text = c.args.bytes.now in
    let index = c.in-Some.index.now in
    let generation = c.in-Some.generation.now in
    let which : (is_decimal index ≡ false) ⊎ (is_decimal generation ≡ false) = search rules in
    let e =
    sym
    (shapeless_parts text index generation c.in-Some.ensures.found c.in-Some.ensures.first
    which) in
    search (rules, handle_only, handle_shape, handle_range)

pub returns : goal.returns
returns c =
    let text = c.args.bytes.now in
    let index = c.in-Some.index.now in
    let generation = c.in-Some.generation.now in
    let e =
    c.ok_or.ensures.value ∙ read_parts text index generation c.in-Some.ensures.found
    c.in-Some.ensures.first
    (sym c.is_decimal.ensures ∙ c.if-not-is_decimal.false)
    (sym c.is_decimal-else-not-is_decimal.ensures ∙ c.if-not-is_decimal-2.false)
    c.of_decimals.result
    c.of_decimals.ensures.value c.of_decimals.ensures.in_range in
    search (rules, handle_found, handle_only, handle_shape, handle_range)
