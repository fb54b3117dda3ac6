use Rattle.std.proofs.Common.{rules, ◌≡◌, ◌<◌, ◌∷◌, [], Some, ℕ, ℤ, pos, ap, to_z, of_z, w64}
use Rattle.clap.specs.declared.builder.ArgAction.TheVariants.{Set}
use Rattle.clap.specs.declared.builder.value_parser.ValueParser.{ValueParser}
use Rattle.clap.specs.Words.{NarrowsTo, Rule}
use Rattle.clap.specs.declared.builder.value_parser.ValueParser.TheVariants.{Signed}
use Rattle.cli.proofs.options.number_option.Goals as goal

-- the range narrows the numbers that the type has
narrowed : (parser : ValueParser) (from start end : ℤ) (most : ℕ) → most < 4294967296
    → NarrowsTo (Signed (pos 0) (pos 4294967295)) (Some start) (Some end) parser → start ≡ pos 1
    → from ≡ pos most → end ≡ to_z w64 (of_z w64 from) → parser ≡ Signed (pos 1) (pos most)
narrowed parser from start end most fits narrow starts is ends = search rules

pub returns-clause-rule : goal.returns-clause-rule
returns-clause-rule c =
    let narrow = rw c.value_parser.ensures at c.range-range.ensures in
    let parser : c.value_parser-2.result.value_parser ≡ Some (Signed (pos 1) (pos c.args.most)) =
    search
    (rules, narrowed) in
    rw (
      c.help.ensures,
      c.default_value.ensures,
      c.value_parser-2.ensures.others,
      parser,
      c.value_name.ensures,
      c.action.ensures,
      c.long.ensures,
    ) (ap (λ (rule : Rule). record rule {
      long = Some c.args.name.now;
      action = Some Set;
      value_names = 1;
      parser = Some (Signed (pos 1) (pos c.args.most));
      defaults = c.args.default.now ∷ [];
    }) c.new-2.ensures.rule)
