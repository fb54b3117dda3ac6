use Rattle.ent_script.proofs.Common.{rules, as_str, view, is_listed, is_text}
use Rattle.ent_script.proofs.Firsts.{any_of_map}
use Rattle.ent_script.proofs.found.first.names_one_of.Goals as goal

pub returns-in-Some : goal.returns-in-Some
returns-in-Some c =
    search (
      rules,
      c.is_listed.ensures,
      any_of_map (is_text c.in-Some.text.now) view c.args.listed.now,
      c.as_str.ensures,
      c.in-Some.is,
    )
