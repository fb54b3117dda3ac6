use Rattle.ent_script.proofs.Common.{IfSome_then, rules, ◌≡◌, List, ℕ, Data, view, Some, IsUtf8}
use Rattle.ent_script.proofs.Common.{cond-true, is_utf8-from_IsUtf8, read, json_of}
use Rattle.ent_script.proofs.found.script.value_shown.Goals as goal

json_some : (text : List ℕ) (d : Data) → IsUtf8 text → read text ≡ Some d → json_of text ≡ Some d
json_some text d utf8 e = search (rules, cond-true, is_utf8-from_IsUtf8)

pub returns-in-Ok-clause-shows : goal.returns-in-Ok-clause-shows
returns-in-Ok-clause-shows c =
    let json =
    json_some c.args.text.now (view c.in-Ok.script) c.in-Ok.ensures.ok.0 c.in-Ok.ensures.ok.1 in
    search (rules, IfSome_then, json)
