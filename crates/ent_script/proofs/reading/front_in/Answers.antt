use Rattle.ent_script.proofs.Common.{◌≡◌, ◌∙◌, ℕ, List, Some, sym, ap, rules, token_of, Data, read}
use Rattle.ent_script.proofs.Common.{view, Value, heading_of, in_script, Heading}
use Rattle.ent_script.proofs.Texts.{headed, whole}
use Rattle.ent_script.proofs.reading.front_in.Goals as goal

meant : (text : List ℕ) (was : Data) (v : Value) → read text ≡ Some was
    → heading_of (view v) ≡ heading_of was → headed (read text) ≡ in_script (heading_of (view v))
meant text was v is seen = ap headed is ∙ ap (in_script {A = Heading}) (sym seen)

pub returns-in_err-heading-clause-front : goal.returns-in_err-heading-clause-front
returns-in_err-heading-clause-front c = search (rules, whole, token_of, meant)
