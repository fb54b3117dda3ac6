use Rattle.ent_script.proofs.Common.{cond-true, rules, ◌≡◌, List, ℕ, length, cut_to}
use Rattle.ent_script.proofs.found.with.Goals as goal

-- a text is not cut where there is room for it
cut_to-whole : (text : List ℕ) → cut_to (length text) text ≡ text
unfolding cut_to
cut_to-whole text = search (rules, cond-true)

pub returns : goal.returns
returns c = search (rules, cut_to-whole)
