use Rattle.spawnrun_lib.proofs.Common.{rules, arith, common_steps, ◌≡◌, ℕ, ◌-◌, ◌<◌, List, [], ◌∷◌}
use Rattle.spawnrun_lib.proofs.Common.{◌++◌, cases_lt, nil_from_length, lines_of, IsWithout}
use Rattle.spawnrun_lib.proofs.Common.{lines_whole, lines_first, slice_index_or}
use Rattle.spawnrun_lib.proofs.schedule.line_of.Goals as goal

-- the line with this number, from 0
abbrev nth : ℕ → List ℕ → List ℕ
nth n text = slice_index_or (lines_of text) n []

nth_first : (text line others : List ℕ) → text ≡ line ++ 10 ∷ others → IsWithout 10 line
    → nth 0 text ≡ line
nth_first text line others e h = search (rules, lines_first text line others e h)

nth_later : (n : ℕ) (text line others : List ℕ) → 0 < n → text ≡ line ++ 10 ∷ others
    → IsWithout 10 line → nth n text ≡ nth (n - 1) others
nth_later n text line others some e h = search (rules, lines_first)

nth_only : (text : List ℕ) → IsWithout 10 text → nth 0 text ≡ text
nth_only text h = search (rules, cases_lt, lines_whole, nil_from_length)

nth_past : (n : ℕ) (text : List ℕ) → 0 < n → IsWithout 10 text → nth n text ≡ []
nth_past n text past h = search (rules, cases_lt, lines_whole, nil_from_length)

pub returns-in_default : goal.returns-in_default
returns-in_default c = search (rules, nth_past)

pub loop-before-preserved : goal.loop-before-preserved
loop-before-preserved c = search (rules, nth_later)

pub returns-in-Some-split_once : goal.returns-in-Some-split_once
returns-in-Some-split_once c = grind (arith, common_steps, nth_first, nth)

pub returns-in-None : goal.returns-in-None
returns-in-None c = grind (arith, common_steps, nth_only, nth)
