use Rattle.ent_replay.proofs.Common.{rules, ◌≡◌, ℕ, List, ◌++◌, Result, ap, ◌∙◌, OnOk, append_assoc}
use Rattle.ent_replay.proofs.trace.writing.put_difference.Goals as goal

-- six parts, one after the other
parts : (o a b c d e f x1 x2 x3 x4 x5 x6 : List ℕ) → x1 ≡ o ++ a → x2 ≡ x1 ++ b → x3 ≡ x2 ++ c
    → x4 ≡ x3 ++ d → x5 ≡ x4 ++ e → x6 ≡ x5 ++ f → x6 ≡ o ++ (a ++ b ++ c ++ d ++ e ++ f)
parts o a b c d e f x1 x2 x3 x4 x5 x6 first second third fourth fifth sixth =
    let is : x6 ≡ o ++ a ++ b ++ c ++ d ++ e ++ f = cc in is ∙ simp append_assoc

on_ok : {X E : Type 0} (r : Result X E) (P Q : Type 0) → (P → Q) → OnOk r P → OnOk r Q
on_ok it P Q each h = search rules

pub returns : goal.returns
returns c =
    let number = c.as_bytes.ensures.value ∙ c.format.ensures.text in
    record {
      ok = on_ok c.put_answer.result _ _ (parts _ _ _ _ _ _ _ _ _ _ _ _ _ c.in_ok-append.ensures.ok
          (c.in_ok-append-2.ensures.ok ∙ ap (λ (b : List ℕ). c.append.new.out.items ++ b) number)
          c.in_ok-append-3.ensures.ok c.in_ok-put_line.ensures.ok c.in_ok-append-4.ensures.ok)
          c.put_answer.ensures.ok;
    }
