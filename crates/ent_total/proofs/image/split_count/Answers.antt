use Rattle.ent_total.proofs.Common.{◌≡◌, ◌∙◌, ◌++◌, [], sym, arith, take-append-drop, append-nil}
use Rattle.ent_total.proofs.Common.{nil_from_length, word}
use Rattle.ent_total.proofs.image.split_count.Goals as goal

pub returns : goal.returns
returns c =
    let left = c.read_word-spawned.result.1.now in
    let none : left
    ≡ [] =
    nil_from_length left
    (omega (arith, c.read_word-spawned.ensures.len, c.split_at.ensures.back_len)) in
    sym (take-append-drop _ c.args.bytes.now) ∙ (λ i. sym c.split_at.ensures.front i
    ++ (sym c.split_at.ensures.back ∙ c.read_word-spawned.ensures.bytes
    ∙ (λ j. word c.read_word-spawned.result.0 ++ none j)
    ∙ append-nil (word c.read_word-spawned.result.0)) i)
