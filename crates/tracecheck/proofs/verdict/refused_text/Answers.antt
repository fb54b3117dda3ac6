use Rattle.tracecheck.proofs.Common.{rules, append_assoc}
use Rattle.tracecheck.proofs.verdict.refused_text.Goals as goal

pub returns : goal.returns
returns c =
    let text = c.in_ok-text.ensures.ok in
    search (rules, c.into_bytes.ensures.value, c.text-word.ensures, append_assoc)
