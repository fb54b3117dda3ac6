use Rattle.tracecheck.proofs.Common.{rules, append_assoc}
use Rattle.tracecheck.proofs.verdict.agrees_text.Goals as goal

pub returns : goal.returns
returns c = search (rules, c.in_ok-text.ensures.ok, c.into_bytes.ensures.value, append_assoc)
