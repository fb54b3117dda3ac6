use Rattle.ent_runner.proofs.Common.{◌≡◌, first_error}
use Rattle.ent_runner.proofs.crew.first_error.Given as goal

-- none so far has returned one
abbrev pub invariant-loop-made : goal.invariant-loop-made
invariant-loop-made g l = first_error l.made-iterator.rest.items ≡ first_error l.fn.by_number.items
