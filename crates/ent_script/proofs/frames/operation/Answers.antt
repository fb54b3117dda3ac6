use Rattle.ent_script.proofs.Common.{rules, operation_of}
use Rattle.ent_script.proofs.Keyed.{of_fields-means}
use Rattle.ent_script.proofs.frames.operation.Goals as goal

pub returns : goal.returns
unfolding operation_of
returns c ms at = search (rules, of_fields-means)
