use Rattle.ent_alloc.proofs.Common.{rules}
use Rattle.ent_alloc.proofs.Soundness.{opening-sound}
use Rattle.ent_alloc.proofs.Meaning.{opening_is}
use Rattle.ent_alloc.proofs.Flushes.{no_rows}
use Rattle.ent_alloc.proofs.Runs.{run-spent}
use Rattle.ent_alloc.proofs.entities.Entities.new.Goals as goal

pub invariant_of-result : goal.invariant_of-result
invariant_of-result c = search (rules, opening_is, opening-sound, no_rows)

pub returns-clause-rows_of_living : goal.returns-clause-rows_of_living
returns-clause-rows_of_living c = (invariant_of-result c).rows

pub returns-clause-given_once : goal.returns-clause-given_once
returns-clause-given_once c steps run = run-spent _ (invariant_of-result c).sound steps run
