use Rattle.ent_storage.proofs.Common.{rules, arith}
use Rattle.ent_storage.proofs.InUse.{passed_more, passed_all}
use Rattle.ent_storage.proofs.columns.swap_remove.Goals as goal

pub loop-number-preserved : goal.loop-number-preserved
loop-number-preserved c = record {
  passed =
      passed_more _ _ _ _ _ _ _ _ c.requires.in_use.rising (omega arith) (omega arith)
      c.index-columns-number.is
      c.swap_remove.ensures c.loop-number.invariant.passed;
  len = search rules;
}

pub returns-clause-moved : goal.returns-clause-moved
returns-clause-moved c = search (rules, passed_all)
