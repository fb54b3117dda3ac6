use Rattle.std.proofs.Common.{◌∙◌, ap, length}
use Rattle.std.proofs.lemmas.Iterator.{items_from_collect}
use Rattle.std.proofs.lemmas.Iterator.Adapters.{YieldsList-from_vec}
use Rattle.std.specs.Vec.Iter.{into_iter_items}
use Rattle.cli.specs.Words.{after_name}
use Rattle.cli.proofs.Naming.{after_next}
use Rattle.cli.proofs.words.words_after_name.Goals as goal

pub returns : goal.returns
returns c =
    let left = c.next-name.new.self in
    let next = after_next c.args.words left c.next-name.result c.next-name.ensures.cases in
    items_from_collect c.collect.result c.collect.ensures.ran
    (YieldsList-from_vec (after_name (into_iter_items c.args.words)) next
    (left.rest.ok.0 ∙ ap length next))
