use Rattle.std.proofs.Common.{◌≡◌, ◌++◌, [], None}
use Rattle.std.specs.Option.{option_to_list}
use Rattle.std.specs.Vec.Iter.{into_iter_items, into_iter_len}
use Rattle.ent_log.specs.Logs.{entries_of}
use Rattle.ent_log.proofs.rest.first_of.Given as goal

abbrev pub invariant-loop-entries : goal.invariant-loop-entries
invariant-loop-entries g l = record {
  same : into_iter_items l.fn.entries ++ entries_of (into_iter_items l.fn.logs)
      ≡ option_to_list l.next
      ++ (into_iter_items l.entries ++ entries_of (into_iter_items l.logs));
  none : l.next ≡ None → into_iter_items l.entries ≡ [];
}

abbrev pub decreases-loop-entries : goal.decreases-loop-entries
decreases-loop-entries g l = into_iter_len l.logs
