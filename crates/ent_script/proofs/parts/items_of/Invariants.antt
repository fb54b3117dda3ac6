use Rattle.ent_script.proofs.Common.{◌≡◌, map, items_of, bundle_by}
use Rattle.ent_script.proofs.Values.{onto, leaf_view}
use Rattle.ent_script.proofs.parts.items_of.Given as goal

abbrev pub invariant-loop-key : goal.invariant-loop-key
invariant-loop-key l = record {
  can : (goal.iterator-loop-key).can_next l.key-iterator;
  finite : (goal.iterator-loop-key).is_finite l.key-iterator;
  rest : onto l.bundle (items_of l.components (map leaf_view l.key-iterator))
      ≡ bundle_by l.components (map leaf_view l.members.entries);
}
