use Rattle.ent_storage.proofs.Common.{◌≡◌, T, drop, is_sorted, component_cmp, with_put, bundle_of}
use Rattle.ent_storage.proofs.bundle.Bundle.of.Given as goal

abbrev pub invariant-loop-id : goal.invariant-loop-id
invariant-loop-id g l = record {
  rising : T (is_sorted component_cmp l.bundle);
  left : with_put l.bundle (drop l.id-index l.items) ≡ bundle_of l.items;
}
