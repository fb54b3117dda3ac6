use Rattle.ent_storage.proofs.Common.{ap, ◌∙◌, map, IsPermutation-trans, IfOk-weaker, IsInOrder}
use Rattle.ent_storage.proofs.order.handles_in_order.Goals as goal

-- a sort by birth and then by handle, and then the handles alone
pub returns-clause-ok : goal.returns-clause-ok
returns-clause-ok c =
    IfOk-weaker _ _ (λ handles. IsInOrder c.args.births.items handles.items) (λ handles is. record {
      sorted = c.sort_unstable.new.self.items;
      permutation =
          IsPermutation-trans _ _ _ c.sort_births.ensures c.sort_unstable.ensures.permutation;
      in_order = c.sort_unstable.ensures.sorted;
      are = is ∙ ap (map (λ born. born.1)) c.deref-2.ensures.value;
    }) c.handles-2.ensures.ok
