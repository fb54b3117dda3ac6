use Rattle.ent_storage.proofs.Common.{refl, ap, ◌∙◌, MayWrite, entry_value_in}
use Rattle.ent_storage.proofs.sparse_map.entry.Entry.and_modify.Goals as goal

pub returns-in-Occupied-clause-value : goal.returns-in-Occupied-clause-value
returns-in-Occupied-clause-value g c =
    let old = ap entry_value_in c.in-Occupied.is ∙ c.get_mut.ensures.value in
    let did : MayWrite g.F.FnOnce c.args.change c.get_mut.result.now c.change.new.arg2 = record {
      lent = c.get_mut.result;
      result = c.change.result;
      left = _;
      before = refl;
      met = c.change.ensures;
      after = refl;
    } in
    rw (old, (c.get_mut.ensures.written c.change.new.arg2).written) did
