use Rattle.ent_storage.proofs.Common.{rules}
use Rattle.ent_storage.proofs.Clones.{cloned_keys, cloned_counted}
use Rattle.ent_storage.proofs.handle_map.HandleMap.try_clone.Goals as goal

pub invariant_of-result : goal.invariant_of-result
invariant_of-result g c = cloned_counted g.T.Clone.is_clone _ _ _ (search rules) c.self.invariant

pub returns-clause-keys : goal.returns-clause-keys
returns-clause-keys g c = search (rules, cloned_keys g.T.Clone.is_clone)
