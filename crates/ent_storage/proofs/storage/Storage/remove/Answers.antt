use Rattle.ent_storage.proofs.Common.{fin_remove, fin_get, is_some, ap, ◌∙◌, EntityMap}
use Rattle.ent_storage.proofs.KeptIndex.{all_counted, kept_same, same_with}
use Rattle.ent_storage.proofs.storage.Storage.remove.Goals as goal

pub invariant_of-self : goal.invariant_of-self
invariant_of-self c = kept_same _ _ _ c.self.invariant _ _ _ c.remove_at.ensures.places
    (λ h. ap (λ (m : EntityMap). is_some (fin_get m h)) c.remove_at.ensures.entities
    ∙ same_with _ _ (λ held. fin_remove held c.args.id) h)
    (all_counted _ _ _ c.self.invariant) c.self.invariant.fits
