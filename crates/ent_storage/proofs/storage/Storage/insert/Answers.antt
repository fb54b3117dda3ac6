use Rattle.ent_storage.proofs.Common.{with_items, fin_get, is_some, ap, ◌∙◌, EntityMap}
use Rattle.ent_storage.proofs.KeptIndex.{all_counted, kept_same, same_with}
use Rattle.ent_storage.proofs.storage.Storage.insert.Goals as goal

pub invariant_of-self-2 : goal.invariant_of-self-2
invariant_of-self-2 c = kept_same _ _ _ c.self.invariant _ _ _ c.insert_at.ensures.places
    (λ h. ap (λ (m : EntityMap). is_some (fin_get m h)) c.in_ok-insert_at.ensures.ok
    ∙ same_with _ _ (λ held. with_items held c.args.items.now) h)
    (all_counted _ _ _ c.self.invariant) c.self.invariant.fits
