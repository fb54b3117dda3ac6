use Rattle.ent_storage.proofs.Common.{◌∙◌, ap, is_some, slice_get, sym, fin_get, Store}
use Rattle.ent_storage.proofs.KeptIndex.{counts_at, known, place_of}
use Rattle.ent_storage.proofs.storage.Storage.place.Goals as goal

pub returns-clause-at : goal.returns-clause-at
returns-clause-at c i =
    let same = ap (λ (s : Store). slice_get s.places i) c.self.view_is in (
      λ is. sym same ∙ place_of _ _ _ c.self.invariant c.args.handle i (sym c.place.ensures ∙ is),
      λ at. c.place.ensures ∙ counts_at _ _ _ c.self.invariant c.args.handle i (same ∙ at),
    )

-- it has a place if it is in the map
pub returns-clause-there : goal.returns-clause-there
returns-clause-there c = ap is_some c.place.ensures
    ∙ known _ _ _ c.self.invariant c.args.handle
    ∙ ap (λ (s : Store). is_some (fin_get s.entities c.args.handle)) c.self.view_is
