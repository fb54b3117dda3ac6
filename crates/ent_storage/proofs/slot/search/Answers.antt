use Rattle.ent_storage.proofs.Common.{rules, answers_always, total}
use Rattle.ent_storage.proofs.Positions.{searched}
use Rattle.ent_storage.proofs.slot.search.Goals as goal

-- the closure gives a pair's handle
pub returns : goal.returns
returns c =
    let facts = c.binary_search_by_key.ensures in
    let by_key =
    facts.position (λ e. e.0) (answers_always _ _ _ (λ f a r g called. search rules)) in
    let place = searched total _ _ c.requires _ facts.bound by_key in
    record { found = place.found; absent = place.absent }
