use Rattle.ent_storage.proofs.Common.{◌<◌, ◌+◌, ◌∙◌, Store, ap, arith, false≢true, length, sym}
use Rattle.ent_storage.proofs.KeptIndex.{empty_places, some_places}
use Rattle.ent_storage.proofs.Missing.{on_err}
use Rattle.ent_storage.proofs.storage.Storage.try_clone.Goals.{else-is_empty-via-then-is_empty+else-spare-eq0}
use Rattle.ent_storage.proofs.storage.Storage.try_clone.Goals.{else-is_empty-via-else-is_empty}
use Rattle.ent_storage.proofs.storage.Storage.try_clone.Goals as goal

pub returns-then-spare-eq0-clause-places : goal.returns-then-spare-eq0-clause-places
returns-then-spare-eq0-clause-places c =
    let none = ap (λ (s : Store). s.entities) c.self.view_is
    ∙ c.is_empty.ensures.0 c.if-is_empty.true in
    c.new.ensures.places ∙ sym (empty_places _ _ _ c.self.invariant none)
    ∙ ap (λ (s : Store). s.places) c.self.view_is

-- there is an entity, or room
pub returns-in_err-try_clone-clause-memory : goal.returns-in_err-try_clone-clause-memory
returns-in_err-try_clone-clause-memory c = on_err
    {P = 0 < length c.args.self.now.places + c.args.self.now.spare} _ (elim c.else-is_empty.branch [
      | else-is_empty-via-then-is_empty+else-spare-eq0 w ↦
          omega (arith, w.spare.ensures, w.if-spare-eq0.false)
      | else-is_empty-via-else-is_empty w ↦
          let some = some_places _ _ _ c.self.invariant
          (λ none. false≢true (sym w.if-is_empty.false ∙ c.is_empty.ensures.1
          (sym (ap (λ (s : Store). s.entities) c.self.view_is) ∙ none))) in
          omega (arith, some, ap (λ (s : Store). length s.places) c.self.view_is)
    ])
