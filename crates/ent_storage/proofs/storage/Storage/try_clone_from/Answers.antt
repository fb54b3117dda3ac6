use Rattle.ent_storage.proofs.Common.{◌<◌, ◌+◌, ◌⊎◌, length, ap, sym, subst, arith, inl, inr, Store}
use Rattle.ent_storage.proofs.Common.{AreBare, EntityMap, fin_get, is_some}
use Rattle.ent_storage.proofs.KeptIndex.{kept_same}
use Rattle.ent_storage.proofs.Missing.{on_err}
use Rattle.ent_storage.proofs.storage.Storage.try_clone_from.Goals as goal

pub invariant_of-self-2 : goal.invariant_of-self-2
invariant_of-self-2 c =
    let same = c.in_ok-clone_within.ensures in
    kept_same _ _ _ c.source.invariant _ _ _ same.places
    (λ h. ap (λ (m : EntityMap). is_some (fin_get m h)) same.entities)
    (rw same.places at c.take_over.ensures.kept)
    (omega (
      arith,
      c.source.invariant.fits,
      c.min-count.ensures,
      c.capacity.ensures,
      c.room.ensures,
      c.in_ok-reserve_or_more.ensures.ok,
      c.take_over.ensures.room,
    ))

-- memory was refused for more room, or for a value of the source
pub returns-in_err-clone_within-clause-memory : goal.returns-in_err-clone_within-clause-memory
returns-in_err-clone_within-clause-memory c =
    on_err
    {P =
    (length c.args.self.now.places + c.args.self.now.spare < length c.args.source.now.places
    + c.args.source.now.spare) ⊎ (AreBare c.args.source.now.entities → ⊥)} _
    (elim c.in_err-clone_within.ensures.memory [
      | inl full ↦ inl
          (omega (
            arith,
            full,
            c.source.invariant.fits,
            c.min-count.ensures,
            c.capacity.ensures,
            c.room.ensures,
            ap (λ (s : Store). length s.places) c.self.view_is,
            ap (λ (s : Store). s.spare) c.self.view_is,
            ap (λ (s : Store). length s.places) c.source.view_is,
            ap (λ (s : Store). s.spare) c.source.view_is,
          ))
      | inr some ↦ inr
          (λ bare. some (subst AreBare (sym (ap (λ (s : Store). s.entities) c.source.view_is)) bare))
    ])
