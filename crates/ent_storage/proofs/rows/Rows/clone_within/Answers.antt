use Rattle.ent_storage.proofs.Common.{◌<◌, ◌+◌, ◌⊎◌, length, ap, sym, subst, arith, inl}
use Rattle.ent_storage.proofs.Common.{inr, length-map, Store, AreBare, LivingEntity}
use Rattle.ent_storage.proofs.Copied.{bare_list}
use Rattle.ent_storage.proofs.Missing.{on_err}
use Rattle.ent_storage.proofs.rows.Rows.clone_within.Goals as goal

-- what is left after an `Err` has the same residents
pub invariant_of-self : goal.invariant_of-self
invariant_of-self c = rw c.in_err-try_clone_from.ensures.err (record {
  index = c.self.invariant.index;
  indexed = c.self.invariant.indexed;
  fits = omega (arith, c.self.invariant.fits, c.try_clone_from.ensures.grows);
})

pub invariant_of-self-2 : goal.invariant_of-self-2
invariant_of-self-2 c =
    let entities = c.in_ok-try_clone_from.ensures.entities in
    rw entities (record {
      index = c.source.invariant.index;
      indexed = c.source.invariant.indexed;
      fits =
          omega (
            arith,
            c.requires,
            ap (λ (s : Store). length s.places) c.source.view_is,
            length-map c.source.inside.living.entities (λ (e : LivingEntity). e.handle),
            c.in_ok-try_clone_from.ensures.room,
          );
    })

-- memory was refused for more room, or for a value of the source
pub returns-in_err-try_clone_from-clause-memory : goal.returns-in_err-try_clone_from-clause-memory
returns-in_err-try_clone_from-clause-memory c =
    let own = c.self.inside.living.entities in
    let others = c.source.inside.living.entities in
    on_err
    {P = (length c.args.self.now.places + c.args.self.now.spare < c.args.count)
    ⊎ (AreBare c.args.source.now.entities → ⊥)} _
    (elim c.in_err-try_clone_from.ensures.memory [
      | inl full ↦ inl
          (omega (
            arith,
            ap (λ (s : Store). length s.places) c.self.view_is,
            ap (λ (s : Store). s.spare) c.self.view_is,
            length-map own (λ (e : LivingEntity). e.handle),
          ))
      | inr some ↦ inr
          (λ bare. some (bare_list others c.source.invariant.index
          c.source.invariant.indexed
          (subst AreBare (sym (ap (λ (s : Store). s.entities) c.source.view_is)) bare)))
    ])
