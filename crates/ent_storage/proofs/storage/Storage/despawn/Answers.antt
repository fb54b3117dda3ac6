use Rattle.ent_storage.proofs.Common.{◌≡◌, ◌<◌, ◌≤◌, ◌∙◌, Some, Store, ap, arith, length, refl}
use Rattle.ent_storage.proofs.Common.{slice_get, AreWithout, Handle}
use Rattle.ent_storage.proofs.Common.{Places, sym, none-some, same_Some, slice_get_within}
use Rattle.ent_storage.proofs.Common.{fin_insert}
use Rattle.ent_storage.proofs.KeptIndex.{kept_without, moves}
use Rattle.ent_storage.proofs.storage.Storage.despawn.Goals.{After-despawn_at}
use Rattle.ent_storage.proofs.storage.Storage.despawn.Goals.{in-Some-despawn_at}
use Rattle.ent_storage.proofs.storage.Storage.despawn.Goals.{in_default-despawn_at}
use Rattle.ent_storage.proofs.storage.Storage.despawn.Goals as goal

-- it was at its place
at : (c : After-despawn_at)
    → slice_get c.self.inside.rows.places c.in-Some.place ≡ Some c.args.handle
at c = ap (λ (s : Store). slice_get s.places c.in-Some.place) c.self.view_is
    ∙ (c.in-Some.ensures.at c.in-Some.place).0 refl

pub invariant_of-self : goal.invariant_of-self
invariant_of-self c =
    let taken = (goal.at.invariant_of-self c).After-despawn_at in
    let gone = c.despawn_at.ensures in
    let fewer : length c.despawn_at.new.self.places ≤ c.self.inside.index.room =
    omega (arith, gone.places.one_less, c.self.invariant.fits) in
    elim c.match-despawn_at.branch [
      | in-Some-despawn_at w ↦
          let moved : slice_get c.despawn_at.new.self.places c.in-Some.place
          ≡ Some w.in-Some-despawn_at.moved = sym gone.moved ∙ w.in-Some-despawn_at.is in
          let inside : c.in-Some.place < length c.despawn_at.new.self.places =
          slice_get_within _ _ _ moved in
          let put = w.set_place.ensures in
          rw w.self-inside-is
          (kept_without _ _ _ c.self.invariant _ _ (at taken)
          c.despawn_at.new.self gone.places gone.entities
          w.set_place.new.self.by_handle
          (λ m is. ap (λ (p : Places). p.by_handle) put ∙ ap
          (λ (moved : Handle). fin_insert c.self.inside.index.by_handle moved c.in-Some.place)
          (same_Some _ m (sym moved ∙ is)))
          (λ last. absurd (omega (arith, last, inside))) _ _
          (rw w.self-inside-is at c.forget.ensures.kept)
          (omega (
            arith,
            fewer,
            rw w.self-inside-is at c.forget.ensures.room,
            ap (λ (p : Places). p.room) put,
          )))
      | in_default-despawn_at w ↦
          rw w.self-inside-is
          (kept_without _ _ _ c.self.invariant _ _ (at taken)
          c.despawn_at.new.self gone.places gone.entities
          c.self.inside.index.by_handle
          (λ m is. absurd (none-some m (sym w.in_default-despawn_at.is ∙ gone.moved ∙ is)))
          (λ _. refl) _ _ (rw w.self-inside-is at c.forget.ensures.kept)
          (omega (arith, fewer, rw w.self-inside-is at c.forget.ensures.room)))
    ]

-- the index has what moves
pub set_place-requires-clause-there : goal.set_place-requires-clause-there
set_place-requires-clause-there c =
    moves _ _ _ c.self.invariant _ _ (at (goal.at.set_place-requires-clause-there c).After-despawn_at)
    c.despawn_at.new.self c.despawn_at.ensures.places c.despawn_at.ensures.entities _
    (sym c.despawn_at.ensures.moved ∙ c.in-Some-despawn_at.is)

-- it was taken out at its place
pub returns-clause-places : goal.returns-clause-places
returns-clause-places c =
    let at = (c.in-Some.ensures.at c.in-Some.place).0 refl in
    let without = rw (ap (λ (s : Store). s.places) c.self.view_is) at c.despawn_at.ensures.places in
    let now : AreWithout c.in-Some.place c.args.self.now.places
    c.match-despawn_at.self-inside.rows.places = elim c.match-despawn_at.branch [
      | in-Some-despawn_at w ↦ rw w.self-inside-is without
      | in_default-despawn_at w ↦ rw w.self-inside-is without
    ] in
    (c.in-Some.place, slice_get_within _ _ _ at, (at, now))
