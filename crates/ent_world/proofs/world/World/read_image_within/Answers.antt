use Rattle.std.proofs.Common.{IfOk, IfErr, subst}
use Rattle.ent_world.proofs.Common.{◌≡◌, ◌≢◌, ◌⊎◌, ◌≤◌, Err, refl, sym, length, HasImage, image}
use Rattle.ent_world.proofs.Common.{least, MayTakeMemory, Memory}
use Rattle.ent_world.specs.FirstFault.{HasFault}
use Rattle.ent_alloc.specs.Within.{slots_after_flush}
use Rattle.ent_world.specs.Within.{within, IsBeyond}
use Rattle.ent_world.proofs.Within.{allowed-ok, allowed-few, allowed-memory, allowed-exact}
use Rattle.ent_world.proofs.Within.{allowed-fault, both}
use Rattle.ent_world.proofs.world.World.read_image_within.Goals as goal

pub returns-clause-found : goal.returns-clause-found
returns-clause-found c =
    subst (λ r. IfOk r (λ w. image w ≡ c.args.bytes.now)) (sym c.allowed.ensures)
    (allowed-ok (λ w. w.allocator) c.args.most _ c.read_image.result c.read_image.ensures.found)

pub returns-clause-has_image : goal.returns-clause-has_image
returns-clause-has_image c = subst (λ r. IfOk r HasImage) (sym c.allowed.ensures)
    (allowed-ok (λ w. w.allocator) c.args.most _ c.read_image.result c.read_image.ensures.has_image)

pub returns-clause-within : goal.returns-clause-within
returns-clause-within c = subst (λ r. IfOk r (λ w. slots_after_flush w.allocator ≤ c.args.most))
    (sym c.allowed.ensures) (allowed-few (λ w. w.allocator) c.args.most c.read_image.result)

pub returns-clause-exact : goal.returns-clause-exact
returns-clause-exact c w has is =
    subst (λ r. (r ≡ within c.args.most w.allocator w) ⊎ (r ≡ Err Memory)) (sym c.allowed.ensures)
    (allowed-exact (λ w. w.allocator) c.args.most c.read_image.result w
    (c.read_image.ensures.exact w has is))

pub returns-clause-fault : goal.returns-clause-fault
returns-clause-fault c =
    subst
    (λ r.
    IfErr r (λ fault. fault ≢ Memory
    → HasFault c.args.bytes.now fault
    ⊎ IsBeyond c.args.bytes.now c.args.most fault)) (sym c.allowed.ensures) (allowed-fault (λ w.
    w.allocator) c.args.most (HasFault c.args.bytes.now) (λ w. HasImage w
    × (image w ≡ c.args.bytes.now)) (IsBeyond c.args.bytes.now c.args.most) c.read_image.result
    (both _ _ c.read_image.result c.read_image.ensures.has_image c.read_image.ensures.found)
    (λ w is more. (w, is.0, is.1, more, refl)) c.read_image.ensures.fault)

pub returns-clause-memory : goal.returns-clause-memory
returns-clause-memory c =
    subst (λ r. IfErr r (λ fault. fault ≡ Memory → MayTakeMemory c.args.bytes.now))
    (sym c.allowed.ensures)
    (allowed-memory (λ w. w.allocator) c.args.most _ c.read_image.result
    c.read_image.ensures.memory)

pub returns-clause-bound : goal.returns-clause-bound
returns-clause-bound c =
    subst (λ r. IfOk r (λ w. least w ≤ length c.args.bytes.now)) (sym c.allowed.ensures)
    (allowed-ok (λ w. w.allocator) c.args.most _ c.read_image.result c.read_image.ensures.bound)
