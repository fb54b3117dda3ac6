use Rattle.std.proofs.Common.{IfOk, IfErr}
use Rattle.ent_total.proofs.Common.{◌≡◌, ◌≢◌, ◌⊎◌, ◌+◌, ◌≤◌, refl, Err, sym, subst, length}
use Rattle.ent_total.proofs.Common.{before_count, least, HasFault, MayTakeMemory}
use Rattle.ent_total.proofs.Common.{Memory}
use Rattle.ent_alloc.specs.Within.{slots_after_flush}
use Rattle.ent_world.specs.Within.{within}
use Rattle.ent_total.specs.Image.{IsBeyond, IsReadFrom}
use Rattle.ent_world.proofs.Within.{allowed-ok, allowed-few, allowed-memory, allowed-exact}
use Rattle.ent_world.proofs.Within.{allowed-fault}
use Rattle.ent_total.proofs.ImageEnd.{of, allocator_in}
use Rattle.ent_total.proofs.image.read_world_within.Goals as goal

pub returns-clause-found : goal.returns-clause-found
returns-clause-found c =
    subst (λ r. IfOk r (IsReadFrom c.args.bytes.now c.args.number)) (sym c.allowed.ensures)
    (allowed-ok allocator_in c.args.most _ c.read_world.result c.read_world.ensures.found)

pub returns-clause-within : goal.returns-clause-within
returns-clause-within c =
    subst (λ r. IfOk r (λ w. slots_after_flush w.world.allocator ≤ c.args.most))
    (sym c.allowed.ensures) (allowed-few allocator_in c.args.most c.read_world.result)

pub returns-clause-exact : goal.returns-clause-exact
returns-clause-exact c w spawned has fits is =
    subst
    (λ r. (r ≡ within c.args.most w.allocator (of w c.args.number spawned)) ⊎ (r ≡ Err Memory))
    (sym c.allowed.ensures)
    (allowed-exact allocator_in c.args.most c.read_world.result (of w c.args.number spawned)
    (c.read_world.ensures.exact w spawned has fits is))

pub returns-clause-fault : goal.returns-clause-fault
returns-clause-fault c =
    subst
    (λ r.
    IfErr r (λ fault. fault ≢ Memory
    → HasFault (before_count c.args.bytes.now) fault
    ⊎ IsBeyond c.args.bytes.now c.args.most fault)) (sym c.allowed.ensures) (allowed-fault
    allocator_in c.args.most (HasFault (before_count c.args.bytes.now))
    (IsReadFrom c.args.bytes.now c.args.number) (IsBeyond c.args.bytes.now c.args.most)
    c.read_world.result c.read_world.ensures.found
    (λ w is more. (w.world, w.spawned, is.has_image, is.image_is, more, refl))
    c.read_world.ensures.fault)

pub returns-clause-memory : goal.returns-clause-memory
returns-clause-memory c =
    subst (λ r. IfErr r (λ fault. fault ≡ Memory → MayTakeMemory (before_count c.args.bytes.now)))
    (sym c.allowed.ensures)
    (allowed-memory allocator_in c.args.most _ c.read_world.result c.read_world.ensures.memory)

pub returns-clause-bound : goal.returns-clause-bound
returns-clause-bound c =
    subst (λ r. IfOk r (λ w. least w.world + 4 ≤ length c.args.bytes.now)) (sym c.allowed.ensures)
    (allowed-ok allocator_in c.args.most _ c.read_world.result c.read_world.ensures.bound)
