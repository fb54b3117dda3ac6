use Rattle.std.specs.Result.{OnOk}
use Rattle.ent_alloc.proofs.Common.{◌≡◌, ◌≢◌, ◌⊎◌, ◌+◌, ◌<◌, ◌≤◌, Ok, Err, None, Some, sym, subst}
use Rattle.ent_alloc.proofs.Common.{length, IfOk, IfErr, Memory, HasImage, image, kept_bytes}
use Rattle.ent_alloc.proofs.Common.{first_fault, header_fault, slots_after_flush, within, IsBeyond}
use Rattle.ent_alloc.proofs.Within.{allowed-ok, allowed-on_ok, allowed-few, allowed-memory}
use Rattle.ent_alloc.proofs.Within.{allowed-exact, allowed-fault}
use Rattle.ent_alloc.proofs.entities.Entities.read_image_within.Goals as goal

pub returns-clause-found : goal.returns-clause-found
returns-clause-found c =
    subst (λ r. IfOk r (λ e. image e ≡ c.args.bytes.now)) (sym c.allowed.ensures)
    (allowed-ok c.args.most _ c.read_image.result c.read_image.ensures.found)

pub returns-clause-has_image : goal.returns-clause-has_image
returns-clause-has_image c = subst (λ r. IfOk r HasImage) (sym c.allowed.ensures)
    (allowed-ok c.args.most _ c.read_image.result c.read_image.ensures.has_image)

pub returns-clause-within : goal.returns-clause-within
returns-clause-within c = subst (λ r. IfOk r (λ e. slots_after_flush e.allocator ≤ c.args.most))
    (sym c.allowed.ensures) (allowed-few c.args.most c.read_image.result)

pub returns-clause-exact : goal.returns-clause-exact
returns-clause-exact c e has is =
    subst (λ r. (r ≡ within c.args.most e) ⊎ (r ≡ Err Memory)) (sym c.allowed.ensures)
    (allowed-exact c.args.most c.read_image.result e (c.read_image.ensures.exact e has is))

pub returns-clause-fault : goal.returns-clause-fault
returns-clause-fault c =
    subst
    (λ r.
    IfErr r (λ fault. fault ≢ Memory
    → (first_fault c.args.bytes.now ≡ Some fault)
    ⊎ IsBeyond c.args.bytes.now c.args.most fault)) (sym c.allowed.ensures) (allowed-fault
    c.args.most c.args.bytes.now (λ fault. first_fault c.args.bytes.now ≡ Some fault)
    c.read_image.result c.read_image.ensures.found c.read_image.ensures.has_image
    c.read_image.ensures.fault)

pub returns-clause-faultless : goal.returns-clause-faultless
returns-clause-faultless c =
    subst (λ r. OnOk r (first_fault c.args.bytes.now ≡ None)) (sym c.allowed.ensures)
    (allowed-on_ok c.args.most _ c.read_image.result c.read_image.ensures.faultless)

pub returns-clause-memory : goal.returns-clause-memory
returns-clause-memory c =
    subst (λ r. IfErr r (λ fault. fault ≡ Memory → header_fault c.args.bytes.now ≡ None))
    (sym c.allowed.ensures)
    (allowed-memory c.args.most _ c.read_image.result c.read_image.ensures.memory)

pub returns-clause-slots : goal.returns-clause-slots
returns-clause-slots c =
    subst (λ r. IfErr r (λ fault. fault ≡ Memory → 40 < length c.args.bytes.now))
    (sym c.allowed.ensures)
    (allowed-memory c.args.most _ c.read_image.result c.read_image.ensures.slots)

pub returns-clause-bound : goal.returns-clause-bound
returns-clause-bound c =
    subst (λ r. IfOk r (λ e. 40 + kept_bytes e.allocator ≤ length c.args.bytes.now))
    (sym c.allowed.ensures)
    (allowed-ok c.args.most _ c.read_image.result c.read_image.ensures.bound)
