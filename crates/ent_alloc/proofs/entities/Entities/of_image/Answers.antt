use Rattle.ent_alloc.proofs.Common.{rules, ◌≡◌, ◌+◌, ◌-◌, ◌*◌, length, ◌∙◌, subst, arith}
use Rattle.ent_alloc.proofs.Common.{false≢true, Entities, header, image, HasImage, slots_bytes}
use Rattle.ent_alloc.proofs.Common.{roster, AreServed, Header, first_fault, first_failing}
use Rattle.ent_alloc.proofs.Common.{slots_tests}
use Rattle.ent_alloc.proofs.ImageSound.{roster_slots}
use Rattle.ent_alloc.proofs.ImageOf.{told, served, few_wait, length-slots_bytes, reserved_are}
use Rattle.ent_alloc.proofs.ImageOf.{has_image, image_is, numbers, top_as, handed_on}
use Rattle.ent_alloc.proofs.ImageFront.{limits_fault, no_header_fault, counts_fault, requests_fault}
use Rattle.ent_alloc.proofs.ImageFront.{whole_length_fault, to_slots, long_is}
use Rattle.ent_alloc.proofs.entities.Entities.of_image.Goals.{In_ok-header, In-Some-requests_of}
use Rattle.ent_alloc.proofs.entities.Entities.of_image.Goals.{In_ok-slots}
use Rattle.ent_alloc.proofs.entities.Entities.of_image.Goals as goal

-- what the bytes tell of an allocator whose image they are
told_of : (c : In_ok-header) (e : Entities) → HasImage e → image e ≡ c.args.bytes.now
    → (header e ≡ c.in_ok-header.header) × (slots_bytes (roster e) ≡ c.in_ok-header.slots.now)
told_of c e has same = search (rules, told)

pub returns-in_default-clause-refused : goal.returns-in_default-clause-refused
returns-in_default-clause-refused c not_memory e has same =
    search (rules, told, told_of, false≢true)

pub returns-then-header-clause-refused : goal.returns-then-header-clause-refused
returns-then-header-clause-refused c not_memory e has same = search (rules, told, told_of, few_wait)

pub returns-in_default-requests_of-clause-refused :
    goal.returns-in_default-requests_of-clause-refused
returns-in_default-requests_of-clause-refused c not_memory e has same =
    let told =
    told_of (goal.at.returns-in_default-requests_of-clause-refused c).In_ok-header e has same in
    c.in_default-requests_of.ensures.none (subst (λ (h : Header). AreServed h.asked h.reserved
    (h.waiting + (h.slots - h.made))) told.0 (served e has))

pub returns-then-slots-bytes_of_slots-clause-refused :
    goal.returns-then-slots-bytes_of_slots-clause-refused
returns-then-slots-bytes_of_slots-clause-refused c not_memory e has same =
    search (rules, told, told_of, length-slots_bytes)

pub returns-in_err-slots-clause-refused : goal.returns-in_err-slots-clause-refused
returns-in_err-slots-clause-refused c =
    search (rules, handed_on, told, told_of, roster_slots, top_as)

-- what was read has the numbers of the header
numbers_are : (c : In_ok-slots) → numbers c.in_ok-slots.slots c.in-Some-requests_of.requests.asked
    c.in-Some-requests_of.requests.served ≡ c.in_ok-header.header
numbers_are c = search rules

-- the requests are ones that may have been made of the slots
are_served : (c : In_ok-slots)
    → AreServed c.in-Some-requests_of.requests.asked c.in-Some-requests_of.requests.served
    (length c.in_ok-slots.slots.pending
    + (c.in_ok-slots.slots.limits.slots - c.in_ok-slots.slots.made))
are_served c = search (rules, numbers_are)

pub invariant_of-result : goal.invariant_of-result
invariant_of-result c = search (rules, reserved_are, are_served)

-- ---- the first fault

-- where the requests may have been made, what is left if the length is that of the slots
to_slots_of : (c : In-Some-requests_of)
    → length c.in_ok-header.slots.now ≡ 12 * c.in_ok-header.header.made
    → first_fault c.args.bytes.now
    ≡ first_failing
    (slots_tests c.in-Some.limits.generations c.in_ok-header.header.made
    c.in_ok-header.header.waiting c.in_ok-header.slots.now)
to_slots_of c whole =
    search (rules, to_slots c.args.bytes.now c.in_ok-header.header c.in_ok-header.slots.now)

pub returns-in_default-clause-fault : goal.returns-in_default-clause-fault
returns-in_default-clause-fault c not_memory =
    search (
      rules,
      limits_fault c.args.bytes.now c.in_ok-header.header c.in_ok-header.slots.now,
      false≢true,
    )

pub returns-then-header-clause-fault : goal.returns-then-header-clause-fault
returns-then-header-clause-fault c not_memory = search
    (rules, arith, counts_fault c.args.bytes.now c.in_ok-header.header c.in_ok-header.slots.now)

pub returns-in_default-requests_of-clause-fault : goal.returns-in_default-requests_of-clause-fault
returns-in_default-requests_of-clause-fault c not_memory = search
    (rules, requests_fault c.args.bytes.now c.in_ok-header.header c.in_ok-header.slots.now)

pub returns-then-slots-bytes_of_slots-clause-fault :
    goal.returns-then-slots-bytes_of_slots-clause-fault
returns-then-slots-bytes_of_slots-clause-fault c not_memory = search
    (rules, whole_length_fault c.args.bytes.now c.in_ok-header.header c.in_ok-header.slots.now)

-- and those of the slots
pub returns-in_err-slots-clause-fault : goal.returns-in_err-slots-clause-fault
returns-in_err-slots-clause-fault c =
    let whole : length c.in_ok-header.slots.now ≡ 12 * c.in_ok-header.header.made = search rules in
    handed_on c.from_residual-in_err-slots.result c.in_err-slots.field-0.0 _
    c.from_residual-in_err-slots.ensures.1 (λ not_memory. to_slots_of
    (goal.at.returns-in_err-slots-clause-fault c).In-Some-requests_of whole
    ∙ c.in_err-slots.ensures.fault not_memory)

pub returns : goal.returns
returns c =
    let whole : length c.in_ok-header.slots.now ≡ 12 * c.in_ok-header.header.made = search rules in
    let slots = to_slots_of (goal.at.returns c).In-Some-requests_of whole
    ∙ c.in_ok-slots.ensures.faultless in
    search (rules, slots, image_is, has_image, reserved_are, are_served, numbers_are)

-- ---- memory

pub returns-in_err-slots-clause-memory : goal.returns-in_err-slots-clause-memory
returns-in_err-slots-clause-memory c =
    search (
      rules,
      handed_on,
      no_header_fault c.args.bytes.now c.in_ok-header.header c.in_ok-header.slots.now,
    )

pub returns-in_err-slots-clause-slots : goal.returns-in_err-slots-clause-slots
returns-in_err-slots-clause-slots c =
    let header = c.in_ok-header.ensures in
    let long = long_is _ _ _ header.fits header.found header.faultless in
    handed_on c.from_residual-in_err-slots.result c.in_err-slots.field-0.0 _
    c.from_residual-in_err-slots.ensures.1
    (λ is. omega (arith, c.in_err-slots.ensures.memory is, long, c.if-slots-bytes_of_slots.false))
