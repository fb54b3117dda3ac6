use Rattle.ent_alloc.proofs.Common.{rules, ◌≡◌, ℕ, ◌-◌, ◌<◌, [], length, Result, Ok, Err, ap, ◌∙◌}
use Rattle.ent_alloc.proofs.Common.{IsErrAnd, IsErrOf, nil_from_length, Handle, AllocFault, Roster}
use Rattle.ent_alloc.specs.declared.fault.AllocFault.TheVariants.{Memory, Space}
use Rattle.ent_alloc.proofs.Meaning.{allocator_is, IsAtRest, at_rest}
use Rattle.ent_alloc.proofs.MeaningOfSteps.{IsGiven, made_roster, length_pool, reused_given}
use Rattle.ent_alloc.proofs.MeaningOfSteps.{made_given}
use Rattle.ent_alloc.proofs.OneReply.{first_within}
use Rattle.ent_alloc.proofs.entities.Entities.alloc.Goals.{Else-needs_flush, Then-room-gt0, In-Some}
use Rattle.ent_alloc.proofs.entities.Entities.alloc.Goals.{In_ok-make_one}
use Rattle.ent_alloc.proofs.entities.Entities.alloc.Goals as goal

-- nothing is reserved
rest : (c : Else-needs_flush)
    → IsAtRest c.self.inside.slots c.self.inside.requests c.args.self.now.allocator
rest c = search (rules, at_rest, allocator_is)

-- the room is that of the slots, since no slot waited and so nothing has changed
room_is : (r old : Roster) (room : ℕ) → old ≡ r → room ≡ old.limits.slots - old.made
    → room ≡ r.limits.slots - r.made
room_is r old room same is = is ∙ ap (λ (x : Roster). x.limits.slots - x.made) same

some_room : (c : Then-room-gt0) → c.self.inside.slots.made < c.self.inside.slots.limits.slots
some_room c = search (rules, room_is)

-- so some handle can be given
none_left : (c : Then-room-gt0)
    → IsAtRest c.self.inside.slots c.self.inside.requests c.args.self.now.allocator
    → c.args.self.now.allocator.pool ≡ [] → ⊥
none_left c rest none = search (rules, some_room, length_pool, rest)

-- the slot that waits last gives its next handle
reused : (c : In-Some)
    → IsGiven c.self.inside.requests c.args.self.now.allocator c.in-Some.handle
    c.reuse_last.new.self
reused c =
    reused_given _ _ _ (search (rules, at_rest, allocator_is)) _ c.in-Some.ensures.last _
    c.in-Some.ensures.some

-- no slot waits, and one is made
made : (c : In_ok-make_one)
    → IsGiven c.self.inside.requests c.args.self.now.allocator c.in_ok-make_one.field-0
    c.make_one.new.self
made c =
    let h = c.in_ok-make_one.field-0 in
    made_given c.self.inside.slots _ _ (search (rules, at_rest, allocator_is)) h
    (ap length c.in_default.ensures.none)
    (search (rules, room_is)) (search (rules, c.in_ok-make_one.ensures.first)) c.make_one.new.self
    (c.in_ok-make_one.ensures.ok ∙ ap (λ (x : Roster). made_roster x h)
    c.in_default.ensures.unchanged)

-- lack of memory is no lack of slots
not_space : (result : Result Handle AllocFault) → IsErrAnd result (λ e. e ≡ Memory)
    → IsErrOf result Space → ⊥
not_space (Ok h) is same = is
not_space (Err e) is same = cc

pub invariant_of-self : goal.invariant_of-self
invariant_of-self c = (reused (goal.at.invariant_of-self c).In-Some).stands.reserved

pub invariant_of-self-then-room-gt0 : goal.invariant_of-self-then-room-gt0
invariant_of-self-then-room-gt0 c =
    (made (goal.at.invariant_of-self-then-room-gt0 c).In_ok-make_one).stands.reserved

pub returns-in-Some : goal.returns-in-Some
returns-in-Some c =
    let given = reused (goal.at.returns-in-Some c).In-Some in
    search (rules, given, rest, first_within)

pub returns-in_ok-make_one : goal.returns-in_ok-make_one
returns-in_ok-make_one c =
    let given = made (goal.at.returns-in_ok-make_one c).In_ok-make_one in
    search (rules, given, rest, none_left, first_within)

pub returns-in_err-make_one-clause-space : goal.returns-in_err-make_one-clause-space
returns-in_err-make_one-clause-space c = search (rules, not_space, none_left, rest)

pub returns-else-room-gt0-clause-space : goal.returns-else-room-gt0-clause-space
returns-else-room-gt0-clause-space c = search (rules, room_is, length_pool, nil_from_length)
