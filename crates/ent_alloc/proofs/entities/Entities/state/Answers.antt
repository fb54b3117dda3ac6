use Rattle.ent_alloc.proofs.Common.{rules, ◌≡◌, ℕ, ◌-◌, ◌||◌, Bool, false, cond, length, drop}
use Rattle.ent_alloc.proofs.Common.{or-false, Handle, Reserved, Gone, Allocator, fresh, stands_in}
use Rattle.ent_alloc.proofs.Common.{state_of, Roster, allocator_of, AreReserved}
use Rattle.std.specs.FinSet as sets
use Rattle.ent_alloc.proofs.Looked.{fresh_no}
use Rattle.ent_alloc.proofs.Meaning.{allocator_is}
use Rattle.ent_alloc.proofs.MeaningOfSteps.{stands_in_taken}
use Rattle.ent_alloc.proofs.entities.Entities.state.Goals as goal
use Rattle.ent_alloc.proofs.entities.Entities.state.Goals.{Joined-occupancy_of}

-- the state of a handle that isn't alive, by the test whether it is reserved
told : (s : Allocator) (r : Roster) (asked given : ℕ) (h : Handle) → AreReserved r asked given
    → allocator_of r asked given ≡ s → (reserved : Bool) → sets.contains r.live h ≡ false
    → reserved ≡ (stands_in (drop (length r.pending - given) r.pending) h
    || stands_in (fresh r.made (given - length r.pending)) h) → {b : Bool} → reserved ≡ b
    → cond b Reserved Gone ≡ state_of s h
told s r asked given h inv view reserved dead is test = search (rules, stands_in_taken)

-- the test of the code, whichever branch made it
told_by : (c : Joined-occupancy_of) → {b : Bool} → c.match-occupancy_of.reserved ≡ b
    → cond b Reserved Gone ≡ state_of c.args.self.now.allocator c.args.handle
told_by c {b} test = search (rules, told, allocator_is, fresh_no, or-false)

pub returns-then-reserved : goal.returns-then-reserved
returns-then-reserved c = search (rules, told_by, c.if-reserved.true)

pub returns-else-reserved : goal.returns-else-reserved
returns-else-reserved c = search (rules, told_by, c.if-reserved.false)
