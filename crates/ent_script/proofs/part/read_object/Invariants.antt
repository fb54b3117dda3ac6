use Rattle.ent_script.proofs.Common.{◌≡◌, ℕ, ◌≤◌, length, members, value, Members, no_members}
use Rattle.ent_script.proofs.Common.{of_members, converted, members_of, cut_members}
use Rattle.ent_script.proofs.part.read_object.Given as goal

abbrev pub invariant-members : goal.invariant-members
invariant-members l = (n : ℕ) × (length l.reader ≤ n)
    × ((old : Members)
    × (converted (λ ms. of_members ms no_members)
    (members (value l.depth) (length l.initial.reader) l.initial.reader)
    ≡ converted (λ ms. of_members ms old) (members (value l.depth) n l.reader))
    × (members_of l.found ≡ cut_members 0 old)) × (length l.reader ≤ length l.initial.reader)

abbrev pub decreases-members : goal.decreases-members
decreases-members l = length l.reader
