use Rattle.ent_script.proofs.Common.{◌≡◌, ℕ, ◌+◌, ◌*◌, ◌≤◌, length, members, value, Members}
use Rattle.ent_script.proofs.Common.{no_members, of_members, converted, members_view, cut_members}
use Rattle.ent_script.proofs.cutting.+read.Given as goal

abbrev pub decreases-read_cut : goal.decreases-read_cut
decreases-read_cut l = 2 * l.depth

abbrev pub decreases-cut_members : goal.decreases-cut_members
decreases-cut_members l = 2 * l.depth + 1

abbrev pub invariant-cut_members-members : goal.invariant-cut_members-members
invariant-cut_members-members l = (n : ℕ) × (length l.reader ≤ n)
    × ((old : Members)
    × (converted (λ ms. of_members ms no_members)
    (members (value l.depth) (length l.initial.reader) l.initial.reader)
    ≡ converted (λ ms. of_members ms old) (members (value l.depth) n l.reader))
    × (members_view l.found.entries ≡ cut_members l.levels old))
    × (length l.reader ≤ length l.initial.reader)

abbrev pub decreases-cut_members-members : goal.decreases-cut_members-members
decreases-cut_members-members l = length l.reader
