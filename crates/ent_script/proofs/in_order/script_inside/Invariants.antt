use Rattle.ent_script.proofs.Common.{◌≡◌, ℕ, ◌≤◌, length, map, option_map, option_and_then, codes}
use Rattle.ent_script.proofs.Common.{members, value, Members, no_members, get_member, of_members}
use Rattle.ent_script.proofs.Common.{converted, view, members_view, cut, at_most, heads, IfSome}
use Rattle.ent_script.proofs.in_order.script_inside.Given as goal

abbrev pub invariant-members : goal.invariant-members
invariant-members l = (n : ℕ) × (length l.reader ≤ n)
    × ((old : Members)
    × (converted (λ ms. of_members ms no_members)
    (members (value l.depth) (length l.initial.reader) l.initial.reader)
    ≡ converted (λ ms. of_members ms old) (members (value l.depth) n l.reader))
    × (members_view l.found.entries ≡ heads old)
    × (option_map (λ vs. map view vs.items) l.components
    ≡ option_map (map (cut 0))
    (option_and_then (at_most 256) (get_member (codes "components") old))))
    × IfSome l.components (λ vs. length vs.items ≤ 256)

abbrev pub decreases-members : goal.decreases-members
decreases-members l = length l.reader
