use Rattle.ent_script.proofs.Common.{◌≡◌, ℕ, List, length, Some, codes, Token, members, value}
use Rattle.ent_script.proofs.Common.{Members, no_members, get_member, of_members, converted}
use Rattle.ent_script.proofs.Common.{ReadsList, frames_of}
use Rattle.ent_script.proofs.reading.frames_inside.Given as goal

abbrev pub invariant-members : goal.invariant-members
invariant-members l = (n : ℕ) (ms : Members) (rest : List Token)
    → converted (λ ms. of_members ms no_members) (members (value l.depth) n l.initial.reader)
    ≡ Some (ms, rest) → (m : ℕ) × (old : Members)
    × (converted (λ ms. of_members ms old) (members (value l.depth) m l.reader) ≡ Some (ms, rest))
    × ReadsList l.found (frames_of l.format l.components (get_member (codes "frames") old))

abbrev pub decreases-members : goal.decreases-members
decreases-members l = length l.reader
