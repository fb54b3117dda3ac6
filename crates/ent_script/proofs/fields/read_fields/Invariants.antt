use Rattle.ent_script.proofs.Common.{◌≡◌, ◌≤◌, ℕ, List, length, Some, Token, members, value}
use Rattle.ent_script.proofs.Common.{Members, no_members, of_members, converted, AreFields}
use Rattle.ent_script.proofs.Common.{after_members, left}
use Rattle.ent_script.proofs.fields.read_fields.Given as goal

abbrev pub invariant-members : goal.invariant-members
invariant-members l = record {
  no_longer : length l.reader ≤ length l.initial.reader;
  found : (n : ℕ) (ms : Members) (rest : List Token)
      → converted (λ ms. of_members ms no_members) (members (value l.depth) n l.initial.reader)
      ≡ Some (ms, rest) → (m : ℕ) × (old : Members)
      × (converted (λ ms. of_members ms old) (members (value l.depth) m l.reader) ≡ Some (ms, rest))
      × AreFields l.fields old;
  passed : (n : ℕ) × (old : Members) × (length l.reader ≤ n)
      × (after_members l.depth l.initial.reader
      ≡ left (converted (λ ms. of_members ms old) (members (value l.depth) n l.reader)));
}

abbrev pub decreases-members : goal.decreases-members
decreases-members l = length l.reader
