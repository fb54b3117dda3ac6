-- What is kept of the top of a text means the same heading.
use Rattle.ent_script.proofs.Common.{rules, ◌≡◌, ℕ, List, [], ◌∷◌, map, refl, false, Option, Some}
use Rattle.ent_script.proofs.Common.{None, option_map, codes, bytes_eq, Token, left_some, Data}
use Rattle.ent_script.proofs.Common.{null, object, Members, no_members, member, put, get}
use Rattle.ent_script.proofs.Common.{get_member, as_object, cut, pairs_of, keys_among, heading_of}
use Rattle.ent_script.proofs.Common.{left, head, heads}
use Rattle.ent_script.proofs.CutMeanings.{whole-cut}
use Rattle.ent_script.proofs.Puts.{tied}

-- ---- putting in

pub heads-put : (k : List ℕ) (d : Data) (ms : Members)
    → heads (put k d ms) ≡ put k (head k d) (heads ms)
heads-put k d no_members = refl
heads-put k d (member l e ms) = search (rules, tied k l, heads-put k d ms)

-- ---- the heading

abbrev headed : List ℕ × Data → List ℕ × Data
headed m = (m.0, head m.0 m.1)

pairs_of-heads : (ms : Members) → pairs_of (heads ms) ≡ map headed (pairs_of ms)
pairs_of-heads no_members = refl
pairs_of-heads (member k d ms) = search (rules, pairs_of-heads ms)

among-headed : (allowed : List (List ℕ)) (ms : List (List ℕ × Data))
    → keys_among allowed (map headed ms) ≡ keys_among allowed ms
among-headed allowed [] = refl
among-headed allowed (m ∷ ms) = search (rules, among-headed allowed ms)

get_member-heads : (q : List ℕ) (ms : Members) → bytes_eq q (codes "components") ≡ false
    → get_member q (heads ms) ≡ option_map (cut 0) (get_member q ms)
get_member-heads q no_members other = refl
get_member-heads q (member k d ms) other = search (rules, tied q k, get_member-heads q ms other)

pub heading_of-heads : (ms : Members) → heading_of (object (heads ms)) ≡ heading_of (object ms)
unfolding heading_of
heading_of-heads ms = search (rules, pairs_of-heads, among-headed, get_member-heads, whole-cut)

-- what is no object has no heading
pub no_heading : (d : Data) → as_object d ≡ None → heading_of null ≡ heading_of d
unfolding heading_of
no_heading d other = search rules

pub no_member : (d : Data) (k : List ℕ) → as_object d ≡ None → get k d ≡ None
no_member d k other = search rules

-- ---- a value that was passed over

-- the value that was read, from what it leaves and what is known of each value that leaves that
pub read_there : {P : Data → List Token → Type 0} (o : Option (Data × List Token))
    (after : List Token) → left o ≡ Some after
    → ((d : Data) (rest : List Token) → o ≡ Some (d, rest) → P d rest)
    → (d : Data) × (o ≡ Some (d, after)) × P d after
read_there o after over known = search (rules, left_some)
