-- Values that are cut, beside the members of an object as they are put in.
use Rattle.ent_script.proofs.Common.{common_steps, ◌≡◌, ℕ, List, [], ◌∷◌, String, Vec, BTreeMap}
use Rattle.ent_script.proofs.Common.{Global, string_bytes, string_cmp, refl, rules, arith, Bor}
use Rattle.ent_script.proofs.Common.{nat_cmp, slice_cmp, leaf_data, leaves_of, Leaf, insert_entry}
use Rattle.ent_script.proofs.Common.{Data, array, object, Members, no_members, member, put, view}
use Rattle.ent_script.proofs.Common.{items_view, members_view, Value, Array, Object, the_lemmas}
use Rattle.ent_script.proofs.Common.{cut, cut_members}

pub view-Array : (v : Vec Value Global) → view (Array v) ≡ array (items_view v.items)
view-Array v = search (rules, the_lemmas)

pub view-Object : (m : BTreeMap (String Global) Value)
    → view (Object m) ≡ object (members_view m.entries)
view-Object m = search (rules, the_lemmas)

pub members_view-insert_entry : (es : List (String Global × Value)) (k : String Global) (v : Value)
    → members_view (insert_entry string_cmp es k v)
    ≡ put (string_bytes k) (view v) (members_view es)
members_view-insert_entry [] k v = refl
members_view-insert_entry (e ∷ es) k v = search (rules, members_view-insert_entry es k v)

pub leaves_of-insert_entry : (es : List (Bor (List ℕ) × Leaf)) (k : Bor (List ℕ)) (leaf : Leaf)
    → leaves_of (insert_entry (λ x y. slice_cmp nat_cmp x.now y.now) es k leaf)
    ≡ put k.now (leaf_data leaf) (leaves_of es)
leaves_of-insert_entry [] k leaf = refl
leaves_of-insert_entry (e ∷ es) k leaf = search (rules, leaves_of-insert_entry es k leaf)

pub cut_members-put : (levels : ℕ) (k : List ℕ) (d : Data) (ms : Members)
    → cut_members levels (put k d ms) ≡ put k (cut levels d) (cut_members levels ms)
cut_members-put levels k d no_members = refl
cut_members-put levels k d (member l e ms) =
    grind (arith, common_steps, cut_members-put levels k d ms)
