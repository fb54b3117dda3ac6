-- One law, with a step for each test of the format: a value that is cut means the same.
use Rattle.ent_script.proofs.Common.{take-map, arith, rules, ◌≡◌, ℕ, suc, ◌+◌, List, [], ◌∷◌, map}
use Rattle.ent_script.proofs.Common.{refl, Option, option_map, Result, common_steps, Data, Members}
use Rattle.ent_script.proofs.Common.{no_members, member, cut, cut_members, pairs_of, whole}
use Rattle.ent_script.proofs.Common.{items_of, read_bundle, with_of, count_of, binding_of}
use Rattle.ent_script.proofs.Common.{removed_of, target_of, numbered, component_at}
use Rattle.ent_script.specs.Json.{members}

abbrev cut_pair : ℕ → List ℕ × Data → List ℕ × Data
cut_pair l m = (m.0, cut l m.1)

pairs_of-cut : (l : ℕ) (ms : Members) → pairs_of (cut_members l ms) ≡ map (cut_pair l) (pairs_of ms)
pairs_of-cut l no_members = refl
pairs_of-cut l (member k d ms) = search (rules, pairs_of-cut l ms)

members-cut : (l : ℕ) (d : Data)
    → members (cut (suc l) d) ≡ option_map (map (cut_pair l)) (members d)
members-cut l d = search (rules, pairs_of-cut)

pub whole-cut : (l : ℕ) (d : Data) → whole (cut l d) ≡ whole d
whole-cut l d = search rules

-- ---- the parts of an operation

items_of-cut : (l : ℕ) (components : List (List ℕ)) (ms : List (List ℕ × Data))
    → items_of components (map (cut_pair l) ms) ≡ items_of components ms
items_of-cut l components [] = refl
items_of-cut l components (m ∷ ms) = grind (arith, common_steps, items_of-cut l components ms)

pub bundle-cut : (l : ℕ) (components : List (List ℕ)) (o : Option Data)
    → read_bundle components (option_map (cut (suc l)) o) ≡ read_bundle components o
unfolding read_bundle
bundle-cut l components it = search (rules, pairs_of-cut, items_of-cut)

pub with-cut : (l : ℕ) (components : List (List ℕ)) (o : Option Data)
    → with_of components (option_map (cut (suc l)) o) ≡ with_of components o
with-cut l components it = search (rules, bundle-cut)

pub count-cut : (l : ℕ) (o : Option Data) → count_of (option_map (cut l) o) ≡ count_of o
unfolding count_of
count-cut l it = search rules

pub binding-cut : (l : ℕ) (bound : List (List ℕ)) (o : Option Data)
    → binding_of bound (option_map (cut l) o) ≡ binding_of bound o
unfolding binding_of
binding-cut l bound it = search rules

pub removed-cut : (l : ℕ) (components : List (List ℕ)) (o : Option Data)
    → removed_of components (option_map (cut l) o) ≡ removed_of components o
unfolding removed_of
removed-cut l components it = search rules

pub target-cut : (l : ℕ) (components bound : List (List ℕ)) (before : Option ℕ) (o : Option Data)
    → target_of components bound before (option_map (cut (suc l)) o)
    ≡ target_of components bound before o
unfolding target_of
target-cut l components bound before it = search (rules, members-cut)

numbered-cut : {A E : Type 0} (f g : ℕ → Data → Result A E) (l n : ℕ) (ds : List Data)
    → ((m : ℕ) (d : Data) → f m (cut l d) ≡ g m d) → numbered f n (map (cut l) ds) ≡ numbered g n ds
numbered-cut f g l n [] same = refl
numbered-cut {A} {E} f g l n (d ∷ ds) same = search (rules, numbered-cut f g l (n + 1) ds same)

-- ---- the heading, and the names of the components

pub components-cut : (ds : List Data) → numbered (component_at (map (cut 0) ds)) 0 (map (cut 0) ds)
    ≡ numbered (component_at ds) 0 ds
components-cut ds = grind (arith, common_steps, numbered-cut, take-map)
