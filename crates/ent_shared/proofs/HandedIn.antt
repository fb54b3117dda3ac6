-- Those that hold holders, as they are handed in one by one.
use Rattle.ent_shared.proofs.Common.{rules, ◌≡◌, List, ◌++◌, length, append-nil, nil_from_length}

-- all that were handed in were taken in
pub items_all : {X : Type 0} (items yielded now : List X) → yielded ++ now ≡ items → length now ≡ 0
    → yielded ≡ items
items_all {X = X} items yielded now all none_left = search (rules, append-nil, nil_from_length)
