-- A number means one source. A list is walked, and what each item has is put behind a list.
use Rattle.ent_total.proofs.Common.{rules, ◌≡◌, ◌+◌, ℕ, Option, Some, List, [], ◌∷◌, ◌++◌, map}
use Rattle.ent_total.proofs.Common.{append_assoc, All, length, arith, All-head, All-tail}
use Rattle.ent_total.proofs.Common.{map-append, common_steps}

pub one_phase : {X : Type 0} (of : ℕ → Option X) (m n : ℕ) (a b : X) → m ≡ n → of m ≡ Some a
    → of n ≡ Some b → a ≡ b
one_phase of m n a b same first second = grind (arith, common_steps, same, first, second)

module _ {X : Type 0} (yielded : List X) (x : X) where
  pub went_on : (old rest : List X) → old ≡ x ∷ rest → (all : List X) → yielded ++ old ≡ all
      → ((yielded ++ x ∷ []) ++ rest ≡ all) × (length old ≡ length rest + 1)
  went_on old rest front all e = search (rules, arith, append_assoc)

  pub walked : (old rest : List X) → old ≡ x ∷ rest → (all : List X) → yielded ++ old ≡ all
      → (P : X → Type 0) → All P old
      → ((yielded ++ x ∷ []) ++ rest ≡ all) × P x × All P rest × (length old ≡ length rest + 1)
  walked old rest front all e P left =
      search (
        rules,
        arith,
        append_assoc,
        All-head P x rest (rw front at left),
        All-tail P x rest (rw front at left),
      )

  pub moved_on : {Y : Type 0} (f : X → Y) (start before after : List Y) (y : X) → y ≡ x
      → before ≡ start ++ map f yielded → after ≡ before ++ f y ∷ []
      → after ≡ start ++ map f (yielded ++ x ∷ [])
  moved_on f start before after y view moved push = search (rules, append_assoc, map-append)
