-- Workers are taken apart, one after the other.
use Rattle.ent_runner.proofs.Common.{rules, ◌≡◌, ◌<◌, List, [], ◌∷◌, ◌++◌, length, map, Option}
use Rattle.ent_runner.proofs.Common.{append_assoc, arith, All, flat_map, map-append, length-append}
use Rattle.ent_runner.proofs.Common.{◌-◌, ℕ, All-rest, Done, Worker, outputs_put}
use Rattle.ent_runner.proofs.Outputs.{put_both, length_put}

module _ {O : Type 0} where
  abbrev Inside : List (Option O) → Worker O → Type 0
  Inside by_number w = All (λ (d : Done O). d.number < length by_number) w.done.items

  -- so many were taken apart, and one more
  pub record Disbanded (workers yielded rest : List (Worker O)) (w : Worker O)
      (by_number next : List (Option O)) : Type 0 where
    pub all : (yielded ++ w ∷ []) ++ rest ≡ workers
    pub outputs_are : (end : List (Option O))
        → outputs_put (flat_map (λ (w : Worker O). w.done.items) (w ∷ rest)) by_number ≡ end
        → outputs_put (flat_map (λ (w : Worker O). w.done.items) rest) next ≡ end
    pub inside : All (λ (w : Worker O). All (λ (d : Done O). d.number < length next)
        w.done.items) rest

  pub disbanded_on : (workers yielded old rest : List (Worker O)) (w : Worker O)
      (by_number next : List (Option O)) → old ≡ w ∷ rest → yielded ++ old ≡ workers
      → next ≡ outputs_put w.done.items by_number
      → All (λ (w : Worker O). All (λ (d : Done O). d.number < length by_number) w.done.items) old
      → Disbanded workers yielded rest w by_number next
  disbanded_on workers yielded old rest w by_number next front all put inside =
      search (
        rules,
        append_assoc,
        put_both,
        length_put,
        All-rest (Inside by_number) w rest old front inside,
      )

  -- its outputs have numbers of jobs
  pub inside_first : (old rest : List (Worker O)) (w : Worker O) (by_number : List (Option O))
      → old ≡ w ∷ rest
      → All (λ (w : Worker O). All (λ (d : Done O). d.number < length by_number) w.done.items) old
      → All (λ (d : Done O). d.number < length by_number) w.done.items
  inside_first old rest w by_number front inside = (rw front at inside) 0 w (omega arith)

  -- the outputs of one more are there
  pub fewer_on : (old rest : List (Worker O)) (w : Worker O) (lacking next had all : ℕ)
      → old ≡ w ∷ rest → next ≡ lacking - length w.done.items
      → lacking - length (flat_map (λ (w : Worker O). w.done.items) old) ≡ had - all
      → next - length (flat_map (λ (w : Worker O). w.done.items) rest) ≡ had - all
  fewer_on old rest w lacking next had all front less so_far =
      let both = length-append w.done.items (flat_map (λ (w : Worker O). w.done.items) rest) in
      let so_far = rw (front, both) at so_far in
      omega (arith, less, so_far)

  -- what was moved out of the workers, and out of one more
  pub moved_on : {X : Type 0} (f : Worker O → X) (yielded : List (Worker O)) (w : Worker O)
      (before after : List X) → before ≡ map f yielded → after ≡ before ++ f w ∷ []
      → after ≡ map f (yielded ++ w ∷ [])
  moved_on f yielded w before after moved push = search (rules, map-append)
