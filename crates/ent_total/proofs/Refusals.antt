-- When a call is refused, and why.
use Rattle.ent_total.proofs.Common.{◌≡◌, ◌≢◌, ◌⊎◌, ◌↔◌, ◌∙◌, sym, inl, inr}

module _ {X : Type 0} (first second : X) (differ : second ≢ first) {A B : Type 0} where
  -- the first reason holds just where A does not
  pub first_reason : (why : X) → ((why ≡ first) × ¬ A) ⊎ ((why ≡ second) × A × B)
      → (why ≡ first) ↔ ¬ A
  first_reason why r = elim r [
    | inl w ↦ ((λ _. w.1), (λ _. w.0))
    | inr w ↦
        ((λ e. absurd (differ (sym w.0 ∙ e))), (λ n. absurd (n w.1)))
  ]
