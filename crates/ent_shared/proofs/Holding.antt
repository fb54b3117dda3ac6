-- What a reservation returns, and what a reservation leaves of a reserver: its fields say what its
-- record says, and it stays of its allocator.
use Rattle.ent_shared.proofs.Common.{common_steps, arith, append-nil, rules, ◌≡◌, ℕ, ◌-◌, ◌≤◌, ℤ}
use Rattle.ent_shared.proofs.Common.{pos, ◌-ℤ◌, ◌≤ℤ◌, List, [], ◌∷◌, ◌++◌, All-append, All-weaker}
use Rattle.ent_shared.proofs.Common.{ints, Result, TableId, Handle, Space, Span, Allocator, pool_at}
use Rattle.ent_shared.proofs.Common.{reply_from, handles_in, Record, after_reservation, Shared}
use Rattle.ent_shared.proofs.Common.{Reserver, IsOf, own_of, IsHolding, handles_given, Ok, Err}
use Rattle.ent_shared.proofs.Common.{reservation_at, ap, ◌∙◌, length, take, length-drop, nat_le}
use Rattle.ent_shared.proofs.Common.{true, length_permutation, listed-IsPermutation, nat_tests, top}
use Rattle.ent_shared.proofs.Common.{IsSound, length-pool}
use Rattle.ent_shared.proofs.Laws.{handles_of-append}
use Rattle.ent_shared.proofs.Records.{own-made, known-more, quota-reserved}
use Rattle.ent_shared.proofs.Weighing.{all_one}

-- the reply to a span of no numbers
pub nothing_at : (start : Allocator) (span : Span) (top : ℤ) (reply : Result (List Handle) Space)
    → span ≡ record { high = top; low = top -ℤ pos 0 } → ((k : ℕ) → span.low ≡ span.high -ℤ pos k
    → reply ≡ reply_from start.made (pool_at start span.high) k) → reply ≡ Ok []
nothing_at start span top reply is replies = search (rules, nat_tests, replies 0 (search rules))

-- whether a reply serves tells whether there was enough
pub enough_served : (made : ℕ) (pool handles : List Handle) (n : ℕ)
    → reply_from made pool n ≡ Ok handles → nat_le n (length pool) ≡ true
enough_served made pool handles n is = search (rules)

-- a reply that serves n lists n handles
pub length-served : (made : ℕ) (pool handles : List Handle) (n : ℕ)
    → reply_from made pool n ≡ Ok handles → length handles ≡ n
length-served made pool handles n is =
    grind (
      arith,
      nat_tests,
      common_steps,
      length_permutation _ _ (listed-IsPermutation made (take n pool)),
    )

-- the pool never has more than at the opening
pub enough_at_first : (start : Allocator) (high : ℤ) (handles : List Handle) (n : ℕ) → IsSound start
    → start.asked ≡ 0 → reply_from start.made (pool_at start high) n ≡ Ok handles
    → n ≤ length start.pool
enough_at_first start high handles n sound flushed is =
    search (rules, enough_served, length-pool, length-drop)

-- what a reservation gives a reserver of this allocator, and what its fields are then
pub record Gives (shared : Shared) (old : Reserver) (after : List (List Record)) (now : TableId)
    (number left n : ℕ)
    (floor high : ℤ) (reply : Result (List Handle) Space) : Type 0 where
  pub given : handles_given (own_of after) ≡ handles_given old.own ++ handles_in reply
  pub stays : IsOf shared (record { word = now; own = own_of after })
  pub served : (handles : List Handle) → reply ≡ Ok handles
      → IsHolding after number (left - n) (high -ℤ pos n)
  pub refused : (refusal : Space) → reply ≡ Err refusal → IsHolding after number (left - n) floor

pub gives : (shared : Shared) (old : Reserver) (views after : List (List Record))
    (was now : TableId)
    (number left n : ℕ) (floor high : ℤ) (reply : Result (List Handle) Space)
    → record { word = was; own = own_of views } ≡ old → IsHolding views number left floor
    → IsOf shared old → n ≤ left
    → now ≡ was → after ≡ (after_reservation (own_of views) high n ∷ []) ∷ []
    → high ≤ℤ (own_of views).mark
    → reply ≡ reply_from shared.start.made (pool_at shared.start high) n
    → Gives shared old after now number left n floor high reply
gives shared old views after was now number left n floor high reply view holding of within same
    gains le replies =
    let start : (own_of views).start ≡ shared.start = ap (λ (r : Reserver). r.own.start) view
    ∙ of.start in
    let recorded : (reservation_at (own_of views) high n).reply ≡ reply = search rules in
    let leaves : (z : ℤ) → z ≡ (after_reservation (own_of views) high n).floor
    → IsHolding after number (left - n) z =
    λ z is.
    grind
    (arith, common_steps, All-weaker, ints, known-more, All-append, all_one, quota-reserved) in
    record {
      given = search (rules, own-made, handles_of-append, append-nil, recorded);
      stays = search (rules, quota-reserved, holding.left_is, view, gains);
      served = λ handles is. leaves (high -ℤ pos n) (grind (arith, common_steps));
      refused = λ refusal is. leaves floor (holding.floor_is ∙ (grind (arith, common_steps)));
    }
