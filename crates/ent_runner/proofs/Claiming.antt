-- The claimers of a number of workers, as they are made one by one. A claimer after a claim: it
-- stays of its claims.
use Rattle.ent_runner.proofs.Common.{replicate, common_steps, rules, ◌≡◌, ℕ, ◌+◌, ◌-◌, ◌<◌, List}
use Rattle.ent_runner.proofs.Common.{[], ◌∷◌, ◌++◌, take, drop, arith, All, All-push, TableId, Me}
use Rattle.ent_runner.proofs.Common.{ClaimRecord, nothing_claimed, claims_of, Claims, Claimer}
use Rattle.ent_runner.proofs.Common.{IsClaimerOf, IsClaimerHolding, IsUnused, false, ◌≤◌, length}
use Rattle.ent_runner.proofs.Common.{lt-ltb, AllPairs, all_pairs_push, after_claim}
use Rattle.ent_runner.proofs.ListedBirths.{few_below}

-- the first claimers are made, and the holder has the other records
pub record AreOpened (numbers workers many : ℕ) (word : TableId) (made : List Claimer)
    (seat : TableId) (me : Me (Unit {0}) (List ClaimRecord)) : Type 0 where
  pub seat_is : seat ≡ word
  pub left : me ≡ (replicate (workers - many) (nothing_claimed numbers), [])
  pub own : All (IsClaimerOf (record { word = word; numbers = numbers; workers = workers })) made
  pub unused : All IsUnused made

opened-first : (numbers workers many : ℕ) → many < workers
    → replicate (workers - many) (nothing_claimed numbers)
    ≡ nothing_claimed numbers ∷ replicate (workers - (many + 1)) (nothing_claimed numbers)
opened-first numbers workers many below = search rules

module _ (numbers workers many : ℕ) (word seat : TableId) (made : List Claimer)
    (me : Me (Unit {0}) (List ClaimRecord))
    (below : many < workers) (d : AreOpened numbers workers many word made seat me) where
  next_is : me.0 ≡ nothing_claimed numbers
      ∷ replicate (workers - (many + 1)) (nothing_claimed numbers)
  next_is = search (rules, opened-first)

  pub next_holding : (views : List (List ClaimRecord)) → views ≡ take 1 me.0 ∷ []
      → IsClaimerHolding views false
  next_holding views is = search (rules, next_is)

  pub opened_more : (later : TableId) (after : Me (Unit {0}) (List ClaimRecord)) (c : Claimer)
      → later ≡ seat
      → after ≡ (drop 1 me.0, []) → (views : List (List ClaimRecord)) → views ≡ take 1 me.0 ∷ []
      → c ≡ record { word = seat; own = claims_of views } → (now : List Claimer)
      → now ≡ made ++ c ∷ []
      → AreOpened numbers workers (many + 1) word now later after
  opened_more later after c same left views is c_is now now_is =
      grind (arith, common_steps, next_is, All-push)

-- numbers that rise and are below n are no more than there are
pub rising_fit : (n : ℕ) (xs : List ℕ) → AllPairs (λ x y. x < y) xs → All (λ x. x < n) xs
    → length xs ≤ n
rising_fit n xs rises below =
    few_below (λ x. x) n xs (λ i j d less within e. omega (arith, rises i j d less within, e)) below

of_claimed : (claims : Claims) (c : Claimer) (n : ℕ) → IsClaimerOf claims c → n < claims.numbers
    → All (λ m. m < n) c.own.claims → IsClaimerOf claims (record c
    { own = record c.own { claims = c.own.claims ++ n ∷ [] } })
of_claimed claims c n of within above =
    search (rules, c.own.claims, All-push, all_pairs_push, rising_fit)

pub claimed_on : (claims : Claims) (views after : List (List ClaimRecord)) (was now : TableId)
    (old : Claimer) (n : ℕ)
    → record { word = was; own = claims_of views } ≡ old → IsClaimerOf claims old → now ≡ was
    → after ≡ (after_claim (claims_of views) n ∷ []) ∷ [] → n < claims.numbers
    → All (λ m. m < n) (claims_of views).claims
    → IsClaimerOf claims (record { word = now; own = claims_of after })
claimed_on claims views after was now old n view of same is within above =
    search (rules, lt-ltb, of.numbers, of_claimed claims old n of within)
