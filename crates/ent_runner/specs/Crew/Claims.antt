-- What contracts see of the claims and of their claimers.
use Rattle.std.specs.Prelude.{◌≡◌, ℕ, ◌^◌, ◌<◌, ◌≤◌, List, [], ◌∷◌, All, AllPairs, Contains, length}
use Rattle.std.specs.Prelude.{Bool, true, slice_get, Some, refl, flat_map, IsPermutation}
use Rattle.std.specs.List.{range_with_len}
use Rattle.std.specs.Coded.{Coded, code_by, coded×, coded_ℕ}
use Rattle.atomic_table.specs.Seated.{TableId, table_id_coded}
use Rattle.ent_runner.specs.contracts.crew.record.ClaimRecord as recorded
use Rattle.ent_runner.specs.declared.crew.record.ClaimRecord.{ClaimRecord}
use Rattle.ent_runner.specs.declared.crew.rule.Opening.{Opening}
use Rattle.ent_runner.specs.Crew.Record.{claims_of}

-- which atomic word it is, the numbers below what can be claimed, and how many workers claim them
pub record Claims : Type 0 where
  pub word : TableId
  pub numbers : ℕ
  pub workers : ℕ

-- which word it claims from, and what it has claimed
pub record Claimer : Type 0 where
  pub word : TableId
  pub own : ClaimRecord

abbrev pub claims_code : Coded Claims
claims_code =
    code_by (TableId × (ℕ × ℕ)) (coded× table_id_coded (coded× coded_ℕ coded_ℕ))
    (λ c. (c.word, (c.numbers, c.workers)))
    (λ p. record { word = p.0; numbers = p.1.0; workers = p.1.1 }) (λ _. refl)

abbrev pub claimer_code : Coded Claimer
claimer_code =
    code_by (TableId × ClaimRecord) (coded× table_id_coded recorded.the_row.coded)
    (λ c. (c.word, c.own)) (λ p. record { word = p.0; own = p.1 }) (λ _. refl)

-- The claimer is one of those that came with these claims.
pub record IsClaimerOf (claims : Claims) (c : Claimer) : Type 0 where
  pub word : c.word ≡ claims.word
  pub numbers : c.own.numbers ≡ claims.numbers
  -- what it has claimed is below the count, and rises
  pub below : All (λ n. n < claims.numbers) c.own.claims
  pub rises : AllPairs (λ m n. m < n) c.own.claims
  -- so it has claimed no more than there are
  pub fits : length c.own.claims ≤ claims.numbers

-- the claimer of this number has claimed the number
abbrev pub IsClaimedBy : List Claimer → ℕ → ℕ → Type 0
IsClaimedBy claimers n k =
    (c : Claimer) × (slice_get claimers k ≡ Some c) × Contains c.own.claims n

-- What these claimers have claimed together are the first numbers, each once.
pub record AreFirst (numbers : ℕ) (claimers : List Claimer) : Type 0 where
  pub count : ℕ
  pub within : count ≤ numbers
  pub once : IsPermutation (flat_map (λ (c : Claimer). c.own.claims) claimers)
      (range_with_len 0 count)
  -- all of them, if one of the claimers has found that no number is left
  pub whole : (k : ℕ) (c : Claimer) → slice_get claimers k ≡ Some c → c.own.ended ≡ true
      → count ≡ numbers

-- each of them has found that no number is left
abbrev pub HaveEnded : List Claimer → Type 0
HaveEnded claimers = All (λ (c : Claimer). c.own.ended ≡ true) claimers

-- A claimer's field says what its record says.
pub record IsClaimerHolding (views : List (List ClaimRecord)) (ended : Bool) : Type 0 where
  pub views_is : views ≡ (claims_of views ∷ []) ∷ []
  pub ended_is : ended ≡ (claims_of views).ended

-- the numbers lie beside the word
pub record IsOpen (numbers workers : ℕ) (key : Opening) (word : TableId) : Type 0 where
  pub few_numbers : numbers ≤ 2 ^ 16
  pub some_workers : 0 < workers
  pub few_workers : workers ≤ 64
  pub key_is : key ≡ record { numbers = numbers; workers = workers }
  pub words : word.words ≡ 1
  pub slots : word.slots ≡ 0
