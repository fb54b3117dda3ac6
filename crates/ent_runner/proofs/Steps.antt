-- Each step keeps the rule over the claim word and the records.
use Rattle.ent_runner.proofs.Common.{replicate, common_steps, rules, ◌≡◌, ℕ, zero, suc, ◌+◌, ◌%◌}
use Rattle.ent_runner.proofs.Common.{◌^◌, ◌<◌, ◌≤◌, List, [], ◌∷◌, ◌++◌, length, set, get_or, sym}
use Rattle.ent_runner.proofs.Common.{refl, ap, ◌∙◌, arith, lt-ltb, le-ltb, mod-eq_of_lt, true}
use Rattle.ent_runner.proofs.Common.{sum_by, All, range_with_len, cases_lt, All-nil, All-set}
use Rattle.ent_runner.proofs.Common.{All-replicate, sum_by-replicate, all_pairs_push, sum_by-cons}
use Rattle.ent_runner.proofs.Common.{sum_by_push, sum_by-le-sum_by, some, get_elem?, State, Me}
use Rattle.ent_runner.proofs.Common.{keeps, Allows, opening, GoesByRecords, all_one, sum_at, all_at}
use Rattle.ent_runner.proofs.Common.{whole_weighs, sum_regrouped, length-regrouped, all_regrouped}
use Rattle.ent_runner.proofs.Common.{ClaimRecord, nothing_claimed, after_claim, ended_in}
use Rattle.ent_runner.proofs.Common.{IsClaimKept, AreClaimsRuled, AfterClaim, ClaimTells}
use Rattle.ent_runner.proofs.Common.{AreClaimsClosed, false, cond}

range_last : (a n j : ℕ) → a + n ≡ j → range_with_len a (suc n) ≡ range_with_len a n ++ j ∷ []
range_last a zero j e = ap (λ (k : ℕ). k ∷ []) (omega arith)
range_last a (suc n) j e = ap (λ (ns : List ℕ). a ∷ ns) (range_last (a + 1) n j (omega arith))

ended-le : (v : List ClaimRecord) → ended_in v ≤ length v
ended-le [] = omega arith
ended-le (r ∷ v) = grind (arith, common_steps, sum_by-cons, ended-le v)

abbrev with_claim : ClaimRecord → ℕ → ClaimRecord
with_claim r n = record r { claims = r.claims ++ n ∷ [] }

abbrev with_end : ClaimRecord → ClaimRecord
with_end r = record r { ended = true }

module _ (numbers workers : ℕ) where
  abbrev St : Type 0
  St = State (Unit {0}) (List ClaimRecord)

  abbrev Rule : St → Type 0
  Rule = AreClaimsRuled numbers workers

  -- a record that stays as it was, while another one claims
  kept_on : (claimed : ℕ) (r : ClaimRecord) → claimed < numbers → IsClaimKept numbers claimed r
      → IsClaimKept numbers (claimed + 1) r
  kept_on claimed r left kept = search rules

  kept_claim : (claimed : ℕ) (r : ClaimRecord) → claimed < numbers → IsClaimKept numbers claimed r
      → IsClaimKept numbers (claimed + 1) (with_claim r claimed)
  kept_claim claimed r left kept = grind (arith, common_steps, all_pairs_push)

  after_number : (s : St) (k : Rule s) (id : ℕ) (r : ClaimRecord) (words : List ℕ)
      → get_elem? s.views id ≡ some (r ∷ []) → k.word < numbers → words ≡ (k.word + 1) ∷ []
      → Rule (record s { words = words; views = set s.views id (with_claim r k.claimed ∷ []) })
  after_number s k id r words at below now =
      let left : k.claimed < numbers = search rules in
      let mine =
      all_at (All (IsClaimKept numbers k.claimed)) s.views id (r ∷ []) at k.each 0 r
      (omega arith) in
      let w : List ClaimRecord = with_claim r k.claimed ∷ [] in
      let counts : k.word + 1 ≡ (k.claimed + 1) + sum_by ended_in (set s.views id w) =
      search (rules, sum_at ended_in s.views id (r ∷ []) w at, k.counts) in
      let each = All-set (All (IsClaimKept numbers (k.claimed + 1))) s.views id w
      (all_one (IsClaimKept numbers (k.claimed + 1)) (with_claim r k.claimed)
      (kept_claim k.claimed r left mine))
      (λ i d lt j e l. kept_on k.claimed _ left (k.each i d lt j e l)) in
      search (
        rules,
        each,
        now,
        counts,
        k.none_early left,
        sum_at length s.views id (r ∷ []) w at,
        k.records,
        sum_at,
        sum_by_push,
        range_last 0 k.claimed k.claimed,
      )

  after_end : (s : St) (k : Rule s) (id : ℕ) (r : ClaimRecord) (words : List ℕ)
      → get_elem? s.views id ≡ some (r ∷ [])
      → r.ended ≡ false → numbers ≤ k.word → words ≡ (k.word + 1) ∷ []
      → Rule (record s { words = words; views = set s.views id (with_end r ∷ []) })
  after_end s k id r words at going above now =
      let w : List ClaimRecord = with_end r ∷ [] in
      let K : List ClaimRecord → Type 0 = All (IsClaimKept numbers k.claimed) in
      let mine : IsClaimKept numbers k.claimed r =
      all_at K s.views id (r ∷ []) at k.each 0 r (omega arith) in
      let each = All-set K s.views id w (all_one (IsClaimKept numbers k.claimed) (with_end r)
      (search (rules, mine))) k.each in
      search (
        rules,
        arith,
        sum_at ended_in s.views id (r ∷ []) w at,
        sum_at length s.views id (r ∷ []) w at,
        sum_at,
        each,
      )

  pub claims : (slots id : ℕ) (r : ClaimRecord) → r.ended ≡ false
      → Allows Rule slots id (r ∷ [], []) 0 (λ word. (word + 1) % 2 ^ 64) (ClaimTells (r ∷ [], []))
  claims slots id r going s k _ at _ =
      let word : ℕ = k.word in
      let found : get_or s.words 0 0 ≡ word = search (rules, k.words) in
      let small : k.word ≤ 2 ^ 16 + 64 = search (rules, sum_by-le-sum_by, ended-le) in
      let now : set s.words 0 ((get_or s.words 0 0 + 1) % 2 ^ 64) ≡ (word + 1)
      ∷ [] = search (rules, mod-eq_of_lt, k.words) in
      let mine =
      all_at (All (IsClaimKept numbers k.claimed)) s.views id (r ∷ []) at k.each 0 r
      (omega arith) in
      let told : AfterClaim r (get_or s.words 0 0) (after_claim r word ∷ []) =
      search (rules, found, mine.below, k.counts) in
      let ruled : Rule (record s {
        words = set s.words 0 ((get_or s.words 0 0 + 1) % 2 ^ 64);
        views = set s.views id
            (after_claim r word ∷ []);
      }) = search (
        rules,
        mine.numbers_is,
        cases_lt word numbers,
        lt-ltb,
        le-ltb,
        after_number s k id r (set s.words 0 ((get_or s.words 0 0 + 1) % 2 ^ 64)) at,
        after_end s k id r (set s.words 0 ((get_or s.words 0 0 + 1) % 2 ^ 64)) at going,
        now,
      ) in
      (after_claim r word ∷ [], keeps, tt, ruled, (refl, λ x is _. search (rules, told)))

  pub claims_at : (slots id : ℕ) (me : Me (Unit {0}) (List ClaimRecord)) (r : ClaimRecord) (n : ℕ)
      → me.0 ≡ r ∷ [] → me.1 ≡ [] → n ≡ 1 → r.ended ≡ false
      → Allows Rule slots id me 0 (λ word. (word + n) % 2 ^ 64) (ClaimTells me)
  claims_at slots id me r n view bare one going = rw (view, bare, one) (claims slots id r going)

  -- the rule goes by the records, and not by which holder has which
  pub goes_by_records : GoesByRecords Rule
  goes_by_records s views same k =
      search (
        rules,
        sum_regrouped s.views views same (λ (r : ClaimRecord). cond {A = ℕ} r.ended 1 0),
        λ (f : ℕ → ℕ). sum_regrouped s.views views same (λ (r : ClaimRecord). sum_by f r.claims)
            ∙ k.partition f,
        length-regrouped s.views views same,
        all_regrouped s.views views same (IsClaimKept numbers k.claimed) k.each,
        k,
      )

  -- before the first step
  pub begins : numbers ≤ 2 ^ 16 → workers ≤ 64 → Rule (opening (0 ∷ []) []
      (replicate workers (nothing_claimed numbers)))
  begins few_numbers few_workers =
      grind (arith, common_steps, sum_by-replicate, all_one, All-replicate, All-nil)

  -- after the last step
  pub ends : (s : St) (k : Rule s) (id : ℕ) (v : List ClaimRecord) → get_elem? s.views id ≡ some v
      → AreClaimsClosed numbers workers v
  ends s k id v there =
      let each = all_at (All (IsClaimKept numbers k.claimed)) s.views id v there k.each in
      let all =
      λ (whole : length v ≡ workers) (f : ℕ → ℕ).
      sym (whole_weighs (λ (r : ClaimRecord). sum_by f r.claims)
      s.views id v there (k.records ∙ sym whole)) ∙ k.partition f in
      search (rules, each, all, k.within)
