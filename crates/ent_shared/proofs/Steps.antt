-- The rule over the cursor word and the records: it holds before the first step, each step keeps
-- it, and what it says after the last one.
use Rattle.ent_shared.proofs.Common.{known_reservations, low, own_reservations, reservation_at}
use Rattle.ent_shared.proofs.Common.{after_reservation, rules, ◌≡◌, ℕ, ◌+◌, ◌-◌, ◌%◌, ◌^◌, ◌<◌, ◌≤◌}
use Rattle.ent_shared.proofs.Common.{ℤ, pos, ◌-ℤ◌, ◌≤ℤ◌, List, [], ◌∷◌, ◌++◌, length, set, get_or}
use Rattle.ent_shared.proofs.Common.{take, drop, sym, refl, ap, subst, ◌∙◌, arith, ◌==◌, cond}
use Rattle.ent_shared.proofs.Common.{sum_by, All, All-head, All-nil, All-cons, All-append, All-set}
use Rattle.ent_shared.proofs.Common.{IsPermutation-refl, sum_by-cons, sum_by-append, ints, some}
use Rattle.ent_shared.proofs.Common.{get_elem?, Me, keeps, Allows, Splits, Joins, set_else}
use Rattle.ent_shared.proofs.Common.{GoesByRecords, quota, Allocator, cursor, Reservation, Record}
use Rattle.ent_shared.proofs.Common.{after_meeting, met_in, cursor_of, Follow, HasItsReply, IsKept}
use Rattle.ent_shared.proofs.Common.{IsRuled, AfterReserve, ReserveTells, take-append-drop}
use Rattle.ent_shared.proofs.Common.{common_steps, zero, suc, State, opening, opened}
use Rattle.ent_shared.proofs.Common.{opened_records, weigh, IsStart, IsClosed}
use Rattle.ent_shared.proofs.Weighing.{all_one, sum_at, all_at, whole_weighs}
use Rattle.ent_shared.proofs.Regrouping.{sum_regrouped, length-regrouped, all_regrouped, splits}
use Rattle.ent_shared.proofs.Records.{own-made, own-met, kept_on, kept_reserved, kept_met}
use Rattle.ent_shared.proofs.Words.{follow_asked, word_least, word_greatest, lowered}
use Rattle.ent_shared.proofs.Words.{lowered_cursor, numbered, left_of, all_quota}

follow-snoc : (high : ℤ) (cs : List Reservation) (c : Reservation) (end : ℤ) → Follow high cs end
    → c.high ≡ end → 0 < c.requested → Follow high (cs ++ c ∷ []) (low c)
follow-snoc high [] c end f is some_request = search rules
follow-snoc high (d ∷ cs) c end f is some_request =
    (f.0, f.1, follow-snoc (low d) cs c end f.2 is some_request)

module _ (start : Allocator) (count : ℕ) where
  -- before the first step
  weigh-opened : (f : Reservation → ℕ) (number many : ℕ)
      → weigh f (opened_records start number many) ≡ 0
  unfolding opened_records
  weigh-opened f number zero = refl
  weigh-opened f number (suc many) = grind (arith, common_steps, weigh-opened f (number + 1) many)

  length-opened : (number many : ℕ) → length (opened_records start number many) ≡ many
  unfolding opened_records
  length-opened number zero = refl
  length-opened number (suc many) = ap suc (length-opened (number + 1) many)

  numbered-opened : (k number many : ℕ) → (numbered k (opened_records start number many) ≤ 1)
      × (k < number → numbered k (opened_records start number many) ≡ 0)
  unfolding opened_records
  numbered-opened k number zero = (omega arith, λ _. refl)
  numbered-opened k number (suc many) =
      grind (arith, common_steps, numbered-opened k (number + 1) many)

  kept-opened : (at : ℤ) (number : ℕ) → at ≤ℤ cursor start
      → IsKept start at [] (opened start number)
  kept-opened at number le = search (rules, All-nil)

  all_kept-opened : (at : ℤ) (number many : ℕ) → at ≤ℤ cursor start
      → All (IsKept start at []) (opened_records start number many)
  unfolding opened_records
  all_kept-opened at number zero le = All-nil (IsKept start at [])
  all_kept-opened at number (suc many) le =
      search (rules, All-cons, kept-opened, all_kept-opened at (number + 1) many)

  pub begins : (word : ℕ) → IsStart start → count ≤ 1024 → cursor_of word ≡ cursor start
      → IsRuled start count (opening (word ∷ []) [] (opened_records start 0 count))
  begins word is few at =
      let v : List Record = opened_records start 0 count in
      let least : cursor_of word ≤ℤ cursor start = omega (arith, ints) in
      record {
        begins = is;
        few = few;
        word = word;
        words = refl;
        spans =
            record {
              log = [];
              follow = sym at;
              all = λ f. search (rules, sum_by-cons, weigh-opened);
            };
        replied = All-nil (HasItsReply start);
        records = search (rules, sum_by-cons, length-opened);
        numbers = λ number. (
            let sums = sum_by-cons (numbered number) v [] in
            let n = (numbered-opened number 0 count).0 in omega arith);
        each =
            all_one (All (IsKept start (cursor_of word) [])) v
            (all_kept-opened (cursor_of word) 0 count least);
      }

  -- after the last step
  pub ends : (s : State (Unit {0}) (List Record)) (k : IsRuled start count s) (id : ℕ)
      (v : List Record) → get_elem? s.views id ≡ some v → (at : ℤ) → cursor_of k.word ≡ at
      → IsClosed start count v at
  ends s k id v there at here =
      let sums = λ (g : List Record → ℕ). sum_at g s.views id v [] there in
      let each =
      all_at (All (IsKept start (cursor_of k.word) k.spans.log)) s.views id v there k.each in
      record {
        log = k.spans.log;
        follow = search (rules, here);
        replied = k.replied;
        each = search (rules, here, each);
        numbers = λ number. grind (arith, sums (numbered number), k.numbers number);
        some = λ f. grind (arith, sums (weigh f), k.spans.all f);
        all =
            λ whole f.
            sym
            (whole_weighs (λ (r : Record). sum_by f (own_reservations r.entries)) s.views id v there
            (k.records ∙ sym whole)) ∙ k.spans.all f;
        quota = grind (arith, sums left_of, all_quota start count s k);
      }

  pub reserves : (slots id : ℕ) (r : Record) (n : ℕ) → 0 < n → n ≤ r.left
      → Allows (IsRuled start count) slots id (r ∷ [], []) 0
      (λ word. (word + (2 ^ 64 - n)) % 2 ^ 64) (ReserveTells n (r ∷ [], []))
  reserves slots id r n some_request within s k _ at _ =
      let word : ℕ = k.word in
      let found : get_or s.words 0 0 ≡ word = ap (λ (ws : List ℕ). get_or ws 0 0) k.words in
      let log : List Reservation = k.spans.log in
      let high : ℤ = cursor_of word in
      let c : Reservation = reservation_at r high n in
      let w : List Record = after_reservation r high n ∷ [] in
      let mine = all_at (All (IsKept start high log)) s.views id (r ∷ []) at k.each in
      let kept : IsKept start high log r = mine 0 r (omega arith) in
      let mark = kept.marks.mark in
      let sum = kept.quota.quota in
      let small : n ≤ quota = omega arith in
      let least = word_least start count s k in
      let greatest = word_greatest start count s k in
      let next : (get_or s.words 0 0 + (2 ^ 64 - n)) % 2 ^ 64 ≡ word - n =
      ap (λ (x : ℕ). (x + (2 ^ 64 - n)) % 2 ^ 64)
      found ∙ lowered word n least greatest small in
      let now : cursor_of (word - n) ≡ high -ℤ pos n = lowered_cursor word n least small in
      let f = follow_asked (cursor start) log high k.spans.follow in
      let down : (high -ℤ pos n) ≤ℤ high = omega (arith, ints) in
      let up : high ≤ℤ cursor start = omega (arith, ints) in
      let K : ℤ → List Record → Type 0 = λ z v. All (IsKept start z (log ++ c ∷ [])) v in
      let others : All (K (high -ℤ pos n)) s.views =
      λ i v l j x m. kept_on start high (high -ℤ pos n) log (c ∷ []) _
      down (k.each i v l j x m) in
      let told : AfterReserve n r (get_or s.words 0 0) w = search rules in
      let own : K (high -ℤ pos n) w = all_one (IsKept start (high -ℤ pos n) (log ++ c ∷ []))
      (after_reservation r high n) (kept_reserved start high log n r within up kept) in (
        w,
        keeps,
        tt,
        record {
          begins = k.begins;
          few = k.few;
          word = word - n;
          words = search rules;
          spans = record {
            log = log ++ c ∷ [];
            follow = subst (Follow (cursor start) (log ++ c ∷ [])) (sym now)
                (follow-snoc (cursor start) log c high k.spans.follow refl some_request);
            all = λ f. search
                (rules, sum_at, own-made, sum_by-append, sum_by-cons);
          };
          replied =
              All-append (HasItsReply start) log (c ∷ []) k.replied
              (search (rules, all_one, kept.start_is));
          records =
              (let changed = sum_at length s.views id (r ∷ []) w at in let was = k.records in
              omega arith);
          numbers = λ number. let same = sum_at (numbered number) s.views id (r ∷ []) w at in
              let was = k.numbers
              number in omega arith;
          each =
              subst (λ z. All (K z) (set s.views id w)) (sym now)
              (All-set (K (high -ℤ pos n)) s.views id w own
              others);
        },
        (refl, λ x is. search (rules, is, told)),
      )

  pub reserves_at : (slots id : ℕ) (me : Me (Unit {0}) (List Record)) (r : Record) (n m : ℕ)
      → me.0 ≡ r ∷ [] → me.1 ≡ [] → m ≡ n → 0 < n → n ≤ r.left
      → Allows (IsRuled start count) slots id me 0 (λ word. (word + (2 ^ 64 - m)) % 2 ^ 64)
      (ReserveTells m me)
  reserves_at slots id me r n m view bare same some_request within = rw (view, bare, same)
      (reserves slots id r n some_request within)

  -- the rule goes by the records, and not by which holder has which
  pub goes_by_records : GoesByRecords (IsRuled start count)
  goes_by_records s views same k =
      let weighed = sum_regrouped s.views views same in
      let spans =
      λ (f : Reservation → ℕ). weighed (λ (r : Record). sum_by f (own_reservations r.entries))
      ∙ k.spans.all f in
      record {
        begins = k.begins;
        few = k.few;
        word = k.word;
        words = k.words;
        spans = record { log = k.spans.log; follow = k.spans.follow; all = spans };
        replied = k.replied;
        records = length-regrouped s.views views same ∙ k.records;
        numbers =
            λ a. omega (arith, k.numbers a, weighed (λ (r : Record). cond (r.number == a) 1 0));
        each = search (rules, all_regrouped);
      }

  pub meets : (id other : ℕ) (r met : Record)
      → Joins (IsRuled start count) id (r ∷ []) other (met ∷ []) (met_in (r ∷ []) (met ∷ [])) []
  meets id other r met s k at apart there =
      let both : List Record = after_meeting r met ∷ met ∷ [] in
      let views : List (List Record) = set s.views id both in
      let P : List Record → Type 0 = All (IsKept start (cursor_of k.word) k.spans.log) in
      let between : get_elem? s.views other ≡ some (met ∷ []) = search (rules, set_else) in
      let mine = all_at P s.views id (r ∷ []) at k.each in
      let theirs = all_at P s.views other (met ∷ []) between k.each in
      let first = λ (f : List Record → ℕ). sum_at f s.views id (r ∷ []) both at in
      let second = λ (f : List Record → ℕ). sum_at f views other (met ∷ []) [] there in
      let same = own-met r.entries (known_reservations met.entries) in
      record {
        begins = k.begins;
        few = k.few;
        word = k.word;
        words = k.words;
        spans = search (rules, sum_at, same, sum_by-cons);
        replied = k.replied;
        records = omega (arith, first length, second length, k.records);
        numbers = λ a. omega (arith, first (numbered a), second (numbered a), k.numbers a);
        each = All-set P views other [] (All-nil (IsKept start (cursor_of k.word) k.spans.log))
            (All-set P s.views id both (search (rules, All-cons, kept_met, All-head)) k.each);
      }

  pub meets_at : (id other : ℕ) (v w : List Record) (r met : Record) → v ≡ r ∷ [] → w ≡ met ∷ []
      → Joins (IsRuled start count) id v other w (met_in v w) []
  meets_at id other v w r met v_is w_is = search (rules, meets)

  -- the first record stays, and the others go to a holder of their own
  pub splits_others : (id : ℕ) (v : List Record)
      → Splits (IsRuled start count) id v (take 1 v) (drop 1 v)
  splits_others id v = search (rules, splits, goes_by_records, take-append-drop, IsPermutation-refl)
