-- Outputs put at the numbers of their jobs, which were done once each: each is there at its number.
use Rattle.ent_runner.proofs.Common.{common_steps, rules, append_assoc, ◌≡◌, ℕ, ◌+◌, ◌<◌, ◌≤◌, List}
use Rattle.ent_runner.proofs.Common.{[], ◌∷◌, ◌++◌, length, map, get_or, refl, ap, ◌∙◌, arith}
use Rattle.ent_runner.proofs.Common.{Option, Some, cond, eq-eqb, suc, slice_set, ◌==◌, All, sum_by}
use Rattle.ent_runner.proofs.Common.{All-nil, All-cons, All-rest, sum_by-cons, get_or-set_same}
use Rattle.ent_runner.proofs.Common.{get_or-set_other, length-set, map-append, Done, outputs_put}
use Rattle.ent_runner.proofs.Common.{AreCollected, error_in, first_error, first_some, is_some, true}
use Rattle.ent_runner.proofs.Common.{false, true≢false, None, inl, inr, ne_eqb, slice_get}
use Rattle.ent_runner.proofs.Common.{replicate, IsSome, range_with_len, IsPermutation, cases_eq}
use Rattle.ent_runner.proofs.Common.{slice_get-get_or, length-replicate, replicate-append-replicate}
use Rattle.ent_runner.proofs.Common.{set-append_left, ◌-◌, length-map, get_or-replicate, All-head}
use Rattle.ent_runner.proofs.Common.{All-right, All-tail, sym, sum_by-IsPermutation}
use Rattle.ent_runner.proofs.Common.{All-permutation, IsPermutation-sym, DidAll, numbers_of}
use Rattle.ent_runner.proofs.Common.{HaveEnded}
use Rattle.ent_runner.proofs.Lists.{each_of_all, sum_map, mapped_at, of_mapped, all_below}
use Rattle.ent_runner.proofs.Counting.{is, in_range}

module _ {O : Type 0} where
  -- how often a number is there among these
  abbrev pub is_of : ℕ → Done O → ℕ
  is_of n d = cond (d.number == n) 1 0

  abbrev pub times : ℕ → List (Done O) → ℕ
  times n done = sum_by (is_of n) done

  pub times_here : (n : ℕ) (d : Done O) → d.number ≡ n → is_of n d ≡ 1
  times_here n d e = ap (λ b. cond b 1 0) (eq-eqb d.number n e)

  pub length_put : (done : List (Done O)) (by_number : List (Option O))
      → length (outputs_put done by_number) ≡ length by_number
  length_put [] by_number = refl
  length_put (d ∷ done) by_number = search (rules, length_put done, length-set)

  pub put_both : (xs ys : List (Done O)) (by_number : List (Option O))
      → outputs_put (xs ++ ys) by_number ≡ outputs_put ys (outputs_put xs by_number)
  put_both [] ys by_number = refl
  put_both (d ∷ xs) ys by_number = put_both xs ys (slice_set by_number d.number (Some d.output))

  -- what is not named stays
  pub put_other : (n : ℕ) (e : Option O) (done : List (Done O)) (by_number : List (Option O))
      → times n done ≡ 0 → get_or (outputs_put done by_number) n e ≡ get_or by_number n e
  put_other n e [] by_number none = refl
  put_other n e (d ∷ done) by_number none =
      search (rules, sum_by-cons (is_of n) d done, put_other n e done, get_or-set_other)

  pub all_put : (e : Option O) (done : List (Done O)) (by_number : List (Option O))
      → All (λ (d : Done O). d.number < length by_number) done → ((n : ℕ) → times n done ≤ 1)
      → All (λ (d : Done O). get_or (outputs_put done by_number) d.number e ≡ Some d.output) done
  all_put e [] by_number inside once = search (rules, All-nil)
  all_put e (d ∷ done) by_number inside once =
      let sums : (n : ℕ) → times n (d ∷ done) ≡ is_of n d + times n done =
      λ n. sum_by-cons (is_of n) d done in
      let alone : times d.number done ≡ 0 = grind (arith, common_steps, times_here) in
      let put = length-set by_number d.number (Some d.output) in
      let rest =
      all_put e done (slice_set by_number d.number (Some d.output))
      (λ k f within. rw put (inside (suc k) f
      (omega arith))) (λ n. omega (arith, sums n, once n)) in
      search (rules, All-cons, put_other, alone, get_or-set_same, rest, inside 0 d (omega arith))

  -- what stands behind them stays
  pub put_front : (done : List (Done O)) (xs ys : List (Option O))
      → All (λ (d : Done O). d.number < length xs) done
      → outputs_put done (xs ++ ys) ≡ outputs_put done xs ++ ys
  put_front [] xs ys inside = refl
  put_front (d ∷ done) xs ys inside =
      let P : Done O → Type 0 = λ d. d.number < length xs in
      let rest = All-tail P d done inside in
      search (
        rules,
        set-append_left xs ys d.number (Some d.output) (All-head P d done inside),
        put_front done (slice_set xs d.number (Some d.output)) ys
            (rw (length-set xs d.number (Some d.output)) rest),
      )

  -- one more output is put at its number
  pub put_on : (rest new : List (Done O)) (d : Done O) (by_number next all : List (Option O))
      → rest ≡ d ∷ new → next ≡ slice_set by_number d.number (Some d.output)
      → All (λ (f : Done O). f.number < length by_number) rest → outputs_put rest by_number ≡ all
      → All (λ (f : Done O). f.number < length next) new × (outputs_put new next ≡ all)
  put_on rest new d by_number next all front set inside same =
      search (
        rules,
        length-set,
        All-rest (λ (f : Done O). f.number < length by_number) d new rest front inside,
      )

-- one more output is moved out
pub collected_on : {O E : Type 0} (rest new : List (Option (O × Option E))) (q : O × Option E)
    (before after : List O) (all : List (Option (O × Option E))) → rest ≡ Some q ∷ new
    → after ≡ before ++ q.0 ∷ [] → AreCollected all rest before
    → AreCollected all new after × (length rest ≡ length new + 1)
collected_on rest new q before after all front push same = (
  record {
    made = same.made ++ q ∷ [];
    all = search (rules, same.all, front, map-append, append_assoc);
    outputs_are = search (rules, same.outputs_are, push, map-append);
  },
  ap length front ∙ omega arith,
)

-- the next one is there, if all are
pub next_there : {O : Type 0} (before : List O) (rest new all : List (Option O)) (front : Option O)
    → map Some before ++ rest ≡ all → rest ≡ front ∷ new → All IsSome all → IsSome front
next_there before rest new all front same is there =
    All-head IsSome front new
    (rw is at (All-right IsSome (map Some before) rest (rw (sym same) at there)))

module _ {O : Type 0} where
  -- an element that is there so often is somewhere
  found : (n : ℕ) (done : List (Done O)) → 0 < times n done
      → (k : ℕ) × (d : Done O) × (slice_get done k ≡ Some d) × (d.number ≡ n)
  found n [] some = absurd (omega arith)
  found n (d ∷ done) some = elim (cases_eq d.number n) [
    | inl e ↦ (0, d, refl, e)
    | inr ne ↦ let rest = found n done (search (rules, ne_eqb, sum_by-cons)) in
        (suc rest.0, rest.1, rest.2, rest.3)
  ]

  abbrev none : Option O
  none = None

  module _ (count : ℕ) (done : List (Done O))
      (once : IsPermutation (numbers_of done) (range_with_len 0 count)) where
    pub counts : (n : ℕ) → times n done ≡ sum_by (is n) (range_with_len 0 count)
    counts n =
        search (
          rules,
          sum_map (is n) (λ (d : Done O). d.number) done,
          sum_by-IsPermutation (is n) _ _ once,
        )

    pub inside : All (λ (d : Done O). d.number < count) done
    inside = search (
      rules,
      of_mapped (λ n. n < count) (λ (d : Done O). d.number) done,
      All-permutation (λ n. n < count) (range_with_len 0 count) (numbers_of done),
      IsPermutation-sym,
      all_below,
    )

    -- each output is there at its number
    pub stand : (e : Option O)
        → All
        (λ (d : Done O). get_or (outputs_put done (replicate count None)) d.number e
        ≡ Some d.output) done
    stand e =
        search (rules, length-replicate, inside, all_put, counts, λ (n : ℕ). (in_range n 0 count).0)

    -- and each job has one
    pub found_at : (n : ℕ) → n < count
        → (k : ℕ) × (d : Done O) × (slice_get done k ≡ Some d) × (d.number ≡ n)
    found_at n less = search (rules, found, counts, in_range n 0 count)

    pub full : All IsSome (outputs_put done (replicate count None))
    full n e within =
        search (
          rules,
          arith,
          found_at n,
          length_put done (replicate count none),
          length-replicate count none,
          each_of_all
              (λ (d : Done O). get_or (outputs_put done (replicate count none)) d.number e
              ≡ Some d.output) done,
          stand e,
        )

    -- behind them none is put
    pub put_first : (numbers : ℕ) → count ≤ numbers → outputs_put done (replicate numbers None)
        ≡ outputs_put done (replicate count None) ++ replicate (numbers - count) None
    put_first numbers less = search (
      rules,
      arith,
      put_front done (replicate count none) (replicate (numbers - count) none),
      replicate-append-replicate count (numbers - count) none,
      length-replicate count none,
      inside,
    )

    -- one that was not done has none
    pub left_out : (numbers n : ℕ) (e : Option O) → count ≤ n → n < numbers
        → get_or (outputs_put done (replicate numbers None)) n e ≡ None
    left_out numbers n e past less =
        search (rules, put_other, counts, in_range n 0 count, get_or-replicate)

    module _ (outputs : List O) (whole : map Some outputs ≡ outputs_put done (replicate count None))
      where
        pub long : length outputs ≡ count
        long = search (rules, length-map, length_put, length-replicate)

        pub outputs_at : All (λ (d : Done O). slice_get outputs d.number ≡ Some d.output) done
        outputs_at k e within = search (
          rules,
          arith,
          mapped_at Some outputs (get_or done k e).number (Some (get_or done k e).output),
          slice_get-get_or (map Some outputs) (get_or done k e).number None,
          inside k e within,
          long,
          length-map outputs Some,
          stand None k e within,
        )

  -- what is there for all
  pub unwrapped : (os : List (Option O)) → All IsSome os → (xs : List O) × (map Some xs ≡ os)
  unwrapped [] all = ([], refl)
  unwrapped (None ∷ os) all = absurd (let none = All-head IsSome None os all in cc)
  unwrapped (Some x ∷ os) all =
      let rest = unwrapped os (All-tail IsSome (Some x) os all) in
      (x ∷ rest.0, ap (λ ys. Some x ∷ ys) rest.1)

  module _ {L : Type 0} (may : ℕ → L → O → L → Type 0) (outputs : List O) where
    -- jobs that were kept with their outputs are those with their outputs at their numbers
    pub kept_all : (a : L) (done : List (Done O)) (b : L)
        → All (λ (d : Done O). slice_get outputs d.number ≡ Some d.output) done
        → HaveEnded may a done b → DidAll may outputs a (numbers_of done) b
    kept_all a [] b at ended = ended
    kept_all a (d ∷ done) b at ended = search (
      rules,
      ended,
      kept_all ended.0 done b,
      All-head (λ (d : Done O). slice_get outputs d.number ≡ Some d.output) d done at,
      All-tail (λ (d : Done O). slice_get outputs d.number ≡ Some d.output) d done at,
    )

-- Whether the first of these is there, it is the first one.
first_here : {X : Type 0} (x : Option X) (more : List (Option X)) → is_some x ≡ true
    → first_some (x ∷ more) ≡ x
first_here None more there = absurd (true≢false (sym there))
first_here (Some x) more there = refl

first_next : {X : Type 0} (x : Option X) (more : List (Option X)) → is_some x ≡ false
    → first_some (x ∷ more) ≡ first_some more
first_next None more none = refl
first_next (Some x) more none = absurd (true≢false none)

-- the first error is that of the front, or of the rest
module _ {O E : Type 0} (rest new : List (Option (O × Option E))) (made : Option (O × Option E))
    (error : Option E)
    (front : rest ≡ made ∷ new) (is : error ≡ error_in made) where
  pub error_here : is_some error ≡ true → error ≡ first_error rest
  error_here there =
      is
      ∙ (sym (first_here (error_in made) (map error_in new) (rw is at there))
      ∙ ap first_error (sym front))

  pub error_later : is_some error ≡ false → first_error new ≡ first_error rest
  error_later none = sym (first_next (error_in made) (map error_in new) (rw is at none))
      ∙ ap first_error (sym front)
