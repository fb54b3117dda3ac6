-- What lists of reservers are while they are walked, and what they reserve with is taken or put.
use Rattle.ent_total.proofs.Common.{◌≡◌, ◌∙◌, refl, ap, sym, ℕ, ◌<◌, ◌+◌, ◌≤◌, List, All}
use Rattle.ent_total.proofs.Common.{[], ◌∷◌, ◌++◌, arith, length, map, take, drop}
use Rattle.ent_total.specs.Lending.{AreFrom, AreLent, lent_out, returned}
use Rattle.ent_total.specs.Phases.{Reserver, reservers_of}
use Rattle.std.specs.Prelude.{suc, ◌⊎◌, Result, Ok, Err, IfErr}
use Rattle.std.proofs.Common.{inl, inr, ⊎_elim}
use Rattle.ent_runner.specs.RunErrors.{IfLost, IfNotLost}
use Rattle.ent_runner.specs.declared.run_error.RunError.{RunError}
use Rattle.ent_runner.specs.declared.run_error.RunError.TheVariants as failed
use Rattle.std.proofs.lemmas.List.Elements.{All-cons, All-map, All-nil, All-same, All-tail}
use Rattle.ent_blocks.specs.Blocks.{Reserver as BlockReserver}
use Rattle.std.proofs.Common.{get_or, set}
use Rattle.std.proofs.lemmas.List.{length-map, length-take, drop_more, get_or_at, length-append}
use Rattle.std.proofs.lemmas.List.{take-append-drop}

-- the item at the place that a walk has reached is still what it was
pub unchanged_yet : {X : Type 0} (f : X → X) (xs ys : List X) (i : ℕ) (x : X) → i < length xs
    → ys ≡ map f (take i xs) ++ drop i xs → x ≡ get_or ys i x → x ≡ get_or xs i x
unchanged_yet f xs ys i x lt h is =
    let front = map f (take i xs) in
    let long : length front ≡ i = length-map (take i xs) f ∙ omega (arith, length-take i xs) in
    let parts : ys ≡ front ++ get_or xs i x ∷ drop (i + 1) xs =
    h ∙ ap (λ l. front ++ l) (drop_more xs i x lt) in
    is ∙ ap (λ l. get_or l i x) parts ∙ get_or_at front _ _ x i long

module _ {S : Type 0} where
  pub returned_more : (rs : List (Reserver S BlockReserver)) (back : List BlockReserver)
      (d : Reserver S BlockReserver) (b : BlockReserver) → length back < length rs
      → set (returned rs back) (length back)
      (record (get_or (returned rs back) (length back) d) { reserver = b })
      ≡ returned rs (back ++ b ∷ [])
  returned_more [] back d b lt = absurd (omega arith)
  returned_more (r ∷ rs) [] d b lt = refl
  returned_more (r ∷ rs) (x ∷ back) d b lt =
      ap (λ l. record r { reserver = x } ∷ l) (returned_more rs back d b (omega arith))

  -- what is put back changes no source
  pub sources_stay : (s : S) (rs : List (Reserver S BlockReserver)) (back : List BlockReserver)
      → AreFrom s rs → AreFrom s (returned rs back)
  sources_stay s rs [] from = from
  sources_stay s [] (b ∷ back) from = from
  sources_stay s (r ∷ rs) (b ∷ back) from =
      All-cons (λ (x : Reserver S BlockReserver). x.source ≡ s) _ _ (from 0 r (omega arith))
      (sources_stay s rs back (All-tail (λ (x : Reserver S BlockReserver). x.source ≡ s) r rs from))

  pub sources_lent : (s : S) (rs : List (Reserver S BlockReserver)) → AreFrom s rs
      → AreFrom s (map lent_out rs)
  sources_lent s rs from = All-map (λ (x : Reserver S BlockReserver). x.source ≡ s) lent_out rs from

  pub length-returned : (rs : List (Reserver S BlockReserver)) (back : List BlockReserver)
      → length (returned rs back) ≡ length rs
  length-returned rs [] = refl
  length-returned [] (b ∷ back) = refl
  length-returned (r ∷ rs) (b ∷ back) = ap suc (length-returned rs back)

  -- all of them are returned as they were
  pub returned_all : (rs : List (Reserver S BlockReserver))
      → returned rs (reservers_of rs) ≡ rs
  returned_all [] = refl
  returned_all (r ∷ rs) = ap (λ l. r ∷ l) (returned_all rs)

  pub returned_lent : (rs : List (Reserver S BlockReserver)) (back : List BlockReserver)
      → length back ≡ length rs → returned (map lent_out rs) back ≡ returned rs back
  returned_lent [] [] same = refl
  returned_lent [] (b ∷ back) same = absurd (omega arith)
  returned_lent (r ∷ rs) [] same = absurd (omega arith)
  returned_lent (r ∷ rs) (b ∷ back) same =
      ap (λ l. record r { reserver = b } ∷ l) (returned_lent rs back (omega arith))

  pub reservers-returned : (rs : List (Reserver S BlockReserver)) (back : List BlockReserver)
      → length back ≡ length rs → reservers_of (returned rs back) ≡ back
  reservers-returned [] [] same = refl
  reservers-returned [] (b ∷ back) same = absurd (omega arith)
  reservers-returned (r ∷ rs) [] same = absurd (omega arith)
  reservers-returned (r ∷ rs) (b ∷ back) same =
      ap (λ l. b ∷ l) (reservers-returned rs back (omega arith))

-- a walk leaves as many items as there are
pub walked_length : {X : Type 0} (f : X → X) (xs ys : List X) (i : ℕ)
    → ys ≡ map f (take i xs) ++ drop i xs → length ys ≡ length xs
walked_length f xs ys i is =
    ap length is ∙ length-append (map f (take i xs)) (drop i xs)
    ∙ ap (λ n. n + length (drop i xs)) (length-map (take i xs) f)
    ∙ sym (length-append (take i xs) (drop i xs)) ∙ ap length (take-append-drop i xs)

-- Reservers that were lent out, after they got back what a run of systems handed back.
module _ {S : Type 0} (old new : List (Reserver S BlockReserver)) (back : List BlockReserver)
    (is : new ≡ returned (map lent_out old) back) where
  -- all came back
  module _ (many : length back ≡ length old) where
    whole : new ≡ returned old back
    whole = is ∙ returned_lent old back many

    pub all_back : reservers_of new ≡ back
    all_back = ap reservers_of whole ∙ reservers-returned old back many

    same_back : new ≡ returned old (reservers_of new)
    same_back = whole ∙ ap (returned old) (sym all_back)

    pub lent_ok : {X E : Type 0} (x : X) → AreLent {X = X} {E = E} old new (Ok x)
    lent_ok x = record { same = same_back; as_they_were = tt; used_up = tt }

  -- none came back
  module _ (none : back ≡ []) where
    none_back : new ≡ map lent_out old
    none_back = is ∙ ap (returned (map lent_out old)) none

    lent_returned : (rs : List (Reserver S BlockReserver))
        → map lent_out rs ≡ returned rs (reservers_of (map lent_out rs))
    lent_returned [] = refl
    lent_returned (r ∷ rs) = ap (λ l. lent_out r ∷ l) (lent_returned rs)

    same_if_none : new ≡ returned old (reservers_of new)
    same_if_none =
        none_back ∙ lent_returned old ∙ ap (λ l. returned old (reservers_of l)) (sym none_back)

  -- they came back as they were
  module _ (same : back ≡ reservers_of old) where
    as_many : length back ≡ length old
    as_many = ap length same ∙ length-map old (λ r. r.reserver)

    unchanged_back : new ≡ old
    unchanged_back =
        is ∙ returned_lent old back as_many ∙ ap (returned old) same ∙ returned_all old

  -- all came back as they were, or none
  pub lent_err : {X E : Type 0} (e : RunError E) → IfNotLost (back ≡ reservers_of old) e
      → IfLost (λ _. back ≡ []) e → AreLent {X = X} old new (Err e)
  lent_err (failed.Lost error) same none =
      record { same = same_if_none none; as_they_were = tt; used_up = none_back none }
  lent_err _ same none = record {
    same = same_back (as_many same);
    as_they_were = unchanged_back same;
    used_up = tt;
  }

module _ {E : Type 0} where
  -- nothing was lent
  pub none_lent : {S X : Type 0} (rs : List (Reserver S BlockReserver)) (r : Result X (RunError E))
      → IfErr r (IfLost (λ _. ⊥)) → AreLent rs rs r
  none_lent rs (Ok x) never = record { same = sym (returned_all rs); as_they_were = tt; used_up = tt }
  none_lent rs (Err (failed.Lost error)) never = absurd never
  none_lent rs (Err _) never =
      record { same = sym (returned_all rs); as_they_were = refl; used_up = tt }

  -- a run that failed hands back all as they were, or none
  pub all_or_none : {X : Type 0} (e : RunError E) (back lent : List X) → IfNotLost (back ≡ lent) e
      → IfLost (λ _. back ≡ []) e → (back ≡ lent) ⊎ (back ≡ [])
  all_or_none (failed.Lost error) back lent same none = inr none
  all_or_none _ back lent same none = inl same

-- so each of those is what each of these is, and there are no more
module _ {X : Type 0} (back lent : List X) (are : (back ≡ lent) ⊎ (back ≡ [])) where
  pub own_if : (P : X → Type 0) → All P lent → All P back
  own_if P all =
      ⊎_elim (λ same. All-same P back lent same all) (λ none. All-same P back [] none (All-nil P)) are

  pub few_if : length back ≤ length lent
  few_if = ⊎_elim
      (λ same. let long = ap length same in omega arith)
      (λ none. let long = ap length none in omega arith)
      are
