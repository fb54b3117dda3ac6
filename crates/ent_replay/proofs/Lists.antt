-- Lists of which one element is taken out, and orders of lines of which one overlaps nothing: an
-- order of those before it, that line, and an order of those after it.
use Rattle.ent_replay.proofs.Common.{rules, ◌≡◌, Bool, true, false, List, [], ◌∷◌, ◌++◌, filter}
use Rattle.ent_replay.proofs.Common.{refl, inl, inr, cases_Bool, filter-append, AllByRecursion}
use Rattle.ent_replay.proofs.Common.{common_steps, arith, subst, ◌⊎◌, append_assoc, Call}
use Rattle.ent_replay.proofs.Common.{Reservation, MayPass, IsAlone, IsOrderOf, reserve_lines}
use Rattle.ent_replay.specs.declared.trace.call.Call.TheVariants as line

-- what holds of all
module _ {X : Type 0} (P : X → Type 0) where
  pub all_parts : (xs ys : List X) → AllByRecursion P (xs ++ ys)
      → AllByRecursion P xs × AllByRecursion P ys
  all_parts [] ys all = (tt, all)
  all_parts (x ∷ xs) ys all = let more = all_parts xs ys all.1 in ((all.0, more.0), more.1)

  pub all_at : (before after : List X) (x : X) → AllByRecursion P (before ++ x ∷ after) → P x
  all_at before after x all = (all_parts before (x ∷ after) all).1.0

  pub all_without : (before after : List X) (x : X) → AllByRecursion P (before ++ x ∷ after)
      → AllByRecursion P (before ++ after)
  all_without [] after x all = all.1
  all_without (b ∷ before) after x all = (all.0, all_without before after x all.1)

  pub all_push : (xs : List X) (x : X) → AllByRecursion P xs → P x → AllByRecursion P (xs ++ x ∷ [])
  all_push [] x all here = (here, tt)
  all_push (y ∷ xs) x all here = (all.0, all_push xs x all.1 here)

  pub all_weaker : (Q : X → Type 0) → ((x : X) → P x → Q x) → (xs : List X) → AllByRecursion P xs
      → AllByRecursion Q xs
  all_weaker Q each [] all = tt
  all_weaker Q each (x ∷ xs) all = (each x all.0, all_weaker Q each xs all.1)

pub no_middle : {X : Type 0} (before after : List X) (x : X) → before ++ x ∷ after ≡ [] → ⊥
no_middle [] after x e = cc
no_middle (b ∷ before) after x e = cc

-- what a filter keeps
module _ {X : Type 0} (f : X → Bool) where
  pub none_kept : (xs : List X) → AllByRecursion (λ b. f b ≡ false) xs → filter f xs ≡ []
  none_kept [] none = refl
  none_kept (b ∷ xs) none = simp none.0 (none_kept xs none.1)

  -- an element may come before those that aren't kept with it
  pub kept_forward : (before after : List X) (x : X) → (f x ≡ true → filter f before ≡ [])
      → filter f (x ∷ (before ++ after)) ≡ filter f (before ++ x ∷ after)
  kept_forward before after x none = search (rules, cases_Bool, filter-append)

  pub kept_rest : (xs ys : List X) (x : X) → filter f (x ∷ xs) ≡ filter f (x ∷ ys)
      → filter f xs ≡ filter f ys
  kept_rest xs ys x e = search (rules, cases_Bool)

-- a list that a filter begins with an element
pub record Splits {X : Type 0} (p : X → Bool) (h : X) (rest xs : List X) : Type 0 where
  pub before : List X
  pub after : List X
  pub is : xs ≡ before ++ h ∷ after
  pub none : AllByRecursion (λ b. p b ≡ false) before
  pub rest_is : filter p after ≡ rest

module _ {X : Type 0} (p : X → Bool) (h : X) (rest : List X) where
  pub split : (xs : List X) → filter p xs ≡ h ∷ rest → Splits p h rest xs
  split [] e = absurd (let no : [] ≡ h ∷ rest = e in cc)
  split (d ∷ xs) e = elim (cases_Bool (p d)) [
    | inl passes ↦
        let here : d ∷ filter p xs ≡ h ∷ rest = simp passes at e in
        record { before = []; after = xs; is = cc; none = tt; rest_is = cc }
    | inr fails ↦
        let s = split xs (simp fails at e) in
        record {
          before = d ∷ s.before;
          after = s.after;
          is = cc s.is;
          none = (fails, s.none);
          rest_is = s.rest_is;
        }
  ]

abbrev pub IsReserve : Call → Type 0
IsReserve (line.Reserve r) = Unit {0}
IsReserve other = ⊥

pub all_reserve : (run : List Reservation) → AllByRecursion IsReserve (reserve_lines run)
all_reserve [] = tt
all_reserve (r ∷ run) = (tt, all_reserve run)

-- where an element stands in a list that another one parts
module _ {X : Type 0} where
  pub record InFront (front rest before after : List X) (x l : X) : Type 0 where
    pub more : List X
    pub front_is : front ≡ before ++ l ∷ more
    pub after_is : after ≡ more ++ x ∷ rest

  pub record Itself (front rest before after : List X) (x l : X) : Type 0 where
    pub before_is : before ≡ front
    pub is : l ≡ x
    pub after_is : after ≡ rest

  pub record Behind (front rest before after : List X) (x l : X) : Type 0 where
    pub more : List X
    pub before_is : before ≡ front ++ x ∷ more
    pub rest_is : rest ≡ more ++ l ∷ after

  pub parted : (front rest before after : List X) (x l : X)
      → front ++ x ∷ rest ≡ before ++ l ∷ after
      → InFront front rest before after x l
      ⊎ (Itself front rest before after x l ⊎ Behind front rest before after x l)
  parted [] rest [] after x l e = search rules
  parted (f ∷ front) rest (b ∷ before) after x l e =
      let others : front ++ x ∷ rest ≡ before ++ l ∷ after = cc in
      grind (arith, common_steps, parted front rest before after x l others)
  parted _ rest _ after x l e = search rules

  -- an element is the one that is taken out, or it is among the others
  pub itself_or : (P : X → Type 0) (front rest before after : List X) (x l : X)
      → front ++ x ∷ rest ≡ before ++ l ∷ after → AllByRecursion P (front ++ rest)
      → P l ⊎ Itself front rest before after x l
  itself_or P front rest before after x l e all = search
      (rules, parted front rest before after x l e, all_at P, all_parts P front rest all)

not_passed : (l x : Call) → IsAlone x → MayPass l x → ⊥
not_passed l other alone p = search rules

none_before : (x : Call) (front : List Call) → IsAlone x → AllByRecursion (MayPass x) front
    → front ≡ []
none_before x [] alone all = refl
none_before x (y ∷ front) alone all = absurd (grind (arith, common_steps))

pub record Parts (front rest order : List Call) (x : Call) : Type 0 where
  pub first : List Call
  pub second : List Call
  pub is : order ≡ first ++ x ∷ second
  pub first_is : IsOrderOf front first
  pub second_is : IsOrderOf rest second

pub parts : (front rest : List Call) (x : Call) (order : List Call) → AllByRecursion IsReserve front
    → IsAlone x → IsOrderOf (front ++ x ∷ rest) order → Parts front rest order x
parts front rest x [] reserves alone e = absurd (no_middle front rest x e)
parts front rest x (l ∷ order) reserves alone (before, after, is, passes, more) = elim
    (parted front rest before after x l is) [
      | inl p ↦
          let here =
          subst (λ (ls : List Call). IsOrderOf ls order)
          (grind (arith, common_steps, append_assoc)) more in
          let left = all_without IsReserve before p.more l (rw (← p.front_is) reserves) in
          let next = parts (before ++ p.more) rest x order left alone here in
          record {
            first = l ∷ next.first;
            second = next.second;
            is = cc next.is;
            first_is = (before, p.more, p.front_is, passes, next.first_is);
            second_is = next.second_is;
          }
      | inr it ↦ search (rules, none_before, not_passed, all_at (MayPass l) front)
    ]
