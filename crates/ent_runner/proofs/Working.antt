-- A worker does one job after the other. Two parts of the workers have worked, so all of them have.
use Rattle.ent_runner.proofs.Common.{rules, ◌≡◌, ℕ, List, [], ◌∷◌, ◌++◌, is_err, false, true≢false}
use Rattle.ent_runner.proofs.Common.{OnOk, FoldsTo-push, map-append, Done, numbers_of, HaveEnded}
use Rattle.ent_runner.proofs.Common.{HasStoppedAt, Result, ◌-◌, length, arith, sym, cases_lt}
use Rattle.ent_runner.proofs.Common.{length-append, get_or_append_left, get_or-append_right, Claims}
use Rattle.ent_runner.proofs.Common.{Worker, HaveAllWorked}

module _ {O : Type 0} where
  pub numbers_more : (done next : List (Done O)) (d : Done O) (claims more : List ℕ)
      → next ≡ done ++ d ∷ [] → numbers_of done ≡ claims → more ≡ claims ++ d.number ∷ []
      → numbers_of next ≡ more
  numbers_more done next d claims more pushed same claimed = search (rules, map-append)

  module _ {L : Type 0} (may leave : ℕ → L → O → L → Type 0) where
    -- one job more
    pub ended_more : (a b c : L) (done next : List (Done O)) (d : Done O) → HaveEnded may a done b
        → may d.number b d.output c → next ≡ done ++ d ∷ [] → HaveEnded may a next c
    ended_more a b c done next d ended may_it pushed = search (rules, FoldsTo-push)

    -- and one more, which stopped
    pub stopped_at : (a b c : L) (done next : List (Done O)) (d : Done O) → HaveEnded may a done b
        → leave d.number b d.output c → next ≡ done ++ d ∷ [] → HasStoppedAt may leave a next c
    stopped_at a b c done next d ended left pushed = search rules

-- what a test of a result tells
pub on_ok : {X E : Type 0} {P : Type 0} (r : Result X E) → is_err r ≡ false → OnOk r P → P
on_ok it test p = search (rules, true≢false)

module _ {O L : Type 0} (may leave : ℕ → L → O → L → Type 0) (may_have : L → Type 0)
    (claims : Claims) where
  abbrev HaveDone : List L → List L → List (Worker O) → Type 0
  HaveDone before after team = HaveAllWorked may leave may_have claims before after team

  pub both_worked : (first first' second second' before : List L) (front back : List (Worker O))
      → first ++ second ≡ before → HaveDone first first' front → HaveDone second second' back
      → HaveDone before (first' ++ second') (front ++ back)
  both_worked first first' second second' before front back parts one other =
      let teams = length-append front back in
      let befores = length-append first second in
      let afters = length-append first' second' in
      rw (sym parts) (record {
        count = omega (arith, one.count, other.count);
        lent = omega (arith, one.lent, other.lent);
        each = λ k d e f less. search (
          rules,
          cases_lt k (length first),
          get_or_append_left,
          get_or-append_right,
          one.each k d e f,
          other.each (k - length first) d e f,
          one.lent,
          one.count,
        );
      })
