use borrow.Author.Count.{below_more}
use Rattle.ent_storage.proofs.Common.{rules, ◌≡◌, ℕ, ap, ◌∙◌, arith, get_or_default, Column}
use Rattle.ent_storage.proofs.Common.{HasRoomFor, no_column, column_at, fin_empty}
use Rattle.ent_storage.proofs.Missing.{on_err}
use Rattle.ent_storage.proofs.columns.reserve_for.Goals.{After-index-source-number}
use Rattle.ent_storage.proofs.columns.reserve_for.Goals as goal

-- the column of the source that is read
here : (c : After-index-source-number)
    → c.index-source-number.result ≡ column_at c.args.source.now c.loop-number.number
here c = c.index-source-number.is
    ∙ get_or_default c.args.source.now c.loop-number.number _ no_column
    (omega (arith, c.loop-number-test.true))

pub returns-in_err-reserve_one_for-clause-memory : goal.returns-in_err-reserve_one_for-clause-memory
returns-in_err-reserve_one_for-clause-memory c =
    let at =
    here (goal.at.returns-in_err-reserve_one_for-clause-memory c).After-index-source-number in
    let some : ((n : ℕ) → (column_at c.args.source.now n).values ≡ fin_empty) → ⊥ =
    λ none. c.in_err-reserve_one_for.ensures.memory
    (ap (λ (m : Column). m.values) at ∙ none c.loop-number.number) in
    on_err _ some

pub loop-number-preserved : goal.loop-number-preserved
loop-number-preserved c =
    let at = here (goal.at.loop-number-preserved c).After-index-source-number in
    record {
      values = search rules;
      room = below_more (λ k. HasRoomFor (column_at c.reserve_one_for.new.columns.items k)
          (column_at c.args.source.now k)) c.loop-number.number
          (λ k l. c.reserve_one_for.ensures.kept k _ (c.loop-number.invariant.room k l))
          (rw (← at) c.in_ok-reserve_one_for.ensures.ok);
      numbered = search rules;
      in_use = search rules;
    }
