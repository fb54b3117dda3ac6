use Rattle.ent_total.proofs.Common.{rules, ◌≡◌, ◌∙◌, ap, sym, arith, length, ◌⊎◌, []}
use Rattle.std.proofs.lemmas.List.{length-map}
use Rattle.ent_blocks.specs.Drawing.{IsOfPhase}
use Rattle.ent_total.proofs.Lent.{sources_lent, lent_ok, lent_err, none_lent, all_back, all_or_none}
use Rattle.ent_total.proofs.Lent.{own_if, few_if}
use Rattle.ent_total.specs.Lending.{AreFrom, lent_out}
use Rattle.ent_total.specs.Phases.{Reserver}
use Rattle.ent_total.proofs.running_in_blocks.run_lent.Given as given
use Rattle.ent_total.proofs.running_in_blocks.run_lent.Goals.{In-Ok, In-Ok-run_in_blocks}
use Rattle.ent_total.proofs.running_in_blocks.run_lent.Goals.{In-Err}
use Rattle.ent_total.proofs.running_in_blocks.run_lent.Goals as goal

pub returns-in_err-check_run-clause-lent : goal.returns-in_err-check_run-clause-lent
returns-in_err-check_run-clause-lent g c =
    let was = c.in_err-check_run.ensures.not_lost in
    none_lent c.args.reservers.now _ (search (rules, was))

pub returns-then-not-are_of-clause-lent : goal.returns-then-not-are_of-clause-lent
returns-then-not-are_of-clause-lent g c = search (rules, none_lent)

pub returns-in_default-clause-lent : goal.returns-in_default-clause-lent
returns-in_default-clause-lent g c =
    let err = c.in_default.ensures.err in
    search (rules, none_lent, err)

-- all of them reserve from this phase
from : (g : given.Over) (c : In-Ok g) → AreFrom c.args.phase.now.source c.args.reservers.now
from g c = c.are_of.ensures.source c.if-not-are_of.false

pub run_in_blocks-requires-clause-own : goal.run_in_blocks-requires-clause-own
run_in_blocks-requires-clause-own g c κs within =
    let own = c.in-Ok.ensures.own c.args.phase.now.source
    (c.are_of.ensures.source c.if-not-are_of.false) in
    rw (c.blocks-2.ensures, c.server-source.ensures) own

pub put_back-requires-clause-from : goal.put_back-requires-clause-from
put_back-requires-clause-from g c =
    rw (c.server-source.ensures, c.in-Ok.ensures.left)
    (sources_lent _ _ (from g (goal.at.put_back-requires-clause-from g c).In-Ok))

pub put_back-requires-in-Err-clause-from : goal.put_back-requires-in-Err-clause-from
put_back-requires-in-Err-clause-from g c =
    rw (c.server-source.ensures, c.in-Ok.ensures.left)
    (sources_lent _ _ (from g (goal.at.put_back-requires-in-Err-clause-from g c).In-Ok))

pub put_back-requires-clause-own : goal.put_back-requires-clause-own
put_back-requires-clause-own g c =
    rw (sym c.blocks-2.ensures) c.in-Ok-run_in_blocks.ensures.own

-- as many came back as were lent out
many : (g : given.Over) (c : In-Ok-run_in_blocks g)
    → length c.in-Ok-run_in_blocks.lent.items ≡ length c.args.reservers.now
many g c =
    c.in-Ok-run_in_blocks.ensures.ok.each_after ∙ sym c.how_many.ensures
    ∙ sym c.in_ok-check_run.ensures.ready

pub returns-in-Ok-run_in_blocks-clause-ok : goal.returns-in-Ok-run_in_blocks-clause-ok
returns-in-Ok-run_in_blocks-clause-ok g c =
    let back = c.put_back.ensures in
    let of = all_back c.args.reservers.now c.put_back.new.reservers _
    (back ∙ search (rules, c.in-Ok.ensures.left))
    (many g (goal.at.returns-in-Ok-run_in_blocks-clause-ok g c).In-Ok-run_in_blocks) in
    rw (of, sym c.in-Ok.ensures.lent, sym c.server-source.ensures, sym c.blocks-2.ensures)
    c.in-Ok-run_in_blocks.ensures.ok

pub returns-in-Ok-run_in_blocks-clause-lent : goal.returns-in-Ok-run_in_blocks-clause-lent
returns-in-Ok-run_in_blocks-clause-lent g c =
    lent_ok _ _ _ (c.put_back.ensures ∙ search (rules, c.in-Ok.ensures.left))
    (many g (goal.at.returns-in-Ok-run_in_blocks-clause-lent g c).In-Ok-run_in_blocks) _

-- all came back, or none
came : (g : given.Over) (c : In-Err g) → (c.in-Err.back.value.items ≡ c.in-Ok.lent.items)
    ⊎ (c.in-Err.back.value.items ≡ [])
came g c = all_or_none c.in-Err.back.error _ _ c.in-Err.ensures.handed_back
    c.in-Err.ensures.lost_reservers

pub put_back-requires-in-Err-clause-own : goal.put_back-requires-in-Err-clause-own
put_back-requires-in-Err-clause-own g c =
    let own = c.in-Ok.ensures.own c.args.phase.now.source
    (from g (goal.at.put_back-requires-in-Err-clause-own g c).In-Ok) in
    rw (c.server-source.ensures, c.into_parts-lent.ensures.value)
    (own_if _ _ (came g (goal.at.put_back-requires-in-Err-clause-own g c).In-Err)
    (IsOfPhase (g.S.OfBlocks.of c.args.phase.now.source)) own)

pub put_back-requires-in-Err-clause-few : goal.put_back-requires-in-Err-clause-few
put_back-requires-in-Err-clause-few g c =
    let few = few_if _ _ (came g (goal.at.put_back-requires-in-Err-clause-few g c).In-Err) in
    omega (
      arith,
      few,
      ap (λ v. length v.items) c.into_parts-lent.ensures.value,
      ap length c.in-Ok.ensures.lent,
      length-map c.args.reservers.now (λ (r : Reserver _ _). r.reserver),
      ap length c.in-Ok.ensures.left,
      length-map c.args.reservers.now lent_out,
    )

pub returns-in-Err-clause-lent : goal.returns-in-Err-clause-lent
returns-in-Err-clause-lent g c =
    let left = c.in-Ok.ensures.left in
    let value = c.into_parts-lent.ensures.value in
    rw c.into_parts-lent.ensures.error
    (lent_err c.args.reservers.now _ c.in-Err.back.value.items
    (c.put_back-in-Err.ensures ∙ search (rules, left, value)) c.in-Err.back.error
    (rw c.in-Ok.ensures.lent at c.in-Err.ensures.handed_back) c.in-Err.ensures.lost_reservers)

pub returns-in-Err-clause-lost : goal.returns-in-Err-clause-lost
returns-in-Err-clause-lost g c =
    rw (
      c.into_parts-lent.ensures.error,
      sym c.in-Ok.ensures.lent,
      sym c.server-source.ensures,
      sym c.blocks-2.ensures,
    ) c.in-Err.ensures.lost
