use Rattle.ent_total.proofs.Common.{rules, arith, ◌∙◌, ◌<◌, ap, length}
use Rattle.ent_total.proofs.Common.{subst, sym}
use Rattle.ent_total.proofs.Common.{All-push, All-same}
use Rattle.ent_blocks.specs.Drawing.{IsOfPhase}
use Rattle.ent_total.proofs.Lent.{unchanged_yet, walked_length}
use Rattle.std.proofs.lemmas.List.{map_more, take_all, drop_all, append-nil}
use Rattle.std.proofs.lemmas.List.Edits.{map_over_more}
use Rattle.ent_total.specs.Lending.{lent_out}
use Rattle.ent_total.specs.Phases.{Reserver}
use Rattle.ent_total.proofs.lending.lend_all.Goals as goal

pub loop-reserver-preserved : goal.loop-reserver-preserved
loop-reserver-preserved g c =
    let i = c.loop-reserver.invariant in
    let at = c.loop-reserver.reserver-index in
    let was = c.args.reservers.now in
    let now = c.loop-reserver.reservers in
    let item = c.reserver-item.result in
    let out = lent_out {S = g.row.S.Denot} in
    let all = walked_length out was now at i.left in
    let within : at < length was = omega (arith, all, c.loop-reserver-test.true) in
    let same = unchanged_yet out was now at item within i.left c.reserver-item.is in
    let more = map_more (λ (r : Reserver _ _). r.reserver) was at item within in
    record {
      lent = search (rules, same, more);
      left = search (rules, map_over_more out, within);
      own = λ source from.
          let Own = IsOfPhase (g.S.OfBlocks.of source) in
          let is = ap (λ (r : Reserver _ _). r.source) (sym c.reserver-item.is ∙ same)
          ∙ from at item within in
          All-same Own _ _ c.push_reserved.ensures.items
          (All-push Own _ _ (i.own source from)
          (subst (λ s. IsOfPhase (g.S.OfBlocks.of s) c.lend.result) is c.lend.ensures.of));
      len = search (rules, arith);
      room = search (rules, arith);
    }

pub returns-clause-left : goal.returns-clause-left
returns-clause-left g c = search (rules, take_all, drop_all, append-nil)
