use Rattle.ent_total.proofs.Common.{rules, arith, ◌<◌, ◌∷◌, [], ap, length, subst, sym}
use Rattle.ent_total.proofs.Common.{length-append}
use Rattle.ent_blocks.specs.Drawing.{IsOfPhase}
use Rattle.ent_total.proofs.Lent.{returned_more, sources_stay, length-returned}
use Rattle.ent_total.proofs.Walking.{walked}
use Rattle.ent_total.specs.Lending.{AreFrom}
use Rattle.ent_total.proofs.lending.put_back.Goals as goal

pub put_back-requires : goal.put_back-requires
put_back-requires g c =
    let i = c.loop-mine.invariant in
    let at = c.loop-mine.at in
    let w =
    walked _ _ _ _ c.in-Some.ensures.steps.0 _ i.all (IsOfPhase (g.S.OfBlocks.of c.args.source.now))
    i.own in
    let few : at < length c.loop-mine.reservers =
    omega (
      arith,
      c.requires.few,
      ap length i.all,
      w.3,
      i.at,
      ap length i.back,
      length-returned c.args.reservers.now c.loop-mine.yielded,
      length-append c.loop-mine.yielded c.loop-mine.mine-iterator.rest.items,
    ) in
    let from : AreFrom c.args.source.now c.loop-mine.reservers =
    subst (AreFrom c.args.source.now) (sym i.back)
    (sources_stay c.args.source.now c.args.reservers.now c.loop-mine.yielded c.requires.from) in
    subst (λ s. IsOfPhase (g.S.OfBlocks.of s) c.in-Some.mine)
    (sym (from at c.index-reservers-at.result few)) w.1

pub loop-mine-preserved : goal.loop-mine-preserved
loop-mine-preserved g c =
    let i = c.loop-mine.invariant in
    let w =
    walked _ _ _ _ c.in-Some.ensures.steps.0 _ i.all (IsOfPhase (g.S.OfBlocks.of c.args.source.now))
    i.own in
    let few : length c.loop-mine.yielded < length c.args.reservers.now =
    omega (
      arith,
      c.requires.few,
      ap length i.all,
      w.3,
      length-append c.loop-mine.yielded c.loop-mine.mine-iterator.rest.items,
    ) in
    record {
      all = w.0;
      at = omega (arith, i.at, length-append c.loop-mine.yielded (c.in-Some.mine ∷ []));
      back = search (rules, returned_more, few);
      own = w.2;
    }
