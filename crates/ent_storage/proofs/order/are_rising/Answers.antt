use Rattle.ent_storage.proofs.Common.{◌<◌, ◌-◌, ◌^◌, arith, rules, get_or_default, get_or}
use Rattle.ent_storage.proofs.Common.{packed_birth}
use Rattle.ent_storage.proofs.RisingBirths.{one_more_resident, above_packed}
use Rattle.ent_storage.proofs.order.are_rising.Goals as goal

pub loop-i-preserved : goal.loop-i-preserved
loop-i-preserved c =
    let residents = c.args.residents.now in
    let i = c.loop-i.i in
    let r = c.index-residents-i.result in
    let birth = (get_or residents i r).birth in
    let before = (get_or residents (i - 1) r).birth in
    let packed = c.packed-birth.ensures in
    let system : birth.system < 2 ^ 32 = search (rules, packed.system) in
    let ordinal : birth.ordinal < 2 ^ 32 = search (rules, packed.ordinal) in
    let above : packed_birth before < packed_birth birth = search
    (rules, arith, get_or_default, packed.number, c.loop-i.invariant.last r) in
    record {
      order = one_more_resident residents i r r (omega (arith, c.loop-i.auto.i)) c.loop-i-test.true
          c.loop-i.invariant.order (above_packed birth before system ordinal above);
      last = λ d. search (rules, arith, get_or_default, packed.number);
    }
