use Rattle.ent_storage.proofs.Common.{◌<◌, ◌-◌, ◌^◌, arith, rules, get_or_default, get_or}
use Rattle.ent_storage.proofs.Common.{packed_birth}
use Rattle.ent_storage.proofs.RisingBirths.{one_more, above_packed}
use Rattle.ent_storage.proofs.order.rise.Goals as goal

pub loop-i-preserved : goal.loop-i-preserved
loop-i-preserved c =
    let births = c.args.births.now in
    let i = c.loop-i.i in
    let packed = c.packed-birth.ensures in
    record {
      order = λ k d within.
          let birth = (get_or births i d).0 in
          let before = (get_or births (i - 1) d).0 in
          let system : birth.system < 2 ^ 32 = search (rules, get_or_default, packed.system) in
          let ordinal : birth.ordinal < 2 ^ 32 = search (rules, get_or_default, packed.ordinal) in
          let above : packed_birth before < packed_birth birth = search
          (rules, arith, get_or_default, packed.number, c.loop-i.invariant.last d) in
          one_more births i d d (omega (arith, c.loop-i.auto.i)) c.loop-i-test.true
          c.loop-i.invariant.order (above_packed birth before system ordinal above) k d within;
      last = λ d. search (rules, arith, get_or_default, packed.number);
    }
