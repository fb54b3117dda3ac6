use Rattle.ent_script.proofs.Common.{rules, arith, ap, Share, ◌≡◌, ◌+◌}
use Rattle.ent_script.proofs.Shares.{put_together}
use Rattle.ent_script.proofs.divided.+halves.Goals as goal

pub script_of_share-returns : goal.script_of_share-returns
script_of_share-returns g t c =
    let low = c.halves-low.ensures.low in
    let high = c.halves-low.ensures.high in
    let count : c.args.share.count
    ≡ c.halves-low.result.0.count + c.halves-low.result.1.count = search (rules, arith, low, high) in
    search (
      rules,
      put_together c.halves-low.result.0 c.halves-low.result.1 c.args.share (ap Share.first low)
          (search (rules, low, high)) count (ap Share.workers low) (ap Share.workers high),
    )
