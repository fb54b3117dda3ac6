use Rattle.ent_blocks.proofs.Common.{rules, quota}
use Rattle.ent_blocks.proofs.Dealers.{whole_quota, is_dealer, dealt_mark}
use Rattle.ent_blocks.proofs.overflow.dealing.deal.Goals as goal

pub returns-then-count-gt0-clause-dealt : goal.returns-then-count-gt0-clause-dealt
unfolding quota
returns-then-count-gt0-clause-dealt c =
    let of = c.requires.of in
    let nothing = c.requires.nothing in
    search (rules, whole_quota, is_dealer)

pub returns-then-count-gt0-clause-mark : goal.returns-then-count-gt0-clause-mark
unfolding quota
returns-then-count-gt0-clause-mark c =
    let of = c.requires.of in
    let nothing = c.requires.nothing in
    let mark = c.requires.mark in
    search (rules, whole_quota, dealt_mark)
