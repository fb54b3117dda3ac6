use Rattle.ent_shared.proofs.Common.{rules, ◌≡◌, ◌-ℤ◌, pos, arith, to_z, of_z, w64, append-nil}
use Rattle.ent_shared.proofs.Common.{ints, listed_alone, ap}
use Rattle.ent_shared.proofs.Holding.{Gives, gives}
use Rattle.ent_shared.proofs.shared.Shared.reserve.Goals as goal
use Rattle.ent_shared.proofs.shared.Shared.reserve.Goals.{After-reply_one}

-- what it gives and leaves
known : (c : After-reply_one)
    → Gives c.args.self.now c.args.reserver.now c.reserve-high.new.token.views
    c.reserve-high.new.token.table_id c.reserver.inside.number c.reserver.inside.left 1
    c.reserver.inside.floor c.reserve-high.result (listed_alone c.reply_one.result)
known c =
    gives _ _ _ _ _ _ _ _ _ _ _ _ c.reserver.view_is c.reserver.invariant c.requires (omega arith)
    c.reserve-high.ensures.same c.reserve-high.ensures.gains c.reserve-high.ensures.mark
    (search (rules, ints))

pub invariant_of-reserver : goal.invariant_of-reserver
invariant_of-reserver c = (known (goal.at.invariant_of-reserver c).After-reply_one).refused _
    (ap listed_alone c.in_err-handle.was)

pub returns-in_err-handle-clause-stays : goal.returns-in_err-handle-clause-stays
returns-in_err-handle-clause-stays c =
    (known (goal.at.returns-in_err-handle-clause-stays c).After-reply_one).stays

pub returns-in_err-handle-clause-refused : goal.returns-in_err-handle-clause-refused
returns-in_err-handle-clause-refused c = search (rules, known, append-nil)

pub invariant_of-reserver-2 : goal.invariant_of-reserver-2
invariant_of-reserver-2 c =
    let high = c.reserve-high.result in
    let fits = c.reserve-high.type_inv in
    let least = c.reserve-high.ensures.least in
    let low : to_z w64 (of_z w64 (to_z w64 (of_z w64 high) -ℤ pos 1)) ≡ high -ℤ pos 1 =
    omega (arith, ints) in
    rw low
    ((known (goal.at.invariant_of-reserver-2 c).After-reply_one).served _
    (ap listed_alone c.in_ok-handle.was))

pub returns-clause-stays : goal.returns-clause-stays
returns-clause-stays c = (known (goal.at.returns-clause-stays c).After-reply_one).stays

pub returns-clause-given : goal.returns-clause-given
returns-clause-given c = search (rules, known)
