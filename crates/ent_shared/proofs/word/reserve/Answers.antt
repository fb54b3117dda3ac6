use Rattle.ent_shared.proofs.Common.{rules, ◌≡◌, [], ◌∷◌, own_of, AfterReserve, arith, ints, offset}
use Rattle.ent_shared.proofs.Words.{cursor_is, least_cursor}
use Rattle.ent_shared.proofs.Steps.{reserves_at}
use Rattle.ent_shared.proofs.word.reserve.Goals as goal

-- the holder has the token's record alone
seat : (c : goal.After-into) → c.into_seat-seat.result.me.0 ≡ own_of c.args.token.now.views ∷ []
seat c = search (rules)

pub fetch_sub-found-requires : goal.fetch_sub-found-requires
fetch_sub-found-requires c = (
  search rules,
  search rules,
  reserves_at _ _ _ _ _ _ _ _ (seat c) c.into_seat-seat.ensures.3
      c.into.ensures c.requires.some c.requires.quota,
)

-- what the step tells
told : (c : goal.After-drop-token)
    → AfterReserve c.args.n (own_of c.args.token.now.views) c.fetch_sub-found.result
    c.fetch_sub-found.new.seat.me.0
told c = search (rules, c.fetch_sub-found.ensures.2.1 (own_of c.args.token.now.views))

pub overflow_cast-result : goal.overflow_cast-result
unfolding offset
overflow_cast-result c = omega (arith, ints, (told c).greatest)

pub overflow_sub-result : goal.overflow_sub-result
unfolding offset
overflow_sub-result c = omega (arith, ints, (told c).least, (told c).greatest)

pub returns-clause-gains : goal.returns-clause-gains
returns-clause-gains c = search (rules, told, cursor_is)

pub returns-clause-mark : goal.returns-clause-mark
returns-clause-mark c = search (rules, told c, cursor_is, c.fetch_sub-found.result)

pub returns-clause-least : goal.returns-clause-least
returns-clause-least c = let d = told c in
    search (rules, cursor_is, c.fetch_sub-found.result, least_cursor)

pub returns-clause-greatest : goal.returns-clause-greatest
returns-clause-greatest c = search (rules, told, cursor_is)
