use Rattle.ent_runner.proofs.Common.{rules, ◌≡◌, [], ◌∷◌, refl, claims_of, AfterClaim}
use Rattle.ent_runner.proofs.Steps.{claims_at}
use Rattle.ent_runner.proofs.crew.word.claim.Goals as goal

-- the holder has the token's record alone
seat : (c : goal.After-seat-1)
    → c.into_seat-seat.result.me.0 ≡ claims_of c.args.token.now.views ∷ []
seat c = search rules

pub fetch_add-found-requires : goal.fetch_add-found-requires
fetch_add-found-requires c = (
  search rules,
  search rules,
  claims_at _ _ _ _ c.into_seat-seat.result.me (claims_of c.args.token.now.views) 1 (seat c)
      c.into_seat-seat.ensures.3 refl c.requires.goes_on,
)

-- what the step tells
told : (c : goal.After-drop-token)
    → AfterClaim (claims_of c.args.token.now.views) c.fetch_add-found.result
    c.fetch_add-found.new.seat.me.0
told c = c.fetch_add-found.ensures.2.1 (claims_of c.args.token.now.views)
    (cc (c.into_seat-seat.ensures.2, c.replace.ensures.value, c.requires.alone)) c.requires.goes_on

pub returns-clause-claims : goal.returns-clause-claims
returns-clause-claims c = rw (told c).after at c.into_badge.ensures.2

pub returns-clause-above : goal.returns-clause-above
returns-clause-above c = (told c).above
