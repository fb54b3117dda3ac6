-- What a caller requested, one request after the other, and the replies.
use Rattle.std.specs.Prelude.{◌≡◌, ℕ, List, Result}
use Rattle.std.specs.List.{FoldsTo}
use Rattle.ent_handle.specs.Handle.{Handle}
use Rattle.ent_alloc.specs.declared.refused.Refused.{Refused}
use Rattle.ent_alloc.specs.declared.refused.Refused.TheVariants.{Space, Quota}

-- a refusal for lack of handles says how many were requested
abbrev pub SaysWanted : ℕ → Refused → Type 0
SaysWanted requested (Space wanted left) = wanted ≡ requested
SaysWanted requested (Quota left) = Unit {0}

-- how many handles were requested, and the reply
abbrev pub Request : Type 0
Request = ℕ × Result (List Handle) Refused

-- The possible replies to a request for that many handles, and what the request makes of the
-- reserver.
abbrev pub Replying : Type 0 → Type 1
Replying R = R → R → ℕ → Result (List Handle) Refused → Type 0

module _ {R : Type 0} where
  -- These requests were made with the reserver, one after the other, and no others.
  abbrev pub AreServed : Replying R → R → List Request → R → Type 0
  AreServed may before requests after =
      FoldsTo (λ a (request : Request) b. may a b request.0 request.1) before requests after
