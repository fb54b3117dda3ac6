-- What a reserver was given is recorded.
use Rattle.ent_shared.proofs.Common.{rules, arith, ◌≡◌, ℕ, List, [], ◌∷◌, ◌++◌, Ok, Err, Result}
use Rattle.ent_shared.proofs.Common.{append-nil, common_steps, Handle, handles_given, Shared}
use Rattle.ent_shared.proofs.Common.{Reserver, reservation_at}
use Rattle.ent_alloc.specs.History.{handles_in}
use Rattle.ent_alloc.specs.declared.refused.Refused.{Refused}
use Rattle.ent_alloc.specs.declared.refused.Refused.TheVariants.{Space, Quota}
use Rattle.ent_shared.proofs.Laws.{handles_of-append}
use Rattle.ent_shared.proofs.Records.{own-made}
use Rattle.ent_shared.specs.Replies.{Reserves, IsReturned}

module _ (s : Shared) (b a : Reserver) (n : ℕ) where
  -- what the reply lists
  reserved_more : (returned : Result (List Handle) Refused) (r : Reserves s b a n returned)
      → handles_given a.own ≡ handles_given b.own
      ++ handles_in (reservation_at b.own r.high n).reply
  reserved_more returned r = search (rules, own-made, handles_of-append, append-nil, r.after)

  served_more : (handles : List Handle) → Reserves s b a n (Ok handles)
      → handles_given a.own ≡ handles_given b.own ++ handles
  served_more handles r = search (rules, reserved_more (Ok handles) r, r.recorded)

  refused_no_more : (why : Refused) → Reserves s b a n (Err why)
      → handles_given a.own ≡ handles_given b.own
  refused_no_more (Space wanted left) r = search
      (rules, reserved_more (Err (Space wanted left)) r, r.recorded, append-nil)
  refused_no_more (Quota left) r = absurd r.recorded

  pub given_more : (handles : List Handle) → IsReturned s b a n (Ok handles)
      → handles_given a.own ≡ handles_given b.own ++ handles
  given_more handles r =
      grind (arith, common_steps, append-nil, served_more, r.quota, r.nothing, r.gains)

  pub given_no_more : (why : Refused) → IsReturned s b a n (Err why)
      → handles_given a.own ≡ handles_given b.own
  given_no_more why r = grind (arith, common_steps, refused_no_more, r.quota, r.nothing, r.gains)
