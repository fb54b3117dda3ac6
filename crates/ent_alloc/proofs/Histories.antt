-- What a legal history leaves and gives.
use Rattle.ent_alloc.proofs.Common.{rules, ◌≡◌, ◌≢◌, refl, List, [], ◌∷◌, length, sum, All}
use Rattle.ent_alloc.proofs.Common.{AllPairs, Contains, IsPermutation, ◌↔◌, ◌⊎◌, Handle, Allocator}
use Rattle.ent_alloc.proofs.Common.{after_take, after_flush, settled, IsSound, IsLive, Call}
use Rattle.ent_alloc.proofs.Common.{IsLegal, after_history, given_in, requests_of}
use Rattle.ent_alloc.proofs.PoolLaw.{after_takes}
use Rattle.ent_alloc.proofs.Replies.{distinct_from_apart}
use Rattle.ent_alloc.proofs.RequestLaws.{given_by, given_by-apart, given_by-not_live}
use Rattle.ent_alloc.proofs.RequestLaws.{taken-since_flush, live-since_flush}
use Rattle.ent_alloc.proofs.Settled.{after_takes-settled}

-- only the requests count
pub after_history-takes : (s : Allocator) (calls : List Call)
    → after_history s calls ≡ after_takes s (requests_of calls)
after_history-takes s [] = refl
after_history-takes s (call ∷ calls) = after_history-takes (after_take s call.requested) calls

-- the replies of a legal history are those to its requests
pub given_in-legal : (s : Allocator) (calls : List Call) → IsLegal s calls
    → given_in calls ≡ given_by s (requests_of calls)
given_in-legal s [] legal = refl
given_in-legal s (call ∷ calls) legal =
    search (rules, given_in-legal (after_take s call.requested) calls legal.2)

module _ (s : Allocator) (calls : List Call) (sound : IsSound s) (legal : IsLegal s calls) where
  -- no handle stands twice in the replies
  pub given_in-distinct : AllPairs (λ g h. g ≢ h) (given_in calls)
  given_in-distinct = search (rules, given_in-legal, distinct_from_apart, given_by, given_by-apart)

  -- none of them is alive
  pub given_in-not_live : All (λ x. ¬ (IsLive s x)) (given_in calls)
  given_in-not_live = search (rules, given_in-legal, given_by-not_live)

  -- they are all that is taken since a flush
  pub given_in-taken : s.asked ≡ 0 → IsPermutation (given_in calls) (after_history s calls).taken
  given_in-taken flushed = search (rules, given_in-legal, after_history-takes, taken-since_flush)

  -- and a flush then brings exactly those to life
  pub given_in-bring_to_life : s.asked ≡ 0 → (x : Handle)
      → IsLive (after_flush (after_history s calls)) x ↔ IsLive s x ⊎ Contains (given_in calls) x
  given_in-bring_to_life flushed x =
      search (rules, given_in-legal, after_history-takes, live-since_flush)

  -- two numbers tell the state
  pub after_history-settled : s.asked ≡ 0 → after_history s calls
      ≡ settled s (length (given_in calls)) (sum (requests_of calls))
  after_history-settled flushed =
      search (rules, after_history-takes, after_takes-settled, given_in-legal)
