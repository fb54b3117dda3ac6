-- What commands draw from a block, one by one and together.
use Rattle.ent_queue.proofs.Common.{rules, ◌≡◌, refl, ℕ, ◌+◌, List, [], ◌∷◌, ◌++◌, take, arith, Ok}
use Rattle.ent_queue.proofs.Common.{Err, common_steps, sum_by-append, sum_by-cons, Handle}
use Rattle.ent_queue.proofs.Common.{Allocator, listed, Refusal, Space, Quota, Block}
use Rattle.ent_queue.proofs.Common.{after_use, Command, Spawn, SpawnMany, IsDrawn, IsDrawnBy}
use Rattle.ent_queue.proofs.Common.{AreDrawnBy, Draws, used_by, after_commands, Insert, Remove}
use Rattle.ent_queue.proofs.Common.{Despawn, Refused, AreServed, requests_of, served_parts}
use Rattle.ent_queue.proofs.Common.{one_served, flat_map, length}
use Rattle.ent_blocks.specs.Blocks.{Blocks, Reserver}

pub first_listed : (made : ℕ) (rest : List Handle) (h : Handle) → h ∷ [] ≡ listed made (take 1 rest)
    → h ∷ [] ≡ take 1 rest
first_listed made it h is = grind (arith, common_steps)

-- of commands one by one
pub draws_nothing : (s : Allocator) (b : Block) → Draws s b [] b
draws_nothing s b = record { each = tt; used = search rules }

pub draws_one : (s : Allocator) (b after : Block) (c : Command) → IsDrawnBy s b c
    → after ≡ after_use b (used_by c) → Draws s b (c ∷ []) after
draws_one s b after c is used = search (rules, sum_by-cons)

pub draws_still : (s : Allocator) (b : Block) (c : Command) → IsDrawnBy s b c → used_by c ≡ 0
    → Draws s b (c ∷ []) b
draws_still s b c is none = search (rules, draws_one, draws_nothing)

used_then : (b : Block) (m n : ℕ) → after_use (after_use b m) n ≡ after_use b (m + n)
used_then b m n = search rules

after_first : (b : Block) (c : Command) (cs : List Command)
    → after_commands b (c ∷ cs) ≡ after_commands (after_use b (used_by c)) cs
after_first b c cs = search (rules, sum_by-cons, used_then)

each_then : (s : Allocator) (b : Block) (cs ds : List Command) → AreDrawnBy s b cs
    → AreDrawnBy s (after_commands b cs) ds → AreDrawnBy s b (cs ++ ds)
each_then s b [] ds first second = search (rules, draws_nothing)
each_then s b (c ∷ cs) ds first second = (
  first.0,
  each_then s (after_use b (used_by c)) cs ds first.1 (rw (after_first b c cs) at second),
)

-- the commands of two queues, one after the other
pub draws_then : (s : Allocator) (a b c : Block) (cs ds : List Command) → Draws s a cs b
    → Draws s b ds c → Draws s a (cs ++ ds) c
draws_then s a b c cs ds first second =
    grind (arith, common_steps, each_then, used_then, sum_by-append)

space_is : (n m k left : ℕ) → Space m left ≡ Space n k → (m ≡ n) × (left ≡ k)
space_is n m k left same = (cc, cc)

module _ (phase : Blocks) where
  abbrev start : Allocator
  start = phase.start

  module _ (before after : Reserver) where
    served : (n : ℕ) (hs : List Handle) (c : Command) → IsDrawn phase before after n (Ok hs)
        → IsDrawnBy start before.block c → used_by c ≡ n → Draws start before.block (c ∷ []) after.block
    served n hs c replied is many = search (rules, draws_one)

    refused : (n : ℕ) (why : Refusal) → IsDrawn phase before after n (Err why)
        → Draws start before.block (Refused n why ∷ []) after.block
    refused n (Space wanted left) replied = search (rules, draws_still, replied, space_is)
    refused n (Quota left) replied = let no = replied.refused.0 in absurd (cc)

    -- a command for which nothing was requested
    still : (c : Command) → IsDrawnBy start before.block c → used_by c ≡ 0 → before ≡ after
        → Draws start before.block (c ∷ []) after.block
    still c is none same =
        rw same (draws_still start _ c (rw same at is) none)

    drawn_at : (c : Command) → AreServed (IsDrawn phase) before (requests_of c) after
        → Draws start before.block (c ∷ []) after.block
    drawn_at (Spawn h items) was =
        let replied = one_served (IsDrawn phase) was in
        served 1 (h ∷ []) (Spawn h items) replied (first_listed start.made _ h replied.given) refl
    drawn_at (SpawnMany hs items) was =
        let replied = one_served (IsDrawn phase) was in
        served (length hs) hs (SpawnMany hs items) replied replied.given refl
    drawn_at (Insert h items) was = still (Insert h items) tt refl was
    drawn_at (Remove h id) was = still (Remove h id) tt refl was
    drawn_at (Despawn h) was = still (Despawn h) tt refl was
    drawn_at (Refused wanted why) was = refused wanted why (one_served (IsDrawn phase) was)

  -- So what commands drew that blocks served is the next of the block.
  pub draws_of : (before after : Reserver) (commands : List Command)
      → AreServed (IsDrawn phase) before (flat_map requests_of commands) after
      → Draws phase.start before.block commands after.block
  draws_of before after [] was = rw was (draws_nothing start _)
  draws_of before after (c ∷ commands) was =
      let parts =
      served_parts (IsDrawn phase) before after (requests_of c) (flat_map requests_of commands)
      was in
      draws_then start _ _ _ (c ∷ []) commands (drawn_at before parts.0 c parts.1)
      (draws_of parts.0 after commands parts.2)
