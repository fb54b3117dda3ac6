-- What a phase of blocks that go on ends with, as one fact: each field is a clause of
-- `Overflow::close` or `Overflow::close_lost`. For callers that cite it whole.
use Rattle.std.specs.Prelude.{◌≡◌, ◌≢◌, ◌↔◌, ◌+◌, ◌*◌, ◌≤◌, ◌<ℤ◌, List, [], ◌++◌}
use Rattle.std.specs.Prelude.{All, AllPairs, Contains, length, map, sum, sum_by, take}
use Rattle.ent_handle.specs.Handle.{Handle}
use Rattle.ent_alloc.specs.Limits.{quota}
use Rattle.ent_alloc.specs.Sequential.{after_take}
use Rattle.ent_alloc.specs.History.{IsLegal, given_in, requests_of}
use Rattle.ent_shared.specs.Order.{reservations_of, handles_given, handles_of, own_of_all}
use Rattle.ent_shared.specs.Record.{requested_by}
use Rattle.ent_shared.specs.Phase.{Reserver}
use Rattle.ent_blocks.specs.Blocks.{Ended, dealt, lesser, unused, accounted}
use Rattle.ent_blocks.specs.Overflow.{Overflow, Caller, IsInOrder, own_blocks, past_of}
use Rattle.ent_blocks.specs.Overflow.{past_records, past_history, past_block, behind_blocks}

-- The phase ended with all its callers. Behind the blocks, with what was used of each, comes what
-- the shared cursor gave: as if it had been requested one after the other, when all blocks were
-- reserved. It also counts how many handles were requested there. If the count is 0, no caller went
-- past its block.
pub record EndsWithAll (phase : Overflow) (callers : List Caller) (ended : Ended) : Type 0 where
  pub start : ended.phase.start ≡ phase.shared.start
  pub rows : ended.phase.rows ≡ phase.shared.rows
  pub all : map unused (own_blocks callers) ≡ phase.blocks
  pub blocks : ended.phase.blocks ≡ own_blocks callers
      ++ past_block (dealt phase.blocks) (length (given_in (past_history callers)))
  pub handles : (h : Handle) → Contains (given_in (past_history callers)) h
      ↔ Contains (take (length (given_in (past_history callers))) (behind_blocks phase)) h
  pub legal : IsLegal (after_take phase.shared.start (dealt phase.blocks)) (past_history callers)
  pub in_order : All (IsInOrder (reservations_of (past_records callers))) (past_records callers)
  pub falls : AllPairs (λ earlier later. later.high <ℤ earlier.high)
      (reservations_of (past_records callers))
  pub requested : ended.requested ≡ sum (requests_of (past_history callers))
  pub alone : ended.requested ≡ 0 ↔ past_history callers ≡ []

-- The phase ended with some of its callers. What is left of a lost one's block counts as used.
-- Behind the blocks comes what was requested there, as far as the pool goes. It counts what the
-- callers that are here have requested, and of the others no more than their quota. What those that
-- are here were given is there, and no handle was given to two of them.
pub record EndsWithSome (phase : Overflow) (callers : List Caller) (ended : Ended) : Type 0 where
  pub start : ended.phase.start ≡ phase.shared.start
  pub rows : ended.phase.rows ≡ phase.shared.rows
  pub blocks : ended.phase.blocks ≡ accounted phase.blocks (own_blocks callers)
      ++ past_block (dealt phase.blocks) (lesser ended.requested (length (behind_blocks phase)))
  pub least : sum_by (λ (r : Reserver). requested_by r.own) (past_of callers) ≤ ended.requested
  pub most : sum_by (λ (r : Reserver). r.own.left) (past_of callers) + ended.requested
      ≤ length phase.blocks * quota
  pub requested : length callers ≡ length phase.blocks
      → sum_by (λ (r : Reserver). requested_by r.own) (past_of callers) ≡ ended.requested
  pub given : All (λ (r : Reserver). All (Contains (take (lesser ended.requested
      (length (behind_blocks phase))) (behind_blocks phase))) (handles_given r.own)) (past_of
      callers)
  pub distinct : AllPairs (λ g h. g ≢ h) (handles_of (own_of_all (past_records callers)))
