-- Blocks whose callers may go past them: what is requested past a block comes from one cursor that
-- all share, and that begins behind the last block.
use Rattle.std.specs.Prelude.{◌≡◌, ℕ, zero, suc, ◌+◌, ◌<◌, ◌≤◌, pos, ◌-ℤ◌, ◌≤ℤ◌, ◌==◌, ◌⊎◌}
use Rattle.std.specs.Prelude.{if◌then◌else◌, List, [], ◌∷◌, length, map, take, drop, refl}
use Rattle.std.specs.Prelude.{Result, Ok, Err}
use Rattle.std.specs.List.{All, Contains}
use Rattle.std.specs.Coded.{Coded, code_by, coded×, coded_ℕ, coded_list}
use Rattle.ent_handle.specs.Handle.{Handle}
use Rattle.ent_alloc.specs.History as history
unfoldable use Rattle.ent_alloc.specs.Limits.{quota}
use Rattle.ent_alloc.specs.Sequential.{cursor, listed}
use Rattle.ent_alloc.specs.declared.refused.Refused.{Refused}
use Rattle.ent_alloc.specs.declared.refused.Refused.TheVariants.{Quota}
use Rattle.ent_shared.specs.declared.record.Reservation.{Reservation}
use Rattle.ent_shared.specs.declared.record.RecordEntry.TheVariants.{Own}
use Rattle.ent_shared.specs.declared.record.Record.{Record}
use Rattle.ent_shared.specs.Record.{low, own_reservations}
use Rattle.ent_shared.specs.Order.{reservations_by, history_of}
use Rattle.ent_shared.specs.Phase.{Shared, Reserver, shared_code, reserver_code, records_of}
use Rattle.ent_shared.specs.Phase as sharing
use Rattle.ent_shared.specs.Replies.{Reserves}
use Rattle.ent_shared.specs.Rule.{HasItsReply}
use Rattle.ent_blocks.specs.Blocks.{Block, block_code, dealt, unused, AreDealt, rest_of}
use Rattle.ent_blocks.specs.Blocks.{after_use}
use Rattle.ent_blocks.specs.Drawing.{left_of}

-- The phase: the shared allocator, the dealer, which reserved all blocks before any caller reserved
-- anything, and the blocks as they were dealt.
pub record Overflow : Type 0 where
  pub shared : Shared
  pub dealer : Reserver
  pub blocks : List Block

-- a caller: its block, and what it goes past its block with
pub record Caller : Type 0 where
  pub block : Block
  pub past : Reserver

abbrev pub own_blocks : List Caller → List Block
own_blocks callers = map (λ (c : Caller). c.block) callers

-- what these callers did past their blocks
abbrev pub past_of : List Caller → List Reserver
past_of callers = map (λ (c : Caller). c.past) callers

abbrev pub past_records : List Caller → List Record
past_records callers = records_of (past_of callers)

-- the history of all that was requested past a block
abbrev pub past_history : List Caller → List history.Call
past_history callers = history_of (past_records callers)

-- This caller's reservations are there in its own order, each once.
abbrev pub IsInOrder : List Reservation → Record → Type 0
IsInOrder reservations r = reservations_by r.number reservations ≡ own_reservations r.entries

-- the reservation is behind all blocks, and its reply is what the allocator says there
pub record IsBehind (phase : Overflow) (r : Reservation) : Type 0 where
  pub high : r.high ≤ℤ phase.dealer.own.mark
  pub replied : HasItsReply phase.shared.start r

-- The caller is one of those of this phase.
pub record IsCallerOf (phase : Overflow) (c : Caller) : Type 0 where
  pub block : Contains phase.blocks (unused c.block)
  pub past : sharing.IsOf phase.shared c.past
  -- all that it requests past its block, and all that it has, comes after all blocks
  pub next : c.past.own.mark ≤ℤ phase.dealer.own.mark
  pub all : All (IsBehind phase) (own_reservations c.past.own.entries)

-- What a request for n handles returns, and what it leaves. As long as the block has that many
-- left, they are its next ones. Past the block, they are what the shared cursor gives.
pub record IsServed (phase : Overflow) (before after : Caller) (n : ℕ)
    (reply : Result (List Handle) Refused) : Type 0 where
  pub block : n ≤ left_of before.block
      → (reply ≡ Ok (listed phase.shared.start.made
      (take n (rest_of phase.shared.start.pool before.block))))
      × (after ≡ record before { block = after_use before.block n })
  pub quota : left_of before.block < n → before.past.own.left < n
      → (reply ≡ Err (Quota before.past.own.left)) × (after ≡ before)
  pub past : left_of before.block < n → n ≤ before.past.own.left
      → (after.block ≡ before.block) × Reserves phase.shared before.past after.past n reply

-- A request for n handles may be served: the block has that many left, or the quota and the pool
-- had, as it was when the phase was opened.
abbrev pub MayBeServed : Overflow → Caller → ℕ → Type 0
MayBeServed phase c n = (n ≤ left_of c.block)
    ⊎ ((n ≤ c.past.own.left) × (n ≤ length phase.shared.start.pool))

-- what lies behind all blocks
abbrev pub behind_blocks : Overflow → List Handle
behind_blocks phase = drop (dealt phase.blocks) phase.shared.start.pool

-- Closing: what came from the shared cursor, as one more block behind the others. It is used up.
abbrev pub past_block : ℕ → ℕ → List Block
past_block before given =
    if given == 0 then [] else record { before = before; size = given; used = given } ∷ []

-- ---- for private contracts

-- The record has this one reservation, of that many handles.
pub record HasDealt (n : ℕ) (r : Record) : Type 0 where
  pub call : Reservation
  pub entries : r.entries ≡ Own call ∷ []
  pub caller : call.caller ≡ r.number
  pub requested : call.requested ≡ n
  pub mark : r.mark ≡ low call

abbrev pub IsDealer : ℕ → Record → Type 0
IsDealer zero r = r.entries ≡ []
IsDealer (suc n) r = HasDealt (suc n) r

-- a reserver of this phase that has done nothing
pub record IsFresh (shared : Shared) (r : Reserver) : Type 0 where
  pub of : sharing.IsOf shared r
  pub nothing : r.own.entries ≡ []
  pub mark : r.own.mark ≡ cursor shared.start

-- It has requested nothing yet, and has its whole quota.
pub record IsUnused (c : Caller) : Type 0 where
  pub none : c.block.used ≡ 0
  pub nothing : own_reservations c.past.own.entries ≡ []
  pub whole : c.past.own.left ≡ quota

-- The blocks are dealt, the dealer reserved them, and each has a reserver.
pub record IsPhase (shared : Shared) (dealer : Reserver) (blocks : List Block) : Type 0 where
  pub lie : AreDealt shared.start blocks
  pub of : sharing.IsOf shared dealer
  pub deals : IsDealer (dealt blocks) dealer.own
  -- what comes after the dealer is behind all blocks
  pub mark : dealer.own.mark ≤ℤ (cursor shared.start -ℤ pos (dealt blocks))
  pub count : shared.count ≡ length blocks + 1

abbrev pub overflow_code : Coded Overflow
overflow_code =
    code_by (Shared × (Reserver × List Block))
    (coded× shared_code (coded× reserver_code (coded_list block_code)))
    (λ p. (p.shared, (p.dealer, p.blocks)))
    (λ p. record { shared = p.0; dealer = p.1.0; blocks = p.1.1 }) (λ _. refl)

abbrev pub caller_code : Coded Caller
caller_code =
    code_by (Block × Reserver) (coded× block_code reserver_code) (λ c. (c.block, c.past))
    (λ p. record { block = p.0; past = p.1 }) (λ _. refl)
