-- Commands: what a system asks of the world. A queue of them represents their list.
use Rattle.std.specs.Prelude.{◌≡◌, ℕ, ◌^◌, ◌<◌, List, length}
use Rattle.std.specs.List.{All}
use Rattle.ent_handle.specs.declared.component.ComponentId.{ComponentId}
use Rattle.ent_handle.specs.Handle.{Handle, IsHandle}
use Rattle.ent_storage.specs.Bundle.{Bundle, IsBundle}
use Rattle.ent_alloc.specs.declared.refused.Refused.{Refused as Refusal}
use Rattle.ent_alloc.specs.declared.refused.Refused.TheVariants.{Space, Quota}

-- Spawn and SpawnMany give what was reserved its components, Insert sets components of an entity,
-- Remove takes one away, Despawn takes the entity. Refused is a request that was refused: for how
-- many handles, and why.
pub data Command : Type 0 where
  Spawn : Handle → Bundle → Command
  SpawnMany : List Handle → Bundle → Command
  Insert : Handle → Bundle → Command
  Remove : Handle → ComponentId → Command
  Despawn : Handle → Command
  Refused : ℕ → Refusal → Command

-- the ranges of what a refusal says
abbrev pub HasRange : Refusal → Type 0
HasRange (Space wanted left) = left < 2 ^ 32
HasRange (Quota left) = left < 2 ^ 64

-- A refusal for lack of handles says how many were requested, and is within its ranges.
abbrev pub IsRefusal : ℕ → Refusal → Type 0
IsRefusal requested (Space wanted left) = (wanted ≡ requested) × (left < 2 ^ 32)
IsRefusal requested (Quota left) = left < 2 ^ 64

-- the ranges of what a command names
abbrev pub IsCommand : Command → Type 0
IsCommand (Spawn h items) = IsHandle h × IsBundle items
IsCommand (SpawnMany hs items) = (length hs < 2 ^ 32) × All IsHandle hs × IsBundle items
IsCommand (Insert h items) = IsHandle h × IsBundle items
IsCommand (Remove h id) = IsHandle h × (id.0 < 2 ^ 8)
IsCommand (Despawn h) = IsHandle h
IsCommand (Refused wanted why) = (wanted < 2 ^ 32) × IsRefusal wanted why
