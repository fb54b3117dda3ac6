-- What the parts of a run issue, and how the lists of names are kept. Only private contracts and
-- proofs use this.
use Rattle.std.specs.Prelude.{◌≡◌, List, [], ◌∷◌, ◌++◌, map, slice_index_or}
use Rattle.ent_handle.specs.Handle.{Handle}
use Rattle.ent_queue.specs.Command.{Command, Insert, Remove, Despawn}
use Rattle.ent_world.specs.OpenWorld.{View}
use Rattle.ent_script.specs.declared.operation.Operation.{Operation}
use Rattle.ent_script.specs.declared.target.Target.{Target}
use Rattle.spawnrun_lib.specs.declared.change.Change.{Change}
use Rattle.spawnrun_lib.specs.declared.change.Change.TheVariants as change
use Rattle.spawnrun_lib.specs.Issuing.{Bindings, names_after, OnEach, Issues, StopsOnEach}
use Rattle.spawnrun_lib.specs.Issuing.{Stops}

-- Each list of handles is at the number of its name. Nothing is bound to a number past the end.
abbrev pub names_of : List (List Handle) → Bindings
names_of lists n = slice_index_or lists n []

-- the command that makes the change to one entity
abbrev pub command_on : Change → Handle → Command
command_on (change.Insert bundle) h = Insert h bundle.now
command_on (change.Remove id) h = Remove h id
command_on change.Despawn h = Despawn h

-- The change was issued for each handle of the target.
pub record HasIssuedOn (view : View) (names : Bindings) (on : Target) (command : Handle → Command)
    (before after : List Command) : Type 0 where
  pub issued : List Command
  pub queue : after ≡ before ++ issued
  pub may : OnEach view names on command issued

-- The operation has issued its commands, and the names refer to these lists then.
pub record HasIssued (view : View) (op : Operation) (before after : List Command)
    (lists lists_after : List (List Handle)) : Type 0 where
  pub issued : List Command
  pub queue : after ≡ before ++ issued
  pub may : Issues view (names_of lists) op issued
  pub names : names_of lists_after ≡ names_after (names_of lists) op issued

-- ---- out of memory

-- The change was issued for some first handles, and not for all.
pub record HasStoppedAmong (handles : List Handle) (command : Handle → Command)
    (before after : List Command) : Type 0 where
  pub done : List Handle
  pub missing : Handle
  pub others : List Handle
  pub all : done ++ missing ∷ others ≡ handles
  pub queue : after ≡ before ++ map command done

pub record HasStoppedOn (view : View) (names : Bindings) (on : Target) (command : Handle → Command)
    (before after : List Command) : Type 0 where
  pub issued : List Command
  pub queue : after ≡ before ++ issued
  pub may : StopsOnEach view names on command issued

pub record HasStopped (view : View) (op : Operation) (before after : List Command)
    (lists : List (List Handle)) : Type 0 where
  pub issued : List Command
  pub queue : after ≡ before ++ issued
  pub may : Stops view (names_of lists) op issued
