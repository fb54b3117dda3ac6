-- The command that an entry is.
use Rattle.ent_queue.specs.declared.entry.Entry.{Entry}
use Rattle.ent_queue.specs.declared.entry.Entry.TheVariants as entry
use Rattle.ent_queue.specs.Command.{Command, Spawn, SpawnMany, Insert, Remove, Despawn, Refused}

abbrev pub command_of : Entry → Command
command_of (entry.Spawn h items) = Spawn h items
command_of (entry.SpawnMany hs items) = SpawnMany hs items
command_of (entry.Insert h items) = Insert h items
command_of (entry.Remove h id) = Remove h id
command_of (entry.Despawn h) = Despawn h
command_of (entry.Refused wanted why) = Refused wanted why
