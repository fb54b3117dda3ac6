-- What a system fills a queue with whose handles are of a shared allocator.
use Rattle.std.specs.Prelude.{List}
use Rattle.ent_shared.specs.Phase.{Shared, Reserver, IsOf}
use Rattle.ent_shared.specs.Replies.{IsReturned}
use Rattle.ent_queue.specs.Command.{Command}
use Rattle.ent_queue.specs.Commands as filling
use Rattle.ent_queue.specs.Issuing.{Issues}
use Rattle.ent_queue.specs.declared.commands.Commands.{Commands}

abbrev pub Issued : Type 0
Issued = Commands (List Command) Shared Reserver

-- the reserver is one of those that came with the allocator
abbrev pub IsReady : Issued → Type 0
IsReady c = filling.IsReady IsOf c

-- commands were added, and the reserver has made their requests and no others
abbrev pub Extends : Issued → Issued → Type 0
Extends before after = filling.Extends Issues IsOf IsReturned before after
