use Rattle.ent_world.proofs.Common.{rules, ◌≡◌, listed_alone, reply_to}
use Rattle.ent_world.proofs.PlacedRows.{one_given, given_new, none_given, pool_some, reply_at_top}
use Rattle.ent_world.proofs.spawning.next_handle.Goals.{After-reply_one}
use Rattle.ent_world.proofs.spawning.next_handle.Goals as goal

-- it is the reply to a request for one
replied : (c : After-reply_one)
    → listed_alone c.reply_one.result ≡ reply_to c.args.entities.now.allocator 1
replied c = search (rules, reply_at_top)

pub returns-in-Ok-clause-front : goal.returns-in-Ok-clause-front
returns-in-Ok-clause-front c = search (rules, one_given, replied)

pub returns-in-Ok-clause-new : goal.returns-in-Ok-clause-new
returns-in-Ok-clause-new c = search (rules, given_new, replied)

pub returns-in-Ok-clause-space : goal.returns-in-Ok-clause-space
returns-in-Ok-clause-space c = search (rules, pool_some, replied)

pub returns-in-Err-clause-space : goal.returns-in-Err-clause-space
returns-in-Err-clause-space c = search (rules, none_given, replied)
