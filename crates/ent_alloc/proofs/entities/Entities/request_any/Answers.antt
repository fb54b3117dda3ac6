use Rattle.ent_alloc.proofs.Common.{rules, ◌≡◌, listed_alone, reply_to}
use Rattle.ent_alloc.proofs.OneReply.{told_one, of_front, of_refused, none_left, space_is}
use Rattle.ent_alloc.proofs.entities.Entities.request_any.Goals.{After-reply_one}
use Rattle.ent_alloc.proofs.entities.Entities.request_any.Goals as goal

-- the reply that is looked up is that to the request
replied : (c : After-reply_one)
    → listed_alone c.reply_one.result ≡ reply_to c.args.self.now.allocator 1
replied c = search (rules, told_one)

pub returns-in_err-reply_one-clause-space : goal.returns-in_err-reply_one-clause-space
returns-in_err-reply_one-clause-space c = search (rules, of_refused, replied, none_left, space_is)

pub returns : goal.returns
returns c = search (rules, of_front, replied)
