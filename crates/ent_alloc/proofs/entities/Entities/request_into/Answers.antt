use Rattle.ent_alloc.proofs.Common.{rules, ◌≡◌, reply_to, IsSound}
use Rattle.ent_alloc.proofs.Meaning.{allocator_is}
use Rattle.ent_alloc.proofs.OneReply.{told, of_served, of_refused, space_of_three}
use Rattle.ent_alloc.proofs.entities.Entities.request_into.Goals.{After-reply}
use Rattle.ent_alloc.proofs.entities.Entities.request_into.Goals as goal

sound : (c : After-reply) → IsSound c.args.self.now.allocator
sound c = search (rules, allocator_is)

-- the reply that is looked up is that to the request
replied : (c : After-reply) → c.reply.result ≡ reply_to c.args.self.now.allocator c.args.n
replied c = search (rules, told, sound)

pub returns-in_err-reply-clause-refused : goal.returns-in_err-reply-clause-refused
returns-in_err-reply-clause-refused c =
    search (
      rules,
      of_refused c.args.self.now.allocator c.args.n c.in_err-reply.field-0.0,
      replied,
      c.in_err-reply.was,
      space_of_three,
    )

pub append_to-requires : goal.append_to-requires
append_to-requires c =
    search (
      rules,
      of_served c.args.self.now.allocator c.args.n c.in_ok-reply.field-0,
      sound,
      replied,
      c.in_ok-reply.was,
    )

pub returns : goal.returns
returns c =
    search (
      rules,
      of_served c.args.self.now.allocator c.args.n c.in_ok-reply.field-0,
      sound,
      replied,
      c.in_ok-reply.was,
    )
