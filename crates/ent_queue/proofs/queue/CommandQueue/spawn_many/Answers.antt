use Rattle.ent_queue.proofs.Common.{rules, ◌++◌, ap, sym, subst, ◌∙◌, length, ◌<◌, ◌^◌, SpawnMany}
use Rattle.ent_queue.proofs.Common.{Refused, command_bytes, bundle_bytes}
use Rattle.ent_queue.proofs.Queues.{Pushed, pushed, many_written}
use Rattle.ent_queue.proofs.Gaining.{is_refusal, refused_by_fault}
use Rattle.ent_queue.proofs.queue.CommandQueue.spawn_many.Goals.{After-write_bundle}
use Rattle.ent_queue.proofs.queue.CommandQueue.spawn_many.Goals.{After-write_refused}
use Rattle.ent_queue.proofs.queue.CommandQueue.spawn_many.Given as given
use Rattle.ent_queue.proofs.queue.CommandQueue.spawn_many.Goals as goal

-- the bytes after the spawn
served : (g : given.Over) (c : After-write_bundle g)
    → Pushed c.self.inside.count c.self.inside.bytes.items c.write_bundle.new.bytes.items
    (SpawnMany c.in-Ok.given c.args.items.now)
served g c =
    let hs = c.in-Ok.given in
    let command = SpawnMany hs c.args.items.now in
    let few : length hs < 2 ^ 32 =
    subst (λ k. k < 2 ^ 32) (sym c.in-Ok.ensures.length) c.write_many.ensures.number in
    pushed c.self.inside.count c.self.inside.bytes.items c.write_bundle.new.bytes.items command
    c.self.invariant
    (few, c.write_many.ensures.each, c.requires.is) (c.write_bundle.ensures.items
    ∙ ap (λ bytes. bytes ++ bundle_bytes c.args.items.now) c.write_many.ensures.items
    ∙ many_written c.reserve.new.self.items hs c.args.items.now c.args.n c.in-Ok.ensures.length
    ∙ ap (λ bytes. bytes ++ command_bytes command) c.in_ok-reserve.ensures.items)

pub invariant_of-self-in-Ok : goal.invariant_of-self-in-Ok
invariant_of-self-in-Ok g c =
    (served g (goal.at.invariant_of-self-in-Ok g c).After-write_bundle).packed

pub returns-in-Ok-clause-ok : goal.returns-in-Ok-clause-ok
returns-in-Ok-clause-ok g c = search (rules, served g)

-- and after a refusal
refused : (g : given.Over) (c : After-write_refused g)
    → Pushed c.self.inside.count c.self.inside.bytes.items c.write_refused.new.bytes.items
    (Refused c.args.n c.in-Err.why)
refused g c =
    let command = Refused c.args.n c.in-Err.why in
    let is = is_refusal c.args.n c.in-Err.why c.in-Err.ensures.wanted c.write_refused.ensures.why in
    pushed c.self.inside.count c.self.inside.bytes.items c.write_refused.new.bytes.items command
    c.self.invariant
    (c.write_refused.ensures.wanted, is)
    (c.write_refused.ensures.items ∙ ap (λ bytes. bytes ++ command_bytes command)
    c.in_ok-reserve.ensures.items)

pub invariant_of-self-in-Err-1 : goal.invariant_of-self-in-Err-1
invariant_of-self-in-Err-1 g c =
    (refused g (goal.at.invariant_of-self-in-Err-1 g c).After-write_refused).packed

pub returns-in-Err-clause-refused : goal.returns-in-Err-clause-refused
returns-in-Err-clause-refused g c = search (rules, refused g, refused_by_fault)
