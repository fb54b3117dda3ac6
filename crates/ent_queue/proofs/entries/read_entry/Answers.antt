use Rattle.ent_queue.proofs.Common.{rules, arith, ◌∙◌}
use Rattle.ent_queue.proofs.Queues.{begins_kind, says_of_kind}
use Rattle.ent_queue.proofs.entries.read_entry.Goals as goal

pub read_handle-handle-requires : goal.read_handle-handle-requires
read_handle-handle-requires c =
    let s = says_of_kind 0 c.args.bytes.now c.requires (cc) in
    search (rules, s)

pub read-bundle-requires : goal.read-bundle-requires
read-bundle-requires c =
    let s = says_of_kind 0 c.args.bytes.now c.requires (cc) in
    rw (c.read_handle-handle.ensures.rest, c.read_u8-kind.ensures.rest)
    (record { header = s.bundle.header; items = s.bundle.long; is = s.bundle.is })

pub returns-in-0-clause-rest : goal.returns-in-0-clause-rest
returns-in-0-clause-rest c =
    let s = says_of_kind 0 c.args.bytes.now c.requires (cc) in
    search (rules, s.bundle.rest_is)

pub read_u32-count-requires : goal.read_u32-count-requires
read_u32-count-requires c =
    let s = says_of_kind 1 c.args.bytes.now c.requires (cc) in
    search (rules, s)

pub read-handles-requires : goal.read-handles-requires
read-handles-requires c =
    let s = says_of_kind 1 c.args.bytes.now c.requires (cc) in
    search (rules, s.long, s.each)

pub read-bundle-requires-in-1 : goal.read-bundle-requires-in-1
read-bundle-requires-in-1 c =
    let s = says_of_kind 1 c.args.bytes.now c.requires (cc) in
    search (rules, s.bundle.header, s.bundle.long, s.bundle.is)

pub returns-in-1-clause-rest : goal.returns-in-1-clause-rest
returns-in-1-clause-rest c =
    let s = says_of_kind 1 c.args.bytes.now c.requires (cc) in
    search (rules, s.bundle.rest_is)

pub read_handle-handle-requires-in-2 : goal.read_handle-handle-requires-in-2
read_handle-handle-requires-in-2 c =
    let s = says_of_kind 2 c.args.bytes.now c.requires (cc) in
    search (rules, s)

pub read-bundle-requires-in-2 : goal.read-bundle-requires-in-2
read-bundle-requires-in-2 c =
    let s = says_of_kind 2 c.args.bytes.now c.requires (cc) in
    search (rules, s.bundle.header, s.bundle.long, s.bundle.is)

pub returns-in-2-clause-rest : goal.returns-in-2-clause-rest
returns-in-2-clause-rest c =
    let s = says_of_kind 2 c.args.bytes.now c.requires (cc) in
    search (rules, s.bundle.rest_is)

pub read_handle-handle-requires-in-3 : goal.read_handle-handle-requires-in-3
read_handle-handle-requires-in-3 c =
    let s = says_of_kind 3 c.args.bytes.now c.requires (cc) in
    search (rules, s)

pub read_u8-id-requires : goal.read_u8-id-requires
read_u8-id-requires c =
    let s = says_of_kind 3 c.args.bytes.now c.requires (cc) in
    search (rules, s.more)

pub returns-in-3-clause-rest : goal.returns-in-3-clause-rest
returns-in-3-clause-rest c =
    let s = says_of_kind 3 c.args.bytes.now c.requires (cc) in
    search (rules, s.rest_is)

pub read_handle-handle-requires-in-4 : goal.read_handle-handle-requires-in-4
read_handle-handle-requires-in-4 c =
    let s = says_of_kind 4 c.args.bytes.now c.requires (cc) in
    search (rules, s)

pub returns-in-4-clause-rest : goal.returns-in-4-clause-rest
returns-in-4-clause-rest c =
    let s = says_of_kind 4 c.args.bytes.now c.requires (cc) in
    search (rules, s.rest_is)

pub read_u32-wanted-requires : goal.read_u32-wanted-requires
read_u32-wanted-requires c =
    let s =
    says_of_kind 5 c.args.bytes.now c.requires
    (omega (arith, begins_kind c.args.bytes.now c.requires)) in
    search (rules, s)

pub read_reason-why-requires : goal.read_reason-why-requires
read_reason-why-requires c =
    let s =
    says_of_kind 5 c.args.bytes.now c.requires
    (omega (arith, begins_kind c.args.bytes.now c.requires)) in
    search (rules, s.long, s.is)

pub returns-in_default-clause-rest : goal.returns-in_default-clause-rest
returns-in_default-clause-rest c =
    let s =
    says_of_kind 5 c.args.bytes.now c.requires
    (omega (arith, begins_kind c.args.bytes.now c.requires)) in
    search (rules, s.rest_is)
