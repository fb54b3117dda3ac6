use Rattle.ent_script.proofs.Common.{arith, rules}
use Rattle.ent_script.proofs.Keyed.{no_operation}
use Rattle.ent_script.proofs.Openings.{object_begun, no_object_begun}
use Rattle.ent_script.proofs.frames.next_operation.Goals as goal

pub returns-then-not-branch-clause-value : goal.returns-then-not-branch-clause-value
returns-then-not-branch-clause-value c d rest e = search
    (rules, no_operation, no_object_begun, c.in_ok-begins_object.ensures.value d rest e)

pub returns-in_err-fields-clause-value : goal.returns-in_err-fields-clause-value
returns-in_err-fields-clause-value c d rest e = search
    (rules, object_begun, c.in_ok-begins_object.ensures.value d rest e)

pub returns-in_err-operation-clause-value : goal.returns-in_err-operation-clause-value
returns-in_err-operation-clause-value c d rest e =
    let is =
    object_begun _ _ _ d rest (c.in_ok-begins_object.ensures.value d rest e) (grind arith) in
    let at = c.in_ok-fields.ensures.value _ is.0 rest is.2 in
    search (rules, is.1, at.1, c.in_err-operation.ensures is.0 at.0)

pub returns-clause-value : goal.returns-clause-value
returns-clause-value c d rest e =
    let is =
    object_begun _ _ _ d rest (c.in_ok-begins_object.ensures.value d rest e) (grind arith) in
    let at = c.in_ok-fields.ensures.value _ is.0 rest is.2 in
    search (rules, is.1, at.1, c.in_ok-operation.ensures is.0 at.0)

pub returns-clause-binds : goal.returns-clause-binds
returns-clause-binds c d rest e =
    let is =
    object_begun _ _ _ d rest (c.in_ok-begins_object.ensures.value d rest e) (grind arith) in
    let at = c.in_ok-fields.ensures.value _ is.0 rest is.2 in
    search (rules, is.1, c.in_ok-bind.ensures is.0 at.0)
