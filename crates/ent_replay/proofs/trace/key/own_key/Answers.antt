use Rattle.ent_replay.proofs.trace.key.own_key.Goals as goal

pub returns-in-Handles-clause-key : goal.returns-in-Handles-clause-key
returns-in-Handles-clause-key c =
    rw (c.in-Handles.is, ← c.as_slice.ensures) (c.list_key.ensures c.args.requested)
