use Rattle.ent_replay.proofs.Common.{◌≡◌, ◌++◌, drop, map, handle_text}
use Rattle.ent_replay.specs.Text.{spaced}
use Rattle.ent_replay.proofs.trace.writing.put_handles.Given as goal

-- what is written and what is left are the whole
abbrev pub invariant-loop-handle : goal.invariant-loop-handle
invariant-loop-handle l = l.out.items ++ spaced (map handle_text (drop l.handle-index l.handles))
    ≡ l.fn.out.items ++ spaced (map handle_text l.handles)
