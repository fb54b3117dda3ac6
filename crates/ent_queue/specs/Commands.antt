-- What a system fills, as it goes: what it has filled so far, the reserver that was lent to it, and
-- the source that serves it.
use Rattle.std.specs.Prelude.{◌≡◌, List}
use Rattle.ent_alloc.specs.Serving.{Request, Replying, AreServed}
use Rattle.ent_queue.specs.declared.commands.Commands.{Commands}

module _ {O S R : Type 0} where
  abbrev pub output_of : Commands O S R → O
  output_of c = c.output

  abbrev pub reserver_of : Commands O S R → R
  reserver_of c = c.reserver.now

  abbrev pub source_of : Commands O S R → S
  source_of c = c.source.now

  -- the reserver is one of the source's
  abbrev pub IsReady : (S → R → Type 0) → Commands O S R → Type 0
  IsReady serves c = serves (source_of c) (reserver_of c)

  -- Something was added, for these requests of the reserver and no others. It is the same reserver
  -- of the same source.
  pub record Extends (Adds : O → List Request → O → Type 0) (serves : S → R → Type 0)
      (may : S → Replying R) (before after : Commands O S R) : Type 0 where
    pub same : after.reserver.ghost_name ≡ before.reserver.ghost_name
    pub source : source_of after ≡ source_of before
    pub ready : IsReady serves after
    pub requests : List Request
    pub adds : Adds (output_of before) requests (output_of after)
    pub served : AreServed (may (source_of before)) (reserver_of before) requests
        (reserver_of after)
