-- What one system of a run has filled, with a reserver that was lent to it.
use Rattle.std.specs.Prelude.{List}
use Rattle.ent_alloc.specs.Serving.{Request, Replying, AreServed}

module _ {O : Type 0} (Adds : O → List Request → O → Type 0) (empty : O) where
  -- The output was filled from nothing on. The reserver has made exactly the requests that the
  -- output represents, and was `before` first and is `after` now.
  pub record IsFilled {R : Type 0} (may : Replying R) (before : R) (output : O) (after : R)
      : Type 0 where
    pub requests : List Request
    pub adds : Adds empty requests output
    pub served : AreServed may before requests after
