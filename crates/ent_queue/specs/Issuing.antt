-- What was added to a queue, and the requests that it represents.
use Rattle.std.specs.Prelude.{◌≡◌, List, ◌++◌, flat_map}
use Rattle.ent_alloc.specs.Serving.{Request}
use Rattle.ent_queue.specs.Command.{Command}
use Rattle.ent_queue.specs.Reserving.{requests_of}

-- Commands were added to the queue, which represent exactly these requests.
pub record Issues (before : List Command) (requests : List Request) (after : List Command) :
    Type 0 where
  pub added : List Command
  pub queue : after ≡ before ++ added
  pub requests_are : requests ≡ flat_map requests_of added
