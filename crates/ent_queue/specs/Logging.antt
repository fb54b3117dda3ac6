-- What was added to a log, and the requests that it represents.
use Rattle.std.specs.Prelude.{◌≡◌, List, [], ◌∷◌, ◌++◌, Ok, Err, flat_map}
use Rattle.ent_alloc.specs.Serving.{Request}
use Rattle.ent_log.specs.declared.entry.Entry.{Entry}
use Rattle.ent_log.specs.declared.entry.Entry.TheVariants.{Spawn, Refused, Command}

module _ {C : Type 0} where
  -- the request that an entry represents: each spawn requests one handle
  abbrev pub request_of : Entry C → List Request
  request_of (Spawn h) = (1, Ok (h ∷ [])) ∷ []
  request_of (Refused why) = (1, Err why) ∷ []
  request_of (Command command) = []

  -- Entries were added to the log, which represent exactly these requests.
  pub record Logs (before : List (Entry C)) (requests : List Request) (after : List (Entry C))
      : Type 0 where
    pub added : List (Entry C)
    pub log : after ≡ before ++ added
    pub requests_are : requests ≡ flat_map request_of added
