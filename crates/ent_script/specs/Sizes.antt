-- How much a script may have.
use Rattle.std.specs.Prelude.{ℕ}

-- components that it lists
abbrev pub most_components : ℕ
most_components = 256

abbrev pub most_frames : ℕ
most_frames = 1000

-- systems of a frame
abbrev pub most_systems : ℕ
most_systems = 256

-- operations of a system
abbrev pub most_operations : ℕ
most_operations = 10000

-- entities that one operation spawns
abbrev pub most_spawned : ℕ
most_spawned = 65536
