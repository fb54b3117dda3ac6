use Rattle.spawnrun_lib.proofs.Common.{rules, ◌≡◌, ◌+◌, ◌++◌, ℕ, List, length, refl, flat_map}
use Rattle.spawnrun_lib.proofs.Common.{err_from_is_err_and, on_err_weaker, Handle, EntityMap}
use Rattle.spawnrun_lib.proofs.Common.{ListsAll, Show, line_in, alive_line, IsWorldText}
use Rattle.spawnrun_lib.proofs.Common.{length-append}
use Rattle.std.specs.FinMap as finite
use Rattle.spawnrun_lib.proofs.OneCourse.{one_text}
use Rattle.spawnrun_lib.proofs.world_text.append_world.Goals as goal

-- the one text has the lines of these handles and the last line
long : (names : List (List ℕ)) (s : Show) (m : EntityMap) (handles : List Handle) (text : List ℕ)
    → ListsAll m handles → IsWorldText names s m text
    → length text ≡ length (flat_map (line_in names s m) handles)
    + length (alive_line (finite.len m))
long names s m handles text lists is = search (
  rules,
  one_text names s m (flat_map (line_in names s m) handles ++ alive_line (finite.len m)) text
      (record { handles = handles; lists = lists; is = refl }) is,
  length-append,
)

pub returns-in_err-append_entities-clause-full : goal.returns-in_err-append_entities-clause-full
returns-in_err-append_entities-clause-full c text is = search (rules, long, err_from_is_err_and)

pub returns-clause-full : goal.returns-clause-full
returns-clause-full c text is = search (rules, long, length-append, on_err_weaker)
