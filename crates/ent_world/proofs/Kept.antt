-- The entities of a world's map are those whose handle is alive, also after each change of the two;
-- and what each change of a living entity keeps, commands keep, and so do queues of them.
use Rattle.ent_world.proofs.Common.{common_steps, arith, rules, ◌≡◌, sym, ap, ◌∙◌, is_some, List}
use Rattle.ent_world.proofs.Common.{Handle, handle_cmp, handle_cmp_total, Allocator, Call}
use Rattle.ent_world.proofs.Common.{after_history, after_history-takes, live-after_takes}
use Rattle.ent_world.proofs.Common.{same_handle, Components, Entity, EntityMap, with_components}
use Rattle.ent_world.proofs.Common.{AreLiving, [], ℕ, ◌+◌, true, ◌∷◌, Command, World, lives_in}
use Rattle.ent_world.proofs.Common.{Applied, on_entity, on_each, after_despawn, after_command}
use Rattle.ent_world.proofs.Common.{after_commands, after_queues}
use Rattle.std.specs.FinSet as set
use Rattle.std.specs.FinMap as map

-- who lives in a set of handles and who has an entity in a map
abbrev pub AreKeys : set.FinSet handle_cmp → EntityMap → Type 0
AreKeys live m = (h : Handle) → map.contains_key m h ≡ set.contains live h

-- nobody
pub keys-empty : AreKeys set.empty map.empty
keys-empty h = ap is_some (map.get-empty handle_cmp h) ∙ sym (set.contains-empty handle_cmp h)

-- one entity more
pub keys-insert : (live : set.FinSet handle_cmp) (m : EntityMap) (h : Handle) (e : Entity)
    → AreKeys live m → AreKeys (set.insert live h) (map.insert m h e)
keys-insert live m h e same g =
    search (
      rules,
      map.get-insert handle_cmp_total m h e g,
      set.contains-insert handle_cmp_total live h g,
      same g,
    )

-- one less
pub keys-remove : (live : set.FinSet handle_cmp) (m : EntityMap) (h : Handle) → AreKeys live m
    → AreKeys (set.remove live h) (map.remove m h)
keys-remove live m h same g =
    search (
      rules,
      map.get-remove handle_cmp_total m h g,
      set.contains-remove handle_cmp_total live h g,
      same g,
    )

-- reservations bring nobody to life
pub living-history : (s t : Allocator) (calls : List Call) (m : EntityMap) → AreLiving s m
    → t ≡ after_history s calls → AreLiving t m
living-history s t calls m same after h = search (rules, after_history-takes, live-after_takes)

-- other components of an entity that is there, or of none
pub same_keys-components : (m : EntityMap) (h : Handle) (change : Components → Components)
    (g : Handle) → map.contains_key (with_components m h change) g ≡ map.contains_key m g
same_keys-components m h change g =
    grind (arith, common_steps, same_handle g h, map.get-insert handle_cmp_total m h)

pub keys-components : (live : set.FinSet handle_cmp) (m : EntityMap) (h : Handle)
    (change : Components → Components) → AreKeys live m → AreKeys live (with_components m h change)
keys-components live m h change same g = same_keys-components m h change g ∙ same g

-- A fact about worlds that holds after each change of a living entity, if it held before.
pub record IsKept (P : World → Type 0) : Type 0 where
  pub components : (change : Components → Components) (h : Handle) (w : World) → lives_in w h ≡ true
      → P w
      → P (record w { entities = with_components w.entities h change })
  pub despawn : (h : Handle) (w : World) → lives_in w h ≡ true → P w → P (after_despawn h w)

-- many handles
on_each-keeps : (P : World → Type 0) (system command : ℕ) (change : Handle → World → World)
    → ((h : Handle) (w : World) → lives_in w h ≡ true → P w → P (change h w))
    → (hs : List Handle) (a : Applied) → P a.world → P (on_each system command change hs a).world
on_each-keeps P system command change keeps [] a before = before
on_each-keeps P system command change keeps (h ∷ hs) a before = search
    (rules, on_each-keeps P system command change keeps hs (on_entity system command change h a))

module _ (P : World → Type 0) (kept : IsKept P) where
  pub after_command-keeps : (system command : ℕ) (c : Command) (a : Applied) → P a.world
      → P (after_command system command c a).world
  after_command-keeps system command it a before = search (rules, on_each-keeps P)

  pub after_commands-keeps : (system command : ℕ) (q : List Command) (a : Applied) → P a.world
      → P (after_commands system command q a).world
  after_commands-keeps system command [] a before = before
  after_commands-keeps system command (c ∷ q) a before = after_commands-keeps system (command + 1) q
      (after_command system command c a) (after_command-keeps system command c a before)

  pub after_queues-keeps : (system : ℕ) (queues : List (List Command)) (a : Applied) → P a.world
      → P (after_queues system queues a).world
  after_queues-keeps system [] a before = before
  after_queues-keeps system (q ∷ queues) a before =
      after_queues-keeps (system + 1) queues (after_commands system 0 q a)
      (after_commands-keeps system 0 q a before)
