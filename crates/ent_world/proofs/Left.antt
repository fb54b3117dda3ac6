-- What is left of a list after a stop, one element after the other; and a sync that is cut
-- anywhere, and goes on with what is left, is the whole sync. Faults are only added to those that
-- there were.
use Rattle.ent_world.proofs.Common.{[], rules, ◌≡◌, ℕ, ◌+◌, ◌<◌, ◌≤◌, List, ◌∷◌, ◌++◌, length, take}
use Rattle.ent_world.proofs.Common.{drop, arith, drop_of_length-le, length-drop, length-take}
use Rattle.ent_world.proofs.Common.{length-append, Handle, drop-append, Command, World, Applied}
use Rattle.ent_world.proofs.Common.{on_entity, on_each, after_commands, first_part, stops}
use Rattle.ent_world.proofs.Common.{cut_commands, cut, last_part, left_commands, after_left_queues}
use Rattle.ent_world.proofs.Common.{after_left, cases_lt, inl, inr, take-append-drop, refl, zero}
use Rattle.ent_world.proofs.Common.{suc, append-nil, common_steps, take-take, Fault, applied}
use Rattle.ent_world.proofs.Common.{after_command, after_queues, IsLaterIn, IsLater, sym, ap, ◌∙◌}
use Rattle.ent_world.proofs.Common.{sync, sync_until, HasStoppedSo, append_assoc, after_births}
use Rattle.ent_world.proofs.Folds.{next_below, next_taken, on_each-append, after_commands-append}
use Rattle.ent_world.proofs.Folds.{after_queues-append, first_alone}

-- ---- lists

module _ {X : Type 0} (xs rest : List X) (k : ℕ) (x : X) (left : drop k xs ≡ x ∷ rest) where
  taken_long : length (take k xs) ≡ k
  taken_long = search (rules, next_below, length-take)

  -- nothing is left before the stop
  none_before : (d : ℕ) → k ≤ d → drop d (take k xs) ≡ []
  none_before d le = drop_of_length-le (take k xs) (omega (arith, taken_long))

  -- from the stop on one more is left, whatever comes after
  more_left : (d : ℕ) (ys : List X) → d ≤ k → drop d (take k xs ++ ys) ≡ drop d (take k xs) ++ ys
  more_left d ys le = search (rules, taken_long, drop-append)

  left_long : (d : ℕ) → d ≤ k → d + length (drop d (take k xs)) ≡ k
  left_long d le = search (rules, length-drop, taken_long)

-- ---- handles

pub each_left-next : (system command : ℕ) (change : Handle → World → World) (hs rest : List Handle)
    (k d : ℕ) (h : Handle) (a : Applied) → drop k hs ≡ h ∷ rest → d ≤ k
    → on_each system command change (drop d (take (k + 1) hs)) a
    ≡ on_entity system command change h (on_each system command change (drop d (take k hs)) a)
each_left-next system command change hs rest k d h a left le =
    search (rules, next_taken, more_left, on_each-append)

-- ---- commands

-- the first of some commands alone is cut
part_append : (done : ℕ) (cs ds : List Command) → 0 < length cs
    → last_part done (cs ++ ds) ≡ last_part done cs ++ ds
part_append done cs ds some = search rules

part_long : (done : ℕ) (cs : List Command) → length (last_part done cs) ≡ length cs
part_long done cs = search rules

part_whole : (cs : List Command) → last_part 0 cs ≡ cs
part_whole cs = search rules

-- a command has a place to stop, and no other command after it changes that
pub some_stop : (c : Command) (cs : List Command) → 0 < stops (c ∷ cs)
some_stop it cs = search rules

module _ (system from done : ℕ) (q rest : List Command) (k : ℕ) (c : Command) (a : Applied)
    (left : drop k q ≡ c ∷ rest) where
  -- the commands before command n, from the stop on
  abbrev so_far : ℕ → Applied
  so_far n = after_commands system from (left_commands from done (take n q)) a

  pub commands_left-skip : k < from → so_far (k + 1) ≡ so_far k
  commands_left-skip lt =
      search (rules, length-append, next_taken, drop_of_length-le, taken_long, none_before)

  -- one command more, or its beginning, from where that is left of it
  module _ (n d : ℕ) (number : n ≡ k) (le : from ≤ k) (first : k ≡ from → d ≡ done)
      (later : from < k → d ≡ 0) where
    commands_then : (cs : List Command)
        → after_commands system from (left_commands from done (take k q ++ cs)) a
        ≡ after_commands system n (last_part d cs) (so_far k)
    commands_then cs = elim (cases_lt _ k) [
      | inl lt ↦
          let none = later lt in
          search (
            rules,
            left_long,
            part_long,
            more_left,
            part_append,
            after_commands-append,
            part_whole,
          )
      | inr at ↦ let is : k ≡ from = omega arith in let all = first is in
          search (rules, more_left, none_before)
    ]

    pub commands_left-step : so_far (k + 1)
        ≡ after_commands system n (last_part d (c ∷ [])) (so_far k)
    commands_left-step = search (rules, next_taken, commands_then)

    pub commands_cut-step : (stop : ℕ)
        → after_commands system from (left_commands from done (cut_commands k stop q)) a
        ≡ after_commands system n (last_part d (first_part stop (c ∷ []))) (so_far k)
    commands_cut-step stop =
        search (rules, left, first_alone, commands_then (first_part stop (c ∷ [])))

-- ---- queues

module _ (from command done : ℕ) (qs rest : List (List Command)) (k : ℕ) (q : List Command)
    (a : Applied)
    (left : drop k qs ≡ q ∷ rest) where
  -- the queues before queue n, from the stop on
  abbrev queues_so_far : ℕ → Applied
  queues_so_far n = after_left from command done (take n qs) a

  after_some : (front : List (List Command)) (p : List Command) → from + length front ≡ k
      → 0 < length front → after_left_queues from command done (front ++ p ∷ []) a
      ≡ after_commands k 0 p (after_left_queues from command done front a)
  after_some front p long some = search (rules, after_queues-append)

  -- one queue more, or a beginning of it, from where that is left of it
  module _ (n m d : ℕ) (number : n ≡ k) (le : from ≤ k)
      (first : k ≡ from → (m ≡ command) × (d ≡ done))
      (later : from < k → (m ≡ 0) × (d ≡ 0)) where
    queues_then : (p : List Command) → after_left from command done (take k qs ++ p ∷ []) a
        ≡ after_commands n m (left_commands m d p) (queues_so_far k)
    queues_then p = elim (cases_lt _ k) [
      | inl lt ↦ let none = later lt in search (rules, left_long, more_left, after_some, part_whole)
      | inr at ↦ let is : k ≡ from = omega arith in let all = first is in
          search (rules, more_left, none_before)
    ]

    pub queues_left-step : queues_so_far (k + 1)
        ≡ after_commands n m (left_commands m d q) (queues_so_far k)
    queues_left-step = search (rules, next_taken, queues_then)

    pub queues_cut-step : (stop stop_done : ℕ)
        → after_left from command done (cut k stop stop_done qs) a
        ≡ after_commands n m (left_commands m d (cut_commands stop stop_done q)) (queues_so_far k)
    queues_cut-step stop stop_done =
        search (rules, left, queues_then (cut_commands stop stop_done q))

-- ---- cut and gone on

each_split : (system command : ℕ) (change : Handle → World → World) (done : ℕ) (hs : List Handle)
    (a : Applied) → on_each system command change hs a
    ≡ on_each system command change (drop done hs) (on_each system command change (take done hs) a)
each_split system command change done hs a = rw
    (← on_each-append system command change (take done hs) (drop done hs) a, take-append-drop)

-- from the command of a number on, if the first of these has that number
commands_split : (system from command done : ℕ) (q : List Command) (a : Applied)
    → after_commands system from q a
    ≡ after_commands system (from + command) (left_commands command done q)
    (after_commands system from (cut_commands command done q) a)
commands_split system from zero done q a = search (rules, each_split)
commands_split system from (suc command) done [] a = refl
commands_split system from (suc command) done (c ∷ q) a = search
    (rules, commands_split system (from + 1) command done q (after_command system from c a))

-- from the queue of a number on, if the first of these has that number
queues_split : (from system command done : ℕ) (qs : List (List Command)) (a : Applied)
    → after_queues from qs a ≡ after_left_queues (from + system) command done (drop system qs)
    (after_queues from (cut system command done qs) a)
queues_split from zero command done [] a = refl
queues_split from zero command done (q ∷ qs) a =
    search (rules, commands_split from 0 command done q a)
queues_split from (suc system) command done [] a = refl
queues_split from (suc system) command done (q ∷ qs) a = search
    (rules, queues_split (from + 1) system command done qs (after_commands from 0 q a))

-- The sync that is cut there and then goes on has applied all queues.
pub cut_and_left : (system command done : ℕ) (queues : List (List Command)) (a : Applied)
    → after_left system command done queues (after_queues 0 (cut system command done queues) a)
    ≡ after_queues 0 queues a
cut_and_left system command done queues a =
    grind (arith, common_steps, queues_split 0 system command done queues a)

-- ---- a cut in a cut

commands_within : (command done later later_done : ℕ) (q : List Command)
    → IsLaterIn command done later later_done
    → cut_commands command done (cut_commands later later_done q) ≡ cut_commands command done q
commands_within zero done zero later_done q is = search (rules, take-take)
commands_within zero done (suc later) later_done it is = search (rules, first_alone)
commands_within (suc command) done (suc later) later_done (c ∷ q) is = search
    (rules, commands_within command done later later_done q)
commands_within _ _ _ _ _ is = search rules

pub cut_within : (system command done later later_command later_done : ℕ)
    (queues : List (List Command)) → IsLater system command done later later_command later_done
    → cut system command done (cut later later_command later_done queues)
    ≡ cut system command done queues
cut_within zero command done zero later_command later_done it is = search (rules, commands_within)
cut_within (suc system) command done (suc later) later_command later_done (q ∷ qs) is = search
    (rules, cut_within system command done later later_command later_done qs)
cut_within _ _ _ _ _ _ _ is = search rules

-- ---- faults are added

-- what was applied, with these faults before its own
abbrev pub with_faults_before : List Fault → Applied → Applied
with_faults_before earlier a = record a { faults = earlier ++ a.faults }

-- Each step does the same whatever faults there were.
module _ (earlier : List Fault) where
  abbrev after : Applied → Applied
  after a = with_faults_before earlier a

  entity_after : (system command : ℕ) (change : Handle → World → World) (h : Handle) (a : Applied)
      → on_entity system command change h (after a) ≡ after (on_entity system command change h a)
  entity_after system command change h a = grind (arith, common_steps)

  each_after : (system command : ℕ) (change : Handle → World → World) (hs : List Handle)
      (a : Applied) → on_each system command change hs (after a)
      ≡ after (on_each system command change hs a)
  each_after system command change [] a = refl
  each_after system command change (h ∷ hs) a =
      search (
        rules,
        entity_after,
        each_after system command change hs (on_entity system command change h a),
      )

  command_after : (system command : ℕ) (c : Command) (a : Applied)
      → after_command system command c (after a) ≡ after (after_command system command c a)
  command_after system command it a = search (rules, entity_after, each_after, append_assoc)

  commands_after : (system command : ℕ) (cs : List Command) (a : Applied)
      → after_commands system command cs (after a) ≡ after (after_commands system command cs a)
  commands_after system command [] a = refl
  commands_after system command (c ∷ cs) a =
      search (
        rules,
        command_after,
        commands_after system (command + 1) cs (after_command system command c a),
      )

  queues_after : (system : ℕ) (qs : List (List Command)) (a : Applied)
      → after_queues system qs (after a) ≡ after (after_queues system qs a)
  queues_after system [] a = refl
  queues_after system (q ∷ qs) a = search
      (rules, commands_after, queues_after (system + 1) qs (after_commands system 0 q a))

  left_after : (system command done : ℕ) (queues : List (List Command)) (a : Applied)
      → after_left system command done queues (after a)
      ≡ after (after_left system command done queues a)
  left_after system command done queues a = search (rules, commands_after, queues_after)

-- ---- a caller's words

-- Who stopped there, in this world and after these faults, can go on.
module _ {system command done : ℕ} {queues : List (List Command)} {before w : World}
    {earlier : List Fault}
    (stopped : HasStoppedSo system command done queues before w earlier) where
  gone_on_in : (all : List (List Command))
      → cut system command done all ≡ cut system command done queues
      → with_faults_before earlier (after_left system command done all (applied w []))
      ≡ after_queues 0 all (applied (after_births queues before) [])
  gone_on_in all same =
      let start = applied (after_births queues before) [] in
      let now : with_faults_before earlier (applied w [])
      ≡ after_queues 0 (cut system command done all) start = rw same
      (search (rules, append-nil, stopped.world, stopped.faults_are)) in
      sym (left_after earlier system command done all (applied w []))
      ∙ ap (after_left system command done all) now
      ∙ cut_and_left system command done all start

  -- Who goes on to the end has applied what the whole sync applies.
  pub gone_on : with_faults_before earlier (after_left system command done queues (applied w []))
      ≡ sync queues before
  gone_on = gone_on_in queues refl

  -- And who stops again has applied what the sync applies until there.
  pub gone_on_until : (later later_command later_done : ℕ)
      → IsLater system command done later later_command later_done
      → with_faults_before earlier
      (after_left system command done (cut later later_command later_done queues) (applied w []))
      ≡ sync_until later later_command later_done queues before
  gone_on_until later later_command later_done is = gone_on_in _ (cut_within _ _ _ _ _ _ _ is)
