-- Two numbers tell what requests leave of a flushed allocator: how many handles were given, and how
-- many were asked for.
use Rattle.ent_alloc.proofs.Common.{rules, ◌≡◌, ℕ, ◌+◌, ◌-◌, ◌≤◌, List, [], length, sum, take_all}
use Rattle.ent_alloc.proofs.Common.{drop_all, length-take, length-drop, length_permutation}
use Rattle.ent_alloc.proofs.Common.{Allocator, available, top, after_take, settled, IsSound}
use Rattle.std.proofs.Common.{append-nil}
use Rattle.ent_alloc.proofs.LaidOut.{flushed-laid_out}
use Rattle.ent_alloc.proofs.Taken.{length-available, after_take-served}
use Rattle.ent_alloc.proofs.PoolLaw.{limits-after_takes, live-after_takes, after_takes}
use Rattle.ent_alloc.proofs.PoolLaw.{after_takes-sound, available-after_takes, made-after_takes}
use Rattle.ent_alloc.proofs.PoolLaw.{asked-after_takes, taken_is, aside_is}
use Rattle.ent_alloc.proofs.Meaning.{append_parts}
use Rattle.ent_alloc.proofs.RequestLaws.{given_by, taken-since_flush}

module _ (s : Allocator) (h : IsSound s) (flushed : s.asked ≡ 0) where
  -- a flushed allocator has taken nothing, nor passed anything over
  nothing_taken : s.taken ≡ []
  nothing_taken = (flushed-laid_out s h flushed).taken

  nothing_aside : s.aside ≡ []
  nothing_aside = (flushed-laid_out s h flushed).aside

  all_in_pool : available s ≡ s.pool
  all_in_pool = rw (nothing_taken, nothing_aside)

  -- any two numbers that requests may leave
  pub settled-sound : (given asked : ℕ) → given ≤ asked → (asked ≤ length s.pool → given ≡ asked)
      → IsSound (settled s given asked)
  settled-sound given asked le enough = search
      (rules, append_parts, all_in_pool, nothing_taken, nothing_aside, drop_all, length-take)

  -- how many there are to give
  pub length-all : length s.pool ≡ top s + (s.limits.slots - s.made)
  length-all = search (rules, all_in_pool, length-available)

  -- two requests leave such a state: one that is served, and one that is refused where more was
  -- asked for
  pub settled-requests : (given asked : ℕ) → given ≤ asked → given ≤ length s.pool
      → (asked ≤ length s.pool → given ≡ asked) → settled s given asked
      ≡ after_take (after_take s given) (asked - given)
  settled-requests given asked le enough whole = search
      (rules, take_all, drop_all, after_take-served, length-drop, length-take, append-nil)

  -- requests leave such a state
  pub after_takes-settled : (requests : List ℕ)
      → after_takes s requests ≡ settled s (length (given_by s requests)) (sum requests)
  after_takes-settled requests =
      let t = after_takes s requests in
      let sound = after_takes-sound s requests h in
      search (
        rules,
        available-after_takes s requests h,
        all_in_pool,
        length_permutation,
        taken-since_flush,
        taken_is t,
        aside_is t sound,
        asked-after_takes s requests,
        made-after_takes s requests,
        nothing_taken,
        nothing_aside,
        limits-after_takes,
        live-after_takes,
      )
