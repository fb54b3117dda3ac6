-- Which handles of spawns are reserved, entry by entry and log by log.
use Rattle.std.proofs.Common.{◌≡◌, ◌∙◌, ap, sym, List, [], ◌∷◌, true, not, Option, None, Some, All}
use Rattle.std.proofs.Common.{IsTrue, arith}
use Rattle.std.specs.Option.{option_or}
use Rattle.std.proofs.lemmas.Grind.{common_steps}
use Rattle.std.proofs.lemmas.List.Concat.{flat_map-append}
use Rattle.std.proofs.lemmas.List.Folds.{find-append}
use Rattle.std.proofs.lemmas.List.Elements.{All-nil, All-cons}
use Rattle.ent_handle.specs.Handle.{Handle}
use Rattle.ent_alloc.specs.Sequential.{Allocator, after_flush, state_of, stands_in}
use Rattle.ent_alloc.specs.Sound.{IsLive}
use Rattle.ent_alloc.proofs.Flushes.{taken-lives}
use Rattle.ent_alloc.proofs.HandleSets.{Contains-from_stands_in}
use Rattle.ent_log.specs.declared.entry.Entry.{Entry}
use Rattle.ent_log.specs.Logs.{entries_of, spawned_in, spawned_by, first_unreserved, is_reserved}

module _ {C : Type 0} (s : Allocator) where
  -- of a log and the logs behind it
  unreserved-log : (log : List (Entry C)) (behind : List (List (Entry C)))
      → first_unreserved s (spawned_in (entries_of (log ∷ behind)))
      ≡ option_or (first_unreserved s (spawned_in log))
      (first_unreserved s (spawned_in (entries_of behind)))
  unreserved-log log behind =
      ap (first_unreserved s) (flat_map-append spawned_by log (entries_of behind))
      ∙ find-append (λ (h : Handle). not (is_reserved (state_of s h))) (spawned_in log)
      (spawned_in (entries_of behind))

  module _ (all rest : List (List (Entry C))) (log : List (Entry C))
      (behind : List (List (Entry C)))
      (r : Option Handle) (so : first_unreserved s (spawned_in (entries_of all))
      ≡ first_unreserved s (spawned_in (entries_of rest))) (is : rest ≡ log ∷ behind)
      (found : r ≡ first_unreserved s (spawned_in log)) where
    first_is : first_unreserved s (spawned_in (entries_of all))
        ≡ option_or r (first_unreserved s (spawned_in (entries_of behind)))
    first_is = rw found ((rw is at so) ∙ unreserved-log log behind)

    -- the first log has one
    pub found_in_log : (h : Handle) → r ≡ Some h
        → Some h ≡ first_unreserved s (spawned_in (entries_of all))
    found_in_log h here = sym (rw here at first_is)

    -- the first log has none
    pub none_in_log : r ≡ None → first_unreserved s (spawned_in (entries_of all))
        ≡ first_unreserved s (spawned_in (entries_of behind))
    none_in_log here = rw here at first_is

-- what is reserved was taken
reserved-taken : (s : Allocator) (h : Handle) → is_reserved (state_of s h) ≡ true
    → IsTrue (stands_in s.taken h)
reserved-taken s h e = grind (arith, common_steps)

-- what is reserved comes to life with the flush
pub alive_after : (s t : Allocator) (handles : List Handle) → t ≡ after_flush s
    → first_unreserved s handles ≡ None → All (IsLive t) handles
alive_after s t [] is none = All-nil (IsLive t)
alive_after s t (h ∷ handles) is none =
    let both : (is_reserved (state_of s h) ≡ true) × (first_unreserved s handles ≡ None) = grind
    (arith, common_steps) in
    All-cons (IsLive t) h handles (rw is (taken-lives s h (Contains-from_stands_in s.taken h
    (reserved-taken s h both.0)))) (alive_after s t handles is both.1)
