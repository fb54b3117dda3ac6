use Rattle.ent_replay.proofs.Common.{nil_from_length, IsPermutation-map, sum_by-IsPermutation}
use Rattle.ent_replay.proofs.Common.{IsNonDecreasingBy-from_sort_by_key, answers_always, ◌≡◌, ◌≢◌}
use Rattle.ent_replay.proofs.Common.{◌++◌, [], rules, all_of}
use Rattle.ent_replay.proofs.Sorted.{key, empty_keeps}
use Rattle.ent_replay.proofs.Orders.{asked-settled}
use Rattle.ent_replay.proofs.Settled.{IsLinedUp, all-settled, some-none, some-Shows}
use Rattle.ent_replay.proofs.trace.comparer.Comparer.settle.Goals as goal
use Rattle.ent_replay.proofs.trace.comparer.Comparer.settle.Goals.{In_ok-lineup}

pub new-requires : goal.new-requires
new-requires c = search (rules, sum_by-IsPermutation, IsPermutation-map)

-- the run is sorted and lined up
lined : (c : In_ok-lineup) → IsLinedUp c.self.inside.entities.allocator c.self.inside.run.items
    c.sort_by_cached_key.new.self.items c.in_ok-lineup.lineup
lined c =
    let sorted = c.sort_by_cached_key.new.self.items in
    let all : all_of c.new.result ≡ sorted = λ i. c.new.ensures.none i ++ c.new.ensures.all i in
    record {
      keyed = c.self.invariant.keyed;
      steady = c.self.invariant.steady;
      up = IsNonDecreasingBy-from_sort_by_key key sorted c.in_ok-sort_by_cached_key.ensures.sorted
          (λ a r q k. search rules);
      alike =
          c.in_ok-sort_by_cached_key.ensures.stable key
          (answers_always _ _ _ (λ f a r q k. search rules));
      sum = search (rules, sum_by-IsPermutation, IsPermutation-map);
      lined = c.in_ok-lineup.ensures.lined;
      keeps = rw (← all) c.in_ok-lineup.ensures.keeps;
      whole = rw (← all) c.in_ok-lineup.ensures.whole;
    }

pub returns-then-not-is_empty-clause-differs : goal.returns-then-not-is_empty-clause-differs
returns-then-not-is_empty-clause-differs c =
    let lined = lined (goal.at.returns-then-not-is_empty-clause-differs c).In_ok-lineup in
    rw (← c.self.view_is)
    (some-Shows lined (search rules) c.in_ok-lineup.ensures.stuck _ c.in_ok-difference.ensures)

pub returns-then-not-is_empty-clause-none : goal.returns-then-not-is_empty-clause-none
returns-then-not-is_empty-clause-none c = search (rules, some-none, lined)

pub invariant_of-result : goal.invariant_of-result
invariant_of-result c =
    let lined = lined (goal.at.invariant_of-result c).In_ok-lineup in
    let settled =
    all-settled lined (search (rules, nil_from_length)) c.deref.ensures.value
    c.make_all.ensures in
    search (rules, asked-settled _ _ settled, empty_keeps)

pub returns-clause-settled : goal.returns-clause-settled
returns-clause-settled c =
    let lined = lined (goal.at.returns-clause-settled c).In_ok-lineup in
    rw (← c.self.view_is)
    (all-settled lined (search (rules, nil_from_length)) c.deref.ensures.value c.make_all.ensures)
