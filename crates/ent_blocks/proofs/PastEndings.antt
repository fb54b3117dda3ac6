-- The end of a phase, in the numbers of its code.
use Rattle.ent_blocks.proofs.Common.{rules, ◌≡◌, refl, subst, ℕ, ◌+◌, ◌≤◌, List, [], ◌∷◌, ◌++◌, map}
use Rattle.ent_blocks.proofs.Common.{AllPairs, Contains, ◌↔◌, arith, length, take, drop, sum}
use Rattle.ent_blocks.proofs.Common.{IsPermutation, common_steps, length-take-le, length-take}
use Rattle.ent_blocks.proofs.Common.{map-append, sum_by-cons, All-contains, Contains-append_right}
use Rattle.ent_blocks.proofs.Common.{Contains-append_cases, length_permutation}
use Rattle.ent_blocks.proofs.Common.{Contains-permutation, IsPermutation-sym, take-add, Handle}
use Rattle.ent_blocks.proofs.Common.{Allocator, available, after_take, before_requests, IsSound}
use Rattle.ent_blocks.proofs.Common.{AreApart, flushed-laid_out, given_in-legal, AllPairs-left}
use Rattle.ent_blocks.proofs.Common.{AllPairs-across, AllPairs-IsPermutation, after_takes}
use Rattle.ent_blocks.proofs.Common.{after_takes-sound, available-after_takes, limits-after_takes}
use Rattle.ent_blocks.proofs.Common.{live-after_takes, made-after_takes, asked-after_takes}
use Rattle.ent_blocks.proofs.Common.{asked-after_take, limits-after_take, live-after_take}
use Rattle.ent_blocks.proofs.Common.{made-after_take, taken_is, not_apart, apart_both}
use Rattle.ent_blocks.proofs.Common.{taken-after_takes, after_take-sound, available-after_take}
use Rattle.ent_blocks.proofs.Common.{after_take-served, Block, dealt, unused, AreLaid, past_block}
use Rattle.ent_blocks.proofs.Dealing.{dealt-unused}
use Rattle.std.proofs.Common.{length-append}
use Rattle.ent_alloc.specs.History as history

-- what else the two have, if both begin with the same handles and no slot is there twice
also_behind : (front xs ys : List Handle) → AllPairs AreApart (front ++ xs)
    → IsPermutation (front ++ xs) (front ++ ys) → (h : Handle) → Contains xs h → Contains ys h
also_behind front xs ys apart same h has =
    let across = AllPairs-across AreApart front xs apart in
    let there =
    Contains-permutation (front ++ xs) (front ++ ys) h same
    (Contains-append_right front xs h has) in
    search (rules, Contains-append_cases front ys h there, not_apart, All-contains)

-- requests were made
pub some_requested : (s : Allocator) (calls : List history.Call) → history.IsLegal s calls
    → sum (history.requests_of calls) ≡ 0 → calls ≡ []
some_requested s [] legal none = refl
some_requested s (call ∷ calls) legal none = grind (arith, common_steps, sum_by-cons)

-- a flushed allocator, of which d handles were reserved first, and then these calls were made
module _ (s : Allocator) (sound : IsSound s) (flushed : s.asked ≡ 0) (d : ℕ)
    (enough : d ≤ length s.pool)
    (calls : List history.Call) (legal : history.IsLegal (after_take s d) calls) where
  abbrev first : Allocator
  first = after_take s d

  abbrev requests : List ℕ
  requests = history.requests_of calls

  abbrev given : List Handle
  given = history.given_in calls

  abbrev last : Allocator
  last = after_takes first requests

  abbrev front : List Handle
  front = take d s.pool

  last_sound : IsSound last
  last_sound = search (rules, after_takes-sound, after_take-sound)

  last_available : available last ≡ s.pool
  last_available =
      search
      (rules, available-after_takes, after_take-sound, available-after_take, flushed-laid_out)

  first_taken : first.taken ≡ front
  first_taken = search (rules, after_take-served, flushed-laid_out)

  moved : IsPermutation (front ++ given) last.taken
  moved = search (rules, first_taken, given_in-legal, taken-after_takes)

  pub long : length last.taken ≡ d + length given
  long = search (rules, length_permutation, moved, length-append, length-take-le)

  pub within : d + length given ≤ length s.pool
  within = grind (arith, common_steps, long, taken_is, last_available, length-take)

  abbrev behind : List Handle
  behind = take (length given) (drop d s.pool)

  taken_both : last.taken ≡ front ++ behind
  taken_both = grind (arith, common_steps, taken_is, long, last_available, take-add)

  apart_both_parts : AllPairs AreApart (front ++ behind)
  apart_both_parts =
      subst (AllPairs AreApart) taken_both
      (AllPairs-left AreApart last.taken (last.aside ++ last.pool) last_sound.apart)

  same_both : IsPermutation (front ++ given) (front ++ behind)
  same_both = subst (IsPermutation (front ++ given)) taken_both moved

  back_both : IsPermutation (front ++ behind) (front ++ given)
  back_both = search (rules, IsPermutation-sym, taken_both, moved)

  pub same_handles : (h : Handle) → Contains given h ↔ Contains behind h
  same_handles h =
      let other = AllPairs-IsPermutation AreApart apart_both _ _ back_both apart_both_parts in
      search (rules, also_behind front, other, apart_both_parts, same_both, back_both)

  pub all_asked : last.asked ≡ d + sum requests
  all_asked = search (rules, asked-after_take, asked-after_takes)

  pub taken_back : before_requests last ≡ s
  taken_back = search (
    rules,
    flushed-laid_out,
    limits-after_takes,
    limits-after_take,
    live-after_takes,
    live-after_take,
    made-after_takes,
    made-after_take,
    last_available,
  )

-- one more block
laid_more : (before : ℕ) (xs ys : List Block) → AreLaid before xs → AreLaid (before + dealt xs) ys
    → AreLaid before (xs ++ ys)
laid_more before [] ys laid more = search rules
laid_more before (x ∷ xs) ys laid more =
    search (rules, arith, laid_more (before + x.size) xs ys laid.2)

past_laid : (before n : ℕ) → AreLaid before (map unused (past_block before n))
past_laid before n = grind (arith, common_steps)

past_dealt : (before n : ℕ) → dealt (past_block before n) ≡ n
past_dealt before n = grind (arith, common_steps)

dealt-append : (xs ys : List Block) → dealt (xs ++ ys) ≡ dealt xs + dealt ys
dealt-append [] ys = omega arith
dealt-append (x ∷ xs) ys = let rest = dealt-append xs ys in omega arith

module _ (blocks used : List Block) (laid : AreLaid 0 blocks) (all : map unused used ≡ blocks)
    (n : ℕ) where
  pub ends_laid : AreLaid 0 (map unused (used ++ past_block (dealt blocks) n))
  ends_laid = search (rules, map-append, laid_more, past_laid)

  pub ends_dealt : dealt (used ++ past_block (dealt blocks) n) ≡ dealt blocks + n
  ends_dealt = search (rules, dealt-append, past_dealt, dealt-unused)
