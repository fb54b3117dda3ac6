-- All replies to requests in turn, taken together: no handle twice, none alive before, and a flush
-- brings to life exactly those.
use Rattle.ent_alloc.proofs.Common.{rules, arith, common_steps, get_or, ◌≡◌, ℕ, List, [], ◌∷◌, ◌++◌}
use Rattle.ent_alloc.proofs.Common.{All, AllPairs, Contains, IsPermutation, ◌⊎◌, ◌↔◌}
use Rattle.ent_alloc.proofs.Common.{IsPermutation-refl, append-nil, append_assoc, IsPermutation-sym}
use Rattle.ent_alloc.proofs.Common.{IsPermutation-trans, IsPermutation-append_left, All-permutation}
use Rattle.ent_alloc.proofs.Common.{Contains-permutation, Handle, Allocator, after_take}
use Rattle.ent_alloc.proofs.Common.{after_flush, reply_to, IsSound, AreApart, IsLive, AreSpent}
use Rattle.ent_alloc.proofs.Common.{handles_in}
use Rattle.ent_alloc.proofs.ListLaws.{All-left, All-right, AllPairs-left, AllPairs-right}
use Rattle.ent_alloc.proofs.ListLaws.{AllPairs-IsPermutation}
use Rattle.ent_alloc.proofs.LaidOut.{flushed-laid_out}
use Rattle.ent_alloc.proofs.PoolLaw.{after_takes, live-after_takes, after_takes-sound}
use Rattle.ent_alloc.proofs.Replies.{taken-IsPermutation, apart_both, not_apart}
use Rattle.ent_alloc.proofs.Flushes.{live-after_flush, live-stays, taken-lives}
use Rattle.ent_alloc.proofs.GivenOnce.{take-given, refused-given}

-- the handles of all replies to requests in turn
abbrev pub given_by : Allocator → List ℕ → List Handle
given_by s [] = []
given_by s (n ∷ requests) = handles_in (reply_to s n) ++ given_by (after_take s n) requests

-- what is taken is what was taken, and the handles of the reply
pub taken-after_take : (s : Allocator) (n : ℕ)
    → IsPermutation (s.taken ++ handles_in (reply_to s n)) (after_take s n).taken
taken-after_take s n = search (rules, taken-IsPermutation, append-nil, IsPermutation-refl)

pub taken-after_takes : (s : Allocator) (requests : List ℕ)
    → IsPermutation (s.taken ++ given_by s requests) (after_takes s requests).taken
taken-after_takes s [] = rw (append-nil s.taken) (IsPermutation-refl s.taken)
taken-after_takes s (n ∷ requests) =
    let one =
    IsPermutation-append_left (given_by (after_take s n) requests) _ _ (taken-after_take s n) in
    IsPermutation-trans _ _ _ (rw append_assoc at one) (taken-after_takes (after_take s n) requests)

module _ (s : Allocator) (requests : List ℕ) (h : IsSound s) where
  -- no two of all are of one slot
  pub given_by-apart : AllPairs AreApart (given_by s requests)
  given_by-apart =
      let t = after_takes s requests in
      search (
        rules,
        after_takes-sound s requests h,
        AllPairs-left AreApart t.taken (t.aside ++ t.pool),
        AllPairs-right AreApart s.taken (given_by s requests),
        AllPairs-IsPermutation AreApart apart_both t.taken (s.taken ++ given_by s requests),
        IsPermutation-sym,
        taken-after_takes,
      )

  pub given_by-not_live : All (λ x. ¬ (IsLive s x)) (given_by s requests)
  given_by-not_live =
      let t = after_takes s requests in
      let sound = after_takes-sound s requests h in
      let taken_not_live : All (λ x. ¬ (IsLive s x)) t.taken = λ k d lt alive. let x =
      get_or t.taken k d in not_apart x
      (All-left (AreApart x) t.taken _ (sound.live x (rw (live-after_takes s requests) alive)).apart
      k d lt) in
      All-right (λ x. ¬ (IsLive s x)) s.taken (given_by s requests)
      (All-permutation (λ x. ¬ (IsLive s x)) t.taken
      (s.taken ++ given_by s requests) (search (rules, IsPermutation-sym, taken-after_takes))
      taken_not_live)

  -- from a flushed state they are all that is taken
  pub taken-since_flush : s.asked ≡ 0
      → IsPermutation (given_by s requests) (after_takes s requests).taken
  taken-since_flush flushed =
      search (rules, flushed-laid_out s h flushed, taken-after_takes s requests)

  -- so then exactly those are alive, and who was
  pub live-since_flush : s.asked ≡ 0 → (x : Handle)
      → IsLive (after_flush (after_takes s requests)) x ↔ IsLive s x
      ⊎ Contains (given_by s requests) x
  live-since_flush flushed x =
      let t = after_takes s requests in
      let all = taken-since_flush flushed in
      grind (
        arith,
        common_steps,
        Contains-permutation t.taken (given_by s requests) x (IsPermutation-sym _ t.taken all),
        Contains-permutation (given_by s requests) t.taken x all,
        live-after_takes s requests,
        live-after_flush t x,
        live-stays t x,
        taken-lives t x,
      )

-- one request gives nothing that was given before
pub requested-given : (s : Allocator) (n : ℕ) (given : List Handle) → IsSound s → AreSpent s given
    → AreSpent (after_take s n) (given ++ handles_in (reply_to s n))
requested-given s n given h once =
    let refused = refused-given s n given once in
    grind (arith, common_steps, take-given s n given, append-nil given)
