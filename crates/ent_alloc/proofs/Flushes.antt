-- What a flush brings to life: exactly what was taken. Rows are kept of the living alone, whatever
-- a call does.
use Rattle.ent_alloc.proofs.Common.{rules, ◌++◌, get_or, reverse, filter, All, AllPairs, Contains}
use Rattle.ent_alloc.proofs.Common.{IsPermutation, ◌⊎◌, All-contains_itself, IsPermutation-refl}
use Rattle.ent_alloc.proofs.Common.{IsPermutation-trans, IsPermutation-append}
use Rattle.ent_alloc.proofs.Common.{IsPermutation-append_comm, IsPermutation-reverse}
use Rattle.ent_alloc.proofs.Common.{IsPermutation-filter_both, All-permutation, Handle, Allocator}
use Rattle.ent_alloc.proofs.Common.{after_flush, born, is_old, is_fresh, IsSound, AreApart, IsLive}
use Rattle.ent_alloc.proofs.Common.{arith, common_steps, ◌≡◌, ℕ, List, None, IsTrue, handle_cmp}
use Rattle.ent_alloc.proofs.Common.{handle_cmp_total, Entities, HasRowsOfLiving}
use Rattle.std.specs.FinSet as sets
use Rattle.std.specs.FinMap as maps
use Rattle.ent_alloc.proofs.ListLaws.{AllPairs-left, AllPairs-IsPermutation, All-left}
use Rattle.ent_alloc.proofs.HandleSets.{in_union_list, union_list_keeps, union_list_has}
use Rattle.ent_alloc.proofs.HandleSets.{same_handle}
use Rattle.ent_alloc.proofs.Replies.{fresh_is_not_old, apart_both, not_apart}

-- who is alive after a flush was alive or was taken
pub live-after_flush : (s : Allocator) (x : Handle) → IsLive (after_flush s) x
    → IsLive s x ⊎ Contains s.taken x
live-after_flush s x alive = in_union_list s.live s.taken x alive

-- who was alive stays so
pub live-stays : (s : Allocator) (x : Handle) → IsLive s x → IsLive (after_flush s) x
live-stays s x alive = union_list_keeps s.live s.taken x alive

-- what was taken comes to life
pub taken-lives : (s : Allocator) (x : Handle) → Contains s.taken x → IsLive (after_flush s) x
taken-lives s x in_taken = union_list_has s.live s.taken x in_taken

-- what is born is what was taken, in another order
pub born-IsPermutation : (s : Allocator) → IsPermutation s.taken (born s)
born-IsPermutation s =
    let old = filter (is_old s.made) s.taken in
    let new = filter (is_fresh s.made) s.taken in
    let parted =
    IsPermutation-filter_both (is_old s.made) (is_fresh s.made) (fresh_is_not_old s.made)
    s.taken in
    let turned : IsPermutation (new ++ old) (new ++ reverse old) = search
    (rules, IsPermutation-append, IsPermutation-refl, IsPermutation-reverse) in
    search (
      rules,
      IsPermutation-trans s.taken (old ++ new),
      IsPermutation-trans (old ++ new) (new ++ old),
      IsPermutation-append_comm old new,
    )

-- each that is born is alive then
pub born-lives : (s : Allocator) → All (IsLive (after_flush s)) (born s)
born-lives s =
    search (
      rules,
      All-permutation (IsLive (after_flush s)) s.taken (born s),
      born-IsPermutation,
      taken-lives,
      All-contains_itself,
    )

module _ (s : Allocator) (h : IsSound s) where
  -- no two are of one slot
  pub born-apart : AllPairs AreApart (born s)
  born-apart = search (
    rules,
    AllPairs-IsPermutation AreApart apart_both s.taken (born s),
    born-IsPermutation,
    AllPairs-left AreApart s.taken (s.aside ++ s.pool),
    h.apart,
  )

  -- none was alive
  pub born-not_live : All (λ x. ¬ (IsLive s x)) (born s)
  born-not_live = All-permutation (λ x. ¬ (IsLive s x)) s.taken (born s) (born-IsPermutation s)
      (λ k d lt alive. let x = get_or s.taken k d in
      not_apart x (All-left (AreApart x) s.taken (s.aside ++ s.pool) (h.live x alive).apart k d lt))

-- a set and rows of its handles alone
abbrev pub AreOf : sets.FinSet handle_cmp → maps.FinMap handle_cmp ℕ → Type 0
AreOf live rows = (h : Handle) → ¬ (IsTrue (sets.contains live h)) → maps.get rows h ≡ None

pub no_rows : (live : sets.FinSet handle_cmp) → AreOf live maps.empty
no_rows live h gone = maps.get-empty handle_cmp h

pub rows-joined : (live : sets.FinSet handle_cmp) (more : List Handle)
    (rows : maps.FinMap handle_cmp ℕ) → AreOf live rows
    → AreOf (sets.union live (sets.from_list more)) rows
rows-joined live more rows kept h gone = kept h (λ alive. gone (union_list_keeps live more h alive))

-- one goes, with its row
pub rows-removed : (live : sets.FinSet handle_cmp) (x : Handle) (rows : maps.FinMap handle_cmp ℕ)
    → AreOf live rows → AreOf (sets.remove live x) (maps.remove rows x)
rows-removed live x rows kept h gone =
    let removed = maps.get-remove handle_cmp_total rows x h in
    let remains = sets.contains-remove handle_cmp_total live x h in
    grind (arith, common_steps, kept h)

-- one that lives gets a row
pub rows-inserted : (live : sets.FinSet handle_cmp) (x : Handle) (row : ℕ)
    (rows : maps.FinMap handle_cmp ℕ) → IsTrue (sets.contains live x) → AreOf live rows
    → AreOf live (maps.insert rows x row)
rows-inserted live x row rows lives kept h gone =
    let put = maps.get-insert handle_cmp_total rows x row h in
    grind (arith, common_steps, kept h, same_handle h x)

-- ---- who has just come to life

pub born-no_row : (e : Entities) → HasRowsOfLiving e → IsSound e.allocator
    → All (λ h. maps.get e.rows h ≡ None) (born e.allocator)
born-no_row e kept sound k d lt = search (rules, born-not_live)
