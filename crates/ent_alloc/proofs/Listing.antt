-- What a reply that borrows the slots lists, one handle after the other.
use Rattle.ent_alloc.proofs.Common.{rules, ◌≡◌, ℕ, ◌+◌, ◌-◌, ◌<◌, ◌≤◌, List, [], ◌∷◌, ◌++◌, length}
use Rattle.ent_alloc.proofs.Common.{drop, replicate, slice_get, Some, refl, arith, suc, zero}
use Rattle.ent_alloc.proofs.Common.{add-zero, common_steps, length-append, nil_from_length}
use Rattle.ent_alloc.proofs.Common.{drop_more, length-map, All-tail, get_or_from_slice_get, Handle}
use Rattle.ent_alloc.proofs.Common.{IsHandle, handle_at, Roster, fresh, reserved_handles}
use Rattle.ent_alloc.proofs.Common.{handles_of, AreToList, SlotRecord}
use Rattle.ent_alloc.proofs.FreshHandles.{length-fresh, fresh-next, fresh-none}

pub drop_at : (hs : List Handle) (k : ℕ) (h : Handle) → k < length hs → slice_get hs k ≡ Some h
    → drop k hs ≡ h ∷ drop (k + 1) hs
drop_at hs k h below at = search (rules, drop_more hs k h below, get_or_from_slice_get hs k h h)

-- the handle that waits at the position comes first
pub reserved_handles-pending : (r : Roster) (position end index index_end : ℕ) (h : Handle)
    → end ≤ length r.pending → position < end → slice_get r.pending position ≡ Some h
    → reserved_handles r position end index index_end
    ≡ h ∷ reserved_handles r (position + 1) end index index_end
reserved_handles-pending r position end index index_end h within below at = search (rules, drop_at)

-- else the first fresh one, and else none
module _ (r : Roster) (position end index index_end : ℕ) (past : end ≤ position) where
  pub reserved_handles-fresh : index < index_end → reserved_handles r position end index index_end
      ≡ record { index = index; generation = 1 }
      ∷ reserved_handles r position end (index + 1) index_end
  reserved_handles-fresh below = grind
      (arith, common_steps, fresh-next index (index_end - (index + 1)), r.pending)

  pub reserved_handles-none : index_end ≤ index
      → reserved_handles r position end index index_end ≡ []
  reserved_handles-none passed = search (rules, fresh-none)

-- ---- the same of slices of records and slots

pub length-handles_of : (records : List SlotRecord) (waiting : List ℕ) (index index_end left : ℕ)
    → AreToList records waiting index index_end left
    → length (handles_of records waiting index index_end) ≡ left
length-handles_of records waiting index index_end left range =
    search (rules, length-append, length-map, length-fresh)

-- where no slot waits, the first fresh one comes first, and else none
module _ (records : List SlotRecord) (waiting : List ℕ) (index index_end : ℕ)
    (none : length waiting ≡ 0) where
  pub handles_of-fresh : index < index_end → handles_of records waiting index index_end
      ≡ record { index = index; generation = 1 } ∷ handles_of records waiting (index + 1) index_end
  handles_of-fresh below =
      let empty = nil_from_length waiting none in
      grind (arith, common_steps, fresh-next index (index_end - (index + 1)))

  pub handles_of-none : index_end ≤ index → handles_of records waiting index index_end ≡ []
  handles_of-none passed = search (rules, nil_from_length, fresh-none)

-- what is left after the first
pub rest_to_list : (records : List SlotRecord) (waiting : List ℕ) (index index_end left : ℕ)
    → AreToList records waiting index index_end left → (at : ℕ) (rest : List ℕ)
    → waiting ≡ at ∷ rest → AreToList records rest index index_end (left - 1)
rest_to_list records waiting index index_end left range at rest is =
    let all : AreToList records (at ∷ rest) index index_end left = search rules in
    let count = all.count in
    search (
      rules,
      All-tail (λ x. x < length records) at rest all.made,
      All-tail (λ x. IsHandle (handle_at records x)) at rest all.handles,
    )

-- ---- listing one after the other

pub fresh-push : (index count : ℕ)
    → fresh index count ++ record { index = index + count; generation = 1 } ∷ []
    ≡ fresh index (count + 1)
unfolding fresh
fresh-push index zero = search (rules, add-zero)
fresh-push index (suc count) = search (rules, fresh-push (index + 1) count)

pub replicate-push : {X : Type 0} (count : ℕ) (x : X)
    → replicate count x ++ x ∷ [] ≡ replicate (count + 1) x
replicate-push zero x = refl
replicate-push (suc count) x = search (rules, replicate-push count x)
