-- A map after a write to the value of a handle.
use Rattle.ent_storage.proofs.Common.{arith, nat_tests, rules, ◌≡◌, cond, Some, IsSome, ap, ◌∙◌}
use Rattle.ent_storage.proofs.Common.{Bool-set, Handle, handle_cmp_total}
use Rattle.ent_storage.proofs.Common.{handle_cmp-IsAntisymmetric, HandleMap, HandleValues}
use Rattle.ent_storage.proofs.Common.{with_written, same_handle, some_written, IsFilled, SparseMap}
use Rattle.ent_storage.proofs.Common.{with_written_in, OccupiedEntry, fin_get, fin_get-insert}
use Rattle.ent_storage.proofs.Common.{fin_insert, fin_same_map, with_entry_value, with_value_in}
use Rattle.ent_storage.proofs.Common.{IsFilledIn, some_written_in, OccupiedEntryIn}

module _ {T : Type 0} where
  -- the last of two writes counts
  pub insert_twice : (m : HandleValues T) (h : Handle) (v w : T)
      → fin_insert (fin_insert m h v) h w ≡ fin_insert m h w
  insert_twice m h v w = fin_same_map handle_cmp_total handle_cmp-IsAntisymmetric _ _
      (λ q. grind (
        arith,
        nat_tests,
        fin_get-insert handle_cmp_total (fin_insert m h v) h w q,
        fin_get-insert handle_cmp_total m h v q,
        fin_get-insert handle_cmp_total m h w q,
      ))

  pub written_twice : (m : HandleMap T) (h : Handle) (v w : T)
      → with_written (with_written m h v) h w ≡ with_written m h w
  written_twice m h v w = search (rules, insert_twice)

  -- what was written is there
  pub got_inserted : (m : HandleValues T) (h : Handle) (v : T)
      → fin_get (fin_insert m h v) h ≡ Some v
  got_inserted m h v = fin_get-insert handle_cmp_total m h v h
      ∙ ap (λ same. cond same (Some v) (fin_get m h)) (same_handle h)

  -- a written entry is the same, whatever shows that it is occupied
  pub occupied_written : (o : OccupiedEntry T) (v : T)
      (p : IsSome (fin_get (with_written o.map.now o.handle v).values o.handle))
      → record {
        map = record o.map { now = with_written o.map.now o.handle v };
        handle = o.handle;
        present = p;
      }
      ≡ with_entry_value o v
  occupied_written o v p = λ i. record {
    map = record o.map { now = with_written o.map.now o.handle v };
    handle = o.handle;
    present = Bool-set _ _ p (some_written o.map.now o.handle v) i;
  }

  -- a filled map, once the value is written over
  pub filled_over : (m n : HandleMap T) (h : Handle) (v w : T) → IsFilled m h v n
      → IsFilled m h w (with_written n h w)
  filled_over m n h v w is = search (rules, insert_twice)

  -- ---- the same of a sparse map

  pub written_twice_in : (m : SparseMap T) (h : Handle) (v w : T)
      → with_written_in (with_written_in m h v) h w ≡ with_written_in m h w
  written_twice_in m h v w = search (rules, insert_twice)

  pub occupied_written_in : (o : OccupiedEntryIn T) (v : T)
      (p : IsSome (fin_get (with_written_in o.map.now o.handle v).values o.handle))
      → record {
        map = record o.map { now = with_written_in o.map.now o.handle v };
        handle = o.handle;
        present = p;
      }
      ≡ with_value_in o v
  occupied_written_in o v p = λ i. record {
    map = record o.map { now = with_written_in o.map.now o.handle v };
    handle = o.handle;
    present = Bool-set _ _ p (some_written_in o.map.now o.handle v) i;
  }

  pub filled_over_in : (m n : SparseMap T) (h : Handle) (v w : T) → IsFilledIn m h v n
      → IsFilledIn m h w (with_written_in n h w)
  filled_over_in m n h v w is = search (rules, insert_twice)
