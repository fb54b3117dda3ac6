-- Worlds that are read within a bound: what was read is read if it has no more slots, and what is
-- true of it stays so.
use Rattle.std.specs.Result.{OnOk}
use Rattle.std.proofs.Common.{IfOk, IfErr, subst}
use Rattle.ent_world.proofs.Common.{rules, ◌≡◌, ◌≢◌, sym, ap, ℕ, ◌<◌, ◌≤◌, Result, Ok, Err, ◌⊎◌}
use Rattle.ent_world.proofs.Common.{inl, inr, Allocator, WorldImageFault, Memory}
use Rattle.ent_alloc.proofs.Common.{le-leb, lt-leb, cases_lt}
use Rattle.ent_alloc.specs.Within.{slots_after_flush}
use Rattle.ent_world.specs.Within.{within, allowed}
use Rattle.ent_world.specs.declared.image_fault.WorldImageFault.TheVariants.{Bound}

-- it is read, or refused for the bound
module _ {T : Type 0} (most : ℕ) (s : Allocator) (it : T) where
  within-few : slots_after_flush s ≤ most → within most s it ≡ Ok it
  within-few few = search (rules, le-leb)

  within-many : most < slots_after_flush s → within most s it ≡ Err (Bound (slots_after_flush s))
  within-many many = search (rules, lt-leb)

  by_bound : (P : Result T WorldImageFault → Type 0) → (slots_after_flush s ≤ most → P (Ok it))
      → (most < slots_after_flush s → P (Err (Bound (slots_after_flush s)))) → P (within most s it)
  by_bound P few many = by (cases_lt most (slots_after_flush s))
    where
      by : (most < slots_after_flush s) ⊎ (slots_after_flush s ≤ most) → P (within most s it)
      by (inl more) = subst P (sym (within-many more)) (many more)
      by (inr less) = subst P (sym (within-few less)) (few less)

module _ {T : Type 0} (of : T → Allocator) (most : ℕ) where
  -- what is true of what was read
  pub allowed-ok : (P : T → Type 0) (read : Result T WorldImageFault) → IfOk read P
      → IfOk (allowed of most read) P
  allowed-ok P (Ok it) holds = by_bound most (of it) it (λ r. IfOk r P) (λ few. holds) (λ many. tt)
  allowed-ok P (Err fault) holds = tt

  pub allowed-few : (read : Result T WorldImageFault)
      → IfOk (allowed of most read) (λ it. slots_after_flush (of it) ≤ most)
  allowed-few (Ok it) =
      by_bound most (of it) it (λ r. IfOk r (λ it. slots_after_flush (of it) ≤ most)) (λ few. few)
      (λ many. tt)
  allowed-few (Err fault) = tt

  -- memory runs out only where it did
  pub allowed-memory : (P : Type 0) (read : Result T WorldImageFault)
      → IfErr read (λ fault. fault ≡ Memory → P)
      → IfErr (allowed of most read) (λ fault. fault ≡ Memory → P)
  allowed-memory P (Ok it) holds =
      by_bound most (of it) it (λ r. IfErr r (λ fault. fault ≡ Memory → P)) (λ few. tt)
      (λ many is. absurd (cc))
  allowed-memory P (Err fault) holds = holds

  -- an image is read within the bound
  pub allowed-exact : (read : Result T WorldImageFault) (it : T)
      → (read ≡ Ok it) ⊎ (read ≡ Err Memory)
      → (allowed of most read ≡ within most (of it) it) ⊎ (allowed of most read ≡ Err Memory)
  allowed-exact read it (inl is) = inl (ap (allowed of most) is)
  allowed-exact read it (inr is) = inr (ap (allowed of most) is)

  -- and else refused by its fault, or for the bound
  pub allowed-fault : (P : WorldImageFault → Type 0) (Q : T → Type 0)
      (Beyond : WorldImageFault → Type 0) (read : Result T WorldImageFault) → IfOk read Q
      → ((it : T) → Q it → most < slots_after_flush (of it)
      → Beyond (Bound (slots_after_flush (of it)))) → IfErr read (λ fault. fault ≢ Memory → P fault)
      → IfErr (allowed of most read) (λ fault. fault ≢ Memory → P fault ⊎ Beyond fault)
  allowed-fault P Q Beyond (Ok it) is beyond fault = by_bound most (of it) it
      (λ r. IfErr r (λ fault. fault ≢ Memory → P fault ⊎ Beyond fault)) (λ few. tt)
      (λ many other. inr (beyond it is many))
  allowed-fault P Q Beyond (Err why) is beyond fault = λ other. inl (fault other)

-- two facts of what was read
pub both : {T : Type 0} (P Q : T → Type 0) (read : Result T WorldImageFault) → IfOk read P
    → IfOk read Q → IfOk read (λ it. P it × Q it)
both P Q (Ok it) is has = (is, has)
both P Q (Err fault) is has = tt
