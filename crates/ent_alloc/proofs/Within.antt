-- Images that are read within a bound: what was read is read if it has no more slots, and what is
-- true of it stays so.
use Rattle.std.specs.Result.{OnOk}
use Rattle.ent_alloc.proofs.Common.{rules, ◌≡◌, ◌≢◌, sym, ap, subst, ℕ, ◌<◌, ◌≤◌, List, Result, Ok}
use Rattle.ent_alloc.proofs.Common.{Err, IfOk, IfErr, ◌⊎◌, inl, inr, le-leb, lt-leb, cases_lt}
use Rattle.ent_alloc.proofs.Common.{ImageFault, Bound, Memory, Entities, HasImage, image, within}
use Rattle.ent_alloc.proofs.Common.{allowed, slots_after_flush, IsBeyond}

module _ (most : ℕ) (e : Entities) where
  abbrev slots : ℕ
  slots = slots_after_flush e.allocator

  within-few : slots ≤ most → within most e ≡ Ok e
  within-few few = search (rules, le-leb)

  within-many : most < slots → within most e ≡ Err (Bound slots)
  within-many many = search (rules, lt-leb)

  -- it is read, or refused for the bound
  by_bound : (P : Result Entities ImageFault → Type 0) → (slots ≤ most → P (Ok e))
      → (most < slots → P (Err (Bound slots))) → P (within most e)
  by_bound P few many = by (cases_lt most slots)
    where
      by : (most < slots) ⊎ (slots ≤ most) → P (within most e)
      by (inl more) = subst P (sym (within-many more)) (many more)
      by (inr less) = subst P (sym (within-few less)) (few less)

-- what is true of what was read
pub allowed-ok : (most : ℕ) (P : Entities → Type 0) (read : Result Entities ImageFault)
    → IfOk read P → IfOk (allowed most read) P
allowed-ok most P (Ok e) holds = by_bound most e (λ r. IfOk r P) (λ few. holds) (λ many. tt)
allowed-ok most P (Err fault) holds = tt

pub allowed-on_ok : (most : ℕ) (P : Type 0) (read : Result Entities ImageFault) → OnOk read P
    → OnOk (allowed most read) P
allowed-on_ok most P (Ok e) holds = by_bound most e (λ r. OnOk r P) (λ few. holds) (λ many. tt)
allowed-on_ok most P (Err fault) holds = tt

pub allowed-few : (most : ℕ) (read : Result Entities ImageFault)
    → IfOk (allowed most read) (λ e. slots_after_flush e.allocator ≤ most)
allowed-few most (Ok e) =
    by_bound most e (λ r. IfOk r (λ e. slots_after_flush e.allocator ≤ most)) (λ few. few)
    (λ many. tt)
allowed-few most (Err fault) = tt

-- memory runs out only where it did
pub allowed-memory : (most : ℕ) (P : Type 0) (read : Result Entities ImageFault)
    → IfErr read (λ fault. fault ≡ Memory → P)
    → IfErr (allowed most read) (λ fault. fault ≡ Memory → P)
allowed-memory most P (Ok e) holds =
    by_bound most e (λ r. IfErr r (λ fault. fault ≡ Memory → P)) (λ few. tt)
    (λ many is. absurd (cc))
allowed-memory most P (Err fault) holds = holds

-- an image is read within the bound
pub allowed-exact : (most : ℕ) (read : Result Entities ImageFault) (e : Entities)
    → (read ≡ Ok e) ⊎ (read ≡ Err Memory)
    → (allowed most read ≡ within most e) ⊎ (allowed most read ≡ Err Memory)
allowed-exact most read e (inl is) = inl (ap (allowed most) is)
allowed-exact most read e (inr is) = inr (ap (allowed most) is)

-- and else refused by its fault, or for the bound
pub allowed-fault : (most : ℕ) (bytes : List ℕ) (P : ImageFault → Type 0)
    (read : Result Entities ImageFault) → IfOk read (λ e. image e ≡ bytes) → IfOk read HasImage
    → IfErr read (λ fault. fault ≢ Memory → P fault)
    → IfErr (allowed most read) (λ fault. fault ≢ Memory → P fault ⊎ IsBeyond bytes most fault)
allowed-fault most bytes P (Ok e) found has fault = by_bound most e
    (λ r. IfErr r (λ fault. fault ≢ Memory → P fault ⊎ IsBeyond bytes most fault)) (λ few. tt)
    (λ many other. inr (e, has, found, within-many most e many))
allowed-fault most bytes P (Err why) found has fault = λ other. inl (fault other)
