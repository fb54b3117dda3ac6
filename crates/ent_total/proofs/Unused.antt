-- An allocator that was shared, and from which nobody reserved, is as it was. And why one isn't
-- shared.
use Rattle.ent_total.proofs.Common.{rules, ◌≡◌, List, [], ◌∷◌, refl, All, All-head, All-tail}
use Rattle.ent_total.proofs.Common.{Allocator, after_history, Reserver, records_of, own_of_all}
use Rattle.ent_total.proofs.Common.{history_of, map, All-map, ℕ, ◌<◌, ◌∙◌, sym}
use Rattle.ent_alloc.specs.Entities.{Entities}
use Rattle.ent_total.specs.Issuing.{Issuer, new_issuer, reservers_in}
use Rattle.ent_total.specs.Opening.{IsUnopened}
use Rattle.ent_total.specs.declared.share_error.ShareError.{ShareError}
use Rattle.ent_total.specs.declared.share_error.ShareError.TheVariants as share
use Rattle.ent_total.specs.declared.world.World.{World}

abbrev IsUnused : Reserver → Type 0
IsUnused r = r.own.entries ≡ []

own-none : (rs : List Reserver) → All IsUnused rs → own_of_all (records_of rs) ≡ []
own-none [] unused = refl
own-none (r ∷ rs) unused =
    search (rules, own_of_all, All-head, All-tail, own-none rs (All-tail IsUnused r rs unused))

pub nothing-reserved : (s : Allocator) (rs : List Reserver)
    → All (λ (r : Reserver). r.own.entries ≡ []) rs
    → after_history s (history_of (records_of rs)) ≡ s
nothing-reserved s rs unused = search (rules, own-none)

-- entities of the same allocator with the same rows
pub same_entities : (a b : Entities) → a.allocator ≡ b.allocator → a.rows ≡ b.rows → a ≡ b
same_entities a b allocators rows = λ i. record { allocator = allocators i; rows = rows i }

-- worlds of the same value and number, with as many births
pub same_world : (a b : World) → a.world ≡ b.world → a.number ≡ b.number → a.spawned ≡ b.spawned
    → a ≡ b
same_world a b worlds numbers spawned =
    λ i. record { world = worlds i; number = numbers i; spawned = spawned i }

-- callers that were given an empty queue each
pub reservers-new : (rs : List Reserver) → reservers_in (map new_issuer rs) ≡ rs
reservers-new [] = refl
reservers-new (r ∷ rs) = search (rules, reservers-new rs)

pub none_issued : (rs : List Reserver)
    → All (λ (c : Issuer). c.1 ≡ []) (map new_issuer rs)
none_issued [] = search rules
none_issued (r ∷ rs) = search (rules, none_issued rs)

-- What they reserve with is unused if it is of each of them.
pub unused_reservers : (cs : List Issuer)
    → All (λ (c : Issuer). c.0.own.entries ≡ []) cs → All IsUnused (reservers_in cs)
unused_reservers cs unused = All-map IsUnused (λ (c : Issuer). c.0) cs unused

-- A phase that fits a flushed allocator is opened, or refused for memory.
module _ (asked : ℕ) (Unfit : Type 0) (flushed : 0 < asked → ⊥) (fits : Unfit → ⊥) where
  pub is_opened : IsUnopened asked Unfit (λ _. ⊥)
  is_opened = record {
    needs_flush = (λ no. absurd no, λ some. absurd (flushed some));
    no_count = (λ no. absurd no, λ many. absurd (fits many.1));
  }

  pub for_memory : (error : ShareError) → error ≡ share.Memory
      → IsUnopened asked Unfit (λ why. error ≡ why)
  for_memory error is = record {
    needs_flush = (
      λ no. let never : share.Memory ≡ share.NeedsFlush = sym is ∙ no in absurd (cc),
      λ some. absurd (flushed some),
    );
    no_count = (
      λ no. let never : share.Memory ≡ share.Count = sym is ∙ no in absurd (cc),
      λ many. absurd (fits many.1),
    );
  }
