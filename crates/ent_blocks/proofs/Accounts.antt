-- Reservers of some blocks, in their order, and what was used of all.
use Rattle.ent_blocks.proofs.Common.{rules, cases_Bool, ◌≡◌, refl, sym, ℕ, ◌+◌, ◌<◌, ◌≤◌, List, []}
use Rattle.ent_blocks.proofs.Common.{◌∷◌, length, map, drop, get_or, arith, true, false}
use Rattle.ent_blocks.proofs.Common.{common_steps, drop_all, drop_more, get_or-map, length-map}
use Rattle.ent_blocks.proofs.Common.{Block, unused, is_same, are_among, accounted, AreLaid}
use Rattle.ent_blocks.proofs.Common.{Allocator, AreDealt, dealt, ◌^◌}
use Rattle.ent_blocks.proofs.Common.{ap, ◌∙◌, All, Blocks, IsOf, Reserver, blocks_of}
use Rattle.ent_blocks.proofs.Common.{get_or_default}
use Rattle.ent_blocks.proofs.Dealing.{dealt-unused, none_used}

same_size : (b r : Block) → is_same b r ≡ true → b.size ≡ r.size
same_size b r same = grind (arith, common_steps)

same_before : (b r : Block) → is_same b r ≡ true → b.before ≡ r.before
same_before b r same = grind (arith, common_steps)

-- no more than there are blocks
pub few_among : (blocks reservers : List Block) → are_among blocks reservers ≡ true
    → length reservers ≤ length blocks
few_among [] rs among = search rules
few_among (b ∷ blocks) [] among = omega arith
few_among (b ∷ blocks) (r ∷ reservers) among = grind
    (arith, common_steps, few_among blocks reservers, few_among blocks (r ∷ reservers))

-- the blocks are those that were dealt
pub unused_accounted : (before : ℕ) (blocks reservers : List Block) → AreLaid before blocks
    → map unused (accounted blocks reservers) ≡ blocks
unused_accounted before [] reservers laid = refl
unused_accounted before (b ∷ blocks) [] laid =
    let first : unused b ≡ b = λ i. record b { used = sym laid.1 i } in
    search (rules, first, unused_accounted (before + b.size) blocks [] laid.2)
unused_accounted before (b ∷ blocks) (r ∷ reservers) laid =
    let first : unused b ≡ b = λ i. record b { used = sym laid.1 i } in
    let same = unused_accounted (before + b.size) blocks reservers laid.2 in
    let other = unused_accounted (before + b.size) blocks (r ∷ reservers) laid.2 in
    search (rules, cases_Bool (is_same b r), first, same, other)

pub record Closing (s : Allocator) (blocks : List Block) : Type 0 where
  pub laid : AreLaid 0 (map unused blocks)
  pub within : dealt blocks ≤ length s.pool
  pub few : dealt blocks < 2 ^ 32

pub closing : (s : Allocator) (blocks reservers : List Block) → AreDealt s blocks
    → Closing s (accounted blocks reservers)
closing s blocks reservers are =
    let same = unused_accounted 0 blocks reservers are.laid in
    let long : dealt (accounted blocks reservers) ≡ dealt blocks = search (rules, dealt-unused) in
    search (rules, same, are)

-- if all are here, it is what they say
pub all_accounted : (blocks reservers : List Block) → are_among blocks reservers ≡ true
    → length reservers ≡ length blocks → accounted blocks reservers ≡ reservers
all_accounted [] [] among all = refl
all_accounted [] (r ∷ reservers) among all = absurd (omega arith)
all_accounted (b ∷ blocks) [] among all = absurd (omega arith)
all_accounted (b ∷ blocks) (r ∷ reservers) among all =
    grind (
      arith,
      common_steps,
      few_among blocks (r ∷ reservers),
      all_accounted blocks reservers,
      same_before b r,
      same_size b r,
    )

-- ---- one more block

-- of whatever holds a block
module _ {A : Type 0} (of : A → Block) (bs : List Block) (rs : List A) (i k : ℕ) (b : Block)
    (here : i < length bs)
    (b_is : b ≡ get_or bs i b) where
  module _ (r : A) (lt : k < length rs) (r_is : r ≡ get_or rs k r) where
    next : drop k (map of rs) ≡ of r ∷ drop (k + 1) (map of rs)
    next = search (rules, drop_more, length-map, get_or-map of rs k r (of r) lt)

    pub among_same : is_same b (of r) ≡ true → are_among (drop i bs) (drop k (map of rs))
        ≡ are_among (drop (i + 1) bs) (drop (k + 1) (map of rs))
    among_same same = search (rules, drop_more, next)

    pub among_other : is_same b (of r) ≡ false → are_among (drop i bs) (drop k (map of rs))
        ≡ are_among (drop (i + 1) bs) (drop k (map of rs))
    among_other other = search (rules, drop_more, next)

    pub accounted_same : is_same b (of r) ≡ true → accounted (drop i bs) (drop k (map of rs))
        ≡ record b { used = (of r).used } ∷ accounted (drop (i + 1) bs) (drop (k + 1) (map of rs))
    accounted_same same = search (rules, drop_more, next)

    pub accounted_other : is_same b (of r) ≡ false → accounted (drop i bs) (drop k (map of rs))
        ≡ record b { used = b.size } ∷ accounted (drop (i + 1) bs) (drop k (map of rs))
    accounted_other other = search (rules, drop_more, next)

  module _ (past : length rs ≤ k) where
    none : drop k (map of rs) ≡ []
    none = search (rules, drop_all, length-map)

    pub among_none : are_among (drop i bs) (drop k (map of rs))
        ≡ are_among (drop (i + 1) bs) (drop k (map of rs))
    among_none = search (rules, drop_more, none)

    pub accounted_none : accounted (drop i bs) (drop k (map of rs)) ≡ record b { used = b.size }
        ∷ accounted (drop (i + 1) bs) (drop k (map of rs))
    accounted_none = search (rules, drop_more, none)

-- all are here, in their order
pub among_itself : (bs : List Block) → are_among bs bs ≡ true
among_itself [] = refl
among_itself (b ∷ bs) = grind (arith, common_steps, among_itself bs)

pub all_among : (rs : List Block) → are_among (map unused rs) rs ≡ true
all_among [] = refl
all_among (r ∷ rs) = grind (arith, common_steps, all_among rs)

pub all_here : (blocks rs : List Block) → map unused rs ≡ blocks → accounted blocks rs ≡ rs
all_here blocks rs all =
    rw (← all) (all_accounted (map unused rs) rs (all_among rs) (sym (length-map rs unused)))

-- one is left when there is no more block
pub one_left : {A : Type 0} (of : A → Block) (bs : List Block) (rs : List A) (i k : ℕ)
    → length bs ≤ i → k < length rs → are_among (drop i bs) (drop k (map of rs)) ≡ false
one_left of bs rs i k past lt =
    let some = drop_more (map of rs) k (record { before = 0; size = 0; used = 0 })
    (omega (arith, length-map rs of)) in
    search (rules, drop_all, some)

-- each of these reservers has a block of the phase
pub own_of : (p : Blocks) (rs : List Reserver) → AreLaid 0 p.blocks → blocks_of rs ≡ p.blocks
    → All (λ (r : Reserver). IsOf p r.block) rs
own_of p rs laid is = λ k d less.
    let b = (get_or rs k d).block in
    let lt : k < length p.blocks =
    omega (arith, ap length is, length-map rs (λ (r : Reserver). r.block), less) in
    let at : get_or p.blocks k d.block ≡ b =
    ap (λ (bs : List Block). get_or bs k d.block) (sym is)
    ∙ get_or-map (λ (r : Reserver). r.block) rs k d d.block less in
    let none = none_used 0 k p.blocks d.block laid lt in
    (k, lt, grind (arith, common_steps, at, none, get_or_default))
