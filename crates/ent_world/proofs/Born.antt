-- What queues list gets its births: the first queue that lists a handle counts. The others get the
-- births of their ordinals. So each handle that is born after a flush enters the map with its
-- birth.
use Rattle.ent_world.proofs.Common.{[], is_some, list_any, arith, rules, ◌≡◌, refl, ℕ, ◌+◌, Bool}
use Rattle.ent_world.proofs.Common.{true, false, cond, eqb, List, ◌∷◌, filter, AllPairs, Option}
use Rattle.ent_world.proofs.Common.{Some, None, common_steps, eq_by_cmp, position_from}
use Rattle.ent_world.proofs.Common.{All-contains, Birth, Handle, handle_cmp, stands_in, AreApart}
use Rattle.ent_world.proofs.Common.{same_handle, itself, Contains-from_stands_in, AllPairs-head}
use Rattle.ent_world.proofs.Common.{AllPairs-tail, not_apart, Entity, EntityMap, with_birth}
use Rattle.ent_world.proofs.Common.{no_system, is_unnamed, numbered, option_map, ◌<◌, ◌≤◌, ◌^◌, ◌≢◌}
use Rattle.ent_world.proofs.Common.{eq-eqb, ◌++◌, length, none-some, same_Some, handle_cmp_total}
use Rattle.ent_world.proofs.Common.{birth_of, Command, ordinal, handles_listed, listed_birth}
use Rattle.ent_world.proofs.Common.{first_birth, next_birth, birth_after, named, named_handles}
use Rattle.ent_world.proofs.Common.{named_queues, or_left, or_right, not, ◌&&◌, true≢false, is_none}
use Rattle.ent_world.proofs.Common.{Contains-permutation, any-filter_same, ◌∙◌}
use Rattle.ent_world.proofs.Common.{handle_cmp-IsAntisymmetric, Allocator, born, after_flush}
use Rattle.ent_world.proofs.Common.{IsSound, stands_in-from_Contains, live-after_flush, live-stays}
use Rattle.ent_world.proofs.Common.{born-IsPermutation, born-lives, born-apart, born-not_live}
use Rattle.ent_world.proofs.Common.{newborn, AreLiving, unlisted, birth_in, with_born, AreNew}
use Rattle.std.specs.FinMap as map
use Rattle.std.specs.FinSet as set

-- the handles of two lists, one after the other
pub named-append : (born : List Handle) (birth : Birth) (xs ys : List Handle) (m : EntityMap)
    → named_handles born birth (xs ++ ys) m ≡ named_handles born (birth_after birth xs) ys
    (named_handles born birth xs m)
named-append born birth [] ys m = refl
named-append born birth (x ∷ xs) ys m =
    named-append born (next_birth birth) xs ys (named born x birth m)

-- if nobody is born, no handle gets a birth
pub named_handles-nobody : (birth : Birth) (hs : List Handle) (m : EntityMap)
    → named_handles [] birth hs m ≡ m
named_handles-nobody birth [] m = refl
named_handles-nobody birth (h ∷ hs) m = named_handles-nobody (next_birth birth) hs m

pub named_queues-nobody : (phase system : ℕ) (queues : List (List Command)) (m : EntityMap)
    → named_queues [] phase system queues m ≡ m
named_queues-nobody phase system [] m = refl
named_queues-nobody phase system (queue ∷ queues) m =
    named_queues-nobody phase (system + 1) queues
    (named_handles [] (first_birth phase system) (handles_listed queue) m)
    ∙ named_handles-nobody (first_birth phase system) (handles_listed queue) m

-- what a map has after births were given: an entity that has none of a system gets its own
abbrev pub or_named : Option Entity → Option Birth → Option Entity
or_named None b = None
or_named (Some e) None = Some e
or_named (Some e) (Some b) =
    cond (eqb e.birth.system no_system) (Some (record e { birth = b })) (Some e)

-- a birth, if there is one
abbrev pub given : Bool → Option Birth → Option Birth
given b o = cond b o None

-- if there is one, it is that of a system
abbrev pub IsOfSystem : Option Birth → Type 0
IsOfSystem None = Unit {0}
IsOfSystem (Some b) = eqb b.system no_system ≡ false

-- the birth at an index of a system's handles
abbrev pub birth_at : ℕ → ℕ → ℕ → Birth
birth_at phase system index = record { frame = phase; system = system; ordinal = ordinal index }

pub next-birth_at : (phase system index : ℕ) → next_birth (birth_at phase system index)
    ≡ birth_at phase system (index + 1)
next-birth_at phase system index = search rules

-- One handle.

-- what a map has after one birth was changed
pub get-with_birth : (m : EntityMap) (h : Handle) (birth : Birth) (q : Handle)
    → map.get (with_birth m h birth) q ≡ cond (eq_by_cmp handle_cmp q h) (option_map
    (λ (e : Entity). record e { birth = birth }) (map.get m q)) (map.get m q)
get-with_birth m h birth q =
    grind (arith, common_steps, same_handle q h, itself h, map.get-insert handle_cmp_total m h)

pub get-named : (born : List Handle) (h : Handle) (birth : Birth) (m : EntityMap) (q : Handle)
    → map.get (named born h birth m) q ≡ or_named (map.get m q)
    (given (stands_in born q) (given (eq_by_cmp handle_cmp q h) (Some birth)))
get-named born h birth m q = grind (arith, common_steps, get-with_birth, itself, same_handle)

-- who is born now, and has a birth of no system, gets the one of a system
unnamed_by_birth : (m : EntityMap) (h : Handle) (b : Birth) → birth_of m h ≡ Some b
    → is_unnamed m h ≡ eqb b.system no_system
unnamed_by_birth m h b = grind (arith, common_steps, none-some, same_Some)

pub named_now : (born : List Handle) (h : Handle) (birth : Birth) (m : EntityMap) (b : Birth)
    → stands_in born h ≡ true → birth_of m h ≡ Some b → b.system ≡ no_system
    → named born h birth m ≡ with_birth m h birth
named_now born h birth m b there has none = search (rules, unnamed_by_birth, eq-eqb)

-- any other keeps its birth
pub named_before : (born : List Handle) (h : Handle) (birth : Birth) (m : EntityMap)
    → stands_in born h ≡ false → named born h birth m ≡ m
named_before born h birth m none = search rules

pub keeps_name : (born : List Handle) (h : Handle) (birth : Birth) (m : EntityMap) (b : Birth)
    → birth_of m h ≡ Some b → b.system ≢ no_system → named born h birth m ≡ m
keeps_name born h birth m b has is = grind (arith, common_steps, unnamed_by_birth)

-- The handles of a system.

pub get-named_handles : (born : List Handle) (phase system index : ℕ) (hs : List Handle)
    (m : EntityMap) (q : Handle) → eqb system no_system ≡ false
    → map.get (named_handles born (birth_at phase system index) hs m) q
    ≡ or_named (map.get m q)
    (given (stands_in born q)
    (option_map (birth_at phase system) (position_from (eq_by_cmp handle_cmp q) index hs)))
get-named_handles born phase system index [] m q is = grind (arith, common_steps)
get-named_handles born phase system index (h ∷ hs) m q is =
    grind (
      arith,
      common_steps,
      next-birth_at phase system index,
      get-named_handles born phase system (index + 1) hs
          (named born h (birth_at phase system index) m) q is,
      get-named born h (birth_at phase system index) m q,
    )

-- The handles that queues list.

-- there are fewer systems than the number of no system
a_system : (system : ℕ) → system < 2 ^ 16 → eqb system no_system ≡ false
a_system system few = grind (arith, common_steps)

pub listed_of_system : (phase system : ℕ) (queues : List (List Command)) (h : Handle)
    → system + length queues ≤ 2 ^ 16 → IsOfSystem (listed_birth phase system queues h)
listed_of_system phase system [] h few = tt
listed_of_system phase system (queue ∷ queues) h few = search
    (rules, a_system, listed_of_system phase (system + 1) queues h (omega arith))

pub get-named_queues : (born : List Handle) (phase system : ℕ) (queues : List (List Command))
    (m : EntityMap) (q : Handle) → system + length queues ≤ 2 ^ 16
    → map.get (named_queues born phase system queues m) q
    ≡ or_named (map.get m q) (given (stands_in born q) (listed_birth phase system queues q))
get-named_queues born phase system [] m q few = grind (arith, common_steps)
get-named_queues born phase system (queue ∷ queues) m q few =
    let is = a_system system (omega arith) in
    let n = named_handles born (first_birth phase system) (handles_listed queue) m in
    let rest = get-named_queues born phase (system + 1) queues n q (omega arith) in
    let first = get-named_handles born phase system 0 (handles_listed queue) m q is in
    grind (arith, common_steps)

-- The handles that no queue lists: each gets the birth of its ordinal among them.

-- each stands there once
abbrev pub AreDistinct : List Handle → Type 0
AreDistinct [] = Unit {0}
AreDistinct (h ∷ hs) = (stands_in hs h ≡ false) × AreDistinct hs

pub distinct : (hs : List Handle) → AllPairs AreApart hs → AreDistinct hs
distinct [] apart = tt
distinct (h ∷ hs) apart = (
  search
      (rules, not_apart, All-contains, Contains-from_stands_in, AllPairs-head AreApart h hs apart),
  distinct hs (AllPairs-tail AreApart h hs apart),
)

-- two tests that agree at each of the handles keep the same
pub filter_alike : (p q : Handle → Bool) (hs : List Handle)
    → ((h : Handle) → stands_in hs h ≡ true → p h ≡ q h) → filter p hs ≡ filter q hs
filter_alike p q [] alike = refl
filter_alike p q (h ∷ hs) alike = grind (arith, common_steps, alike, itself h, filter_alike p q hs)

-- who stands in a list has an index in it, and nobody else does
pub some_position : (t : Handle → Bool) (index : ℕ) (hs : List Handle)
    → is_some (position_from t index hs) ≡ list_any t hs
some_position t index [] = refl
some_position t index (h ∷ hs) = grind (arith, common_steps, some_position t (index + 1) hs)

pub no_index : (q : Handle) (index : ℕ) (hs : List Handle) → stands_in hs q ≡ false
    → position_from (eq_by_cmp handle_cmp q) index hs ≡ None
no_index q index hs none =
    grind (arith, common_steps, some_position (eq_by_cmp handle_cmp q) index hs)

-- The handles that no queue lists.

-- what a map has after the others were numbered
abbrev pub or_numbered : Option Entity → Option Birth → Option Entity
or_numbered None b = None
or_numbered (Some e) None = Some e
or_numbered (Some e) (Some b) = Some (record e { birth = b })

-- those that have no birth of a system
abbrev pub waiting : EntityMap → List Handle → List Handle
waiting m hs = filter (is_unnamed m) hs

-- one more birth changes nothing of the others
waiting-others : (h : Handle) (birth : Birth) (hs : List Handle) (m : EntityMap)
    → stands_in hs h ≡ false → waiting (with_birth m h birth) hs ≡ waiting m hs
waiting-others h birth hs m none =
    filter_alike (is_unnamed (with_birth m h birth)) (is_unnamed m) hs
    (λ g there. grind (arith, common_steps, get-with_birth m h birth g))

module _ (phase : ℕ) where
  -- the next one has this index
  pub get-numbered : (index : ℕ) (hs : List Handle) (m : EntityMap) (q : Handle) → AreDistinct hs
      → map.get (numbered (birth_at phase no_system index) hs m) q
      ≡ or_numbered (map.get m q)
      (option_map (birth_at phase no_system)
      (position_from (eq_by_cmp handle_cmp q) index (waiting m hs)))
  get-numbered index [] m q apart = grind (arith, common_steps)
  get-numbered index (h ∷ hs) m q apart =
      let birth = birth_at phase no_system index in
      let rest = get-numbered (index + 1) hs (with_birth m h birth) q apart.1 in
      let others = get-numbered index hs m q apart.1 in
      let same = waiting-others h birth hs m apart.0 in
      let here = get-with_birth m h birth q in
      let kept = any-filter_same (eq_by_cmp handle_cmp q) (is_unnamed m) (is_unnamed m q) in
      grind (
        arith,
        common_steps,
        no_index q (index + 1) (waiting m hs),
        same_handle q h,
        same_handle q,
        kept,
      )

-- All that are born, in one step.

pub get-with_born : (birth : Handle → Birth) (hs : List Handle) (m : EntityMap) (q : Handle)
    → map.get (with_born m birth hs) q
    ≡ cond (stands_in hs q) (Some (newborn (birth q))) (map.get m q)
get-with_born birth [] m q = refl
get-with_born birth (h ∷ hs) m q = grind (
  arith,
  common_steps,
  get-with_born birth hs (map.insert m h (newborn (birth h))) q,
  map.get-insert handle_cmp_total m h (newborn (birth h)) q,
)

-- whether a queue lists a handle has nothing to do with phases and systems
listed_anyhow : (queues : List (List Command)) (phase system other : ℕ) (h : Handle)
    → is_none (listed_birth 0 other queues h) ≡ not (is_some (listed_birth phase system queues h))
listed_anyhow [] phase system other h = refl
listed_anyhow (q ∷ queues) phase system other h =
    search (rules, listed_anyhow queues phase (system + 1) (other + 1) h)

pub no_entity : (o : Option Entity) → is_some o ≡ false → o ≡ None
no_entity it none = search (rules, true≢false)

-- handles that are apart from each other, and of whom none is there
pub all_new : (m : EntityMap) (hs : List Handle) → AreDistinct hs
    → ((h : Handle) → stands_in hs h ≡ true → map.contains_key m h ≡ false) → AreNew hs m
all_new m [] once absent = tt
all_new m (h ∷ hs) once absent = search (rules, itself, or_left, or_right, all_new m hs once.1)

-- a flush of a sound allocator whose living ones are those of the map
module _ (s : Allocator) (m : EntityMap) (sound : IsSound s) (living : AreLiving s m) where
  -- who is born lives, and was not there
  born-alive : (h : Handle) → stands_in (born s) h ≡ true
      → set.contains (after_flush s).live h ≡ true
  born-alive h there = search (rules, All-contains, born-lives, Contains-from_stands_in)

  pub born-absent : (h : Handle) → stands_in (born s) h ≡ true → map.contains_key m h ≡ false
  born-absent h there = search (rules, All-contains, born-not_live, Contains-from_stands_in)

  pub born-new : AreNew (born s) m
  born-new = all_new m (born s) (distinct (born s) (born-apart s sound)) born-absent

  -- who lives and is not born was there
  lived-before : (h : Handle) → stands_in (born s) h ≡ false
      → set.contains (after_flush s).live h ≡ true → set.contains s.live h ≡ true
  lived-before h none lives = grind (
    arith,
    common_steps,
    live-after_flush s h,
    stands_in-from_Contains (born s) h,
    Contains-permutation s.taken (born s) h (born-IsPermutation s),
  )

  -- the map after a flush has those that live then
  pub living-after : (birth : Handle → Birth)
      → AreLiving (after_flush s) (with_born m birth (born s))
  living-after birth h = search (rules, get-with_born, born-alive, lived-before, live-stays)

-- all have entered, then the queues have named those that they list
module _ (m : EntityMap) (phase : ℕ) (queues : List (List Command)) (hs : List Handle)
    (once : AreDistinct hs)
    (few : length queues ≤ 2 ^ 16) where
  abbrev bare : Entity
  bare = newborn (first_birth phase no_system)

  abbrev all : EntityMap
  all = with_born m (λ _. first_birth phase no_system) hs

  listed : EntityMap
  listed = named_queues hs phase 0 queues all

  abbrev By : Handle → Option Birth
  By q = listed_birth phase 0 queues q

  listed-get : (q : Handle) → map.get listed q
      ≡ or_named (cond (stands_in hs q) (Some bare) (map.get m q)) (given (stands_in hs q) (By q))
  unfolding listed
  listed-get q = search (rules, get-named_queues, or_named, given, get-with_born)

  abbrev others : List Handle
  others = unlisted queues hs

  -- those that have no birth of a system are those that no queue lists
  others_are : waiting listed hs ≡ others
  others_are = filter_alike _ (λ h. is_none (listed_birth 0 0 queues h)) hs (λ h there.
      let system = listed_of_system phase 0 queues h (omega (arith, few)) in
      grind (arith, common_steps, listed-get h, listed_anyhow queues phase 0 0 h))

  -- who is born and not listed stands among the others, and nobody else does
  among : (q : Handle) → stands_in others q
      ≡ (is_none (listed_birth 0 0 queues q) && stands_in hs q)
  among q = search (rules, any-filter_same, same_handle)

  -- what enters, is named and is numbered is each with its birth
  pub births_given : numbered (first_birth phase no_system) hs (named_queues hs phase 0 queues all)
      ≡ with_born m (birth_in phase queues hs) hs
  unfolding listed
  births_given =
      map.same_map handle_cmp_total handle_cmp-IsAntisymmetric _ _
      (λ q. rw (get-numbered phase 0 hs listed q once, others_are, get-with_born)
      (grind (
        arith,
        common_steps,
        listed-get q,
        among q,
        listed_anyhow queues phase 0 0 q,
        some_position (eq_by_cmp handle_cmp q) 0 others,
      )))
