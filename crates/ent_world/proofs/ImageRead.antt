-- What the bytes of an image tell, the world that is read of them, and what is written of a world's
-- entities.
use Rattle.ent_world.proofs.Common.{rules, ◌≡◌, ◌≢◌, refl, ap, ◌∙◌, ℕ, ◌^◌, ◌<◌, List, ◌++◌, length}
use Rattle.ent_world.proofs.Common.{length-append, append_assoc, word, long, length-word}
use Rattle.ent_world.proofs.Common.{length-long, same_words, same_longs, same_parts, magic, version}
use Rattle.ent_world.proofs.Common.{header_bytes, framed, [], sym, suc, Bool, T, ◌&&◌, ◌∷◌, map}
use Rattle.ent_world.proofs.Common.{get_or, arith, Contains, is_some, IsTrue, AllPairs, list_any}
use Rattle.ent_world.proofs.Common.{eq_by_cmp, is_lt, find, is_sorted, below_all, same_entries}
use Rattle.ent_world.proofs.Common.{Contains-from_any, Handle, handle_cmp, total, same, same_handle}
use Rattle.ent_world.proofs.Common.{Entity, EntityMap, All-contains, ◌+◌, ◌*◌, ◌≤◌, true, None, All}
use Rattle.ent_world.proofs.Common.{Result, Ok, Err, IfErr, IfOk, IsErrAnd, ◌⊎◌}
use Rattle.ent_world.proofs.Common.{Contains-from_stands_in, stands_in-from_Contains, common_steps}
use Rattle.ent_world.proofs.Common.{get_or_default, none-some, stands_in, top, allocator_image}
use Rattle.ent_world.proofs.Common.{HasAllocatorImage, length-header_bytes, length-slots_bytes}
use Rattle.ent_world.proofs.Common.{few_wait, roster_slots, entities_bytes, AreStored, never_stored}
use Rattle.ent_world.proofs.Common.{entities_least, World, AreRows, with_rows, allocator_of, living}
use Rattle.ent_world.proofs.Common.{image, least, HasImage, AreFramed, WorldImageFault, Memory, ℤ}
use Rattle.ent_world.proofs.Common.{zero, Some, IfSome, IsSomeAnd, w64, FitsSigned}
use Rattle.ent_world.proofs.Common.{Any-from_list_any, list_any-from_Any, ComponentId, birth_of}
use Rattle.ent_world.proofs.Common.{value_of, width, width_below, IsBirth, component, Rows}
use Rattle.ent_world.proofs.Common.{unwrap_or, newborn, first_birth, cond, AreApart}
use Rattle.std.specs.FinMap as maps
use Rattle.std.specs.FinSet as sets
use Rattle.ent_world.proofs.PlacedRows.{rows_stand, rows-empty, rows-born}
use Rattle.ent_world.proofs.Born.{all_new, distinct}
use Rattle.ent_alloc.specs.Entities.{Entities as Allocator}

-- the letters as a number
abbrev pub letters : ℕ
letters = 24574382430113606

pub letters_are : long letters ≡ magic
unfolding long
letters_are = refl

pub header_is : (phase len : ℕ) (rest : List ℕ) → header_bytes phase len ++ rest ≡ long letters
    ++ (word version ++ (long phase ++ (long len ++ rest)))
unfolding header_bytes
header_is phase len rest = search (rules, letters_are, append_assoc)

pub header_alone : (phase len : ℕ)
    → header_bytes phase len ≡ long letters ++ (word version ++ (long phase ++ long len))
unfolding header_bytes
header_alone phase len = search (rules, letters_are)

pub length-header : (phase len : ℕ) → length (header_bytes phase len) ≡ 28
unfolding header_bytes
length-header phase len = search (rules, length-append, length-word, length-long)

-- parts that are framed alike are the same
pub same_framed : (phase other : ℕ) (part rest q s : List ℕ) → phase < 2 ^ 64 → other < 2 ^ 64
    → length part < 2 ^ 64 → length q < 2 ^ 64 → framed phase part rest ≡ framed other q s
    → (phase ≡ other) × ((part ≡ q) × (rest ≡ s))
same_framed phase other part rest q s fits_p fits_o fits_part fits_q is = search
    (rules, header_is, same_longs, same_words, same_parts)

-- ---- what is no header

pub too_short : (bytes : List ℕ) → length bytes < 28 → (phase : ℕ) (part rest : List ℕ)
    → bytes ≢ framed phase part rest
too_short bytes short phase part rest is = search (rules, length-append, length-header)

pub other_magic : (number : ℕ) (bytes left : List ℕ) → number < 2 ^ 64 → number ≢ letters
    → bytes ≡ long number ++ left → (phase : ℕ) (part rest : List ℕ)
    → bytes ≢ framed phase part rest
other_magic number bytes left fits other found phase part rest is =
    search (rules, same_longs, header_is)

pub other_version : (number : ℕ) (bytes left : List ℕ) → number < 2 ^ 32 → number ≢ version
    → bytes ≡ long letters ++ (word number ++ left) → (phase : ℕ) (part rest : List ℕ)
    → bytes ≢ framed phase part rest
other_version number bytes left fits other found phase part rest is =
    search (rules, same_longs, header_is, same_words)

pub part_missing : (number len : ℕ) (bytes left : List ℕ) → number < 2 ^ 64 → len < 2 ^ 64
    → length left < len → bytes ≡ long letters
    ++ (word version ++ (long number ++ (long len ++ left))) → (phase : ℕ) (part rest : List ℕ)
    → phase < 2 ^ 64 → length part < 2 ^ 64 → bytes ≢ framed phase part rest
part_missing number len bytes left fits_n fits_l less found phase part rest fits_p fits is = search
    (rules, same_longs, header_is, same_words, length-append)

-- ---- parts that are appended one by one

pub appended_4 : (o a b c d : List ℕ) → o ++ a ++ b ++ c ++ d ≡ o ++ (a ++ (b ++ (c ++ d)))
appended_4 o a b c d = search (rules, append_assoc)

-- ---- the letters

pub begins : (bytes left : List ℕ) → bytes ≡ long letters ++ left → bytes ≡ magic ++ left
begins bytes left is = is ∙ ap (λ ms. ms ++ left) letters_are

pub short_letters : (bytes : List ℕ) → length bytes < 8 → (rest : List ℕ) → bytes ≢ magic ++ rest
short_letters bytes short rest is = search (rules, length-append)

pub other_letters : (number : ℕ) (bytes left : List ℕ) → number < 2 ^ 64 → number ≢ letters
    → bytes ≡ long number ++ left → (rest : List ℕ) → bytes ≢ magic ++ rest
other_letters number bytes left fits other found rest is = search
    (rules, same_longs number letters left rest, letters_are)

-- ---- the keys of a map, listed by rising slot

pub both : (a b : Bool) → T a → T b → T (a && b)
both b b2 p q = search rules

-- the entry of a handle in a map that has it
abbrev entry : EntityMap → Handle → Handle × Entity
entry m h = (h, unwrap_or (maps.get m h) (newborn (first_birth 0 0)))

module _ (m : EntityMap) where
  handles_of : (hs : List Handle) → map (λ e. e.0) (map (entry m) hs) ≡ hs
  handles_of [] = refl
  handles_of (h ∷ hs) = ap (h ∷◌) (handles_of hs)

  find-entry : (q : Handle) (hs : List Handle) → find handle_cmp q (map (entry m) hs)
      ≡ cond (list_any (eq_by_cmp handle_cmp q) hs) (Some (entry m q).1) None
  find-entry q [] = refl
  find-entry q (h ∷ hs) = grind (arith, common_steps, same_handle q h, find-entry q hs)

  below_less : (g h : Handle) → g.index < h.index → T (is_lt (handle_cmp g h))
  below_less g h l = search (rules)

  rising_below : (g : Handle) (hs : List Handle) → ((j : ℕ) (d : Handle) → j < length hs
      → g.index < (get_or hs j d).index) → T (below_all handle_cmp g (map (entry m) hs))
  rising_below g [] less = tt
  rising_below g (h ∷ hs) less =
      search (
        rules,
        both,
        below_less,
        less 0 g (omega arith),
        rising_below g hs (λ j d l. less (suc j) d (omega arith)),
      )

  rising_sorted : (hs : List Handle) → AllPairs (λ g h. g.index < h.index) hs
      → T (is_sorted handle_cmp (map (entry m) hs))
  rising_sorted [] rising = tt
  rising_sorted (h ∷ hs) rising =
      both _ _ (rising_below h hs (λ j d l. rising 0 (suc j) d (omega arith) (omega arith)))
      (rising_sorted hs (λ i j d before l. rising (suc i) (suc j) d (omega arith) (omega arith)))

  -- the keys of the living ones, listed by rising slot
  pub living_keys : {live : sets.FinSet handle_cmp} (hs : List Handle)
      → AllPairs (λ g h. g.index < h.index) hs → sets.from_list hs ≡ live
      → ((h : Handle) → maps.contains_key m h ≡ sets.contains live h) → maps.keys m ≡ hs
  living_keys hs rising lists living =
      let entries =
      same_entries handle_cmp total same _ _ (maps.entries_sorted m) (rising_sorted hs rising)
      (λ q.
      let has = sets.contains-from_list total hs q in
      grind (arith, common_steps, find-entry q hs, maps.get-entries m q, living q)) in
      ap (λ es. map (λ e. e.0) es) entries ∙ handles_of hs

-- who rises by slot is apart from the others
pub rising_apart : (hs : List Handle) → AllPairs (λ g h. g.index < h.index) hs
    → AllPairs (λ g h. g ≢ h) hs
rising_apart hs rising i j d before l is = search rules

pub in_map : (m : EntityMap) (h : Handle) → IsTrue (maps.contains_key m h)
    → Contains (maps.keys m) h
in_map m h is =
    Contains-from_any same_handle h (maps.keys m) (sym (maps.contains_key-keys m h) ∙ is)

-- ---- the allocator's part

pub allocator_has : (w : World) → HasImage w → HasAllocatorImage (allocator_of w)
allocator_has w has = search (rules, has.world.sound, has.asked, none-some, maps.get-empty)

pub allocator_len : (e : Allocator) → length (allocator_image e) ≡ 40 + 12 * e.allocator.made
allocator_len e = search (rules, length-header_bytes, length-slots_bytes, length-append)

pub allocator_short : (e : Allocator) → HasAllocatorImage e → length (allocator_image e) < 2 ^ 64
allocator_short e has = omega (arith, allocator_len e, has.sound.made, has.sound.limits.slots)

-- ---- what the bytes tell of a world whose image they are

pub record AreParts (w : World) (phase : ℕ) (part rest : List ℕ) : Type 0 where
  pub phase_is : w.phase ≡ phase
  pub part_is : allocator_image (allocator_of w) ≡ part
  pub rest_is : entities_bytes w.entities (living w) ≡ rest

pub told : (w : World) → HasImage w → (bytes : List ℕ) (phase : ℕ) (part rest : List ℕ)
    → phase < 2 ^ 64 → length part < 2 ^ 64 → bytes ≡ framed phase part rest → image w ≡ bytes
    → AreParts w phase part rest
told w has bytes phase part rest fits_p fits found is = search
    (rules, same_framed, has.phase, allocator_short (allocator_of w) (allocator_has w has))

-- ---- results

pub memory_from_not : (fault : WorldImageFault) → ((fault ≢ Memory) → ⊥) → fault ≡ Memory
memory_from_not it never = search rules

abbrev read : {T : Type 0} → T → Result T WorldImageFault
read x = Ok x

abbrev refused : {T : Type 0} → WorldImageFault → Result T WorldImageFault
refused fault = Err fault

pub read_is : {T : Type 0} (x e : T) → (read x ≡ Ok e) ⊎ (read x ≡ Err Memory) → x ≡ e
read_is x e which = grind (arith, common_steps)

pub refused_is : {T : Type 0} (fault : WorldImageFault) (e : T)
    → (refused {T = T} fault ≡ Ok e) ⊎ (refused {T = T} fault ≡ Err Memory) → fault ≡ Memory
refused_is fault e which = grind (arith, common_steps)

-- a fault that is handed on
pub handed : (result : Result World WorldImageFault) (fault : WorldImageFault)
    → IsErrAnd result (λ y. y ≡ fault) → fault ≡ Memory → (w : World)
    → (result ≡ Ok w) ⊎ (result ≡ Err Memory)
handed it fault is memory w = search rules

pub handed_on : (result : Result World WorldImageFault) (fault : WorldImageFault)
    (P : WorldImageFault → Type 0) → IsErrAnd result (λ y. y ≡ fault) → P fault → IfErr result P
handed_on it fault P is holds = search rules

-- what is exact refuses no image
pub refused_from_exact : (bytes : List ℕ) (result : Result World WorldImageFault)
    → ((w : World) → HasImage w → image w ≡ bytes → (result ≡ Ok w) ⊎ (result ≡ Err Memory))
    → IfErr result (λ fault. fault ≢ Memory → (w : World) → HasImage w → image w ≢ bytes)
refused_from_exact bytes it exact = search (rules, refused_is)

-- and keeps what the world had
pub kept_by_image : (P : World → Type 0) (bytes : List ℕ) (result : Result World WorldImageFault)
    → ((w : World) → HasImage w → image w ≡ bytes → (result ≡ Ok w) ⊎ (result ≡ Err Memory))
    → (w : World) → HasImage w → image w ≡ bytes → P w → IfOk result P
kept_by_image P bytes it exact w has is holds = search (rules, read_is)

-- an image has a slot's bytes for each slot, and at least 16 for each entity
pub bounded : (bytes : List ℕ) (result : Result World WorldImageFault)
    → IfOk result (λ w. image w ≡ bytes) → IfOk result HasImage
    → IfOk result (λ w. least w ≤ length bytes)
bounded bytes (Ok w) found has =
    grind (
      arith,
      common_steps,
      length-append,
      length-header,
      allocator_len (allocator_of w),
      entities_least w.entities (living w) has.stored,
    )
bounded bytes (Err fault) found has = tt

-- none has a row
pub no_rows : (e : Allocator) → HasAllocatorImage e → (hs : List Handle)
    → sets.from_list hs ≡ e.allocator.live → All (λ h. maps.get e.rows h ≡ None) hs
    → e.rows ≡ maps.empty
no_rows e has hs lists bare = maps.same_map total same e.rows maps.empty (λ h.
    let lives : sets.contains e.allocator.live h ≡ stands_in hs h =
    rw (← lists) (sets.contains-from_list total hs h) in
    let none = All-contains (λ h. maps.get e.rows h ≡ None) hs h bare in
    let nobody = maps.get-empty {X = ℕ} handle_cmp h in
    grind (arith, common_steps, none, Contains-from_stands_in hs h, has.rows_of_living h))

-- ---- the world that is read

module _ {m : EntityMap} {hs : List Handle} (stored : AreStored m hs) where
  pub members : (h : Handle) → maps.contains_key m h ≡ stands_in hs h
  members h =
      grind (
        arith,
        common_steps,
        stands_in-from_Contains hs h,
        stored.only h,
        never_stored m h,
        stored.each h,
        Contains-from_stands_in hs h,
      )

  pub stored_living : {live : sets.FinSet handle_cmp} → sets.from_list hs ≡ live → (h : Handle)
      → maps.contains_key m h ≡ sets.contains live h
  stored_living lists h =
      members h ∙ sym (sets.contains-from_list total hs h) ∙ ap (λ s. sets.contains s h) lists

pub rows_read : {m : EntityMap} {hs : List Handle} → AreStored m hs
    → AllPairs (λ g h. g.index < h.index) hs → AreRows (with_rows maps.empty 0 hs) hs m
rows_read {m} {hs} stored rising =
    let apart : AllPairs AreApart hs = λ i j d before l is. omega (arith, rising i j d before l) in
    let new =
    all_new maps.empty hs (distinct hs apart)
    (λ h there. ap is_some (maps.get-empty handle_cmp h)) in
    let born = rows-born (λ _. first_birth 0 0) hs rows-empty new in
    search (rules, born.at, rows_stand, members stored)

pub all_live : (live : sets.FinSet handle_cmp) (hs : List Handle) → sets.from_list hs ≡ live
    → All (λ h. sets.contains live h ≡ true) hs
all_live live hs lists k d lt =
    search (
      rules,
      sets.contains-from_list total hs,
      stands_in-from_Contains hs (get_or hs k d),
      get_or_default,
    )

-- who lives or waits has a slot, and its bytes
pub slots_made : (e : Allocator) → HasAllocatorImage e → (hs : List Handle)
    → sets.from_list hs ≡ e.allocator.live → 0 < length hs + top e.allocator
    → 40 < length (allocator_image e)
slots_made e has [] lists some = omega (arith, allocator_len e, few_wait e has, some)
slots_made e has (h ∷ hs) lists some =
    let lives = all_live e.allocator.live (h ∷ hs) lists 0 h (omega arith) in
    omega (arith, allocator_len e, (roster_slots e has).live_made h lives)

-- what the bytes are framed by
abbrev pub framed_by : (bytes : List ℕ) (phase : ℕ) (part rest : List ℕ) → phase < 2 ^ 64
    → length part < 2 ^ 64 → bytes ≡ framed phase part rest → AreFramed bytes
framed_by bytes phase part rest fits_p fits is = record {
  phase = phase;
  part = part;
  rest = rest;
  phase_fits = fits_p;
  len_fits = fits;
  spelled = is;
}

-- ---- the width of the same handles in another order

-- of other handles that have them all, one passes the test too
passed : (p : Handle → Bool) (xs ys : List Handle)
    → ((h : Handle) → stands_in xs h ≡ stands_in ys h) → list_any p xs ≡ true → list_any p ys ≡ true
passed p xs ys alike any =
    let one = Any-from_list_any p xs any in
    let there = stands_in-from_Contains xs one.1 (one.0, one.2, one.3) in
    search (rules, list_any-from_Any, Contains-from_stands_in ys one.1, alike one.1, one.4)

below_same : (m : EntityMap) (xs ys : List Handle)
    → ((h : Handle) → stands_in xs h ≡ stands_in ys h) → (n : ℕ)
    → width_below m xs n ≡ width_below m ys n
below_same m xs ys alike zero = refl
below_same m xs ys alike (suc n) =
    let p = λ (h : Handle). is_some (value_of m h (component n)) in
    let there = passed p xs ys alike in
    let back = passed p ys xs (λ h. sym (alike h)) in
    grind (arith, common_steps, below_same m xs ys alike n)

-- ---- a world's entities

module _ {rows : Rows} {places : List Handle} {m : EntityMap} (are : AreRows rows places m)
    {live : sets.FinSet handle_cmp}
    (living : (h : Handle) → maps.contains_key m h ≡ sets.contains live h)
    (hs : List Handle) (rising : AllPairs (λ g h. g.index < h.index) hs)
    (lists : sets.from_list hs ≡ live) where
  alike : (h : Handle) → stands_in places h ≡ stands_in hs h
  alike h =
      cc (rows_stand rows places are.at h, are.each h, living h, sets.contains-from_list total hs h)

  pub width_listed : width m places ≡ width m hs
  unfolding width
  width_listed = below_same m places hs alike 256

  pub have_rows : All (λ h. is_some (maps.get rows h) ≡ true) hs
  have_rows k d lt = search (rules, all_live)

  pub keys_listed : maps.keys m ≡ hs
  keys_listed = living_keys m hs rising lists living

  contained : (P : Handle → Type 0) → All P hs → (h : Handle) → Contains (maps.keys m) h → P h
  contained P all h is = search (rules, keys_listed)

  -- what was written of them says that they are stored
  pub are_stored : (n : ℕ) → n ≤ 256
      → ((h : Handle) (id : ComponentId) (v : ℤ) → value_of m h id ≡ Some v → id.0 < n)
      → All (λ h. IsSomeAnd (birth_of m h) IsBirth) hs
      → All (λ h. (id : ComponentId) → id.0 < n → IfSome (value_of m h id) (FitsSigned w64)) hs
      → AreStored m (maps.keys m)
  are_stored n few within births values = record {
    each = λ h is. record {
      birth = contained (λ h. IsSomeAnd (birth_of m h) IsBirth) births h is;
      numbered = λ id v at. search (rules, arith, within);
      values = λ id v at. rw at at (contained (λ h. (id : ComponentId) → id.0 < n
          → IfSome (value_of m h id) (FitsSigned w64)) values h is id (within h id v at));
    };
    only = in_map m;
  }
