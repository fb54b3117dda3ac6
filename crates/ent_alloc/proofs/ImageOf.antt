-- The image of a sound allocator: its numbers fit, it tells the allocator, and that of what was
-- read is what was read.
use Rattle.ent_alloc.proofs.Common.{common_steps, rules, ◌≡◌, ◌≢◌, refl, sym, ap, ◌∙◌, ℕ, ◌+◌, ◌-◌}
use Rattle.ent_alloc.proofs.Common.{◌*◌, ◌<◌, ◌≤◌, List, ◌++◌, length, take, drop, filter, arith}
use Rattle.ent_alloc.proofs.Common.{Ok, Err, Result, IfOk, ◌⊎◌, inl, inr, ImageFault, Memory}
use Rattle.ent_alloc.proofs.Common.{length-append, length-reverse, length-drop, length-take-le}
use Rattle.ent_alloc.proofs.Common.{Roster, Allocator, available, top, is_old, Entities}
use Rattle.ent_alloc.proofs.Common.{allocator_of, entities_of, AreReserved, slot, slot_bytes}
use Rattle.ent_alloc.proofs.Common.{slots_bytes, AreSlots, HasImage, roster, header, header_bytes}
use Rattle.ent_alloc.proofs.Common.{image, kept_bytes, AreServed, AreNumbers, Header, IfErr}
use Rattle.ent_alloc.proofs.Common.{IsErrAnd}
use Rattle.ent_alloc.proofs.PoolLaw.{length-taken}
use Rattle.ent_alloc.proofs.Meaning.{length-idle, top_is}
use Rattle.ent_alloc.proofs.Settled.{settled-sound}
use Rattle.ent_alloc.proofs.MeaningOfSteps.{settled_is}
use Rattle.ent_alloc.proofs.ImageWords.{length-slot_bytes, length-pieces, piece, same_slot}
use Rattle.ent_alloc.proofs.ImageSlots.{few, slots_sound, small, same_roster}
use Rattle.ent_alloc.proofs.ImageSound.{roster_slots, idle_is, same_entities, roster_is}
use Rattle.ent_alloc.proofs.ImageHeader.{same_header, length-header_bytes}

-- ---- slots

pub length-slots_bytes : (r : Roster) → length (slots_bytes r) ≡ 12 * r.made
unfolding slots_bytes
length-slots_bytes r = search (rules, length-pieces, length-slot_bytes)

slot_in : (r : Roster) (index : ℕ) → index < r.made → take 12 (drop (12 * index) (slots_bytes r))
    ≡ slot_bytes (slot r index)
unfolding slots_bytes
slot_in r index lt =
    piece _ 12 (λ index. length-slot_bytes (slot r index)) 0 r.made index index lt (omega arith)

-- slots with one image are the same
same_slots : (r q : Roster) → AreSlots r → AreSlots q → r.limits ≡ q.limits → r.made ≡ q.made
    → length r.pending ≡ length q.pending → slots_bytes r ≡ slots_bytes q → r ≡ q
same_slots r q is_r is_q limits made long same =
    same_roster r q is_r is_q limits made long
    (λ index lt.
    search (
      rules,
      same_slot (slot r index) (slot q index),
      small,
      slot_in r index lt,
      slot_in q index,
      same,
    ))

-- ---- an allocator with its image

module _ (e : Entities) (has : HasImage e) where
  abbrev s : Allocator
  s = e.allocator

  pub top_as : length (roster e).pending ≡ top s
  top_as = length-reverse (filter (is_old s.made) (available s))

  pub few_wait : top s ≤ s.made
  few_wait = omega (arith, top_as, few (roster e) (roster_slots e has))

  -- how many were requested, and how many of them are reserved
  pub served : AreServed s.asked (length s.taken) (top s + (s.limits.slots - s.made))
  served =
      grind (
        arith,
        common_steps,
        top_as,
        ap length (idle_is e has),
        length-idle (roster e),
        length-append,
        length-drop,
        length-taken,
      )

  pub numbers_fit : AreNumbers (header e)
  numbers_fit = grind (arith, common_steps, served, few_wait)

-- what the bytes begin with, if they are its image
pub told : (e : Entities) (h : Header) (rest : List ℕ) → HasImage e → AreNumbers h
    → image e ≡ header_bytes h ++ rest → (header e ≡ h) × (slots_bytes (roster e) ≡ rest)
told e h rest has fits same = search (rules, same_header, numbers_fit)

-- an image tells the allocator
pub same_image : (d e : Entities) → HasImage d → HasImage e → image d ≡ image e → d ≡ e
same_image d e is_d is_e same = search
    (rules, same_header, numbers_fit, same_slots, roster_slots, top_as, same_entities)

-- ---- slots and requests that were read

-- their numbers
abbrev pub numbers : Roster → ℕ → ℕ → Header
numbers r asked given = record {
  slots = r.limits.slots;
  generations = r.limits.generations;
  made = r.made;
  waiting = length r.pending;
  reserved = given;
  asked = asked;
}

module _ (r : Roster) (asked given : ℕ) (are : AreSlots r)
    (requests : AreServed asked given (length r.pending + (r.limits.slots - r.made))) where
  pub reserved_are : AreReserved r asked given
  reserved_are =
      search (
        rules,
        arith,
        settled-sound (allocator_of r 0 0) (slots_sound r are) refl given asked,
        length-idle r,
        settled_is,
      )

module _ (r : Roster) (asked given : ℕ) (are : AreSlots r) (reserved : AreReserved r asked given)
  where
    pub has_image : HasImage (entities_of r asked given)
    has_image = grind (arith, common_steps)

    pub image_is : image (entities_of r asked given)
        ≡ header_bytes (numbers r asked given) ++ slots_bytes r
    image_is = grind (arith, common_steps, top_is, length-take-le, length-idle, roster_is)

-- ---- what reading returns

-- a fault that is handed on
pub handed_on : {T : Type 0} (result : Result T ImageFault) (fault : ImageFault)
    (P : ImageFault → Type 0) → IsErrAnd result (λ y. y ≡ fault) → P fault → IfErr result P
handed_on (Ok x) fault P is holds = tt
handed_on (Err y) fault P is holds = rw is holds

-- what is read of an image is its allocator
pub exact : (bytes : List ℕ) (result : Result Entities ImageFault)
    → IfOk result (λ e. image e ≡ bytes) → IfOk result HasImage
    → IfErr result (λ fault. fault ≢ Memory → (e : Entities) → HasImage e → image e ≢ bytes)
    → (e : Entities) → HasImage e → image e ≡ bytes → (result ≡ Ok e) ⊎ (result ≡ Err Memory)
exact bytes (Ok d) found has refused e is same =
    inl (ap Ok (same_image d e has is (found ∙ sym same)))
exact bytes (Err Memory) found has refused e is same = inr refl
exact bytes (Err fault) found has refused e is same = absurd (refused (λ memory. cc) e is same)

-- it has no more bytes than those of its slots
pub bounded : (bytes : List ℕ) (result : Result Entities ImageFault)
    → IfOk result (λ e. image e ≡ bytes) → IfOk result HasImage
    → IfOk result (λ e. 40 + kept_bytes e.allocator ≤ length bytes)
bounded bytes (Ok e) found has =
    search (rules, length-header_bytes, length-slots_bytes, length-append, few_wait)
bounded bytes (Err fault) found has = tt

-- and has what the allocator had
pub kept_by_image : (P : Entities → Type 0) (bytes : List ℕ) (result : Result Entities ImageFault)
    → IfOk result (λ e. image e ≡ bytes) → IfOk result HasImage → (e : Entities) → HasImage e
    → image e ≡ bytes → P e → IfOk result P
kept_by_image P bytes (Ok d) found has e is same holds = search (rules, same_image)
kept_by_image P bytes (Err fault) found has e is same holds = tt
