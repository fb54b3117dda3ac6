-- How a walk over the slots keeps some of their values, and one that goes backwards.
use Rattle.ent_storage.proofs.Common.{common_steps, rules, ◌≡◌, ℕ, ◌+◌, ◌<◌, ◌≤◌, Bool, true, false}
use Rattle.ent_storage.proofs.Common.{MutBor, List, [], ◌∷◌, ◌++◌, length, get_or, set, take, drop}
use Rattle.ent_storage.proofs.Common.{Some, arith, append-nil, append_assoc, take_all}
use Rattle.ent_storage.proofs.Common.{take_more_set, drop_all, drop_more, drop-set-lt}
use Rattle.ent_storage.proofs.Common.{length-take-le, Handle, CalledAt, Retains, RetainsSlot}
use Rattle.ent_storage.proofs.Common.{entries_from, count_at, handle_in, any_value, generation_of}
use Rattle.ent_storage.proofs.Common.{AreCounted, Slot, Vacant, Occupied, length-set, ◌-◌}
use Rattle.ent_storage.proofs.Common.{length_push}
use Rattle.ent_storage.proofs.Entries.{length-set_slot}
use Rattle.ent_storage.proofs.Found.{read}

module _ {X : Type 0} where
  -- ---- entries of two parts

  pub entries-append : (index : ℕ) (front back : List (Slot X))
      → entries_from index (front ++ back)
      ≡ entries_from index front ++ entries_from (index + length front) back
  entries-append index [] back = search rules
  entries-append index (slot ∷ front) back = search (rules, entries-append (index + 1) front back)

  -- the entries up to a slot that was just set
  pub entries-upto : (slots : List (Slot X)) (index : ℕ) (slot : Slot X) → index < length slots
      → entries_from 0 (take (index + 1) (set slots index slot)) ≡ entries_from 0 (take index slots)
      ++ entries_from index (slot ∷ [])
  entries-upto slots index slot within =
      search (rules, length-take-le, take_more_set, entries-append)

  -- ---- how many there are

  pub counts_one : (slots : List (Slot X)) (count index : ℕ) (slot : Slot X)
      → AreCounted 0 slots count → index < length slots → slot ≡ get_or slots index slot
      → count_at slot ≤ count
  counts_one slots count index slot are within e = search
      (rules, length-set_slot 0 slots index Vacant within, read slots index slot within e)

  -- after a slot was set
  pub counted-slot : (slots : List (Slot X)) (count left index : ℕ) (slot new : Slot X)
      → AreCounted 0 slots count → index < length slots → slot ≡ get_or slots index slot
      → left + count_at slot ≡ count + count_at new → AreCounted 0 (set slots index new) left
  counted-slot slots count left index slot new are within e moved =
      search (rules, length-set_slot, read, length-set)
  -- ---- one slot

module _ {X F : Type 0} (step : F → Handle → MutBor X → Bool → MutBor X → F → Type 0) where
  -- f was called at the value of a slot
  module _ (f next : F) (index : ℕ) (slot : Slot X) (h : Handle) (shown left : MutBor X)
      (keep : Bool)
      (has : handle_in slot index ≡ Some h) (value : any_value slot ≡ Some shown.now)
      (called : step f h shown keep left next) where
    called_at : CalledAt step f h shown.now keep left.now next
    called_at = search rules

    -- and kept it, or not
    pub kept_slot : keep ≡ true
        → RetainsSlot step f index slot (Occupied (generation_of slot) left.now) next
    kept_slot is = search (rules, called_at)

    pub gone_slot : keep ≡ false → RetainsSlot step f index slot Vacant next
    gone_slot is = search (rules, called_at)

  -- a slot in front of the others
  in_front : (f next : F) (index : ℕ) (slot new : Slot X) (slots : List (Slot X))
      (later : List (Handle × X)) → RetainsSlot step f index slot new next
      → Retains step next (entries_from (index + 1) slots) later
      → Retains step f (entries_from index (slot ∷ slots)) (entries_from index (new ∷ []) ++ later)
  in_front f next index slot new slots later kept rest = search rules

  -- The walk has come to a slot: those from it on are as they were, and whatever f makes of them
  -- completes its work.
  pub record RetainedBelow (first : F) (old : List (Slot X)) (f : F) (now : List (Slot X))
      (index : ℕ)
      : Type 0 where
    pub long : length now ≡ length old
    pub rest : drop index now ≡ drop index old
    pub done : (later : List (Handle × X))
        → Retains step f (entries_from index (drop index old)) later
        → Retains step first (entries_from 0 old) (entries_from 0 (take index now) ++ later)

  pub retained-more : (first : F) (old now : List (Slot X)) (f next : F) (index : ℕ)
      (slot new : Slot X) → index < length now → slot ≡ get_or now index slot
      → RetainsSlot step f index slot new next → RetainedBelow first old f now index
      → RetainedBelow first old next (set now index new) (index + 1)
  retained-more first old now f next index slot new within read kept below = grind (
    arith,
    common_steps,
    drop_more,
    read,
    length-set,
    drop-set-lt,
    append_assoc,
    entries-upto,
    in_front,
  )

  pub retained-done : (first : F) (old now : List (Slot X)) (f : F) (index : ℕ) → length old ≤ index
      → RetainedBelow first old f now index
      → Retains step first (entries_from 0 old) (entries_from 0 now)
  retained-done first old now f index past below =
      let all = take_all index now (omega (arith, below.long)) in
      rw (append-nil, all) at (below.done [] (search (rules, drop_all)))

-- ---- the last of some slots, from which a walk goes backwards

module _ {X : Type 0} where
  -- the last slot has a value: what is left before it
  pub record LastGone (index left : ℕ) (front : List (Slot X)) (entry : Handle × X)
      (all : List (Handle × X))
      : Type 0 where
    pub one : 1 ≤ left
    pub counted : AreCounted index front (left - 1)
    pub entries : all ≡ entries_from index front ++ entry ∷ []
    pub fewer : length all ≡ length (entries_from index front) + 1

  pub last_occupied : (slots front : List (Slot X)) (index left generation : ℕ) (value : X)
      (all : List (Handle × X))
      → slots ≡ front ++ Occupied generation value ∷ []
      → AreCounted index slots left × (entries_from index slots ≡ all)
      → LastGone index left front
      (record { index = index + length front; generation = generation }, value) all
  last_occupied slots front index left generation value all split kept =
      search (rules, entries-append, length_push)

  -- it is vacant
  pub last_vacant : (slots front : List (Slot X)) (index left : ℕ) (all : List (Handle × X))
      → slots ≡ front ++ Vacant ∷ []
      → AreCounted index slots left × (entries_from index slots ≡ all)
      → AreCounted index front left × (entries_from index front ≡ all)
  last_vacant slots front index left all split kept =
      search (rules, entries-append, append-nil, length_push)
