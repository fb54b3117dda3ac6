-- The words of an image, and its slots, byte by byte.
use Rattle.ent_alloc.proofs.Common.{rules, ◌≡◌, refl, ap, ℕ, zero, suc, ◌+◌, ◌*◌, ◌^◌, ◌<◌, List}
use Rattle.ent_alloc.proofs.Common.{◌++◌, length, take, drop, arith, flat_map, range_with_len}
use Rattle.ent_alloc.proofs.Common.{length-append, take_at, drop_at, drop-drop, word, slot_bytes}
use Rattle.ent_alloc.proofs.Common.{kind_of, number_of, SlotRecord, Occupancy, Alive, AliveWithRow}
use Rattle.ent_alloc.proofs.Common.{Pending, Retired, ◌≤◌, common_steps, drop-append-le}
use Rattle.ent_alloc.proofs.Common.{take-append-le, length-drop, word_at, ◌≢◌, sym, ◌∙◌, ◌/◌}
use Rattle.ent_alloc.proofs.Common.{get_or, first_chunks, take-append-drop, length-take-le}
use Rattle.ent_alloc.proofs.Common.{div-mul-add, Limits, IsWritten}
use Rattle.ent_handle.proofs.Spelled.{from_word, same_parts, same_words}

-- numbers that are spelled alike are one
same_word : (m n : ℕ) → m < 2 ^ 32 → n < 2 ^ 32 → word m ≡ word n → m ≡ n
same_word m n hm hn same = rw (← from_word m hm, same) (from_word n hn)

pub length-slot_bytes : (s : SlotRecord) → length (slot_bytes s) ≡ 12
unfolding slot_bytes word
length-slot_bytes s = refl

-- ---- slots that are written alike

-- its numbers fit
pub record IsSmall (s : SlotRecord) : Type 0 where
  pub generation : s.generation < 2 ^ 32
  pub number : number_of s.occupancy < 2 ^ 32

pub kind_below : (t : Occupancy) → kind_of t < 2 ^ 32
kind_below Retired = omega arith
kind_below _ = omega arith

same_occupancy : (t u : Occupancy) → kind_of t ≡ kind_of u → number_of t ≡ number_of u → t ≡ u
same_occupancy Retired Retired k n = refl
same_occupancy Alive Alive k n = refl
same_occupancy (AliveWithRow row) (AliveWithRow other) k n = ap AliveWithRow n
same_occupancy (Pending position) (Pending other) k n = ap Pending n
same_occupancy _ _ k n = absurd (omega arith)

pub same_slot : (s t : SlotRecord) → IsSmall s → IsSmall t → slot_bytes s ≡ slot_bytes t → s ≡ t
unfolding slot_bytes
same_slot s t hs ht same = search (rules, same_words, kind_below, same_word, same_occupancy)

-- ---- pieces of one length

module _ (f : ℕ → List ℕ) (n : ℕ) (long : (i : ℕ) → length (f i) ≡ n) where
  pub length-pieces : (from count : ℕ) → length (flat_map f (range_with_len from count)) ≡ n * count
  length-pieces from zero = omega arith
  length-pieces from (suc count) =
      search (rules, arith, length-append, long from, length-pieces (from + 1) count)

  -- the piece at a place, and what comes after it
  pub piece : (from count k at : ℕ) → k < count → at ≡ from + k
      → take n (drop (n * k) (flat_map f (range_with_len from count))) ≡ f at
  piece from zero k at lt is = absurd (omega arith)
  piece from (suc count) zero at lt is = search (rules, arith, take_at (f from), long from)
  piece from (suc count) (suc k) at lt is = search (
    rules,
    arith,
    drop-drop (n * k) n (f from ++ flat_map f (range_with_len (from + 1) count)),
    drop_at (f from) (flat_map f (range_with_len (from + 1) count)) n (long from),
    piece (from + 1) count k at,
  )

-- ---- the number at a place of bytes that are spelled word by word

pub word_past : (xs ys : List ℕ) (k place at : ℕ) → length xs ≡ k → at ≡ k + place
    → word_at (xs ++ ys) at ≡ word_at ys place
unfolding word_at
word_past xs ys k place at all is =
    rw (is, ← drop-drop place k (xs ++ ys), drop_at xs ys k all) refl

-- three words one after the other
module _ (a b c : ℕ) (rest : List ℕ) where
  pub first_word : a < 2 ^ 32 → word_at (word a ++ (word b ++ (word c ++ rest))) 0 ≡ a
  unfolding word_at word
  first_word fits = from_word a fits

  pub second_word : b < 2 ^ 32 → word_at (word a ++ (word b ++ (word c ++ rest))) 4 ≡ b
  unfolding word_at word
  second_word fits = from_word b fits

  pub third_word : c < 2 ^ 32 → word_at (word a ++ (word b ++ (word c ++ rest))) 8 ≡ c
  unfolding word_at word
  third_word fits = from_word c fits

-- in what the bytes begin with
pub word_before : (xs ys : List ℕ) (place : ℕ) → place + 4 ≤ length xs
    → word_at (xs ++ ys) place ≡ word_at xs place
unfolding word_at
word_before xs ys place within =
    grind (arith, common_steps, drop-append-le, length-drop, take-append-le)

-- ---- bytes in pieces of twelve, one for each slot

chunk_at : (k i : ℕ) (bytes d : List ℕ) → i < k
    → get_or (first_chunks 12 k bytes) i d ≡ take 12 (drop (12 * i) bytes)
chunk_at zero i bytes d lt = absurd (omega arith)
chunk_at (suc k) zero bytes d lt = refl
chunk_at (suc k) (suc i) bytes d lt =
    search (rules, arith, chunk_at k i (drop 12 bytes) d, drop-drop (12 * i) 12 bytes)

-- how many there are
pub pieces : (bytes : List ℕ) (made : ℕ) → length bytes ≡ 12 * made → length bytes / 12 ≡ made
pieces bytes made long = search (rules, div-mul-add)

module _ (bytes : List ℕ) (made : ℕ) (chunks : List (List ℕ)) (index : ℕ) (d : List ℕ)
    (front : chunks ≡ first_chunks 12 (length bytes / 12) bytes)
    (count : length chunks ≡ length bytes / 12)
    (long : length bytes ≡ 12 * made) (lt : index < length chunks) where
  piece_is : get_or chunks index d ≡ take 12 (drop (12 * index) bytes)
  piece_is = search (rules, chunk_at)

  pub before_end : index < made
  before_end = search (rules, pieces)

  pub length-piece : length (get_or chunks index d) ≡ 12
  length-piece = search (rules, before_end, length-drop, piece_is, length-take-le)

  pub cut : drop (12 * index) bytes ≡ get_or chunks index d ++ drop (12 * (index + 1)) bytes
  cut =
      search (
        rules,
        arith,
        piece_is,
        drop-drop 12 (12 * index) bytes,
        take-append-drop 12 (drop (12 * index) bytes),
      )

  -- where the piece is no slot, the bytes begin with none
  pub none_cut : (limits : Limits) → ((s : SlotRecord) → IsWritten limits s.generation s.occupancy
      → get_or chunks index d ≢ slot_bytes s) → (s : SlotRecord) (rest : List ℕ)
      → IsWritten limits s.generation s.occupancy → drop (12 * index) bytes ≢ slot_bytes s ++ rest
  none_cut limits none s rest is same =
      none s is (same_parts 12 _ _ (slot_bytes s) rest length-piece
      (length-slot_bytes s) (sym cut ∙ same)).0
