-- Numbers, handles, items and bundles as bytes, and back.
use Rattle.ent_queue.proofs.Common.{rules, ◌≡◌, refl, ℕ, ◌^◌, ◌<◌, List, ◌++◌, length, take, drop}
use Rattle.ent_queue.proofs.Common.{arith, common_steps, from_le_bytes-to_le_bytes_2}
use Rattle.ent_queue.proofs.Common.{from_le_bytes-to_le_bytes_4, from_le_bytes-to_le_bytes_8}
use Rattle.ent_queue.proofs.Common.{Handle, IsHandle, bits, bytes_2, bytes_4, bytes_8, handle_bytes}
use Rattle.ent_queue.proofs.Common.{number_2, number_4, number_8, handle_of_bits, unpacked_handle}
use Rattle.ent_queue.proofs.Common.{◌+◌, ◌*◌, ◌≤◌, ℤ, [], ◌∷◌, map, append_assoc, length-append}
use Rattle.ent_queue.proofs.Common.{All, flat_map, All-head, All-tail, drop-append_seam}
use Rattle.ent_queue.proofs.Common.{first_chunks, w64, cast_unsigned, FitsSigned, to_z-of_z}
use Rattle.ent_queue.proofs.Common.{Fits-lt-pow, Fits-of_z, ComponentId, Bundle, IsBundle, IsItem}
use Rattle.ent_queue.proofs.Common.{few_items, item_bytes, bundle_bytes, unpacked_handles}
use Rattle.ent_queue.proofs.Common.{unpacked_item, unpacked_bundle, zero, suc, drop-take}

pub length-bytes_2 : (n : ℕ) → length (bytes_2 n) ≡ 2
unfolding bytes_2
length-bytes_2 n = refl

pub length-bytes_4 : (n : ℕ) → length (bytes_4 n) ≡ 4
unfolding bytes_4
length-bytes_4 n = refl

pub length-bytes_8 : (n : ℕ) → length (bytes_8 n) ≡ 8
unfolding bytes_8
length-bytes_8 n = refl

pub number_2-bytes : (n : ℕ) (rest : List ℕ) → n < 2 ^ 16 → number_2 (bytes_2 n ++ rest) ≡ n
unfolding number_2 bytes_2
number_2-bytes n rest h = from_le_bytes-to_le_bytes_2 n h

pub number_4-bytes : (n : ℕ) (rest : List ℕ) → n < 2 ^ 32 → number_4 (bytes_4 n ++ rest) ≡ n
unfolding number_4 bytes_4
number_4-bytes n rest h = from_le_bytes-to_le_bytes_4 n h

pub number_8-bytes : (n : ℕ) (rest : List ℕ) → n < 2 ^ 64 → number_8 (bytes_8 n ++ rest) ≡ n
unfolding number_8 bytes_8
number_8-bytes n rest h = from_le_bytes-to_le_bytes_8 n h

pub drop-bytes_2 : (n : ℕ) (rest : List ℕ) → drop 2 (bytes_2 n ++ rest) ≡ rest
unfolding bytes_2
drop-bytes_2 n rest = refl

pub drop-bytes_4 : (n : ℕ) (rest : List ℕ) → drop 4 (bytes_4 n ++ rest) ≡ rest
unfolding bytes_4
drop-bytes_4 n rest = refl

pub drop-bytes_8 : (n : ℕ) (rest : List ℕ) → drop 8 (bytes_8 n ++ rest) ≡ rest
unfolding bytes_8
drop-bytes_8 n rest = refl

pub take-bytes_8 : (n : ℕ) (rest : List ℕ) → take 8 (bytes_8 n ++ rest) ≡ bytes_8 n
unfolding bytes_8
take-bytes_8 n rest = refl

pub number_8-alone : (n : ℕ) → n < 2 ^ 64 → number_8 (bytes_8 n) ≡ n
unfolding number_8 bytes_8
number_8-alone n h = from_le_bytes-to_le_bytes_8 n h

pub bits_below : (h : Handle) → IsHandle h → bits h < 2 ^ 64
bits_below h is = omega (arith, is.index, is.greatest)

pub handle_of_bits-bits : (h : Handle) → IsHandle h → handle_of_bits (bits h) ≡ h
handle_of_bits-bits h is = grind (arith, common_steps)

pub unpacked_handle-bytes : (h : Handle) (rest : List ℕ) → IsHandle h
    → unpacked_handle (handle_bytes h ++ rest) ≡ h
unpacked_handle-bytes h rest is = search (rules, number_8-bytes, bits_below, handle_of_bits-bits)

pub unpacked_handle-alone : (h : Handle) → IsHandle h → unpacked_handle (handle_bytes h) ≡ h
unpacked_handle-alone h is = search (rules, number_8-alone, bits_below, handle_of_bits-bits)

pub length-handles : (hs : List Handle) → length (flat_map handle_bytes hs) ≡ 8 * length hs
length-handles [] = refl
length-handles (h ∷ hs) = search (rules, length-append, length-bytes_8, length-handles hs)

pub unpacked_handles-bytes : (hs : List Handle) (rest : List ℕ) → All IsHandle hs
    → unpacked_handles (length hs) (flat_map handle_bytes hs ++ rest) ≡ hs
unpacked_handles-bytes [] rest all = refl
unpacked_handles-bytes (h ∷ hs) rest all =
    search (
      rules,
      append_assoc,
      take-bytes_8,
      drop-bytes_8,
      unpacked_handle-alone,
      All-head,
      All-tail,
      unpacked_handles-bytes hs rest,
    )

pub drop-handles : (hs : List Handle) (rest : List ℕ)
    → drop (8 * length hs) (flat_map handle_bytes hs ++ rest) ≡ rest
drop-handles hs rest = grind (arith, common_steps, length-handles, drop-append_seam)

take-item : (item : ComponentId × ℤ) (rest : List ℕ)
    → take 9 (item_bytes item ++ rest) ≡ item_bytes item
take-item item rest = search (rules, take-bytes_8)

drop-item : (item : ComponentId × ℤ) (rest : List ℕ) → drop 9 (item_bytes item ++ rest) ≡ rest
drop-item item rest = search (rules, drop-bytes_8)

pub unsigned_below : (z : ℤ) → FitsSigned w64 z → cast_unsigned w64 z < 2 ^ 64
unsigned_below z fits = Fits-lt-pow (Fits-of_z fits)

unpacked_item-alone : (item : ComponentId × ℤ) → IsItem item
    → unpacked_item (item_bytes item) ≡ item
unpacked_item-alone item is = search (rules, number_8-alone, unsigned_below, to_z-of_z)

pub length-items : (items : Bundle) → length (flat_map item_bytes items) ≡ 9 * length items
length-items [] = refl
length-items (item ∷ items) = search (rules, length-append, length-bytes_8, length-items items)

pub items_in-bytes : (items : Bundle) (rest : List ℕ) → All IsItem items
    → map unpacked_item (first_chunks 9 (length items) (flat_map item_bytes items ++ rest)) ≡ items
items_in-bytes [] rest all = refl
items_in-bytes (item ∷ items) rest all =
    let others = items_in-bytes items rest (All-tail IsItem item items all) in
    search (rules, append_assoc, take-item, unpacked_item-alone, All-head, drop-item, others)

pub drop-items : (items : Bundle) (rest : List ℕ)
    → drop (9 * length items) (flat_map item_bytes items ++ rest) ≡ rest
drop-items items rest = grind (arith, common_steps, length-items, drop-append_seam)

pub length-bundle : (items : Bundle) → length (bundle_bytes items) ≡ 2 + 9 * length items
length-bundle items = search (rules, length-append, length-bytes_2, length-items)

-- What a bundle's bytes say of the bytes that begin with them.
pub record BundleBegins (items : Bundle) (bytes rest : List ℕ) : Type 0 where
  pub items_are : unpacked_bundle bytes ≡ items
  pub is : IsBundle items
  pub header : 2 ≤ length bytes
  pub long : 2 + 9 * number_2 bytes ≤ length bytes
  pub rest_is : drop (9 * number_2 bytes) (drop 2 bytes) ≡ rest

pub bundle_begins : (items : Bundle) (rest bytes : List ℕ) → IsBundle items
    → bytes ≡ bundle_bytes items ++ rest → BundleBegins items bytes rest
bundle_begins items rest bytes is e =
    let few : length items < 2 ^ 16 = omega (arith, few_items items is) in
    search (
      rules,
      is,
      is.each,
      append_assoc,
      number_2-bytes,
      drop-bytes_2,
      items_in-bytes,
      length-append,
      length-bundle,
      drop-items,
    )

-- ---- a list in chunks of one length

take_of_take : {X : Type 0} (n m : ℕ) (xs : List X) → take n (take (n + m) xs) ≡ take n xs
take_of_take n m xs = grind (arith, common_steps)

chunks_of_take : {X : Type 0} (n k : ℕ) (xs : List X)
    → first_chunks n k (take (n * k) xs) ≡ first_chunks n k xs
chunks_of_take n zero xs = refl
chunks_of_take n (suc k) xs = search
    (rules, take_of_take n (n * k) xs, drop-take n (n * k) xs, chunks_of_take n k (drop n xs))

-- the chunks of a front that is cut off
pub chunks_of_front : {X : Type 0} (n k count : ℕ) (xs front : List X) → front ≡ take (n * k) xs
    → count ≡ k → first_chunks n count front ≡ first_chunks n k xs
chunks_of_front n k count xs front cut e = search (rules, chunks_of_take)
