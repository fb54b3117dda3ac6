-- Numbers in bytes, and what follows them.
use Rattle.std.proofs.Common.{◌≡◌, refl, sym, ap, ◌∙◌, ℕ, ◌^◌, ◌<◌, List, ◌++◌, length, take, drop}
use Rattle.std.proofs.lemmas.List.{take_at, drop_at}
use Rattle.std.proofs.lemmas.Nat.{from_le_bytes-to_le_bytes_4, from_le_bytes-to_le_bytes_8}
use Rattle.std.specs.Int.{w32, w64, from_le_bytes}
unfoldable use Rattle.ent_handle.specs.Bytes.{word, long}

pub length-word : (n : ℕ) → length (word n) ≡ 4
unfolding word
length-word n = refl

pub length-long : (n : ℕ) → length (long n) ≡ 8
unfolding long
length-long n = refl

pub from_word : (n : ℕ) → n < 2 ^ 32 → from_le_bytes w32 (word n) ≡ n
unfolding word
from_word n h = from_le_bytes-to_le_bytes_4 n h

pub from_long : (n : ℕ) → n < 2 ^ 64 → from_le_bytes w64 (long n) ≡ n
unfolding long
from_long n h = from_le_bytes-to_le_bytes_8 n h

-- parts of as many bytes
pub same_parts : (n : ℕ) (xs ys us vs : List ℕ) → length xs ≡ n → length us ≡ n
    → xs ++ ys ≡ us ++ vs → (xs ≡ us) × (ys ≡ vs)
same_parts n xs ys us vs long_x long_u same = (
  sym (take_at xs ys n long_x) ∙ ap (take n) same ∙ take_at us vs n long_u,
  sym (drop_at xs ys n long_x) ∙ ap (drop n) same ∙ drop_at us vs n long_u,
)

-- numbers that are spelled alike are one, and so is what follows them
pub same_words : (m n : ℕ) (xs ys : List ℕ) → m < 2 ^ 32 → n < 2 ^ 32 → word m ++ xs ≡ word n ++ ys
    → (m ≡ n) × (xs ≡ ys)
same_words m n xs ys hm hn same =
    let parts = same_parts 4 (word m) xs (word n) ys (length-word m) (length-word n) same in
    (sym (from_word m hm) ∙ ap (from_le_bytes w32) parts.0 ∙ from_word n hn, parts.1)

pub same_longs : (m n : ℕ) (xs ys : List ℕ) → m < 2 ^ 64 → n < 2 ^ 64 → long m ++ xs ≡ long n ++ ys
    → (m ≡ n) × (xs ≡ ys)
same_longs m n xs ys hm hn same =
    let parts = same_parts 8 (long m) xs (long n) ys (length-long m) (length-long n) same in
    (sym (from_long m hm) ∙ ap (from_le_bytes w64) parts.0 ∙ from_long n hn, parts.1)
