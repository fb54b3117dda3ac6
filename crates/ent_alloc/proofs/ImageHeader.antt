-- What stands before the slots of an image, byte by byte.
use Rattle.ent_alloc.proofs.Common.{rules, ◌≡◌, ◌≢◌, refl, ℕ, ◌^◌, ◌<◌, List, ◌++◌, length}
use Rattle.ent_alloc.proofs.Common.{length-append, append_assoc, word, long, magic, version}
use Rattle.ent_alloc.proofs.Common.{numbers_bytes, header_bytes, AreNumbers, Header}
use Rattle.ent_handle.proofs.Spelled.{same_longs, same_parts, same_words}

-- the letters as a number
abbrev pub letters : ℕ
letters = 20633732756164422

pub letters_are : long letters ≡ magic
unfolding long
letters_are = refl

pub length-header_bytes : (h : Header) → length (header_bytes h) ≡ 40
unfolding header_bytes numbers_bytes word long
length-header_bytes h = refl

-- the header, number by number
pub header_is : (h : Header) → header_bytes h ≡ long letters ++ (word version ++ numbers_bytes h)
unfolding header_bytes
header_is h = search (rules, letters_are)

pub header_then : (h : Header) (rest : List ℕ) → header_bytes h ++ rest ≡ long letters
    ++ (word version ++ (numbers_bytes h ++ rest))
header_then h rest = search (rules, header_is, append_assoc)

pub numbers_then : (h : Header) (rest : List ℕ)
    → numbers_bytes h ++ rest ≡ word h.slots
    ++ (word h.generations
    ++ (word h.made ++ (word h.waiting ++ (word h.reserved ++ (long h.asked ++ rest)))))
unfolding numbers_bytes
numbers_then h rest = search (rules, append_assoc)

-- headers that are spelled alike are one
pub same_header : (h k : Header) (xs ys : List ℕ) → AreNumbers h → AreNumbers k
    → header_bytes h ++ xs ≡ header_bytes k ++ ys → (h ≡ k) × (xs ≡ ys)
same_header h k xs ys is_h is_k same = search
    (rules, same_parts, length-header_bytes, header_then, same_longs, same_words, numbers_then)

-- ---- what is no header

pub too_short : (bytes : List ℕ) → length bytes < 40 → (h : Header) (rest : List ℕ)
    → bytes ≢ header_bytes h ++ rest
too_short bytes short h rest same = search (rules, length-append, length-header_bytes)

pub other_magic : (number : ℕ) (bytes : List ℕ) → number < 2 ^ 64 → number ≢ letters
    → (h : Header) (rest : List ℕ) → long number ++ bytes ≢ header_bytes h ++ rest
other_magic number bytes below other h rest same = search (rules, same_longs, header_then)

pub other_version : (number : ℕ) (bytes : List ℕ) → number < 2 ^ 32 → number ≢ version
    → (h : Header) (rest : List ℕ) → long letters ++ (word number ++ bytes) ≢ header_bytes h ++ rest
other_version number bytes below other h rest same =
    search (rules, same_longs, header_then, same_words)

-- ---- parts that are appended one by one

pub appended_8 : (o a b c d e f g h : List ℕ) → o ++ a ++ b ++ c ++ d ++ e ++ f ++ g ++ h ≡ o
    ++ (a ++ (b ++ (c ++ (d ++ (e ++ (f ++ (g ++ h)))))))
appended_8 o a b c d e f g h = search (rules, append_assoc)
