-- An image and the four bytes after it.
use Rattle.ent_total.proofs.Common.{rules, ◌≡◌, ◌≢◌, refl, ap, ℕ, ◌+◌, ◌-◌, ◌^◌, ◌<◌, ◌≤◌, List, []}
use Rattle.ent_total.proofs.Common.{◌++◌, length, arith, Result, Ok, Err, IfErr, IsErrAnd, ◌⊎◌}
use Rattle.ent_total.proofs.Common.{length-append, append-nil, length-take-le, take_at, word}
use Rattle.ent_total.proofs.Common.{length-word, same_words, same_parts, Allocator, WorldValue}
use Rattle.ent_total.proofs.Common.{magic, world_image, least, HasImage, WorldImageFault, Memory}
use Rattle.ent_total.proofs.Common.{refused_is, read_is, world_bounded, image, before_count}
use Rattle.std.proofs.Common.{IfOk}
use Rattle.ent_total.specs.Image.{IsReadFrom}
use Rattle.ent_total.specs.declared.world.World.{World}

-- bytes that end with a number alike are alike
pub same_ends : (xs ys : List ℕ) (m n : ℕ) → m < 2 ^ 32 → n < 2 ^ 32 → xs ++ word m ≡ ys ++ word n
    → (xs ≡ ys) × (m ≡ n)
same_ends xs ys m n fits_m fits_n is =
    let long : length xs ≡ length ys = omega (
      arith,
      ap length is,
      length-append xs (word m),
      length-append ys (word n),
      length-word m,
      length-word n,
    ) in
    let parts = same_parts (length ys) xs (word m) ys (word n) long refl is in
    search (rules, parts, same_words m n [] [] fits_m fits_n, append-nil)

-- the world that is read
abbrev pub of : WorldValue → ℕ → ℕ → World
of w number spawned = record { world = w; number = number; spawned = spawned }

-- and its allocator
abbrev pub allocator_in : World → Allocator
allocator_in w = w.world.allocator

-- a fault that is handed on
pub handed : (result : Result World WorldImageFault) (fault : WorldImageFault)
    → IsErrAnd result (λ y. y ≡ fault) → fault ≡ Memory → (w : World)
    → (result ≡ Ok w) ⊎ (result ≡ Err Memory)
handed it fault is memory w = search rules

pub handed_on : (result : Result World WorldImageFault) (fault : WorldImageFault)
    (P : WorldImageFault → Type 0) → IsErrAnd result (λ y. y ≡ fault) → P fault → IfErr result P
handed_on it fault P is holds = search rules

-- the bytes before the last four
pub before_is : (bytes part : List ℕ) (spawned : ℕ) → bytes ≡ part ++ word spawned
    → before_count bytes ≡ part
before_is bytes part spawned is =
    search (
      rules,
      arith,
      take_at part (word spawned) (length bytes - 4),
      ap length is,
      length-append part (word spawned),
      length-word spawned,
    )

-- and there are none
pub none_before : (bytes : List ℕ) → length bytes < 4 → (rest : List ℕ)
    → before_count bytes ≢ magic ++ rest
none_before bytes short rest is =
    omega (
      arith,
      length-take-le (length bytes - 4) bytes (omega arith),
      ap length is,
      length-append magic rest,
    )

-- an image of a world, and four bytes
pub bounded : (bytes : List ℕ) (number : ℕ) (result : Result World WorldImageFault)
    → IfOk result (IsReadFrom bytes number) → IfOk result (λ w. least w.world + 4 ≤ length bytes)
bounded bytes number (Ok w) read = omega (
  arith,
  world_bounded (world_image w.world) (Ok w.world) refl read.has_image,
  length-append (world_image w.world) (word w.spawned),
  ap length read.image_is,
  length-word w.spawned,
)
bounded bytes number (Err fault) read = tt

-- what is read has what the world had
pub kept_by_image : (P : WorldValue → Type 0) (bytes : List ℕ) (number : ℕ)
    (result : Result World WorldImageFault)
    → ((w : WorldValue) (spawned : ℕ) → HasImage w → spawned < 2 ^ 32 → image w spawned ≡ bytes
    → (result ≡ Ok (record { world = w; number = number; spawned = spawned }))
    ⊎ (result ≡ Err Memory))
    → (w : WorldValue) (spawned : ℕ) → HasImage w → spawned < 2 ^ 32 → image w spawned ≡ bytes → P w
    → IfOk result (λ r. P r.world)
kept_by_image P bytes number it exact w spawned has fits is holds = search (rules, read_is)

-- what is exact refuses no image
pub refused_from_exact : (bytes : List ℕ) (number : ℕ) (result : Result World WorldImageFault)
    → ((w : WorldValue) (spawned : ℕ) → HasImage w → spawned < 2 ^ 32 → image w spawned ≡ bytes
    → (result ≡ Ok (record { world = w; number = number; spawned = spawned }))
    ⊎ (result ≡ Err Memory))
    → IfErr result (λ fault. fault ≢ Memory → (w : WorldValue) (spawned : ℕ) → HasImage w
    → spawned < 2 ^ 32
    → image w spawned ≢ bytes)
refused_from_exact bytes number it exact = search (rules, refused_is)
