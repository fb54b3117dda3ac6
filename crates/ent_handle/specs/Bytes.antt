-- Numbers in bytes, the lowest first.
use Rattle.std.specs.Prelude.{ℕ, List}
use Rattle.std.specs.Int.{w32, w64, to_le_bytes}

-- a number below 2^32 in four bytes
unfoldable pub word : ℕ → List ℕ
word n = to_le_bytes w32 n

-- a number below 2^64 in eight
unfoldable pub long : ℕ → List ℕ
long n = to_le_bytes w64 n
