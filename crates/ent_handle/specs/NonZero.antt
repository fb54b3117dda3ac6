-- For `inverse` in `impl Model for Handle`: the word of a handle is a number with a proof that it
-- isn't 0.
use Rattle.std.specs.Prelude.{◌≡◌, ℕ, ◌+◌, ◌-◌, ◌<◌}
use Rattle.std.proofs.Common.{arith}
use Rattle.std.proofs.Math.Bridge.{le_prop}
use mathlib.Core.HLevel.{is_prop→PathP}
use mathlib.Core.Path.{PathP}
use Rattle.ent_handle.specs.Handle.{Handle, bits, handle_of_bits}

-- The bits of a handle are never 0. But `inverse` is asked of any two numbers, so 0 becomes 1.
abbrev pub word_of : Handle → ℕ
word_of h = bits h + (1 - bits h)

pub word_of-positive : (h : Handle) → 0 < word_of h
word_of-positive h = omega arith

-- a word that was seen as a handle is that handle's
pub word_of-handle_of_bits : (n : ℕ) → 0 < n → word_of (handle_of_bits n) ≡ n
word_of-handle_of_bits n some = omega arith

-- the same word has the same proof
pub same_proof : {a b : ℕ} (same : a ≡ b) (p : 0 < a) (q : 0 < b) → PathP (λ i. 0 < same i) p q
same_proof same p q = is_prop→PathP (λ i. 0 < same i) (λ i. le_prop) p q
