-- What a request for handles of a block returns, and what it leaves.
use Rattle.std.specs.Prelude.{◌≡◌, ℕ, ◌-◌, ◌<◌, ◌≤◌, List, length, take}
use Rattle.std.specs.Prelude.{Result, IfOk, IfErr, OnOk, OnErr}
use Rattle.ent_handle.specs.Handle.{Handle}
use Rattle.ent_alloc.specs.Sequential.{listed}
use Rattle.ent_alloc.specs.declared.refused.Refused.{Refused}
use Rattle.ent_alloc.specs.declared.refused.Refused.TheVariants.{Space}
use Rattle.ent_blocks.specs.Blocks.{Block, Blocks, Reserver, IsOf, rest_of, after_use, after_refusal}

-- the reserver is one of those that came with the phase
abbrev pub IsOfPhase : Blocks → Reserver → Type 0
IsOfPhase phase r = IsOf phase r.block

-- how many handles of a block are left
abbrev pub left_of : Block → ℕ
left_of b = b.size - b.used

-- The reply to a request for n handles of a block: the next ones, listed as every reply lists them.
-- If fewer are left, there are none, and the reserver remembers how many were requested.
pub record IsDrawn (phase : Blocks) (before after : Reserver) (n : ℕ)
    (reply : Result (List Handle) Refused) : Type 0 where
  pub given : IfOk reply (λ handles. handles
      ≡ listed phase.start.made (take n (rest_of phase.start.pool before.block)))
  pub number : IfOk reply (λ handles. length handles ≡ n)
  pub used : OnOk reply (after ≡ record before { block = after_use before.block n })
  pub refused : IfErr reply (λ why.
      (why ≡ Space n (left_of before.block)) × (left_of before.block < n))
  pub within : OnErr reply (before.block.used ≤ before.block.size)
  pub remembers : OnErr reply (after ≡ after_refusal before n)
