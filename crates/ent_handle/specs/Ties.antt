-- Two comparisons, one after the other, tie only if both tie.
use Rattle.std.specs.Prelude.{◌≡◌, refl}
use Rattle.std.specs.declared.cmp.Ordering.{Ordering}
use Rattle.std.specs.declared.cmp.Ordering.TheVariants.{Less, Equal, Greater}
use Rattle.std.specs.Ordering.{ordering_then}

pub both_tie : (first second : Ordering)
    → ordering_then first second ≡ Equal → (first ≡ Equal) × (second ≡ Equal)
both_tie Less second e = absurd cc
both_tie Equal second e = (refl, e)
both_tie Greater second e = absurd cc
