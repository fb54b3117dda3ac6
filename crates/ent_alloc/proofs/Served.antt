-- Requests that were made one after the other.
use Rattle.std.proofs.Common.{◌≡◌, refl, sym, List, [], ◌∷◌, ◌++◌}
use Rattle.ent_alloc.specs.Serving.{Request, Replying, AreServed}

module _ {R : Type 0} (may : Replying R) where
  pub served_then : (a b c : R) (first second : List Request) → AreServed may a first b
      → AreServed may b second c → AreServed may a (first ++ second) c
  served_then a b c [] second one two = rw one two
  served_then a b c (request ∷ first) second one two =
      (one.0, one.1, served_then one.0 b c first second one.2 two)

  pub served_one : (a b : R) (request : Request) → may a b request.0 request.1
      → AreServed may a (request ∷ []) b
  served_one a b request one = (b, one, refl)

  pub served_none : (a b : R) → b ≡ a → AreServed may a [] b
  served_none a b same = sym same

  pub one_served : {a b : R} {request : Request} → AreServed may a (request ∷ []) b
      → may a b request.0 request.1
  one_served served = rw served.2 at served.1

  -- the first requests, and then the others
  pub served_parts : (a c : R) (first second : List Request) → AreServed may a (first ++ second) c
      → (b : R) × AreServed may a first b × AreServed may b second c
  served_parts a c [] second served = (a, refl, served)
  served_parts a c (request ∷ first) second served =
      let rest = served_parts served.0 c first second served.2 in
      (rest.0, (served.0, served.1, rest.1), rest.2)
