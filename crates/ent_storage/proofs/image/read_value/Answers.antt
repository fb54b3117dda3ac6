use Rattle.ent_storage.proofs.Common.{rules, ◌≡◌, ◌≢◌, ◌<◌, ◌++◌, ℕ, ℤ, List, Option, None, Some}
use Rattle.ent_storage.proofs.Common.{◌∷◌, length, ap, ◌∙◌, arith, get_or, w64, cast_unsigned}
use Rattle.ent_storage.proofs.Common.{length-append, value_bytes}
use Rattle.ent_handle.proofs.Spelled.{length-long}
use Rattle.ent_storage.proofs.image.read_value.Goals as goal

-- a value begins with a 0 or a 1, and nine bytes have one
other_flag : (flag : ℕ) (bytes : List ℕ) (value : Option ℤ) (rest : List ℕ) → flag ≢ 0 → flag ≢ 1
    → flag ∷ bytes ≢ value_bytes value ++ rest
other_flag flag bytes value rest not_0 not_1 same = search rules

too_short : (flag : ℕ) (bytes : List ℕ) (value : Option ℤ) (rest : List ℕ) → flag ≢ 0
    → length bytes < 8 → flag ∷ bytes ≢ value_bytes value ++ rest
too_short flag bytes None rest not_0 short same = not_0 (ap (λ xs. get_or xs 0 0) same)
too_short flag bytes (Some v) rest not_0 short same = omega
    (arith, length-long (cast_unsigned w64 v), simp length-append at (ap length same))

pub returns-then-flag-ne1-clause-none : goal.returns-then-flag-ne1-clause-none
returns-then-flag-ne1-clause-none c value rest same =
    let whole : c.in_ok-flag.flag.now ∷ c.in_ok-flag.rest.now ≡ c.args.bytes.now = search rules in
    other_flag _ _ value rest c.if-flag-eq0.false c.if-flag-ne1.true (whole ∙ same)

pub returns-then-rest-lt8-clause-none : goal.returns-then-rest-lt8-clause-none
returns-then-rest-lt8-clause-none c value rest same =
    let whole : c.in_ok-flag.flag.now ∷ c.in_ok-flag.rest.now ≡ c.args.bytes.now = search rules in
    too_short _ _ value rest c.if-flag-eq0.false c.if-rest-lt8.true (whole ∙ same)
