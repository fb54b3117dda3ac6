use Rattle.ent_storage.proofs.Common.{◌<◌, ap, sym, ◌∙◌, subst, arith, ℤ, Option, IfSome, w64}
use Rattle.ent_storage.proofs.Common.{FitsSigned, Store, value_of}
use Rattle.ent_storage.proofs.ImageValues.{none_next, read_more, free_more, fits_more}
use Rattle.ent_storage.proofs.image.read_values.Goals as goal

pub returns-in_default-clause-none : goal.returns-in_default-clause-none
returns-in_default-clause-none c value rest fits same =
    let loop = c.loop-number.invariant in
    none_next _ value _ _ _ _ rest c.loop-number-test.true (λ id v at. (loop.fits id v at).1) fits
    loop.bytes
    c.in_default.ensures.none same

pub returns-in_err-give-clause-fits : goal.returns-in_err-give-clause-fits
returns-in_err-give-clause-fits c id v at = c.loop-number.invariant.fits id v
    (ap (λ (s : Store). value_of s.entities c.args.handle id) (sym c.in_err-give.ensures.err) ∙ at)

pub loop-number-preserved : goal.loop-number-preserved
loop-number-preserved c =
    let loop = c.loop-number.invariant in
    let here = c.in_ok-give.ensures.here in
    let others = c.in_ok-give.ensures.others in
    record {
      bytes = read_more _ _ _ _ here others _ _ _ loop.bytes c.in-Some.ensures.found;
      free = free_more _ _ _ _ here others loop.free;
      fits =
          fits_more _ _ _ _ here others (λ k v. (k < 256) × FitsSigned w64 v) loop.fits
          (λ v is. (
            omega arith,
            subst (λ (o : Option ℤ). IfSome o (FitsSigned w64)) is c.in-Some.ensures.fits,
          ));
      birth = c.in_ok-give.ensures.birth ∙ loop.birth;
      others = λ h apart. c.in_ok-give.ensures.rest h apart ∙ loop.others h apart;
      places = c.in_ok-give.ensures.places ∙ loop.places;
      spare = c.in_ok-give.ensures.spare ∙ loop.spare;
    }
