use Rattle.ent_storage.proofs.Common.{rules, ◌≡◌, sym, ap, ◌∙◌, arith, length, subst, is_some}
use Rattle.ent_storage.proofs.Common.{false, inl, inr, refl, false≢true, get_or_default}
use Rattle.ent_storage.proofs.Common.{nil_from_length, length-take-le, common_steps, handle_cmp}
use Rattle.ent_storage.proofs.Common.{EntityMap, IsNoEntity, HasFault, fin_get, fin_get-empty}
use Rattle.ent_storage.proofs.Common.{NoEntity}
use Rattle.ent_storage.proofs.ImageRead.{damaged, read_more, places_more, first_read, all_first}
use Rattle.ent_storage.proofs.ImageRead.{are_stored, is_read, nothing_left, width_told}
use Rattle.ent_storage.proofs.ImageRead.{width_placed, too_wide}
use Rattle.ent_storage.proofs.rows.Rows.read_image.Goals as goal

pub loop-handle-init : goal.loop-handle-init
loop-handle-init c =
    let none = c.in_ok-reserve.ensures.entities ∙ c.new-storage.ensures.entities in
    record {
      read = record {
        spelled = c.read_word-width.ensures.bytes;
        each = λ h is. absurd (omega (arith, is.1));
        beyond = λ h is. absurd (omega (arith, is.1));
        only = λ h is. absurd (false≢true (sym (ap (λ (m : EntityMap). is_some (fin_get m h)) none
            ∙ ap is_some (fin_get-empty handle_cmp h)) ∙ is));
      };
      places = c.in_ok-reserve.ensures.places ∙ c.new-storage.ensures.places;
      spare = omega (arith, c.in_ok-reserve.ensures.ok);
    }

pub returns-in_default-clause-refused : goal.returns-in_default-clause-refused
returns-in_default-clause-refused c other m stored same =
    let none = rw c.in_default.is at c.in_ok-left.ensures.none in
    damaged _ _ c.loop-handle.invariant.read _ c.loop-handle-test.true c.handle-item.is m
    (search rules) none stored
    same

pub loop-handle-preserved : goal.loop-handle-preserved
loop-handle-preserved c =
    let loop = c.loop-handle.invariant in
    let lt = c.loop-handle-test.true in
    let told = rw c.in-Some.is at c.in_ok-left.ensures in
    record {
      read =
          read_more _ _ loop.read _ lt c.handle-item.is c.requires.apart _ c.in_ok-left.ensures.rest
          _ told.found
          told.stored told.beyond;
      places = places_more _ _ loop.read _ lt c.handle-item.is _ _ loop.places told.places;
      spare = omega (arith, told.spare);
    }

pub returns-then-not-is_empty-clause-refused : goal.returns-then-not-is_empty-clause-refused
returns-then-not-is_empty-clause-refused c other m stored same =
    let none =
    nothing_left _ _ c.loop-handle-test.false c.loop-handle.invariant.read m (search rules)
    stored same in
    let zeros = ap length none in
    grind (arith, common_steps, zeros, c.is_empty.ensures, c.if-not-is_empty.true)

pub returns-then-width-clause-refused : goal.returns-then-width-clause-refused
returns-then-width-clause-refused c other m stored same =
    c.if-width.true
    (c.width.ensures.value ∙ width_placed _ _ _ c.loop-handle-test.false
    c.loop-handle.invariant.places
    ∙ width_told _ _ c.loop-handle-test.false c.loop-handle.invariant.read m (search rules) stored
    same)

pub returns-clause-stored : goal.returns-clause-stored
returns-clause-stored c = are_stored _ _ c.loop-handle-test.false c.loop-handle.invariant.read

pub returns-clause-exact : goal.returns-clause-exact
returns-clause-exact c m stored same =
    is_read _ _ c.loop-handle-test.false c.loop-handle.invariant.read m (search rules) stored same

-- ---- the first fault

pub returns-then-bytes-lt4-clause-fault : goal.returns-then-bytes-lt4-clause-fault
returns-then-bytes-lt4-clause-fault c other = inl c.if-bytes-lt4.true

pub returns-then-width-gt256-clause-fault : goal.returns-then-width-gt256-clause-fault
returns-then-width-gt256-clause-fault c other =
    inl (
      c.if-width-gt256.true,
      search rules,
      (c.read_word-width.result.1.now, c.read_word-width.ensures.bytes),
    )

pub returns-in_default-clause-fault : goal.returns-in_default-clause-fault
returns-in_default-clause-fault c other =
    let loop = c.loop-handle.invariant in
    let hs = c.args.handles.now in
    let i = c.loop-handle.handle-index in
    let lt = c.loop-handle-test.true in
    let none = rw c.in_default.is at c.in_ok-left.ensures.none in
    let at : c.len-place.result ≡ i = c.len-place.ensures.places ∙ ap length loop.places
    ∙ length-take-le _ _ (omega arith) in
    subst (λ place. HasFault hs c.args.bytes.now (NoEntity place)) (sym at) (
      lt,
      (
        first_read _ _ c.if-width-gt256.false loop.read,
        λ d. subst (IsNoEntity c.read_word-width.result.0 c.loop-handle.rest.now)
            (c.handle-item.is ∙ get_or_default _ _ _ d lt) none,
      ),
    )

pub returns-then-not-is_empty-clause-fault : goal.returns-then-not-is_empty-clause-fault
returns-then-not-is_empty-clause-fault c other = inr (
  all_first _ _ c.loop-handle-test.false c.loop-handle.invariant.read c.if-width-gt256.false,
  λ none. let zeros : length c.loop-handle.rest.now ≡ 0 = ap length none in grind
      (arith, common_steps, zeros, c.is_empty.ensures, c.if-not-is_empty.true),
)

pub returns-then-width-clause-fault : goal.returns-then-width-clause-fault
returns-then-width-clause-fault c other = inr (
  all_first _ _ c.loop-handle-test.false c.loop-handle.invariant.read c.if-width-gt256.false,
  nil_from_length _ (grind (arith, common_steps, c.is_empty.ensures, c.if-not-is_empty.false)),
  refl,
  λ same. c.if-width.true (c.width.ensures.value ∙ width_placed _ _ _ c.loop-handle-test.false
      c.loop-handle.invariant.places ∙ same),
)

pub returns-then-width-gt256-clause-refused : goal.returns-then-width-gt256-clause-refused
returns-then-width-gt256-clause-refused c other m stored same = search (rules, too_wide)
