use Rattle.ent_script.proofs.Common.{common_steps, members_end, left-parse_map, value_is}
use Rattle.ent_script.proofs.Common.{value-begin_array, value-begin_object, read_key-shorter, rules}
use Rattle.ent_script.proofs.Common.{◌≡◌, ◌-◌, ◌<◌, ◌∷◌, length, Some, None, refl, ◌∙◌, arith}
use Rattle.ent_script.proofs.Common.{after_end_array, read_key, value, token_of, no_members}
use Rattle.ent_script.proofs.Turns.{converted-array, converted-object, items_over, key_refused}
use Rattle.ent_script.proofs.Turns.{item_passed, item_stuck, member_passed, member_stuck}
use Rattle.ent_script.proofs.passing.+pass.Goals as goal

pub pass_items-loop-reader-preserved : goal.pass_items-loop-reader-preserved
pass_items-loop-reader-preserved t c =
    let l = c.loop-reader in
    let going : (after_end_array l.reader ≡ None)
    × (c.take_end_array.new.self ≡ l.reader) = grind arith in
    let less : length c.pass_value.new.reader < length l.reader =
    rw (← going.1) c.in_ok-pass_value.ensures.shorter in (
      l.invariant.0 - 1,
      omega (arith, l.invariant.1),
      search (rules, item_passed),
      omega (arith, l.invariant.3),
    )

pub pass_items-returns-in_err-pass_value-clause-value :
    goal.pass_items-returns-in_err-pass_value-clause-value
pass_items-returns-in_err-pass_value-clause-value t c = search (rules, item_stuck)

pub pass_items-returns-clause-value : goal.pass_items-returns-clause-value
pass_items-returns-clause-value t c = search (rules, items_over)

pub pass_members-loop-reader-init : goal.pass_members-loop-reader-init
pass_members-loop-reader-init t c =
    (length c.args.reader.now, omega arith, (no_members, refl), omega arith)

pub pass_members-returns-in_err-next_key-clause-value :
    goal.pass_members-returns-in_err-next_key-clause-value
pass_members-returns-in_err-next_key-clause-value t c = search (rules, key_refused)

pub pass_members-loop-reader-preserved : goal.pass_members-loop-reader-preserved
pass_members-loop-reader-preserved t c =
    let l = c.loop-reader in
    let k = c.in-Some.field-0.now in
    let key : read_key l.reader ≡ Some (Some k, c.next_key.new.self) = grind arith in
    let less = read_key-shorter l.reader (Some k) c.next_key.new.self key in
    let on = member_passed (value c.args.depth) l.invariant.0 k l.reader c.next_key.new.self _
    l.invariant.2.0 (omega (arith, l.invariant.1)) key c.in_ok-pass_value.ensures.value in (
      l.invariant.0 - 1,
      omega (arith, l.invariant.1),
      (_, l.invariant.2.1 ∙ on.1),
      omega (arith, l.invariant.3, less, c.in_ok-pass_value.ensures.shorter),
    )

pub pass_members-returns-in_err-pass_value-clause-value :
    goal.pass_members-returns-in_err-pass_value-clause-value
pass_members-returns-in_err-pass_value-clause-value t c = search (rules, member_stuck)

pub pass_members-returns-clause-value : goal.pass_members-returns-clause-value
pass_members-returns-clause-value t c = search (rules, members_end)

pub pass_rest-returns-then-depth-eq0-clause-value :
    goal.pass_rest-returns-then-depth-eq0-clause-value
unfolding value
pass_rest-returns-then-depth-eq0-clause-value t c = grind (arith, common_steps)

pub pass_rest-returns-then-depth-eq0-2-clause-value :
    goal.pass_rest-returns-then-depth-eq0-2-clause-value
unfolding value
pass_rest-returns-then-depth-eq0-2-clause-value t c = grind (arith, common_steps)

pub pass_rest-returns-in-String-clause-value : goal.pass_rest-returns-in-String-clause-value
pass_rest-returns-in-String-clause-value t c =
    rw (value_is c.args.depth (token_of c.args.token ∷ c.args.reader.now)) (grind arith)

pub pass_rest-returns-in-Some-clause-value : goal.pass_rest-returns-in-Some-clause-value
pass_rest-returns-in-Some-clause-value t c = search (rules, value_is)

pub pass_rest-returns-in-None-clause-value : goal.pass_rest-returns-in-None-clause-value
pass_rest-returns-in-None-clause-value t c = search (rules, value_is)

pub pass_rest-returns-in-EndObject-clause-value : goal.pass_rest-returns-in-EndObject-clause-value
pass_rest-returns-in-EndObject-clause-value t c =
    rw (value_is c.args.depth (token_of c.args.token ∷ c.args.reader.now)) (grind arith)

pub pass_rest-returns-else-depth-eq0-clause-value :
    goal.pass_rest-returns-else-depth-eq0-clause-value
pass_rest-returns-else-depth-eq0-clause-value t c =
    search (rules, value-begin_array, converted-array, left-parse_map)

pub pass_rest-returns-else-depth-eq0-2-clause-value :
    goal.pass_rest-returns-else-depth-eq0-2-clause-value
pass_rest-returns-else-depth-eq0-2-clause-value t c = search
    (rules, value-begin_object, converted-object, left-parse_map)

pub pass_value-returns-in_err-token-clause-value : goal.pass_value-returns-in_err-token-clause-value
pass_value-returns-in_err-token-clause-value t c = search (rules, value_is)
