use Rattle.ent_script.proofs.Common.{rules, ◌≡◌, ℕ, ◌+◌, ◌<◌, List, length, Bool, true, false, refl}
use Rattle.ent_script.proofs.Common.{[], None, arith, after_end_array, value, Token, Items, list_of}
use Rattle.ent_script.proofs.Common.{PassesAtMost, Ok}
use Rattle.ent_script.proofs.Finding.{last_item, item_over}
use Rattle.ent_script.proofs.Turns.{goes_on, goes_stuck, goes_over}
use Rattle.ent_script.proofs.streaming.passes_at_most.Goals as goal

few : (fits : Bool) (all room most later : ℕ) → room ≡ 0 → 0 < later
    → (fits ≡ true → all + room ≡ most + later) → (fits ≡ false → most < all) → most < all
few true all room most later none some fitting full = omega (arith, none, some, fitting refl)
few false all room most later none some fitting full = full refl

verdict : (fits : Bool) (most room later : ℕ) (left : List Token) (ds : Items) (rest : List Token)
    → later ≡ 0 → (fits ≡ true → length (list_of ds) + room ≡ most + later)
    → (fits ≡ false → most < length (list_of ds)) → left ≡ rest
    → PassesAtMost most (Ok fits) left ds rest
verdict true most room later left ds rest none fitting full same =
    (omega (arith, none, fitting refl), same)
verdict false most room later left ds rest none fitting full same = (full refl, same)

pub loop-reader-preserved-then-room-eq0 : goal.loop-reader-preserved-then-room-eq0
loop-reader-preserved-then-room-eq0 c =
    let l = c.loop-reader in
    let going : (after_end_array l.reader ≡ None)
    × (c.take_end_array.new.self ≡ l.reader) = grind arith in
    let less : length c.pass_value.new.reader < length l.reader =
    rw (← going.1) c.in_ok-pass_value.ensures.shorter in
    record {
      counted = λ n ds rest e. search (rules, item_over, few);
      same =
          λ n h. goes_on (value c.args.depth) _ l.reader c.pass_value.new.reader
          (l.invariant.same n h) going.0 (rw (← going.1) c.in_ok-pass_value.ensures.value) less;
      shorter = omega (arith, less, l.invariant.shorter);
    }

pub loop-reader-preserved : goal.loop-reader-preserved
loop-reader-preserved c =
    let l = c.loop-reader in
    let going : (after_end_array l.reader ≡ None)
    × (c.take_end_array.new.self ≡ l.reader) = grind arith in
    let less : length c.pass_value.new.reader < length l.reader =
    rw (← going.1) c.in_ok-pass_value.ensures.shorter in
    record {
      counted = λ n ds rest e. search (rules, item_over);
      same =
          λ n h. goes_on (value c.args.depth) _ l.reader c.pass_value.new.reader
          (l.invariant.same n h) going.0 (rw (← going.1) c.in_ok-pass_value.ensures.value) less;
      shorter = omega (arith, less, l.invariant.shorter);
    }

pub returns-clause-value : goal.returns-clause-value
returns-clause-value c n ds rest e = search (rules, last_item, verdict)

pub returns-in_err-pass_value-clause-passes : goal.returns-in_err-pass_value-clause-passes
returns-in_err-pass_value-clause-passes c n h =
    let l = c.loop-reader in
    let going : (after_end_array l.reader ≡ None)
    × (c.take_end_array.new.self ≡ l.reader) = grind arith in
    let stuck =
    goes_stuck _ _ _ [] (l.invariant.same n h) going.0
    (rw (← going.1) c.in_err-pass_value.ensures.value) in
    search (rules, stuck)

pub returns-clause-passes : goal.returns-clause-passes
returns-clause-passes c n h =
    goes_over (value c.args.depth) _ _ _ (c.loop-reader.invariant.same n h) (grind arith)
