use Rattle.ent_script.proofs.Common.{◌≡◌, ◌-◌, Some, arith, read_key-shorter, read_key, value, put}
use Rattle.ent_script.proofs.Common.{data_of, ap, ◌∙◌, left, length, no_members, refl}
use Rattle.ent_script.proofs.Finding.{next_member, last_member, no_key}
use Rattle.ent_script.proofs.Listing.{cut_read}
use Rattle.ent_script.proofs.Turns.{member_read}
use Rattle.ent_script.proofs.fields.read_fields.Goals as goal

pub members-init : goal.members-init
members-init c = record {
  no_longer = omega arith;
  found = λ n ms rest e. (n, no_members, e, c.none-fields.ensures);
  passed = (length c.args.reader.now, no_members, omega arith, refl);
}

pub returns-in_err-key-clause-value : goal.returns-in_err-key-clause-value
returns-in_err-key-clause-value c n ms rest e =
    let at = c.members.invariant.found n ms rest e in
    no_key _ _ _ _ _ ms c.in_err-key.ensures.value at.2

pub members-preserved : goal.members-preserved
members-preserved c =
    let l = c.members in
    let named : read_key l.reader ≡ Some (Some c.in-Some.key.now, c.next_key.new.self) =
    grind arith in
    let less = read_key-shorter _ _ _ named in
    record {
      no_longer = omega (arith, less, c.in_ok-part.ensures.shorter, l.invariant.no_longer);
      found = λ n ms rest e.
          let at = l.invariant.found n ms rest e in
          let next = next_member _ _ _ _ _ _ _ ms named at.2 in
          let done = c.in_ok-part.ensures.ok in
          let read =
          cut_read (value c.args.depth) _ _ _ _ done.0 (data_of c.in_ok-part.part) done.1 done.2
          next.2 in
          (at.0 - 1, put _ next.0 at.1, rw read.1 next.3, c.put.ensures next.0 at.1 read.0 at.3);
      passed = (
        l.invariant.passed.0 - 1,
        put c.in-Some.key.now c.in_ok-part.ensures.ok.0 l.invariant.passed.1,
        omega (arith, l.invariant.passed.2, less, c.in_ok-part.ensures.shorter),
        l.invariant.passed.3 ∙ ap left (member_read (value c.args.depth) _ _ _ _ _ _ _
            (omega (arith, l.invariant.passed.2, less)) named c.in_ok-part.ensures.ok.1),
      );
    }

pub returns-clause-value : goal.returns-clause-value
returns-clause-value c n ms rest e =
    let at = c.members.invariant.found n ms rest e in
    let last = last_member (value c.args.depth) _ _ _ rest at.1 ms (grind arith) at.2 in
    (rw last.0 at.3, last.1)
