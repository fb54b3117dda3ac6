use Rattle.ent_script.proofs.Common.{◌≡◌, ◌-◌, Some, None, codes, sym, ◌∙◌, refl, arith, read_key}
use Rattle.ent_script.proofs.Common.{value, no_members, put}
use Rattle.ent_script.proofs.Finding.{next_member, last_member, no_key, member_over}
use Rattle.ent_script.proofs.Finding.{member_not_over}
use Rattle.ent_script.proofs.Listing.{streamed_list}
use Rattle.ent_script.proofs.Puts.{found_here, found_before}
use Rattle.ent_script.proofs.Shares.{whole_frames}
use Rattle.ent_script.proofs.Common.{ap, rules, Share}
use Rattle.ent_script.proofs.reading.frames_inside.Goals as goal

pub members-init : goal.members-init
members-init c n ms rest e = (n, no_members, e, refl)

pub returns-in_err-key : goal.returns-in_err-key
returns-in_err-key c n ms rest e =
    let at = c.members.invariant n ms rest e in no_key _ _ _ _ _ ms c.in_err-key.ensures.value at.2

pub members-preserved-else-ran_out : goal.members-preserved-else-ran_out
members-preserved-else-ran_out c n ms rest e =
    let k = c.in-Some.key.now in
    let at = c.members.invariant n ms rest e in
    let named : read_key c.members.reader ≡ Some (Some k, c.next_key.new.self) = grind arith in
    let next = next_member (value c.args.depth) at.0 k _ _ rest at.1 ms named at.2 in
    let whole = whole_frames c.all.result (ap Share.first c.all.ensures)
    (search (rules, c.all.ensures)) (search (rules, arith, c.all.ensures)) c.args.format
    c.args.components.now (Some next.0) in
    let read = streamed_list _ _ _ _ (sym c.ran_out.ensures ∙ c.if-ran_out.false)
    (rw whole at (c.frames-found.ensures.value next.0 next.1 next.2)) in
    let here = found_here (codes "frames") k next.0 at.1 (sym c.if-eq.ensures) in
    (at.0 - 1, put k next.0 at.1, rw read.1 next.3, rw here read.0)

pub members-preserved : goal.members-preserved
members-preserved c n ms rest e =
    let at = c.members.invariant n ms rest e in
    let k = c.in-Some.key.now in
    let named : read_key c.members.reader ≡ Some (Some k, c.next_key.new.self) = grind arith in
    let next = member_over _ _ k _ _ _ _ ms named at.2 _ c.in_ok-pass_value.ensures.value in (
      at.0 - 1,
      put k next.0 at.1,
      next.1,
      rw (found_before (codes "frames") k next.0 at.1 (sym c.if-eq.ensures)) at.3,
    )

pub returns-in_err-pass_value : goal.returns-in_err-pass_value
returns-in_err-pass_value c n ms rest e =
    let named : read_key c.members.reader ≡ Some (Some c.in-Some.key.now, c.next_key.new.self) =
    grind arith in
    member_not_over _ _ _ _ _ _ _ ms named (c.members.invariant n ms rest e).2
    c.in_err-pass_value.ensures.value

pub returns : goal.returns
returns c n ms rest e =
    let at = c.members.invariant n ms rest e in
    let over : read_key c.members.reader ≡ Some (None, c.next_key.new.self) = grind arith in
    rw (last_member (value c.args.depth) _ _ _ rest at.1 ms over at.2).0 at.3
