use Rattle.ent_script.proofs.Common.{read_key-shorter, ◌≡◌, ◌-◌, length, Some, refl, sym, ap, ◌∙◌}
use Rattle.ent_script.proofs.Common.{arith, rules, read_key, value, no_members, put, members_view}
use Rattle.ent_script.proofs.Common.{the_lemmas}
use Rattle.ent_script.proofs.Turns.{member_read}
use Rattle.ent_script.proofs.Cuts.{members_view-insert_entry}
use Rattle.ent_script.proofs.Puts.{found_here, found_before}
use Rattle.ent_script.proofs.Tops.{heads-put, read_there}
use Rattle.ent_script.proofs.top.read_members.Goals as goal

pub members-init : goal.members-init
members-init c = (
  length c.args.reader.now,
  omega arith,
  (no_members, refl, ap members_view c.new-found.ensures.empty, refl),
  tt,
)

pub members-preserved-then-eq : goal.members-preserved-then-eq
members-preserved-then-eq c =
    let l = c.members in
    let k = c.in-Some.name.now in
    let done = c.in_ok-components.ensures in
    let named : read_key l.reader ≡ Some (Some k, c.next_key.new.self) = grind arith in
    let less = read_key-shorter _ _ _ named in
    let lesser = done.shorter in
    let here = sym c.if-eq.ensures in
    let was = read_there _ _ done.passes done.value in (
      l.invariant.0 - 1,
      omega (arith, l.invariant.1, less, lesser),
      (
        put k _ _,
        l.invariant.2.1 ∙ member_read _ _ _ k _ _ _ _ (omega (arith, l.invariant.1, less)) named
            was.1,
        search (rules, members_view-insert_entry, heads-put, the_lemmas, here),
        rw (found_here _ k _ _ here) was.2.0,
      ),
      done.few,
    )

pub members-preserved : goal.members-preserved
members-preserved c =
    let l = c.members in
    let k = c.in-Some.name.now in
    let done = c.in_ok-member.ensures in
    let named : read_key l.reader ≡ Some (Some k, c.next_key.new.self) = grind arith in
    let less = read_key-shorter _ _ _ named in
    let other = sym c.if-eq.ensures in (
      l.invariant.0 - 1,
      omega (arith, l.invariant.1, less, done.shorter),
      (
        put k _ _,
        l.invariant.2.1 ∙ member_read _ _ _ k _ _ _ _ (omega (arith, l.invariant.1, less)) named
            done.ok.1,
        search (rules, members_view-insert_entry, heads-put, other),
        rw (found_before _ k _ _ other) l.invariant.2.3,
      ),
      l.invariant.3,
    )
