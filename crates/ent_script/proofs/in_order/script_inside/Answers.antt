use Rattle.ent_script.proofs.Common.{read_key-shorter, ◌≡◌, ◌-◌, length, Some, refl, sym, ap, ◌∙◌}
use Rattle.ent_script.proofs.Common.{arith, rules, read_key, value, no_members, put, members_view}
use Rattle.ent_script.proofs.Common.{the_lemmas, codes, array, members_end, converted, of_members}
use Rattle.ent_script.proofs.Common.{bytes_eq-Decides}
use Rattle.ent_script.proofs.Turns.{member_read, if_ok}
use Rattle.ent_script.proofs.Cuts.{members_view-insert_entry}
use Rattle.ent_script.proofs.Puts.{found_here, found_before, get_member-put}
use Rattle.ent_script.proofs.Tops.{heads-put, read_there}
use Rattle.ent_script.proofs.in_order.script_inside.Goals as goal

pub members-init : goal.members-init
members-init c = (
  length c.args.reader.now,
  omega arith,
  (no_members, refl, ap members_view c.new-found.ensures.empty, refl),
  tt,
)

pub returns-then-eq : goal.returns-then-eq
returns-then-eq c =
    let l = c.members in
    let k = codes "frames" in
    let old = l.invariant.2.0 in
    let same : c.in-Some.name.now ≡ k = (bytes_eq-Decides _ _).0 (sym c.if-eq.ensures) in
    let named : read_key l.reader ≡ Some (Some k, c.next_key.new.self) = grind arith in
    let less = read_key-shorter _ _ _ named in
    let front = c.in_ok-front.ensures in
    if_ok c.script_behind.result c.script_behind.ensures
    (λ script is. (
      put k (array is.0) old,
      l.invariant.2.1 ∙ member_read (value c.args.depth) old _ k _ _ _ _
          (omega (arith, l.invariant.1, less)) named is.2
          ∙ ap (converted (λ ms. of_members ms (put k (array is.0) old)))
          (members_end (value c.args.depth) _ _ _ (omega (arith, l.invariant.1, less, is.3)) is.4),
      is.5 _
          (record {
            heading = front.heading old is.0 l.invariant.2.2;
            components = rw front.components (rw (found_before (codes "components") k (array is.0) old
                refl) l.invariant.2.3);
          }) (get_member-put k (array is.0) old),
    ))

pub members-preserved-then-eq-2 : goal.members-preserved-then-eq-2
members-preserved-then-eq-2 c =
    let l = c.members in
    let k = c.in-Some.name.now in
    let done = c.in_ok-components.ensures in
    let named : read_key l.reader ≡ Some (Some k, c.next_key.new.self) = grind arith in
    let less = read_key-shorter _ _ _ named in
    let lesser = done.shorter in
    let here = sym c.if-eq-2.ensures in
    let was = read_there _ _ done.passes done.value in (
      l.invariant.0 - 1,
      omega (arith, l.invariant.1, less, lesser),
      (
        put k _ _,
        l.invariant.2.1 ∙ member_read _ _ _ k _ _ _ _ (omega (arith, l.invariant.1, less)) named
            was.1,
        search (rules, members_view-insert_entry, heads-put, the_lemmas, here),
        rw (found_here _ k _ _ here) was.2.0,
      ),
      done.few,
    )

pub members-preserved : goal.members-preserved
members-preserved c =
    let l = c.members in
    let k = c.in-Some.name.now in
    let done = c.in_ok-member.ensures in
    let named : read_key l.reader ≡ Some (Some k, c.next_key.new.self) = grind arith in
    let less = read_key-shorter _ _ _ named in
    let other = sym c.if-eq-2.ensures in (
      l.invariant.0 - 1,
      omega (arith, l.invariant.1, less, done.shorter),
      (
        put k _ _,
        l.invariant.2.1 ∙ member_read _ _ _ k _ _ _ _ (omega (arith, l.invariant.1, less)) named
            done.ok.1,
        search (rules, members_view-insert_entry, heads-put, other),
        rw (found_before _ k _ _ other) l.invariant.2.3,
      ),
      l.invariant.3,
    )
