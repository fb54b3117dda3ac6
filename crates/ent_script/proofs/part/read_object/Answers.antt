use Rattle.ent_script.proofs.Common.{read_key-shorter, ◌≡◌, ◌-◌, length, Some, refl, ◌∙◌, arith}
use Rattle.ent_script.proofs.Common.{rules, read_key, no_members, put}
use Rattle.ent_script.proofs.Turns.{member_read}
use Rattle.ent_script.proofs.Cuts.{cut_members-put}
use Rattle.ent_script.proofs.part.read_object.Goals as goal

pub members-init : goal.members-init
members-init c = (length c.args.reader.now, omega arith, (no_members, refl, refl), omega arith)

pub members-preserved : goal.members-preserved
members-preserved c =
    let l = c.members in
    let done = c.in_ok-leaf.ensures in
    let named : read_key l.reader ≡ Some (Some c.in-Some.name.now, c.next_key.new.self) =
    grind arith in
    let less = read_key-shorter _ _ _ named in
    let on =
    l.invariant.2.1 ∙ member_read _ _ _ _ _ _ _ _ (omega (arith, l.invariant.1, less)) named
    done.ok.1 in (
      l.invariant.0 - 1,
      omega (arith, l.invariant.1, less, done.shorter),
      (put _ done.ok.0 l.invariant.2.0, on, search (rules, cut_members-put)),
      omega (arith, l.invariant.3, less, done.shorter),
    )
