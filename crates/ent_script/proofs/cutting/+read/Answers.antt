use Rattle.ent_script.proofs.Common.{common_steps, members_end, value_is, value-begin_object}
use Rattle.ent_script.proofs.Common.{read_key-shorter, ◌≡◌, ◌-◌, ◌∷◌, length, Some, refl, ap, ◌∙◌}
use Rattle.ent_script.proofs.Common.{arith, rules, suc, Token, read_key, value, token_of, null}
use Rattle.ent_script.proofs.Common.{boolean, number, string, object, no_members, put, number_view}
use Rattle.ent_script.proofs.Common.{members_view, the_lemmas, cut, cut_members}
use Rattle.ent_script.proofs.Turns.{converted-object, member_read, member_refused, key_refused}
use Rattle.ent_script.proofs.Cuts.{view-Array, view-Object, members_view-insert_entry}
use Rattle.ent_script.proofs.Cuts.{cut_members-put}
use Rattle.ent_script.proofs.Openings.{opened_array, opened_object, passed_nested}
use Rattle.ent_script.proofs.cutting.+read.Goals as goal

pub read_cut-returns-in_err-token-clause-json : goal.read_cut-returns-in_err-token-clause-json
read_cut-returns-in_err-token-clause-json t c refused = search (rules, value_is)

pub read_cut-returns-then-depth-eq0-clause-json : goal.read_cut-returns-then-depth-eq0-clause-json
unfolding value
read_cut-returns-then-depth-eq0-clause-json t c never = grind (arith, common_steps)

pub read_cut-returns-in_err-cut_members-in-BeginObject-clause-json :
    goal.read_cut-returns-in_err-cut_members-in-BeginObject-clause-json
read_cut-returns-in_err-cut_members-in-BeginObject-clause-json t c refused = search
    (rules, value-begin_object, converted-object)

pub read_cut-returns-in_ok-from_str-in-String-clause-ok :
    goal.read_cut-returns-in_ok-from_str-in-String-clause-ok
read_cut-returns-in_ok-from_str-in-String-clause-ok t c =
    (string c.in-String.text.now, search (rules, value_is), search (rules, the_lemmas))

pub read_cut-returns-in-Bool-clause-ok : goal.read_cut-returns-in-Bool-clause-ok
read_cut-returns-in-Bool-clause-ok t c =
    (boolean c.in-Bool.b, search (rules, value_is), search (rules, the_lemmas))

pub read_cut-returns-in-Null-clause-ok : goal.read_cut-returns-in-Null-clause-ok
read_cut-returns-in-Null-clause-ok t c =
    (null, search (rules, value_is), search (rules, the_lemmas))

pub read_cut-returns-in-Some-clause-ok : goal.read_cut-returns-in-Some-clause-ok
read_cut-returns-in-Some-clause-ok t c =
    (number (number_view c.in-Some.number), search (rules, value_is), search (rules, the_lemmas))

pub read_cut-returns-in-None-clause-json : goal.read_cut-returns-in-None-clause-json
read_cut-returns-in-None-clause-json t c refused = search (rules, value_is)

pub read_cut-returns-in-EndObject-clause-json : goal.read_cut-returns-in-EndObject-clause-json
read_cut-returns-in-EndObject-clause-json t c refused = search (rules, value_is)

pub read_cut-returns-in_ok-cut_members-in-BeginObject-clause-ok :
    goal.read_cut-returns-in_ok-cut_members-in-BeginObject-clause-ok
read_cut-returns-in_ok-cut_members-in-BeginObject-clause-ok t c =
    let is : c.args.reader.now ≡ Token.begin_object ∷ c.next.new.self = grind arith in
    let found = c.in_ok-cut_members-in-BeginObject in
    let ms = found.ensures.ok.0 in
    let deeper : c.args.levels ≡ suc (c.args.levels - 1) = omega arith in
    let seen : cut c.args.levels (object ms) ≡ object (cut_members (c.args.levels - 1) ms) =
    ap (λ l. cut l (object ms))
    deeper in (
      object ms,
      search (rules, is, value-begin_object, converted-object),
      search (rules, seen, view-Object),
    )

pub cut_members-members-init : goal.cut_members-members-init
cut_members-members-init t c = (
  length c.args.reader.now,
  omega arith,
  (no_members, refl, ap members_view c.new-found.ensures.empty),
  omega arith,
)

pub cut_members-returns-in_err-name-clause-json : goal.cut_members-returns-in_err-name-clause-json
cut_members-returns-in_err-name-clause-json t c refused = search (rules, key_refused)

pub cut_members-returns-in_err-member-clause-json :
    goal.cut_members-returns-in_err-member-clause-json
cut_members-returns-in_err-member-clause-json t c refused = search (rules, member_refused)

pub cut_members-members-preserved : goal.cut_members-members-preserved
cut_members-members-preserved t c =
    let l = c.members in
    let done = c.in_ok-member.ensures in
    let named : read_key l.reader ≡ Some (Some c.in-Some.name.now, c.next_key.new.self) =
    grind arith in
    let less = read_key-shorter _ _ _ named in
    let on =
    l.invariant.2.1 ∙ member_read _ _ _ _ _ _ _ _ (omega (arith, l.invariant.1, less)) named
    done.ok.1 in (
      l.invariant.0 - 1,
      omega (arith, l.invariant.1, less, done.shorter),
      (
        put _ done.ok.0 l.invariant.2.0,
        on,
        search (rules, members_view-insert_entry, cut_members-put),
      ),
      omega (arith, l.invariant.3, less, done.shorter),
    )

pub cut_members-returns-clause-ok : goal.cut_members-returns-clause-ok
cut_members-returns-clause-ok t c = search (rules, members_end)

pub read_cut-returns-then-levels-eq0-clause-ok : goal.read_cut-returns-then-levels-eq0-clause-ok
read_cut-returns-then-levels-eq0-clause-ok t c =
    let d = passed_nested _ _ _ _ _ _ (grind arith) (ap token_of c.in-BeginObject.is)
    c.in_ok-pass_rest-in-BeginObject.ensures.value in
    let ms = opened_object _ _ _ d.0 d.2 in
    let none : c.args.levels ≡ 0 = omega arith in
    (d.0, d.1, search (rules, view-Object, none, ms))

pub read_cut-returns-in_ok-pass_rest-in-BeginArray-clause-ok :
    goal.read_cut-returns-in_ok-pass_rest-in-BeginArray-clause-ok
read_cut-returns-in_ok-pass_rest-in-BeginArray-clause-ok t c =
    let d = passed_nested _ _ _ _ _ _ (grind arith) (ap token_of c.in-BeginArray.is)
    c.in_ok-pass_rest-in-BeginArray.ensures.value in
    (d.0, d.1, search (rules, view-Array, opened_array, d))
