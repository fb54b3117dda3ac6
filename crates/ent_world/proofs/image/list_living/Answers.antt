use Rattle.ent_world.proofs.Common.{rules, ◌≡◌, ◌∙◌, ap, arith, None, common_steps, append_assoc}
use Rattle.ent_world.proofs.Common.{All-cons, All-append, Handle, handle_cmp}
use Rattle.std.specs.FinMap as map
use Rattle.ent_world.proofs.image.list_living.Goals as goal

pub returns-then-is_some-clause-rows : goal.returns-then-is_some-clause-rows
returns-then-is_some-clause-rows c other empty =
    let none = ap (λ rows. map.get rows c.in-Some.handle) empty
    ∙ map.get-empty handle_cmp c.in-Some.handle in
    grind (arith, common_steps, none, c.row.ensures.value, c.is_some.ensures, c.if-is_some.true)

pub loop-handle-preserved : goal.loop-handle-preserved
loop-handle-preserved c =
    let IsBare : Handle → Type 0 = λ g. map.get c.args.entities.now.rows g ≡ None in
    let bare : map.get c.args.entities.now.rows c.in-Some.handle ≡ None = grind
    (arith, common_steps, c.row.ensures.value, c.is_some.ensures, c.if-is_some.false) in
    search (rules, append_assoc, All-cons IsBare, All-append IsBare, bare)
