use Rattle.ent_storage.proofs.Common.{rules, Some, ap, sym, ◌∙◌, slice_get_within}
use Rattle.ent_storage.proofs.Common.{get_or_from_slice_get, slice_get-get_or}
use Rattle.ent_storage.proofs.Dense.{not_past}
use Rattle.ent_storage.proofs.Sparse.{missing, had, is_handle}
use Rattle.ent_storage.proofs.sparse_map.find.Goals as goal

pub returns-in_err-position : goal.returns-in_err-position
returns-in_err-position g c =
    let none =
    missing _ _ c.requires c.args.handle
    (λ k v s d. search (rules, not_past, slice_get_within, s)) in
    search (rules, none)

pub returns-in_err-entry : goal.returns-in_err-entry
returns-in_err-entry g c =
    let none = missing _ _ c.requires c.args.handle (λ k v s d. search
    (rules, get_or_from_slice_get, slice_get_within, s, d)) in
    search (rules, none)

pub returns-then-eq : goal.returns-then-eq
returns-then-eq g c =
    let x = c.in_ok-entry.entry.now in
    let look = c.in_ok-entry.ensures.lookup in
    let here = slice_get-get_or _ _ _ look.3.0 ∙ ap Some (sym (look.3.1 x)) in
    sym (had _ _ c.requires _ _ here _ (is_handle x.0 _ (search rules)))
