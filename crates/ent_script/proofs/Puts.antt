-- What an object has after a member is put into it.
use Rattle.ent_script.proofs.Common.{rules, ◌≡◌, ℕ, List, Some, Equal, nat_cmp, is_eq, true, false}
use Rattle.ent_script.proofs.Common.{bytes_eq, sym, ap, ◌∙◌, nat_list_cmp_total, tied_itself}
use Rattle.ent_script.proofs.Common.{is_eq-slice_cmp, bytes_eq-Decides, slice_cmp, Data, Members}
use Rattle.ent_script.proofs.Common.{no_members, member, put, get_member}

pub tied : (k l : List ℕ) → slice_cmp nat_cmp k l ≡ Equal → k ≡ l
tied k l is = (bytes_eq-Decides k l).0 (sym (is_eq-slice_cmp k l) ∙ ap is_eq is)

same_text : (xs : List ℕ) → slice_cmp nat_cmp xs xs ≡ Equal
same_text xs = tied_itself nat_list_cmp_total xs

-- what was put at a name is found there
pub get_member-put : (k : List ℕ) (d : Data) (ms : Members) → get_member k (put k d ms) ≡ Some d
get_member-put k d no_members = rw same_text
get_member-put k d (member l e ms) = search (rules, same_text, get_member-put k d ms)

skips : (q k : List ℕ) (d : Data) (ms : Members) → (q ≡ k → ⊥)
    → get_member q (member k d ms) ≡ get_member q ms
skips q k d ms other = search (rules, is_eq-slice_cmp q k, bytes_eq-Decides q k)

-- the other names keep their values
pub get_member-put_other : (q k : List ℕ) (d : Data) (ms : Members) → (q ≡ k → ⊥)
    → get_member q (put k d ms) ≡ get_member q ms
get_member-put_other q k d no_members other = search (rules, skips)
get_member-put_other q k d (member l e ms) other =
    search (rules, skips, tied k l, get_member-put_other q k d ms other)

pub found_here : (name k : List ℕ) (d : Data) (ms : Members) → bytes_eq k name ≡ true
    → get_member name (put k d ms) ≡ Some d
found_here name k d ms e = search (rules, bytes_eq-Decides, get_member-put)

pub found_before : (name k : List ℕ) (d : Data) (ms : Members) → bytes_eq k name ≡ false
    → get_member name (put k d ms) ≡ get_member name ms
found_before name k d ms e = search (rules, get_member-put_other, bytes_eq-Decides)
