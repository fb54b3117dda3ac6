use Rattle.ent_storage.proofs.Common.{rules, ◌≡◌, ◌<◌, ◌++◌, ◌∷◌, [], length}
use Rattle.ent_storage.proofs.Sparse.{more_slots, pushed_positioned, pushed_values}
use Rattle.ent_storage.proofs.sparse_map.add.Goals as goal

pub returns-clause-positioned : goal.returns-clause-positioned
returns-clause-positioned g c =
    let items : c.push_reserved.new.self.items
    ≡ c.args.entries.now.items ++ (c.args.handle, c.args.value)
    ∷ [] = search rules in
    let index : c.index-index.result ≡ c.args.handle.index = search rules in
    let len : c.len.result ≡ length c.args.entries.now.items = search rules in
    let room : c.args.handle.index < length c.make_position.new.positions.items = search rules in
    let is =
    more_slots _ _ _ c.requires.positioned c.make_position.ensures.few
    c.make_position.ensures.kept in
    rw (items, index, len) (pushed_positioned _ _ is _ _ c.requires.free room)

pub returns-clause-ok : goal.returns-clause-ok
returns-clause-ok g c = search (rules, more_slots, pushed_values)
