use Rattle.ent_storage.proofs.Common.{rules, ◌≡◌, insert, IsFree, insert_end}
use Rattle.ent_storage.proofs.Counted.{put_over, put_between}
use Rattle.ent_storage.proofs.index.put_in_gap.Goals as goal

-- over a pair beside the gap: those before it are smaller, and those after it are greater
pub returns-in-Some : goal.returns-in-Some
returns-in-Some c =
    let free : IsFree c.args.rows.now.places c.args.pairs.now.items c.in-Some.other =
    rw c.deref.ensures.value at
    c.in-Some.ensures.free in
    let put =
    put_over c.args.rows.now.places c.args.pairs.now.items c.requires.sorted c.args.pair.0
    c.args.pair.1
    c.in-Some.other (search rules) (search rules) free in
    search (rules, put)

-- at the end
pub returns-in-None : goal.returns-in-None
returns-in-None c =
    let end : insert c.args.pairs.now.items c.args.position c.args.pair
    ≡ c.push_reserved.new.self.items = search (rules, insert_end) in
    let put =
    rw end at
    (put_between c.args.rows.now.places c.args.pairs.now.items c.requires.sorted
    c.args.pair.0
    c.args.pair.1 c.args.position c.requires.gap) in
    search (rules, put)

-- between the two
pub returns-in-None-2 : goal.returns-in-None-2
returns-in-None-2 c =
    let ok = c.insert.ensures.succeeds c.requires.room in
    let put =
    put_between c.args.rows.now.places c.args.pairs.now.items c.requires.sorted
    c.args.pair.0
    c.args.pair.1 c.args.position c.requires.gap in
    search (rules, put, c.insert.ensures.items, ok)
