use Rattle.ent_script.proofs.Common.{rules, refl, bytes_eq, codes, true, false, ◌≡◌}
use Rattle.ent_script.proofs.Keyed.{under_before, under_here, under_other, kinds_here, no_kinds}
use Rattle.ent_script.proofs.fields.Fields.put.Goals as goal

pub returns-then-eq : goal.returns-then-eq
returns-then-eq c d ms seen at =
    let k = c.args.key.now in
    let e : bytes_eq k (codes "spawn") ≡ true = search (rules, c.if-eq.ensures) in
    let other = under_other (codes "spawn") k d ms e in
    record {
      spawn = under_here (codes "spawn") k d ms _ seen e;
      spawn_many = other (codes "spawn_many") _ refl at.spawn_many;
      insert = other (codes "insert") _ refl at.insert;
      remove = other (codes "remove") _ refl at.remove;
      despawn = other (codes "despawn") _ refl at.despawn;
      «with» = other (codes "with") _ refl at.«with»;
      on = other (codes "on") _ refl at.on;
      binds = other (codes "as") _ refl at.binds;
      kinds = c.with-self.ensures k d ms at.kinds (kinds_here (codes "spawn") k d _ e record {
        spawn = refl;
        spawn_many = refl;
        insert = refl;
        remove = refl;
        despawn = refl;
      });
    }

pub returns-then-eq-2 : goal.returns-then-eq-2
returns-then-eq-2 c d ms seen at =
    let k = c.args.key.now in
    let e : bytes_eq k (codes "as") ≡ true = search (rules, c.if-eq-2.ensures) in
    let other = under_other (codes "as") k d ms e in
    record {
      spawn = other (codes "spawn") _ refl at.spawn;
      spawn_many = other (codes "spawn_many") _ refl at.spawn_many;
      insert = other (codes "insert") _ refl at.insert;
      remove = other (codes "remove") _ refl at.remove;
      despawn = other (codes "despawn") _ refl at.despawn;
      «with» = other (codes "with") _ refl at.«with»;
      on = other (codes "on") _ refl at.on;
      binds = under_here (codes "as") k d ms _ seen e;
      kinds = c.with-self-then-eq-2.ensures k d ms at.kinds (kinds_here (codes "as") k d _ e record {
        spawn = refl;
        spawn_many = refl;
        insert = refl;
        remove = refl;
        despawn = refl;
      });
    }

pub returns-then-eq-3 : goal.returns-then-eq-3
returns-then-eq-3 c d ms seen at =
    let k = c.args.key.now in
    let e : bytes_eq k (codes "insert") ≡ true = search (rules, c.if-eq-3.ensures) in
    let other = under_other (codes "insert") k d ms e in
    record {
      spawn = other (codes "spawn") _ refl at.spawn;
      spawn_many = other (codes "spawn_many") _ refl at.spawn_many;
      insert = under_here (codes "insert") k d ms _ seen e;
      remove = other (codes "remove") _ refl at.remove;
      despawn = other (codes "despawn") _ refl at.despawn;
      «with» = other (codes "with") _ refl at.«with»;
      on = other (codes "on") _ refl at.on;
      binds = other (codes "as") _ refl at.binds;
      kinds = c.with-self-then-eq-3.ensures k d ms at.kinds (kinds_here (codes "insert") k d _ e record {
        spawn = refl;
        spawn_many = refl;
        insert = refl;
        remove = refl;
        despawn = refl;
      });
    }

pub returns-then-eq-4 : goal.returns-then-eq-4
returns-then-eq-4 c d ms seen at =
    let k = c.args.key.now in
    let e : bytes_eq k (codes "on") ≡ true = search (rules, c.if-eq-4.ensures) in
    let other = under_other (codes "on") k d ms e in
    record {
      spawn = other (codes "spawn") _ refl at.spawn;
      spawn_many = other (codes "spawn_many") _ refl at.spawn_many;
      insert = other (codes "insert") _ refl at.insert;
      remove = other (codes "remove") _ refl at.remove;
      despawn = other (codes "despawn") _ refl at.despawn;
      «with» = other (codes "with") _ refl at.«with»;
      on = under_here (codes "on") k d ms _ seen e;
      binds = other (codes "as") _ refl at.binds;
      kinds = c.with-self-then-eq-4.ensures k d ms at.kinds (kinds_here (codes "on") k d _ e record {
        spawn = refl;
        spawn_many = refl;
        insert = refl;
        remove = refl;
        despawn = refl;
      });
    }

pub returns-then-eq-5 : goal.returns-then-eq-5
returns-then-eq-5 c d ms seen at =
    let k = c.args.key.now in
    let e : bytes_eq k (codes "remove") ≡ true = search (rules, c.if-eq-5.ensures) in
    let other = under_other (codes "remove") k d ms e in
    record {
      spawn = other (codes "spawn") _ refl at.spawn;
      spawn_many = other (codes "spawn_many") _ refl at.spawn_many;
      insert = other (codes "insert") _ refl at.insert;
      remove = under_here (codes "remove") k d ms _ seen e;
      despawn = other (codes "despawn") _ refl at.despawn;
      «with» = other (codes "with") _ refl at.«with»;
      on = other (codes "on") _ refl at.on;
      binds = other (codes "as") _ refl at.binds;
      kinds = c.with-self-then-eq-5.ensures k d ms at.kinds (kinds_here (codes "remove") k d _ e record {
        spawn = refl;
        spawn_many = refl;
        insert = refl;
        remove = refl;
        despawn = refl;
      });
    }

pub returns-then-eq-6 : goal.returns-then-eq-6
returns-then-eq-6 c d ms seen at =
    let k = c.args.key.now in
    let e : bytes_eq k (codes "despawn") ≡ true = search (rules, c.if-eq-6.ensures) in
    let other = under_other (codes "despawn") k d ms e in
    record {
      spawn = other (codes "spawn") _ refl at.spawn;
      spawn_many = other (codes "spawn_many") _ refl at.spawn_many;
      insert = other (codes "insert") _ refl at.insert;
      remove = other (codes "remove") _ refl at.remove;
      despawn = under_here (codes "despawn") k d ms _ seen e;
      «with» = other (codes "with") _ refl at.«with»;
      on = other (codes "on") _ refl at.on;
      binds = other (codes "as") _ refl at.binds;
      kinds = c.with-self-then-eq-6.ensures k d ms at.kinds (kinds_here (codes "despawn") k d _ e record {
        spawn = refl;
        spawn_many = refl;
        insert = refl;
        remove = refl;
        despawn = refl;
      });
    }

pub returns-then-eq-7 : goal.returns-then-eq-7
returns-then-eq-7 c d ms seen at =
    let k = c.args.key.now in
    let e : bytes_eq k (codes "spawn_many") ≡ true = search (rules, c.if-eq-7.ensures) in
    let other = under_other (codes "spawn_many") k d ms e in
    record {
      spawn = other (codes "spawn") _ refl at.spawn;
      spawn_many = under_here (codes "spawn_many") k d ms _ seen e;
      insert = other (codes "insert") _ refl at.insert;
      remove = other (codes "remove") _ refl at.remove;
      despawn = other (codes "despawn") _ refl at.despawn;
      «with» = other (codes "with") _ refl at.«with»;
      on = other (codes "on") _ refl at.on;
      binds = other (codes "as") _ refl at.binds;
      kinds = c.with-self-then-eq-7.ensures k d ms at.kinds (kinds_here (codes "spawn_many") k d _ e record {
        spawn = refl;
        spawn_many = refl;
        insert = refl;
        remove = refl;
        despawn = refl;
      });
    }

pub returns-then-eq-8 : goal.returns-then-eq-8
returns-then-eq-8 c d ms seen at =
    let k = c.args.key.now in
    let e : bytes_eq k (codes "with") ≡ true = search (rules, c.if-eq-8.ensures) in
    let other = under_other (codes "with") k d ms e in
    record {
      spawn = other (codes "spawn") _ refl at.spawn;
      spawn_many = other (codes "spawn_many") _ refl at.spawn_many;
      insert = other (codes "insert") _ refl at.insert;
      remove = other (codes "remove") _ refl at.remove;
      despawn = other (codes "despawn") _ refl at.despawn;
      «with» = under_here (codes "with") k d ms _ seen e;
      on = other (codes "on") _ refl at.on;
      binds = other (codes "as") _ refl at.binds;
      kinds = c.with-self-then-eq-8.ensures k d ms at.kinds (kinds_here (codes "with") k d _ e record {
        spawn = refl;
        spawn_many = refl;
        insert = refl;
        remove = refl;
        despawn = refl;
      });
    }

pub returns-else-eq-8 : goal.returns-else-eq-8
returns-else-eq-8 c d ms seen at =
    let k = c.args.key.now in
    let e1 : bytes_eq k (codes "spawn") ≡ false = search (rules, c.if-eq.ensures) in
    let e2 : bytes_eq k (codes "as") ≡ false = search (rules, c.if-eq-2.ensures) in
    let e3 : bytes_eq k (codes "insert") ≡ false = search (rules, c.if-eq-3.ensures) in
    let e4 : bytes_eq k (codes "on") ≡ false = search (rules, c.if-eq-4.ensures) in
    let e5 : bytes_eq k (codes "remove") ≡ false = search (rules, c.if-eq-5.ensures) in
    let e6 : bytes_eq k (codes "despawn") ≡ false = search (rules, c.if-eq-6.ensures) in
    let e7 : bytes_eq k (codes "spawn_many") ≡ false = search (rules, c.if-eq-7.ensures) in
    let e8 : bytes_eq k (codes "with") ≡ false = search (rules, c.if-eq-8.ensures) in
    record {
      spawn = under_before (codes "spawn") k d ms _ at.spawn e1;
      spawn_many = under_before (codes "spawn_many") k d ms _ at.spawn_many e7;
      insert = under_before (codes "insert") k d ms _ at.insert e3;
      remove = under_before (codes "remove") k d ms _ at.remove e5;
      despawn = under_before (codes "despawn") k d ms _ at.despawn e6;
      «with» = under_before (codes "with") k d ms _ at.«with» e8;
      on = under_before (codes "on") k d ms _ at.on e4;
      binds = under_before (codes "as") k d ms _ at.binds e2;
      kinds = no_kinds k d ms e1 e2 e3 e4 e5 e6 e7 e8;
    }
