use Rattle.ent_storage.proofs.Common.{rules, no_column, none-some}
use Rattle.ent_storage.proofs.EntitiesOfResidents.{value_from}
use Rattle.ent_storage.proofs.ColumnsAtPlaces.{taken_none}
use Rattle.ent_storage.proofs.living.Living.pairs.Goals as goal

pub returns-in-Some-clause-has : goal.returns-in-Some-clause-has
returns-in-Some-clause-has c place v at =
    let column = (rw c.deref.ensures.value at c.in-Some.ensures.lookup).3.1 no_column in
    search (rules, value_from, column, c.pairs.ensures.has place v at, c.self.view_is)

pub returns-in-Some-clause-all : goal.returns-in-Some-clause-all
returns-in-Some-clause-all c place v is =
    let column = (rw c.deref.ensures.value at c.in-Some.ensures.lookup).3.1 no_column in
    search (rules, value_from, column)

pub returns-in-None-clause-all : goal.returns-in-None-clause-all
returns-in-None-clause-all c place v is = search (rules, none-some, taken_none, value_from)
