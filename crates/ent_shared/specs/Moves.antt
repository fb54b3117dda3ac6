-- What a meeting adds to a record.
use Rattle.std.specs.Prelude.{List, [], ◌∷◌, ◌++◌}
use Rattle.std.specs.Int.{int_min}
use Rattle.ent_shared.specs.declared.record.Record.{Record}
use Rattle.ent_shared.specs.declared.record.RecordEntry.TheVariants.{Met}
use Rattle.ent_shared.specs.Record.{known_reservations}

-- the record of a reserver after it met another one
abbrev pub after_meeting : Record → Record → Record
after_meeting r met = record r {
  entries = r.entries ++ Met (known_reservations met.entries) ∷ [];
  mark = int_min r.mark met.mark;
}

-- the records of two holders in one, after the first reserver met the second
abbrev pub met_in : List Record → List Record → List Record
met_in (r ∷ rs) (met ∷ others) = after_meeting r met ∷ met ∷ others
met_in rs others = rs ++ others
