-- What a fault prints.
use Rattle.std.specs.Prelude.{ℕ, List, codes}
use Rattle.ent_storage.specs.declared.fault.StorageFault.{StorageFault}
use Rattle.ent_storage.specs.declared.fault.StorageFault.TheVariants.{Absent, Present, Memory}

abbrev pub storage_fault_text : StorageFault → List ℕ
storage_fault_text Absent = codes "no such entity"
storage_fault_text Present = codes "the entity is there already"
storage_fault_text Memory = codes "out of memory"
