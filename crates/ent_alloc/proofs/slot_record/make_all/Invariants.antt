use Rattle.ent_alloc.proofs.Common.{◌≡◌, ◌+◌, ◌-◌, ◌++◌, replicate, vec_len, vec_capacity, fresh}
use Rattle.ent_alloc.proofs.Common.{new_record}
use Rattle.ent_alloc.proofs.slot_record.make_all.Given as goal

abbrev pub invariant-loop-index : goal.invariant-loop-index
invariant-loop-index l = record {
  made : l.records.items ≡ l.initial.records.items ++ replicate (l.index - l.made) new_record;
  listed : l.out.items ≡ l.initial.out.items ++ fresh l.made (l.index - l.made);
  len : vec_len l.records ≡ vec_len l.initial.records + (l.index - l.made);
  list_len : vec_len l.out ≡ vec_len l.initial.out + (l.index - l.made);
  capacity : vec_capacity l.records ≡ vec_capacity l.initial.records;
  list_capacity : vec_capacity l.out ≡ vec_capacity l.initial.out;
}
