use Rattle.refusals.proofs.TableLemmas.{mark_sets, clear_takes, rehome_stores, tells_its_part, tells_its_bits, system_marks_none, owner_is_the_one_read, strands_are_handed_out}
use Rattle.refusals.proofs.table.table_refusals.Goals as goal

pub returns : goal.returns
returns c = record {
  mark = mark_sets;
  clear = clear_takes;
  rehome = rehome_stores;
  part = tells_its_part;
  bits = tells_its_bits;
  system = system_marks_none;
  owner = owner_is_the_one_read;
  strands = strands_are_handed_out;
}
