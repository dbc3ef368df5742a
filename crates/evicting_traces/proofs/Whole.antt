-- Every call on a map that evicts is read.
use Rattle.map_types.specs.declared.call.Verb.TheVariants as verbs
use Rattle.place_words.specs.Handing.{IsHandingTrace, StopsAt}
use Rattle.place_words.specs.Walks.{IsNextTrace, updates_of, deletes_of}
use Rattle.trace_check.specs.Calls.{read_next, read_each}
use Rattle.trace_check.proofs.Walking.{reads_next}
use Rattle.trace_check.proofs.Handing.{each_reads}
use Rattle.evicting_traces.specs.Laws.{ReadsEvictingCalls}
use Rattle.evicting_traces.proofs.Readers.{turns_reader}
use Rattle.evicting_traces.proofs.Batches.{batch_reader, key_reader, write_batch_reader}

pub reads_calls : ReadsEvictingCalls
reads_calls shape cpu spare (verbs.Lookup side key) evicts = key_reader shape cpu evicts spare (verbs.Lookup side key)
reads_calls shape cpu spare (verbs.Update side flags key value) evicts = key_reader shape cpu evicts spare (verbs.Update side flags key value)
reads_calls shape cpu spare (verbs.Delete key) evicts = key_reader shape cpu evicts spare (verbs.Delete key)
reads_calls shape cpu spare (verbs.Take key) evicts = key_reader shape cpu evicts spare (verbs.Take key)
reads_calls shape cpu spare (verbs.Next key) evicts = turns_reader (IsNextTrace shape key) (read_next shape key) (reads_next shape key)
reads_calls shape cpu spare (verbs.BatchRead remove count start flags) evicts = batch_reader shape cpu evicts remove count start flags
reads_calls shape cpu spare (verbs.BatchUpdate flags pairs) evicts = write_batch_reader shape cpu spare evicts flags (updates_of pairs)
reads_calls shape cpu spare (verbs.BatchDelete flags keys) evicts = write_batch_reader shape cpu spare evicts flags (deletes_of keys)
reads_calls shape cpu spare (verbs.Each flags stop) evicts = turns_reader (IsHandingTrace shape cpu (StopsAt stop) flags) (read_each shape cpu stop flags) (each_reads shape cpu stop flags)
