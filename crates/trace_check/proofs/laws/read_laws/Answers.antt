use Rattle.trace_check.proofs.WorkedTurns.{reads_in_turn}
use Rattle.trace_check.proofs.WholeBy.{reads_calls_by, counts_turns_by, one_beginning_by}
use Rattle.trace_check.proofs.Counting.{counts_turns, one_beginning}
use Rattle.trace_check.proofs.Whole.{reads_calls}
use Rattle.trace_check.proofs.Writing.{reads_write_batches}
use Rattle.trace_check.proofs.Walking.{reads_next}
use Rattle.trace_check.proofs.Puts.{reads_deletes, reads_takes, reads_updates}
use Rattle.trace_check.proofs.Keys.{reads_lookups}
use Rattle.trace_check.proofs.laws.read_laws.Goals as goal

pub returns-clause-lookups : goal.returns-clause-lookups
returns-clause-lookups c = reads_lookups

pub returns-clause-deletes : goal.returns-clause-deletes
returns-clause-deletes c = reads_deletes

pub returns-clause-takes : goal.returns-clause-takes
returns-clause-takes c = reads_takes

pub returns-clause-updates : goal.returns-clause-updates
returns-clause-updates c = reads_updates

pub returns-clause-next_keys : goal.returns-clause-next_keys
returns-clause-next_keys c = reads_next

pub returns-clause-write_batches : goal.returns-clause-write_batches
returns-clause-write_batches c = reads_write_batches

pub returns-clause-calls : goal.returns-clause-calls
returns-clause-calls c = reads_calls

pub returns-clause-counts : goal.returns-clause-counts
returns-clause-counts c = counts_turns

pub returns-clause-one : goal.returns-clause-one
returns-clause-one c = one_beginning

pub returns-clause-worked : goal.returns-clause-worked
returns-clause-worked c = reads_in_turn

pub returns-clause-calls_by_spares : goal.returns-clause-calls_by_spares
returns-clause-calls_by_spares c = reads_calls_by

pub returns-clause-counts_by_spares : goal.returns-clause-counts_by_spares
returns-clause-counts_by_spares c = counts_turns_by

pub returns-clause-one_by_spares : goal.returns-clause-one_by_spares
returns-clause-one_by_spares c = one_beginning_by
