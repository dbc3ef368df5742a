use Rattle.evicting_traces.proofs.Freeing.{reads_frees}
use Rattle.evicting_traces.proofs.Taking.{reads_takings}
use Rattle.evicting_traces.proofs.Keys.{reads_keys}
use Rattle.evicting_traces.proofs.Whole.{reads_calls}
use Rattle.evicting_traces.proofs.Counting.{counts_turns, one_beginning}
use Rattle.evicting_traces.proofs.WorkedTurns.{reads_in_turn}
use Rattle.evicting_traces.proofs.laws.evicting_laws.Goals as goal

pub returns-clause-frees : goal.returns-clause-frees
returns-clause-frees c = reads_frees

pub returns-clause-takings : goal.returns-clause-takings
returns-clause-takings c = reads_takings

pub returns-clause-keys : goal.returns-clause-keys
returns-clause-keys c = reads_keys

pub returns-clause-calls : goal.returns-clause-calls
returns-clause-calls c = reads_calls

pub returns-clause-counts : goal.returns-clause-counts
returns-clause-counts c = counts_turns

pub returns-clause-one : goal.returns-clause-one
returns-clause-one c = one_beginning

pub returns-clause-worked : goal.returns-clause-worked
returns-clause-worked c = reads_in_turn
