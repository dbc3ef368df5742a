use Rattle.core_runs.proofs.RowWorked.{row_computes, exchanged_computes, first_refused}
use Rattle.core_runs.proofs.ApartWorked.{apart_computes, flushed_computes, phases_compute}
use Rattle.core_runs.proofs.RaceWorked.{forged_turns, forged_fails, races_by_words, shared_races_by_words, refilled_turns}
use Rattle.core_runs.proofs.ScriptRuns.{runs_on_core}
use Rattle.core_runs.proofs.laws.run_laws.Goals as goal

pub returns-clause-row : goal.returns-clause-row
returns-clause-row c = row_computes

pub returns-clause-exchanged : goal.returns-clause-exchanged
returns-clause-exchanged c = exchanged_computes

pub returns-clause-refused : goal.returns-clause-refused
returns-clause-refused c = first_refused

pub returns-clause-serial : goal.returns-clause-serial
returns-clause-serial c = runs_on_core

pub returns-clause-apart : goal.returns-clause-apart
returns-clause-apart c = apart_computes

pub returns-clause-flushed : goal.returns-clause-flushed
returns-clause-flushed c = flushed_computes

pub returns-clause-phases : goal.returns-clause-phases
returns-clause-phases c = phases_compute

pub returns-clause-forged : goal.returns-clause-forged
returns-clause-forged c = forged_turns

pub returns-clause-fails : goal.returns-clause-fails
returns-clause-fails c = forged_fails

pub returns-clause-by_words : goal.returns-clause-by_words
returns-clause-by_words c = races_by_words

pub returns-clause-shared_by_words : goal.returns-clause-shared_by_words
returns-clause-shared_by_words c = shared_races_by_words

pub returns-clause-refilled : goal.returns-clause-refilled
returns-clause-refilled c = refilled_turns
