use Rattle.refusals.proofs.FlushLemmas.{flushed_keep_hashes}
use Rattle.refusals.proofs.TheftLemmas.{stolen_is_gone}
use Rattle.refusals.proofs.EvictionTraces.{evictions_go_by_hash, probes_are_turns}
use Rattle.refusals.proofs.EvictingLemmas.{system_sets_none, program_sets_it, deleted_is_freed, moved_on_was_flushed, none_after_a_round, none_after_a_shrink}
use Rattle.refusals.proofs.evicting.evicting_refusals.Goals as goal

pub returns-clause-system : goal.returns-clause-system
returns-clause-system c = system_sets_none

pub returns-clause-program : goal.returns-clause-program
returns-clause-program c = program_sets_it

pub returns-clause-deleted : goal.returns-clause-deleted
returns-clause-deleted c = deleted_is_freed

pub returns-clause-moved_on : goal.returns-clause-moved_on
returns-clause-moved_on c = moved_on_was_flushed

pub returns-clause-round : goal.returns-clause-round
returns-clause-round c = none_after_a_round

pub returns-clause-shrink : goal.returns-clause-shrink
returns-clause-shrink c = none_after_a_shrink

pub returns-clause-probes : goal.returns-clause-probes
returns-clause-probes c = probes_are_turns

pub returns-clause-evictions : goal.returns-clause-evictions
returns-clause-evictions c = evictions_go_by_hash

pub returns-clause-flushed : goal.returns-clause-flushed
returns-clause-flushed c = flushed_keep_hashes

pub returns-clause-stolen : goal.returns-clause-stolen
returns-clause-stolen c = stolen_is_gone
