use Rattle.refusals.proofs.BatchLemmas.{updates_do_each, deletes_do_each, updates_are_counted, deletes_are_counted, none_was_missed, stops_at_missed}
use Rattle.refusals.proofs.batch.batch_refusals.Goals as goal

pub returns-clause-updates_each : goal.returns-clause-updates_each
returns-clause-updates_each c = updates_do_each

pub returns-clause-deletes_each : goal.returns-clause-deletes_each
returns-clause-deletes_each c = deletes_do_each

pub returns-clause-updates : goal.returns-clause-updates
returns-clause-updates c = updates_are_counted

pub returns-clause-deletes : goal.returns-clause-deletes
returns-clause-deletes c = deletes_are_counted

pub returns-clause-all_found : goal.returns-clause-all_found
returns-clause-all_found c = none_was_missed

pub returns-clause-stops : goal.returns-clause-stops
returns-clause-stops c = stops_at_missed
