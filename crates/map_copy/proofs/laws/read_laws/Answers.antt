use Rattle.map_copy.proofs.BoundLemmas.{asks_within, goes_on_below, has_few_reads}
use Rattle.map_copy.proofs.BucketLemmas.{reads_once, reads_each}
use Rattle.map_copy.proofs.laws.read_laws.Goals as goal

pub returns-clause-goes_on : goal.returns-clause-goes_on
returns-clause-goes_on c = goes_on_below

pub returns-clause-few : goal.returns-clause-few
returns-clause-few c = has_few_reads

pub returns-clause-asks : goal.returns-clause-asks
returns-clause-asks c = asks_within

pub returns-clause-once : goal.returns-clause-once
returns-clause-once c = reads_once

pub returns-clause-each : goal.returns-clause-each
returns-clause-each c = reads_each
