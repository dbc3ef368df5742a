use Rattle.refusals.proofs.WalkLemmas.{first_leaves_out_none, absent_starts_over, last_goes_on, gives_whole_buckets, reads_in_order, enospc_takes_nothing, taken_are_pushed}
use Rattle.refusals.proofs.walks.walk_refusals.Goals as goal

pub returns-clause-first : goal.returns-clause-first
returns-clause-first c = first_leaves_out_none

pub returns-clause-absent : goal.returns-clause-absent
returns-clause-absent c = absent_starts_over

pub returns-clause-last : goal.returns-clause-last
returns-clause-last c = last_goes_on

pub returns-clause-whole : goal.returns-clause-whole
returns-clause-whole c = gives_whole_buckets

pub returns-clause-reads : goal.returns-clause-reads
returns-clause-reads c = reads_in_order

pub returns-clause-no_space : goal.returns-clause-no_space
returns-clause-no_space c = enospc_takes_nothing

pub returns-clause-in_order : goal.returns-clause-in_order
returns-clause-in_order c = taken_are_pushed
