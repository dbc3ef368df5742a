use Rattle.refusals.proofs.ToldLemmas.{looks_are_told}
use Rattle.refusals.proofs.PlainLemmas.{e2big_looks_at_each, present_pops_nothing, present_takes_spare, deleted_is_pushed}
use Rattle.refusals.proofs.plain.plain_refusals.Goals as goal

pub returns-clause-full : goal.returns-clause-full
returns-clause-full c = e2big_looks_at_each

pub returns-clause-told : goal.returns-clause-told
returns-clause-told c = looks_are_told

pub returns-clause-present : goal.returns-clause-present
returns-clause-present c = present_pops_nothing

pub returns-clause-spare : goal.returns-clause-spare
returns-clause-spare c = present_takes_spare

pub returns-clause-pushed : goal.returns-clause-pushed
returns-clause-pushed c = deleted_is_pushed
