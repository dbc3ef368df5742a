use Rattle.refusals.proofs.KeyLemmas.{enoent_is_absent, value_lies_there, done_is_written, noexist_finds_none, exist_finds_it, e2big_is_plain, enomem_is_evicting}
use Rattle.refusals.proofs.keys.key_refusals.Goals as goal

pub returns-clause-absent : goal.returns-clause-absent
returns-clause-absent c = enoent_is_absent

pub returns-clause-value : goal.returns-clause-value
returns-clause-value c = value_lies_there

pub returns-clause-written : goal.returns-clause-written
returns-clause-written c = done_is_written

pub returns-clause-noexist : goal.returns-clause-noexist
returns-clause-noexist c = noexist_finds_none

pub returns-clause-exist : goal.returns-clause-exist
returns-clause-exist c = exist_finds_it

pub returns-clause-full : goal.returns-clause-full
returns-clause-full c = e2big_is_plain

pub returns-clause-no_element : goal.returns-clause-no_element
returns-clause-no_element c = enomem_is_evicting
