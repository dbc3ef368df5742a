use Rattle.std.proofs.Common.{◌∙◌}
use Rattle.workload_gen.proofs.WorkloadLemmas.{some_cpu, some_key, few_calls, own_read, calls_read, well_formed}
use Rattle.workload_gen.proofs.workload.generate.Goals as goal

pub calls_generated-requires-clause-cpus : goal.calls_generated-requires-clause-cpus
calls_generated-requires-clause-cpus c = some_cpu c.args.script.now c.requires

pub calls_generated-requires-clause-keys : goal.calls_generated-requires-clause-keys
calls_generated-requires-clause-keys c = some_key c.args.script.now c.requires

pub calls_generated-requires-clause-few : goal.calls_generated-requires-clause-few
calls_generated-requires-clause-few c = few_calls c.args.script.now c.requires

pub returns-clause-well_formed : goal.returns-clause-well_formed
returns-clause-well_formed c =
    well_formed c.args.script.now c.requires c.of.result c.of-2.result (c.of.ensures ∙ c.in_ok-calls.ensures) (c.of-2.ensures ∙ c.new.ensures.items)

pub returns-clause-listed_text : goal.returns-clause-listed_text
returns-clause-listed_text c =
    calls_read c.args.script.now c.requires c.of.result (c.of.ensures ∙ c.in_ok-calls.ensures)

pub returns-clause-own_text : goal.returns-clause-own_text
returns-clause-own_text c = own_read c.args.script.now c.requires c.of.result c.of-2.result (c.of-2.ensures ∙ c.new.ensures.items)
