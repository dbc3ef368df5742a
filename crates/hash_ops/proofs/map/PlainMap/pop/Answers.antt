use Rattle.std.proofs.Common.{ap, ◌∙◌}
use Rattle.map_types.specs.declared.attr.Shape.{Shape}
use Rattle.place_table.specs.Passes.{TableView}
use Rattle.hash_ops.proofs.Pops.{popped_behind, popped_before}
use Rattle.hash_ops.proofs.map.PlainMap.pop.Goals as goal

pub returns-in-Some : goal.returns-in-Some
returns-in-Some g c =
    popped_behind c.args.self.now c.cpu_of-cpu.result c.shape.result.now.cpus c.args.pass.now c.pop_among.new.pass c.in-Some.body c.cpu_of-cpu.ensures.value
    (ap (λ (s : Shape). s.cpus) c.shape.ensures ∙ ap (λ (t : TableView). t.shape.cpus) c.self.view_is) c.in-Some.ensures

pub returns-in-None : goal.returns-in-None
returns-in-None g c =
    popped_before c.args.self.now c.cpu_of-cpu.result c.shape.result.now.cpus c.args.pass.now c.pop_among.new.pass c.pop_among-in-None.new.pass c.pop_among-in-None.result c.cpu_of-cpu.ensures.value
    (ap (λ (s : Shape). s.cpus) c.shape.ensures ∙ ap (λ (t : TableView). t.shape.cpus) c.self.view_is) c.in-None.ensures c.pop_among-in-None.ensures
