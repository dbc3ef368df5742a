use Rattle.std.proofs.Common.{◌<◌, ◌/◌, arith, sym, subst}
use Rattle.map_types.specs.declared.attr.Shape.{Shape}
use Rattle.map_types.proofs.CreationLemmas.{bounds_of_shape}
use Rattle.place_words.proofs.StartLemmas.{set_some}
use Rattle.place_words.specs.Takings.{set_of}
use Rattle.lru_ops.proofs.Pushes.{set_within}
use Rattle.lru_ops.proofs.push.set_of.Goals as goal

pub nonzero_div-result : goal.nonzero_div-result
nonzero_div-result c =
    let some = (bounds_of_shape _ c.requires.evicts.0).some_cpu in
    subst (λ (s : Shape). 0 < s.cpus) (sym c.shape-shape.ensures) (omega arith)

pub nonzero_div-result-2 : goal.nonzero_div-result-2
nonzero_div-result-2 c =
    subst (λ (s : Shape). 0 < s.elements / s.cpus) (sym c.shape-shape.ensures) (set_some _ (bounds_of_shape _ c.requires.evicts.0) c.requires.evicts.1 c.requires.own_lists)

pub returns-clause-in_range : goal.returns-clause-in_range
returns-clause-in_range c =
    let shape = c.args.table.now.shape in
    subst (λ (s : Shape). set_of s c.args.element < shape.cpus) (sym c.shape-shape.ensures) (set_within shape (bounds_of_shape _ c.requires.evicts.0) c.requires.evicts.1 c.requires.own_lists c.args.element c.requires.real)
