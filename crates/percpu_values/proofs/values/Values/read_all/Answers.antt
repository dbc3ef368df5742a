use Rattle.std.proofs.Common.{◌∙◌}
use Rattle.map_types.specs.ValueLen.{round8}
use Rattle.percpu_values.proofs.PartLemmas.{seen_fields, seen_sizes}
use Rattle.percpu_values.proofs.values.Values.read_all.Goals as goal

pub copy_parts-requires-clause-exact : goal.copy_parts-requires-clause-exact
copy_parts-requires-clause-exact c =
    let own = c.self.inside in
    c.requires.exact ∙ seen_fields own.parts own.size own.bytes _ round8 c.self.view_is c.self.invariant

pub returns-clause-one_size : goal.returns-clause-one_size
returns-clause-one_size c =
    seen_sizes c.self.inside.parts c.self.inside.size c.self.inside.bytes _ c.self.view_is c.self.invariant
