use Rattle.std.proofs.Common.{◌∙◌}
use Rattle.percpu_values.proofs.FieldLemmas.{seen_in_fields}
use Rattle.map_types.specs.ValueLen.{round8}
use Rattle.percpu_values.proofs.PartLemmas.{seen_fields}
use Rattle.percpu_values.proofs.values.Values.write_all.Goals as goal

pub copy_fields-requires-clause-exact : goal.copy_fields-requires-clause-exact
copy_fields-requires-clause-exact c =
    let own = c.self.inside in
    c.requires.exact ∙ seen_fields own.parts own.size own.bytes _ round8 c.self.view_is c.self.invariant

pub returns : goal.returns
returns c =
    let own = c.self.inside in
    let exact = c.requires.exact ∙ seen_fields own.parts own.size own.bytes _ round8 c.self.view_is c.self.invariant in
    seen_in_fields own.parts own.size own.bytes c.copy_fields.new.bytes c.args.fields.now _ c.self.view_is c.self.invariant exact c.copy_fields.ensures.written
