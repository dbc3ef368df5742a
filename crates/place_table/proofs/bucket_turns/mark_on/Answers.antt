use Rattle.std.proofs.Common.{ap, sym, ◌∙◌}
use Rattle.map_types.specs.declared.attr.Shape.{Shape}
use Rattle.map_types.specs.Kind.{is_lru}
use Rattle.place_table.proofs.bucket_turns.mark_on.Goals as goal

pub mark-requires : goal.mark-requires
mark-requires c = c.requires (ap (λ (s : Shape). is_lru s.kind) (sym c.shape.ensures) ∙ sym c.if-is_lru.ensures)
