use Rattle.std.proofs.Common.{ap, ◌∙◌, sym, length}
use Rattle.map_types.specs.Parts.{part_size}
use Rattle.percpu_values.proofs.SizeLemmas.{sizes-at}
use Rattle.percpu_values.proofs.values.Values.read_own.Goals as goal

pub copy_from_slice-requires : goal.copy_from_slice-requires
copy_from_slice-requires c =
    let sized = sizes-at (part_size c.args.self.now) c.args.part c.args.self.now c.part.ensures.one_size c.requires.in_range in
    c.requires.exact ∙ sym (ap length c.part.ensures.bytes ∙ sized)
