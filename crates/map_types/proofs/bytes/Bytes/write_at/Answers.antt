use Rattle.std.proofs.Common.{rules, arith, ap, sym, ◌∙◌}
use Rattle.map_types.specs.Bytes.{bytes_of}
use Rattle.map_types.proofs.ByteLemmas.{copied_within}
use Rattle.map_types.proofs.bytes.Bytes.write_at.Goals as goal

pub returns-in-Short : goal.returns-in-Short
returns-in-Short c =
    copied_within c.in-Short.len c.args.start _ c.in-Short.bytes c.args.source.now c.args.self.now c.copy_from_slice.new.self (search rules) (ap bytes_of (sym c.in-Short.is) ∙ c.self.view_is) c.requires (omega arith) c.copy_from_slice.ensures.after
