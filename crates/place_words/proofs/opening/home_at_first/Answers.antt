use Rattle.std.proofs.Common.{arith, sym, ◌∙◌}
use Rattle.map_types.proofs.CreationLemmas.{bounds_of_shape}
use Rattle.place_words.proofs.StartLemmas.{set_some}
use Rattle.place_words.proofs.opening.home_at_first.Goals as goal

pub nonzero_div-result : goal.nonzero_div-result
nonzero_div-result c = omega (arith, (bounds_of_shape c.args.shape.now c.requires.shape).some_cpu)

pub nonzero_div-result-then-is_lru : goal.nonzero_div-result-then-is_lru
nonzero_div-result-then-is_lru c =
    set_some c.args.shape.now (bounds_of_shape c.args.shape.now c.requires.shape) (sym c.is_lru.ensures ∙ c.if-is_lru.true) c.if-shape.false
