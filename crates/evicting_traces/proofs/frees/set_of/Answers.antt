use Rattle.std.proofs.Common.{arith}
use Rattle.place_words.proofs.StartLemmas.{set_some}
use Rattle.evicting_traces.proofs.frees.set_of.Goals as goal

pub nonzero_div-result : goal.nonzero_div-result
nonzero_div-result c = let some = c.requires.bounds.some_cpu in omega arith

pub nonzero_div-result-2 : goal.nonzero_div-result-2
nonzero_div-result-2 c = set_some c.args.shape.now c.requires.bounds c.requires.evicts c.requires.own
