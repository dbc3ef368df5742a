use Rattle.std.proofs.Common.{sym, ◌∙◌}
use Rattle.lru_ops.proofs.EvictTurns.{found_body}
use Rattle.lru_ops.proofs.probe.look_in.Goals as goal

pub returns-in-Some : goal.returns-in-Some
returns-in-Some g c = record {
  ended = c.give_removed.ensures;
  body = found_body c.args.table.now.shape c.args.element c.args.chain.bodies c.in-Some.body c.requires.inside.sized (sym c.take_element.ensures.taken ∙ c.in-Some.is);
}
