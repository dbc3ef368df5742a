use Rattle.place_words.specs.OpeningState.{opening_home}
use Rattle.place_words.proofs.StartLemmas.{map_next}
use Rattle.step_check.proofs.first_words.homes_at_first.Goals as goal

pub loop-element-preserved : goal.loop-element-preserved
loop-element-preserved c =
    map_next (opening_home c.args.shape.now) c.loop-element.element c.loop-element.homes.items c.push.new.self.items c.home_at_first.result c.loop-element.invariant c.home_at_first.ensures c.in_ok-push.ensures.items
