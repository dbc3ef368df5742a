use Rattle.std.proofs.lemmas.List.{take_rest}
use Rattle.map_script.proofs.FrontLemmas.{space_parts}
use Rattle.map_script.proofs.front.word_at_front.Goals as goal

pub returns : goal.returns
returns c =
    rw take_rest (space_parts c.args.text.now c.in_ok-at.at c.in_ok-at.ensures.0 c.in_ok-at.ensures.1)
