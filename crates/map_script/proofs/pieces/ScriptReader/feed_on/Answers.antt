use Rattle.map_script.specs.Pieces.{IsFed}
use Rattle.map_script.proofs.PieceLemmas.{fed_both, on_ok}
use Rattle.map_script.proofs.pieces.ScriptReader.feed_on.Goals as goal

pub returns-clause-fed : goal.returns-clause-fed
returns-clause-fed c =
    let before = c.args.self.now in
    let middle = c.end_line.new.self in
    let after = c.feed_lines-2.new.self in
    let piece = c.args.piece.now in
    on_ok c.feed_lines-2.result (IsFed before piece after) (IsFed middle c.in-Some.rest.now after) c.feed_lines-2.ensures.fed
    (λ two. fed_both before middle after piece c.in-Some.ending.now c.in-Some.rest.now c.in_ok-end_line.ensures.fed two c.in-Some.ensures.0)
