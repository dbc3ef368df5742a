use Rattle.map_script.specs.Pieces.{IsFed}
use Rattle.map_script.proofs.PieceLemmas.{fed_both, on_ok}
use Rattle.map_script.proofs.pieces.ScriptReader.feed_lines.Goals as goal

pub returns-clause-fed : goal.returns-clause-fed
returns-clause-fed c =
    let before = c.args.self.now in
    let middle = c.read_whole.new.self in
    let after = c.keep-2.new.self in
    let piece = c.args.piece.now in
    on_ok c.keep-2.result (IsFed before piece after) (IsFed middle c.in-Some.rest.now after) c.keep-2.ensures.fed
    (λ two. fed_both before middle after piece c.in-Some.whole.now c.in-Some.rest.now c.in_ok-read_whole.ensures.fed two c.in-Some.ensures.0)
