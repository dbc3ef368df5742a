use Rattle.std.proofs.Common.{◌+◌, length, sym, take-append-drop}
use Rattle.map_script.specs.Lines.{is_line_feed}
use Rattle.map_script.proofs.Splitting.{none_passes, no_feed}
use Rattle.map_script.proofs.PieceLines.{cut_ends}
use Rattle.map_script.proofs.pieces.cut_first.Goals as goal

pub returns-in-None : goal.returns-in-None
returns-in-None c =
    let text = c.args.text.now in
    no_feed text (none_passes is_line_feed text (length text) c.in-None.ensures)

pub returns-in-Some : goal.returns-in-Some
returns-in-Some c =
    let text = c.args.text.now in
    let at = c.in-Some.at in
    let found = c.in-Some.ensures in
    rw (c.split_at.ensures.front, c.split_at.ensures.back) (sym (take-append-drop (at + 1) text), cut_ends text at found.0.high found.1)
