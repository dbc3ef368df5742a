use Rattle.std.proofs.Common.{length}
use Rattle.std.proofs.lemmas.List.{take_rest}
use Rattle.map_script.specs.Lines.{is_line_feed}
use Rattle.map_script.proofs.Splitting.{none_passes}
use Rattle.run_endings.proofs.Dividing.{first_line, last_line, line_and_rest}
use Rattle.run_endings.proofs.division.cut_line.Goals as goal

pub returns-in-Some-clause-lines : goal.returns-in-Some-clause-lines
returns-in-Some-clause-lines c =
    let text = c.args.text.now in
    let at = c.in-Some.at in
    let found = c.in-Some.ensures in
    rw take_rest (first_line text at found.0.high found.1 (none_passes is_line_feed text at found.0.before))

pub returns-in-Some-clause-whole : goal.returns-in-Some-clause-whole
returns-in-Some-clause-whole c =
    let found = c.in-Some.ensures in
    rw take_rest (line_and_rest c.args.text.now c.in-Some.at found.0.high found.1)

pub returns-in-None-clause-lines : goal.returns-in-None-clause-lines
returns-in-None-clause-lines c = last_line c.args.text.now (none_passes is_line_feed c.args.text.now (length c.args.text.now) c.in-None.ensures)
