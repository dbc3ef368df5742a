use Rattle.std.proofs.Common.{◌≡◌, [], length, ◌∙◌, arith, take_all}
use Rattle.std.proofs.lemmas.List.{take_rest, drop_all}
use Rattle.map_script.specs.Lines.{is_line_feed}
use Rattle.map_script.proofs.Splitting.{none_passes, line_at, last_line, feed_at, no_feed}
use Rattle.map_script.proofs.lines.cut_line.Goals as goal

pub returns-in-Some-clause-lines : goal.returns-in-Some-clause-lines
returns-in-Some-clause-lines c =
    let text = c.args.text.now in
    let at = c.in-Some.at in
    let found = c.in-Some.ensures in
    rw take_rest (line_at text at found.0.high found.1 (none_passes is_line_feed text at found.0.before))

pub returns-in-Some-clause-line_feeds : goal.returns-in-Some-clause-line_feeds
returns-in-Some-clause-line_feeds c =
    let text = c.args.text.now in
    let at = c.in-Some.at in
    let found = c.in-Some.ensures in
    rw take_rest (feed_at text at found.0.high found.1 (none_passes is_line_feed text at found.0.before))

pub returns-in-None-clause-lines : goal.returns-in-None-clause-lines
returns-in-None-clause-lines c =
    let text = c.args.text.now in
    let whole : c.split_at.result.0.now ≡ text = c.split_at.ensures.front ∙ take_all (length text) text (omega arith) in
    let nothing : c.split_at.result.1.now ≡ [] = c.split_at.ensures.back ∙ drop_all (length text) text (omega arith) in
    rw (whole, nothing) (last_line text (none_passes is_line_feed text (length text) c.in-None.ensures))

pub returns-in-None-clause-line_feeds : goal.returns-in-None-clause-line_feeds
returns-in-None-clause-line_feeds c =
    let text = c.args.text.now in
    let nothing : c.split_at.result.1.now ≡ [] = c.split_at.ensures.back ∙ drop_all (length text) text (omega arith) in
    rw nothing (omega (arith, no_feed text (none_passes is_line_feed text (length text) c.in-None.ensures)))
