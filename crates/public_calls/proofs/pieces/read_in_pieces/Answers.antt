use Rattle.std.proofs.Common.{◌≡◌, ◌++◌, length, [], rules}
use Rattle.map_script.proofs.FrontLemmas.{parts_joined}
use Rattle.public_calls.proofs.InPieces.{taken_none, taken_more, taken_all, feeds_fit, emptied}
use Rattle.public_calls.proofs.pieces.read_in_pieces.Goals as goal

pub loop-rest-init : goal.loop-rest-init
loop-rest-init c = taken_none c.args.form c.in_ok-reader.reader c.args.text.now c.in_ok-reader.ensures.empty c.in_ok-reader.ensures.line_feeds

pub feed-requires : goal.feed-requires
feed-requires c =
    let rest = c.loop-rest.rest.now in
    let piece = c.split_at.result.0.now in
    let more = c.split_at.result.1.now in
    let parts : rest ≡ piece ++ more = parts_joined c.min.result rest piece more c.split_at.ensures.front c.split_at.ensures.back in
    feeds_fit c.args.form c.loop-rest.reader c.args.text.now rest piece more 4294967293 c.loop-rest.invariant parts c.requires.line_feeds

pub loop-rest-preserved : goal.loop-rest-preserved
loop-rest-preserved c =
    let rest = c.loop-rest.rest.now in
    let piece = c.split_at.result.0.now in
    let more = c.split_at.result.1.now in
    let parts : rest ≡ piece ++ more = parts_joined c.min.result rest piece more c.split_at.ensures.front c.split_at.ensures.back in
    taken_more c.args.form c.loop-rest.reader c.feed.new.self c.args.text.now rest piece more c.loop-rest.invariant c.in_ok-feed.ensures.fed parts

pub returns : goal.returns
returns c =
    let none : c.loop-rest.rest.now ≡ [] = emptied c.loop-rest.rest.now c.is_empty.result c.is_empty.ensures c.loop-rest-test.false in
    c.finish.ensures.exact c.args.form c.args.text.now (taken_all c.args.form c.loop-rest.reader c.args.text.now c.loop-rest.rest.now c.loop-rest.invariant none)
