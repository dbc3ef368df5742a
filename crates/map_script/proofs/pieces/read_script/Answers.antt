use Rattle.map_script.proofs.PieceLemmas.{fed_whole}
use Rattle.map_script.proofs.TargetTold.{target-reading}
use Rattle.map_script.proofs.WellFormedLemmas.{IsWellFormed-reading}
use Rattle.map_script.proofs.pieces.read_script.Goals as goal

pub returns-clause-exact : goal.returns-clause-exact
returns-clause-exact c =
    fed_whole c.args.form c.in_ok-reader.reader c.feed.new.self c.args.text.now c.finish.result c.in_ok-reader.ensures.empty c.in_ok-feed.ensures.fed
    (λ bytes stands. c.finish.ensures.exact c.args.form bytes stands)

pub returns-clause-well_formed : goal.returns-clause-well_formed
returns-clause-well_formed c =
    IsWellFormed-reading c.args.form c.args.text.now c.finish.result
    (fed_whole c.args.form c.in_ok-reader.reader c.feed.new.self c.args.text.now c.finish.result c.in_ok-reader.ensures.empty c.in_ok-feed.ensures.fed
    (λ bytes stands. c.finish.ensures.exact c.args.form bytes stands))

pub returns-clause-target : goal.returns-clause-target
returns-clause-target c =
    target-reading c.args.form c.args.text.now c.finish.result
    (fed_whole c.args.form c.in_ok-reader.reader c.feed.new.self c.args.text.now c.finish.result c.in_ok-reader.ensures.empty c.in_ok-feed.ensures.fed
    (λ bytes stands. c.finish.ensures.exact c.args.form bytes stands))
