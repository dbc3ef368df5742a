use Rattle.std.proofs.Common.{length, map}
use Rattle.std.specs.Prelude.{codes}
use Rattle.map_report.specs.Summary.{element_lines, outcome_line, outcomes, summary_lines, total_line}
use Rattle.map_report.proofs.SummaryLemmas.{three_parts}
use Rattle.map_report.proofs.summary.add_summary.Goals as goal

pub returns : goal.returns
unfolding summary_lines
returns g c =
    let kept = c.args.kept.now in
    three_parts g.L.Lines.line (total_line (codes "calls") (length c.args.script.now.calls)) (map (outcome_line kept.replies) outcomes) (element_lines kept) c.add_elements.result
    _ _ _ _ c.in_ok-add_calls.ensures c.in_ok-add_replies.ensures c.add_elements.ensures
