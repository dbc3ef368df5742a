use Rattle.copy_report.proofs.CopyLemmas.{copy_is}
use Rattle.copy_report.proofs.text.copy_text_of.Goals as goal

pub returns : goal.returns
returns c =
    copy_is c.args.script.now c.args.kept.now c.args.shape.now c.args.target.now c.args.reads.now c.args.options c.as_slice.ensures c.new-text.ensures.bytes
    c.in_ok-add_told.ensures c.in_ok-add_outcome.ensures c.in_ok-add_target.ensures c.in_ok-push_str.ensures.bytes (λ i. (c.into_bytes.ensures.value i).items)
