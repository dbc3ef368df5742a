use Rattle.std.proofs.Common.{refl}
use Rattle.record_reading.proofs.ReplyLemmas.{replies_start}
use Rattle.record_reading.proofs.replies.read_replies.Goals as goal

pub loop-index-init : goal.loop-index-init
loop-index-init c = (replies_start c.args.script.now.shape c.args.script.now.calls c.args.lines.now.0 c.of-replies.result (cc), refl)
