use Rattle.public_calls.proofs.InPieces.{few_feeds}
use Rattle.public_calls.proofs.scripts.read.Goals as goal

pub read_script-requires : goal.read_script-requires
read_script-requires c = few_feeds c.as_bytes-bytes.result.now c.if-bytes-gt16777216.false
