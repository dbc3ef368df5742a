use Rattle.public_calls.proofs.InPieces.{few_feeds}
use Rattle.public_calls.proofs.pieces.read.Goals as goal

pub read_in_pieces-requires-clause-line_feeds : goal.read_in_pieces-requires-clause-line_feeds
read_in_pieces-requires-clause-line_feeds c = few_feeds c.as_bytes-bytes.result.now c.if-bytes-gt16777216.false
