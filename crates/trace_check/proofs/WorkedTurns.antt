-- The turns worked by hand compute.
use Rattle.std.proofs.Common.{refl}
use Rattle.key_hash.specs.Bucket.{bucket_number}
use Rattle.key_hash.specs.Jhash.{hash, absorb, finish, finish_a, finish_b, finish_c, add_block, start}
use Rattle.trace_check.specs.Worked.{ReadInTurn}

pub reads_in_turn : ReadInTurn
unfolding bucket_number hash absorb finish finish_a finish_b finish_c add_block start
reads_in_turn = (refl, refl, refl, refl)
