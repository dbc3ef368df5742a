-- The turns worked by hand compute.
use Rattle.std.proofs.Common.{refl}
use Rattle.key_hash.specs.Bucket.{bucket_number}
use Rattle.key_hash.specs.Jhash.{hash, absorb, finish, finish_a, finish_b, finish_c, add_block, start}
use Rattle.place_words.specs.Histories.{replayed}
use Rattle.place_words.specs.Locals.{local_after}
use Rattle.place_words.specs.Globals.{global_after, with_flushed}
use Rattle.evicting_traces.specs.Worked.{ReadInTurn}

pub reads_in_turn : ReadInTurn
unfolding bucket_number hash absorb finish finish_a finish_b finish_c add_block start replayed local_after global_after with_flushed
reads_in_turn = (refl, refl, refl, refl, refl)
