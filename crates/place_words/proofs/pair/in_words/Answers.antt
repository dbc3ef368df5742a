use Rattle.std.proofs.Common.{arith}
use Rattle.place_words.proofs.PairWords.{all_from, words_of_bytes}
use Rattle.place_words.proofs.pair.in_words.Goals as goal

pub returns-clause-bytes : goal.returns-clause-bytes
returns-clause-bytes c = words_of_bytes c.args.bytes.now _ _ _ _ c.word_of.ensures c.word_of-2.ensures c.word_of-3.ensures (all_from 24 _ c.args.bytes.now _ (omega arith) c.copy_from_slice.ensures.after)
