use Rattle.std.proofs.Common.{arith}
use Rattle.place_words.proofs.PairWords.{all_from, key_of_words, value_of_words}
use Rattle.place_words.proofs.pair.usual_pair.Goals as goal

pub returns-clause-key : goal.returns-clause-key
returns-clause-key c = key_of_words c.args.key.now _ _ _ c.if-key.false c.word_of.ensures (all_from 8 _ c.args.key.now _ (omega arith) c.word_of-2.ensures)

pub returns-clause-value : goal.returns-clause-value
returns-clause-value c = value_of_words c.args.key.now c.args.value.now _ _ _ _ c.if-key.false c.if-value-ne-WORD.false c.word_of.ensures (all_from 8 _ c.args.key.now _ (omega arith) c.word_of-2.ensures) c.word_of-3.ensures
