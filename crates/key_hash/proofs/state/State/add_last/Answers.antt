use Rattle.key_hash.specs.State.{words_of}
use Rattle.key_hash.proofs.LastWords.{adds_last}
use Rattle.key_hash.proofs.state.State.add_last.Goals as goal

pub returns : goal.returns
returns c = adds_last (words_of c.args.self.now) c.args.bytes.now c.word_at.result c.word_at-2.result c.word_at-3.result c.word_at.ensures c.word_at-2.ensures c.word_at-3.ensures
