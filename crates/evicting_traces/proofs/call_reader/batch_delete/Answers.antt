use Rattle.std.proofs.Common.{◌≡◌, ℕ, List, [], length}
use Rattle.std.proofs.lemmas.List.Elements.{All-get_or}
use Rattle.evicting_traces.proofs.call_reader.batch_delete.Goals as goal

pub read_deletes-requires-clause-keys : goal.read_deletes-requires-clause-keys
read_deletes-requires-clause-keys c = λ i within. All-get_or (λ (key : List ℕ). length key ≡ c.args.shape.now.key_size) c.args.keys.now i [] within c.requires.keys
