use Rattle.std.proofs.lemmas.Nat.{and_mask}
use Rattle.key_hash.proofs.bucket_of.Goals as goal

pub returns-clause-remainder : goal.returns-clause-remainder
returns-clause-remainder c = rw c.requires.1 (and_mask c.args.hash c.requires.0)
