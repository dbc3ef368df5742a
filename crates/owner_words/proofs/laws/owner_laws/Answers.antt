use Rattle.owner_words.proofs.OneByOne.{one_by_one}
use Rattle.owner_words.proofs.laws.owner_laws.Goals as goal

pub returns : goal.returns
returns c = one_by_one
