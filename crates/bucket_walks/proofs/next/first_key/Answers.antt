use Rattle.place_table.specs.Calls.{reply_of_value}
use Rattle.bucket_walks.proofs.Ends.{called_first}
use Rattle.bucket_walks.proofs.next.first_key.Goals as goal

pub returns-clause-called : goal.returns-clause-called
returns-clause-called g c = called_first (reply_of_value c.first_from.result c.first_from.new.out) c.requires.can c.first_from.ensures.walks
