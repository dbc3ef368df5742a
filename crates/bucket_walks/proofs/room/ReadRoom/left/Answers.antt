use Rattle.bucket_walks.proofs.Gathered.{left_is, within}
use Rattle.bucket_walks.proofs.room.ReadRoom.left.Goals as goal

pub returns-clause-value : goal.returns-clause-value
returns-clause-value c = left_is c.self.inside c.self.view_is

pub returns-clause-within : goal.returns-clause-within
returns-clause-within c = within c.self.inside c.self.view_is c.self.invariant.0
