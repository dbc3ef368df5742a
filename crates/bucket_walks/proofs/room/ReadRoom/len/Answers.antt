use Rattle.std.proofs.Common.{sym}
use Rattle.bucket_walks.proofs.Gathered.{counted}
use Rattle.bucket_walks.proofs.room.ReadRoom.len.Goals as goal

pub returns : goal.returns
returns c = sym (counted c.self.inside c.self.view_is)
