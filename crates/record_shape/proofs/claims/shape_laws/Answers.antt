use Rattle.record_shape.proofs.Shaped.{shaped}
use Rattle.record_shape.proofs.claims.shape_laws.Goals as goal

pub returns : goal.returns
returns c = shaped
