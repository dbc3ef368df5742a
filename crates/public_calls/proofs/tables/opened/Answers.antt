use Rattle.std.proofs.Common.{refl}
use Rattle.public_calls.proofs.TableTurns.{least_made, opened_least}
use Rattle.public_calls.proofs.tables.opened.Goals as goal

pub returns-clause-least : goal.returns-clause-least
returns-clause-least c = opened_least c.create.result c.ok.result c.in-Ok.shape c.ok.ensures.value c.create.ensures (least_made _ c.in-Ok.shape refl c.in-Ok.ensures.exact)
