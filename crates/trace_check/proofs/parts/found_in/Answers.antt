use Rattle.std.proofs.Common.{refl}
use Rattle.trace_check.specs.Calls.{found_in}
use Rattle.trace_check.proofs.CommonParts.{none_of}
use Rattle.trace_check.proofs.parts.found_in.Goals as goal

pub returns-in_err-part : goal.returns-in_err-part
returns-in_err-part c = rw c.from_residual.ensures (none_of (found_in c.args.key.now) c.args.packed.now (λ s k got. refl) (λ s f k v offer put. refl) (λ k taken. refl) (λ e probed. refl) c.in_err-part.ensures)
