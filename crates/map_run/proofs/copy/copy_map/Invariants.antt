use Rattle.std.proofs.Common.{◌≡◌, List, length}
use Rattle.map_batch.specs.Calls.{table_of}
use Rattle.map_copy.specs.Copied.{Step}
use Rattle.map_copy.specs.Plans.{IsCopying}
use Rattle.map_run.specs.Copying.{HaveCopied}
use Rattle.map_run.proofs.copy.copy_map.Given as goal

-- The pages so far were copied, and another one is next.
abbrev pub invariant-loop-done : goal.invariant-loop-done
invariant-loop-done g l =
    (steps : List Step) × (length steps ≡ l.done) × (l.plan.elements ≡ (table_of l.source).shape.elements) × IsCopying l.count steps l.plan
    × HaveCopied (table_of l.source) (table_of l.target) l.before steps l.fn.pass l.pass l.fn.put_pass l.put_pass l.copied.reads l.copied.puts.items
