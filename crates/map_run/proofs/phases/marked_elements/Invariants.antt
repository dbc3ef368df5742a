use Rattle.run_records.specs.Phased.{SawBits}
use Rattle.map_run.proofs.phases.marked_elements.Given as goal

-- the bits so far were read
abbrev pub invariant-loop-element : goal.invariant-loop-element
invariant-loop-element l = SawBits l.element l.fn.pass l.pass l.marked.items
