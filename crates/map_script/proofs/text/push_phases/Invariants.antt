use Rattle.std.proofs.Common.{◌≡◌, ◌++◌, drop}
use Rattle.map_script.specs.Canonical.{phased_text}
use Rattle.map_script.proofs.text.push_phases.Given as goal

-- the text so far, and that of the calls and the cuts that are left, are the whole text
abbrev pub invariant-loop-cut : goal.invariant-loop-cut
invariant-loop-cut l =
    l.text.items ++ phased_text l.before (drop l.cut-index l.cuts) l.rest ≡ l.initial.text.items ++ phased_text 0 l.cuts l.calls
