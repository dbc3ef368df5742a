use Rattle.std.proofs.Common.{map, drop, Bool}
use Rattle.place_words.specs.Interleaving.{does}
use Rattle.step_check.specs.Answers.{view_of}
use Rattle.step_check.specs.Ran.{Ran, step_of}
use Rattle.step_check.specs.WordsView.{WordsView, AreWords}
use Rattle.step_check.proofs.change.run_changes.Given as goal

-- what the changes that are left answer is the answer
abbrev pub invariant-loop-change : goal.invariant-loop-change
invariant-loop-change l =
    AreWords (view_of l.kept)
    × ((now : WordsView) (answer : Bool) → Ran (view_of l.kept) (map does (map (step_of l.cpu) (drop l.change-index l.changes))) now answer → Ran (view_of l.fn.kept) (map does (map (step_of l.cpu) l.changes)) now answer)
