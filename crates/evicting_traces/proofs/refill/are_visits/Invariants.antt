use Rattle.std.proofs.Common.{◌≡◌, drop, map}
use Rattle.place_words.specs.Globals.{flush_visit}
use Rattle.evicting_traces.specs.Parts.{same_visits}
use Rattle.evicting_traces.proofs.refill.are_visits.Given as goal

abbrev pub invariant-loop-flush : goal.invariant-loop-flush
invariant-loop-flush l = same_visits (map flush_visit l.flushed) l.visits ≡ same_visits (map flush_visit (drop l.flush-index l.flushed)) l.left
