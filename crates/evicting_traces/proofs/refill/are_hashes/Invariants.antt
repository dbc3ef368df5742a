use Rattle.std.proofs.Common.{◌≡◌, drop}
use Rattle.std.specs.Prelude.{bytes_eq}
use Rattle.evicting_traces.specs.Calls.{flushed_hashes}
use Rattle.evicting_traces.proofs.refill.are_hashes.Given as goal

abbrev pub invariant-loop-flush : goal.invariant-loop-flush
invariant-loop-flush l = bytes_eq (flushed_hashes l.flushed) l.hashes ≡ bytes_eq (flushed_hashes (drop l.flush-index l.flushed)) l.left
