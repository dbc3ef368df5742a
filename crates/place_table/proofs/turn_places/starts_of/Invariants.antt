use Rattle.std.proofs.Common.{◌≡◌, ℕ, ◌<◌, length, get_or}
use Rattle.place_table.specs.TurnPlaces.{turns_before}
use Rattle.place_table.proofs.turn_places.starts_of.Given as goal

-- those of the buckets so far
abbrev pub invariant-loop-count : goal.invariant-loop-count
invariant-loop-count l = record {
  many : length l.starts.items ≡ l.count-index;
  next : l.next ≡ turns_before l.counts l.count-index;
  each : (bucket : ℕ) → bucket < l.count-index → get_or l.starts.items bucket 0 ≡ turns_before l.counts bucket;
}
