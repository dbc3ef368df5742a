use Rattle.std.proofs.Common.{◌+◌, sym, arith}
use Rattle.place_table.proofs.TurnPlaces.{none_past, next_start}
use Rattle.place_table.proofs.turn_places.places_of_bucket.Goals as goal

pub returns-then-bucket-starts : goal.returns-then-bucket-starts
returns-then-bucket-starts c =
    let counts = c.args.counts.now in
    let many = c.requires.many in
    let here = c.requires.each c.args.bucket (omega arith) in
    let next = c.requires.each (c.args.bucket + 1) (omega arith) in
    let more = next_start counts c.args.bucket (omega arith) in
    omega (arith, c.saturating_sub.ensures, here, next, more)

pub returns-else-bucket-starts : goal.returns-else-bucket-starts
returns-else-bucket-starts c =
    let many = c.requires.many in
    sym (none_past c.args.counts.now c.args.bucket (omega arith))
