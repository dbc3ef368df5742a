use Rattle.record_reading.proofs.ToEndLemmas.{shorter}
use Rattle.record_reading.proofs.to_end.numbers_to_end.Goals as goal

pub loop-rest-smaller : goal.loop-rest-smaller
loop-rest-smaller c = shorter c.args.below c.loop-rest.rest.now (c.in-Some.number, c.in-Some.next.now) c.in-Some.ensures
