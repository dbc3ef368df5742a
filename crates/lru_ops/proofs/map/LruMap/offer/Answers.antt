use Rattle.place_table.proofs.BucketUnder.{holds_bucket}
use Rattle.lru_ops.proofs.Offering.{can_free_ends, offer_answers}
use Rattle.lru_ops.proofs.map.LruMap.offer.Goals as goal

pub update_in-answer-requires-clause-holds : goal.update_in-answer-requires-clause-holds
update_in-answer-requires-clause-holds g c κs within = holds_bucket c.enter-chain.ensures.inside

pub update_in-answer-requires-clause-real : goal.update_in-answer-requires-clause-real
update_in-answer-requires-clause-real g c κs within = c.requires.can.taken.real

pub free_left-requires : goal.free_left-requires
free_left-requires g c = (
  c.type_bounds.sync-G,
  can_free_ends c.requires.can c.requires.gives.bucket_is c.enter-chain.ensures c.update_in-answer.new.pass c.args.write.side c.args.write.flags c.args.write.value.now c.update_in-answer.result.left c.update_in-answer.result.answer c.update_in-answer.ensures.ends,
)

pub returns-clause-answers : goal.returns-clause-answers
returns-clause-answers g c =
    offer_answers c.requires.can c.requires.gives.bucket_is c.enter-chain.ensures c.update_in-answer.new.pass c.args.write.side c.args.write.flags c.args.write.value.now c.update_in-answer.result.left c.free_left.new.pass c.update_in-answer.result.answer c.update_in-answer.ensures.ends c.free_left.ensures
