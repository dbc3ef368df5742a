use Rattle.std.proofs.Common.{ℕ, ◌+◌, map, refl, subst}
use Rattle.map_types.specs.declared.reply.Reply.TheVariants.{Value}
use Rattle.place_words.specs.declared.bucket_part.NextFound.TheVariants as nexts
use Rattle.place_words.specs.Walks.{Firsts, buckets_from}
use Rattle.place_table.specs.Calls.{reply_of_value}
use Rattle.place_table.specs.Known.{turn_of}
use Rattle.bucket_walks.proofs.Ends.{bucket_here, called_here, called_on}
use Rattle.bucket_walks.proofs.next.key_after.Goals as goal

pub returns-in-Absent-clause-called : goal.returns-in-Absent-clause-called
returns-in-Absent-clause-called g c =
    let key = c.args.key.now in
    let bucket_is = bucket_here key c.shape.ensures c.bucket_number-bucket.ensures.value in
    called_on key nexts.Absent c.requires.can bucket_is c.in-Absent.ensures.looks (reply_of_value c.first_from.result c.first_from.new.out) c.first_from.ensures.walks c.first_from.ensures.walks.trace

pub returns-in-Last-clause-called : goal.returns-in-Last-clause-called
returns-in-Last-clause-called g c =
    let key = c.args.key.now in
    let shape = c.args.table.now.shape in
    let bucket_is = bucket_here key c.shape.ensures c.bucket_number-bucket.ensures.value in
    let walk = c.first_from-in-Last.ensures.walks in
    let reply = reply_of_value c.first_from-in-Last.result c.first_from-in-Last.new.out in
    called_on key nexts.Last c.requires.can bucket_is c.in-Last.ensures.looks reply walk (subst (λ (n : ℕ). Firsts (buckets_from shape (n + 1)) (map (turn_of shape) walk.told) reply) bucket_is walk.trace)

pub returns-in-Key-clause-called : goal.returns-in-Key-clause-called
returns-in-Key-clause-called g c =
    let key = c.args.key.now in
    let out = c.next_in.new.out in
    let bucket_is = bucket_here key c.shape.ensures c.bucket_number-bucket.ensures.value in
    called_here key (nexts.Key out) c.requires.can bucket_is c.in-Key.ensures.looks (Value out) (refl, refl)
