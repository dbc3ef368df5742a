use Rattle.std.proofs.Common.{◌<◌, subst, sym, refl}
use Rattle.map_types.specs.declared.kind.DomainId.TheVariants as locks
use Rattle.place_words.specs.declared.bucket_part.BucketPart.{BucketPart}
use Rattle.place_words.specs.declared.history.Part.TheVariants as parts
use Rattle.place_words.specs.declared.owner.Owner.{Owner}
use Rattle.place_words.specs.Places.{MayOwn}
use Rattle.place_table.specs.declared.content.Content.TheVariants as contents
use Rattle.place_table.specs.Passes.{PassView, CanGive, Gave}
use Rattle.lru_ops.proofs.EvictTurns.{is_in_hand, not_own_hand, can_give_held, ended_held}
use Rattle.lru_ops.proofs.probe.give_held.Goals as goal

pub unreachable-requires : goal.unreachable-requires
unreachable-requires g c = is_in_hand c.requires.inside c.owner_of.result c.owner_of.ensures.fits c.requires.none c.in_default.not-Hand

pub give_at-requires : goal.give_at-requires
give_at-requires g c =
    let seen = c.owner_of.ensures in
    let holder = c.in-Hand.holder in
    let few : holder < c.args.table.now.shape.cpus = subst (λ (o : Owner). MayOwn c.args.table.now.shape o) c.in-Hand.is seen.exists_there in
    subst (λ (z : PassView × BucketPart). CanGive c.args.table.now (locks.Bucket c.args.bucket) z.0 (contents.Bucket c.args.chain) (parts.Bucket z.1)) (λ i. (sym seen.after_is i, sym c.evict.ensures i))
    (can_give_held c.requires.inside seen.at holder c.owner_of.result c.args.chain c.requires.none refl c.in-Hand.is few (not_own_hand c.requires.inside c.owner_of.result holder seen.fits c.in-Hand.is))

pub returns : goal.returns
returns g c =
    let seen = c.owner_of.ensures in
    let holder = c.in-Hand.holder in
    let few : holder < c.args.table.now.shape.cpus = subst (λ (o : Owner). MayOwn c.args.table.now.shape o) c.in-Hand.is seen.exists_there in
    ended_held c.requires.inside seen.at holder c.owner_of.result c.args.chain c.give_at.new.pass c.requires.none refl c.in-Hand.is few (not_own_hand c.requires.inside c.owner_of.result holder seen.fits c.in-Hand.is)
    (subst (λ (z : PassView × BucketPart). Gave z.0 c.give_at.new.pass (parts.Bucket z.1)) (λ i. (seen.after_is i, c.evict.ensures i)) c.give_at.ensures)
