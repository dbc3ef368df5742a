use Rattle.std.proofs.Common.{subst, sym}
use Rattle.map_types.specs.declared.kind.DomainId.TheVariants as locks
use Rattle.place_words.specs.declared.bucket_part.BucketPart.{BucketPart}
use Rattle.place_words.specs.declared.history.Part.TheVariants as parts
use Rattle.place_table.specs.declared.content.Content.TheVariants as contents
use Rattle.place_table.specs.Passes.{PassView, CanGive, Gave}
use Rattle.lru_ops.proofs.EvictTurns.{can_detach, can_give_removed, ended_removed}
use Rattle.lru_ops.proofs.probe.give_removed.Goals as goal

pub detach-requires : goal.detach-requires
detach-requires g c = let h = c.requires.taken in can_detach h.inside h.body h.taken

pub give_at-requires : goal.give_at-requires
give_at-requires g c =
    let h = c.requires.taken in
    subst (λ (z : PassView × BucketPart). CanGive c.args.table.now (locks.Bucket c.args.bucket) z.0 (contents.Bucket c.args.chain) (parts.Bucket z.1)) (λ i. (sym c.detach.ensures.1 i, sym c.evict.ensures i))
    (can_give_removed h.inside c.detach.ensures.0 h.body c.args.chain h.taken h.left_is)

pub returns : goal.returns
returns g c =
    let h = c.requires.taken in
    ended_removed h.inside c.detach.ensures.0 h.body c.args.chain c.give_at.new.pass h.taken h.left_is
    (subst (λ (z : PassView × BucketPart). Gave z.0 c.give_at.new.pass (parts.Bucket z.1)) (λ i. (c.detach.ensures.1 i, c.evict.ensures i)) c.give_at.ensures)
