use Rattle.std.proofs.Common.{◌≡◌, ◌<◌, sym, subst}
use Rattle.key_hash.specs.Bucket.{bucket_number, IsPowerOfTwo}
use Rattle.map_types.proofs.CreationLemmas.{bounds_of_shape}
use Rattle.lru_lists.specs.Probes.{seen_of}
use Rattle.lru_ops.specs.declared.probing.Destination.{Destination}
use Rattle.lru_ops.specs.Askings.{hash_in}
use Rattle.lru_ops.specs.Evictions.{CanChase, ChasedFor}
use Rattle.lru_ops.proofs.Asked.{asked_chased, can_chase, chased_held, chased_other, hash_named, since_chased, probed_more}
use Rattle.lru_ops.proofs.probing.ProbingProbe.evict.Goals as goal

pub bucket_of-bucket-requires : goal.bucket_of-bucket-requires
bucket_of-bucket-requires g c = subst (λ z. IsPowerOfTwo (z.buckets)) (sym c.shape.ensures) ((bounds_of_shape _ c.requires.noted.1.holds.is_shape).buckets_power)

pub chase-requires : goal.chase-requires
chase-requires g c =
    let s = c.args.self.now in
    let noted = c.requires.noted in
    let here = subst (λ z. c.bucket_of-bucket.result ≡ bucket_number c.args.hash z.buckets) c.shape.ensures c.bucket_of-bucket.ensures.value in
    let there = subst (λ z. c.bucket_of-bucket.result < z.buckets) c.shape.ensures c.bucket_of-bucket.ensures.in_range in
    record {
      can = subst (λ (to : Destination). CanChase s.table.now to c.bucket_of-bucket.result c.args.element s.pass.now) (sym noted.0) (can_chase noted.1 c.bucket_of-bucket.result c.args.element c.args.hash here there c.requires.probed.1);
    }

pub returns-clause-probe : goal.returns-clause-probe
returns-clause-probe g c =
    let s = c.args.self.now in
    let done = subst (λ (to : Destination). ChasedFor s.table.now to c.bucket_of-bucket.result c.args.element s.pass.now c.chase.new.pass c.chase.result) c.requires.noted.0 c.chase.ensures in
    probed_more (hash_in g.K.Begun.rows) c.bucket_of-bucket.result c.args.element c.args.hash c.chase.new.pass (seen_of c.chase.result) (hash_named g.K.Begun.rows c.args.element c.args.hash c.requires.probed.0) done.chased

pub returns-clause-noted : goal.returns-clause-noted
returns-clause-noted g c n can =
    let s = c.args.self.now in
    let here = subst (λ z. c.bucket_of-bucket.result ≡ bucket_number c.args.hash z.buckets) c.shape.ensures c.bucket_of-bucket.ensures.value in
    let done = subst (λ (to : Destination). ChasedFor s.table.now to c.bucket_of-bucket.result c.args.element s.pass.now c.chase.new.pass c.chase.result) can.0 c.chase.ensures in
    (can.0, since_chased can.1 c.bucket_of-bucket.result c.args.element c.args.hash c.chase.new.pass (seen_of c.chase.result) here c.requires.probed.0 done.chased)

pub returns-clause-asked : goal.returns-clause-asked
returns-clause-asked g c e may =
    let s = c.args.self.now in
    let done = subst (λ (to : Destination). ChasedFor s.table.now to c.bucket_of-bucket.result c.args.element s.pass.now c.chase.new.pass c.chase.result) c.requires.noted.0 c.chase.ensures in
    asked_chased c.requires.noted.1.holds c.requires.noted.1.holds_for e c.bucket_of-bucket.result c.args.element c.chase.new.pass (seen_of c.chase.result) done.chased may

pub returns-clause-others : goal.returns-clause-others
returns-clause-others g c row other may =
    let s = c.args.self.now in
    chased_other s.table.now s.to g.K.Begun.rows c.bucket_of-bucket.result c.args.element c.args.hash s.pass.now c.chase.new.pass (seen_of c.chase.result) row c.chase.ensures.chased c.requires.probed.0 other may

pub returns-clause-held : goal.returns-clause-held
returns-clause-held g c held =
    let s = c.args.self.now in
    chased_held s.table.now s.to g.K.Begun.rows c.bucket_of-bucket.result c.args.element s.pass.now c.chase.new.pass (record { element = c.args.element; hash = c.args.hash }) c.chase.result held c.chase.ensures.chased c.requires.probed
