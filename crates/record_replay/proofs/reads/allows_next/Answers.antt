use Rattle.std.proofs.Common.{List, ℕ, ◌≡◌, ◌+◌, subst, sym, Some, option_map, slice_get}
use Rattle.map_types.specs.Stored.{Stored}
use Rattle.place_words.specs.declared.bucket_part.NextFound.{NextFound}
use Rattle.place_words.specs.Buckets.{AllowsNext}
use Rattle.record_replay.specs.BucketSteps.{IsTold}
use Rattle.record_replay.proofs.BucketLemmas.{told_last, told_key}
use Rattle.record_replay.proofs.reads.allows_next.Goals as goal

pub returns-in-Last : goal.returns-in-Last
returns-in-Last c =
    subst (λ (found : NextFound). IsTold (AllowsNext c.args.key.now found c.args.chain.now.bodies) c.ends_at.result) (sym c.in-Last.is)
    (told_last c.args.key.now c.args.chain.now.bodies c.in-Some.place (sym c.in-Some.ensures.place) c.in-Some.ensures.holder c.in-Some.ensures.found.0 c.ends_at.result c.ends_at.ensures)

pub returns-in-Key : goal.returns-in-Key
returns-in-Key c =
    subst (λ (found : NextFound). IsTold (AllowsNext c.args.key.now found c.args.chain.now.bodies) c.has_key_at.result) (sym c.in-Key.is)
    (told_key c.args.key.now c.args.chain.now.bodies c.in-Some.place (sym c.in-Some.ensures.place) c.in-Some.ensures.holder c.in-Some.ensures.found.0 c.in-Key.next c.has_key_at.result
    (subst (λ (next : List ℕ). IsTold (option_map (λ (body : Stored). body.key) (slice_get c.args.chain.now.bodies (c.in-Some.place + 1)) ≡ Some next) c.has_key_at.result) c.as_slice.ensures c.has_key_at.ensures))
