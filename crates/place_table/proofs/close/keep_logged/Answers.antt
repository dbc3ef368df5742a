use Rattle.std.proofs.Common.{◌≡◌, ℕ, ◌+◌, ◌<◌, ◌∙◌, List, Vec, Global, length, sym, subst, arith}
use Rattle.std.proofs.lemmas.List.{get_or_default}
use Rattle.place_words.specs.declared.turn_logs.LoggedTurn.{LoggedTurn}
use Rattle.place_words.specs.Locks.{first_bucket}
use Rattle.place_table.specs.Leaving.{AreKept}
use Rattle.place_table.specs.TurnPlaces.{ArePlaced, turns_before}
use Rattle.place_table.proofs.Leaves.{bucket_named, has_bucket}
use Rattle.place_table.proofs.TurnPlaces.{history_made}
use Rattle.place_table.proofs.close.keep_logged.Goals as goal

pub loop-bucket-preserved : goal.loop-bucket-preserved
loop-bucket-preserved c =
    let so_far = c.loop-bucket.invariant in
    let counts = c.args.counts.now in
    let bucket : ℕ = c.loop-bucket.bucket in
    let placed : ArePlaced counts c.args.logs.items (length c.args.logs.items) 0 c.in_ok-places.places.items =
    subst (λ (l : List (Vec LoggedTurn Global)). ArePlaced counts l (length l) 0 c.in_ok-places.places.items) c.as_slice-2.ensures.value c.in_ok-places.ensures.placed in
    let starts : List ℕ = c.in_ok-starts.starts.items in
    let within : bucket < length starts = omega (arith, c.in_ok-starts.ensures.many) in
    let start : c.index.result.now ≡ turns_before counts bucket =
    c.index.ensures ∙ get_or_default starts bucket c.index.result.now 0 within ∙ c.in_ok-starts.ensures.each bucket (omega arith) in record {
      kept = λ shape log lost are told first.
          let below : bucket < shape.buckets = omega (arith, are.counted) in
          let next : first_bucket shape + bucket + 1 ≡ first_bucket shape + (bucket + 1) = omega arith in
          let history = history_made shape log lost c.args.logs c.in_ok-places.places counts told are c.in_ok-places.ensures.many placed
          bucket c.index.result.now c.in_ok-logs.logs.value c.in_ok-history.history below start c.in_ok-logs.ensures.ok c.in_ok-history.ensures in
          subst (λ (n : ℕ). AreKept shape log lost n c.keep.new.self.kept.items c.keep.new.self.lost) next
          (c.keep.ensures.kept shape log lost (first_bucket shape + bucket) (sym (bucket_named shape bucket below)) (has_bucket shape bucket below) history (so_far.kept shape log lost are told first));
      room = c.keep.ensures.capacity ∙ so_far.room;
      few = omega (arith, c.keep.ensures.longer, so_far.few);
    }

pub returns-clause-kept : goal.returns-clause-kept
returns-clause-kept c = λ shape log lost are told first.
    let all : first_bucket shape + c.loop-bucket.bucket ≡ first_bucket shape + shape.buckets = omega (arith, are.counted) in
    subst (λ (n : ℕ). AreKept shape log lost n c.loop-bucket.histories.kept.items c.loop-bucket.histories.lost) all (c.loop-bucket.invariant.kept shape log lost are told first)
