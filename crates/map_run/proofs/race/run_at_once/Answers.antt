use Rattle.std.proofs.Common.{◌≡◌, length, ap, ◌∙◌, arith}
use Rattle.std.proofs.lemmas.List.FromFn.{length-map-range_with_len}
use Rattle.map_types.proofs.CreationLemmas.{bounds_of_shape}
use Rattle.map_batch.specs.Calls.{table_of}
use Rattle.map_run.proofs.race.run_at_once.Goals as goal

pub pieces_of-requires : goal.pieces_of-requires
pieces_of-requires g c =
    let raced = c.in_ok-replies.ensures in
    let few = (bounds_of_shape (table_of c.args.map.now).shape c.requires.shape).cpus_bounded in
    let long : length c.as_slice.result.now ≡ (table_of c.args.map.now).shape.cpus =
    ap length (c.as_slice.ensures.value ∙ raced.counts_are) ∙ length-map-range_with_len (λ cpu. length (raced.kept cpu)) 0 (table_of c.args.map.now).shape.cpus in
    record { few = omega (arith, long, few) }
