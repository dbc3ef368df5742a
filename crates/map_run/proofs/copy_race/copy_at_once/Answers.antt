use Rattle.std.proofs.Common.{◌≡◌, suc, length, ap, ◌∙◌, arith, subst}
use Rattle.std.proofs.lemmas.List.FromFn.{length-map-range_with_len}
use Rattle.map_types.specs.declared.attr.Shape.{Shape}
use Rattle.map_types.proofs.CreationLemmas.{bounds_of_shape}
use Rattle.map_batch.specs.Calls.{table_of}
use Rattle.place_table.specs.Passes.{TableView}
use Rattle.run_records.specs.Parts.{pieces_by}
use Rattle.map_run.specs.Workers.{HasSplit}
use Rattle.map_run.proofs.BesideRaced.{copied_beside, ended_beside}
use Rattle.map_run.proofs.copy_race.copy_at_once.Goals as goal

pub copy_beside-requires-clause-there : goal.copy_beside-requires-clause-there
copy_beside-requires-clause-there g c κs within =
    let some = (bounds_of_shape (table_of c.args.source.now).shape c.requires.can.source_shape).some_cpu in
    let long = c.split_all.ensures.count in
    let is = ap (λ (s : Shape). s.cpus) c.shape.ensures ∙ ap (λ (z : TableView). z.shape.cpus) c.table.ensures.value in
    omega (arith, some, long, is)

pub join_beside-requires-clause-ended : goal.join_beside-requires-clause-ended
join_beside-requires-clause-ended g c =
    let t = table_of c.args.source.now in
    let is = ap (λ (s : Shape). s.cpus) c.shape.ensures ∙ ap (λ (z : TableView). z.shape.cpus) c.table.ensures.value in
    let beside = c.in_ok-puts.ensures.worked in (
      suc c.args.before,
      c.args.pass.now,
      beside.copied.steps,
      ended_beside beside c.args.pass.now c.split_all.new.pass c.requires.others (subst (λ k. HasSplit t c.args.pass.now k c.split_all.new.pass) is c.split_all.ensures.split) c.split_all.ensures.workers
          (c.split_all.ensures.count ∙ is) c.in_ok-puts.ensures.none_failed,
    )

pub pieces_of-requires : goal.pieces_of-requires
pieces_of-requires g c =
    let t = table_of c.args.source.now in
    let is = ap (λ (s : Shape). s.cpus) c.shape.ensures ∙ ap (λ (z : TableView). z.shape.cpus) c.table.ensures.value in
    let beside = c.in_ok-puts.ensures.worked in
    let ended = ended_beside beside c.args.pass.now c.split_all.new.pass c.requires.others (subst (λ k. HasSplit t c.args.pass.now k c.split_all.new.pass) is c.split_all.ensures.split) c.split_all.ensures.workers
    (c.split_all.ensures.count ∙ is) c.in_ok-puts.ensures.none_failed in
    let raced = c.in_ok-replies.ensures.raced (suc c.args.before) c.args.pass.now beside.copied.steps ended in
    let few = (bounds_of_shape t.shape c.requires.can.source_shape).cpus_bounded in
    let long : length c.as_slice.result.now ≡ t.shape.cpus = ap length (c.as_slice.ensures.value ∙ raced.counts_are) ∙ length-map-range_with_len (λ cpu. length (raced.kept cpu)) 0 t.shape.cpus in
    record { few = omega (arith, long, few) }

pub returns : goal.returns
returns g c =
    let t = table_of c.args.source.now in
    let is = ap (λ (s : Shape). s.cpus) c.shape.ensures ∙ ap (λ (z : TableView). z.shape.cpus) c.table.ensures.value in
    let beside = c.in_ok-puts.ensures.worked in
    let ended = ended_beside beside c.args.pass.now c.split_all.new.pass c.requires.others (subst (λ k. HasSplit t c.args.pass.now k c.split_all.new.pass) is c.split_all.ensures.split) c.split_all.ensures.workers
    (c.split_all.ensures.count ∙ is) c.in_ok-puts.ensures.none_failed in
    copied_beside beside c.args.phase c.args.pass.now c.join_beside.new.pass c.in_ok-replies.field-0.replies.items c.in_ok-replies.field-0.reads.items c.in_ok-replies.field-0.counts.items c.in_ok-pieces.pieces.items
    c.requires.there c.requires.others c.in_ok-replies.ensures.reads (c.in_ok-replies.ensures.raced (suc c.args.before) c.args.pass.now beside.copied.steps ended)
    (c.in_ok-pieces.ensures ∙ ap (λ l. pieces_by c.args.phase 0 l) c.as_slice.ensures.value)
