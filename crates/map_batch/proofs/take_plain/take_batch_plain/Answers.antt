use Rattle.std.proofs.Common.{◌∙◌, true, ap, refl, subst, Option, Ok}
use Rattle.map_types.proofs.CreationLemmas.{bounds_of_shape}
use Rattle.place_table.specs.Passes.{TableView}
use Rattle.place_table.proofs.FirstSlots.{not_common}
use Rattle.bucket_walks.specs.declared.read.Planned.{Planned}
use Rattle.bucket_walks.specs.Plans.{Plans}
use Rattle.bucket_walks.proofs.Ends.{refused_read, none_to_read}
use Rattle.map_batch.proofs.TakenOn.{called_taken}
use Rattle.map_batch.proofs.take_plain.take_batch_plain.Goals as goal

pub returns-in-Err-clause-answers : goal.returns-in-Err-clause-answers
returns-in-Err-clause-answers g c = refused_read true c.args.request.count c.args.request.start c.args.request.flags c.requires.can c.shape-shape.result.now c.in-Err.refusal (c.shape-shape.ensures ∙ ap (λ (t : TableView). t.shape) c.table.ensures.value) c.in-Err.ensures

pub returns-in-Ok-None-clause-answers : goal.returns-in-Ok-None-clause-answers
returns-in-Ok-None-clause-answers g c =
    let plans = subst (λ (p : Option Planned). Plans c.shape-shape.result.now c.args.request.count c.args.request.start c.args.request.flags (Ok p)) c.in-Ok-None.field-0-is c.in-Ok-None.ensures in
    none_to_read true c.args.request.count c.args.request.start c.args.request.flags c.requires.can plans.0 plans.1

pub returns-in-Ok-Some-clause-answers : goal.returns-in-Ok-Some-clause-answers
returns-in-Ok-Some-clause-answers g c =
    let plans = subst (λ (p : Option Planned). Plans c.shape-shape.result.now c.args.request.count c.args.request.start c.args.request.flags (Ok p)) c.in-Ok-Some.field-0-is c.in-Ok-Some.ensures in
    let bounds = bounds_of_shape c.args.map.now.shape c.table.ensures.shape in
    called_taken c.args.request.count c.args.request.start c.args.request.flags c.requires.can c.table.ensures.plain (not_common c.args.map.now.shape bounds c.table.ensures.plain) c.shape-shape.result.now c.in-Ok-Some.planned c.read_out.result
    (c.shape-shape.ensures ∙ ap (λ (t : TableView). t.shape) c.table.ensures.value) plans refl c.take_from-next.ensures c.read_out.ensures
