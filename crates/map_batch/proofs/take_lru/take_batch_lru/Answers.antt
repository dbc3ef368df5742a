use Rattle.std.proofs.Common.{◌∙◌, true, ap, refl, subst, Option, Ok}
use Rattle.place_table.specs.Passes.{TableView}
use Rattle.bucket_walks.specs.declared.read.Planned.{Planned}
use Rattle.bucket_walks.specs.Plans.{Plans}
use Rattle.bucket_walks.proofs.Ends.{refused_read, none_to_read}
use Rattle.map_batch.proofs.LruWhole.{can_take_out, planned_from, planned_begins, planned_room, called_taken}
use Rattle.map_batch.proofs.take_lru.take_batch_lru.Goals as goal

pub returns-in-Err-clause-answers : goal.returns-in-Err-clause-answers
returns-in-Err-clause-answers g c = refused_read true c.args.request.count c.args.request.start c.args.request.flags c.requires.can c.shape-shape.result.now c.in-Err.refusal (c.shape-shape.ensures ∙ ap (λ (t : TableView). t.shape) c.table.ensures.value) c.in-Err.ensures

pub returns-in-Ok-None-clause-answers : goal.returns-in-Ok-None-clause-answers
returns-in-Ok-None-clause-answers g c =
    let plans = subst (λ (p : Option Planned). Plans c.shape-shape.result.now c.args.request.count c.args.request.start c.args.request.flags (Ok p)) c.in-Ok-None.field-0-is c.in-Ok-None.ensures in
    none_to_read true c.args.request.count c.args.request.start c.args.request.flags c.requires.can plans.0 plans.1

pub take_from-next-requires-clause-can : goal.take_from-next-requires-clause-can
take_from-next-requires-clause-can g c κs within = can_take_out c.requires.can c.table.ensures.evicts

pub take_from-next-requires-clause-from : goal.take_from-next-requires-clause-from
take_from-next-requires-clause-from g c κs within =
    let plans = subst (λ (p : Option Planned). Plans c.shape-shape.result.now c.args.request.count c.args.request.start c.args.request.flags (Ok p)) c.in-Ok-Some.field-0-is c.in-Ok-Some.ensures in
    planned_from c.args.map.now c.args.request.count c.args.request.start c.args.request.flags c.shape-shape.result.now c.in-Ok-Some.field-0-0 (c.shape-shape.ensures ∙ ap (λ (t : TableView). t.shape) c.table.ensures.value) plans

pub take_from-next-requires-clause-begins : goal.take_from-next-requires-clause-begins
take_from-next-requires-clause-begins g c κs within =
    let plans = subst (λ (p : Option Planned). Plans c.shape-shape.result.now c.args.request.count c.args.request.start c.args.request.flags (Ok p)) c.in-Ok-Some.field-0-is c.in-Ok-Some.ensures in
    planned_begins c.args.map.now c.args.request.count c.args.request.start c.args.request.flags c.shape-shape.result.now c.in-Ok-Some.field-0-0 (c.shape-shape.ensures ∙ ap (λ (t : TableView). t.shape) c.table.ensures.value) plans

pub take_from-next-requires-clause-gone : goal.take_from-next-requires-clause-gone
take_from-next-requires-clause-gone g c κs within =
    let plans = subst (λ (p : Option Planned). Plans c.shape-shape.result.now c.args.request.count c.args.request.start c.args.request.flags (Ok p)) c.in-Ok-Some.field-0-is c.in-Ok-Some.ensures in
    planned_room c.args.map.now c.args.request.count c.args.request.start c.args.request.flags c.shape-shape.result.now c.in-Ok-Some.field-0-0 (c.shape-shape.ensures ∙ ap (λ (t : TableView). t.shape) c.table.ensures.value) plans c.left.result c.in_ok-gone-in-Ok-Some.ensures c.left.ensures.value

pub returns-in_ok-gone-in-Ok-Some-clause-answers : goal.returns-in_ok-gone-in-Ok-Some-clause-answers
returns-in_ok-gone-in-Ok-Some-clause-answers g c =
    let plans = subst (λ (p : Option Planned). Plans c.shape-shape.result.now c.args.request.count c.args.request.start c.args.request.flags (Ok p)) c.in-Ok-Some.field-0-is c.in-Ok-Some.ensures in
    called_taken c.args.request.count c.args.request.start c.args.request.flags c.shape-shape.result.now c.in-Ok-Some.field-0-0 c.read_out.result c.requires.can c.table.ensures.evicts (c.shape-shape.ensures ∙ ap (λ (t : TableView). t.shape) c.table.ensures.value) plans refl c.take_from-next.ensures c.read_out.ensures
