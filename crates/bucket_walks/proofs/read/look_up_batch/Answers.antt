use Rattle.std.proofs.Common.{false, refl, subst, Option, Ok}
use Rattle.map_types.proofs.CreationLemmas.{bounds_of_shape}
use Rattle.bucket_walks.specs.declared.read.Planned.{Planned}
use Rattle.bucket_walks.specs.Plans.{Plans}
use Rattle.bucket_walks.proofs.Paged.{page_read}
use Rattle.bucket_walks.proofs.Ends.{refused_read, none_to_read, called_read}
use Rattle.bucket_walks.proofs.read.look_up_batch.Goals as goal

pub returns-in-Err-clause-answers : goal.returns-in-Err-clause-answers
returns-in-Err-clause-answers g c = refused_read false c.args.request.count c.args.request.start c.args.request.flags c.requires.can c.shape-shape.result.now c.in-Err.refusal c.shape-shape.ensures c.in-Err.ensures

pub returns-in-Ok-None-clause-answers : goal.returns-in-Ok-None-clause-answers
returns-in-Ok-None-clause-answers g c =
    let plans = subst (λ (p : Option Planned). Plans c.shape-shape.result.now c.args.request.count c.args.request.start c.args.request.flags (Ok p)) c.in-Ok-None.field-0-is c.in-Ok-None.ensures in
    none_to_read false c.args.request.count c.args.request.start c.args.request.flags c.requires.can plans.0 plans.1

pub read_from-next-requires-clause-bounds : goal.read_from-next-requires-clause-bounds
read_from-next-requires-clause-bounds g c κs within = bounds_of_shape c.args.table.now.shape c.requires.shape

pub returns-in-Ok-Some-clause-answers : goal.returns-in-Ok-Some-clause-answers
returns-in-Ok-Some-clause-answers g c =
    let plans = subst (λ (p : Option Planned). Plans c.shape-shape.result.now c.args.request.count c.args.request.start c.args.request.flags (Ok p)) c.in-Ok-Some.field-0-is c.in-Ok-Some.ensures in
    called_read c.args.request.count c.args.request.start c.args.request.flags c.requires.can c.shape-shape.result.now c.in-Ok-Some.planned c.read_out.result c.shape-shape.ensures plans refl c.read_from-next.ensures c.read_out.ensures

pub returns-in-Ok-Some-clause-page : goal.returns-in-Ok-Some-clause-page
returns-in-Ok-Some-clause-page g c =
    let plans = subst (λ (p : Option Planned). Plans c.shape-shape.result.now c.args.request.count c.args.request.start c.args.request.flags (Ok p)) c.in-Ok-Some.field-0-is c.in-Ok-Some.ensures in
    page_read c.args.request.count c.args.request.start c.args.request.flags c.shape-shape.result.now c.in-Ok-Some.planned c.read_out.result c.shape-shape.ensures plans refl c.read_from-next.ensures c.read_out.ensures
