use Rattle.std.proofs.Common.{Ok, subst}
use Rattle.std.specs.Prelude.{unwrap_or}
use Rattle.map_types.specs.declared.call.Verb.TheVariants.{BatchRead}
use Rattle.bucket_walks.specs.declared.read.BatchOut.{BatchOut}
use Rattle.bucket_walks.specs.BatchReads.{Answers}
use Rattle.map_batch.specs.Calls.{table_of}
use Rattle.bucket_walks.specs.Pages.{GivesPage}
use Rattle.map_run.proofs.MapPages.{page_from}
use Rattle.map_run.proofs.ReadAnswers.{batch_answers}
use Rattle.map_run.proofs.batch_calls.batch_read.Goals as goal

pub returns-in-Ok-Read-clause-answers : goal.returns-in-Ok-Read-clause-answers
returns-in-Ok-Read-clause-answers g c =
    let verb = BatchRead c.args.remove c.args.request.count c.args.request.start c.args.request.flags in
    batch_answers (table_of c.args.map.now) c.args.pass.now c.read_batch.new.pass c.args.remove c.args.request.count c.args.request.start c.args.request.flags c.in-Ok-Read.stop c.in-Ok-Read.taken c.in-Ok-Read.next
    (subst (λ (out : BatchOut). Answers (table_of c.args.map.now) c.args.pass.now c.read_batch.new.pass verb (Ok out)) c.in-Ok-Read.field-0-is c.in-Ok-Read.ensures.answers)

pub returns-in-Ok-Read-clause-page : goal.returns-in-Ok-Read-clause-page
returns-in-Ok-Read-clause-page g c lookup to_read =
    let shape = (table_of c.args.map.now).shape in
    let page = subst (λ (out : BatchOut). GivesPage shape c.args.request.count c.args.request.start (Ok out)) c.in-Ok-Read.field-0-is (c.in-Ok-Read.ensures.page lookup) in
    page_from shape c.args.request.count (unwrap_or c.args.request.start 0) c.in-Ok-Read.stop c.in-Ok-Read.taken c.in-Ok-Read.next page
