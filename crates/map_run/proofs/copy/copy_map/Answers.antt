use Rattle.std.proofs.Common.{◌≡◌, ◌≤◌, ap, ◌∙◌, refl, subst, sym, arith}
use Rattle.map_types.specs.declared.attr.Shape.{Shape}
use Rattle.map_types.proofs.CreationLemmas.{bounds_of_shape}
use Rattle.map_batch.specs.Calls.{table_of}
use Rattle.map_copy.specs.Plans.{PlanView}
use Rattle.place_table.specs.Passes.{TableView}
use Rattle.map_run.proofs.CopyLoop.{can_next, copy_begins, few_done, few_put, next_start, page_last, page_more, some_element}
use Rattle.map_run.proofs.copy.copy_map.Goals as goal

pub of-plan-requires-clause-some_element : goal.of-plan-requires-clause-some_element
of-plan-requires-clause-some_element g c =
    let is : c.shape-shape.result.now ≡ (table_of c.args.source.now).shape = c.shape-shape.ensures ∙ ap (λ (t : TableView). t.shape) c.table.ensures.value in
    subst (λ (shape : Shape). 1 ≤ shape.elements) (sym is) (some_element (table_of c.args.source.now).shape c.requires.can.source_shape)

pub overflow_add-done-end : goal.overflow_add-done-end
overflow_add-done-end g c =
    let is : c.shape-shape.result.now ≡ (table_of c.args.source.now).shape = c.shape-shape.ensures ∙ ap (λ (t : TableView). t.shape) c.table.ensures.value in
    let same : c.shape-shape.result.now.buckets ≡ (table_of c.args.source.now).shape.buckets = ap (λ (shape : Shape). shape.buckets) is in
    let few = (bounds_of_shape (table_of c.args.source.now).shape c.requires.can.source_shape).buckets_bounded in
    omega (arith, same, few)

pub loop-done-init : goal.loop-done-init
loop-done-init g c =
    let is : c.shape-shape.result.now ≡ (table_of c.args.source.now).shape = c.shape-shape.ensures ∙ ap (λ (t : TableView). t.shape) c.table.ensures.value in
    copy_begins (table_of c.args.source.now) (table_of c.args.target.now) c.args.before c.args.count c.args.pass.now c.args.put_pass.now c.of-plan.result c.new.result c.new-2.result.items c.requires.can
    (ap (λ (plan : PlanView). plan.elements) c.of-plan.ensures.exact ∙ ap (λ (shape : Shape). shape.elements) is) c.of-plan.ensures.so_far c.new.ensures c.new-2.ensures.items

pub overflow_add-before : goal.overflow_add-before
overflow_add-before g c =
    let few = few_done c.requires.can c.requires.some (omega (arith, c.ranges.count.fits)) c.loop-done.invariant in
    let buckets = (bounds_of_shape (table_of c.args.source.now).shape c.requires.can.source_shape).buckets_bounded in
    let before = c.requires.few in
    omega (arith, few, buckets, before)

pub overflow_add-before-in-loop-done : goal.overflow_add-before-in-loop-done
overflow_add-before-in-loop-done g c =
    let few = few_done c.requires.can c.requires.some (omega (arith, c.ranges.count.fits)) c.loop-done.invariant in
    let buckets = (bounds_of_shape (table_of c.args.source.now).shape c.requires.can.source_shape).buckets_bounded in
    let before = c.requires.few in
    omega (arith, few, buckets, before)

pub copy_page-requires-clause-can : goal.copy_page-requires-clause-can
copy_page-requires-clause-can g c κs within = can_next c.requires.can c.requires.some (omega (arith, c.ranges.count.fits)) c.loop-done.invariant

pub copy_page-requires-clause-start : goal.copy_page-requires-clause-start
copy_page-requires-clause-start g c κs within = next_start c.requires.can c.requires.some (omega (arith, c.ranges.count.fits)) c.loop-done.invariant

pub copy_page-requires-clause-few : goal.copy_page-requires-clause-few
copy_page-requires-clause-few g c κs within = few_put c.requires.can c.requires.some (omega (arith, c.ranges.count.fits)) c.loop-done.invariant

pub returns-then-not-goes_on : goal.returns-then-not-goes_on
returns-then-not-goes_on g c =
    page_last c.requires.can c.requires.some (omega (arith, c.ranges.count.fits)) c.loop-done.invariant refl c.in_ok-goes_on.ensures c.if-not-goes_on.true

pub loop-done-preserved : goal.loop-done-preserved
loop-done-preserved g c =
    page_more c.requires.can c.requires.some (omega (arith, c.ranges.count.fits)) c.loop-done.invariant refl c.in_ok-goes_on.ensures c.if-not-goes_on.false

pub unreachable-requires : goal.unreachable-requires
unreachable-requires g c =
    let is : c.shape-shape.result.now ≡ (table_of c.args.source.now).shape = c.shape-shape.ensures ∙ ap (λ (t : TableView). t.shape) c.table.ensures.value in
    let same : c.shape-shape.result.now.buckets ≡ (table_of c.args.source.now).shape.buckets = ap (λ (shape : Shape). shape.buckets) is in
    let few = few_done c.requires.can c.requires.some (omega (arith, c.ranges.count.fits)) c.loop-done.invariant in
    let past = c.loop-done-test.false in
    omega (arith, same, few, past)
