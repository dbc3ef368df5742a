use Rattle.std.proofs.Common.{◌≡◌, List, [], get_or, take, sym, ◌∙◌, ap, ltb, subst, rules, arith}
use Rattle.std.specs.Prelude.{filter}
use Rattle.std.proofs.lemmas.List.Sorted.{IsPartitionPoint-from_clause}
use Rattle.call_check.specs.Spares.{Rise}
use Rattle.call_check.specs.declared.changes.Change.{Change}
use Rattle.call_check.proofs.ByTicket.{parted_by, taken_passing}
use Rattle.call_check.proofs.Last.{left_is}
use Rattle.call_check.proofs.spares.spare_before.Goals as goal

pub returns : goal.returns
returns c =
    let own : List Change = c.changes_by-own.result.now in
    let is : own ≡ get_or c.args.spares.now.changes.items c.args.cpu [] = c.changes_by-own.ensures ∙ ap (λ (l : List (List Change)). get_or l c.args.cpu []) c.as_slice.ensures.value in
    let rises : Rise own = subst Rise (sym is) (c.requires.rise c.args.cpu) in
    let point = IsPartitionPoint-from_clause (λ (change : Change). ltb change.moment c.args.moment) _ _ c.partition_point-count.ensures.partitioned (parted_by (λ (change : Change). change.moment) own c.args.moment rises) (λ a r q k. search rules) in
    let taken : filter (λ (change : Change). ltb change.moment c.args.moment) own ≡ take c.partition_point-count.result own =
    taken_passing (λ (change : Change). ltb change.moment c.args.moment) own c.partition_point-count.result c.partition_point-count.ensures.bound (λ k d less. point.0 k d (omega arith) less) (λ k d least less. point.1 k d least less) in
    left_is c.args.spares.now.first.items c.args.spares.now.changes.items c.args.cpu c.args.moment c.as_slice-2.result.now own c.partition_point-count.result c.left_after.result
    c.as_slice-2.ensures.value is taken c.left_after.ensures
