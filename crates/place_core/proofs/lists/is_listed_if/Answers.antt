use Rattle.std.proofs.Common.{List, ℕ, ap, ◌∙◌}
use Rattle.std.specs.Prelude.{nat_lt}
use Rattle.map_types.specs.ElementLists.{times}
use Rattle.place_core.proofs.ListCode.{row_in_first, row_in_second}
use Rattle.place_core.proofs.lists.is_listed_if.Goals as goal

pub returns-then-is_in : goal.returns-then-is_in
returns-then-is_in c lru =
    row_in_first c.args.element c.args.lists.now.first c.args.lists.now.second (c.if-is_in.ensures ∙ ap (λ (xs : List ℕ). nat_lt 0 (times c.args.element xs)) c.as_slice.ensures)

pub returns : goal.returns
returns c =
    row_in_second c.args.lru c.is_in-2.result c.args.element c.args.lists.now.first c.args.lists.now.second c.if-not-lru.false
    (c.if-is_in.ensures ∙ ap (λ (xs : List ℕ). nat_lt 0 (times c.args.element xs)) c.as_slice.ensures)
    (c.is_in-2.ensures ∙ ap (λ (xs : List ℕ). nat_lt 0 (times c.args.element xs)) c.as_slice-2.ensures)
