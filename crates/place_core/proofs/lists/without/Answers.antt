use Rattle.std.proofs.Common.{rules, ◌≡◌, sym, ◌∙◌, ap, List, ℕ}
use Rattle.std.specs.List.{remove}
use Rattle.place_core.proofs.ListCode.{without_found, without_missing}
use Rattle.place_core.proofs.lists.without.Goals as goal

pub returns-in-Some : goal.returns-in-Some
returns-in-Some c =
    let same : c.in_ok-items.items.items ≡ c.args.elements.now = search rules in
    c.of.ensures ∙ (c.remove.ensures.items ∙ (ap (λ (xs : List ℕ). remove xs c.in-Some.i) same ∙ without_found c.args.element c.in-Some.i c.args.elements.now (sym c.in-Some.ensures.exact)))

pub returns-in-None : goal.returns-in-None
returns-in-None c =
    let same : c.in_ok-items.items.items ≡ c.args.elements.now = search rules in
    c.of-in-None.ensures ∙ (same ∙ without_missing c.args.element c.args.elements.now (sym c.in-None.ensures.exact))
