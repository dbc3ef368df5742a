use Rattle.std.proofs.Common.{ap, ◌++◌, ◌∷◌, [], ◌∙◌, List, refl, get_or}
use Rattle.map_types.specs.declared.kind.DomainId.TheVariants.{Local}
use Rattle.step_check.specs.declared.change.Change.{Change}
use Rattle.step_check.specs.declared.change.Change.TheVariants as variants
use Rattle.step_check.proofs.PartLemmas.{freed_more, freed_end}
use Rattle.step_check.proofs.list_parts.freed_home.Goals as goal

pub loop-element-preserved : goal.loop-element-preserved
loop-element-preserved c =
    let at = c.loop-element.element-index in
    let e = get_or c.args.elements.now at 0 in
    freed_more c.args.cpu at c.args.elements.now c.loop-element.changes.items c.push-in-loop-element.new.self.items (Local c.args.cpu) e _ c.loop-element-test.true refl refl
    (c.in_ok-push-2.ensures.items ∙ ap (λ (l : List Change). l ++ variants.Settle e (Local c.args.cpu) ∷ []) c.in_ok-push.ensures.items)
    c.loop-element.invariant

pub returns : goal.returns
returns c = freed_end c.args.cpu c.loop-element.element-index c.args.elements.now c.loop-element.changes.items c.loop-element.invariant c.loop-element-test.false
