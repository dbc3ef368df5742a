use Rattle.std.proofs.Common.{◌∙◌}
use Rattle.place_core.proofs.ListCode.{any_is_in}
use Rattle.place_core.proofs.lists.is_in.Goals as goal

pub returns : goal.returns
returns c = c.contains.ensures.value ∙ any_is_in c.args.element c.args.elements.now
