use Rattle.std.proofs.Common.{◌∙◌, ap}
use Rattle.percpu_values.specs.Layout.{parts_of}
use Rattle.percpu_values.proofs.PartLemmas.{parts_of-zeros}
use Rattle.percpu_values.proofs.values.Values.zeroed.Goals as goal

pub returns : goal.returns
returns c =
    ap (parts_of c.args.parts c.args.size) c.in_ok-zeroed.ensures ∙ parts_of-zeros c.args.parts c.args.size
