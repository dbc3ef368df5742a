use Rattle.std.proofs.Common.{refl, sym, ◌∙◌, arith}
use Rattle.std.proofs.lemmas.Iterator.{YieldsList-from_range, items_from_drains}
use Rattle.std.proofs.lemmas.List.{map-id}
use Rattle.run_records.proofs.pieces.all_cpus.Goals as goal

pub returns : goal.returns
returns c =
    let made = c.in_ok-collect.ensures.ran in
    made.2.0 ∙ (sym (map-id made.0) ∙ items_from_drains made.0 made.1 (YieldsList-from_range 0 c.args.cpus c.args.cpus refl (omega arith)))
