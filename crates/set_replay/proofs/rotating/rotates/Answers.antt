use Rattle.std.proofs.Common.{Bool, List, subst, ◌∙◌}
use Rattle.set_replay.specs.Judged.{ToldRotation}
use Rattle.set_replay.proofs.FedLemmas.{judged_rotation}
use Rattle.set_replay.proofs.rotating.rotates.Goals as goal

pub returns : goal.returns
returns g c =
    let told = subst (λ (bits : List Bool). ToldRotation c.args.scans bits c.args.set.now c.rotate_told.new.set c.in_ok-notes.notes) (c.as_slice.ensures.value ∙ c.in_ok-bits.ensures) c.in_ok-notes.ensures in
    judged_rotation c.args.scans c.args.set.now c.rotate_told.new.set c.args.active.now c.args.inactive.now c.in_ok-notes.notes c.in_ok-first.first c.in_ok-second.second
    told c.in_ok-first.ensures c.in_ok-second.ensures
