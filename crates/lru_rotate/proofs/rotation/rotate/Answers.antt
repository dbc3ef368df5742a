use Rattle.std.proofs.Common.{◌*◌}
use Rattle.std.proofs.lemmas.List.Sorted.{IsPermutation-trans}
use Rattle.lru_rotate.proofs.RotationLemmas.{rotation_of, active_part_rows, inactive_part_rows, was_listed, made_few}
use Rattle.lru_rotate.proofs.rotation.rotate.Goals as goal

pub visit_inactive-requires-clause-noted : goal.visit_inactive-requires-clause-noted
visit_inactive-requires-clause-noted g c =
    g.met.B.Bits.fewer c.visit_active.new.bits c.args.scans _ (made_few _ _ _ _ _ _ _ c.visit_active.ensures.part) (c.visit_active.ensures.noted (2 * c.args.scans) c.requires.noted)

pub visit_inactive-requires-clause-asked : goal.visit_inactive-requires-clause-asked
visit_inactive-requires-clause-asked g c e is =
    c.visit_active.ensures.only.asked e (c.requires.asked e (was_listed _ _ _ _ _ _ _ c.visit_active.ensures.part e is))

pub returns-clause-rotation : goal.returns-clause-rotation
returns-clause-rotation g c = rotation_of _ _ _ _ _ _ _ _ _ c.visit_active.ensures.part c.visit_inactive.ensures.part

pub returns-clause-rows : goal.returns-clause-rows
returns-clause-rows g c =
    IsPermutation-trans _ _ _ (active_part_rows _ _ _ _ _ _ _ c.visit_active.ensures.part) (inactive_part_rows _ _ _ _ _ _ _ c.visit_inactive.ensures.was_whole c.visit_inactive.ensures.part)
