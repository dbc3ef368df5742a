use Rattle.std.proofs.Common.{refl}
use Rattle.place_core.proofs.rehome.glance.Goals as goal

pub returns : goal.returns
returns c = record {
  enabled = (c.if-cpu-cells.false, c.if-element-cells.false);
  changed = refl;
  room = record { shape = refl; locks = refl; owners = refl; homes = refl; bits = refl; held = c.requires.held };
}
