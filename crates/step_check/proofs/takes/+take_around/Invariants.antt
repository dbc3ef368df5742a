use Rattle.std.proofs.Common.{◌-◌, length}
use Rattle.step_check.proofs.takes.+take_around.Given as goal

-- what encloses a turn comes later
abbrev pub decreases-take_around : goal.decreases-take_around
decreases-take_around l = length l.turns.now.places.items - l.ticket
