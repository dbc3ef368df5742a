use Rattle.std.proofs.Common.{◌≡◌, ◌++◌, take}
use Rattle.set_replay.specs.ByPlace.{look_seens, try_seens}
use Rattle.set_replay.proofs.shrinking.seens_of.Given as goal

abbrev pub invariant-loop-look : goal.invariant-loop-look
invariant-loop-look l = l.seens.items ≡ look_seens (take l.look-index l.looks)

abbrev pub invariant-loop-tried : goal.invariant-loop-tried
invariant-loop-tried l = l.seens.items ≡ look_seens l.looks ++ try_seens (take l.tried-index l.forced)
