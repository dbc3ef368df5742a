use Rattle.std.proofs.Common.{ℕ, arith}
use Rattle.std.proofs.lemmas.Grind.{common_steps}
use Rattle.std.proofs.lemmas.List.Sums.{count_by-le-length}
use Rattle.script_source.proofs.feed_more.Goals as goal

pub feed-requires : goal.feed-requires
feed-requires g c = grind (arith, common_steps, count_by-le-length {X = ℕ}, c.requires)
