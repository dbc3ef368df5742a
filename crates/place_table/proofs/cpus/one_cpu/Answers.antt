use Rattle.std.proofs.Common.{[]}
use Rattle.place_table.proofs.Flags.{no_flags}
use Rattle.place_table.proofs.cpus.one_cpu.Goals as goal

pub returns : goal.returns
returns c = c.add_cpu.ensures [] no_flags
