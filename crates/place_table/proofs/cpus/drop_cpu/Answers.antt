use Rattle.std.proofs.Common.{ap, ◌∙◌, set, false}
use Rattle.place_table.proofs.Flags.{flag_dropped}
use Rattle.place_table.proofs.cpus.drop_cpu.Goals as goal

pub returns : goal.returns
returns c = λ among is. ap (λ l. set l c.args.cpu false) is ∙ flag_dropped among c.args.cpu c.requires
