use Rattle.std.proofs.Common.{ap, ◌∙◌, set, true}
use Rattle.place_table.proofs.Flags.{flag_added}
use Rattle.place_table.proofs.cpus.add_cpu.Goals as goal

pub returns : goal.returns
returns c = λ among is. ap (λ l. set l c.args.cpu true) is ∙ flag_added among c.args.cpu c.requires
