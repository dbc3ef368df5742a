use Rattle.std.proofs.Common.{sym}
use Rattle.map_script.proofs.FrontLemmas.{cpu_begins}
use Rattle.map_script.proofs.front.long_cpu_at_front.Goals as goal

pub returns-then-cpu-cpus : goal.returns-then-cpu-cpus
returns-then-cpu-cpus c =
    cpu_begins c.args.cpus c.args.text.now c.in_ok-word.word.now c.in_ok-word.rest.now c.in_ok-cpu.cpu c.in_ok-word.ensures (sym c.in_ok-cpu.ensures) c.if-cpu-cpus.true
