use Rattle.run_records.proofs.LoneCalls.{lone_found}
use Rattle.map_run.proofs.phases.lone_cpu.Goals as goal

pub returns-in-len1-up : goal.returns-in-len1-up
returns-in-len1-up c = lone_found c.args.calls.now c.first-item.result c.only_cpu.result c.in-len1-up.len_at_least c.first-item.is c.only_cpu.ensures
