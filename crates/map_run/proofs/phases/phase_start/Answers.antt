use Rattle.std.proofs.Common.{refl}
use Rattle.map_batch.specs.Calls.{table_of}
use Rattle.run_records.proofs.BitsSeen.{all_still, started}
use Rattle.map_run.proofs.phases.phase_start.Goals as goal

pub marked_elements-requires-clause-all_cpus : goal.marked_elements-requires-clause-all_cpus
marked_elements-requires-clause-all_cpus c =
    all_still (table_of c.args.map.now) c.args.pass.now c.ticket_now-ticket.new.pass c.ticket_now-ticket.result c.requires c.ticket_now-ticket.ensures

pub returns : goal.returns
returns c =
    started (table_of c.args.map.now) c.args.pass.now c.ticket_now-ticket.new.pass c.marked_elements.new.pass c.ticket_now-ticket.result (table_of c.args.map.now).shape.elements c.in_ok-marked.marked.items _ c.requires c.ticket_now-ticket.ensures refl c.in_ok-marked.ensures refl c.of.ensures
