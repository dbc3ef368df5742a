use Rattle.map_script.proofs.BodyLines.{first_said}
use Rattle.map_script.proofs.calls.next_line.Goals as goal

pub returns-in-Some-clause-next : goal.returns-in-Some-clause-next
returns-in-Some-clause-next c =
    first_said c.args.version c.args.shape.now c.args.count c.args.room c.args.cuts c.args.lines.now.number c.args.lines.now.lines c.front_call.new.self.lines c.in-Some.call (c.in-Some.ensures.call c.args.version)
