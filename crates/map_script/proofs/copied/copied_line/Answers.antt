use Rattle.std.proofs.Common.{refl}
use Rattle.map_script.specs.declared.body.BodyLine.TheVariants as says
use Rattle.map_script.proofs.CopyLemmas.{first_numbered}
use Rattle.map_script.proofs.copied.copied_line.Goals as goal

pub returns-in-Some-clause-next : goal.returns-in-Some-clause-next
returns-in-Some-clause-next c =
    first_numbered c.args.version c.args.shape.now c.args.count c.args.room c.args.cuts c.args.lines.now.number c.args.lines.now.lines c.front_call.new.self.lines c.in-Some.call
    record { number = c.number-number.result; says = says.Call c.in-Some.call } (c.in-Some.ensures.call c.args.version) c.number-number.ensures refl
