use Rattle.std.proofs.Common.{◌≡◌, length, rules, ◌∙◌}
use Rattle.map_script.specs.Reading.{body_with, body_line, body_from}
use Rattle.map_script.proofs.BodyLines.{next_found, one_more}
use Rattle.map_script.proofs.calls.read_each.Goals as goal

pub loop-next-preserved : goal.loop-next-preserved
loop-next-preserved c =
    let version = c.args.head.now.version in
    let shape = c.args.head.now.shape in
    let room = c.loop-next.room in
    let lines = c.loop-next.lines.lines in
    let rest = c.next_line.new.lines.lines in
    let next = c.in-Some.next in
    let counted : c.len.result ≡ length c.loop-next.calls.items = search rules in
    let cut : c.len-in-loop-next.result ≡ length c.loop-next.cuts.items = search rules in
    let found = next_found (body_line version shape c.len.result room c.len-in-loop-next.result) lines rest c.next_line.result c.in_ok-next.field-0 next c.next_line.ensures.next c.in_ok-next.was c.in-Some.is in (
      one_more version shape (body_from version shape (body_with c.args.calls.now.items c.args.cuts.now.items) c.args.lines.now.lines)
          (body_with c.loop-next.calls.items c.loop-next.cuts.items) (body_with c.add_line.new.calls.items c.add_line.new.cuts.items)
          c.len.result room c.len-in-loop-next.result c.in_ok-room.room lines rest next
          c.loop-next.invariant.0 counted cut found c.in_ok-room.ensures.body c.in_ok-room.ensures.room,
      c.next_line.ensures.end ∙ c.loop-next.invariant.1,
    )
