use Rattle.std.proofs.Common.{◌≡◌, ◌++◌, List, Result, length, rules, ◌∙◌}
use Rattle.map_script.specs.declared.body.Body.{Body}
use Rattle.map_script.specs.declared.refusal.ScriptRefusal.{ScriptRefusal}
use Rattle.map_script.specs.CopyLines.{copied_behind}
use Rattle.map_script.specs.Lines.{Line}
use Rattle.map_script.specs.Reading.{body_with, body_line}
use Rattle.map_script.proofs.CopyLemmas.{numbered_found, copied_more}
use Rattle.map_script.proofs.copied.copy_each.Goals as goal

pub loop-next-preserved : goal.loop-next-preserved
loop-next-preserved c =
    let version = c.args.head.now.version in
    let shape = c.args.head.now.shape in
    let read : List Line → Result Body ScriptRefusal = λ more. copied_behind version shape c.args.held (body_with c.args.calls.now.items c.args.cuts.now.items) (c.args.lines.now.lines ++ more) in
    let room = c.loop-next.room in
    let lines = c.loop-next.lines.lines in
    let rest = c.copied_line.new.lines.lines in
    let next = c.in-Some.next in
    let counted : c.len.result ≡ length c.loop-next.calls.items = search rules in
    let cut : c.len-in-loop-next.result ≡ length c.loop-next.cuts.items = search rules in
    let found = numbered_found (body_line version shape c.len.result room c.len-in-loop-next.result) c.loop-next.held lines rest c.copied_line.result c.in_ok-next.field-0 next c.copied_line.ensures.next c.in_ok-next.was c.in-Some.is in (
      copied_more version shape read c.loop-next.held c.held_behind-held.result
          (body_with c.loop-next.calls.items c.loop-next.cuts.items) (body_with c.add_line.new.calls.items c.add_line.new.cuts.items)
          c.len.result room c.len-in-loop-next.result c.in_ok-room.room lines rest next
          c.loop-next.invariant.0 counted cut found c.held_behind-held.ensures c.in_ok-room.ensures.body c.in_ok-room.ensures.room,
      c.copied_line.ensures.end ∙ c.loop-next.invariant.1,
    )
