use Rattle.std.proofs.Common.{◌≡◌, ◌+◌, ◌≤◌, ◌<◌, count_by, subst, arith}
use Rattle.map_script.specs.Grammar.{reply_bytes}
use Rattle.map_script.specs.Lines.{is_line_feed, lines_from, end_from}
use Rattle.map_script.specs.Plain.{FirstAt}
use Rattle.map_script.specs.Reading.{call_within}
use Rattle.map_script.specs.Unread.{Unread}
use Rattle.map_script.proofs.FrontLemmas.{first_call, first_feed}
use Rattle.map_script.proofs.ReplyRoom.{reply_bounded}
use Rattle.map_script.proofs.lines.Lines.front_call.Goals as goal

pub overflow_add-room : goal.overflow_add-room
overflow_add-room c =
    let few = c.requires.room in
    omega (arith, reply_bounded c.args.shape.now c.in_ok-call.call.verb c.requires.shape, c.reply_bytes.ensures)

pub returns-clause-call : goal.returns-clause-call
returns-clause-call c =
    let shape = c.args.shape.now in
    let call = c.in_ok-call.call in
    let text = c.self.inside.rest.now in
    let rest = c.in_ok-call.rest.now in
    let number = c.self.inside.number in
    let few : c.args.count < 200000 = c.if-count-ge-MAX_CALLS.false in
    let reply = c.reply_bytes.ensures in
    let within = c.if-room-reply_bytes-gt-MAX_ROOM.false in
    let fits : c.args.room + reply_bytes shape call.verb ≤ 67108864 = omega arith in
    λ version. subst (λ (seen : Unread). FirstAt seen.number (call_within version shape c.args.count c.args.room) seen.lines call (lines_from (number + 1) rest)) c.self.view_is
    (first_call version shape c.args.count c.args.room number text rest call (c.in_ok-call.ensures version) few fits)

pub returns-clause-end : goal.returns-clause-end
returns-clause-end c =
    let text = c.self.inside.rest.now in
    let rest = c.in_ok-call.rest.now in
    let number = c.self.inside.number in
    let feed : count_by is_line_feed text ≡ count_by is_line_feed rest + 1 = first_feed 1 c.args.shape.now text rest c.in_ok-call.call (c.in_ok-call.ensures 1) in
    subst (λ (seen : Unread). end_from (number + 1) rest ≡ seen.end) c.self.view_is (omega arith)

pub overflow_add-self : goal.overflow_add-self
overflow_add-self c =
    let text = c.self.inside.rest.now in
    let rest = c.in_ok-call.rest.now in
    let number = c.self.inside.number in
    let feed : count_by is_line_feed text ≡ count_by is_line_feed rest + 1 = first_feed 1 c.args.shape.now text rest c.in_ok-call.call (c.in_ok-call.ensures 1) in
    omega (arith, c.self.invariant)

pub invariant_of-self : goal.invariant_of-self
invariant_of-self c =
    let text = c.self.inside.rest.now in
    let rest = c.in_ok-call.rest.now in
    let number = c.self.inside.number in
    let feed : count_by is_line_feed text ≡ count_by is_line_feed rest + 1 = first_feed 1 c.args.shape.now text rest c.in_ok-call.call (c.in_ok-call.ensures 1) in
    omega (arith, c.self.invariant)
