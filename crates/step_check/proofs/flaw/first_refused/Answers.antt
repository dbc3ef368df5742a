use Rattle.std.proofs.Common.{◌<◌, ◌∙◌, ap, sym, subst, length, replicate, false, arith}
use Rattle.step_check.specs.Answers.{view_of}
use Rattle.std.specs.Prelude.{MatchBool}
use Rattle.step_check.specs.Begun.{turn_in, turns_of}
use Rattle.step_check.specs.Judged.{FlushesListed}
use Rattle.step_check.specs.WordsView.{words_in}
use Rattle.step_check.proofs.LocksTaken.{as_many_turns, own_ticket}
use Rattle.step_check.proofs.RunsTo.{flush_refused, none_ran, ran_more, refused_at}
use Rattle.step_check.proofs.flaw.first_refused.Goals as goal

pub loop-ticket-init : goal.loop-ticket-init
loop-ticket-init c =
    none_ran (turns_of c.args.histories.now c.args.turns.now) (view_of c.args.kept.now) c.args.begun.now c.requires.words (c.requires.bits ∙ ap (λ n. replicate n false) (sym (as_many_turns c.args.histories.now c.args.turns.now)))

pub returns-then-not-ran : goal.returns-then-not-ran
returns-then-not-ran c =
    let hs = c.args.histories.now in
    let turns = c.args.turns.now in
    let less : c.loop-ticket.ticket < length turns.places.items = omega (arith, c.loop-ticket-test.true, c.len-ticket-end.ensures, turns.places.ok.0) in
    refused_at (turns_of hs turns) c.loop-ticket.ticket (view_of c.args.kept.now) (view_of c.loop-ticket.kept) (view_of c.run_turn.new.kept) c.loop-ticket.begun c.run_turn.new.begun c.in_ok-ran.ran c.requires.first
    (subst (λ n. c.loop-ticket.ticket < n) (sym (as_many_turns hs turns)) less) c.loop-ticket.invariant c.in_ok-ran.ensures.ran c.if-not-ran.true

pub returns-then-not-flushes_listed : goal.returns-then-not-flushes_listed
returns-then-not-flushes_listed c =
    let hs = c.args.histories.now in
    let turns = c.args.turns.now in
    let less : c.loop-ticket.ticket < length turns.places.items = omega (arith, c.loop-ticket-test.true, c.len-ticket-end.ensures, turns.places.ok.0) in
    flush_refused (turns_of hs turns) c.loop-ticket.ticket (view_of c.args.kept.now) (view_of c.loop-ticket.kept) c.loop-ticket.begun c.requires.first
    (subst (λ n. c.loop-ticket.ticket < n) (sym (as_many_turns hs turns)) less) c.loop-ticket.invariant
    (subst (λ b. MatchBool b (FlushesListed (words_in (view_of c.loop-ticket.kept)) (turn_in (turns_of hs turns) c.loop-ticket.ticket).entry.part) (¬ FlushesListed (words_in (view_of c.loop-ticket.kept)) (turn_in (turns_of hs turns) c.loop-ticket.ticket).entry.part)) c.if-not-flushes_listed.true c.flushes_listed.ensures)

pub loop-ticket-preserved : goal.loop-ticket-preserved
loop-ticket-preserved c =
    let hs = c.args.histories.now in
    let turns = c.args.turns.now in
    let less : c.loop-ticket.ticket < length turns.places.items = omega (arith, c.loop-ticket-test.true, c.len-ticket-end.ensures, turns.places.ok.0) in
    ran_more (turns_of hs turns) c.loop-ticket.ticket (view_of c.args.kept.now) (view_of c.loop-ticket.kept) (view_of c.run_turn.new.kept) c.loop-ticket.begun c.run_turn.new.begun c.in_ok-ran.ran
    (subst (λ n. c.loop-ticket.ticket < n) (sym (as_many_turns hs turns)) less) (own_ticket hs turns c.loop-ticket.ticket c.requires.turns less) c.loop-ticket.invariant (subst (λ b. MatchBool b (FlushesListed (words_in (view_of c.loop-ticket.kept)) (turn_in (turns_of hs turns) c.loop-ticket.ticket).entry.part) (¬ FlushesListed (words_in (view_of c.loop-ticket.kept)) (turn_in (turns_of hs turns) c.loop-ticket.ticket).entry.part)) c.if-not-flushes_listed.false c.flushes_listed.ensures) c.in_ok-ran.ensures.ran c.if-not-ran.false c.run_turn.auto.begun
