use Rattle.std.proofs.Common.{◌≡◌, ◌∷◌, [], subst, arith}
use Rattle.place_words.specs.Entries.{entry_read}
use Rattle.place_words.specs.Interleaving.{Drawn, takes}
use Rattle.step_check.specs.Answers.{view_of}
use Rattle.step_check.specs.Begun.{turn_in, turns_of}
use Rattle.step_check.specs.Ran.{Ran}
use Rattle.step_check.proofs.LocksTaken.{own_ticket, took_before, took_one, turn_told}
use Rattle.step_check.proofs.RunLemmas.{answered_ok, ran_take}
use Rattle.step_check.proofs.takes.take_one.Goals as goal

pub returns-then-begun-ticket-clause-taken : goal.returns-then-begun-ticket-clause-taken
returns-then-begun-ticket-clause-taken c = λ before begun.
    took_before before (turn_in (turns_of c.args.histories.now c.args.turns.now) c.args.ticket) c.args.ticket (view_of c.args.kept.now) c.args.begun.now c.requires.words
    (own_ticket c.args.histories.now c.args.turns.now c.args.ticket c.requires.turns c.requires.within) (omega (arith, c.requires.within, c.requires.bits)) c.if-begun-ticket.true begun

pub returns-clause-taken : goal.returns-clause-taken
returns-clause-taken c = λ before begun.
    let turn : Drawn = turn_in (turns_of c.args.histories.now c.args.turns.now) c.args.ticket in
    let told : record { lock = c.lock_at.result; entry = entry_read c.entry_at.result } ≡ turn =
    turn_told c.args.histories.now c.args.turns.now c.args.ticket c.index-place.result.now _ c.lock_at.result (entry_read c.entry_at.result) c.requires.within c.index-place.ensures c.lock_at.ensures c.entry_at.ensures in
    took_one before turn c.args.ticket (view_of c.args.kept.now) (view_of c.take.new.kept) c.args.begun.now c.in_ok-taken.taken
    (own_ticket c.args.histories.now c.args.turns.now c.args.ticket c.requires.turns c.requires.within) (omega (arith, c.requires.within, c.requires.bits)) c.if-begun-ticket.false
    (subst (λ (drawn : Drawn). Ran (view_of c.args.kept.now) (takes drawn ∷ []) (view_of c.take.new.kept) c.in_ok-taken.taken) told
    (ran_take (view_of c.args.kept.now) (view_of c.take.new.kept) c.entry_at.result.cpu c.lock_at.result c.in_ok-taken.taken c.requires.words (answered_ok (view_of c.args.kept.now) (view_of c.take.new.kept) _ _ c.in_ok-taken.taken c.in_ok-taken.ensures)))
    begun
