use Rattle.std.proofs.Common.{◌<◌, ◌++◌, arith, length}
use Rattle.place_words.specs.Interleaving.{tickets_of}
use Rattle.step_check.specs.Answers.{view_of}
use Rattle.step_check.specs.Begun.{around_in, turns_of}
use Rattle.step_check.proofs.Enclosing.{HasOuter}
use Rattle.step_check.proofs.LocksTaken.{around_after, outer_told_none, outer_told_some, outer_within, own_ticket, took_around, took_around_not, took_none}
use Rattle.step_check.proofs.takes.+take_around.Goals as goal

pub returns-in_default-clause-taken : goal.returns-in_default-clause-taken
returns-in_default-clause-taken t c = λ before begun.
    took_none before (around_in (turns_of c.args.histories.now c.args.turns.now) c.args.ticket) (view_of c.args.kept.now) c.args.begun.now c.requires.words
    (outer_told_none c.args.histories.now c.args.turns.now c.args.ticket c.index.result.now _ c.requires.turns c.requires.within c.index.ensures c.in_default.is) begun

pub take_around-requires : goal.take_around-requires
take_around-requires t c =
    let has : HasOuter (turns_of c.args.histories.now c.args.turns.now) c.args.ticket c.in-Some.outer = outer_told_some c.args.histories.now c.args.turns.now c.args.ticket c.in-Some.outer c.index.result.now _ c.requires.turns c.requires.within c.index.ensures c.in-Some.is in
    let within : c.in-Some.outer < length c.args.turns.now.places.items = outer_within c.args.histories.now c.args.turns.now c.args.ticket c.in-Some.outer has in
    (omega (arith, c.decreases, within, has.later), (c.requires.words, (c.requires.turns, (within, c.requires.bits))))

pub returns-then-not-around-clause-taken : goal.returns-then-not-around-clause-taken
returns-then-not-around-clause-taken t c = λ before begun.
    let has : HasOuter (turns_of c.args.histories.now c.args.turns.now) c.args.ticket c.in-Some.outer = outer_told_some c.args.histories.now c.args.turns.now c.args.ticket c.in-Some.outer c.index.result.now _ c.requires.turns c.requires.within c.index.ensures c.in-Some.is in
    took_around_not (turns_of c.args.histories.now c.args.turns.now) c.args.ticket c.in-Some.outer before (view_of c.args.kept.now) (view_of c.take_around.new.kept) c.take_around.new.begun c.in_ok-around.around has (c.in_ok-around.ensures.taken before begun) c.if-not-around.true

pub take_one-requires-clause-within : goal.take_one-requires-clause-within
take_one-requires-clause-within t c =
    outer_within c.args.histories.now c.args.turns.now c.args.ticket c.in-Some.outer (outer_told_some c.args.histories.now c.args.turns.now c.args.ticket c.in-Some.outer c.index.result.now _ c.requires.turns c.requires.within c.index.ensures c.in-Some.is)

pub returns-clause-taken : goal.returns-clause-taken
returns-clause-taken t c = λ before begun.
    let has : HasOuter (turns_of c.args.histories.now c.args.turns.now) c.args.ticket c.in-Some.outer = outer_told_some c.args.histories.now c.args.turns.now c.args.ticket c.in-Some.outer c.index.result.now _ c.requires.turns c.requires.within c.index.ensures c.in-Some.is in
    let within : c.in-Some.outer < length c.args.turns.now.places.items = outer_within c.args.histories.now c.args.turns.now c.args.ticket c.in-Some.outer has in
    took_around (turns_of c.args.histories.now c.args.turns.now) c.args.ticket c.in-Some.outer before (view_of c.args.kept.now) (view_of c.take_around.new.kept) (view_of c.take_one.new.kept) c.take_around.new.begun c.take_one.new.begun c.in_ok-around.around c.in_ok-taken.taken has
    (own_ticket c.args.histories.now c.args.turns.now c.in-Some.outer c.requires.turns within) (around_after c.args.histories.now c.args.turns.now c.in-Some.outer c.requires.turns)
    (c.in_ok-around.ensures.taken before begun) c.if-not-around.false (λ so_far. c.in_ok-taken.ensures.taken (tickets_of (around_in (turns_of c.args.histories.now c.args.turns.now) c.in-Some.outer) ++ before) so_far)
