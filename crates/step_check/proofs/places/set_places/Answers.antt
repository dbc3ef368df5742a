use Rattle.std.proofs.Common.{refl}
use Rattle.place_words.specs.Entries.{entry_read}
use Rattle.step_check.proofs.ByTicket.{set_all, set_more}
use Rattle.step_check.proofs.places.set_places.Goals as goal

pub loop-place-init : goal.loop-place-init
loop-place-init c = record { long = refl; last = λ ticket none. refl }

pub loop-place-preserved : goal.loop-place-preserved
loop-place-preserved c =
    set_more c.args.histories.now c.args.places.now c.loop-place.place-index c.args.by_ticket.now c.loop-place.by_ticket (entry_read c.entry_at-entry.result) _ c.loop-place-test.true c.entry_at-entry.ensures
    c.requires.within c.loop-place.invariant

pub returns : goal.returns
returns c = set_all c.args.histories.now c.args.places.now c.loop-place.place-index c.args.by_ticket.now c.loop-place.by_ticket c.loop-place-test.false c.loop-place.invariant
