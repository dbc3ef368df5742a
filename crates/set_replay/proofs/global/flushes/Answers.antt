use Rattle.std.proofs.Common.{ℕ, ◌<◌, false, get_or, ap, sym, subst, refl}
use Rattle.place_words.specs.declared.visits.Flush.{Flush}
use Rattle.lru_lists.specs.Sets.{SetView}
use Rattle.set_replay.proofs.GlobalLemmas.{marked_like, none_flushed, flushes_on, flushes_stop, all_flushed}
use Rattle.set_replay.proofs.global.flushes.Goals as goal

pub comes-requires-clause-marks : goal.comes-requires-clause-marks
comes-requires-clause-marks g c =
    marked_like c.args.marks.now c.args.set.now c.loop-i.set c.requires.marks (ap (λ (z : SetView). z.elements) c.loop-i.invariant.set) (ap (λ (z : SetView). z.free) c.loop-i.invariant.set)

pub comes-requires-clause-below : goal.comes-requires-clause-below
comes-requires-clause-below g c =
    let other : Flush = record { element = 0; hash = 0; bit = false } in
    subst (λ (n : ℕ). (get_or c.args.flushed.now c.loop-i.i other).element < n) (sym (ap (λ (z : SetView). z.elements) c.loop-i.invariant.set))
    (c.requires.below c.loop-i.i other c.loop-i-test.true)

pub loop-i-init : goal.loop-i-init
loop-i-init g c = none_flushed c.args.set.now

pub loop-i-preserved : goal.loop-i-preserved
loop-i-preserved g c =
    let other : Flush = record { element = 0; hash = 0; bit = false } in
    flushes_on c.args.flushed.now c.loop-i.i c.loop-i.invariant (get_or c.args.flushed.now c.loop-i.i other) other c.loop-i-test.true refl c.comes.new.set c.if-not-comes.ensures.0 c.if-not-comes.ensures.1

pub returns : goal.returns
returns g c = all_flushed c.args.flushed.now c.loop-i.i c.args.set.now c.loop-i.set c.loop-i.invariant c.loop-i-test.false

pub returns-then-not-comes : goal.returns-then-not-comes
returns-then-not-comes g c =
    let other : Flush = record { element = 0; hash = 0; bit = false } in
    flushes_stop c.args.flushed.now c.loop-i.i c.loop-i.invariant (get_or c.args.flushed.now c.loop-i.i other) other c.loop-i-test.true refl c.if-not-comes.ensures
