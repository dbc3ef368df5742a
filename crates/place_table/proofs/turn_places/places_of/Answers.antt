use Rattle.std.proofs.Common.{◌≡◌, ℕ, List, Some, Vec, Global, length, refl, sym, ap, ◌∙◌, subst, arith}
use Rattle.std.specs.Prelude.{slice_get}
use Rattle.std.proofs.lemmas.Option.{slice_get_read}
use Rattle.place_words.specs.declared.turn_logs.LoggedTurn.{LoggedTurn}
use Rattle.place_table.specs.TurnPlaces.{ArePlaced}
use Rattle.place_table.proofs.TurnPlaces.{none_placed, log_placed}
use Rattle.place_table.proofs.turn_places.places_of.Goals as goal

pub loop-log-init : goal.loop-log-init
loop-log-init c = record {
  many = omega (arith, c.in_ok-resize.ensures.len, c.resize.new.self.ok.0, c.requires.each (length c.args.counts.now) (omega arith));
  placed = none_placed c.args.counts.now c.args.logs.now c.resize.new.self.items;
}

pub loop-log-preserved : goal.loop-log-preserved
loop-log-preserved c =
    let so_far = c.loop-log.invariant in
    let counts = c.args.counts.now in
    let logs : List (Vec LoggedTurn Global) = c.args.logs.now in
    let log : ℕ = c.loop-log.log in
    let here : Vec LoggedTurn Global = c.index-logs-log-in-loop-log.result in
    let at : slice_get logs log ≡ Some here = slice_get_read logs (length logs) log here refl c.loop-log-test.true c.index-logs-log-in-loop-log.is in record {
      many = c.place_turns.ensures.many ∙ so_far.many;
      placed = log_placed counts logs log here c.place_turns.new.places.items at
          (subst (λ (n : ℕ). ArePlaced counts logs log n c.place_turns.new.places.items) (ap length c.as_slice.ensures.value)
          (c.place_turns.ensures.placed logs here at (sym c.as_slice.ensures.value) so_far.placed));
    }

pub returns-clause-placed : goal.returns-clause-placed
returns-clause-placed c =
    let all : c.loop-log.log ≡ length c.args.logs.now = omega arith in
    subst (λ (n : ℕ). ArePlaced c.args.counts.now c.args.logs.now n 0 c.loop-log.places.items) all c.loop-log.invariant.placed
