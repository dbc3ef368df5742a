use Rattle.std.proofs.Common.{◌≡◌, ℕ, ◌+◌, List, length, refl, sym, ap, ◌∙◌, subst, arith}
use Rattle.std.specs.Prelude.{slice_get}
use Rattle.std.proofs.lemmas.Option.{slice_get_read}
use Rattle.place_words.specs.declared.turn_logs.LoggedTurn.{LoggedTurn}
use Rattle.place_words.specs.declared.turn_logs.TurnPlace.{TurnPlace}
use Rattle.place_table.specs.TurnPlaces.{ArePlaced}
use Rattle.place_table.proofs.TurnPlaces.{turn_placed, with_place_long}
use Rattle.place_table.proofs.turn_places.place_turns.Goals as goal

pub loop-turn-preserved : goal.loop-turn-preserved
loop-turn-preserved c =
    let so_far = c.loop-turn.invariant in
    let counts = c.args.counts.now in
    let turns : List LoggedTurn = c.args.turns.now in
    let turn : ℕ = c.loop-turn.turn in
    let logged : LoggedTurn = c.index-turns-turn.result in
    let place : TurnPlace = record { log = c.args.log; turn = turn } in
    let before : List TurnPlace = c.loop-turn.places.items in record {
      many = ap length c.place_turn.ensures ∙ with_place_long counts logged place before ∙ so_far.many;
      placed = λ logs here is same first.
          subst (ArePlaced counts logs c.args.log (turn + 1)) (sym c.place_turn.ensures)
          (turn_placed counts logs c.args.log turn here logged before is
          (ap (λ (l : List LoggedTurn). slice_get l turn) same ∙ slice_get_read turns (length turns) turn logged refl c.loop-turn-test.true c.index-turns-turn.is)
          (so_far.many ∙ c.requires.many) (so_far.placed logs here is same first));
    }

pub returns-clause-placed : goal.returns-clause-placed
returns-clause-placed c = λ logs here is same first.
    let all : c.loop-turn.turn ≡ length c.args.turns.now = omega arith in
    subst (λ (n : ℕ). ArePlaced c.args.counts.now logs c.args.log n c.loop-turn.places.items) all (c.loop-turn.invariant.placed logs here is same first)
