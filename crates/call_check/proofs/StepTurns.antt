-- The turns that the steps of a strand name.
use Rattle.std.proofs.Common.{◌≡◌, ℕ, List, [], ◌∷◌, ◌++◌, map, refl, ap, sym, ◌∙◌}
use Rattle.std.specs.Prelude.{Option, Some, slice_get, option_to_list, option_map}
use Rattle.std.specs.List.{flat_map}
use Rattle.map_types.specs.declared.kind.DomainId.{DomainId}
use Rattle.place_words.specs.declared.history.Entry.{Entry}
use Rattle.place_words.specs.declared.history.LockHistory.{LockHistory}
use Rattle.place_words.specs.declared.history.StrandStep.{StrandStep}
use Rattle.place_words.specs.Interleaving.{Drawn}
use Rattle.place_words.specs.Named.{entries_of, Names, NameAll}
use Rattle.place_words.specs.Tickets as by_entry
use Rattle.place_words.specs.Tickets.{AscendIn}
use Rattle.place_words.specs.Turns.{TurnAt}
use Rattle.call_check.proofs.PlacedTurns.{at_of, take_drawn}

abbrev pub drawn_at : List LockHistory → StrandStep → Option Drawn
drawn_at histories step = option_map (λ (entry : Entry). record { lock = step.lock; entry = entry }) (slice_get (entries_of histories step.lock) step.index)

abbrev pub drawn_by : List LockHistory → List StrandStep → List Drawn
drawn_by histories steps = flat_map (λ (step : StrandStep). option_to_list (drawn_at histories step)) steps

module _ (histories : List LockHistory) (n : ℕ) (ascend : (lock : DomainId) → AscendIn 0 (by_entry.tickets_of (entries_of histories lock)) n) (cpu number : ℕ) where
  abbrev named_drawn : (step : StrandStep) (at : TurnAt) → Names histories cpu number step at → Drawn
  named_drawn step at names = record { lock = step.lock; entry = record { ticket = names.ticket; cpu = cpu; call = number; part = at.turn.part } }

  drawn_named : (step : StrandStep) (at : TurnAt) (names : Names histories cpu number step at) → drawn_at histories step ≡ Some (named_drawn step at names)
  drawn_named step at names = ap (option_map (λ (entry : Entry). record { lock = step.lock; entry = entry })) names.entry

  at_named : (step : StrandStep) (at : TurnAt) (names : Names histories cpu number step at) → at ≡ at_of histories (named_drawn step at names)
  at_named step at names =
      ap (λ (l : DomainId). record { turn = record { lock = l; part = at.turn.part }; earlier = at.earlier }) (sym names.lock)
      ∙ ap (λ (l : List Entry). record { turn = record { lock = step.lock; part = at.turn.part }; earlier = l })
      (names.earlier ∙ take_drawn 0 (entries_of histories step.lock) n step.index (record { ticket = names.ticket; cpu = cpu; call = number; part = at.turn.part }) (ascend step.lock) names.entry)

  -- the turns that steps name are theirs
  pub named : (steps : List StrandStep) (turns : List TurnAt) → NameAll histories cpu number steps turns → turns ≡ map (at_of histories) (drawn_by histories steps)
  named [] [] names = refl
  named [] (turn ∷ turns) names = absurd names
  named (step ∷ steps) [] names = absurd names
  named (step ∷ steps) (turn ∷ turns) names =
      ap (λ (t : TurnAt). t ∷ turns) (at_named step turn names.0)
      ∙ (ap (λ (l : List TurnAt). at_of histories (named_drawn step turn names.0) ∷ l) (named steps turns names.1)
      ∙ sym (ap (λ (o : Option Drawn). map (at_of histories) (option_to_list o ++ drawn_by histories steps)) (drawn_named step turn names.0)))
