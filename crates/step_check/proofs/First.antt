-- What is asked of the first turns of a race: as `AreTurns`, so many turns far. Which turns enclose one is looked for among
-- all that come later.
use Rattle.std.proofs.Common.{◌≡◌, ℕ, zero, suc, List, [], ◌∷◌, ◌++◌, map, take, length, sym, ◌∙◌, subst}
use Rattle.std.proofs.lemmas.List.{append_assoc}
use Rattle.std.proofs.Math.Seq.{take-length}
use Rattle.map_types.specs.Shape.{HasBounds}
use Rattle.map_types.specs.declared.attr.Shape.{Shape}
use Rattle.map_types.specs.declared.kind.DomainId.{DomainId}
use Rattle.place_words.specs.Histories.{Content, Allows, opening_content}
use Rattle.place_words.specs.OpeningState.{opening}
use Rattle.place_words.specs.State.{State}
use Rattle.place_words.proofs.OpeningLaws.{opening_placed}
use Rattle.place_words.specs.Turns.{after_turn}
use Rattle.place_words.specs.Interleaving.{Drawn, turn_of, Event, does, enclosing, bucket_around, tickets_of, takes, not_begun, part_steps, seen_by, lists_in, turn_events, AreEnabled}
use Rattle.place_words.specs.declared.step.Step.TheVariants as steps
use Rattle.turn_order.specs.Ordered.{interleaved_to}
use Rattle.core_runs.specs.Races.{PaysAt, owed_after}
use Rattle.core_runs.specs.Words.{words_of, RunsByWords, RunsByLists}
use Rattle.core_runs.proofs.Fits.{Fits}
use Rattle.core_runs.proofs.Nests.{goes_on}
use Rattle.core_runs.proofs.PlainRuns.{core_lists}
use Rattle.core_runs.proofs.RaceRuns.{bases, opening_fits, turn_follows}
use Rattle.core_runs.proofs.Reduced.{Follows, none, follows_none, follows_takes}
use Rattle.core_runs.proofs.Words.{runs_both, runs_words}

unfoldable pub AreTurnsTo : ℕ → Shape → (DomainId → Content) → (ℕ → List ℕ) → List Drawn → Type 0
AreTurnsTo zero shape contents owed turns = Unit {0}
AreTurnsTo (suc n) shape contents owed [] = Unit {0}
AreTurnsTo (suc n) shape contents owed (x ∷ later) =
    PaysAt shape owed (bucket_around (enclosing x later)) x.lock x.entry.part
    × Allows shape x.entry.cpu x.entry.part (contents x.lock)
    × AreTurnsTo n shape (after_turn shape x.entry.cpu contents (turn_of x)) (owed_after (bucket_around (enclosing x later)) x.lock x.entry.part owed) later

-- The first turn's events, and then those of the others.
pub first_turn_to : (n : ℕ) (shape : Shape) (contents : DomainId → Content) (begun : List ℕ) (x : Drawn) (later : List Drawn)
    → interleaved_to (suc n) shape contents begun (x ∷ later)
    ≡ map takes (not_begun begun (enclosing x later ++ x ∷ [])) ++ goes_on shape contents (enclosing x later) x (interleaved_to n shape (after_turn shape x.entry.cpu contents (turn_of x)) (x.entry.ticket ∷ tickets_of (enclosing x later) ++ begun) later)
unfolding interleaved_to turn_events
first_turn_to n shape contents begun x later =
    let around : List Drawn = enclosing x later in
    let now : DomainId → Content = after_turn shape x.entry.cpu contents (turn_of x) in
    let give : List Event = does (steps.Give x.entry.cpu x.lock (lists_in (now x.lock))) ∷ [] in
    let more : List Event = interleaved_to n shape now (x.entry.ticket ∷ tickets_of around ++ begun) later in
    let word : List Event = map does (part_steps shape x.entry.cpu x.lock (bucket_around around) x.entry.part) in
    append_assoc (map takes (not_begun begun (around ++ x ∷ [])) ++ word ++ seen_by x.entry.part) give more
    ∙ append_assoc (map takes (not_begun begun (around ++ x ∷ [])) ++ word) (seen_by x.entry.part) (give ++ more)
    ∙ append_assoc (map takes (not_begun begun (around ++ x ∷ []))) word (seen_by x.entry.part ++ (give ++ more))

module _ {shape : Shape} (bounds : HasBounds shape) where
  -- what words allow of the first turns, lists allow
  pub turns_follow_to : (n : ℕ) (turns : List Drawn) (contents : DomainId → Content) (owed : ℕ → List ℕ) (begun : List ℕ) (s : State) → AreTurnsTo n shape contents owed turns → Fits shape (bases contents) owed none (core_lists contents) s
      → Follows shape s (interleaved_to n shape contents begun turns)
  unfolding AreTurnsTo interleaved_to RunsByLists
  turns_follow_to zero turns contents owed begun s are fits = follows_none bounds s
  turns_follow_to (suc n) [] contents owed begun s are fits = follows_none bounds s
  turns_follow_to (suc n) (x ∷ later) contents owed begun s are fits =
      let around : List Drawn = enclosing x later in
      let now : DomainId → Content = after_turn shape x.entry.cpu contents (turn_of x) in
      let more : List Event = interleaved_to n shape now (x.entry.ticket ∷ tickets_of around ++ begun) later in
      subst (Follows shape s) (sym (first_turn_to n shape contents begun x later))
      (follows_takes bounds (not_begun begun (around ++ x ∷ [])) s (goes_on shape contents around x more) fits
      (λ t fits'. turn_follows bounds contents owed x around t more are.0 are.1 fits'
      (λ u fits2. turns_follow_to n later now (owed_after (bucket_around around) x.lock x.entry.part owed) (x.entry.ticket ∷ tickets_of around ++ begun) u are.2 fits2)))

  -- The first turns of a race may be made where words allow them.
  pub race_made : (m : ℕ) (turns : List Drawn) → AreTurnsTo m shape (opening_content shape) none turns → RunsByWords shape (words_of (opening shape)) (interleaved_to m shape (opening_content shape) [] turns)
      → AreEnabled shape (opening shape) (interleaved_to m shape (opening_content shape) [] turns)
  race_made m turns are words =
      let events : List Event = interleaved_to m shape (opening_content shape) [] turns in
      let all : take (length events) events ≡ events = take-length events in
      runs_both bounds events (opening shape) (opening_placed shape bounds) words
      (subst (RunsByLists shape (opening shape)) all
      (turns_follow_to m turns (opening_content shape) none [] (opening shape) are (opening_fits bounds) (length events) (subst (RunsByWords shape (words_of (opening shape))) (sym all) words)))

  -- and by words they run where they may be made
  pub words_first : (m : ℕ) (turns : List Drawn) → AreEnabled shape (opening shape) (interleaved_to m shape (opening_content shape) [] turns)
      → RunsByWords shape (words_of (opening shape)) (interleaved_to m shape (opening_content shape) [] turns)
  words_first m turns run = runs_words bounds (interleaved_to m shape (opening_content shape) [] turns) (opening shape) (opening_placed shape bounds) run
