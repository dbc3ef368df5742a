-- The turns of each call, wherever they stand among those of others, are a trace of it.
use Rattle.std.specs.Prelude.{◌≡◌, ℕ, ◌==◌, Bool, All, List, [], ◌∷◌, ◌++◌, map, filter, Option}
use Rattle.map_types.specs.declared.attr.Shape.{Shape}
use Rattle.map_types.specs.declared.call.Verb.{Verb}
use Rattle.map_types.specs.declared.reply.Reply.{Reply}
use Rattle.place_words.specs.Interleaving.{Drawn, turn_of, entry_of, drawn_on}
use Rattle.place_words.specs.Traces.{IsTrace}
use Rattle.place_words.specs.Turns.{TurnAt}

-- a turn in an order, with what came before it on its lock
pub record Placed : Type 0 where
  pub drawn : Drawn
  pub at : TurnAt

abbrev pub place : List Drawn → Drawn → Placed
place before drawn = record { drawn = drawn; at = record { turn = turn_of drawn; earlier = map entry_of (drawn_on drawn.lock before) } }

abbrev pub placed_after : List Drawn → List Drawn → List Placed
placed_after before [] = []
placed_after before (drawn ∷ later) = place before drawn ∷ placed_after (before ++ drawn ∷ []) later

-- those of the call with a number
abbrev pub is_of : ℕ → Placed → Bool
is_of number placed = placed.drawn.entry.call == number

abbrev pub turns_of_call : ℕ → List Drawn → List TurnAt
turns_of_call number turns = map (λ (placed : Placed). placed.at) (filter (is_of number) (placed_after [] turns))

-- They are all of one CPU, and a trace of some call of it.
pub record CallInOrder (shape : Shape) (turns : List Drawn) (number : ℕ) : Type 0 where
  pub cpu : ℕ
  pub verb : Verb
  pub spare : Option ℕ
  pub reply : Reply
  pub all_its : All (λ (drawn : Drawn). drawn.entry.call ≡ number → drawn.entry.cpu ≡ cpu) turns
  pub trace : IsTrace shape cpu spare verb (turns_of_call number turns) reply

-- Each turn is one of a call whose turns are such.
abbrev pub AreInOrder : Shape → List Drawn → Type 0
AreInOrder shape turns = All (λ (drawn : Drawn). CallInOrder shape turns drawn.entry.call) turns
