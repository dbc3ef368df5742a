-- What is asked of a map for its batches of writes: that its calls on one key are determined by their traces.
use Rattle.std.proofs.Common.{◌≡◌, ℕ, List}
use Rattle.map_types.specs.declared.attr.Shape.{Shape}
use Rattle.map_types.specs.declared.call.Verb.{Verb}
use Rattle.map_types.specs.declared.reply.Reply.{Reply}
use Rattle.place_words.specs.Logs.{State, all_turned, Does, key_does}
use Rattle.place_words.specs.Turns.{Turn, TurnAt, turns_of}
use Rattle.place_words.specs.Walks.{IsKeyTrace}
use Rattle.place_words.proofs.DoneLaws.{IsKeyVerb}
use Rattle.serial_laws.proofs.TurnsMade.{AreMade, EachTurn}

-- These turns and this reply are those of a run in serial order.
pub record IsAs (did : Does) (turns : List TurnAt) (reply : Reply) : Type 0 where
  pub turns_are : turns_of turns ≡ did.turns
  pub reply_is : reply ≡ did.reply

-- On this CPU the turns and the reply of a call on one key are those of a run in serial order, where this holds of each turn and the
-- state is a good one; and the call leaves a good one.
pub record DecidesKeys (Fact : State → Turn → Type 0) (shape : Shape) (cpu : ℕ) (Good : State → Type 0) : Type 0 where
  pub key_is : (number : ℕ) (state : State) (verb : Verb) (turns : List TurnAt) (reply : Reply) → Good state → IsKeyVerb verb → IsKeyTrace shape cpu (state.spares cpu) verb turns reply
      → AreMade shape cpu number turns state → EachTurn Fact shape cpu number turns state → IsAs (key_does shape cpu number state verb) turns reply
  pub stays : (number : ℕ) (state : State) (verb : Verb) → Good state → IsKeyVerb verb → Good (all_turned shape cpu number (key_does shape cpu number state verb).turns state)
