-- On a map that doesn't evict the traces of calls on one key are those that know nothing of what came before.
use Rattle.std.proofs.Common.{◌≡◌, ℕ, Bool, true, false, cond, refl}
use Rattle.std.specs.Prelude.{Option, List, MatchBool}
use Rattle.map_types.specs.declared.attr.Shape.{Shape}
use Rattle.map_types.specs.declared.call.Verb.{Verb}
use Rattle.map_types.specs.declared.call.Verb.TheVariants as verbs
use Rattle.map_types.specs.declared.reply.Reply.{Reply}
use Rattle.map_types.specs.Kind.{is_lru}
use Rattle.place_words.specs.PlainTraces.{IsPlainTrace, spare_after}
use Rattle.place_words.specs.Traces.{IsTrace}
use Rattle.place_words.specs.Turns.{TurnAt, turns_of}
use Rattle.place_words.specs.Walks.{IsKeyTrace, spare_left}

pub chosen_second : (b : Bool) (A B : Type 0) → b ≡ false → B → MatchBool b A B
chosen_second true A B is it = absurd cc
chosen_second false A B is it = it

pub second_chosen : (b : Bool) (A B : Type 0) → b ≡ false → MatchBool b A B → B
second_chosen true A B is it = absurd cc
second_chosen false A B is it = it

module _ (shape : Shape) (cpu : ℕ) (spare : Option ℕ) (turns : List TurnAt) (reply : Reply) (plain : is_lru shape.kind ≡ false) where
  key_trace : (verb : Verb) → IsPlainTrace shape cpu spare verb (turns_of turns) reply → IsKeyTrace shape cpu spare verb turns reply
  key_trace verb trace = chosen_second (is_lru shape.kind) _ _ plain trace

  pub plain_trace : (verb : Verb) → IsPlainTrace shape cpu spare verb (turns_of turns) reply → IsTrace shape cpu spare verb turns reply
  plain_trace (verbs.Lookup side key) trace = key_trace (verbs.Lookup side key) trace
  plain_trace (verbs.Update side flags key value) trace = key_trace (verbs.Update side flags key value) trace
  plain_trace (verbs.Delete key) trace = key_trace (verbs.Delete key) trace
  plain_trace (verbs.Take key) trace = key_trace (verbs.Take key) trace
  plain_trace (verbs.Next key) trace = absurd trace
  plain_trace (verbs.BatchRead remove count start flags) trace = absurd trace
  plain_trace (verbs.BatchUpdate flags pairs) trace = absurd trace
  plain_trace (verbs.BatchDelete flags keys) trace = absurd trace
  plain_trace (verbs.Each flags stop) trace = absurd trace

  -- and the other way round
  pub trace_plain : (verb : Verb) → IsKeyTrace shape cpu spare verb turns reply → IsPlainTrace shape cpu spare verb (turns_of turns) reply
  trace_plain verb trace = second_chosen (is_lru shape.kind) _ _ plain trace

spare_chosen : (b : Bool) (kept after : Option ℕ) → b ≡ false → cond b kept after ≡ after
spare_chosen true kept after is = absurd cc
spare_chosen false kept after is = refl

pub plain_spare : (shape : Shape) (spare : Option ℕ) (turns : List TurnAt) → is_lru shape.kind ≡ false → spare_left shape spare turns ≡ spare_after spare (turns_of turns)
plain_spare shape spare turns plain = spare_chosen (is_lru shape.kind) spare (spare_after spare (turns_of turns)) plain
