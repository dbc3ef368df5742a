-- The turns of one call of a map of any kind, in the order in which their locks are given back, and the reply that goes with
-- them. Each turn has what came before it on its lock.
use Rattle.std.specs.Prelude.{ℕ, List, Option}
use Rattle.map_types.specs.declared.attr.Shape.{Shape}
use Rattle.map_types.specs.declared.call.Verb.{Verb}
use Rattle.map_types.specs.declared.call.Verb.TheVariants as verbs
use Rattle.map_types.specs.declared.reply.Reply.{Reply}
use Rattle.place_words.specs.Handing.{IsHandingTrace, StopsAt}
use Rattle.place_words.specs.Turns.{TurnAt, turns_of}
use Rattle.place_words.specs.Walks.{IsKeyTrace, IsNextTrace, IsReadTrace, IsWriteBatch, updates_of, deletes_of}
pub use Rattle.place_words.specs.Turns.{Turn, bucket_of_key, ring, on_bucket_of, on_freelist_of, after_turn, after_turns, AreAllowed}
pub use Rattle.place_words.specs.PlainTraces.{found_empty, Pops, pushes, reply_of_got, IsLookupTrace, LooksFor, reply_of_put, IsPutTrace, IsUpdateTrace, reply_of_gone, IsDeleteTrace, element_gone, IsTakeTrace, IsPlainTrace, spare_after_put, spare_after_part, spare_after}

-- The turns of a call on a CPU with this spare, and its reply.
abbrev pub IsTrace : Shape → ℕ → Option ℕ → Verb → List TurnAt → Reply → Type 0
IsTrace shape cpu spare (verbs.Lookup side key) turns reply = IsKeyTrace shape cpu spare (verbs.Lookup side key) turns reply
IsTrace shape cpu spare (verbs.Update side flags key value) turns reply =
    IsKeyTrace shape cpu spare (verbs.Update side flags key value) turns reply
IsTrace shape cpu spare (verbs.Delete key) turns reply = IsKeyTrace shape cpu spare (verbs.Delete key) turns reply
IsTrace shape cpu spare (verbs.Take key) turns reply = IsKeyTrace shape cpu spare (verbs.Take key) turns reply
IsTrace shape cpu spare (verbs.Next key) turns reply = IsNextTrace shape key (turns_of turns) reply
IsTrace shape cpu spare (verbs.BatchRead remove count start flags) turns reply = IsReadTrace shape cpu remove count start flags turns reply
IsTrace shape cpu spare (verbs.BatchUpdate flags pairs) turns reply = IsWriteBatch shape cpu spare flags (updates_of pairs) turns reply
IsTrace shape cpu spare (verbs.BatchDelete flags keys) turns reply = IsWriteBatch shape cpu spare flags (deletes_of keys) turns reply
IsTrace shape cpu spare (verbs.Each flags stop) turns reply = IsHandingTrace shape cpu (StopsAt stop) flags (turns_of turns) reply
