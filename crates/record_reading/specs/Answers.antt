-- How the reply to a call is read.
use Rattle.std.specs.Prelude.{ℕ, ◌+◌, List, [], ◌∷◌, Option}
use Rattle.map_types.specs.declared.attr.Shape.{Shape}
use Rattle.map_types.specs.declared.call.Call.{Call}
use Rattle.map_types.specs.declared.call.Verb.{Verb}
use Rattle.map_types.specs.declared.call.Verb.TheVariants.{Lookup, Take, Next}
use Rattle.map_types.specs.declared.kind.Side.TheVariants.{Sys}
use Rattle.map_types.specs.declared.reply.Reply.{Reply}
use Rattle.record_reading.specs.Readers.{whole, bytes, some_bytes}
use Rattle.record_reading.specs.BucketReaders.{value}
use Rattle.record_reading.specs.ReplyReaders.{reply}
use Rattle.record_shape.specs.ShapedParts.{pair_side}

abbrev pub answer_of : Shape → Verb → List ℕ → Option (List ℕ)
answer_of shape (Lookup side key) = whole (value shape side)
answer_of shape (Take key) = whole (value shape Sys)
answer_of shape (Next key) = whole (bytes shape.key_size)
answer_of shape other = some_bytes

-- calls with their numbers, from this one on
abbrev pub with_numbers : {A : Type 0} → ℕ → List A → List (ℕ × A)
with_numbers number [] = []
with_numbers number (item ∷ items) = (number, item) ∷ with_numbers (number + 1) items

-- `N REPLY`
abbrev pub reply_of : Shape → ℕ × Call → List ℕ → Option Reply
reply_of shape call = reply shape (pair_side call.1.verb) (answer_of shape call.1.verb) call.0
