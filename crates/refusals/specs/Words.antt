-- Words to say which copies are refused.
use Rattle.std.specs.Prelude.{◌≡◌, ℕ, [], ◌∷◌, map}
use Rattle.place_words.specs.declared.history.LockHistory.{LockHistory}
use Rattle.place_words.specs.declared.history.Part.TheVariants as parts
use Rattle.place_words.specs.declared.list_part.GlobalPart.TheVariants as global

-- the one turn of the history is a push of this element on the global lists
abbrev pub IsOnePush : ℕ → LockHistory → Type 0
IsOnePush e history = map (λ entry. entry.part) history.entries ≡ parts.Global (global.Push e) ∷ []
