-- What a probe answers.
use Rattle.map_types.specs.Stored.{Stored}
use Rattle.place_words.specs.declared.bucket_part.Seen.{Seen}
use Rattle.place_words.specs.declared.bucket_part.Seen.TheVariants as seen
use Rattle.lru_lists.specs.declared.bits.Probed.{Probed}
use Rattle.lru_lists.specs.declared.bits.Probed.TheVariants as probed

-- the answer without the body
abbrev pub seen_of : Probed → Seen
seen_of (probed.Removed body) = seen.Removed
seen_of (probed.Held cpu) = seen.Held cpu

abbrev pub IsHeld : Probed → Type 0
IsHeld (probed.Removed body) = ⊥
IsHeld (probed.Held cpu) = Unit {0}

-- what holds of the body of an element that was removed
abbrev pub IfRemoved : Probed → (Stored → Type 0) → Type 0
IfRemoved (probed.Removed body) P = P body
IfRemoved (probed.Held cpu) P = Unit {0}
