-- What is told of a turn of local lists is told still once it is packed, or there is no memory to pack it.
use Rattle.std.proofs.Common.{◌≡◌, ℕ, subst, Option, Some, None}
use Rattle.std.specs.Prelude.{option_map, IfSome, MatchOption, ⊤}
use Rattle.place_words.specs.declared.history.Part.{Part}
use Rattle.place_words.specs.declared.history.Part.TheVariants as parts
use Rattle.place_words.specs.declared.list_part.LocalPart.{LocalPart}
use Rattle.place_words.specs.declared.list_part.Stolen.{Stolen}
use Rattle.place_words.specs.declared.visits.Look.{Look}
use Rattle.place_words.specs.declared.visits.Try.{Try}
use Rattle.lru_lists.specs.declared.notes.Noted.{Noted}
use Rattle.place_table.proofs.Worlds.{none_some, some_is}
use Rattle.lru_ops.specs.declared.refill.Refilled.{Refilled}
use Rattle.lru_ops.specs.Shared.{IsRefillPart}
use Rattle.lru_ops.specs.Thefts.{IsTheft}

told_packed : (none : Type 0) (told : Part → Type 0) (part : Option LocalPart) (packed : Option Part) → MatchOption part none (λ x. told (parts.Local x)) → IfSome packed (λ x. option_map parts.Local part ≡ Some x) → IfSome packed told
told_packed none told part None is packs = tt
told_packed none told None (Some x) is packs = absurd (none_some packs)
told_packed none told (Some part) (Some x) is packs = subst told (some_is packs) is

pub refill_packed : (hash : ℕ) (refilled : Option Refilled) (got : Option ℕ) (part : Option LocalPart) (packed : Option Part) → MatchOption part (refilled ≡ None) (λ x. IsRefillPart hash refilled got (parts.Local x))
    → IfSome packed (λ x. option_map parts.Local part ≡ Some x) → IfSome packed (IsRefillPart hash refilled got)
refill_packed hash refilled got part packed = told_packed (refilled ≡ None) (IsRefillPart hash refilled got) part packed

pub theft_packed : (stolen : Stolen) (first : Noted Look) (second : Noted Try) (part : Option LocalPart) (packed : Option Part) → IfSome part (λ x. IsTheft stolen first second (parts.Local x))
    → IfSome packed (λ x. option_map parts.Local part ≡ Some x) → IfSome packed (IsTheft stolen first second)
theft_packed stolen first second part packed = told_packed ⊤ (IsTheft stolen first second) part packed
