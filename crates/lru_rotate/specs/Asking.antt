-- What calls for bits leave as it is.
use Rattle.std.specs.Prelude.{◌≡◌, ◌↔◌, ℕ, Bool, false, ◌==◌, List, [], ◌∷◌, if◌then◌else◌}
use Rattle.map_types.specs.Stored.{Stored}
use Rattle.map_types.specs.declared.row.Row.{Row}
use Rattle.lru_lists.specs.declared.bits.BitCall.{BitCall}
use Rattle.lru_lists.specs.declared.bits.BitCall.TheVariants.{Cleared, Read}
use Rattle.lru_lists.specs.declared.bits.ProbeCall.{ProbeCall}

-- Between two moments an object that is asked for bits was asked for nothing else: what might be asked of it still may, and
-- its probes, what may be probed, what probes give, and to whom it is lent are as they were.
pub record OnlyBits {Asked : Type 0}
    (may_ask : Asked → ℕ → Type 0) (probes : Asked → List ProbeCall) (may_probe : Asked → Row → Type 0)
    (gives : Asked → Stored → Type 0) (lender : Asked → ℕ) (old now : Asked) : Type 0 where
  pub asked : (e : ℕ) → may_ask old e → may_ask now e
  pub probed : probes now ≡ probes old
  pub probing : (row : Row) → may_probe old row ↔ may_probe now row
  pub given : (body : Stored) → gives old body ↔ gives now body
  pub lent : lender now ≡ lender old

-- The bit of an element after these calls, where it was so before them and nobody else sets it.
abbrev pub bit_after : ℕ → Bool → List BitCall → Bool
bit_after e bit [] = bit
bit_after e bit (Cleared visit ∷ calls) = bit_after e (if visit.element == e then false else bit) calls
bit_after e bit (Read visit ∷ calls) = bit_after e bit calls
