-- What is noted of a rotation or a shrink.
use Rattle.std.specs.Prelude.{◌≡◌, List, [], ◌∷◌, ◌++◌}
use Rattle.lru_lists.specs.declared.notes.Noted.{Noted}
use Rattle.lru_lists.specs.declared.notes.Noted.TheVariants.{Kept, Lost}

-- These were noted, in this order, after the old notes. Notes may be lost only where one is noted, and stay so.
abbrev pub AreNoted : {T : Type 0} → List T → Noted T → Noted T → Type 0
AreNoted values (Kept old) (Kept now) = now ≡ old ++ values
AreNoted [] (Kept old) Lost = ⊥
AreNoted (value ∷ values) (Kept old) Lost = Unit {0}
AreNoted values Lost (Kept now) = ⊥
AreNoted values Lost Lost = Unit {0}
