-- The values of an element as a list, in the order of the parts, whichever form holds them.
use Rattle.std.specs.Prelude.{[], ◌∷◌, ℕ, List}
use Rattle.place_words.specs.declared.kept_values.ValuesData.{ValuesData}
use Rattle.place_words.specs.declared.kept_values.ValuesData.TheVariants.{One, Each}

abbrev pub values_of : ValuesData → List (List ℕ)
values_of (One value) = value ∷ []
values_of (Each values) = values
