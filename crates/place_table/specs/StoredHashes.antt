-- The hashes that listed elements have in their rows, as histories tell them.
use Rattle.std.specs.Prelude.{ℕ, Option}
use Rattle.place_words.specs.Histories.{Content}
use Rattle.place_words.specs.Takings.{listed_rows, stored_hash}

-- the stored hash of an element, none where it has no row
unfoldable pub stored_in : Content → ℕ → Option ℕ
stored_in content e = stored_hash e (listed_rows content)
