-- Numbers that ascend, looked at one after another.
use Rattle.std.proofs.Common.{◌≡◌, ℕ, ◌+◌, ◌<◌, ◌≤◌, ◌&&◌, nat_lt, true, false, List, length, drop, get_or, refl, ap, ◌∙◌}
use Rattle.std.proofs.lemmas.List.{drop_more, drop_all}
use Rattle.std.proofs.lemmas.Bool.{lt-ltb, le-ltb}
use Rattle.record_reading.specs.Readers.{ascends_above}

-- those behind so many are above the last of these, as all are above the first
pub record AreAbove (first least : ℕ) (numbers : List ℕ) (count : ℕ) : Type 0 where
  pub so_far : ascends_above first numbers ≡ ascends_above least (drop count numbers)

pub above_start : (first : ℕ) (numbers : List ℕ) → AreAbove first first numbers 0
above_start first numbers = record { so_far = refl }

next_of : (first least : ℕ) (numbers : List ℕ) (count : ℕ) → AreAbove first least numbers count → count < length numbers → ascends_above first numbers ≡ (nat_lt least (get_or numbers count 0) && ascends_above (get_or numbers count 0) (drop (count + 1) numbers))
next_of first least numbers count above inside = above.so_far ∙ ap (ascends_above least) (drop_more numbers count 0 inside)

pub above_more : (first least : ℕ) (numbers : List ℕ) (count : ℕ) → AreAbove first least numbers count → count < length numbers → least < get_or numbers count 0 → AreAbove first (get_or numbers count 0) numbers (count + 1)
above_more first least numbers count above inside less =
    record { so_far = next_of first least numbers count above inside ∙ ap (λ b. b && ascends_above (get_or numbers count 0) (drop (count + 1) numbers)) (lt-ltb least (get_or numbers count 0) less) }

pub above_none : (first least : ℕ) (numbers : List ℕ) (count : ℕ) → AreAbove first least numbers count → count < length numbers → get_or numbers count 0 ≤ least → ascends_above first numbers ≡ false
above_none first least numbers count above inside less =
    next_of first least numbers count above inside ∙ ap (λ b. b && ascends_above (get_or numbers count 0) (drop (count + 1) numbers)) (le-ltb least (get_or numbers count 0) less)

pub above_all : (first least : ℕ) (numbers : List ℕ) (count : ℕ) → AreAbove first least numbers count → length numbers ≤ count → ascends_above first numbers ≡ true
above_all first least numbers count above over = above.so_far ∙ ap (ascends_above least) (drop_all count numbers over)
