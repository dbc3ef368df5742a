-- Where the elements of a map that doesn't evict are.
use Rattle.std.specs.Prelude.{◌≡◌, ℕ, ◌+◌, List, ◌++◌, length, map, IsPermutation}
use Rattle.std.specs.List.{concat, flat_map, range_with_len}
use Rattle.map_types.specs.Stored.{Stored}
use Rattle.place_words.specs.declared.finals.Finals.{Finals}

-- the elements in buckets, those on freelists, and these with the spares
abbrev pub in_buckets : Finals → List ℕ
in_buckets lists = flat_map (λ bucket. map (λ (stored : Stored). stored.element) bucket) lists.buckets

abbrev pub on_freelists : Finals → List ℕ
on_freelists lists = concat lists.freelists

abbrev pub elements_of : Finals → List ℕ
elements_of lists = in_buckets lists ++ on_freelists lists ++ lists.spares

-- Each of so many elements is in one place, in a bucket, on a freelist or a spare, and stands there once. There are no
-- others, and so they add up.
pub record EachOnce (elements : ℕ) (lists : Finals) : Type 0 where
  pub each : IsPermutation (range_with_len 0 elements) (elements_of lists)
  pub total : length (in_buckets lists) + length (on_freelists lists) + length lists.spares ≡ elements
