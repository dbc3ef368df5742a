-- Shrinks worked by hand, on which the definition is tried. The scan limit is 4.
use Rattle.std.proofs.Common.{◌≡◌, ℕ, zero, suc, ◌<◌, ◌||◌, ◌==◌, Bool, true, false, not, List, [], ◌∷◌, length, take, refl, arith}
use Rattle.std.specs.Prelude.{Option, None, Some, is_some, All, count_by}
use Rattle.place_words.specs.declared.bucket_part.Seen.{Seen}
use Rattle.place_words.specs.declared.bucket_part.Seen.TheVariants.{Removed, Held}
use Rattle.place_words.specs.declared.visits.Look.{Look}
use Rattle.place_words.specs.declared.visits.Try.{Try}
use Rattle.map_types.specs.Listed.{Listed}
use Rattle.place_words.specs.Shrinking.{look_removed, after_looks, after_tries, shrunk, freed, ends_removed, IsShrink}
use Rattle.place_words.proofs.WorkedRows.{listed}

look : ℕ → Bool → Option Seen → Look
look e bit probed = record { element = e; bit = bit; probed = probed }

-- The bit of 1 is set, and another CPU has 0 in its hand. The cursor is on an element that leaves.
first : Listed
first = listed [] (4 ∷ 3 ∷ 2 ∷ 1 ∷ 0 ∷ []) (Some 2)

first_looks : List Look
first_looks =
    look 0 false (Some (Held 1)) ∷ look 1 true None ∷ look 2 false (Some Removed) ∷ look 3 false (Some Removed) ∷ []

first_shrinks : shrunk first first_looks [] ≡ listed (1 ∷ []) (4 ∷ 0 ∷ []) (Some 4)
unfolding shrunk after_looks after_tries first first_looks look
first_shrinks = refl

first_frees : freed first_looks [] ≡ 2 ∷ 3 ∷ []
unfolding first_looks look
first_frees = refl

first_goes_on : (k : ℕ) → k < 4 → (length (take k first_looks) == 4 || (count_by look_removed (take k first_looks) == 2 || length (take k first_looks) == 5)) ≡ false
unfolding first_looks look
first_goes_on zero below = refl
first_goes_on (suc zero) below = refl
first_goes_on (suc (suc zero)) below = refl
first_goes_on (suc (suc (suc zero))) below = refl
first_goes_on (suc (suc (suc (suc k)))) below = absurd (omega arith)

first_probes : All (λ look. is_some look.probed ≡ not look.bit) first_looks
unfolding first_looks look
first_probes zero d below = refl
first_probes (suc zero) d below = refl
first_probes (suc (suc zero)) d below = refl
first_probes (suc (suc (suc zero))) d below = refl
first_probes (suc (suc (suc (suc k)))) d below = absurd (omega arith)

first_is_shrink : IsShrink 4 2 first first_looks []
unfolding first first_looks look
first_is_shrink = record {
  looked = record {
    from_tail = refl;
    probed = first_probes;
    until = record { here = refl; not_before = first_goes_on };
  };
  tried = refl;
}

-- Both bits are set, so no look frees anything, and inactive is empty when the forced shrink begins.
second : Listed
second = listed [] (1 ∷ 0 ∷ []) None

second_looks : List Look
second_looks = look 0 true None ∷ look 1 true None ∷ []

second_tries : List Try
second_tries = (record { element = 0; probed = Removed }) ∷ []

second_shrinks : shrunk second second_looks second_tries ≡ listed (1 ∷ []) [] None
unfolding shrunk after_looks after_tries second second_looks second_tries look
second_shrinks = refl

second_frees : freed second_looks second_tries ≡ 0 ∷ []
unfolding second_looks second_tries look
second_frees = refl

second_goes_on : (k : ℕ) → k < 2 → (length (take k second_looks) == 4 || (count_by look_removed (take k second_looks) == 4 || length (take k second_looks) == 2)) ≡ false
unfolding second_looks look
second_goes_on zero below = refl
second_goes_on (suc zero) below = refl
second_goes_on (suc (suc k)) below = absurd (omega arith)

second_tries_on : (k : ℕ) → k < 1 → (ends_removed (take k second_tries) || length (take k second_tries) == 2) ≡ false
unfolding second_tries
second_tries_on zero below = refl
second_tries_on (suc k) below = absurd (omega arith)

second_probes : All (λ look. is_some look.probed ≡ not look.bit) second_looks
unfolding second_looks look
second_probes zero d below = refl
second_probes (suc zero) d below = refl
second_probes (suc (suc k)) d below = absurd (omega arith)

second_is_shrink : IsShrink 4 4 second second_looks second_tries
unfolding second second_looks second_tries look after_looks
second_is_shrink = record {
  looked = record {
    from_tail = refl;
    probed = second_probes;
    until = record { here = refl; not_before = second_goes_on };
  };
  tried = record {
    from_tail = refl;
    until = record { here = refl; not_before = second_tries_on };
  };
}
