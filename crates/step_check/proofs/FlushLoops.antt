-- A test of what is flushed, one after another.
use Rattle.std.proofs.Common.{ℕ, ◌<◌, List, get_or, length, sym, subst}
use Rattle.std.specs.Prelude.{All}
use Rattle.std.proofs.Math.ListN.{get_or-map}
use Rattle.std.proofs.lemmas.List.{length-map}
use Rattle.std.proofs.lemmas.List.Elements.{All-get_or, All-map}
use Rattle.place_words.specs.declared.visits.Flush.{Flush}
use Rattle.place_words.specs.Globals.{flushed_elements}

pub all_flushed : (P : ℕ → Type 0) (flushed : List Flush) → All (λ (flush : Flush). P flush.element) flushed → All P (flushed_elements flushed)
all_flushed P flushed all = All-map P (λ (flush : Flush). flush.element) flushed all

pub one_flushed : (P : ℕ → Type 0) (flushed : List Flush) (i : ℕ) (d : Flush) → i < length flushed → All P (flushed_elements flushed) → P (get_or flushed i d).element
one_flushed P flushed i d less all =
    subst P (get_or-map (λ (flush : Flush). flush.element) flushed i d)
    (All-get_or P (flushed_elements flushed) i d.element (subst (λ n. i < n) (sym (length-map flushed (λ (flush : Flush). flush.element))) less) all)
