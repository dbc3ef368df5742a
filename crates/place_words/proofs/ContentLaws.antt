-- What each turn of a freelist changes.
use Rattle.std.proofs.Common.{◌≡◌, ℕ, ◌+◌, List, [], ◌∷◌, refl, ap, arith}
use Rattle.place_words.specs.declared.free_part.FreePart.{FreePart}
use Rattle.place_words.specs.declared.free_part.FreePart.TheVariants.{Pushed, Popped, FoundEmpty}
use Rattle.map_types.specs.ElementLists.{times}
use Rattle.place_words.specs.Freelists.{AllowsOnFreelist, freelist_after}
use Rattle.place_words.specs.Moves.{brought_to_freelist, taken_from_freelist}
use Rattle.place_words.proofs.BucketLaws.{times_more}

-- what is popped was on top
pub popped_was_top : (e : ℕ) (stack : List ℕ) → AllowsOnFreelist (Popped e) stack → stack ≡ e ∷ freelist_after (Popped e) stack
popped_was_top e [] allowed = absurd allowed
popped_was_top e (top ∷ stack) allowed = ap (λ k. k ∷ stack) allowed

-- what lies there after a turn and what it took is what lay there and what it brought
pub freelist_counts : (part : FreePart) (stack : List ℕ) → AllowsOnFreelist part stack → (x : ℕ)
    → times x (freelist_after part stack) + times x (taken_from_freelist part) ≡ times x stack + times x (brought_to_freelist part)
freelist_counts (Pushed e) stack allowed x = omega (arith, times_more x e stack)
freelist_counts (Popped e) stack allowed x =
    let left = freelist_after (Popped e) stack in
    omega (arith, ap (times x) (popped_was_top e stack allowed), times_more x e left)
freelist_counts FoundEmpty stack allowed x = refl
