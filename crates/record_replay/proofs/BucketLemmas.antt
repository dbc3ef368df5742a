-- What is told of a turn on a bucket, by what was found in it.
use Rattle.std.proofs.Common.{◌≡◌, ℕ, zero, suc, ◌+◌, ◌<◌, Bool, true, false, List, [], ◌∷◌, length, Option, None, Some, sym, ◌∙◌, subst, arith}
use Rattle.std.specs.Prelude.{MatchOption, option_map, slice_get}
use Rattle.map_types.specs.Stored.{Stored}
use Rattle.place_words.specs.declared.bucket_part.NextFound.TheVariants as nexts
use Rattle.place_words.specs.Bodies.{present, next_key}
use Rattle.place_words.specs.Buckets.{IsPresentWith, AllowsNext}
use Rattle.bucket_chain.specs.Places.{place_of_key}
use Rattle.bucket_chain.proofs.Turns.{next_is}
use Rattle.record_replay.specs.BucketSteps.{IsTold}

-- what is told of one fact is told of another that stands or falls with it
pub told_of : (A B : Type 0) (told_so : Bool) → (A → B) → (B → A) → IsTold A told_so → IsTold B told_so
told_of A B true to from told = to told
told_of A B false to from told = λ b. told (from b)

-- where the key is there at a place, what follows it stands at the next
module _ (key : List ℕ) (bodies : List Stored) (place : ℕ) (at : place_of_key key bodies ≡ Some place) (holder : slice_get bodies place ≡ present key bodies) (within : place < length bodies) where
  with_body : (Fact : Type 0) → Fact → IsPresentWith key bodies (λ body. Fact)
  with_body Fact fact = subst (λ (found : Option Stored). MatchOption found ⊥ (λ body. Fact)) holder (there bodies place within) where
    there : (xs : List Stored) (i : ℕ) → i < length xs → MatchOption (slice_get xs i) ⊥ (λ body. Fact)
    there [] i less = absurd (omega arith)
    there (x ∷ xs) zero less = fact
    there (x ∷ xs) (suc i) less = there xs i (omega arith)

  without_body : (Fact : Type 0) → IsPresentWith key bodies (λ body. Fact) → Fact
  without_body Fact fact = out (present key bodies) fact where
    out : (found : Option Stored) → MatchOption found ⊥ (λ body. Fact) → Fact
    out None none = absurd none
    out (Some body) is = is

  pub told_last : (told_so : Bool) → IsTold (option_map (λ (body : Stored). body.key) (slice_get bodies (place + 1)) ≡ None) told_so → IsTold (AllowsNext key nexts.Last bodies) told_so
  told_last told_so told = told_of _ _ told_so
      (λ none. with_body (next_key key bodies ≡ None) (next_is key bodies place (sym at) ∙ none))
      (λ allowed. sym (next_is key bodies place (sym at)) ∙ without_body (next_key key bodies ≡ None) allowed) told

  pub told_key : (next : List ℕ) (told_so : Bool) → IsTold (option_map (λ (body : Stored). body.key) (slice_get bodies (place + 1)) ≡ Some next) told_so → IsTold (AllowsNext key (nexts.Key next) bodies) told_so
  told_key next told_so told = told_of _ _ told_so
      (λ is. with_body (next_key key bodies ≡ Some next) (next_is key bodies place (sym at) ∙ is))
      (λ allowed. sym (next_is key bodies place (sym at)) ∙ without_body (next_key key bodies ≡ Some next) allowed) told
