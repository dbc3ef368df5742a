-- The keys that are found in a bucket, and the turns that tell them.
use Rattle.std.proofs.Common.{◌≡◌, ℕ, ◌+◌, ◌<◌, ◌≤◌, List, length, get_or, ⊎_elim, sym, refl, ap, ◌∙◌, subst, arith, Option, Some, None}
use Rattle.std.specs.Prelude.{MatchOption, option_map, slice_get}
use Rattle.std.proofs.lemmas.Option.{slice_get_cases}
use Rattle.map_types.specs.declared.attr.Shape.{Shape}
use Rattle.map_types.specs.Stored.{Stored}
use Rattle.bucket_chain.specs.Places.{place_of_key}
use Rattle.bucket_chain.specs.Turns.{IsTurn}
use Rattle.bucket_chain.proofs.Turns.{next_is}
use Rattle.place_words.specs.declared.bucket_part.BucketPart.TheVariants.{Next, First}
use Rattle.place_words.specs.declared.bucket_part.NextFound.{NextFound}
use Rattle.place_words.specs.declared.bucket_part.NextFound.TheVariants as nexts
use Rattle.place_words.specs.Bodies.{present, first_key, next_key}
use Rattle.place_words.specs.Buckets.{AllowsInBucket, AllowsNext, IsPresentWith, bucket_after}

-- Turns

pub first_turn : (shape : Shape) (cpu : ℕ) (bodies : List Stored) (found : Option (List ℕ)) → found ≡ first_key bodies → IsTurn shape cpu (First found) bodies bodies
unfolding AllowsInBucket bucket_after
first_turn shape cpu bodies found is = record { allowed = is; left = refl }

pub next_turn : (shape : Shape) (cpu : ℕ) (bodies : List Stored) (key : List ℕ) (found : NextFound) → AllowsNext key found bodies → IsTurn shape cpu (Next key found) bodies bodies
unfolding AllowsInBucket bucket_after
next_turn shape cpu bodies key found allowed = record { allowed = allowed; left = refl }

-- The key after another one

-- there is a body at the place of the key
holds : (key : List ℕ) (bodies : List Stored) (place : ℕ) (Fact : Type 0) → place < length bodies → slice_get bodies place ≡ present key bodies → Fact → IsPresentWith key bodies (λ body. Fact)
holds key bodies place Fact below found fact =
    ⊎_elim
    (λ (x : (body : Stored) × (place < length bodies) × (slice_get bodies place ≡ Some body) × (get_or bodies place body ≡ body)).
    subst (λ (there : Option Stored). MatchOption there ⊥ (λ (body : Stored). Fact)) (sym x.2 ∙ found) fact)
    (λ (x : (length bodies ≤ place) × (slice_get bodies place ≡ None)). let past = x.0 in absurd (omega (arith, below, past)))
    (slice_get_cases bodies place).1

none_at : (bodies : List Stored) (place : ℕ) → length bodies ≤ place → slice_get bodies place ≡ None
none_at bodies place past =
    ⊎_elim
    (λ (x : (body : Stored) × (place < length bodies) × (slice_get bodies place ≡ Some body) × (get_or bodies place body ≡ body)). let below = x.1 in absurd (omega (arith, below, past)))
    (λ (x : (length bodies ≤ place) × (slice_get bodies place ≡ None)). x.1)
    (slice_get_cases bodies place).1

pub next_last : (key : List ℕ) (bodies : List Stored) (place : ℕ) → Some place ≡ place_of_key key bodies → slice_get bodies place ≡ present key bodies → place < length bodies → place + 1 ≡ length bodies → AllowsNext key nexts.Last bodies
next_last key bodies place at found below last =
    let past : length bodies ≤ place + 1 = omega (arith, last) in
    holds key bodies place (next_key key bodies ≡ None) below found (next_is key bodies place at ∙ ap (option_map (λ (body : Stored). body.key)) (none_at bodies (place + 1) past))

pub next_some : (key : List ℕ) (bodies : List Stored) (place : ℕ) (out : List ℕ) → Some place ≡ place_of_key key bodies → slice_get bodies place ≡ present key bodies → place < length bodies
    → option_map (λ (body : Stored). body.key) (slice_get bodies (place + 1)) ≡ Some out → AllowsNext key (nexts.Key out) bodies
next_some key bodies place out at found below copied = holds key bodies place (next_key key bodies ≡ Some out) below found (next_is key bodies place at ∙ copied)
