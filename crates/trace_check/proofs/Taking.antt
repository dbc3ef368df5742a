-- What is read at a bucket, from the group that stands at the beginning.
use Rattle.std.proofs.Common.{◌≡◌, ℕ, Bool, true, false, List, [], ◌∷◌, Option, None, Some, refl, ap, sym, ◌∙◌}
use Rattle.std.specs.Prelude.{if◌then◌else◌}
use Rattle.map_types.specs.declared.kind.DomainId.TheVariants.{Bucket}
use Rattle.place_words.specs.declared.bucket_part.BucketPart.{BucketPart}
use Rattle.place_words.specs.declared.history.Part.{Part}
use Rattle.place_words.specs.declared.history.Part.TheVariants as parts
use Rattle.place_words.specs.Locks.{is_same_lock}
use Rattle.place_words.specs.Turns.{Turn}
use Rattle.trace_check.specs.Reading.{Group, is_free, with_rest, with_before, read_group, of_bucket, at_bucket, bucket_group, when, checked, read_at}

-- the group that stands at the beginning, if there is one at this bucket
pub record HasGroup (bucket : ℕ) (turns before : List Turn) (part : BucketPart) (rest : List Turn) : Type 0 where
  pub is : Some ((before, part), rest) ≡ bucket_group bucket turns

pub here : (turns : List Turn) {n bucket : ℕ} {rest before : List Turn} {part : BucketPart} {g : Group × List Turn} → n ≡ bucket → Some g ≡ bucket_group n turns → ((before, part), rest) ≡ g → HasGroup bucket turns before part rest
here turns at group view = record { is = ap Some view ∙ group ∙ ap (λ (b : ℕ). bucket_group b turns) at }

pub nowhere : (turns : List Turn) {n bucket : ℕ} → n ≡ bucket → None ≡ bucket_group n turns → None ≡ bucket_group bucket turns
nowhere turns at none = none ∙ ap (λ (b : ℕ). bucket_group b turns) at

module _ {A : Type 0} where
  abbrev and_then : (Group → Option A) → Option Group → Option A
  and_then f None = None
  and_then f (Some group) = f group

  abbrev then_told : (Group → Option A) → Option (Group × List Turn) → Option (A × List Turn)
  then_told f None = None
  then_told f (Some found) = with_rest found.1 (f found.0)

  by_group : (f : Group → Option A) (turns : List Turn) (one : List Turn → Turn → Option A) (other : List Turn → Turn → Option Group)
      → ((before : List Turn) (last : Turn) → one before last ≡ and_then f (other before last)) → read_group turns one ≡ then_told f (read_group turns other)
  by_group f [] one other are = refl
  by_group f (t ∷ turns) one other are =
      by (is_free t.part) (by_group f turns (λ before. one (t ∷ before)) (λ before. other (t ∷ before)) (λ before last. are (t ∷ before) last))
    where
      ends : (o : Option Group) → with_rest turns (and_then f o) ≡ then_told f (with_rest turns o)
      ends None = refl
      ends (Some group) = refl

      by : (b : Bool)
          → read_group turns (λ before. one (t ∷ before)) ≡ then_told f (read_group turns (λ before. other (t ∷ before)))
          → (if b then read_group turns (λ before. one (t ∷ before)) else with_rest turns (one [] t))
          ≡ then_told f (if b then read_group turns (λ before. other (t ∷ before)) else with_rest turns (other [] t))
      by true later = later
      by false later = ap (with_rest turns) (are [] t) ∙ ends (other [] t)

  -- what a group tells
  abbrev pub told_by : (BucketPart → Option A) → (A → List Turn → Bool) → Group → Option A
  told_by says looks group = checked (λ a. looks a group.0) (says group.1)

  abbrev pub after_group : (BucketPart → Option A) → (A → List Turn → Bool) → Option (Group × List Turn) → Option (A × List Turn)
  after_group says looks found = then_told (told_by says looks) found

  at_part : (says : BucketPart → Option A) (looks : A → List Turn → Bool) (before : List Turn) (b : Bool) (part : Part)
      → checked (λ a. looks a before) (if b then of_bucket says part else None) ≡ and_then (told_by says looks) (with_before before (if b then of_bucket Some part else None))
  at_part says looks before true (parts.Bucket part) = refl
  at_part says looks before true (parts.Free part) = refl
  at_part says looks before true (parts.Local part) = refl
  at_part says looks before true (parts.Global part) = refl
  at_part says looks before true (parts.Own part) = refl
  at_part says looks before false part = refl

  pub read_by_group : (bucket : ℕ) (says : BucketPart → Option A) (looks : A → List Turn → Bool) (turns : List Turn) → read_at bucket says looks turns ≡ after_group says looks (bucket_group bucket turns)
  unfolding bucket_group
  read_by_group bucket says looks turns =
      by_group (told_by says looks) turns (λ before last. checked (λ a. looks a before) (at_bucket bucket says last)) (λ before last. with_before before (at_bucket bucket Some last))
      (λ before last. at_part says looks before (is_same_lock last.lock (Bucket bucket)) last.part)

  -- the ways that reading at a bucket ends
  pub no_group : (bucket : ℕ) (says : BucketPart → Option A) (looks : A → List Turn → Bool) (turns : List Turn) → None ≡ bucket_group bucket turns → read_at bucket says looks turns ≡ None
  no_group bucket says looks turns none = read_by_group bucket says looks turns ∙ ap (after_group says looks) (sym none)

  pub says_nothing : {bucket : ℕ} {turns rest before : List Turn} {part : BucketPart} (says : BucketPart → Option A) (looks : A → List Turn → Bool)
      → HasGroup bucket turns before part rest → says part ≡ None → read_at bucket says looks turns ≡ None
  says_nothing {bucket = bucket} {turns = turns} {rest = rest} {before = before} says looks group none =
      read_by_group bucket says looks turns ∙ ap (after_group says looks) (sym group.is) ∙ ap (λ o. with_rest rest (checked (λ a. looks a before) o)) none

  pub says_this : {bucket : ℕ} {turns rest before : List Turn} {part : BucketPart} (says : BucketPart → Option A) (looks : A → List Turn → Bool) (a : A)
      → HasGroup bucket turns before part rest → says part ≡ Some a → read_at bucket says looks turns ≡ with_rest rest (when (looks a before) a)
  says_this {bucket = bucket} {turns = turns} {rest = rest} {before = before} says looks a group is =
      read_by_group bucket says looks turns ∙ ap (after_group says looks) (sym group.is) ∙ ap (λ o. with_rest rest (checked (λ a. looks a before) o)) is

  pub others_stand : {bucket : ℕ} {turns rest before : List Turn} {part : BucketPart} (says : BucketPart → Option A) (looks : A → List Turn → Bool) (a : A)
      → HasGroup bucket turns before part rest → says part ≡ Some a → looks a before ≡ false → read_at bucket says looks turns ≡ None
  others_stand {rest = rest} says looks a group is unlike = says_this says looks a group is ∙ ap (λ (b : Bool). with_rest rest (when b a)) unlike

  pub stands : {bucket : ℕ} {turns rest before : List Turn} {part : BucketPart} (says : BucketPart → Option A) (looks : A → List Turn → Bool) (a : A)
      → HasGroup bucket turns before part rest → says part ≡ Some a → looks a before ≡ true → read_at bucket says looks turns ≡ Some (a, rest)
  stands {rest = rest} says looks a group is like = says_this says looks a group is ∙ ap (λ (b : Bool). with_rest rest (when b a)) like
