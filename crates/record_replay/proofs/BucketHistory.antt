-- The history of a bucket, replayed turn by turn.
use Rattle.std.proofs.Common.{◌≡◌, ℕ, ◌+◌, ◌<◌, ◌≤◌, true, List, [], length, get_or, ap, sym, subst}
use Rattle.std.specs.Prelude.{All}
use Rattle.std.proofs.lemmas.Option.{same_Some}
use Rattle.std.proofs.lemmas.List.Elements.{All-get_or, All-nil}
use Rattle.map_types.specs.declared.attr.Shape.{Shape}
use Rattle.map_types.specs.declared.kind.DomainId.TheVariants as locks
use Rattle.map_types.specs.Sides.{part_count}
use Rattle.map_types.specs.Stored.{HasSizes, Stored}
use Rattle.place_words.specs.declared.history.Entry.{Entry}
use Rattle.place_words.specs.declared.history.Part.{Part}
use Rattle.place_words.specs.declared.history.Part.TheVariants as parts
use Rattle.place_words.specs.Buckets.{bucket_after}
use Rattle.place_words.specs.Histories.{Allows, bucket_in, in_bucket}
use Rattle.place_words.specs.Sizes.{AreSized}
use Rattle.bucket_chain.proofs.SizeLaws.{sizes_stay}
use Rattle.record_replay.specs.BucketSteps.{IsSizedEntry, PartIsSized}
use Rattle.replay_words.specs.Replays.{IsFirstFlaw, IsStep, Leads}
use Rattle.replay_words.proofs.Steps.{LeadsFirst, all_lead, flaw_at, more_lead, none_lead}

-- the first turns lead to these elements, whichever bucket it is, and they have the map's sizes
pub record IsSoFar (shape : Shape) (entries : List Entry) (index : ℕ) (bodies : List Stored) : Type 0 where
  pub leads : (bucket : ℕ) → LeadsFirst shape (locks.Bucket bucket) entries index (in_bucket bodies)
  pub sized : AreSized shape bodies

-- a turn that is allowed leaves keys and values of the map's sizes
step_sized : (shape : Shape) (cpu : ℕ) (part : Part) (before now : List Stored) → AreSized shape before → PartIsSized shape part → IsStep shape cpu part (in_bucket before) (in_bucket now) true → AreSized shape now
step_sized shape cpu (parts.Bucket part) before now sized gives step =
    subst (AreSized shape) (sym (same_Some now (bucket_after shape cpu part before) (ap bucket_in step.1))) (sizes_stay shape cpu before sized part gives)
step_sized shape cpu (parts.Free part) before now sized gives step = absurd step.0
step_sized shape cpu (parts.Local part) before now sized gives step = absurd step.0
step_sized shape cpu (parts.Global part) before now sized gives step = absurd step.0
step_sized shape cpu (parts.Own part) before now sized gives step = absurd step.0

module _ (shape : Shape) (entries : List Entry) (sized : All (IsSizedEntry shape) entries) where
  -- an entry as it is read
  pub entry_sized : (index : ℕ) (entry other : Entry) → index < length entries → entry ≡ get_or entries index other → IsSizedEntry shape entry
  entry_sized index entry other within is =
      subst (IsSizedEntry shape) (sym is) (All-get_or (IsSizedEntry shape) entries index other within sized)

  pub more_so_far : (index : ℕ) (before now : List Stored) (entry other : Entry) → IsSoFar shape entries index before → index < length entries → entry ≡ get_or entries index other
      → IsStep shape entry.cpu entry.part (in_bucket before) (in_bucket now) true → IsSoFar shape entries (index + 1) now
  more_so_far index before now entry other so_far within is step = record {
    leads = λ bucket. more_lead shape (locks.Bucket bucket) entries index (in_bucket before) (in_bucket now) entry other (so_far.leads bucket) within is step;
    sized = step_sized shape entry.cpu entry.part before now so_far.sized (entry_sized index entry other within is).part step;
  }

  pub none_so_far : (bodies : List Stored) → bodies ≡ [] → IsSoFar shape entries 0 bodies
  none_so_far bodies none = record {
    leads = λ bucket. none_lead shape (locks.Bucket bucket) entries (in_bucket bodies) (ap in_bucket (sym none));
    sized = subst (AreSized shape) (sym none) (All-nil (HasSizes shape.key_size (part_count shape) shape.value_size));
  }

  pub bucket_flaw : (index : ℕ) (before : List Stored) (entry other : Entry) → IsSoFar shape entries index before → index < length entries → entry ≡ get_or entries index other
      → (Allows shape entry.cpu entry.part (in_bucket before) → ⊥) → (bucket : ℕ) → IsFirstFlaw shape (locks.Bucket bucket) entries index
  bucket_flaw index before entry other so_far within is refused bucket =
      flaw_at shape (locks.Bucket bucket) entries index (in_bucket before) entry other (so_far.leads bucket) within is refused

  pub bucket_done : (index : ℕ) (bodies : List Stored) → IsSoFar shape entries index bodies → length entries ≤ index → (bucket : ℕ) → Leads shape (locks.Bucket bucket) entries (in_bucket bodies)
  bucket_done index bodies so_far past bucket = all_lead shape (locks.Bucket bucket) entries index (in_bucket bodies) (so_far.leads bucket) past
