-- A map whose CPUs have list sets of their own: while an element is free, no update shrinks, and so none evicts.
use Rattle.std.proofs.Common.{◌≡◌, ℕ, ◌≤◌, Bool, true, false, cond, eqb, List, [], ◌∷◌, length, refl, ap, ◌∙◌, arith}
use Rattle.std.specs.Prelude.{Option, None, Some, drop, slice_get, unwrap_or}
use Rattle.std.proofs.lemmas.Bool.{ne_eqb}
use Rattle.map_types.specs.declared.attr.Shape.{Shape}
use Rattle.map_types.specs.declared.kind.DomainId.TheVariants.{CpuLru, Bucket}
use Rattle.place_words.specs.declared.bucket_part.BucketPart.{BucketPart}
use Rattle.place_words.specs.declared.history.Part.TheVariants as parts
use Rattle.place_words.specs.declared.list_part.OwnPart.{OwnPart}
use Rattle.place_words.specs.declared.list_part.OwnPart.TheVariants as own
use Rattle.place_words.specs.Buckets.{bucket_after}
use Rattle.place_words.specs.Choices.{own_turn, own_got, active_visits, inactive_visits, bits_rotated, shrink_of}
use Rattle.place_words.specs.Histories.{Content, content, content_after, bucket_in, own_in}
use Rattle.place_words.specs.Logs.{State, Taking, bucket_at, own_at, turned, probed, taken_own, acquired}
use Rattle.place_words.specs.Sets.{ListSet, new_set, own_scans, own_target, rotated_set, shrunk_into_free, own_after}
use Rattle.place_words.specs.Turns.{Turn, on_lock}
use Rattle.place_words.proofs.DoneLaws.{lies_a_bucket}
use Rattle.place_words.proofs.ListContents.{lies_turned, lies_own, log_stays}

some_free : (xs : List ℕ) → 1 ≤ length xs → eqb (length xs) 0 ≡ false
some_free xs some = ne_eqb (length xs) 0 (λ is. omega (arith, some, is))

-- a set in which an element is free isn't shrunk, and gives out the head of free
pub never_shrinks : (hash : ℕ) (bits : ℕ → Bool) (set : ListSet) → 1 ≤ length set.free
    → own_turn hash bits set ≡ own.Turn hash (active_visits own_scans bits set.lists) (inactive_visits own_scans bits set.lists) None (slice_get set.free 0)
unfolding own_turn
never_shrinks hash bits set some =
    let after : ListSet = rotated_set own_scans (active_visits own_scans bits set.lists) (inactive_visits own_scans bits set.lists) set in
    ap (λ b. own.Turn hash (active_visits own_scans bits set.lists) (inactive_visits own_scans bits set.lists)
    (cond b (Some (shrink_of own_scans own_target (bits_rotated own_scans bits set.lists) after.lists)) None)
    (slice_get (shrunk_into_free (cond b (Some (shrink_of own_scans own_target (bits_rotated own_scans bits set.lists) after.lists)) None) after).free 0))
    (some_free set.free some)

module _ (shape : Shape) (cpu number hash : ℕ) (state : State) (some : 1 ≤ length (own_at shape state cpu).free) where
  -- the turn that takes the head of free
  abbrev pub taking_part : OwnPart
  taking_part = own.Turn hash (active_visits own_scans state.bits (own_at shape state cpu).lists) (inactive_visits own_scans state.bits (own_at shape state cpu).lists) None (slice_get (own_at shape state cpu).free 0)

  abbrev pub taking_turn : Turn
  taking_turn = on_lock (CpuLru cpu) (parts.Own taking_part)

  -- it is the only turn of the taking: nothing is probed
  pub takes_free : taken_own shape cpu hash state ≡ record { turns = taking_turn ∷ []; got = slice_get (own_at shape state cpu).free 0 }
  unfolding taken_own
  takes_free = ap (λ (part : OwnPart). record { turns = probed shape state (CpuLru cpu) (parts.Own part); got = own_got part }) (never_shrinks hash state.bits (own_at shape state cpu) some)

  pub acquires_free : shape.common ≡ false → acquired shape cpu number hash state ≡ record { turns = taking_turn ∷ []; got = slice_get (own_at shape state cpu).free 0 }
  unfolding acquired
  acquires_free apart = picked shape.common _ (taken_own shape cpu hash state) apart ∙ takes_free where
    picked : (b : Bool) (x y : Taking) → b ≡ false → cond b x y ≡ y
    picked true x y is = absurd cc
    picked false x y is = refl

-- what lies in a bucket after a turn there, and in a set
pub bucket_turned : (shape : Shape) (cpu number bucket : ℕ) (part : BucketPart) (state : State)
    → bucket_at shape (turned shape cpu number (on_lock (Bucket bucket) (parts.Bucket part)) state) bucket ≡ bucket_after shape cpu part (bucket_at shape state bucket)
bucket_turned shape cpu number bucket part state =
    ap (λ (lies : Content). unwrap_or (bucket_in lies) []) (lies_turned shape cpu number (on_lock (Bucket bucket) (parts.Bucket part)) state ∙ ap (content_after shape cpu (parts.Bucket part)) (lies_a_bucket shape state bucket))

pub own_turned : (shape : Shape) (cpu number on : ℕ) (part : OwnPart) (state : State)
    → own_at shape (turned shape cpu number (on_lock (CpuLru on) (parts.Own part)) state) on ≡ own_after part (own_at shape state on)
own_turned shape cpu number on part state =
    ap (λ (lies : Content). unwrap_or (own_in lies) (new_set [])) (lies_turned shape cpu number (on_lock (CpuLru on) (parts.Own part)) state ∙ ap (content_after shape cpu (parts.Own part)) (lies_own shape state on))

-- and elsewhere after such a turn
pub own_beside : (shape : Shape) (cpu number bucket on : ℕ) (part : BucketPart) (state : State)
    → own_at shape (turned shape cpu number (on_lock (Bucket bucket) (parts.Bucket part)) state) on ≡ own_at shape state on
own_beside shape cpu number bucket on part state =
    ap (λ log. unwrap_or (own_in (content shape (CpuLru on) log)) (new_set [])) (log_stays shape cpu number (on_lock (Bucket bucket) (parts.Bucket part) ∷ []) state (CpuLru on) (refl, tt))

pub bucket_beside : (shape : Shape) (cpu number bucket on : ℕ) (part : OwnPart) (state : State)
    → bucket_at shape (turned shape cpu number (on_lock (CpuLru on) (parts.Own part)) state) bucket ≡ bucket_at shape state bucket
bucket_beside shape cpu number bucket on part state =
    ap (λ log. unwrap_or (bucket_in (content shape (Bucket bucket) log)) []) (log_stays shape cpu number (on_lock (CpuLru on) (parts.Own part) ∷ []) state (Bucket bucket) (refl, tt))

pub bucket_other : (shape : Shape) (cpu number bucket other : ℕ) (part : BucketPart) (state : State) → eqb bucket other ≡ false
    → bucket_at shape (turned shape cpu number (on_lock (Bucket bucket) (parts.Bucket part)) state) other ≡ bucket_at shape state other
bucket_other shape cpu number bucket other part state apart =
    ap (λ log. unwrap_or (bucket_in (content shape (Bucket other) log)) []) (log_stays shape cpu number (on_lock (Bucket bucket) (parts.Bucket part) ∷ []) state (Bucket other) (apart, tt))

-- what is free after the turn that takes its head, and after a push
pub free_taken : (hash : ℕ) (bits : ℕ → Bool) (set : ListSet) (got : Option ℕ)
    → (own_after (own.Turn hash (active_visits own_scans bits set.lists) (inactive_visits own_scans bits set.lists) None got) set).free ≡ drop 1 set.free
unfolding own_after
free_taken hash bits set got = refl

pub free_pushed : (e : ℕ) (set : ListSet) → (own_after (own.Push e) set).free ≡ e ∷ set.free
unfolding own_after
free_pushed e set = refl
