-- Over a call on one key each key stays in its bucket, once, with a key and values of the map's sizes.
use Rattle.std.proofs.Common.{◌≡◌, ℕ, zero, suc, false, ◌||◌, eqb, nat_lt, List, [], ◌∷◌, ◌++◌, length, replicate, get_or, set, Option, Some, None, refl, ap, sym, ◌∙◌, subst}
use Rattle.std.specs.Prelude.{bytes_eq, slice_index, slice_index_or}
use Rattle.std.specs.List.{AllByRecursion, list_any, before_first, after_first}
use Rattle.std.proofs.lemmas.Bool.{cond_both}
use Rattle.std.proofs.lemmas.Slice.Eq.{bytes_eq-Decides}
use Rattle.place_words.specs.Bodies.{has_key, HasDistinctKeys}
use Rattle.map_types.specs.Kind.{is_percpu}
use Rattle.map_types.specs.Sides.{part_count, values_written}
use Rattle.map_types.specs.Stored.{Stored, HasSizes}
use Rattle.map_types.specs.ValueLen.{value_len_of}
use Rattle.map_types.specs.declared.attr.Shape.{Shape}
use Rattle.map_types.specs.declared.call.Verb.{Verb}
use Rattle.map_types.specs.declared.call.Verb.TheVariants.{Lookup, Update, Delete, Take, Next, BatchRead, BatchUpdate, BatchDelete, Each}
use Rattle.map_types.specs.declared.kind.Side.{Side}
use Rattle.map_types.specs.declared.reply.Reply.{Reply}
use Rattle.map_types.specs.declared.reply.Reply.TheVariants.{Done}
use Rattle.percpu_values.proofs.SideLemmas.{HaveSizes-written, HaveSizes-new}
use Rattle.place_words.specs.declared.finals.Finals.{Finals}
use Rattle.place_words.specs.Bodies.{present, without_key}
use Rattle.map_report.specs.Buckets.{bucket_of_key, with_in_place}
use Rattle.map_report.specs.Freelists.{popped, pushed}
use Rattle.map_report.specs.Serial.{opening, bucket_at, new_stored, replaced, written, added, updated, deleted, after_call}
use Rattle.map_report.specs.Soundness.{IsBucket, HasNoLruLists}
use Rattle.map_script.specs.WellFormed as calls
use Rattle.place_words.proofs.DoneLaws.{IsKeyVerb}
use Rattle.place_words.proofs.Splits.{find_passes, find_splits, none_passes}
use Rattle.place_words.proofs.BucketLaws.{distinct_cut, key_cut}

-- Lists with one more in the middle

-- what holds of each
each_cut : (P : Stored → Type 0) (front back : List Stored) (x : Stored) → AllByRecursion P (front ++ x ∷ back) → AllByRecursion P (front ++ back)
each_cut P [] back x each = each.1
each_cut P (y ∷ front) back x each = (each.0, each_cut P front back x each.1)

each_there : (P : Stored → Type 0) (front back : List Stored) (x : Stored) → AllByRecursion P (front ++ x ∷ back) → P x
each_there P [] back x each = each.0
each_there P (y ∷ front) back x each = each_there P front back x each.1

each_put : (P : Stored → Type 0) (front back : List Stored) (x : Stored) → AllByRecursion P (front ++ back) → P x → AllByRecursion P (front ++ x ∷ back)
each_put P [] back x each here = (here, each)
each_put P (y ∷ front) back x each here = (each.0, each_put P front back x each.1 here)

-- whether one passes
any_same : (key : List ℕ) (front back : List Stored) (x y : Stored) → x.key ≡ y.key → list_any (has_key key) (front ++ x ∷ back) ≡ list_any (has_key key) (front ++ y ∷ back)
any_same key [] back x y same = ap (λ k. bytes_eq k key || list_any (has_key key) back) same
any_same key (z ∷ front) back x y same = ap (λ b. has_key key z || b) (any_same key front back x y same)

-- distinct keys
distinct_same : (front back : List Stored) (x y : Stored) → x.key ≡ y.key → HasDistinctKeys (front ++ x ∷ back) → HasDistinctKeys (front ++ y ∷ back)
distinct_same [] back x y same distinct =
    (subst (λ k. list_any (has_key k) back ≡ false) same distinct.0, distinct.1)
distinct_same (z ∷ front) back x y same distinct =
    (sym (any_same z.key front back x y same) ∙ distinct.0, distinct_same front back x y same distinct.1)

-- Buckets

bucket_cut : (shape : Shape) (number : ℕ) (front back : List Stored) (x : Stored) → IsBucket shape number (front ++ x ∷ back) → IsBucket shape number (front ++ back)
bucket_cut shape number front back x is = record {
  own = each_cut _ front back x is.own;
  distinct = distinct_cut front back x is.distinct;
  sized = each_cut _ front back x is.sized;
}

-- the element of a key is taken out, and with it the key
pub bucket_without : (shape : Shape) (number : ℕ) (key : List ℕ) (bucket : List Stored) (old : Stored) → IsBucket shape number bucket → present key bucket ≡ Some old
    → IsBucket shape number (without_key key bucket) × (list_any (has_key key) (without_key key bucket) ≡ false)
bucket_without shape number key bucket old is found =
    let front : List Stored = before_first (has_key key) bucket in
    let back : List Stored = after_first (has_key key) bucket in
    let there : IsBucket shape number (front ++ old ∷ back) = subst (IsBucket shape number) (find_splits (has_key key) bucket old found) is in
    let holds : old.key ≡ key = (bytes_eq-Decides old.key key).0 (find_passes (has_key key) bucket old found) in
    (bucket_cut shape number front back old there, subst (λ k. list_any (has_key k) (front ++ back) ≡ false) holds (key_cut front back old there.distinct))

-- the values of a key are others of the same sizes
pub bucket_in_place : (shape : Shape) (number : ℕ) (key : List ℕ) (bucket : List Stored) (old new : Stored) → IsBucket shape number bucket → present key bucket ≡ Some old → old.key ≡ new.key
    → (HasSizes shape.key_size (part_count shape) shape.value_size old → HasSizes shape.key_size (part_count shape) shape.value_size new) → IsBucket shape number (with_in_place key new bucket)
bucket_in_place shape number key bucket old new is found same sizes =
    let front : List Stored = before_first (has_key key) bucket in
    let back : List Stored = after_first (has_key key) bucket in
    let there : IsBucket shape number (front ++ old ∷ back) = subst (IsBucket shape number) (find_splits (has_key key) bucket old found) is in
    let owns : Stored → Type 0 = λ stored. bucket_of_key shape stored.key ≡ number in
    let sized : Stored → Type 0 = HasSizes shape.key_size (part_count shape) shape.value_size in
    record {
      own = each_put owns front back new (each_cut owns front back old there.own) (ap (bucket_of_key shape) (sym same) ∙ each_there owns front back old there.own);
      distinct = distinct_same front back old new same there.distinct;
      sized = each_put sized front back new (each_cut sized front back old there.sized) (sizes (each_there sized front back old there.sized));
    }

-- a new element is at the head of a bucket without its key
pub bucket_put : (shape : Shape) (bucket : List Stored) (new : Stored) → IsBucket shape (bucket_of_key shape new.key) bucket → list_any (has_key new.key) bucket ≡ false
    → HasSizes shape.key_size (part_count shape) shape.value_size new → IsBucket shape (bucket_of_key shape new.key) (new ∷ bucket)
bucket_put shape bucket new is absent sizes = record {
  own = (refl, is.own);
  distinct = (absent, is.distinct);
  sized = (sizes, is.sized);
}

-- a new element has a key and values of the map's sizes, and a write leaves the sizes
new_sized : (shape : Shape) (side : Side) (cpu element : ℕ) (key value : List ℕ) → length key ≡ shape.key_size → length value ≡ value_len_of shape side
    → HasSizes shape.key_size (part_count shape) shape.value_size (new_stored shape side cpu element key value)
new_sized shape side cpu element key value long exact =
    let have = HaveSizes-new shape side cpu value exact in
    record { key_sized = long; parts_counted = have.counted; parts_sized = have.sized }

written_sized : (shape : Shape) (side : Side) (cpu : ℕ) (value : List ℕ) (old : Stored) → length value ≡ value_len_of shape side → HasSizes shape.key_size (part_count shape) shape.value_size old
    → HasSizes shape.key_size (part_count shape) shape.value_size (record old { values = values_written shape side cpu old.values value })
written_sized shape side cpu value old exact sizes =
    let have = HaveSizes-written shape side cpu old.values value (record { counted = sizes.parts_counted; sized = sizes.parts_sized }) exact in
    record { key_sized = sizes.key_sized; parts_counted = have.counted; parts_sized = have.sized }

-- Maps

-- each list of a map is the bucket of its number
abbrev pub AreBuckets : Shape → Finals → Type 0
AreBuckets shape lists = (number : ℕ) → IsBucket shape number (slice_index_or lists.buckets number [])

-- one bucket is another
pub each_set : (P : ℕ → List Stored → Type 0) (buckets : List (List Stored)) (at : ℕ) (new : List Stored) → ((number : ℕ) → P number (get_or buckets number [])) → P at new → (number : ℕ) → P number (get_or (set buckets at new) number [])
each_set P [] at new each here number = each number
each_set P (bucket ∷ buckets) zero new each here zero = here
each_set P (bucket ∷ buckets) zero new each here (suc number) = each (suc number)
each_set P (bucket ∷ buckets) (suc at) new each here zero = each 0
each_set P (bucket ∷ buckets) (suc at) new each here (suc number) =
    each_set (λ n. P (suc n)) buckets at new (λ n. each (suc n)) here number

-- all are empty
each_empty : (P : List Stored → Type 0) (n number : ℕ) → P [] → P (get_or (replicate n []) number [])
each_empty P zero number none = none
each_empty P (suc n) zero none = none
each_empty P (suc n) (suc number) none = each_empty P n number none

pub buckets_opening : (shape : Shape) → AreBuckets shape (opening shape) × HasNoLruLists (opening shape)
unfolding opening
buckets_opening shape = (
  λ number. each_empty (IsBucket shape number) shape.buckets number (record { own = tt; distinct = tt; sized = tt }),
  record { sets = refl; locals = refl; marked = refl },
)

module _ (shape : Shape) (lists : Finals) (each : AreBuckets shape lists) (evicts : HasNoLruLists lists) where
  -- what is kept over a call
  abbrev Keeps : Finals → Type 0
  Keeps after = AreBuckets shape after × HasNoLruLists after

  -- a key's bucket is another, and freelists and spares are what they may
  bucket_keeps : (key : List ℕ) (bucket : List Stored) (freelists : List (List ℕ)) (spares : List ℕ) → IsBucket shape (bucket_of_key shape key) bucket
      → Keeps (record lists { buckets = set lists.buckets (bucket_of_key shape key) bucket; freelists = freelists; spares = spares })
  bucket_keeps key bucket freelists spares is = (
    each_set (IsBucket shape) lists.buckets (bucket_of_key shape key) bucket each is,
    record { sets = evicts.sets; locals = evicts.locals; marked = evicts.marked },
  )

  -- a key is deleted
  deleted_keeps : (cpu : ℕ) (key : List ℕ) (reply : Reply) (found : Option Stored) → present key (bucket_at shape lists key) ≡ found → Keeps (deleted shape cpu key lists reply found).0
  deleted_keeps cpu key reply None is = (each, evicts)
  deleted_keeps cpu key reply (Some old) is =
      let bucket : List Stored = bucket_at shape lists key in
      bucket_keeps key (without_key key bucket) (pushed cpu old.element lists.freelists) lists.spares (bucket_without shape (bucket_of_key shape key) key bucket old (each (bucket_of_key shape key)) is).0

  -- a new key
  added_keeps : (side : Side) (cpu : ℕ) (key value : List ℕ) (top : Option (ℕ × List (List ℕ))) → length key ≡ shape.key_size → length value ≡ value_len_of shape side
      → present key (bucket_at shape lists key) ≡ None → Keeps (added shape side cpu key value lists top).0
  added_keeps side cpu key value None long exact is = (each, evicts)
  added_keeps side cpu key value (Some top) long exact is =
      let bucket : List Stored = bucket_at shape lists key in
      let new : Stored = new_stored shape side cpu top.0 key value in
      bucket_keeps key (new ∷ bucket) top.1 lists.spares
      (bucket_put shape bucket new (each (bucket_of_key shape key)) (none_passes (has_key key) bucket is) (new_sized shape side cpu top.0 key value long exact))

  -- a value is written in place
  written_keeps : (side : Side) (cpu : ℕ) (key value : List ℕ) (old : Stored) → length value ≡ value_len_of shape side → present key (bucket_at shape lists key) ≡ Some old → Keeps (written shape side cpu key value lists old)
  written_keeps side cpu key value old exact is =
      let bucket : List Stored = bucket_at shape lists key in
      let new : Stored = record old { values = values_written shape side cpu old.values value } in
      bucket_keeps key (with_in_place key new bucket) lists.freelists lists.spares
      (bucket_in_place shape (bucket_of_key shape key) key bucket old new (each (bucket_of_key shape key)) is refl (written_sized shape side cpu value old exact))

  -- a spare is in the place of the old element
  replaced_keeps : (side : Side) (cpu : ℕ) (key value : List ℕ) (old : Stored) → length key ≡ shape.key_size → length value ≡ value_len_of shape side
      → present key (bucket_at shape lists key) ≡ Some old → Keeps (replaced shape side cpu key value lists old)
  replaced_keeps side cpu key value old long exact is =
      let bucket : List Stored = bucket_at shape lists key in
      let spare : ℕ = slice_index lists.spares cpu in
      let new : Stored = new_stored shape side cpu spare key value in
      let left = bucket_without shape (bucket_of_key shape key) key bucket old (each (bucket_of_key shape key)) is in
      bucket_keeps key (new ∷ without_key key bucket) lists.freelists (set lists.spares cpu old.element)
      (bucket_put shape (without_key key bucket) new left.0 left.1 (new_sized shape side cpu spare key value long exact))

  -- an update
  updated_keeps : (side : Side) (cpu flags : ℕ) (key value : List ℕ) (found : Option Stored) → length key ≡ shape.key_size → length value ≡ value_len_of shape side
      → present key (bucket_at shape lists key) ≡ found → Keeps (updated shape side cpu flags key value lists found).0
  updated_keeps side cpu flags key value None long exact is =
      cond_both (eqb flags 2) _ _ (λ (after : Finals × Reply). Keeps after.0) (λ refused. (each, evicts))
      (λ other. added_keeps side cpu key value (popped cpu lists.freelists) long exact is)
  updated_keeps side cpu flags key value (Some old) long exact is =
      cond_both (eqb flags 1) _ _ (λ (after : Finals × Reply). Keeps after.0) (λ refused. (each, evicts))
      (λ other. cond_both (is_percpu shape.kind) _ _ Keeps (λ parts. written_keeps side cpu key value old exact is)
      (λ common. replaced_keeps side cpu key value old long exact is))

  -- a call on one key
  key_keeps : (cpu : ℕ) (verb : Verb) → IsKeyVerb verb → calls.HasSizes shape verb → Keeps (after_call shape cpu verb lists).0
  unfolding after_call
  key_keeps cpu (Lookup side key) is sizes = (each, evicts)
  key_keeps cpu (Update side flags key value) is sizes =
      cond_both (nat_lt 2 flags) _ _ (λ (after : Finals × Reply). Keeps after.0) (λ refused. (each, evicts))
      (λ known. updated_keeps side cpu flags key value (present key (bucket_at shape lists key)) sizes.0 sizes.1 refl)
  key_keeps cpu (Delete key) is sizes = deleted_keeps cpu key Done (present key (bucket_at shape lists key)) refl
  key_keeps cpu (Take key) is sizes = deleted_keeps cpu key _ (present key (bucket_at shape lists key)) refl
  key_keeps cpu (Next key) is sizes = absurd is
  key_keeps cpu (BatchRead remove count start flags) is sizes = absurd is
  key_keeps cpu (BatchUpdate flags pairs) is sizes = absurd is
  key_keeps cpu (BatchDelete flags keys) is sizes = absurd is
  key_keeps cpu (Each flags stop) is sizes = absurd is

-- A call on one key keeps each key in its bucket.
pub buckets_key : (shape : Shape) (cpu : ℕ) (verb : Verb) (lists : Finals) → IsKeyVerb verb → calls.HasSizes shape verb → AreBuckets shape lists → HasNoLruLists lists
    → AreBuckets shape (after_call shape cpu verb lists).0 × HasNoLruLists (after_call shape cpu verb lists).0
buckets_key shape cpu verb lists is sizes each evicts = key_keeps shape lists each evicts cpu verb is sizes
