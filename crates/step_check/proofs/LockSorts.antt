-- What lies under a lock is of the lock's sort, and so is each part that may be done there.
use Rattle.std.proofs.Common.{◌≡◌, ℕ, refl, ◌∙◌, arith}
use Rattle.std.proofs.lemmas.Bool.{cond_both}
use Rattle.map_types.specs.declared.attr.Shape.{Shape}
use Rattle.map_types.specs.declared.kind.DomainId.{DomainId}
use Rattle.map_types.specs.declared.kind.DomainId.TheVariants.{Local, Global, CpuLru, Bucket, Freelist}
use Rattle.place_words.specs.declared.history.Part.{Part}
use Rattle.place_words.specs.declared.history.Part.TheVariants as parts
use Rattle.place_words.specs.Histories.{Content, in_bucket, on_freelist, in_locals, in_global, in_own, content_after, Allows, opening_content}
use Rattle.place_words.specs.Locks.{is_same_lock}
use Rattle.place_words.specs.Turns.{Turn, after_turn}

-- the sorts of locks, of what lies under them, and of parts, in the order in which locks are numbered
abbrev pub sort_of_lock : DomainId → ℕ
sort_of_lock (Local cpu) = 0
sort_of_lock Global = 1
sort_of_lock (CpuLru cpu) = 2
sort_of_lock (Bucket bucket) = 3
sort_of_lock (Freelist cpu) = 4

abbrev pub sort_of_content : Content → ℕ
sort_of_content (in_locals lists) = 0
sort_of_content (in_global set) = 1
sort_of_content (in_own set) = 2
sort_of_content (in_bucket bodies) = 3
sort_of_content (on_freelist stack) = 4

abbrev pub sort_of_part : Part → ℕ
sort_of_part (parts.Local part) = 0
sort_of_part (parts.Global part) = 1
sort_of_part (parts.Own part) = 2
sort_of_part (parts.Bucket part) = 3
sort_of_part (parts.Free part) = 4

abbrev pub AreOfTheirSorts : (DomainId → Content) → Type 0
AreOfTheirSorts contents = (lock : DomainId) → sort_of_content (contents lock) ≡ sort_of_lock lock

allowed_sort : (shape : Shape) (cpu : ℕ) (part : Part) (content : Content) → Allows shape cpu part content → sort_of_part part ≡ sort_of_content content
allowed_sort shape cpu (parts.Bucket part) (in_bucket bodies) may = refl
allowed_sort shape cpu (parts.Bucket part) (on_freelist stack) may = absurd may
allowed_sort shape cpu (parts.Bucket part) (in_locals lists) may = absurd may
allowed_sort shape cpu (parts.Bucket part) (in_global set) may = absurd may
allowed_sort shape cpu (parts.Bucket part) (in_own set) may = absurd may
allowed_sort shape cpu (parts.Free part) (in_bucket bodies) may = absurd may
allowed_sort shape cpu (parts.Free part) (on_freelist stack) may = refl
allowed_sort shape cpu (parts.Free part) (in_locals lists) may = absurd may
allowed_sort shape cpu (parts.Free part) (in_global set) may = absurd may
allowed_sort shape cpu (parts.Free part) (in_own set) may = absurd may
allowed_sort shape cpu (parts.Local part) (in_bucket bodies) may = absurd may
allowed_sort shape cpu (parts.Local part) (on_freelist stack) may = absurd may
allowed_sort shape cpu (parts.Local part) (in_locals lists) may = refl
allowed_sort shape cpu (parts.Local part) (in_global set) may = absurd may
allowed_sort shape cpu (parts.Local part) (in_own set) may = absurd may
allowed_sort shape cpu (parts.Global part) (in_bucket bodies) may = absurd may
allowed_sort shape cpu (parts.Global part) (on_freelist stack) may = absurd may
allowed_sort shape cpu (parts.Global part) (in_locals lists) may = absurd may
allowed_sort shape cpu (parts.Global part) (in_global set) may = refl
allowed_sort shape cpu (parts.Global part) (in_own set) may = absurd may
allowed_sort shape cpu (parts.Own part) (in_bucket bodies) may = absurd may
allowed_sort shape cpu (parts.Own part) (on_freelist stack) may = absurd may
allowed_sort shape cpu (parts.Own part) (in_locals lists) may = absurd may
allowed_sort shape cpu (parts.Own part) (in_global set) may = absurd may
allowed_sort shape cpu (parts.Own part) (in_own set) may = refl

same_sort_after : (shape : Shape) (cpu : ℕ) (part : Part) (content : Content) → sort_of_content (content_after shape cpu part content) ≡ sort_of_content content
same_sort_after shape cpu (parts.Bucket part) (in_bucket bodies) = refl
same_sort_after shape cpu (parts.Bucket part) (on_freelist stack) = refl
same_sort_after shape cpu (parts.Bucket part) (in_locals lists) = refl
same_sort_after shape cpu (parts.Bucket part) (in_global set) = refl
same_sort_after shape cpu (parts.Bucket part) (in_own set) = refl
same_sort_after shape cpu (parts.Free part) (in_bucket bodies) = refl
same_sort_after shape cpu (parts.Free part) (on_freelist stack) = refl
same_sort_after shape cpu (parts.Free part) (in_locals lists) = refl
same_sort_after shape cpu (parts.Free part) (in_global set) = refl
same_sort_after shape cpu (parts.Free part) (in_own set) = refl
same_sort_after shape cpu (parts.Local part) (in_bucket bodies) = refl
same_sort_after shape cpu (parts.Local part) (on_freelist stack) = refl
same_sort_after shape cpu (parts.Local part) (in_locals lists) = refl
same_sort_after shape cpu (parts.Local part) (in_global set) = refl
same_sort_after shape cpu (parts.Local part) (in_own set) = refl
same_sort_after shape cpu (parts.Global part) (in_bucket bodies) = refl
same_sort_after shape cpu (parts.Global part) (on_freelist stack) = refl
same_sort_after shape cpu (parts.Global part) (in_locals lists) = refl
same_sort_after shape cpu (parts.Global part) (in_global set) = refl
same_sort_after shape cpu (parts.Global part) (in_own set) = refl
same_sort_after shape cpu (parts.Own part) (in_bucket bodies) = refl
same_sort_after shape cpu (parts.Own part) (on_freelist stack) = refl
same_sort_after shape cpu (parts.Own part) (in_locals lists) = refl
same_sort_after shape cpu (parts.Own part) (in_global set) = refl
same_sort_after shape cpu (parts.Own part) (in_own set) = refl

pub sorts_first : (shape : Shape) → AreOfTheirSorts (opening_content shape)
sorts_first shape (Local cpu) = refl
sorts_first shape Global = refl
sorts_first shape (CpuLru cpu) = refl
sorts_first shape (Bucket bucket) = refl
sorts_first shape (Freelist cpu) = refl

pub sorts_after : (shape : Shape) (cpu : ℕ) (contents : DomainId → Content) (turn : Turn) → AreOfTheirSorts contents → AreOfTheirSorts (after_turn shape cpu contents turn)
sorts_after shape cpu contents turn are lock =
    cond_both (is_same_lock turn.lock lock) (content_after shape cpu turn.part (contents lock)) (contents lock) (λ c. sort_of_content c ≡ sort_of_lock lock)
    (λ _. same_sort_after shape cpu turn.part (contents lock) ∙ are lock)
    (λ _. are lock)

-- a part that is allowed under a lock is of the lock's sort
pub part_sort : (shape : Shape) (cpu : ℕ) (part : Part) (lock : DomainId) (contents : DomainId → Content) → AreOfTheirSorts contents → Allows shape cpu part (contents lock) → sort_of_part part ≡ sort_of_lock lock
part_sort shape cpu part lock contents are may = allowed_sort shape cpu part (contents lock) may ∙ are lock

-- the lock of a sort
pub record IsBucketLock (lock : DomainId) : Type 0 where
  pub bucket : ℕ
  pub is : lock ≡ Bucket bucket

pub record IsFreelistLock (lock : DomainId) : Type 0 where
  pub cpu : ℕ
  pub is : lock ≡ Freelist cpu

pub record IsSetLock (lock : DomainId) : Type 0 where
  pub cpu : ℕ
  pub is : lock ≡ CpuLru cpu

pub record IsLocalLock (lock : DomainId) : Type 0 where
  pub cpu : ℕ
  pub is : lock ≡ Local cpu

pub bucket_lock : (lock : DomainId) → 3 ≡ sort_of_lock lock → IsBucketLock lock
bucket_lock (Local cpu) same = absurd (omega (arith, same))
bucket_lock Global same = absurd (omega (arith, same))
bucket_lock (CpuLru cpu) same = absurd (omega (arith, same))
bucket_lock (Bucket bucket) same = record { bucket = bucket; is = refl }
bucket_lock (Freelist cpu) same = absurd (omega (arith, same))

pub freelist_lock : (lock : DomainId) → 4 ≡ sort_of_lock lock → IsFreelistLock lock
freelist_lock (Local cpu) same = absurd (omega (arith, same))
freelist_lock Global same = absurd (omega (arith, same))
freelist_lock (CpuLru cpu) same = absurd (omega (arith, same))
freelist_lock (Bucket bucket) same = absurd (omega (arith, same))
freelist_lock (Freelist cpu) same = record { cpu = cpu; is = refl }

pub set_lock : (lock : DomainId) → 2 ≡ sort_of_lock lock → IsSetLock lock
set_lock (Local cpu) same = absurd (omega (arith, same))
set_lock Global same = absurd (omega (arith, same))
set_lock (CpuLru cpu) same = record { cpu = cpu; is = refl }
set_lock (Bucket bucket) same = absurd (omega (arith, same))
set_lock (Freelist cpu) same = absurd (omega (arith, same))

pub local_lock : (lock : DomainId) → 0 ≡ sort_of_lock lock → IsLocalLock lock
local_lock (Local cpu) same = record { cpu = cpu; is = refl }
local_lock Global same = absurd (omega (arith, same))
local_lock (CpuLru cpu) same = absurd (omega (arith, same))
local_lock (Bucket bucket) same = absurd (omega (arith, same))
local_lock (Freelist cpu) same = absurd (omega (arith, same))

pub global_lock : (lock : DomainId) → 1 ≡ sort_of_lock lock → lock ≡ Global
global_lock (Local cpu) same = absurd (omega (arith, same))
global_lock Global same = refl
global_lock (CpuLru cpu) same = absurd (omega (arith, same))
global_lock (Bucket bucket) same = absurd (omega (arith, same))
global_lock (Freelist cpu) same = absurd (omega (arith, same))
