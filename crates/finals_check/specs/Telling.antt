-- What lies under the locks of a map, as finals tell it.
use Rattle.std.specs.Prelude.{◌≡◌, ◌↔◌, ℕ, IsTrue, List, [], ◌∷◌, map, slice_get, slice_index_or, Option, None, Some}
use Rattle.map_types.specs.declared.attr.Shape.{Shape}
use Rattle.map_types.specs.declared.kind.DomainId.{DomainId}
use Rattle.map_types.specs.declared.kind.DomainId.TheVariants as locks
use Rattle.map_types.specs.Stored.{Stored}
use Rattle.map_report.specs.declared.record.RunRecord.{RunRecord}
use Rattle.map_report.specs.Record.{Tells, entries_of, locks_of}
use Rattle.map_report.specs.Turns.{spare_at}
use Rattle.place_words.specs.declared.finals.Finals.{Finals}
use Rattle.place_words.specs.declared.finals.LocalFinal.{LocalFinal}
use Rattle.place_words.specs.declared.finals.SetFinal.{SetFinal}
use Rattle.place_words.specs.Histories.{Content, in_bucket, on_freelist, in_locals, in_global, in_own, content}
use Rattle.place_words.specs.Locks.{is_lock}
use Rattle.place_words.specs.Logs.{final_local, final_set}
use Rattle.finals_check.specs.declared.told.Lies.{Lies}
use Rattle.finals_check.specs.declared.told.Lying.{Lying}
use Rattle.finals_check.specs.declared.told.Lying.TheVariants.{Local, Global, Own, Bucket, Freelist}

-- the finals have these lists, by their number; a bucket or freelist that they don't have is empty
abbrev pub LocalTold : List LocalFinal → ℕ → LocalFinal → Type 0
LocalTold locals cpu told = slice_get locals cpu ≡ Some told

abbrev pub SetTold : List SetFinal → ℕ → SetFinal → Type 0
SetTold sets number told = slice_get sets number ≡ Some told

abbrev pub BucketTold : List (List Stored) → ℕ → List Stored → Type 0
BucketTold buckets number told = slice_index_or buckets number [] ≡ told

abbrev pub FreelistTold : List (List ℕ) → ℕ → List ℕ → Type 0
FreelistTold freelists cpu told = slice_index_or freelists cpu [] ≡ told

-- what the finals tell of a lock lies there, and it is of the lock's sort
abbrev pub IsTold : Finals → DomainId → Lying → Type 0
IsTold finals (locks.Local cpu) (Local told) = LocalTold finals.locals cpu told
IsTold finals locks.Global (Global told) = SetTold finals.sets 0 told
IsTold finals (locks.CpuLru cpu) (Own told) = SetTold finals.sets cpu told
IsTold finals (locks.Bucket number) (Bucket told) = BucketTold finals.buckets number told
IsTold finals (locks.Freelist cpu) (Freelist told) = FreelistTold finals.freelists cpu told
IsTold finals lock content = ⊥

-- of each of these locks
abbrev pub AreTold : Finals → List Lies → Type 0
AreTold finals [] = Unit {0}
AreTold finals (lies ∷ more) = IsTold finals lies.lock lies.content × AreTold finals more

-- what lies under a lock, in the form in which finals tell it
abbrev pub lying_of : Content → Lying
lying_of (in_bucket bodies) = Bucket bodies
lying_of (on_freelist stack) = Freelist stack
lying_of (in_locals lists) = Local (final_local lists)
lying_of (in_global set) = Global (final_set set)
lying_of (in_own set) = Own (final_set set)

-- what the histories of a record lead to, of each lock of the map, in order
abbrev pub contents_of : Shape → RunRecord → List Lies
contents_of shape kept = map (λ lock. record { lock = lock; content = lying_of (content shape lock (entries_of kept.histories lock)) }) (locks_of shape)

-- What finals tell of a lock is what lies there, exactly where it is so in this form.
abbrev pub FormTells : Type 0
FormTells = (finals : Finals) (lock : DomainId) (content : Content) → IsTold finals lock (lying_of content) ↔ Tells finals lock content

-- The finals of a record tell what its histories lead to, exactly where all are told in this form.
abbrev pub AllTell : Type 0
AllTell = (shape : Shape) (kept : RunRecord)
    → AreTold kept.finals (contents_of shape kept) ↔ ((lock : DomainId) → IsTrue (is_lock shape lock) → Tells kept.finals lock (content shape lock (entries_of kept.histories lock)))

-- Each CPU has the spare that is left to it. One without a number here has none.
abbrev pub SparesTold : Finals → List (Option ℕ) → Type 0
SparesTold finals left = (cpu : ℕ) → slice_index_or left cpu None ≡ spare_at finals cpu
