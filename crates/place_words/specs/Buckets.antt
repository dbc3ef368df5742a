-- The turns of a bucket's lock: where each may be made, and what the bucket is after it. A bucket is a list of elements,
-- head first, with distinct keys. The rules are those of the kernel's `htab_map_lookup_elem` and
-- `htab_percpu_map_lookup_elem`, `htab_map_update_elem`, `htab_percpu_map_update_elem`, `htab_lru_map_update_elem` and
-- `__htab_lru_percpu_map_update_elem`, `htab_map_delete_elem`, `__htab_map_lookup_and_delete_elem`,
-- `htab_map_get_next_key`, `__htab_map_lookup_and_delete_batch` and `htab_lru_map_delete_node`.
use Rattle.std.specs.Prelude.{◌≡◌, ◌≢◌, ℕ, ◌<◌, ◌≤◌, IsTrue, IsFalse, List, [], ◌∷◌, length, map, Option, None, Some, MatchOption, IsSome, if◌then◌else◌}
use Rattle.map_types.specs.declared.attr.Shape.{Shape}
use Rattle.map_types.specs.declared.kind.Side.{Side}
use Rattle.map_types.specs.declared.kind.Side.TheVariants.{Prog, Sys}
use Rattle.map_types.specs.Kind.{is_lru, is_percpu}
use Rattle.map_types.specs.Sides.{value_read, values_written, new_values}
use Rattle.map_types.specs.Stored.{Stored}
use Rattle.place_words.specs.declared.bucket_part.BucketPart.{BucketPart}
use Rattle.place_words.specs.declared.bucket_part.BucketPart.TheVariants.{Lookup, Update, Delete, Take, Next, First, Walk, Evict}
use Rattle.place_words.specs.declared.bucket_part.Put.{Put}
use Rattle.place_words.specs.declared.bucket_part.Put.TheVariants as puts
use Rattle.place_words.specs.declared.bucket_part.NextFound.{NextFound}
use Rattle.place_words.specs.declared.bucket_part.NextFound.TheVariants as nexts
use Rattle.place_words.specs.declared.bucket_part.Walked.{Walked}
use Rattle.place_words.specs.declared.bucket_part.Walked.TheVariants.{Over, Taken}
use Rattle.place_words.specs.declared.bucket_part.Seen.{Seen}
use Rattle.place_words.specs.declared.bucket_part.Seen.TheVariants.{Removed, Held}
use Rattle.place_words.specs.Bodies.{has_key, present, without_key, body_of, without_element, first_key, next_key}

abbrev pub IsAbsent : List ℕ → List Stored → Type 0
IsAbsent key bucket = present key bucket ≡ None

-- the key is present, and this holds of its element
abbrev pub IsPresentWith : List ℕ → List Stored → (Stored → Type 0) → Type 0
IsPresentWith key bucket Fact = MatchOption (present key bucket) ⊥ Fact

-- the key is present at this element, and these bytes are read of its values
abbrev pub ReadsValue : Shape → Side → ℕ → List ℕ → List Stored → ℕ × List ℕ → Type 0
ReadsValue shape side cpu key bucket got =
    IsPresentWith key bucket (λ body. (body.element ≡ got.0) × (got.1 ≡ value_read shape side cpu body.values))

-- BPF_NOEXIST (1) refuses a present key and BPF_EXIST (2) an absent one. A present key is written in place where there is
-- a value for each CPU, and on the other kinds a new element replaces the old one. Only a map that doesn't evict is full.
abbrev pub AllowsPut : Shape → ℕ → List ℕ → Put → List Stored → Type 0
AllowsPut shape flags key (puts.Added e) bucket = IsAbsent key bucket × (flags ≢ 2)
AllowsPut shape flags key (puts.Replaced new old) bucket =
    IsPresentWith key bucket (λ body. (body.element ≡ old) × (flags ≢ 1) × IsFalse (is_percpu shape.kind))
AllowsPut shape flags key (puts.Written e) bucket =
    IsPresentWith key bucket (λ body. (body.element ≡ e) × (flags ≢ 1) × IsTrue (is_percpu shape.kind))
AllowsPut shape flags key puts.Exists bucket = IsPresentWith key bucket (λ body. flags ≡ 1)
AllowsPut shape flags key puts.Absent bucket = IsAbsent key bucket × (flags ≡ 2)
AllowsPut shape flags key puts.Full bucket = IsAbsent key bucket × (flags ≢ 2) × IsFalse (is_lru shape.kind)

-- what follows a key
abbrev pub AllowsNext : List ℕ → NextFound → List Stored → Type 0
AllowsNext key nexts.Absent bucket = IsAbsent key bucket
AllowsNext key nexts.Last bucket = IsPresentWith key bucket (λ body. next_key key bucket ≡ None)
AllowsNext key (nexts.Key next) bucket = IsPresentWith key bucket (λ body. next_key key bucket ≡ Some next)

-- an element as a batch read or a walk over all elements takes it, with the one value that the system call reads on this CPU
abbrev pub as_read : Shape → ℕ → Stored → Stored
as_read shape cpu body = record body { values = value_read shape Sys cpu body.values ∷ [] }

-- a batch read or a walk over all elements takes the whole bucket, or nothing where there is no room for that
abbrev pub AllowsWalk : Shape → ℕ → ℕ → Walked → List Stored → Type 0
AllowsWalk shape cpu room (Over n) bucket = (n ≡ length bucket) × (room < n)
AllowsWalk shape cpu room (Taken all) bucket = (length bucket ≤ room) × (all ≡ map (as_read shape cpu) bucket)

-- a probe finds the element in its bucket, or in the hand of another CPU
abbrev pub AllowsEvict : Shape → ℕ → ℕ → Seen → List Stored → Type 0
AllowsEvict shape cpu e Removed bucket = IsSome (body_of e bucket)
AllowsEvict shape cpu e (Held holder) bucket = (body_of e bucket ≡ None) × (holder < shape.cpus) × (holder ≢ cpu)

-- where a CPU's turn may be this part
unfoldable pub AllowsInBucket : Shape → ℕ → BucketPart → List Stored → Type 0
AllowsInBucket shape cpu (Lookup side key None) bucket = IsAbsent key bucket
AllowsInBucket shape cpu (Lookup side key (Some got)) bucket = ReadsValue shape side cpu key bucket got
AllowsInBucket shape cpu (Update side flags key value offer put) bucket = AllowsPut shape flags key put bucket
AllowsInBucket shape cpu (Delete key None) bucket = IsAbsent key bucket
AllowsInBucket shape cpu (Delete key (Some e)) bucket = IsPresentWith key bucket (λ body. body.element ≡ e)
AllowsInBucket shape cpu (Take key None) bucket = IsAbsent key bucket
AllowsInBucket shape cpu (Take key (Some gone)) bucket = ReadsValue shape Sys cpu key bucket gone
AllowsInBucket shape cpu (Next key found) bucket = AllowsNext key found bucket
AllowsInBucket shape cpu (First key) bucket = key ≡ first_key bucket
AllowsInBucket shape cpu (Walk remove room result) bucket = AllowsWalk shape cpu room result bucket
AllowsInBucket shape cpu (Evict e probed) bucket = AllowsEvict shape cpu e probed bucket

-- an element that is new in the bucket, into which a side writes a value on a CPU
abbrev pub new_stored : Shape → Side → ℕ → ℕ → List ℕ → List ℕ → Stored
new_stored shape side cpu e key value =
    record { element = e; key = key; values = new_values shape side cpu value }

-- the element that holds the key, over whose values a side writes a value on a CPU; the others stay
abbrev pub written_over : Shape → Side → ℕ → List ℕ → List ℕ → Stored → Stored
written_over shape side cpu key value body =
    if has_key key body then record body { values = values_written shape side cpu body.values value } else body

abbrev pub bucket_after_put : Shape → Side → ℕ → List ℕ → List ℕ → Put → List Stored → List Stored
bucket_after_put shape side cpu key value (puts.Added e) bucket = new_stored shape side cpu e key value ∷ bucket
bucket_after_put shape side cpu key value (puts.Replaced new old) bucket =
    new_stored shape side cpu new key value ∷ without_key key bucket
bucket_after_put shape side cpu key value (puts.Written e) bucket = map (written_over shape side cpu key value) bucket
bucket_after_put shape side cpu key value puts.Exists bucket = bucket
bucket_after_put shape side cpu key value puts.Absent bucket = bucket
bucket_after_put shape side cpu key value puts.Full bucket = bucket

-- the bucket after a part that was allowed there
unfoldable pub bucket_after : Shape → ℕ → BucketPart → List Stored → List Stored
bucket_after shape cpu (Lookup side key got) bucket = bucket
bucket_after shape cpu (Update side flags key value offer put) bucket = bucket_after_put shape side cpu key value put bucket
bucket_after shape cpu (Delete key None) bucket = bucket
bucket_after shape cpu (Delete key (Some e)) bucket = without_key key bucket
bucket_after shape cpu (Take key None) bucket = bucket
bucket_after shape cpu (Take key (Some gone)) bucket = without_key key bucket
bucket_after shape cpu (Next key found) bucket = bucket
bucket_after shape cpu (First key) bucket = bucket
bucket_after shape cpu (Walk remove room (Over n)) bucket = bucket
bucket_after shape cpu (Walk remove room (Taken all)) bucket = if remove then [] else bucket
bucket_after shape cpu (Evict e Removed) bucket = without_element e bucket
bucket_after shape cpu (Evict e (Held holder)) bucket = bucket

-- On a map that evicts, a part sets the bits of these elements: of the one that a program's lookup found, of the new one that
-- replaced another, and of the one that was written in place. It sets no other bit. Which maps evict is asked where these are
-- used.
abbrev pub marks_of_lookup : Side → Option (ℕ × List ℕ) → List ℕ
marks_of_lookup Prog None = []
marks_of_lookup Prog (Some got) = got.0 ∷ []
marks_of_lookup Sys got = []

abbrev pub marks_of_put : Put → List ℕ
marks_of_put (puts.Added e) = []
marks_of_put (puts.Replaced new old) = new ∷ []
marks_of_put (puts.Written e) = e ∷ []
marks_of_put puts.Exists = []
marks_of_put puts.Absent = []
marks_of_put puts.Full = []

abbrev pub bucket_marks : BucketPart → List ℕ
bucket_marks (Lookup side key got) = marks_of_lookup side got
bucket_marks (Update side flags key value offer put) = marks_of_put put
bucket_marks (Delete key _) = []
bucket_marks (Take key _) = []
bucket_marks (Next key found) = []
bucket_marks (First key) = []
bucket_marks (Walk remove room result) = []
bucket_marks (Evict e probed) = []
