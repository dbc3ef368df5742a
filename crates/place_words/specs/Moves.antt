-- Which elements lie under a lock, and which of them a turn brings there and takes from there. A move from one list to
-- another under the same lock is neither.
use Rattle.std.specs.Prelude.{◌≡◌, ℕ, ◌+◌, List, [], ◌∷◌, ◌++◌, None, Some, option_to_list, if◌then◌else◌}
use Rattle.map_types.specs.declared.attr.Shape.{Shape}
use Rattle.place_words.specs.declared.bucket_part.BucketPart.{BucketPart}
use Rattle.place_words.specs.declared.bucket_part.BucketPart.TheVariants.{Lookup, Update, Delete, Take, Next, First, Walk, Evict}
use Rattle.place_words.specs.declared.bucket_part.Put.{Put}
use Rattle.place_words.specs.declared.bucket_part.Put.TheVariants as puts
use Rattle.place_words.specs.declared.bucket_part.Walked.TheVariants.{Over, Taken}
use Rattle.place_words.specs.declared.bucket_part.Seen.TheVariants.{Removed, Held}
use Rattle.place_words.specs.declared.free_part.FreePart.{FreePart}
use Rattle.place_words.specs.declared.free_part.FreePart.TheVariants.{Pushed, Popped, FoundEmpty}
use Rattle.place_words.specs.declared.history.Part.{Part}
use Rattle.place_words.specs.declared.history.Part.TheVariants as parts
use Rattle.place_words.specs.declared.list_part.GlobalPart.{GlobalPart}
use Rattle.place_words.specs.declared.list_part.GlobalPart.TheVariants as global
use Rattle.place_words.specs.declared.list_part.LocalPart.{LocalPart}
use Rattle.place_words.specs.declared.list_part.LocalPart.TheVariants as local
use Rattle.place_words.specs.Bodies.{numbers}
use Rattle.map_types.specs.ElementLists.{times}
use Rattle.place_words.specs.Globals.{flushed_elements}
use Rattle.place_words.specs.Histories.{Content, in_bucket, on_freelist, in_locals, in_global, in_own, content_after}
use Rattle.map_types.specs.Listed.{elements_of}
use Rattle.place_words.specs.Rotation.{visited_elements}
use Rattle.place_words.specs.Sets.{ListSet}
use Rattle.place_words.specs.Takings.{freed_by, stolen_element}

-- the elements that lie under a lock, free or listed
abbrev pub elements_of_set : ListSet → List ℕ
elements_of_set set = set.free ++ (elements_of set.lists.active ++ elements_of set.lists.inactive)

abbrev pub elements_in : Content → List ℕ
elements_in (in_bucket bodies) = numbers bodies
elements_in (on_freelist stack) = stack
elements_in (in_locals lists) = lists.free ++ elements_of lists.pending
elements_in (in_global set) = elements_of_set set
elements_in (in_own set) = elements_of_set set

-- what an update brings to its bucket, and what it takes
abbrev pub brought_by_put : Put → List ℕ
brought_by_put (puts.Added e) = e ∷ []
brought_by_put (puts.Replaced new old) = new ∷ []
brought_by_put (puts.Written e) = []
brought_by_put puts.Exists = []
brought_by_put puts.Absent = []
brought_by_put puts.Full = []

abbrev pub taken_by_put : Put → List ℕ
taken_by_put (puts.Added e) = []
taken_by_put (puts.Replaced new old) = old ∷ []
taken_by_put (puts.Written e) = []
taken_by_put puts.Exists = []
taken_by_put puts.Absent = []
taken_by_put puts.Full = []

-- what a turn brings to a bucket
abbrev pub brought_to_bucket : BucketPart → List ℕ
brought_to_bucket (Lookup side key got) = []
brought_to_bucket (Update side flags key value offer put) = brought_by_put put
brought_to_bucket (Delete key _) = []
brought_to_bucket (Take key _) = []
brought_to_bucket (Next key found) = []
brought_to_bucket (First key) = []
brought_to_bucket (Walk remove room result) = []
brought_to_bucket (Evict e probed) = []

-- what it takes from there
abbrev pub taken_from_bucket : BucketPart → List ℕ
taken_from_bucket (Lookup side key got) = []
taken_from_bucket (Update side flags key value offer put) = taken_by_put put
taken_from_bucket (Delete key None) = []
taken_from_bucket (Delete key (Some e)) = e ∷ []
taken_from_bucket (Take key None) = []
taken_from_bucket (Take key (Some gone)) = gone.0 ∷ []
taken_from_bucket (Next key found) = []
taken_from_bucket (First key) = []
taken_from_bucket (Walk remove room (Over n)) = []
taken_from_bucket (Walk remove room (Taken all)) = if remove then numbers all else []
taken_from_bucket (Evict e Removed) = e ∷ []
taken_from_bucket (Evict e (Held holder)) = []

-- what a turn brings to a freelist, and what it takes
abbrev pub brought_to_freelist : FreePart → List ℕ
brought_to_freelist (Pushed e) = e ∷ []
brought_to_freelist (Popped e) = []
brought_to_freelist FoundEmpty = []

abbrev pub taken_from_freelist : FreePart → List ℕ
taken_from_freelist (Pushed e) = []
taken_from_freelist (Popped e) = e ∷ []
taken_from_freelist FoundEmpty = []

-- what a turn of local lists brings, and what it takes
abbrev pub brought_to_local : LocalPart → List ℕ
brought_to_local (local.Pop hash e) = []
brought_to_local (local.Refill hash flushed gained got) = gained
brought_to_local (local.Steal got first second) = []
brought_to_local (local.Add hash e cursor) = e ∷ []
brought_to_local (local.Push e done) = []

abbrev pub taken_from_local : LocalPart → List ℕ
taken_from_local (local.Pop hash e) = []
taken_from_local (local.Refill hash flushed gained got) = visited_elements flushed
taken_from_local (local.Steal got first second) = option_to_list (stolen_element got)
taken_from_local (local.Add hash e cursor) = []
taken_from_local (local.Push e done) = []

-- and a turn of the global lists
abbrev pub brought_to_global : GlobalPart → List ℕ
brought_to_global (global.Turn flushed active inactive free shrink) = flushed_elements flushed
brought_to_global (global.Push e) = []

abbrev pub taken_from_global : GlobalPart → List ℕ
taken_from_global (global.Turn flushed active inactive free shrink) = free ++ freed_by shrink
taken_from_global (global.Push e) = []

-- What a turn brings, and what it takes. An element may be both: a global turn may free one that it flushed, and a refill get
-- one back. A CPU's own set keeps its elements.
abbrev pub brought : Part → List ℕ
brought (parts.Bucket part) = brought_to_bucket part
brought (parts.Free part) = brought_to_freelist part
brought (parts.Local part) = brought_to_local part
brought (parts.Global part) = brought_to_global part
brought (parts.Own part) = []

abbrev pub taken : Part → List ℕ
taken (parts.Bucket part) = taken_from_bucket part
taken (parts.Free part) = taken_from_freelist part
taken (parts.Local part) = taken_from_local part
taken (parts.Global part) = taken_from_global part
taken (parts.Own part) = []

-- a turn that brings and takes no element: the same elements lie there after it
abbrev pub MovesNothing : Part → Type 0
MovesNothing part = (brought part ≡ []) × (taken part ≡ [])

-- Nothing is lost and nothing comes from nowhere: how often an element lies there after a turn, and is taken, is how often it
-- lay there and is brought.
abbrev pub KeepsElements : Shape → ℕ → Part → Content → Type 0
KeepsElements shape cpu part content =
    (e : ℕ) → times e (elements_in (content_after shape cpu part content)) + times e (taken part) ≡ times e (elements_in content) + times e (brought part)
