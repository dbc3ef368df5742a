-- The turns of one call on a key of a map that doesn't evict, in the order in which their locks are given back, and the reply
-- that goes with them. The rules are those of the kernel's `htab_map_lookup_elem` and `htab_percpu_map_lookup_elem`,
-- `htab_map_update_elem` and `htab_percpu_map_update_elem`, `htab_map_delete_elem`, `__htab_map_lookup_and_delete_elem`,
-- and `__pcpu_freelist_pop` and `__pcpu_freelist_push`.
use Rattle.std.specs.Prelude.{◌≡◌, ◌⊎◌, ℕ, ◌<◌, ◌≤◌, List, [], ◌∷◌, ◌++◌, Option, None, Some, map}
use Rattle.map_types.specs.declared.attr.Shape.{Shape}
use Rattle.map_types.specs.declared.call.Verb.{Verb}
use Rattle.map_types.specs.declared.call.Verb.TheVariants as verbs
use Rattle.map_types.specs.declared.kind.Side.{Side}
use Rattle.map_types.specs.declared.refusal.Errno.TheVariants.{Enoent, E2big, Eexist, Einval}
use Rattle.map_types.specs.declared.reply.Reply.{Reply}
use Rattle.map_types.specs.declared.reply.Reply.TheVariants.{Done, Value, Refused}
use Rattle.place_words.specs.declared.bucket_part.BucketPart.{BucketPart}
use Rattle.place_words.specs.declared.bucket_part.BucketPart.TheVariants.{Lookup, Update, Delete, Take, Next, First, Walk, Evict}
use Rattle.place_words.specs.declared.bucket_part.Put.{Put}
use Rattle.place_words.specs.declared.bucket_part.Put.TheVariants as puts
use Rattle.place_words.specs.declared.free_part.FreePart.TheVariants.{Pushed, Popped, FoundEmpty}
use Rattle.place_words.specs.declared.history.Part.{Part}
use Rattle.place_words.specs.declared.history.Part.TheVariants as parts
use Rattle.place_words.specs.Turns.{Turn, ring, on_bucket_of, on_freelist_of}

-- the freelists of these CPUs were looked at, in their order, and each was found empty
abbrev pub found_empty : List ℕ → List Turn
found_empty cpus = map (λ cpu. on_freelist_of cpu FoundEmpty) cpus

-- A pop by a CPU: the freelists in ring order were found empty up to the first that gives an element.
pub record Pops (shape : Shape) (cpu e : ℕ) (turns : List Turn) : Type 0 where
  pub passed : List ℕ
  pub giver : ℕ
  pub left : List ℕ
  pub ring_is : ring cpu shape.cpus ≡ passed ++ giver ∷ left
  pub turns_are : turns ≡ found_empty passed ++ on_freelist_of giver (Popped e) ∷ []

-- a push goes to the calling CPU's freelist
abbrev pub pushes : ℕ → Option ℕ → List Turn
pushes cpu None = []
pushes cpu (Some e) = on_freelist_of cpu (Pushed e) ∷ []

-- Lookup: one turn of the key's bucket. It answers the value that it got, or ENOENT.
abbrev pub reply_of_got : Option (ℕ × List ℕ) → Reply
reply_of_got None = Refused Enoent
reply_of_got (Some got) = Value got.1

pub record IsLookupTrace (shape : Shape) (side : Side) (key : List ℕ) (turns : List Turn) (reply : Reply) : Type 0 where
  pub got : Option (ℕ × List ℕ)
  pub turns_are : turns ≡ on_bucket_of shape key (Lookup side key got) ∷ []
  pub reply_is : reply ≡ reply_of_got got

-- Update. What the bucket's turn puts says what was done before it: an element that is added was popped; a map is full
-- where all freelists were found empty; one that replaces another is the CPU's spare; else nothing is looked at.
abbrev pub LooksFor : Shape → ℕ → Option ℕ → Put → List Turn → Type 0
LooksFor shape cpu spare (puts.Added e) turns = Pops shape cpu e turns
LooksFor shape cpu spare (puts.Replaced new old) turns = (turns ≡ []) × (spare ≡ Some new)
LooksFor shape cpu spare (puts.Written e) turns = turns ≡ []
LooksFor shape cpu spare puts.Exists turns = turns ≡ []
LooksFor shape cpu spare puts.Absent turns = turns ≡ []
LooksFor shape cpu spare puts.Full turns = turns ≡ found_empty (ring cpu shape.cpus)

-- and what the call answers
abbrev pub reply_of_put : Put → Reply
reply_of_put (puts.Added e) = Done
reply_of_put (puts.Replaced new old) = Done
reply_of_put (puts.Written e) = Done
reply_of_put puts.Exists = Refused Eexist
reply_of_put puts.Absent = Refused Enoent
reply_of_put puts.Full = Refused E2big

pub record IsPutTrace (shape : Shape) (cpu : ℕ) (spare : Option ℕ) (side : Side) (flags : ℕ) (key value : List ℕ) (turns : List Turn) (reply : Reply) : Type 0 where
  pub put : Put
  pub looks : List Turn
  pub looks_are : LooksFor shape cpu spare put looks
  pub turns_are : turns ≡ looks ++ on_bucket_of shape key (Update side flags key value None put) ∷ []
  pub reply_is : reply ≡ reply_of_put put

-- flags above BPF_EXIST (2) are refused before anything is looked at
abbrev pub IsUpdateTrace : Shape → ℕ → Option ℕ → Side → ℕ → List ℕ → List ℕ → List Turn → Reply → Type 0
IsUpdateTrace shape cpu spare side flags key value turns reply =
    ((2 < flags) × (turns ≡ []) × (reply ≡ Refused Einval)) ⊎ ((flags ≤ 2) × IsPutTrace shape cpu spare side flags key value turns reply)

-- Delete, and take, which answers as the system call's lookup: the element is pushed inside the bucket's turn.
abbrev pub reply_of_gone : Option ℕ → Reply
reply_of_gone None = Refused Enoent
reply_of_gone (Some e) = Done

pub record IsDeleteTrace (shape : Shape) (cpu : ℕ) (key : List ℕ) (turns : List Turn) (reply : Reply) : Type 0 where
  pub gone : Option ℕ
  pub turns_are : turns ≡ pushes cpu gone ++ on_bucket_of shape key (Delete key gone) ∷ []
  pub reply_is : reply ≡ reply_of_gone gone

abbrev pub element_gone : Option (ℕ × List ℕ) → Option ℕ
element_gone None = None
element_gone (Some gone) = Some gone.0

pub record IsTakeTrace (shape : Shape) (cpu : ℕ) (key : List ℕ) (turns : List Turn) (reply : Reply) : Type 0 where
  pub gone : Option (ℕ × List ℕ)
  pub turns_are : turns ≡ pushes cpu (element_gone gone) ++ on_bucket_of shape key (Take key gone) ∷ []
  pub reply_is : reply ≡ reply_of_got gone

-- The turns of a call on one key, on a CPU with this spare, and its reply. Next key, batches and walks over all elements
-- are told elsewhere, since they differ on maps that evict only in how a batch frees what it takes out.
abbrev pub IsPlainTrace : Shape → ℕ → Option ℕ → Verb → List Turn → Reply → Type 0
IsPlainTrace shape cpu spare (verbs.Lookup side key) turns reply = IsLookupTrace shape side key turns reply
IsPlainTrace shape cpu spare (verbs.Update side flags key value) turns reply = IsUpdateTrace shape cpu spare side flags key value turns reply
IsPlainTrace shape cpu spare (verbs.Delete key) turns reply = IsDeleteTrace shape cpu key turns reply
IsPlainTrace shape cpu spare (verbs.Take key) turns reply = IsTakeTrace shape cpu key turns reply
IsPlainTrace shape cpu spare (verbs.Next key) turns reply = ⊥
IsPlainTrace shape cpu spare (verbs.BatchRead remove count start flags) turns reply = ⊥
IsPlainTrace shape cpu spare (verbs.BatchUpdate flags pairs) turns reply = ⊥
IsPlainTrace shape cpu spare (verbs.BatchDelete flags keys) turns reply = ⊥
IsPlainTrace shape cpu spare (verbs.Each flags stop) turns reply = ⊥

-- The spare of a CPU after turns of its calls: the old element of the last replacement, else the one before.
abbrev pub spare_after_put : Option ℕ → Put → Option ℕ
spare_after_put spare (puts.Added e) = spare
spare_after_put spare (puts.Replaced new old) = Some old
spare_after_put spare (puts.Written e) = spare
spare_after_put spare puts.Exists = spare
spare_after_put spare puts.Absent = spare
spare_after_put spare puts.Full = spare

abbrev pub spare_after_bucket_part : Option ℕ → BucketPart → Option ℕ
spare_after_bucket_part spare (Lookup side key got) = spare
spare_after_bucket_part spare (Update side flags key value offer put) = spare_after_put spare put
spare_after_bucket_part spare (Delete key _) = spare
spare_after_bucket_part spare (Take key _) = spare
spare_after_bucket_part spare (Next key found) = spare
spare_after_bucket_part spare (First key) = spare
spare_after_bucket_part spare (Walk remove room result) = spare
spare_after_bucket_part spare (Evict e probed) = spare

abbrev pub spare_after_part : Option ℕ → Part → Option ℕ
spare_after_part spare (parts.Bucket part) = spare_after_bucket_part spare part
spare_after_part spare (parts.Free part) = spare
spare_after_part spare (parts.Local part) = spare
spare_after_part spare (parts.Global part) = spare
spare_after_part spare (parts.Own part) = spare

abbrev pub spare_after : Option ℕ → List Turn → Option ℕ
spare_after spare [] = spare
spare_after spare (turn ∷ turns) = spare_after (spare_after_part spare turn.part) turns
