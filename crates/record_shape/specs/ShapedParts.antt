-- What the entries, replies and lists of a well-shaped record are like: each number is in range, and bytes are of the map's sizes.
use Rattle.map_report.specs.declared.record.PhaseStart.{PhaseStart}
use Rattle.map_types.specs.Sides.{part_count}
use Rattle.map_types.specs.Stored.{Stored}
use Rattle.map_types.specs.ValueLen.{value_len_of}
use Rattle.map_types.specs.declared.attr.Shape.{Shape}
use Rattle.map_types.specs.declared.call.Call.{Call}
use Rattle.map_types.specs.declared.call.Verb.{Verb}
use Rattle.map_types.specs.declared.kind.DomainId.{DomainId}
use Rattle.map_types.specs.declared.kind.DomainId.TheVariants.{Bucket, CpuLru, Freelist, Global, Local}
use Rattle.map_types.specs.declared.kind.Side.{Side}
use Rattle.map_types.specs.declared.kind.Side.TheVariants.{Prog, Sys}
use Rattle.map_types.specs.declared.reply.Reply.{Reply}
use Rattle.map_types.specs.declared.reply.Reply.TheVariants.{Batch, Count, Done, Refused, Value}
use Rattle.place_words.specs.Locks.{is_lock}
use Rattle.place_words.specs.declared.bucket_part.BucketPart.{BucketPart}
use Rattle.place_words.specs.declared.bucket_part.BucketPart.TheVariants.{Delete, Evict, First, Lookup, Next, Take, Update, Walk}
use Rattle.place_words.specs.declared.bucket_part.NextFound.{NextFound}
use Rattle.place_words.specs.declared.bucket_part.Put.{Put}
use Rattle.place_words.specs.declared.bucket_part.Put.TheVariants.{Absent, Added, Exists, Full, Replaced, Written}
use Rattle.place_words.specs.declared.bucket_part.Seen.{Seen}
use Rattle.place_words.specs.declared.bucket_part.Seen.TheVariants.{Held, Removed}
use Rattle.place_words.specs.declared.bucket_part.Walked.{Walked}
use Rattle.place_words.specs.declared.bucket_part.Walked.TheVariants.{Over, Taken}
use Rattle.place_words.specs.declared.finals.LocalFinal.{LocalFinal}
use Rattle.place_words.specs.declared.finals.SetFinal.{SetFinal}
use Rattle.place_words.specs.declared.free_part.FreePart.{FreePart}
use Rattle.place_words.specs.declared.free_part.FreePart.TheVariants.{FoundEmpty, Popped, Pushed}
use Rattle.place_words.specs.declared.history.Entry.{Entry}
use Rattle.place_words.specs.declared.history.Part.{Part}
use Rattle.place_words.specs.declared.history.StrandStep.{StrandStep}
use Rattle.place_words.specs.declared.list_part.GlobalPart.{GlobalPart}
use Rattle.place_words.specs.declared.list_part.LocalPart.{LocalPart}
use Rattle.place_words.specs.declared.list_part.OwnPart.{OwnPart}
use Rattle.place_words.specs.declared.list_part.Stolen.{Stolen}
use Rattle.place_words.specs.declared.list_part.Stolen.TheVariants.{Free, Nothing, Pending}
use Rattle.place_words.specs.declared.visits.Flush.{Flush}
use Rattle.place_words.specs.declared.visits.Look.{Look}
use Rattle.place_words.specs.declared.visits.ShrinkNote.{ShrinkNote}
use Rattle.place_words.specs.declared.visits.Try.{Try}
use Rattle.place_words.specs.declared.visits.Visit.{Visit}
use Rattle.std.specs.Prelude.{List, None, Option, Some, [], length, true, ℕ, ◌<◌, ◌^◌, ◌∷◌, ◌≡◌, ◌≤◌}
use Rattle.map_types.specs.declared.call.Verb.TheVariants as verbs
use Rattle.place_words.specs.declared.bucket_part.NextFound.TheVariants as next
use Rattle.place_words.specs.declared.history.Part.TheVariants as parts
use Rattle.place_words.specs.declared.list_part.GlobalPart.TheVariants as global
use Rattle.place_words.specs.declared.list_part.LocalPart.TheVariants as local
use Rattle.place_words.specs.declared.list_part.OwnPart.TheVariants as own
use Rattle.hex.specs.Hex.{IsBytes}
use Rattle.record_shape.specs.Fits.{AllFit, ascends, is_padded}

-- ---- bytes and numbers

-- bytes of a size
pub record AreBytes (size : ℕ) (bytes : List ℕ) : Type 0 where
  pub sized : length bytes ≡ size
  pub small : IsBytes bytes

-- bytes of any size but 0
pub record AreSomeBytes (bytes : List ℕ) : Type 0 where
  pub some : 1 ≤ length bytes
  pub small : IsBytes bytes

-- numbers of 32 and of 64 bits
abbrev pub IsU32 : ℕ → Type 0
IsU32 n = n < 2 ^ 32

abbrev pub IsU64 : ℕ → Type 0
IsU64 n = n < 2 ^ 64

-- a number below this one, or none
abbrev pub OptionFits : ℕ → Option ℕ → Type 0
OptionFits below None = Unit {0}
OptionFits below (Some n) = n < below

-- a number of an element
abbrev pub IsElement : Shape → ℕ → Type 0
IsElement shape element = element < shape.elements

abbrev pub AreElements : Shape → List ℕ → Type 0
AreElements shape elements = AllFit (IsElement shape) elements

-- each fits, and how many there are, which is printed, is a number of 64 bits
abbrev pub CountedFit : {A : Type 0} → (A → Type 0) → List A → Type 0
CountedFit Fits items = IsU64 (length items) × AllFit Fits items

-- a value as a side reads it: what the system call reads has zeros behind the part of each CPU
abbrev pub IsValue : Shape → Side → List ℕ → Type 0
IsValue shape side value = AreBytes (value_len_of shape side) value × (is_padded shape side value ≡ true)

-- ---- parts of turns of buckets and freelists

abbrev pub ReadFits : Shape → Side → Option (ℕ × List ℕ) → Type 0
ReadFits shape side None = Unit {0}
ReadFits shape side (Some read) = IsElement shape read.0 × IsValue shape side read.1

abbrev pub PutFits : Shape → Put → Type 0
PutFits shape (Added element) = IsElement shape element
PutFits shape (Replaced new old) = IsElement shape new × IsElement shape old
PutFits shape (Written element) = IsElement shape element
PutFits shape Exists = Unit {0}
PutFits shape Absent = Unit {0}
PutFits shape Full = Unit {0}

abbrev pub NextFits : Shape → NextFound → Type 0
NextFits shape next.Absent = Unit {0}
NextFits shape next.Last = Unit {0}
NextFits shape (next.Key key) = AreBytes shape.key_size key

abbrev pub FirstFits : Shape → Option (List ℕ) → Type 0
FirstFits shape None = Unit {0}
FirstFits shape (Some key) = AreBytes shape.key_size key

-- an element of a walk has one value, as the system call reads it
pub record TakenFits (shape : Shape) (stored : Stored) : Type 0 where
  pub element : IsElement shape stored.element
  pub key : AreBytes shape.key_size stored.key
  pub value : List ℕ
  pub is : stored.values ≡ value ∷ []
  pub fits : IsValue shape Sys value

abbrev pub WalkedFits : Shape → Walked → Type 0
WalkedFits shape (Over count) = IsU32 count
WalkedFits shape (Taken elements) = CountedFit (TakenFits shape) elements

abbrev pub SeenFits : Shape → Seen → Type 0
SeenFits shape Removed = Unit {0}
SeenFits shape (Held holder) = holder < shape.cpus

-- the value that an update was given may have anything behind its parts
abbrev pub BucketFits : Shape → BucketPart → Type 0
BucketFits shape (Lookup side key got) = AreBytes shape.key_size key × ReadFits shape side got
BucketFits shape (Update side flags key value offer put) =
    IsU32 flags × AreBytes shape.key_size key × AreBytes (value_len_of shape side) value × OptionFits shape.elements offer × PutFits shape put
BucketFits shape (Delete key gone) = AreBytes shape.key_size key × OptionFits shape.elements gone
BucketFits shape (Take key gone) = AreBytes shape.key_size key × ReadFits shape Sys gone
BucketFits shape (Next key found) = AreBytes shape.key_size key × NextFits shape found
BucketFits shape (First key) = FirstFits shape key
BucketFits shape (Walk remove room result) = IsU32 room × WalkedFits shape result
BucketFits shape (Evict element probed) = IsElement shape element × SeenFits shape probed

abbrev pub FreeFits : Shape → FreePart → Type 0
FreeFits shape (Pushed element) = IsElement shape element
FreeFits shape (Popped element) = IsElement shape element
FreeFits shape FoundEmpty = Unit {0}

-- ---- parts of turns of lists

abbrev pub VisitFits : Shape → Visit → Type 0
VisitFits shape visit = IsElement shape visit.element

abbrev pub FlushFits : Shape → Flush → Type 0
FlushFits shape flush = IsElement shape flush.element × IsU32 flush.hash

abbrev pub ProbedFits : Shape → Option Seen → Type 0
ProbedFits shape None = Unit {0}
ProbedFits shape (Some seen) = SeenFits shape seen

abbrev pub LookFits : Shape → Look → Type 0
LookFits shape look = IsElement shape look.element × ProbedFits shape look.probed

abbrev pub TryFits : Shape → Try → Type 0
TryFits shape attempt = IsElement shape attempt.element × SeenFits shape attempt.probed

abbrev pub ShrinkFits : Shape → Option ShrinkNote → Type 0
ShrinkFits shape None = Unit {0}
ShrinkFits shape (Some note) = IsU32 note.target × CountedFit (LookFits shape) note.looks × CountedFit (TryFits shape) note.forced

abbrev pub StolenFits : Shape → Stolen → Type 0
StolenFits shape (Free element) = IsElement shape element
StolenFits shape (Pending element) = IsElement shape element
StolenFits shape Nothing = Unit {0}

abbrev pub LocalFits : Shape → LocalPart → Type 0
LocalFits shape (local.Pop hash element) = IsU32 hash × IsElement shape element
LocalFits shape (local.Refill hash flushed gained got) =
    IsU32 hash × CountedFit (VisitFits shape) flushed × CountedFit (IsElement shape) gained × OptionFits shape.elements got
LocalFits shape (local.Steal got first second) =
    StolenFits shape got × CountedFit (LookFits shape) first × CountedFit (TryFits shape) second
LocalFits shape (local.Add hash element cursor) = IsU32 hash × IsElement shape element × IsU32 cursor
LocalFits shape (local.Push element is_done) = IsElement shape element

abbrev pub GlobalFits : Shape → GlobalPart → Type 0
GlobalFits shape (global.Turn flushed active inactive free shrink) =
    CountedFit (FlushFits shape) flushed × CountedFit (VisitFits shape) active × CountedFit (VisitFits shape) inactive × CountedFit (IsElement shape) free × ShrinkFits shape shrink
GlobalFits shape (global.Push element) = IsElement shape element

abbrev pub OwnFits : Shape → OwnPart → Type 0
OwnFits shape (own.Turn hash active inactive shrink got) =
    IsU32 hash × CountedFit (VisitFits shape) active × CountedFit (VisitFits shape) inactive × ShrinkFits shape shrink × OptionFits shape.elements got
OwnFits shape (own.Push element) = IsElement shape element

-- ---- entries, steps, CPUs and the starts of phases

-- a lock that the map has
abbrev pub LockFits : Shape → DomainId → Type 0
LockFits shape lock = is_lock shape lock ≡ true

-- the part of an entry is of the lock's kind, and fits
abbrev pub PartFits : Shape → DomainId → Part → Type 0
PartFits shape (Bucket _) (parts.Bucket part) = BucketFits shape part
PartFits shape (Freelist _) (parts.Free part) = FreeFits shape part
PartFits shape (Local _) (parts.Local part) = LocalFits shape part
PartFits shape Global (parts.Global part) = GlobalFits shape part
PartFits shape (CpuLru _) (parts.Own part) = OwnFits shape part
PartFits shape lock part = ⊥

pub record EntryFits (shape : Shape) (calls : ℕ) (lock : DomainId) (entry : Entry) : Type 0 where
  pub ticket : IsU64 entry.ticket
  pub cpu : entry.cpu < shape.cpus
  -- calls have numbers from 1 on
  pub some_call : 1 ≤ entry.call
  pub of_script : entry.call ≤ calls
  pub part : PartFits shape lock entry.part

pub record StepFits (shape : Shape) (step : StrandStep) : Type 0 where
  pub lock : LockFits shape step.lock
  pub index : IsU64 step.index

-- the CPUs of a strand ascend; there may be none
pub record CpusFit (shape : Shape) (cpus : List ℕ) : Type 0 where
  pub below : AllFit (λ cpu. cpu < shape.cpus) cpus
  pub ascending : ascends cpus ≡ true

-- marked elements ascend
pub record MarksFit (shape : Shape) (elements : List ℕ) : Type 0 where
  pub below : AllFit (IsElement shape) elements
  pub ascending : ascends elements ≡ true

pub record StartFits (shape : Shape) (start : PhaseStart) : Type 0 where
  pub ticket : IsU64 start.ticket
  pub marked : MarksFit shape start.marked

-- ---- replies

-- ` KEY=VALUE`
abbrev pub PairFits : Shape → Side → List ℕ × List ℕ → Type 0
PairFits shape side pair = AreBytes shape.key_size pair.0 × IsValue shape side pair.1

-- any reply: a value is such an answer, and pairs have values of this side
abbrev pub ReplyFits : Shape → Side → (List ℕ → Type 0) → Reply → Type 0
ReplyFits shape side IsAnswer Done = Unit {0}
ReplyFits shape side IsAnswer (Value bytes) = IsAnswer bytes
ReplyFits shape side IsAnswer (Refused refused) = Unit {0}
ReplyFits shape side IsAnswer (Batch stopped taken next) = IsU32 next × CountedFit (PairFits shape side) taken
ReplyFits shape side IsAnswer (Count stopped count) = IsU32 count

-- A walk over all elements hands over what a program reads, a batch what the system call reads. Pairs that another call answers, which
-- no run gives it, are those of a batch.
abbrev pub pair_side : Verb → Side
pair_side (verbs.Each flags stop) = Prog
pair_side other = Sys

-- A lookup answers a value of its side, a take one of the system call's, and next key a key. A value that another call answers, which no run gives it,
-- has any size but 0.
abbrev pub IsAnswerOf : Shape → Verb → List ℕ → Type 0
IsAnswerOf shape (verbs.Lookup side key) answer = IsValue shape side answer
IsAnswerOf shape (verbs.Take key) answer = IsValue shape Sys answer
IsAnswerOf shape (verbs.Next key) answer = AreBytes shape.key_size answer
IsAnswerOf shape other answer = AreSomeBytes answer

-- one reply for each call, in order
abbrev pub RepliesFit : Shape → List Call → List Reply → Type 0
RepliesFit shape [] [] = Unit {0}
RepliesFit shape [] (reply ∷ replies) = ⊥
RepliesFit shape (call ∷ calls) [] = ⊥
RepliesFit shape (call ∷ calls) (reply ∷ replies) = ReplyFits shape (pair_side call.verb) (IsAnswerOf shape call.verb) reply × RepliesFit shape calls replies

-- ---- what a map holds

-- an element in a bucket has a value for each part
pub record StoredFits (shape : Shape) (stored : Stored) : Type 0 where
  pub element : IsElement shape stored.element
  pub key : AreBytes shape.key_size stored.key
  pub parts : length stored.values ≡ part_count shape
  pub values : AllFit (AreBytes shape.value_size) stored.values

pub record SetFits (shape : Shape) (set : SetFinal) : Type 0 where
  pub active : AreElements shape set.active
  pub inactive : AreElements shape set.inactive
  pub free : AreElements shape set.free
  pub cursor : OptionFits shape.elements set.cursor

pub record LocalListsFit (shape : Shape) (lists : LocalFinal) : Type 0 where
  pub free : AreElements shape lists.free
  pub pending : AreElements shape lists.pending
  pub steal : IsU32 lists.steal
