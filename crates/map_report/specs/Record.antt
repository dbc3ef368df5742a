-- What a record of a run is, of maps of any kind: what happened under each lock replays by the kernel's rules, phase after phase,
-- and each CPU's calls stand in these histories once, in its order, with the replies.
use Rattle.std.specs.Prelude.{◌≡◌, ◌≢◌, ℕ, suc, ◌<◌, ◌≤◌, ◌==◌, ◌&&◌, Bool, IsTrue, IsFalse, IsPermutation, MatchBool, MatchOption, Option, None, Some, All, List, [], ◌∷◌, ◌++◌, length, map, filter, slice_get, slice_index_or, ⊤, if◌then◌else◌}
use Rattle.std.specs.List.{list_any, flat_map, range_with_len}
use Rattle.map_types.specs.Kind.{is_lru}
use Rattle.map_types.specs.ValueLen.{value_len_of}
use Rattle.map_types.specs.declared.attr.Shape.{Shape}
use Rattle.map_types.specs.declared.call.Call.{Call}
use Rattle.map_types.specs.declared.call.Verb.{Verb}
use Rattle.map_types.specs.declared.call.Verb.TheVariants.{Lookup, Update, Delete, Take, Next, BatchRead, BatchUpdate, BatchDelete, Each}
use Rattle.map_types.specs.declared.kind.Side.TheVariants.{Sys}
use Rattle.map_types.specs.declared.refusal.Errno.{Errno}
use Rattle.map_types.specs.declared.refusal.Errno.TheVariants.{Enoent, E2big, Enomem, Eexist, Einval, Enospc}
use Rattle.map_types.specs.declared.reply.Reply.{Reply}
use Rattle.map_types.specs.declared.reply.Reply.TheVariants.{Done, Value, Refused, Batch, Count}
use Rattle.map_types.specs.declared.kind.DomainId.{DomainId}
use Rattle.map_types.specs.declared.kind.DomainId.TheVariants.{Local, Global, CpuLru, Bucket, Freelist}
use Rattle.map_script.specs.declared.script.Script.{Script}
use Rattle.map_script.specs.WellFormed.{AreCuts}
use Rattle.place_words.specs.declared.finals.Finals.{Finals}
use Rattle.place_words.specs.declared.finals.LocalFinal.{LocalFinal}
use Rattle.place_words.specs.declared.finals.SetFinal.{SetFinal}
use Rattle.place_words.specs.declared.history.Entry.{Entry}
use Rattle.place_words.specs.declared.history.LockHistory.{LockHistory}
use Rattle.place_words.specs.declared.history.Strand.{Strand}
use Rattle.place_words.specs.declared.history.StrandStep.{StrandStep}
use Rattle.map_types.specs.ElementLists.{put}
use Rattle.place_words.specs.Histories.{Content, in_bucket, on_freelist, locals_in, global_in, own_in, content, IsLegal}
use Rattle.place_words.specs.Locks.{is_lock, lock_named, lock_count}
use Rattle.place_words.specs.Strands.{places_on}
use Rattle.place_words.specs.Logs.{final_set, final_local}
use Rattle.place_words.specs.Named.{NameAll}
pub use Rattle.place_words.specs.Named.{entries_of}
use Rattle.place_words.specs.Traces.{IsTrace}
use Rattle.place_words.specs.Phases.{phase_of, phase_count, calls_before, of_phase}
use Rattle.place_words.specs.Tickets.{all_entries, AreTicketed}
use Rattle.place_words.specs.Turns.{TurnAt}
use Rattle.place_words.specs.Walks.{spare_left}
use Rattle.map_report.specs.declared.record.PhaseStart.{PhaseStart}
use Rattle.map_report.specs.declared.record.RunRecord.{RunRecord}
use Rattle.map_report.specs.Serial.{opening}
use Rattle.map_report.specs.EachOnce.{EachOnce, in_buckets}
use Rattle.map_report.specs.Soundness.{HasLists}
use Rattle.map_report.specs.Turns.{spare_at}

-- Which error an update with these flags may answer: EINVAL for flags that aren't known, EEXIST only under BPF_NOEXIST (1),
-- ENOENT only under BPF_EXIST (2), E2BIG only where a key may be added and the map doesn't evict, and ENOMEM only on a map that
-- evicts, under known flags.
abbrev pub MayRefuseUpdate : Shape → ℕ → Errno → Type 0
MayRefuseUpdate shape flags Einval = 2 < flags
MayRefuseUpdate shape flags Eexist = flags ≡ 1
MayRefuseUpdate shape flags Enoent = flags ≡ 2
MayRefuseUpdate shape flags E2big = (flags < 2) × IsFalse (is_lru shape.kind)
MayRefuseUpdate shape flags Enomem = (flags ≤ 2) × IsTrue (is_lru shape.kind)
MayRefuseUpdate shape flags Enospc = ⊥

abbrev pub MayAnswerUpdate : Shape → ℕ → Reply → Type 0
MayAnswerUpdate shape flags Done = flags ≤ 2
MayAnswerUpdate shape flags (Value bytes) = ⊥
MayAnswerUpdate shape flags (Refused errno) = MayRefuseUpdate shape flags errno
MayAnswerUpdate shape flags (Batch stop taken next) = ⊥
MayAnswerUpdate shape flags (Count stop done) = ⊥

-- a call that gives so many bytes, or answers ENOENT
abbrev pub MayGive : ℕ → Reply → Type 0
MayGive size Done = ⊥
MayGive size (Value bytes) = length bytes ≡ size
MayGive size (Refused errno) = errno ≡ Enoent
MayGive size (Batch stop taken next) = ⊥
MayGive size (Count stop done) = ⊥

-- a delete, which gives nothing
abbrev pub MayDelete : Reply → Type 0
MayDelete Done = ⊤
MayDelete (Value bytes) = ⊥
MayDelete (Refused errno) = errno ≡ Enoent
MayDelete (Batch stop taken next) = ⊥
MayDelete (Count stop done) = ⊥

-- A batch read: flags that aren't 0 are EINVAL, and only a count of 0 is answered with nothing at all. It takes so many pairs at
-- most, and the next one starts at a bucket or past the last.
abbrev pub MayRefuseRead : ℕ → Errno → Type 0
MayRefuseRead flags Einval = flags ≢ 0
MayRefuseRead flags Eexist = ⊥
MayRefuseRead flags Enoent = flags ≡ 0
MayRefuseRead flags E2big = ⊥
MayRefuseRead flags Enomem = ⊥
MayRefuseRead flags Enospc = ⊥

abbrev pub MayAnswerRead : Shape → ℕ → ℕ → Reply → Type 0
MayAnswerRead shape count flags Done = (flags ≡ 0) × (count ≡ 0)
MayAnswerRead shape count flags (Value bytes) = ⊥
MayAnswerRead shape count flags (Refused errno) = MayRefuseRead flags errno
MayAnswerRead shape count flags (Batch stop taken next) = (flags ≡ 0) × (length taken ≤ count) × (next ≤ shape.buckets)
MayAnswerRead shape count flags (Count stop done) = ⊥

-- a batch write of so many entries
abbrev pub MayAnswerWrite : ℕ → ℕ → Reply → Type 0
MayAnswerWrite entries flags Done = ⊥
MayAnswerWrite entries flags (Value bytes) = ⊥
MayAnswerWrite entries flags (Refused errno) = (errno ≡ Einval) × (flags ≢ 0)
MayAnswerWrite entries flags (Batch stop taken next) = ⊥
MayAnswerWrite entries flags (Count stop done) = (flags ≡ 0) × (done ≤ entries)

-- A walk over all elements of a map hands over as many as it has at most, and ends with no error at a bucket or behind the last one.
abbrev pub MayAnswerEach : Shape → ℕ → Reply → Type 0
MayAnswerEach shape flags Done = ⊥
MayAnswerEach shape flags (Value bytes) = ⊥
MayAnswerEach shape flags (Refused errno) = (errno ≡ Einval) × (flags ≢ 0)
MayAnswerEach shape flags (Batch stop taken next) = (flags ≡ 0) × (stop ≡ None) × (length taken ≤ shape.elements) × (next ≤ shape.buckets)
MayAnswerEach shape flags (Count stop done) = ⊥

-- Which reply a call may have by its kind alone; its turns say which one it has. A lookup answers a value of its side's size, a take one of the system side's, and next key a key.
abbrev pub MayAnswer : Shape → Verb → Reply → Type 0
MayAnswer shape (Lookup side key) reply = MayGive (value_len_of shape side) reply
MayAnswer shape (Update side flags key value) reply = MayAnswerUpdate shape flags reply
MayAnswer shape (Delete key) reply = MayDelete reply
MayAnswer shape (Take key) reply = MayGive (value_len_of shape Sys) reply
MayAnswer shape (Next key) reply = MayGive shape.key_size reply
MayAnswer shape (BatchRead remove count start flags) reply = MayAnswerRead shape count flags reply
MayAnswer shape (BatchUpdate flags pairs) reply = MayAnswerWrite (length pairs) flags reply
MayAnswer shape (BatchDelete flags keys) reply = MayAnswerWrite (length keys) flags reply
MayAnswer shape (Each flags stop) reply = MayAnswerEach shape flags reply

-- one reply for each call, in order
abbrev pub EachAnswered : Shape → List Call → List Reply → Type 0
EachAnswered shape [] [] = ⊤
EachAnswered shape (call ∷ calls) (reply ∷ replies) = MayAnswer shape call.verb reply × EachAnswered shape calls replies
EachAnswered shape [] (reply ∷ replies) = ⊥
EachAnswered shape (call ∷ calls) [] = ⊥

-- whether a CPU is one of these
abbrev pub has_cpu : ℕ → List ℕ → Bool
has_cpu cpu cpus = list_any (λ c. c == cpu) cpus

-- the locks of a map, in the order of their numbers
abbrev pub locks_of : Shape → List DomainId
locks_of shape = map (lock_named shape) (filter (λ k. is_lock shape (lock_named shape k)) (range_with_len 0 (lock_count shape)))

-- the places in a history of the entries that these CPUs have there for calls of a phase
abbrev pub places_in : List ℕ → ℕ → List ℕ → ℕ → List Entry → List ℕ
places_in cuts phase cpus place [] = []
places_in cuts phase cpus place (entry ∷ entries) =
    if (phase_of cuts entry.call == phase) && has_cpu entry.cpu cpus then place ∷ places_in cuts phase cpus (suc place) entries
    else places_in cuts phase cpus (suc place) entries

-- an entry has a ticket from the start of its call's phase on, and before the start of the next one
pub record IsInItsPhase (cuts : List ℕ) (phases : List PhaseStart) (entry : Entry) : Type 0 where
  pub start : PhaseStart
  pub start_is : slice_get phases (phase_of cuts entry.call) ≡ Some start
  pub from : start.ticket ≤ entry.ticket
  pub to : MatchOption (slice_get phases (suc (phase_of cuts entry.call))) ⊤ (λ (next : PhaseStart). entry.ticket < next.ticket)

-- One call of a strand: its turns, each with what came before it on its lock, are a trace of the call with the reply, by the
-- spare that its CPU has.
pub record IsCallOf (shape : Shape) (histories : List LockHistory) (number : ℕ) (call : Call) (reply : Reply) (spare : Option ℕ) (steps : List StrandStep) (turns : List TurnAt) : Type 0 where
  pub names : NameAll histories call.cpu number steps turns
  pub trace : IsTrace shape call.cpu spare call.verb turns reply

-- A strand of some CPUs is a concatenation of traces of these CPUs' calls, in their order, with the replies. From the spares
-- `spares` on, the calls leave each of its CPUs the spare that `last` has. Calls have numbers from the first one's on.
abbrev pub IsConcatenation : Shape → List LockHistory → List ℕ → ℕ → List Call → List Reply → (ℕ → Option ℕ) → (ℕ → Option ℕ) → List StrandStep → Type 0
IsConcatenation shape histories cpus number [] replies spares last steps =
    (steps ≡ []) × ((cpu : ℕ) → IsTrue (has_cpu cpu cpus) → last cpu ≡ spares cpu)
IsConcatenation shape histories cpus number (call ∷ calls) [] spares last steps = ⊥
IsConcatenation shape histories cpus number (call ∷ calls) (reply ∷ replies) spares last steps =
    MatchBool (has_cpu call.cpu cpus)
    ((mine : List StrandStep) × (rest : List StrandStep) × (turns : List TurnAt) × (steps ≡ mine ++ rest)
    × IsCallOf shape histories number call reply (spares call.cpu) mine turns
    × IsConcatenation shape histories cpus (suc number) calls replies (put spares call.cpu (spare_left shape (spares call.cpu) turns)) last rest)
    (IsConcatenation shape histories cpus (suc number) calls replies spares last steps)

-- each number is less than the next
abbrev pub Ascend : List ℕ → Type 0
Ascend [] = ⊤
Ascend (x ∷ xs) = All (λ (y : ℕ). x < y) xs × Ascend xs

-- Each element of a map that doesn't evict is in one place, in a bucket, on a freelist or a spare, and stands there once. What
-- is marked are elements of the map, each once and in order; which ones isn't said.
pub record HasElements (shape : Shape) (lists : Finals) : Type 0 where
  pub lengths : HasLists shape lists
  pub each_once : EachOnce shape.elements lists
  pub no_sets : lists.sets ≡ []
  pub no_locals : lists.locals ≡ []
  pub marked : All (λ (element : ℕ). element < shape.elements) lists.marked
  pub in_order : Ascend lists.marked

-- the free elements of a map that evicts, and all that are on its lists
abbrev pub free_elements : Finals → List ℕ
free_elements lists = flat_map (λ (set : SetFinal). set.free) lists.sets ++ flat_map (λ (local : LocalFinal). local.free) lists.locals

abbrev pub on_lists : Finals → List ℕ
on_lists lists =
    flat_map (λ (set : SetFinal). set.free ++ (set.active ++ set.inactive)) lists.sets ++ flat_map (λ (local : LocalFinal). local.free ++ local.pending) lists.locals

-- Each element of a map that evicts is in a bucket or free, and stands there once. And it is on one list: a free list, pending,
-- active or inactive.
pub record HasListedElements (shape : Shape) (lists : Finals) : Type 0 where
  pub buckets : length lists.buckets ≡ shape.buckets
  pub no_freelists : lists.freelists ≡ []
  pub no_spares : lists.spares ≡ []
  pub sets : length lists.sets ≡ (if shape.common then 1 else shape.cpus)
  pub locals : length lists.locals ≡ (if shape.common then shape.cpus else 0)
  pub each_once : IsPermutation (range_with_len 0 shape.elements) (in_buckets lists ++ free_elements lists)
  pub each_listed : IsPermutation (range_with_len 0 shape.elements) (on_lists lists)
  pub marked : All (λ (element : ℕ). element < shape.elements) lists.marked
  pub in_order : Ascend lists.marked

abbrev pub HoldsElements : Shape → Finals → Type 0
HoldsElements shape lists = MatchBool (is_lru shape.kind) (HasListedElements shape lists) (HasElements shape lists)

-- what a map holds under a lock is what lies there
abbrev pub Tells : Finals → DomainId → Content → Type 0
Tells lists (Local cpu) content = MatchOption (locals_in content) ⊥ (λ local. slice_get lists.locals cpu ≡ Some (final_local local))
Tells lists Global content = MatchOption (global_in content) ⊥ (λ set. slice_get lists.sets 0 ≡ Some (final_set set))
Tells lists (CpuLru cpu) content = MatchOption (own_in content) ⊥ (λ set. slice_get lists.sets cpu ≡ Some (final_set set))
Tells lists (Bucket bucket) content = in_bucket (slice_index_or lists.buckets bucket []) ≡ content
Tells lists (Freelist cpu) content = on_freelist (slice_index_or lists.freelists cpu []) ≡ content

-- The tickets of the starts of phases never fall, as cuts don't, and none is above the number of entries. No record need have that of a
-- phase without turns; runs promise it.
abbrev pub StartsRise : RunRecord → Type 0
StartsRise kept = AreCuts 0 (length (all_entries kept.histories)) (map (λ (start : PhaseStart). start.ticket) kept.phases)

-- A record of a run of the script, in whatever order the CPUs ran within each of its phases.
pub record IsRecord (script : Script) (kept : RunRecord) : Type 0 where
  -- each lock of the map has one history, in the order of their numbers, and each replays by the kernel's rules
  pub locks : map (λ (history : LockHistory). history.lock) kept.histories ≡ locks_of script.shape
  pub legal : All (λ (history : LockHistory). IsLegal script.shape history.lock history.entries) kept.histories
  pub on_cpus : All (λ (history : LockHistory). All (λ (entry : Entry). entry.cpu < script.shape.cpus) history.entries) kept.histories
  -- each phase has one start, and the first starts with nothing drawn and nothing marked; each entry is in the phase of its call
  pub one_each : length kept.phases ≡ phase_count script.cuts
  pub first : slice_get kept.phases 0 ≡ Some (record { ticket = 0; marked = [] })
  pub in_phases : All (λ (history : LockHistory). All (IsInItsPhase script.cuts kept.phases) history.entries) kept.histories
  -- in each phase each CPU is in one strand, which is of that phase
  pub strand_of : ℕ → ℕ → ℕ
  pub in_strand : (p cpu : ℕ) → p < phase_count script.cuts → cpu < script.shape.cpus → MatchOption (slice_get kept.strands (strand_of p cpu)) ⊥ (λ (strand : Strand). strand.phase ≡ p)
  pub cpus_are : (n : ℕ) (strand : Strand) → slice_get kept.strands n ≡ Some strand
      → (strand.phase < phase_count script.cuts) × (strand.cpus ≡ filter (λ cpu. strand_of strand.phase cpu == n) (range_with_len 0 script.shape.cpus))
  -- the steps of a strand on a lock are the entries that its CPUs have in that lock's history for calls of its phase, each once and in
  -- order
  pub steps : (n : ℕ) (strand : Strand) → slice_get kept.strands n ≡ Some strand → (lock : DomainId) → IsTrue (is_lock script.shape lock)
      → places_on lock strand.steps ≡ places_in script.cuts strand.phase strand.cpus 0 (entries_of kept.histories lock)
  -- A strand is the calls of its CPUs in its phase, in the script's order, each with its turns and its reply. From strand to strand a
  -- CPU has its spare on: of a phase and a CPU the one that it has at the phase's start.
  pub spares : ℕ → ℕ → Option ℕ
  pub first_spares : (cpu : ℕ) → spares 0 cpu ≡ spare_at (opening script.shape) cpu
  pub last_spares : (cpu : ℕ) → spares (phase_count script.cuts) cpu ≡ spare_at kept.finals cpu
  pub calls_are : (n : ℕ) (strand : Strand) → slice_get kept.strands n ≡ Some strand
      → IsConcatenation script.shape kept.histories strand.cpus (suc (calls_before script.cuts (length script.calls) strand.phase)) (of_phase script.cuts strand.phase script.calls) (of_phase script.cuts strand.phase kept.replies)
      (spares strand.phase) (spares (suc strand.phase)) strand.steps
  pub replies : EachAnswered script.shape script.calls kept.replies
  -- what the map holds at the end is what the histories lead to, and each element is in one place, once; what is marked at a phase's
  -- start are elements of the map
  pub contents : (lock : DomainId) → IsTrue (is_lock script.shape lock) → Tells kept.finals lock (content script.shape lock (entries_of kept.histories lock))
  pub finals : HoldsElements script.shape kept.finals
  pub marked : All (λ (start : PhaseStart). All (λ (element : ℕ). element < script.shape.elements) start.marked × Ascend start.marked) kept.phases
  -- by their tickets all entries stand in one order
  pub tickets : AreTicketed kept.histories kept.strands
