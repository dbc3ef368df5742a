-- No line of a report has a line feed, whatever the record.
use Rattle.std.proofs.Common.{◌≡◌, ℕ, zero, suc, ◌+◌, ◌≤◌, ◌%◌, ◌/◌, ◌==◌, not, nat_lt, cond, Bool, true, false, List, [], ◌∷◌, ◌++◌, length, map, Option, Some, None, refl, ap, ◌∙◌, arith}
use Rattle.std.specs.Prelude.{codes, decimal}
use Rattle.std.specs.Fmt.{digits, digits_onto, digit_glyph}
use Rattle.std.specs.Int.{w32, to_be_bytes}
use Rattle.std.specs.List.{flat_map, list_all, slice_index}
use Rattle.std.proofs.lemmas.Bool.{and_parts, and_from, cond_both, ne_eqb}
use Rattle.std.proofs.lemmas.List.Folds.{list_all-append}
use Rattle.hex.specs.Hex.{encode_lower, encode_with, lower_digits}
use Rattle.map_types.specs.declared.attr.Shape.{Shape}
use Rattle.map_types.specs.declared.kind.DomainId.{DomainId}
use Rattle.map_types.specs.declared.kind.DomainId.TheVariants.{Local, Global, CpuLru, Bucket, Freelist}
use Rattle.map_types.specs.declared.kind.MapKind.{MapKind}
use Rattle.map_types.specs.declared.kind.MapKind.TheVariants.{Hash, PercpuHash, LruHash, LruPercpuHash}
use Rattle.map_types.specs.declared.kind.Side.{Side}
use Rattle.map_types.specs.declared.kind.Side.TheVariants.{Prog, Sys}
use Rattle.map_types.specs.declared.refusal.Errno.{Errno}
use Rattle.map_types.specs.declared.refusal.Errno.TheVariants.{Enoent, E2big, Enomem, Eexist, Einval, Enospc}
use Rattle.map_types.specs.declared.reply.Reply.{Reply}
use Rattle.map_types.specs.declared.reply.Reply.TheVariants.{Done, Value, Refused, Batch, Count}
use Rattle.map_types.specs.Kind.{is_lru}
use Rattle.map_types.specs.Stored.{Stored}
use Rattle.map_script.specs.Canonical.{kind_name}
use Rattle.map_script.specs.declared.script.Script.{Script}
use Rattle.place_words.specs.declared.bucket_part.BucketPart.{BucketPart}
use Rattle.place_words.specs.declared.bucket_part.BucketPart.TheVariants.{Lookup, Update, Delete, Take, Next, First, Walk, Evict}
use Rattle.place_words.specs.declared.bucket_part.NextFound.{NextFound}
use Rattle.place_words.specs.declared.bucket_part.NextFound.TheVariants as next
use Rattle.place_words.specs.declared.bucket_part.Put.{Put}
use Rattle.place_words.specs.declared.bucket_part.Put.TheVariants.{Added, Replaced, Written, Exists, Absent, Full}
use Rattle.place_words.specs.declared.bucket_part.Seen.{Seen}
use Rattle.place_words.specs.declared.bucket_part.Seen.TheVariants.{Removed, Held}
use Rattle.place_words.specs.declared.bucket_part.Walked.{Walked}
use Rattle.place_words.specs.declared.bucket_part.Walked.TheVariants.{Over, Taken}
use Rattle.place_words.specs.declared.finals.Finals.{Finals}
use Rattle.place_words.specs.declared.finals.LocalFinal.{LocalFinal}
use Rattle.place_words.specs.declared.finals.SetFinal.{SetFinal}
use Rattle.place_words.specs.declared.free_part.FreePart.{FreePart}
use Rattle.place_words.specs.declared.free_part.FreePart.TheVariants.{Pushed, Popped, FoundEmpty}
use Rattle.place_words.specs.declared.history.Entry.{Entry}
use Rattle.place_words.specs.declared.history.LockHistory.{LockHistory}
use Rattle.place_words.specs.declared.history.Part.{Part}
use Rattle.place_words.specs.declared.history.Part.TheVariants as parts
use Rattle.place_words.specs.declared.history.Strand.{Strand}
use Rattle.place_words.specs.declared.history.StrandStep.{StrandStep}
use Rattle.place_words.specs.declared.list_part.GlobalPart.{GlobalPart}
use Rattle.place_words.specs.declared.list_part.GlobalPart.TheVariants as global
use Rattle.place_words.specs.declared.list_part.LocalPart.{LocalPart}
use Rattle.place_words.specs.declared.list_part.LocalPart.TheVariants as local
use Rattle.place_words.specs.declared.list_part.OwnPart.{OwnPart}
use Rattle.place_words.specs.declared.list_part.OwnPart.TheVariants as own
use Rattle.place_words.specs.declared.list_part.Stolen.{Stolen}
use Rattle.place_words.specs.declared.list_part.Stolen.TheVariants.{Free, Pending, Nothing}
use Rattle.place_words.specs.declared.visits.Flush.{Flush}
use Rattle.place_words.specs.declared.visits.Look.{Look}
use Rattle.place_words.specs.declared.visits.ShrinkNote.{ShrinkNote}
use Rattle.place_words.specs.declared.visits.Try.{Try}
use Rattle.place_words.specs.declared.visits.Visit.{Visit}
use Rattle.map_report.specs.declared.record.Options.{Options}
use Rattle.map_report.specs.declared.record.PhaseStart.{PhaseStart}
use Rattle.map_report.specs.declared.record.RunRecord.{RunRecord}
use Rattle.map_report.specs.BucketParts.{read_text, gone_text, put_text, next_text, first_text, taken_text, walked_text, walk_name, seen_text, asked_text, bucket_part_text, free_part_text}
use Rattle.map_report.specs.Dump.{stored_line, bucket_lines, list_line, freelist_lines, spare_line, cursor_line, set_lines, steal_line, local_lines, marked_line, plain_lines, common_lines, own_lines, evicting_lines, dump_lines}
use Rattle.map_report.specs.History.{part_text, entry_line, lock_line, lock_lines, step_line, joined, phase_line, phase_lines, phase_name, strand_line, strand_lines, history_lines}
use Rattle.map_report.specs.ListParts.{visit_text, flush_text, probe_text, probed_text, look_text, try_text, shrink_text, stolen_text, done_text, rotation_text, push_text, got_text, local_part_text, global_part_text, own_part_text}
use Rattle.map_report.specs.Text.{map_line, stop_name, pair_text, reply_text, reply_line, report_lines}
use Rattle.map_report.specs.Words.{errno_name, side_name, bit_text, number_text, bytes_text, option_text, lock_name, hash_digits, counted, numbered}
use Rattle.record_reading.specs.Readers.{AllFit}
use Rattle.record_reading.specs.TextLines.{IsPlain}

-- ---- texts one behind another

-- a text without a line feed
record Plain (text : List ℕ) : Type 0 where
  is : IsPlain text

infixl 65 ◌&◌
◌&◌ : {a b : List ℕ} → Plain a → Plain b → Plain (a ++ b)
◌&◌ {a = a} {b = b} one two = record { is = list_all-append (λ c. not (c == 10)) a b ∙ and_from (list_all (λ c. not (c == 10)) a) (list_all (λ c. not (c == 10)) b) one.is two.is }

-- a word, whose letters are compared by computation
word : (text : List ℕ) → list_all (λ c. not (c == 10)) text ≡ true → Plain text
word text is = record { is = is }

each : {A : Type 0} (text : A → List ℕ) → ((a : A) → Plain (text a)) → (items : List A) → Plain (flat_map text items)
each text plain [] = record { is = refl }
each text plain (a ∷ items) = plain a & each text plain items

-- ---- numbers and bytes

-- no digit is a line feed, which is 10
above_ten : (c : ℕ) → 11 ≤ c → not (c == 10) ≡ true
above_ten c high = ap not (ne_eqb c 10 (λ e. omega arith))

glyph_plain : (d : ℕ) → not (digit_glyph false d == 10) ≡ true
glyph_plain d = cond_both (nat_lt d 10) (48 + d) (87 + d) (λ c. not (c == 10) ≡ true) (λ less. above_ten (48 + d) (omega arith)) (λ not_less. above_ten (87 + d) (omega arith))

onto_plain : (k n : ℕ) (acc : List ℕ) → IsPlain acc → IsPlain (digits_onto k 10 false n acc)
onto_plain zero n acc plain = plain
onto_plain (suc k) n acc plain =
    let more : IsPlain (digit_glyph false (n % 10) ∷ acc) = and_from (not (digit_glyph false (n % 10) == 10)) (list_all (λ c. not (c == 10)) acc) (glyph_plain (n % 10)) plain in
    cond_both (n / 10 == 0) (digit_glyph false (n % 10) ∷ acc) (digits_onto k 10 false (n / 10) (digit_glyph false (n % 10) ∷ acc)) IsPlain (λ last. more) (λ not_last. onto_plain k (n / 10) (digit_glyph false (n % 10) ∷ acc) more)

digits_plain : (n : ℕ) → Plain (decimal n)
unfolding digits
digits_plain n = record { is = onto_plain 64 n [] refl }

number : (n : ℕ) → Plain (number_text n)
number n = word (codes " ") refl & digits_plain n

-- what isn't a digit's place in the table is 0
digit_plain : (d : ℕ) → not (slice_index lower_digits d == 10) ≡ true
digit_plain d = at_place lower_digits refl d
  where
    at_place : (digits : List ℕ) → IsPlain digits → (d : ℕ) → not (slice_index digits d == 10) ≡ true
    at_place [] plain d = refl
    at_place (c ∷ digits) plain zero = (and_parts (not (c == 10)) (list_all (λ c. not (c == 10)) digits) plain).0
    at_place (c ∷ digits) plain (suc d) = at_place digits (and_parts (not (c == 10)) (list_all (λ c. not (c == 10)) digits) plain).1 d

encoded_plain : (bytes : List ℕ) → IsPlain (encode_lower bytes)
unfolding encode_with
encoded_plain [] = refl
encoded_plain (b ∷ bytes) =
    and_from (not (slice_index lower_digits (b / 16) == 10)) _ (digit_plain (b / 16))
    (and_from (not (slice_index lower_digits (b % 16) == 10)) _ (digit_plain (b % 16)) (encoded_plain bytes))

hex : (bytes : List ℕ) → Plain (encode_lower bytes)
hex bytes = record { is = encoded_plain bytes }

bytes_behind : (bytes : List ℕ) → Plain (bytes_text bytes)
bytes_behind bytes = word (codes " ") refl & hex bytes

hash : (value : ℕ) → Plain (hash_digits value)
unfolding hash_digits
hash value = hex (to_be_bytes w32 value)

option : (found : Option ℕ) → Plain (option_text found)
option (Some n) = number n
option None = word (codes " -") refl

bit : (b : Bool) → Plain (bit_text b)
bit true = word (codes "1") refl
bit false = word (codes "0") refl

all : {A : Type 0} (text : A → List ℕ) → ((a : A) → Plain (text a)) → (items : List A) → Plain (counted text items)
unfolding counted
all text plain items = number (length items) & each text plain items

-- ---- names

errno : (refused : Errno) → Plain (errno_name refused)
errno Enoent = word (codes "enoent") refl
errno E2big = word (codes "e2big") refl
errno Enomem = word (codes "enomem") refl
errno Eexist = word (codes "eexist") refl
errno Einval = word (codes "einval") refl
errno Enospc = word (codes "enospc") refl

side_plain : (side : Side) → Plain (side_name side)
side_plain Prog = word (codes "prog") refl
side_plain Sys = word (codes "sys") refl

kind_plain : (kind : MapKind) → Plain (kind_name kind)
kind_plain Hash = word (codes "hash") refl
kind_plain PercpuHash = word (codes "percpu_hash") refl
kind_plain LruHash = word (codes "lru_hash") refl
kind_plain LruPercpuHash = word (codes "lru_percpu_hash") refl

name : (lock : DomainId) → Plain (lock_name lock)
name (Local cpu) = word (codes "local") refl & number cpu
name Global = word (codes "global") refl
name (CpuLru cpu) = word (codes "lru") refl & number cpu
name (Bucket bucket) = word (codes "bucket") refl & number bucket
name (Freelist cpu) = word (codes "freelist") refl & number cpu

-- ---- what a turn of a bucket's or a freelist's lock did

read_value : (behind : List ℕ) → Plain behind → (read : Option (ℕ × List ℕ)) → Plain (read_text behind read)
read_value behind plain None = word (codes " none") refl
read_value behind plain (Some read) = plain & number read.0 & bytes_behind read.1

gone : (element : Option ℕ) → Plain (gone_text element)
gone None = word (codes " none") refl
gone (Some element) = word (codes " gone") refl & number element

put : (found : Put) → Plain (put_text found)
put (Added element) = word (codes " added") refl & number element
put (Replaced new old) = word (codes " replaced") refl & number new & number old
put (Written element) = word (codes " written") refl & number element
put Exists = word (codes " exists") refl
put Absent = word (codes " absent") refl
put Full = word (codes " full") refl

next_key : (found : NextFound) → Plain (next_text found)
next_key next.Absent = word (codes " absent") refl
next_key next.Last = word (codes " last") refl
next_key (next.Key key) = word (codes " key") refl & bytes_behind key

first_key : (key : Option (List ℕ)) → Plain (first_text key)
first_key None = word (codes " none") refl
first_key (Some key) = word (codes " key") refl & bytes_behind key

taken : (stored : Stored) → Plain (taken_text stored)
taken stored = number stored.element & word (codes ":") refl & hex stored.key & word (codes "=") refl & each encode_lower hex stored.values

walked : (result : Walked) → Plain (walked_text result)
walked (Over count) = word (codes " over") refl & number count
walked (Taken elements) = word (codes " taken") refl & all taken_text taken elements

walk : (remove : Bool) → Plain (walk_name remove)
walk false = word (codes "walk keep") refl
walk true = word (codes "walk drop") refl

seen : (probed : Seen) → Plain (seen_text probed)
seen Removed = word (codes " removed") refl
seen (Held holder) = word (codes " held") refl & number holder

asked : (side : Side) (flags : ℕ) (key value : List ℕ) → Plain (asked_text side flags key value)
asked side flags key value = word (codes "update ") refl & side_plain side & number flags & bytes_behind key & bytes_behind value

bucket_part : (part : BucketPart) → Plain (bucket_part_text part)
bucket_part (Lookup side key got) = word (codes "lookup ") refl & side_plain side & bytes_behind key & read_value (codes " got") (word (codes " got") refl) got
bucket_part (Update side flags key value offer found) = asked side flags key value & word (codes " offer") refl & option offer & put found
bucket_part (Delete key element) = word (codes "delete") refl & bytes_behind key & gone element
bucket_part (Take key read) = word (codes "take") refl & bytes_behind key & read_value (codes " gone") (word (codes " gone") refl) read
bucket_part (Next key found) = word (codes "next") refl & bytes_behind key & next_key found
bucket_part (First key) = word (codes "first") refl & first_key key
bucket_part (Walk remove room result) = walk remove & number room & walked result
bucket_part (Evict element probed) = word (codes "evict") refl & number element & seen probed

free_part : (part : FreePart) → Plain (free_part_text part)
free_part (Pushed element) = word (codes "push") refl & number element
free_part (Popped element) = word (codes "pop") refl & number element
free_part FoundEmpty = word (codes "empty") refl

-- ---- what a turn of the lock of LRU lists did

visit : (visited : Visit) → Plain (visit_text visited)
visit visited = number visited.element & word (codes ":") refl & bit visited.bit

flush : (flushed : Flush) → Plain (flush_text flushed)
flush flushed = number flushed.element & word (codes ":") refl & hash flushed.hash & word (codes ":") refl & bit flushed.bit

probe : (probed : Seen) → Plain (probe_text probed)
probe Removed = word (codes ":r") refl
probe (Held holder) = word (codes ":h") refl & digits_plain holder

probed_plain : (probed : Option Seen) → Plain (probed_text probed)
probed_plain None = word (codes "") refl
probed_plain (Some probed) = probe probed

look : (looked : Look) → Plain (look_text looked)
look looked = number looked.element & word (codes ":") refl & bit looked.bit & probed_plain looked.probed

attempt : (tried : Try) → Plain (try_text tried)
attempt tried = number tried.element & probe tried.probed

shrink : (note : Option ShrinkNote) → Plain (shrink_text note)
shrink None = word (codes " shrink no") refl
shrink (Some note) = word (codes " shrink") refl & number note.target & all look_text look note.looks & word (codes " forced") refl & all try_text attempt note.forced

stolen : (got : Stolen) → Plain (stolen_text got)
stolen (Free element) = word (codes " free") refl & number element
stolen (Pending element) = word (codes " pending") refl & number element
stolen Nothing = word (codes " none") refl

done_plain : (done : Bool) → Plain (done_text done)
done_plain true = word (codes " done") refl
done_plain false = word (codes " moved") refl

rotation : (active inactive : List Visit) → Plain (rotation_text active inactive)
unfolding rotation_text
rotation active inactive = word (codes " active") refl & all visit_text visit active & word (codes " inactive") refl & all visit_text visit inactive

push : (element : ℕ) → Plain (push_text element)
push element = word (codes "push") refl & number element

got_plain : (got : Option ℕ) → Plain (got_text got)
got_plain got = word (codes " got") refl & option got

local_part : (part : LocalPart) → Plain (local_part_text part)
local_part (local.Pop value element) = word (codes "pop ") refl & hash value & number element
local_part (local.Refill value flushed gained got) =
    word (codes "refill ") refl & hash value & (word (codes " flush") refl & all visit_text visit flushed)
    & (word (codes " gain") refl & all number_text number gained) & got_plain got
local_part (local.Steal got first second) =
    word (codes "steal") refl & stolen got & (word (codes " first") refl & all look_text look first) & (word (codes " second") refl & all try_text attempt second)
local_part (local.Add value element cursor) = word (codes "add ") refl & hash value & number element & word (codes " cursor") refl & number cursor
local_part (local.Push element done) = push element & done_plain done

global_part : (part : GlobalPart) → Plain (global_part_text part)
global_part (global.Turn flushed active inactive free note) =
    (word (codes "turn flush") refl & all flush_text flush flushed) & rotation active inactive
    & (word (codes " free") refl & all number_text number free) & shrink note
global_part (global.Push element) = push element

own_part : (part : OwnPart) → Plain (own_part_text part)
own_part (own.Turn value active inactive note got) = word (codes "turn ") refl & hash value & rotation active inactive & shrink note & got_plain got
own_part (own.Push element) = push element

part : (what : Part) → Plain (part_text what)
part (parts.Bucket what) = bucket_part what
part (parts.Free what) = free_part what
part (parts.Local what) = local_part what
part (parts.Global what) = global_part what
part (parts.Own what) = own_part what

-- ---- lines

pub entry_plain : (entry : Entry) → IsPlain (entry_line entry)
entry_plain entry = (digits_plain entry.ticket & number entry.cpu & number entry.call & word (codes " ") refl & part entry.part).is

pub lock_plain : (history : LockHistory) → IsPlain (lock_line history)
lock_plain history = (word (codes "lock ") refl & name history.lock & number (length history.entries)).is

pub step_plain : (step : StrandStep) → IsPlain (step_line step)
step_plain step = (word (codes "at ") refl & name step.lock & number step.index).is

joined_plain : (numbers : List ℕ) → Plain (joined numbers)
joined_plain [] = word [] refl
joined_plain (n ∷ others) = digits_plain n & each (λ other. codes "," ++ decimal other) (λ other. word (codes ",") refl & digits_plain other) others

phase_name_plain : (version phase : ℕ) → Plain (phase_name version phase)
phase_name_plain version phase = cond_both (version == 2) (decimal phase ++ codes " ") [] Plain (λ second. digits_plain phase & word (codes " ") refl) (λ first. word [] refl)

pub strand_plain : (version : ℕ) (strand : Strand) → IsPlain (strand_line version strand)
strand_plain version strand = (word (codes "strand ") refl & phase_name_plain version strand.phase & joined_plain strand.cpus & number (length strand.steps)).is

pub phase_plain : (phase : ℕ) (start : PhaseStart) → IsPlain (phase_line phase start)
phase_plain phase start = (word (codes "phase") refl & number phase & number start.ticket & word (codes " marked") refl & each number_text number start.marked).is

pair : (taken_pair : List ℕ × List ℕ) → Plain (pair_text taken_pair)
pair taken_pair = word (codes " ") refl & hex taken_pair.0 & word (codes "=") refl & hex taken_pair.1

stopped_plain : (stopped : Option Errno) → Plain (stop_name stopped)
stopped_plain None = word (codes "ok") refl
stopped_plain (Some refused) = errno refused

reply : (answer : Reply) → Plain (reply_text answer)
reply Done = word (codes "ok") refl
reply (Value bytes) = word (codes "ok ") refl & hex bytes
reply (Refused refused) = errno refused
reply (Batch stopped pairs after) =
    stopped_plain stopped & word (codes " taken ") refl & digits_plain (length pairs) & word (codes " next ") refl & digits_plain after & each pair_text pair pairs
reply (Count stopped count) = stopped_plain stopped & word (codes " done ") refl & digits_plain count

pub reply_plain : (call : ℕ) (answer : Reply) → IsPlain (reply_line call answer)
reply_plain call answer = (digits_plain call & word (codes " ") refl & reply answer).is

pub map_plain : (shape : Shape) → IsPlain (map_line shape)
map_plain shape =
    (word (codes "map ") refl & kind_plain shape.kind & (word (codes " capacity") refl & number shape.capacity)
    & (word (codes " elements") refl & number shape.elements) & (word (codes " buckets") refl & number shape.buckets)).is

-- ---- lists of lines

abbrev AllPlain : List (List ℕ) → Type 0
AllPlain lines = AllFit IsPlain lines

behind : (lines more : List (List ℕ)) → AllPlain lines → AllPlain more → AllPlain (lines ++ more)
behind [] more plain then = then
behind (line ∷ lines) more plain then = (plain.0, behind lines more plain.1 then)

of_each : {A : Type 0} (line : A → List ℕ) → ((a : A) → IsPlain (line a)) → (items : List A) → AllPlain (map line items)
of_each line plain [] = tt
of_each line plain (a ∷ items) = (plain a, of_each line plain items)

of_all : {A : Type 0} (lines : A → List (List ℕ)) → ((a : A) → AllPlain (lines a)) → (items : List A) → AllPlain (flat_map lines items)
of_all lines plain [] = tt
of_all lines plain (a ∷ items) = behind (lines a) (flat_map lines items) (plain a) (of_all lines plain items)

of_numbered : {A : Type 0} (lines : ℕ → A → List (List ℕ)) → ((n : ℕ) (a : A) → AllPlain (lines n a)) → (n : ℕ) (items : List A) → AllPlain (numbered lines n items)
of_numbered lines plain n [] = tt
of_numbered lines plain n (a ∷ items) = behind (lines n a) (numbered lines (n + 1) items) (plain n a) (of_numbered lines plain (n + 1) items)

one_or_other : (b : Bool) (lines others : List (List ℕ)) → AllPlain lines → AllPlain others → AllPlain (cond b lines others)
one_or_other true lines others one other = one
one_or_other false lines others one other = other

-- ---- what a map holds

stored_plain : (bucket : ℕ) (stored : Stored) → IsPlain (stored_line bucket stored)
stored_plain bucket stored = (name (Bucket bucket) & number stored.element & bytes_behind stored.key & each bytes_text bytes_behind stored.values).is

list_plain : (lock list : List ℕ) → Plain lock → Plain list → (elements : List ℕ) → IsPlain (list_line lock list elements)
list_plain lock list of_lock of_list elements = (of_lock & of_list & each number_text number elements).is

spare_plain : (cpu element : ℕ) → IsPlain (spare_line cpu element)
spare_plain cpu element = (word (codes "spare") refl & number cpu & number element).is

cursor_plain : (lock : List ℕ) → Plain lock → (cursor : Option ℕ) → IsPlain (cursor_line lock cursor)
cursor_plain lock of_lock cursor = (of_lock & word (codes " cursor") refl & option cursor).is

set_plain : (lock : List ℕ) → Plain lock → (set : SetFinal) → AllPlain (set_lines lock set)
unfolding set_lines
set_plain lock of_lock set = (
  list_plain lock (codes " active") of_lock (word (codes " active") refl) set.active,
  (
    list_plain lock (codes " inactive") of_lock (word (codes " inactive") refl) set.inactive,
    (list_plain lock (codes " free") of_lock (word (codes " free") refl) set.free, (cursor_plain lock of_lock set.cursor, tt)),
  ),
)

steal_plain : (lock : List ℕ) → Plain lock → (steal : ℕ) → IsPlain (steal_line lock steal)
steal_plain lock of_lock steal = (of_lock & word (codes " steal") refl & number steal).is

locals_plain : (cpu : ℕ) (lists : LocalFinal) → AllPlain (local_lines cpu lists)
locals_plain cpu lists = (
  list_plain (lock_name (Local cpu)) (codes " free") (name (Local cpu)) (word (codes " free") refl) lists.free,
  (
    list_plain (lock_name (Local cpu)) (codes " pending") (name (Local cpu)) (word (codes " pending") refl) lists.pending,
    (steal_plain (lock_name (Local cpu)) (name (Local cpu)) lists.steal, tt),
  ),
)

marked_plain : (elements : List ℕ) → IsPlain (marked_line elements)
marked_plain elements = (word (codes "marked") refl & each number_text number elements).is

plain_dump : (finals : Finals) → AllPlain (plain_lines finals)
plain_dump finals =
    behind (numbered freelist_lines 0 finals.freelists) (numbered (λ cpu element. spare_line cpu element ∷ []) 0 finals.spares)
    (of_numbered freelist_lines (λ cpu elements. (list_plain (lock_name (Freelist cpu)) [] (name (Freelist cpu)) (word [] refl) elements, tt)) 0 finals.freelists)
    (of_numbered (λ cpu element. spare_line cpu element ∷ []) (λ cpu element. (spare_plain cpu element, tt)) 0 finals.spares)

common_dump : (finals : Finals) → AllPlain (common_lines finals)
common_dump finals =
    behind (flat_map (set_lines (lock_name Global)) finals.sets) (numbered local_lines 0 finals.locals)
    (of_all (set_lines (lock_name Global)) (set_plain (lock_name Global) (name Global)) finals.sets) (of_numbered local_lines locals_plain 0 finals.locals)

own_dump : (finals : Finals) → AllPlain (own_lines finals)
own_dump finals = of_numbered (λ cpu set. set_lines (lock_name (CpuLru cpu)) set) (λ cpu set. set_plain (lock_name (CpuLru cpu)) (name (CpuLru cpu)) set) 0 finals.sets

evicting_dump : (common : Bool) (finals : Finals) → AllPlain (evicting_lines common finals)
evicting_dump common finals =
    behind (cond common (common_lines finals) (own_lines finals)) (marked_line finals.marked ∷ [])
    (one_or_other common (common_lines finals) (own_lines finals) (common_dump finals) (own_dump finals)) (marked_plain finals.marked, tt)

pub dump_plain : (shape : Shape) (finals : Finals) → AllFit IsPlain (dump_lines shape finals)
dump_plain shape finals =
    behind (numbered bucket_lines 0 finals.buckets) (cond (is_lru shape.kind) (evicting_lines shape.common finals) (plain_lines finals))
    (of_numbered bucket_lines (λ bucket elements. of_each (stored_line bucket) (stored_plain bucket) elements) 0 finals.buckets)
    (one_or_other (is_lru shape.kind) (evicting_lines shape.common finals) (plain_lines finals) (evicting_dump shape.common finals) (plain_dump finals))

-- ---- what happened

histories_plain : (history : LockHistory) → AllPlain (lock_lines history)
histories_plain history =
    one_or_other (length history.entries == 0) [] (lock_line history ∷ map entry_line history.entries) tt (lock_plain history, of_each entry_line entry_plain history.entries)

phases_plain : (version : ℕ) (starts : List PhaseStart) → AllPlain (phase_lines version starts)
phases_plain version starts =
    one_or_other (version == 2) (numbered (λ phase start. phase_line phase start ∷ []) 0 starts) []
    (of_numbered (λ phase start. phase_line phase start ∷ []) (λ phase start. (phase_plain phase start, tt)) 0 starts) tt

strands_plain : (version : ℕ) (strand : Strand) → AllPlain (strand_lines version strand)
strands_plain version strand = (strand_plain version strand, of_each step_line step_plain strand.steps)

pub history_plain : (version : ℕ) (kept : RunRecord) → AllFit IsPlain (history_lines version kept)
history_plain version kept =
    let strands = of_all (strand_lines version) (strands_plain version) kept.strands in
    let phases = behind (flat_map lock_lines kept.histories) (phase_lines version kept.phases) (of_all lock_lines histories_plain kept.histories) (phases_plain version kept.phases) in
    ((word (codes "record") refl & number (suc version)).is, behind (flat_map lock_lines kept.histories ++ phase_lines version kept.phases) (flat_map (strand_lines version) kept.strands) phases strands)

-- ---- a report

pub report_plain : (script : Script) (kept : RunRecord) (options : Options) → AllFit IsPlain (report_lines script kept options)
report_plain script kept options =
    let replies = numbered (λ call answer. reply_line call answer ∷ []) 1 kept.replies in
    let happened = cond options.history (history_lines script.version kept) [] in
    let held = cond options.dump (dump_lines script.shape kept.finals) [] in
    let of_replies = of_numbered (λ call answer. reply_line call answer ∷ []) (λ call answer. (reply_plain call answer, tt)) 1 kept.replies in
    let of_happened = one_or_other options.history (history_lines script.version kept) [] (history_plain script.version kept) tt in
    let of_held = one_or_other options.dump (dump_lines script.shape kept.finals) [] (dump_plain script.shape kept.finals) tt in
    (map_plain script.shape, behind ((replies ++ happened) ++ held) (codes "end" ∷ []) (behind (replies ++ happened) held (behind replies happened of_replies of_happened) of_held) (refl, tt))
