-- What holds of every run in serial order, and what holds besides where the map doesn't evict.
use Rattle.std.specs.Prelude.{◌≡◌, ◌≢◌, ◌↔◌, ℕ, ◌+◌, ◌<◌, All, List, [], length, take, Some, None, option_map, slice_get, IsFalse, IsTrue, ⊤}
use Rattle.map_types.specs.Kind.{is_lru}
use Rattle.map_types.specs.declared.attr.Shape.{Shape}
use Rattle.map_types.specs.declared.call.Call.{Call}
use Rattle.map_types.specs.declared.call.Verb.{Verb}
use Rattle.map_types.specs.declared.call.Verb.TheVariants.{Lookup, Update, Delete, Take, Next, BatchRead, BatchUpdate, BatchDelete, Each}
use Rattle.map_types.specs.declared.refusal.Errno.{Errno}
use Rattle.map_types.specs.declared.refusal.Errno.TheVariants.{E2big}
use Rattle.map_types.specs.declared.reply.Reply.{Reply}
use Rattle.map_types.specs.declared.reply.Reply.TheVariants.{Refused}
use Rattle.map_types.specs.Stored.{Stored}
use Rattle.map_types.specs.Replies.{error_of}
use Rattle.map_script.specs.declared.script.Script.{Script}
use Rattle.place_words.specs.Interleaving.{CoreRun}
use Rattle.place_words.specs.declared.finals.Finals.{Finals}
use Rattle.place_words.specs.Bodies.{present}
use Rattle.place_words.specs.SerialOrder.{AlwaysGets, AlwaysRemoves}
use Rattle.map_report.specs.EachOnce.{in_buckets}
use Rattle.serial_laws.specs.WalkLaws.{buckets_before, WalkLaws}
use Rattle.serial_laws.specs.Entries.{Entry, entry_of, answers_from, entries_after, TellsThere}
use Rattle.map_report.specs.Record.{IsRecord, StartsRise}
use Rattle.map_report.specs.ListRuns.{serial_on_lists}
use Rattle.map_report.specs.Runs.{serial}
use Rattle.map_report.specs.Serial.{opening, bucket_at, in_bucket_at, lists_after}
use Rattle.map_report.specs.Soundness.{IsSound}

-- the lists of the map before the call of an index in the run on plain lists, and its entries as its user sees them
abbrev pub lists_before : Script → ℕ → Finals
lists_before script n = lists_after script.shape (opening script.shape) (take n script.calls)

abbrev pub entries_before : Script → ℕ → List Entry
entries_before script n = entries_after script.shape [] (take n script.calls) (serial script).replies

-- Entries are what lists hold: each key has the values that stand in its bucket, and there are as many keys.
pub record Sees (shape : Shape) (lists : Finals) (entries : List Entry) : Type 0 where
  pub each_key : (key : List ℕ) → option_map (λ (entry : Entry). entry.values) (entry_of key entries)
      ≡ option_map (λ (stored : Stored). stored.values) (present key (bucket_at shape lists key))
  pub count : length entries ≡ length (in_buckets lists)

-- an update under BPF_ANY (0) or BPF_NOEXIST (1) of a key that isn't there, where `capacity` keys are present
abbrev pub FindsNoRoom : Shape → List Entry → Verb → Type 0
FindsNoRoom shape entries (Lookup side key) = ⊥
FindsNoRoom shape entries (Update side flags key value) =
    (flags < 2) × (entry_of key entries ≡ None) × (length entries ≡ shape.capacity)
FindsNoRoom shape entries (Delete key) = ⊥
FindsNoRoom shape entries (Take key) = ⊥
FindsNoRoom shape entries (Next key) = ⊥
FindsNoRoom shape entries (BatchRead remove count start flags) = ⊥
FindsNoRoom shape entries (BatchUpdate flags pairs) = ⊥
FindsNoRoom shape entries (BatchDelete flags keys) = ⊥
FindsNoRoom shape entries (Each flags stop) = ⊥

-- a call that only looks: a lookup, next key, a batch read that removes nothing, and a walk over all elements
abbrev pub OnlyLooks : Verb → Type 0
OnlyLooks (Lookup side key) = ⊤
OnlyLooks (Update side flags key value) = ⊥
OnlyLooks (Delete key) = ⊥
OnlyLooks (Take key) = ⊥
OnlyLooks (Next key) = ⊤
OnlyLooks (BatchRead remove count start flags) = IsFalse remove
OnlyLooks (BatchUpdate flags pairs) = ⊥
OnlyLooks (BatchDelete flags keys) = ⊥
OnlyLooks (Each flags stop) = ⊤

-- the call of an index is answered with E2BIG
abbrev pub IsTooBig : Script → ℕ → Type 0
IsTooBig script n = slice_get (serial script).replies n ≡ Some (Refused E2big)

-- The laws of maps that don't evict.
pub record PlainLaws (script : Script) : Type 0 where
  -- the record is that of the calls one after another on plain lists
  pub on_lists : serial script ≡ serial_on_lists script
  -- at each step of that run each element is in one place, and each key in its bucket
  pub sound : (n : ℕ) → IsSound script.shape (lists_before script n)
  -- what is kept of the map at the end is what the lists are after the last call
  pub finals : (serial script).finals ≡ lists_before script (length script.calls)
  -- what lies in the buckets by the logs, of which the laws of walks speak, is what lies there on the lists
  pub buckets : (n bucket : ℕ) → bucket < script.shape.buckets → buckets_before script n bucket ≡ in_bucket_at (lists_before script n) bucket
  -- a call that only looks leaves the lists as they were, and so does one that is refused
  pub looks_stay : (n : ℕ) (call : Call) → slice_get script.calls n ≡ Some call → OnlyLooks call.verb
      → lists_before script (n + 1) ≡ lists_before script n
  pub refusals_stay : (n : ℕ) (errno : Errno) → slice_get (serial script).replies n ≡ Some (Refused errno)
      → lists_before script (n + 1) ≡ lists_before script n
  -- The replies, one for each call, are those of a plain map from keys to values that has room for `capacity` keys, but for next
  -- key, batch reads and walks over all elements: in which order they go over the keys, and so which ones they tell where they don't
  -- tell all, such a map can't know, and this doesn't say. What a batch read took out are the keys that its reply tells.
  pub plain : (serial script).replies ≡ answers_from script.shape [] script.calls (serial script).replies
  -- What next key, batch reads and walks over all elements tell is there at that step. The first two are refused with ENOENT only
  -- where there may be nothing to tell; a walk over all elements tells no key twice, and all that are there or some of which the
  -- last is the one at which it stops.
  pub told : (n : ℕ) (call : Call) (reply : Reply) → slice_get script.calls n ≡ Some call → slice_get (serial script).replies n ≡ Some reply
      → TellsThere script.shape call.cpu (entries_before script n) call.verb reply
  -- at each step that map holds what the lists hold
  pub seen : (n : ℕ) → Sees script.shape (lists_before script n) (entries_before script n)
  -- E2BIG comes exactly where a key that isn't there finds no room
  pub too_big : (n : ℕ) (call : Call) → slice_get script.calls n ≡ Some call
      → IsTooBig script n ↔ FindsNoRoom script.shape (entries_before script n) call.verb

-- The laws of maps of any kind, and those of maps that don't evict.
pub record SerialLaws (script : Script) : Type 0 where
  -- what is kept is a record of the script
  pub is_record : IsRecord script (serial script)
  -- the tickets of its starts never fall, and none is above the number of turns
  pub starts_rise : StartsRise (serial script)
  -- each call has one reply
  pub one_each : length (serial script).replies ≡ length script.calls
  -- no reply is ENOMEM, and none is E2BIG where the map evicts
  pub always_gets : AlwaysGets script.shape script.calls
  pub never_full : IsTrue (is_lru script.shape.kind) → All (λ (reply : Reply). error_of reply ≢ Some E2big) (serial script).replies
  -- No probe finds its element in a CPU's hand. Of this run that is so by its definition; that each element that a probe takes out
  -- lies in its bucket then is part of `is_record`, whose histories replay by the kernel's rules.
  pub always_removes : AlwaysRemoves script.shape script.calls
  -- a call that only looks leaves in each bucket what lay there
  pub looks_leave : (n : ℕ) (call : Call) → slice_get script.calls n ≡ Some call → OnlyLooks call.verb
      → (bucket : ℕ) → buckets_before script (n + 1) bucket ≡ buckets_before script n bucket
  -- the turns of all locks, in the order of their tickets, are a run of the core: each turned into its steps, every one of which may be
  -- done in its place
  pub on_core : CoreRun script.shape (serial script).histories
  -- next key and batch lookups over the map as it is before any call, if nobody changes it meanwhile, give each key once, and each
  -- with its value
  pub walks : WalkLaws script
  pub plain : IsFalse (is_lru script.shape.kind) → PlainLaws script
