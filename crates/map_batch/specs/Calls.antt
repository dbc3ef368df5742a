-- Maps of any kind as their tables, and what an update of one answers.
use Rattle.std.specs.Prelude.{◌≡◌, ℕ, ◌<◌, ◌≤◌, IsTrue, IsFalse, MatchBool, Result, Ok, Err}
use Rattle.map_types.specs.declared.kind.MapKind.{MapKind}
use Rattle.map_types.specs.declared.refusal.Errno.{Errno}
use Rattle.map_types.specs.declared.refusal.Errno.TheVariants.{Enoent, E2big, Enomem, Eexist, Einval, Enospc}
use Rattle.map_types.specs.declared.reply.Reply.{Reply}
use Rattle.map_types.specs.declared.reply.Reply.TheVariants as replies
use Rattle.map_types.specs.Kind.{is_lru}
pub use Rattle.place_table.specs.BucketPuts.{UpdateCall, update_call, verb_of}
use Rattle.place_table.specs.Calls.{Called, CalledWhole}
use Rattle.place_table.specs.Passes.{PassView, TableView}
use Rattle.hash_ops.specs.declared.map.PlainRefusal.{PlainRefusal}
use Rattle.hash_ops.specs.declared.map.PlainRefusal.TheVariants as plain
use Rattle.hash_ops.specs.Calls as plain_calls
use Rattle.lru_ops.specs.declared.map.LruRefusal.{LruRefusal}
use Rattle.lru_ops.specs.declared.map.LruRefusal.TheVariants as lru
use Rattle.lru_ops.specs.Calls as lru_calls
use Rattle.lru_ops.specs.Calls.{only_writes}
use Rattle.map_batch.specs.declared.any_map.AnyMap.{AnyMap}
use Rattle.map_batch.specs.declared.any_map.AnyMap.TheVariants.{Plain, Lru}

-- the table of a map
abbrev pub table_of : AnyMap → TableView
table_of (Plain table) = table
table_of (Lru table) = table

-- a map of each sort has a kind of that sort
abbrev pub IsOfItsSort : AnyMap → Type 0
IsOfItsSort (Plain table) = IsFalse (is_lru table.shape.kind)
IsOfItsSort (Lru table) = IsTrue (is_lru table.shape.kind)

-- the answer of an update, as maps of each sort give it
abbrev pub answer_of_plain : Result (Unit {0}) PlainRefusal → Result (Unit {0}) Errno
answer_of_plain (Ok done) = Ok done
answer_of_plain (Err plain.Einval) = Err Einval
answer_of_plain (Err plain.Enoent) = Err Enoent
answer_of_plain (Err plain.Eexist) = Err Eexist
answer_of_plain (Err plain.E2big) = Err E2big

abbrev pub answer_of_lru : Result (Unit {0}) LruRefusal → Result (Unit {0}) Errno
answer_of_lru (Ok done) = Ok done
answer_of_lru (Err lru.Einval) = Err Einval
answer_of_lru (Err lru.Enoent) = Err Enoent
answer_of_lru (Err lru.Eexist) = Err Eexist
answer_of_lru (Err lru.Enomem) = Err Enomem

-- An update did what its turns tell, and answered so. On a map that doesn't evict no lock but the key's bucket was given back without a
-- part, and that one once at most.
abbrev pub Updated : TableView → PassView → PassView → UpdateCall → Reply → Type 0
Updated t before after update reply =
    MatchBool (is_lru t.shape.kind) (Called t before after (verb_of update) reply) (plain_calls.Updated t before after update reply)

-- Flags that aren't known were refused before anything was looked at.
abbrev pub RefusedFlags : TableView → PassView → PassView → UpdateCall → Type 0
RefusedFlags t before after update = (after ≡ before) × CalledWhole t before after (verb_of update) (replies.Refused Einval)

-- A map that doesn't evict was full. One that evicts never is.
abbrev pub FoundFull : TableView → PassView → PassView → UpdateCall → Type 0
FoundFull t before after update = MatchBool (is_lru t.shape.kind) ⊥ (plain_calls.Updated t before after update (replies.Refused E2big))

-- A map that evicts had no element to take, and its turns show why. On another map none is looked for.
abbrev pub FoundNoElement : TableView → PassView → PassView → UpdateCall → Type 0
FoundNoElement t before after update =
    MatchBool (is_lru t.shape.kind) (lru_calls.FoundNoElement t update.side update.flags update.key update.value before after) ⊥

-- Under which flags an update of a map of this kind is refused so: EINVAL for flags that aren't known, EEXIST only under BPF_NOEXIST
-- (1), ENOENT only under BPF_EXIST (2), E2BIG only where a key may be added and the map doesn't evict, and ENOMEM only on a map that
-- evicts, under any flags that are known under which an element is taken.
abbrev pub MayRefuse : MapKind → ℕ → Errno → Type 0
MayRefuse kind flags Einval = 2 < flags
MayRefuse kind flags Enoent = flags ≡ 2
MayRefuse kind flags Eexist = flags ≡ 1
MayRefuse kind flags E2big = (flags < 2) × IsFalse (is_lru kind)
MayRefuse kind flags Enomem = (flags ≤ 2) × IsTrue (is_lru kind) × IsFalse (only_writes kind flags)
MayRefuse kind flags Enospc = ⊥

-- What an update answers. No answer tells of want of memory.
abbrev pub Updates : TableView → PassView → PassView → UpdateCall → Result (Unit {0}) Errno → Type 0
Updates t before after update (Ok done) = Updated t before after update replies.Done
Updates t before after update (Err Einval) = RefusedFlags t before after update
Updates t before after update (Err Enoent) = Updated t before after update (replies.Refused Enoent)
Updates t before after update (Err Eexist) = Updated t before after update (replies.Refused Eexist)
Updates t before after update (Err E2big) = FoundFull t before after update
Updates t before after update (Err Enomem) = FoundNoElement t before after update
Updates t before after update (Err Enospc) = ⊥
