-- What calls on one key of a map that doesn't evict answer. What each call leaves of its pass is defined below it, for all kinds.
use Rattle.std.specs.Prelude.{◌≡◌, ℕ, ◌<◌, Result, Ok, Err}
use Rattle.map_types.specs.declared.refusal.Errno.TheVariants as errnos
use Rattle.map_types.specs.declared.reply.Reply.{Reply}
use Rattle.map_types.specs.declared.reply.Reply.TheVariants.{Done, Refused}
pub use Rattle.place_table.specs.BucketPuts.{UpdateCall, update_call, verb_of}
pub use Rattle.place_table.specs.Calls.{CanCall, element_of, spare_element, Leaves, CouldBe, IsTold, AreTold, Called, CalledWhole, reply_of_value, reply_of_done}
pub use Rattle.place_table.specs.KeyCalls.{CalledOn}
pub use Rattle.place_table.specs.Known.{turn_of, turn_at, IsBy}
use Rattle.place_table.specs.Passes.{PassView, TableView}
pub use Rattle.place_table.specs.BucketTurns.{LosesAtMost}
use Rattle.hash_ops.specs.declared.map.PlainRefusal.{PlainRefusal}
use Rattle.hash_ops.specs.declared.map.PlainRefusal.TheVariants as refusals

-- an update did so
abbrev pub Updated : TableView → PassView → PassView → UpdateCall → Reply → Type 0
Updated t before after update reply = CalledOn t before after (verb_of update) update.key reply

-- Under which flags an update is refused so: EINVAL for flags that aren't known, EEXIST only under BPF_NOEXIST (1), ENOENT only
-- under BPF_EXIST (2), and E2BIG only where a key may be added.
abbrev pub MayRefuse : ℕ → PlainRefusal → Type 0
MayRefuse flags refusals.Einval = 2 < flags
MayRefuse flags refusals.Enoent = flags ≡ 2
MayRefuse flags refusals.Eexist = flags ≡ 1
MayRefuse flags refusals.E2big = flags < 2

-- What an update answers. Unknown flags are refused before anything is looked at. No answer tells of want of memory.
abbrev pub Updates : TableView → PassView → PassView → UpdateCall → Result (Unit {0}) PlainRefusal → Type 0
Updates t before after update (Ok done) = Updated t before after update Done
Updates t before after update (Err refusals.Einval) = (after ≡ before) × CalledWhole t before after (verb_of update) (Refused errnos.Einval)
Updates t before after update (Err refusals.Enoent) = Updated t before after update (Refused errnos.Enoent)
Updates t before after update (Err refusals.Eexist) = Updated t before after update (Refused errnos.Eexist)
Updates t before after update (Err refusals.E2big) = Updated t before after update (Refused errnos.E2big)
