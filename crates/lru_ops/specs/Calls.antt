-- What an update of a map that evicts answers.
use Rattle.std.specs.Prelude.{◌≡◌, ℕ, ◌<◌, ◌≤◌, ◌==◌, Bool, ◌&&◌, IsFalse, List, ◌++◌, Result, Ok, Err}
use Rattle.map_types.specs.declared.call.Verb.TheVariants.{Update}
use Rattle.map_types.specs.declared.kind.MapKind.{MapKind}
use Rattle.map_types.specs.declared.kind.Side.{Side}
use Rattle.map_types.specs.declared.refusal.Errno.TheVariants as errnos
use Rattle.map_types.specs.declared.reply.Reply.TheVariants.{Done, Refused}
use Rattle.map_types.specs.Kind.{is_percpu}
use Rattle.key_hash.specs.Jhash.{hash}
use Rattle.place_table.specs.BucketPuts.{UpdateCall, verb_of}
use Rattle.place_table.specs.Calls.{Called, CalledWhole}
pub use Rattle.place_table.specs.KeyCalls.{CalledOn}
use Rattle.place_table.specs.Passes.{PassView, TableView}
use Rattle.lru_ops.specs.declared.map.LruRefusal.{LruRefusal}
use Rattle.lru_ops.specs.declared.map.LruRefusal.TheVariants as refusals
use Rattle.lru_ops.specs.Evictions.{SawHolders}
use Rattle.lru_ops.specs.Lists.{FoundNone}

-- whether an update takes no element and only writes in place: under BPF_EXIST (2), where there is a value for each CPU
abbrev pub only_writes : MapKind → ℕ → Bool
only_writes kind flags = is_percpu kind && (flags == 2)

-- An update found no element to take. Its turns show why, and each holder that a probe tells was read meanwhile in the owner word of
-- the element.
pub record FoundNoElement (t : TableView) (side : Side) (flags : ℕ) (key value : List ℕ) (before after : PassView) : Type 0 where
  pub called : Called t before after (Update side flags key value) (Refused errnos.Enomem)
  pub none : FoundNone t.shape before.cpu (hash key t.shape.seed) called.told
  pub saw : SawHolders t.shape before after (called.steps ++ called.told)

-- Under which flags an update of a map of this kind is refused so: EINVAL for flags that aren't known, EEXIST only under BPF_NOEXIST
-- (1), ENOENT only under BPF_EXIST (2), and ENOMEM under those flags that are known under which an element is taken.
abbrev pub MayRefuse : MapKind → ℕ → LruRefusal → Type 0
MayRefuse kind flags refusals.Einval = 2 < flags
MayRefuse kind flags refusals.Enoent = flags ≡ 2
MayRefuse kind flags refusals.Eexist = flags ≡ 1
MayRefuse kind flags refusals.Enomem = (flags ≤ 2) × IsFalse (only_writes kind flags)

-- What an update answers. Unknown flags are refused before anything is looked at.
abbrev pub Updates : TableView → PassView → PassView → UpdateCall → Result (Unit {0}) LruRefusal → Type 0
Updates t before after update (Ok done) = Called t before after (verb_of update) Done
Updates t before after update (Err refusals.Einval) = (after ≡ before) × CalledWhole t before after (verb_of update) (Refused errnos.Einval)
Updates t before after update (Err refusals.Enoent) = Called t before after (verb_of update) (Refused errnos.Enoent)
Updates t before after update (Err refusals.Eexist) = Called t before after (verb_of update) (Refused errnos.Eexist)
Updates t before after update (Err refusals.Enomem) = FoundNoElement t update.side update.flags update.key update.value before after
