-- What a run with strict recency answers.
use Rattle.std.specs.Prelude.{◌≡◌, ◌+◌, not, Bool, Option, Some, option_map, position, Result, Ok, Err, if◌then◌else◌}
use Rattle.map_types.specs.declared.call.Call.{Call}
use Rattle.map_script.specs.declared.script.Script.{Script}
use Rattle.lru_compare.specs.declared.run.StrictOut.{StrictOut}
use Rattle.lru_compare.specs.declared.run.StrictRefusal.{StrictRefusal}
use Rattle.lru_compare.specs.declared.run.StrictRefusal.TheVariants.{Kind, Verb, NoMemory}
use Rattle.lru_compare.specs.Strict.{is_asked, is_lru_hash, holds_none, replies_from, held_after}

-- a call that is no lookup, update, delete or take
abbrev pub is_other : Call → Bool
is_other call = not (is_asked call.verb)

-- Why a script isn't run with strict recency, if it isn't: its map isn't of kind LRU_HASH, or else a call of it is no lookup, update,
-- delete or take. The first such call is told by its number, counted from 1.
abbrev pub refused : Script → Option StrictRefusal
refused script =
    if is_lru_hash script.shape.kind
    then option_map (λ place. Verb (place + 1)) (position is_other script.calls)
    else Some Kind

-- its run: the replies, and how many pairs were evicted
unfoldable pub strict : Script → StrictOut
strict script = record {
  replies = replies_from (holds_none script.shape.capacity) script.calls;
  evicted = (held_after (holds_none script.shape.capacity) script.calls).evicted;
}

-- what was answered is this run, unless memory wasn't found
abbrev pub IsStrictRun : Script → Result StrictOut StrictRefusal → Type 0
IsStrictRun script (Ok out) = out ≡ strict script
IsStrictRun script (Err refusal) = refusal ≡ NoMemory
