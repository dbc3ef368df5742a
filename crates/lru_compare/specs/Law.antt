-- Where strict recency surely answers as the kernel's policy: each CPU has lists of its own, there is one CPU, and the calls name
-- fewer different keys than the map may have, so that neither evicts.
use Rattle.std.specs.Prelude.{◌≡◌, ℕ, suc, ◌<◌, List, [], ◌∷◌, None, IsFalse, if◌then◌else◌, bytes_eq}
use Rattle.std.specs.List.{flat_map, list_any}
use Rattle.map_types.specs.declared.call.Call.{Call}
use Rattle.map_types.specs.declared.call.Verb.{Verb}
use Rattle.map_types.specs.declared.call.Verb.TheVariants.{Lookup, Update, Delete, Take, Next, BatchRead, BatchUpdate, BatchDelete, Each}
use Rattle.map_script.specs.declared.script.Script.{Script}
use Rattle.map_script.specs.WellFormed.{IsWellFormed}
use Rattle.map_report.specs.Runs.{serial}
use Rattle.lru_compare.specs.Run.{refused, strict}

-- the key that a lookup, an update, a delete or a take names
abbrev pub key_named : Verb → List (List ℕ)
key_named (Lookup side key) = key ∷ []
key_named (Update side flags key value) = key ∷ []
key_named (Delete key) = key ∷ []
key_named (Take key) = key ∷ []
key_named (Next key) = []
key_named (BatchRead remove count start flags) = []
key_named (BatchUpdate flags pairs) = []
key_named (BatchDelete flags keys) = []
key_named (Each flags stop) = []

abbrev pub keys_named : List Call → List (List ℕ)
keys_named calls = flat_map (λ (call : Call). key_named call.verb) calls

-- how many of them are different
abbrev pub different : List (List ℕ) → ℕ
different [] = 0
different (key ∷ keys) = if list_any (bytes_eq key) keys then different keys else suc (different keys)

pub record HasRoomForAll (script : Script) : Type 0 where
  pub own_lists : IsFalse script.shape.common
  pub one_cpu : script.shape.cpus ≡ 1
  pub fewer : different (keys_named script.calls) < script.shape.capacity

-- the replies are those of the run in serial order
abbrev pub AnswersAlike : Script → Type 0
AnswersAlike script = IsWellFormed script → refused script ≡ None → HasRoomForAll script → (strict script).replies ≡ (serial script).replies
