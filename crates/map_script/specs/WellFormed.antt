-- What holds of each script that is read: its calls are calls on its map, within the limits.
use Rattle.std.specs.Prelude.{◌≡◌, ◌≢◌, ◌⊎◌, ℕ, ◌<◌, ◌≤◌, List, [], ◌∷◌, length, drop, All, Some, None, IfSome, Ok}
use Rattle.hex.specs.Hex.{IsBytes}
use Rattle.map_types.specs.Creation.{creation, IsShape}
use Rattle.map_types.specs.Kind.{is_percpu}
use Rattle.map_types.specs.Pairs.{key_of, value_of, HaveSizes}
use Rattle.map_types.specs.ValueLen.{value_len_of}
use Rattle.map_types.specs.declared.attr.CreateAttr.{CreateAttr}
use Rattle.map_types.specs.declared.attr.Shape.{Shape}
use Rattle.map_types.specs.declared.call.Call.{Call}
use Rattle.map_types.specs.declared.call.Verb.{Verb}
use Rattle.map_types.specs.declared.call.Verb.TheVariants.{Lookup, Update, Delete, Take, Next, BatchRead, BatchUpdate, BatchDelete, Each}
use Rattle.map_types.specs.declared.kind.Side.TheVariants.{Sys}
use Rattle.map_script.specs.declared.script.Script.{Script}
use Rattle.map_script.specs.declared.script.Target.{Target}
use Rattle.map_script.specs.Grammar.{reply_room}

-- a key of the map's size
abbrev pub IsKey : Shape → List ℕ → Type 0
IsKey shape key = length key ≡ shape.key_size

-- the keys have the map's size, and the values that of the side that gives them
abbrev pub HasSizes : Shape → Verb → Type 0
HasSizes shape (Lookup side key) = IsKey shape key
HasSizes shape (Update side flags key value) = IsKey shape key × (length value ≡ value_len_of shape side)
HasSizes shape (Delete key) = IsKey shape key
HasSizes shape (Take key) = IsKey shape key
HasSizes shape (Next None) = Unit {0}
HasSizes shape (Next (Some key)) = IsKey shape key
HasSizes shape (BatchRead remove count start flags) = Unit {0}
HasSizes shape (BatchUpdate flags pairs) = HaveSizes shape.key_size (value_len_of shape Sys) pairs
HasSizes shape (BatchDelete flags keys) = All (IsKey shape) keys
HasSizes shape (Each flags None) = Unit {0}
HasSizes shape (Each flags (Some key)) = IsKey shape key

-- a key and its value are bytes
abbrev pub IsPairOfBytes : List ℕ × List ℕ → Type 0
IsPairOfBytes pair = IsBytes (key_of pair) × IsBytes (value_of pair)

-- the keys and values that a call gives are bytes
abbrev pub GivesBytes : Verb → Type 0
GivesBytes (Lookup side key) = IsBytes key
GivesBytes (Update side flags key value) = IsBytes key × IsBytes value
GivesBytes (Delete key) = IsBytes key
GivesBytes (Take key) = IsBytes key
GivesBytes (Next None) = Unit {0}
GivesBytes (Next (Some key)) = IsBytes key
GivesBytes (BatchRead remove count start flags) = Unit {0}
GivesBytes (BatchUpdate flags pairs) = All IsPairOfBytes pairs
GivesBytes (BatchDelete flags keys) = All IsBytes keys
GivesBytes (Each flags None) = Unit {0}
GivesBytes (Each flags (Some key)) = IsBytes key

-- a call on a map: on one of its CPUs, with keys and values of its sizes, which are bytes
pub record IsCallOn (shape : Shape) (call : Call) : Type 0 where
  pub cpu : call.cpu < shape.cpus
  pub sizes : HasSizes shape call.verb
  pub bytes : GivesBytes call.verb

-- numbers that don't fall, the first of which is at least this, and none of which is above this count
abbrev pub AreCuts : ℕ → ℕ → List ℕ → Type 0
AreCuts least count [] = Unit {0}
AreCuts least count (cut ∷ cuts) = (least ≤ cut) × (cut ≤ count) × AreCuts cut count cuts

-- How often, and behind how many of so many calls, further phases start: in version 1 none does, in version 2 at most 63.
pub record HasPhases (version count : ℕ) (cuts : List ℕ) : Type 0 where
  pub known : ((version ≡ 1) × (cuts ≡ [])) ⊎ (version ≡ 2)
  pub few : length cuts ≤ 63
  pub rise : AreCuts 0 count cuts

-- how many calls stand before the last of some phases, where so many stand before the first of them
abbrev pub last_from : ℕ → List ℕ → ℕ
last_from before [] = before
last_from before (cut ∷ cuts) = last_from cut cuts

-- the calls of the last phase
abbrev pub last_calls : List ℕ → List Call → List Call
last_calls cuts calls = drop (last_from 0 cuts) calls

-- no call is of CPU 0
abbrev pub AreOfOthers : List Call → Type 0
AreOfOthers calls = All (λ (call : Call). call.cpu ≢ 0) calls

-- A target is a map that can be created, with the source's keys, values and CPUs. Both have a value for each CPU, or neither.
-- The first read asks for 1 to 65,536 pairs.
pub record IsTarget (source : CreateAttr) (target : Target) : Type 0 where
  pub created : creation target.attr ≡ Ok target.shape
  pub shape : IsShape target.shape
  pub key_size : target.attr.key_size ≡ source.key_size
  pub value_size : target.attr.value_size ≡ source.value_size
  pub cpus : target.attr.cpus ≡ source.cpus
  pub values : is_percpu target.attr.kind ≡ is_percpu source.kind
  pub some : 1 ≤ target.count
  pub few : target.count ≤ 65536

-- A script that has a target is of version 2, and has no generator line. In its last phase CPU 0 copies, and has no call.
pub record IsCopy (script : Script) (target : Target) : Type 0 where
  pub version : script.version ≡ 2
  pub no_spec : script.spec ≡ None
  pub into : IsTarget script.attr target
  pub last : AreOfOthers (last_calls script.cuts script.calls)

-- At most 200,000 calls on a map that can be created, with replies of at most 67,108,864 bytes, in at most 64 phases. A target that
-- is there is one into which the map can be copied.
pub record IsWellFormed (script : Script) : Type 0 where
  pub created : creation script.attr ≡ Ok script.shape
  pub shape : IsShape script.shape
  pub calls : All (IsCallOn script.shape) script.calls
  pub few : length script.calls ≤ 200000
  pub room : reply_room script.shape script.calls ≤ 67108864
  pub phases : HasPhases script.version (length script.calls) script.cuts
  pub target : IfSome script.target (IsCopy script)
