-- The scripts that are run: each whose calls are on its map, within the limits.
use Rattle.std.specs.Prelude.{◌≡◌, ◌<◌, ◌^◌, ℕ, length, All, IfSome, ⊤}
use Rattle.map_types.specs.Creation.{IsShape}
use Rattle.map_types.specs.Pairs.{HaveSizes}
use Rattle.map_types.specs.Shape.{HasBounds}
use Rattle.map_types.specs.ValueLen.{value_len_of}
use Rattle.map_types.specs.declared.attr.Shape.{Shape}
use Rattle.map_types.specs.declared.call.Call.{Call}
use Rattle.map_types.specs.declared.call.Verb.{Verb}
use Rattle.map_types.specs.declared.call.Verb.TheVariants.{Lookup, Update, Delete, Take, Next, BatchRead, BatchUpdate, BatchDelete, Each}
use Rattle.map_types.specs.declared.kind.Side.TheVariants.{Sys}
use Rattle.map_script.specs.declared.script.Script.{Script}
use Rattle.map_script.specs.WellFormed.{HasPhases, HasSizes, IsKey, IsWellFormed}

-- a call for a map: on one of its CPUs, with keys and values of its sizes
pub record IsCallFor (shape : Shape) (call : Call) : Type 0 where
  pub cpu : call.cpu < shape.cpus
  pub sizes : HasSizes shape call.verb

-- Calls for a map that can be created, in phases: each well-formed script has these, and so has that of a copy's puts, however many
-- calls it has, and whether or not what it puts are bytes.
pub record SuitsItsMap (script : Script) : Type 0 where
  pub shape : IsShape script.shape
  pub calls : All (IsCallFor script.shape) script.calls
  pub phases : HasPhases script.version (length script.calls) script.cuts

-- how many entries a batch write has
abbrev pub entry_count : Verb → ℕ
entry_count (Lookup side key) = 0
entry_count (Update side flags key value) = 0
entry_count (Delete key) = 0
entry_count (Take key) = 0
entry_count (Next key) = 0
entry_count (BatchRead remove count start flags) = 0
entry_count (BatchUpdate flags pairs) = length pairs
entry_count (BatchDelete flags keys) = length keys
entry_count (Each flags stop) = 0

abbrev pub HasFewEntries : Call → Type 0
HasFewEntries call = entry_count call.verb < 2 ^ 32

-- A script whose calls are on its map, within the limits, each batch write with fewer than 2^32 entries: each that is read from a
-- text of 16,777,216 bytes at most, and each whose calls are generated, is one.
pub record IsScript (script : Script) : Type 0 where
  pub well_formed : IsWellFormed script
  pub few_entries : All HasFewEntries script.calls

-- the keys and values have the map's sizes, and there are fewer than 2^32 entries
abbrev pub IsServedVerb : Shape → Verb → Type 0
IsServedVerb shape (Lookup side key) = IsKey shape key
IsServedVerb shape (Update side flags key value) = IsKey shape key × (length value ≡ value_len_of shape side)
IsServedVerb shape (Delete key) = IsKey shape key
IsServedVerb shape (Take key) = IsKey shape key
IsServedVerb shape (Next key) = IfSome key (IsKey shape)
IsServedVerb shape (BatchRead remove count start flags) = ⊤
IsServedVerb shape (BatchUpdate flags pairs) = HaveSizes shape.key_size (value_len_of shape Sys) pairs × (length pairs < 2 ^ 32)
IsServedVerb shape (BatchDelete flags keys) = All (IsKey shape) keys × (length keys < 2 ^ 32)
IsServedVerb shape (Each flags stop) = IfSome stop (IsKey shape)

-- a call on one of the map's CPUs
pub record IsServedCall (shape : Shape) (call : Call) : Type 0 where
  pub cpu : call.cpu < shape.cpus
  pub verb : IsServedVerb shape call.verb

-- what is known of a script that is run
pub record IsServed (script : Script) : Type 0 where
  pub bounds : HasBounds script.shape
  pub calls : All (IsServedCall script.shape) script.calls
