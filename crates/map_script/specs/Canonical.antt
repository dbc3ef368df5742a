-- The canonical text of a script: one space between tokens, no comments, numbers without leading zeros, lower case
-- digits, the flags 0, 1 and 2 of an update by name, and only where they aren't 0 the flags and the seed of a map and the
-- flags of a batch read.
use Rattle.std.specs.Prelude.{ℕ, ◌-◌, ◌==◌, Bool, true, false, List, [], ◌∷◌, ◌++◌, map, take, drop, Option, Some, None, if◌then◌else◌, codes, decimal}
use Rattle.std.specs.List.{flat_map}
use Rattle.hex.specs.Hex.{encode_lower}
use Rattle.map_types.specs.declared.attr.CreateAttr.{CreateAttr}
use Rattle.map_types.specs.declared.call.Call.{Call}
use Rattle.map_types.specs.declared.call.Verb.{Verb}
use Rattle.map_types.specs.declared.call.Verb.TheVariants.{Lookup, Update, Delete, Take, Next, BatchRead, BatchUpdate, BatchDelete, Each}
use Rattle.map_types.specs.declared.kind.MapKind.{MapKind}
use Rattle.map_types.specs.declared.kind.MapKind.TheVariants.{Hash, PercpuHash, LruHash, LruPercpuHash}
use Rattle.map_types.specs.declared.kind.Side.{Side}
use Rattle.map_types.specs.declared.kind.Side.TheVariants.{Prog, Sys}
use Rattle.map_script.specs.declared.script.GenSpec.{GenSpec}
use Rattle.map_script.specs.declared.script.Script.{Script}
use Rattle.map_script.specs.declared.script.Target.{Target}
use Rattle.map_script.specs.Places.{Tokens}

-- a token behind a space
abbrev pub behind_space : List ℕ → List ℕ
behind_space token = codes " " ++ token

-- tokens, each behind a space
abbrev pub spaced : Tokens → List ℕ
spaced tokens = flat_map behind_space tokens

-- a line: its first token, and the others
abbrev pub line_text : List ℕ → Tokens → List ℕ
line_text first others = first ++ spaced others ++ codes "\n"

-- a label and a number
abbrev pub label_and_number : List ℕ → ℕ → Tokens
label_and_number label number = label ∷ decimal number ∷ []

-- tokens, which are left out where a number is 0
abbrev pub unless_zero : ℕ → Tokens → Tokens
unless_zero number tokens = if number == 0 then [] else tokens

-- the name of a kind of map, in scripts and in reports
abbrev pub kind_name : MapKind → List ℕ
kind_name Hash = codes "hash"
kind_name PercpuHash = codes "percpu_hash"
kind_name LruHash = codes "lru_hash"
kind_name LruPercpuHash = codes "lru_percpu_hash"

-- what stands behind `map`
abbrev pub map_tokens : CreateAttr → Tokens
map_tokens attr =
    kind_name attr.kind ∷ []
    ++ label_and_number (codes "key") attr.key_size
    ++ label_and_number (codes "value") attr.value_size
    ++ label_and_number (codes "max") attr.max_entries
    ++ label_and_number (codes "cpus") attr.cpus
    ++ unless_zero attr.flags (label_and_number (codes "flags") attr.flags)
    ++ unless_zero attr.seed (label_and_number (codes "seed") attr.seed)

-- the flags of an update
abbrev pub flag_token : ℕ → List ℕ
flag_token flags =
    if flags == 0 then codes "any"
    else if flags == 1 then codes "noexist"
    else if flags == 2 then codes "exist"
    else decimal flags

-- where a batch read starts
abbrev pub start_token : Option ℕ → List ℕ
start_token None = codes "-"
start_token (Some start) = decimal start

-- the key at which a walk over all elements stops
abbrev pub stop_token : Option (List ℕ) → List ℕ
stop_token None = codes "-"
stop_token (Some key) = encode_lower key

-- the names of a call of a program and of the system call
abbrev pub lookup_name : Side → List ℕ
lookup_name Prog = codes "lookup"
lookup_name Sys = codes "syslookup"

abbrev pub update_name : Side → List ℕ
update_name Prog = codes "update"
update_name Sys = codes "sysupdate"

-- the names of a batch read that leaves what it reads, and of one that takes it
abbrev pub batch_name : Bool → List ℕ
batch_name false = codes "batch_lookup"
batch_name true = codes "batch_take"

-- a key, and its value
abbrev pub pair_tokens : List ℕ × List ℕ → Tokens
pair_tokens pair = encode_lower pair.0 ∷ encode_lower pair.1 ∷ []

-- what stands behind a call's CPU
abbrev pub verb_tokens : Verb → Tokens
verb_tokens (Lookup side key) = lookup_name side ∷ encode_lower key ∷ []
verb_tokens (Update side flags key value) = update_name side ∷ flag_token flags ∷ encode_lower key ∷ encode_lower value ∷ []
verb_tokens (Delete key) = codes "delete" ∷ encode_lower key ∷ []
verb_tokens (Take key) = codes "take" ∷ encode_lower key ∷ []
verb_tokens (Next None) = codes "next" ∷ []
verb_tokens (Next (Some key)) = codes "next" ∷ encode_lower key ∷ []
verb_tokens (BatchRead remove count start flags) =
    batch_name remove ∷ decimal count ∷ start_token start ∷ unless_zero flags (decimal flags ∷ [])
verb_tokens (BatchUpdate flags pairs) = codes "batch_update" ∷ decimal flags ∷ flat_map pair_tokens pairs
verb_tokens (BatchDelete flags keys) = codes "batch_delete" ∷ decimal flags ∷ map encode_lower keys
verb_tokens (Each flags stop) = codes "each" ∷ decimal flags ∷ stop_token stop ∷ []

-- the line of a call
abbrev pub call_text : Call → List ℕ
call_text call = line_text (decimal call.cpu) (verb_tokens call.verb)

-- what stands behind `gen`
abbrev pub spec_tokens : GenSpec → Tokens
spec_tokens spec =
    label_and_number (codes "seed") spec.seed
    ++ label_and_number (codes "calls") spec.calls
    ++ label_and_number (codes "keys") spec.keys
    ++ label_and_number (codes "mix") spec.mix

-- what stands behind `target`
abbrev pub target_tokens : Target → Tokens
target_tokens target =
    kind_name target.attr.kind ∷ []
    ++ label_and_number (codes "max") target.attr.max_entries
    ++ label_and_number (codes "count") target.count
    ++ unless_zero target.attr.flags (label_and_number (codes "flags") target.attr.flags)
    ++ unless_zero target.attr.seed (label_and_number (codes "seed") target.attr.seed)

-- the target line of a script that has a target
abbrev pub target_text : Option Target → List ℕ
target_text None = []
target_text (Some target) = line_text (codes "target") (target_tokens target)

-- the lines of calls, behind so many others, and a `phase` line where each cut is
abbrev pub phased_text : ℕ → List ℕ → List Call → List ℕ
phased_text before [] calls = flat_map call_text calls
phased_text before (cut ∷ cuts) calls =
    flat_map call_text (take (cut - before) calls)
    ++ line_text (codes "phase") []
    ++ phased_text cut cuts (drop (cut - before) calls)

-- the generator line, or the lines of calls and phases: a script that has a spec has no call lines
abbrev pub body_text : Option GenSpec → List ℕ → List Call → List ℕ
body_text None cuts calls = phased_text 0 cuts calls
body_text (Some spec) cuts calls = line_text (codes "gen") (spec_tokens spec)

-- the version line, the map line, the target line where there is one, and what stands behind them
unfoldable pub canonical : Script → List ℕ
canonical script =
    line_text (codes "bpfmap") (decimal script.version ∷ [])
    ++ line_text (codes "map") (map_tokens script.attr)
    ++ target_text script.target
    ++ body_text script.spec script.cuts script.calls
