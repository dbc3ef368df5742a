-- What each line of a script says.
use Rattle.std.specs.Prelude.{ℕ, ◌+◌, ◌*◌, ◌^◌, ◌==◌, ◌&&◌, not, nat_lt, nat_le, Bool, true, false, List, [], ◌∷◌, min, sum_by, Option, Some, None, Result, Ok, Err, if◌then◌else◌, codes, bytes_eq}
use Rattle.map_types.specs.Kind.{is_percpu}
use Rattle.map_types.specs.ValueLen.{value_len_of}
use Rattle.map_types.specs.declared.attr.CreateAttr.{CreateAttr}
use Rattle.map_types.specs.declared.attr.Shape.{Shape}
use Rattle.map_types.specs.declared.call.Call.{Call}
use Rattle.map_types.specs.declared.call.Verb.{Verb}
use Rattle.map_types.specs.declared.call.Verb.TheVariants as verbs
use Rattle.map_types.specs.declared.kind.MapKind.{MapKind}
use Rattle.map_types.specs.declared.kind.MapKind.TheVariants.{Hash, PercpuHash, LruHash, LruPercpuHash}
use Rattle.map_types.specs.declared.kind.Side.{Side}
use Rattle.map_types.specs.declared.kind.Side.TheVariants.{Prog, Sys}
use Rattle.map_script.specs.declared.refusal.Cause.{Cause}
use Rattle.map_script.specs.declared.refusal.Cause.TheVariants.{Version, Map, Gen, Target, Missing}
use Rattle.map_script.specs.declared.refusal.Cause.TheVariants as causes
use Rattle.map_script.specs.declared.script.Form.{Form}
use Rattle.map_script.specs.declared.script.Form.TheVariants as forms
use Rattle.map_script.specs.declared.script.GenSpec.{GenSpec}
use Rattle.map_script.specs.Places.{◌>>=◌, Tokens, token, at_end, valued, number, cpu, start, flag, bytes_in, bytes, stop, word, is_next, labelled, if_labelled, number_or_end, instead}

-- the version that a word names: 1 in form Generator, 2 in form Copy, and either in form Calls
abbrev pub version_named : Form → List ℕ → Option ℕ
version_named forms.Calls name =
    if bytes_eq name (codes "1") then Some 1
    else if bytes_eq name (codes "2") then Some 2
    else None
version_named forms.Generator name = if bytes_eq name (codes "1") then Some 1 else None
version_named forms.Copy name = if bytes_eq name (codes "2") then Some 2 else None

-- `bpfmap` and the version
abbrev pub version_places : Form → Tokens → Result ℕ Cause
version_places form tokens = do
  name ← word Version (codes "bpfmap") tokens
  version ← valued Version (version_named form) name.1
  at_end version.0 version.1

unfoldable pub version_line : Form → Tokens → Result ℕ Cause
version_line form tokens = instead Version (version_places form tokens)

abbrev pub kind_of : List ℕ → Option MapKind
kind_of name =
    if bytes_eq name (codes "hash") then Some Hash
    else if bytes_eq name (codes "percpu_hash") then Some PercpuHash
    else if bytes_eq name (codes "lru_hash") then Some LruHash
    else if bytes_eq name (codes "lru_percpu_hash") then Some LruPercpuHash
    else None

abbrev pub map_attr : MapKind → ℕ → ℕ → ℕ → ℕ → ℕ → ℕ → CreateAttr
map_attr kind key value max cpus flags seed =
    record { kind = kind; key_size = key; value_size = value; max_entries = max; flags = flags; seed = seed; cpus = cpus }

-- `map KIND key N value N max N cpus N`, then `flags N` or not, and then `seed N` or not
abbrev pub map_places : Tokens → Result CreateAttr Cause
map_places tokens = do
  name ← word Map (codes "map") tokens
  kind ← valued Map kind_of name.1
  key ← labelled (codes "key") kind.1
  value ← labelled (codes "value") key.1
  max ← labelled (codes "max") value.1
  cpus ← labelled (codes "cpus") max.1
  flags ← if_labelled (codes "flags") cpus.1
  seed ← if_labelled (codes "seed") flags.1
  at_end (map_attr kind.0 key.0 value.0 max.0 cpus.0 flags.0 seed.0) seed.1

unfoldable pub map_line : Tokens → Result CreateAttr Cause
map_line tokens = instead Map (map_places tokens)

-- A target has a kind, a number of entries, flags and a seed of its own. Its keys, its values and its CPUs are the source's.
abbrev pub target_attr : CreateAttr → MapKind → ℕ → ℕ → ℕ → CreateAttr
target_attr source kind max flags seed = map_attr kind source.key_size source.value_size max source.cpus flags seed

-- both kinds have a value for each CPU, or neither
abbrev pub are_alike : MapKind → MapKind → Bool
are_alike kind other = if is_percpu kind then is_percpu other else not (is_percpu other)

-- A copy from the source goes into a map of these attributes, with this count: both have a value for each CPU, or neither, and the
-- count is from 1 to 65,536.
abbrev pub is_target : CreateAttr → CreateAttr × ℕ → Bool
is_target source asked = are_alike source.kind asked.0.kind && nat_le 1 asked.1 && nat_le asked.1 65536

-- `target KIND max N count N`, then `flags N` or not, and then `seed N` or not
abbrev pub target_places : CreateAttr → Tokens → Result (CreateAttr × ℕ) Cause
target_places source tokens = do
  name ← word Target (codes "target") tokens
  kind ← valued Target kind_of name.1
  max ← labelled (codes "max") kind.1
  count ← labelled (codes "count") max.1
  flags ← if_labelled (codes "flags") count.1
  seed ← if_labelled (codes "seed") flags.1
  asked ← at_end (target_attr source kind.0 max.0 flags.0 seed.0, count.0) seed.1
  if is_target source asked then Ok asked else Err Target

unfoldable pub target_line : CreateAttr → Tokens → Result (CreateAttr × ℕ) Cause
target_line source tokens = instead Target (target_places source tokens)

-- 1 to 200,000 calls; 1 to 1,000,000 keys, and fewer than there are keys of the map's size; mix 0 or 1; and at most
-- 67,108,864 bytes of values in all calls
abbrev pub is_spec : Shape → GenSpec → Bool
is_spec shape spec =
    nat_le 1 spec.calls && nat_le spec.calls 200000 && nat_le 1 spec.keys && nat_le spec.keys 1000000
    && nat_lt spec.keys (256 ^ shape.key_size) && nat_le spec.mix 1 && nat_le (spec.calls * shape.value_size) 67108864

abbrev pub gen_spec : ℕ → ℕ → ℕ → ℕ → GenSpec
gen_spec seed calls keys mix = record { seed = seed; calls = calls; keys = keys; mix = mix }

-- `gen seed N calls N keys N mix N`
abbrev pub gen_places : Shape → Tokens → Result GenSpec Cause
gen_places shape tokens = do
  name ← word Gen (codes "gen") tokens
  seed ← labelled (codes "seed") name.1
  calls ← labelled (codes "calls") seed.1
  keys ← labelled (codes "keys") calls.1
  mix ← labelled (codes "mix") keys.1
  spec ← at_end (gen_spec seed.0 calls.0 keys.0 mix.0) mix.1
  if is_spec shape spec then Ok spec else Err Gen

unfoldable pub gen_line : Shape → Tokens → Result GenSpec Cause
gen_line shape tokens = instead Gen (gen_places shape tokens)

-- `lookup KEY`, `syslookup KEY`
unfoldable pub lookup_places : Shape → Side → Tokens → Result Verb Cause
lookup_places shape side places = do
  key ← bytes shape.key_size places
  at_end (verbs.Lookup side key.0) key.1

-- `update FLAG KEY VALUE`, `sysupdate FLAG KEY VALUE`
unfoldable pub update_places : Shape → Side → Tokens → Result Verb Cause
update_places shape side places = do
  flags ← flag places
  key ← bytes shape.key_size flags.1
  value ← bytes (value_len_of shape side) key.1
  at_end (verbs.Update side flags.0 key.0 value.0) value.1

-- `delete KEY`
unfoldable pub delete_places : Shape → Tokens → Result Verb Cause
delete_places shape places = do
  key ← bytes shape.key_size places
  at_end (verbs.Delete key.0) key.1

-- `take KEY`
unfoldable pub take_places : Shape → Tokens → Result Verb Cause
take_places shape places = do
  key ← bytes shape.key_size places
  at_end (verbs.Take key.0) key.1

-- `next`, `next KEY`
unfoldable pub next_places : Shape → Tokens → Result Verb Cause
next_places shape [] = Ok (verbs.Next None)
next_places shape (first ∷ rest) = do
  key ← bytes shape.key_size (first ∷ rest)
  at_end (verbs.Next (Some key.0)) key.1

-- `batch_lookup COUNT START`, `batch_take COUNT START`, and FLAGS or not
unfoldable pub batch_read_places : Bool → Tokens → Result Verb Cause
batch_read_places remove places = do
  count ← number places
  begin ← start count.1
  flags ← number_or_end begin.1
  at_end (verbs.BatchRead remove count.0 begin.0 flags.0) flags.1

-- any number of KEY VALUE, to the end
abbrev pub pairs_to_end : Shape → Tokens → Result (List (List ℕ × List ℕ)) Cause
pairs_to_end shape [] = Ok []
pairs_to_end shape (first ∷ []) = do
  key ← bytes_in shape.key_size first
  Err Missing
pairs_to_end shape (first ∷ second ∷ rest) = do
  key ← bytes_in shape.key_size first
  value ← bytes_in (value_len_of shape Sys) second
  pairs ← pairs_to_end shape rest
  Ok ((key, value) ∷ pairs)

-- any number of KEY, to the end
abbrev pub keys_to_end : Shape → Tokens → Result (List (List ℕ)) Cause
keys_to_end shape [] = Ok []
keys_to_end shape (first ∷ rest) = do
  key ← bytes_in shape.key_size first
  keys ← keys_to_end shape rest
  Ok (key ∷ keys)

-- `batch_update FLAGS` and pairs
unfoldable pub batch_update_places : Shape → Tokens → Result Verb Cause
batch_update_places shape places = do
  flags ← number places
  pairs ← pairs_to_end shape flags.1
  Ok (verbs.BatchUpdate flags.0 pairs)

-- `batch_delete FLAGS` and keys
unfoldable pub batch_delete_places : Shape → Tokens → Result Verb Cause
batch_delete_places shape places = do
  flags ← number places
  keys ← keys_to_end shape flags.1
  Ok (verbs.BatchDelete flags.0 keys)

-- the name of a verb that both versions have, and its places
unfoldable pub verb_line : Shape → Tokens → Result Verb Cause
verb_line shape [] = Err Missing
verb_line shape (name ∷ places) =
    if bytes_eq name (codes "lookup") then lookup_places shape Prog places
    else if bytes_eq name (codes "syslookup") then lookup_places shape Sys places
    else if bytes_eq name (codes "update") then update_places shape Prog places
    else if bytes_eq name (codes "sysupdate") then update_places shape Sys places
    else if bytes_eq name (codes "delete") then delete_places shape places
    else if bytes_eq name (codes "take") then take_places shape places
    else if bytes_eq name (codes "next") then next_places shape places
    else if bytes_eq name (codes "batch_lookup") then batch_read_places false places
    else if bytes_eq name (codes "batch_take") then batch_read_places true places
    else if bytes_eq name (codes "batch_update") then batch_update_places shape places
    else if bytes_eq name (codes "batch_delete") then batch_delete_places shape places
    else Err causes.Verb

-- `FLAGS STOP`, of a walk over all elements
unfoldable pub each_places : Shape → Tokens → Result Verb Cause
each_places shape places = do
  flags ← number places
  stop ← stop shape.key_size flags.1
  at_end (verbs.Each flags.0 stop.0) stop.1

-- the verb `each`, and its places
unfoldable pub each_line : Shape → Tokens → Result Verb Cause
each_line shape tokens = do
  name ← token tokens
  each_places shape name.1

-- in version 2 there is the verb `each`
abbrev pub names_each : ℕ → Tokens → Bool
names_each version tokens = version == 2 && is_next (codes "each") tokens

-- the name of any verb of a version, and its places
unfoldable pub named_line : ℕ → Shape → Tokens → Result Verb Cause
named_line version shape tokens = if names_each version tokens then each_line shape tokens else verb_line shape tokens

abbrev pub call_on : ℕ → Verb → Call
call_on cpu verb = record { cpu = cpu; verb = verb }

-- a call: its CPU, and what it does
unfoldable pub call_line : ℕ → Shape → Tokens → Result Call Cause
call_line version shape tokens = do
  on ← cpu shape.cpus tokens
  verb ← named_line version shape on.1
  Ok (call_on on.0 verb)

-- in version 2 a line whose first token is `phase` starts the next phase
abbrev pub starts_phase : ℕ → Tokens → Bool
starts_phase version tokens = version == 2 && is_next (codes "phase") tokens

-- `phase`
unfoldable pub phase_line : Tokens → Result (Unit {0}) Cause
phase_line tokens = do
  name ← token tokens
  at_end tt name.1

-- the most bytes that a call's reply may have, whatever its flags and its start
abbrev pub reply_bytes : Shape → Verb → ℕ
reply_bytes shape (verbs.Lookup side key) = value_len_of shape side
reply_bytes shape (verbs.Take key) = value_len_of shape Sys
reply_bytes shape (verbs.Next key) = shape.key_size
reply_bytes shape (verbs.BatchRead remove count begin flags) = min count shape.elements * (shape.key_size + value_len_of shape Sys)
reply_bytes shape (verbs.Update side flags key value) = 0
reply_bytes shape (verbs.Delete key) = 0
reply_bytes shape (verbs.BatchUpdate flags pairs) = 0
reply_bytes shape (verbs.BatchDelete flags keys) = 0
reply_bytes shape (verbs.Each flags stop) = shape.elements * (shape.key_size + shape.value_size)

-- the most bytes that the replies to some calls may have
abbrev pub reply_room : Shape → List Call → ℕ
reply_room shape calls = sum_by (λ call. reply_bytes shape call.verb) calls
