-- The calls that a script's spec stands for. All of them are calls of programs, on keys and with values that are numbers.
use Rattle.std.specs.Prelude.{ℕ, ◌+◌, ◌*◌, ◌/◌, ◌%◌, ◌^◌, ◌==◌, nat_le, List, [], map, Option, None, Some, if◌then◌else◌}
use Rattle.std.specs.List.{range_with_len}
use Rattle.map_types.specs.declared.attr.Shape.{Shape}
use Rattle.map_types.specs.declared.call.Call.{Call}
use Rattle.map_types.specs.declared.call.Verb.{Verb}
use Rattle.map_types.specs.declared.call.Verb.TheVariants.{Lookup, Update, Delete}
use Rattle.map_types.specs.declared.kind.Side.TheVariants.{Prog}
use Rattle.map_script.specs.declared.script.GenSpec.{GenSpec}
use Rattle.map_script.specs.declared.script.Script.{Script}
use Rattle.map_script.specs.Grammar.{call_on}
use Rattle.map_script.specs.Reading.{script_of}
use Rattle.workload_gen.specs.Draws.{draw}

-- byte i of a number, where byte 0 is the lowest
abbrev pub byte_of : ℕ → ℕ → ℕ
byte_of number i = number / 256 ^ i % 256

-- a number in so many bytes, the lowest first: higher ones are cut, and zeros fill what is left
abbrev pub little_endian : ℕ → ℕ → List ℕ
little_endian size number = map (byte_of number) (range_with_len 0 size)

-- key k of a workload, from 0, is the number k + 1
abbrev pub key_of : Shape → ℕ → List ℕ
key_of shape k = little_endian shape.key_size (k + 1)

-- the value that call i stores, from 0, is the number i + 1
abbrev pub value_of : Shape → ℕ → List ℕ
value_of shape i = little_endian shape.value_size (i + 1)

-- call i as an update of key k, be it there or not; as a lookup of it; and as a delete of it
abbrev pub update_of : Shape → ℕ → ℕ → Verb
update_of shape k i = Update Prog 0 (key_of shape k) (value_of shape i)

abbrev pub lookup_of : Shape → ℕ → Verb
lookup_of shape k = Lookup Prog (key_of shape k)

abbrev pub delete_of : Shape → ℕ → Verb
delete_of shape k = Delete (key_of shape k)

-- Mix 0: rounds over the keys, the CPUs in turn. One round updates each key, and the next looks each up.
abbrev pub round_verb : Shape → ℕ → ℕ → ℕ → Verb
round_verb shape round k i = if round % 2 == 0 then update_of shape k i else lookup_of shape k

unfoldable pub round_call : Shape → GenSpec → ℕ → Call
round_call shape spec i = call_on (i % shape.cpus) (round_verb shape (i / spec.keys) (i % spec.keys) i)

-- Mix 1: three draws for each call, of its CPU, of its verb and of its key. Of eight verbs three are an update, four a
-- lookup, and one a delete.
abbrev pub drawn_verb : Shape → ℕ → ℕ → ℕ → Verb
drawn_verb shape choice k i =
    if nat_le choice 2 then update_of shape k i else if nat_le choice 6 then lookup_of shape k else delete_of shape k

unfoldable pub drawn_call : Shape → GenSpec → ℕ → Call
drawn_call shape spec i =
    let cpu = draw spec.seed (3 * i) % shape.cpus in
    let choice = draw spec.seed (3 * i + 1) % 8 in
    let k = draw spec.seed (3 * i + 2) % spec.keys in
    call_on cpu (drawn_verb shape choice k i)

-- the calls of a spec's mix, by their numbers from 0
abbrev pub call_of : Shape → GenSpec → ℕ → Call
call_of shape spec = if spec.mix == 0 then round_call shape spec else drawn_call shape spec

-- the calls of a spec, in order
abbrev pub calls_of_spec : Shape → GenSpec → List Call
calls_of_spec shape spec = map (call_of shape spec) (range_with_len 0 spec.calls)

-- those of the spec that a script has
abbrev pub calls_generated : Shape → Option GenSpec → List Call
calls_generated shape None = []
calls_generated shape (Some spec) = calls_of_spec shape spec

-- the script with the calls of its spec, which it keeps
unfoldable pub generated_script : Script → Script
generated_script script =
    script_of script.version script.attr script.shape (calls_generated script.shape script.spec) [] script.spec

-- the same calls on the same map, in a script that lists them and has no spec
abbrev pub listed : Script → Script
listed script = script_of script.version script.attr script.shape script.calls [] None
