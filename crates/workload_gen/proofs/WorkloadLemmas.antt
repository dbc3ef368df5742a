-- A generated script is a script of calls.
use Rattle.std.proofs.Common.{◌≡◌, ℕ, zero, suc, ◌+◌, ◌*◌, ◌^◌, ◌≤◌, ◌&&◌, true, nat_lt, nat_le, List, [], length, map, None, Ok, refl, sym, subst, ◌∙◌, arith}
use Rattle.std.specs.Prelude.{IfSome}
use Rattle.std.specs.List.{range_with_len}
use Rattle.std.proofs.Math.Nat.{suc-mul}
use Rattle.std.proofs.lemmas.Bool.{and_parts, leb-true}
use Rattle.map_types.proofs.CreationLemmas.{bounds_of_shape}
use Rattle.map_types.specs.Shape.{HasBounds}
use Rattle.map_types.specs.declared.attr.Shape.{Shape}
use Rattle.map_types.specs.declared.call.Call.{Call}
use Rattle.map_script.specs.declared.script.Form.TheVariants as forms
use Rattle.map_script.specs.declared.script.GenSpec.{GenSpec}
use Rattle.map_script.specs.declared.script.Script.{Script}
use Rattle.map_script.specs.Canonical.{canonical}
use Rattle.map_script.specs.Grammar.{is_spec, reply_bytes}
use Rattle.map_script.specs.Reading.{IsReadAs, read_as, script_of}
use Rattle.map_script.specs.WellFormed.{HasPhases, IsWellFormed}
use Rattle.map_script.proofs.CallScripts.{AreCalls}
use Rattle.map_script.proofs.RoundTrip.{call_script_read}
use Rattle.map_script.proofs.SpecRoundTrip.{spec_script_read}
use Rattle.map_script.proofs.SpecScripts.{IsSpecScript, one_phase, spec_script_gives}
use Rattle.map_script.proofs.WellFormedLemmas.{IsWellFormed-read_as}
use Rattle.workload_gen.specs.Generated.{call_of, calls_of_spec, calls_generated}
use Rattle.workload_gen.proofs.CallLemmas.{IsOn, call_on_map}

-- what the ranges of a spec say
record IsWithin (shape : Shape) (spec : GenSpec) : Type 0 where
  some_key : 1 ≤ spec.keys
  few_calls : spec.calls ≤ 200000
  few_bytes : spec.calls * shape.value_size ≤ 67108864

within : (shape : Shape) (spec : GenSpec) → is_spec shape spec ≡ true → IsWithin shape spec
within shape spec is =
    let some_call = nat_le 1 spec.calls in
    let few_calls = nat_le spec.calls 200000 in
    let some_key = nat_le 1 spec.keys in
    let few_keys = nat_le spec.keys 1000000 in
    let fewer = nat_lt spec.keys (256 ^ shape.key_size) in
    let mix = nat_le spec.mix 1 in
    let bytes = and_parts (some_call && few_calls && some_key && few_keys && fewer && mix) (nat_le (spec.calls * shape.value_size) 67108864) is in
    let mixes = and_parts (some_call && few_calls && some_key && few_keys && fewer) mix bytes.0 in
    let keys = and_parts (some_call && few_calls && some_key && few_keys) fewer mixes.0 in
    let key = and_parts (some_call && few_calls && some_key) few_keys keys.0 in
    let one = and_parts (some_call && few_calls) some_key key.0 in
    let calls = and_parts some_call few_calls one.0 in
    record {
      some_key = leb-true 1 spec.keys one.1;
      few_calls = leb-true spec.calls 200000 calls.1;
      few_bytes = leb-true (spec.calls * shape.value_size) 67108864 bytes.1;
    }

-- ---- the calls

-- Calls whose replies are at most a value are calls behind so many others, as far as these leave room.
are_calls : (version : ℕ) (shape : Shape) (call : ℕ → Call) → ((i : ℕ) → IsOn shape (call i)) → (i n count room : ℕ) → count + n ≤ 200000 → room + n * shape.value_size ≤ 67108864
    → AreCalls version shape count room (map call (range_with_len i n))
are_calls version shape call on i zero count room few fits = tt
are_calls version shape call on i (suc n) count room few fits =
    let here = on i in
    let more : suc n * shape.value_size ≡ n * shape.value_size + shape.value_size = suc-mul n shape.value_size in
    let reply = here.reply in
    (here.is version, omega arith, omega arith, are_calls version shape call on (i + 1) n (count + 1) (room + reply_bytes shape (call i).verb) (omega arith) (omega arith))

bounds : (script : Script) → IsSpecScript script → HasBounds script.shape
bounds script h = bounds_of_shape script.shape record { attr = script.attr; accepted = h.created }

calls_fit : (script : Script) → IsSpecScript script → AreCalls script.version script.shape 0 0 (calls_generated script.shape script.spec)
calls_fit script h =
    let shape = script.shape in
    let bounds = bounds script h in
    let ranges = within shape h.spec h.is_spec.ranges in
    let fit : AreCalls script.version shape 0 0 (calls_of_spec shape h.spec) = are_calls script.version shape (call_of shape h.spec) (call_on_map shape h.spec bounds.some_cpu bounds.cpus_bounded) 0 h.spec.calls 0 0 (omega (arith, ranges.few_calls)) (omega (arith, ranges.few_bytes)) in
    subst (λ spec. AreCalls script.version shape 0 0 (calls_generated shape spec)) (sym h.has_spec) fit

-- ---- the script

-- of a script that form Generator gives
module _ (script : Script) (read : IsReadAs forms.Generator script) where
  given : IsSpecScript script
  given = spec_script_gives read.0 script read.1

  pub some_cpu : 1 ≤ script.shape.cpus
  some_cpu = (bounds script given).some_cpu

  pub some_key : IfSome script.spec (λ spec. 1 ≤ spec.keys)
  some_key =
      subst (λ spec. IfSome spec (λ spec. 1 ≤ spec.keys)) (sym given.has_spec) (within script.shape given.spec given.is_spec.ranges).some_key

  pub few_calls : IfSome script.spec (λ spec. spec.calls ≤ 200000)
  few_calls =
      subst (λ spec. IfSome spec (λ spec. spec.calls ≤ 200000)) (sym given.has_spec) (within script.shape given.spec given.is_spec.ranges).few_calls

  -- with any calls it is one phase
  phases : (calls : List Call) → HasPhases script.version (length calls) []
  phases calls =
      subst (HasPhases script.version (length calls)) given.no_cuts (one_phase script (length calls) given)

  -- with any calls it is read again from its text, which doesn't list them
  pub own_read : (calls : List Call) (cuts : List ℕ) → cuts ≡ [] → read_as forms.Generator (canonical (script_of script.version script.attr script.shape calls cuts script.spec)) ≡ Ok script
  own_read calls cuts none =
      subst (λ cuts. read_as forms.Generator (canonical (script_of script.version script.attr script.shape calls cuts script.spec)) ≡ Ok script) (given.no_cuts ∙ sym none) (spec_script_read script calls given)

  -- the script of these calls alone
  abbrev listing : List Call → Script
  listing calls = script_of script.version script.attr script.shape calls [] None

  -- the calls of its spec are read again where they are listed
  pub calls_read : (calls : List Call) → calls ≡ calls_generated script.shape script.spec → read_as forms.Calls (canonical (listing calls)) ≡ Ok (listing calls)
  calls_read calls are =
      let fit = subst (AreCalls script.version script.shape 0 0) (sym are) (calls_fit script given) in
      call_script_read (listing calls) record { numbers = given.numbers; created = given.created; calls = fit; phases = phases calls; no_spec = refl; no_target = refl }

  pub well_formed : (calls : List Call) (cuts : List ℕ) → calls ≡ calls_generated script.shape script.spec → cuts ≡ [] → IsWellFormed (script_of script.version script.attr script.shape calls cuts script.spec)
  well_formed calls cuts are none =
      let is = IsWellFormed-read_as forms.Calls (canonical (listing calls)) (listing calls) (calls_read calls are) in
      record { created = is.created; shape = is.shape; calls = is.calls; few = is.few; room = is.room; phases = subst (HasPhases script.version (length calls)) (sym none) is.phases; target = tt }
