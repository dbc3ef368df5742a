-- A generated call is a call on its map.
use Rattle.std.proofs.Common.{ℕ, zero, suc, ◌+◌, ◌*◌, ◌/◌, ◌%◌, ◌^◌, ◌<◌, ◌≤◌, ◌==◌, nat_le, cond, map, arith}
use Rattle.std.specs.List.{range_with_len, slice_index}
use Rattle.std.proofs.Math.Nat.{mod-lt}
use Rattle.std.proofs.lemmas.Bool.{cond_both}
use Rattle.std.proofs.lemmas.List.FromFn.{length-map-range_with_len}
use Rattle.map_types.specs.declared.attr.Shape.{Shape}
use Rattle.map_types.specs.declared.call.Call.{Call}
use Rattle.map_types.specs.declared.call.Verb.{Verb}
use Rattle.map_script.specs.declared.script.GenSpec.{GenSpec}
use Rattle.map_script.specs.Grammar.{reply_bytes}
use Rattle.map_script.proofs.TokenValues.{AreBytes}
use Rattle.map_script.proofs.CallScripts.{IsVerb, IsCall}
use Rattle.workload_gen.specs.Draws.{draw}
use Rattle.workload_gen.specs.Generated.{byte_of, little_endian, key_of, update_of, lookup_of, delete_of, round_verb, round_call, drawn_verb, drawn_call, call_of}

-- ---- bytes

bytes_below : (number i n k : ℕ) → slice_index (map (byte_of number) (range_with_len i n)) k < 256
bytes_below number i zero k = omega arith
bytes_below number i (suc n) zero = mod-lt (number / 256 ^ i) (omega arith)
bytes_below number i (suc n) (suc k) = bytes_below number (i + 1) n k

little_endian_bytes : (size number : ℕ) → AreBytes size (little_endian size number)
little_endian_bytes size number =
    record { sized = length-map-range_with_len (byte_of number) 0 size; small = bytes_below number 0 size }

-- ---- verbs

-- a verb on a map, in a script of any version, whose reply is at most a value
pub record Suits (shape : Shape) (verb : Verb) : Type 0 where
  pub is : (version : ℕ) → IsVerb version shape verb
  pub reply : reply_bytes shape verb ≤ shape.value_size

key_bytes : (shape : Shape) (k : ℕ) → AreBytes shape.key_size (key_of shape k)
key_bytes shape k = little_endian_bytes shape.key_size (k + 1)

update_suits : (shape : Shape) (k i : ℕ) → Suits shape (update_of shape k i)
update_suits shape k i =
    record { is = λ version. (omega arith, key_bytes shape k, little_endian_bytes shape.value_size (i + 1)); reply = omega arith }

lookup_suits : (shape : Shape) (k : ℕ) → Suits shape (lookup_of shape k)
lookup_suits shape k = record { is = λ version. key_bytes shape k; reply = omega arith }

delete_suits : (shape : Shape) (k : ℕ) → Suits shape (delete_of shape k)
delete_suits shape k = record { is = λ version. key_bytes shape k; reply = omega arith }

round_suits : (shape : Shape) (round k i : ℕ) → Suits shape (round_verb shape round k i)
round_suits shape round k i =
    cond_both (round % 2 == 0) (update_of shape k i) (lookup_of shape k) (Suits shape) (λ even. update_suits shape k i) (λ odd. lookup_suits shape k)

drawn_suits : (shape : Shape) (choice k i : ℕ) → Suits shape (drawn_verb shape choice k i)
drawn_suits shape choice k i =
    cond_both (nat_le choice 2) (update_of shape k i) (cond (nat_le choice 6) (lookup_of shape k) (delete_of shape k)) (Suits shape) (λ low. update_suits shape k i)
    (λ high. cond_both (nat_le choice 6) (lookup_of shape k) (delete_of shape k) (Suits shape) (λ low. lookup_suits shape k) (λ high. delete_suits shape k))

-- ---- calls

-- a call on a map, in a script of any version, whose reply is at most a value
pub record IsOn (shape : Shape) (call : Call) : Type 0 where
  pub is : (version : ℕ) → IsCall version shape call
  pub reply : reply_bytes shape call.verb ≤ shape.value_size

is_on : (shape : Shape) (cpu : ℕ) (verb : Verb) → 1 ≤ shape.cpus → shape.cpus ≤ 16 → Suits shape verb → IsOn shape record { cpu = cpu % shape.cpus; verb = verb }
is_on shape cpu verb some few suits =
    let below : cpu % shape.cpus < shape.cpus = mod-lt cpu (omega arith) in
    record { is = λ version. record { on = omega arith; one_of = below; does = suits.is version }; reply = suits.reply }

round_on : (shape : Shape) (spec : GenSpec) → 1 ≤ shape.cpus → shape.cpus ≤ 16 → (i : ℕ) → IsOn shape (round_call shape spec i)
unfolding round_call
round_on shape spec some few i =
    is_on shape i (round_verb shape (i / spec.keys) (i % spec.keys) i) some few (round_suits shape (i / spec.keys) (i % spec.keys) i)

drawn_on : (shape : Shape) (spec : GenSpec) → 1 ≤ shape.cpus → shape.cpus ≤ 16 → (i : ℕ) → IsOn shape (drawn_call shape spec i)
unfolding drawn_call
drawn_on shape spec some few i =
    let choice = draw spec.seed (3 * i + 1) % 8 in
    let k = draw spec.seed (3 * i + 2) % spec.keys in
    is_on shape (draw spec.seed (3 * i)) (drawn_verb shape choice k i) some few (drawn_suits shape choice k i)

pub call_on_map : (shape : Shape) (spec : GenSpec) → 1 ≤ shape.cpus → shape.cpus ≤ 16 → (i : ℕ) → IsOn shape (call_of shape spec i)
call_on_map shape spec some few =
    cond_both (spec.mix == 0) (round_call shape spec) (drawn_call shape spec) (λ call. (i : ℕ) → IsOn shape (call i)) (λ rounds. round_on shape spec some few) (λ mixed. drawn_on shape spec some few)
