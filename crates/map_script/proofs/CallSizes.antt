-- What a call line tells of its call: the CPU, and that the keys and values have the map's sizes and are bytes.
use Rattle.std.proofs.Common.{◌≡◌, ℕ, List, [], ◌∷◌, Some, None, Result, Ok, All, subst}
use Rattle.std.specs.Prelude.{IfOk}
use Rattle.std.proofs.lemmas.List.Elements.{All-nil, All-cons}
use Rattle.hex.specs.Hex.{IsBytes}
use Rattle.map_types.specs.Pairs.{HaveSizes}
use Rattle.map_types.specs.ValueLen.{value_len_of}
use Rattle.map_types.specs.declared.attr.Shape.{Shape}
use Rattle.map_types.specs.declared.call.Call.{Call}
use Rattle.map_types.specs.declared.call.Verb.{Verb}
use Rattle.map_types.specs.declared.call.Verb.TheVariants.{Lookup, Update, Delete, Take, Next, BatchRead, BatchUpdate, BatchDelete, Each}
use Rattle.map_types.specs.declared.kind.Side.TheVariants.{Sys}
use Rattle.map_script.specs.declared.refusal.Cause.{Cause}
use Rattle.map_script.specs.Grammar.{call_line}
use Rattle.map_script.specs.Places.{Tokens}
use Rattle.map_script.specs.WellFormed.{IsKey, HasSizes, IsPairOfBytes, GivesBytes, IsCallOn}
use Rattle.map_script.proofs.CallScripts.{ArePairs, AreKeys, IsVerb, IsCall, call_gives}

-- ---- sizes

pairs_have : (shape : Shape) (pairs : List (List ℕ × List ℕ)) → ArePairs shape pairs → HaveSizes shape.key_size (value_len_of shape Sys) pairs
pairs_have shape [] are = tt
pairs_have shape (pair ∷ pairs) are = (are.0.sized, are.1.sized, pairs_have shape pairs are.2)

keys_have : (shape : Shape) (keys : List (List ℕ)) → AreKeys shape keys → All (IsKey shape) keys
keys_have shape [] are = All-nil (IsKey shape)
keys_have shape (key ∷ keys) are = All-cons (IsKey shape) key keys are.0.sized (keys_have shape keys are.1)

verb_has : (version : ℕ) (shape : Shape) (verb : Verb) → IsVerb version shape verb → HasSizes shape verb
verb_has version shape (Lookup side key) is = is.sized
verb_has version shape (Update side flags key value) is = (is.1.sized, is.2.sized)
verb_has version shape (Delete key) is = is.sized
verb_has version shape (Take key) is = is.sized
verb_has version shape (Next None) is = tt
verb_has version shape (Next (Some key)) is = is.sized
verb_has version shape (BatchRead remove count begin flags) is = tt
verb_has version shape (BatchUpdate flags pairs) is = pairs_have shape pairs is.1
verb_has version shape (BatchDelete flags keys) is = keys_have shape keys is.1
verb_has version shape (Each flags None) is = tt
verb_has version shape (Each flags (Some key)) is = is.2.sized

-- ---- bytes

pairs_are_bytes : (shape : Shape) (pairs : List (List ℕ × List ℕ)) → ArePairs shape pairs → All IsPairOfBytes pairs
pairs_are_bytes shape [] are = All-nil IsPairOfBytes
pairs_are_bytes shape (pair ∷ pairs) are =
    All-cons IsPairOfBytes pair pairs (are.0.small, are.1.small) (pairs_are_bytes shape pairs are.2)

keys_are_bytes : (shape : Shape) (keys : List (List ℕ)) → AreKeys shape keys → All IsBytes keys
keys_are_bytes shape [] are = All-nil IsBytes
keys_are_bytes shape (key ∷ keys) are = All-cons IsBytes key keys are.0.small (keys_are_bytes shape keys are.1)

verb_gives_bytes : (version : ℕ) (shape : Shape) (verb : Verb) → IsVerb version shape verb → GivesBytes verb
verb_gives_bytes version shape (Lookup side key) is = is.small
verb_gives_bytes version shape (Update side flags key value) is = (is.1.small, is.2.small)
verb_gives_bytes version shape (Delete key) is = is.small
verb_gives_bytes version shape (Take key) is = is.small
verb_gives_bytes version shape (Next None) is = tt
verb_gives_bytes version shape (Next (Some key)) is = is.small
verb_gives_bytes version shape (BatchRead remove count begin flags) is = tt
verb_gives_bytes version shape (BatchUpdate flags pairs) is = pairs_are_bytes shape pairs is.1
verb_gives_bytes version shape (BatchDelete flags keys) is = keys_are_bytes shape keys is.1
verb_gives_bytes version shape (Each flags None) is = tt
verb_gives_bytes version shape (Each flags (Some key)) is = is.2.small

-- ---- the line

-- a call line gives a call on the map
pub call_has : (version : ℕ) (shape : Shape) (tokens : Tokens) (call : Call) → call_line version shape tokens ≡ Ok call → IsCallOn shape call
call_has version shape tokens call read =
    let is = subst (λ (r : Result Call Cause). IfOk r (IsCall version shape)) read (call_gives version shape tokens) in
    record { cpu = is.one_of; sizes = verb_has version shape call.verb is.does; bytes = verb_gives_bytes version shape call.verb is.does }
