-- The tokens of a canonical text's lines: that they are tokens, and that the text is these lines.
use Rattle.std.proofs.Common.{◌≡◌, ℕ, ◌+◌, ◌-◌, ◌*◌, ◌≤◌, ◌==◌, Bool, true, false, cond, List, [], ◌∷◌, ◌++◌, map, length, take, drop, Option, Some, None, Ok, inl, inr, refl, sym, ap, subst, ◌∙◌, append_assoc, take-append-drop, arith}
use Rattle.std.specs.Prelude.{IfSome, codes, decimal}
use Rattle.std.specs.List.{flat_map}
use Rattle.std.proofs.Math.Nat.{le-mul_of_pos_right}
use Rattle.std.proofs.lemmas.Bool.{cond_both}
use Rattle.std.proofs.lemmas.List.Sums.{sum_by-cons}
use Rattle.hex.specs.Hex.{encode_lower}
use Rattle.map_types.specs.Creation.{creation}
use Rattle.map_types.specs.Kind.{is_percpu}
use Rattle.map_types.specs.Shape.{HasBounds}
use Rattle.map_types.specs.ValueLen.{round8, value_len_of}
use Rattle.map_types.specs.declared.attr.CreateAttr.{CreateAttr}
use Rattle.map_types.specs.declared.attr.Shape.{Shape}
use Rattle.map_types.specs.declared.call.Call.{Call}
use Rattle.map_types.specs.declared.call.Verb.{Verb}
use Rattle.map_types.specs.declared.call.Verb.TheVariants.{Lookup, Update, Delete, Take, Next, BatchRead, BatchUpdate, BatchDelete, Each}
use Rattle.map_types.specs.declared.kind.Side.{Side}
use Rattle.map_types.specs.declared.kind.Side.TheVariants.{Prog, Sys}
use Rattle.map_types.proofs.CreationLemmas.{bounds_of_shape}
use Rattle.map_types.proofs.RoundLemmas.{rounded_up}
use Rattle.map_script.specs.declared.script.Script.{Script}
use Rattle.map_script.specs.declared.script.Target.{Target}
use Rattle.map_script.specs.Canonical.{canonical, spaced, line_text, label_and_number, unless_zero, map_tokens, target_tokens, target_text, verb_tokens, pair_tokens, call_text, phased_text, body_text, lookup_name, update_name, batch_name}
use Rattle.map_script.specs.Grammar.{reply_bytes, reply_room}
use Rattle.map_script.specs.Plain.{is_token, AreTokens, joined}
use Rattle.map_script.specs.WellFormed.{HasPhases}
use Rattle.map_script.proofs.TokenLines.{AreLines, text_of_lines}
use Rattle.map_script.proofs.TokenValues.{IsNumber, is_token-decimal, is_token-flag_token, is_token-start_token, is_token-kind_name, is_token-encode_lower}
use Rattle.map_script.proofs.CallScripts.{ArePairs, AreKeys, IsVerb, IsAttr, AreAsked, AreCalls, IsListed}

abbrev pub version_tokens : ℕ → List (List ℕ)
version_tokens version = codes "bpfmap" ∷ decimal version ∷ []

abbrev pub call_tokens : Call → List (List ℕ)
call_tokens call = decimal call.cpu ∷ verb_tokens call.verb

abbrev pub phase_tokens : List (List ℕ)
phase_tokens = codes "phase" ∷ []

-- the lines of calls, behind so many others, and of the phases that start among them
abbrev pub phased_lines : ℕ → List ℕ → List Call → List (List (List ℕ))
phased_lines before [] calls = map call_tokens calls
phased_lines before (cut ∷ cuts) calls =
    map call_tokens (take (cut - before) calls) ++ phase_tokens ∷ phased_lines cut cuts (drop (cut - before) calls)

-- the target line of a script that has a target
abbrev pub target_lines : Option Target → List (List (List ℕ))
target_lines None = []
target_lines (Some target) = (codes "target" ∷ target_tokens target) ∷ []

-- the lines of a script that has no spec
abbrev pub script_lines : Script → List (List (List ℕ))
script_lines script =
    version_tokens script.version ∷ (codes "map" ∷ map_tokens script.attr) ∷ (target_lines script.target ++ phased_lines 0 script.cuts script.calls)

-- ---- the text is these lines

pub line_text-append : (first : List ℕ) (others : List (List ℕ)) (rest : List ℕ) → line_text first others ++ rest ≡ joined (first ∷ others) ++ 10 ∷ rest
line_text-append first others rest = append_assoc (first ++ spaced others) (10 ∷ []) rest

call_lines : (calls : List Call) → flat_map call_text calls ≡ text_of_lines (map call_tokens calls)
call_lines [] = refl
call_lines (call ∷ calls) =
    ap (λ (text : List ℕ). call_text call ++ text) (call_lines calls)
    ∙ line_text-append (decimal call.cpu) (verb_tokens call.verb) (text_of_lines (map call_tokens calls))

text-append : (lines others : List (List (List ℕ))) → text_of_lines (lines ++ others) ≡ text_of_lines lines ++ text_of_lines others
text-append [] others = refl
text-append (tokens ∷ lines) others =
    ap (λ (text : List ℕ). joined tokens ++ 10 ∷ text) (text-append lines others)
    ∙ sym (append_assoc (joined tokens) (10 ∷ text_of_lines lines) (text_of_lines others))

phases_lines : (before : ℕ) (cuts : List ℕ) (calls : List Call) → phased_text before cuts calls ≡ text_of_lines (phased_lines before cuts calls)
phases_lines before [] calls = call_lines calls
phases_lines before (cut ∷ cuts) calls =
    let now = take (cut - before) calls in
    let behind = drop (cut - before) calls in
    let lines = phased_lines cut cuts behind in
    append_assoc (flat_map call_text now) (codes "phase\n") (phased_text cut cuts behind)
    ∙ ap (λ (text : List ℕ). flat_map call_text now ++ (codes "phase\n" ++ text)) (phases_lines cut cuts behind)
    ∙ ap (λ (text : List ℕ). text ++ (codes "phase\n" ++ text_of_lines lines)) (call_lines now)
    ∙ sym (text-append (map call_tokens now) (phase_tokens ∷ lines))

targets_lines : (target : Option Target) (lines : List (List (List ℕ))) → target_text target ++ text_of_lines lines ≡ text_of_lines (target_lines target ++ lines)
targets_lines None lines = refl
targets_lines (Some target) lines = line_text-append (codes "target") (target_tokens target) (text_of_lines lines)

pub canonical-lines : (script : Script) → script.spec ≡ None → canonical script ≡ text_of_lines (script_lines script)
unfolding canonical
canonical-lines script no_spec =
    let version_line = line_text (codes "bpfmap") (decimal script.version ∷ []) in
    let map_line = line_text (codes "map") (map_tokens script.attr) in
    let target = target_text script.target in
    let phases = phased_lines 0 script.cuts script.calls in
    let lines = target_lines script.target ++ phases in
    append_assoc (version_line ++ map_line) target (body_text script.spec script.cuts script.calls)
    ∙ append_assoc version_line map_line (target ++ body_text script.spec script.cuts script.calls)
    ∙ ap (λ spec. version_line ++ (map_line ++ (target ++ body_text spec script.cuts script.calls))) no_spec
    ∙ ap (λ (text : List ℕ). version_line ++ (map_line ++ (target ++ text))) (phases_lines 0 script.cuts script.calls)
    ∙ ap (λ (text : List ℕ). version_line ++ (map_line ++ text)) (targets_lines script.target phases)
    ∙ ap (λ (text : List ℕ). version_line ++ text) (line_text-append (codes "map") (map_tokens script.attr) (text_of_lines lines))
    ∙ line_text-append (codes "bpfmap") (decimal script.version ∷ []) (text_of_lines ((codes "map" ∷ map_tokens script.attr) ∷ lines))

-- ---- the tokens are tokens

-- keys and values have some bytes
pub record HasSomeBytes (shape : Shape) : Type 0 where
  pub key : 1 ≤ shape.key_size
  pub value : (side : Side) → 1 ≤ value_len_of shape side

some_value : (shape : Shape) → 1 ≤ shape.cpus → 1 ≤ shape.value_size → (side : Side) → 1 ≤ value_len_of shape side
some_value shape cpus value Prog = value
some_value shape cpus value Sys =
    let up : shape.value_size ≤ round8 shape.value_size = rounded_up shape.value_size 8 in
    let whole : shape.cpus ≤ shape.cpus * round8 shape.value_size = le-mul_of_pos_right shape.cpus (omega arith) in
    cond_both (is_percpu shape.kind) (shape.cpus * round8 shape.value_size) shape.value_size (λ len. 1 ≤ len) (λ percpu. omega arith) (λ other. value)

pub HasSomeBytes-created : (attr : CreateAttr) (shape : Shape) → creation attr ≡ Ok shape → HasSomeBytes shape
HasSomeBytes-created attr shape created =
    let bounds : HasBounds shape = bounds_of_shape shape record { attr = attr; accepted = created } in
    record { key = bounds.some_key; value = some_value shape bounds.some_cpu bounds.some_value }

tokens-append : (tokens others : List (List ℕ)) → AreTokens tokens → AreTokens others → AreTokens (tokens ++ others)
tokens-append [] others h k = k
tokens-append (token ∷ tokens) others h k = (h.0, tokens-append tokens others h.1 k)

tokens_if : (test : Bool) (tokens : List (List ℕ)) → AreTokens tokens → AreTokens (cond test [] tokens)
tokens_if true tokens h = tt
tokens_if false tokens h = h

pairs_are_tokens : (shape : Shape) (pairs : List (List ℕ × List ℕ)) → HasSomeBytes shape → ArePairs shape pairs → AreTokens (flat_map pair_tokens pairs)
pairs_are_tokens shape [] sizes h = tt
pairs_are_tokens shape (pair ∷ pairs) sizes h = (
  is_token-encode_lower shape.key_size pair.0 sizes.key h.0,
  (is_token-encode_lower (value_len_of shape Sys) pair.1 (sizes.value Sys) h.1, pairs_are_tokens shape pairs sizes h.2),
)

keys_are_tokens : (shape : Shape) (keys : List (List ℕ)) → HasSomeBytes shape → AreKeys shape keys → AreTokens (map encode_lower keys)
keys_are_tokens shape [] sizes h = tt
keys_are_tokens shape (key ∷ keys) sizes h =
    (is_token-encode_lower shape.key_size key sizes.key h.0, keys_are_tokens shape keys sizes h.1)

is_token-lookup_name : (side : Side) → is_token (lookup_name side) ≡ true
is_token-lookup_name Prog = refl
is_token-lookup_name Sys = refl

is_token-update_name : (side : Side) → is_token (update_name side) ≡ true
is_token-update_name Prog = refl
is_token-update_name Sys = refl

is_token-batch_name : (remove : Bool) → is_token (batch_name remove) ≡ true
is_token-batch_name false = refl
is_token-batch_name true = refl

verb_are_tokens : (version : ℕ) (shape : Shape) (verb : Verb) → HasSomeBytes shape → IsVerb version shape verb → AreTokens (verb_tokens verb)
verb_are_tokens version shape (Lookup side key) sizes h =
    (is_token-lookup_name side, (is_token-encode_lower shape.key_size key sizes.key h, tt))
verb_are_tokens version shape (Update side flags key value) sizes h = (
  is_token-update_name side,
  (is_token-flag_token flags h.0, (is_token-encode_lower shape.key_size key sizes.key h.1, (is_token-encode_lower (value_len_of shape side) value (sizes.value side) h.2, tt))),
)
verb_are_tokens version shape (Delete key) sizes h = (refl, (is_token-encode_lower shape.key_size key sizes.key h, tt))
verb_are_tokens version shape (Take key) sizes h = (refl, (is_token-encode_lower shape.key_size key sizes.key h, tt))
verb_are_tokens version shape (Next None) sizes h = (refl, tt)
verb_are_tokens version shape (Next (Some key)) sizes h = (refl, (is_token-encode_lower shape.key_size key sizes.key h, tt))
verb_are_tokens version shape (BatchRead remove count start flags) sizes h = (
  is_token-batch_name remove,
  (is_token-decimal count h.0, (is_token-start_token start h.1, tokens_if (flags == 0) (decimal flags ∷ []) (is_token-decimal flags h.2, tt))),
)
verb_are_tokens version shape (BatchUpdate flags pairs) sizes h =
    (refl, (is_token-decimal flags h.0, pairs_are_tokens shape pairs sizes h.1))
verb_are_tokens version shape (BatchDelete flags keys) sizes h =
    (refl, (is_token-decimal flags h.0, keys_are_tokens shape keys sizes h.1))
verb_are_tokens version shape (Each flags None) sizes h = (refl, (is_token-decimal flags h.1, (refl, tt)))
verb_are_tokens version shape (Each flags (Some key)) sizes h = (refl, (is_token-decimal flags h.1, (is_token-encode_lower shape.key_size key sizes.key h.2, tt)))

calls_are_lines : (version : ℕ) (shape : Shape) (count room : ℕ) (calls : List Call) → HasSomeBytes shape → AreCalls version shape count room calls → AreLines (map call_tokens calls)
calls_are_lines version shape count room [] sizes h = tt
calls_are_lines version shape count room (call ∷ calls) sizes h = (
  (is_token-decimal call.cpu h.0.on, verb_are_tokens version shape call.verb sizes h.0.does),
  calls_are_lines version shape (count + 1) _ calls sizes h.3,
)

lines-append : (lines others : List (List (List ℕ))) → AreLines lines → AreLines others → AreLines (lines ++ others)
lines-append [] others h k = k
lines-append (tokens ∷ lines) others h k = (h.0, lines-append lines others h.1 k)

-- the first of some calls, and those behind them
pub calls_front : (version : ℕ) (shape : Shape) (count room : ℕ) (calls others : List Call) → AreCalls version shape count room (calls ++ others) → AreCalls version shape count room calls
calls_front version shape count room [] others h = tt
calls_front version shape count room (call ∷ calls) others h =
    (h.0, h.1, h.2, calls_front version shape (count + 1) (room + reply_bytes shape call.verb) calls others h.3)

pub calls_back : (version : ℕ) (shape : Shape) (count room : ℕ) (calls others : List Call) → AreCalls version shape count room (calls ++ others) → AreCalls version shape (count + length calls) (room + reply_room shape calls) others
calls_back version shape count room [] others h =
    let counted : count ≡ count + 0 = omega arith in
    let replied : room ≡ room + 0 = omega arith in
    subst (λ (n : ℕ). AreCalls version shape n (room + 0) others) counted (subst (λ (n : ℕ). AreCalls version shape count n others) replied h)
calls_back version shape count room (call ∷ calls) others h =
    let counted : count + 1 + length calls ≡ count + length (call ∷ calls) = omega arith in
    let more = sum_by-cons (λ (call : Call). reply_bytes shape call.verb) call calls in
    let replied : room + reply_bytes shape call.verb + reply_room shape calls ≡ room + reply_room shape (call ∷ calls) = omega (arith, more) in
    subst (λ (n : ℕ). AreCalls version shape n (room + reply_room shape (call ∷ calls)) others) counted
    (subst (λ (n : ℕ). AreCalls version shape (count + 1 + length calls) n others) replied
    (calls_back version shape (count + 1) (room + reply_bytes shape call.verb) calls others h.3))

phases_are_lines : (version : ℕ) (shape : Shape) (count room before : ℕ) (cuts : List ℕ) (calls : List Call) → HasSomeBytes shape → AreCalls version shape count room calls → AreLines (phased_lines before cuts calls)
phases_are_lines version shape count room before [] calls sizes h = calls_are_lines version shape count room calls sizes h
phases_are_lines version shape count room before (cut ∷ cuts) calls sizes h =
    let now = take (cut - before) calls in
    let behind = drop (cut - before) calls in
    let both = subst (AreCalls version shape count room) (sym (take-append-drop (cut - before) calls)) h in
    lines-append (map call_tokens now) (phase_tokens ∷ phased_lines cut cuts behind)
    (calls_are_lines version shape count room now sizes (calls_front version shape count room now behind both))
    ((refl, tt), phases_are_lines version shape (count + length now) (room + reply_room shape now) cut cuts behind sizes (calls_back version shape count room now behind both))

version_is_number : (version count : ℕ) (cuts : List ℕ) → HasPhases version count cuts → IsNumber version
version_is_number version count cuts h =
    elim h.known [ inl first ↦ let one = first.0 in omega arith | inr second ↦ omega arith ]

pub map_are_tokens : (attr : CreateAttr) → IsAttr attr → AreTokens (map_tokens attr)
map_are_tokens attr h =
    let flags = tokens_if (attr.flags == 0) (label_and_number (codes "flags") attr.flags) (refl, (is_token-decimal attr.flags h.flags, tt)) in
    let seed = tokens_if (attr.seed == 0) (label_and_number (codes "seed") attr.seed) (refl, (is_token-decimal attr.seed h.seed, tt)) in
    let options = tokens-append (unless_zero attr.flags (label_and_number (codes "flags") attr.flags)) (unless_zero attr.seed (label_and_number (codes "seed") attr.seed)) flags seed in
    (is_token-kind_name attr.kind, (refl, (is_token-decimal attr.key_size h.key, (refl, (is_token-decimal attr.value_size h.value, (refl, (is_token-decimal attr.max_entries h.max, (refl, (is_token-decimal attr.cpus h.cpus, options)))))))))

target_are_tokens : (target : Target) → AreAsked target → AreTokens (target_tokens target)
target_are_tokens target h =
    let attr = target.attr in
    let flags = tokens_if (attr.flags == 0) (label_and_number (codes "flags") attr.flags) (refl, (is_token-decimal attr.flags h.attr.flags, tt)) in
    let seed = tokens_if (attr.seed == 0) (label_and_number (codes "seed") attr.seed) (refl, (is_token-decimal attr.seed h.attr.seed, tt)) in
    let options = tokens-append (unless_zero attr.flags (label_and_number (codes "flags") attr.flags)) (unless_zero attr.seed (label_and_number (codes "seed") attr.seed)) flags seed in
    (is_token-kind_name attr.kind, (refl, (is_token-decimal attr.max_entries h.attr.max, (refl, (is_token-decimal target.count h.count, options)))))

target_are_lines : (target : Option Target) (lines : List (List (List ℕ))) → IfSome target AreAsked → AreLines lines → AreLines (target_lines target ++ lines)
target_are_lines None lines h are = are
target_are_lines (Some target) lines h are = ((refl, target_are_tokens target h), are)

pub script_are_lines : (script : Script) → IsListed script → creation script.attr ≡ Ok script.shape → HasPhases script.version (length script.calls) script.cuts → AreLines (script_lines script)
script_are_lines script h created phases = (
  (refl, (is_token-decimal script.version (version_is_number script.version (length script.calls) script.cuts phases), tt)),
  (
    (refl, map_are_tokens script.attr h.numbers),
    target_are_lines script.target (phased_lines 0 script.cuts script.calls) h.target (phases_are_lines script.version script.shape 0 0 0 script.cuts script.calls (HasSomeBytes-created script.attr script.shape created) h.calls),
  ),
)
