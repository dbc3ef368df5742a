-- Each line of a canonical text is read as what it was written from.
use Rattle.std.proofs.Common.{true≢false, IfSome, length, ◌≡◌, ℕ, ◌+◌, ◌<◌, ◌≤◌, ◌==◌, Bool, true, false, nat_lt, nat_le, cond, List, [], ◌∷◌, ◌++◌, map, Option, Some, None, Result, Ok, Err, refl, sym, ap, subst, ◌∙◌, inl, inr, append-nil, arith}
use Rattle.std.specs.Prelude.{bytes_eq, codes, decimal}
use Rattle.std.specs.List.{flat_map}
use Rattle.std.specs.Option.{ok_or}
use Rattle.std.proofs.lemmas.Bool.{cond-true, cond-false, cases_eq, ne_eqb, lt-ltb, le-leb}
use Rattle.std.proofs.lemmas.Fmt.{decimal_digit}
use Rattle.hex.specs.Hex.{encode_lower, lower_digits}
use Rattle.hex.proofs.HexLemmas.{length-encode_with}
use Rattle.std.proofs.lemmas.Slice.Eq.{bytes_eq-Decides}
use Rattle.map_types.specs.ValueLen.{value_len_of}
use Rattle.map_types.specs.declared.attr.CreateAttr.{CreateAttr}
use Rattle.map_types.specs.declared.attr.Shape.{Shape}
use Rattle.map_types.specs.declared.call.Call.{Call}
use Rattle.map_types.specs.declared.call.Verb.{Verb}
use Rattle.map_types.specs.declared.call.Verb.TheVariants.{Lookup, Update, Delete, Take, Next, BatchRead, BatchUpdate, BatchDelete, Each}
use Rattle.map_types.specs.declared.kind.Side.{Side}
use Rattle.map_types.specs.declared.kind.Side.TheVariants.{Prog, Sys}
use Rattle.map_script.specs.declared.refusal.Cause.{Cause}
use Rattle.map_script.specs.declared.refusal.Cause.TheVariants as causes
use Rattle.map_script.specs.declared.script.Form.{Form}
use Rattle.map_script.specs.declared.script.Form.TheVariants as forms
use Rattle.map_script.specs.Canonical.{label_and_number, unless_zero, map_tokens, verb_tokens, pair_tokens, kind_name, flag_token, start_token, stop_token}
use Rattle.map_script.specs.Grammar.{kind_of, version_named, version_line, map_line, call_line, verb_line, each_places, each_line, named_line, lookup_places, update_places, delete_places, take_places, next_places, batch_read_places, batch_update_places, batch_delete_places, pairs_to_end, keys_to_end, reply_bytes}
use Rattle.map_script.specs.Places.{stop, ◌>>=◌, Tokens, valued, at_end, number, cpu, start, start_of, flag, flag_of, bytes, bytes_in, if_labelled, number_or_end, instead}
use Rattle.map_script.specs.Reading.{call_within}
use Rattle.map_script.specs.Tokens.{number_of}
use Rattle.map_script.proofs.FrontLemmas.{is_named}
use Rattle.map_script.proofs.Gives.{IsVersion}
use Rattle.map_script.proofs.TokenValues.{IsNumber, IsStart, AreBytes, number_of-decimal, flag_of-flag_token, start_of-start_token, kind_of-kind_name, bytes_in-encode_lower}
use Rattle.map_script.proofs.CallScripts.{ArePairs, AreKeys, IsVerb, IsCall, IsAttr}
use Rattle.map_script.proofs.CanonicalTokens.{version_tokens, call_tokens}

-- one step behind another
pub then : {A B E : Type 0} (r : Result A E) (next : A → Result B E) (a : A) (s : Result B E) → r ≡ Ok a → next a ≡ s → (r >>= next) ≡ s
then r next a s first second = ap (λ q. q >>= next) first ∙ second

-- ---- the places

pub valued_at : {A : Type 0} (cause : Cause) (value : List ℕ → Option A) (token : List ℕ) (a : A) (rest : Tokens) → value token ≡ Some a → valued cause value (token ∷ rest) ≡ Ok (a, rest)
valued_at cause value token a rest is = ap (λ o. ok_or o cause >>= (λ found. Ok (found, rest))) is

pub number_at : (n : ℕ) (rest : Tokens) → IsNumber n → number (decimal n ∷ rest) ≡ Ok (n, rest)
number_at n rest h = valued_at causes.Number number_of (decimal n) n rest (number_of-decimal n h)

flag_at : (flags : ℕ) (rest : Tokens) → IsNumber flags → flag (flag_token flags ∷ rest) ≡ Ok (flags, rest)
flag_at flags rest h = valued_at causes.Flag flag_of (flag_token flags) flags rest (flag_of-flag_token flags h)

start_at : (begin : Option ℕ) (rest : Tokens) → IsStart begin → start (start_token begin ∷ rest) ≡ Ok (begin, rest)
start_at begin rest h = valued_at causes.Number start_of (start_token begin) begin rest (start_of-start_token begin h)

bytes_at : (size : ℕ) (written : List ℕ) (rest : Tokens) → AreBytes size written → bytes size (encode_lower written ∷ rest) ≡ Ok (written, rest)
bytes_at size written rest h =
    then (bytes_in size (encode_lower written)) (λ found. Ok (found, rest)) written (Ok (written, rest)) (bytes_in-encode_lower size written h) refl

cpu_at : (cpus on : ℕ) (rest : Tokens) → IsNumber on → on < cpus → cpu cpus (decimal on ∷ rest) ≡ Ok (on, rest)
cpu_at cpus on rest h below =
    then (number (decimal on ∷ rest)) _ (on, rest) (Ok (on, rest)) (number_at on rest h)
    (cond-true (nat_lt on cpus) (Ok (on, rest)) (Err causes.Cpu) (lt-ltb on cpus below))

number_or_end_at : (n : ℕ) → IsNumber n → number_or_end (unless_zero n (decimal n ∷ [])) ≡ Ok (n, [])
number_or_end_at n h =
    elim (cases_eq n 0) [
      | inl none ↦ rw none refl
      | inr some ↦
          ap number_or_end (cond-false (n == 0) [] (decimal n ∷ []) (ne_eqb n 0 some)) ∙ number_at n [] h
    ]

pub if_labelled_at : (label : List ℕ) (n : ℕ) (rest : Tokens) → bytes_eq label label ≡ true → IsNumber n → if_labelled label rest ≡ Ok (0, rest) → if_labelled label (unless_zero n (label_and_number label n) ++ rest) ≡ Ok (n, rest)
if_labelled_at label n rest same h other =
    elim (cases_eq n 0) [
      | inl none ↦ rw none other
      | inr some ↦
          ap (λ (tokens : Tokens). if_labelled label (tokens ++ rest)) (cond-false (n == 0) [] (label ∷ decimal n ∷ []) (ne_eqb n 0 some))
          ∙ cond-true (bytes_eq label label) (number (decimal n ∷ rest)) (Ok (0, label ∷ decimal n ∷ rest)) same ∙ number_at n rest h
    ]

-- where the line has no flags
pub no_flags : (test : Bool) (tokens : Tokens) → if_labelled (codes "flags") (cond test [] (codes "seed" ∷ tokens)) ≡ Ok (0, cond test [] (codes "seed" ∷ tokens))
no_flags true tokens = refl
no_flags false tokens = refl

-- where nothing follows
pub last_labelled_at : (label : List ℕ) (n : ℕ) → bytes_eq label label ≡ true → IsNumber n → if_labelled label (unless_zero n (label_and_number label n)) ≡ Ok (n, [])
last_labelled_at label n same h =
    ap (if_labelled label) (sym (append-nil (unless_zero n (label_and_number label n)))) ∙ if_labelled_at label n [] same h refl

-- ---- the verbs

lookup_read : (shape : Shape) (side : Side) (key : List ℕ) → AreBytes shape.key_size key → lookup_places shape side (encode_lower key ∷ []) ≡ Ok (Lookup side key)
unfolding lookup_places
lookup_read shape side key h = then _ _ (key, []) _ (bytes_at shape.key_size key [] h) refl

update_read : (shape : Shape) (side : Side) (flags : ℕ) (key value : List ℕ) → IsNumber flags → AreBytes shape.key_size key → AreBytes (value_len_of shape side) value
    → update_places shape side (flag_token flags ∷ encode_lower key ∷ encode_lower value ∷ []) ≡ Ok (Update side flags key value)
unfolding update_places
update_read shape side flags key value flags_is key_is value_is =
    then _ _ (flags, encode_lower key ∷ encode_lower value ∷ []) _ (flag_at flags _ flags_is)
    (then _ _ (key, encode_lower value ∷ []) _ (bytes_at shape.key_size key _ key_is)
    (then _ _ (value, []) _ (bytes_at (value_len_of shape side) value [] value_is) refl))

delete_read : (shape : Shape) (key : List ℕ) → AreBytes shape.key_size key → delete_places shape (encode_lower key ∷ []) ≡ Ok (Delete key)
unfolding delete_places
delete_read shape key h = then _ _ (key, []) _ (bytes_at shape.key_size key [] h) refl

take_read : (shape : Shape) (key : List ℕ) → AreBytes shape.key_size key → take_places shape (encode_lower key ∷ []) ≡ Ok (Take key)
unfolding take_places
take_read shape key h = then _ _ (key, []) _ (bytes_at shape.key_size key [] h) refl

next_read : (shape : Shape) (key : List ℕ) → AreBytes shape.key_size key → next_places shape (encode_lower key ∷ []) ≡ Ok (Next (Some key))
unfolding next_places
next_read shape key h = then _ _ (key, []) _ (bytes_at shape.key_size key [] h) refl

first_read : (shape : Shape) → next_places shape [] ≡ Ok (Next None)
unfolding next_places
first_read shape = refl

batch_read_read : (remove : Bool) (count : ℕ) (begin : Option ℕ) (flags : ℕ) → IsNumber count → IsStart begin → IsNumber flags
    → batch_read_places remove (decimal count ∷ start_token begin ∷ unless_zero flags (decimal flags ∷ [])) ≡ Ok (BatchRead remove count begin flags)
unfolding batch_read_places
batch_read_read remove count begin flags count_is begin_is flags_is =
    then _ _ (count, start_token begin ∷ unless_zero flags (decimal flags ∷ [])) _ (number_at count _ count_is)
    (then _ _ (begin, unless_zero flags (decimal flags ∷ [])) _ (start_at begin _ begin_is)
    (then _ _ (flags, []) _ (number_or_end_at flags flags_is) refl))

pairs_read : (shape : Shape) (pairs : List (List ℕ × List ℕ)) → ArePairs shape pairs → pairs_to_end shape (flat_map pair_tokens pairs) ≡ Ok pairs
pairs_read shape [] h = refl
pairs_read shape (pair ∷ pairs) h =
    then _ _ pair.0 _ (bytes_in-encode_lower shape.key_size pair.0 h.0)
    (then _ _ pair.1 _ (bytes_in-encode_lower (value_len_of shape Sys) pair.1 h.1)
    (then _ _ pairs _ (pairs_read shape pairs h.2) refl))

keys_read : (shape : Shape) (keys : List (List ℕ)) → AreKeys shape keys → keys_to_end shape (map encode_lower keys) ≡ Ok keys
keys_read shape [] h = refl
keys_read shape (key ∷ keys) h =
    then _ _ key _ (bytes_in-encode_lower shape.key_size key h.0) (then _ _ keys _ (keys_read shape keys h.1) refl)

batch_update_read : (shape : Shape) (flags : ℕ) (pairs : List (List ℕ × List ℕ)) → IsNumber flags → ArePairs shape pairs → batch_update_places shape (decimal flags ∷ flat_map pair_tokens pairs) ≡ Ok (BatchUpdate flags pairs)
unfolding batch_update_places
batch_update_read shape flags pairs flags_is pairs_are =
    then _ _ (flags, flat_map pair_tokens pairs) _ (number_at flags _ flags_is) (then _ _ pairs _ (pairs_read shape pairs pairs_are) refl)

batch_delete_read : (shape : Shape) (flags : ℕ) (keys : List (List ℕ)) → IsNumber flags → AreKeys shape keys → batch_delete_places shape (decimal flags ∷ map encode_lower keys) ≡ Ok (BatchDelete flags keys)
unfolding batch_delete_places
batch_delete_read shape flags keys flags_is keys_are =
    then _ _ (flags, map encode_lower keys) _ (number_at flags _ flags_is) (then _ _ keys _ (keys_read shape keys keys_are) refl)

-- ---- the lines

-- a walk over all elements
abbrev is_each : Verb → Bool
is_each (Lookup side key) = false
is_each (Update side flags key value) = false
is_each (Delete key) = false
is_each (Take key) = false
is_each (Next key) = false
is_each (BatchRead remove count begin flags) = false
is_each (BatchUpdate flags pairs) = false
is_each (BatchDelete flags keys) = false
is_each (Each flags stop) = true

verb_read : (version : ℕ) (shape : Shape) (verb : Verb) → IsVerb version shape verb → (is_each verb ≡ false) → verb_line shape (verb_tokens verb) ≡ Ok verb
unfolding verb_line
verb_read version shape (Lookup Prog key) h other = lookup_read shape Prog key h
verb_read version shape (Lookup Sys key) h other = lookup_read shape Sys key h
verb_read version shape (Update Prog flags key value) h other = update_read shape Prog flags key value h.0 h.1 h.2
verb_read version shape (Update Sys flags key value) h other = update_read shape Sys flags key value h.0 h.1 h.2
verb_read version shape (Delete key) h other = delete_read shape key h
verb_read version shape (Take key) h other = take_read shape key h
verb_read version shape (Next None) h other = first_read shape
verb_read version shape (Next (Some key)) h other = next_read shape key h
verb_read version shape (BatchRead false count begin flags) h other = batch_read_read false count begin flags h.0 h.1 h.2
verb_read version shape (BatchRead true count begin flags) h other = batch_read_read true count begin flags h.0 h.1 h.2
verb_read version shape (BatchUpdate flags pairs) h other = batch_update_read shape flags pairs h.0 h.1
verb_read version shape (BatchDelete flags keys) h other = batch_delete_read shape flags keys h.0 h.1
verb_read version shape (Each flags stop) h other = absurd (true≢false other)

-- the digits of a key are no `-`, since there are two for each byte
no_dash : (key : List ℕ) → bytes_eq (encode_lower key) (codes "-") ≡ false
no_dash key = by (bytes_eq (encode_lower key) (codes "-")) refl
  where
    by : (same : Bool) → bytes_eq (encode_lower key) (codes "-") ≡ same → same ≡ false
    by false is = refl
    by true is = absurd (omega (arith, length-encode_with lower_digits key, ap length ((bytes_eq-Decides (encode_lower key) (codes "-")).0 is)))

stop_at : (size : ℕ) (key : Option (List ℕ)) (rest : Tokens) → IfSome key (AreBytes size) → stop size (stop_token key ∷ rest) ≡ Ok (key, rest)
stop_at size None rest h = refl
stop_at size (Some key) rest h =
    then _ _ (Some key) _ (cond-false (bytes_eq (encode_lower key) (codes "-")) _ _ (no_dash key) ∙ then _ _ key _ (bytes_in-encode_lower size key h) refl) refl

each_read : (shape : Shape) (flags : ℕ) (key : Option (List ℕ)) → IsNumber flags → IfSome key (AreBytes shape.key_size) → each_line shape (codes "each" ∷ decimal flags ∷ stop_token key ∷ []) ≡ Ok (Each flags key)
unfolding each_line each_places
each_read shape flags key flags_is key_is =
    then _ _ (flags, stop_token key ∷ []) _ (number_at flags _ flags_is) (then _ _ (key, []) _ (stop_at shape.key_size key [] key_is) refl)

-- in version 2 a walk over all elements is read as `each`, and every other verb by its name
named_read : (version : ℕ) (shape : Shape) (verb : Verb) → IsVerb version shape verb → named_line version shape (verb_tokens verb) ≡ Ok verb
unfolding named_line
named_read version shape (Lookup side key) h = is_named version shape _ _ (verb_read version shape (Lookup side key) h refl)
named_read version shape (Update side flags key value) h = is_named version shape _ _ (verb_read version shape (Update side flags key value) h refl)
named_read version shape (Delete key) h = is_named version shape _ _ (verb_read version shape (Delete key) h refl)
named_read version shape (Take key) h = is_named version shape _ _ (verb_read version shape (Take key) h refl)
named_read version shape (Next key) h = is_named version shape _ _ (verb_read version shape (Next key) h refl)
named_read version shape (BatchRead remove count begin flags) h = is_named version shape _ _ (verb_read version shape (BatchRead remove count begin flags) h refl)
named_read version shape (BatchUpdate flags pairs) h = is_named version shape _ _ (verb_read version shape (BatchUpdate flags pairs) h refl)
named_read version shape (BatchDelete flags keys) h = is_named version shape _ _ (verb_read version shape (BatchDelete flags keys) h refl)
named_read version shape (Each flags key) h =
    subst (λ (v : ℕ). named_line v shape (codes "each" ∷ decimal flags ∷ stop_token key ∷ []) ≡ Ok (Each flags key)) (sym h.0) (each_read shape flags key h.1 h.2)

call_read : (version : ℕ) (shape : Shape) (call : Call) → IsCall version shape call → call_line version shape (call_tokens call) ≡ Ok call
unfolding call_line
call_read version shape call h =
    then _ _ (call.cpu, verb_tokens call.verb) _ (cpu_at shape.cpus call.cpu (verb_tokens call.verb) h.on h.one_of)
    (then _ _ call.verb _ (named_read version shape call.verb h.does) refl)

-- the version line, by the version that its last token names
abbrev version_found : Option ℕ → Result (ℕ × Tokens) Cause
version_found version = ok_or version causes.Version >>= λ found. Ok (found, [])

abbrev version_of : Option ℕ → Result ℕ Cause
version_of version = instead causes.Version (version_found version >>= λ found. at_end found.0 found.1)

first_read_as : (form : Form) → version_named form (codes "1") ≡ Some 1 → version_line form (version_tokens 1) ≡ Ok 1
unfolding version_line
first_read_as form named =
    ap (λ (token : List ℕ). version_line form (codes "bpfmap" ∷ token ∷ [])) (decimal_digit 1 (omega arith))
    ∙ ap version_of named

second_read_as : (form : Form) → version_named form (codes "2") ≡ Some 2 → version_line form (version_tokens 2) ≡ Ok 2
unfolding version_line
second_read_as form named =
    ap (λ (token : List ℕ). version_line form (codes "bpfmap" ∷ token ∷ [])) (decimal_digit 2 (omega arith))
    ∙ ap version_of named

pub version_read : (form : Form) (version : ℕ) → IsVersion form version → version_line form (version_tokens version) ≡ Ok version
version_read forms.Calls version (inl first) = subst (λ (v : ℕ). version_line forms.Calls (version_tokens v) ≡ Ok v) (sym first) (first_read_as forms.Calls refl)
version_read forms.Calls version (inr second) = subst (λ (v : ℕ). version_line forms.Calls (version_tokens v) ≡ Ok v) (sym second) (second_read_as forms.Calls refl)
version_read forms.Generator version first = subst (λ (v : ℕ). version_line forms.Generator (version_tokens v) ≡ Ok v) (sym first) (first_read_as forms.Generator refl)
version_read forms.Copy version second = subst (λ (v : ℕ). version_line forms.Copy (version_tokens v) ≡ Ok v) (sym second) (second_read_as forms.Copy refl)

pub map_read : (attr : CreateAttr) → IsAttr attr → map_line (codes "map" ∷ map_tokens attr) ≡ Ok attr
unfolding map_line
map_read attr h =
    let seed = unless_zero attr.seed (label_and_number (codes "seed") attr.seed) in
    let options = unless_zero attr.flags (label_and_number (codes "flags") attr.flags) ++ seed in
    let without_flags : if_labelled (codes "flags") seed ≡ Ok (0, seed) = no_flags (attr.seed == 0) (decimal attr.seed ∷ []) in
    ap (instead causes.Map)
    (then _ _ (attr.kind, _) _ (valued_at causes.Map kind_of (kind_name attr.kind) attr.kind _ (kind_of-kind_name attr.kind))
    (then _ _ (attr.key_size, _) _ (number_at attr.key_size _ h.key)
    (then _ _ (attr.value_size, _) _ (number_at attr.value_size _ h.value)
    (then _ _ (attr.max_entries, _) _ (number_at attr.max_entries _ h.max)
    (then _ _ (attr.cpus, options) _ (number_at attr.cpus _ h.cpus)
    (then _ _ (attr.flags, seed) _ (if_labelled_at (codes "flags") attr.flags seed refl h.flags without_flags)
    (then _ _ (attr.seed, []) (Ok attr) (last_labelled_at (codes "seed") attr.seed refl h.seed) refl)))))))

-- ---- a call within the limits

pub within_read : (version : ℕ) (shape : Shape) (count room : ℕ) (call : Call) → IsCall version shape call → count < 200000 → room + reply_bytes shape call.verb ≤ 67108864 → call_within version shape count room (call_tokens call) ≡ Ok call
within_read version shape count room call h few fits =
    then _ _ call _ (call_read version shape call h)
    (cond-true (nat_lt count 200000) _ _ (lt-ltb count 200000 few)
    ∙ cond-true (nat_le (room + reply_bytes shape call.verb) 67108864) (Ok call) (Err causes.Room) (le-leb (room + reply_bytes shape call.verb) 67108864 fits))
