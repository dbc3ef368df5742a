-- What a script that form Calls gives is like: its numbers, its keys and values, and its limits.
use Rattle.std.proofs.Common.{◌≡◌, ℕ, ◌+◌, ◌<◌, ◌≤◌, ◌==◌, Bool, true, false, nat_lt, cond, List, [], ◌∷◌, ◌++◌, length, Option, Some, None, Result, Ok, Err, refl, subst, arith}
use Rattle.std.specs.Prelude.{IfSome, IfOk, bytes_eq, codes}
use Rattle.std.proofs.lemmas.Bool.{and_parts, cond_both, eqb-true, ltb-true}
use Rattle.std.proofs.lemmas.List.Sums.{sum_by-cons}
use Rattle.map_types.specs.Creation.{creation}
use Rattle.map_types.specs.ValueLen.{value_len_of}
use Rattle.map_types.specs.declared.attr.CreateAttr.{CreateAttr}
use Rattle.map_types.specs.declared.attr.Shape.{Shape}
use Rattle.map_types.specs.declared.call.Call.{Call}
use Rattle.map_types.specs.declared.call.Verb.{Verb}
use Rattle.map_types.specs.declared.call.Verb.TheVariants.{Lookup, Update, Delete, Take, Next, BatchRead, BatchUpdate, BatchDelete, Each}
use Rattle.map_types.specs.declared.kind.Side.{Side}
use Rattle.map_types.specs.declared.kind.Side.TheVariants.{Prog, Sys}
use Rattle.map_script.specs.declared.body.Body.{Body}
use Rattle.map_script.specs.declared.body.BodyLine.{BodyLine}
use Rattle.map_script.specs.declared.body.BodyLine.TheVariants as says
use Rattle.map_script.specs.declared.refusal.Cause.{Cause}
use Rattle.map_script.specs.declared.refusal.Cause.TheVariants as causes
use Rattle.map_script.specs.declared.refusal.ScriptRefusal.{ScriptRefusal}
use Rattle.map_script.specs.declared.script.Form.TheVariants as forms
use Rattle.map_script.specs.declared.script.GenSpec.{GenSpec}
use Rattle.map_script.specs.declared.script.Script.{Script}
use Rattle.map_script.specs.declared.script.Target.{Target}
use Rattle.map_script.specs.Grammar.{kind_of, version_line, map_line, map_attr, call_line, call_on, verb_line, each_places, each_line, names_each, named_line, lookup_places, update_places, delete_places, take_places, next_places, batch_read_places, batch_update_places, batch_delete_places, pairs_to_end, keys_to_end, reply_bytes, reply_room}
use Rattle.map_script.specs.Lines.{Line, lines_of, end_number}
use Rattle.map_script.specs.Places.{◌>>=◌, Tokens, valued, number, cpu, start, start_of, stop_in, stop, is_next, flag, flag_of, bytes, bytes_in, labelled, if_labelled, number_or_end, word}
use Rattle.map_script.specs.Reading.{at_line, or_create, with_next, no_body, body_from, body_of, map_of, version_of, read_as, script_of}
use Rattle.map_script.specs.Tokens.{number_of}
use Rattle.map_script.specs.WellFormed.{HasPhases}
use Rattle.map_script.proofs.BodyLines.{Tells, lines_hold}
use Rattle.map_script.proofs.Gives.{found_gives, and_then, and_any, Found, valued_gives, end_gives, instead_gives, at_line_gives}
use Rattle.map_script.proofs.TokenValues.{IsNumber, IsStart, AreBytes, number_of_gives, flag_of_gives, start_of_gives, bytes_in_gives}

-- ---- what is known of each part

abbrev pub ArePairs : Shape → List (List ℕ × List ℕ) → Type 0
ArePairs shape [] = Unit {0}
ArePairs shape (pair ∷ pairs) =
    AreBytes shape.key_size pair.0 × AreBytes (value_len_of shape Sys) pair.1 × ArePairs shape pairs

abbrev pub AreKeys : Shape → List (List ℕ) → Type 0
AreKeys shape [] = Unit {0}
AreKeys shape (key ∷ keys) = AreBytes shape.key_size key × AreKeys shape keys

abbrev pub IsVerb : ℕ → Shape → Verb → Type 0
IsVerb version shape (Lookup side key) = AreBytes shape.key_size key
IsVerb version shape (Update side flags key value) =
    IsNumber flags × AreBytes shape.key_size key × AreBytes (value_len_of shape side) value
IsVerb version shape (Delete key) = AreBytes shape.key_size key
IsVerb version shape (Take key) = AreBytes shape.key_size key
IsVerb version shape (Next key) = IfSome key (AreBytes shape.key_size)
IsVerb version shape (BatchRead remove count start flags) = IsNumber count × IsStart start × IsNumber flags
IsVerb version shape (BatchUpdate flags pairs) = IsNumber flags × ArePairs shape pairs
IsVerb version shape (BatchDelete flags keys) = IsNumber flags × AreKeys shape keys
IsVerb version shape (Each flags stop) = (version ≡ 2) × IsNumber flags × IfSome stop (AreBytes shape.key_size)

pub record IsCall (version : ℕ) (shape : Shape) (call : Call) : Type 0 where
  pub on : IsNumber call.cpu
  pub one_of : call.cpu < shape.cpus
  pub does : IsVerb version shape call.verb

pub record IsAttr (attr : CreateAttr) : Type 0 where
  pub key : IsNumber attr.key_size
  pub value : IsNumber attr.value_size
  pub max : IsNumber attr.max_entries
  pub cpus : IsNumber attr.cpus
  pub flags : IsNumber attr.flags
  pub seed : IsNumber attr.seed

-- calls behind so many calls whose replies may have so many bytes
abbrev pub AreCalls : ℕ → Shape → ℕ → ℕ → List Call → Type 0
AreCalls version shape count room [] = Unit {0}
AreCalls version shape count room (call ∷ calls) =
    IsCall version shape call × (count < 200000) × (room + reply_bytes shape call.verb ≤ 67108864)
    × AreCalls version shape (count + 1) (room + reply_bytes shape call.verb) calls

abbrev pub script_with : ℕ → CreateAttr → Shape → List Call → List ℕ → Option GenSpec → Option Target → Script
script_with version attr shape calls cuts spec target =
    record { version = version; attr = attr; shape = shape; calls = calls; cuts = cuts; spec = spec; target = target }

pub record IsCallScript (script : Script) : Type 0 where
  pub numbers : IsAttr script.attr
  pub created : creation script.attr ≡ Ok script.shape
  pub calls : AreCalls script.version script.shape 0 0 script.calls
  pub phases : HasPhases script.version (length script.calls) script.cuts
  pub no_spec : script.spec ≡ None
  pub no_target : script.target ≡ None

-- the numbers of a target line
pub record AreAsked (target : Target) : Type 0 where
  pub attr : IsAttr target.attr
  pub count : IsNumber target.count

-- ---- the places

number_gives : (tokens : Tokens) → IfOk (number tokens) (Found IsNumber)
number_gives tokens = valued_gives causes.Number number_of IsNumber number_of_gives tokens

start_gives : (tokens : Tokens) → IfOk (start tokens) (Found IsStart)
start_gives tokens = valued_gives causes.Number start_of IsStart start_of_gives tokens

flag_gives : (tokens : Tokens) → IfOk (flag tokens) (Found IsNumber)
flag_gives tokens = valued_gives causes.Flag flag_of IsNumber flag_of_gives tokens

bytes_gives : (size : ℕ) (tokens : Tokens) → IfOk (bytes size tokens) (Found (AreBytes size))
bytes_gives size [] = tt
bytes_gives size (first ∷ rest) =
    and_then (AreBytes size) (Found (AreBytes size)) (bytes_in size first) (λ found. Ok (found, rest)) (bytes_in_gives size first) (λ found h. h)

abbrev IsCpu : ℕ → ℕ → Type 0
IsCpu cpus on = IsNumber on × (on < cpus)

cpu_gives : (cpus : ℕ) (tokens : Tokens) → IfOk (cpu cpus tokens) (Found (IsCpu cpus))
cpu_gives cpus tokens =
    and_then (Found IsNumber) (Found (IsCpu cpus)) (number tokens) _ (number_gives tokens) (λ found is.
    cond_both (nat_lt found.0 cpus) (Ok found) (Err causes.Cpu) (λ r. IfOk r (Found (IsCpu cpus)))
    (λ below. (is, ltb-true found.0 cpus below)) (λ above. tt))

pub labelled_gives : (label : List ℕ) (tokens : Tokens) → IfOk (labelled label tokens) (Found IsNumber)
labelled_gives label tokens =
    and_any (Found IsNumber) (word causes.Missing label tokens) _ (λ found. number_gives found.1)

zero_number : IsNumber 0
zero_number = omega arith

pub if_labelled_gives : (label : List ℕ) (tokens : Tokens) → IfOk (if_labelled label tokens) (Found IsNumber)
if_labelled_gives label [] = zero_number
if_labelled_gives label (first ∷ rest) =
    cond_both (bytes_eq first label) (number rest) (Ok (0, first ∷ rest)) (λ r. IfOk r (Found IsNumber)) (λ same. number_gives rest) (λ other. zero_number)

number_or_end_gives : (tokens : Tokens) → IfOk (number_or_end tokens) (Found IsNumber)
number_or_end_gives [] = zero_number
number_or_end_gives (first ∷ rest) = number_gives (first ∷ rest)

-- ---- the verbs

lookup_gives : (version : ℕ) (shape : Shape) (side : Side) (places : Tokens) → IfOk (lookup_places shape side places) (IsVerb version shape)
unfolding lookup_places
lookup_gives version shape side places =
    and_then (Found (AreBytes shape.key_size)) (IsVerb version shape) (bytes shape.key_size places) _ (bytes_gives shape.key_size places) (λ key key_is.
    end_gives (IsVerb version shape) (Lookup side key.0) key.1 key_is)

update_gives : (version : ℕ) (shape : Shape) (side : Side) (places : Tokens) → IfOk (update_places shape side places) (IsVerb version shape)
unfolding update_places
update_gives version shape side places =
    and_then (Found IsNumber) (IsVerb version shape) (flag places) _ (flag_gives places) (λ flags flags_is.
    and_then (Found (AreBytes shape.key_size)) (IsVerb version shape) (bytes shape.key_size flags.1) _ (bytes_gives shape.key_size flags.1) (λ key key_is.
    and_then (Found (AreBytes (value_len_of shape side))) (IsVerb version shape) (bytes (value_len_of shape side) key.1) _ (bytes_gives (value_len_of shape side) key.1) (λ value value_is.
    end_gives (IsVerb version shape) (Update side flags.0 key.0 value.0) value.1 (flags_is, key_is, value_is))))

delete_gives : (version : ℕ) (shape : Shape) (places : Tokens) → IfOk (delete_places shape places) (IsVerb version shape)
unfolding delete_places
delete_gives version shape places =
    and_then (Found (AreBytes shape.key_size)) (IsVerb version shape) (bytes shape.key_size places) _ (bytes_gives shape.key_size places) (λ key key_is.
    end_gives (IsVerb version shape) (Delete key.0) key.1 key_is)

take_gives : (version : ℕ) (shape : Shape) (places : Tokens) → IfOk (take_places shape places) (IsVerb version shape)
unfolding take_places
take_gives version shape places =
    and_then (Found (AreBytes shape.key_size)) (IsVerb version shape) (bytes shape.key_size places) _ (bytes_gives shape.key_size places) (λ key key_is.
    end_gives (IsVerb version shape) (Take key.0) key.1 key_is)

next_gives : (version : ℕ) (shape : Shape) (places : Tokens) → IfOk (next_places shape places) (IsVerb version shape)
unfolding next_places
next_gives version shape [] = tt
next_gives version shape (first ∷ rest) =
    and_then (Found (AreBytes shape.key_size)) (IsVerb version shape) (bytes shape.key_size (first ∷ rest)) _ (bytes_gives shape.key_size (first ∷ rest)) (λ key key_is.
    end_gives (IsVerb version shape) (Next (Some key.0)) key.1 key_is)

batch_read_gives : (version : ℕ) (shape : Shape) (remove : Bool) (places : Tokens) → IfOk (batch_read_places remove places) (IsVerb version shape)
unfolding batch_read_places
batch_read_gives version shape remove places =
    and_then (Found IsNumber) (IsVerb version shape) (number places) _ (number_gives places) (λ count count_is.
    and_then (Found IsStart) (IsVerb version shape) (start count.1) _ (start_gives count.1) (λ begin begin_is.
    and_then (Found IsNumber) (IsVerb version shape) (number_or_end begin.1) _ (number_or_end_gives begin.1) (λ flags flags_is.
    end_gives (IsVerb version shape) (BatchRead remove count.0 begin.0 flags.0) flags.1 (count_is, begin_is, flags_is))))

pairs_give : (shape : Shape) (tokens : Tokens) → IfOk (pairs_to_end shape tokens) (ArePairs shape)
pairs_give shape [] = tt
pairs_give shape (first ∷ []) =
    and_any (ArePairs shape) (bytes_in shape.key_size first) (λ key. Err causes.Missing) (λ key. tt)
pairs_give shape (first ∷ second ∷ rest) =
    let others = pairs_give shape rest in
    and_then (AreBytes shape.key_size) (ArePairs shape) (bytes_in shape.key_size first) _ (bytes_in_gives shape.key_size first) (λ key key_is.
    and_then (AreBytes (value_len_of shape Sys)) (ArePairs shape) (bytes_in (value_len_of shape Sys) second) _ (bytes_in_gives (value_len_of shape Sys) second) (λ value value_is.
    and_then (ArePairs shape) (ArePairs shape) (pairs_to_end shape rest) (λ pairs. Ok ((key, value) ∷ pairs)) others (λ pairs pairs_are. (key_is, value_is, pairs_are))))

keys_give : (shape : Shape) (tokens : Tokens) → IfOk (keys_to_end shape tokens) (AreKeys shape)
keys_give shape [] = tt
keys_give shape (first ∷ rest) =
    let others = keys_give shape rest in
    and_then (AreBytes shape.key_size) (AreKeys shape) (bytes_in shape.key_size first) _ (bytes_in_gives shape.key_size first) (λ key key_is.
    and_then (AreKeys shape) (AreKeys shape) (keys_to_end shape rest) (λ keys. Ok (key ∷ keys)) others (λ keys keys_are. (key_is, keys_are)))

batch_update_gives : (version : ℕ) (shape : Shape) (places : Tokens) → IfOk (batch_update_places shape places) (IsVerb version shape)
unfolding batch_update_places
batch_update_gives version shape places =
    and_then (Found IsNumber) (IsVerb version shape) (number places) _ (number_gives places) (λ flags flags_is.
    and_then (ArePairs shape) (IsVerb version shape) (pairs_to_end shape flags.1) (λ pairs. Ok (BatchUpdate flags.0 pairs)) (pairs_give shape flags.1) (λ pairs pairs_are. (flags_is, pairs_are)))

batch_delete_gives : (version : ℕ) (shape : Shape) (places : Tokens) → IfOk (batch_delete_places shape places) (IsVerb version shape)
unfolding batch_delete_places
batch_delete_gives version shape places =
    and_then (Found IsNumber) (IsVerb version shape) (number places) _ (number_gives places) (λ flags flags_is.
    and_then (AreKeys shape) (IsVerb version shape) (keys_to_end shape flags.1) (λ keys. Ok (BatchDelete flags.0 keys)) (keys_give shape flags.1) (λ keys keys_are. (flags_is, keys_are)))

-- ---- the lines

either : (version : ℕ) (shape : Shape) (test : Bool) (one other : Result Verb Cause) → IfOk one (IsVerb version shape) → IfOk other (IsVerb version shape) → IfOk (cond test one other) (IsVerb version shape)
either version shape true one other is other_is = is
either version shape false one other is other_is = other_is

verb_gives : (version : ℕ) (shape : Shape) (tokens : Tokens) → IfOk (verb_line shape tokens) (IsVerb version shape)
unfolding verb_line
verb_gives version shape [] = tt
verb_gives version shape (name ∷ places) =
    either version shape (bytes_eq name (codes "lookup")) _ _ (lookup_gives version shape Prog places)
    (either version shape (bytes_eq name (codes "syslookup")) _ _ (lookup_gives version shape Sys places)
    (either version shape (bytes_eq name (codes "update")) _ _ (update_gives version shape Prog places)
    (either version shape (bytes_eq name (codes "sysupdate")) _ _ (update_gives version shape Sys places)
    (either version shape (bytes_eq name (codes "delete")) _ _ (delete_gives version shape places)
    (either version shape (bytes_eq name (codes "take")) _ _ (take_gives version shape places)
    (either version shape (bytes_eq name (codes "next")) _ _ (next_gives version shape places)
    (either version shape (bytes_eq name (codes "batch_lookup")) _ _ (batch_read_gives version shape false places)
    (either version shape (bytes_eq name (codes "batch_take")) _ _ (batch_read_gives version shape true places)
    (either version shape (bytes_eq name (codes "batch_update")) _ _ (batch_update_gives version shape places)
    (either version shape (bytes_eq name (codes "batch_delete")) _ (Err causes.Verb) (batch_delete_gives version shape places) tt))))))))))

stop_in_gives : (size : ℕ) (word : List ℕ) → IfOk (stop_in size word) (λ key. IfSome key (AreBytes size))
stop_in_gives size word =
    cond_both (bytes_eq word (codes "-")) (Ok None) (bytes_in size word >>= λ key. Ok (Some key)) (λ r. IfOk r (λ key. IfSome key (AreBytes size)))
    (λ none. tt)
    (λ some. and_then (AreBytes size) (λ key. IfSome key (AreBytes size)) (bytes_in size word) (λ key. Ok (Some key)) (bytes_in_gives size word) (λ key key_is. key_is))

stop_gives : (size : ℕ) (tokens : Tokens) → IfOk (stop size tokens) (Found (λ key. IfSome key (AreBytes size)))
stop_gives size [] = tt
stop_gives size (first ∷ rest) =
    and_then (λ key. IfSome key (AreBytes size)) (Found (λ key. IfSome key (AreBytes size))) (stop_in size first) (λ found. Ok (found, rest)) (stop_in_gives size first) (λ found is. is)

each_gives : (version : ℕ) (shape : Shape) (tokens : Tokens) → version ≡ 2 → IfOk (each_line shape tokens) (IsVerb version shape)
unfolding each_line each_places
each_gives version shape [] second = tt
each_gives version shape (name ∷ places) second =
    and_then (Found IsNumber) (IsVerb version shape) (number places) _ (number_gives places) (λ flags flags_is.
    and_then (Found (λ key. IfSome key (AreBytes shape.key_size))) (IsVerb version shape) (stop shape.key_size flags.1) _ (stop_gives shape.key_size flags.1) (λ key key_is.
    end_gives (IsVerb version shape) (Each flags.0 key.0) key.1 (second, flags_is, key_is)))

named_gives : (version : ℕ) (shape : Shape) (tokens : Tokens) → IfOk (named_line version shape tokens) (IsVerb version shape)
unfolding named_line
named_gives version shape tokens =
    cond_both (names_each version tokens) (each_line shape tokens) (verb_line shape tokens) (λ r. IfOk r (IsVerb version shape))
    (λ each. each_gives version shape tokens (eqb-true version 2 (and_parts (version == 2) (is_next (codes "each") tokens) each).0))
    (λ other. verb_gives version shape tokens)

-- what is known of each call that a line gives
pub call_gives : (version : ℕ) (shape : Shape) (tokens : Tokens) → IfOk (call_line version shape tokens) (IsCall version shape)
unfolding call_line
call_gives version shape tokens =
    and_then (Found (IsCpu shape.cpus)) (IsCall version shape) (cpu shape.cpus tokens) _ (cpu_gives shape.cpus tokens) (λ on on_is.
    and_then (IsVerb version shape) (IsCall version shape) (named_line version shape on.1) (λ verb. Ok (call_on on.0 verb)) (named_gives version shape on.1) (λ verb verb_is.
    record { on = on_is.0; one_of = on_is.1; does = verb_is }))

pub map_gives : (tokens : Tokens) → IfOk (map_line tokens) IsAttr
unfolding map_line
map_gives tokens =
    instead_gives IsAttr causes.Map _ (
    and_any IsAttr (word causes.Map (codes "map") tokens) _ (λ name.
    and_any IsAttr (valued causes.Map kind_of name.1) _ (λ kind.
    and_then (Found IsNumber) IsAttr (labelled (codes "key") kind.1) _ (labelled_gives (codes "key") kind.1) (λ key key_is.
    and_then (Found IsNumber) IsAttr (labelled (codes "value") key.1) _ (labelled_gives (codes "value") key.1) (λ value value_is.
    and_then (Found IsNumber) IsAttr (labelled (codes "max") value.1) _ (labelled_gives (codes "max") value.1) (λ max max_is.
    and_then (Found IsNumber) IsAttr (labelled (codes "cpus") max.1) _ (labelled_gives (codes "cpus") max.1) (λ cpus cpus_is.
    and_then (Found IsNumber) IsAttr (if_labelled (codes "flags") cpus.1) _ (if_labelled_gives (codes "flags") cpus.1) (λ flags flags_is.
    and_then (Found IsNumber) IsAttr (if_labelled (codes "seed") flags.1) _ (if_labelled_gives (codes "seed") flags.1) (λ seed seed_is.
    end_gives IsAttr (map_attr kind.0 key.0 value.0 max.0 cpus.0 flags.0 seed.0) seed.1
    record { key = key_is; value = value_is; max = max_is; cpus = cpus_is; flags = flags_is; seed = seed_is })))))))))

-- ---- the script

-- a call more
calls_more : (version : ℕ) (shape : Shape) (count room : ℕ) (calls : List Call) (call : Call) → AreCalls version shape count room calls → IsCall version shape call
    → count + length calls < 200000 → room + reply_room shape calls + reply_bytes shape call.verb ≤ 67108864 → AreCalls version shape count room (calls ++ call ∷ [])
calls_more version shape count room [] call h is few fits = (is, omega arith, omega arith, tt)
calls_more version shape count room (first ∷ calls) call h is few fits =
    let more = sum_by-cons (λ (call : Call). reply_bytes shape call.verb) first calls in
    (h.0, h.1, h.2, calls_more version shape (count + 1) (room + reply_bytes shape first.verb) calls call h.3 is (omega arith) (omega (arith, more)))

-- a line more
line_more : (version : ℕ) (shape : Shape) (body : Body) (tokens : Tokens) (next : BodyLine) → AreCalls version shape 0 0 body.calls → Tells version shape body tokens next → AreCalls version shape 0 0 (with_next body next).calls
line_more version shape body tokens (says.Call call) h told =
    let is = subst (λ (r : Result Call Cause). IfOk r (IsCall version shape)) told.read (call_gives version shape tokens) in
    calls_more version shape 0 0 body.calls call h is (omega (arith, told.counted)) (omega (arith, told.replied))
line_more version shape body tokens says.Phase h told = h

pub lines_give : (version : ℕ) (shape : Shape) (lines : List Line) → IfOk (body_from version shape no_body lines) (λ body. AreCalls version shape 0 0 body.calls)
lines_give version shape lines =
    found_gives (λ (body : Body). AreCalls version shape 0 0 body.calls) (body_from version shape no_body lines) (λ body read.
    lines_hold version shape (λ (body : Body) (lines : List Line). AreCalls version shape 0 0 body.calls) (λ body line lines tokens next h said told. line_more version shape body tokens next h told)
    no_body lines body tt read)

-- what is known of a script that lists its calls, limits aside
pub record IsListed (script : Script) : Type 0 where
  pub numbers : IsAttr script.attr
  pub calls : AreCalls script.version script.shape 0 0 script.calls
  pub no_spec : script.spec ≡ None
  pub target : IfSome script.target AreAsked

body_gives : (version : ℕ) (attr : CreateAttr) (shape : Shape) (end : ℕ) (lines : List Line) → IsAttr attr → IfOk (body_of forms.Calls version attr shape end lines) IsListed
unfolding body_of
body_gives version attr shape end lines numbers =
    and_then (λ body. AreCalls version shape 0 0 body.calls) IsListed (body_from version shape no_body lines) (λ body. Ok (script_of version attr shape body.calls body.cuts None)) (lines_give version shape lines) (λ body calls_are.
    record { numbers = numbers; calls = calls_are; no_spec = refl; target = tt })

map_of_gives : (version end : ℕ) (lines : List Line) → IfOk (map_of forms.Calls version end lines) IsListed
unfolding map_of
map_of_gives version end [] = tt
map_of_gives version end (line ∷ lines) =
    and_then IsAttr IsListed (at_line line map_line) _ (at_line_gives IsAttr line map_line map_gives) (λ attr numbers.
    and_any IsListed (or_create (creation attr)) _ (λ shape. body_gives version attr shape end lines numbers))

version_of_gives : (end : ℕ) (lines : List Line) → IfOk (version_of forms.Calls end lines) IsListed
unfolding version_of
version_of_gives end [] = tt
version_of_gives end (line ∷ lines) =
    and_any IsListed (at_line line (version_line forms.Calls)) _ (λ version. map_of_gives version end lines)

pub script_lists : (given : List ℕ) (script : Script) → read_as forms.Calls given ≡ Ok script → IsListed script
unfolding read_as
script_lists given script read =
    let P : Result Script ScriptRefusal → Type 0 = λ r. IfOk r IsListed in
    subst P read (version_of_gives (end_number given) (lines_of given))
