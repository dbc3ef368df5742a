-- Each batch write of a script that is read has fewer entries than its text has bytes, but for two; and no generated call is one.
use Rattle.std.proofs.Common.{◌≡◌, ℕ, zero, suc, ◌+◌, ◌*◌, ◌/◌, ◌%◌, ◌≤◌, ◌==◌, nat_le, Bool, true, false, not, cond, List, [], ◌∷◌, length, map, filter, Option, Some, None, Result, Ok, Err, All, refl, sym, ap, subst, ◌∙◌, arith}
use Rattle.std.specs.List.{AllByRecursion, slice_split, onto_first, before_first, position_or_len, list_all, range_with_len}
use Rattle.std.proofs.lemmas.Bool.{cond_both}
use Rattle.std.proofs.lemmas.List.{length-take}
use Rattle.std.proofs.lemmas.List.Elements.{All-nil, All-cons, All-weaker}
use Rattle.map_types.specs.Creation.{creation}
use Rattle.map_types.specs.ValueLen.{value_len_of}
use Rattle.map_types.specs.declared.attr.CreateAttr.{CreateAttr}
use Rattle.map_types.specs.declared.attr.Shape.{Shape}
use Rattle.map_types.specs.declared.call.Call.{Call}
use Rattle.map_types.specs.declared.call.Verb.{Verb}
use Rattle.map_types.specs.declared.call.Verb.TheVariants.{Next, BatchUpdate, BatchDelete}
use Rattle.map_types.specs.declared.kind.Side.{Side}
use Rattle.map_types.specs.declared.kind.Side.TheVariants.{Prog, Sys}
use Rattle.map_script.specs.declared.refusal.Cause.{Cause}
use Rattle.map_script.specs.declared.refusal.Cause.TheVariants.{Byte}
use Rattle.map_script.specs.declared.refusal.Cause.TheVariants as causes
use Rattle.map_script.specs.declared.script.Form.{Form}
use Rattle.map_script.specs.declared.script.Form.TheVariants as forms
use Rattle.map_script.specs.declared.script.GenSpec.{GenSpec}
use Rattle.map_script.specs.declared.script.Script.{Script}
use Rattle.map_script.specs.Grammar.{lookup_places, update_places, delete_places, take_places, next_places, batch_read_places, pairs_to_end, keys_to_end, batch_update_places, batch_delete_places, verb_line, each_places, each_line, names_each, named_line, call_on, call_line, map_line, version_line, target_line}
use Rattle.map_script.specs.Lines.{Line, is_line_feed, is_blank, is_hash, is_allowed, before_comment, tokens_of, said_by, tokens_said, is_nothing, numbered, lines_of, end_number}
use Rattle.map_script.specs.Places.{◌>>=◌, Tokens, at_end, number, cpu, bytes_in, bytes}
use Rattle.map_script.specs.Reading.{at_line, or_create, no_body, body_from, copied_from, spec_of, script_of, target_with, copy_of, target_of, body_of, map_of, version_of, read_as}
use Rattle.map_script.proofs.CallsRead.{calls_hold}
use Rattle.map_script.proofs.CopyReads.{plain_read}
use Rattle.map_script.proofs.PlaceLemmas.{step_found, chosen, same_ok}
use Rattle.map_script.proofs.WellFormedLemmas.{IsWellFormed-read_as}
use Rattle.workload_gen.specs.Draws.{draw}
use Rattle.workload_gen.specs.Generated.{update_of, lookup_of, delete_of, round_verb, round_call, drawn_verb, drawn_call, call_of, calls_generated, generated_script}
use Rattle.serial_laws.specs.Served.{entry_count, HasFewEntries, IsScript}

-- Calls by the tokens of their lines

lookup_few : (shape : Shape) (side : Side) (places : Tokens) (verb : Verb) → lookup_places shape side places ≡ Ok verb → entry_count verb ≤ length places
unfolding lookup_places
lookup_few shape side places verb read = grind arith

update_few : (shape : Shape) (side : Side) (places : Tokens) (verb : Verb) → update_places shape side places ≡ Ok verb → entry_count verb ≤ length places
unfolding update_places
update_few shape side places verb read = grind arith

delete_few : (shape : Shape) (places : Tokens) (verb : Verb) → delete_places shape places ≡ Ok verb → entry_count verb ≤ length places
unfolding delete_places
delete_few shape places verb read = grind arith

take_few : (shape : Shape) (places : Tokens) (verb : Verb) → take_places shape places ≡ Ok verb → entry_count verb ≤ length places
unfolding take_places
take_few shape places verb read = grind arith

next_key_few : (shape : Shape) (places : Tokens) (verb : Verb) → (bytes shape.key_size places >>= λ key. at_end (Next (Some key.0)) key.1) ≡ Ok verb → entry_count verb ≤ length places
next_key_few shape places verb read = grind arith

next_few : (shape : Shape) (places : Tokens) (verb : Verb) → next_places shape places ≡ Ok verb → entry_count verb ≤ length places
unfolding next_places
next_few shape [] verb read = grind arith
next_few shape (first ∷ rest) verb read = next_key_few shape (first ∷ rest) verb read

batch_read_few : (remove : Bool) (places : Tokens) (verb : Verb) → batch_read_places remove places ≡ Ok verb → entry_count verb ≤ length places
unfolding batch_read_places
batch_read_few remove places verb read = grind arith

pairs_few : (shape : Shape) (tokens : Tokens) (pairs : List (List ℕ × List ℕ)) → pairs_to_end shape tokens ≡ Ok pairs → length pairs ≤ length tokens
pairs_few shape [] pairs read = omega (arith, ap length (same_ok (pairs_to_end shape []) [] pairs refl read))
pairs_few shape (first ∷ []) pairs read = grind arith
pairs_few shape (first ∷ second ∷ rest) pairs read =
    let key = step_found (bytes_in shape.key_size first) (λ key. bytes_in (value_len_of shape Sys) second >>= λ value. pairs_to_end shape rest >>= λ pairs. Ok ((key, value) ∷ pairs)) pairs read in
    let value = step_found (bytes_in (value_len_of shape Sys) second) (λ value. pairs_to_end shape rest >>= λ pairs. Ok ((key.0, value) ∷ pairs)) pairs key.2 in
    let others = step_found (pairs_to_end shape rest) (λ pairs. Ok ((key.0, value.0) ∷ pairs)) pairs value.2 in
    let same = same_ok (pairs_to_end shape (first ∷ second ∷ rest)) ((key.0, value.0) ∷ others.0) pairs (read ∙ sym {a = Ok ((key.0, value.0) ∷ others.0)} others.2) read in
    subst (λ (ps : List (List ℕ × List ℕ)). length ps ≤ length (first ∷ second ∷ rest)) same (omega (arith, pairs_few shape rest others.0 others.1))

keys_few : (shape : Shape) (tokens : Tokens) (keys : List (List ℕ)) → keys_to_end shape tokens ≡ Ok keys → length keys ≤ length tokens
keys_few shape [] keys read = omega (arith, ap length (same_ok (keys_to_end shape []) [] keys refl read))
keys_few shape (first ∷ rest) keys read =
    let key = step_found (bytes_in shape.key_size first) (λ key. keys_to_end shape rest >>= λ keys. Ok (key ∷ keys)) keys read in
    let others = step_found (keys_to_end shape rest) (λ keys. Ok (key.0 ∷ keys)) keys key.2 in
    let same = same_ok (keys_to_end shape (first ∷ rest)) (key.0 ∷ others.0) keys (read ∙ sym others.2) read in
    subst (λ (ks : List (List ℕ)). length ks ≤ length (first ∷ rest)) same (omega (arith, keys_few shape rest others.0 others.1))

-- the flags are one token
number_fewer : (tokens rest : Tokens) (found : ℕ) → number tokens ≡ Ok (found, rest) → length rest ≤ length tokens
number_fewer [] rest found read = grind arith
number_fewer (first ∷ others) rest found read = grind arith

batch_update_few : (shape : Shape) (places : Tokens) (verb : Verb) → batch_update_places shape places ≡ Ok verb → entry_count verb ≤ length places
unfolding batch_update_places
batch_update_few shape places verb read =
    let flags = step_found (number places) (λ flags. pairs_to_end shape flags.1 >>= λ pairs. Ok (BatchUpdate flags.0 pairs)) verb read in
    let pairs = step_found (pairs_to_end shape flags.0.1) (λ pairs. Ok (BatchUpdate flags.0.0 pairs)) verb flags.2 in
    let few : entry_count (BatchUpdate flags.0.0 pairs.0) ≤ length places =
    omega (arith, pairs_few shape flags.0.1 pairs.0 pairs.1, number_fewer places flags.0.1 flags.0.0 flags.1) in
    subst (λ (v : Verb). entry_count v ≤ length places) (same_ok (batch_update_places shape places) (BatchUpdate flags.0.0 pairs.0) verb (read ∙ sym pairs.2) read) few

batch_delete_few : (shape : Shape) (places : Tokens) (verb : Verb) → batch_delete_places shape places ≡ Ok verb → entry_count verb ≤ length places
unfolding batch_delete_places
batch_delete_few shape places verb read =
    let flags = step_found (number places) (λ flags. keys_to_end shape flags.1 >>= λ keys. Ok (BatchDelete flags.0 keys)) verb read in
    let keys = step_found (keys_to_end shape flags.0.1) (λ keys. Ok (BatchDelete flags.0.0 keys)) verb flags.2 in
    let few : entry_count (BatchDelete flags.0.0 keys.0) ≤ length places =
    omega (arith, keys_few shape flags.0.1 keys.0 keys.1, number_fewer places flags.0.1 flags.0.0 flags.1) in
    subst (λ (v : Verb). entry_count v ≤ length places) (same_ok (batch_delete_places shape places) (BatchDelete flags.0.0 keys.0) verb (read ∙ sym keys.2) read) few

-- what one of two readings gives
either : (few : ℕ) (verb : Verb) (b : Bool) (x y : Result Verb Cause) → (x ≡ Ok verb → entry_count verb ≤ few) → (y ≡ Ok verb → entry_count verb ≤ few) → cond b x y ≡ Ok verb → entry_count verb ≤ few
either few verb true x y first second is = first is
either few verb false x y first second is = second is

refused : (few : ℕ) (verb : Verb) (cause : Cause) (read : Result Verb Cause) → read ≡ Err cause → read ≡ Ok verb → entry_count verb ≤ few
refused few verb cause read is_err is_ok = absurd cc

places_few : (shape : Shape) (name : List ℕ) (places : Tokens) (verb : Verb) → verb_line shape (name ∷ places) ≡ Ok verb → entry_count verb ≤ length places
unfolding verb_line
places_few shape name places verb read =
    one _ _ _ (lookup_few shape Prog places verb)
    (one _ _ _ (lookup_few shape Sys places verb)
    (one _ _ _ (update_few shape Prog places verb)
    (one _ _ _ (update_few shape Sys places verb)
    (one _ _ _ (delete_few shape places verb)
    (one _ _ _ (take_few shape places verb)
    (one _ _ _ (next_few shape places verb)
    (one _ _ _ (batch_read_few false places verb)
    (one _ _ _ (batch_read_few true places verb)
    (one _ _ _ (batch_update_few shape places verb)
    (one _ _ _ (batch_delete_few shape places verb) (refused (length places) verb causes.Verb (Err causes.Verb) refl)))))))))))
    read
  where
    one : (b : Bool) (x y : Result Verb Cause) → (x ≡ Ok verb → entry_count verb ≤ length places) → (y ≡ Ok verb → entry_count verb ≤ length places) → cond b x y ≡ Ok verb → entry_count verb ≤ length places
    one = either (length places) verb

verb_few : (shape : Shape) (tokens : Tokens) (verb : Verb) → verb_line shape tokens ≡ Ok verb → entry_count verb ≤ length tokens
unfolding verb_line
verb_few shape [] verb read = grind arith
verb_few shape (name ∷ places) verb read = omega (arith, places_few shape name places verb read)

cpu_fewer : (cpus : ℕ) (tokens rest : Tokens) (found : ℕ) → cpu cpus tokens ≡ Ok (found, rest) → length rest ≤ length tokens
cpu_fewer cpus [] rest found read = grind arith
cpu_fewer cpus (first ∷ others) rest found read = grind arith

walk_few : (shape : Shape) (tokens : Tokens) (verb : Verb) → each_line shape tokens ≡ Ok verb → entry_count verb ≤ length tokens
unfolding each_line each_places
walk_few shape tokens verb read = grind arith

named_few : (version : ℕ) (shape : Shape) (tokens : Tokens) (verb : Verb) → named_line version shape tokens ≡ Ok verb → entry_count verb ≤ length tokens
unfolding named_line
named_few version shape tokens verb read = either (length tokens) verb (names_each version tokens) (each_line shape tokens) (verb_line shape tokens) (walk_few shape tokens verb) (verb_few shape tokens verb) read

call_few : (version : ℕ) (shape : Shape) (tokens : Tokens) (call : Call) → call_line version shape tokens ≡ Ok call → entry_count call.verb ≤ length tokens
unfolding call_line
call_few version shape tokens call read =
    let on = step_found (cpu shape.cpus tokens) (λ on. named_line version shape on.1 >>= λ verb. Ok (call_on on.0 verb)) call read in
    let verb = step_found (named_line version shape on.0.1) (λ verb. Ok (call_on on.0.0 verb)) call on.2 in
    let few : entry_count verb.0 ≤ length tokens = omega (arith, named_few version shape on.0.1 verb.0 verb.1, cpu_fewer shape.cpus tokens on.0.1 on.0.0 on.1) in
    subst (λ (c : Call). entry_count c.verb ≤ length tokens) (same_ok (call_line version shape tokens) (call_on on.0.0 verb.0) call (read ∙ sym verb.2) read) few

-- The tokens of the lines of a text

abbrev AreShort : ℕ → List (List ℕ) → Type 0
AreShort n parts = AllByRecursion (λ (part : List ℕ). length part ≤ n) parts

short_more : (n : ℕ) (parts : List (List ℕ)) → AreShort n parts → AreShort (suc n) parts
short_more n [] short = tt
short_more n (part ∷ parts) short = (omega (arith, short.0), short_more n parts short.1)

short_onto : (n x : ℕ) (parts : List (List ℕ)) → AreShort n parts → AreShort (suc n) (onto_first x parts)
short_onto n x [] short = grind arith
short_onto n x (part ∷ parts) short = (omega (arith, short.0), short_more n parts short.1)

-- no part is longer than the whole
parts_short : (p : ℕ → Bool) (xs : List ℕ) → AreShort (length xs) (slice_split p xs)
parts_short p [] = (omega arith, tt)
parts_short p (x ∷ xs) =
    let rest = parts_short p xs in
    cond_both (p x) ([] ∷ slice_split p xs) (onto_first x (slice_split p xs)) (AreShort (length (x ∷ xs)))
    (λ _. (omega arith, short_more (length xs) (slice_split p xs) rest))
    (λ _. short_onto (length xs) x (slice_split p xs) rest)

-- there is one part more than there are places to cut at
onto_counts : (x : ℕ) (parts : List (List ℕ)) → length (onto_first x parts) ≤ length parts + 1
onto_counts x [] = grind arith
onto_counts x (part ∷ parts) = omega arith

parts_few : (p : ℕ → Bool) (xs : List ℕ) → length (slice_split p xs) ≤ length xs + 1
parts_few p [] = omega arith
parts_few p (x ∷ xs) =
    cond_both (p x) ([] ∷ slice_split p xs) (onto_first x (slice_split p xs)) (λ parts. length parts ≤ length (x ∷ xs) + 1)
    (λ _. omega (arith, parts_few p xs))
    (λ _. omega (arith, parts_few p xs, onto_counts x (slice_split p xs)))

kept_few : {A : Type 0} (p : A → Bool) (xs : List A) → length (filter p xs) ≤ length xs
kept_few p [] = omega arith
kept_few p (x ∷ xs) = cond_both (p x) (x ∷ filter p xs) (filter p xs) (λ kept. length kept ≤ length (x ∷ xs)) (λ _. omega (arith, kept_few p xs)) (λ _. omega (arith, kept_few p xs))

-- what a line of so many bytes says has at most one token more
abbrev IsShort : ℕ → Line → Type 0
IsShort n line = (tokens : Tokens) → tokens_said line.says ≡ Ok tokens → length tokens ≤ n + 1

front_short : (p : ℕ → Bool) (line : List ℕ) → length (before_first p line) ≤ length line
front_short p line = omega (arith, length-take (position_or_len p line) line)

tokens_few : (line : List ℕ) → length (tokens_of line) ≤ length line + 1
tokens_few line = omega (arith, kept_few (λ token. not (length token == 0)) (slice_split is_blank line), parts_few is_blank line)

said_few : (n : ℕ) (line : List ℕ) → length line ≤ n → (tokens : Tokens) → tokens_said (said_by line) ≡ Ok tokens → length tokens ≤ n + 1
said_few n line short tokens said =
    let front = before_comment line in
    let same = chosen (list_all is_allowed front) (Ok (tokens_of front)) Byte tokens said in
    let is : tokens_of front ≡ tokens = cc (same.1) in
    subst (λ (ts : Tokens). length ts ≤ n + 1) is (omega (arith, tokens_few front, front_short is_hash line, short))

numbered_short : (n first : ℕ) (parts : List (List ℕ)) → AreShort n parts → AllByRecursion (IsShort n) (numbered first parts)
numbered_short n first [] short = tt
numbered_short n first (part ∷ parts) short = (said_few n part short.0, numbered_short n (first + 1) parts short.1)

kept_short : (n : ℕ) (p : Line → Bool) (lines : List Line) → AllByRecursion (IsShort n) lines → AllByRecursion (IsShort n) (filter p lines)
kept_short n p [] short = tt
kept_short n p (line ∷ lines) short =
    cond_both (p line) (line ∷ filter p lines) (filter p lines) (AllByRecursion (IsShort n)) (λ _. (short.0, kept_short n p lines short.1)) (λ _. kept_short n p lines short.1)

lines_short : (text : List ℕ) → AllByRecursion (IsShort (length text)) (lines_of text)
lines_short text =
    kept_short (length text) (λ line. not (is_nothing line.says)) (numbered 1 (slice_split is_line_feed text)) (numbered_short (length text) 1 (slice_split is_line_feed text) (parts_short is_line_feed text))

-- Scripts

module _ (n : ℕ) where
  abbrev IsFew : Call → Type 0
  IsFew call = entry_count call.verb ≤ n + 1

  abbrev HasFew : Script → Type 0
  HasFew script = All IsFew script.calls

  call_is_few : (version : ℕ) (shape : Shape) (line : Line) (tokens : Tokens) (call : Call) → IsShort n line → tokens_said line.says ≡ Ok tokens → call_line version shape tokens ≡ Ok call → IsFew call
  call_is_few version shape line tokens call short said read = omega (arith, call_few version shape tokens call read, short tokens said)

  target_few : (version : ℕ) (attr : CreateAttr) (shape : Shape) (end : ℕ) (lines : List Line) (script : Script) → AllByRecursion (IsShort n) lines → target_of version attr shape end lines ≡ Ok script → HasFew script
  unfolding target_of
  target_few version attr shape end [] script short read = absurd cc
  target_few version attr shape end (line ∷ lines) script short read =
      let asked = step_found (at_line line (target_line attr)) (λ asked. or_create (creation asked.0) >>= λ made. copied_from version shape no_body lines >>= λ body. Ok (copy_of version attr shape body.calls body.cuts (target_with asked.0 made asked.1))) script read in
      let made = step_found (or_create (creation asked.0.0)) (λ made. copied_from version shape no_body lines >>= λ body. Ok (copy_of version attr shape body.calls body.cuts (target_with asked.0.0 made asked.0.1))) script asked.2 in
      let target = target_with asked.0.0 made.0 asked.0.1 in
      let body = step_found (copied_from version shape no_body lines) (λ body. Ok (copy_of version attr shape body.calls body.cuts target)) script made.2 in
      subst HasFew (same_ok (Ok (copy_of version attr shape body.0.calls body.0.cuts target)) (copy_of version attr shape body.0.calls body.0.cuts target) script refl body.2)
      (calls_hold version shape IsFew (IsShort n) (call_is_few version shape) lines body.0 short.1 (plain_read version shape no_body lines body.0 body.1))

  body_few : (form : Form) (version : ℕ) (attr : CreateAttr) (shape : Shape) (end : ℕ) (lines : List Line) (script : Script) → AllByRecursion (IsShort n) lines → body_of form version attr shape end lines ≡ Ok script → HasFew script
  unfolding body_of
  body_few forms.Calls version attr shape end lines script short read =
      let body = step_found (body_from version shape no_body lines) (λ body. Ok (script_of version attr shape body.calls body.cuts None)) script read in
      subst HasFew (same_ok (body_of forms.Calls version attr shape end lines) (script_of version attr shape body.0.calls body.0.cuts None) script (read ∙ sym body.2) read) (calls_hold version shape IsFew (IsShort n) (call_is_few version shape) lines body.0 short body.1)
  body_few forms.Generator version attr shape end lines script short read =
      let spec = step_found (spec_of shape end lines) (λ spec. Ok (script_of version attr shape [] [] (Some spec))) script read in
      subst HasFew (same_ok (body_of forms.Generator version attr shape end lines) (script_of version attr shape [] [] (Some spec.0)) script (read ∙ sym spec.2) read) (All-nil IsFew)
  body_few forms.Copy version attr shape end lines script short read =
      target_few version attr shape end lines script short read

  map_few : (form : Form) (version end : ℕ) (lines : List Line) (script : Script) → AllByRecursion (IsShort n) lines → map_of form version end lines ≡ Ok script → HasFew script
  unfolding map_of
  map_few form version end [] script short read = absurd cc
  map_few form version end (line ∷ lines) script short read =
      let attr = step_found (at_line line map_line) (λ attr. or_create (creation attr) >>= λ shape. body_of form version attr shape end lines) script read in
      let shape = step_found (or_create (creation attr.0)) (λ shape. body_of form version attr.0 shape end lines) script attr.2 in
      body_few form version attr.0 shape.0 end lines script short.1 shape.2

  version_few : (form : Form) (end : ℕ) (lines : List Line) (script : Script) → AllByRecursion (IsShort n) lines → version_of form end lines ≡ Ok script → HasFew script
  unfolding version_of
  version_few form end [] script short read = absurd cc
  version_few form end (line ∷ lines) script short read =
      let version = step_found (at_line line (version_line form)) (λ version. map_of form version end lines) script read in
      map_few form version.0 end lines script short.1 version.2

read_few : (form : Form) (text : List ℕ) (script : Script) → read_as form text ≡ Ok script → HasFew (length text) script
unfolding read_as
read_few form text script read = version_few (length text) form (end_number text) (lines_of text) script (lines_short text) read

-- each script that is read from a text of at most 16 MiB is one that is run
pub IsScript-read_as : (form : Form) (text : List ℕ) (script : Script) → length text ≤ 16777216 → read_as form text ≡ Ok script → IsScript script
IsScript-read_as form text script short read = record {
  well_formed = IsWellFormed-read_as form text script read;
  few_entries = All-weaker (IsFew (length text)) HasFewEntries (λ call few. omega (arith, few, short)) script.calls (read_few form text script read);
}

-- Generated calls

abbrev HasNoEntry : Verb → Type 0
HasNoEntry verb = entry_count verb ≡ 0

round_verb_none : (shape : Shape) (round k i : ℕ) → HasNoEntry (round_verb shape round k i)
round_verb_none shape round k i = cond_both (round % 2 == 0) (update_of shape k i) (lookup_of shape k) HasNoEntry (λ even. refl) (λ odd. refl)

drawn_verb_none : (shape : Shape) (choice k i : ℕ) → HasNoEntry (drawn_verb shape choice k i)
drawn_verb_none shape choice k i =
    cond_both (nat_le choice 2) (update_of shape k i) (cond (nat_le choice 6) (lookup_of shape k) (delete_of shape k)) HasNoEntry (λ low. refl)
    (λ high. cond_both (nat_le choice 6) (lookup_of shape k) (delete_of shape k) HasNoEntry (λ low. refl) (λ high. refl))

round_none : (shape : Shape) (spec : GenSpec) (i : ℕ) → HasNoEntry (round_call shape spec i).verb
unfolding round_call
round_none shape spec i = round_verb_none shape (i / spec.keys) (i % spec.keys) i

drawn_none : (shape : Shape) (spec : GenSpec) (i : ℕ) → HasNoEntry (drawn_call shape spec i).verb
unfolding drawn_call
drawn_none shape spec i = drawn_verb_none shape (draw spec.seed (3 * i + 1) % 8) (draw spec.seed (3 * i + 2) % spec.keys) i

call_none : (shape : Shape) (spec : GenSpec) (i : ℕ) → HasNoEntry (call_of shape spec i).verb
call_none shape spec =
    cond_both (spec.mix == 0) (round_call shape spec) (drawn_call shape spec) (λ call. (i : ℕ) → HasNoEntry (call i).verb) (λ rounds. round_none shape spec) (λ mixed. drawn_none shape spec)

each_few : (call : ℕ → Call) → ((i : ℕ) → HasNoEntry (call i).verb) → (i n : ℕ) → All HasFewEntries (map call (range_with_len i n))
each_few call none i zero = All-nil HasFewEntries
each_few call none i (suc n) = All-cons HasFewEntries (call i) (map call (range_with_len (i + 1) n)) (omega (arith, none i)) (each_few call none (i + 1) n)

spec_few : (shape : Shape) (spec : Option GenSpec) → All HasFewEntries (calls_generated shape spec)
spec_few shape None = All-nil HasFewEntries
spec_few shape (Some spec) = each_few (call_of shape spec) (call_none shape spec) 0 spec.calls

pub generated_few : (script : Script) → All HasFewEntries (generated_script script).calls
unfolding generated_script
generated_few script = spec_few script.shape script.spec
