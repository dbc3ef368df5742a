-- Lines as most are written, read from the front of a text.
use Rattle.std.proofs.Common.{◌≡◌, ℕ, ◌+◌, ◌*◌, ◌<◌, ◌≤◌, ◌==◌, Bool, true, false, cond, true≢false, nat_lt, nat_le, List, [], ◌∷◌, ◌++◌, length, get_or, take, drop, filter, None, Some, Result, Ok, count_by, refl, sym, ap, subst, ◌∙◌, append-nil, append_assoc, take-append-drop, arith}
use Rattle.std.specs.Prelude.{bytes_eq, codes, unwrap_or}
use Rattle.std.specs.List.{slice_split, list_all}
use Rattle.std.proofs.lemmas.Bool.{and_parts, cond-true, eq-eqb, eqb-true, lt-ltb, le-leb}
use Rattle.std.proofs.lemmas.List.{take_all, drop_all, drop_more, nil_from_length}
use Rattle.std.proofs.lemmas.List.Elements.{All-weaker}
use Rattle.std.proofs.lemmas.List.Splits.{slice_split_at, length-slice_split}
use Rattle.std.proofs.lemmas.List.Sums.{list_all-from_AllPass}
use Rattle.std.proofs.lemmas.Slice.Eq.{bytes_eq-Decides}
use Rattle.std.specs.Result.{result_ok}
use Rattle.hex.specs.Hex.{decode_of, is_hex_digit}
use Rattle.hex.specs.declared.error.FromHexError.{FromHexError}
use Rattle.hex.proofs.HexLemmas.{decode_of-ok}
use Rattle.map_types.specs.declared.attr.Shape.{Shape}
use Rattle.map_types.specs.declared.call.Call.{Call}
use Rattle.map_types.specs.ValueLen.{value_len_of}
use Rattle.map_types.specs.declared.call.Verb.{Verb}
use Rattle.map_types.specs.declared.call.Verb.TheVariants as verbs
use Rattle.map_types.specs.declared.kind.Side.{Side}
use Rattle.map_types.specs.declared.kind.Side.TheVariants.{Prog, Sys}
use Rattle.map_script.specs.Lines.{Said, is_line_feed, numbered, lines_from}
use Rattle.map_script.specs.Places.{Tokens, is_next, flag_of, bytes_in}
use Rattle.map_script.specs.Grammar.{call_line, named_line, names_each, each_line, call_on, verb_line, lookup_places, update_places, delete_places, take_places, next_places, reply_bytes}
use Rattle.map_script.specs.Plain.{is_token, AreTokens, joined, saying, BeginsWith, BeginsWithCpu, BeginsWithBytes, FirstAt}
use Rattle.map_script.specs.Reading.{call_within}
use Rattle.map_script.specs.Tokens.{number_of}
use Rattle.map_script.proofs.TokenLines.{IsPiece, piece_is_no_line_feed, joined_pieces, said_by-joined, some_length, says_something, line_saying}
use Rattle.map_script.proofs.TokenValues.{is_token_from, hex_digit_is_mark, number_is_token, flag_is_token}

-- ---- bytes

-- digits that decode are the bytes of a token
pub decoded_token : (size : ℕ) (token found rest text : List ℕ) → 1 ≤ size → length token ≡ 2 * size → decode_of token ≡ Ok found → text ≡ token ++ rest → BeginsWithBytes size text found rest
decoded_token size token found rest text some sized is starts =
    let digits = list_all-from_AllPass is_hex_digit token (decode_of-ok token found is).1 in
    record {
      token = token;
      starts = starts;
      is = is_token_from is_hex_digit hex_digit_is_mark token (omega arith) digits;
      reads =
          cond-true (list_all is_hex_digit token) _ _ digits
          ∙ cond-true (length token == 2 * size) _ _ (eq-eqb (length token) (2 * size) sized)
          ∙ ap (λ (r : Result (List ℕ) FromHexError). Ok (unwrap_or (result_ok r) [])) is;
    }

-- what is written in a place of its length is all that is there
pub taken_whole : (n : ℕ) (written before : List ℕ) → length written ≡ n → length before ≡ n → take n (written ++ drop (length written) before) ≡ written
taken_whole n written before same long =
    let nothing : drop (length written) before ≡ [] = drop_all (length written) before (omega arith) in
    rw (nothing, append-nil) (take_all n written (omega arith))

-- two parts of a text
pub parts_joined : (n : ℕ) (text front back : List ℕ) → front ≡ take n text → back ≡ drop n text → text ≡ front ++ back
parts_joined n text front back is_front is_back = rw (is_front, is_back) (sym (take-append-drop n text))

-- bytes with nothing behind them are those of the whole text
pub whole_bytes : (size : ℕ) (text found rest : List ℕ) (empty : Bool) → BeginsWithBytes size text found rest → empty ≡ (length rest == 0) → empty ≡ true → bytes_in size text ≡ Ok found
whole_bytes size text found rest empty begins is holds =
    let none : rest ≡ [] = nil_from_length rest (eqb-true (length rest) 0 (sym is ∙ holds)) in
    ap (bytes_in size) (begins.starts ∙ ap (λ (behind : List ℕ). begins.token ++ behind) none ∙ append-nil begins.token) ∙ begins.reads

-- ---- verbs

-- one token behind others
lone : (token rest : List ℕ) → token ++ 10 ∷ rest ≡ (token ++ []) ++ 10 ∷ rest
lone token rest = ap (λ (front : List ℕ). front ++ 10 ∷ rest) (sym (append-nil token))

pub lookup_begins : (shape : Shape) (text places key rest : List ℕ) → text ≡ codes "lookup " ++ places → BeginsWithBytes shape.key_size places key (10 ∷ rest)
    → BeginsWith (verb_line shape) text (verbs.Lookup Prog key) rest
unfolding verb_line lookup_places
lookup_begins shape text places key rest behind found =
    let token = found.token in
    record {
      tokens = codes "lookup" ∷ token ∷ [];
      starts = behind ∙ ap (λ (more : List ℕ). codes "lookup " ++ more) (found.starts ∙ lone token rest);
      are_tokens = (refl, (found.is, tt));
      reads = rw found.reads refl;
    }

pub delete_begins : (shape : Shape) (text places key rest : List ℕ) → text ≡ codes "delete " ++ places → BeginsWithBytes shape.key_size places key (10 ∷ rest)
    → BeginsWith (verb_line shape) text (verbs.Delete key) rest
unfolding verb_line delete_places
delete_begins shape text places key rest behind found =
    let token = found.token in
    record {
      tokens = codes "delete" ∷ token ∷ [];
      starts = behind ∙ ap (λ (more : List ℕ). codes "delete " ++ more) (found.starts ∙ lone token rest);
      are_tokens = (refl, (found.is, tt));
      reads = rw found.reads refl;
    }

pub update_begins : (shape : Shape) (text places key middle value rest : List ℕ) → text ≡ codes "update any " ++ places
    → BeginsWithBytes shape.key_size places key (32 ∷ middle) → BeginsWithBytes (value_len_of shape Prog) middle value (10 ∷ rest)
    → BeginsWith (verb_line shape) text (verbs.Update Prog 0 key value) rest
unfolding verb_line update_places
update_begins shape text places key middle value rest behind on to =
    let first = on.token in
    let second = to.token in
    let whole : places ≡ (first ++ 32 ∷ (second ++ [])) ++ 10 ∷ rest =
    on.starts ∙ ap (λ (more : List ℕ). first ++ 32 ∷ more) (to.starts ∙ lone second rest)
    ∙ sym (append_assoc first (32 ∷ (second ++ [])) (10 ∷ rest)) in
    record {
      tokens = codes "update" ∷ codes "any" ∷ first ∷ second ∷ [];
      starts = behind ∙ ap (λ (more : List ℕ). codes "update any " ++ more) whole;
      are_tokens = (refl, (refl, (on.is, (to.is, tt))));
      reads = rw (on.reads, to.reads) refl;
    }

-- ---- words

-- a text at a space
pub space_parts : (text : List ℕ) (at : ℕ) → at < length text → get_or text at 0 ≡ 32 → text ≡ take at text ++ 32 ∷ drop (at + 1) text
space_parts text at inside here =
    sym (take-append-drop at text) ∙ ap (λ (back : List ℕ). take at text ++ back) (drop_more text at 0 inside ∙ ap (λ (byte : ℕ). byte ∷ drop (at + 1) text) here)

-- a number below that of the CPUs
pub cpu_begins : (cpus : ℕ) (text word rest : List ℕ) (cpu : ℕ) → text ≡ word ++ 32 ∷ rest → number_of word ≡ Some cpu → cpu < cpus → BeginsWithCpu cpus text cpu rest
cpu_begins cpus text word rest cpu starts reads below = record {
  token = word;
  starts = starts;
  is = number_is_token word cpu reads;
  reads = reads;
  below = below;
}

-- ---- verbs by their names

pub next_begins : (shape : Shape) (text rest : List ℕ) → text ≡ codes "next\n" ++ rest → BeginsWith (verb_line shape) text (verbs.Next None) rest
unfolding verb_line next_places
next_begins shape text rest is = record { tokens = codes "next" ∷ []; starts = is; are_tokens = (refl, tt); reads = refl }

-- a name that is a token is read as this verb, with any token that is the key
abbrev pub ReadsKey : Verb → List ℕ → List ℕ → Type 0
ReadsKey verb key name =
    (shape : Shape) (token : List ℕ) → bytes_in shape.key_size token ≡ Ok key → (is_token name ≡ true) × (verb_line shape (name ∷ token ∷ []) ≡ Ok verb)

syslookup_reads : (key : List ℕ) → ReadsKey (verbs.Lookup Sys key) key (codes "syslookup")
unfolding verb_line lookup_places
syslookup_reads key = λ shape token reads. (refl, rw reads refl)

take_reads : (key : List ℕ) → ReadsKey (verbs.Take key) key (codes "take")
unfolding verb_line take_places
take_reads key = λ shape token reads. (refl, rw reads refl)

next_reads : (key : List ℕ) → ReadsKey (verbs.Next (Some key)) key (codes "next")
unfolding verb_line next_places
next_reads key = λ shape token reads. (refl, rw reads refl)

named_as : (verb : Verb) (key name text : List ℕ) → bytes_eq name text ≡ true → ReadsKey verb key text → ReadsKey verb key name
named_as verb key name text same reads = subst (λ (n : List ℕ). ReadsKey verb key n) (sym ((bytes_eq-Decides name text).0 same)) reads

pub is_syslookup : (key name : List ℕ) → bytes_eq name (codes "syslookup") ≡ true → ReadsKey (verbs.Lookup Sys key) key name
is_syslookup key name same = named_as (verbs.Lookup Sys key) key name (codes "syslookup") same (syslookup_reads key)

pub is_take : (key name : List ℕ) → bytes_eq name (codes "take") ≡ true → ReadsKey (verbs.Take key) key name
is_take key name same = named_as (verbs.Take key) key name (codes "take") same (take_reads key)

pub is_next_key : (key name : List ℕ) → bytes_eq name (codes "next") ≡ true → ReadsKey (verbs.Next (Some key)) key name
is_next_key key name same = named_as (verbs.Next (Some key)) key name (codes "next") same (next_reads key)

pub keyed_begins : (shape : Shape) (text name places key rest : List ℕ) (verb : Verb) → text ≡ name ++ 32 ∷ places → BeginsWithBytes shape.key_size places key (10 ∷ rest) → ReadsKey verb key name
    → BeginsWith (verb_line shape) text verb rest
keyed_begins shape text name places key rest verb behind found reads =
    let token = found.token in
    let told = reads shape token found.reads in
    record {
      tokens = name ∷ token ∷ [];
      starts = behind ∙ ap (λ (more : List ℕ). name ++ 32 ∷ more) (found.starts ∙ lone token rest) ∙ sym (append_assoc name (32 ∷ (token ++ [])) (10 ∷ rest));
      are_tokens = (told.0, (found.is, tt));
      reads = told.1;
    }

-- a name that is a token is an update of this side
abbrev pub Updates : Side → List ℕ → Type 0
Updates side name =
    (is_token name ≡ true) × ((shape : Shape) (places : Tokens) → verb_line shape (name ∷ places) ≡ update_places shape side places)

update_updates : Updates Prog (codes "update")
unfolding verb_line
update_updates = (refl, λ shape places. refl)

sysupdate_updates : Updates Sys (codes "sysupdate")
unfolding verb_line
sysupdate_updates = (refl, λ shape places. refl)

pub is_update : (name : List ℕ) → bytes_eq name (codes "update") ≡ true → Updates Prog name
is_update name same = subst (λ (n : List ℕ). Updates Prog n) (sym ((bytes_eq-Decides name (codes "update")).0 same)) update_updates

pub is_sysupdate : (name : List ℕ) → bytes_eq name (codes "sysupdate") ≡ true → Updates Sys name
is_sysupdate name same = subst (λ (n : List ℕ). Updates Sys n) (sym ((bytes_eq-Decides name (codes "sysupdate")).0 same)) sysupdate_updates

update_reads : (shape : Shape) (side : Side) (word first second key value : List ℕ) (flags : ℕ) → flag_of word ≡ Some flags → bytes_in shape.key_size first ≡ Ok key → bytes_in (value_len_of shape side) second ≡ Ok value
    → update_places shape side (word ∷ first ∷ second ∷ []) ≡ Ok (verbs.Update side flags key value)
unfolding update_places
update_reads shape side word first second key value flags is on to = rw (is, on, to) refl

pub flagged_begins : (shape : Shape) (side : Side) (text name places word behind key middle value rest : List ℕ) (flags : ℕ)
    → text ≡ name ++ 32 ∷ places → is_token name ≡ true → ((tokens : Tokens) → verb_line shape (name ∷ tokens) ≡ update_places shape side tokens) → places ≡ word ++ 32 ∷ behind → flag_of word ≡ Some flags
    → BeginsWithBytes shape.key_size behind key (32 ∷ middle) → BeginsWithBytes (value_len_of shape side) middle value (10 ∷ rest)
    → BeginsWith (verb_line shape) text (verbs.Update side flags key value) rest
flagged_begins shape side text name places word behind key middle value rest flags starts is reads then_flags flag on to =
    let first = on.token in
    let second = to.token in
    let two = second ++ [] in
    let keyed : behind ≡ (first ++ 32 ∷ two) ++ 10 ∷ rest = on.starts ∙ ap (λ (more : List ℕ). first ++ 32 ∷ more) (to.starts ∙ lone second rest) ∙ sym (append_assoc first (32 ∷ two) (10 ∷ rest)) in
    let flagged : places ≡ (word ++ 32 ∷ (first ++ 32 ∷ two)) ++ 10 ∷ rest = then_flags ∙ ap (λ (more : List ℕ). word ++ 32 ∷ more) keyed ∙ sym (append_assoc word (32 ∷ (first ++ 32 ∷ two)) (10 ∷ rest)) in
    let whole : text ≡ (name ++ 32 ∷ (word ++ 32 ∷ (first ++ 32 ∷ two))) ++ 10 ∷ rest = starts ∙ ap (λ (more : List ℕ). name ++ 32 ∷ more) flagged ∙ sym (append_assoc name (32 ∷ (word ++ 32 ∷ (first ++ 32 ∷ two))) (10 ∷ rest)) in
    record {
      tokens = name ∷ word ∷ first ∷ second ∷ [];
      starts = whole;
      are_tokens = (is, (flag_is_token word flags flag, (on.is, (to.is, tt))));
      reads = reads (word ∷ first ∷ second ∷ []) ∙ update_reads shape side word first second key value flags flag on.reads to.reads;
    }

-- ---- a call

-- a verb that both versions have isn't `each`, and so it is read alike in both
not_each : (shape : Shape) (places : Tokens) (verb : Verb) → verb_line shape (codes "each" ∷ places) ≡ Ok verb → ⊥
unfolding verb_line
not_each shape places verb is = cc

pub is_named : (version : ℕ) (shape : Shape) (tokens : Tokens) (verb : Verb) → verb_line shape tokens ≡ Ok verb → named_line version shape tokens ≡ Ok verb
unfolding named_line
is_named version shape tokens verb reads = by (names_each version tokens) refl
  where
    no_each : (tokens : Tokens) → verb_line shape tokens ≡ Ok verb → is_next (codes "each") tokens ≡ true → ⊥
    no_each [] read is = absurd (true≢false (sym is))
    no_each (name ∷ places) read is = not_each shape places verb (subst (λ (word : List ℕ). verb_line shape (word ∷ places) ≡ Ok verb) ((bytes_eq-Decides name (codes "each")).0 is) read)

    by : (each : Bool) → names_each version tokens ≡ each → cond each (each_line shape tokens) (verb_line shape tokens) ≡ Ok verb
    by true is = absurd (no_each tokens reads (and_parts (version == 2) (is_next (codes "each") tokens) is).1)
    by false is = reads

called : (version : ℕ) (shape : Shape) (token : List ℕ) (places : Tokens) (cpu : ℕ) (verb : Verb) → number_of token ≡ Some cpu → cpu < shape.cpus → verb_line shape places ≡ Ok verb
    → call_line version shape (token ∷ places) ≡ Ok (call_on cpu verb)
unfolding call_line
called version shape token places cpu verb number below reads =
    let test : nat_lt cpu shape.cpus ≡ true = lt-ltb cpu shape.cpus below in
    let named = is_named version shape places verb reads in
    rw (number, test, named) refl

no_verb : (shape : Shape) (verb : Verb) → verb_line shape [] ≡ Ok verb → ⊥
unfolding verb_line
no_verb shape verb is = cc

pub call_begins : (version : ℕ) (shape : Shape) (text places rest : List ℕ) (cpu : ℕ) (verb : Verb) → BeginsWithCpu shape.cpus text cpu places → BeginsWith (verb_line shape) places verb rest
    → BeginsWith (call_line version shape) text (call_on cpu verb) rest
call_begins version shape text places rest cpu verb on does = go does.tokens does.starts does.are_tokens does.reads
  where
    go : (tokens : Tokens) → places ≡ joined tokens ++ 10 ∷ rest → AreTokens tokens → verb_line shape tokens ≡ Ok verb → BeginsWith (call_line version shape) text (call_on cpu verb) rest
    go [] starts are reads = absurd (no_verb shape verb reads)
    go (name ∷ others) starts are reads = record {
      tokens = on.token ∷ name ∷ others;
      starts = on.starts ∙ ap (λ (more : List ℕ). on.token ++ 32 ∷ more) starts ∙ sym (append_assoc on.token (32 ∷ joined (name ∷ others)) (10 ∷ rest));
      are_tokens = (on.is, are);
      reads = called version shape on.token (name ∷ others) cpu verb on.reads on.below reads;
    }

-- ---- lines

-- the first line of a text, and the lines behind it
pub front_line : (number : ℕ) (tokens : Tokens) (rest : List ℕ) → AreTokens tokens → (tokens ≡ [] → ⊥)
    → lines_from number (joined tokens ++ 10 ∷ rest) ≡ saying number tokens ∷ lines_from (number + 1) rest
front_line number [] rest are some = absurd (some refl)
front_line number (token ∷ tokens) rest are some =
    let line = joined (token ∷ tokens) in
    let kept = lines_from (number + 1) rest in
    let free = All-weaker IsPiece (λ byte. is_line_feed byte ≡ false) piece_is_no_line_feed line (joined_pieces (token ∷ tokens) are) in
    ap (λ (parts : List (List ℕ)). filter says_something (numbered number parts)) (slice_split_at is_line_feed line 10 rest free refl)
    ∙ ap (λ (says : Said). filter says_something (line_saying number says ∷ numbered (number + 1) (slice_split is_line_feed rest))) (said_by-joined token tokens are)
    ∙ cond-true (says_something (saying number (token ∷ tokens))) (saying number (token ∷ tokens) ∷ kept) kept (some_length (length tokens))

-- a line feed fewer is left
pub front_feed : (tokens : Tokens) (rest : List ℕ) → AreTokens tokens → count_by is_line_feed (joined tokens ++ 10 ∷ rest) ≡ count_by is_line_feed rest + 1
front_feed tokens rest are =
    let line = joined tokens in
    let free = All-weaker IsPiece (λ byte. is_line_feed byte ≡ false) piece_is_no_line_feed line (joined_pieces tokens are) in
    let cut = ap (λ (parts : List (List ℕ)). length parts) (slice_split_at is_line_feed line 10 rest free refl) in
    omega (arith, cut, length-slice_split is_line_feed (line ++ 10 ∷ rest), length-slice_split is_line_feed rest)

no_call : (version : ℕ) (shape : Shape) (call : Call) → call_line version shape [] ≡ Ok call → ⊥
unfolding call_line
no_call version shape call is = cc

-- a call at the front of a text is its first line
pub first_call : (version : ℕ) (shape : Shape) (count room number : ℕ) (text rest : List ℕ) (call : Call) → BeginsWith (call_line version shape) text call rest
    → count < 200000 → room + reply_bytes shape call.verb ≤ 67108864
    → FirstAt number (call_within version shape count room) (lines_from number text) call (lines_from (number + 1) rest)
first_call version shape count room number text rest call begins few fits =
    let some : begins.tokens ≡ [] → ⊥ = λ nothing. no_call version shape call (subst (λ (tokens : Tokens). call_line version shape tokens ≡ Ok call) nothing begins.reads) in
    record {
      tokens = begins.tokens;
      first = ap (lines_from number) begins.starts ∙ front_line number begins.tokens rest begins.are_tokens some;
      reads = within shape count room begins.tokens call begins.reads few fits;
    }
  where
    within : (shape : Shape) (count room : ℕ) (tokens : Tokens) (call : Call) → call_line version shape tokens ≡ Ok call → count < 200000 → room + reply_bytes shape call.verb ≤ 67108864
        → call_within version shape count room tokens ≡ Ok call
    within shape count room tokens call reads few fits =
        let first : nat_lt count 200000 ≡ true = lt-ltb count 200000 few in
        let second : nat_le (room + reply_bytes shape call.verb) 67108864 ≡ true = le-leb (room + reply_bytes shape call.verb) 67108864 fits in
        rw (reads, first, second) refl

-- and a line feed fewer is left behind it
pub first_feed : (version : ℕ) (shape : Shape) (text rest : List ℕ) (call : Call) → BeginsWith (call_line version shape) text call rest → count_by is_line_feed text ≡ count_by is_line_feed rest + 1
first_feed version shape text rest call begins = ap (count_by is_line_feed) begins.starts ∙ front_feed begins.tokens rest begins.are_tokens
