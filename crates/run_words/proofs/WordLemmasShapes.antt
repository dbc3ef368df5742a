-- What a word looks like to the command.
use Rattle.std.proofs.Common.{◌≡◌, ◌==◌, ◌∙◌, ◌+◌, ◌⊎◌, inl, inr, ⊎_elim, refl, sym, ap, arith, ℕ, suc, Bool, true, false, true≢false, not, codes, List, [], ◌∷◌, take, drop, Option, Some, None, cond}
use Rattle.std.specs.Prelude.{chars, slice_get, option_and_then, if◌then◌else◌}
use Rattle.std.specs.Str.{bytes_eq}
use Rattle.std.specs.Option.{option_map_or}
use Rattle.std.specs.List.{before_first, after_first, position_or_len}
use Rattle.std.proofs.lemmas.Bool.{eqb-true}
use Rattle.std.proofs.lemmas.Slice.Eq.{bytes_eq-Decides}
use Rattle.clap.specs.Walk.{Row, Text, bundle_met, idle, long_or_other, short_or_plain, trailing, arg_by_long, word_met}
use Rattle.clap.specs.Faults.{bundle_fault, flags_fault, flag_word_fault, long_fault, word_fault}
use Rattle.clap.specs.Lexer.{has_byte, long_of, long_of_rest, name_and_value, short_of, strip_byte}
use Rattle.clap.specs.declared.builder.value_parser.ValueParser.{ValueParser}
use Rattle.run_words.specs.Words.{is_end_of_options, is_option, mode_word}
use Rattle.run_words.specs.declared.words.Mode.{Mode}
use Rattle.run_words.specs.declared.words.Mode.TheVariants.{Serial, Race, Gen, Compare, Check, Copy}
use Rattle.run_words.proofs.WordLemmasCommand.{Flag, history, dump, json, Waits, built_flag, flag_name, flag_word, held_by, none, rules, shape}
use Rattle.run_words.proofs.WordLemmasTurns.{IsValue, IsRefused}

-- ---- cutting at the first element that passes

one_more : (n : ℕ) → 1 + n ≡ suc n
one_more n = omega arith

past_one : (n : ℕ) → 1 + n + 1 ≡ suc (n + 1)
past_one n = omega arith

pub before-cons_no : {X : Type 0} (p : X → Bool) (x : X) (xs : List X) → p x ≡ false → before_first p (x ∷ xs) ≡ x ∷ before_first p xs
before-cons_no p x xs e =
    ap (λ b. take (cond (not b) (1 + position_or_len p xs) 0) (x ∷ xs)) e ∙ ap (λ n. take n (x ∷ xs)) (one_more (position_or_len p xs))

pub before-cons_yes : {X : Type 0} (p : X → Bool) (x : X) (xs : List X) → p x ≡ true → before_first p (x ∷ xs) ≡ []
before-cons_yes p x xs e = ap (λ b. take (cond (not b) (1 + position_or_len p xs) 0) (x ∷ xs)) e

pub after-cons_no : {X : Type 0} (p : X → Bool) (x : X) (xs : List X) → p x ≡ false → after_first p (x ∷ xs) ≡ after_first p xs
after-cons_no p x xs e =
    ap (λ b. drop (cond (not b) (1 + position_or_len p xs) 0 + 1) (x ∷ xs)) e ∙ ap (λ n. drop n (x ∷ xs)) (past_one (position_or_len p xs))

pub after-cons_yes : {X : Type 0} (p : X → Bool) (x : X) (xs : List X) → p x ≡ true → after_first p (x ∷ xs) ≡ xs
after-cons_yes p x xs e = ap (λ b. drop (cond (not b) (1 + position_or_len p xs) 0 + 1) (x ∷ xs)) e

all_before : (c : ℕ) (text : Text) → has_byte c text ≡ false → before_first (λ x. x == c) text ≡ text
all_before c [] e = refl
all_before c (x ∷ xs) e = go (x == c) refl (λ rest. all_before c xs rest)
  where
    go : (b : Bool) → (x == c) ≡ b → (has_byte c xs ≡ false → before_first (λ y. y == c) xs ≡ xs) → before_first (λ y. y == c) (x ∷ xs) ≡ x ∷ xs
    go true here below = absurd (true≢false (rw here at e))
    go false here below = before-cons_no (λ y. y == c) x xs here ∙ ap (λ ys. x ∷ ys) (below (rw here at e))

-- ---- the bytes of `--name`

none≢some : {X : Type 0} (x : X) → None ≡ Some x → ⊥
none≢some x e = cc

stripped : (c : ℕ) (word rest : Text) → strip_byte c word ≡ Some rest → word ≡ c ∷ rest
stripped c [] rest e = absurd (none≢some rest e)
stripped c (x ∷ xs) rest e = go (x == c) refl e
  where
    go : (b : Bool) → (x == c) ≡ b → (if b then Some xs else None) ≡ Some rest → x ∷ xs ≡ c ∷ rest
    go true same e = let at : x ≡ c = eqb-true x c same in cc
    go false same e = absurd (none≢some rest e)

name_alone : (rest name : Text) → name_and_value rest ≡ (name, None) → rest ≡ name
name_alone rest name e = go (has_byte 61 rest) refl (ap (λ p. p.1) e)
  where
    go : (b : Bool) → has_byte 61 rest ≡ b → (if b then Some (after_first (λ x. x == 61) rest) else None) ≡ None → rest ≡ name
    go true here e' = absurd (none≢some _ (sym e'))
    go false here e' = sym (all_before 61 rest here) ∙ ap (λ p. p.0) e

rest_long : (rest name : Text) → long_of_rest rest ≡ Some (name, None) → rest ≡ name
rest_long [] name e = absurd (none≢some _ e)
rest_long (x ∷ xs) name e = name_alone (x ∷ xs) name cc

long_alone : (word name : Text) → long_of word ≡ Some (name, None) → word ≡ 45 ∷ 45 ∷ name
long_alone word name e = go (strip_byte 45 word) refl e
  where
    further : (one : Text) (o : Option Text) → strip_byte 45 one ≡ o → option_and_then long_of_rest o ≡ Some (name, None) → one ≡ 45 ∷ name
    further one None two e = absurd (none≢some _ e)
    further one (Some rest) two e = stripped 45 one rest two ∙ ap (λ r. 45 ∷ r) (rest_long rest name e)

    go : (o : Option Text) → strip_byte 45 word ≡ o → option_and_then long_of_rest (option_and_then (strip_byte 45) o) ≡ Some (name, None) → word ≡ 45 ∷ 45 ∷ name
    go None one e = absurd (none≢some _ e)
    go (Some rest) one e = stripped 45 word rest one ∙ ap (λ r. 45 ∷ r) (further rest (strip_byte 45 rest) refl e)

-- an option's word is one
option_word : (f : Flag) → is_option (flag_word f) ≡ true
option_word history = refl
option_word dump = refl
option_word json = refl

flag_alone : (word : Text) (f : Flag) → long_of word ≡ Some (flag_name f, None) → is_option word ≡ true
flag_alone word f e = ap is_option (long_alone word (flag_name f) e) ∙ option_word f

-- an option of the command by its long name
by_long_name : (p : ValueParser) (name : Text) → ((f : Flag) × ((flag_name f ≡ name) × (arg_by_long (rules p) name ≡ Some (built_flag f)))) ⊎ (arg_by_long (rules p) name ≡ None)
by_long_name p name = by_history (bytes_eq (codes "history") name) refl
  where
    at : (f : Flag) → bytes_eq (flag_name f) name ≡ true → flag_name f ≡ name
    at f e = (bytes_eq-Decides (flag_name f) name).0 e

    Named : Type 0
    Named = ((f : Flag) × ((flag_name f ≡ name) × (arg_by_long (rules p) name ≡ Some (built_flag f)))) ⊎ (arg_by_long (rules p) name ≡ None)

    by_json : (b : Bool) → bytes_eq (codes "json") name ≡ b → bytes_eq (codes "history") name ≡ false → bytes_eq (codes "dump") name ≡ false → Named
    by_json true e h d = inl (json, (at json e, rw (h, d, e) refl))
    by_json false e h d = inr (rw (h, d, e) refl)

    by_dump : (b : Bool) → bytes_eq (codes "dump") name ≡ b → bytes_eq (codes "history") name ≡ false → Named
    by_dump true e h = inl (dump, (at dump e, rw (h, e) refl))
    by_dump false e h = by_json (bytes_eq (codes "json") name) refl h e

    by_history : (b : Bool) → bytes_eq (codes "history") name ≡ b → Named
    by_history true e = inl (history, (at history e, rw e refl))
    by_history false e = by_dump (bytes_eq (codes "dump") name) refl e

-- ---- a word before `--` is refused or is a value

module _ (p : ValueParser) (word : Text) (open_word : is_end_of_options word ≡ false) where
  fault_is : (rows : List Row) (waits : Waits) → word_fault (shape p) [] false idle word (held_by rows waits) ≡ flag_word_fault (rules p) false (long_of word) word (held_by rows waits)
  fault_is rows waits = ap (λ b. if b then [] else flag_word_fault (rules p) false (long_of word) word (held_by rows waits)) open_word

  met_is : (rows : List Row) (waits : Waits) (position : ℕ)
      → word_met (rules p) [] false idle position word (held_by rows waits) ≡ long_or_other (rules p) idle word (long_of word) (held_by rows waits)
  met_is rows waits position =
      ap (λ b. if b then (held_by rows waits, trailing position) else long_or_other (rules p) idle word (long_of word) (held_by rows waits)) open_word

  long_refused : (name : Text) (v : Option Text) → long_of word ≡ Some (name, v) → is_option word ≡ false → IsRefused p word
  long_refused name v long other rows waits =
      ap none (fault_is rows waits ∙ ap (λ o. flag_word_fault (rules p) false o word (held_by rows waits)) long)
      ∙ ⊎_elim (λ named. at_flag named.0 v named.1.1 (long ∙ ap (λ n. Some (n, v)) (sym named.1.0))) at_none (by_long_name p name)
    where
      at_none : arg_by_long (rules p) name ≡ None → none (long_fault (rules p) false (arg_by_long (rules p) name) v (held_by rows waits)) ≡ false
      at_none e = ap (λ o. none (long_fault (rules p) false o v (held_by rows waits))) e

      with_text : (f : Flag) (text : Text) → none (long_fault (rules p) false (Some (built_flag f)) (Some text) (held_by rows waits)) ≡ false
      with_text f text = refl

      at_flag : (f : Flag) (v : Option Text) → arg_by_long (rules p) name ≡ Some (built_flag f) → long_of word ≡ Some (flag_name f, v)
          → none (long_fault (rules p) false (arg_by_long (rules p) name) v (held_by rows waits)) ≡ false
      at_flag f None e long = absurd (true≢false (sym (flag_alone word f long) ∙ other))
      at_flag f (Some text) e long = ap (λ o. none (long_fault (rules p) false o (Some text) (held_by rows waits))) e ∙ with_text f text

  -- a word that is no long option
  short_fault_is : long_of word ≡ None → (rows : List Row) (waits : Waits)
      → word_fault (shape p) [] false idle word (held_by rows waits) ≡ option_map_or (λ flags. bundle_fault (rules p) false flags (held_by rows waits)) (short_of word) []
  short_fault_is long rows waits = fault_is rows waits ∙ ap (λ o. flag_word_fault (rules p) false o word (held_by rows waits)) long

  short_met_is : long_of word ≡ None → (rows : List Row) (waits : Waits) (position : ℕ)
      → word_met (rules p) [] false idle position word (held_by rows waits) ≡ short_or_plain (rules p) idle word (short_of word) (held_by rows waits)
  short_met_is long rows waits position = met_is rows waits position ∙ ap (λ o. long_or_other (rules p) idle word o (held_by rows waits)) long

  plain_value : long_of word ≡ None → short_of word ≡ None → IsValue p false word
  plain_value long short rows waits = (
    λ position. short_met_is long rows waits position ∙ ap (λ o. short_or_plain (rules p) idle word o (held_by rows waits)) short,
    short_fault_is long rows waits ∙ ap (λ o. option_map_or (λ flags. bundle_fault (rules p) false flags (held_by rows waits)) o []) short,
  )

  empty_bundle : long_of word ≡ None → short_of word ≡ Some [] → IsValue p false word
  unfolding bundle_met flags_fault
  empty_bundle long short rows waits = (
    λ position. short_met_is long rows waits position ∙ ap (λ o. short_or_plain (rules p) idle word o (held_by rows waits)) short,
    short_fault_is long rows waits ∙ ap (λ o. option_map_or (λ flags. bundle_fault (rules p) false flags (held_by rows waits)) o []) short,
  )

  -- a bundle whose bytes spell no character is none
  no_bundle : (x : ℕ) (xs : Text) → long_of word ≡ None → short_of word ≡ Some (x ∷ xs) → slice_get (chars (x ∷ xs)) 0 ≡ None → IsValue p false word
  unfolding bundle_met flags_fault
  no_bundle x xs long short first rows waits = (
    λ position. short_met_is long rows waits position ∙ ap (λ o. short_or_plain (rules p) idle word o (held_by rows waits)) short ∙ rw first refl,
    short_fault_is long rows waits ∙ ap (λ o. option_map_or (λ flags. bundle_fault (rules p) false flags (held_by rows waits)) o []) short ∙ rw first refl,
  )

  short_refused : (x y : ℕ) (xs : Text) → long_of word ≡ None → short_of word ≡ Some (x ∷ xs) → slice_get (chars (x ∷ xs)) 0 ≡ Some y → IsRefused p word
  unfolding bundle_met flags_fault
  short_refused x y xs long short first rows waits =
      ap none (short_fault_is long rows waits ∙ ap (λ o. option_map_or (λ flags. bundle_fault (rules p) false flags (held_by rows waits)) o []) short) ∙ rw first refl

  pub told_apart : is_option word ≡ false → IsRefused p word ⊎ IsValue p false word
  told_apart other = by_long (long_of word) refl
    where
      by_char : (x : ℕ) (xs : Text) (o : Option ℕ) → long_of word ≡ None → short_of word ≡ Some (x ∷ xs) → slice_get (chars (x ∷ xs)) 0 ≡ o → IsRefused p word ⊎ IsValue p false word
      by_char x xs None long short first = inr (no_bundle x xs long short first)
      by_char x xs (Some y) long short first = inl (short_refused x y xs long short first)

      by_short : (o : Option Text) → long_of word ≡ None → short_of word ≡ o → IsRefused p word ⊎ IsValue p false word
      by_short None long short = inr (plain_value long short)
      by_short (Some []) long short = inr (empty_bundle long short)
      by_short (Some (x ∷ xs)) long short = by_char x xs (slice_get (chars (x ∷ xs)) 0) long short refl

      by_long : (o : Option (Text × Option Text)) → long_of word ≡ o → IsRefused p word ⊎ IsValue p false word
      by_long None long = by_short (short_of word) long refl
      by_long (Some q) long = inl (long_refused q.0 q.1 long other)

pub mode_is_value : (p : ValueParser) (m : Mode) → IsValue p false (mode_word m)
mode_is_value p Serial rows waits = (λ position. refl, refl)
mode_is_value p Race rows waits = (λ position. refl, refl)
mode_is_value p Gen rows waits = (λ position. refl, refl)
mode_is_value p Compare rows waits = (λ position. refl, refl)
mode_is_value p Check rows waits = (λ position. refl, refl)
mode_is_value p Copy rows waits = (λ position. refl, refl)
