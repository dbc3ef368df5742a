-- The command that the words are read by, and where its walk over them may stand.
use Rattle.std.proofs.Common.{◌≡◌, ◌⊎◌, inl, inr, refl, sym, ℕ, Bool, true, false, codes, List, [], ◌∷◌, Option, Some, None}
use Rattle.std.specs.Str.{bytes_eq}
use Rattle.std.proofs.lemmas.Slice.Eq.{bytes_eq-Decides}
use Rattle.clap.specs.Walk.{Held, Row, Rule, Text, idle, Walk}
use Rattle.clap.specs.Simple.{App, Shape, new_rule, new_shape, with_rule}
use Rattle.clap.specs.Values.{reading_of}
use Rattle.clap.specs.Kinds.{Kinds}
use Rattle.clap.specs.Faults.{is_simple_and_free}
use Rattle.clap.specs.declared.builder.action.ArgAction.TheVariants.{Set, SetTrue}
use Rattle.clap.specs.declared.builder.value_parser.ValueParser.{ValueParser}
use Rattle.clap.specs.declared.builder.value_parser.ValueParser.TheVariants as vp
use Rattle.clap.specs.declared.builder.value_parser.Reading.TheVariants as reading
use Rattle.clap.specs.declared.parser.matches.ValueSource.TheVariants.{CommandLine, DefaultValue}
use Rattle.run_words.specs.Words.{is_mode, is_option, is_end_of_options, mode_word}
use Rattle.run_words.specs.declared.words.Mode.{Mode}
use Rattle.run_words.specs.declared.words.Mode.TheVariants.{Serial, Race, Gen, Compare, Check, Copy}

-- ---- the words

pub data Flag : Type 0 where
  history : Flag
  dump : Flag
  json : Flag

abbrev pub flag_name : Flag → Text
flag_name history = codes "history"
flag_name dump = codes "dump"
flag_name json = codes "json"

abbrev pub flag_word : Flag → Text
flag_word flag = 45 ∷ 45 ∷ flag_name flag

abbrev pub is_flag : Flag → Text → Bool
is_flag flag word = bytes_eq word (flag_word flag)

pub flag_is : (f : Flag) → is_flag f (flag_word f) ≡ true
flag_is history = refl
flag_is dump = refl
flag_is json = refl

-- two flags are one, or neither their words nor their names are equal
pub flags_apart : (f g : Flag) → (f ≡ g) ⊎ (is_flag g (flag_word f) ≡ false) × (bytes_eq (flag_name f) (flag_name g) ≡ false)
flags_apart history history = inl refl
flags_apart history dump = inr (refl, refl)
flags_apart history json = inr (refl, refl)
flags_apart dump history = inr (refl, refl)
flags_apart dump dump = inl refl
flags_apart dump json = inr (refl, refl)
flags_apart json history = inr (refl, refl)
flags_apart json dump = inr (refl, refl)
flags_apart json json = inl refl

-- a mode, an option, `--` or another word
pub data Kind (word : Text) : Type 0 where
  a_mode : (m : Mode) → mode_word m ≡ word → Kind word
  an_option : (f : Flag) → flag_word f ≡ word → Kind word
  dashes : codes "--" ≡ word → Kind word
  another : is_mode word ≡ false → is_option word ≡ false → is_end_of_options word ≡ false → Kind word

same_text : (word text : Text) → bytes_eq word text ≡ true → text ≡ word
same_text word text e = sym ((bytes_eq-Decides word text).0 e)

pub kind_of_word : (word : Text) → Kind word
kind_of_word word = by_serial (bytes_eq word (codes "serial")) refl
  where
    by_dashes : (b : Bool) → is_end_of_options word ≡ b → is_mode word ≡ false → is_option word ≡ false → Kind word
    by_dashes true e no_mode no_option = dashes (same_text word (codes "--") e)
    by_dashes false e no_mode no_option = another no_mode no_option e

    by_json : (b : Bool) → is_flag json word ≡ b → is_mode word ≡ false → is_flag history word ≡ false → is_flag dump word ≡ false → Kind word
    by_json true e no_mode h d = an_option json (same_text word (codes "--json") e)
    by_json false e no_mode h d = by_dashes (is_end_of_options word) refl no_mode (rw (h, d, e) refl)

    by_dump : (b : Bool) → is_flag dump word ≡ b → is_mode word ≡ false → is_flag history word ≡ false → Kind word
    by_dump true e no_mode h = an_option dump (same_text word (codes "--dump") e)
    by_dump false e no_mode h = by_json (is_flag json word) refl no_mode h e

    by_history : (b : Bool) → is_flag history word ≡ b → is_mode word ≡ false → Kind word
    by_history true e no_mode = an_option history (same_text word (codes "--history") e)
    by_history false e no_mode = by_dump (is_flag dump word) refl no_mode e

    by_copy : (b : Bool) → bytes_eq word (codes "copy") ≡ b → bytes_eq word (codes "serial") ≡ false → bytes_eq word (codes "race") ≡ false → bytes_eq word (codes "gen") ≡ false
        → bytes_eq word (codes "compare") ≡ false → bytes_eq word (codes "check") ≡ false → Kind word
    by_copy true e no_serial no_race no_gen no_compare no_check = a_mode Copy (same_text word (codes "copy") e)
    by_copy false e no_serial no_race no_gen no_compare no_check = by_history (is_flag history word) refl (rw (no_serial, no_race, no_gen, no_compare, no_check, e) refl)

    by_check : (b : Bool) → bytes_eq word (codes "check") ≡ b → bytes_eq word (codes "serial") ≡ false → bytes_eq word (codes "race") ≡ false → bytes_eq word (codes "gen") ≡ false
        → bytes_eq word (codes "compare") ≡ false → Kind word
    by_check true e no_serial no_race no_gen no_compare = a_mode Check (same_text word (codes "check") e)
    by_check false e no_serial no_race no_gen no_compare = by_copy (bytes_eq word (codes "copy")) refl no_serial no_race no_gen no_compare e

    by_compare : (b : Bool) → bytes_eq word (codes "compare") ≡ b → bytes_eq word (codes "serial") ≡ false → bytes_eq word (codes "race") ≡ false → bytes_eq word (codes "gen") ≡ false → Kind word
    by_compare true e no_serial no_race no_gen = a_mode Compare (same_text word (codes "compare") e)
    by_compare false e no_serial no_race no_gen = by_check (bytes_eq word (codes "check")) refl no_serial no_race no_gen e

    by_gen : (b : Bool) → bytes_eq word (codes "gen") ≡ b → bytes_eq word (codes "serial") ≡ false → bytes_eq word (codes "race") ≡ false → Kind word
    by_gen true e no_serial no_race = a_mode Gen (same_text word (codes "gen") e)
    by_gen false e no_serial no_race = by_compare (bytes_eq word (codes "compare")) refl no_serial no_race e

    by_race : (b : Bool) → bytes_eq word (codes "race") ≡ b → bytes_eq word (codes "serial") ≡ false → Kind word
    by_race true e no_serial = a_mode Race (same_text word (codes "race") e)
    by_race false e no_serial = by_gen (bytes_eq word (codes "gen")) refl no_serial e

    by_serial : (b : Bool) → bytes_eq word (codes "serial") ≡ b → Kind word
    by_serial true e = a_mode Serial (same_text word (codes "serial") e)
    by_serial false e = by_race (bytes_eq word (codes "race")) refl e

-- ---- the command

abbrev pub mode_rule : ValueParser → Rule
mode_rule p = record (new_rule (codes "mode")) { required = true; parser = Some p }

abbrev pub flag_rule : Flag → Rule
flag_rule f = record (new_rule (flag_name f)) { long = Some (flag_name f); action = Some SetTrue }

abbrev pub bare_shape : Shape
bare_shape = record (new_shape (codes "bpfmap")) { disable_help_flag = true; disable_version_flag = true }

-- the command as it is made, by the parser of its mode
abbrev pub command_of : ValueParser → App
command_of p =
    with_rule (with_rule (with_rule (with_rule (record { top = bare_shape; subs = [] }) (mode_rule p)) (flag_rule history)) (flag_rule dump)) (flag_rule json)

-- its arguments, and the command, as they are built
abbrev pub built_mode : ValueParser → Rule
built_mode p = record (mode_rule p) { index = Some 1; action = Some Set; range = Some (record { start_inclusive = 1; end_inclusive = 1 }) }

abbrev pub built_flag : Flag → Rule
built_flag f = record (flag_rule f) {
  defaults = codes "false" ∷ [];
  missing = codes "true" ∷ [];
  parser = Some vp.Bool;
  range = Some (record { start_inclusive = 0; end_inclusive = 0 });
}

abbrev pub rules : ValueParser → List Rule
rules p = built_mode p ∷ built_flag history ∷ built_flag dump ∷ built_flag json ∷ []

abbrev pub shape : ValueParser → Shape
shape p = record bare_shape { rules = rules p; disable_help_subcommand = true; is_built = true }

pub command_is_simple : (p : ValueParser) → is_simple_and_free (command_of p) ≡ true
command_is_simple p = refl

-- where no kind of error comes
abbrev pub none : Kinds → Bool
none [] = true
none (k ∷ ks) = false

-- ---- where the walk stands

abbrev pub Waits : Type 0
Waits = Option (Text × List Text)

abbrev pub held_by : List Row → Waits → Held
held_by rows waits = record { rows = rows; pending = waits; skip = 0 }

abbrev pub walk_by : List Row → Waits → ℕ → Bool → Walk
walk_by rows waits position trailing =
    record { held = held_by rows waits; waiting = idle; position = position; is_trailing = trailing; stopped = None }

-- a word that went to the mode, and is still to be checked
abbrev pub for_mode : Text → Waits
for_mode word = Some (codes "mode", word ∷ [])

abbrev pub mode_row : ValueParser → Text → Row
mode_row p word = record { id = codes "mode"; values = word ∷ []; count = None; source = Some CommandLine; reading = reading_of p }

abbrev pub flag_row : Flag → Row
flag_row f = record { id = flag_name f; values = codes "true" ∷ []; count = None; source = Some CommandLine; reading = reading.AsWritten }

abbrev pub default_row : Flag → Row
default_row f = record { id = flag_name f; values = codes "false" ∷ []; count = None; source = Some DefaultValue; reading = reading.AsWritten }

-- no word went to the mode; this one did, and is still to be checked; it was checked, since an option came behind it
pub data Stage : Type 0 where
  unread : Stage
  met : Mode → Stage
  past : Mode → Stage

abbrev pub walk_at : List Row → Stage → Bool → Walk
walk_at rows unread trailing = walk_by rows None 1 trailing
walk_at rows (met m) trailing = walk_by rows (for_mode (mode_word m)) 2 trailing
walk_at rows (past m) trailing = walk_by rows None 2 trailing

abbrev pub has_mode : Stage → Bool
has_mode unread = false
has_mode (met m) = true
has_mode (past m) = true

-- the first mode's word is the second's
abbrev pub is_word_of : Mode → Mode → Bool
is_word_of m k = bytes_eq (mode_word m) (mode_word k)

-- whether a mode's word was met
abbrev pub was_met : Stage → Mode → Bool
was_met unread k = false
was_met (met m) k = is_word_of m k
was_met (past m) k = is_word_of m k

-- the mode that has a row
abbrev pub checked : Stage → Option Mode
checked unread = None
checked (met m) = None
checked (past m) = Some m
