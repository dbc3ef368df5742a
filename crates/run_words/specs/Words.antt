-- The words of a command line: the program's name, which isn't looked at, and behind it the mode and the options.
use Rattle.std.specs.Prelude.{ℕ, Bool, true, false, not, ◌&&◌, ◌||◌, ◌==◌, if◌then◌else◌, nat_le, List, [], ◌∷◌, codes, bytes_eq, count_by}
use Rattle.std.specs.List.{list_all, list_any, before_first, after_first}
use Rattle.map_report.specs.declared.record.Options.{Options}
use Rattle.run_words.specs.declared.words.Asked.{Asked}
use Rattle.run_words.specs.declared.words.Mode.{Mode}
use Rattle.run_words.specs.declared.words.Mode.TheVariants.{Serial, Race, Gen, Compare, Check, Copy}

-- the word of a mode
abbrev pub mode_word : Mode → List ℕ
mode_word Serial = codes "serial"
mode_word Race = codes "race"
mode_word Gen = codes "gen"
mode_word Compare = codes "compare"
mode_word Check = codes "check"
mode_word Copy = codes "copy"

abbrev pub is_mode : List ℕ → Bool
is_mode word =
    bytes_eq word (mode_word Serial) || bytes_eq word (mode_word Race) || bytes_eq word (mode_word Gen) || bytes_eq word (mode_word Compare)
    || bytes_eq word (mode_word Check) || bytes_eq word (mode_word Copy)

-- the words of the options
abbrev pub option_words : List (List ℕ)
option_words = codes "--history" ∷ codes "--dump" ∷ codes "--json" ∷ []

abbrev pub is_option : List ℕ → Bool
is_option word = list_any (λ option. bytes_eq word option) option_words

-- the word after which no option follows
abbrev pub is_end_of_options : List ℕ → Bool
is_end_of_options word = bytes_eq word (codes "--")

-- One mode stands once and each option at most once, in any order. One `--` may stand among them, after which no option
-- follows. There is no other word.
abbrev pub are_arguments : List (List ℕ) → Bool
are_arguments words =
    list_all (λ word. is_mode word || is_option word) (before_first is_end_of_options words)
    && list_all is_mode (after_first is_end_of_options words)
    && count_by is_mode words == 1
    && list_all (λ option. nat_le (count_by (λ word. bytes_eq word option) words) 1) option_words

abbrev pub are_read : List (List ℕ) → Bool
are_read [] = false
are_read (name ∷ words) = are_arguments words

-- whether the word stands among the words
abbrev pub stands : List ℕ → List (List ℕ) → Bool
stands sought words = list_any (λ word. bytes_eq word sought) words

-- what the words ask for
abbrev pub options_of : List (List ℕ) → Options
options_of [] = record { history = false; dump = false; json = false }
options_of (name ∷ words) = record {
  history = stands (codes "--history") words;
  dump = stands (codes "--dump") words;
  json = stands (codes "--json") words;
}

abbrev pub mode_of : List (List ℕ) → Mode
mode_of [] = Serial
mode_of (name ∷ words) =
    if stands (mode_word Race) words then Race
    else if stands (mode_word Gen) words then Gen
    else if stands (mode_word Compare) words then Compare
    else if stands (mode_word Check) words then Check
    else if stands (mode_word Copy) words then Copy
    else Serial

-- In the modes `compare` and `check` no option may stand, in mode `copy` any but `--json`, and in the others any.
abbrev pub may_stand : Mode → Options → Bool
may_stand Compare options = not (options.history || options.dump || options.json)
may_stand Check options = not (options.history || options.dump || options.json)
may_stand Copy options = not options.json
may_stand Serial options = true
may_stand Race options = true
may_stand Gen options = true

-- The words are a mode and options that may stand in it.
abbrev pub are_words : List (List ℕ) → Bool
are_words words = are_read words && may_stand (mode_of words) (options_of words)

abbrev pub asked_of : List (List ℕ) → Asked
asked_of words = record { mode = mode_of words; options = options_of words }
