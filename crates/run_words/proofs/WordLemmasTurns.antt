-- What each word does where the walk stands.
use Rattle.std.proofs.Common.{◌≡◌, ◌∙◌, ◌++◌, refl, ap, ap₂, ℕ, Bool, true, false, true≢false, codes, List, [], ◌∷◌, None}
use Rattle.clap.specs.Walk.{Held, Row, Step, Text, after_step, has_row, idle, settled, value, walked, with_values, without, word_met}
use Rattle.clap.specs.Values.{reading_of}
use Rattle.clap.specs.Kinds.{Kinds, or_else}
use Rattle.clap.specs.Faults.{step_fault, turn_fault, word_fault}
use Rattle.clap.specs.ValueTests.{accepts}
use Rattle.clap.specs.declared.builder.value_parser.ValueParser.{ValueParser}
use Rattle.clap.specs.declared.builder.value_parser.Reading.TheVariants as reading
use Rattle.clap.specs.declared.parser.matches.ValueSource.TheVariants.{CommandLine}
use Rattle.run_words.proofs.WordLemmasCommand.{Flag, history, dump, json, Waits, flag_name, flag_row, flag_word, for_mode, held_by, mode_row, none, rules, shape, walk_by}
use Rattle.run_words.proofs.WordLemmasRows.{found, has_none, used_first}

-- the word goes to a positional
abbrev pub IsValue : ValueParser → Bool → Text → Type 0
IsValue p trailing word = (rows : List Row) (waits : Waits) →
    ((position : ℕ) → word_met (rules p) [] trailing idle position word (held_by rows waits) ≡ (held_by rows waits, value))
    × (word_fault (shape p) [] trailing idle word (held_by rows waits) ≡ [])

-- the word is no option of the command
abbrev pub IsRefused : ValueParser → Text → Type 0
IsRefused p word = (rows : List Row) (waits : Waits) → none (word_fault (shape p) [] false idle word (held_by rows waits)) ≡ false

fails_first : (a b : Kinds) → none a ≡ false → none (or_else a b) ≡ false
fails_first [] b h = absurd (true≢false h)
fails_first (k ∷ ks) b h = refl

-- ---- behind `--` each word is a value

pub value_behind : (p : ValueParser) (word : Text) → IsValue p true word
value_behind p word rows waits = (λ position. refl, refl)

-- ---- a value

module _ (p : ValueParser) (rows : List Row) (trailing : Bool) (word : Text) (is : IsValue p trailing word) where
  value_fault : (waits : Waits) (position : ℕ) → turn_fault (shape p) [] (walk_by rows waits position trailing) word ≡ step_fault (shape p) position (held_by rows waits) value
  value_fault waits position =
      ap₂ (λ (kinds : Kinds) (m : Held × Step). or_else kinds (step_fault (shape p) position m.0 m.1)) (is rows waits).1 ((is rows waits).0 position)

  value_walk : (waits : Waits) (position : ℕ)
      → walked (rules p) [] (walk_by rows waits position trailing) word ≡ after_step (rules p) word (walk_by rows waits position trailing) (held_by rows waits) value
  unfolding walked
  value_walk waits position =
      ap (λ (m : Held × Step). after_step (rules p) word (walk_by rows waits position trailing) m.0 m.1) ((is rows waits).0 position)

  pub first_value_fault : turn_fault (shape p) [] (walk_by rows None 1 trailing) word ≡ []
  first_value_fault = value_fault None 1

  pub second_value : (waits : Waits) → none (turn_fault (shape p) [] (walk_by rows waits 2 trailing) word) ≡ false
  second_value waits = ap none (value_fault waits 2)

pub first_value_walk : (p : ValueParser) (rows : List Row) (trailing : Bool) (word : Text) → IsValue p trailing word
    → walked (rules p) [] (walk_by rows None 1 trailing) word ≡ walk_by rows (for_mode word) 2 trailing
first_value_walk p rows false word is = value_walk p rows false word is None 1
first_value_walk p rows true word is = value_walk p rows true word is None 1

-- ---- a word that is refused

pub refused_turn : (p : ValueParser) (rows : List Row) (waits : Waits) (position : ℕ) (word : Text) → IsRefused p word
    → none (turn_fault (shape p) [] (walk_by rows waits position false) word) ≡ false
refused_turn p rows waits position word is = fails_first _ _ (is rows waits)

-- ---- an option where nothing waits

module _ (p : ValueParser) (rows : List Row) (position : ℕ) where
  pub flag_passes : (f : Flag) → has_row (flag_name f) rows ≡ false → turn_fault (shape p) [] (walk_by rows None position false) (flag_word f) ≡ []
  flag_passes history e = rw e refl
  flag_passes dump e = rw e refl
  flag_passes json e = rw e refl

  pub flag_repeats : (f : Flag) → has_row (flag_name f) rows ≡ true → none (turn_fault (shape p) [] (walk_by rows None position false) (flag_word f)) ≡ false
  flag_repeats history e = rw e refl
  flag_repeats dump e = rw e refl
  flag_repeats json e = rw e refl

-- the rows with the flag's
abbrev rows_with : Flag → List Row → List Row
rows_with f rows = with_values (flag_name f) reading.AsWritten CommandLine (codes "true" ∷ []) (without (flag_name f) rows)

rows_with_is : (f : Flag) (rows : List Row) → found (flag_name f) rows ≡ None → rows_with f rows ≡ rows ++ flag_row f ∷ []
rows_with_is f rows e = used_first (flag_name f) reading.AsWritten (codes "true" ∷ []) rows e

pub flag_walk : (p : ValueParser) (rows : List Row) (position : ℕ) (f : Flag) → found (flag_name f) rows ≡ None
    → walked (rules p) [] (walk_by rows None position false) (flag_word f) ≡ walk_by (rows ++ flag_row f ∷ []) None position false
unfolding walked
flag_walk p rows position f e = goes f ∙ ap (λ rs. walk_by rs None position false) (rows_with_is f rows e)
  where
    goes : (f : Flag) → walked (rules p) [] (walk_by rows None position false) (flag_word f) ≡ walk_by (rows_with f rows) None position false
    goes history = refl
    goes dump = refl
    goes json = refl

-- ---- an option where a word for the mode waits

-- the rows with that of the mode
abbrev rows_settled : ValueParser → Text → List Row → List Row
rows_settled p word rows = with_values (codes "mode") (reading_of p) CommandLine (word ∷ []) (without (codes "mode") rows)

pub settled_is : (p : ValueParser) (word : Text) (rows : List Row) → found (codes "mode") rows ≡ None
    → settled (rules p) (held_by rows (for_mode word)) ≡ held_by (rows ++ mode_row p word ∷ []) None
settled_is p word rows e = ap (λ rs. held_by rs None) (used_first (codes "mode") (reading_of p) (word ∷ []) rows e)

module _ (p : ValueParser) (word : Text) (rows : List Row) (absent : found (codes "mode") rows ≡ None) where
  settled_rows_are : rows_settled p word rows ≡ rows ++ mode_row p word ∷ []
  settled_rows_are = used_first (codes "mode") (reading_of p) (word ∷ []) rows absent

  no_mode_row : has_row (codes "mode") rows ≡ false
  no_mode_row = has_none (codes "mode") rows absent

  pub settling_flag_passes : (f : Flag) → accepts false p word ≡ true → has_row (flag_name f) (rows ++ mode_row p word ∷ []) ≡ false
      → turn_fault (shape p) [] (walk_by rows (for_mode word) 2 false) (flag_word f) ≡ []
  settling_flag_passes f good first = goes f (ap (has_row (flag_name f)) settled_rows_are ∙ first)
    where
      goes : (f : Flag) → has_row (flag_name f) (rows_settled p word rows) ≡ false → turn_fault (shape p) [] (walk_by rows (for_mode word) 2 false) (flag_word f) ≡ []
      goes history e = rw (no_mode_row, good, e) refl
      goes dump e = rw (no_mode_row, good, e) refl
      goes json e = rw (no_mode_row, good, e) refl

  pub settling_flag_repeats : (f : Flag) → accepts false p word ≡ true → has_row (flag_name f) (rows ++ mode_row p word ∷ []) ≡ true
      → none (turn_fault (shape p) [] (walk_by rows (for_mode word) 2 false) (flag_word f)) ≡ false
  settling_flag_repeats f good again = goes f (ap (has_row (flag_name f)) settled_rows_are ∙ again)
    where
      goes : (f : Flag) → has_row (flag_name f) (rows_settled p word rows) ≡ true → none (turn_fault (shape p) [] (walk_by rows (for_mode word) 2 false) (flag_word f)) ≡ false
      goes history e = rw (no_mode_row, good, e) refl
      goes dump e = rw (no_mode_row, good, e) refl
      goes json e = rw (no_mode_row, good, e) refl

  pub settling_flag_refuses : (f : Flag) → accepts false p word ≡ false → none (turn_fault (shape p) [] (walk_by rows (for_mode word) 2 false) (flag_word f)) ≡ false
  settling_flag_refuses history bad = rw (no_mode_row, bad) refl
  settling_flag_refuses dump bad = rw (no_mode_row, bad) refl
  settling_flag_refuses json bad = rw (no_mode_row, bad) refl

  pub settling_flag_walk : (f : Flag) → found (flag_name f) (rows ++ mode_row p word ∷ []) ≡ None
      → walked (rules p) [] (walk_by rows (for_mode word) 2 false) (flag_word f) ≡ walk_by ((rows ++ mode_row p word ∷ []) ++ flag_row f ∷ []) None 2 false
  unfolding walked
  settling_flag_walk f e =
      goes f ∙ ap (λ rs. walk_by (rows_with f rs) None 2 false) settled_rows_are ∙ ap (λ rs. walk_by rs None 2 false) (rows_with_is f (rows ++ mode_row p word ∷ []) e)
    where
      goes : (f : Flag) → walked (rules p) [] (walk_by rows (for_mode word) 2 false) (flag_word f) ≡ walk_by (rows_with f (rows_settled p word rows)) None 2 false
      goes history = refl
      goes dump = refl
      goes json = refl

-- ---- `--`

pub end_walk : (p : ValueParser) (rows : List Row) (waits : Waits) (position : ℕ)
    → walked (rules p) [] (walk_by rows waits position false) (codes "--") ≡ walk_by rows waits position true
unfolding walked
end_walk p rows waits position = refl

pub end_fault : (p : ValueParser) (rows : List Row) (waits : Waits) (position : ℕ) → turn_fault (shape p) [] (walk_by rows waits position false) (codes "--") ≡ []
end_fault p rows waits position = refl
