-- The walk over the words, and what it comes to at their end.
use Rattle.std.proofs.Common.{◌≡◌, ◌∙◌, ◌++◌, ◌&&◌, ◌||◌, ⊎_elim, refl, sym, ap, ap₂, subst, Bool, true, false, true≢false, not, codes, is_some, List, [], ◌∷◌, Option, Some, None}
use Rattle.std.specs.Prelude.{fold, if◌then◌else◌, option_and_then, option_map}
use Rattle.std.proofs.Math.Bool.{or-false}
use Rattle.clap.specs.Walk.{Held, Row, Rule, Text, Walk, finished, first_of, has_row, is_empty, one_of, row_text, settled, walked, with_default}
use Rattle.clap.specs.Kinds.{Kinds, or_else}
use Rattle.clap.specs.Values.{bool_text}
use Rattle.clap.specs.ValueTests.{accepts}
use Rattle.clap.specs.Faults.{check_fault, default_fault, defaults_fault, given_default_fault, settle_fault, turn_fault, walk_fault}
use Rattle.clap.specs.declared.builder.value_parser.ValueParser.{ValueParser}
use Rattle.std.specs.Str.{bytes_eq}
use Rattle.run_words.specs.Words.{is_mode, is_option, is_end_of_options, mode_word, stands}
use Rattle.run_words.specs.declared.words.Mode.{Mode}
use Rattle.run_words.specs.declared.words.Mode.TheVariants.{Serial, Race, Gen, Compare, Check, Copy}
use Rattle.run_words.proofs.WordLemmasCommand.{Flag, history, dump, json, Kind, a_mode, an_option, another, dashes, kind_of_word, Stage, unread, met, past, built_flag, built_mode, checked, default_row, flag_name, flag_row, flag_word, for_mode, has_mode, held_by, is_flag, is_word_of, mode_row, none, rules, shape, walk_at, walk_by, was_met}
use Rattle.run_words.proofs.WordLemmasRows.{AreRows, defaulted, flag_added, flag_has_row, found, has_none, mode_added, mode_has_no_default, no_flag_row, not_found, or_row, with_flag}
use Rattle.run_words.proofs.WordLemmasTurns.{IsRefused, IsValue, end_fault, end_walk, first_value_fault, first_value_walk, flag_passes, flag_repeats, flag_walk, refused_turn, second_value, settled_is, settling_flag_passes, settling_flag_refuses, settling_flag_repeats, settling_flag_walk, value_behind}
use Rattle.run_words.proofs.WordLemmasShapes.{mode_is_value, told_apart}
use Rattle.run_words.proofs.WordLemmasCounts.{dashes_are_no_flag, flag_is_no_mode, mode_is_no_flag, passes, passes_behind, passes_end, passes_flag, passes_mode, passes_none, passes_other}

-- the kinds of what is left to do at the end of the words
abbrev rows_fault : ValueParser → List Row → Kinds
rows_fault p rows = or_else (defaults_fault rows (rules p)) (check_fault (shape p) (fold with_default rows (rules p)) false)

abbrev last_fault : ValueParser → Held → Kinds
last_fault p h = or_else (settle_fault (rules p) false h) (rows_fault p (settled (rules p) h).rows)

-- the kinds from some place of the walk on
unfoldable pub rest_fault : ValueParser → Walk → List Text → Kinds
rest_fault p w words = or_else (walk_fault (shape p) [] w words) (last_fault p (fold (walked (rules p) []) w words).held)

-- the rows at the end
unfoldable pub rows_left : ValueParser → Walk → List Text → List Row
rows_left p w words = finished (rules p) (fold (walked (rules p) []) w words).held

-- ---- a turn

past_both : (a b c : Kinds) → a ≡ [] → or_else (or_else a b) c ≡ or_else b c
past_both a b c e = ap (λ x. or_else (or_else x b) c) e

fails_both : (a b c : Kinds) → none a ≡ false → none (or_else (or_else a b) c) ≡ false
fails_both [] b c e = absurd (true≢false e)
fails_both (k ∷ ks) b c e = refl

rest_on : (p : ValueParser) (w : Walk) (word : Text) (words : List Text) → turn_fault (shape p) [] w word ≡ [] → rest_fault p w (word ∷ words) ≡ rest_fault p (walked (rules p) [] w word) words
unfolding rest_fault walk_fault
rest_on p w word words e = past_both _ _ _ e

rest_fails : (p : ValueParser) (w : Walk) (word : Text) (words : List Text) → none (turn_fault (shape p) [] w word) ≡ false → none (rest_fault p w (word ∷ words)) ≡ false
unfolding rest_fault walk_fault
rest_fails p w word words e = fails_both _ _ _ e

rows_on : (p : ValueParser) (w : Walk) (word : Text) (words : List Text) → rows_left p w (word ∷ words) ≡ rows_left p (walked (rules p) [] w word) words
unfolding rows_left
rows_on p w word words = refl

-- ---- the end of the words

both_none : (a b : Kinds) → a ≡ [] → b ≡ [] → or_else a b ≡ []
both_none a b e f = ap₂ or_else e f

flag_default_fault : (rows : List Row) (f : Flag) → default_fault rows (built_flag f) ≡ []
flag_default_fault rows f = go (has_row (flag_name f) rows) f
  where
    go : (b : Bool) (f : Flag) → (if b || is_empty (built_flag f).defaults then [] else given_default_fault (built_flag f) (built_flag f).defaults) ≡ []
    go true f = refl
    go false f = refl

mode_default_fault : (p : ValueParser) (rows : List Row) → default_fault rows (built_mode p) ≡ []
mode_default_fault p rows = go (has_row (codes "mode") rows)
  where
    go : (b : Bool) → (if b || is_empty (built_mode p).defaults then [] else given_default_fault (built_mode p) (built_mode p).defaults) ≡ []
    go true = refl
    go false = refl

abbrev NoneFaults : List Rule → Type 0
NoneFaults rest = (rows : List Row) → defaults_fault rows rest ≡ []

no_fault_first : (a : Rule) (rest : List Rule) → ((rows : List Row) → default_fault rows a ≡ []) → NoneFaults rest → NoneFaults (a ∷ rest)
unfolding defaults_fault
no_fault_first a rest first h rows = both_none (default_fault rows a) (defaults_fault (with_default rows a) rest) (first rows) (h (with_default rows a))

no_fault_last : NoneFaults []
unfolding defaults_fault
no_fault_last rows = refl

no_default_fault : (p : ValueParser) → NoneFaults (rules p)
no_default_fault p =
    let last = no_fault_first (built_flag json) [] (λ rows. flag_default_fault rows json) no_fault_last in
    let flags = no_fault_first (built_flag history) _ (λ rows. flag_default_fault rows history) (no_fault_first (built_flag dump) _ (λ rows. flag_default_fault rows dump) last) in
    no_fault_first (built_mode p) _ (mode_default_fault p) flags

-- the row of an id, after the defaults
abbrev or_defaults : Option Row → Text → Option Row
or_defaults o id = or_row (or_row (or_row o id (default_row history)) id (default_row dump)) id (default_row json)

found_last : (p : ValueParser) (id : Text) (rows : List Row) → found id (fold with_default rows (rules p)) ≡ or_defaults (found id rows) id
found_last p id rows =
    defaulted id _ json ∙ ap (λ o. or_row o id (default_row json)) (defaulted id _ dump)
    ∙ ap (λ o. or_row (or_row o id (default_row dump)) id (default_row json)) (defaulted id _ history)
    ∙ ap (λ rs. or_defaults (found id rs) id) (mode_has_no_default p rows)

mode_last : (p : ValueParser) (rows : List Row) → found (codes "mode") (fold with_default rows (rules p)) ≡ found (codes "mode") rows
mode_last p rows = found_last p (codes "mode") rows ∙ go (found (codes "mode") rows)
  where
    go : (o : Option Row) → or_defaults o (codes "mode") ≡ o
    go None = refl
    go (Some r) = refl

module _ {p : ValueParser} {rows : List Row} {seen : Flag → Bool} {mode : Option Mode} (are : AreRows p rows seen mode) where
  ends : none (rows_fault p rows) ≡ is_some mode
  ends = ap (λ kinds. none (or_else kinds (check_fault (shape p) (fold with_default rows (rules p)) false))) (no_default_fault p rows)
      ∙ go mode (mode_last p rows ∙ are.mode_is)
    where
      go : (mode : Option Mode) → found (codes "mode") (fold with_default rows (rules p)) ≡ option_map (λ m. mode_row p (mode_word m)) mode
          → none (check_fault (shape p) (fold with_default rows (rules p)) false) ≡ is_some mode
      go None e = rw e refl
      go (Some m) e = rw e refl

  flag_read : (f : Flag) → one_of (flag_name f) (fold with_default rows (rules p)) ≡ Some (bool_text (seen f))
  flag_read f = ap (option_and_then row_text) (found_last p (flag_name f) rows ∙ ap (λ o. or_defaults o (flag_name f)) (are.flags f)) ∙ go f (seen f)
    where
      go : (f : Flag) (b : Bool) → option_and_then row_text (or_defaults (if b then Some (flag_row f) else None) (flag_name f)) ≡ Some (bool_text b)
      go history true = refl
      go history false = refl
      go dump true = refl
      go dump false = refl
      go json true = refl
      go json false = refl

mode_read : {p : ValueParser} {rows : List Row} {seen : Flag → Bool} {m : Mode} → AreRows p rows seen (Some m) → first_of (codes "mode") (fold with_default rows (rules p)) ≡ Some (mode_word m)
mode_read {p} {rows} are = rw (mode_last p rows ∙ are.mode_is) refl

-- the word that waits for the mode
module _ (p : ValueParser) (word : Text) (rows : List Row) (absent : found (codes "mode") rows ≡ None) where
  settling_passes : accepts false p word ≡ true → settle_fault (rules p) false (held_by rows (for_mode word)) ≡ []
  settling_passes good = rw (has_none (codes "mode") rows absent, good) refl

  settling_refuses : accepts false p word ≡ false → none (settle_fault (rules p) false (held_by rows (for_mode word))) ≡ false
  settling_refuses bad = rw (has_none (codes "mode") rows absent, bad) refl

-- ---- the words pass, and what was read

abbrev mode_chosen : Bool → Bool → Bool → Bool → Bool → Mode
mode_chosen race gen compare check copy =
    if race then Race else if gen then Gen else if compare then Compare else if check then Check else if copy then Copy else Serial

-- the mode whose word is among those that stood
abbrev mode_by : (Mode → Bool) → Mode
mode_by stood = mode_chosen (stood Race) (stood Gen) (stood Compare) (stood Check) (stood Copy)

-- what the rows at the end say of these flags and of the modes whose words stood
pub record ReadsWords (p : ValueParser) (rows : List Row) (flags : Flag → Bool) (stood : Mode → Bool) : Type 0 where
  pub flag_is : (f : Flag) → one_of (flag_name f) rows ≡ Some (bool_text (flags f))
  pub mode_is : first_of (codes "mode") rows ≡ Some (mode_word (mode_by stood))

abbrev flags_by : (Flag → Bool) → List Text → Flag → Bool
flags_by seen words f = seen f || stands (flag_word f) words

abbrev modes_by : (Mode → Bool) → List Text → Mode → Bool
modes_by stood words k = stood k || stands (mode_word k) words

-- no kind comes exactly where the words pass, and then each option and the mode is read
abbrev pub Meets : ValueParser → List Row → Stage → (Flag → Bool) → Bool → List Text → Type 0
Meets p rows stage seen behind words = (none (rest_fault p (walk_at rows stage behind) words) ≡ passes (has_mode stage) seen behind words)
    × (passes (has_mode stage) seen behind words ≡ true → ReadsWords p (rows_left p (walk_at rows stage behind) words) (flags_by seen words) (modes_by (was_met stage) words))

or_shift : (a b c : Bool) → ((a || b) || c) ≡ (b || (a || c))
or_shift true true c = refl
or_shift true false c = refl
or_shift false b c = refl

same_reads : {p : ValueParser} {rows now : List Row} {flags read : Flag → Bool} {stood stands_now : Mode → Bool} → rows ≡ now → ((f : Flag) → flags f ≡ read f)
    → ((k : Mode) → stood k ≡ stands_now k) → ReadsWords p now flags stood → ReadsWords p rows read stands_now
same_reads {stood = stood} {stands_now = stands_now} same flags_same modes_same h = record {
  flag_is = λ f. ap (one_of (flag_name f)) same ∙ h.flag_is f ∙ ap (λ b. Some (bool_text b)) (flags_same f);
  mode_is = ap (first_of (codes "mode")) same ∙ h.mode_is ∙ ap₂ (λ (race gen : Bool). Some (mode_word (mode_chosen race gen (stood Compare) (stood Check) (stood Copy)))) (modes_same Race) (modes_same Gen)
      ∙ ap₂ (λ (compare check : Bool). Some (mode_word (mode_chosen (stands_now Race) (stands_now Gen) compare check (stood Copy)))) (modes_same Compare) (modes_same Check)
      ∙ ap (λ (copy : Bool). Some (mode_word (mode_chosen (stands_now Race) (stands_now Gen) (stands_now Compare) (stands_now Check) copy))) (modes_same Copy);
}

module _ (p : ValueParser) (rows now : List Row) (stage after : Stage) (seen next : Flag → Bool) (behind later : Bool) (word : Text) (words : List Text) where
  goes_on : turn_fault (shape p) [] (walk_at rows stage behind) word ≡ [] → walked (rules p) [] (walk_at rows stage behind) word ≡ walk_at now after later
      → passes (has_mode stage) seen behind (word ∷ words) ≡ passes (has_mode after) next later words
      → ((f : Flag) → flags_by next words f ≡ flags_by seen (word ∷ words) f) → ((k : Mode) → modes_by (was_met after) words k ≡ modes_by (was_met stage) (word ∷ words) k)
      → Meets p now after next later words → Meets p rows stage seen behind (word ∷ words)
  goes_on fault walk passing flags modes h = (
    ap none (rest_on p (walk_at rows stage behind) word words fault ∙ ap (λ w. rest_fault p w words) walk) ∙ h.0 ∙ sym passing,
    λ passed. same_reads (rows_on p (walk_at rows stage behind) word words ∙ ap (λ w. rows_left p w words) walk) flags modes (h.1 (sym passing ∙ passed)),
  )

module _ (p : ValueParser) (rows : List Row) (stage : Stage) (seen : Flag → Bool) (behind : Bool) where
  wrong : (words : List Text) → none (rest_fault p (walk_at rows stage behind) words) ≡ false → passes (has_mode stage) seen behind words ≡ false → Meets p rows stage seen behind words
  wrong words fault passing = (fault ∙ sym passing, λ passed. absurd (true≢false (sym passed ∙ passing)))

  stops : (word : Text) (words : List Text) → none (turn_fault (shape p) [] (walk_at rows stage behind) word) ≡ false → passes (has_mode stage) seen behind (word ∷ words) ≡ false
      → Meets p rows stage seen behind (word ∷ words)
  stops word words fault passing = wrong (word ∷ words) (rest_fails p (walk_at rows stage behind) word words fault) passing

-- ---- a word for the mode that is none is refused at last

module _ (p : ValueParser) (rows : List Row) (absent : found (codes "mode") rows ≡ None) (first : Text) (bad : accepts false p first ≡ false) where
  abbrev Refuses : Bool → List Text → Type 0
  Refuses behind words = none (rest_fault p (walk_by rows (for_mode first) 2 behind) words) ≡ false

  refused_none : (behind : Bool) → Refuses behind []
  unfolding rest_fault walk_fault
  refused_none behind = go (settle_fault (rules p) false (held_by rows (for_mode first))) (settling_refuses p first rows absent bad)
    where
      go : (kinds : Kinds) → none kinds ≡ false → none (or_else kinds (rows_fault p (settled (rules p) (held_by rows (for_mode first))).rows)) ≡ false
      go [] e = absurd (true≢false e)
      go (k ∷ ks) e = refl

  by_turn : (behind : Bool) (word : Text) (words : List Text) → none (turn_fault (shape p) [] (walk_by rows (for_mode first) 2 behind) word) ≡ false → Refuses behind (word ∷ words)
  by_turn behind word words e = rest_fails p (walk_by rows (for_mode first) 2 behind) word words e

  by_value : (behind : Bool) (word : Text) (words : List Text) → IsValue p behind word → Refuses behind (word ∷ words)
  by_value behind word words is = by_turn behind word words (second_value p rows behind word is (for_mode first))

  refused_rest : (behind : Bool) (words : List Text) → Refuses behind words
  refused_rest behind [] = refused_none behind
  refused_rest true (word ∷ words) = by_value true word words (value_behind p word)
  refused_rest false (word ∷ words) = go (kind_of_word word) (refused_rest true words)
    where
      go : Kind word → Refuses true words → Refuses false (word ∷ words)
      go (a_mode m e) h = subst (λ w. Refuses false (w ∷ words)) e (by_value false (mode_word m) words (mode_is_value p m))
      go (an_option f e) h = subst (λ w. Refuses false (w ∷ words)) e (by_turn false (flag_word f) words (settling_flag_refuses p first rows absent f bad))
      go (dashes e) h = subst (λ w. Refuses false (w ∷ words)) e
          (ap none (rest_on p (walk_by rows (for_mode first) 2 false) (codes "--") words (end_fault p rows (for_mode first) 2) ∙ ap (λ w. rest_fault p w words) (end_walk p rows (for_mode first) 2)) ∙ h)
      go (another no_mode no_option no_end) h = ⊎_elim (λ is. by_turn false word words (refused_turn p rows (for_mode first) 2 word is)) (λ is. by_value false word words is) (told_apart p word no_end no_option)

-- ---- the walk

mode_stands : (m : Mode) (words : List Text) (k : Mode) → modes_by (is_word_of m) words k ≡ modes_by (was_met unread) (mode_word m ∷ words) k
mode_stands m words k = refl

-- a word that is no mode's, before these
no_mode_stands : (k : Mode) (word : Text) (words : List Text) → bytes_eq word (mode_word k) ≡ false → stands (mode_word k) words ≡ stands (mode_word k) (word ∷ words)
no_mode_stands k word words e = ap (λ b. b || stands (mode_word k) words) (sym e)

flag_is_no_word : (f : Flag) (k : Mode) → bytes_eq (flag_word f) (mode_word k) ≡ false
flag_is_no_word history Serial = refl
flag_is_no_word history Race = refl
flag_is_no_word history Gen = refl
flag_is_no_word history Compare = refl
flag_is_no_word history Check = refl
flag_is_no_word history Copy = refl
flag_is_no_word dump Serial = refl
flag_is_no_word dump Race = refl
flag_is_no_word dump Gen = refl
flag_is_no_word dump Compare = refl
flag_is_no_word dump Check = refl
flag_is_no_word dump Copy = refl
flag_is_no_word json Serial = refl
flag_is_no_word json Race = refl
flag_is_no_word json Gen = refl
flag_is_no_word json Compare = refl
flag_is_no_word json Check = refl
flag_is_no_word json Copy = refl

dashes_are_no_word : (k : Mode) → bytes_eq (codes "--") (mode_word k) ≡ false
dashes_are_no_word Serial = refl
dashes_are_no_word Race = refl
dashes_are_no_word Gen = refl
dashes_are_no_word Compare = refl
dashes_are_no_word Check = refl
dashes_are_no_word Copy = refl

-- a word that is none of the option's, before these
passed_over : (f : Flag) (word : Text) (words : List Text) → is_flag f word ≡ false → stands (flag_word f) words ≡ stands (flag_word f) (word ∷ words)
passed_over f word words e = ap (λ b. b || stands (flag_word f) words) (sym e)

-- the walk over these words meets the definition, wherever it stands before them
abbrev MeetsAll : ValueParser → List Text → Type 0
MeetsAll p words = (rows : List Row) (stage : Stage) (seen : Flag → Bool) (behind : Bool) → AreRows p rows seen (checked stage) → Meets p rows stage seen behind words

module _ (p : ValueParser) (accepted : (text : Text) → accepts false p text ≡ is_mode text) where
  good : (m : Mode) → accepts false p (mode_word m) ≡ true
  good Serial = accepted (codes "serial")
  good Race = accepted (codes "race")
  good Gen = accepted (codes "gen")
  good Compare = accepted (codes "compare")
  good Check = accepted (codes "check")
  good Copy = accepted (codes "copy")

  read_last : {rows : List Row} {seen : Flag → Bool} {m : Mode} → AreRows p rows seen (Some m) → ReadsWords p (fold with_default rows (rules p)) (flags_by seen []) (modes_by (is_word_of m) [])
  read_last {rows} {seen} {m} are = record {
    flag_is = λ f. flag_read are f ∙ ap (λ b. Some (bool_text b)) (sym (or-false (seen f)));
    mode_is = mode_read are ∙ ap (λ k. Some (mode_word k)) (named m);
  }
    where
      named : (m : Mode) → m ≡ mode_by (modes_by (is_word_of m) [])
      named Serial = refl
      named Race = refl
      named Gen = refl
      named Compare = refl
      named Check = refl
      named Copy = refl

  no_words : MeetsAll p []
  unfolding rest_fault walk_fault rows_left
  no_words rows unread seen behind are = wrong p rows unread seen behind [] (ends are) (passes_none false seen behind)
  no_words rows (met m) seen behind are =
      let now = mode_added are m in
      let settles = settled_is p (mode_word m) rows are.mode_is in (
        ap (λ kinds. none (or_else kinds (rows_fault p (settled (rules p) (held_by rows (for_mode (mode_word m)))).rows))) (settling_passes p (mode_word m) rows are.mode_is (good m))
            ∙ ap (λ h. none (rows_fault p h.rows)) settles ∙ ends now ∙ sym (passes_none true seen behind),
        λ passed. same_reads (ap (λ h. fold with_default h.rows (rules p)) settles) (λ f. refl) (λ k. refl) (read_last now),
      )
  no_words rows (past m) seen behind are = (ends are ∙ sym (passes_none true seen behind), λ passed. read_last are)

  module _ (words : List Text) (h : MeetsAll p words) (rows : List Row) (seen : Flag → Bool) where
    -- a mode, which may come where none was met
    mode_turn : (stage : Stage) (behind : Bool) (m : Mode) → AreRows p rows seen (checked stage) → IsValue p behind (mode_word m) → Meets p rows stage seen behind (mode_word m ∷ words)
    mode_turn unread behind m are is =
        goes_on p rows rows unread (met m) seen seen behind behind (mode_word m) words (first_value_fault p rows behind (mode_word m) is) (first_value_walk p rows behind (mode_word m) is)
        (passes_mode false seen words behind m) (λ f. ap (λ b. seen f || b) (passed_over f (mode_word m) words (mode_is_no_flag m f))) (mode_stands m words) (h rows (met m) seen behind are)
    mode_turn (met k) behind m are is =
        stops p rows (met k) seen behind (mode_word m) words (second_value p rows behind (mode_word m) is (for_mode (mode_word k))) (passes_mode true seen words behind m)
    mode_turn (past k) behind m are is = stops p rows (past k) seen behind (mode_word m) words (second_value p rows behind (mode_word m) is None) (passes_mode true seen words behind m)

    -- a value that is no mode
    value_turn : (stage : Stage) (behind : Bool) (word : Text) → AreRows p rows seen (checked stage) → IsValue p behind word → is_mode word ≡ false
        → passes (has_mode stage) seen behind (word ∷ words) ≡ false → Meets p rows stage seen behind (word ∷ words)
    value_turn unread behind word are is no_mode passing = wrong p rows unread seen behind (word ∷ words)
        (ap none (rest_on p (walk_at rows unread behind) word words (first_value_fault p rows behind word is) ∙ ap (λ w. rest_fault p w words) (first_value_walk p rows behind word is))
        ∙ refused_rest p rows are.mode_is word (accepted word ∙ no_mode) behind words) passing
    value_turn (met k) behind word are is no_mode passing = stops p rows (met k) seen behind word words (second_value p rows behind word is (for_mode (mode_word k))) passing
    value_turn (past k) behind word are is no_mode passing = stops p rows (past k) seen behind word words (second_value p rows behind word is None) passing

    flag_stands : (f g : Flag) → flags_by (with_flag f seen) words g ≡ flags_by seen (flag_word f ∷ words) g
    flag_stands f g = or_shift (is_flag g (flag_word f)) (seen g) (stands (flag_word g) words)

    modes_stand : (stage : Stage) (f : Flag) (k : Mode) → modes_by (was_met stage) words k ≡ modes_by (was_met stage) (flag_word f ∷ words) k
    modes_stand stage f k = ap (λ b. was_met stage k || b) (no_mode_stands k (flag_word f) words (flag_is_no_word f k))

    passes_first : (m : Bool) (f : Flag) → seen f ≡ false → passes m seen false (flag_word f ∷ words) ≡ passes m (with_flag f seen) false words
    passes_first m f e = passes_flag m seen words f ∙ ap (λ b. not b && passes m (with_flag f seen) false words) e

    passes_again : (m : Bool) (f : Flag) → seen f ≡ true → passes m seen false (flag_word f ∷ words) ≡ false
    passes_again m f e = passes_flag m seen words f ∙ ap (λ b. not b && passes m (with_flag f seen) false words) e

    -- an option that wasn't met
    new_flag : (stage : Stage) (f : Flag) → AreRows p rows seen (checked stage) → seen f ≡ false → Meets p rows stage seen false (flag_word f ∷ words)
    new_flag unread f are e =
        goes_on p rows (rows ++ flag_row f ∷ []) unread unread seen (with_flag f seen) false false (flag_word f) words (flag_passes p rows 1 f (no_flag_row are f e))
        (flag_walk p rows 1 f (not_found are f e)) (passes_first false f e) (flag_stands f) (modes_stand unread f) (h _ unread (with_flag f seen) false (flag_added are f e))
    new_flag (met m) f are e =
        let now = mode_added are m in
        goes_on p rows ((rows ++ mode_row p (mode_word m) ∷ []) ++ flag_row f ∷ []) (met m) (past m) seen (with_flag f seen) false false (flag_word f) words
        (settling_flag_passes p (mode_word m) rows are.mode_is f (good m) (no_flag_row now f e)) (settling_flag_walk p (mode_word m) rows are.mode_is f (not_found now f e))
        (passes_first true f e) (flag_stands f) (modes_stand (met m) f) (h _ (past m) (with_flag f seen) false (flag_added now f e))
    new_flag (past m) f are e =
        goes_on p rows (rows ++ flag_row f ∷ []) (past m) (past m) seen (with_flag f seen) false false (flag_word f) words (flag_passes p rows 2 f (no_flag_row are f e))
        (flag_walk p rows 2 f (not_found are f e)) (passes_first true f e) (flag_stands f) (modes_stand (past m) f) (h _ (past m) (with_flag f seen) false (flag_added are f e))

    -- one that was
    old_flag : (stage : Stage) (f : Flag) → AreRows p rows seen (checked stage) → seen f ≡ true → Meets p rows stage seen false (flag_word f ∷ words)
    old_flag unread f are e = stops p rows unread seen false (flag_word f) words (flag_repeats p rows 1 f (flag_has_row are f e)) (passes_again false f e)
    old_flag (met m) f are e =
        stops p rows (met m) seen false (flag_word f) words (settling_flag_repeats p (mode_word m) rows are.mode_is f (good m) (flag_has_row (mode_added are m) f e)) (passes_again true f e)
    old_flag (past m) f are e = stops p rows (past m) seen false (flag_word f) words (flag_repeats p rows 2 f (flag_has_row are f e)) (passes_again true f e)

    flag_turn : (stage : Stage) (f : Flag) → AreRows p rows seen (checked stage) → Meets p rows stage seen false (flag_word f ∷ words)
    flag_turn stage f are = go (seen f) refl
      where
        go : (b : Bool) → seen f ≡ b → Meets p rows stage seen false (flag_word f ∷ words)
        go true e = old_flag stage f are e
        go false e = new_flag stage f are e

    end_turn : (stage : Stage) → AreRows p rows seen (checked stage) → Meets p rows stage seen false (codes "--" ∷ words)
    end_turn stage are = goes_on p rows rows stage stage seen seen false true (codes "--") words (fault stage) (walk stage) (passes_end (has_mode stage) seen words)
        (λ f. ap (λ b. seen f || b) (passed_over f (codes "--") words (dashes_are_no_flag f)))
        (λ k. ap (λ b. was_met stage k || b) (no_mode_stands k (codes "--") words (dashes_are_no_word k))) (h rows stage seen true are)
      where
        fault : (stage : Stage) → turn_fault (shape p) [] (walk_at rows stage false) (codes "--") ≡ []
        fault unread = end_fault p rows None 1
        fault (met m) = end_fault p rows (for_mode (mode_word m)) 2
        fault (past m) = end_fault p rows None 2

        walk : (stage : Stage) → walked (rules p) [] (walk_at rows stage false) (codes "--") ≡ walk_at rows stage true
        walk unread = end_walk p rows None 1
        walk (met m) = end_walk p rows (for_mode (mode_word m)) 2
        walk (past m) = end_walk p rows None 2

    other_turn : (stage : Stage) (word : Text) → AreRows p rows seen (checked stage) → is_mode word ≡ false → is_option word ≡ false → is_end_of_options word ≡ false
        → Meets p rows stage seen false (word ∷ words)
    other_turn stage word are no_mode no_option no_end =
        let passing = passes_other (has_mode stage) seen words word no_mode no_option no_end in
        ⊎_elim (λ is. stops p rows stage seen false word words (refused stage is) passing) (λ is. value_turn stage false word are is no_mode passing) (told_apart p word no_end no_option)
      where
        refused : (stage : Stage) → IsRefused p word → none (turn_fault (shape p) [] (walk_at rows stage false) word) ≡ false
        refused unread is = refused_turn p rows None 1 word is
        refused (met m) is = refused_turn p rows (for_mode (mode_word m)) 2 word is
        refused (past m) is = refused_turn p rows None 2 word is

    turn : (stage : Stage) (behind : Bool) (word : Text) → AreRows p rows seen (checked stage) → Meets p rows stage seen behind (word ∷ words)
    turn stage true word are = by_kind (kind_of_word word)
      where
        other : is_mode word ≡ false → Meets p rows stage seen true (word ∷ words)
        other e = value_turn stage true word are (value_behind p word) e (passes_behind (has_mode stage) seen words word e)

        by_kind : Kind word → Meets p rows stage seen true (word ∷ words)
        by_kind (a_mode m is) = subst (λ w. Meets p rows stage seen true (w ∷ words)) is (mode_turn stage true m are (value_behind p (mode_word m)))
        by_kind (an_option f is) = other (ap is_mode (sym is) ∙ flag_is_no_mode f)
        by_kind (dashes is) = other (ap is_mode (sym is))
        by_kind (another no_mode no_option no_end) = other no_mode
    turn stage false word are = by_kind (kind_of_word word)
      where
        by_kind : Kind word → Meets p rows stage seen false (word ∷ words)
        by_kind (a_mode m is) = subst (λ w. Meets p rows stage seen false (w ∷ words)) is (mode_turn stage false m are (mode_is_value p m))
        by_kind (an_option f is) = subst (λ w. Meets p rows stage seen false (w ∷ words)) is (flag_turn stage f are)
        by_kind (dashes is) = subst (λ w. Meets p rows stage seen false (w ∷ words)) is (end_turn stage are)
        by_kind (another no_mode no_option no_end) = other_turn stage word are no_mode no_option no_end

  pub meets : (words : List Text) → MeetsAll p words
  meets [] rows stage seen behind are = no_words rows stage seen behind are
  meets (word ∷ words) rows stage seen behind are = turn words (meets words) rows seen stage behind word are
