-- What the command takes, and what its options and its mode read, in the words' own terms.
use Rattle.std.proofs.Common.{◌≡◌, ◌∙◌, ◌⊎◌, ◌||◌, inl, inr, ⊎_elim, refl, sym, ap, ap₂, Bool, true, false, true≢false, codes, is_some, map, List, [], ◌∷◌, Option, Some, None, Result, Ok, Err, IfOk, IfErr, subst}
use Rattle.std.specs.Prelude.{IsTrue}
use Rattle.std.specs.Borrow.{Bor}
use Rattle.std.specs.List.{list_any}
use Rattle.std.specs.Str.{bytes_eq}
use Rattle.std.proofs.lemmas.Slice.Eq.{bytes_eq-Decides}
use Rattle.clap.specs.Matches.{first_value, found_of, one_text}
use Rattle.clap.specs.Walk.{Row, Text, first_of, nothing_held, one_of, rows_of, walk}
use Rattle.clap.specs.Kinds.{FailsBy, IsAmong, Kinds}
use Rattle.clap.specs.Values.{bool_text, kind_of}
use Rattle.clap.specs.ValueTests.{accepts}
use Rattle.clap.specs.Simple.{App, HasMatchesOf, entered, is_simple, matches_of}
use Rattle.clap.specs.Faults.{built_fault, defaults_fault, entered_fault, fault_of, is_simple_and_free, level_fault, walk_fault}
use Rattle.clap.specs.declared.builder.value_parser.ValueParser.{ValueParser}
use Rattle.clap.specs.declared.builder.value_parser.ValueParser.TheVariants.{Names}
use Rattle.clap.specs.declared.error.Error.{Error}
use Rattle.clap.specs.declared.error.kind.ErrorKind.{ErrorKind}
use Rattle.clap.specs.declared.error.kind.ErrorKind.TheVariants.{OutOfMemory}
use Rattle.clap.specs.declared.parser.matches.ArgMatches.{ArgMatches}
use Rattle.clap.proofs.WalkLemmas.{first_value-rows, list_any-map, one_text-rows}
use Rattle.run_words.specs.Words.{are_read, is_mode, mode_of, mode_word, options_of, stands}
use Rattle.run_words.proofs.WordLemmasCommand.{Flag, flag_name, flag_word, history, dump, json, command_is_simple, command_of, none, rules, shape, unread, walk_by}
use Rattle.run_words.proofs.WordLemmasRows.{AreRows}
use Rattle.run_words.proofs.WordLemmasCounts.{no_flags, passes_arguments}
use Rattle.run_words.proofs.WordLemmasWalk.{Meets, meets, rest_fault, rows_left}

-- the command has no subcommand to enter
abbrev bare : ValueParser → App
bare p = record { top = shape p; subs = [] }

enters_none : (p : ValueParser) (stop : Option (Text × List Text)) → is_some (entered (bare p) stop) ≡ false
enters_none p None = refl
enters_none p (Some q) = refl

no_fault_below : (p : ValueParser) (stop : Option (Text × List Text)) → entered_fault (bare p) stop ≡ []
no_fault_below p None = refl
no_fault_below p (Some q) = refl

-- the kinds of a level of the parse that enters nothing
level_alone : (p : ValueParser) (words : List Text) (sub : Bool) (below : Kinds) → sub ≡ false → below ≡ []
    → level_fault (shape p) [] nothing_held words sub below ≡ rest_fault p (walk_by [] None 1 false) words
unfolding rest_fault
level_alone p words sub below e f = ap₂ (λ (b : Bool) (k : Kinds). level_fault (shape p) [] nothing_held words b k) e f

fault_by_walk : (p : ValueParser) (words : List Text) → built_fault (bare p) nothing_held words ≡ rest_fault p (walk_by [] None 1 false) words
fault_by_walk p words =
    let stop = (walk (rules p) [] nothing_held words).stopped in
    level_alone p words (is_some (entered (bare p) stop)) (entered_fault (bare p) stop) (enters_none p stop) (no_fault_below p stop)

-- whether the words ask for the option
abbrev asks : Flag → List Text → Bool
asks history texts = (options_of texts).history
asks dump texts = (options_of texts).dump
asks json texts = (options_of texts).json

-- what the rows of a parse say of the words
record ReadsWords (rows : List Row) (texts : List Text) : Type 0 where
  flag_is : (f : Flag) → one_of (flag_name f) rows ≡ Some (bool_text (asks f texts))
  mode_is : first_of (codes "mode") rows ≡ Some (mode_word (mode_of texts))

no_rows : (p : ValueParser) → AreRows p [] no_flags None
no_rows p = record { flags = λ f. refl; mode_is = refl }

module _ (p : ValueParser) (accepted : (text : Text) → accepts false p text ≡ is_mode text) where
  meets_words : (words : List Text) → Meets p [] unread no_flags false words
  meets_words words = meets p accepted words [] unread no_flags false (no_rows p)

  fault_is : (texts : List Text) → none (fault_of (command_of p) texts) ≡ are_read texts
  unfolding walk_fault defaults_fault
  fault_is [] = refl
  fault_is (name ∷ words) = ap none (fault_by_walk p words) ∙ (meets_words words).0 ∙ passes_arguments words

  words_are_read : (texts : List Text) → are_read texts ≡ true → ReadsWords (matches_of (command_of p) texts) texts
  unfolding rows_left
  words_are_read [] e = absurd (true≢false (sym e))
  words_are_read (name ∷ words) e =
      let read = (meets_words words).1 (passes_arguments words ∙ e) in
      record {
        flag_is = λ f. read.flag_is f ∙ ap (λ b. Some (bool_text b)) (asked f);
        mode_is = read.mode_is;
      }
    where
      asked : (f : Flag) → stands (flag_word f) words ≡ asks f (name ∷ words)
      asked history = refl
      asked dump = refl
      asked json = refl

-- ---- the parse

bytes_turned : (a b : Text) → bytes_eq a b ≡ true → bytes_eq b a ≡ true
bytes_turned a b e = (bytes_eq-Decides b a).1 (sym ((bytes_eq-Decides a b).0 e))

bytes_symmetric : (a b : Text) → bytes_eq a b ≡ bytes_eq b a
bytes_symmetric a b = go (bytes_eq a b) (bytes_eq b a) refl refl
  where
    go : (x y : Bool) → bytes_eq a b ≡ x → bytes_eq b a ≡ y → x ≡ y
    go true true e f = refl
    go true false e f = sym (bytes_turned a b e) ∙ f
    go false true e f = sym e ∙ bytes_turned b a f
    go false false e f = refl

-- the parser of the mode takes the words of the modes alone
one_of_six : (a b c d e f : Bool) → (a || (b || (c || (d || (e || (f || false)))))) ≡ (a || b || c || d || e || f)
one_of_six true b c d e f = refl
one_of_six false true c d e f = refl
one_of_six false false true d e f = refl
one_of_six false false false true e f = refl
one_of_six false false false false true f = refl
one_of_six false false false false false true = refl
one_of_six false false false false false false = refl

pub accepts_modes : (p : ValueParser) (names : Bor (List (Bor Text))) → p ≡ Names names → map (λ s. s.now) names.now ≡ codes "serial" ∷ codes "race" ∷ codes "gen" ∷ codes "compare" ∷ codes "check" ∷ codes "copy" ∷ []
    → (text : Text) → accepts false p text ≡ is_mode text
accepts_modes p names is listed text =
    ap (λ q. accepts false q text) is ∙ list_any-map (λ n. bytes_eq n text) (λ s. s.now) names.now ∙ ap (list_any (λ n. bytes_eq n text)) listed
    ∙ one_of_six (bytes_eq (codes "serial") text) (bytes_eq (codes "race") text) (bytes_eq (codes "gen") text) (bytes_eq (codes "compare") text) (bytes_eq (codes "check") text) (bytes_eq (codes "copy") text)
    ∙ ap₂ (λ (a b : Bool). a || b || bytes_eq (codes "gen") text || bytes_eq (codes "compare") text || bytes_eq (codes "check") text || bytes_eq (codes "copy") text) (bytes_symmetric (codes "serial") text) (bytes_symmetric (codes "race") text)
    ∙ ap₂ (λ (a b : Bool). bytes_eq text (codes "serial") || bytes_eq text (codes "race") || a || b || bytes_eq (codes "check") text || bytes_eq (codes "copy") text) (bytes_symmetric (codes "gen") text) (bytes_symmetric (codes "compare") text)
    ∙ ap₂ (λ (a b : Bool). bytes_eq text (codes "serial") || bytes_eq text (codes "race") || bytes_eq text (codes "gen") || bytes_eq text (codes "compare") || a || b) (bytes_symmetric (codes "check") text) (bytes_symmetric (codes "copy") text)

none_of : (kinds : Kinds) → kinds ≡ [] → none kinds ≡ true
none_of kinds e = ap none e

some_kind : (kinds : Kinds) (k : ErrorKind) → IsAmong k kinds → none kinds ≡ false
some_kind [] k is = absurd is
some_kind (x ∷ xs) k is = refl

module _ (p : ValueParser) (accepted : (text : Text) → accepts false p text ≡ is_mode text) (a : App) (is : a ≡ command_of p) (texts : List Text) where
  free : is_simple_and_free a ≡ true
  free = ap is_simple_and_free is ∙ command_is_simple p

  fault_at : none (fault_of a texts) ≡ are_read texts
  fault_at = ap (λ b. none (fault_of b texts)) is ∙ fault_is p accepted texts

  module _ (r : Result ArgMatches Error) (fails : is_simple_and_free a ≡ true → FailsBy (fault_of a texts) r) where
    pub parse_taken : IfOk r (λ m. IsTrue (are_read texts))
    parse_taken = go r (fails free)
      where
        go : (r : Result ArgMatches Error) → FailsBy (fault_of a texts) r → IfOk r (λ m. IsTrue (are_read texts))
        go (Err e) fault = tt
        go (Ok m) fault = sym fault_at ∙ none_of (fault_of a texts) fault

    pub parse_other : IfErr r (λ e. (kind_of e ≡ OutOfMemory) ⊎ (are_read texts ≡ false))
    parse_other = go r (fails free)
      where
        go : (r : Result ArgMatches Error) → FailsBy (fault_of a texts) r → IfErr r (λ e. (kind_of e ≡ OutOfMemory) ⊎ (are_read texts ≡ false))
        go (Ok m) fault = tt
        go (Err e) fault = ⊎_elim (λ memory. inl memory) (λ among. inr (sym fault_at ∙ some_kind (fault_of a texts) (kind_of e) among)) fault

    module _ (has : IfOk r (HasMatchesOf a texts)) where
      read_words : IfOk r (λ m. ReadsWords (rows_of (found_of m)) texts)
      read_words = go r has parse_taken
        where
          go : (r : Result ArgMatches Error) → IfOk r (HasMatchesOf a texts) → IfOk r (λ m. IsTrue (are_read texts)) → IfOk r (λ m. ReadsWords (rows_of (found_of m)) texts)
          go (Err e) has taken = tt
          go (Ok m) has taken =
              subst (λ rows. ReadsWords rows texts) (sym ((has (ap is_simple is)).0 ∙ ap (λ b. matches_of b texts) is)) (words_are_read p accepted texts taken)

      pub parse_options : IfOk r (λ m. (one_text (found_of m) (codes "history") ≡ Some (bool_text (options_of texts).history))
          × (one_text (found_of m) (codes "dump") ≡ Some (bool_text (options_of texts).dump)) × (one_text (found_of m) (codes "json") ≡ Some (bool_text (options_of texts).json)))
      parse_options = go r read_words
        where
          text : (m : ArgMatches) → ReadsWords (rows_of (found_of m)) texts → (f : Flag) → one_text (found_of m) (flag_name f) ≡ Some (bool_text (asks f texts))
          text m read f = one_text-rows (found_of m) (flag_name f) ∙ read.flag_is f

          go : (r : Result ArgMatches Error) → IfOk r (λ m. ReadsWords (rows_of (found_of m)) texts)
              → IfOk r (λ m. (one_text (found_of m) (codes "history") ≡ Some (bool_text (options_of texts).history))
              × (one_text (found_of m) (codes "dump") ≡ Some (bool_text (options_of texts).dump)) × (one_text (found_of m) (codes "json") ≡ Some (bool_text (options_of texts).json)))
          go (Err e) read = tt
          go (Ok m) read = (text m read history, text m read dump, text m read json)

      pub parse_mode : IfOk r (λ m. first_value (found_of m) (codes "mode") ≡ Some (mode_word (mode_of texts)))
      parse_mode = go r read_words
        where
          go : (r : Result ArgMatches Error) → IfOk r (λ m. ReadsWords (rows_of (found_of m)) texts)
              → IfOk r (λ m. first_value (found_of m) (codes "mode") ≡ Some (mode_word (mode_of texts)))
          go (Err e) read = tt
          go (Ok m) read = first_value-rows (found_of m) (codes "mode") ∙ read.mode_is
