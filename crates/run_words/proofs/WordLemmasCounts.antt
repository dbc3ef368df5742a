-- Words in which the mode stands once and each option at most once, read word by word.
use Rattle.std.proofs.Common.{◌≡◌, ◌<◌, ◌∙◌, ⊎_elim, ◌+◌, ◌==◌, ◌&&◌, ◌||◌, not, refl, ap, ap₂, arith, subst, ℕ, Bool, true, false, cond, codes, nat_le, count_by, List, [], ◌∷◌}
use Rattle.std.specs.List.{list_all, after_first, before_first}
use Rattle.std.proofs.Math.Bool.{and-false}
use Rattle.std.proofs.lemmas.Bool.Decides.{nat_tests}
use Rattle.std.proofs.lemmas.List.Sums.{sum_by-cons}
use Rattle.clap.specs.Walk.{Text}
use Rattle.run_words.specs.Words.{are_arguments, is_end_of_options, is_mode, is_option, mode_word}
use Rattle.run_words.specs.declared.words.Mode.{Mode}
use Rattle.run_words.specs.declared.words.Mode.TheVariants.{Serial, Race, Gen, Compare, Check, Copy}
use Rattle.run_words.proofs.WordLemmasCommand.{Flag, history, dump, json, flag_is, flag_word, flags_apart, is_flag}
use Rattle.run_words.proofs.WordLemmasRows.{with_flag}
use Rattle.run_words.proofs.WordLemmasShapes.{after-cons_no, after-cons_yes, before-cons_no, before-cons_yes}

abbrev one : Bool → ℕ
one b = cond b 1 0

-- each flag passes
abbrev each : (Flag → Bool) → Bool
each test = test history && (test dump && (test json && true))

abbrev is_argument : Text → Bool
is_argument word = is_mode word || is_option word

-- the mode comes to stand once, where one was met or none, and each option at most once
abbrev counts_pass : Bool → (Flag → Bool) → List Text → Bool
counts_pass m seen words = (one m + count_by is_mode words) == 1 && each (λ f. nat_le (one (seen f) + count_by (is_flag f) words) 1)

abbrev are_in_place : Bool → List Text → Bool
are_in_place true words = list_all is_mode words
are_in_place false words = list_all is_argument (before_first is_end_of_options words) && list_all is_mode (after_first is_end_of_options words)

-- the words pass, where a mode or none and these options were met before them, and `--` was met or not
unfoldable pub passes : Bool → (Flag → Bool) → Bool → List Text → Bool
passes m seen behind words = are_in_place behind words && counts_pass m seen words

-- ---- tests of flags

each_is : (a b : Flag → Bool) → ((f : Flag) → a f ≡ b f) → each a ≡ each b
each_is a b same = rw (same history, same dump, same json) refl

each_passes : (test : Flag → Bool) → ((f : Flag) → test f ≡ true) → each test ≡ true
each_passes test all = rw (all history, all dump, all json) refl

each_fails : (test : Flag → Bool) (f : Flag) → test f ≡ false → each test ≡ false
each_fails test history e = rw e refl
each_fails test dump e = rw e (and-false (test history))
each_fails test json e = rw (e, and-false (test dump)) (and-false (test history))

-- ---- counts

counted : (p : Text → Bool) (word : Text) (words : List Text) → count_by p (word ∷ words) ≡ one (p word) + count_by p words
counted p word words = sum_by-cons (λ w. one (p w)) word words

same_counts : (m after : Bool) (seen now : Flag → Bool) (words left : List Text) → one m + count_by is_mode words ≡ one after + count_by is_mode left
    → ((f : Flag) → one (seen f) + count_by (is_flag f) words ≡ one (now f) + count_by (is_flag f) left) → counts_pass m seen words ≡ counts_pass after now left
same_counts m after seen now words left modes flags =
    ap₂ (λ (n : ℕ) (b : Bool). n == 1 && b) modes
    (each_is (λ f. nat_le (one (seen f) + count_by (is_flag f) words) 1) (λ f. nat_le (one (now f) + count_by (is_flag f) left) 1) (λ f. ap (λ n. nat_le n 1) (flags f)))

two_modes : (n : ℕ) → 1 < n → (n == 1) ≡ false
two_modes n h = grind (arith, nat_tests)

two_uses : (n : ℕ) → 1 < n → nat_le n 1 ≡ false
two_uses n h = grind (arith, nat_tests)

-- a word that is neither a mode nor an option
other_counts : (m : Bool) (seen : Flag → Bool) (word : Text) (words : List Text) → is_mode word ≡ false → ((f : Flag) → is_flag f word ≡ false)
    → counts_pass m seen (word ∷ words) ≡ counts_pass m seen words
other_counts m seen word words no_mode no_flag = same_counts m m seen seen (word ∷ words) words (by_test is_mode no_mode (one m)) (λ f. by_test (is_flag f) (no_flag f) (one (seen f)))
  where
    by_test : (p : Text → Bool) → p word ≡ false → (n : ℕ) → n + count_by p (word ∷ words) ≡ n + count_by p words
    by_test p e n =
        let more : count_by p (word ∷ words) ≡ one false + count_by p words = counted p word words ∙ ap (λ b. one b + count_by p words) e in
        omega (arith, more)

mode_is : (m : Mode) → is_mode (mode_word m) ≡ true
mode_is Serial = refl
mode_is Race = refl
mode_is Gen = refl
mode_is Compare = refl
mode_is Check = refl
mode_is Copy = refl

pub mode_is_no_flag : (m : Mode) (f : Flag) → is_flag f (mode_word m) ≡ false
mode_is_no_flag Serial history = refl
mode_is_no_flag Serial dump = refl
mode_is_no_flag Serial json = refl
mode_is_no_flag Race history = refl
mode_is_no_flag Race dump = refl
mode_is_no_flag Race json = refl
mode_is_no_flag Gen history = refl
mode_is_no_flag Gen dump = refl
mode_is_no_flag Gen json = refl
mode_is_no_flag Compare history = refl
mode_is_no_flag Compare dump = refl
mode_is_no_flag Compare json = refl
mode_is_no_flag Check history = refl
mode_is_no_flag Check dump = refl
mode_is_no_flag Check json = refl
mode_is_no_flag Copy history = refl
mode_is_no_flag Copy dump = refl
mode_is_no_flag Copy json = refl

pub flag_is_no_mode : (f : Flag) → is_mode (flag_word f) ≡ false
flag_is_no_mode history = refl
flag_is_no_mode dump = refl
flag_is_no_mode json = refl

pub dashes_are_no_flag : (f : Flag) → is_flag f (codes "--") ≡ false
dashes_are_no_flag history = refl
dashes_are_no_flag dump = refl
dashes_are_no_flag json = refl

mode_counts : (m : Bool) (seen : Flag → Bool) (k : Mode) (words : List Text) → counts_pass m seen (mode_word k ∷ words) ≡ (not m && counts_pass true seen words)
mode_counts m seen k words = go m
  where
    more : count_by is_mode (mode_word k ∷ words) ≡ 1 + count_by is_mode words
    more = counted is_mode (mode_word k) words ∙ ap (λ b. one b + count_by is_mode words) (mode_is k)

    uses : (f : Flag) → one (seen f) + count_by (is_flag f) (mode_word k ∷ words) ≡ one (seen f) + count_by (is_flag f) words
    uses f =
        let same : count_by (is_flag f) (mode_word k ∷ words) ≡ 0 + count_by (is_flag f) words =
        counted (is_flag f) (mode_word k) words ∙ ap (λ b. one b + count_by (is_flag f) words) (mode_is_no_flag k f) in
        omega (arith, same)

    go : (m : Bool) → counts_pass m seen (mode_word k ∷ words) ≡ (not m && counts_pass true seen words)
    go false = same_counts false true seen seen (mode_word k ∷ words) words (omega (arith, more)) uses
    go true = ap (λ b. b && each (λ f. nat_le (one (seen f) + count_by (is_flag f) (mode_word k ∷ words)) 1)) (two_modes (1 + count_by is_mode (mode_word k ∷ words)) (omega (arith, more)))

flag_counts : (m : Bool) (seen : Flag → Bool) (f : Flag) (words : List Text) → counts_pass m seen (flag_word f ∷ words) ≡ (not (seen f) && counts_pass m (with_flag f seen) words)
flag_counts m seen f words = go (seen f) refl
  where
    modes : one m + count_by is_mode (flag_word f ∷ words) ≡ one m + count_by is_mode words
    modes =
        let same : count_by is_mode (flag_word f ∷ words) ≡ 0 + count_by is_mode words =
        counted is_mode (flag_word f) words ∙ ap (λ b. one b + count_by is_mode words) (flag_is_no_mode f) in
        omega (arith, same)

    more : count_by (is_flag f) (flag_word f ∷ words) ≡ 1 + count_by (is_flag f) words
    more = counted (is_flag f) (flag_word f) words ∙ ap (λ b. one b + count_by (is_flag f) words) (flag_is f)

    Used : Flag → Type 0
    Used g = one (seen g) + count_by (is_flag g) (flag_word f ∷ words) ≡ one (with_flag f seen g) + count_by (is_flag g) words

    itself : seen f ≡ false → Used f
    itself e =
        let before : one (seen f) ≡ 0 = ap one e in
        let after : one (with_flag f seen f) ≡ 1 = ap (λ b. one (b || seen f)) (flag_is f) in
        omega (arith, more, before, after)

    apart : (g : Flag) → is_flag g (flag_word f) ≡ false → Used g
    apart g e =
        let same : count_by (is_flag g) (flag_word f ∷ words) ≡ 0 + count_by (is_flag g) words =
        counted (is_flag g) (flag_word f) words ∙ ap (λ b. one b + count_by (is_flag g) words) e in
        let after : one (with_flag f seen g) ≡ one (seen g) = ap (λ b. one (b || seen g)) e in
        omega (arith, same, after)

    uses : seen f ≡ false → (g : Flag) → Used g
    uses e g = ⊎_elim (λ is. subst Used is (itself e)) (λ other. apart g other.0) (flags_apart f g)

    go : (b : Bool) → seen f ≡ b → counts_pass m seen (flag_word f ∷ words) ≡ (not b && counts_pass m (with_flag f seen) words)
    go false e = same_counts m m seen (with_flag f seen) (flag_word f ∷ words) words modes (uses e)
    go true e =
        let before : one (seen f) ≡ 1 = ap one e in
        let two : nat_le (one (seen f) + count_by (is_flag f) (flag_word f ∷ words)) 1 ≡ false = two_uses _ (omega (arith, more, before)) in
        ap (λ b. (one m + count_by is_mode (flag_word f ∷ words)) == 1 && b) (each_fails (λ g. nat_le (one (seen g) + count_by (is_flag g) (flag_word f ∷ words)) 1) f two)
        ∙ and-false ((one m + count_by is_mode (flag_word f ∷ words)) == 1)

-- ---- where the words stand

in_place_mode : (behind : Bool) (k : Mode) (words : List Text) → are_in_place behind (mode_word k ∷ words) ≡ are_in_place behind words
in_place_mode true Serial words = refl
in_place_mode true Race words = refl
in_place_mode true Gen words = refl
in_place_mode true Compare words = refl
in_place_mode true Check words = refl
in_place_mode true Copy words = refl
in_place_mode false Serial words =
    ap₂ (λ (before after : List Text). list_all is_argument before && list_all is_mode after)
    (before-cons_no is_end_of_options (codes "serial") words refl) (after-cons_no is_end_of_options (codes "serial") words refl)
in_place_mode false Race words =
    ap₂ (λ (before after : List Text). list_all is_argument before && list_all is_mode after)
    (before-cons_no is_end_of_options (codes "race") words refl) (after-cons_no is_end_of_options (codes "race") words refl)
in_place_mode false Gen words =
    ap₂ (λ (before after : List Text). list_all is_argument before && list_all is_mode after)
    (before-cons_no is_end_of_options (codes "gen") words refl) (after-cons_no is_end_of_options (codes "gen") words refl)
in_place_mode false Compare words =
    ap₂ (λ (before after : List Text). list_all is_argument before && list_all is_mode after)
    (before-cons_no is_end_of_options (codes "compare") words refl) (after-cons_no is_end_of_options (codes "compare") words refl)
in_place_mode false Check words =
    ap₂ (λ (before after : List Text). list_all is_argument before && list_all is_mode after)
    (before-cons_no is_end_of_options (codes "check") words refl) (after-cons_no is_end_of_options (codes "check") words refl)
in_place_mode false Copy words =
    ap₂ (λ (before after : List Text). list_all is_argument before && list_all is_mode after)
    (before-cons_no is_end_of_options (codes "copy") words refl) (after-cons_no is_end_of_options (codes "copy") words refl)

in_place_open : (word : Text) (words : List Text) → is_end_of_options word ≡ false → are_in_place false (word ∷ words) ≡ (is_argument word && are_in_place false words)
in_place_open word words e =
    ap₂ (λ (before after : List Text). list_all is_argument before && list_all is_mode after)
    (before-cons_no is_end_of_options word words e) (after-cons_no is_end_of_options word words e)
    ∙ regroup (is_argument word) (list_all is_argument (before_first is_end_of_options words)) (list_all is_mode (after_first is_end_of_options words))
  where
    regroup : (a b c : Bool) → (a && b && c) ≡ (a && (b && c))
    regroup true b c = refl
    regroup false b c = refl

in_place_flag : (f : Flag) (words : List Text) → are_in_place false (flag_word f ∷ words) ≡ are_in_place false words
in_place_flag history words = in_place_open (codes "--history") words refl
in_place_flag dump words = in_place_open (codes "--dump") words refl
in_place_flag json words = in_place_open (codes "--json") words refl

in_place_end : (words : List Text) → are_in_place false (codes "--" ∷ words) ≡ are_in_place true words
in_place_end words =
    ap₂ (λ (before after : List Text). list_all is_argument before && list_all is_mode after)
    (before-cons_yes is_end_of_options (codes "--") words refl) (after-cons_yes is_end_of_options (codes "--") words refl)

-- ---- word by word

guard_first : (a b c : Bool) → (a && (b && c)) ≡ (b && (a && c))
guard_first true b c = refl
guard_first false true c = refl
guard_first false false c = refl

module _ (m : Bool) (seen : Flag → Bool) where
  pub passes_none : (behind : Bool) → passes m seen behind [] ≡ m
  unfolding passes
  passes_none behind = rw (in_place behind, each_passes (λ f. nat_le (one (seen f) + 0) 1) (λ f. few (seen f))) (once m)
    where
      in_place : (behind : Bool) → are_in_place behind [] ≡ true
      in_place true = refl
      in_place false = refl

      few : (b : Bool) → nat_le (one b + 0) 1 ≡ true
      few true = refl
      few false = refl

      once : (m : Bool) → (true && ((one m + 0) == 1 && true)) ≡ m
      once true = refl
      once false = refl

  module _ (words : List Text) where
    pub passes_mode : (behind : Bool) (k : Mode) → passes m seen behind (mode_word k ∷ words) ≡ (not m && passes true seen behind words)
    unfolding passes
    passes_mode behind k = ap₂ ◌&&◌ (in_place_mode behind k words) (mode_counts m seen k words) ∙ guard_first (are_in_place behind words) (not m) (counts_pass true seen words)

    pub passes_flag : (f : Flag) → passes m seen false (flag_word f ∷ words) ≡ (not (seen f) && passes m (with_flag f seen) false words)
    unfolding passes
    passes_flag f = ap₂ ◌&&◌ (in_place_flag f words) (flag_counts m seen f words) ∙ guard_first (are_in_place false words) (not (seen f)) (counts_pass m (with_flag f seen) words)

    pub passes_end : passes m seen false (codes "--" ∷ words) ≡ passes m seen true words
    unfolding passes
    passes_end = ap₂ ◌&&◌ (in_place_end words) (other_counts m seen (codes "--") words refl dashes_are_no_flag)

    pub passes_behind : (word : Text) → is_mode word ≡ false → passes m seen true (word ∷ words) ≡ false
    unfolding passes
    passes_behind word e = ap (λ b. (b && list_all is_mode words) && counts_pass m seen (word ∷ words)) e

    pub passes_other : (word : Text) → is_mode word ≡ false → is_option word ≡ false → is_end_of_options word ≡ false → passes m seen false (word ∷ words) ≡ false
    unfolding passes
    passes_other word no_mode no_option no_end =
        ap (λ b. b && counts_pass m seen (word ∷ words)) (in_place_open word words no_end ∙ ap₂ (λ (a b : Bool). (a || b) && are_in_place false words) no_mode no_option)

abbrev pub no_flags : Flag → Bool
no_flags f = false

pub passes_arguments : (words : List Text) → passes false no_flags false words ≡ are_arguments words
unfolding passes
passes_arguments words =
    let none : (p : Text → Bool) → 0 + count_by p words ≡ count_by p words = λ p. omega arith in
    ap₂ (λ (n : ℕ) (b : Bool). are_in_place false words && (n == 1 && b)) (none is_mode)
    (each_is (λ f. nat_le (0 + count_by (is_flag f) words) 1) (λ f. nat_le (count_by (is_flag f) words) 1) (λ f. ap (λ n. nat_le n 1) (none (is_flag f))))
    ∙ regroup (are_in_place false words) (count_by is_mode words == 1) (each (λ f. nat_le (count_by (is_flag f) words) 1))
  where
    regroup : (a b c : Bool) → (a && (b && c)) ≡ (a && b && c)
    regroup true b c = refl
    regroup false b c = refl
