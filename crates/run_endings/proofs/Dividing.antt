-- Looking at the lines of an input, one after another, for the first that divides it.
use Rattle.std.proofs.Common.{◌≡◌, ℕ, ◌+◌, ◌-◌, ◌<◌, ◌≤◌, true, false, List, [], ◌∷◌, ◌++◌, ◌||◌, length, get_or, take, drop, flat_map, codes, All, refl, sym, ap, ap₂, ◌∙◌, take-append-drop, arith}
use Rattle.std.proofs.Math.Seq.{drop-append_seam, take-append_seam}
use Rattle.std.proofs.lemmas.Bool.{eqb-true}
use Rattle.std.proofs.lemmas.List.{append-nil, append_assoc, drop_all, drop_more, get_or-take, length-append, length-take}
use Rattle.std.proofs.lemmas.List.Elements.{All-from_get_or}
use Rattle.std.proofs.lemmas.List.Concat.{flat_map-cons}
use Rattle.std.proofs.lemmas.List.Splits.{join_with_byte-slice_split, slice_split_at, slice_split_none}
use Rattle.std.specs.List.{after_first, before_first, join_with_byte, list_any}
use Rattle.map_script.specs.Lines.{is_line_feed}
use Rattle.run_words.proofs.WordLemmasShapes.{after-cons_no, after-cons_yes, before-cons_no, before-cons_yes}
use Rattle.run_endings.specs.Divided.{all_lines, divides, is_divided, report_part, script_part}

-- The lines of a text

pub first_line : (text : List ℕ) (i : ℕ) → i < length text → is_line_feed (get_or text i 0) ≡ true → ((k : ℕ) → k < i → is_line_feed (get_or text k 0) ≡ false)
    → all_lines text ≡ take i text ∷ all_lines (drop (i + 1) text)
first_line text i inside here before =
    let parts : text ≡ take i text ++ (get_or text i 0 ∷ drop (i + 1) text) = sym (take-append-drop i text) ∙ ap (λ (l : List ℕ). take i text ++ l) (drop_more text i 0 inside) in
    let free : All (λ x. is_line_feed x ≡ false) (take i text) =
    All-from_get_or (λ x. is_line_feed x ≡ false) (take i text) 0 (λ k lt. let below : k < i = omega (arith, length-take i text) in rw (get_or-take i text k 0 below) (before k below)) in
    ap all_lines parts ∙ slice_split_at is_line_feed (take i text) (get_or text i 0) (drop (i + 1) text) free here

pub last_line : (text : List ℕ) → ((k : ℕ) → k < length text → is_line_feed (get_or text k 0) ≡ false) → all_lines text ≡ text ∷ []
last_line text free = slice_split_none is_line_feed text (All-from_get_or (λ x. is_line_feed x ≡ false) text 0 free)

-- a text is its first line, the line feed and what is behind it
pub line_and_rest : (text : List ℕ) (i : ℕ) → i < length text → is_line_feed (get_or text i 0) ≡ true → text ≡ take i text ++ codes "\n" ++ drop (i + 1) text
line_and_rest text i inside here =
    sym (take-append-drop i text) ∙ ap (λ (l : List ℕ). take i text ++ l) (drop_more text i 0 inside ∙ ap (λ (x : ℕ). x ∷ drop (i + 1) text) (eqb-true (get_or text i 0) 10 here))
    ∙ sym (append_assoc (take i text) (codes "\n") (drop (i + 1) text))

-- A line that doesn't divide, and one that does

abbrev pub ended : List ℕ → List ℕ
ended line = line ++ codes "\n"

abbrev pub script_in : List (List ℕ) → List ℕ
script_in lines = flat_map ended (before_first divides lines)

abbrev pub report_in : List (List ℕ) → List ℕ
report_in lines = join_with_byte 10 (after_first divides lines)

module _ (line : List ℕ) (lines : List (List ℕ)) where
  pub any_no : divides line ≡ false → list_any divides (line ∷ lines) ≡ list_any divides lines
  any_no is = ap (λ b. b || list_any divides lines) is

  pub any_yes : divides line ≡ true → list_any divides (line ∷ lines) ≡ true
  any_yes is = ap (λ b. b || list_any divides lines) is

  pub script_no : divides line ≡ false → script_in (line ∷ lines) ≡ ended line ++ script_in lines
  script_no is = ap (flat_map ended) (before-cons_no divides line lines is) ∙ flat_map-cons ended line (before_first divides lines)

  pub script_yes : divides line ≡ true → script_in (line ∷ lines) ≡ []
  script_yes is = ap (flat_map ended) (before-cons_yes divides line lines is)

  pub report_no : divides line ≡ false → report_in (line ∷ lines) ≡ report_in lines
  report_no is = ap (join_with_byte 10) (after-cons_no divides line lines is)

  pub report_yes : divides line ≡ true → report_in (line ∷ lines) ≡ join_with_byte 10 lines
  report_yes is = ap (join_with_byte 10) (after-cons_yes divides line lines is)

-- How far the lines of an input were looked at: none of those before the rest divides it.
pub record Reached (input rest : List ℕ) : Type 0 where
  pub front : List ℕ
  pub whole : input ≡ front ++ rest
  pub divided : is_divided input ≡ is_divided rest
  pub script : script_part input ≡ front ++ script_part rest
  pub report : report_part input ≡ report_part rest

pub none_reached : (input : List ℕ) → Reached input input
none_reached input = record { front = []; whole = refl; divided = refl; script = refl; report = refl }

-- what was found of a line that divides: the script stands before it, and the report behind it
pub record Found (input : List ℕ) (before behind : ℕ) : Type 0 where
  pub divided : is_divided input ≡ true
  pub script : take before input ≡ script_part input
  pub report : drop behind input ≡ report_part input

front_of : (whole front rest : List ℕ) → whole ≡ front ++ rest → take (length whole - length rest) whole ≡ front
front_of whole front rest is =
    let long : length whole ≡ length front + length rest = ap length is ∙ length-append front rest in
    let n : length whole - length rest ≡ length front = omega (arith, long) in
    ap₂ take n is ∙ take-append_seam front rest

rest_of : (whole front rest : List ℕ) → whole ≡ front ++ rest → drop (length whole - length rest) whole ≡ rest
rest_of whole front rest is =
    let long : length whole ≡ length front + length rest = ap length is ∙ length-append front rest in
    let n : length whole - length rest ≡ length front = omega (arith, long) in
    ap₂ drop n is ∙ drop-append_seam front rest

module _ (input rest : List ℕ) (at : Reached input rest) where
  pub rest_inside : length rest ≤ length input
  rest_inside = omega (arith, ap length at.whole ∙ length-append at.front rest)

  -- a line that ends with a line feed
  module _ (line behind : List ℕ) (lines : all_lines rest ≡ line ∷ all_lines behind) (parts : rest ≡ line ++ codes "\n" ++ behind) where
    whole_is : input ≡ (at.front ++ ended line) ++ behind
    whole_is = at.whole ∙ ap (λ l. at.front ++ l) parts ∙ sym (append_assoc at.front (ended line) behind)

    pub behind_inside : length behind ≤ length input
    behind_inside = omega (arith, ap length whole_is ∙ length-append (at.front ++ ended line) behind)

    pub one_more : divides line ≡ false → Reached input behind
    one_more is = record {
      front = at.front ++ ended line;
      whole = whole_is;
      divided = at.divided ∙ ap (list_any divides) lines ∙ any_no line (all_lines behind) is;
      script = at.script ∙ ap (λ l. at.front ++ l) (ap script_in lines ∙ script_no line (all_lines behind) is) ∙ sym (append_assoc at.front (ended line) (script_part behind));
      report = at.report ∙ ap report_in lines ∙ report_no line (all_lines behind) is;
    }

    pub found_line : divides line ≡ true → Found input (length input - length rest) (length input - length behind)
    found_line is = record {
      divided = at.divided ∙ ap (list_any divides) lines ∙ any_yes line (all_lines behind) is;
      script = front_of input at.front rest at.whole ∙ sym (at.script ∙ ap (λ l. at.front ++ l) (ap script_in lines ∙ script_yes line (all_lines behind) is) ∙ append-nil at.front);
      report = rest_of input (at.front ++ ended line) behind whole_is ∙ sym (at.report ∙ ap report_in lines ∙ report_yes line (all_lines behind) is ∙ join_with_byte-slice_split 10 behind);
    }

  -- a last line without one
  module _ (lines : all_lines rest ≡ rest ∷ []) where
    pub none_found : divides rest ≡ false → is_divided input ≡ false
    none_found is = at.divided ∙ ap (list_any divides) lines ∙ any_no rest [] is

    pub found_last : divides rest ≡ true → Found input (length input - length rest) (length input)
    found_last is = record {
      divided = at.divided ∙ ap (list_any divides) lines ∙ any_yes rest [] is;
      script = front_of input at.front rest at.whole ∙ sym (at.script ∙ ap (λ l. at.front ++ l) (ap script_in lines ∙ script_yes rest [] is) ∙ append-nil at.front);
      report = drop_all (length input) input (omega arith) ∙ sym (at.report ∙ ap report_in lines ∙ report_yes rest [] is);
    }
