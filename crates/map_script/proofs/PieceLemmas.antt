-- A reader that is fed pieces.
use Rattle.std.proofs.Common.{◌≡◌, ℕ, ◌+◌, List, [], ◌++◌, count_by, Result, Ok, Err, refl, sym, ap, ap₂, subst, ◌∙◌, append-nil, arith}
use Rattle.std.specs.Prelude.{OnOk}
use Rattle.std.proofs.lemmas.List.{append_assoc}
use Rattle.map_script.specs.declared.refusal.ScriptRefusal.{ScriptRefusal}
use Rattle.map_script.specs.declared.refusal.ScriptRefusal.TheVariants.{Fault, Create, NoMemory}
use Rattle.map_script.specs.declared.script.Form.{Form}
use Rattle.map_script.specs.declared.script.Script.{Script}
use Rattle.map_script.specs.declared.stage.Stage.{Stage}
use Rattle.map_script.specs.declared.stage.Stage.TheVariants as stages
use Rattle.map_script.specs.Lines.{Line, is_line_feed, lines_from, end_from}
use Rattle.map_script.specs.Pieces.{Reader, ReadsOn, read_on, read_behind, text_behind, EndsWithLineFeed, StandsFor, IsFed}
use Rattle.map_script.specs.Reading.{read_as, IsReading}
use Rattle.map_script.proofs.LineLaws.{count-append}
use Rattle.map_script.proofs.PieceLines.{whole_lines, whole_end, ends_behind}
use Rattle.map_script.proofs.Stages.{goes_on, reading_is}

abbrev pub reader : Result Stage ScriptRefusal → List ℕ → ℕ → Reader
reader read line line_feeds = record { read = read; line = line; line_feeds = line_feeds }

pub opened : (form : Form) (line : List ℕ) → line ≡ [] → StandsFor form (reader (Ok (stages.Start form)) line 0) []
unfolding read_as
opened form line none = λ rest. ap (λ (l : List ℕ). text_behind (Ok (stages.Start form)) 0 (l ++ rest)) none

-- two pieces, one after the other
pub fed_both : (before middle after : Reader) (piece first second : List ℕ) → IsFed before first middle → IsFed middle second after → piece ≡ first ++ second → IsFed before piece after
fed_both before middle after piece first second one two is = record {
  stands = λ form bytes stands rest.
      two.stands form (bytes ++ first) (one.stands form bytes stands) rest
      ∙ ap (λ (t : List ℕ). read_as form (t ++ rest)) (append_assoc bytes first second ∙ ap (λ (t : List ℕ). bytes ++ t) (sym is));
  counted = rw is (omega (arith, one.counted, two.counted, count-append first second));
}

-- a part of a line is kept
pub fed_part : (read : Result Stage ScriptRefusal) (line part : List ℕ) (line_feeds : ℕ) → count_by is_line_feed part ≡ 0 → IsFed (reader read line line_feeds) part (reader read (line ++ part) line_feeds)
fed_part read line part line_feeds none = record {
  stands = λ form bytes stands rest.
      ap (text_behind read line_feeds) (append_assoc line part rest)
      ∙ stands (part ++ rest)
      ∙ ap (read_as form) (sym (append_assoc bytes part rest));
  counted = omega (arith, none);
}

-- where the lines are refused
pub fed_refused : (refusal : ScriptRefusal) (line piece : List ℕ) (line_feeds more : ℕ) → more ≡ line_feeds + count_by is_line_feed piece → IsFed (reader (Err refusal) line line_feeds) piece (reader (Err refusal) line more)
fed_refused refusal line piece line_feeds more counts = record {
  stands = λ form bytes stands rest. stands (piece ++ rest) ∙ ap (read_as form) (sym (append_assoc bytes piece rest));
  counted = counts;
}

-- lines are read to the end of a piece
pub fed_lines : (before after : Result Stage ScriptRefusal) (line part : List ℕ) (line_feeds more_feeds : ℕ) → count_by is_line_feed line ≡ 0 → EndsWithLineFeed part
    → ReadsOn (λ end more. read_behind before end (lines_from (line_feeds + 1) (line ++ part) ++ more)) after → (after ≡ Err NoMemory → ⊥)
    → more_feeds ≡ line_feeds + count_by is_line_feed (line ++ part) → IsFed (reader before line line_feeds) part (reader after [] more_feeds)
fed_lines before after line part line_feeds more_feeds none ends on some counts =
    let text = line ++ part in
    let number : line_feeds + 1 + count_by is_line_feed text ≡ more_feeds + 1 = omega arith in
    record {
      stands = λ form bytes stands rest.
          let end : end_from (line_feeds + 1) (text ++ rest) ≡ end_from (more_feeds + 1) rest = whole_end (line_feeds + 1) text rest ∙ ap (λ (n : ℕ). end_from n rest) number in
          let lines : lines_from (line_feeds + 1) (text ++ rest) ≡ lines_from (line_feeds + 1) text ++ lines_from (more_feeds + 1) rest =
          whole_lines (line_feeds + 1) text rest (ends_behind line part ends) ∙ ap (λ (n : ℕ). lines_from (line_feeds + 1) text ++ lines_from n rest) number in
          sym (goes_on (λ end more. read_behind before end (lines_from (line_feeds + 1) text ++ more)) after on some (end_from (more_feeds + 1) rest) (lines_from (more_feeds + 1) rest))
          ∙ ap₂ (read_behind before) (sym end) (sym lines)
          ∙ ap (text_behind before line_feeds) (append_assoc line part rest)
          ∙ stands (part ++ rest)
          ∙ ap (read_as form) (sym (append_assoc bytes part rest));
      counted = omega (arith, counts, none, count-append line part);
    }

-- the same, of a reader that is seen so
pub fed_read : (now : Reader) (before after : Result Stage ScriptRefusal) (line part left : List ℕ) (line_feeds more_feeds : ℕ) → reader before line line_feeds ≡ now → count_by is_line_feed line ≡ 0 → EndsWithLineFeed part
    → ReadsOn (λ end more. read_behind before end (lines_from (line_feeds + 1) (line ++ part) ++ more)) after → (after ≡ Err NoMemory → ⊥)
    → more_feeds ≡ line_feeds + count_by is_line_feed (line ++ part) → left ≡ [] → IsFed now part (reader after left more_feeds)
fed_read now before after line part left line_feeds more_feeds seen none ends on some counts nothing =
    subst (λ (r : Reader). IsFed r part (reader after left more_feeds)) seen
    (subst (λ (l : List ℕ). IsFed (reader before line line_feeds) part (reader after l more_feeds)) (sym nothing)
    (fed_lines before after line part line_feeds more_feeds none ends on some counts))

-- what follows where a call went well
pub on_ok : {A E : Type 0} (returned : Result A E) (P Q : Type 0) → OnOk returned Q → (Q → P) → OnOk returned P
on_ok (Ok found) P Q holds follows = follows holds
on_ok (Err error) P Q holds follows = tt

-- ---- the end

-- where memory was missing before, it is missing
pub fails_on : (before : Result Stage ScriptRefusal) (lines : List Line) (refusal : ScriptRefusal) → before ≡ Err NoMemory
    → ReadsOn (λ end more. read_behind before end (lines ++ more)) (Err refusal) → refusal ≡ NoMemory
fails_on before lines NoMemory fails on = refl
fails_on before lines (Fault line cause) fails on =
    let same : Err NoMemory ≡ Err (Fault line cause) = ap (λ (r : Result Stage ScriptRefusal). read_behind r 0 (lines ++ [])) (sym fails) ∙ on 0 [] in absurd cc
fails_on before lines (Create why) fails on =
    let same : Err NoMemory ≡ Err (Create why) = ap (λ (r : Result Stage ScriptRefusal). read_behind r 0 (lines ++ [])) (sym fails) ∙ on 0 [] in absurd cc

-- what the last line leads to, where no line follows
pub last_read : (before after : Result Stage ScriptRefusal) (line : List ℕ) (line_feeds more_feeds : ℕ) (form : Form) (bytes : List ℕ)
    → ReadsOn (λ end more. read_behind before end (lines_from (line_feeds + 1) line ++ more)) after → (after ≡ Err NoMemory → ⊥)
    → more_feeds ≡ line_feeds + count_by is_line_feed line → StandsFor form (reader before line line_feeds) bytes
    → read_behind after (more_feeds + 1) [] ≡ read_as form bytes
last_read before after line line_feeds more_feeds form bytes on some counts stands =
    let end : end_from (line_feeds + 1) line ≡ more_feeds + 1 = omega (arith, counts) in
    sym (goes_on (λ end more. read_behind before end (lines_from (line_feeds + 1) line ++ more)) after on some (more_feeds + 1) [])
    ∙ ap₂ (read_behind before) (sym end) (append-nil (lines_from (line_feeds + 1) line))
    ∙ ap (text_behind before line_feeds) (sym (append-nil line))
    ∙ stands []
    ∙ ap (read_as form) (append-nil bytes)

pub finished : (before : Result Stage ScriptRefusal) (stage : Stage) (line : List ℕ) (line_feeds more_feeds : ℕ) (form : Form) (bytes : List ℕ) (result : Result Script ScriptRefusal)
    → ReadsOn (λ end more. read_behind before end (lines_from (line_feeds + 1) line ++ more)) (Ok stage) → more_feeds ≡ line_feeds + count_by is_line_feed line
    → result ≡ read_on stage (more_feeds + 1) [] → StandsFor form (reader before line line_feeds) bytes → IsReading result (read_as form bytes)
finished before stage line line_feeds more_feeds form bytes result on counts is stands =
    reading_is result (read_as form bytes) (is ∙ last_read before (Ok stage) line line_feeds more_feeds form bytes on (λ none. absurd cc) counts stands)

pub finished_refused : (before : Result Stage ScriptRefusal) (refusal : ScriptRefusal) (line : List ℕ) (line_feeds more_feeds : ℕ) (form : Form) (bytes : List ℕ)
    → ReadsOn (λ end more. read_behind before end (lines_from (line_feeds + 1) line ++ more)) (Err refusal) → more_feeds ≡ line_feeds + count_by is_line_feed line
    → StandsFor form (reader before line line_feeds) bytes → IsReading (Err refusal) (read_as form bytes)
finished_refused before NoMemory line line_feeds more_feeds form bytes on counts stands = tt
finished_refused before (Fault number cause) line line_feeds more_feeds form bytes on counts stands =
    reading_is (Err (Fault number cause)) (read_as form bytes) (last_read before (Err (Fault number cause)) line line_feeds more_feeds form bytes on (λ none. absurd cc) counts stands)
finished_refused before (Create why) line line_feeds more_feeds form bytes on counts stands =
    reading_is (Err (Create why)) (read_as form bytes) (last_read before (Err (Create why)) line line_feeds more_feeds form bytes on (λ none. absurd cc) counts stands)

-- one piece and no other
pub fed_whole : (form : Form) (before after : Reader) (text : List ℕ) (result : Result Script ScriptRefusal) → StandsFor form before [] → IsFed before text after
    → ((bytes : List ℕ) → StandsFor form after bytes → IsReading result (read_as form bytes)) → IsReading result (read_as form text)
fed_whole form before after text result opens fed finishes = finishes text (fed.stands form [] opens)
