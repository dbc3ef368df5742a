-- The lines of a text whose front ends with a line feed: those of the front, and then those of the rest.
use Rattle.std.proofs.Common.{◌≡◌, ℕ, suc, ◌+◌, ◌<◌, Bool, true, false, cond, not, List, [], ◌∷◌, ◌++◌, length, get_or, take, drop, filter, count_by, refl, sym, ap, ◌∙◌, append-nil, arith}
use Rattle.std.specs.List.{slice_split}
use Rattle.std.proofs.lemmas.Bool.{eqb-true}
use Rattle.std.proofs.lemmas.List.{append_assoc, take_more, drop_more}
use Rattle.std.proofs.lemmas.List.Elements.{filter-append}
use Rattle.std.proofs.lemmas.List.Splits.{length-slice_split}
use Rattle.map_script.specs.Lines.{Line, is_line_feed, is_nothing, said_by, numbered, lines_from, end_from}
use Rattle.map_script.specs.Pieces.{EndsWithLineFeed}
use Rattle.map_script.proofs.Splitting.{split_at}
use Rattle.map_script.proofs.LineLaws.{count-append}

numbered_append : (number : ℕ) (lines others : List (List ℕ)) → numbered number (lines ++ others) ≡ numbered number lines ++ numbered (number + length lines) others
numbered_append number [] others = let same : number ≡ number + 0 = omega arith in ap (λ (n : ℕ). numbered n others) same
numbered_append number (line ∷ lines) others =
    let next : number + 1 + length lines ≡ number + suc (length lines) = omega arith in
    ap (λ (more : List Line). record { number = number; says = said_by line } ∷ more)
    (numbered_append (number + 1) lines others ∙ ap (λ (n : ℕ). numbered (number + 1) lines ++ numbered n others) next)

lines_at : (number : ℕ) (front rest : List ℕ) → lines_from number (front ++ 10 ∷ rest) ≡ lines_from number front ++ lines_from (number + (count_by is_line_feed front + 1)) rest
lines_at number front rest =
    ap (λ (parts : List (List ℕ)). filter (λ (line : Line). not (is_nothing line.says)) (numbered number parts)) (split_at is_line_feed front 10 rest refl)
    ∙ ap (λ (lines : List Line). filter (λ (line : Line). not (is_nothing line.says)) lines) (numbered_append number (slice_split is_line_feed front) (slice_split is_line_feed rest))
    ∙ filter-append (λ (line : Line). not (is_nothing line.says)) (numbered number (slice_split is_line_feed front)) (numbered (number + length (slice_split is_line_feed front)) (slice_split is_line_feed rest))
    ∙ ap (λ (n : ℕ). lines_from number front ++ lines_from (number + n) rest) (length-slice_split is_line_feed front)

-- a text that ends with a line feed has whole lines: the lines behind it begin a new one
pub whole_lines : (number : ℕ) (text rest : List ℕ) → EndsWithLineFeed text
    → lines_from number (text ++ rest) ≡ lines_from number text ++ lines_from (number + count_by is_line_feed text) rest
whole_lines number text rest ends =
    let front = ends.0 in
    let alone : lines_from number text ≡ lines_from number front = ap (lines_from number) ends.1 ∙ lines_at number front [] ∙ append-nil (lines_from number front) in
    let count : count_by is_line_feed text ≡ count_by is_line_feed front + 1 = ap (count_by is_line_feed) ends.1 ∙ count-append front (10 ∷ []) in
    ap (λ (t : List ℕ). lines_from number (t ++ rest)) ends.1
    ∙ ap (lines_from number) (append_assoc front (10 ∷ []) rest)
    ∙ lines_at number front rest
    ∙ rw (alone, count) refl

-- the line feeds of both parts
pub whole_end : (number : ℕ) (text rest : List ℕ) → end_from number (text ++ rest) ≡ end_from (number + count_by is_line_feed text) rest
whole_end number text rest = omega (arith, count-append text rest)

pub ends_behind : (line text : List ℕ) → EndsWithLineFeed text → EndsWithLineFeed (line ++ text)
ends_behind line text ends = (line ++ ends.0, ap (λ (t : List ℕ). line ++ t) ends.1 ∙ sym (append_assoc line ends.0 (10 ∷ [])))

-- ---- cutting behind a line feed

feed_byte : (byte : ℕ) → is_line_feed byte ≡ true → byte ≡ 10
feed_byte byte is = eqb-true byte 10 is

-- what is cut behind a line feed ends with it
pub cut_ends : (text : List ℕ) (at : ℕ) → at < length text → is_line_feed (get_or text at 0) ≡ true → EndsWithLineFeed (take (at + 1) text)
cut_ends text at inside is =
    (take at text, take_more text at 0 inside ∙ ap (λ (byte : ℕ). take at text ++ byte ∷ []) (feed_byte (get_or text at 0) is))

-- a byte more from the end, which is no line feed
pub no_feed_more : (text : List ℕ) (at : ℕ) → at < length text → is_line_feed (get_or text at 0) ≡ false → count_by is_line_feed (drop (at + 1) text) ≡ 0 → count_by is_line_feed (drop at text) ≡ 0
no_feed_more text at inside is none =
    let here : count_by is_line_feed (get_or text at 0 ∷ []) ≡ 0 = ap (λ (feed : Bool). 0 + cond feed 1 0) is in
    rw (drop_more text at 0 inside) (omega (arith, here, none, count-append (get_or text at 0 ∷ []) (drop (at + 1) text)))
