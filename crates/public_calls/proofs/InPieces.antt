-- A text that is fed in pieces.
use Rattle.std.proofs.Common.{refl, ◌≡◌, ℕ, ◌+◌, ◌-◌, ◌≤◌, ◌^◌, ◌==◌, Bool, true, List, [], ◌++◌, length, count_by, sym, ap, ◌∙◌, subst, append-nil, arith}
use Rattle.std.proofs.lemmas.Bool.{eqb-true}
use Rattle.std.proofs.lemmas.List.{append_assoc, nil_from_length}
use Rattle.std.proofs.lemmas.List.Sums.{count_by-le-length}
use Rattle.map_script.specs.declared.script.Form.{Form}
use Rattle.map_script.specs.Lines.{is_line_feed}
use Rattle.map_script.specs.Pieces.{Reader, StandsFor, IsFed}
use Rattle.map_script.proofs.LineLaws.{count-append}

-- a reader stands for what was taken off a text
pub record Taken (form : Form) (reader : Reader) (text rest : List ℕ) : Type 0 where
  pub taken : List ℕ
  pub whole : text ≡ taken ++ rest
  pub stands : StandsFor form reader taken
  pub counted : reader.line_feeds ≡ count_by is_line_feed taken

pub taken_none : (form : Form) (reader : Reader) (text : List ℕ) → StandsFor form reader [] → reader.line_feeds ≡ 0 → Taken form reader text text
taken_none form reader text stands none = record { taken = []; whole = refl; stands = stands; counted = none }

pub taken_more : (form : Form) (before after : Reader) (text rest piece more : List ℕ) → Taken form before text rest → IsFed before piece after → rest ≡ piece ++ more → Taken form after text more
taken_more form before after text rest piece more so_far fed is = record {
  taken = so_far.taken ++ piece;
  whole = so_far.whole ∙ ap (λ (t : List ℕ). so_far.taken ++ t) is ∙ sym (append_assoc so_far.taken piece more);
  stands = fed.stands form so_far.taken so_far.stands;
  counted = omega (arith, fed.counted, so_far.counted, count-append so_far.taken piece);
}

-- the line feeds of the next piece are within those of the text
pub feeds_fit : (form : Form) (reader : Reader) (text rest piece more : List ℕ) (limit : ℕ) → Taken form reader text rest → rest ≡ piece ++ more → count_by is_line_feed text ≤ limit → reader.line_feeds + count_by is_line_feed piece ≤ limit
feeds_fit form reader text rest piece more limit so_far is bound =
    let first : count_by is_line_feed text ≡ count_by is_line_feed so_far.taken + count_by is_line_feed rest = ap (count_by is_line_feed) so_far.whole ∙ count-append so_far.taken rest in
    let second : count_by is_line_feed rest ≡ count_by is_line_feed piece + count_by is_line_feed more = ap (count_by is_line_feed) is ∙ count-append piece more in
    omega (arith, first, second, so_far.counted)

-- a whole text
pub taken_all : (form : Form) (reader : Reader) (text rest : List ℕ) → Taken form reader text rest → rest ≡ [] → StandsFor form reader text
taken_all form reader text rest so_far none =
    subst (λ (t : List ℕ). StandsFor form reader t) (sym (so_far.whole ∙ ap (λ (t : List ℕ). so_far.taken ++ t) none ∙ append-nil so_far.taken)) so_far.stands

pub emptied : (rest : List ℕ) (empty : Bool) → empty ≡ (length rest == 0) → empty ≡ true → rest ≡ []
emptied rest empty is holds = nil_from_length rest (eqb-true (length rest) 0 (sym is ∙ holds))

-- a short text has few line feeds
pub few_feeds : (text : List ℕ) → length text ≤ 16777216 → count_by is_line_feed text ≤ 2 ^ 32 - 3
few_feeds text short = omega (arith, count_by-le-length is_line_feed text)
