-- The elements of a bucket, line by line.
use Rattle.std.proofs.Common.{◌≡◌, ℕ, List, [], ◌∷◌, ◌++◌, length, Option, Some, None, Ok, refl, sym, ap, ◌∙◌, arith}
use Rattle.map_types.specs.declared.attr.Shape.{Shape}
use Rattle.map_types.specs.Stored.{Stored}
use Rattle.record_reading.specs.DumpReaders.{stored_part}
use Rattle.record_reading.specs.Readers.{whole}
use Rattle.record_reading.specs.RecordReaders.{stored_of, bucket_head, bucket_section}
use Rattle.record_reading.specs.Sections.{Line, Section, no_line}
use Rattle.record_reading.proofs.AnyLemmas.{Shrinks, AnySoFar, begin, more, stops, ended}
use Rattle.record_reading.proofs.LoopLemmas.{Outcome}
use Rattle.record_reading.proofs.SectionLaws.{from_ok}

abbrev pub no_lines : Stored → Section (Unit {0})
no_lines stored = no_line tt

pub shrinks_not : Shrinks no_lines
shrinks_not h lines b rest e = omega (arith, ap length (left e))
  where
    left : ◌≡◌ {A = Outcome (Unit {0})} (Ok (tt, lines)) (Ok (b, rest)) → lines ≡ rest
    left same = ap (λ (p : Unit {0} × List Line). p.1) (from_ok (tt, lines) (b, rest) same)

pub record StoredSoFar (shape : Shape) (bucket : ℕ) (old new : List Line) (found : List Stored) : Type 0 where
  pub so_far : AnySoFar (bucket_head shape bucket) no_lines (λ _ _. tt) shrinks_not stored_of tt tt old new found

pub stored_start : (shape : Shape) (bucket : ℕ) (old : List Line) (found : List Stored) → found ≡ [] → StoredSoFar shape bucket old old found
stored_start shape bucket old found none = record { so_far = begin (bucket_head shape bucket) no_lines (λ _ _. tt) shrinks_not stored_of tt tt old found refl none }

pub stored_more : (shape : Shape) (bucket : ℕ) (old new : List Line) (found : List Stored) → StoredSoFar shape bucket old new found → (line : Line) (behind : List Line) → new ≡ line ∷ behind → (stored : Stored) → Some stored ≡ whole (stored_part shape bucket) line
    → StoredSoFar shape bucket old behind (found ++ stored ∷ [])
stored_more shape bucket old new found so line behind is stored h =
    record { so_far = more (bucket_head shape bucket) no_lines (λ _ _. tt) shrinks_not stored_of so.so_far line behind is stored (sym h) tt behind refl }

pub stored_done : (shape : Shape) (bucket : ℕ) (old new : List Line) (found : List Stored) → StoredSoFar shape bucket old new found → (line : Line) (behind : List Line) → new ≡ line ∷ behind → (stored : Option Stored) → stored ≡ whole (stored_part shape bucket) line → stored ≡ None
    → bucket_section shape bucket old ≡ Ok (found, new)
stored_done shape bucket old new found so line behind is stored h none =
    stops (bucket_head shape bucket) no_lines (λ _ _. tt) shrinks_not stored_of so.so_far line behind is (sym h ∙ none)

pub stored_end : (shape : Shape) (bucket : ℕ) (old new : List Line) (found : List Stored) → StoredSoFar shape bucket old new found → new ≡ [] → bucket_section shape bucket old ≡ Ok (found, new)
stored_end shape bucket old new found so is = ended (bucket_head shape bucket) no_lines (λ _ _. tt) shrinks_not stored_of so.so_far is
