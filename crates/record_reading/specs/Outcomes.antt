-- What comes of reading a section, and the lines that are left.
use Rattle.std.specs.Prelude.{◌≡◌, ℕ, Bool, true, false, List, [], ◌∷◌, Option, Some, None, MatchOption, Ok, Err, ◌&&◌, nat_le, if◌then◌else◌}
use Rattle.map_types.specs.declared.attr.Shape.{Shape}
use Rattle.map_types.specs.declared.kind.DomainId.{DomainId}
use Rattle.place_words.specs.Locks.{is_same_lock}
use Rattle.record_reading.specs.LineReaders.{lock_head}
use Rattle.record_reading.specs.Readers.{◌>>=◌, whole}
use Rattle.record_reading.specs.Sections.{Line, Section}
use Rattle.record_reading.specs.TextLines.{lines_in}

-- Of these lines the section is read and those are left. Where nothing is found, those are the lines from the first one on that
-- doesn't go on with it.
abbrev pub Reads : {A : Type 0} → Section A → List Line → List Line → Option A → Type 0
Reads section these those found = MatchOption found (section these ≡ Err those) (λ a. section these ≡ Ok (a, those))

-- a first line, if there is one, and the text behind it
abbrev pub lines_with : Bool → Line → List ℕ → List Line × List ℕ
lines_with true first behind = (first ∷ (lines_in behind).0, (lines_in behind).1)
lines_with false first behind = ([], behind)

-- the head of a history, where the first line is one
abbrev pub head_of : Shape → List Line → Option (DomainId × ℕ)
head_of shape [] = None
head_of shape (line ∷ lines) = whole (lock_head shape) line

-- how many entries of a lock follow on a head, in a script of so many calls
abbrev pub entries_due : ℕ → DomainId → Option (DomainId × ℕ) → Option ℕ
entries_due calls lock head = head >>= (λ head. if is_same_lock head.0 lock && (nat_le 1 head.1 && nat_le 1 calls) then Some head.1 else None)
