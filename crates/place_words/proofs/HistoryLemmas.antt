-- A history that has one turn more.
use Rattle.std.proofs.Common.{◌≡◌, List, [], ◌∷◌, ◌++◌, refl}
use Rattle.map_types.specs.declared.attr.Shape.{Shape}
use Rattle.map_types.specs.declared.kind.DomainId.{DomainId}
use Rattle.place_words.specs.declared.history.Entry.{Entry}
use Rattle.place_words.specs.Histories.{Content, Allows, content_after, replayed, AllAllowed, content, IsLegal, opening_content}

pub replayed_more : (shape : Shape) (before : Content) (entries : List Entry) (entry : Entry)
    → replayed shape before (entries ++ entry ∷ []) ≡ content_after shape entry.cpu entry.part (replayed shape before entries)
unfolding replayed
replayed_more shape before [] entry = refl
replayed_more shape before (first ∷ entries) entry = replayed_more shape (content_after shape first.cpu first.part before) entries entry

pub allowed_more : (shape : Shape) (before : Content) (entries : List Entry) (entry : Entry)
    → AllAllowed shape before entries → Allows shape entry.cpu entry.part (replayed shape before entries) → AllAllowed shape before (entries ++ entry ∷ [])
unfolding replayed AllAllowed
allowed_more shape before [] entry all last = (last, tt)
allowed_more shape before (first ∷ entries) entry all last =
    (all.0, allowed_more shape (content_after shape first.cpu first.part before) entries entry all.1 last)

-- what lies under the lock then, and that the history is legal
pub content_more : (shape : Shape) (lock : DomainId) (entries : List Entry) (entry : Entry)
    → content shape lock (entries ++ entry ∷ []) ≡ content_after shape entry.cpu entry.part (content shape lock entries)
content_more shape lock entries entry = replayed_more shape (opening_content shape lock) entries entry

pub legal_more : (shape : Shape) (lock : DomainId) (entries : List Entry) (entry : Entry)
    → IsLegal shape lock entries → Allows shape entry.cpu entry.part (content shape lock entries) → IsLegal shape lock (entries ++ entry ∷ [])
legal_more shape lock entries entry legal allowed = allowed_more shape (opening_content shape lock) entries entry legal allowed
