-- The notes of a history, turn by turn.
use Rattle.std.proofs.Common.{◌≡◌, ℕ, ◌+◌, ◌<◌, List, [], ◌∷◌, ◌++◌, length, take, get_or, ap, sym, ◌∙◌}
use Rattle.std.proofs.lemmas.List.{append-nil, append_assoc, take_more}
use Rattle.map_types.specs.declared.attr.Shape.{Shape}
use Rattle.map_types.specs.declared.kind.DomainId.{DomainId}
use Rattle.place_words.specs.declared.history.Entry.{Entry}
use Rattle.place_words.specs.Histories.{Content, content}
use Rattle.replay_words.specs.declared.note.Note.{Note}
use Rattle.replay_words.specs.Notes.{note_of, notes_after, notes_of}

module _ (shape : Shape) (lock : DomainId) where
  -- the note of a turn more
  pub notes_more : (earlier entries : List Entry) (entry : Entry)
      → notes_after shape lock earlier (entries ++ entry ∷ []) ≡ notes_after shape lock earlier entries ++ note_of (content shape lock (earlier ++ entries)) entry.part ∷ []
  notes_more earlier [] entry = ap (λ (es : List Entry). note_of (content shape lock es) entry.part ∷ []) (sym (append-nil earlier))
  notes_more earlier (first ∷ entries) entry =
      ap (λ (notes : List Note). note_of (content shape lock earlier) first.part ∷ notes)
      (notes_more (earlier ++ first ∷ []) entries entry
      ∙ ap (λ (es : List Entry). notes_after shape lock (earlier ++ first ∷ []) entries ++ note_of (content shape lock es) entry.part ∷ []) (append_assoc earlier (first ∷ []) entries))

  -- the entries so far, and one more
  pub noted_more : (entries : List Entry) (index : ℕ) (entry other : Entry) (now : Content) (notes more : List Note) (note : Note)
      → index < length entries → entry ≡ get_or entries index other → content shape lock (take index entries) ≡ now
      → notes ≡ notes_of shape lock (take index entries) → note ≡ note_of now entry.part → more ≡ notes ++ note ∷ []
      → more ≡ notes_of shape lock (take (index + 1) entries)
  noted_more entries index entry other now notes more note within is left noted is_note pushed =
      pushed
      ∙ ap (λ (ns : List Note). ns ++ note ∷ []) noted
      ∙ ap (λ (n : Note). notes_of shape lock (take index entries) ++ n ∷ []) (is_note ∙ ap (λ (lies : Content). note_of lies entry.part) (sym left))
      ∙ sym (notes_more [] (take index entries) entry)
      ∙ ap (notes_of shape lock) (sym (take_more entries index other within ∙ ap (λ (e : Entry). take index entries ++ e ∷ []) (sym is)))
