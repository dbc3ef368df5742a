-- A turn of local lists, by its part.
use Rattle.std.proofs.Common.{◌≡◌, ℕ, true, ap, sym, ◌∙◌, subst}
use Rattle.map_types.specs.declared.attr.Shape.{Shape}
use Rattle.place_words.specs.declared.history.Part.{Part}
use Rattle.place_words.specs.declared.history.Part.TheVariants as parts
use Rattle.place_words.specs.declared.list_part.LocalPart.{LocalPart}
use Rattle.place_words.specs.Histories.{Allows, in_locals}
use Rattle.place_words.specs.Locals.{LocalLists, AllowsOnLocal, local_after}
use Rattle.replay_words.specs.declared.note.Note.{Note}
use Rattle.replay_words.specs.Notes.{local_note, note_of}
use Rattle.replay_words.specs.Replays.{IsStep}

module _ (shape : Shape) (cpu : ℕ) (part : Part) (its : LocalPart) (before : LocalLists) (is : part ≡ parts.Local its) where
  pub steps : (now : LocalLists) → AllowsOnLocal shape its before → now ≡ local_after its before → IsStep shape cpu part (in_locals before) (in_locals now) true
  steps now allowed after = subst (λ (p : Part). IsStep shape cpu p (in_locals before) (in_locals now) true) (sym is) (allowed, ap in_locals after)

  pub refused : (AllowsOnLocal shape its before → ⊥) → Allows shape cpu part (in_locals before) → ⊥
  refused not allowed = not (subst (λ (p : Part). Allows shape cpu p (in_locals before)) is allowed)

  pub noted : (note : Note) → note ≡ local_note (in_locals before) its → note ≡ note_of (in_locals before) part
  noted note of = of ∙ ap (note_of (in_locals before)) (sym is)
