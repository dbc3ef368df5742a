-- History by history.
use Rattle.std.proofs.Common.{◌≡◌, ℕ, ◌+◌, ◌<◌, Bool, true, false, ◌&&◌, List, [], ◌∷◌, ◌++◌, length, get_or, map, take, Some, ap, sym, ◌∙◌, subst}
use Rattle.std.specs.Prelude.{All}
use Rattle.std.proofs.lemmas.List.{map-append, take_more}
use Rattle.std.proofs.lemmas.List.Elements.{All-more, All-pop}
use Rattle.map_types.specs.declared.attr.Shape.{Shape}
use Rattle.map_types.specs.declared.kind.DomainId.{DomainId}
use Rattle.map_report.specs.Record.{Tells}
use Rattle.place_words.specs.declared.finals.Finals.{Finals}
use Rattle.place_words.specs.declared.history.Entry.{Entry}
use Rattle.place_words.specs.Histories.{Content}
use Rattle.finals_check.specs.Telling.{IsTold, lying_of}
use Rattle.finals_check.specs.declared.told.Lying.{Lying}
use Rattle.finals_check.proofs.Telling.{form_tells}
use Rattle.replay_words.specs.declared.note.Note.{Note}
use Rattle.replay_words.specs.Replays.{Leads}
use Rattle.record_check.specs.Replayed.{LockReplays, TellsWhether, lock_notes}

module _ {A : Type 0} (P : A → Type 0) (xs : List A) (i : ℕ) (d : A) (within : i < length xs) where
  parts : All P (take (i + 1) xs) → All P (take i xs) × P (get_or xs i d)
  parts all = All-pop P (take (i + 1) xs) (take i xs) (Some (get_or xs i d)) (take_more xs i d within) all

  -- whether all of one more
  pub more_told : (so_far one : Bool) → TellsWhether (All P (take i xs)) so_far → TellsWhether (P (get_or xs i d)) one → TellsWhether (All P (take (i + 1) xs)) (so_far && one)
  more_told true true all this = All-more P xs i d within all this
  more_told true false all this = λ more. this (parts more).1
  more_told false true all this = λ more. all (parts more).0
  more_told false false all this = λ more. all (parts more).0

pub more_mapped : {A B : Type 0} (f : A → B) (xs : List A) (i : ℕ) (d : A) (so_far more : List B) (one : B) → i < length xs → so_far ≡ map f (take i xs) → one ≡ f (get_or xs i d)
    → more ≡ so_far ++ one ∷ [] → more ≡ map f (take (i + 1) xs)
more_mapped f xs i d so_far more one within were is pushed =
    pushed ∙ ap (λ l. l ++ one ∷ []) were ∙ ap (λ x. map f (take i xs) ++ x ∷ []) is ∙ sym (map-append f (take i xs) (get_or xs i d ∷ [])) ∙ ap (map f) (sym (take_more xs i d within))

told_in_form : (finals : Finals) (lock : DomainId) (now : Content) (told : Bool) → TellsWhether (IsTold finals lock (lying_of now)) told → TellsWhether (Tells finals lock now) told
told_in_form finals lock now true told = (form_tells finals lock now).0 told
told_in_form finals lock now false told = λ tells. told ((form_tells finals lock now).1 tells)

-- a history that leads to what lies there now
pub lock_replays : (shape : Shape) (finals : Finals) (lock : DomainId) (entries : List Entry) (now : Content) (lying : Lying) (told : Bool) (notes : List Note)
    → Leads shape lock entries now → lying ≡ lying_of now → TellsWhether (IsTold finals lock lying) told → notes ≡ lock_notes shape lock entries
    → LockReplays shape finals lock entries (record { told = told; notes = notes })
lock_replays shape finals lock entries now lying told notes leads form tells noted = record {
  legal = leads.legal;
  told = subst (λ (lies : Content). TellsWhether (Tells finals lock lies) told) (sym leads.left)
      (told_in_form finals lock now told (subst (λ (lies : Lying). TellsWhether (IsTold finals lock lies) told) form tells));
  notes = noted;
}
