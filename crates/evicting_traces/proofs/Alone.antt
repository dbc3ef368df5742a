-- Turns of buckets that a call makes with none before them, read by what they are alone.
use Rattle.std.proofs.Common.{◌≡◌, ℕ, Bool, true, false, List, [], ◌∷◌, Option, None, Some, refl, ap, sym, ◌∙◌}
use Rattle.std.specs.Prelude.{if◌then◌else◌}
use Rattle.map_types.specs.declared.kind.DomainId.TheVariants.{Bucket}
use Rattle.place_words.specs.declared.bucket_part.BucketPart.{BucketPart}
use Rattle.place_words.specs.declared.history.Part.{Part}
use Rattle.place_words.specs.declared.history.Part.TheVariants as parts
use Rattle.place_words.specs.Locks.{is_same_lock}
use Rattle.place_words.specs.Turns.{Turn}
use Rattle.trace_check.specs.Reading as alone
use Rattle.trace_check.specs.Reading.{is_free, of_bucket, at_bucket, checked, same_turns, read_group, read_at}
use Rattle.evicting_traces.specs.Reading.{Seen, with_rest, read_turn, turns_in}
use Rattle.evicting_traces.specs.Parts.{on}
use Rattle.evicting_traces.specs.Calls.{first_at}
use Rattle.evicting_traces.proofs.KeyTelling.{at_none, at_one}

abbrev in_turns : {A : Type 0} → Option (A × List Seen) → Option (A × List Turn)
in_turns None = None
in_turns (Some found) = Some (found.0, turns_in found.1)

never : {A : Type 0} (turns : List Turn) (says : List Turn → Turn → Option A) → ((before : List Turn) (last : Turn) → says before last ≡ None) → read_group turns says ≡ None
never [] says none = refl
never {A = A} (turn ∷ turns) says none =
    by (is_free turn.part) (never turns (λ before. says (turn ∷ before)) (λ before last. none (turn ∷ before) last))
  where
    by : (b : Bool) → read_group turns (λ before. says (turn ∷ before)) ≡ None
        → (if b then read_group turns (λ before. says (turn ∷ before)) else alone.with_rest turns (says [] turn)) ≡ None
    by true later = later
    by false later = ap (alone.with_rest turns) (none [] turn)

module _ {A : Type 0} (bucket : ℕ) (says : BucketPart → Option A) where
  refused : (o : Option A) → checked (λ a. false) o ≡ None
  refused None = refl
  refused (Some a) = refl

  of_free : (part : Part) → is_free part ≡ true → of_bucket says part ≡ None
  of_free (parts.Bucket part) free = absurd cc
  of_free (parts.Free part) free = refl
  of_free (parts.Local part) free = absurd cc
  of_free (parts.Global part) free = absurd cc
  of_free (parts.Own part) free = absurd cc

  none_both : (b : Bool) (o : Option A) → o ≡ None → (if b then o else None) ≡ None
  none_both true o none = none
  none_both false o none = refl

  left_alone : (seens : List Seen) (o : Option A) → alone.with_rest (turns_in seens) (checked (λ a. true) o) ≡ in_turns (with_rest seens o)
  left_alone seens None = refl
  left_alone seens (Some a) = refl

  first_alone : (b : Bool) (seen : Seen) (seens : List Seen) → is_free seen.turn.part ≡ b
      → (if b then read_group (turns_in seens) (λ before last. checked (λ a. same_turns [] (seen.turn ∷ before)) (at_bucket bucket says last))
      else alone.with_rest (turns_in seens) (checked (λ a. same_turns [] []) (at_bucket bucket says seen.turn)))
      ≡ in_turns (with_rest seens (on (Bucket bucket) (of_bucket says) seen.turn))
  first_alone true seen seens free =
      never (turns_in seens) (λ before last. checked (λ a. same_turns [] (seen.turn ∷ before)) (at_bucket bucket says last)) (λ before last. refused (at_bucket bucket says last))
      ∙ sym (ap (λ (o : Option A). in_turns (with_rest seens o)) (none_both (is_same_lock seen.turn.lock (Bucket bucket)) (of_bucket says seen.turn.part) (of_free seen.turn.part free)))
  first_alone false seen seens free = left_alone seens (at_bucket bucket says seen.turn)

  at_alone : (seens : List Seen) → read_at bucket says (λ a before. same_turns [] before) (turns_in seens) ≡ in_turns (read_turn (on (Bucket bucket) (of_bucket says)) seens)
  at_alone [] = refl
  at_alone (seen ∷ seens) = first_alone (is_free seen.turn.part) seen seens refl

  pub alone_none : (seens : List Seen) → first_at bucket seens ≡ None → read_at bucket says (λ a before. same_turns [] before) (turns_in seens) ≡ None
  alone_none seens none = at_alone seens ∙ ap in_turns (at_none bucket says seens none)

  pub alone_other : (seens : List Seen) (part : BucketPart) (rest : List Seen) → first_at bucket seens ≡ Some (part, rest) → says part ≡ None → read_at bucket says (λ a before. same_turns [] before) (turns_in seens) ≡ None
  alone_other seens part rest found is = at_alone seens ∙ ap in_turns (at_one bucket says seens part rest None found is)

  pub alone_one : (seens : List Seen) (part : BucketPart) (rest : List Seen) (a : A) → first_at bucket seens ≡ Some (part, rest) → says part ≡ Some a → read_at bucket says (λ a before. same_turns [] before) (turns_in seens) ≡ Some (a, turns_in rest)
  alone_one seens part rest a found is = at_alone seens ∙ ap in_turns (at_one bucket says seens part rest (Some a) found is)
