-- At first each CPU's spare is in its hand.
use Rattle.std.proofs.Common.{◌≡◌, ℕ, ◌<◌, Bool, true, false, List, Option, None, Some, refl, ap, ◌∙◌, sym}
use Rattle.std.specs.Prelude.{is_some, slice_get}
use Rattle.std.proofs.lemmas.Bool.{true≢false}
use Rattle.map_types.specs.declared.attr.Shape.{Shape}
use Rattle.map_types.specs.declared.kind.MapKind.{MapKind}
use Rattle.map_types.specs.declared.kind.MapKind.TheVariants.{Hash, PercpuHash, LruHash, LruPercpuHash}
use Rattle.map_types.specs.Shape.{HasBounds}
use Rattle.place_words.specs.declared.owner.Owner.TheVariants as owners
use Rattle.place_words.specs.Openings.{first_spares}
use Rattle.place_words.specs.OpeningState.{opening}
use Rattle.map_report.specs.Serial.{has_spares}
use Rattle.map_report.specs.Serial as report
use Rattle.map_report.specs.Turns.{spare_at}
use Rattle.core_runs.proofs.CleanRuns.{first_known}
use Rattle.call_check.proofs.FirstSpares.{none_at_first}
use Rattle.call_check.proofs.OpeningSpares.{opening_spares_are}
use Rattle.race_words.proofs.Hands.{hand}
use Rattle.race_words.proofs.PlainSteps.{HandsIn}

of_kind : (kind : MapKind) → has_spares kind ≡ true → kind ≡ Hash
of_kind Hash is = refl
of_kind PercpuHash is = absurd cc
of_kind LruHash is = absurd cc
of_kind LruPercpuHash is = absurd cc

first_spare : (shape : Shape) → HasBounds shape → (c e : ℕ) → spare_at (report.opening shape) c ≡ Some e → (e < shape.elements) × ((opening shape).owner e ≡ owners.Hand c)
first_spare shape bounds c e is = by (has_spares shape.kind) refl
  where
    by : (b : Bool) → has_spares shape.kind ≡ b → (e < shape.elements) × ((opening shape).owner e ≡ owners.Hand c)
    by true has =
        let hash : shape.kind ≡ Hash = of_kind shape.kind has in
        first_known shape bounds c e (ap (λ (kind : MapKind). slice_get (first_spares shape kind) c) hash ∙ ap (λ (l : List ℕ). slice_get l c) (sym (opening_spares_are shape hash)) ∙ is)
    by false has_not = absurd (true≢false (sym (ap is_some (sym (ap (λ (l : List ℕ). slice_get l c) (none_at_first shape has_not)) ∙ is))))

none_popped : {A : Type 0} (e : ℕ) → (◌≡◌ {A = Option ℕ} None (Some e)) → A
none_popped e same = absurd cc

pub hands_at_first : (shape : Shape) → HasBounds shape → HandsIn shape (λ c. hand (spare_at (report.opening shape) c) None) (opening shape)
hands_at_first shape bounds = record {
  spares = λ c e is. first_spare shape bounds c e is;
  popped = λ c e is. none_popped e is;
  apart = λ c e one two. none_popped e two;
}
