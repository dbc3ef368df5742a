use Rattle.std.proofs.Common.{refl, ap, ◌∙◌, ◌≡◌, ℕ, List, length, arith}
use Rattle.map_types.proofs.CreationLemmas.{bounds_of_shape}
use Rattle.place_words.specs.StrandSteps.{steps_made}
use Rattle.place_table.specs.declared.content.Behind.{Behind}
use Rattle.place_table.specs.declared.view.View.{View}
use Rattle.place_table.specs.Words.{opening_words}
use Rattle.place_table.proofs.FirstPass.{first_is_pass, is_first_pass}
use Rattle.place_table.proofs.FirstWords.{length_words}
use Rattle.place_table.proofs.Opens.{opens}
use Rattle.place_table.proofs.table.PlaceTable.create.Goals as goal

pub first_cpus-requires : goal.first_cpus-requires
first_cpus-requires c = let bounds = bounds_of_shape c.args.shape.now c.requires.shape in omega arith

pub new-requires : goal.new-requires
new-requires c =
    opens c.args.shape.now c.as_slice-3.result.now c.in_ok-slots.slots.items c.requires.shape (c.as_slice-3.ensures.value ∙ c.in_ok-words.ensures) c.in_ok-slots.ensures

pub invariant_of-result : goal.invariant_of-result
invariant_of-result c =
    let words : c.as_slice-3.result.now ≡ opening_words c.args.shape.now = c.as_slice-3.ensures.value ∙ c.in_ok-words.ensures in
    (c.in-Ok.ensures.ok.5, c.in-Ok.ensures.ok.0 ∙ (ap length words ∙ length_words c.args.shape.now), c.requires.shape)

pub invariant_of-result-in-Ok : goal.invariant_of-result-in-Ok
invariant_of-result-in-Ok c =
    first_is_pass c.args.shape.now (bounds_of_shape c.args.shape.now c.requires.shape) c.in-Ok.seat.me.0 c.in-Ok.seat.me.1 (steps_made c.in_ok-strand.strand) c.in_ok-spares.spares c.first_cpus.result c.none_made.result
    (ap (λ (me : View × List (ℕ × Behind)). me.0) c.in-Ok.ensures.ok.4)
    (ap (λ (me : View × List (ℕ × Behind)). me.1) c.in-Ok.ensures.ok.4)
    c.in_ok-strand.ensures c.in_ok-spares.ensures c.first_cpus.ensures c.none_made.ensures.log c.none_made.ensures.ended (c.none_made.ensures.logs c.args.shape.now)

pub returns-in-Ok : goal.returns-in-Ok
returns-in-Ok c = (
  refl,
  is_first_pass _ _ (bounds_of_shape c.args.shape.now c.requires.shape) c.in-Ok.ensures.ok.2 (ap (λ (me : View × List (ℕ × Behind)). me.0) c.in-Ok.ensures.ok.4) c.in_ok-spares.ensures,
)
