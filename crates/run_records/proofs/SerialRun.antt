-- The spares that the first pass of a run in serial order keeps before the first call.
use Rattle.std.proofs.Common.{◌≡◌, ℕ, ◌<◌, ◌≤◌, true, List, length, Option, Some, None, option_map, slice_get, refl, ap, sym, ◌∙◌, subst, ⊎_elim, arith}
use Rattle.std.proofs.lemmas.Bool.{cases_lt}
use Rattle.std.proofs.lemmas.List.{length-take}
use Rattle.std.proofs.lemmas.Option.{none-some, slice_get_past, slice_get-get_or}
use Rattle.map_types.specs.declared.attr.Shape.{Shape}
use Rattle.map_types.specs.declared.kind.MapKind.{MapKind}
use Rattle.map_types.specs.declared.kind.MapKind.TheVariants.{Hash, PercpuHash, LruHash, LruPercpuHash}
use Rattle.map_types.specs.Stored.{Stored}
use Rattle.place_words.specs.Openings.{opening_spares, first_spares}
use Rattle.place_table.specs.declared.view.InHand.{InHand}
use Rattle.place_table.specs.declared.view.View.{View}
use Rattle.place_table.specs.Calls.{element_of}
use Rattle.place_table.specs.Passes.{PassView, TableView, spare_of, IsFirstPass}
use Rattle.place_table.specs.Views.{is_among, is_in_hand_of, spares_from}
use Rattle.place_table.proofs.FirstSpares.{spare_in_hand}
use Rattle.place_table.proofs.Opens.{among}

-- The first pass

-- the number of a spare that is kept
pub element_is : (spare : Option Stored) → element_of spare ≡ option_map (λ (body : Stored). body.element) spare
element_is None = refl
element_is (Some body) = refl

spares_few : (shape : Shape) → length (opening_spares shape) ≤ shape.cpus
unfolding opening_spares
spares_few shape = rw length-take (omega arith)

-- the spares that it keeps are those at first, by CPU
module _ (t : TableView) (p : PassView) (first : IsFirstPass t p) (cpu : ℕ) where
  none_first : spare_of cpu p.spares ≡ None → (kind : MapKind) → t.shape.kind ≡ kind → length (first_spares t.shape kind) ≤ cpu
  none_first out Hash hash =
      let few = spares_few t.shape in
      ⊎_elim
      (λ (real : cpu < t.shape.cpus).
      let kept = first.in_no_call.none_out (ap (λ (v : View). v.shape.kind) first.view_is ∙ hash) cpu (ap (λ (v : View). is_among cpu v.cpus) first.view_is ∙ among cpu t.shape.cpus real) in
      absurd (none-some kept.0 (sym out ∙ kept.1)))
      (λ (past : t.shape.cpus ≤ cpu). omega arith)
      (cases_lt cpu t.shape.cpus)
  none_first out PercpuHash is = omega arith
  none_first out LruHash is = omega arith
  none_first out LruPercpuHash is = omega arith

  pub spare_first : (found : Option Stored) → spare_of cpu p.spares ≡ found → option_map (λ (body : Stored). body.element) found ≡ slice_get (first_spares t.shape t.shape.kind) cpu
  spare_first None is = sym (slice_get_past (first_spares t.shape t.shape.kind) cpu (none_first is t.shape.kind refl))
  spare_first (Some body) is =
      let spares : List ℕ = first_spares t.shape t.shape.kind in
      let in_hand : is_in_hand_of body.element cpu (spares_from 0 spares) ≡ true =
      subst (λ (hand : List InHand). is_in_hand_of body.element cpu hand ≡ true) (ap (λ (v : View). v.hand) first.view_is)
      (first.in_no_call.spares_in_hand cpu body is) in
      let at = spare_in_hand body.element cpu 0 spares in_hand in
      let place : at.0 ≡ cpu = let here = at.2 in omega arith in
      ap Some (sym at.3) ∙ sym (slice_get-get_or spares at.0 0 at.1) ∙ ap (slice_get spares) place
