-- On a map whose CPUs have list sets of their own, the turn that takes an element is determined by the lists and the bits.
use Rattle.std.proofs.Common.{◌≡◌, ◌≢◌, ℕ, suc, ◌<◌, ◌≤◌, Bool, false, cond, eqb, List, [], ◌∷◌, ◌++◌, length, refl, ap, ◌∙◌, sym, subst, arith}
use Rattle.std.specs.Prelude.{Option, None, Some, slice_get}
use Rattle.std.proofs.lemmas.Bool.{eq-eqb, ne_eqb}
use Rattle.map_types.specs.declared.attr.Shape.{Shape}
use Rattle.map_types.specs.declared.kind.DomainId.{DomainId}
use Rattle.map_types.specs.ElementLists.{times}
use Rattle.map_types.specs.Listed.{Listed}
use Rattle.place_words.specs.declared.list_part.OwnPart.{OwnPart}
use Rattle.place_words.specs.declared.list_part.OwnPart.TheVariants as own
use Rattle.place_words.specs.declared.visits.ShrinkNote.{ShrinkNote}
use Rattle.place_words.specs.declared.visits.Try.{Try}
use Rattle.place_words.specs.declared.visits.Visit.{Visit}
use Rattle.place_words.specs.Choices.{without_bits, shrink_of, own_shrink, own_turn}
use Rattle.place_words.specs.Histories.{Content, looks_told}
use Rattle.place_words.specs.Rotation.{visited_elements, rotated}
use Rattle.place_words.specs.RowMoves.{rows_of}
use Rattle.place_words.specs.Sets.{ListSet, own_scans, own_target, rotated_set, shrunk_into_free, AllowsOwnShrink, AllowsOnOwn}
use Rattle.place_words.specs.Shrinking.{IsShrink}
use Rattle.place_words.specs.Takings.{shrink_probes, Chase}
use Rattle.place_words.specs.Turns.{Turn, AreAllowed}
use Rattle.place_words.proofs.ChaseDone.{names_of}
use Rattle.place_words.proofs.Loses.{in_set}
use Rattle.place_words.proofs.RotationCounts.{rotated_less}
use Rattle.place_words.proofs.RowCounts.{any, rows_append}
use Rattle.serial_laws.proofs.ProbesRemoved.{CanOnlyRemove}
use Rattle.serial_laws.proofs.TurnsMade.{FindBits}
use Rattle.serial_laws.proofs.WalksTold.{note_is, active_is, inactive_is, told_then}

-- The shrink of an own turn

none_zero : (free : List ℕ) → free ≢ [] → eqb (length free) 0 ≡ false
none_zero [] some = absurd (some refl)
none_zero (e ∷ free) some = ne_eqb (suc (length free)) 0 (λ same. omega (arith, same))

own_shrink_of : (bits : ℕ → Bool) (lists : Listed) (free : List ℕ) (shrink : Option ShrinkNote) → AllowsOwnShrink shrink (record { lists = lists; free = free })
    → ((note : ShrinkNote) → shrink ≡ Some note → note.target ≡ own_target → IsShrink own_scans own_target lists note.looks note.forced → note ≡ shrink_of own_scans own_target bits lists) → shrink ≡ own_shrink bits (record { lists = lists; free = free })
own_shrink_of bits lists free None may note_is = ap (λ (b : Bool). cond b (Some (shrink_of own_scans own_target bits lists)) None) (sym (none_zero free may))
own_shrink_of bits lists free (Some note) may note_is =
    ap Some (note_is note refl may.1 may.2) ∙ ap (λ (b : Bool). cond b (Some (shrink_of own_scans own_target bits lists)) None) (sym (eq-eqb (length free) 0 (ap (length {A = ℕ}) may.0)))

-- what a turn of an own set is after these visits
abbrev turn_from : ℕ → (ℕ → Bool) → ListSet → List Visit → List Visit → OwnPart
turn_from key_hash bits set active inactive =
    let after : ListSet = rotated_set own_scans active inactive set in
    let shrink : Option ShrinkNote = own_shrink (without_bits (visited_elements active ++ visited_elements inactive) bits) after in
    own.Turn key_hash active inactive shrink (slice_get (shrunk_into_free shrink after).free 0)

-- A turn of an own set that is allowed there, after the turns of its probes, and tells the bits.
module _ (shape : Shape) (cpu key_hash : ℕ) (contents : DomainId → Content) (bits : ℕ → Bool) (set : ListSet) (active inactive : List Visit) (shrink : Option ShrinkNote) (got : Option ℕ)
    (once : (e : ℕ) → in_set e any set.lists ≤ 1) (real : (e : ℕ) → 1 ≤ in_set e any set.lists → e < shape.elements) (can : (probes : List Try) → ((e : ℕ) → times e (names_of probes) ≤ rows_of e any (set.lists.active ++ set.lists.inactive)) → CanOnlyRemove shape (set.lists.active ++ set.lists.inactive) contents probes)
    (may : AllowsOnOwn (own.Turn key_hash active inactive shrink got) set) (told : FindBits shape.elements bits (active ++ (inactive ++ looks_told shrink)))
    (turns : List Turn) (chase : Chase shape (set.lists.active ++ set.lists.inactive) (shrink_probes shrink) turns) (allowed : AreAllowed shape cpu contents turns) where
  all_rows : (e : ℕ) → rows_of e any (set.lists.active ++ set.lists.inactive) ≡ in_set e any set.lists
  all_rows e = rows_append e any set.lists.active set.lists.inactive

  shrink_then : shrink ≡ own_shrink (without_bits (visited_elements active ++ visited_elements inactive) bits) (rotated_set own_scans active inactive set)
  shrink_then =
      own_shrink_of (without_bits (visited_elements active ++ visited_elements inactive) bits) (rotated own_scans set.lists active inactive) set.free shrink may.1
      (λ note is target shrinks.
      note_is shape cpu contents (set.lists.active ++ set.lists.inactive) (without_bits (visited_elements active ++ visited_elements inactive) bits) (rotated own_scans set.lists active inactive)
      (λ e. omega (arith, all_rows e, once e)) (λ e. omega (arith, all_rows e, rotated_less own_scans set.lists active inactive e)) (λ e some. real e (omega (arith, some, all_rows e))) can turns own_scans own_target note target shrinks
      (subst (λ (s : Option ShrinkNote). FindBits shape.elements (without_bits (visited_elements active ++ visited_elements inactive) bits) (looks_told s)) is
      (told_then shape.elements own_scans bits set.lists active inactive (looks_told shrink) once real may.0 told))
      (subst (λ (s : Option ShrinkNote). Chase shape (set.lists.active ++ set.lists.inactive) (shrink_probes s) turns) is chase) allowed)

  turned_from : own.Turn key_hash active inactive shrink got ≡ turn_from key_hash bits set active inactive
  turned_from =
      ap (λ (o : Option ℕ). own.Turn key_hash active inactive shrink o) may.2
      ∙ ap (λ (s : Option ShrinkNote). own.Turn key_hash active inactive s (slice_get (shrunk_into_free s (rotated_set own_scans active inactive set)).free 0)) shrink_then

  pub own_turn_is : own.Turn key_hash active inactive shrink got ≡ own_turn key_hash bits set
  unfolding own_turn
  own_turn_is =
      let first = active_is shape.elements own_scans bits set.lists active inactive (looks_told shrink) once real may.0 told in
      let second = inactive_is shape.elements own_scans bits set.lists active inactive (looks_told shrink) once real may.0 told in
      turned_from ∙ (λ i. turn_from key_hash bits set (first i) (second i))
