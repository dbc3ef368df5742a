-- On a map whose CPUs share lists, a theft from local lists is determined by the lists and the bits.
use Rattle.std.proofs.Common.{◌≡◌, ℕ, suc, ◌<◌, ◌≤◌, Bool, true, false, not, cond, eqb, List, [], ◌∷◌, length, take, reverse, map, refl, ap, ◌∙◌, sym, subst, arith}
use Rattle.std.specs.Prelude.{MatchBool, is_some, count_by}
use Rattle.std.specs.List.{flat_map}
use Rattle.std.proofs.lemmas.Bool.{both_ways}
use Rattle.std.proofs.lemmas.List.{length-reverse}
use Rattle.std.proofs.lemmas.List.Elements.{All-head, All-tail}
use Rattle.map_types.specs.declared.attr.Shape.{Shape}
use Rattle.map_types.specs.declared.kind.DomainId.{DomainId}
use Rattle.map_types.specs.declared.row.Row.{Row}
use Rattle.map_types.specs.ElementLists.{times, IsHead}
use Rattle.map_types.specs.Listed.{elements_of}
use Rattle.place_words.specs.declared.list_part.LocalPart.TheVariants as local
use Rattle.place_words.specs.declared.list_part.Stolen.{Stolen}
use Rattle.place_words.specs.declared.list_part.Stolen.TheVariants.{Free, Pending, Nothing}
use Rattle.place_words.specs.declared.visits.Look.{Look}
use Rattle.place_words.specs.declared.visits.Try.{Try}
use Rattle.place_words.specs.declared.visits.Visit.{Visit}
use Rattle.place_words.specs.Choices.{forced_over, forced_after, sparing_over, stolen_of, steal_of}
use Rattle.place_words.specs.Histories.{Content, look_visit}
use Rattle.place_words.specs.Locals.{LocalLists, AreUnsparing, IsSearch, AllowsSteal}
use Rattle.place_words.specs.Rotation.{visits_of}
use Rattle.place_words.specs.RowMoves.{rows_of}
use Rattle.place_words.specs.Shrinking.{IsFirstEnd, look_removed, freed}
use Rattle.place_words.specs.Takings.{look_probes, walk_probes, Chase}
use Rattle.place_words.specs.Turns.{Turn, AreAllowed}
use Rattle.place_words.proofs.ChaseDone.{names_of, AreRemoved}
use Rattle.place_words.proofs.LookLaws.{spared, removed, tries_end}
use Rattle.place_words.proofs.RowCounts.{any}
use Rattle.place_words.proofs.StealChoices.{sparing_ends, sparing_more, not_yet}
use Rattle.serial_laws.proofs.BitsRead.{ReadBits, visits_read}
use Rattle.serial_laws.proofs.LooksTold.{heads, tails, not_nil, AreProbed, NoneHeld, is_spared, is_off, tries_computed}
use Rattle.serial_laws.proofs.ProbesRemoved.{CanOnlyRemove, walk_removed}
use Rattle.serial_laws.proofs.WalksTold.{visited_looks, looks_named, taken_few, which_tried}

-- The walk that spares set bits

spared_later : (row : Row) (n : ℕ) (looks : List Look) → IsFirstEnd (sparing_ends (suc n)) (spared row ∷ looks) → IsFirstEnd (sparing_ends n) looks
spared_later row n looks first = record {
  here = sym (sparing_more row n looks) ∙ first.here;
  not_before = λ k below. sym (sparing_more row n (take k looks)) ∙ first.not_before (suc k) (omega (arith, below));
}

-- it ends with the first that is removed
removed_last : (row : Row) (n : ℕ) (looks : List Look) → IsFirstEnd (sparing_ends (suc n)) (removed row ∷ looks) → looks ≡ []
removed_last row n [] first = refl
removed_last row n (look ∷ looks) first = absurd (both_ways (sparing_ends (suc n) (removed row ∷ [])) (first.not_before 1 (omega arith)) refl)

pub sparing_computed : (bits : ℕ → Bool) (rows : List Row) (looks : List Look) → map look_visit looks ≡ visits_of bits (take (length looks) rows) → AreProbed looks → NoneHeld looks → IsFirstEnd (sparing_ends (length rows)) looks → looks ≡ sparing_over bits rows
sparing_computed bits [] [] named probed are first = refl
sparing_computed bits [] (look ∷ looks) named probed are first = absurd (not_nil named)
sparing_computed bits (row ∷ rows) [] named probed are first = absurd (both_ways (sparing_ends (suc (length rows)) []) (not_yet (length rows)) first.here)
sparing_computed bits (row ∷ rows) (look ∷ looks) named probed are first =
    by (λ later. sparing_computed bits rows looks (tails _ _ _ _ named) (All-tail (λ (l : Look). is_some l.probed ≡ not l.bit) look looks probed) are.1 later) (bits row.element) refl
  where
    visit_is : look_visit look ≡ record { element = row.element; bit = bits row.element }
    visit_is = heads _ _ _ _ named

    probed_is : is_some look.probed ≡ not look.bit
    probed_is = All-head (λ (l : Look). is_some l.probed ≡ not l.bit) look looks probed

    by : (IsFirstEnd (sparing_ends (length rows)) looks → looks ≡ sparing_over bits rows) → (b : Bool) → bits row.element ≡ b → look ∷ looks ≡ cond b (spared row ∷ sparing_over bits rows) (removed row ∷ [])
    by rest true is =
        let bit_is : look.bit ≡ true = ap (λ (v : Visit). v.bit) visit_is ∙ is in
        let look_is : look ≡ spared row = is_spared look row look.probed refl (probed_is ∙ ap not bit_is) (ap (λ (v : Visit). v.element) visit_is) bit_is in
        let later = rest (spared_later row (length rows) looks (subst (λ (l : Look). IsFirstEnd (sparing_ends (suc (length rows))) (l ∷ looks)) look_is first)) in
        (λ i. look_is i ∷ later i)
    by rest false is =
        let bit_is : look.bit ≡ false = ap (λ (v : Visit). v.bit) visit_is ∙ is in
        let look_is : look ≡ removed row = is_off look row look.probed refl (probed_is ∙ ap not bit_is) are.0 (ap (λ (v : Visit). v.element) visit_is) bit_is in
        let none = removed_last row (length rows) looks (subst (λ (l : Look). IsFirstEnd (sparing_ends (suc (length rows))) (l ∷ looks)) look_is first) in
        (λ i. look_is i ∷ none i)

-- A theft that is allowed there, after the turns of its probes, and tells the bits that it reads.
module _ (shape : Shape) (cpu : ℕ) (contents : DomainId → Content) (bits : ℕ → Bool) (lists : LocalLists) (first : List Look) (second : List Try)
    (once : (e : ℕ) → rows_of e any lists.pending ≤ 1) (real : (e : ℕ) → 1 ≤ rows_of e any lists.pending → e < shape.elements)
    (can : (probes : List Try) → ((e : ℕ) → times e (names_of probes) ≤ rows_of e any lists.pending) → CanOnlyRemove shape lists.pending contents probes)
    (read : ReadBits shape.elements bits (map look_visit first)) (turns : List Turn) (chase : Chase shape lists.pending (walk_probes first second) turns) (allowed : AreAllowed shape cpu contents turns) where
  module _ (search : IsSearch lists first second) where
    looks_few : (e : ℕ) → times e (names_of (flat_map look_probes first)) ≤ rows_of e any lists.pending
    looks_few e =
        let same : times e (map (λ (look : Look). look.element) first) ≡ times e (elements_of (take (length first) (reverse lists.pending))) = ap (times e) search.sparing.from_tail in
        omega (arith, looks_named first e, same, taken_few (length first) lists.pending e)

    tries_few : (e : ℕ) → times e (names_of second) ≤ rows_of e any lists.pending
    tries_few e = by (eqb (count_by look_removed first) 0) search.unsparing
      where
        by : (none : Bool) → MatchBool none (AreUnsparing lists.pending second) (second ≡ []) → times e (names_of second) ≤ rows_of e any lists.pending
        by true tries =
            let same : times e (names_of second) ≡ times e (elements_of (take (length second) (reverse lists.pending))) = ap (times e) tries.from_tail in
            omega (arith, same, taken_few (length second) lists.pending e)
        by false none = let same : times e (names_of second) ≡ 0 = ap (λ (l : List Try). times e (names_of l)) none in omega (arith, same)

    gone : NoneHeld first × AreRemoved second
    gone =
        walk_removed shape cpu lists.pending once contents first second turns (can (flat_map look_probes first) looks_few) (can second tries_few)
        (which_tried first second _ (eqb (count_by look_removed first) 0) refl search.unsparing) chase allowed

    first_is : first ≡ sparing_over bits (reverse lists.pending)
    first_is =
        sparing_computed bits (reverse lists.pending) first
        (visits_read shape.elements bits (take (length first) (reverse lists.pending)) (map look_visit first) (λ e some. real e (omega (arith, some, taken_few (length first) lists.pending e))) (visited_looks first ∙ search.sparing.from_tail) read)
        search.sparing.probed gone.0
        (subst (λ n. IsFirstEnd (sparing_ends n) first) (sym (length-reverse lists.pending)) search.sparing.until)

    second_is : second ≡ forced_after first (reverse lists.pending)
    second_is = by (eqb (count_by look_removed first) 0) search.unsparing
      where
        by : (none : Bool) → MatchBool none (AreUnsparing lists.pending second) (second ≡ []) → second ≡ cond none (forced_over (reverse lists.pending)) []
        by true tries = tries_computed (reverse lists.pending) second tries.from_tail gone.1 (subst (λ n. IsFirstEnd (tries_end n) second) (sym (length-reverse lists.pending)) tries.until)
        by false none = none

    searched : (stolen : Stolen) → stolen ≡ stolen_of (freed first second) → local.Steal stolen first second ≡ steal_of bits lists.free lists.pending
    searched stolen is =
        let second_then : second ≡ forced_after (sparing_over bits (reverse lists.pending)) (reverse lists.pending) = second_is ∙ ap (λ (l : List Look). forced_after l (reverse lists.pending)) first_is in
        (λ i. local.Steal (is i) first second) ∙ (λ i. local.Steal (stolen_of (freed (first_is i) (second_then i))) (first_is i) (second_then i))
        ∙ ap (λ (free : List ℕ). steal_of bits free lists.pending) (sym search.none_free)

  head_is : (e : ℕ) (free : List ℕ) → IsHead e free → local.Steal (Free e) [] [] ≡ steal_of bits free lists.pending
  head_is e [] is = absurd is
  head_is e (x ∷ free) is = ap (λ (y : ℕ). local.Steal (Free y) [] []) (sym is)

  pub steal_is : (stolen : Stolen) → AllowsSteal stolen first second lists → local.Steal stolen first second ≡ steal_of bits lists.free lists.pending
  steal_is (Free e) may = (λ i. local.Steal (Free e) (may.1 i) (may.2 i)) ∙ head_is e lists.free may.0
  steal_is (Pending e) may = searched may.0 (Pending e) (ap stolen_of (sym may.1))
  steal_is Nothing may = searched may.0 Nothing (ap stolen_of (sym may.1))
