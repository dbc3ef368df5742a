-- The looks and tries of a shrink are those of a run in serial order where each probe removes its element and each look tells the
-- bit of its moment.
use Rattle.std.proofs.Common.{◌≡◌, ℕ, zero, suc, ◌==◌, ◌||◌, Bool, true, false, not, cond, List, [], ◌∷◌, ◌++◌, length, take, map, get_or, drop, refl, ap, ◌∙◌, sym, subst, arith}
use Rattle.std.specs.Prelude.{Option, None, Some, All, is_some}
use Rattle.std.specs.List.{flat_map}
use Rattle.std.proofs.lemmas.Bool.{both_ways}
use Rattle.std.proofs.lemmas.List.Elements.{All-head, All-tail}
use Rattle.map_types.specs.declared.row.Row.{Row}
use Rattle.map_types.specs.Listed.{elements_of}
use Rattle.place_words.specs.declared.bucket_part.Seen.{Seen}
use Rattle.place_words.specs.declared.bucket_part.Seen.TheVariants.{Removed, Held}
use Rattle.place_words.specs.declared.visits.Look.{Look}
use Rattle.place_words.specs.declared.visits.Try.{Try}
use Rattle.place_words.specs.declared.visits.Visit.{Visit}
use Rattle.place_words.specs.Choices.{looks_over, forced_over}
use Rattle.place_words.specs.Histories.{look_visit}
use Rattle.place_words.specs.Rotation.{visits_of}
use Rattle.place_words.specs.Shrinking.{IsFirstEnd, is_removed}
use Rattle.place_words.specs.Takings.{look_probes}
use Rattle.place_words.proofs.ChaseDone.{AreRemoved}
use Rattle.place_words.proofs.LookLaws.{spared, removed, ends_at, tries_end, shift_set, shift_not, none_ends, or_mid}

-- A list that starts as another

pub not_nil : {A : Type 0} {x : A} {xs : List A} → x ∷ xs ≡ [] → ⊥
not_nil same = grind (arith, same)

pub heads : {A : Type 0} (x y : A) (xs ys : List A) → x ∷ xs ≡ y ∷ ys → x ≡ y
heads x y xs ys same = ap (λ (l : List _). get_or l 0 x) same

pub tails : {A : Type 0} (x y : A) (xs ys : List A) → x ∷ xs ≡ y ∷ ys → xs ≡ ys
tails x y xs ys same = ap (drop 1) same

-- Looks whose probes removed

abbrev pub AreProbed : List Look → Type 0
AreProbed looks = All (λ (look : Look). is_some look.probed ≡ not look.bit) looks

abbrev pub NoneHeld : List Look → Type 0
NoneHeld [] = Unit {0}
NoneHeld (look ∷ looks) = AreRemoved (look_probes look) × NoneHeld looks

pub removed_parts : (xs ys : List Try) → AreRemoved (xs ++ ys) → AreRemoved xs × AreRemoved ys
removed_parts [] ys are = (tt, are)
removed_parts (x ∷ xs) ys are = let rest = removed_parts xs ys are.1 in ((are.0, rest.0), rest.1)

pub none_held : (looks : List Look) → AreRemoved (flat_map look_probes looks) → NoneHeld looks
none_held [] are = tt
none_held (look ∷ looks) are = let both = removed_parts (look_probes look) (flat_map look_probes looks) are in (both.0, none_held looks both.1)

-- One look

pub is_spared : (look : Look) (row : Row) (probed : Option Seen) → look.probed ≡ probed → is_some probed ≡ false → look.element ≡ row.element → look.bit ≡ true → look ≡ spared row
is_spared look row None is none named bit = (λ i. record { element = named i; bit = bit i; probed = is i })
is_spared look row (Some seen) is none named bit = absurd (both_ways true none refl)

pub is_off : (look : Look) (row : Row) (probed : Option Seen) → look.probed ≡ probed → is_some probed ≡ true → AreRemoved (look_probes (record look { probed = probed })) → look.element ≡ row.element → look.bit ≡ false → look ≡ removed row
is_off look row None is some are named bit = absurd (both_ways false refl some)
is_off look row (Some Removed) is some are named bit = (λ i. record { element = named i; bit = bit i; probed = is i })
is_off look row (Some (Held holder)) is some are named bit = absurd (both_ways false refl are.0)

-- Where the walk ends

first_set : (row : Row) (scans target rows : ℕ) (looks : List Look) → IsFirstEnd (ends_at (suc scans) (suc target) (suc rows)) (spared row ∷ looks) → IsFirstEnd (ends_at scans (suc target) rows) looks
first_set row scans target rows looks first = record {
  here = sym (shift_set row scans target rows looks) ∙ first.here;
  not_before = λ k below. sym (shift_set row scans target rows (take k looks)) ∙ first.not_before (suc k) (omega (arith, below));
}

first_off : (row : Row) (scans target rows : ℕ) (looks : List Look) → IsFirstEnd (ends_at (suc scans) (suc target) (suc rows)) (removed row ∷ looks) → IsFirstEnd (ends_at scans target rows) looks
first_off row scans target rows looks first = record {
  here = sym (shift_not row scans target rows looks) ∙ first.here;
  not_before = λ k below. sym (shift_not row scans target rows (take k looks)) ∙ first.not_before (suc k) (omega (arith, below));
}

none_looked : (look : Look) (looks : List Look) (ends : List Look → Bool) → ends [] ≡ true → IsFirstEnd ends (look ∷ looks) → look ∷ looks ≡ []
none_looked look looks ends at_once first = absurd (both_ways (ends []) (first.not_before 0 (omega arith)) at_once)

some_looked : (scans target rows : ℕ) → ends_at (suc scans) (suc target) (suc rows) [] ≡ true → ⊥
some_looked scans target rows is = both_ways (ends_at (suc scans) (suc target) (suc rows) []) (none_ends scans target rows) is

pub looks_computed : (bits : ℕ → Bool) (scans target : ℕ) (rows : List Row) (looks : List Look) → map look_visit looks ≡ visits_of bits (take (length looks) rows) → AreProbed looks → NoneHeld looks
    → IsFirstEnd (ends_at scans target (length rows)) looks → looks ≡ looks_over bits scans target rows
looks_computed bits scans target [] [] named probed are first = refl
looks_computed bits scans target [] (look ∷ looks) named probed are first = absurd (not_nil named)
looks_computed bits zero target (row ∷ rows) [] named probed are first = refl
looks_computed bits zero target (row ∷ rows) (look ∷ looks) named probed are first = none_looked look looks (ends_at zero target (suc (length rows))) refl first
looks_computed bits (suc scans) zero (row ∷ rows) [] named probed are first = refl
looks_computed bits (suc scans) zero (row ∷ rows) (look ∷ looks) named probed are first = none_looked look looks (ends_at (suc scans) zero (suc (length rows))) (or_mid (0 == suc scans) (0 == suc (length rows))) first
looks_computed bits (suc scans) (suc target) (row ∷ rows) [] named probed are first = absurd (some_looked scans target (length rows) first.here)
looks_computed bits (suc scans) (suc target) (row ∷ rows) (look ∷ looks) named probed are first =
    by (λ first_later. looks_computed bits scans (suc target) rows looks (tails _ _ _ _ named) rest_probed are.1 first_later) (λ first_later. looks_computed bits scans target rows looks (tails _ _ _ _ named) rest_probed are.1 first_later)
    (bits row.element) refl
  where
    visit_is : look_visit look ≡ record { element = row.element; bit = bits row.element }
    visit_is = heads _ _ _ _ named

    element_is : look.element ≡ row.element
    element_is = ap (λ (v : Visit). v.element) visit_is

    bit_is : look.bit ≡ bits row.element
    bit_is = ap (λ (v : Visit). v.bit) visit_is

    probed_is : is_some look.probed ≡ not look.bit
    probed_is = All-head (λ (l : Look). is_some l.probed ≡ not l.bit) look looks probed

    rest_probed : AreProbed looks
    rest_probed = All-tail (λ (l : Look). is_some l.probed ≡ not l.bit) look looks probed

    by : (IsFirstEnd (ends_at scans (suc target) (length rows)) looks → looks ≡ looks_over bits scans (suc target) rows) → (IsFirstEnd (ends_at scans target (length rows)) looks → looks ≡ looks_over bits scans target rows)
        → (b : Bool) → bits row.element ≡ b → look ∷ looks ≡ cond b (spared row ∷ looks_over bits scans (suc target) rows) (removed row ∷ looks_over bits scans target rows)
    by if_set if_not true is =
        let look_is : look ≡ spared row = is_spared look row look.probed refl (probed_is ∙ ap not (bit_is ∙ is)) element_is (bit_is ∙ is) in
        let rest : looks ≡ looks_over bits scans (suc target) rows = if_set
        (first_set row scans target (length rows) looks (subst (λ (l : Look). IsFirstEnd (ends_at (suc scans) (suc target) (suc (length rows))) (l ∷ looks)) look_is first)) in
        (λ i. look_is i ∷ rest i)
    by if_set if_not false is =
        let look_is : look ≡ removed row = is_off look row look.probed refl (probed_is ∙ ap not (bit_is ∙ is)) are.0 element_is (bit_is ∙ is) in
        let rest : looks ≡ looks_over bits scans target rows = if_not
        (first_off row scans target (length rows) looks (subst (λ (l : Look). IsFirstEnd (ends_at (suc scans) (suc target) (suc (length rows))) (l ∷ looks)) look_is first)) in
        (λ i. look_is i ∷ rest i)

-- Tries

is_try : (try : Try) (row : Row) (probed : Seen) → try.probed ≡ probed → is_removed probed ≡ true → try.element ≡ row.element → try ≡ record { element = row.element; probed = Removed }
is_try try row Removed is removed named = (λ i. record { element = named i; probed = is i })
is_try try row (Held holder) is removed named = absurd (both_ways false refl removed)

none_tried : (n : ℕ) → tries_end (suc n) [] ≡ false
none_tried n = grind (arith)

first_holds : (a b : Bool) → a ≡ true → (a || b) ≡ true
first_holds true b is = refl
first_holds false b is = absurd (both_ways false refl is)

pub tries_computed : (rows : List Row) (tries : List Try) → map (λ (try : Try). try.element) tries ≡ elements_of (take (length tries) rows) → AreRemoved tries → IsFirstEnd (tries_end (length rows)) tries → tries ≡ forced_over rows
tries_computed [] [] named are first = refl
tries_computed [] (try ∷ tries) named are first = absurd (not_nil named)
tries_computed (row ∷ rows) [] named are first = absurd (both_ways (tries_end (suc (length rows)) []) (none_tried (length rows)) first.here)
tries_computed (row ∷ rows) (try ∷ []) named are first = ap (λ (t : Try). t ∷ []) (is_try try row try.probed refl are.0 (heads _ _ _ _ named))
tries_computed (row ∷ rows) (try ∷ other ∷ tries) named are first =
    absurd (both_ways (tries_end (suc (length rows)) (try ∷ [])) (first.not_before 1 (omega arith)) (first_holds (is_removed try.probed) (1 == suc (length rows)) are.0))
