-- What a turn of lists visits, looks at and tries is of the map where what it walks over is real: rotations, shrinks and thefts.
use Rattle.std.proofs.Common.{◌≡◌, ℕ, ◌<◌, ◌≤◌, Bool, true, false, cond, ltb, eqb, List, [], ◌∷◌, ◌++◌, length, map, take, reverse, ap, sym, subst, arith}
use Rattle.std.specs.Prelude.{Option, None, Some, All, MatchBool, unwrap_or, option_map, count_by}
use Rattle.std.specs.List.{flat_map}
use Rattle.std.proofs.lemmas.List.{length-map}
use Rattle.std.proofs.lemmas.List.Elements.{All-nil, All-cons, All-head, All-tail, All-append}
use Rattle.map_types.specs.declared.attr.Shape.{Shape}
use Rattle.map_types.specs.declared.row.Row.{Row}
use Rattle.map_types.specs.ElementLists.{one, times}
use Rattle.map_types.specs.Listed.{Listed, elements_of}
use Rattle.map_types.specs.Shape.{HasBounds}
use Rattle.place_words.specs.declared.bucket_part.Seen.{Seen}
use Rattle.place_words.specs.declared.history.Part.{Part}
use Rattle.place_words.specs.declared.list_part.Stolen.{Stolen}
use Rattle.place_words.specs.declared.list_part.Stolen.TheVariants.{Free, Pending, Nothing}
use Rattle.place_words.specs.declared.visits.Look.{Look}
use Rattle.place_words.specs.declared.visits.Try.{Try}
use Rattle.place_words.specs.declared.visits.Visit.{Visit}
use Rattle.place_words.specs.Locals.{LocalLists, AllowsSteal, AreUnsparing, IsSearch}
use Rattle.place_words.specs.Rotation.{AreRotationVisits, active_rotated, active_visited, inactive_visited, rotated, visited_elements}
use Rattle.place_words.specs.Shrinking.{AreTries, IsShrink, after_looks, forced_rows, look_removed}
use Rattle.place_words.specs.Takings.{look_probes, probes_of, walk_probes}
use Rattle.place_words.proofs.Loses.{in_set, active_loses}
use Rattle.place_words.proofs.RotationCounts.{visited_few, rotated_less}
use Rattle.place_words.proofs.RowCounts.{any, rows_any, rows_cut, rows_reverse}
use Rattle.place_words.proofs.ShrinkProbes.{forced_there}
use Rattle.record_shape.specs.Fits.{AllFit}
use Rattle.record_shape.specs.ShapedParts.{CountedFit, IsElement, IsU64, LookFits, ProbedFits, SeenFits, TryFits}
use Rattle.record_shape.proofs.RealLemmas.{AreOnceBelow, all_below, once_short}

-- ---- what the turns of buckets say of probes: an element that is held is in the hand of a CPU of the map

abbrev pub ProbeFits : Shape → Try → Type 0
ProbeFits shape probe = SeenFits shape probe.probed

abbrev pub ProbesFit : Shape → Part → Type 0
ProbesFit shape part = All (ProbeFits shape) (probes_of part)

-- the element of a probe is one of the map
abbrev pub ProbeNames : Shape → Try → Type 0
ProbeNames shape probe = IsElement shape probe.element

-- ---- lists of which each fits

pub all_fit : {X : Type 0} (P : X → Type 0) (xs : List X) → All P xs → AllFit P xs
all_fit P [] all = tt
all_fit P (x ∷ xs) all = (All-head P x xs all, all_fit P xs (All-tail P x xs all))

pub fit_all : {X : Type 0} (P : X → Type 0) (xs : List X) → AllFit P xs → All P xs
fit_all P [] fit = All-nil P
fit_all P (x ∷ xs) fit = All-cons P x xs fit.0 (fit_all P xs fit.1)

all_apart : {X : Type 0} (P : X → Type 0) (xs ys : List X) → All P (xs ++ ys) → All P xs × All P ys
all_apart P [] ys all = (All-nil P, all)
all_apart P (x ∷ xs) ys all =
    let rest = all_apart P xs ys (All-tail P x (xs ++ ys) all) in
    (All-cons P x xs (All-head P x (xs ++ ys) all) rest.0, rest.1)

pub fit_both : {X : Type 0} (P Q : X → Type 0) (xs : List X) → AllFit P xs → All Q xs → AllFit (λ x. P x × Q x) xs
fit_both P Q [] fit all = tt
fit_both P Q (x ∷ xs) fit all = ((fit.0, All-head Q x xs all), fit_both P Q xs fit.1 (All-tail Q x xs all))

-- what each is named is below a bound
named_below : {X : Type 0} (name : X → ℕ) (bound : ℕ) (xs : List X) → AllFit (λ e. e < bound) (map name xs) → AllFit (λ x. name x < bound) xs
named_below name bound [] below = tt
named_below name bound (x ∷ xs) below = (below.0, named_below name bound xs below.1)

-- ---- lists that name each element of the map once at most

abbrev pub look_names : List Look → List ℕ
look_names looks = map (λ (look : Look). look.element) looks

abbrev pub try_names : List Try → List ℕ
try_names tries = map (λ (try : Try). try.element) tries

-- what is named by an empty list
pub none_once : {X : Type 0} (name : X → ℕ) (bound : ℕ) (xs : List X) → xs ≡ [] → AreOnceBelow bound (map name xs)
none_once name bound xs none = subst (λ (l : List _). AreOnceBelow bound (map name l)) (sym none) (λ e. omega arith)

module _ (shape : Shape) where
  pub named_fit : {X : Type 0} (name : X → ℕ) (xs : List X) → AreOnceBelow shape.elements (map name xs) → AllFit (λ x. name x < shape.elements) xs
  named_fit name xs once = named_below name shape.elements xs (all_below shape.elements (map name xs) once)

module _ (shape : Shape) (bounds : HasBounds shape) where
  pub few_u64 : (n : ℕ) → n ≤ shape.elements → IsU64 n
  few_u64 n few = omega (arith, few, bounds.elements_bounded)

  named_u64 : {X : Type 0} (name : X → ℕ) (xs : List X) → AreOnceBelow shape.elements (map name xs) → IsU64 (length xs)
  named_u64 name xs once =
      let short = once_short shape.elements (map name xs) once in
      let long = length-map xs name in
      few_u64 (length xs) (omega (arith, short, long))

  pub counted_fit : {X : Type 0} (name : X → ℕ) (xs : List X) → AreOnceBelow shape.elements (map name xs) → CountedFit (λ x. name x < shape.elements) xs
  counted_fit name xs once = (named_u64 name xs once, named_fit shape name xs once)

  pub elements_counted : (xs : List ℕ) → AreOnceBelow shape.elements xs → CountedFit (IsElement shape) xs
  elements_counted xs once = (few_u64 (length xs) (once_short shape.elements xs once), all_below shape.elements xs once)

-- ---- walks: what they look at and what they try

abbrev pub WalksOnce : ℕ → List Look → List Try → Type 0
WalksOnce bound looks tries = AreOnceBelow bound (look_names looks) × AreOnceBelow bound (try_names tries)

probed_fits : (shape : Shape) (e : ℕ) (probed : Option Seen)
    → All (ProbeFits shape) (unwrap_or (option_map (λ seen. (record { element = e; probed = seen }) ∷ []) probed) []) → ProbedFits shape probed
probed_fits shape e None fits = tt
probed_fits shape e (Some seen) fits = All-head (ProbeFits shape) (record { element = e; probed = seen }) [] fits

looks_fit : (shape : Shape) (looks : List Look) → AllFit (λ (look : Look). IsElement shape look.element) looks → All (ProbeFits shape) (flat_map look_probes looks) → AllFit (LookFits shape) looks
looks_fit shape [] names probes = tt
looks_fit shape (look ∷ looks) names probes =
    let apart = all_apart (ProbeFits shape) (look_probes look) (flat_map look_probes looks) probes in
    ((names.0, probed_fits shape look.element look.probed apart.0), looks_fit shape looks names.1 apart.1)

pub walk_fits : (shape : Shape) → HasBounds shape → (looks : List Look) (tries : List Try) → WalksOnce shape.elements looks tries → All (ProbeFits shape) (walk_probes looks tries)
    → CountedFit (LookFits shape) looks × CountedFit (TryFits shape) tries
walk_fits shape bounds looks tries once probes =
    let apart = all_apart (ProbeFits shape) (flat_map look_probes looks) tries probes in
    let looked = counted_fit shape bounds (λ (look : Look). look.element) looks once.0 in
    let tried = counted_fit shape bounds (λ (try : Try). try.element) tries once.1 in
    ((looked.0, looks_fit shape looks looked.1 apart.0), (tried.0, fit_both (ProbeNames shape) (ProbeFits shape) tries tried.1 apart.1))

-- the probes of walks are of elements of the map
probed_names : (shape : Shape) (e : ℕ) (probed : Option Seen) → IsElement shape e
    → All (ProbeNames shape) (unwrap_or (option_map (λ seen. (record { element = e; probed = seen }) ∷ []) probed) [])
probed_names shape e None below = All-nil (ProbeNames shape)
probed_names shape e (Some seen) below = All-cons (ProbeNames shape) (record { element = e; probed = seen }) [] below (All-nil (ProbeNames shape))

looks_name : (shape : Shape) (looks : List Look) → AllFit (λ (look : Look). IsElement shape look.element) looks → All (ProbeNames shape) (flat_map look_probes looks)
looks_name shape [] names = All-nil (ProbeNames shape)
looks_name shape (look ∷ looks) names =
    All-append (ProbeNames shape) (look_probes look) (flat_map look_probes looks) (probed_names shape look.element look.probed names.0) (looks_name shape looks names.1)

pub walk_names : (shape : Shape) (looks : List Look) (tries : List Try) → WalksOnce shape.elements looks tries → All (ProbeNames shape) (walk_probes looks tries)
walk_names shape looks tries once =
    All-append (ProbeNames shape) (flat_map look_probes looks) tries
    (looks_name shape looks (named_fit shape (λ (look : Look). look.element) looks once.0))
    (fit_all (ProbeNames shape) tries (named_fit shape (λ (try : Try). try.element) tries once.1))

-- ---- what a walk from the tail comes by was there

tail_less : (n e : ℕ) (rows : List Row) → times e (elements_of (take n (reverse rows))) ≤ times e (elements_of rows)
tail_less n e rows =
    omega (arith, rows_any e (take n (reverse rows)), rows_cut e any n (reverse rows), rows_reverse e any rows, rows_any e rows)

from_tail : (bound n : ℕ) (names : List ℕ) (rows : List Row) → names ≡ elements_of (take n (reverse rows)) → AreOnceBelow bound (elements_of rows) → AreOnceBelow bound names
from_tail bound n names rows are once e = let same = ap (times e) are in omega (arith, same, tail_less n e rows, once e)

-- ---- thefts

module _ (bound : ℕ) (lists : LocalLists) (once : AreOnceBelow bound (elements_of lists.pending)) where
  search_once : (first : List Look) (second : List Try) → IsSearch lists first second → WalksOnce bound first second
  search_once first second search =
      (from_tail bound (length first) (look_names first) lists.pending search.sparing.from_tail once, by (eqb (count_by look_removed first) 0) search.unsparing)
    where
      by : (b : Bool) → MatchBool b (AreUnsparing lists.pending second) (second ≡ []) → AreOnceBelow bound (try_names second)
      by true are = from_tail bound (length second) (try_names second) lists.pending are.from_tail once
      by false none = none_once (λ (try : Try). try.element) bound second none

  pub steal_once : (got : Stolen) (first : List Look) (second : List Try) → AllowsSteal got first second lists → WalksOnce bound first second
  steal_once (Free e) first second allowed =
      (none_once (λ (look : Look). look.element) bound first allowed.1, none_once (λ (try : Try). try.element) bound second allowed.2)
  steal_once (Pending e) first second allowed = search_once first second allowed.0
  steal_once Nothing first second allowed = search_once first second allowed.0

-- ---- rotations and shrinks

-- each row is of an element of the map, and each element has one row at most
abbrev pub ListsOnce : ℕ → Listed → Type 0
ListsOnce bound lists = (e : ℕ) → in_set e any lists ≤ one (ltb e bound)

active_less : (scans e : ℕ) (lists : Listed) → times e (elements_of (active_visited scans lists)) ≤ in_set e any lists
unfolding active_visited
active_less scans e lists = by _
  where
    by : (b : Bool) → times e (elements_of (cond b (take scans (reverse lists.active)) [])) ≤ in_set e any lists
    by true = omega (arith, tail_less scans e lists.active, rows_any e lists.active)
    by false = omega arith

module _ (bound scans : ℕ) (lists : Listed) (active inactive : List Visit) (once : ListsOnce bound lists) where
  pub rotation_once : AreRotationVisits scans lists active inactive → AreOnceBelow bound (visited_elements active) × AreOnceBelow bound (visited_elements inactive)
  rotation_once visits = (
    λ e. let same = ap (times e) visits.of_active in omega (arith, same, active_less scans e lists, once e),
    λ e.
        let then : Listed = active_rotated scans lists active in
        let same = ap (times e) visits.of_inactive in
        omega (arith, same, rows_any e (inactive_visited scans then), visited_few scans then inactive e, active_loses scans lists active e any, once e),
  )

  pub rotated_once : ListsOnce bound (rotated scans lists active inactive)
  rotated_once e = omega (arith, rotated_less scans lists active inactive e, once e)

pub shrink_once : (bound scans target : ℕ) (lists : Listed) (looks : List Look) (forced : List Try) → ListsOnce bound lists → IsShrink scans target lists looks forced → WalksOnce bound looks forced
shrink_once bound scans target lists looks forced once shrink = (
  from_tail bound (length looks) (look_names looks) lists.inactive shrink.looked.from_tail (λ e. omega (arith, once e, rows_any e lists.inactive)),
  by (eqb (count_by look_removed looks) 0) shrink.tried,
)
  where
    by : (b : Bool) → MatchBool b (AreTries (after_looks lists looks) forced) (forced ≡ []) → AreOnceBelow bound (try_names forced)
    by true are =
        from_tail bound (length forced) (try_names forced) (forced_rows (after_looks lists looks)) are.from_tail (λ e. omega (arith, forced_there lists looks e, once e))
    by false none = none_once (λ (try : Try). try.element) bound forced none
