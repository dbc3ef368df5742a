-- The parts of turns of lists fit.
use Rattle.std.proofs.Common.{◌≡◌, ◌⊎◌, ℕ, suc, ◌+◌, ◌<◌, ◌≤◌, true, false, cond, ltb, List, [], ◌∷◌, ◌++◌, length, take, drop, reverse, refl, ap, ◌∙◌, sym, subst, arith, inl, inr}
use Rattle.std.specs.Prelude.{Option, None, Some, All, IsTrue, slice_get}
use Rattle.std.proofs.lemmas.Bool.{cases_lt, lt-ltb}
use Rattle.std.proofs.lemmas.List.{length-map, reverse-append, take-append-drop}
use Rattle.std.proofs.lemmas.List.Elements.{All-nil}
use Rattle.map_types.specs.declared.attr.Shape.{Shape}
use Rattle.map_types.specs.declared.row.Row.{Row}
use Rattle.map_types.specs.ElementLists.{IsHead, IsIn, one, times}
use Rattle.map_types.specs.Listed.{elements_of}
use Rattle.map_types.specs.Shape.{HasBounds}
use Rattle.map_types.specs.Stored.{Stored}
use Rattle.map_types.proofs.RowLemmas.{by_test, times_append, times_rows-append}
use Rattle.place_words.specs.declared.bucket_part.Walked.TheVariants.{Over}
use Rattle.place_words.specs.declared.history.Part.{Part}
use Rattle.place_words.specs.declared.history.Part.TheVariants as parts
use Rattle.place_words.specs.declared.list_part.GlobalPart.{GlobalPart}
use Rattle.place_words.specs.declared.list_part.GlobalPart.TheVariants as global
use Rattle.place_words.specs.declared.list_part.LocalPart.{LocalPart}
use Rattle.place_words.specs.declared.list_part.LocalPart.TheVariants as local
use Rattle.place_words.specs.declared.list_part.OwnPart.{OwnPart}
use Rattle.place_words.specs.declared.list_part.OwnPart.TheVariants as own
use Rattle.place_words.specs.declared.list_part.Stolen.{Stolen}
use Rattle.place_words.specs.declared.list_part.Stolen.TheVariants.{Free, Pending, Nothing}
use Rattle.place_words.specs.declared.visits.Flush.{Flush}
use Rattle.place_words.specs.declared.visits.Look.{Look}
use Rattle.place_words.specs.declared.visits.ShrinkNote.{ShrinkNote}
use Rattle.place_words.specs.declared.visits.Try.{Try}
use Rattle.place_words.specs.declared.visits.Visit.{Visit}
use Rattle.place_words.specs.Buckets.{AllowsWalk}
use Rattle.place_words.specs.Globals.{AllowsGlobalShrink, AllowsOnGlobal, AreFlushed, flushed_elements, flushed_rotated, flushed_rows, global_after, global_scans, global_target, with_flushed}
use Rattle.place_words.specs.Histories.{Allows, Content, in_bucket, in_global, in_locals, in_own, on_freelist}
use Rattle.place_words.specs.Locals.{AllowsOnLocal, AllowsSteal, LocalLists, last_of, local_after}
use Rattle.place_words.specs.Rotation.{rotated, visited_elements}
use Rattle.place_words.specs.Sets.{AllowsOnOwn, AllowsOwnShrink, ListSet, has_row, is_listed, own_after, own_scans, own_target, rotated_set, row_with, shrunk_into_free}
use Rattle.place_words.specs.Takings.{global_probes, local_probes, own_probes, probes_of, shrink_probes}
use Rattle.place_words.proofs.BucketLaws.{times_more}
use Rattle.place_words.proofs.ChaseDone.{times_one}
use Rattle.place_words.proofs.KeepLaws.{flush_named, flushed_in, has_one, in_elements, listed_none, listed_one, stolen_there, times_turned}
use Rattle.place_words.proofs.Loses.{in_set}
use Rattle.place_words.proofs.RowCounts.{any, rows_any}
use Rattle.record_shape.specs.Fits.{AllFit}
use Rattle.place_words.specs.Real.{IsReal}
use Rattle.record_shape.specs.ShapedParts.{CountedFit, FlushFits, GlobalFits, IsElement, LocalFits, OptionFits, OwnFits, ShrinkFits, StolenFits}
use Rattle.record_shape.proofs.Premises.{RowFits, SaysLocal, SaysOwn}
use Rattle.record_shape.proofs.RealLemmas.{AreOnceBelow, below_bound, free_once, inactive_once, pending_once, real_below, real_length, set_free_once}
use Rattle.record_shape.proofs.ListWalks.{ListsOnce, ProbeFits, ProbeNames, ProbesFit, WalksOnce, all_fit, counted_fit, elements_counted, fit_all, fit_both, named_fit, rotated_once, rotation_once, shrink_once, steal_once, walk_fits, walk_names}

-- ---- what a call says beside, of elements that don't lie there

-- an element that is to be freed may have left the local lists
abbrev pub LocalKnown : Shape → LocalPart → Type 0
LocalKnown shape (local.Pop hash e) = Unit {0}
LocalKnown shape (local.Refill hash flushed gained got) = Unit {0}
LocalKnown shape (local.Steal got first second) = Unit {0}
LocalKnown shape (local.Add hash e cursor) = Unit {0}
LocalKnown shape (local.Push e true) = Unit {0}
LocalKnown shape (local.Push e false) = IsElement shape e

-- what is flushed comes from local lists
abbrev pub GlobalKnown : Shape → GlobalPart → Type 0
GlobalKnown shape (global.Turn flushed active inactive free shrink) = All (FlushFits shape) flushed
GlobalKnown shape (global.Push e) = Unit {0}

-- ---- what stands in a list

-- an element of a new row
in_row_of : (e hash : ℕ) (rows : List Row) → IsIn e (elements_of (row_with hash (Some e) ++ rows))
in_row_of e hash rows = omega (arith, times_more e e (elements_of rows), times_one e)

head_there : (e : ℕ) (xs : List ℕ) → IsHead e xs → IsIn e xs
head_there e [] head = absurd head
head_there e (x ∷ xs) head = subst (λ y. IsIn y (x ∷ xs)) head (omega (arith, times_more x x xs, times_one x))

has_there : (e : ℕ) (rows : List Row) → IsTrue (has_row e rows) → IsIn e (elements_of rows)
has_there e rows has = omega (arith, has_one e rows has, rows_any e rows)

-- an element that may be none, of a row where it is some
got_fits : (bound hash : ℕ) (got : Option ℕ) → AreOnceBelow bound (elements_of (row_with hash got)) → OptionFits bound got
got_fits bound hash None once = tt
got_fits bound hash (Some e) once = below_bound bound (e ∷ []) once e (omega (arith, times_one e))

-- ---- local lists

-- the head of a list, as a row, and the others are the list
head_moves : (hash e : ℕ) (xs : List ℕ) → times e (drop 1 xs) + times e (elements_of (row_with hash (slice_get xs 0))) ≡ times e xs
head_moves hash e [] = refl
head_moves hash e (x ∷ xs) = omega (arith, times_more e x xs)

-- all that is pending is flushed, from the tail
turned_once : (bound : ℕ) (names pending : List ℕ) → names ≡ reverse pending → AreOnceBelow bound pending → AreOnceBelow bound names
turned_once bound names pending are once e = let same = ap (times e) are in omega (arith, same, times_turned e pending, once e)

-- what is gained stands whole in the lists after the refill: the last of it is pending, and the others are free
gained_once : (bound hash : ℕ) (gained : List ℕ) (got : Option ℕ) → got ≡ last_of gained → AreOnceBelow bound (drop 1 (reverse gained) ++ elements_of (row_with hash got)) → AreOnceBelow bound gained
gained_once bound hash gained got last once e =
    let moved : times e (drop 1 (reverse gained)) + times e (elements_of (row_with hash got)) ≡ times e (reverse gained) =
    subst (λ (o : Option ℕ). times e (drop 1 (reverse gained)) + times e (elements_of (row_with hash o)) ≡ times e (reverse gained)) (sym last) (head_moves hash e (reverse gained)) in
    omega (arith, moved, times_turned e gained, once e, times_append e (drop 1 (reverse gained)) (elements_of (row_with hash got)))

-- what is stolen was free or pending
stolen_fits : (shape : Shape) (got : Stolen) (first : List Look) (second : List Try) (lists : LocalLists) → AllowsSteal got first second lists → IsReal shape (in_locals lists) → StolenFits shape got
stolen_fits shape (Free e) first second lists allowed real = below_bound shape.elements lists.free (free_once shape lists real) e (head_there e lists.free allowed.0)
stolen_fits shape (Pending e) first second lists allowed real =
    below_bound shape.elements (elements_of lists.pending) (pending_once shape lists real) e (omega (arith, stolen_there e lists first second allowed.0 allowed.1, rows_any e lists.pending))
stolen_fits shape Nothing first second lists allowed real = tt

-- A part of a turn of local lists fits. What lies there is real before it and after it, and each of its probes fits.
pub local_fits : (shape : Shape) → HasBounds shape → (cpu : ℕ) (part : LocalPart) (lists : LocalLists) → AllowsOnLocal shape part lists → IsReal shape (in_locals lists) → IsReal shape (in_locals (local_after part lists)) → AllFit RowFits lists.pending
    → SaysLocal part → LocalKnown shape part → ProbesFit shape (parts.Local part) → LocalFits shape part
unfolding local_after
local_fits shape bounds cpu (local.Pop hash e) lists allowed before after rows says known probes =
    (says, below_bound shape.elements lists.free (free_once shape lists before) e (head_there e lists.free allowed))
local_fits shape bounds cpu (local.Refill hash flushed gained got) lists allowed before after rows says known probes =
    let then : LocalLists = local_after (local.Refill hash flushed gained got) lists in
    let left = turned_once shape.elements (visited_elements flushed) (elements_of lists.pending) allowed.1 (pending_once shape lists before) in
    let came = gained_once shape.elements hash gained got allowed.2 after in
    (says, counted_fit shape bounds (λ (visit : Visit). visit.element) flushed left, elements_counted shape bounds gained came, got_fits shape.elements hash got (pending_once shape then after))
local_fits shape bounds cpu (local.Steal got first second) lists allowed before after rows says known probes =
    let walks = walk_fits shape bounds first second (steal_once shape.elements lists (pending_once shape lists before) got first second allowed) probes in
    (stolen_fits shape got first second lists allowed before, walks.0, walks.1)
local_fits shape bounds cpu (local.Add hash e cursor) lists allowed before after rows says known probes =
    let then : LocalLists = local_after (local.Add hash e cursor) lists in
    (says, below_bound shape.elements (elements_of then.pending) (pending_once shape then after) e (in_row_of e hash lists.pending), omega (arith, allowed.2, bounds.cpus_bounded))
local_fits shape bounds cpu (local.Push e true) lists allowed before after rows says known probes =
    below_bound shape.elements (elements_of lists.pending) (pending_once shape lists before) e (has_there e lists.pending allowed)
local_fits shape bounds cpu (local.Push e false) lists allowed before after rows says known probes = known

-- each probe of a turn of local lists is of an element of the map
pub local_probe_elements : (shape : Shape) (part : LocalPart) (lists : LocalLists) → AllowsOnLocal shape part lists → IsReal shape (in_locals lists) → All (ProbeNames shape) (local_probes part)
local_probe_elements shape (local.Pop hash e) lists allowed real = All-nil (ProbeNames shape)
local_probe_elements shape (local.Refill hash flushed gained got) lists allowed real = All-nil (ProbeNames shape)
local_probe_elements shape (local.Steal got first second) lists allowed real =
    walk_names shape first second (steal_once shape.elements lists (pending_once shape lists real) got first second allowed)
local_probe_elements shape (local.Add hash e cursor) lists allowed real = All-nil (ProbeNames shape)
local_probe_elements shape (local.Push e done) lists allowed real = All-nil (ProbeNames shape)

-- ---- what local lists give to the global ones

abbrev RowOfMap : Shape → Row → Type 0
RowOfMap shape row = IsElement shape row.element × RowFits row

fit_push : {X : Type 0} (P : X → Type 0) (xs : List X) (x : X) → AllFit P xs → P x → AllFit P (xs ++ x ∷ [])
fit_push P [] x fit last = (last, tt)
fit_push P (y ∷ xs) x fit last = (fit.0, fit_push P xs x fit.1 last)

fit_turned : {X : Type 0} (P : X → Type 0) (xs : List X) → AllFit P xs → AllFit P (reverse xs)
fit_turned P [] fit = tt
fit_turned P (x ∷ xs) fit = subst (AllFit P) (sym (reverse-append (x ∷ []) xs)) (fit_push P (reverse xs) x (fit_turned P xs fit.1) fit.0)

rows_flushed : (shape : Shape) (flushed : List Flush) → AllFit (RowOfMap shape) (flushed_rows flushed) → AllFit (FlushFits shape) flushed
rows_flushed shape [] fit = tt
rows_flushed shape (flush ∷ flushed) fit = (fit.0, rows_flushed shape flushed fit.1)

-- What was pending is known of where it is flushed with its hashes, as a refill does.
pub flushed_known : (shape : Shape) (lists : LocalLists) (flushed : List Flush) → IsReal shape (in_locals lists) → AllFit RowFits lists.pending → flushed_rows flushed ≡ reverse lists.pending
    → All (FlushFits shape) flushed
flushed_known shape lists flushed real rows are =
    let pending : AllFit (RowOfMap shape) lists.pending =
    fit_both (λ (row : Row). IsElement shape row.element) RowFits lists.pending (named_fit shape (λ (row : Row). row.element) lists.pending (pending_once shape lists real)) (fit_all RowFits lists.pending rows) in
    fit_all (FlushFits shape) flushed (rows_flushed shape flushed (subst (AllFit (RowOfMap shape)) (sym are) (fit_turned (RowOfMap shape) lists.pending pending)))

-- ---- sets

-- a set's rows are of the map where the set is real
set_once : (shape : Shape) (set : ListSet) → IsReal shape (in_own set) → ListsOnce shape.elements set.lists
set_once shape set real e = omega (arith, real e, in_elements set e)

-- an element that is listed is one of the map
listed_below : (shape : Shape) (set : ListSet) → IsReal shape (in_own set) → (e : ℕ) → IsTrue (is_listed e set.lists) → IsElement shape e
listed_below shape set real e listed = real_below shape (in_own set) real e (omega (arith, in_elements set e, listed_one e set.lists listed))

-- ---- a CPU's own set

-- what a shrink of the rotated set looks at and tries
own_walks : (shape : Shape) (active inactive : List Visit) (note : ShrinkNote) (set : ListSet) → ListsOnce shape.elements set.lists
    → AllowsOwnShrink (Some note) (rotated_set own_scans active inactive set) → WalksOnce shape.elements note.looks note.forced
own_walks shape active inactive note set once allowed =
    shrink_once shape.elements own_scans own_target (rotated own_scans set.lists active inactive) note.looks note.forced (rotated_once shape.elements own_scans set.lists active inactive once) allowed.2

own_shrink_fits : (shape : Shape) → HasBounds shape → (active inactive : List Visit) (shrink : Option ShrinkNote) (set : ListSet) → ListsOnce shape.elements set.lists
    → AllowsOwnShrink shrink (rotated_set own_scans active inactive set) → All (ProbeFits shape) (shrink_probes shrink) → ShrinkFits shape shrink
own_shrink_fits shape bounds active inactive None set once allowed probes = tt
own_shrink_fits shape bounds active inactive (Some note) set once allowed probes =
    let walks = walk_fits shape bounds note.looks note.forced (own_walks shape active inactive note set once allowed) probes in
    (omega (arith, allowed.1), walks.0, walks.1)

own_shrink_probes : (shape : Shape) (active inactive : List Visit) (shrink : Option ShrinkNote) (set : ListSet) → ListsOnce shape.elements set.lists
    → AllowsOwnShrink shrink (rotated_set own_scans active inactive set) → All (ProbeNames shape) (shrink_probes shrink)
own_shrink_probes shape active inactive None set once allowed = All-nil (ProbeNames shape)
own_shrink_probes shape active inactive (Some note) set once allowed = walk_names shape note.looks note.forced (own_walks shape active inactive note set once allowed)

-- the rows at the front of a list
front_once : (bound : ℕ) (front rows : List Row) → AreOnceBelow bound (elements_of (front ++ rows)) → AreOnceBelow bound (elements_of front)
front_once bound front rows once e = omega (arith, once e, times_rows-append e front rows)

-- A part of a turn of a CPU's own set fits. What lies there is real before it and after it, and each of its probes fits.
pub own_fits : (shape : Shape) → HasBounds shape → (cpu : ℕ) (part : OwnPart) (set : ListSet) → AllowsOnOwn part set → IsReal shape (in_own set) → IsReal shape (in_own (own_after part set))
    → SaysOwn part → ProbesFit shape (parts.Own part) → OwnFits shape part
unfolding own_after
own_fits shape bounds cpu (own.Turn hash active inactive shrink got) set allowed before after says probes =
    let once : ListsOnce shape.elements set.lists = set_once shape set before in
    let visits = rotation_once shape.elements own_scans set.lists active inactive once allowed.0 in
    let then : ListSet = own_after (own.Turn hash active inactive shrink got) set in
    let rest : List Row = (shrunk_into_free shrink (rotated_set own_scans active inactive set)).lists.inactive in (
      says,
      counted_fit shape bounds (λ (visit : Visit). visit.element) active visits.0,
      counted_fit shape bounds (λ (visit : Visit). visit.element) inactive visits.1,
      own_shrink_fits shape bounds active inactive shrink set once allowed.1 probes,
      got_fits shape.elements hash got (front_once shape.elements (row_with hash got) rest (inactive_once shape then after)),
    )
own_fits shape bounds cpu (own.Push e) set allowed before after says probes = listed_below shape set before e allowed

-- each probe of a turn of such a set is of an element of the map
pub own_probe_elements : (shape : Shape) (part : OwnPart) (set : ListSet) → AllowsOnOwn part set → IsReal shape (in_own set) → All (ProbeNames shape) (own_probes part)
own_probe_elements shape (own.Turn hash active inactive shrink got) set allowed real = own_shrink_probes shape active inactive shrink set (set_once shape set real) allowed.1
own_probe_elements shape (own.Push e) set allowed real = All-nil (ProbeNames shape)

-- ---- the global lists

-- what is flushed comes from outside, each element once
flushed_outside : (set : ListSet) (flushed : List Flush) → AreFlushed set flushed → (e : ℕ)
    → (times e (flushed_elements flushed) ≤ 1) × (1 ≤ times e (flushed_elements flushed) → in_set e any set.lists ≡ 0)
flushed_outside set [] are e = (omega arith, λ some. absurd (omega (arith, some)))
flushed_outside set (flush ∷ flushed) are e =
    let n : ℕ = times e (flushed_elements flushed) in
    let rest = flushed_outside set flushed are.2 e in
    by_test flush.element e (λ b. (cond b (suc n) n ≤ 1) × (1 ≤ cond b (suc n) n → in_set e any set.lists ≡ 0))
    (λ same. (omega (arith, none same), λ some. listed_none e set.lists (not_listed same)))
    (λ other. rest)
  where
    none : flush.element ≡ e → times e (flushed_elements flushed) ≡ 0
    none same = subst (λ x. times x (flushed_elements flushed) ≡ 0) same are.1

    not_listed : flush.element ≡ e → is_listed e set.lists ≡ false
    not_listed same = subst (λ x. is_listed x set.lists ≡ false) same are.0.0

-- an element that is flushed is one of the map
flush_below : (shape : Shape) (flushed : List Flush) → All (FlushFits shape) flushed → (e : ℕ) → IsIn e (flushed_elements flushed) → IsElement shape e
flush_below shape flushed fit e there = by flushed (all_fit (FlushFits shape) flushed fit) there
  where
    by : (flushed : List Flush) → AllFit (FlushFits shape) flushed → IsIn e (flushed_elements flushed) → IsElement shape e
    by [] fit there = absurd (omega (arith, there))
    by (flush ∷ flushed) fit there =
        let n : ℕ = times e (flushed_elements flushed) in
        by_test flush.element e (λ b. 0 < cond b (suc n) n → IsElement shape e)
        (λ same some. subst (IsElement shape) same fit.0.0)
        (λ other some. by flushed fit.1 some)
        there

module _ (shape : Shape) (set : ListSet) (flushed : List Flush) (real : IsReal shape (in_global set)) (are : AreFlushed set flushed) (fit : All (FlushFits shape) flushed) where
  -- what is flushed, by itself
  flushed_once : AreOnceBelow shape.elements (flushed_elements flushed)
  flushed_once e = by (cases_lt 0 (times e (flushed_elements flushed)))
    where
      by : (0 < times e (flushed_elements flushed)) ⊎ (times e (flushed_elements flushed) ≤ 0) → times e (flushed_elements flushed) ≤ one (ltb e shape.elements)
      by (inl some) =
          let here : one (ltb e shape.elements) ≡ 1 = ap one (lt-ltb e shape.elements (flush_below shape flushed fit e some)) in
          omega (arith, here, (flushed_outside set flushed are e).0)
      by (inr none) = omega (arith, none)

  -- the lists after the flush
  with_flushed_once : ListsOnce shape.elements (with_flushed flushed set).lists
  with_flushed_once e = by (cases_lt 0 (times e (flushed_elements flushed)))
    where
      by : (0 < times e (flushed_elements flushed)) ⊎ (times e (flushed_elements flushed) ≤ 0) → in_set e any (with_flushed flushed set).lists ≤ one (ltb e shape.elements)
      by (inl some) =
          let outside : in_set e any set.lists ≡ 0 = (flushed_outside set flushed are e).1 some in
          omega (arith, flushed_in set flushed e any, flush_named e flushed, outside, flushed_once e)
      by (inr none) = omega (arith, flushed_in set flushed e any, flush_named e flushed, none, set_once shape set real e)

  -- what a shrink of the rotated lists looks at and tries
  global_walks : (moved : ℕ) (active inactive : List Visit) (note : ShrinkNote) → AllowsGlobalShrink moved (Some note) (flushed_rotated flushed active inactive set).lists
      → WalksOnce shape.elements note.looks note.forced
  global_walks moved active inactive note allowed =
      shrink_once shape.elements global_scans note.target (flushed_rotated flushed active inactive set).lists note.looks note.forced
      (rotated_once shape.elements global_scans (with_flushed flushed set).lists active inactive with_flushed_once) allowed.2

  global_shrink_fits : HasBounds shape → (moved : ℕ) (active inactive : List Visit) (shrink : Option ShrinkNote) → AllowsGlobalShrink moved shrink (flushed_rotated flushed active inactive set).lists
      → All (ProbeFits shape) (shrink_probes shrink) → ShrinkFits shape shrink
  global_shrink_fits bounds moved active inactive None allowed probes = tt
  global_shrink_fits bounds moved active inactive (Some note) allowed probes =
      let walks = walk_fits shape bounds note.looks note.forced (global_walks moved active inactive note allowed) probes in
      (omega (arith, allowed.1), walks.0, walks.1)

  global_shrink_probes : (moved : ℕ) (active inactive : List Visit) (shrink : Option ShrinkNote) → AllowsGlobalShrink moved shrink (flushed_rotated flushed active inactive set).lists
      → All (ProbeNames shape) (shrink_probes shrink)
  global_shrink_probes moved active inactive None allowed = All-nil (ProbeNames shape)
  global_shrink_probes moved active inactive (Some note) allowed = walk_names shape note.looks note.forced (global_walks moved active inactive note allowed)

  flushed_fit : HasBounds shape → CountedFit (FlushFits shape) flushed
  flushed_fit bounds = ((counted_fit shape bounds (λ (flush : Flush). flush.element) flushed flushed_once).0, all_fit (FlushFits shape) flushed fit)

-- what moves off free
moved_once : (bound n : ℕ) (free moved : List ℕ) → moved ≡ take n free → AreOnceBelow bound free → AreOnceBelow bound moved
moved_once bound n free moved are once e =
    let whole : times e free ≡ times e (take n free) + times e (drop n free) = ap (times e) (sym (take-append-drop n free)) ∙ times_append e (take n free) (drop n free) in
    let same = ap (times e) are in
    omega (arith, whole, same, once e)

-- A part of a turn of the global lists fits. What lies there is real before it, what it flushes fits, and so does each of its probes.
pub global_fits : (shape : Shape) → HasBounds shape → (cpu : ℕ) (part : GlobalPart) (set : ListSet) → AllowsOnGlobal part set → IsReal shape (in_global set) → IsReal shape (in_global (global_after part set))
    → GlobalKnown shape part → ProbesFit shape (parts.Global part) → GlobalFits shape part
global_fits shape bounds cpu (global.Turn flushed active inactive free shrink) set allowed before after known probes =
    let once : ListsOnce shape.elements (with_flushed flushed set).lists = with_flushed_once shape set flushed before allowed.0 known in
    let visits = rotation_once shape.elements global_scans (with_flushed flushed set).lists active inactive once allowed.1 in (
      flushed_fit shape set flushed before allowed.0 known bounds,
      counted_fit shape bounds (λ (visit : Visit). visit.element) active visits.0,
      counted_fit shape bounds (λ (visit : Visit). visit.element) inactive visits.1,
      elements_counted shape bounds free (moved_once shape.elements global_target set.free free allowed.2 (set_free_once shape set before)),
      global_shrink_fits shape set flushed before allowed.0 known bounds (length free) active inactive shrink allowed.3 probes,
    )
global_fits shape bounds cpu (global.Push e) set allowed before after known probes = listed_below shape set before e allowed

-- each probe of a turn of the global lists is of an element of the map
pub global_probe_elements : (shape : Shape) (part : GlobalPart) (set : ListSet) → AllowsOnGlobal part set → IsReal shape (in_global set) → GlobalKnown shape part → All (ProbeNames shape) (global_probes part)
global_probe_elements shape (global.Turn flushed active inactive free shrink) set allowed real known =
    global_shrink_probes shape set flushed real allowed.0 known (length free) active inactive shrink allowed.3
global_probe_elements shape (global.Push e) set allowed real known = All-nil (ProbeNames shape)

-- ---- the probes of any turn

-- what is known of elements that a part of any lists names
abbrev pub PartKnown : Shape → Part → Type 0
PartKnown shape (parts.Bucket part) = Unit {0}
PartKnown shape (parts.Free part) = Unit {0}
PartKnown shape (parts.Local part) = LocalKnown shape part
PartKnown shape (parts.Global part) = GlobalKnown shape part
PartKnown shape (parts.Own part) = Unit {0}

-- each probe of a turn is of an element of the map
pub probe_elements : (shape : Shape) (cpu : ℕ) (part : Part) (content : Content) → Allows shape cpu part content → IsReal shape content → PartKnown shape part → All (ProbeNames shape) (probes_of part)
probe_elements shape cpu (parts.Bucket part) content allowed real known = All-nil (ProbeNames shape)
probe_elements shape cpu (parts.Free part) content allowed real known = All-nil (ProbeNames shape)
probe_elements shape cpu (parts.Local part) (in_bucket bodies) allowed real known = absurd allowed
probe_elements shape cpu (parts.Local part) (on_freelist stack) allowed real known = absurd allowed
probe_elements shape cpu (parts.Local part) (in_locals lists) allowed real known = local_probe_elements shape part lists allowed real
probe_elements shape cpu (parts.Local part) (in_global set) allowed real known = absurd allowed
probe_elements shape cpu (parts.Local part) (in_own set) allowed real known = absurd allowed
probe_elements shape cpu (parts.Global part) (in_bucket bodies) allowed real known = absurd allowed
probe_elements shape cpu (parts.Global part) (on_freelist stack) allowed real known = absurd allowed
probe_elements shape cpu (parts.Global part) (in_locals lists) allowed real known = absurd allowed
probe_elements shape cpu (parts.Global part) (in_global set) allowed real known = global_probe_elements shape part set allowed real known
probe_elements shape cpu (parts.Global part) (in_own set) allowed real known = absurd allowed
probe_elements shape cpu (parts.Own part) (in_bucket bodies) allowed real known = absurd allowed
probe_elements shape cpu (parts.Own part) (on_freelist stack) allowed real known = absurd allowed
probe_elements shape cpu (parts.Own part) (in_locals lists) allowed real known = absurd allowed
probe_elements shape cpu (parts.Own part) (in_global set) allowed real known = absurd allowed
probe_elements shape cpu (parts.Own part) (in_own set) allowed real known = own_probe_elements shape part set allowed real

-- ---- walks over a bucket

-- a bucket for which there was no room has no more than the map's elements
pub walk_bound : (shape : Shape) (cpu room n : ℕ) (bucket : List Stored) → AllowsWalk shape cpu room (Over n) bucket → IsReal shape (in_bucket bucket) → n ≤ shape.elements
walk_bound shape cpu room n bucket allowed real =
    let long = length-map bucket (λ (stored : Stored). stored.element) in
    omega (arith, allowed.0, long, real_length shape (in_bucket bucket) real)
