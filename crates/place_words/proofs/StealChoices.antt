-- The theft that is computed in serial order is one that the rules allow, whatever the bits and the local lists are; and so are
-- the turn that brings home what was stolen, and the one that frees a pending element.
use Rattle.std.proofs.Common.{◌≡◌, ℕ, zero, suc, ◌+◌, ◌<◌, ◌≤◌, ◌==◌, ◌||◌, Bool, true, false, cond, eqb, List, [], ◌∷◌, ◌++◌, length, take, reverse, refl, ap, ◌∙◌, sym, subst, arith}
use Rattle.std.specs.Prelude.{None, MatchBool, count_by, option_map, unwrap_or, slice_get, if◌then◌else◌}
use Rattle.std.proofs.lemmas.Bool.{eqb-true, eqb-false}
use Rattle.std.proofs.lemmas.List.{length-reverse, reverse-append}
use Rattle.std.proofs.lemmas.Option.{none-some}
use Rattle.map_types.specs.declared.attr.Shape.{Shape}
use Rattle.map_types.specs.declared.row.Row.{Row}
use Rattle.map_types.specs.ElementLists.{times}
use Rattle.map_types.specs.Listed.{elements_of}
use Rattle.place_words.specs.declared.list_part.LocalPart.TheVariants as local
use Rattle.place_words.specs.declared.visits.Look.{Look}
use Rattle.place_words.specs.declared.visits.Try.{Try}
use Rattle.place_words.specs.Choices.{forced_over, forced_after, sparing_over, stolen_of, steal_of, steal_got}
use Rattle.place_words.specs.Locals.{LocalLists, last_of, AreSparing, AreUnsparing, IsSearch, AllowsSteal, AllowsOnLocal}
use Rattle.place_words.specs.RowMoves.{gone_by_local}
use Rattle.place_words.specs.Shrinking.{IsFirstEnd, look_removed, try_removed, freed}
use Rattle.place_words.specs.Takings.{local_probes, stolen_element, ring_next}
use Rattle.map_types.proofs.RowLemmas.{times_rows-reverse}
use Rattle.place_words.proofs.CostLemmas.{freed_count}
use Rattle.place_words.proofs.GlobalChoices.{not_there}
use Rattle.place_words.proofs.LookLaws.{spared, removed, ElementsFrom, elements_step, probed_step, tries_until, tries_name}
use Rattle.place_words.proofs.ShrinkProbes.{removed_tries, AreProbesOf, probes_step, after_probe, walks_probe, off_step, freed_bound, off_none, reverse_empty}
use Rattle.place_words.proofs.Worked.{AreProbed, probed0, not_nil}
use Rattle.place_words.proofs.Loses.{removed_ones}

-- The walk that spares set bits

sparing_from : (bits : ℕ → Bool) (rows : List Row) → ElementsFrom (sparing_over bits rows) rows
sparing_from bits [] = refl
sparing_from bits (row ∷ rows) = elements_step (bits row.element) row rows (sparing_over bits rows) [] (sparing_from bits rows) refl

sparing_probed : (bits : ℕ → Bool) (rows : List Row) → AreProbed (sparing_over bits rows)
sparing_probed bits [] = probed0
sparing_probed bits (row ∷ rows) = probed_step (bits row.element) row (sparing_over bits rows) [] (sparing_probed bits rows) probed0

-- whether the last of these looks removed something
abbrev pub last_removed : List Look → Bool
last_removed walk = unwrap_or (option_map look_removed (last_of walk)) false

abbrev pub sparing_ends : ℕ → List Look → Bool
sparing_ends n walk = last_removed walk || length walk == n

-- the last of a list with one more element at its head
last_more : (look : Look) (walk : List Look) → look_removed look ≡ false → last_removed (look ∷ walk) ≡ last_removed walk
last_more look walk held = ap of_turned (reverse-append (look ∷ []) walk) ∙ by (reverse walk)
  where
    of_turned : List Look → Bool
    of_turned turned = unwrap_or (option_map look_removed (slice_get turned 0)) false

    by : (turned : List Look) → of_turned (turned ++ look ∷ []) ≡ of_turned turned
    by [] = held
    by (x ∷ turned) = refl

suc_eq : (a b : ℕ) → (suc a == suc b) ≡ (a == b)
suc_eq a b = grind (arith)

or_both : (a b x y : Bool) → a ≡ x → b ≡ y → (a || b) ≡ (x || y)
or_both a b x y p q = grind (arith, p, q)

pub sparing_more : (row : Row) (n : ℕ) (walk : List Look) → sparing_ends (suc n) (spared row ∷ walk) ≡ sparing_ends n walk
sparing_more row n walk = or_both _ _ _ _ (last_more (spared row) walk refl) (suc_eq (length walk) n)

pub not_yet : (n : ℕ) → sparing_ends (suc n) [] ≡ false
not_yet n = grind (arith)

goes_past : (row : Row) (n : ℕ) (walk : List Look) → IsFirstEnd (sparing_ends n) walk → (k : ℕ) → k < suc (length walk) → sparing_ends (suc n) (take k (spared row ∷ walk)) ≡ false
goes_past row n walk ends zero below = not_yet n
goes_past row n walk ends (suc k) below = sparing_more row n (take k walk) ∙ ends.not_before k (omega (arith, below))

ends_here : (row : Row) (n : ℕ) (k : ℕ) → k < 1 → sparing_ends (suc n) (take k (removed row ∷ [])) ≡ false
ends_here row n zero below = not_yet n
ends_here row n (suc k) below = absurd (omega (arith, below))

sparing_step : (bit : Bool) (row : Row) (n : ℕ) (walk : List Look) → IsFirstEnd (sparing_ends n) walk → IsFirstEnd (sparing_ends (suc n)) (if bit then spared row ∷ walk else removed row ∷ [])
sparing_step true row n walk ends = record { here = sparing_more row n walk ∙ ends.here; not_before = goes_past row n walk ends }
sparing_step false row n walk ends = record { here = refl; not_before = ends_here row n }

sparing_until : (bits : ℕ → Bool) (rows : List Row) → IsFirstEnd (sparing_ends (length rows)) (sparing_over bits rows)
sparing_until bits [] = record { here = refl; not_before = λ k below. absurd (omega (arith, below)) }
sparing_until bits (row ∷ rows) = sparing_step (bits row.element) row (length rows) (sparing_over bits rows) (sparing_until bits rows)

are_sparing : (bits : ℕ → Bool) (pending : List Row) → AreSparing pending (sparing_over bits (reverse pending))
are_sparing bits pending = record {
  from_tail = sparing_from bits (reverse pending);
  probed = sparing_probed bits (reverse pending);
  until = subst (λ n. IsFirstEnd (sparing_ends n) (sparing_over bits (reverse pending))) (length-reverse pending) (sparing_until bits (reverse pending));
}

-- The walk that spares none

are_unsparing : (pending : List Row) → AreUnsparing pending (forced_over (reverse pending))
are_unsparing pending = record {
  from_tail = tries_name (reverse pending);
  until = tries_until (reverse pending) (length pending) (length-reverse pending);
}

unsparing_where : (none : Bool) (pending : List Row) → MatchBool none
    (AreUnsparing pending (if none then forced_over (reverse pending) else []))
    ((if none then forced_over (reverse pending) else []) ≡ [])
unsparing_where true pending = are_unsparing pending
unsparing_where false pending = refl

is_search : (bits : ℕ → Bool) (lists : LocalLists) → lists.free ≡ [] → let first : List Look = sparing_over bits (reverse lists.pending) in
    IsSearch lists first (forced_after first (reverse lists.pending))
is_search bits lists none = record {
  none_free = none;
  sparing = are_sparing bits lists.pending;
  unsparing = unsparing_where (count_by look_removed (sparing_over bits (reverse lists.pending)) == 0) lists.pending;
}

-- One element at most is taken

one_step : (bit : Bool) (row : Row) (walk : List Look) → count_by look_removed walk ≤ 1 → count_by look_removed (if bit then spared row ∷ walk else removed row ∷ []) ≤ 1
one_step true row walk few = few
one_step false row walk few = omega arith

one_spared : (bits : ℕ → Bool) (rows : List Row) → count_by look_removed (sparing_over bits rows) ≤ 1
one_spared bits [] = omega arith
one_spared bits (row ∷ rows) = one_step (bits row.element) row (sparing_over bits rows) (one_spared bits rows)

one_forced : (rows : List Row) → count_by try_removed (forced_over rows) ≤ 1
one_forced [] = omega arith
one_forced (row ∷ rows) = omega arith

one_taken : (looks : List Look) (rows : List Row) → count_by look_removed looks ≤ 1 → length (freed looks (forced_after looks rows)) ≤ 1
one_taken looks rows few = by (eqb (count_by look_removed looks) 0) refl
  where
    by : (none : Bool) → eqb (count_by look_removed looks) 0 ≡ none → length (freed looks (cond none (forced_over rows) [])) ≤ 1
    by true is = omega (arith, freed_count looks (forced_over rows), one_forced rows, eqb-true (count_by look_removed looks) 0 is)
    by false is = omega (arith, freed_count looks [], few)

-- The computed theft

search_allowed : (lists : LocalLists) (first : List Look) (second : List Try) (es : List ℕ) → IsSearch lists first second → freed first second ≡ es → length es ≤ 1 → AllowsSteal (stolen_of es) first second lists
search_allowed lists first second [] search is few = (search, is)
search_allowed lists first second (e ∷ []) search is few = (search, is)
search_allowed lists first second (e ∷ (x ∷ es)) search is few = absurd (omega (arith, few))

steal_where : (shape : Shape) (bits : ℕ → Bool) (free : List ℕ) (pending : List Row) (steal : ℕ)
    → AllowsOnLocal shape (steal_of bits free pending) (record { free = free; pending = pending; steal = steal })
steal_where shape bits [] pending steal =
    let first : List Look = sparing_over bits (reverse pending) in
    let second : List Try = forced_after first (reverse pending) in
    search_allowed (record { free = []; pending = pending; steal = steal }) first second (freed first second) (is_search bits (record { free = []; pending = pending; steal = steal }) refl) refl
    (one_taken first (reverse pending) (one_spared bits (reverse pending)))
steal_where shape bits (e ∷ free) pending steal = (refl, refl, refl)

-- it is allowed on any local lists
pub steal_allowed : (shape : Shape) (bits : ℕ → Bool) (lists : LocalLists) → AllowsOnLocal shape (steal_of bits lists.free lists.pending) lists
steal_allowed shape bits lists = steal_where shape bits lists.free lists.pending lists.steal

taken_none : (es : List ℕ) → stolen_element (stolen_of es) ≡ None → es ≡ []
taken_none [] none = refl
taken_none (e ∷ es) none = absurd (none-some e (sym none))

-- it gets nothing exactly where nothing is free or pending
pub steal_none : (bits : ℕ → Bool) (free : List ℕ) (pending : List Row) → steal_got (steal_of bits free pending) ≡ None → (free ≡ []) × (pending ≡ [])
steal_none bits [] pending none =
    (refl, reverse_empty pending (off_none (sparing_over bits (reverse pending)) (reverse pending) (taken_none _ none)).1)
steal_none bits (e ∷ free) pending none = absurd (none-some e (sym none))

pub none_stolen : (bits : ℕ → Bool) (free : List ℕ) (pending : List Row) → free ≡ [] → pending ≡ [] → steal_got (steal_of bits free pending) ≡ None
none_stolen bits [] [] first second = refl
none_stolen bits [] (row ∷ pending) first second = absurd (not_nil second)
none_stolen bits (e ∷ free) pending first second = absurd (not_nil first)

-- Its probes

sparing_probe : (bits : ℕ → Bool) (rows : List Row) → AreProbesOf (sparing_over bits rows)
sparing_probe bits [] = refl
sparing_probe bits (row ∷ rows) = probes_step (bits row.element) row (sparing_over bits rows) [] (sparing_probe bits rows) refl

taken_named : (es : List ℕ) (first : List Look) (second : List Try) → length es ≤ 1 → es ≡ gone_by_local (local.Steal (stolen_of es) first second)
taken_named [] first second few = refl
taken_named (e ∷ []) first second few = refl
taken_named (e ∷ (x ∷ es)) first second few = absurd (omega (arith, few))

-- they are of exactly the element that it takes off pending, or none, and each removes
pub steal_probed : (bits : ℕ → Bool) (free : List ℕ) (pending : List Row) → local_probes (steal_of bits free pending) ≡ removed_tries (gone_by_local (steal_of bits free pending))
steal_probed bits [] pending =
    let first : List Look = sparing_over bits (reverse pending) in
    let second : List Try = forced_after first (reverse pending) in
    walks_probe first second (sparing_probe bits (reverse pending)) (after_probe first (reverse pending))
    ∙ ap removed_tries (taken_named (freed first second) first second (one_taken first (reverse pending) (one_spared bits (reverse pending))))
steal_probed bits (e ∷ free) pending = refl

spared_there : (bits : ℕ → Bool) (rows : List Row) (e : ℕ) → times e (removed_ones (sparing_over bits rows)) ≤ times e (elements_of rows)
spared_there bits [] e = omega arith
spared_there bits (row ∷ rows) e = off_step e (bits row.element) row rows (sparing_over bits rows) [] (spared_there bits rows e) (omega arith)

-- and that element was pending
pub stolen_was_pending : (bits : ℕ → Bool) (free : List ℕ) (pending : List Row) (e : ℕ) → times e (gone_by_local (steal_of bits free pending)) ≤ times e (elements_of pending)
stolen_was_pending bits [] pending e =
    let first : List Look = sparing_over bits (reverse pending) in
    let second : List Try = forced_after first (reverse pending) in
    let same : times e (freed first second) ≡ times e (gone_by_local (local.Steal (stolen_of (freed first second)) first second)) = ap (times e) (taken_named (freed first second) first second (one_taken first (reverse pending) (one_spared bits (reverse pending)))) in
    let bound = freed_bound first (reverse pending) e (times e (elements_of (reverse pending))) (spared_there bits (reverse pending) e) (λ some. some) in
    omega (arith, same, bound, times_rows-reverse e pending)
stolen_was_pending bits (x ∷ free) pending e = omega arith

-- What is stolen comes home

pub ring_next_below : (cpu cpus : ℕ) → cpu < cpus → ring_next cpu cpus < cpus
ring_next_below cpu cpus below = by (eqb (cpu + 1) cpus) refl
  where
    by : (last : Bool) → eqb (cpu + 1) cpus ≡ last → cond last 0 (cpu + 1) < cpus
    by true is = omega (arith, below)
    by false is = omega (arith, below, eqb-false (cpu + 1) cpus is)

-- where it is neither free nor pending; `ring_next_below` gives the bound of the cursor
pub add_allowed : (shape : Shape) (key_hash e cursor : ℕ) (lists : LocalLists) → times e lists.free ≡ 0 → times e (elements_of lists.pending) ≡ 0 → cursor < shape.cpus
    → AllowsOnLocal shape (local.Add key_hash e cursor) lists
add_allowed shape key_hash e cursor lists not_free none below = (not_there e lists.pending none, not_free, below)
