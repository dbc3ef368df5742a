-- What a turn of the own set shows that got nothing, and one of the global lists that gave nothing.
use Rattle.std.proofs.Common.{◌≡◌, ◌≢◌, ℕ, ◌≤◌, Bool, true, false, cond, List, [], ◌∷◌, ◌++◌, map, length, sym, refl, ap, ◌∙◌, subst, Option, Some, None, arith}
use Rattle.std.specs.Prelude.{take, ◌||◌, ◌-◌, ◌==◌, MatchBool, MatchOption, All, count_by, filter, reverse, slice_get, option_map, unwrap_or, get_or}
use Rattle.std.proofs.lemmas.Bool.{eqb-true}
use Rattle.std.proofs.lemmas.List.{length-append, length-reverse, length-map, nil_from_length, take_all, get_or-reverse}
use Rattle.std.proofs.lemmas.List.Elements.{All-nil, All-cons}
use Rattle.std.proofs.lemmas.List.Sums.{length-filter}
use Rattle.map_types.specs.declared.attr.Shape.{Shape}
use Rattle.map_types.specs.declared.row.Row.{Row}
use Rattle.map_types.specs.Listed.{Listed, elements_of}
use Rattle.map_types.specs.Stored.{Stored}
use Rattle.place_words.specs.declared.bucket_part.BucketPart.TheVariants.{Evict}
use Rattle.place_words.specs.declared.bucket_part.Seen.{Seen}
use Rattle.place_words.specs.declared.bucket_part.Seen.TheVariants.{Removed, Held}
use Rattle.place_words.specs.declared.history.Entry.{Entry}
use Rattle.place_words.specs.declared.visits.Look.{Look}
use Rattle.place_words.specs.declared.visits.Try.{Try}
use Rattle.place_words.specs.Buckets.{AllowsInBucket, AllowsEvict}
use Rattle.place_words.specs.Globals.{AllowsGlobalShrink, global_target}
use Rattle.place_words.specs.Histories.{Content, content, bucket_in, Allows}
use Rattle.place_words.specs.Locks.{lock_named}
use Rattle.place_words.specs.Sets.{ListSet, shrunk_into_free, AllowsOwnShrink}
use Rattle.place_words.specs.Shrinking.{is_removed, look_removed, try_removed, after_looks, forced_rows, ends_removed, AreTries, IsShrink, freed}
use Rattle.place_words.specs.Takings.{walk_probes}
use Rattle.place_words.proofs.CostLemmas.{walks_remove}
use Rattle.place_words.proofs.OwnLaws.{no_head}
use Rattle.place_table.specs.declared.view.Turned.{Turned}
use Rattle.place_table.specs.Known.{AreAllowedAt}
use Rattle.place_table.proofs.Worlds.{true_false}
use Rattle.lru_lists.specs.declared.bits.ProbeCall.{ProbeCall}
use Rattle.lru_ops.specs.Askings.{AreEvicts}
use Rattle.lru_ops.specs.Lists.{IsHeldByOther}
use Rattle.lru_ops.specs.OwnTurns.{note_of, try_of}
use Rattle.lru_ops.specs.Filling.{global_note}

-- Nothing was removed

none_kept : {A : Type 0} (b : Bool) (x : A) (xs : List A) → cond b (x ∷ xs) xs ≡ [] → (b ≡ false) × (xs ≡ [])
none_kept true x xs none = absurd cc
none_kept false x xs none = (refl, none)

none_passes : {A : Type 0} (test : A → Bool) (xs : List A) → filter test xs ≡ [] → All (λ (x : A). test x ≡ false) xs
none_passes test [] none = All-nil (λ x. test x ≡ false)
none_passes test (x ∷ xs) none =
    let first = none_kept (test x) x (filter test xs) none in All-cons (λ y. test y ≡ false) x xs first.0 (none_passes test xs first.1)

none_counted : {A : Type 0} (test : A → Bool) (xs : List A) → count_by test xs ≡ 0 → All (λ (x : A). test x ≡ false) xs
none_counted test xs none = none_passes test xs (nil_from_length (filter test xs) (length-filter test xs ∙ none))

-- what a shrink that freed nothing removed
pub nothing_freed : (looks : List Look) (forced : List Try) → freed looks forced ≡ [] → (count_by look_removed looks ≡ 0) × (count_by try_removed forced ≡ 0)
nothing_freed looks forced none =
    let first : List ℕ = map (λ (look : Look). look.element) (filter look_removed looks) in
    let second : List ℕ = map (λ (try : Try). try.element) (filter try_removed forced) in
    let both = sym (length-append first second) ∙ ap (length {A = ℕ}) none in
    let one = length-map (filter look_removed looks) (λ (look : Look). look.element) in
    let other = length-map (filter try_removed forced) (λ (try : Try). try.element) in
    let looked = length-filter look_removed looks in
    let tried = length-filter try_removed forced in
    (omega (arith, both, one, other, looked, tried), omega (arith, both, one, other, looked, tried))

-- The walk

first_try : (tries : List Try) → All (λ (try : Try). try_removed try ≡ false) tries → unwrap_or (option_map try_removed (slice_get tries 0)) false ≡ false
first_try [] none = refl
first_try (try ∷ tries) none = none 0 try (omega arith)

all_reversed : {A : Type 0} (P : A → Type 0) (xs : List A) → All P xs → All P (reverse xs)
all_reversed P xs all k d less =
    let long = length-reverse xs in
    subst P (sym (get_or-reverse xs k d (omega (arith, less, long)))) (all (length xs - 1 - k) d (omega (arith, less, long)))

-- tries that end with the first that is removed, or are all of these rows, are all where none was
pub tries_all : (rows : List Row) (tries : List Try) → map (λ (try : Try). try.element) tries ≡ elements_of (take (length tries) (reverse rows)) → (ends_removed tries || (length tries == length rows)) ≡ true → count_by try_removed tries ≡ 0 → map (λ (try : Try). try.element) tries ≡ elements_of (reverse rows)
tries_all rows tries from_tail ends none =
    let held : ends_removed tries ≡ false = first_try (reverse tries) (all_reversed (λ (try : Try). try_removed try ≡ false) tries (none_counted try_removed tries none)) in
    let long : length tries ≡ length rows = eqb-true (length tries) (length rows) (ap (λ (b : Bool). b || (length tries == length rows)) (sym held) ∙ ends) in
    from_tail ∙ ap elements_of (take_all (length tries) (reverse rows) (let same = length-reverse rows in omega (arith, same, long)))

tried_all : {scans target : ℕ} (set : Listed) (looks : List Look) (forced : List Try) → IsShrink scans target set looks forced → freed looks forced ≡ [] → map (λ (try : Try). try.element) forced ≡ elements_of (reverse (forced_rows (after_looks set looks)))
tried_all set looks forced shrinks none =
    let counted = nothing_freed looks forced none in
    let are : AreTries (after_looks set looks) forced = subst (λ (n : ℕ). MatchBool (n == 0) (AreTries (after_looks set looks) forced) (forced ≡ [])) counted.0 shrinks.tried in
    tries_all (forced_rows (after_looks set looks)) forced are.from_tail are.until.here counted.1

-- and no probe of a walk that freed nothing removed anything
pub none_removed : (looks : List Look) (forced : List Try) → freed looks forced ≡ [] → All (λ (try : Try). try_removed try ≡ false) (walk_probes looks forced)
none_removed looks forced nothing =
    let counted = nothing_freed looks forced nothing in
    none_counted try_removed (walk_probes looks forced) (let both = walks_remove looks forced in omega (arith, both, counted.0, counted.1))

-- Who held

by_seen : (cpu : ℕ) (seen probed : Seen) → probed ≡ seen → is_removed probed ≡ false → ((holder : ℕ) → probed ≡ Held holder → holder ≢ cpu) → (holder : ℕ) × (probed ≡ Held holder) × (holder ≢ cpu)
by_seen cpu Removed probed is none apart = true_false (sym (ap is_removed is) ∙ none)
by_seen cpu (Held holder) probed is none apart = (holder, is, apart holder is)

-- a holder that a probe may tell is another CPU
not_own : (shape : Shape) (cpu e : ℕ) (seen : Seen) (holder : ℕ) (found : Option (List Stored)) → MatchOption found ⊥ (AllowsInBucket shape cpu (Evict e seen)) → seen ≡ Held holder → holder ≢ cpu
unfolding AllowsInBucket
not_own shape cpu e seen holder None allowed is = absurd allowed
not_own shape cpu e seen holder (Some bodies) allowed is = (subst (λ (z : Seen). AllowsEvict shape cpu e z bodies) is allowed).2

abbrev IsApart : ℕ → Try → Type 0
IsApart cpu probe = (holder : ℕ) → probe.probed ≡ Held holder → holder ≢ cpu

pub evicts_apart : (shape : Shape) (cpu call : ℕ) (rows : List Row) (probes : List ProbeCall) (turns : List Turned) → AreEvicts shape cpu call rows probes turns → AreAllowedAt shape turns → All (IsApart cpu) (map try_of probes)
evicts_apart shape cpu call rows [] [] are allowed = All-nil (IsApart cpu)
evicts_apart shape cpu call rows [] (turn ∷ turns) are allowed = absurd are
evicts_apart shape cpu call rows (probe ∷ probes) [] are allowed = absurd are
evicts_apart shape cpu call rows (probe ∷ probes) (turn ∷ turns) are allowed =
    let found : Content = content shape (lock_named shape turn.lock) turn.earlier in
    All-cons (IsApart cpu) (try_of probe) (map try_of probes)
    (λ holder is. not_own shape cpu probe.element probe.probed holder (bucket_in found) (subst (λ (x : Entry). Allows shape x.cpu x.part found) are.0.entry allowed.0.allowed) is)
    (evicts_apart shape cpu call rows probes turns are.2 allowed.1)

all_held : (cpu : ℕ) (tries : List Try) → All (λ (try : Try). try_removed try ≡ false) tries → All (IsApart cpu) tries → All (IsHeldByOther cpu) tries
all_held cpu tries none apart k d less =
    let try : Try = get_or tries k d in by_seen cpu try.probed try.probed refl (none k d less) (apart k d less)

-- The turn of a CPU's own set

-- what a shrink shows that left nothing free
pub record ShrankNone (shrunk : Bool) (set : ListSet) (looks : List Look) (forced : List Try) : Type 0 where
  pub was_shrunk : shrunk ≡ true
  pub none_free : set.free ≡ []
  pub tried_all : map (λ (try : Try). try.element) forced ≡ elements_of (reverse (forced_rows (after_looks set.lists looks)))
  pub none_removed : All (λ (try : Try). try_removed try ≡ false) (walk_probes looks forced)

pub shrank_none : (shrunk : Bool) (set : ListSet) (looks : List Look) (forced : List Try) → AllowsOwnShrink (note_of shrunk looks forced) set → slice_get (shrunk_into_free (note_of shrunk looks forced) set).free 0 ≡ None → ShrankNone shrunk set looks forced
shrank_none false set looks forced allowed none = absurd (allowed (no_head set.free none))
shrank_none true set looks forced allowed none =
    let nothing : freed looks forced ≡ [] =
    (let empty = ap (length {A = ℕ}) (no_head (reverse (freed looks forced) ++ set.free) none) in
    let parts = length-append (reverse (freed looks forced)) set.free in
    let turned = length-reverse (freed looks forced) in
    nil_from_length (freed looks forced) (omega (arith, empty, parts, turned))) in
    record {
      was_shrunk = refl;
      none_free = allowed.0;
      tried_all = tried_all set.lists looks forced allowed.2 nothing;
      none_removed = none_removed looks forced nothing;
    }

pub held_elsewhere : (shape : Shape) (cpu call : ℕ) (rows : List Row) (probes : List ProbeCall) (turns : List Turned) (looks : List Look) (forced : List Try) → AreEvicts shape cpu call rows probes turns → AreAllowedAt shape turns
    → map try_of probes ≡ walk_probes looks forced → All (λ (try : Try). try_removed try ≡ false) (walk_probes looks forced) → All (IsHeldByOther cpu) (walk_probes looks forced)
held_elsewhere shape cpu call rows probes turns looks forced are allowed tried none =
    all_held cpu (walk_probes looks forced) none (subst (All (IsApart cpu)) tried (evicts_apart shape cpu call rows probes turns are allowed))

-- That of the global lists

-- what filling local lists shows that left nothing free there
pub record FilledNone (lacking : Bool) (target : ℕ) (lists : Listed) (looks : List Look) (forced : List Try) : Type 0 where
  pub was_shrunk : lacking ≡ true
  pub all_lacked : target ≡ global_target
  pub tried_all : map (λ (try : Try). try.element) forced ≡ elements_of (reverse (forced_rows (after_looks lists looks)))
  pub none_removed : All (λ (try : Try). try_removed try ≡ false) (walk_probes looks forced)

pub filled_none : (lacking : Bool) (target : ℕ) (free : List ℕ) (lists : Listed) (looks : List Look) (forced : List Try) → AllowsGlobalShrink (length free) (global_note lacking target looks forced) lists → free ≡ [] → freed looks forced ≡ []
    → FilledNone lacking target lists looks forced
filled_none false target free lists looks forced allowed none nothing =
    let empty : length free ≡ 0 = ap (length {A = ℕ}) none in
    let many : 128 ≤ length free = allowed in
    absurd (omega (arith, empty, many))
filled_none true target free lists looks forced allowed none nothing = record {
  was_shrunk = refl;
  all_lacked = allowed.1 ∙ ap (λ (l : List ℕ). 128 - length l) none;
  tried_all = tried_all lists looks forced allowed.2 nothing;
  none_removed = none_removed looks forced nothing;
}

-- where nothing came to the local free list, nothing was free and nothing was freed
pub nothing_came : (free freed : List ℕ) → reverse (free ++ freed) ≡ [] → (free ≡ []) × (freed ≡ [])
nothing_came free freed none =
    let turned = length-reverse (free ++ freed) in
    let both = length-append free freed in
    let empty : length (reverse (free ++ freed)) ≡ 0 = ap (length {A = ℕ}) none in
    (nil_from_length free (omega (arith, turned, both, empty)), nil_from_length freed (omega (arith, turned, both, empty)))

pub none_taken : (free all : List ℕ) → free ≡ take global_target all → free ≡ [] → all ≡ []
none_taken free [] is none = refl
none_taken free (e ∷ all) is none = absurd (some_left (sym is ∙ none))
  where
    some_left : take 128 (e ∷ all) ≡ [] → ⊥
    some_left none = let some = ap (length {A = ℕ}) none in omega (arith, some)
