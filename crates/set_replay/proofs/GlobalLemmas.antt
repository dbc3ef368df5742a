-- Turns of the global set.
use Rattle.std.proofs.Common.{◌≡◌, ◌≢◌, ℕ, zero, suc, cond, eqb, ◌<◌, ◌≤◌, ◌+◌, ◌-◌, Bool, true, false, not, List, [], ◌∷◌, ◌++◌, map, reverse, take, drop, drop-cons, length, get_or, set as set_at, length-set, refl, ap, ◌∙◌, sym, subst, arith, append_assoc}
use Rattle.std.specs.Prelude.{Option, None, Some, filter, min, slice_get, IsPermutation}
use Rattle.std.proofs.lemmas.List.{append-nil, map-append, reverse-append, length-append, take_more, take_all, take-append-drop, length-take, length-map, get_or-set_other}
use Rattle.std.proofs.lemmas.Grind.{get_or-set_at}
use Rattle.std.proofs.lemmas.List.Sorted.{IsPermutation-append_left, IsPermutation-cons, IsPermutation-refl, IsPermutation-sym, IsPermutation-to_front, IsPermutation-trans}
use Rattle.std.proofs.lemmas.Option.{same_Some}
use Rattle.std.proofs.lemmas.List.Elements.{filter-append}
use Rattle.map_types.specs.Stored.{Stored}
use Rattle.percpu_values.specs.BodyList.{BodyList, popped, popped_from}
use Rattle.map_types.specs.ElementLists.{times, IsIn, one}
use Rattle.map_types.specs.Listed.{Listed, elements_of, cursor_without, nearest_before}
use Rattle.map_types.specs.declared.row.Row.{Row}
use Rattle.map_types.proofs.RowLemmas.{by_test, times_append}
use Rattle.place_words.specs.declared.visits.Flush.{Flush}
use Rattle.place_words.specs.Bodies.{numbers}
use Rattle.place_words.specs.Globals.{global_target, AllowsGlobalShrink, AllowsOnGlobal, AreFlushed, IsOutside, flush_row, flushed_elements, flushed_rotated, flushed_rows, global_after, shrunk_out, with_flushed}
use Rattle.place_words.specs.Sets.{ListSet, rotated_set}
use Rattle.place_words.proofs.KeepLaws.{flush_named, flushed_in, listed_none}
use Rattle.place_words.proofs.RowCounts.{any, rows_any}
use Rattle.row_list.specs.RowWords.{without_row}
use Rattle.row_list.proofs.ElementLemmas.{absent_parts, times_elsewhere, times_here}
use Rattle.row_list.proofs.RowLemmas.{without_absent}
use Rattle.lru_lists.specs.Sets.{SetView, IsSet, IsPlace, IsListed, listed, moved_in, taken_off, times_listed, times_on, with_free}
use Rattle.set_replay.specs.GlobalTurns.{AreMarked, Flushed, GlobalShrunk, GlobalTurned, MovedOff, MovingJudged, PopJudged, PoppedOff, list_of, with_flushes}
use Rattle.set_replay.specs.Pushing.{set_of, HasFreeRoom, PushJudged}
use Rattle.lru_lists.specs.declared.name.ListName.{ListName}
use Rattle.lru_lists.specs.declared.bits.ProbeCall.{ProbeCall}
use Rattle.place_words.specs.Rotation.{AreRotationVisits}
use Rattle.place_words.specs.Takings.{shrink_probes}
use Rattle.place_words.specs.declared.list_part.GlobalPart.TheVariants as global
use Rattle.place_words.specs.declared.visits.ShrinkNote.{ShrinkNote}
use Rattle.place_words.specs.declared.visits.Visit.{Visit}
use Rattle.replay_words.specs.declared.note.Note.TheVariants.{Nothing, Probes}
use Rattle.set_replay.specs.Judged.{RotationJudged, ShrinkJudged, ShrunkInto}
use Rattle.set_replay.specs.OwnTurns.{shrink_hashes}
use Rattle.set_replay.proofs.OwnLemmas.{none_left, rows_once, same_hashes, shrink_told_hashes}
use Rattle.set_replay.proofs.PushLemmas.{unlisted_where}
use Rattle.set_replay.proofs.Unique.{first_of, rest_of}

-- An element that is on no list

cursor_kept : (e : ℕ) (rows : List Row) (cursor : Option ℕ) (set : SetView) → IsPlace cursor set → times e (elements_of set.inactive) ≡ 0 → cursor_without (λ x. eqb x e) rows cursor ≡ cursor
cursor_kept e rows None set place none = refl
cursor_kept e rows (Some c) set place none =
    by_test c e (λ b. cond b (nearest c) (Some c) ≡ Some c)
    (λ same. absurd (omega (arith, none, subst (λ (x : ℕ). IsIn x (elements_of set.inactive)) same place)))
    (λ other. refl)
  where
    nearest : ℕ → Option ℕ
    nearest x = nearest_before x (λ y. eqb y e) rows

pub nothing_off : (e : ℕ) (set : SetView) → IsSet set → times_listed e set ≡ 0 → taken_off e set ≡ set
nothing_off e set whole none =
    λ i. record set { active = active i; inactive = inactive i; cursor = cursor_kept e set.inactive set.cursor set whole.placed (omega (arith, none)) i }
  where
    active : without_row e set.active ≡ set.active
    active = without_absent e set.active (omega (arith, none))

    inactive : without_row e set.inactive ≡ set.inactive
    inactive = without_absent e set.inactive (omega (arith, none))

pub outside : (e : ℕ) (set : SetView) → times_on e set ≡ 0 → IsOutside (set_of set) e
outside e set none = (unlisted_where e set (λ some. absurd (omega (arith, none, some))), omega (arith, none))

pub on_none : (e : ℕ) (set : SetView) → IsOutside (set_of set) e → times_on e set ≡ 0
on_none e set out = omega (arith, listed_none e (listed set) out.0, rows_any e set.active, rows_any e set.inactive, out.1)

-- Flushed elements, one more

pub flushed_push : (set : ListSet) (flushed : List Flush) (flush : Flush) → AreFlushed set flushed → IsOutside set flush.element → times flush.element (flushed_elements flushed) ≡ 0
    → AreFlushed set (flushed ++ flush ∷ [])
flushed_push set [] flush are out none = (out, refl, tt)
flushed_push set (first ∷ flushed) flush are out none =
    let apart = absent_parts first.element flush.element (flushed_elements flushed) none in
    let joined = ap (times first.element) (map-append (λ (f : Flush). f.element) flushed (flush ∷ [])) ∙ times_append first.element (flushed_elements flushed) (flush.element ∷ []) in
    let other = times_elsewhere flush.element first.element [] (λ same. apart.0 (sym same)) in
    (are.0, omega (arith, joined, other, are.1), flushed_push set flushed flush are.2 out apart.1)

-- and of any of them, that it comes from outside and isn't among those before it
pub flushed_there : (set : ListSet) (flushed : List Flush) (flush : Flush) (rest : List Flush) → AreFlushed set (flushed ++ flush ∷ rest) → IsOutside set flush.element × (times flush.element (flushed_elements flushed) ≡ 0)
flushed_there set [] flush rest are = (are.0, refl)
flushed_there set (first ∷ flushed) flush rest are =
    let later = flushed_there set flushed flush rest are.2 in
    let joined = ap (times first.element) (map-append (λ (f : Flush). f.element) flushed (flush ∷ rest)) ∙ times_append first.element (flushed_elements flushed) (flush.element ∷ flushed_elements rest) in
    let apart = absent_parts flush.element first.element (flushed_elements rest) (omega (arith, joined, are.1)) in
    (later.0, times_elsewhere first.element flush.element (flushed_elements flushed) (λ same. apart.0 (sym same)) ∙ later.1)

pub flushes_count : (e : ℕ) (flushed : List Flush) (set : SetView) → times_on e (with_flushes flushed set) ≡ times_on e set + times e (flushed_elements flushed)
unfolding with_flushed
flushes_count e flushed set =
    let now : SetView = with_flushes flushed set in
    omega (arith, flushed_in (set_of set) flushed e any, flush_named e flushed, rows_any e set.active, rows_any e set.inactive, rows_any e now.active, rows_any e now.inactive)

with_last : (b : Bool) (xs : List Flush) (flush : Flush) (rows : List Row)
    → reverse (flushed_rows (xs ++ cond b (flush ∷ []) [])) ++ rows ≡ cond b (flush_row flush ∷ (reverse (flushed_rows xs) ++ rows)) (reverse (flushed_rows xs) ++ rows)
with_last true xs flush rows =
    ap (λ (l : List Row). reverse l ++ rows) (map-append flush_row xs (flush ∷ [])) ∙ ap (λ (l : List Row). l ++ rows) (reverse-append (flushed_rows xs) (flush_row flush ∷ []))
with_last false xs flush rows = ap (λ (l : List Flush). reverse (flushed_rows l) ++ rows) (append-nil xs)

pub flushes_more : (flushed : List Flush) (flush : Flush) (set : SetView) → with_flushes (flushed ++ flush ∷ []) set ≡ moved_in (flush_row flush) (list_of flush.bit) (with_flushes flushed set)
flushes_more flushed flush set = (λ i. record set { active = active i; inactive = inactive i }) ∙ by flush.bit
  where
    before : SetView
    before = with_flushes flushed set

    active : reverse (flushed_rows (filter (λ (f : Flush). f.bit) (flushed ++ flush ∷ []))) ++ set.active ≡ cond flush.bit (flush_row flush ∷ before.active) before.active
    active =
        ap (λ (l : List Flush). reverse (flushed_rows l) ++ set.active) (filter-append (λ (f : Flush). f.bit) flushed (flush ∷ []))
        ∙ with_last flush.bit (filter (λ (f : Flush). f.bit) flushed) flush set.active

    inactive : reverse (flushed_rows (filter (λ (f : Flush). not f.bit) (flushed ++ flush ∷ []))) ++ set.inactive ≡ cond (not flush.bit) (flush_row flush ∷ before.inactive) before.inactive
    inactive =
        ap (λ (l : List Flush). reverse (flushed_rows l) ++ set.inactive) (filter-append (λ (f : Flush). not f.bit) flushed (flush ∷ []))
        ∙ with_last (not flush.bit) (filter (λ (f : Flush). not f.bit) flushed) flush set.inactive

    by : (b : Bool) → record set { active = cond b (flush_row flush ∷ before.active) before.active; inactive = cond (not b) (flush_row flush ∷ before.inactive) before.inactive } ≡ moved_in (flush_row flush) (list_of b) before
    by true = refl
    by false = refl

forward : (xs ys : List Row) (row : Row) → IsPermutation (xs ++ row ∷ ys) (row ∷ (xs ++ ys))
forward xs ys row =
    subst (λ (l : List Row). IsPermutation l (row ∷ (xs ++ ys))) (append_assoc xs (row ∷ []) ys)
    (IsPermutation-append_left ys (xs ++ row ∷ []) (row ∷ xs) (IsPermutation-to_front xs row))

rows_in : (set : SetView) (row : Row) (bit : Bool) → IsPermutation (row ∷ (set.active ++ set.inactive)) ((moved_in row (list_of bit) set).active ++ (moved_in row (list_of bit) set).inactive)
rows_in set row true = IsPermutation-refl (row ∷ (set.active ++ set.inactive))
rows_in set row false = IsPermutation-sym _ _ (forward set.active set.inactive row)

pub none_flushed : (set : SetView) → Flushed [] set set
none_flushed set = record { allowed = tt; set = refl; rows = IsPermutation-refl (set.active ++ set.inactive) }

module _ (flushed : List Flush) (i : ℕ) {before now : SetView} (so_far : Flushed (take i flushed) before now) (flush other : Flush) (within : i < length flushed) (is : flush ≡ get_or flushed i other) where
  counted : times_on flush.element now ≡ times_on flush.element before + times flush.element (flushed_elements (take i flushed))
  counted = ap (times_on flush.element) so_far.set ∙ flushes_count flush.element (take i flushed) before

  more : take (i + 1) flushed ≡ take i flushed ++ flush ∷ []
  more = take_more flushed i other within ∙ ap (λ (f : Flush). take i flushed ++ f ∷ []) (sym is)

  pub flushes_on : (after : SetView) → times_on flush.element now ≡ 0 → after ≡ moved_in (flush_row flush) (list_of flush.bit) now → Flushed (take (i + 1) flushed) before after
  flushes_on after none after_is = record {
    allowed = subst (AreFlushed (set_of before)) (sym more)
        (flushed_push (set_of before) (take i flushed) flush so_far.allowed (outside flush.element before (omega (arith, counted, none))) (omega (arith, counted, none)));
    rows = subst (λ (z : SetView). IsPermutation (flushed_rows (take (i + 1) flushed) ++ (before.active ++ before.inactive)) (z.active ++ z.inactive)) (sym after_is)
        (subst (λ (l : List Row). IsPermutation (l ++ (before.active ++ before.inactive)) (moved.active ++ moved.inactive)) (sym (ap flushed_rows more ∙ map-append flush_row (take i flushed) (flush ∷ [])))
        (IsPermutation-trans _ _ _ (IsPermutation-append_left (before.active ++ before.inactive) (flushed_rows (take i flushed) ++ flush_row flush ∷ []) (flush_row flush ∷ flushed_rows (take i flushed)) (IsPermutation-to_front (flushed_rows (take i flushed)) (flush_row flush)))
        (IsPermutation-trans _ _ _ (IsPermutation-cons (flush_row flush) _ _ so_far.rows) (rows_in now (flush_row flush) flush.bit))));
    set = after_is ∙ (ap (moved_in (flush_row flush) (list_of flush.bit)) so_far.set ∙ (sym (flushes_more (take i flushed) flush before) ∙ ap (λ (fs : List Flush). with_flushes fs before) (sym more)));
  }
    where
      moved : SetView
      moved = moved_in (flush_row flush) (list_of flush.bit) now

  pub flushes_stop : (times_on flush.element now ≡ 0 → ⊥) → AreFlushed (set_of before) flushed → ⊥
  flushes_stop on are =
      let split : flushed ≡ take i flushed ++ flush ∷ drop (suc i) flushed =
      sym (take-append-drop i flushed) ∙ ap (λ (l : List Flush). take i flushed ++ l) (drop-cons flushed i other within ∙ ap (λ (f : Flush). f ∷ drop (suc i) flushed) (sym is)) in
      let there = flushed_there (set_of before) (take i flushed) flush (drop (suc i) flushed) (subst (AreFlushed (set_of before)) split are) in
      on (omega (arith, counted, on_none flush.element before there.0, there.1))

pub all_flushed : (flushed : List Flush) (i : ℕ) (before now : SetView) → Flushed (take i flushed) before now → length flushed ≤ i → Flushed flushed before now
all_flushed flushed i before now so_far past = subst (λ (fs : List Flush). Flushed fs before now) (take_all i flushed past) so_far

pub marked_like : (marks : List Bool) (before now : SetView) → AreMarked marks before → now.elements ≡ before.elements → now.free ≡ before.free → AreMarked marks now
marked_like marks before now are bound free = record {
  long = are.long ∙ sym bound;
  each = λ e. ap (λ (l : BodyList). times e (numbers l.bodies)) free ∙ are.each e;
}

-- What is free

free_head : (bodies : List Stored) (spare e : ℕ) → slice_get (numbers bodies) 0 ≡ Some e → numbers bodies ≡ e ∷ numbers (popped_from bodies spare).bodies
free_head [] spare e head = absurd cc
free_head (body ∷ bodies) spare e head = ap (λ (x : ℕ). x ∷ numbers bodies) (same_Some body.element e head)

popped_room : (bodies : List Stored) (spare : ℕ) → length (popped_from bodies spare).bodies + (popped_from bodies spare).spare ≡ length bodies + spare
popped_room [] spare = refl
popped_room (body ∷ bodies) spare = omega arith

-- the head of free leaves, and its mark is cleared
pub popped_off : (e : ℕ) (before after : SetView) (marks : List Bool) → e < after.elements → times_on e after ≡ 0 → AreMarked marks before → slice_get (numbers before.free.bodies) 0 ≡ Some e → after ≡ with_free (popped before.free) before
    → PoppedOff e before after (set_at marks e false)
popped_off e before after marks below gone are head after_is = record {
  head = head;
  set = after_is;
  marked = record {
    long = length-set marks e false ∙ (are.long ∙ sym (ap (λ (z : SetView). z.elements) after_is));
    each = λ x. by_test x e (λ b. times x (numbers after.free.bodies) ≡ one (get_or (set_at marks e false) x false)) (here x) (there x);
  };
}
  where
    split : numbers before.free.bodies ≡ e ∷ numbers after.free.bodies
    split = free_head before.free.bodies before.free.spare e head ∙ ap (λ (z : SetView). e ∷ numbers z.free.bodies) (sym after_is)

    names : List ℕ
    names = numbers after.free.bodies

    within : e < length marks
    within = subst (λ (n : ℕ). e < n) (ap (λ (z : SetView). z.elements) after_is ∙ sym are.long) below

    here : (x : ℕ) → x ≡ e → times x names ≡ one (get_or (set_at marks e false) x false)
    here x same =
        ap (λ (n : ℕ). times n names) same ∙ omega (arith, gone) ∙ ap one (sym (get_or-set_at marks e x false false same within))

    there : (x : ℕ) → x ≢ e → times x names ≡ one (get_or (set_at marks e false) x false)
    there x other =
        sym (ap (times x) split ∙ times_elsewhere e x names (λ same. other (sym same))) ∙ (are.each x ∙ ap one (sym (get_or-set_other marks e x false false other)))

-- what a pop gives is the head or not
pub no_head : (e : ℕ) (bodies : List Stored) (top : Option Stored) → top ≡ slice_get bodies 0 → top ≡ None → slice_get (numbers bodies) 0 ≡ Some e → ⊥
no_head e [] top is none head = absurd cc
no_head e (body ∷ bodies) top is none head = absurd cc

top_number : (bodies : List Stored) (body : Stored) → slice_get bodies 0 ≡ Some body → slice_get (numbers bodies) 0 ≡ Some body.element
top_number [] body is = absurd cc
top_number (x ∷ bodies) body is = ap (λ (b : Stored). Some b.element) (same_Some x body is)

pub pop_judged : (e top : ℕ) (before after : SetView) (marks : List Bool) (body : Stored) → slice_get before.free.bodies 0 ≡ Some body → top ≡ body.element → body.element < after.elements → times_on body.element after ≡ 0
    → AreMarked marks before → after ≡ with_free (popped before.free) before → PopJudged e before after (set_at marks top false) (eqb top e)
pop_judged e top before after marks body is top_is below gone are after_is =
    by_test top e (λ b. PopJudged e before after (set_at marks top false) b)
    (λ same. subst (λ (x : ℕ). PoppedOff x before after (set_at marks top false)) same
    (popped_off top before after marks (subst (λ (x : ℕ). x < after.elements) (sym top_is) below) (ap (λ (x : ℕ). times_on x after) top_is ∙ gone) are head after_is))
    (λ other is_head. other (same_Some top e (sym head ∙ is_head)))
  where
    head : slice_get (numbers before.free.bodies) 0 ≡ Some top
    head = top_number before.free.bodies body is ∙ ap Some (sym top_is)

-- an element that is freed comes to the head of free, and is marked
pub pushed_marked : (e : ℕ) (before after : SetView) (marks : List Bool) → AreMarked marks before → numbers after.free.bodies ≡ e ∷ numbers before.free.bodies → after.elements ≡ before.elements → IsSet after
    → AreMarked (set_at marks e true) after
pushed_marked e before after marks are split bound whole = record {
  long = length-set marks e true ∙ (are.long ∙ sym bound);
  each = λ x. by_test x e (λ b. times x (numbers after.free.bodies) ≡ one (get_or (set_at marks e true) x false)) (here x) (there x);
}
  where
    names : List ℕ
    names = numbers before.free.bodies

    first : times e (numbers after.free.bodies) ≡ suc (times e names)
    first = ap (times e) split ∙ times_here e e names refl

    within : e < length marks
    within = subst (λ (n : ℕ). e < n) (sym (are.long ∙ sym bound)) (whole.below e (omega (arith, first)))

    here : (x : ℕ) → x ≡ e → times x (numbers after.free.bodies) ≡ one (get_or (set_at marks e true) x false)
    here x same =
        ap (λ (n : ℕ). times n (numbers after.free.bodies)) same ∙ (let once = whole.once e in omega (arith, first, once)) ∙ ap one (sym (get_or-set_at marks e x true false same within))

    there : (x : ℕ) → x ≢ e → times x (numbers after.free.bodies) ≡ one (get_or (set_at marks e true) x false)
    there x other =
        ap (times x) split ∙ (times_elsewhere e x names (λ same. other (sym same)) ∙ (are.each x ∙ ap one (sym (get_or-set_other marks e x true false other))))

-- what was freed has a mark
pub pushed_within : (e : ℕ) (before after : SetView) (marks : List Bool) (lawful : Bool) → lawful ≡ true → AreMarked marks before → PushJudged e before after lawful → e < length marks
pushed_within e before after marks lawful so are judged =
    let split : numbers after.free.bodies ≡ e ∷ numbers before.free.bodies = ap (λ (z : ListSet). z.free) (judged.set so) in
    let first = ap (times e) split ∙ times_here e e (numbers before.free.bodies) refl in
    subst (λ (n : ℕ). e < n) (judged.bound so ∙ sym are.long) ((judged.whole so).below e (omega (arith, first)))

pub pushed_on : (e : ℕ) (before after : SetView) (marks : List Bool) (lawful : Bool) → lawful ≡ true → AreMarked marks before → PushJudged e before after lawful → AreMarked (set_at marks e true) after
pushed_on e before after marks lawful so are judged = pushed_marked e before after marks are (ap (λ (z : ListSet). z.free) (judged.set so)) (judged.bound so) (judged.whole so)

-- Elements that leave the head of free, one after another

pub record MovedSoFar (taken : List ℕ) (before now : SetView) (marks : List Bool) : Type 0 where
  pub split : numbers before.free.bodies ≡ taken ++ numbers now.free.bodies
  pub lists : listed now ≡ listed before
  pub bound : now.elements ≡ before.elements
  pub room : HasFreeRoom now
  pub marked : AreMarked marks now

pub none_moved : (set : SetView) (marks : List Bool) → HasFreeRoom set → AreMarked marks set → MovedSoFar [] set set marks
none_moved set marks room marked = record { split = refl; lists = refl; bound = refl; room = room; marked = marked }

next_head : (n i : ℕ) (free now : List ℕ) (d : ℕ) → i < length free → free ≡ take n (take i free ++ now) → slice_get now 0 ≡ Some (get_or free i d)
next_head n i [] now d within is = absurd (omega (arith, within))
next_head zero i (x ∷ free) now d within is = absurd (omega (arith, ap (λ (l : List ℕ). length l) is))
next_head (suc n) zero (x ∷ free) [] d within is = absurd (omega (arith, ap (λ (l : List ℕ). length l) is))
next_head (suc n) zero (x ∷ free) (y ∷ now) d within is = ap Some (sym (first_of is))
next_head (suc n) (suc i) (x ∷ free) now d within is = next_head n i free now d (omega (arith, within)) (rest_of is)

module _ (free : List ℕ) (i : ℕ) {before now : SetView} {marks : List Bool} (so_far : MovedSoFar (take i free) before now marks) (other : ℕ) (within : i < length free) where
  pub moves_on : (after : SetView) (marks_after : List Bool) → PoppedOff (get_or free i other) now after marks_after → MovedSoFar (take (i + 1) free) before after marks_after
  moves_on after marks_after popped = record {
    split = so_far.split
        ∙ (ap (λ (l : List ℕ). take i free ++ l) (free_head now.free.bodies now.free.spare (get_or free i other) popped.head ∙ ap (λ (z : SetView). get_or free i other ∷ numbers z.free.bodies) (sym popped.set))
        ∙ (sym (append_assoc (take i free) (get_or free i other ∷ []) (numbers after.free.bodies)) ∙ ap (λ (l : List ℕ). l ++ numbers after.free.bodies) (sym (take_more free i other within))));
    lists = ap listed popped.set ∙ so_far.lists;
    bound = ap (λ (z : SetView). z.elements) popped.set ∙ so_far.bound;
    room = subst HasFreeRoom (sym popped.set) (omega (arith, so_far.room, popped_room now.free.bodies now.free.spare));
    marked = popped.marked;
  }

  pub moves_stop : (slice_get (numbers now.free.bodies) 0 ≡ Some (get_or free i other) → ⊥) → free ≡ take global_target (numbers before.free.bodies) → ⊥
  moves_stop differs is = differs (next_head global_target i free (numbers now.free.bodies) other within (is ∙ ap (take global_target) so_far.split))

-- at the end: so many were moved, or nothing is left
taken_full : (n : ℕ) (free rest : List ℕ) → length free ≡ n → (free ≡ take n (free ++ rest)) × (rest ≡ drop n (free ++ rest))
taken_full zero [] rest is = (refl, refl)
taken_full (suc n) [] rest is = absurd (omega (arith, is))
taken_full zero (x ∷ free) rest is = absurd (omega (arith, is))
taken_full (suc n) (x ∷ free) rest is = let later = taken_full n free rest (omega (arith, is)) in (ap (λ (l : List ℕ). x ∷ l) later.0, later.1)

taken_whole : (n : ℕ) (free rest : List ℕ) → length free ≤ n → rest ≡ [] → (free ≡ take n (free ++ rest)) × (rest ≡ drop n (free ++ rest))
taken_whole zero [] rest few none = (refl, refl)
taken_whole (suc n) [] [] few none = (refl, refl)
taken_whole (suc n) [] (y ∷ rest) few none = absurd (omega (arith, ap (λ (l : List ℕ). length l) none))
taken_whole zero (x ∷ free) rest few none = absurd (omega (arith, few))
taken_whole (suc n) (x ∷ free) rest few none = let later = taken_whole n free rest (omega (arith, few)) none in (ap (λ (l : List ℕ). x ∷ l) later.0, later.1)

module _ (free : List ℕ) {before now : SetView} {marks : List Bool} (so_far : MovedSoFar free before now marks) where
  moved_off : ((free ≡ take global_target (free ++ numbers now.free.bodies)) × (numbers now.free.bodies ≡ drop global_target (free ++ numbers now.free.bodies))) → MovedOff free before now marks
  moved_off are = record {
    taken = are.0 ∙ ap (take global_target) (sym so_far.split);
    left = are.1 ∙ ap (drop global_target) (sym so_far.split);
    lists = so_far.lists;
    bound = so_far.bound;
    room = so_far.room;
    marked = so_far.marked;
  }

  pub moved_full : length free ≡ global_target → MovedOff free before now marks
  moved_full is = moved_off (taken_full global_target free (numbers now.free.bodies) is)

  pub moved_ends : (left : ℕ) (none : Bool) → left ≡ length now.free.bodies → eqb left 0 ≡ none → length free ≤ global_target → length free ≢ global_target → MovingJudged free before now marks none
  moved_ends left none is end few not_full = by_test left 0 (λ b. b ≡ none → MovingJudged free before now marks none) all some end
    where
      all : left ≡ 0 → true ≡ none → MovingJudged free before now marks none
      all zero_left so =
          subst (λ (b : Bool). MovingJudged free before now marks b) so
          (moved_off (taken_whole global_target free (numbers now.free.bodies) few (ap numbers (none_left now.free.bodies (sym is ∙ zero_left)))))

      some : left ≢ 0 → false ≡ none → MovingJudged free before now marks none
      some more so =
          subst (λ (b : Bool). MovingJudged free before now marks b) so
          (λ taken.
          let long : length free ≡ min global_target (length (free ++ numbers now.free.bodies)) =
          ap (λ (l : List ℕ). length l) (taken ∙ ap (take global_target) so_far.split) ∙ length-take global_target (free ++ numbers now.free.bodies) in
          absurd (more (omega (arith, long, few, not_full, is, length-append free (numbers now.free.bodies), length-map now.free.bodies (λ (b : Stored). b.element)))))

pub all_moved : (free : List ℕ) (i : ℕ) (before now : SetView) (marks : List Bool) → MovedSoFar (take i free) before now marks → length free ≤ i → MovedSoFar free before now marks
all_moved free i before now marks so_far past = subst (λ (l : List ℕ). MovedSoFar l before now marks) (take_all i free past) so_far

pub too_many : (free rest : List ℕ) → global_target < length free → free ≡ take global_target rest → ⊥
too_many free rest many is =
    let long : length free ≡ min global_target (length rest) = ap (λ (l : List ℕ). length l) is ∙ length-take global_target rest in
    omega (arith, long, many)

-- One that comes from outside

no_more : (n : ℕ) → (0 < n → ⊥) → n ≡ 0
no_more zero none = refl
no_more (suc n) none = absurd (none (omega arith))

pub comes_in : (flush : Flush) (before off after : SetView) (marks : List Bool) (to : ListName) → IsSet before → AreMarked marks before → get_or marks flush.element false ≡ false → (IsListed flush.element before → ⊥)
    → off ≡ taken_off flush.element before → to ≡ list_of flush.bit → after ≡ moved_in (flush_row flush) to off
    → (times_on flush.element before ≡ 0) × (after ≡ moved_in (flush_row flush) (list_of flush.bit) before)
comes_in flush before off after marks to whole are unmarked unlisted off_is to_is after_is =
    let listed_none : times_listed flush.element before ≡ 0 = no_more (times_listed flush.element before) unlisted in
    let free_none : times flush.element (numbers before.free.bodies) ≡ 0 = are.each flush.element ∙ ap one unmarked in (
      omega (arith, listed_none, free_none),
      after_is ∙ (ap (λ (t : ListName). moved_in (flush_row flush) t off) to_is ∙ ap (moved_in (flush_row flush) (list_of flush.bit)) (off_is ∙ nothing_off flush.element before whole listed_none)),
    )

-- A turn

pub global_turned : (flushed : List Flush) (active inactive : List Visit) (free : List ℕ) (shrink : Option ShrinkNote) (before come turned moved after : SetView) (marks : List Bool) (hashes : List (Option ℕ)) (lawful : Bool)
    → Flushed flushed before come → lawful ≡ true → RotationJudged 128 active inactive come turned lawful → MovedOff free turned moved marks → GlobalShrunk (length free) shrink moved after hashes
    → GlobalTurned (global.Turn flushed active inactive free shrink) before after marks (Probes hashes)
unfolding with_flushed global_after
global_turned flushed active inactive free shrink before come turned moved after marks hashes lawful flushing so rotation moving shrinking = record {
  allowed = (
    flushing.allowed,
    subst (λ (z : ListSet). AreRotationVisits 128 z.lists active inactive) come_is (rotation.allowed so),
    moving.taken ∙ ap (take global_target) free_is,
    subst (AllowsGlobalShrink (length free) shrink) lists_are shrinking.allowed,
  );
  set = λ i. record {
    lists = (shrinking.lists ∙ ap (shrunk_out shrink) lists_are) i;
    free = (ap (λ (l : BodyList). numbers l.bodies) shrinking.free ∙ (moving.left ∙ ap (drop global_target) free_is)) i;
  };
  bound = shrinking.bound ∙ (moving.bound ∙ (ap (λ (z : SetView). z.elements) (rotation.set so) ∙ ap (λ (z : SetView). z.elements) flushing.set));
  room = omega (arith, moving.room, shrinking.bound, ap (λ (l : BodyList). length l.bodies + l.spare) shrinking.free);
  marked = marked_like marks moved after moving.marked shrinking.bound shrinking.free;
  noted = ap Probes (shrinking.hashes ∙ (ap (λ (l : Listed). shrink_hashes (l.active ++ l.inactive) shrink) moving.lists
      ∙ same_hashes (flushed_rows flushed ++ (before.active ++ before.inactive)) (turned.active ++ turned.inactive) (shrink_probes shrink)
      (λ e. rows_once e (flushed_rows flushed ++ (before.active ++ before.inactive)) turned permutes rotation.whole) permutes));
}
  where
    come_is : set_of come ≡ with_flushed flushed (set_of before)
    come_is = ap set_of flushing.set

    turned_is : set_of turned ≡ flushed_rotated flushed active inactive (set_of before)
    turned_is = ap set_of (rotation.set so) ∙ ap (rotated_set 128 active inactive) come_is

    free_is : numbers turned.free.bodies ≡ numbers before.free.bodies
    free_is = ap (λ (z : SetView). numbers z.free.bodies) (rotation.set so) ∙ ap (λ (z : SetView). numbers z.free.bodies) flushing.set

    lists_are : listed moved ≡ (flushed_rotated flushed active inactive (set_of before)).lists
    lists_are = moving.lists ∙ ap (λ (z : ListSet). z.lists) turned_is

    permutes : IsPermutation (flushed_rows flushed ++ (before.active ++ before.inactive)) (turned.active ++ turned.inactive)
    permutes = IsPermutation-trans _ _ _ flushing.rows rotation.rows

pub global_pushed : (e : ℕ) (before after : SetView) (marks : List Bool) (lawful : Bool) → lawful ≡ true → PushJudged e before after lawful → (lawful ≡ true → AreMarked marks after)
    → GlobalTurned (global.Push e) before after marks Nothing
unfolding global_after
global_pushed e before after marks lawful so judged marked = record {
  allowed = judged.allowed so;
  set = judged.set so;
  bound = judged.bound so;
  room = judged.room so;
  marked = marked so;
  noted = refl;
}

-- A shrink whose elements leave

pub global_shrunk : (moved : ℕ) (note : ShrinkNote) (before after : SetView) (out out_after : BodyList) (probes : List ProbeCall) (hashes : List (Option ℕ)) (lawful : Bool)
    → moved < global_target → note.target ≡ global_target - moved → lawful ≡ true → ShrinkJudged 128 note before after out out_after probes lawful
    → hashes ≡ map (λ (probe : ProbeCall). Some probe.hash) probes → GlobalShrunk moved (Some note) before after hashes
global_shrunk moved note before after out out_after probes hashes lawful fewer target so judged told = record {
  allowed = (fewer, target, judged.allowed so);
  lists = ap listed into.set;
  free = ap (λ (z : SetView). z.free) into.set;
  bound = ap (λ (z : SetView). z.elements) into.set;
  hashes = shrink_told_hashes 128 note.target before note probes hashes (judged.allowed so) into.probed told;
}
  where
    into : ShrunkInto note.looks note.forced before after out_after probes
    into = judged.into so

-- A turn that is refused at its rotation, or at its shrink

pub rotation_refused : (flushed : List Flush) (active inactive : List Visit) (free : List ℕ) (shrink : Option ShrinkNote) (before come turned : SetView) (lawful : Bool)
    → Flushed flushed before come → lawful ≡ false → RotationJudged 128 active inactive come turned lawful → AllowsOnGlobal (global.Turn flushed active inactive free shrink) (set_of before) → ⊥
unfolding with_flushed
rotation_refused flushed active inactive free shrink before come turned lawful flushing not_so rotation allowed =
    rotation.refused not_so (subst (λ (z : ListSet). AreRotationVisits 128 z.lists active inactive) (sym (ap set_of flushing.set)) allowed.1)

pub moving_refused : (flushed : List Flush) (active inactive : List Visit) (free : List ℕ) (shrink : Option ShrinkNote) (before come turned : SetView) (lawful : Bool)
    → Flushed flushed before come → lawful ≡ true → RotationJudged 128 active inactive come turned lawful → (free ≡ take global_target (numbers turned.free.bodies) → ⊥)
    → AllowsOnGlobal (global.Turn flushed active inactive free shrink) (set_of before) → ⊥
moving_refused flushed active inactive free shrink before come turned lawful flushing so rotation differs allowed =
    differs (allowed.2 ∙ ap (take global_target) (sym (ap (λ (z : SetView). numbers z.free.bodies) (rotation.set so) ∙ ap (λ (z : SetView). numbers z.free.bodies) flushing.set)))

pub shrink_refused : (flushed : List Flush) (active inactive : List Visit) (free : List ℕ) (shrink : Option ShrinkNote) (before come turned moved : SetView) (marks : List Bool) (lawful : Bool)
    → Flushed flushed before come → lawful ≡ true → RotationJudged 128 active inactive come turned lawful → MovedOff free turned moved marks → (AllowsGlobalShrink (length free) shrink (listed moved) → ⊥)
    → AllowsOnGlobal (global.Turn flushed active inactive free shrink) (set_of before) → ⊥
unfolding with_flushed
shrink_refused flushed active inactive free shrink before come turned moved marks lawful flushing so rotation moving refused allowed =
    refused (subst (AllowsGlobalShrink (length free) shrink)
    (sym (moving.lists ∙ ap (λ (z : ListSet). z.lists) (ap set_of (rotation.set so) ∙ ap (rotated_set 128 active inactive) (ap set_of flushing.set)))) allowed.3)
