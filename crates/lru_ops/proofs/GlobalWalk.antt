-- A rotation of the global lists, and a shrink into a free list, by the pass that holds their lock within that of the local lists.
use Rattle.std.proofs.Common.{inr, ◌≡◌, ℕ, ◌<◌, ◌≤◌, ◌+◌, ◌^◌, List, [], ◌∷◌, ◌++◌, map, length, sym, refl, ap, ◌∙◌, subst, Some, append_assoc, arith}
use Rattle.std.specs.Prelude.{reverse, zero, suc, All, IsPermutation, option_map, is_some}
use Rattle.std.proofs.lemmas.List.{append_cancel_left, length-append, length-map}
use Rattle.map_types.specs.declared.kind.DomainId.{DomainId}
use Rattle.map_types.specs.declared.kind.DomainId.TheVariants.{Global}
use Rattle.map_types.specs.declared.row.Row.{Row}
use Rattle.map_types.specs.ElementLists.{times, IsIn}
use Rattle.map_types.specs.Listed.{elements_of}
use Rattle.map_types.specs.Stored.{Stored, IsSized}
use Rattle.map_types.proofs.RowLemmas.{times_append}
use Rattle.percpu_values.specs.BodyList.{BodyList}
use Rattle.place_words.specs.Bodies.{numbers}
use Rattle.place_words.specs.Globals.{global_scans}
use Rattle.place_words.specs.Shrinking.{freed}
use Rattle.place_words.specs.declared.step.Lists.{Lists}
use Rattle.place_words.specs.State.{rows, rows as core_rows}
use Rattle.place_words.specs.Wholeness.{all_of}
use Rattle.place_table.specs.declared.view.Hold.{Hold}
use Rattle.place_table.specs.Contents.{FitsSet}
use Rattle.place_table.specs.Passes.{PassView, TableView}
use Rattle.place_table.specs.Plays.{HoldsLock}
use Rattle.place_table.specs.Views.{is_among, is_in_hand_of, hold_at, hold_with}
use Rattle.place_table.proofs.Entries.{append_nil}
use Rattle.place_table.proofs.Going.{same_head}
use Rattle.place_table.proofs.Worlds.{hold_at_first}
use Rattle.row_list.proofs.ElementLemmas.{times_reverse}
use Rattle.row_list.proofs.RowLemmas.{elements_append}
use Rattle.local_lists.specs.LocalLists.{LocalView, IsLocal}
use Rattle.lru_lists.specs.declared.bits.BitCall.{BitCall}
use Rattle.lru_lists.specs.declared.bits.ProbeCall.{ProbeCall}
use Rattle.lru_lists.specs.declared.notes.RotateNotes.{RotateNotes}
use Rattle.lru_lists.specs.declared.notes.ShrinkNotes.{ShrinkNotes}
use Rattle.lru_lists.specs.Sets.{SetView, IsSet, IsListed, row_on, times_listed}
use Rattle.lru_lists.proofs.SetLemmas.{listed_present}
use Rattle.lru_rotate.specs.Rotating.{Rotation, cleared as cleared_visits}
use Rattle.lru_shrink.specs.Asking.{Questions}
use Rattle.lru_shrink.specs.Shrunk.{Shrink, AreStacked, look_probes, try_probes, cleared as cleared_looks}
use Rattle.lru_ops.specs.declared.probing.Destination.{Destination}
use Rattle.lru_ops.specs.declared.probing.Destination.TheVariants.{LocalFree}
use Rattle.lru_ops.specs.Askings.{calls_noted, probes_made, held_after, lists_after, Does, hash_in, Since, MayAsk, MayChase}
use Rattle.lru_ops.specs.Evictions.{HoldsLists, HoldsFor}
use Rattle.lru_ops.specs.GlobalWork.{HoldsGlobal, CanWalk, Rotated, CanShrinkInto, ShrinksInto, ShrunkInto, both_lists}
use Rattle.lru_ops.specs.OwnTurns.{rows_on}
use Rattle.lru_ops.proofs.Asked.{log_at, log_after, only_hash_on, same_table, since_start}
use Rattle.lru_ops.proofs.LocalWalk.{left_after, left_free, left_rows, local_held, local_taken}
use Rattle.lru_ops.proofs.PassWork.{still_on}
use Rattle.lru_ops.proofs.SetWork.{stacked_on, stacked_all, stacked_rooms, length_numbers, listed_times, rows_few, taken_by, free_after, rows_after, shrink_taken, rotated_free, rotated_times, fits_rotated}

-- What a shrink stacked on what lay there

module _ {scans target : ℕ} {before after : SetView} {asked asked_after : Questions} {gives : Stored → Type 0} {out out_after : BodyList} {notes notes_after : ShrinkNotes} {answer : ℕ}
    (s : Shrink scans target gives (record { set = before; asked = asked; out = out; notes = notes }) (record { set = after; asked = asked_after; out = out_after; notes = notes_after }) answer) where
  pub stacked_times : (e : ℕ) → times e (numbers out_after.bodies) ≡ times e (freed s.looks s.forced) + times e (numbers out.bodies)
  stacked_times e =
      ap (times e) (stacked_on gives (freed s.looks s.forced) out out_after s.left)
      ∙ (times_append e (reverse (freed s.looks s.forced)) (numbers out.bodies) ∙ ap (λ (n : ℕ). n + times e (numbers out.bodies)) (times_reverse e (freed s.looks s.forced)))

  -- each element is below a bound, and on the set or on the stack once, as before
  pub stacked_below : (bound : ℕ) → IsSet before → before.elements ≡ bound → ((e : ℕ) → IsIn e (numbers out.bodies) → e < bound) → (e : ℕ) → IsIn e (numbers out_after.bodies) → e < bound
  stacked_below bound whole elements below e some = go (times e (numbers out.bodies)) refl
    where
      go : (n : ℕ) → times e (numbers out.bodies) ≡ n → e < bound
      go zero none =
          let same = stacked_times e in
          let all = s.rows e in
          subst (λ (n : ℕ). e < n) elements (whole.below e (omega (arith, some, same, all, none)))
      go (suc n) is = below e (omega (arith, is))

  pub stacked_apart : (e : ℕ) → times_listed e before + times e (numbers out.bodies) ≤ 1 → times_listed e after + times e (numbers out_after.bodies) ≤ 1
  stacked_apart e once =
      let same = stacked_times e in
      let all = s.rows e in
      omega (arith, same, all, once)

-- Local lists have room for all that is listed on the set

pub free_rows : List ℕ → List Row
free_rows elements = map (λ (e : ℕ). record { element = e; hash = 0 }) elements

pub elements_of_free : (elements : List ℕ) → elements_of (free_rows elements) ≡ elements
unfolding free_rows
elements_of_free [] = refl
elements_of_free (e ∷ elements) = ap (λ (l : List ℕ). e ∷ l) (elements_of_free elements)

pub length_free : (elements : List ℕ) → length (free_rows elements) ≡ length elements
unfolding free_rows
length_free elements = length-map elements (λ (e : ℕ). record { element = e; hash = 0 })

pub local_room : (t : TableView) (set : SetView) (lists : LocalView) (p : PassView) → CanShrinkInto t set lists p → length set.active + length set.inactive ≤ lists.free.spare
local_room t set lists p into =
    let free : List ℕ = numbers lists.free.bodies in
    let all : List Row = free_rows free ++ rows_on set in
    let elements : elements_of all ≡ free ++ elements_of (rows_on set) = elements_append (free_rows free) (rows_on set) ∙ ap (λ (l : List ℕ). l ++ elements_of (rows_on set)) (elements_of_free free) in
    let counts : (e : ℕ) → times e (elements_of all) ≡ times e free + times_listed e set = (λ e. ap (times e) elements ∙ (times_append e free (elements_of (rows_on set)) ∙ ap (λ (n : ℕ). times e free + n) (listed_times e set))) in
    let once : (e : ℕ) → times e (elements_of all) ≤ 1 = (λ e. let parts = counts e in let few = into.apart e in omega (arith, parts, few)) in
    let countable : t.shape.elements < 2 ^ 32 = subst (λ (n : ℕ). n < 2 ^ 32) into.bound into.whole.countable in
    let few : length all ≤ t.shape.elements = rows_few t.shape.elements all countable once (λ e some. below_all e (subst (λ (n : ℕ). 0 < n) (counts e) some)) in
    let parts : length all ≡ length free + length (rows_on set) = length-append (free_rows free) (rows_on set) ∙ ap (λ (n : ℕ). n + length (rows_on set)) (length_free free) in
    let both : length (rows_on set) ≡ length set.active + length set.inactive = length-append set.active set.inactive in
    let bodies : length free ≡ length lists.free.bodies = length_numbers lists.free.bodies in
    let room = into.room in
    omega (arith, few, parts, both, bodies, room)
  where
    below_all : (e : ℕ) → 0 < times e (numbers lists.free.bodies) + times_listed e set → e < t.shape.elements
    below_all e some = go (times e (numbers lists.free.bodies)) refl
      where
        go : (n : ℕ) → times e (numbers lists.free.bodies) ≡ n → e < t.shape.elements
        go zero none = subst (λ (n : ℕ). e < n) into.walk.fits.bound (into.walk.fits.whole.below e (omega (arith, some, none)))
        go (suc n) is = subst (λ (n : ℕ). e < n) into.bound (into.whole.below e (omega (arith, is)))

-- Before the walk

module _ {t : TableView} {set : SetView} {p : PassView} (can : CanWalk t set p) where
  walk_in : (e : ℕ) → IsListed e set → IsIn e (rows can.holds.lists.hold.now)
  walk_in e listed = subst (λ (n : ℕ). 0 < n) (sym (can.same_rows e)) listed

  walk_real : (e : ℕ) → IsListed e set → e < t.shape.elements
  walk_real e listed = subst (λ (n : ℕ). e < n) can.fits.bound (can.fits.whole.below e (omega (arith, listed)))

  -- both locks are held
  both_held : p.view.held ≡ can.holds.lists.hold ∷ can.holds.local ∷ []
  both_held = can.holds.lists.held ∙ ap (λ (l : List Hold). can.holds.lists.hold ∷ l) can.holds.around

  pub since_global : {to : Destination} {lock : DomainId} {rows : List Row} {start : PassView} → start ≡ p → lock ≡ Global → to ≡ LocalFree → rows ≡ rows_on set → Since t to lock rows start p
  since_global start_is lock_is to_is rows_are =
      subst (λ (z : Destination × DomainId × List Row × PassView). Since t z.0 z.1 z.2 z.3 p) (λ i. (sym to_is i, sym lock_is i, sym rows_are i, sym start_is i))
      (since_start t LocalFree Global (rows_on set) p can.holds.lists (refl, can.holds.local_there, (can.holds.lists.hold, can.holds.local, both_held, can.holds.local_is, can.holds.local_cpu)))

  -- each listed element may be asked of
  pub may_ask : (e : ℕ) → IsListed e set → MayAsk t p e
  may_ask e listed =
      let h = can.holds.lists in
      let global : HoldsLock t.shape p.view p.cpu Global = record {
        hold = h.hold;
        there = h.there;
        held = (λ i. hold_at (sym h.lock_is i) (h.held i)) ∙ hold_at_first h.hold h.outer;
        cpu_is = h.cpu_is;
      } in
      let inside : IsIn e (all_of h.hold.now) =
      (let some = walk_in e listed in
      let parts = times_append e h.hold.now.free (rows h.hold.now) in
      omega (arith, some, parts)) in
      (walk_real e listed, inr (h.evicts, (Global, (global, refl, inside))))

  -- and each row may be probed
  pub may_chase : (row : Row) → row_on row.element set ≡ Some row → MayChase t (rows_on set) p row
  may_chase row found =
      let h = can.holds.lists in
      let listed : IsListed row.element set = (listed_present row.element set).0 (ap is_some found) in (
        ap (option_map (λ (r : Row). r.hash)) found,
        record {
          real = walk_real row.element listed;
          hold = h.hold;
          outer = h.outer;
          held = h.held;
          listed = walk_in row.element listed;
          hashed = can.hashed row found;
          in_no_hand = λ cpu among. can.in_no_hand row.element cpu listed among;
        },
      )

-- After it

pub same_tail : {A : Type 0} {x y : A} {xs ys : List A} → x ∷ xs ≡ y ∷ ys → xs ≡ ys
same_tail e = cc

pub same_second : {A : Type 0} {x y a b : A} {xs ys : List A} → x ∷ a ∷ xs ≡ y ∷ b ∷ ys → a ≡ b
same_second e = cc

holds_global : {t : TableView} {p : PassView} → HoldsLists t Global p → HoldsFor t LocalFree Global p → HoldsGlobal t p
holds_global h for = record {
  lists = h;
  local_there = for.1;
  local = for.2.1;
  around = same_tail (sym h.held ∙ for.2.2);
  local_is = for.2.3;
  local_cpu = for.2.4;
}

module _ {t u : TableView} {to : Destination} {lock : DomainId} {rows : List Row} {start p q : PassView} {before : SetView} (can : CanWalk t before p)
    (is : start ≡ p) (lock_is : lock ≡ Global) (to_is : to ≡ LocalFree) (rows_are : rows ≡ rows_on before) (since : Since u to lock rows start q) where
  pub one_table : u ≡ t
  one_table = same_table t u to lock rows start p q can.holds.lists.of_table is since

  pub at_end : Since t LocalFree Global (rows_on before) p q
  at_end = subst (λ (z : TableView × Destination × DomainId × List Row × PassView). Since z.0 z.1 z.2 z.3 z.4 q) (λ i. (one_table i, to_is i, lock_is i, rows_are i, is i)) since

  -- what was asked of the pass is what the walks asked
  pub calls_made : (made : List BitCall) → calls_noted q.view.notes ≡ calls_noted p.view.notes ++ made → at_end.calls ≡ made
  calls_made made asked = append_cancel_left (calls_noted p.view.notes) at_end.calls made (sym at_end.calls_are ∙ asked)

  pub probes_asked : (made : List ProbeCall) → probes_made (hash_in rows) q.view.steps ≡ probes_made (hash_in rows) p.view.steps ++ made → at_end.probes ≡ made
  probes_asked made probed =
      append_cancel_left (probes_made (hash_in (rows_on before)) p.view.steps) at_end.probes made
      (sym at_end.probes_are ∙ subst (λ (l : List Row). probes_made (hash_in l) q.view.steps ≡ probes_made (hash_in l) p.view.steps ++ made) rows_are probed)

  held_end : q.view.held ≡ hold_with can.holds.lists.hold (left_after at_end.probes can.holds.lists.hold.now) ∷ hold_with can.holds.local (lists_after at_end.probes can.holds.local.now) ∷ []
  held_end = at_end.does.held ∙ (ap (held_after LocalFree at_end.probes) (both_held can) ∙ local_held at_end.probes can.holds.lists.hold can.holds.local)

  global_end : (h : HoldsGlobal t q) → h.lists.hold.now ≡ left_after at_end.probes can.holds.lists.hold.now
  global_end h = ap (λ (z : Hold). z.now) (same_head (sym h.lists.held ∙ held_end))

  pub local_end : (h : HoldsGlobal t q) → h.local.now ≡ lists_after at_end.probes can.holds.local.now
  local_end h = ap (λ (z : Hold). z.now) (same_second (sym (h.lists.held ∙ ap (λ (l : List Hold). h.lists.hold ∷ l) h.around) ∙ held_end))

  -- the set without what was removed may be walked again
  pub walks_on : (after : SetView) → FitsSet t.shape after → after.free ≡ before.free → ((e : ℕ) → times_listed e after + times e (taken_by at_end.probes) ≡ times_listed e before) → ((row : Row) → row_on row.element after ≡ Some row → row_on row.element before ≡ Some row) → CanWalk t after q
  walks_on after fits free counts was =
      let h : HoldsGlobal t q = holds_global at_end.holds at_end.holds_for in
      let d = at_end.does in
      record {
        holds = h;
        fits = fits;
        same_free = ap (λ (l : Lists). l.free) (global_end h) ∙ (left_free at_end.probes can.holds.lists.hold.now ∙ (can.same_free ∙ ap (λ (z : BodyList). numbers z.bodies) (sym free)));
        same_rows = λ e.
            let now = ap (λ (l : Lists). times e (core_rows l)) (global_end h) in
            let same = can.same_rows e in
            let once = can.fits.whole.once e in
            let left = left_rows e at_end.probes can.holds.lists.hold.now (omega (arith, same, once)) in
            let count = counts e in
            now ∙ left ∙ (omega (arith, same, count));
        hashed = λ row found. only_hash_on t.shape p.view q.view row.element row.hash (λ k. ap (log_at k) d.held ∙ log_after LocalFree at_end.probes k p.view.held) (can.hashed row (was row found));
        in_no_hand = λ e cpu listed among.
            let count = counts e in
            ap (is_in_hand_of e cpu) (d.hand ∙ local_taken p.cpu at_end.probes p.view.hand) ∙ can.in_no_hand e cpu (omega (arith, listed, count)) (ap (is_among cpu) (sym d.goes.cpus) ∙ among);
      }

  -- a rotation
  pub rotated_global : {middle : SetView} {turning turning_after : RotateNotes} → (r : Rotation global_scans before middle (calls_noted p.view.notes) (calls_noted q.view.notes) turning turning_after) → IsPermutation (rows_on before) (rows_on middle) → IsSet middle
      → probes_made (hash_in rows) q.view.steps ≡ probes_made (hash_in rows) p.view.steps → Rotated t before middle turning turning_after p q
  rotated_global {middle} r moved whole probed =
      let none : at_end.probes ≡ [] = probes_asked [] (probed ∙ sym (append_nil (probes_made (hash_in rows) p.view.steps))) in
      record {
        calls = at_end.calls;
        rotation = record {
          active = r.active;
          inactive = r.inactive;
          visits = r.visits;
          set = r.set;
          asked = calls_made (cleared_visits (r.active ++ r.inactive)) r.asked;
          noted_active = r.noted_active;
          noted_inactive = r.noted_inactive;
          few = r.few;
          unset = r.unset;
          others = r.others;
        };
        rows = moved;
        does = subst (λ (l : List ProbeCall). Does t LocalFree (rows_on before) at_end.calls l p q) none at_end.does;
        leaves = walks_on middle (fits_rotated can.fits r moved whole) (rotated_free can.fits r moved whole)
            (λ e. let gone = ap (λ (l : List ProbeCall). times e (taken_by l)) none in let same = rotated_times before middle moved e in omega (arith, gone, same))
            (λ row found. still_on before middle can.fits.whole moved row found);
      }

-- a shrink into the local free list
module _ {t u : TableView} {to : Destination} {lock : DomainId} {rows : List Row} {start p q : PassView} {before after : SetView} {lists lists_after : LocalView} {target : ℕ} {shrinking shrinking_after : ShrinkNotes}
    (into : CanShrinkInto t before lists p) (is : start ≡ p) (lock_is : lock ≡ Global) (to_is : to ≡ LocalFree) (rows_are : rows ≡ rows_on before) (since : Since u to lock rows start q)
    (s : ShrinksInto target (IsSized u.shape) (record { set = before; lists = lists; asked = record { calls = calls_noted p.view.notes; probes = probes_made (hash_in rows) p.view.steps }; notes = shrinking })
    (record { set = after; lists = lists_after; asked = record { calls = calls_noted q.view.notes; probes = probes_made (hash_in rows) q.view.steps }; notes = shrinking_after }))
    (whole : IsSet after) (local_whole : IsLocal lists_after) where
  abbrev gone : List ℕ
  gone = freed s.shrink.looks s.shrink.forced

  abbrev made : List ProbeCall
  made = look_probes before s.shrink.looks ++ try_probes before s.shrink.forced

  same : u ≡ t
  same = one_table into.walk is lock_is to_is rows_are since

  abbrev end : Since t LocalFree Global (rows_on before) p q
  end = at_end into.walk is lock_is to_is rows_are since

  probes_are : end.probes ≡ made
  probes_are =
      probes_asked into.walk is lock_is to_is rows_are since made
      (s.shrink.probed ∙ append_assoc (probes_made (hash_in rows) p.view.steps) (look_probes before s.shrink.looks) (try_probes before s.shrink.forced))

  taken : taken_by end.probes ≡ gone
  taken = ap taken_by probes_are ∙ shrink_taken before s.shrink.looks s.shrink.forced

  same_free : after.free ≡ before.free
  same_free = ap (λ (z : SetView). z.free) s.shrink.set

  fits_after : FitsSet t.shape after
  fits_after =
      let fits = into.walk.fits in
      record {
        sized = subst (λ (z : BodyList). All (IsSized t.shape) z.bodies) (sym same_free) fits.sized;
        bound = ap (λ (z : SetView). z.elements) s.shrink.set ∙ fits.bound;
        room = ap (λ (z : BodyList). length z.bodies + z.spare) same_free ∙ fits.room;
        whole = whole;
      }

  row_was : (row : Row) → row_on row.element after ≡ Some row → row_on row.element before ≡ Some row
  row_was row found =
      let listed : IsListed row.element after = (listed_present row.element after).0 (ap is_some found) in
      let all = s.shrink.rows row.element in
      let once = into.walk.fits.whole.once row.element in
      let kept : times row.element gone ≡ 0 = omega (arith, listed, all, once) in
      sym (s.shrink.same_rows row.element kept) ∙ found

  walk_after : CanWalk t after q
  walk_after =
      walks_on into.walk is lock_is to_is rows_are since after fits_after same_free
      (λ e. let all = s.shrink.rows e in let out = ap (times e) taken in omega (arith, all, out)) row_was

  leaves : CanShrinkInto t after lists_after q
  leaves = record {
    walk = walk_after;
    sized = subst (λ (z : LocalView). All (IsSized t.shape) z.free.bodies) (sym s.lists_are)
        (stacked_all (IsSized t.shape) (IsSized u.shape) gone lists.free s.free s.shrink.left (λ body sized. subst (λ (z : TableView). IsSized z.shape body) same sized) into.sized);
    bound = ap (λ (z : LocalView). z.elements) s.lists_are ∙ into.bound;
    room = ap (λ (z : LocalView). length z.free.bodies + z.free.spare) s.lists_are ∙ (stacked_rooms (IsSized u.shape) gone lists.free s.free s.shrink.left ∙ into.room);
    whole = local_whole;
    none_pending = ap (λ (z : LocalView). z.pending) s.lists_are ∙ into.none_pending;
    same_free =
        ap (λ (l : Lists). l.free) (local_end into.walk is lock_is to_is rows_are since walk_after.holds)
        ∙ (free_after end.probes into.walk.holds.local.now
        ∙ ((λ i. reverse (taken i) ++ into.same_free i)
        ∙ (sym (stacked_on (IsSized u.shape) gone lists.free s.free s.shrink.left) ∙ ap (λ (z : LocalView). numbers z.free.bodies) (sym s.lists_are))));
    no_rows = λ e.
        let now = ap (λ (l : Lists). times e (core_rows l)) (local_end into.walk is lock_is to_is rows_are since walk_after.holds) in
        let none = into.no_rows e in
        let left = rows_after e end.probes into.walk.holds.local.now (omega (arith, none)) in
        now ∙ left ∙ omega (arith, none);
    apart = λ e. subst (λ (z : LocalView). times_listed e after + times e (numbers z.free.bodies) ≤ 1) (sym s.lists_are) (stacked_apart s.shrink e (into.apart e));
  }

  pub shrunk_into : ShrunkInto t target (both_lists before lists p) (both_lists after lists_after q) shrinking shrinking_after
  shrunk_into = record {
    calls = end.calls;
    probes = end.probes;
    shrinks = record {
      free = s.free;
      answer = s.answer;
      shrink = record {
        looks = s.shrink.looks;
        forced = s.shrink.forced;
        shrinks = s.shrink.shrinks;
        set = s.shrink.set;
        left = subst (λ (z : TableView). AreStacked (IsSized z.shape) gone lists.free s.free) same s.shrink.left;
        count = s.shrink.count;
        asked = calls_made into.walk is lock_is to_is rows_are since (cleared_looks s.shrink.looks) s.shrink.asked;
        probed = probes_are;
        noted_looks = s.shrink.noted_looks;
        noted_forced = s.shrink.noted_forced;
        few_looks = s.shrink.few_looks;
        few_tries = s.shrink.few_tries;
        enough = s.shrink.enough;
        rows = s.shrink.rows;
        same_rows = s.shrink.same_rows;
        number = s.shrink.number;
        spared = s.shrink.spared;
      };
      lists_are = s.lists_are;
    };
    does = end.does;
    leaves = leaves;
  }
