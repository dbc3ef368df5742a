-- The whole work under both locks in a turn of the global lists that fills local lists: all that was pending is flushed, the global
-- lists are rotated, free elements move over, and a shrink frees what lacks.
use Rattle.std.proofs.Common.{◌≡◌, ℕ, ◌<◌, ◌≤◌, ◌+◌, ◌-◌, List, [], ◌∷◌, ◌++◌, map, length, sym, refl, ap, ◌∙◌, subst, Some, arith}
use Rattle.std.specs.Prelude.{min, reverse}
use Rattle.std.proofs.lemmas.List.{length-take}
use Rattle.std.proofs.lemmas.List.Elements.{All-weaker}
use Rattle.map_types.specs.declared.attr.Shape.{Shape}
use Rattle.map_types.specs.declared.row.Row.{Row}
use Rattle.map_types.specs.ElementLists.{times}
use Rattle.map_types.specs.Listed.{elements_of}
use Rattle.place_words.specs.declared.visits.Flush.{Flush}
use Rattle.place_words.specs.declared.visits.Visit.{Visit}
use Rattle.place_words.specs.Bodies.{numbers}
use Rattle.place_words.specs.Globals.{AllowsOnGlobal, flush_visit, flushed_elements, flushed_rows, global_after, global_target}
use Rattle.place_words.specs.Histories.{looks_told}
use Rattle.place_words.specs.Sets.{ListSet}
use Rattle.place_words.specs.Shrinking.{freed}
use Rattle.place_words.specs.Takings.{stored_hash}
use Rattle.place_words.specs.declared.step.Lists.{Lists}
use Rattle.place_words.specs.State.{rows}
use Rattle.place_table.specs.declared.view.Hold.{Hold}
use Rattle.place_table.specs.declared.view.Notes.{Notes}
use Rattle.place_table.specs.declared.view.Turned.{Turned}
use Rattle.place_table.specs.Calls.{clears_found}
use Rattle.place_table.specs.Contents.{FitsLocal, set_told}
use Rattle.place_table.specs.Known.{BitTouch, Learns}
use Rattle.place_table.specs.Passes.{PassView, TableView, Goes}
use Rattle.place_table.specs.TurnNotes.{HasOnlyHash}
use Rattle.place_table.specs.Views.{no_notes, hold_with}
use Rattle.place_table.proofs.Entries.{append_nil}
use Rattle.place_table.proofs.Going.{goes_on, learns_on, same_head}
use Rattle.local_lists.specs.LocalLists.{LocalView}
use Rattle.lru_lists.specs.declared.bits.BitCall.{BitCall}
use Rattle.lru_lists.specs.declared.bits.BitCall.TheVariants as calls
use Rattle.lru_lists.specs.declared.bits.ProbeCall.{ProbeCall}
use Rattle.lru_lists.specs.declared.notes.Noted.{Noted}
use Rattle.lru_lists.specs.declared.notes.RotateNotes.{RotateNotes}
use Rattle.lru_lists.specs.declared.notes.ShrinkNotes.{ShrinkNotes}
use Rattle.lru_lists.specs.Sets.{SetView, times_on as times_on_set}
use Rattle.lru_ops.specs.declared.probing.Destination.TheVariants.{LocalFree}
use Rattle.lru_ops.specs.Askings.{AreEvicts, Does, held_after, lists_after, notes_after, came_after}
use Rattle.lru_ops.specs.Evictions.{SawHolders}
use Rattle.lru_ops.specs.Filling.{AreFresh, FilledUp, MovedAll, MovesFree, turn_told, CanFill, Flushes, FlushedAll, flushed_notes, off_notes}
use Rattle.lru_ops.specs.GlobalWork.{HoldsGlobal, Rotated, both_lists}
use Rattle.lru_ops.specs.OwnTurns.{rows_on}
use Rattle.lru_ops.proofs.Asked.{log_at, log_first, only_hash_on}
use Rattle.lru_ops.proofs.FilledOn.{same_tail}
use Rattle.lru_ops.proofs.FilledSets.{are_flushed, asked_in_a_row, bits_in_a_row, flushed_stored, flushed_times, free_filled, stored_before, turn_allowed, turn_left}
use Rattle.lru_ops.proofs.Flushes.{same_second}
use Rattle.lru_ops.proofs.GivingOut.{touches_of}
use Rattle.lru_ops.proofs.Holders.{saw_on}
use Rattle.lru_ops.proofs.Lacking.{Lacked, lacking_note}
use Rattle.lru_ops.proofs.LocalWalk.{left_after, local_came, local_held, local_taken}
use Rattle.lru_ops.proofs.SetWork.{taken_by}

-- What a part of the work leaves of the pass that holds both locks, beside notes: it made these turns, and these steps on bits.
record LeavesBoth (t : TableView) (turns : List Turned) (touches : List BitTouch) (p q : PassView) : Type 0 where
  goes : Goes p q turns []
  global : Hold
  local : Hold
  was : p.view.held ≡ global ∷ local ∷ []
  global_now : Lists
  local_now : Lists
  held : q.view.held ≡ hold_with global global_now ∷ hold_with local local_now ∷ []
  hand : q.view.hand ≡ p.view.hand
  carried : q.view.carried ≡ p.view.carried
  spares : q.spares ≡ p.spares
  saw : SawHolders t.shape p q turns
  learns : Learns t.shape p.view q.view turns touches

leaves_on : {t : TableView} {turns more : List Turned} {touches others : List BitTouch} {p q r : PassView} → LeavesBoth t turns touches p q → LeavesBoth t more others q r → LeavesBoth t (turns ++ more) (touches ++ others) p r
leaves_on {t} {turns} {more} {touches} {others} {p} {q} {r} a b =
    let global : b.global ≡ hold_with a.global a.global_now = same_head (sym b.was ∙ a.held) in
    let local : b.local ≡ hold_with a.local a.local_now = same_second (sym b.was ∙ a.held) in
    record {
      goes = goes_on p q r turns more [] [] a.goes b.goes;
      global = a.global;
      local = a.local;
      was = a.was;
      global_now = b.global_now;
      local_now = b.local_now;
      held = b.held ∙ (λ i. hold_with (global i) b.global_now ∷ hold_with (local i) b.local_now ∷ []);
      hand = b.hand ∙ a.hand;
      carried = b.carried ∙ a.carried;
      spares = b.spares ∙ a.spares;
      saw = saw_on t.shape p q r turns more a.saw b.saw;
      learns = learns_on t.shape p.view q.view r.view turns more touches others a.learns b.learns;
    }

-- of flushes, of a walk, and of free elements that move
leaves_flushed : {t : TableView} {flushed : List Flush} {p q : PassView} → Flushes t flushed p q → LeavesBoth t [] (map clears_found (map flush_visit flushed)) p q
leaves_flushed f = record {
  goes = f.goes;
  global = f.global;
  local = f.local;
  was = f.was;
  global_now = f.global_now;
  local_now = f.local_now;
  held = f.held;
  hand = f.hand;
  carried = f.carried;
  spares = f.spares;
  saw = f.saw;
  learns = f.learns;
}

leaves_moved : {t : TableView} {moved : List ℕ} {p q : PassView} → MovesFree t moved p q → LeavesBoth t [] [] p q
leaves_moved m = record {
  goes = m.goes;
  global = m.global;
  local = m.local;
  was = m.was;
  global_now = m.global_now;
  local_now = m.local_now;
  held = m.held;
  hand = m.hand;
  carried = m.carried;
  spares = m.spares;
  saw = m.saw;
  learns = m.learns;
}

leaves_walked : {t : TableView} {walked : List Row} {probes : List ProbeCall} {p q : PassView} (cleared : List Visit) (d : Does t LocalFree walked (map calls.Cleared cleared) probes p q) (global local : Hold) → p.view.held ≡ global ∷ local ∷ []
    → LeavesBoth t d.turns (map clears_found cleared) p q
leaves_walked {t} {walked} {probes} {p} {q} cleared d global local was = record {
  goes = d.goes;
  global = global;
  local = local;
  was = was;
  global_now = left_after probes global.now;
  local_now = lists_after probes local.now;
  held = d.held ∙ (ap (held_after LocalFree probes) was ∙ local_held probes global local);
  hand = d.hand ∙ local_taken p.cpu probes p.view.hand;
  carried = d.carried ∙ local_taken p.cpu probes p.view.carried;
  spares = d.spares;
  saw = d.saw;
  learns = subst (Learns t.shape p.view q.view d.turns) (touches_of cleared) d.learns;
}

-- a walk without probes makes no turn
no_evicts : (shape : Shape) (cpu call : ℕ) (walked : List Row) (turns : List Turned) → AreEvicts shape cpu call walked [] turns → turns ≡ []
no_evicts shape cpu call walked [] are = refl
no_evicts shape cpu call walked (turn ∷ turns) are = absurd are

-- The logs of what is held don't change.
logs_both : {t : TableView} {turns : List Turned} {touches : List BitTouch} {p q : PassView} → LeavesBoth t turns touches p q → (k : ℕ) → log_at k q.view.held ≡ log_at k p.view.held
logs_both a k =
    ap (log_at k) a.held
    ∙ (log_first k a.global a.global_now (a.local ∷ []) (hold_with a.local a.local_now ∷ []) (log_first k a.local a.local_now [] [] refl)
    ∙ ap (log_at k) (sym a.was))

-- Notes, of the turn and of the one around it

noted_flushed : {t : TableView} {flushed : List Flush} {p q : PassView} (f : Flushes t flushed p q) (n m : Notes) (below : List Notes) → p.view.notes ≡ n ∷ m ∷ below → q.view.notes ≡ flushed_notes flushed f.came n ∷ off_notes flushed m ∷ below
noted_flushed {t} {flushed} f n m below was =
    let same = sym f.was_noted ∙ was in
    f.noted ∙ (λ i. flushed_notes flushed f.came (same_head same i) ∷ off_notes flushed (same_second same i) ∷ same_tail (same_tail same) i)

noted_walked : {t : TableView} {walked : List Row} {cleared : List BitCall} {probes : List ProbeCall} {p q : PassView} → Does t LocalFree walked cleared probes p q → (n m : Notes) (below : List Notes) → p.view.notes ≡ n ∷ m ∷ below
    → q.view.notes ≡ notes_after LocalFree cleared probes n ∷ record m { came = reverse (taken_by probes) ++ m.came } ∷ below
noted_walked {cleared = cleared} {probes = probes} d n m below was =
    let same = sym d.was_noted ∙ was in
    d.noted ∙ ((λ i. notes_after LocalFree cleared probes (same_head same i) ∷ came_after LocalFree probes (same_tail same i)) ∙ ap (λ (l : List Notes). notes_after LocalFree cleared probes n ∷ l) (local_came probes m below))

noted_moved : {t : TableView} {moved : List ℕ} {p q : PassView} → MovesFree t moved p q → (n m : Notes) (below : List Notes) → p.view.notes ≡ n ∷ m ∷ below → q.view.notes ≡ n ∷ record m { came = reverse moved ++ m.came } ∷ below
noted_moved {moved = moved} f n m below was =
    let same = sym f.was_noted ∙ was in
    f.noted ∙ (λ i. same_head same i ∷ record (same_second same i) { came = reverse moved ++ (same_second same i).came } ∷ same_tail (same_tail same) i)

-- The whole work

module _ {t : TableView} {set flushed_set rotated moved_set out : SetView} {lists flushed_lists moved_lists lists_out : LocalView} {flushing flushing_after : Noted Flush} {turning turning_after : RotateNotes} {moving moving_after : Noted ℕ} {shrinking shrinking_after : ShrinkNotes} {q u v w s : PassView} {count target : ℕ}
    (can : CanFill t set lists q) (none_free : lists.free.bodies ≡ []) (fresh : AreFresh q) (f : FlushedAll t (both_lists set lists q) (both_lists flushed_set flushed_lists u) flushing flushing_after) (r : Rotated t flushed_set rotated turning turning_after u v)
    (m : MovedAll t (both_lists rotated flushed_lists v) (both_lists moved_set moved_lists w) moving moving_after count) (target_is : target ≡ global_target - count) (l : Lacked t target moved_set out moved_lists lists_out shrinking shrinking_after w s) where
  abbrev active : List Visit
  active = r.rotation.active

  abbrev inactive : List Visit
  inactive = r.rotation.inactive

  abbrev looked : List Visit
  looked = looks_told (lacking_note target l.looks l.forced)

  abbrev gone : List ℕ
  gone = freed l.looks l.forced

  -- the sets
  apart : (e : ℕ) → times_on_set e set + times e (flushed_elements f.flushed) ≤ 1
  apart e =
      let once = can.apart e in
      let same = flushed_times e f.flushed lists.pending f.with_hashes in
      omega (arith, once, same)

  pending_once : (e : ℕ) → times e (elements_of lists.pending) ≤ 1
  pending_once e = let once = can.apart e in omega (arith, once)

  turn_may : AllowsOnGlobal (turn_told f.flushed active inactive m.moved target l.looks l.forced) (set_told set)
  turn_may =
      turn_allowed set flushed_set rotated moved_set out f.flushed active inactive m.moved (lacking_note target l.looks l.forced) f.set_is (ap set_told r.rotation.set) m.set_is l.set_is
      (are_flushed set f.flushed apart) r.rotation.visits m.moved_are (l.allowed (length m.moved) (target_is ∙ ap (λ (n : ℕ). global_target - n) m.count_is))

  turn_leaves : global_after (turn_told f.flushed active inactive m.moved target l.looks l.forced) (set_told set) ≡ set_told out
  turn_leaves = turn_left set flushed_set rotated moved_set out f.flushed active inactive m.moved (lacking_note target l.looks l.forced) f.set_is (ap set_told r.rotation.set) m.set_is l.set_is

  stored_there : (e h : ℕ) → stored_hash e (rows_on moved_set) ≡ Some h → stored_hash e (flushed_rows f.flushed ++ rows_on set) ≡ Some h
  stored_there = stored_before set flushed_set rotated moved_set f.flushed f.set_is r.rows (ap (λ (z : ListSet). z.lists) m.set_is) apart

  -- the local lists
  steal_same : lists_out.steal ≡ lists.steal
  steal_same = l.steal_is ∙ (m.steal_is ∙ ap (λ (z : LocalView). z.steal) f.lists_are)

  free_out : numbers lists_out.free.bodies ≡ reverse (m.moved ++ gone)
  free_out =
      let empty : numbers flushed_lists.free.bodies ≡ [] = ap (λ (z : LocalView). numbers z.free.bodies) f.lists_are ∙ ap numbers none_free in
      l.free_is ∙ ((λ i. reverse gone ++ (m.free_is ∙ ap (λ (z : List ℕ). reverse m.moved ++ z) empty) i) ∙ free_filled m.moved gone)

  fits_out : FitsLocal t.shape lists_out
  fits_out = record {
    sized = l.leaves.sized;
    bound = l.leaves.bound;
    room = l.leaves.room;
    whole = l.leaves.whole;
    steal = subst (λ (n : ℕ). n < t.shape.cpus) (sym steal_same) can.fits.steal;
  }

  -- the pass
  rotated_calls : r.calls ≡ map calls.Cleared (active ++ inactive)
  rotated_calls = r.rotation.asked

  rotates : Does t LocalFree (rows_on flushed_set) (map calls.Cleared (active ++ inactive)) [] u v
  rotates = subst (λ (c : List BitCall). Does t LocalFree (rows_on flushed_set) c [] u v) rotated_calls r.does

  to_rotated : LeavesBoth t [] (map clears_found (active ++ inactive)) u v
  to_rotated =
      subst (λ (z : List Turned). LeavesBoth t z (map clears_found (active ++ inactive)) u v) (no_evicts t.shape u.cpu u.call (rows_on flushed_set) rotates.turns rotates.are_evicts)
      (leaves_walked (active ++ inactive) rotates (hold_with f.flushes.global f.flushes.global_now) (hold_with f.flushes.local f.flushes.local_now) f.flushes.held)

  to_moved : LeavesBoth t [] ((map clears_found (map flush_visit f.flushed) ++ map clears_found (active ++ inactive)) ++ []) q w
  to_moved = leaves_on (leaves_on (leaves_flushed f.flushes) to_rotated) (leaves_moved m.moves)

  to_end : LeavesBoth t l.does.turns (((map clears_found (map flush_visit f.flushed) ++ map clears_found (active ++ inactive)) ++ []) ++ map clears_found looked) q s
  to_end = leaves_on to_moved (leaves_walked looked l.does (hold_with m.moves.global m.moves.global_now) (hold_with m.moves.local m.moves.local_now) m.moves.held)

  evicts : AreEvicts t.shape q.cpu q.call (rows_on moved_set) l.probes l.does.turns
  evicts = subst (λ (z : ℕ × ℕ). AreEvicts t.shape z.0 z.1 (rows_on moved_set) l.probes l.does.turns) (λ i. (to_moved.goes.cpu i, to_moved.goes.call i)) l.does.are_evicts

  -- the holds at the end
  abbrev end : HoldsGlobal t s
  end = l.leaves.walk.holds

  held_end : end.lists.hold ∷ end.local ∷ [] ≡ hold_with to_end.global to_end.global_now ∷ hold_with to_end.local to_end.local_now ∷ []
  held_end = sym (end.lists.held ∙ ap (λ (z : List Hold). end.lists.hold ∷ z) end.around) ∙ to_end.held

  global_end : to_end.global_now ≡ end.lists.hold.now
  global_end = ap (λ (h : Hold). h.now) (sym (same_head held_end))

  local_end : to_end.local_now ≡ end.local.now
  local_end = ap (λ (h : Hold). h.now) (sym (same_second held_end))

  -- its notes
  abbrev first_notes : Notes
  first_notes = flushed_notes f.flushed f.flushes.came no_notes

  abbrev first_around : Notes
  first_around = off_notes f.flushed no_notes

  abbrev turned_notes : Notes
  turned_notes = notes_after LocalFree (map calls.Cleared (active ++ inactive)) [] first_notes

  abbrev moved_around : Notes
  moved_around = record first_around { came = reverse m.moved ++ first_around.came }

  noted_end : s.view.notes ≡ notes_after LocalFree (map calls.Cleared looked) l.probes turned_notes ∷ record moved_around { came = reverse (taken_by l.probes) ++ moved_around.came } ∷ fresh.0
  noted_end =
      noted_walked l.does turned_notes moved_around fresh.0
      (noted_moved m.moves turned_notes first_around fresh.0
      (noted_walked rotates first_notes first_around fresh.0
      (noted_flushed f.flushes no_notes no_notes fresh.0 fresh.1)))

  pub filled_up : FilledUp t (both_lists set lists q) (both_lists out lists_out s) (record { flushed = flushing; turning = turning; moved = moving; shrinking = shrinking }) (record { flushed = flushing_after; turning = turning_after; moved = moving_after; shrinking = shrinking_after }) target
  filled_up = record {
    flushed = f.flushed;
    active = active;
    inactive = inactive;
    free = m.moved;
    looks = l.looks;
    forced = l.forced;
    noted_flushed = f.noted;
    noted_active = r.rotation.noted_active;
    noted_inactive = r.rotation.noted_inactive;
    noted_free = m.noted;
    noted_looks = l.noted_looks;
    noted_forced = l.noted_forced;
    allowed = turn_may;
    left = turn_leaves;
    fits = l.leaves.walk.fits;
    freed_is = l.freed_is;
    with_hashes = f.with_hashes;
    none_pending = l.leaves.none_pending;
    steal_is = steal_same;
    free_is = free_out;
    lists_fit = fits_out;
    turns = l.does.turns;
    probes = l.probes;
    goes = to_end.goes;
    walked = rows_on moved_set;
    are_evicts = evicts;
    stored = stored_there;
    tried = l.tried;
    global = to_end.global;
    local = to_end.local;
    was = to_end.was;
    global_now = to_end.global_now;
    local_now = to_end.local_now;
    held = to_end.held;
    same_free = ap (λ (z : Lists). z.free) global_end ∙ l.leaves.walk.same_free;
    same_rows = λ e. ap (λ (z : Lists). times e (rows z)) global_end ∙ l.leaves.walk.same_rows e;
    local_free = ap (λ (z : Lists). z.free) local_end ∙ l.leaves.same_free;
    no_rows = λ e. ap (λ (z : Lists). times e (rows z)) local_end ∙ l.leaves.no_rows e;
    hashed = l.leaves.walk.hashed;
    flushed_hashed =
        All-weaker (λ (flush : Flush). stored_hash flush.element lists.pending ≡ Some flush.hash) (λ (flush : Flush). HasOnlyHash t.shape s.view flush.element flush.hash)
        (λ flush stored. only_hash_on t.shape q.view s.view flush.element flush.hash (logs_both to_end) (can.hashed flush.element flush.hash stored))
        f.flushed (flushed_stored f.flushed lists.pending f.with_hashes pending_once);
    notes = notes_after LocalFree (map calls.Cleared looked) l.probes turned_notes;
    around = record moved_around { came = reverse (taken_by l.probes) ++ moved_around.came };
    below = fresh.0;
    was_noted = fresh.1;
    noted = noted_end;
    no_marks = refl;
    asked_is = asked_in_a_row (map flush_visit f.flushed) active inactive looked [];
    owners_are = refl;
    changed_is = refl;
    none_off = refl;
    around_marks = refl;
    around_asked = refl;
    around_changed = refl;
    around_flushed = refl;
    around_off = append_nil (reverse (flushed_elements f.flushed));
    hand = to_end.hand;
    carried = to_end.carried;
    spares = to_end.spares;
    saw = to_end.saw;
    learns = subst (Learns t.shape q.view s.view l.does.turns) (bits_in_a_row (map flush_visit f.flushed) active inactive looked) to_end.learns;
  }

-- nothing is pending on the local lists once all was flushed and free elements moved
pub none_pending_moved : {t : TableView} {set flushed_set rotated moved_set : SetView} {lists flushed_lists moved_lists : LocalView} {flushing flushing_after : Noted Flush} {moving moving_after : Noted ℕ} {q u v w : PassView} {count : ℕ}
    → FlushedAll t (both_lists set lists q) (both_lists flushed_set flushed_lists u) flushing flushing_after → MovedAll t (both_lists rotated flushed_lists v) (both_lists moved_set moved_lists w) moving moving_after count → moved_lists.pending ≡ []
none_pending_moved f m = m.pending_is ∙ ap (λ (z : LocalView). z.pending) f.lists_are

-- and as many moved at most as a turn is to give
pub few_moved : {t : TableView} {set set_after : SetView} {lists lists_after : LocalView} {notes notes_after : Noted ℕ} {p q : PassView} {count : ℕ} → MovedAll t (both_lists set lists p) (both_lists set_after lists_after q) notes notes_after count → count ≤ global_target
few_moved {set = set} m =
    let long : length m.moved ≡ min global_target (length (numbers set.free.bodies)) = ap length m.moved_are ∙ length-take global_target (numbers set.free.bodies) in
    let all = m.count_is in
    omega (arith, long, all)
