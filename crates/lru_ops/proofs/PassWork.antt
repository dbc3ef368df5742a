-- A rotation and a shrink of the own set by the pass that holds its lock.
use Rattle.std.proofs.Common.{inr, ◌≡◌, ℕ, ◌<◌, true, false, List, [], ◌∷◌, ◌++◌, length, sym, refl, ap, ◌∙◌, subst, Some, append_assoc, arith}
use Rattle.std.specs.Prelude.{IsPermutation, option_map, is_some}
use Rattle.std.proofs.lemmas.List.{append_cancel_left}
use Rattle.map_types.specs.declared.row.Row.{Row}
use Rattle.map_types.specs.declared.kind.DomainId.{DomainId}
use Rattle.map_types.specs.declared.kind.DomainId.TheVariants.{CpuLru}
use Rattle.map_types.specs.ElementLists.{IsIn}
use Rattle.map_types.specs.Listed.{elements_of}
use Rattle.map_types.specs.Stored.{IsSized}
use Rattle.map_types.proofs.RowLemmas.{times_append}
use Rattle.place_words.specs.Histories.{Content, in_own, content}
use Rattle.place_words.specs.Locks.{lock_named}
use Rattle.place_words.specs.Sets.{own_scans}
use Rattle.place_words.specs.Takings.{stored_hash}
use Rattle.place_words.proofs.LockLemmas.{named_by_number}
use Rattle.place_words.specs.declared.step.Lists.{Lists}
use Rattle.place_words.specs.State.{rows}
use Rattle.place_words.specs.Wholeness.{all_of}
use Rattle.place_table.specs.declared.view.Hold.{Hold}
use Rattle.place_table.specs.Contents.{set_told}
use Rattle.place_table.specs.Passes.{PassView, TableView}
use Rattle.place_table.specs.Plays.{HoldsLock}
use Rattle.place_table.specs.StoredHashes.{stored_in}
use Rattle.place_table.specs.Views.{hold_at}
use Rattle.place_table.proofs.Entries.{append_nil}
use Rattle.place_table.proofs.Worlds.{hold_at_first, some_is}
use Rattle.lru_lists.specs.declared.bits.BitCall.{BitCall}
use Rattle.lru_lists.specs.declared.bits.ProbeCall.{ProbeCall}
use Rattle.lru_lists.specs.declared.notes.RotateNotes.{RotateNotes}
use Rattle.lru_lists.specs.declared.notes.ShrinkNotes.{ShrinkNotes}
use Rattle.lru_lists.specs.Sets.{SetView, IsSet, IsListed, row_on, with_free}
use Rattle.lru_lists.proofs.SetLemmas.{listed_present}
use Rattle.lru_rotate.specs.Rotating.{Rotation, cleared as cleared_visits}
use Rattle.lru_rotate.proofs.RowsStay.{times_permuted}
use Rattle.lru_shrink.specs.Shrunk.{look_probes, try_probes, cleared as cleared_looks}
use Rattle.lru_ops.specs.declared.probing.Destination.{Destination}
use Rattle.lru_ops.specs.declared.probing.Destination.TheVariants.{OwnFree}
use Rattle.lru_ops.specs.Askings.{calls_noted, probes_made, Does, hash_in, Since, MayAsk, MayChase}
use Rattle.lru_ops.specs.OwnTurns.{no_bodies, ShrinksFree, rows_on, CanWork, Worked, in_turn}
use Rattle.lru_ops.proofs.Asked.{same_table, since_start}
use Rattle.lru_ops.proofs.OwnWalk.{hold_at_only}
use Rattle.lru_ops.proofs.SetWork.{listed_times, rotated_row, rotated_works, shrunk_works}

-- what is stored for an element of the set
pub stored_here : (set : SetView) (e : ℕ) → stored_in (in_own (set_told set)) e ≡ stored_hash e (rows_on set)
unfolding stored_in
stored_here set e = refl

module _ {t : TableView} {set : SetView} {p : PassView} (can : CanWork t set p) where
  listed_real : (e : ℕ) → IsListed e set → e < t.shape.elements
  listed_real e listed =
      subst (λ (n : ℕ). e < n) can.fits.bound (can.fits.whole.below e (omega (arith, listed)))

  listed_in : (e : ℕ) → IsListed e set → IsIn e (rows can.holds.lists.hold.now)
  listed_in e listed =
      subst (λ (z : Lists). IsIn e (rows z)) (sym can.now) (subst (λ (n : ℕ). 0 < n) (sym (times_append e (elements_of set.active) (elements_of set.inactive))) listed)

  -- the own set's lock alone is held
  pub held_alone : p.view.held ≡ can.holds.lists.hold ∷ []
  held_alone = can.holds.lists.held ∙ ap (λ (l : List Hold). can.holds.lists.hold ∷ l) can.holds.alone

  pub since_own : {to : Destination} {lock : DomainId} {rows : List Row} {start : PassView} → start ≡ p → lock ≡ CpuLru p.cpu → to ≡ OwnFree → rows ≡ rows_on set → Since t to lock rows start p
  since_own start_is lock_is to_is rows_are =
      subst (λ (z : Destination × DomainId × List Row × PassView). Since t z.0 z.1 z.2 z.3 p) (λ i. (sym to_is i, sym lock_is i, sym rows_are i, sym start_is i))
      (since_start t OwnFree (CpuLru p.cpu) (rows_on set) p can.holds.lists (refl, (can.holds.lists.hold, held_alone)))

  -- each listed element may be asked of
  pub may_ask : (e : ℕ) → IsListed e set → MayAsk t p e
  may_ask e listed =
      let h = can.holds.lists in
      let own : HoldsLock t.shape p.view p.cpu (CpuLru p.cpu) = record {
        hold = h.hold;
        there = h.there;
        held = (λ i. hold_at (sym h.lock_is i) (h.held i)) ∙ hold_at_first h.hold h.outer;
        cpu_is = h.cpu_is;
      } in
      let inside : IsIn e (all_of h.hold.now) =
      (let some = listed_in e listed in
      let parts = times_append e h.hold.now.free (rows h.hold.now) in
      omega (arith, some, parts)) in
      (listed_real e listed, inr (h.evicts, (CpuLru p.cpu, (own, refl, inside))))

  -- and each row may be probed: what its element has under the lock is its hash
  pub may_chase : (row : Row) → row_on row.element set ≡ Some row → MayChase t (rows_on set) p row
  may_chase row found =
      let h = can.holds.lists in
      let listed : IsListed row.element set = (listed_present row.element set).0 (ap is_some found) in
      let stored : stored_hash row.element (rows_on set) ≡ Some row.hash = ap (option_map (λ (r : Row). r.hash)) found in
      let named : lock_named t.shape h.hold.lock ≡ CpuLru p.cpu = ap (lock_named t.shape) h.lock_is ∙ named_by_number t.shape (CpuLru p.cpu) h.there in (
        stored,
        record {
          real = listed_real row.element listed;
          hold = h.hold;
          outer = h.outer;
          held = h.held;
          listed = listed_in row.element listed;
          hashed = λ k n hold held was.
              let only = hold_at_only k h.hold hold (ap (hold_at k) (sym held_alone) ∙ held) in
              let here : stored_in (in_own (set_told set)) row.element ≡ Some n =
              ap (λ (c : Content). stored_in c row.element) (can.found ∙ (λ i. content t.shape (sym named i) h.hold.log))
              ∙ ((λ i. stored_in (content t.shape (lock_named t.shape (only.0 i)) ((only.1 i).log)) row.element) ∙ was) in
              some_is (sym here ∙ (stored_here set row.element ∙ stored));
          in_no_hand = λ cpu among. can.holds.hands_empty row.element cpu among;
        },
      )

-- what the walks left on the set was there before
pub still_on : (before middle : SetView) → IsSet before → IsPermutation (rows_on before) (rows_on middle) → (row : Row) → row_on row.element middle ≡ Some row → row_on row.element before ≡ Some row
still_on before middle whole moved row found = rotated_row before middle whole moved row.element row found

pub still_listed_on : (before middle : SetView) → IsPermutation (rows_on before) (rows_on middle) → (e : ℕ) → IsListed e middle → IsListed e before
still_listed_on before middle moved e listed =
    let same = times_permuted e (rows_on before) (rows_on middle) moved in
    let one = listed_times e before in
    let other = listed_times e middle in
    omega (arith, listed, same, one, other)

-- What was asked of the pass since it was lent is what the walks asked
module _ {t u : TableView} {to : Destination} {lock : DomainId} {rows : List Row} {start p q : PassView} {before : SetView} (can : CanWork t before p) (is : start ≡ p) (to_is : to ≡ OwnFree) (rows_are : rows ≡ rows_on before) (since : Since u to lock rows start q) where
  same : u ≡ t
  same = same_table t u to lock rows start p q can.holds.lists.of_table is since

  does : Does t OwnFree (rows_on before) since.calls since.probes p q
  does = subst (λ (z : TableView × Destination × List Row × PassView). Does z.0 z.1 z.2 since.calls since.probes z.3 q) (λ i. (same i, to_is i, rows_are i, is i)) since.does

  calls_since : (made : List BitCall) → calls_noted q.view.notes ≡ calls_noted p.view.notes ++ made → since.calls ≡ made
  calls_since made asked = append_cancel_left (calls_noted p.view.notes) since.calls made (ap (λ (z : PassView). calls_noted z.view.notes ++ since.calls) (sym is) ∙ (sym since.calls_are ∙ asked))

  probes_since : (made : List ProbeCall) → probes_made (hash_in rows) q.view.steps ≡ probes_made (hash_in rows) p.view.steps ++ made → since.probes ≡ made
  probes_since made probed = append_cancel_left (probes_made (hash_in rows) p.view.steps) since.probes made (ap (λ (z : PassView). probes_made (hash_in rows) z.view.steps ++ since.probes) (sym is) ∙ (sym since.probes_are ∙ probed))

  -- a rotation alone
  pub rotated_worked : {middle : SetView} {turning turning_after : RotateNotes} (shrinking : ShrinkNotes) → (r : Rotation own_scans before middle (calls_noted p.view.notes) (calls_noted q.view.notes) turning turning_after) → IsPermutation (rows_on before) (rows_on middle) → IsSet middle
      → probes_made (hash_in rows) q.view.steps ≡ probes_made (hash_in rows) p.view.steps → 0 < length middle.free.bodies → Worked t (in_turn before turning shrinking) (in_turn middle turning_after shrinking) false p q
  rotated_worked shrinking r moved whole probed long =
      let none : since.probes ≡ [] = probes_since [] (probed ∙ sym (append_nil (probes_made (hash_in rows) p.view.steps))) in
      record {
        calls = since.calls;
        probes = [];
        works = rotated_works can.fits r moved whole shrinking since.calls long (calls_since (cleared_visits (r.active ++ r.inactive)) r.asked);
        does = subst (λ (l : List ProbeCall). Does t OwnFree (rows_on before) since.calls l p q) none does;
      }

  -- a rotation and a shrink
  pub shrunk_worked : {middle after : SetView} {calls_middle : List BitCall} {probes_middle : List ProbeCall} {turning turning_after : RotateNotes} {shrinking shrinking_after : ShrinkNotes} → (r : Rotation own_scans before middle (calls_noted p.view.notes) calls_middle turning turning_after) → IsPermutation (rows_on before) (rows_on middle) → IsSet middle
      → probes_middle ≡ probes_made (hash_in rows) p.view.steps → (s : ShrinksFree (IsSized u.shape) middle after (record { calls = calls_middle; probes = probes_middle }) (record { calls = calls_noted q.view.notes; probes = probes_made (hash_in rows) q.view.steps }) shrinking shrinking_after) → middle.free.bodies ≡ [] → IsSet after
      → Worked t (in_turn before turning shrinking) (in_turn after turning_after shrinking_after) true p q
  shrunk_worked {middle} {after} {calls_middle} {probes_middle} {turning} {turning_after} {shrinking} {shrinking_after} r moved whole probed s none whole_after =
      let made : List ProbeCall = look_probes (with_free no_bodies middle) s.shrink.looks ++ try_probes (with_free no_bodies middle) s.shrink.forced in
      record {
        calls = since.calls;
        probes = since.probes;
        works = shrunk_works can.fits r moved whole s none whole_after since.calls since.probes (λ body sized. subst (λ (z : TableView). IsSized z.shape body) same sized)
            (calls_since (cleared_visits (r.active ++ r.inactive) ++ cleared_looks s.shrink.looks) (s.shrink.asked ∙ (ap (λ (l : List BitCall). l ++ cleared_looks s.shrink.looks) r.asked ∙ append_assoc (calls_noted p.view.notes) (cleared_visits (r.active ++ r.inactive)) (cleared_looks s.shrink.looks))))
            (probes_since made (s.shrink.probed ∙ (ap (λ (l : List ProbeCall). (l ++ look_probes (with_free no_bodies middle) s.shrink.looks) ++ try_probes (with_free no_bodies middle) s.shrink.forced) probed ∙ append_assoc (probes_made (hash_in rows) p.view.steps) (look_probes (with_free no_bodies middle) s.shrink.looks) (try_probes (with_free no_bodies middle) s.shrink.forced))));
        does = does;
      }
