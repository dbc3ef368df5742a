-- A walk over the pending list of local lists, by the pass that holds their lock alone, and what it leaves under it.
use Rattle.std.proofs.Common.{inr, ◌≡◌, ℕ, ◌<◌, List, [], ◌∷◌, ◌++◌, length, sym, refl, ap, ◌∙◌, subst, Option, Some, None, arith}
use Rattle.std.specs.Prelude.{◌==◌, count_by, filter, option_map, MatchBool, is_some}
use Rattle.std.proofs.lemmas.List.{append_cancel_left, length-map}
use Rattle.std.proofs.lemmas.List.Sums.{length-filter}
use Rattle.map_types.specs.declared.kind.DomainId.{DomainId}
use Rattle.map_types.specs.declared.kind.DomainId.TheVariants.{Local}
use Rattle.map_types.specs.declared.row.Row.{Row}
use Rattle.map_types.specs.ElementLists.{times, IsIn}
use Rattle.map_types.specs.Listed.{elements_of}
use Rattle.map_types.specs.Stored.{Stored, IsSized}
use Rattle.map_types.proofs.RowLemmas.{times_append}
use Rattle.place_words.specs.declared.bucket_part.Seen.{Seen}
use Rattle.place_words.specs.declared.bucket_part.Seen.TheVariants.{Removed, Held}
use Rattle.place_words.specs.declared.visits.Look.{Look}
use Rattle.place_words.specs.declared.visits.Try.{Try}
use Rattle.place_words.specs.Bodies.{numbers}
use Rattle.place_words.specs.Histories.{Content, content}
use Rattle.place_words.specs.Locals.{AreUnsparing}
use Rattle.place_words.specs.Locks.{lock_named}
use Rattle.place_words.specs.Shrinking.{look_removed, freed}
use Rattle.place_words.specs.Takings.{stored_hash}
use Rattle.place_words.proofs.LockLemmas.{named_by_number}
use Rattle.place_words.specs.declared.step.Lists.{Lists}
use Rattle.place_words.specs.State.{rows}
use Rattle.place_words.specs.Wholeness.{all_of}
use Rattle.place_table.specs.declared.view.Hold.{Hold}
use Rattle.place_table.specs.declared.view.InHand.{InHand}
use Rattle.place_table.specs.declared.view.Notes.{Notes}
use Rattle.place_table.specs.Passes.{PassView, TableView}
use Rattle.place_table.specs.Plays.{HoldsLock}
use Rattle.place_table.specs.StoredHashes.{stored_in}
use Rattle.place_table.specs.Views.{is_among, is_in_hand_of, hold_at, with_in_hand, hold_with}
use Rattle.place_table.specs.declared.view.OwnerSeen.{OwnerSeen}
use Rattle.place_table.proofs.Entries.{append_nil}
use Rattle.place_table.proofs.Going.{goes_of_table, goes_begun}
use Rattle.place_table.proofs.Worlds.{hold_at_first, some_is}
use Rattle.row_list.specs.RowWords.{row_of}
use Rattle.row_list.proofs.RowLemmas.{row_present}
use Rattle.local_lists.specs.LocalLists.{LocalView}
use Rattle.lru_lists.specs.declared.bits.BitCall.{BitCall}
use Rattle.lru_lists.specs.declared.bits.ProbeCall.{ProbeCall}
use Rattle.lru_lists.specs.declared.notes.Noted.{Noted}
use Rattle.lru_lists.proofs.NoteLemmas.{noted_none}
use Rattle.lru_shrink.specs.Searches.{bits_read, IsFound, SearchMoment, SparingSearch, UnsparingSearch}
use Rattle.lru_shrink.specs.Shrunk.{probes_of_looks, probes_of_tries, removed_by_looks, removed_by_tries}
use Rattle.lru_ops.specs.declared.probing.Destination.{Destination}
use Rattle.lru_ops.specs.declared.probing.Destination.TheVariants.{LocalFree, OwnHand}
use Rattle.lru_ops.specs.Askings.{calls_noted, probes_made, hash_in, notes_after, came_after, held_after, taken_after, Does, Since, MayAsk, MayChase, changed_after, changed_with}
use Rattle.lru_ops.specs.Evictions.{held_with, taken_with, AreFreed}
use Rattle.lru_ops.specs.Thefts.{last_lock, CanSearch, SearchedSparing, SearchedAll, Walked, both_walks}
use Rattle.lru_ops.proofs.Asked.{now_with, same_table, since_start}
use Rattle.lru_ops.proofs.DoesOn.{does_on}
use Rattle.lru_ops.proofs.LocalTurns.{stored_pending}
use Rattle.lru_ops.proofs.LocalWalk.{left_after}
use Rattle.lru_ops.proofs.OwnWalk.{hold_at_only}
use Rattle.lru_ops.proofs.SetWork.{taken_by, taken_cons, taken_with as removed_with, walk_taken}
use Rattle.lru_ops.proofs.OwnersAround.{freed_named}

-- Under the lock of the walk lies what was there, without what was removed

hand_one : (e : ℕ) (seen : Seen) (hold : Hold) → held_with OwnHand e seen (hold ∷ []) ≡ hold_with hold (now_with LocalFree e seen hold.now) ∷ []
hand_one e Removed hold = refl
hand_one e (Held holder) hold = refl

pub hand_held : (probes : List ProbeCall) (hold : Hold) → held_after OwnHand probes (hold ∷ []) ≡ hold_with hold (left_after probes hold.now) ∷ []
hand_held [] hold = refl
hand_held (probe ∷ probes) hold =
    ap (held_after OwnHand probes) (hand_one probe.element probe.probed hold)
    ∙ hand_held probes (hold_with hold (now_with LocalFree probe.element probe.probed hold.now))

changed_one : (e : ℕ) (seen : Seen) (changed : List OwnerSeen) → changed_with OwnHand e seen changed ≡ changed
changed_one e Removed changed = refl
changed_one e (Held holder) changed = refl

pub hand_changed : (probes : List ProbeCall) (changed : List OwnerSeen) → changed_after OwnHand probes changed ≡ changed
hand_changed [] changed = refl
hand_changed (probe ∷ probes) changed = ap (changed_after OwnHand probes) (changed_one probe.element probe.probed changed) ∙ hand_changed probes changed

pub hand_came : (probes : List ProbeCall) (below : List Notes) → came_after OwnHand probes below ≡ below
hand_came [] below = refl
hand_came (probe ∷ probes) below = hand_came probes below

-- and what was removed is in the hand
abbrev pub in_hands : ℕ → List ℕ → List InHand → List InHand
in_hands cpu [] hand = hand
in_hands cpu (e ∷ es) hand = in_hands cpu es (with_in_hand e cpu hand)

removed_one : (cpu e : ℕ) (seen : Seen) (taken : List ℕ) (hand : List InHand) → in_hands cpu taken (taken_with OwnHand cpu e seen hand) ≡ in_hands cpu (removed_with e seen taken) hand
removed_one cpu e Removed taken hand = refl
removed_one cpu e (Held holder) taken hand = refl

pub hand_taken : (cpu : ℕ) (probes : List ProbeCall) (hand : List InHand) → taken_after OwnHand cpu probes hand ≡ in_hands cpu (taken_by probes) hand
hand_taken cpu [] hand = refl
hand_taken cpu (probe ∷ probes) hand =
    hand_taken cpu probes (taken_with OwnHand cpu probe.element probe.probed hand)
    ∙ (removed_one cpu probe.element probe.probed (taken_by probes) hand
    ∙ ap (λ (l : List ℕ). in_hands cpu l hand) (sym (taken_cons probe.element probe.hash probe.probed probes)))

left_one : (e hash : ℕ) (seen : Seen) (probes : List ProbeCall) (now : Lists) → taken_by (record { element = e; hash = hash; probed = seen } ∷ probes) ≡ [] → (now_with LocalFree e seen now ≡ now) × (taken_by probes ≡ [])
left_one e hash Removed probes now none = absurd cc
left_one e hash (Held holder) probes now none = (refl, none)

pub left_as_was : (probes : List ProbeCall) (now : Lists) → taken_by probes ≡ [] → left_after probes now ≡ now
left_as_was [] now none = refl
left_as_was (probe ∷ probes) now none =
    let one = left_one probe.element probe.hash probe.probed probes now none in
    ap (left_after probes) one.0 ∙ left_as_was probes now one.1

-- Before the walk

module _ {t : TableView} {lists : LocalView} {p : PassView} (can : CanSearch t lists p) where
  pub held_alone : p.view.held ≡ can.holds.hold ∷ []
  held_alone = can.holds.held ∙ ap (λ (l : List Hold). can.holds.hold ∷ l) can.alone

  named_here : lock_named t.shape can.holds.hold.lock ≡ Local can.from
  named_here = ap (lock_named t.shape) can.holds.lock_is ∙ named_by_number t.shape (Local can.from) can.holds.there

  last_is : last_lock t.shape p.view.held ≡ Local can.from
  last_is = ap (last_lock t.shape) held_alone ∙ named_here

  pub since_local : {to : Destination} {lock : DomainId} {rows : List Row} {start : PassView} → start ≡ p → lock ≡ last_lock t.shape p.view.held → to ≡ OwnHand → rows ≡ lists.pending → Since t to lock rows start p
  since_local start_is lock_is to_is rows_are =
      subst (λ (z : Destination × DomainId × List Row × PassView). Since t z.0 z.1 z.2 z.3 p) (λ i. (sym to_is i, sym (lock_is ∙ last_is) i, sym rows_are i, sym start_is i))
      (since_start t OwnHand (Local can.from) lists.pending p can.holds (can.from, refl, (can.holds.hold, held_alone)))

  pending_in : (e : ℕ) → IsIn e (elements_of lists.pending) → IsIn e (rows can.holds.hold.now)
  pending_in e inside = subst (λ (l : Lists). IsIn e (rows l)) (sym can.now) (subst (λ (n : ℕ). 0 < n) (sym (ap (times e) (append_nil (elements_of lists.pending)))) inside)

  pending_real : (e : ℕ) → IsIn e (elements_of lists.pending) → e < t.shape.elements
  pending_real e inside = subst (λ (n : ℕ). e < n) can.fits.bound (can.fits.whole.below e (let some : 0 < times e (elements_of lists.pending) = inside in omega (arith, some)))

  -- each pending element may be asked of
  pub may_ask_pending : (e : ℕ) → IsIn e (elements_of lists.pending) → MayAsk t p e
  may_ask_pending e inside =
      let h = can.holds in
      let here : HoldsLock t.shape p.view p.cpu (Local can.from) = record {
        hold = h.hold;
        there = h.there;
        held = (λ i. hold_at (sym h.lock_is i) (h.held i)) ∙ hold_at_first h.hold h.outer;
        cpu_is = h.cpu_is;
      } in
      let there : IsIn e (all_of h.hold.now) =
      (let some : 0 < times e (rows h.hold.now) = pending_in e inside in
      let parts = times_append e h.hold.now.free (rows h.hold.now) in
      omega (arith, some, parts)) in
      (pending_real e inside, inr (h.evicts, (Local can.from, (here, refl, there))))

  -- and each row may be probed
  pub may_chase_pending : (row : Row) → row_of row.element lists.pending ≡ Some row → MayChase t lists.pending p row
  may_chase_pending row found =
      let h = can.holds in
      let inside : IsIn row.element (elements_of lists.pending) = (row_present row.element lists.pending).0 (ap is_some found) in
      let stored : stored_hash row.element lists.pending ≡ Some row.hash = ap (option_map (λ (r : Row). r.hash)) found in (
        stored,
        record {
          real = pending_real row.element inside;
          hold = h.hold;
          outer = h.outer;
          held = h.held;
          listed = pending_in row.element inside;
          hashed = λ k n hold held was.
              let only = hold_at_only k h.hold hold (ap (hold_at k) (sym held_alone) ∙ held) in
              let here : stored_hash row.element lists.pending ≡ Some n =
              sym (stored_pending lists row.element) ∙ (ap (λ (c : Content). stored_in c row.element) (can.found ∙ (λ i. content t.shape (sym named_here i) h.hold.log))
              ∙ ((λ i. stored_in (content t.shape (lock_named t.shape (only.0 i)) ((only.1 i).log)) row.element) ∙ was)) in
              some_is (sym here ∙ stored);
          in_no_hand = λ cpu among. can.hands_empty row.element cpu among;
        },
      )

-- What was asked of the pass since it was lent is what the walk asked
module _ {t u : TableView} {to : Destination} {lock : DomainId} {rows : List Row} {start p q : PassView} {lists : LocalView} (can : CanSearch t lists p) (is : start ≡ p) (to_is : to ≡ OwnHand) (rows_are : rows ≡ lists.pending) (since : Since u to lock rows start q) where
  same : u ≡ t
  same = same_table t u to lock rows start p q can.holds.of_table is since

  does : Does t OwnHand lists.pending since.calls since.probes p q
  does = subst (λ (z : TableView × Destination × List Row × PassView). Does z.0 z.1 z.2 since.calls since.probes z.3 q) (λ i. (same i, to_is i, rows_are i, is i)) since.does

  calls_since : (made : List BitCall) → calls_noted q.view.notes ≡ calls_noted p.view.notes ++ made → since.calls ≡ made
  calls_since made asked = append_cancel_left (calls_noted p.view.notes) since.calls made (ap (λ (z : PassView). calls_noted z.view.notes ++ since.calls) (sym is) ∙ (sym since.calls_are ∙ asked))

  probes_since : (made : List ProbeCall) → probes_made (hash_in rows) q.view.steps ≡ probes_made (hash_in rows) p.view.steps ++ made → since.probes ≡ made
  probes_since made probed = append_cancel_left (probes_made (hash_in rows) p.view.steps) since.probes made (ap (λ (z : PassView). probes_made (hash_in rows) z.view.steps ++ since.probes) (sym is) ∙ (sym since.probes_are ∙ probed))

  sized_same : (removed : List ℕ) (found : Option Stored) → IsFound (IsSized u.shape) removed found → IsFound (IsSized t.shape) removed found
  sized_same removed None answer = answer
  sized_same removed (Some body) answer = (answer.0, subst (λ (z : TableView). IsSized z.shape body) same answer.1)

  -- a moment of a search, by the pass that makes it
  abbrev looking : {Notes : Type 0} → PassView → Notes → SearchMoment Notes
  looking pass notes = record { asked = record { calls = calls_noted pass.view.notes; probes = probes_made (hash_in rows) pass.view.steps }; notes = notes }

  by_sparing : {notes notes_after : Noted Look} {found : Option Stored} → SparingSearch lists.pending (IsSized u.shape) (looking p notes) (looking q notes_after) found
      → SearchedSparing t lists.pending notes notes_after p q found
  by_sparing {notes} {notes_after} {found} s = record {
    calls = since.calls;
    probes = since.probes;
    search = record {
      looks = s.looks;
      are = s.are;
      few = s.few;
      asked = calls_since (bits_read s.looks) s.asked;
      probed = probes_since (probes_of_looks lists.pending s.looks) s.probed;
      noted = s.noted;
      answer = sized_same _ found s.answer;
      there = s.there;
    };
    does = does;
  }

  pub sparing_searched : {walked : List Row} {notes notes_after : Noted Look} {found : Option Stored} → walked ≡ lists.pending → SparingSearch walked (IsSized u.shape) (looking p notes) (looking q notes_after) found
      → SearchedSparing t lists.pending notes notes_after p q found
  sparing_searched {walked} {notes} {notes_after} {found} walked_is s =
      by_sparing (subst (λ (l : List Row). SparingSearch l (IsSized u.shape) (looking p notes) (looking q notes_after) found) walked_is s)

  by_all : {notes notes_after : Noted Try} {found : Option Stored} → UnsparingSearch lists.pending (IsSized u.shape) (looking p notes) (looking q notes_after) found
      → calls_noted q.view.notes ≡ calls_noted p.view.notes → SearchedAll t lists.pending notes notes_after p q found
  by_all {notes} {notes_after} {found} s asked = record {
    probes = since.probes;
    search = record {
      tries = s.tries;
      are = s.are;
      few = s.few;
      asked = refl;
      probed = probes_since (probes_of_tries lists.pending s.tries) s.probed;
      noted = s.noted;
      answer = sized_same _ found s.answer;
      there = s.there;
    };
    does = subst (λ (l : List BitCall). Does t OwnHand lists.pending l since.probes p q) (calls_since [] (asked ∙ sym (append_nil (calls_noted p.view.notes)))) does;
  }

  pub all_searched : {walked : List Row} {notes notes_after : Noted Try} {found : Option Stored} → walked ≡ lists.pending → UnsparingSearch walked (IsSized u.shape) (looking p notes) (looking q notes_after) found
      → calls_noted q.view.notes ≡ calls_noted p.view.notes → SearchedAll t lists.pending notes notes_after p q found
  all_searched {walked} {notes} {notes_after} {found} walked_is s asked =
      by_all (subst (λ (l : List Row). UnsparingSearch l (IsSized u.shape) (looking p notes) (looking q notes_after) found) walked_is s) asked

-- Both walks

none_counted_here : (looks : List Look) (n : ℕ) (removed : List ℕ) → length removed ≡ n → removed_by_looks looks ≡ removed → count_by look_removed looks ≡ n
none_counted_here looks n removed long is =
    sym (length-filter look_removed looks) ∙ (sym (length-map (filter look_removed looks) (λ (look : Look). look.element)) ∙ (ap (length {A = ℕ}) is ∙ long))

module _ {t : TableView} {lists : LocalView} {first first_after : Noted Look} {p q : PassView} (can : CanSearch t lists p) (free : lists.free.bodies ≡ []) where
  -- the first one removed an element
  pub walked_once : (second : Noted Try) (body : Stored) → SearchedSparing t lists.pending first first_after p q (Some body) → Walked t lists (both_walks first second p) (both_walks first_after second q) (Some body)
  walked_once second body s =
      let k = s.search in
      let counted : count_by look_removed k.looks ≡ 1 = none_counted_here k.looks 1 (body.element ∷ []) refl k.answer.0 in
      record {
        looks = k.looks;
        tries = [];
        noted_first = k.noted;
        noted_second = noted_none second;
        search = record {
          none_free = ap numbers free;
          sparing = k.are;
          unsparing = subst (λ (n : ℕ). MatchBool (n == 0) (AreUnsparing lists.pending []) (◌≡◌ {A = List Try} [] [])) (sym counted) refl;
        };
        removed = (append_nil (removed_by_looks k.looks) ∙ k.answer.0, k.answer.1);
        there = k.there;
        probes = s.probes;
        probes_are = s.search.probed ∙ sym (append_nil (probes_of_looks lists.pending k.looks));
        does = subst (λ (l : List BitCall). Does t OwnHand lists.pending l s.probes p q) k.asked s.does;
      }

  -- it removed none: the lists are as they were
  nothing_taken : (s : SearchedSparing t lists.pending first first_after p q None) → taken_by s.probes ≡ []
  nothing_taken s =
      ap taken_by (s.search.probed ∙ sym (append_nil (probes_of_looks lists.pending s.search.looks)))
      ∙ (walk_taken lists.pending s.search.looks [] ∙ (append_nil (removed_by_looks s.search.looks) ∙ s.search.answer))

  pub searches_on : SearchedSparing t lists.pending first first_after p q None → CanSearch t lists q
  searches_on s =
      let d = s.does in
      let h = can.holds in
      let held : q.view.held ≡ h.hold ∷ [] =
      d.held ∙ (ap (held_after OwnHand s.probes) (held_alone can) ∙ (hand_held s.probes h.hold ∙ ap (λ (l : Lists). hold_with h.hold l ∷ []) (left_as_was s.probes h.hold.now (nothing_taken s)))) in
      record {
        from = can.from;
        holds = record {
          of_table = goes_of_table t p q d.turns [] d.goes h.of_table;
          begun = goes_begun p q d.turns [] d.goes h.begun;
          is_shape = h.is_shape;
          evicts = h.evicts;
          there = h.there;
          lists = h.lists;
          hold = h.hold;
          outer = [];
          held = held;
          above = tt;
          lock_is = h.lock_is;
          cpu_is = h.cpu_is ∙ sym d.goes.cpu;
          notes = notes_after OwnHand s.calls s.probes d.notes;
          below = came_after OwnHand s.probes d.below;
          notes_are = d.noted;
          freed = subst AreFreed (sym (hand_changed s.probes d.notes.changed)) (freed_named h d.notes d.below d.was_noted);
          unchanged = λ x. refl;
        };
        alone = refl;
        hands_empty = λ e cpu among.
            ap (is_in_hand_of e cpu) (d.hand ∙ (hand_taken p.cpu s.probes p.view.hand ∙ ap (λ (l : List ℕ). in_hands p.cpu l p.view.hand) (nothing_taken s)))
            ∙ can.hands_empty e cpu (ap (is_among cpu) (sym d.goes.cpus) ∙ among);
        found = can.found;
        now = can.now;
        fits = can.fits;
      }

  -- and the second was made
  module _ {second second_after : Noted Try} {r : PassView} (s : SearchedSparing t lists.pending first first_after p q None) where
    pub walked_twice : (found : Option Stored) → SearchedAll t lists.pending second second_after q r found → Walked t lists (both_walks first second p) (both_walks first_after second_after r) found
    walked_twice found a =
        let counted : count_by look_removed s.search.looks ≡ 0 = none_counted_here s.search.looks 0 [] refl s.search.answer in
        let both : freed s.search.looks a.search.tries ≡ removed_by_tries a.search.tries = ap (λ (l : List ℕ). l ++ removed_by_tries a.search.tries) s.search.answer in
        record {
          looks = s.search.looks;
          tries = a.search.tries;
          noted_first = s.search.noted;
          noted_second = a.search.noted;
          search = record {
            none_free = ap numbers free;
            sparing = s.search.are;
            unsparing = subst (λ (n : ℕ). MatchBool (n == 0) (AreUnsparing lists.pending a.search.tries) (a.search.tries ≡ [])) (sym counted) a.search.are;
          };
          removed = subst (λ (l : List ℕ). IsFound (IsSized t.shape) l found) (sym both) a.search.answer;
          there = a.search.there;
          probes = s.probes ++ a.probes;
          probes_are = λ i. s.search.probed i ++ a.search.probed i;
          does = subst (λ (l : List BitCall). Does t OwnHand lists.pending l (s.probes ++ a.probes) p r) (append_nil s.calls ∙ s.search.asked) (does_on s.does a.does);
        }

-- The same from the clauses of the calls
module _ {t : TableView} {lists : LocalView} {first first_after : Noted Look} {p q : PassView} {answer : Option Stored} (can : CanSearch t lists p) (free : lists.free.bodies ≡ []) (s : SearchedSparing t lists.pending first first_after p q answer) where
  pub may_go_on : answer ≡ None → CanSearch t lists q
  may_go_on none = searches_on can free (subst (SearchedSparing t lists.pending first first_after p q) none s)

  pub found_first : {body : Stored} (second : Noted Try) → answer ≡ Some body → Walked t lists (both_walks first second p) (both_walks first_after second q) (Some body)
  found_first {body} second some =
      walked_once can free second body (subst (SearchedSparing t lists.pending first first_after p q) some s)

  pub found_second : {second second_after : Noted Try} {r : PassView} {found : Option Stored} → answer ≡ None → SearchedAll t lists.pending second second_after q r found → Walked t lists (both_walks first second p) (both_walks first_after second_after r) found
  found_second {second} {second_after} {r} {found} none a =
      walked_twice can free (subst (SearchedSparing t lists.pending first first_after p q) none s) found a
