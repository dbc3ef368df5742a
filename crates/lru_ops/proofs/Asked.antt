-- What calls for bits and probes leave of a pass that holds the lock of a walk, from where it was lent.
use Rattle.std.proofs.Common.{◌≡◌, ◌≢◌, ℕ, ◌<◌, ◌+◌, inl, inr, ⊎_elim, cond, true, false, Bool, List, [], ◌∷◌, ◌++◌, map, sym, refl, ap, ◌∙◌, subst, Option, Some, None, append_assoc, arith}
use Rattle.std.specs.Prelude.{◌&&◌, ◌==◌, ◌↔◌, reverse, filter_map, option_map, unwrap_or, IsTrue, suc}
use Rattle.std.proofs.lemmas.List.{reverse-append, map-append}
use Rattle.std.proofs.lemmas.List.Elements.{filter_map-append}
use Rattle.map_types.specs.declared.attr.Shape.{Shape}
use Rattle.map_types.specs.declared.kind.DomainId.{DomainId}
use Rattle.map_types.specs.declared.kind.DomainId.TheVariants.{CpuLru, Global, Local}
use Rattle.map_types.specs.declared.row.Row.{Row}
use Rattle.map_types.specs.ElementLists.{times, without, IsIn}
use Rattle.map_types.specs.Kind.{is_lru}
use Rattle.map_types.proofs.RowLemmas.{times_append, by_test}
use Rattle.key_hash.specs.Bucket.{bucket_number}
use Rattle.place_words.specs.declared.bucket_part.Seen.{Seen}
use Rattle.place_words.specs.declared.bucket_part.Seen.TheVariants.{Removed, Held}
use Rattle.place_words.specs.declared.history.Entry.{Entry}
use Rattle.place_words.specs.declared.home.Home.TheVariants as homes
use Rattle.place_words.specs.Histories.{content}
use Rattle.place_words.specs.Locks.{is_lock, lock_named, lock_number, rank_of}
use Rattle.place_words.specs.Takings.{stored_hash}
use Rattle.place_words.proofs.LockLemmas.{named_by_number}
use Rattle.place_words.specs.declared.step.Lists.{Lists}
use Rattle.place_words.specs.State.{rows}
use Rattle.place_words.specs.Steps.{with_free, without_row}
use Rattle.place_words.specs.Wholeness.{all_of}
use Rattle.place_words.proofs.ElementLemmas.{times_cons_same, times_cons_other, times_without_other}
use Rattle.place_table.specs.declared.view.BitAsked.{BitAsked}
use Rattle.place_table.specs.declared.view.Hold.{Hold}
use Rattle.place_table.specs.declared.view.InHand.{InHand}
use Rattle.place_table.specs.declared.view.Notes.{Notes}
use Rattle.place_table.specs.declared.view.OwnerSeen.{OwnerSeen}
use Rattle.place_table.specs.declared.view.Turned.{Turned}
use Rattle.place_table.specs.declared.view.View.{View}
use Rattle.place_table.specs.Known.{BitTouch, Learns}
use Rattle.place_table.specs.Nested.{IsLocalLast}
use Rattle.place_table.specs.Owners.{change_in}
use Rattle.place_table.specs.Passes.{PassView, TableView, IsPassOf, Cleared, SawBit, Goes, with_view}
use Rattle.place_table.specs.Plays.{MayClear, HoldsLock, IsKnownHome}
use Rattle.place_table.specs.TurnNotes.{HasOnlyHash}
use Rattle.place_table.specs.Rules.{IsAboveAll}
use Rattle.place_table.specs.StoredHashes.{stored_in}
use Rattle.place_table.specs.Views.{is_among, is_in_hand_of, hold_at, is_local, cleared, bit_read, with_clear, with_bit_read, hold_with}
use Rattle.place_table.proofs.Entries.{append_nil}
use Rattle.place_table.proofs.Going.{goes_on, goes_noted, goes_of_table, goes_begun, same_head, learns_on, learns_cleared, learns_bit_read}
use Rattle.place_table.proofs.Hands.{in_hand_more, in_hand_more_else}
use Rattle.place_table.proofs.Worlds.{hold_at_first, hold_at_other, some_is, none_some}
use Rattle.lru_lists.specs.declared.bits.BitCall.{BitCall}
use Rattle.lru_lists.specs.declared.bits.BitCall.TheVariants as calls
use Rattle.lru_lists.specs.declared.bits.ProbeCall.{ProbeCall}
use Rattle.lru_lists.specs.declared.bits.Probed.{Probed}
use Rattle.lru_lists.specs.declared.bits.Probed.TheVariants as answers
use Rattle.lru_lists.specs.Probes.{seen_of, IsHeld}
use Rattle.lru_ops.specs.declared.probing.Destination.{Destination}
use Rattle.lru_ops.specs.declared.probing.Destination.TheVariants.{OwnFree, LocalFree, OwnHand}
use Rattle.lru_ops.specs.Askings.{call_of, calls_noted, probe_of, probes_made, asked_by, asked_after, owners_with, owners_after, notes_after, changed_with, changed_after, came_with, came_after, held_after, taken_after, touch_by, AreEvicts, hash_in, Since, MayAsk, MayChase}
use Rattle.lru_ops.specs.Evictions.{AreFreed, HoldsLists, HoldsFor, MayProbe, IsEvict, SawHolders, lists_with, freed_outside, held_with, taken_with, noted_with, CanChase, Chased}
use Rattle.lru_ops.proofs.DoesOn.{does_nothing, same_rest}
use Rattle.lru_ops.proofs.Holders.{saw_on, saw_on_none, saw_none}

-- Where a probe's element goes, lock by lock: on the lists of the lock of the walk, and under those around it

abbrev pub now_with : Destination → ℕ → Seen → Lists → Lists
now_with OwnFree e seen now = lists_with e seen now
now_with LocalFree e Removed now = without_row e now
now_with LocalFree e (Held holder) now = now
now_with OwnHand e Removed now = without_row e now
now_with OwnHand e (Held holder) now = now

abbrev pub outer_with : Destination → ℕ → Seen → List Hold → List Hold
outer_with OwnFree e seen outer = outer
outer_with LocalFree e Removed outer = freed_outside e outer
outer_with LocalFree e (Held holder) outer = outer
outer_with OwnHand e seen outer = outer

pub held_first : (to : Destination) (e : ℕ) (seen : Seen) (hold : Hold) (outer : List Hold) → held_with to e seen (hold ∷ outer) ≡ hold_with hold (now_with to e seen hold.now) ∷ outer_with to e seen outer
held_first OwnFree e Removed hold outer = refl
held_first LocalFree e Removed hold outer = refl
held_first OwnHand e Removed hold outer = refl
held_first OwnFree e (Held holder) hold outer = refl
held_first LocalFree e (Held holder) hold outer = refl
held_first OwnHand e (Held holder) hold outer = refl

outer_above : (to : Destination) (e : ℕ) (seen : Seen) (shape : Shape) (rank : ℕ) (outer : List Hold) → IsAboveAll shape rank outer → IsAboveAll shape rank (outer_with to e seen outer)
outer_above OwnFree e seen shape rank outer above = above
outer_above LocalFree e Removed shape rank [] above = above
outer_above LocalFree e Removed shape rank (local ∷ outer) above = above
outer_above LocalFree e (Held holder) shape rank outer above = above
outer_above OwnHand e seen shape rank outer above = above

-- the locks that a walk holds, once a probe was made
pub holds_for_on : (t : TableView) (to : Destination) (lock : DomainId) (e : ℕ) (seen : Seen) (p q : PassView) → q.cpu ≡ p.cpu → q.view.held ≡ held_with to e seen p.view.held → HoldsFor t to lock p → HoldsFor t to lock q
holds_for_on t OwnFree lock e seen p q cpu held for =
    (for.0 ∙ ap CpuLru (sym cpu), (hold_with for.1.0 (now_with OwnFree e seen for.1.0.now), held ∙ (ap (held_with OwnFree e seen) for.1.1 ∙ held_first OwnFree e seen for.1.0 [])))
holds_for_on t LocalFree lock e Removed p q cpu held for =
    let hold : Hold = for.2.0 in
    let local : Hold = for.2.1 in (
      for.0,
      subst (λ (c : ℕ). IsTrue (is_lock t.shape (Local c))) (sym cpu) for.1,
      (
        hold_with hold (without_row e hold.now),
        hold_with local (with_free e (without_row e local.now)),
        held ∙ ap (held_with LocalFree e Removed) for.2.2,
        for.2.3 ∙ ap (λ (c : ℕ). lock_number t.shape (Local c)) (sym cpu),
        for.2.4 ∙ sym cpu,
      ),
    )
holds_for_on t LocalFree lock e (Held holder) p q cpu held for = (
  for.0,
  subst (λ (c : ℕ). IsTrue (is_lock t.shape (Local c))) (sym cpu) for.1,
  (for.2.0, for.2.1, held ∙ for.2.2, for.2.3 ∙ ap (λ (c : ℕ). lock_number t.shape (Local c)) (sym cpu), for.2.4 ∙ sym cpu),
)
holds_for_on t OwnHand lock e seen p q cpu held for =
    (for.0, for.1, (hold_with for.2.0 (now_with OwnHand e seen for.2.0.now), held ∙ (ap (held_with OwnHand e seen) for.2.1 ∙ held_first OwnHand e seen for.2.0 [])))

-- and where nothing moved
pub holds_for_still : (t : TableView) (to : Destination) (lock : DomainId) (p q : PassView) → q.cpu ≡ p.cpu → q.view.held ≡ p.view.held → HoldsFor t to lock p → HoldsFor t to lock q
holds_for_still t OwnFree lock p q cpu held for = (for.0 ∙ ap CpuLru (sym cpu), (for.1.0, held ∙ for.1.1))
holds_for_still t LocalFree lock p q cpu held for = (
  for.0,
  subst (λ (c : ℕ). IsTrue (is_lock t.shape (Local c))) (sym cpu) for.1,
  (for.2.0, for.2.1, held ∙ for.2.2, for.2.3 ∙ ap (λ (c : ℕ). lock_number t.shape (Local c)) (sym cpu), for.2.4 ∙ sym cpu),
)
holds_for_still t OwnHand lock p q cpu held for = (for.0, for.1, (for.2.0, held ∙ for.2.1))

-- What may be asked and probed stays so

rows_of_removed : (x e : ℕ) (now : Lists) → x ≢ e → times x (rows (without_row e now)) ≡ times x (rows now)
rows_of_removed x e now other =
    times_append x (without e now.first) (without e now.second)
    ∙ ((λ i. times_without_other x e now.first other i + times_without_other x e now.second other i) ∙ sym (times_append x now.first now.second))

pub still_listed : (to : Destination) (x e : ℕ) (seen : Seen) (now : Lists) → x ≢ e → IsIn x (rows now) → IsIn x (rows (now_with to e seen now))
still_listed OwnFree x e Removed now other listed = subst (λ (n : ℕ). 0 < n) (sym (rows_of_removed x e now other)) listed
still_listed OwnFree x e (Held holder) now other listed = listed
still_listed LocalFree x e Removed now other listed = subst (λ (n : ℕ). 0 < n) (sym (rows_of_removed x e now other)) listed
still_listed LocalFree x e (Held holder) now other listed = listed
still_listed OwnHand x e Removed now other listed = subst (λ (n : ℕ). 0 < n) (sym (rows_of_removed x e now other)) listed
still_listed OwnHand x e (Held holder) now other listed = listed

all_of_removed : (x e : ℕ) (now : Lists) → x ≢ e → IsIn x (all_of now) → IsIn x (all_of (without_row e now))
all_of_removed x e now other inside =
    let was : times x (now.free ++ rows now) ≡ times x now.free + times x (rows now) = times_append x now.free (rows now) in
    let rows_same : times x (rows (without_row e now)) ≡ times x (rows now) = rows_of_removed x e now other in
    let some : 0 < times x (now.free ++ rows now) = inside in
    let parts : times x (now.free ++ rows (without_row e now)) ≡ times x now.free + times x (rows (without_row e now)) = times_append x now.free (rows (without_row e now)) in
    omega (arith, was, rows_same, some, parts)

freed_here : (e : ℕ) (now : Lists) → IsIn e (all_of (with_free e (without_row e now)))
freed_here e now =
    let more : times e (e ∷ (now.free ++ rows (without_row e now))) ≡ suc (times e (now.free ++ rows (without_row e now))) = times_cons_same e (now.free ++ rows (without_row e now)) in omega (arith, more)

all_of_freed : (x e : ℕ) (now : Lists) → IsIn x (all_of now) → IsIn x (all_of (with_free e (without_row e now)))
all_of_freed x e now inside =
    by_test x e (λ _. IsIn x (all_of (with_free e (without_row e now))))
    (λ same. subst (λ (y : ℕ). IsIn y (all_of (with_free e (without_row e now)))) (sym same) (freed_here e now))
    (λ other.
    let then : times x (e ∷ (now.free ++ rows (without_row e now))) ≡ times x (now.free ++ rows (without_row e now)) = times_cons_other x e (now.free ++ rows (without_row e now)) other in
    let some : 0 < times x (now.free ++ rows (without_row e now)) = all_of_removed x e now other inside in
    omega (arith, some, then))

keeps_first : (to : Destination) (x e : ℕ) (seen : Seen) (now : Lists) → x ≢ e → IsIn x (all_of now) → IsIn x (all_of (now_with to e seen now))
keeps_first OwnFree x e Removed now other inside = all_of_freed x e now inside
keeps_first OwnFree x e (Held holder) now other inside = inside
keeps_first LocalFree x e Removed now other inside = all_of_removed x e now other inside
keeps_first LocalFree x e (Held holder) now other inside = inside
keeps_first OwnHand x e Removed now other inside = all_of_removed x e now other inside
keeps_first OwnHand x e (Held holder) now other inside = inside

-- the same locks are held, and an element that stands on the lists of one still does
abbrev KeepOn : ℕ → List Hold → List Hold → Type 0
KeepOn x [] [] = Unit {0}
KeepOn x [] (k ∷ ks) = ⊥
KeepOn x (h ∷ hs) [] = ⊥
KeepOn x (h ∷ hs) (k ∷ ks) = (k.lock ≡ h.lock) × (k.cpu ≡ h.cpu) × (IsIn x (all_of h.now) → IsIn x (all_of k.now)) × KeepOn x hs ks

keep_same : (x : ℕ) (hs : List Hold) → KeepOn x hs hs
keep_same x [] = tt
keep_same x (h ∷ hs) = (refl, refl, (λ z. z), keep_same x hs)

keep_at : (x k : ℕ) (hs ks : List Hold) (one : Hold) → KeepOn x hs ks → hold_at k hs ≡ Some one → (other : Hold) × (hold_at k ks ≡ Some other) × (other.cpu ≡ one.cpu) × (IsIn x (all_of one.now) → IsIn x (all_of other.now))
keep_at x k [] [] one on is = absurd (none_some is)
keep_at x k [] (other ∷ ks) one on is = absurd on
keep_at x k (h ∷ hs) [] one on is = absurd on
keep_at x k (h ∷ hs) (other ∷ ks) one on is =
    by_test h.lock k (λ b. cond b (Some h) (hold_at k hs) ≡ Some one → (y : Hold) × (hold_at k (other ∷ ks) ≡ Some y) × (y.cpu ≡ one.cpu) × (IsIn x (all_of one.now) → IsIn x (all_of y.now)))
    (λ same f. (
      other,
      by_test other.lock k (λ b. cond b (Some other) (hold_at k ks) ≡ Some other) (λ _. refl) (λ apart. absurd (apart (on.0 ∙ same))),
      on.1 ∙ ap (λ (y : Hold). y.cpu) (some_is f),
      (λ inside. on.2 (subst (λ (y : Hold). IsIn x (all_of y.now)) (sym (some_is f)) inside)),
    ))
    (λ apart f.
    let rest = keep_at x k hs ks one on.3 f in (
      rest.0,
      by_test other.lock k (λ b. cond b (Some other) (hold_at k ks) ≡ Some rest.0) (λ same. absurd (apart (sym on.0 ∙ same))) (λ _. rest.1),
      rest.2,
      rest.3,
    ))
    is

keep_outer : (to : Destination) (x e : ℕ) (seen : Seen) (outer : List Hold) → KeepOn x outer (outer_with to e seen outer)
keep_outer OwnFree x e seen outer = keep_same x outer
keep_outer LocalFree x e Removed [] = tt
keep_outer LocalFree x e Removed (local ∷ outer) = (refl, refl, (λ inside. all_of_freed x e local.now inside), keep_same x outer)
keep_outer LocalFree x e (Held holder) outer = keep_same x outer
keep_outer OwnHand x e seen outer = keep_same x outer

may_clear_on : (shape : Shape) (v w : View) (c d x : ℕ) → d ≡ c → KeepOn x v.held w.held → (is_in_hand_of x c v.hand ≡ true → is_in_hand_of x c w.hand ≡ true) → MayClear shape v c x → MayClear shape w d x
may_clear_on shape v w c d x cpu on hand may =
    subst (λ (n : ℕ). MayClear shape w n x) (sym cpu)
    (⊎_elim
    (λ (in_hand : is_in_hand_of x c v.hand ≡ true). inl (hand in_hand))
    (λ (at_home : IsTrue (is_lru shape.kind) × ((lock : DomainId) × IsKnownHome shape v c x (homes.In lock))).
    let lock : DomainId = at_home.1.0 in
    let h = at_home.1.1.0 in
    let then = keep_at x (lock_number shape lock) v.held w.held h.hold on h.held in
    let holds : HoldsLock shape w c lock = record {
      hold = then.0;
      there = h.there;
      held = then.1;
      cpu_is = then.2 ∙ h.cpu_is;
    } in
    inr (at_home.0, (lock, (holds, at_home.1.1.1, then.3 at_home.1.1.2))))
    may)

-- nothing leaves a hand
in_hand_on : (to : Destination) (x c cpu e : ℕ) (seen : Seen) (hand : List InHand) → is_in_hand_of x c hand ≡ true → is_in_hand_of x c (taken_with to cpu e seen hand) ≡ true
in_hand_on OwnFree x c cpu e Removed hand is = is
in_hand_on LocalFree x c cpu e Removed hand is = is
in_hand_on OwnHand x c cpu e Removed hand is = still ((e == x) && (cpu == c)) (is_in_hand_of x c hand) is
  where
    still : (b rest : Bool) → rest ≡ true → cond b true rest ≡ true
    still true rest is = refl
    still false rest is = is
in_hand_on to x c cpu e (Held holder) hand is = is

-- and what wasn't there still isn't, but for the element
no_hand_on : (to : Destination) (x c cpu e : ℕ) (seen : Seen) (hand : List InHand) → x ≢ e → is_in_hand_of x c hand ≡ false → is_in_hand_of x c (taken_with to cpu e seen hand) ≡ false
no_hand_on OwnFree x c cpu e Removed hand other is = is
no_hand_on LocalFree x c cpu e Removed hand other is = is
no_hand_on OwnHand x c cpu e Removed hand other is = in_hand_more_else x c e cpu hand (λ same _. other same) ∙ is
no_hand_on to x c cpu e (Held holder) hand other is = is

local_no_global : (cpu : ℕ) → Local cpu ≡ Global → ⊥
local_no_global cpu e = cc

pub other_local : (shape : Shape) (cpu : ℕ) → IsTrue (is_lock shape Global) → IsTrue (is_lock shape (Local cpu)) → lock_number shape (Local cpu) ≢ lock_number shape Global
other_local shape cpu there local_there same =
    local_no_global cpu (sym (named_by_number shape (Local cpu) local_there) ∙ (ap (lock_named shape) same ∙ named_by_number shape Global there))

module _ {t : TableView} {to : Destination} {lock : DomainId} {p : PassView} (h : HoldsLists t lock p) (for : HoldsFor t to lock p) where
  -- of the element itself
  may_clear_same : (bucket e : ℕ) (q : PassView) (seen : Seen) → Chased t to bucket e p q seen → MayClear t.shape p.view p.cpu e → MayClear t.shape q.view q.cpu e
  may_clear_same bucket e q seen done may = go to seen for done.held done.hand
    where
      still : KeepOn e p.view.held q.view.held → (is_in_hand_of e p.cpu p.view.hand ≡ true → is_in_hand_of e p.cpu q.view.hand ≡ true) → MayClear t.shape q.view q.cpu e
      still on hand = may_clear_on t.shape p.view q.view p.cpu q.cpu e done.goes.cpu on hand may

      unmoved : q.view.held ≡ p.view.held → q.view.hand ≡ p.view.hand → MayClear t.shape q.view q.cpu e
      unmoved held hand = still (subst (KeepOn e p.view.held) (sym held) (keep_same e p.view.held)) (λ is. ap (is_in_hand_of e p.cpu) hand ∙ is)

      go : (to : Destination) (seen : Seen) → HoldsFor t to lock p → q.view.held ≡ held_with to e seen p.view.held → q.view.hand ≡ taken_with to p.cpu e seen p.view.hand → MayClear t.shape q.view q.cpu e
      go OwnFree Removed for held hand =
          still (subst (λ (z : List Hold × List Hold). KeepOn e z.0 z.1) (λ i. (sym h.held i, sym (held ∙ ap (held_with OwnFree e Removed) h.held) i)) ((refl, refl, (λ inside. freed_here e h.hold.now), keep_same e h.outer)))
          (λ is. ap (is_in_hand_of e p.cpu) hand ∙ is)
      go LocalFree Removed for held hand =
          let local : Hold = hold_with for.2.1 (with_free e (without_row e for.2.1.now)) in
          let first : Hold = hold_with for.2.0 (without_row e for.2.0.now) in
          let one : h.hold ≡ for.2.0 = same_head (sym h.held ∙ for.2.2) in
          let there : IsTrue (is_lock t.shape (Local p.cpu)) = for.1 in
          let lock_is : for.2.0.lock ≡ lock_number t.shape Global = ap (λ (z : Hold). z.lock) (sym one) ∙ (h.lock_is ∙ ap (lock_number t.shape) for.0) in
          let apart : lock_number t.shape (Local p.cpu) ≢ first.lock = (λ same. other_local t.shape p.cpu (subst (λ (d : DomainId). IsTrue (is_lock t.shape d)) for.0 h.there) there (same ∙ lock_is)) in
          let found : hold_at (lock_number t.shape (Local p.cpu)) q.view.held ≡ Some local =
          ap (hold_at (lock_number t.shape (Local p.cpu))) (held ∙ ap (held_with LocalFree e Removed) for.2.2)
          ∙ (hold_at_other (lock_number t.shape (Local p.cpu)) first (local ∷ []) apart
          ∙ (ap (λ (k : ℕ). hold_at k (local ∷ [])) (sym for.2.3) ∙ hold_at_first local [])) in
          let holds : HoldsLock t.shape q.view p.cpu (Local p.cpu) = record {
            hold = local;
            there = there;
            held = found;
            cpu_is = for.2.4;
          } in
          subst (λ (c : ℕ). MayClear t.shape q.view c e) (sym done.goes.cpu) (inr (h.evicts, (Local p.cpu, (holds, refl, freed_here e for.2.1.now))))
      go OwnHand Removed for held hand =
          subst (λ (c : ℕ). MayClear t.shape q.view c e) (sym done.goes.cpu) (inl (ap (is_in_hand_of e p.cpu) hand ∙ in_hand_more e p.cpu p.view.hand))
      go OwnFree (Held holder) for held hand = unmoved held hand
      go LocalFree (Held holder) for held hand = unmoved held hand
      go OwnHand (Held holder) for held hand = unmoved held hand

  keep_chased : (x bucket e : ℕ) (q : PassView) (seen : Seen) → x ≢ e → Chased t to bucket e p q seen → KeepOn x p.view.held q.view.held
  keep_chased x bucket e q seen other done =
      subst (λ (z : List Hold × List Hold). KeepOn x z.0 z.1) (λ i. (sym h.held i, sym (done.held ∙ (ap (held_with to e seen) h.held ∙ held_first to e seen h.hold h.outer)) i))
      ((refl, refl, (λ inside. keeps_first to x e seen h.hold.now other inside), keep_outer to x e seen h.outer))

  pub asked_chased : (x bucket e : ℕ) (q : PassView) (seen : Seen) → Chased t to bucket e p q seen → MayAsk t p x → MayAsk t q x
  asked_chased x bucket e q seen done may = (
    may.0,
    by_test x e (λ _. MayClear t.shape q.view q.cpu x)
        (λ same. subst (λ (y : ℕ). MayClear t.shape q.view q.cpu y) (sym same) (may_clear_same bucket e q seen done (subst (λ (y : ℕ). MayClear t.shape p.view p.cpu y) same may.1)))
        (λ other.
        may_clear_on t.shape p.view q.view p.cpu q.cpu x done.goes.cpu (keep_chased x bucket e q seen other done)
        (λ is. ap (is_in_hand_of x p.cpu) done.hand ∙ in_hand_on to x p.cpu p.cpu e seen p.view.hand is) may.1),
  )

-- where nothing moved
pub asked_still : (t : TableView) (x : ℕ) (p q : PassView) → q.cpu ≡ p.cpu → q.view.held ≡ p.view.held → q.view.hand ≡ p.view.hand → MayAsk t p x → MayAsk t q x
asked_still t x p q cpu held hand may = (
  may.0,
  may_clear_on t.shape p.view q.view p.cpu q.cpu x cpu (subst (KeepOn x p.view.held) (sym held) (keep_same x p.view.held)) (λ is. ap (is_in_hand_of x p.cpu) hand ∙ is) may.1,
)

pub asked_cleared : (t : TableView) (x e : ℕ) (p q : PassView) (bit : Bool) → Cleared e p q bit → MayAsk t p x → MayAsk t q x
asked_cleared t x e p q bit done may = asked_still t x p q (ap (λ (z : PassView). z.cpu) done.after_is) (ap (λ (z : PassView). z.view.held) done.after_is) (ap (λ (z : PassView). z.view.hand) done.after_is) may

pub asked_read : (t : TableView) (x e : ℕ) (p q : PassView) (bit : Bool) → SawBit e p q bit → MayAsk t p x → MayAsk t q x
asked_read t x e p q bit done may = asked_still t x p q (ap (λ (z : PassView). z.cpu) done.after_is) (ap (λ (z : PassView). z.view.held) done.after_is) (ap (λ (z : PassView). z.view.hand) done.after_is) may

-- Logs of what is held

abbrev pub log_at : ℕ → List Hold → Option (List Entry)
log_at k held = option_map (λ (hold : Hold). hold.log) (hold_at k held)

pub log_first : (k : ℕ) (hold : Hold) (now : Lists) (outer others : List Hold) → log_at k others ≡ log_at k outer → log_at k (hold_with hold now ∷ others) ≡ log_at k (hold ∷ outer)
log_first k hold now outer others same = go (hold.lock == k)
  where
    go : (b : Bool) → option_map (λ (x : Hold). x.log) (cond b (Some (hold_with hold now)) (hold_at k others)) ≡ option_map (λ (x : Hold). x.log) (cond b (Some hold) (hold_at k outer))
    go true = refl
    go false = same

log_outer : (to : Destination) (e : ℕ) (seen : Seen) (k : ℕ) (outer : List Hold) → log_at k (outer_with to e seen outer) ≡ log_at k outer
log_outer OwnFree e seen k outer = refl
log_outer LocalFree e Removed k [] = refl
log_outer LocalFree e Removed k (local ∷ outer) = log_first k local (with_free e (without_row e local.now)) outer outer refl
log_outer LocalFree e (Held holder) k outer = refl
log_outer OwnHand e seen k outer = refl

log_with : (to : Destination) (e : ℕ) (seen : Seen) (k : ℕ) (held : List Hold) → log_at k (held_with to e seen held) ≡ log_at k held
log_with to e seen k (hold ∷ outer) =
    ap (log_at k) (held_first to e seen hold outer) ∙ log_first k hold (now_with to e seen hold.now) outer (outer_with to e seen outer) (log_outer to e seen k outer)
log_with OwnFree e Removed k [] = refl
log_with LocalFree e Removed k [] = refl
log_with OwnHand e Removed k [] = refl
log_with to e (Held holder) k [] = refl

pub log_after : (to : Destination) (probes : List ProbeCall) (k : ℕ) (held : List Hold) → log_at k (held_after to probes held) ≡ log_at k held
log_after to [] k held = refl
log_after to (probe ∷ probes) k held = log_after to probes k (held_with to probe.element probe.probed held) ∙ log_with to probe.element probe.probed k held

log_found : (found : Option Hold) (log : List Entry) → option_map (λ (x : Hold). x.log) found ≡ Some log → (hold : Hold) × (found ≡ Some hold) × (hold.log ≡ log)
log_found None log is = absurd (none_some is)
log_found (Some hold) log is = (hold, refl, some_is is)

-- a hash that is the only one stays so where the logs are the same
pub only_hash_on : (shape : Shape) (v w : View) (x hash : ℕ) → ((k : ℕ) → log_at k w.held ≡ log_at k v.held) → HasOnlyHash shape v x hash → HasOnlyHash shape w x hash
only_hash_on shape v w x hash same only k h hold held stored =
    let was = log_found (hold_at k v.held) hold.log (sym (same k) ∙ ap (option_map (λ (y : Hold). y.log)) held) in
    only k h was.0 was.1 (ap (λ (log : List Entry). stored_in (content shape (lock_named shape k) log) x) was.2 ∙ stored)

pub only_hash_still : (shape : Shape) (v w : View) (x hash : ℕ) → w.held ≡ v.held → HasOnlyHash shape v x hash → HasOnlyHash shape w x hash
only_hash_still shape v w x hash held only = only_hash_on shape v w x hash (λ k. ap (log_at k) held) only

-- where nothing moved
pub probe_still : (t : TableView) (rows : List Row) (p q : PassView) (row : Row) → q.view.held ≡ p.view.held → q.view.hand ≡ p.view.hand → q.view.cpus ≡ p.view.cpus → MayChase t rows p row → MayChase t rows q row
probe_still t rows p q row held hand cpus may =
    let m = may.1 in (
      may.0,
      record {
        real = m.real;
        hold = m.hold;
        outer = m.outer;
        held = held ∙ m.held;
        listed = m.listed;
        hashed = only_hash_still t.shape p.view q.view row.element row.hash held m.hashed;
        in_no_hand = λ cpu among. ap (is_in_hand_of row.element cpu) hand ∙ m.in_no_hand cpu (ap (is_among cpu) (sym cpus) ∙ among);
      },
    )

pub probe_cleared : (t : TableView) (rows : List Row) (e : ℕ) (p q : PassView) (bit : Bool) (row : Row) → Cleared e p q bit → MayChase t rows p row ↔ MayChase t rows q row
probe_cleared t rows e p q bit row done =
    let held = ap (λ (z : PassView). z.view.held) done.after_is in
    let hand = ap (λ (z : PassView). z.view.hand) done.after_is in
    let cpus = ap (λ (z : PassView). z.view.cpus) done.after_is in
    ((λ may. probe_still t rows p q row held hand cpus may), (λ may. probe_still t rows q p row (sym held) (sym hand) (sym cpus) may))

pub probe_read : (t : TableView) (rows : List Row) (e : ℕ) (p q : PassView) (bit : Bool) (row : Row) → SawBit e p q bit → MayChase t rows p row ↔ MayChase t rows q row
probe_read t rows e p q bit row done =
    let held = ap (λ (z : PassView). z.view.held) done.after_is in
    let hand = ap (λ (z : PassView). z.view.hand) done.after_is in
    let cpus = ap (λ (z : PassView). z.view.cpus) done.after_is in
    ((λ may. probe_still t rows p q row held hand cpus may), (λ may. probe_still t rows q p row (sym held) (sym hand) (sym cpus) may))

-- Rows of other elements may be probed as before
pub chased_other : (t : TableView) (to : Destination) (rows : List Row) (bucket e h : ℕ) (p q : PassView) (seen : Seen) (row : Row) → Chased t to bucket e p q seen → stored_hash e rows ≡ Some h → row ≢ record { element = e; hash = h } → MayChase t rows p row → MayChase t rows q row
chased_other t to rows bucket e h p q seen row done stored other may =
    let m = may.1 in
    let apart : row.element ≢ e = (λ same. other (λ i. record { element = same i; hash = some_is (sym may.0 ∙ (ap (λ (x : ℕ). stored_hash x rows) same ∙ stored)) i })) in
    let held : q.view.held ≡ hold_with m.hold (now_with to e seen m.hold.now) ∷ outer_with to e seen m.outer = done.held ∙ (ap (held_with to e seen) m.held ∙ held_first to e seen m.hold m.outer) in (
      may.0,
      record {
        real = m.real;
        hold = hold_with m.hold (now_with to e seen m.hold.now);
        outer = outer_with to e seen m.outer;
        held = held;
        listed = still_listed to row.element e seen m.hold.now apart m.listed;
        hashed = only_hash_on t.shape p.view q.view row.element row.hash
            (λ k. ap (log_at k) held ∙ (log_first k m.hold (now_with to e seen m.hold.now) m.outer (outer_with to e seen m.outer) (log_outer to e seen k m.outer) ∙ ap (log_at k) (sym m.held)))
            m.hashed;
        in_no_hand = λ cpu among. ap (is_in_hand_of row.element cpu) done.hand ∙ no_hand_on to row.element cpu p.cpu e seen p.view.hand apart (m.in_no_hand cpu (ap (is_among cpu) (sym done.goes.cpus) ∙ among));
      },
    )

-- and so may this one where it is in a hand
pub chased_held : (t : TableView) (to : Destination) (rows : List Row) (bucket e : ℕ) (p q : PassView) (row : Row) (answer : Probed) → IsHeld answer → Chased t to bucket e p q (seen_of answer) → MayChase t rows p row → MayChase t rows q row
chased_held t to rows bucket e p q row (answers.Removed body) held done may = absurd held
chased_held t to rows bucket e p q row (answers.Held holder) held done may = probe_still t rows p q row done.held done.hand done.goes.cpus may

-- Lists that grow at their end

asked_more : (calls : List BitCall) (call : BitCall) (asked : List BitAsked) → asked_after (calls ++ call ∷ []) asked ≡ asked_by call ∷ asked_after calls asked
asked_more [] call asked = refl
asked_more (first ∷ calls) call asked = asked_more calls call (asked_by first ∷ asked)

owners_more : (probes : List ProbeCall) (probe : ProbeCall) (owners : List OwnerSeen) → owners_after (probes ++ probe ∷ []) owners ≡ owners_with probe.element probe.probed (owners_after probes owners)
owners_more [] probe owners = refl
owners_more (first ∷ probes) probe owners = owners_more probes probe (owners_with first.element first.probed owners)

changed_more : (to : Destination) (probes : List ProbeCall) (probe : ProbeCall) (changed : List OwnerSeen) → changed_after to (probes ++ probe ∷ []) changed ≡ changed_with to probe.element probe.probed (changed_after to probes changed)
changed_more to [] probe changed = refl
changed_more to (first ∷ probes) probe changed = changed_more to probes probe (changed_with to first.element first.probed changed)

held_more : (to : Destination) (probes : List ProbeCall) (probe : ProbeCall) (held : List Hold) → held_after to (probes ++ probe ∷ []) held ≡ held_with to probe.element probe.probed (held_after to probes held)
held_more to [] probe held = refl
held_more to (first ∷ probes) probe held = held_more to probes probe (held_with to first.element first.probed held)

came_more : (to : Destination) (probes : List ProbeCall) (probe : ProbeCall) (below : List Notes) → came_after to (probes ++ probe ∷ []) below ≡ came_with to probe.element probe.probed (came_after to probes below)
came_more to [] probe below = refl
came_more to (first ∷ probes) probe below = came_more to probes probe (came_with to first.element first.probed below)

taken_more : (to : Destination) (cpu : ℕ) (probes : List ProbeCall) (probe : ProbeCall) (hand : List InHand) → taken_after to cpu (probes ++ probe ∷ []) hand ≡ taken_with to cpu probe.element probe.probed (taken_after to cpu probes hand)
taken_more to cpu [] probe hand = refl
taken_more to cpu (first ∷ probes) probe hand = taken_more to cpu probes probe (taken_with to cpu first.element first.probed hand)

-- where what is removed is freed, nothing stays in a hand
pub taken_none : (to : Destination) → ((cpu e : ℕ) (seen : Seen) (hand : List InHand) → taken_with to cpu e seen hand ≡ hand) → (cpu : ℕ) (probes : List ProbeCall) (hand : List InHand) → taken_after to cpu probes hand ≡ hand
taken_none to none cpu [] hand = refl
taken_none to none cpu (probe ∷ probes) hand = ap (taken_after to cpu probes) (none cpu probe.element probe.probed hand) ∙ taken_none to none cpu probes hand

evicts_more : (shape : Shape) (cpu call : ℕ) (rows : List Row) (probes : List ProbeCall) (turns : List Turned) (probe : ProbeCall) (turn : Turned) → AreEvicts shape cpu call rows probes turns
    → IsEvict shape cpu call (bucket_number probe.hash shape.buckets) probe.element probe.probed turn → stored_hash probe.element rows ≡ Some probe.hash → AreEvicts shape cpu call rows (probes ++ probe ∷ []) (turns ++ turn ∷ [])
evicts_more shape cpu call rows [] [] probe turn are one stored = (one, stored, tt)
evicts_more shape cpu call rows [] (turn' ∷ turns) probe turn are one stored = absurd are
evicts_more shape cpu call rows (probe' ∷ probes) [] probe turn are one stored = absurd are
evicts_more shape cpu call rows (probe' ∷ probes) (turn' ∷ turns) probe turn are one stored = (are.0, are.1, evicts_more shape cpu call rows probes turns probe turn are.2 one stored)

call_is : (call : BitCall) → call_of (asked_by call) ≡ call
call_is (calls.Cleared visit) = refl
call_is (calls.Read visit) = refl

one_more : (call : BitCall) (asked : List BitAsked) → map call_of (reverse (asked_by call ∷ asked)) ≡ map call_of (reverse asked) ++ call ∷ []
one_more call asked =
    ap (map call_of) (reverse-append (asked_by call ∷ []) asked)
    ∙ (map-append call_of (reverse asked) (asked_by call ∷ []) ∙ ap (λ (c : BitCall). map call_of (reverse asked) ++ c ∷ []) (call_is call))

-- what a probe read is noted of the turn around it, and what came to the local lists of the turn around that
noted_first : (to : Destination) (e : ℕ) (seen : Seen) (n : Notes) (below : List Notes) → noted_with to e seen (n ∷ below) ≡ record n { owners = owners_with e seen n.owners; changed = changed_with to e seen n.changed } ∷ came_with to e seen below
noted_first OwnFree e Removed n below = refl
noted_first LocalFree e Removed n below = refl
noted_first OwnHand e Removed n below = refl
noted_first OwnFree e (Held holder) n below = refl
noted_first LocalFree e (Held holder) n below = refl
noted_first OwnHand e (Held holder) n below = refl

-- a probe is one more among the turns
pub probed_more : {t : TableView} {to : Destination} {p : PassView} (hash : ℕ → ℕ) (bucket e h : ℕ) (q : PassView) (seen : Seen) → hash e ≡ h → Chased t to bucket e p q seen
    → probes_made hash q.view.steps ≡ probes_made hash p.view.steps ++ record { element = e; hash = h; probed = seen } ∷ []
probed_more {t} {to} {p} hash bucket e h q seen named done =
    ap (probes_made hash) done.goes.steps
    ∙ (filter_map-append (λ (step : Turned). probe_of hash step.entry.part) p.view.steps (done.turn ∷ [])
    ∙ (ap (λ (entry : Entry). probes_made hash p.view.steps ++ filter_map (probe_of hash) (entry.part ∷ [])) done.is_evict.entry
    ∙ ap (λ (n : ℕ). probes_made hash p.view.steps ++ record { element = e; hash = n; probed = seen } ∷ []) named))

-- where the walk's lock is that of the global lists, local ones are held around it
own_not_global : {cpu : ℕ} → CpuLru cpu ≡ Global → ⊥
own_not_global e = cc

second_of : {lists first second : Hold} {outer rest : List Hold} → lists ∷ outer ≡ first ∷ second ∷ rest → outer ≡ second ∷ rest
second_of e = cc

local_last : (t : TableView) (to : Destination) (lock : DomainId) (p : PassView) (h : HoldsLists t lock p) → HoldsFor t to lock p → lock ≡ Global → IsLocalLast t.shape h.outer
local_last t OwnFree lock p h for is = absurd (own_not_global (sym for.0 ∙ is))
local_last t LocalFree lock p h for is =
    let named : lock_named t.shape for.2.1.lock ≡ Local p.cpu = ap (lock_named t.shape) for.2.3 ∙ named_by_number t.shape (Local p.cpu) for.1 in
    subst (IsLocalLast t.shape) (sym (second_of (sym h.held ∙ for.2.2))) (subst (λ (d : DomainId). IsTrue (is_local d)) (sym named) refl)
local_last t OwnHand lock p h for is = absurd (local_no_global for.0 (sym for.1 ∙ is))

-- what a probe removed is freed, and in the turn around the walk nothing is changed
freed_on : (to : Destination) (e : ℕ) (seen : Seen) (changed : List OwnerSeen) → AreFreed changed → AreFreed (changed_with to e seen changed)
freed_on OwnFree e Removed changed freed = (refl, freed)
freed_on LocalFree e Removed changed freed = (refl, freed)
freed_on OwnHand e Removed changed freed = freed
freed_on to e (Held holder) changed freed = freed

around_still : (to : Destination) (x e : ℕ) (seen : Seen) (outer : List Hold) (below : List Notes) → change_in x (outer_with to e seen outer) (came_with to e seen below) ≡ change_in x outer below
around_still OwnFree x e seen outer below = refl
around_still LocalFree x e Removed [] below = refl
around_still LocalFree x e Removed (local ∷ outer) [] = refl
around_still LocalFree x e Removed (local ∷ outer) (n ∷ below) = refl
around_still LocalFree x e (Held holder) outer below = refl
around_still OwnHand x e seen outer below = refl

-- the lock of the walk is still held
pub holds_after : {t : TableView} {lock : DomainId} {p : PassView} (h : HoldsLists t lock p) (q : PassView) (more : List Turned) (now : Lists) (outer : List Hold) (n : Notes) (below : List Notes)
    → Goes p q more [] → q.view.held ≡ hold_with h.hold now ∷ outer → IsAboveAll t.shape (rank_of lock) outer → q.view.notes ≡ n ∷ below → AreFreed n.changed → ((e : ℕ) → change_in e outer below ≡ None) → HoldsLists t lock q
holds_after {t} {lock} {p} h q more now outer n below goes held above notes freed unchanged = record {
  of_table = goes_of_table t p q more [] goes h.of_table;
  begun = goes_begun p q more [] goes h.begun;
  is_shape = h.is_shape;
  evicts = h.evicts;
  there = h.there;
  lists = h.lists;
  hold = hold_with h.hold now;
  outer = outer;
  held = held;
  above = above;
  lock_is = h.lock_is;
  cpu_is = h.cpu_is ∙ sym goes.cpu;
  notes = n;
  below = below;
  notes_are = notes;
  freed = freed;
  unchanged = unchanged;
}

-- what is named for an element is the hash that it has among the rows
pub hash_named : (rows : List Row) (e h : ℕ) → stored_hash e rows ≡ Some h → hash_in rows e ≡ h
hash_named rows e h stored = ap (λ (found : Option ℕ). unwrap_or found 0) stored

module _ {t : TableView} {to : Destination} {lock : DomainId} {rows : List Row} {start p : PassView} (s : Since t to lock rows start p) where
  abbrev now_notes : Notes
  now_notes = notes_after to s.calls s.probes s.does.notes

  abbrev now_below : List Notes
  now_below = came_after to s.probes s.does.below

  now_freed : AreFreed now_notes.changed
  now_freed = subst (λ (n : Notes). AreFreed n.changed) (same_head (sym s.holds.notes_are ∙ s.does.noted)) s.holds.freed

  now_unchanged : (e : ℕ) → change_in e s.holds.outer now_below ≡ None
  now_unchanged e = ap (change_in e s.holds.outer) (same_rest (sym s.does.noted ∙ s.holds.notes_are)) ∙ s.holds.unchanged e

  -- a step that only notes a call for a bit
  noted_more : (call : BitCall) (q : PassView) → Goes p q [] [] → q.view.held ≡ p.view.held → q.view.notes ≡ record now_notes { asked = asked_by call ∷ now_notes.asked } ∷ now_below → q.view.carried ≡ p.view.carried → q.view.hand ≡ p.view.hand
      → q.spares ≡ p.spares → SawHolders t.shape p q [] → Learns t.shape p.view q.view [] (touch_by call ∷ []) → Since t to lock rows start q
  noted_more call q goes held notes carried hand spares saw learns =
      let d = s.does in
      let then : Notes = record now_notes { asked = asked_by call ∷ now_notes.asked } in
      record {
        holds = holds_after s.holds q [] s.holds.hold.now s.holds.outer then now_below goes (held ∙ s.holds.held) s.holds.above notes now_freed now_unchanged;
        holds_for = holds_for_still t to lock p q goes.cpu held s.holds_for;
        calls = s.calls ++ call ∷ [];
        calls_are =
            ap calls_noted notes ∙ (one_more call now_notes.asked ∙ (ap (λ (l : List Notes). calls_noted l ++ call ∷ []) (sym d.noted)
            ∙ (ap (λ (l : List BitCall). l ++ call ∷ []) s.calls_are ∙ append_assoc (calls_noted start.view.notes) s.calls (call ∷ []))));
        probes = s.probes;
        probes_are = ap (probes_made (hash_in rows)) (goes.steps ∙ append_nil p.view.steps) ∙ s.probes_are;
        does = record {
          turns = d.turns;
          goes = subst (λ (l : List Turned). Goes start q l []) (append_nil d.turns) (goes_on start p q d.turns [] [] [] d.goes goes);
          held = held ∙ d.held;
          notes = d.notes;
          below = d.below;
          was_noted = d.was_noted;
          noted = notes ∙ ap (λ (l : List BitAsked). record now_notes { asked = l } ∷ now_below) (sym (asked_more s.calls call d.notes.asked));
          carried = carried ∙ d.carried;
          hand = hand ∙ d.hand;
          spares = spares ∙ d.spares;
          are_evicts = d.are_evicts;
          saw = saw_on_none t.shape start p q d.turns d.saw saw;
          learns = subst (λ (z : List Turned × List BitTouch). Learns t.shape start.view q.view z.0 z.1) (λ i. (append_nil d.turns i, sym (map-append touch_by s.calls (call ∷ [])) i))
              (learns_on t.shape start.view p.view q.view d.turns [] (map touch_by s.calls) (touch_by call ∷ []) d.learns learns);
        };
      }

  pub since_cleared : (e : ℕ) (q : PassView) (bit : Bool) → Cleared e p q bit → Since t to lock rows start q
  since_cleared e q bit done =
      let v : View = cleared done.at e bit p.view in
      subst (Since t to lock rows start) (sym done.after_is)
      (noted_more (calls.Cleared (record { element = e; bit = bit })) (with_view p v) (goes_noted v.notes v.bits v.touched v.readings p (with_view p v) refl) refl (ap (with_clear e bit) s.does.noted) refl refl refl (saw_none t.shape p (with_view p v) _ refl)
      (learns_cleared t.shape done.at e bit p.view done.known))

  pub since_read : (e : ℕ) (q : PassView) (bit : Bool) → SawBit e p q bit → Since t to lock rows start q
  since_read e q bit done =
      let v : View = bit_read done.at e bit p.view in
      subst (Since t to lock rows start) (sym done.after_is)
      (noted_more (calls.Read (record { element = e; bit = bit })) (with_view p v) (goes_noted v.notes v.bits v.touched v.readings p (with_view p v) refl) refl (ap (with_bit_read e bit) s.does.noted) refl refl refl (saw_none t.shape p (with_view p v) _ refl)
      (learns_bit_read t.shape done.at e bit p.view done.known))

  -- what a probe asks of the pass
  pub can_chase : (bucket e h : ℕ) → bucket ≡ bucket_number h t.shape.buckets → bucket < t.shape.buckets → MayProbe t p (record { element = e; hash = h }) → CanChase t to bucket e p
  can_chase bucket e h here there may = record {
    can = record { lock = lock; holds = s.holds; under = local_last t to lock p s.holds s.holds_for; hash = h; may = may; bucket_is = here; there = there };
    holds_for = s.holds_for;
  }

  pub since_chased : (bucket e h : ℕ) (q : PassView) (seen : Seen) → bucket ≡ bucket_number h t.shape.buckets → stored_hash e rows ≡ Some h → Chased t to bucket e p q seen → Since t to lock rows start q
  since_chased bucket e h q seen here stored done =
      let d = s.does in
      let probe : ProbeCall = record { element = e; hash = h; probed = seen } in
      let turns : List Turned = d.turns ++ done.turn ∷ [] in
      let then : Notes = record now_notes { owners = owners_with e seen now_notes.owners; changed = changed_with to e seen now_notes.changed } in
      let notes : q.view.notes ≡ then ∷ came_with to e seen now_below = done.notes ∙ (ap (noted_with to e seen) d.noted ∙ noted_first to e seen now_notes now_below) in
      record {
        holds =
            holds_after s.holds q (done.turn ∷ []) (now_with to e seen s.holds.hold.now) (outer_with to e seen s.holds.outer) then (came_with to e seen now_below) done.goes
            (done.held ∙ (ap (held_with to e seen) s.holds.held ∙ held_first to e seen s.holds.hold s.holds.outer))
            (outer_above to e seen t.shape (rank_of lock) s.holds.outer s.holds.above) notes
            (freed_on to e seen now_notes.changed now_freed) (λ x. around_still to x e seen s.holds.outer now_below ∙ now_unchanged x);
        holds_for = holds_for_on t to lock e seen p q done.goes.cpu done.held s.holds_for;
        calls = s.calls;
        calls_are = ap calls_noted notes ∙ (ap calls_noted (sym d.noted) ∙ s.calls_are);
        probes = s.probes ++ probe ∷ [];
        probes_are = probed_more (hash_in rows) bucket e h q seen (hash_named rows e h stored) done
            ∙ (ap (λ (l : List ProbeCall). l ++ probe ∷ []) s.probes_are ∙ append_assoc (probes_made (hash_in rows) start.view.steps) s.probes (probe ∷ []));
        does = record {
          turns = turns;
          goes = goes_on start p q d.turns (done.turn ∷ []) [] [] d.goes done.goes;
          held = done.held ∙ (ap (held_with to e seen) d.held ∙ sym (held_more to s.probes probe start.view.held));
          notes = d.notes;
          below = d.below;
          was_noted = d.was_noted;
          noted = notes ∙ (λ i. record now_notes { owners = sym (owners_more s.probes probe d.notes.owners) i; changed = sym (changed_more to s.probes probe d.notes.changed) i } ∷ sym (came_more to s.probes probe d.below) i);
          carried = done.carried ∙ ((λ i. taken_with to (d.goes.cpu i) e seen (d.carried i)) ∙ sym (taken_more to start.cpu s.probes probe start.view.carried));
          hand = done.hand ∙ ((λ i. taken_with to (d.goes.cpu i) e seen (d.hand i)) ∙ sym (taken_more to start.cpu s.probes probe start.view.hand));
          spares = done.spares ∙ d.spares;
          are_evicts = evicts_more t.shape start.cpu start.call rows s.probes d.turns probe done.turn d.are_evicts
              (subst (λ (z : ℕ × ℕ × ℕ). IsEvict t.shape z.0 z.1 z.2 e seen done.turn) (λ i. (d.goes.cpu i, d.goes.call i, here i)) done.is_evict)
              stored;
          saw = saw_on t.shape start p q d.turns (done.turn ∷ []) d.saw done.saw;
          learns = subst (λ (l : List BitTouch). Learns t.shape start.view q.view turns l) (append_nil (map touch_by s.calls))
              (learns_on t.shape start.view p.view q.view d.turns (done.turn ∷ []) (map touch_by s.calls) [] d.learns done.learns);
        };
      }

-- nothing yet
pub since_start : (t : TableView) (to : Destination) (lock : DomainId) (rows : List Row) (p : PassView) → HoldsLists t lock p → HoldsFor t to lock p → Since t to lock rows p p
since_start t to lock rows p h for = record {
  holds = h;
  holds_for = for;
  calls = [];
  calls_are = sym (append_nil (calls_noted p.view.notes));
  probes = [];
  probes_are = sym (append_nil (probes_made (hash_in rows) p.view.steps));
  does = does_nothing t to rows p h.notes h.below h.notes_are;
}

-- A pass is of one table: whatever table the object says at the end is that of the start.
pub same_table : (t u : TableView) (to : Destination) (lock : DomainId) (rows : List Row) (start p q : PassView) → IsPassOf t p → start ≡ p → Since u to lock rows start q → u ≡ t
same_table t u to lock rows start p q of_table is since =
    let goes = subst (λ (z : PassView). Goes z q since.does.turns []) is since.does.goes in λ i. record {
      id = (sym since.holds.of_table.0 ∙ (goes.table ∙ of_table.0)) i;
      shape = (sym since.holds.of_table.1 ∙ (goes.shape ∙ of_table.1)) i;
    }
