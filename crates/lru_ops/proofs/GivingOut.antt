-- The head of the free list of the own set, given out under its lock.
use Rattle.std.proofs.Common.{inl, inr, ◌≡◌, ◌≢◌, ℕ, ◌<◌, ◌+◌, cond, true, false, Bool, List, [], ◌∷◌, ◌++◌, map, length, sym, refl, ap, ◌∙◌, subst, Option, Some, None, append_assoc, arith}
use Rattle.std.specs.Prelude.{◌==◌, ◌&&◌, reverse, drop, find, slice_get, option_map, option_to_list, MatchOption, IsTrue, All, suc}
use Rattle.std.proofs.lemmas.List.{reverse-append, reverse-reverse}
use Rattle.std.proofs.lemmas.List.Elements.{recursion_from_All, All-from_recursion, All-nil, All-cons}
use Rattle.std.proofs.lemmas.Option.{slice_get-map}
use Rattle.std.specs.List.{AllByRecursion}
use Rattle.map_types.specs.declared.attr.Shape.{Shape}
use Rattle.map_types.specs.declared.kind.DomainId.{DomainId}
use Rattle.map_types.specs.declared.kind.DomainId.TheVariants.{CpuLru}
use Rattle.map_types.specs.declared.row.Row.{Row}
use Rattle.map_types.specs.ElementLists.{times, without}
use Rattle.map_types.specs.Listed.{elements_of}
use Rattle.map_types.specs.Stored.{Stored, IsSized}
use Rattle.map_types.proofs.RowLemmas.{times_append, by_test}
use Rattle.owner_words.specs.Owners.{owner_by}
use Rattle.place_words.specs.declared.bucket_part.Seen.{Seen}
use Rattle.place_words.specs.declared.bucket_part.Seen.TheVariants.{Removed, Held}
use Rattle.place_words.specs.declared.list_part.OwnPart.TheVariants as own
use Rattle.place_words.specs.declared.visits.Look.{Look}
use Rattle.place_words.specs.declared.visits.ShrinkNote.{ShrinkNote}
use Rattle.place_words.specs.declared.visits.Try.{Try}
use Rattle.place_words.specs.declared.visits.Visit.{Visit}
use Rattle.place_words.specs.Bodies.{numbers}
use Rattle.place_words.specs.Histories.{looks_told, got_cleared}
use Rattle.place_words.specs.Locks.{is_lock, lock_number}
use Rattle.place_words.specs.Sets.{ListSet, given_out, own_after, own_scans, rotated_set, shrunk_into_free, AllowsOnOwn}
use Rattle.place_words.specs.Takings.{shrink_probes, stored_hash}
use Rattle.place_words.specs.declared.step.Lists.{Lists}
use Rattle.place_words.specs.State.{rows}
use Rattle.place_words.specs.Steps.{with_row, without_free}
use Rattle.place_words.specs.Interleaving.{own_steps}
use Rattle.place_words.specs.declared.owner.Owner.{Owner}
use Rattle.place_words.specs.declared.owner.Owner.TheVariants as owners
use Rattle.place_words.proofs.ElementLemmas.{times_cons_same}
use Rattle.place_table.specs.declared.view.BitAsked.{BitAsked}
use Rattle.place_table.specs.declared.view.Hold.{Hold}
use Rattle.place_table.specs.declared.view.InHand.{InHand}
use Rattle.place_table.specs.declared.view.Notes.{Notes}
use Rattle.place_table.specs.declared.view.OwnerSeen.{OwnerSeen}
use Rattle.place_table.specs.declared.view.Turned.{Turned}
use Rattle.place_table.specs.declared.view.View.{View}
use Rattle.place_table.specs.Calls.{clears_found, clears_bit}
use Rattle.place_table.specs.Contents.{set_told, lists_of_set, FitsSet}
use Rattle.place_table.specs.Known.{BitTouch, SeesBit, Learns}
use Rattle.place_table.specs.Passes.{PassView, TableView, Claimed, Cleared, Goes, with_view}
use Rattle.place_table.proofs.Came.{came_among}
use Rattle.place_table.specs.TurnNotes.{clears_among, clears_noted, AreCleared, WasReadInHand, ProbeFits, CameToHand}
use Rattle.place_table.specs.Views.{is_among, is_in_hand_of, hold_at, now_under, with_now, with_came, with_clear, with_in_hand, no_notes, bit_seen, claimed as claimed_view, cleared as cleared_view, hold_with, with_changed}
use Rattle.place_table.specs.Owners.{owner_left}
use Rattle.place_table.proofs.Entries.{append_nil}
use Rattle.place_table.proofs.Going.{goes_on, goes_noted, goes_of_table, goes_begun, same_head, learns_on, learns_nothing, learns_cleared}
use Rattle.place_table.proofs.Hands.{now_at_is, in_hand_more}
use Rattle.place_table.proofs.Worlds.{hold_at_first, some_is, none_some, true_false}
use Rattle.lru_lists.specs.declared.bits.BitCall.{BitCall}
use Rattle.lru_lists.specs.declared.bits.BitCall.TheVariants as calls
use Rattle.lru_lists.specs.declared.bits.ProbeCall.{ProbeCall}
use Rattle.lru_lists.specs.declared.name.ListName.TheVariants.{Inactive}
use Rattle.lru_lists.specs.declared.notes.RotateNotes.{RotateNotes}
use Rattle.lru_lists.specs.declared.notes.ShrinkNotes.{ShrinkNotes}
use Rattle.lru_lists.specs.Notes.{AreNoted}
use Rattle.lru_lists.specs.Sets.{SetView, IsSet, listed, moved_in, with_free}
use Rattle.lru_ops.specs.Askings.{asked_by, asked_after, owners_with, owners_after, notes_after, lists_after, touch_by, AreEvicts, changed_after, changed_with}
use Rattle.lru_ops.specs.Evictions.{SawHolders, AreFreed}
use Rattle.lru_ops.specs.OwnTurns.{note_of, rows_on, try_of, CanWork, Worked, CanGiveOut, GaveOut, GivesOut, in_turn}
use Rattle.lru_ops.specs.declared.probing.Destination.TheVariants.{OwnFree}
use Rattle.lru_ops.proofs.OwnWalk.{now_first, DidOwn, did_own}
use Rattle.lru_ops.proofs.PassWork.{held_alone}
use Rattle.lru_ops.proofs.Holders.{saw_on_none, saw_none}
use Rattle.lru_ops.proofs.OwnersLeft.{own_left}
use Rattle.percpu_values.specs.BodyList.{popped_from, popped}

-- The free list without its head

pub popped_numbers : (bodies : List Stored) (spare : ℕ) → numbers (popped_from bodies spare).bodies ≡ drop 1 (numbers bodies)
popped_numbers [] spare = refl
popped_numbers (body ∷ bodies) spare = refl

pub popped_room : (bodies : List Stored) (spare : ℕ) → (bodies ≡ [] → ⊥) → length (popped_from bodies spare).bodies + (popped_from bodies spare).spare ≡ length bodies + spare
popped_room [] spare some = absurd (some refl)
popped_room (body ∷ bodies) spare some = omega arith

pub popped_sized : (P : Stored → Type 0) (bodies : List Stored) (spare : ℕ) → AllByRecursion P bodies → AllByRecursion P (popped_from bodies spare).bodies
popped_sized P [] spare all = tt
popped_sized P (body ∷ bodies) spare all = all.1

pub first_of : (P : Stored → Type 0) (bodies : List Stored) (body : Stored) → AllByRecursion P bodies → slice_get bodies 0 ≡ Some body → P body
first_of P [] body all is = absurd (none_some is)
first_of P (x ∷ bodies) body all is = subst P (some_is is) all.0

pub some_first : (bodies : List Stored) (body : Stored) → slice_get bodies 0 ≡ Some body → bodies ≡ [] → ⊥
some_first bodies body is none = none_some (ap (λ (l : List Stored). slice_get l 0) (sym none) ∙ is)

pub head_number : (bodies : List Stored) (body : Stored) → slice_get bodies 0 ≡ Some body → numbers bodies ≡ body.element ∷ drop 1 (numbers bodies)
head_number [] body is = absurd (none_some is)
head_number (x ∷ bodies) body is = ap (λ (b : Stored). b.element ∷ numbers bodies) (some_is is)

pub gave_out : (t : TableView) (hash element : ℕ) (lock : DomainId) (before popped_set after : SetView) (p middle q : PassView) (body : Stored) (bit : Bool) → CanGiveOut t before p → lock ≡ CpuLru p.cpu
    → slice_get before.free.bodies 0 ≡ Some body → body.element < before.elements → popped_set ≡ with_free (popped before.free) before → element ≡ body.element
    → after ≡ moved_in (record { element = element; hash = hash }) Inactive popped_set → IsSet after → Claimed lock element p middle → Cleared element middle q bit → GaveOut t hash before after p q body
gave_out t hash element lock before popped_set after p middle q body bit can own head below is_popped number is whole claim clear =
    let f = can.fits in
    let after_is : after ≡ moved_in (record { element = body.element; hash = hash }) Inactive (with_free (popped before.free) before) = is ∙ (λ i. moved_in (record { element = number i; hash = hash }) Inactive (is_popped i)) in
    record {
      head = head;
      after_is = after_is;
      fits = record {
        sized = subst (λ (z : SetView). All (IsSized t.shape) z.free.bodies) (sym after_is)
            (All-from_recursion (IsSized t.shape) (popped before.free).bodies (popped_sized (IsSized t.shape) before.free.bodies before.free.spare (recursion_from_All (IsSized t.shape) before.free.bodies f.sized)));
        bound = ap (λ (z : SetView). z.elements) after_is ∙ f.bound;
        room = ap (λ (z : SetView). length z.free.bodies + z.free.spare) after_is ∙ (popped_room before.free.bodies before.free.spare (some_first before.free.bodies body head) ∙ f.room);
        whole = whole;
      };
      real = subst (λ (n : ℕ). body.element < n) f.bound below;
      sized = first_of (IsSized t.shape) before.free.bodies body (recursion_from_All (IsSized t.shape) before.free.bodies f.sized) head;
      middle = middle;
      claimed = subst (λ (z : DomainId × ℕ). Claimed z.0 z.1 p middle) (λ i. (own i, number i)) claim;
      bit = bit;
      cleared = subst (λ (n : ℕ). Cleared n middle q bit) number clear;
    }

-- What is told of the set

told_none : (hash : ℕ) (worked : SetView) → worked.free.bodies ≡ [] → given_out hash None (set_told worked) ≡ set_told worked
told_none hash worked none = λ i. record { lists = listed worked; free = (ap (λ (l : List Stored). drop 1 (numbers l)) none ∙ sym (ap numbers none)) i }

told_some : (hash e : ℕ) (worked out : SetView) → out ≡ moved_in (record { element = e; hash = hash }) Inactive (with_free (popped worked.free) worked) → given_out hash (Some e) (set_told worked) ≡ set_told out
told_some hash e worked out is =
    (λ i. record { lists = record (listed worked) { inactive = record { element = e; hash = hash } ∷ worked.inactive }; free = sym (popped_numbers worked.free.bodies worked.free.spare) i })
    ∙ sym (ap set_told is)

pub own_after_is : (hash : ℕ) (active inactive : List Visit) (shrink : Option ShrinkNote) (got : Option ℕ) (set : ListSet) → own_after (own.Turn hash active inactive shrink got) set ≡ given_out hash got (shrunk_into_free shrink (rotated_set own_scans active inactive set))
unfolding own_after
own_after_is hash active inactive shrink got set = refl

-- What was asked, as it is told

pub asked_are : (made : List BitCall) (asked : List BitAsked) → asked_after made asked ≡ reverse (map asked_by made) ++ asked
asked_are [] asked = refl
asked_are (call ∷ made) asked =
    asked_are made (asked_by call ∷ asked)
    ∙ sym (ap (λ (l : List BitAsked). l ++ asked) (reverse-append (asked_by call ∷ []) (map asked_by made)) ∙ append_assoc (reverse (map asked_by made)) (asked_by call ∷ []) asked)

clears_of : (visits : List Visit) → clears_among (map asked_by (map calls.Cleared visits)) ≡ visits
clears_of [] = refl
clears_of (visit ∷ visits) = ap (λ (l : List Visit). visit ∷ l) (clears_of visits)

clears_cons : (b : Bool) (visit : Visit) (xs ys : List Visit) → cond b (visit ∷ xs ++ ys) (xs ++ ys) ≡ cond b (visit ∷ xs) xs ++ ys
clears_cons true visit xs ys = refl
clears_cons false visit xs ys = refl

pub clears_append : (first second : List BitAsked) → clears_among (first ++ second) ≡ clears_among first ++ clears_among second
clears_append [] second = refl
clears_append (x ∷ first) second =
    ap (λ (l : List Visit). cond x.cleared (record { element = x.element; bit = x.bit } ∷ l) l) (clears_append first second)
    ∙ clears_cons x.cleared (record { element = x.element; bit = x.bit }) (clears_among first) (clears_among second)

pub clears_told : (visits : List Visit) → clears_among (reverse (asked_after (map calls.Cleared visits) [])) ≡ visits
clears_told visits =
    let made : List BitCall = map calls.Cleared visits in
    ap (λ (l : List BitAsked). clears_among (reverse l)) (asked_are made [] ∙ append_nil (reverse (map asked_by made)))
    ∙ (ap clears_among (reverse-reverse (map asked_by made)) ∙ clears_of visits)

pub touches_of : (visits : List Visit) → map touch_by (map calls.Cleared visits) ≡ map clears_found visits
touches_of [] = refl
touches_of (visit ∷ visits) = ap (λ (l : List BitTouch). clears_found visit ∷ l) (touches_of visits)

-- What probes read of owners

pub read_before : (e cpu x : ℕ) (seen : Seen) (owners : List OwnerSeen) → WasReadInHand e cpu owners → WasReadInHand e cpu (owners_with x seen owners)
read_before e cpu x Removed owners was = was
read_before e cpu x (Held holder) owners was = inr was

fits_before : (try : Try) (x : ℕ) (seen : Seen) (owners : List OwnerSeen) → ProbeFits owners try → ProbeFits (owners_with x seen owners) try
fits_before try x seen owners fits = go try.probed fits
  where
    go : (probed : Seen) → ProbeFits owners (record { element = try.element; probed = probed }) → ProbeFits (owners_with x seen owners) (record { element = try.element; probed = probed })
    go Removed fits = tt
    go (Held holder) fits = read_before try.element holder x seen owners fits

fits_after : (try : Try) (probes : List ProbeCall) (owners : List OwnerSeen) → ProbeFits owners try → ProbeFits (owners_after probes owners) try
fits_after try [] owners fits = fits
fits_after try (probe ∷ probes) owners fits = fits_after try probes (owners_with probe.element probe.probed owners) (fits_before try probe.element probe.probed owners fits)

fits_here : (e : ℕ) (seen : Seen) (owners : List OwnerSeen) → ProbeFits (owners_with e seen owners) (record { element = e; probed = seen })
fits_here e Removed owners = tt
fits_here e (Held holder) owners = inl (refl, refl)

pub probes_fit : (probes : List ProbeCall) (owners : List OwnerSeen) → All (ProbeFits (owners_after probes owners)) (map try_of probes)
probes_fit [] owners = All-nil (ProbeFits owners)
probes_fit (probe ∷ probes) owners =
    All-cons (ProbeFits (owners_after probes (owners_with probe.element probe.probed owners))) (try_of probe) (map try_of probes)
    (fits_after (try_of probe) probes (owners_with probe.element probe.probed owners) (fits_here probe.element probe.probed owners))
    (probes_fit probes (owners_with probe.element probe.probed owners))

-- Rows beside a new one

skipped : (b : Bool) (test : Row → Bool) (x : Row) (xs ys : List Row) → find test xs ≡ find test ys → cond b (Some x) (find test xs) ≡ cond b (Some x) (find test ys)
skipped true test x xs ys same = refl
skipped false test x xs ys same = same

pub skip_row : (test : Row → Bool) (row : Row) (xs ys : List Row) → test row ≡ false → find test (xs ++ row ∷ ys) ≡ find test (xs ++ ys)
skip_row test row [] ys other = ap (λ (b : Bool). cond b (Some row) (find test ys)) other
skip_row test row (x ∷ xs) ys other = skipped (test x) test x (xs ++ row ∷ ys) (xs ++ ys) (skip_row test row xs ys other)

pub found_new : (e hash : ℕ) (xs ys : List Row) → times e (elements_of xs) ≡ 0 → stored_hash e (xs ++ record { element = e; hash = hash } ∷ ys) ≡ Some hash
found_new e hash [] ys none = by_test e e (λ b. option_map (λ (r : Row). r.hash) (cond b (Some (record { element = e; hash = hash })) (find (λ (r : Row). r.element == e) ys)) ≡ Some hash) (λ _. refl) (λ other. absurd (other refl))
found_new e hash (x ∷ xs) ys none =
    by_test x.element e (λ b. cond b (suc (times e (elements_of xs))) (times e (elements_of xs)) ≡ 0 → option_map (λ (r : Row). r.hash) (cond b (Some x) (find (λ (r : Row). r.element == e) (xs ++ record { element = e; hash = hash } ∷ ys))) ≡ Some hash)
    (λ _ is. absurd (omega (arith, is))) (λ _ is. found_new e hash xs ys is) none

-- what probes of the own set removed was set free
freed_with : (e : ℕ) (seen : Seen) (changed : List OwnerSeen) → AreFreed changed → AreFreed (changed_with OwnFree e seen changed)
freed_with e Removed changed freed = (refl, freed)
freed_with e (Held holder) changed freed = freed

freed_after : (probes : List ProbeCall) (changed : List OwnerSeen) → AreFreed changed → AreFreed (changed_after OwnFree probes changed)
freed_after [] changed freed = freed
freed_after (probe ∷ probes) changed freed = freed_after probes (changed_with OwnFree probe.element probe.probed changed) (freed_with probe.element probe.probed changed freed)

-- what comes to a CPU's hand, if anything does
abbrev pub hand_with_got : Option ℕ → ℕ → List InHand → List InHand
hand_with_got None cpu hand = hand
hand_with_got (Some e) cpu hand = with_in_hand e cpu hand

-- Before the set is given back: what the pass made since it was taken, as the turn will tell it.
pub record Ready (t : TableView) (hash : ℕ) (turning turning_after : RotateNotes) (shrinking shrinking_after : ShrinkNotes) (shrunk : Bool) (set out : SetView) (q s : PassView) (got : Option ℕ) : Type 0 where
  pub active : List Visit
  pub inactive : List Visit
  pub looks : List Look
  pub forced : List Try
  pub noted_active : AreNoted active turning.active turning_after.active
  pub noted_inactive : AreNoted inactive turning.inactive turning_after.inactive
  pub noted_looks : AreNoted looks shrinking.looks shrinking_after.looks
  pub noted_forced : AreNoted forced shrinking.forced shrinking_after.forced
  pub turns : List Turned
  pub goes : Goes q s turns []
  pub hold : Hold
  pub was : q.view.held ≡ hold ∷ []
  pub now : Lists
  pub held : s.view.held ≡ hold_with hold now ∷ []
  pub notes : Notes
  pub below : List Notes
  pub was_noted : q.view.notes ≡ no_notes ∷ below
  pub noted : s.view.notes ≡ notes ∷ below
  pub carried : s.view.carried ≡ q.view.carried
  pub spares : s.spares ≡ q.spares
  pub hand : s.view.hand ≡ hand_with_got got q.cpu q.view.hand
  pub left : own_after (own.Turn hash active inactive (note_of shrunk looks forced) got) (set_told set) ≡ set_told out
  pub allowed : AllowsOnOwn (own.Turn hash active inactive (note_of shrunk looks forced) got) (set_told set)
  pub fits : FitsSet t.shape out
  pub same_free : numbers out.free.bodies ≡ now.free
  pub same_rows : (x : ℕ) → times x (rows (lists_of_set (set_told out))) ≡ times x (rows now)
  pub rows_kept : (x h n : ℕ) → (is_in_hand_of x hold.cpu s.view.hand && is_among x notes.came) ≡ false → stored_hash x (rows_on set) ≡ Some h → stored_hash x (rows_on out) ≡ Some n → h ≡ n
  pub marks : notes.marks ≡ []
  pub off : notes.off ≡ []
  pub cleared : AreCleared (got_cleared got) (active ++ (inactive ++ looks_told (note_of shrunk looks forced))) (clears_noted notes)
  pub in_order : (behind : List Visit) × (clears_noted notes ≡ (active ++ (inactive ++ looks_told (note_of shrunk looks forced))) ++ behind)
  pub owners : All (ProbeFits notes.owners) (shrink_probes (note_of shrunk looks forced))
  pub owners_told : (lock : DomainId) (x : ℕ) (owner : Owner) → owner_left notes.changed x owner ≡ owner_by (own_steps q.cpu lock (own.Turn hash active inactive (note_of shrunk looks forced) got)) x owner
  pub came : All (CameToHand s.view (hold_with hold now) notes) (option_to_list got)
  pub probes : List ProbeCall
  pub are_evicts : AreEvicts t.shape q.cpu q.call (rows_on set) probes turns
  pub saw : SawHolders t.shape q s turns
  pub tried : map try_of probes ≡ shrink_probes (note_of shrunk looks forced)
  pub learns : Learns t.shape q.view s.view turns (map clears_found (active ++ (inactive ++ looks_told (note_of shrunk looks forced))) ++ map clears_bit (got_cleared got))

-- the clear of what is given out, whatever it found
pub forget_seen : (shape : Shape) (v w : View) (e : ℕ) (bit : Bool) → Learns shape v w [] (record { element = e; seen = Some bit; left = false } ∷ []) → Learns shape v w [] (clears_bit e ∷ [])
forget_seen shape v w e bit l = record {
  allowed = tt;
  all = l.all;
  logs = l.logs;
  bits = λ has x. record { see_on = ((λ _. any_known (bit_seen x v.bits)), tt); known_is = (l.bits has x).known_is };
}
  where
    any_known : (known : Option Bool) → MatchOption known (Unit {0}) (SeesBit None)
    any_known None = tt
    any_known (Some bit) = tt

pub came_first : (k e : ℕ) (hold : Hold) (n : Notes) (below : List Notes) → k ≡ hold.lock → with_came k e (hold ∷ []) (n ∷ below) ≡ record n { came = e ∷ n.came } ∷ below
came_first k e hold n below is =
    by_test hold.lock k (λ b. cond b (record n { came = e ∷ n.came } ∷ below) (n ∷ with_came k e [] below) ≡ record n { came = e ∷ n.came } ∷ below) (λ _. refl) (λ other. absurd (other (sym is)))

pub without_head : (e : ℕ) (xs rest : List ℕ) → xs ≡ e ∷ rest → without e xs ≡ rest
without_head e xs rest is = ap (without e) is ∙ by_test e e (λ b. cond b rest (e ∷ without e rest) ≡ rest) (λ _. refl) (λ other. absurd (other refl))

pub row_more : (x e : ℕ) (first second : List ℕ) → times x (first ++ e ∷ second) ≡ times x (e ∷ (first ++ second))
row_more x e first second =
    let one = times_append x first (e ∷ second) in
    let other = times_append x first second in
    by_test e x (λ b. times x (first ++ e ∷ second) ≡ times x first + cond b (suc (times x second)) (times x second) → times x (first ++ e ∷ second) ≡ cond b (suc (times x (first ++ second))) (times x (first ++ second)))
    (λ _ is. omega (arith, is, other)) (λ _ is. omega (arith, is, other)) one

pub head_got : (bodies : List Stored) (got : Option Stored) → slice_get bodies 0 ≡ got → option_map (λ (body : Stored). body.element) got ≡ slice_get (numbers bodies) 0
head_got bodies got is = ap (option_map (λ (body : Stored). body.element)) (sym is) ∙ sym (slice_get-map (λ (body : Stored). body.element) bodies 0)

none_first : (bodies : List Stored) → bodies ≡ [] → slice_get bodies 0 ≡ None
none_first bodies none = ap (λ (l : List Stored). slice_get l 0) none

module _ {t : TableView} {set worked : SetView} {turning turning_after : RotateNotes} {shrinking shrinking_after : ShrinkNotes} {shrunk : Bool} {q r : PassView}
    (can : CanWork t set q) (w : Worked t (in_turn set turning shrinking) (in_turn worked turning_after shrinking_after) shrunk q r) where
  abbrev hold_there : Hold
  hold_there = can.holds.lists.hold

  abbrev now_after : Lists
  now_after = lists_after w.probes hold_there.now

  did : DidOwn t (rows_on set) w.calls w.probes q r hold_there
  did = did_own hold_there (held_alone can) w.does

  now_was : hold_there.now ≡ lists_of_set (set_told set)
  now_was = can.now

  -- the free list is as the pass knows it
  pub can_give_out : CanGiveOut t worked r
  can_give_out =
      let d = did in
      let h = can.holds.lists in
      record {
        holds = record {
          lists = record {
            of_table = goes_of_table t q r d.turns [] d.goes h.of_table;
            begun = goes_begun q r d.turns [] d.goes h.begun;
            is_shape = h.is_shape;
            evicts = h.evicts;
            there = subst (λ (c : ℕ). IsTrue (is_lock t.shape (CpuLru c))) (sym d.goes.cpu) h.there;
            lists = h.lists;
            hold = hold_with hold_there (lists_after w.probes hold_there.now);
            outer = [];
            held = d.held;
            above = tt;
            lock_is = h.lock_is ∙ ap (λ (c : ℕ). lock_number t.shape (CpuLru c)) (sym d.goes.cpu);
            cpu_is = h.cpu_is ∙ sym d.goes.cpu;
            notes = notes_after OwnFree w.calls w.probes d.notes;
            below = d.below;
            notes_are = d.noted;
            freed = subst (λ (l : List OwnerSeen). AreFreed l) (ap (λ (n : Notes). changed_after OwnFree w.probes n.changed) (same_head (sym h.notes_are ∙ d.was_noted))) (freed_after w.probes h.notes.changed h.freed);
            unchanged = λ x. refl;
          };
          alone = refl;
          hands_empty = λ e cpu among. ap (is_in_hand_of e cpu) d.hand ∙ can.holds.hands_empty e cpu (ap (is_among cpu) (sym d.goes.cpus) ∙ among);
        };
        fits = w.works.fits;
        free_is = ap (λ (l : Lists). (lists_after w.probes l).free) now_was ∙ w.works.same_free;
      }

  -- nothing was free
  pub ready_none : (hash : ℕ) (below : List Notes) → q.view.notes ≡ no_notes ∷ below → worked.free.bodies ≡ [] → Ready t hash turning turning_after shrinking shrinking_after shrunk set worked q r None
  ready_none hash below fresh none =
      let d = did in
      let k = w.works in
      let n_is : d.notes ≡ no_notes = same_head (sym d.was_noted ∙ fresh) in
      let bits : List Visit = k.active ++ (k.inactive ++ looks_told (note_of shrunk k.looks k.forced)) in
      let left : shrunk_into_free (note_of shrunk k.looks k.forced) (rotated_set own_scans k.active k.inactive (set_told set)) ≡ set_told worked = sym k.after_is in
      record {
        active = k.active;
        inactive = k.inactive;
        looks = k.looks;
        forced = k.forced;
        noted_active = k.noted_active;
        noted_inactive = k.noted_inactive;
        noted_looks = k.noted_looks;
        noted_forced = k.noted_forced;
        turns = d.turns;
        goes = d.goes;
        hold = hold_there;
        was = d.was;
        now = lists_after w.probes hold_there.now;
        held = d.held;
        notes = notes_after OwnFree w.calls w.probes d.notes;
        below = d.below;
        was_noted = d.was_noted ∙ ap (λ (n : Notes). n ∷ d.below) n_is;
        noted = d.noted;
        carried = d.carried;
        spares = d.spares;
        hand = d.hand;
        left = own_after_is hash k.active k.inactive (note_of shrunk k.looks k.forced) None (set_told set) ∙ (ap (given_out hash None) left ∙ told_none hash worked none);
        allowed = (k.visits, k.shrinks, head_got worked.free.bodies None (none_first worked.free.bodies none) ∙ ap (λ (z : ListSet). slice_get z.free 0) k.after_is);
        fits = k.fits;
        same_free = sym (ap (λ (l : Lists). (lists_after w.probes l).free) now_was ∙ k.same_free);
        same_rows = λ x. sym (ap (λ (l : Lists). times x (rows (lists_after w.probes l))) now_was ∙ k.same_rows x);
        rows_kept = λ x h n _ before after. k.rows_kept x h n before after;
        marks = ap (λ (n : Notes). n.marks) n_is;
        off = ap (λ (n : Notes). n.off) n_is;
        cleared = (λ i. clears_among (reverse (asked_after (k.calls_are i) ((n_is i).asked)))) ∙ clears_told bits;
        in_order = ([], (λ i. clears_among (reverse (asked_after (k.calls_are i) ((n_is i).asked)))) ∙ (clears_told bits ∙ sym (append_nil bits)));
        owners = subst (All (ProbeFits (owners_after w.probes d.notes.owners))) k.probes_are (probes_fit w.probes d.notes.owners);
        owners_told = λ lock x owner. ap (λ (n : Notes). owner_left (changed_after OwnFree w.probes n.changed) x owner) n_is ∙ own_left q.cpu hash lock k.active k.inactive (note_of shrunk k.looks k.forced) None w.probes k.probes_are x owner;
        came = All-nil (CameToHand r.view (hold_with hold_there (lists_after w.probes hold_there.now)) (notes_after OwnFree w.calls w.probes d.notes));
        probes = w.probes;
        are_evicts = d.are_evicts;
        saw = d.saw;
        tried = k.probes_are;
        learns = subst (Learns t.shape q.view r.view d.turns) (ap (map touch_by) k.calls_are ∙ (touches_of bits ∙ sym (append_nil (map clears_found bits)))) d.learns;
      }

  -- or the head was given out
  module _ {hash : ℕ} {out : SetView} {s : PassView} {body : Stored} (g : GaveOut t hash worked out r s body) where
    free_now : now_after.free ≡ body.element ∷ drop 1 (numbers worked.free.bodies)
    free_now = ap (λ (l : Lists). (lists_after w.probes l).free) now_was ∙ (w.works.same_free ∙ head_number worked.free.bodies body g.head)

    out_rows : (x : ℕ) → times x (rows (lists_of_set (set_told out))) ≡ times x (rows (with_row (CpuLru r.cpu) body.element (without_free body.element now_after)))
    out_rows x =
        let was : times x (rows (lists_after w.probes hold_there.now)) ≡ times x (rows (lists_of_set (set_told worked))) = ap (λ (l : Lists). times x (rows (lists_after w.probes l))) now_was ∙ w.works.same_rows x in
        let now : Lists = lists_after w.probes hold_there.now in
        ap (λ (z : SetView). times x (rows (lists_of_set (set_told z)))) g.after_is
        ∙ (row_more x body.element (elements_of worked.active) (elements_of worked.inactive)
        ∙ (by_test body.element x (λ b. cond b (suc (times x (elements_of worked.active ++ elements_of worked.inactive))) (times x (elements_of worked.active ++ elements_of worked.inactive)) ≡ cond b (suc (times x (rows now))) (times x (rows now))) (λ _. ap suc (sym was)) (λ _. sym was)
        ∙ sym (row_more x body.element now.first now.second)))

    pub ready_some : (below : List Notes) → q.view.notes ≡ no_notes ∷ below → Ready t hash turning turning_after shrinking shrinking_after shrunk set out q s (Some body.element)
    ready_some below fresh =
        let d = did in
        let k = w.works in
        let e : ℕ = body.element in
        let n_is : d.notes ≡ no_notes = same_head (sym d.was_noted ∙ fresh) in
        let n : Notes = notes_after OwnFree w.calls w.probes d.notes in
        let bits : List Visit = k.active ++ (k.inactive ++ looks_told (note_of shrunk k.looks k.forced)) in
        let now : Lists = lists_after w.probes hold_there.now in
        let then : Lists = with_row (CpuLru r.cpu) e (without_free e now) in
        let m : PassView = g.middle in
        let v : View = claimed_view g.claimed.0 (CpuLru r.cpu) e r.cpu r.view in
        let m_is : m ≡ with_view r v = g.claimed.1 in
        let c : View = cleared_view g.cleared.at e g.bit m.view in
        let s_is : s ≡ with_view m c = g.cleared.after_is in
        let lock : ℕ = lock_number r.view.shape (CpuLru r.cpu) in
        let here : lock ≡ (hold_with hold_there now).lock = (λ i. lock_number ((d.goes.shape ∙ can.holds.lists.of_table.1) i) (CpuLru (d.goes.cpu i))) ∙ sym can.holds.lists.lock_is in
        let known : now_under (CpuLru r.cpu) r.view ≡ now = now_at_is lock r.view.held (hold_with hold_there now) ((λ i. hold_at (here i) (d.held i)) ∙ hold_at_first (hold_with hold_there now) []) in
        let noted_then : Notes = record n { came = e ∷ n.came; asked = record { element = e; bit = g.bit; cleared = true } ∷ n.asked; changed = record { element = e; owner = owners.Hand r.cpu } ∷ n.changed } in
        let goes_claim : Goes r m [] [] = subst (λ (z : PassView). Goes r z [] []) (sym m_is) (record {
          table = refl;
          seat = refl;
          cpu = refl;
          call = refl;
          shape = refl;
          cpus = refl;
          steps = sym (append_nil r.view.steps);
          numbers = record { reached = omega arith; refused = omega arith; ascend = omega arith; exact = λ _. refl };
          kept = refl;
          ended = refl;
          lost_is = refl;
        }) in
        let goes_clear : Goes m s [] [] = goes_noted c.notes c.bits c.touched c.readings m s s_is in
        let goes_out : Goes q s d.turns [] = subst (λ (l : List Turned). Goes q s l []) (ap (λ (l : List Turned). l ++ []) (append_nil d.turns) ∙ append_nil d.turns) (goes_on q m s (d.turns ++ []) [] [] [] (goes_on q r m d.turns [] [] [] d.goes goes_claim) goes_clear) in
        let hand_is : s.view.hand ≡ with_in_hand e q.cpu q.view.hand = ap (λ (z : PassView). z.view.hand) s_is ∙ (ap (λ (z : PassView). z.view.hand) m_is ∙ (λ i. with_in_hand e (d.goes.cpu i) (d.hand i))) in
        let mine : hold_there.cpu ≡ q.cpu = can.holds.lists.cpu_is in
        let in_hand : is_in_hand_of e hold_there.cpu s.view.hand ≡ true = (λ i. is_in_hand_of e (mine i) (hand_is i)) ∙ in_hand_more e q.cpu q.view.hand in
        let left : shrunk_into_free (note_of shrunk k.looks k.forced) (rotated_set own_scans k.active k.inactive (set_told set)) ≡ set_told worked = sym k.after_is in
        let clears_then : clears_among (reverse noted_then.asked) ≡ bits ++ (record { element = e; bit = g.bit }) ∷ [] =
        ap clears_among (reverse-append (record { element = e; bit = g.bit; cleared = true } ∷ []) n.asked)
        ∙ (clears_append (reverse n.asked) (record { element = e; bit = g.bit; cleared = true } ∷ [])
        ∙ ap (λ (l : List Visit). l ++ (record { element = e; bit = g.bit }) ∷ []) ((λ i. clears_among (reverse (asked_after (k.calls_are i) ((n_is i).asked)))) ∙ clears_told bits)) in
        let learns_claim : Learns t.shape r.view m.view [] [] = subst (λ (z : PassView). Learns t.shape r.view z.view [] []) (sym m_is) (learns_nothing t.shape r.view v refl refl refl refl) in
        let learns_clear : Learns t.shape m.view s.view [] (clears_bit e ∷ []) = subst (λ (z : PassView). Learns t.shape m.view z.view [] (clears_bit e ∷ [])) (sym s_is) (forget_seen t.shape m.view c e g.bit (learns_cleared t.shape g.cleared.at e g.bit m.view g.cleared.known)) in
        record {
          active = k.active;
          inactive = k.inactive;
          looks = k.looks;
          forced = k.forced;
          noted_active = k.noted_active;
          noted_inactive = k.noted_inactive;
          noted_looks = k.noted_looks;
          noted_forced = k.noted_forced;
          turns = d.turns;
          goes = goes_out;
          hold = hold_there;
          was = d.was;
          now = then;
          held = ap (λ (z : PassView). z.view.held) s_is ∙ (ap (λ (z : PassView). z.view.held) m_is
              ∙ ((λ i. with_now lock (with_row (CpuLru r.cpu) e (without_free e (known i))) (d.held i)) ∙ now_first lock then (hold_with hold_there now) here));
          notes = noted_then;
          below = d.below;
          was_noted = d.was_noted ∙ ap (λ (x : Notes). x ∷ d.below) n_is;
          noted = ap (λ (z : PassView). z.view.notes) s_is ∙ (ap (λ (z : PassView). with_clear e g.bit z.view.notes) m_is
              ∙ ((λ i. with_clear e g.bit (with_changed e (owners.Hand r.cpu) (with_came lock e (d.held i) (d.noted i)))) ∙ ap (λ (l : List Notes). with_clear e g.bit (with_changed e (owners.Hand r.cpu) l)) (came_first lock e (hold_with hold_there now) n d.below here)));
          carried = ap (λ (z : PassView). z.view.carried) s_is ∙ (ap (λ (z : PassView). z.view.carried) m_is ∙ d.carried);
          spares = ap (λ (z : PassView). z.spares) s_is ∙ (ap (λ (z : PassView). z.spares) m_is ∙ d.spares);
          hand = hand_is;
          left = own_after_is hash k.active k.inactive (note_of shrunk k.looks k.forced) (Some e) (set_told set) ∙ (ap (given_out hash (Some e)) left ∙ told_some hash e worked out g.after_is);
          allowed = (k.visits, k.shrinks, head_got worked.free.bodies (Some body) g.head ∙ ap (λ (z : ListSet). slice_get z.free 0) k.after_is);
          fits = g.fits;
          same_free =
              ap (λ (z : SetView). numbers z.free.bodies) g.after_is
              ∙ (popped_numbers worked.free.bodies worked.free.spare ∙ sym (without_head e now.free (drop 1 (numbers worked.free.bodies)) free_now));
          same_rows = out_rows;
          rows_kept = λ x h n' not_mine before after.
              let apart : x ≢ e = λ same. true_false (sym ((λ i. is_in_hand_of (same i) hold_there.cpu s.view.hand && is_among (same i) (e ∷ n.came)) ∙ (λ i. in_hand i && came_among e (e ∷ n.came) (let more = times_cons_same e n.came in omega (arith, more)) i)) ∙ not_mine) in
              let skipped_is = skip_row (λ (row : Row). row.element == x) (record { element = e; hash = hash }) worked.active worked.inactive (by_test e x (λ b. b ≡ false) (λ same. absurd (apart (sym same))) (λ _. refl)) in
              k.rows_kept x h n' before (ap (option_map (λ (row : Row). row.hash)) (sym skipped_is) ∙ (ap (λ (z : SetView). stored_hash x (rows_on z)) (sym g.after_is) ∙ after));
          marks = ap (λ (x : Notes). x.marks) n_is;
          off = ap (λ (x : Notes). x.off) n_is;
          cleared = (bits, g.bit, [], clears_then, append_nil bits);
          in_order = (record { element = e; bit = g.bit } ∷ [], clears_then);
          owners = subst (All (ProbeFits (owners_after w.probes d.notes.owners))) k.probes_are (probes_fit w.probes d.notes.owners);
          owners_told = λ on x owner. (λ i. cond (e == x) (owners.Hand (d.goes.cpu i)) (owner_left (changed_after OwnFree w.probes ((n_is i).changed)) x owner)) ∙ own_left q.cpu hash on k.active k.inactive (note_of shrunk k.looks k.forced) (Some e) w.probes k.probes_are x owner;
          came = All-cons (CameToHand s.view (hold_with hold_there then) noted_then) e [] ((let more = times_cons_same e n.came in omega (arith, more)), in_hand) (All-nil (CameToHand s.view (hold_with hold_there then) noted_then));
          probes = w.probes;
          are_evicts = d.are_evicts;
          saw = saw_on_none t.shape q m s d.turns
              (saw_on_none t.shape q r m d.turns d.saw (saw_none t.shape r m _ (ap (λ (z : PassView). z.view.touched) m_is)))
              (saw_none t.shape m s _ (ap (λ (z : PassView). z.view.touched) s_is));
          tried = k.probes_are;
          learns = subst (λ (z : List Turned × List BitTouch). Learns t.shape q.view s.view z.0 z.1)
              (λ i. ((ap (λ (l : List Turned). l ++ []) (append_nil d.turns) ∙ append_nil d.turns) i, ((λ j. (append_nil (map touch_by w.calls) j) ++ clears_bit e ∷ []) ∙ ap (λ (l : List BitTouch). l ++ clears_bit e ∷ []) (ap (map touch_by) k.calls_are ∙ touches_of bits)) i))
              (learns_on t.shape q.view m.view s.view (d.turns ++ []) [] (map touch_by w.calls ++ []) (clears_bit e ∷ []) (learns_on t.shape q.view r.view m.view d.turns [] (map touch_by w.calls) [] d.learns learns_claim) learns_clear);
        }

  pub ready : {hash : ℕ} {out : SetView} {s : PassView} (found : Option Stored) (below : List Notes) → q.view.notes ≡ no_notes ∷ below → GivesOut t hash worked out r s found → Ready t hash turning turning_after shrinking shrinking_after shrunk set out q s (option_map (λ (body : Stored). body.element) found)
  ready {hash} None below fresh g = subst (λ (z : SetView × PassView). Ready t hash turning turning_after shrinking shrinking_after shrunk set z.0 q z.1 None) (λ i. (sym g.1 i, sym g.2 i)) (ready_none hash below fresh g.0)
  ready (Some body) below fresh g = ready_some g below fresh
