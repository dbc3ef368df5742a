-- What a pass does while it holds a key's bucket alone, and what it leaves once it has given the bucket back.
use Rattle.std.proofs.Common.{◌+◌, ◌≡◌, ℕ, ◌<◌, cond, true, List, [], ◌∷◌, ◌++◌, map, inl, inr, sym, refl, ap, ◌∙◌, subst, Option, Some, None}
use Rattle.std.specs.Prelude.{IsTrue, IfSome, All, MatchBool, false}
use Rattle.std.proofs.lemmas.List.Elements.{All-nil}
use Rattle.map_types.specs.declared.attr.Shape.{Shape}
use Rattle.map_types.specs.declared.kind.DomainId.{DomainId}
use Rattle.map_types.specs.declared.kind.DomainId.TheVariants.{Bucket, Local}
use Rattle.map_types.specs.Kind.{is_lru}
use Rattle.map_types.specs.Stored.{Stored}
use Rattle.map_types.specs.ElementLists.{times, IsIn}
use Rattle.map_types.proofs.RowLemmas.{by_test}
use Rattle.percpu_values.specs.BodyList.{BodyList}
use Rattle.place_words.specs.declared.bucket_part.BucketPart.{BucketPart}
use Rattle.place_words.specs.declared.history.Part.{Part}
use Rattle.place_words.specs.declared.history.Part.TheVariants as parts
use Rattle.place_words.specs.declared.history.StrandStep.{StrandStep}
use Rattle.place_words.specs.Bodies.{numbers}
use Rattle.place_words.specs.Histories.{in_bucket, content, content_after, Allows, IsLegal, marks, clears}
use Rattle.place_words.specs.Locks.{lock_named, lock_number}
use Rattle.place_words.specs.SerialOrder.{bucket_probes}
use Rattle.place_words.specs.Turns.{on_lock}
use Rattle.place_words.proofs.LockLemmas.{named_by_number}
use Rattle.place_words.specs.declared.step.Lists.{Lists}
use Rattle.place_words.specs.State.{rows}
use Rattle.place_words.specs.Steps.{with_row, without_row}
use Rattle.place_table.specs.declared.content.Content.{Content}
use Rattle.place_table.specs.declared.content.Content.TheVariants as contents
use Rattle.place_table.specs.declared.view.View.{View}
use Rattle.place_table.specs.declared.view.Hold.{Hold}
use Rattle.place_table.specs.declared.view.InHand.{InHand}
use Rattle.place_table.specs.declared.view.HashIn.{HashIn}
use Rattle.place_table.specs.declared.view.Notes.{Notes}
use Rattle.place_table.specs.declared.view.OwnerSeen.{OwnerSeen}
use Rattle.place_table.specs.declared.view.Turned.{Turned}
use Rattle.place_table.specs.Calls.{CouldBe, IsTold, TellsTurn, sets_bit, bits_of_part, bits_of_turns}
use Rattle.place_table.specs.Contents.{content_told, FitsLock}
use Rattle.place_table.specs.InBucket.{InBucket}
use Rattle.place_table.specs.Known.{Learns, BitTouch}
use Rattle.place_table.specs.Passes.{PassView, TableView, CanMark, TookLock, CanGive, GaveBack, MayGiveBack, Goes, Marked, Attached, Detached, with_view, entry_of, ready, TookTicket}
use Rattle.place_table.specs.Plays.{AreElements, IsApartFromHands}
use Rattle.place_table.specs.StoredHashes.{stored_in}
use Rattle.place_table.specs.Flushes.{flushes}
use Rattle.place_table.specs.TurnNotes.{WasRead, ProbeFits, CameToHand, clears_noted}
use Rattle.place_table.specs.Views.{hold_at, now_at, now_under, with_in_hand, without_in_hand, bits_with, with_mark, touching, known_log, holding, given, with_lost, moved, with_hashes, with_now, notes_below, holds_below, passed_on, hold_with, ticket_of, with_owners_read}
use Rattle.place_table.specs.Words.{owner_word, bit_word}
use Rattle.place_table.proofs.BucketTurns.{IsTurnWith}
use Rattle.place_table.proofs.Entries.{append_nil}
use Rattle.place_table.proofs.Telling.{tells_turn}
use Rattle.place_table.proofs.Going.{goes_on, goes_nowhere, goes_took, goes_moved, goes_noted, goes_gave, goes_gave_some, goes_of_table, goes_begun, given_turn, same_head, learns_on, learns_none, learns_moved, learns_marked, learns_gave}
use Rattle.place_table.proofs.Hands.{now_at_is}
use Rattle.place_table.proofs.Ranges.{bucket_there}
use Rattle.place_table.proofs.Worlds.{among_first, none_some, hold_at_first}
use Rattle.map_types.specs.Kind.{is_lru}
use Rattle.place_words.specs.Buckets.{bucket_marks}
use Rattle.place_table.specs.Passes.{CanAttach}
use Rattle.place_table.specs.Views.{has_all, has_all_below, is_in_hand_of, bucket_known}
use Rattle.place_table.proofs.Worlds.{by_bool, true_false}
use Rattle.owner_words.specs.Owners.{owner_by, owner_told}
use Rattle.place_words.specs.declared.owner.Owner.{Owner}
use Rattle.place_words.specs.declared.owner.Owner.TheVariants as owners
use Rattle.place_words.specs.declared.step.Step.{Step}
use Rattle.place_words.specs.declared.visits.Try.{Try}
use Rattle.place_words.specs.Interleaving.{bucket_steps}
use Rattle.place_words.specs.SerialOrder.{probes_in}
use Rattle.place_table.specs.Owners.{owner_left, change_in, IsFreeAround}
use Rattle.place_table.specs.Passes.{CanDetach}
use Rattle.place_table.specs.Views.{with_changed}
use Rattle.place_table.specs.BucketHeld.{Holds, HoldsBucket, with_marks}
use Rattle.place_table.proofs.Nesting.{probes_nothing}
use Rattle.place_table.specs.BucketTurns.{CanEnter, Entered, LosesAtMost, GivenBack, MarkedOn}

-- Entering

pub entered : {t : TableView} {bucket : ℕ} {p q : PassView} {chain : BodyList} → CanEnter t bucket p → TookLock t (Bucket bucket) p q (contents.Bucket chain) → Entered t bucket p q chain
entered {t} {bucket} {p} {q} {chain} can took =
    let goes = goes_took t (Bucket bucket) p q (contents.Bucket chain) took in
    let view : q.view ≡ holding took.at took.hold p.view = ap (λ (z : PassView). z.view) took.after_is in
    record {
      no_lock = can.no_lock;
      took = took;
      inside = record {
        of_table = goes_of_table t p q [] [] goes can.of_table;
        begun = goes_begun p q [] [] goes can.begun;
        there = can.there;
        cpu_there = subst (λ (c : ℕ). c < t.shape.cpus) (sym goes.cpu) took.within;
        hold = took.hold;
        below = p.view.notes;
        held = ap (λ (v : View). v.held) view ∙ ap (λ (l : List Hold). took.hold ∷ l) can.no_lock;
        notes = ap (λ (v : View). v.notes) view;
        lock_is = took.lock_is;
        cpu_is = took.cpu_is ∙ sym goes.cpu;
        content_is = took.told_is;
        legal = took.legal;
        now = took.now;
        elements = took.elements;
        apart = subst (λ (v : View). IsApartFromHands v (Bucket bucket) took.hold.now) (sym view) took.apart;
        sized = took.fits;
        known = λ log is_known. took.known log (ap (λ (n : ℕ). known_log n p.view.known) (sym took.lock_is) ∙ (ap (λ (v : View). known_log took.hold.lock v.known) (sym view) ∙ is_known));
      };
    }

-- a bucket that was taken is held, with what lay there
pub holds_bucket : {t : TableView} {bucket : ℕ} {q : PassView} {bodies : List Stored} → InBucket t bucket q bodies → HoldsBucket t bucket q bodies
holds_bucket {t} {bucket} {q} {bodies} b = record {
  of_table = b.of_table;
  begun = b.begun;
  there = b.there;
  cpu_there = b.cpu_there;
  hold = b.hold;
  below = b.below;
  held = b.held;
  notes = b.notes;
  lock_is = b.lock_is;
  cpu_is = b.cpu_is;
  content_is = b.content_is;
  legal = b.legal;
  now_is = b.now;
  elements = subst (AreElements t.shape) b.now b.elements;
  sized = b.sized;
  known = λ _ log is. b.known log is;
}

-- What a turn of a bucket is told as

none_in_bucket : (bodies : List Stored) (e n : ℕ) → stored_in (in_bucket bodies) e ≡ Some n → ⊥
unfolding stored_in
none_in_bucket bodies e n is = none_some is

not_local : (bucket c : ℕ) → Bucket bucket ≡ Local c → ⊥
not_local bucket c e = cc

is_bucket_part : (shape : Shape) (cpu : ℕ) (part : Part) (bodies : List Stored) → Allows shape cpu part (in_bucket bodies) → (found : BucketPart) × (part ≡ parts.Bucket found)
is_bucket_part shape cpu (parts.Bucket part) bodies allowed = (part, refl)
is_bucket_part shape cpu (parts.Free part) bodies allowed = absurd allowed
is_bucket_part shape cpu (parts.Local part) bodies allowed = absurd allowed
is_bucket_part shape cpu (parts.Global part) bodies allowed = absurd allowed
is_bucket_part shape cpu (parts.Own part) bodies allowed = absurd allowed

-- a turn in which no owner was read hands none on to a turn around it
none_handed_on : (part : BucketPart) (stands : Part) (notes : Notes) (below all : List Notes) → stands ≡ parts.Bucket part → all ≡ notes ∷ below → notes.owners ≡ [] → passed_on stands all ≡ below
none_handed_on part stands notes below all is all_are none = (λ i. passed_on (is i) (all_are i)) ∙ ap (λ (l : List OwnerSeen). with_owners_read l below) none

-- the steps on bits that it tells: the bits that it sets
told_bits : (shape : Shape) (told : Turned) (part : BucketPart) → told.entry.part ≡ parts.Bucket part → bits_of_turns shape (told ∷ []) ≡ map sets_bit (marks shape (parts.Bucket part)) ++ []
told_bits shape told part is =
    by_bool (is_lru shape.kind) (λ b. cond b (bits_of_part shape told.entry.part ++ []) [] ≡ map sets_bit (marks shape (parts.Bucket part)) ++ [])
    (λ _. ap (λ (p : Part). bits_of_part shape p ++ []) is ∙ ap (λ (l : List BitTouch). l ++ []) (append_nil (map sets_bit (marks shape (parts.Bucket part)) ++ []) ∙ append_nil (map sets_bit (marks shape (parts.Bucket part)))))
    (λ plain. sym (ap (λ b. map sets_bit (cond b (bucket_marks part) []) ++ []) plain))

none_probed : {probe : Try} → [] ≡ probe ∷ [] → ⊥
none_probed {probe} is = cc

-- What the part of a CPU's turn of the bucket makes of owners is what was changed.
abbrev pub AreChangedBy : Shape → ℕ → ℕ → BucketPart → List OwnerSeen → Type 0
AreChangedBy shape bucket cpu part changed = (e : ℕ) (owner : Owner) → owner_left changed e owner ≡ owner_told shape (Bucket bucket) cpu (parts.Bucket part) e owner

-- no owner was, where the part has no steps on owners
pub none_changed : (shape : Shape) (bucket cpu : ℕ) (part : BucketPart) → bucket_steps shape cpu bucket part ≡ [] → AreChangedBy shape bucket cpu part []
none_changed shape bucket cpu part none e owner = ap (λ (steps : List Step). owner_by steps e owner) (sym none)

-- Under the bucket

-- it is held after a step that took no lock and gave none back
module _ {t : TableView} {bucket : ℕ} {r s : PassView} {bodies : List Stored} {now : Lists} {marked : List ℕ} {changed : List OwnerSeen} (h : Holds t bucket r bodies now marked changed) where
  pub has_all_before : Goes r s [] [] → has_all s.view ≡ true → has_all r.view ≡ true
  has_all_before goes has = sym (λ i. has_all_below (goes.shape i).cpus (goes.cpus i)) ∙ has

  holds_on : {after : Lists} (then : Lists) (more : List ℕ) (made : List OwnerSeen) → then ≡ after → Goes r s [] [] → s.view.held ≡ hold_with h.hold then ∷ [] → s.view.notes ≡ with_marks more made ∷ h.below → s.view.known ≡ r.view.known → Holds t bucket s bodies after more made
  holds_on then more made lies goes held notes known = record {
    of_table = goes_of_table t r s [] [] goes h.of_table;
    begun = goes_begun r s [] [] goes h.begun;
    there = h.there;
    cpu_there = subst (λ (c : ℕ). c < t.shape.cpus) (sym goes.cpu) h.cpu_there;
    hold = hold_with h.hold then;
    below = h.below;
    held = held;
    notes = notes;
    lock_is = h.lock_is;
    cpu_is = h.cpu_is ∙ sym goes.cpu;
    content_is = h.content_is;
    legal = h.legal;
    now_is = lies;
    elements = h.elements;
    sized = h.sized;
    known = λ has log is. h.known (has_all_before goes has) log (ap (known_log h.hold.lock) (sym known) ∙ is);
  }

-- the same owners, told otherwise
abbrev pub holds_same : {t : TableView} {bucket : ℕ} {r : PassView} {bodies : List Stored} {now : Lists} {marked : List ℕ} {changed : List OwnerSeen} (other : List OwnerSeen) → changed ≡ other → Holds t bucket r bodies now marked changed → Holds t bucket r bodies now marked other
holds_same {t} {bucket} {r} {bodies} {now} {marked} {changed} other same h = record {
  of_table = h.of_table;
  begun = h.begun;
  there = h.there;
  cpu_there = h.cpu_there;
  hold = h.hold;
  below = h.below;
  held = h.held;
  notes = h.notes ∙ (λ i. with_marks marked (same i) ∷ h.below);
  lock_is = h.lock_is;
  cpu_is = h.cpu_is;
  content_is = h.content_is;
  legal = h.legal;
  now_is = h.now_is;
  elements = h.elements;
  sized = h.sized;
  known = h.known;
}

-- From q on no lock was taken or given back: this lies in the bucket now, the bits of these elements were set, these owners were
-- changed, and this is in hand.
pub record Under (t : TableView) (bucket : ℕ) (q r : PassView) (bodies : List Stored) (now : Lists) (marked : List ℕ) (changed : List OwnerSeen) (hand : List InHand) : Type 0 where
  pub holds : Holds t bucket r bodies now marked changed
  pub below_is : holds.below ≡ notes_below q.view.notes
  -- and the turns of the bucket before this one are those that q has of it
  pub log_is : (hold : Hold) → q.view.held ≡ hold ∷ [] → holds.hold.log ≡ hold.log
  pub goes : Goes q r [] []
  pub spares : r.spares ≡ q.spares
  pub carried : r.view.carried ≡ q.view.carried
  pub hand_is : r.view.hand ≡ hand
  pub bits : is_lru t.shape.kind ≡ false → r.view.bits ≡ q.view.bits
  pub learns : Learns t.shape q.view r.view [] (map sets_bit marked)

pub under_nothing : {t : TableView} {bucket : ℕ} {q : PassView} {bodies : List Stored} {now : Lists} {changed : List OwnerSeen} → Holds t bucket q bodies now [] changed → Under t bucket q q bodies now [] changed q.view.hand
under_nothing {t} {bucket} {q} {bodies} {now} {changed} h = record {
  holds = h;
  below_is = sym (ap notes_below h.notes);
  log_is = λ hold held. ap (λ (z : Hold). z.log) (same_head (sym h.held ∙ held));
  goes = goes_nowhere q;
  spares = refl;
  carried = refl;
  hand_is = refl;
  bits = λ _. refl;
  learns = learns_none t.shape q.view;
}

-- the bit of one element was set
module _ {t : TableView} {bucket : ℕ} {q r : PassView} {bodies : List Stored} {now : Lists} {changed : List OwnerSeen} {hand : List InHand} (e : ℕ) (s : PassView) (u : Under t bucket q r bodies now [] changed hand) where
  under_marked : IsTrue (is_lru t.shape.kind) → Marked e r s → Under t bucket q s bodies now (e ∷ []) changed hand
  unfolding holds_on
  under_marked lru is =
      let step = goes_noted (with_mark e r.view.notes) (bits_with e true r.view) (touching is.0 (bit_word r.view.shape e) None 1 r.view) r.view.readings r s is.1 in
      let here : Holds t bucket s bodies now (e ∷ []) changed = holds_on u.holds u.holds.hold.now (e ∷ []) changed u.holds.now_is step (ap (λ (z : PassView). z.view.held) is.1 ∙ u.holds.held) (ap (λ (z : PassView). z.view.notes) is.1 ∙ ap (with_mark e) u.holds.notes) (ap (λ (z : PassView). z.view.known) is.1) in
      record {
        holds = here;
        below_is = u.below_is;
        log_is = u.log_is;
        goes = goes_on q r s [] [] [] [] u.goes step;
        spares = ap (λ (z : PassView). z.spares) is.1 ∙ u.spares;
        carried = ap (λ (z : PassView). z.view.carried) is.1 ∙ u.carried;
        hand_is = ap (λ (z : PassView). z.view.hand) is.1 ∙ u.hand_is;
        bits = λ plain. absurd (true_false (sym lru ∙ plain));
        learns = learns_on t.shape q.view r.view s.view [] [] [] (sets_bit e ∷ []) u.learns (subst (λ (z : PassView). Learns t.shape r.view z.view [] (sets_bit e ∷ [])) (sym is.1) (learns_marked t.shape is.0 e r.view));
      }

  -- where the map evicts
  pub under_marked_on : MarkedOn t e r s → Under t bucket q s bodies now (cond (is_lru t.shape.kind) (e ∷ []) []) changed hand
  under_marked_on =
      by_bool (is_lru t.shape.kind) (λ b. MatchBool b (Marked e r s) (s ≡ r) → Under t bucket q s bodies now (cond b (e ∷ []) []) changed hand)
      (λ lru is. under_marked lru is) (λ _ same. subst (λ (z : PassView). Under t bucket q z bodies now [] changed hand) (sym same) u)

-- The bucket that is held, and the steps that it asks for
module _ {t : TableView} {bucket : ℕ} {r : PassView} {bodies : List Stored} {now : Lists} {marked : List ℕ} {changed : List OwnerSeen} (h : Holds t bucket r bodies now marked changed) where
  number_here : lock_number r.view.shape (Bucket bucket) ≡ h.hold.lock
  number_here = ap (λ (s : Shape). lock_number s (Bucket bucket)) h.of_table.1 ∙ sym h.lock_is

  held_here : hold_at (lock_number t.shape (Bucket bucket)) r.view.held ≡ Some h.hold
  held_here = (ap (λ (k : ℕ). hold_at k r.view.held) (sym h.lock_is) ∙ ap (hold_at h.hold.lock) h.held) ∙ hold_at_first h.hold []

  now_here : now_under (Bucket bucket) r.view ≡ now
  now_here =
      ap (λ (s : Shape). now_at (lock_number s (Bucket bucket)) r.view.held) h.of_table.1
      ∙ (now_at_is (lock_number t.shape (Bucket bucket)) r.view.held h.hold held_here ∙ h.now_is)

  -- it is the only one
  alone : (k : ℕ) (other : Hold) → hold_at k r.view.held ≡ Some other → k ≡ lock_number t.shape (Bucket bucket)
  alone k other is =
      by_test h.hold.lock k (λ z. cond z (Some h.hold) None ≡ Some other → k ≡ lock_number t.shape (Bucket bucket))
      (λ same _. sym same ∙ h.lock_is) (λ _ none. absurd (none_some none))
      (sym (ap (hold_at k) h.held) ∙ is)

  pub can_mark : (e : ℕ) → IsIn e now.first → e < t.shape.elements → CanMark t e bucket r
  can_mark e inside real = record {
    of_table = h.of_table;
    begun = h.begun;
    hold = h.hold;
    real = real;
    there = h.there;
    held = held_here;
    cpu_is = h.cpu_is;
    inside = subst (λ (l : Lists). IsIn e l.first) (sym h.now_is) inside;
  }

  -- nothing is held around it
  around_here : (e : ℕ) → IsFreeAround r.view e
  around_here e owner is = absurd (none_some (sym (λ i. change_in e (holds_below (h.held i)) (notes_below r.view.notes)) ∙ is))

  pub can_attach : (e : ℕ) → is_in_hand_of e r.cpu r.view.hand ≡ true → (IsTrue (is_lru t.shape.kind) → is_in_hand_of e r.cpu r.view.carried ≡ false) → (IsTrue (is_lru t.shape.kind) → bucket_known e r.cpu r.view.hashes ≡ Some bucket) → CanAttach t e bucket r
  can_attach e in_hand not_carried hashed = record {
    of_table = h.of_table;
    begun = h.begun;
    hold = h.hold;
    there = h.there;
    held = held_here;
    cpu_is = h.cpu_is;
    in_hand = in_hand;
    not_carried = not_carried;
    hashed = λ lru. (hashed lru, alone);
    around = λ _. around_here e;
  }

  pub can_detach : (e : ℕ) → IsIn e now.first → e < t.shape.elements → CanDetach t e bucket r
  can_detach e inside real = record { there = can_mark e inside real; around = λ _. around_here e }

-- an element was moved there
module _ {t : TableView} {bucket : ℕ} {q r : PassView} {bodies : List Stored} {now : Lists} {marked : List ℕ} {changed : List OwnerSeen} {hand : List InHand} (u : Under t bucket q r bodies now marked changed hand) where
  under_moved : {hashes : List HashIn} (e : ℕ) (to : Owner) (s : PassView) (then : Lists) (at : ℕ) (held : List InHand) (word left : ℕ) → s ≡ with_view r (with_hashes hashes (moved at (lock_number r.view.shape (Bucket bucket)) then held (with_changed e to r.view.notes) word left r.view)) → Under t bucket q s bodies then marked (record { element = e; owner = to } ∷ changed) held
  unfolding holds_on
  under_moved {hashes} e to s then at held word left is =
      let h = u.holds in
      let k : ℕ = lock_number r.view.shape (Bucket bucket) in
      let step = goes_moved at k then held (with_changed e to r.view.notes) word left r s is in
      record {
        holds = holds_on h then marked (record { element = e; owner = to } ∷ changed) refl step
            (ap (λ (z : PassView). z.view.held) is ∙ (ap (with_now k then) h.held
            ∙ by_test h.hold.lock k (λ b. cond b (record { lock = h.hold.lock; cpu = h.hold.cpu; log = h.hold.log; now = then; lost = h.hold.lost } ∷ []) (h.hold ∷ []) ≡ hold_with h.hold then ∷ []) (λ _. refl) (λ other. absurd (other (sym (number_here h))))))
            (ap (λ (z : PassView). z.view.notes) is ∙ ap (with_changed e to) h.notes) (ap (λ (z : PassView). z.view.known) is);
        below_is = u.below_is;
        log_is = u.log_is;
        goes = goes_on q r s [] [] [] [] u.goes step;
        spares = ap (λ (z : PassView). z.spares) is ∙ u.spares;
        carried = ap (λ (z : PassView). z.view.carried) is ∙ u.carried;
        hand_is = ap (λ (z : PassView). z.view.hand) is;
        bits = λ plain. ap (λ (z : PassView). z.view.bits) is ∙ u.bits plain;
        learns = subst (Learns t.shape q.view s.view []) (append_nil (map sets_bit marked)) (learns_on t.shape q.view r.view s.view [] [] (map sets_bit marked) [] u.learns (learns_moved t.shape at k then held (with_changed e to r.view.notes) word left r s is));
      }

  pub under_attached : (e : ℕ) (s : PassView) → Attached bucket e r s → Under t bucket q s bodies (with_row (Bucket bucket) e now) marked (record { element = e; owner = owners.Bucket bucket } ∷ changed) (without_in_hand e q.cpu hand)
  under_attached e s is =
      let hand_is : without_in_hand e r.cpu r.view.hand ≡ without_in_hand e q.cpu hand = λ i. without_in_hand e (u.goes.cpu i) (u.hand_is i) in
      subst (λ (z : Lists × List InHand). Under t bucket q s bodies (with_row (Bucket bucket) e z.0) marked (record { element = e; owner = owners.Bucket bucket } ∷ changed) z.1) (λ i. (now_here u.holds i, hand_is i))
      (under_moved e (owners.Bucket bucket) s (with_row (Bucket bucket) e (now_under (Bucket bucket) r.view)) is.0 (without_in_hand e r.cpu r.view.hand) (owner_word r.view.shape e) (32 + bucket) is.1)

  pub under_detached : (e : ℕ) (s : PassView) → Detached bucket e r s → Under t bucket q s bodies (without_row e now) marked (record { element = e; owner = owners.Hand q.cpu } ∷ changed) (with_in_hand e q.cpu hand)
  under_detached e s is =
      let hand_is : with_in_hand e r.cpu r.view.hand ≡ with_in_hand e q.cpu hand = λ i. with_in_hand e (u.goes.cpu i) (u.hand_is i) in
      subst (λ (z : (Lists × ℕ) × List InHand). Under t bucket q s bodies (without_row e z.0.0) marked (record { element = e; owner = owners.Hand z.0.1 } ∷ changed) z.1) (λ i. ((now_here u.holds i, u.goes.cpu i), hand_is i))
      (under_moved e (owners.Hand r.cpu) s (without_row e (now_under (Bucket bucket) r.view)) is.0 (with_in_hand e r.cpu r.view.hand) (owner_word r.view.shape e) (1 + r.cpu) is.1)

  -- Giving back

  named : lock_named t.shape u.holds.hold.lock ≡ Bucket bucket
  named = ap (lock_named t.shape) u.holds.lock_is ∙ named_by_number t.shape (Bucket bucket) (bucket_there t.shape bucket u.holds.there)

  found_here : in_bucket bodies ≡ content t.shape (lock_named t.shape u.holds.hold.lock) u.holds.hold.log
  found_here = u.holds.content_is ∙ ap (λ (d : DomainId). content t.shape d u.holds.hold.log) (sym named)

  -- by a part that probes nothing and sets the bits that were set
  can_give : (back : BodyList) (part : BucketPart) (elements : List ℕ) → IsTurnWith t.shape r.cpu part bodies back.bodies elements → ((x : ℕ) → times x elements ≡ times x (rows now)) → now.free ≡ []
      → bucket_probes part ≡ [] → marked ≡ marks t.shape (parts.Bucket part) → (IsTrue (is_lru t.shape.kind) → AreChangedBy t.shape bucket r.cpu part changed) → CanGive t (Bucket bucket) r (contents.Bucket back) (parts.Bucket part)
  can_give back part elements turn counted no_free no_probes marks_are changes =
      let h = u.holds in record {
        of_table = h.of_table;
        begun = h.begun;
        hold = h.hold;
        below = [];
        innermost = h.held;
        notes = with_marks marked changed;
        notes_below = h.below;
        notes_are = h.notes;
        there = bucket_there t.shape bucket h.there;
        lock_is = h.lock_is;
        may_put = record {
          cpu = h.begun;
          told_is = ap in_bucket turn.turn.left ∙ ap (content_after t.shape r.cpu (parts.Bucket part)) found_here;
          fits = subst (λ (d : DomainId). FitsLock t.shape d (contents.Bucket back)) (sym named) turn.sized;
          allowed = subst (Allows t.shape r.cpu (parts.Bucket part)) found_here turn.turn.allowed;
          same_free = λ e. ap (times e) (sym (ap (λ (l : Lists). l.free) h.now_is ∙ no_free));
          same_rows = λ e. ap (times e) (append_nil (numbers back.bodies)) ∙ (turn.counts e ∙ (counted e ∙ ap (λ (l : Lists). times e (rows l)) (sym h.now_is)));
          rows_kept = λ _ j e n m other _ _ _ _ is. absurd (none_in_bucket back.bodies e m is);
          gone = λ _ c e n is _ _. absurd (not_local bucket c (sym named ∙ is));
        };
        inside = probes_nothing t.shape part [] no_probes;
        notes_fit = record {
          marks_are = marks_are;
          clears_are = refl;
          reads = All-nil (WasRead []);
          flushed = tt;
          off = All-nil (λ e. flushes e (parts.Bucket part) ≡ true);
          held = subst (All (ProbeFits [])) (sym no_probes) (All-nil (ProbeFits []));
          came = All-nil (CameToHand r.view h.hold (with_marks marked changed));
        };
        owners_fit = λ lru. record {
          changes = λ e owner. changes lru e owner ∙ ap (λ (d : DomainId). owner_told t.shape d r.cpu (parts.Bucket part) e owner) (sym named);
          probed = λ e holder is. absurd (none_probed (sym no_probes ∙ ap probes_in is));
        };
      }

  -- what may be allowed there is a part of a bucket
  part_here : (stands : Part) → Allows t.shape r.cpu stands (content t.shape (lock_named t.shape u.holds.hold.lock) u.holds.hold.log) → (part : BucketPart) × (stands ≡ parts.Bucket part)
  part_here stands allowed = is_bucket_part t.shape r.cpu stands bodies (subst (Allows t.shape r.cpu stands) (sym found_here) allowed)

  -- The bucket's turn was made, or is lost, and is told as one with this part.
  given_by : (back : Content) (part : BucketPart) (stands : Part) (lost : List ℕ) (n : ℕ) (taken : TookTicket r.view) (at : ℕ) (kept : List StrandStep) (s : PassView) → marked ≡ marks t.shape (parts.Bucket part) → LosesAtMost (lock_number t.shape (Bucket bucket)) lost
      → (can : CanGive t (Bucket bucket) r back stands) → (meant : CanGive t (Bucket bucket) r back (parts.Bucket part)) → Goes r s (given_turn r n can.hold stands ∷ []) lost
      → s ≡ with_view r (with_lost (lost ++ r.view.lost) (given at can.hold (entry_of r n stands) kept (ready r.view taken))) → IsTold t.shape lost (given_turn r n can.hold stands) (given_turn r n meant.hold (parts.Bucket part)) → GivenBack t bucket q s (parts.Bucket part) hand
  given_by back part stands lost n taken at kept s marks_are loses can meant goes is is_told =
      let h = u.holds in
      let hold_is : can.hold ≡ h.hold = same_head (sym can.innermost ∙ h.held) in
      let owners_is : can.notes.owners ≡ [] = ap (λ (z : Notes). z.owners) (same_head (sym can.notes_are ∙ h.notes)) in
      let stands_is = part_here stands (subst (λ (z : Hold). Allows t.shape r.cpu stands (content t.shape (lock_named t.shape z.lock) z.log)) hold_is can.may_put.allowed) in
      let step : Turned = given_turn r n can.hold stands in
      let made : Turned = given_turn r n meant.hold (parts.Bucket part) in
      let gave : Learns t.shape r.view s.view (step ∷ []) [] =
      learns_gave t (Bucket bucket) r back n stands s.view can
      (subst (λ (z : Hold). IsLegal t.shape (Bucket bucket) z.log) (sym hold_is) h.legal)
      (λ has log known. ap (λ (z : Hold). z.log) hold_is ∙ h.known has log (ap (λ (k : ℕ). known_log k r.view.known) h.lock_is ∙ known))
      (ap (λ (z : PassView). z.view.known) is) (ap (λ (z : PassView). z.view.bits) is) (ap (λ (z : PassView). z.view.cpus) is) (ap (λ (z : PassView). z.view.shape) is) in
      record {
        step = step;
        told = made;
        lost = lost;
        is_told = is_told;
        turn = (λ i. on_lock (named_by meant i) (parts.Bucket part));
        from = λ hold held. ap (λ (z : Hold). z.log) hold_is ∙ u.log_is hold held;
        loses = loses;
        goes = subst (Goes q s (step ∷ [])) (append_nil lost) (goes_on q r s [] (step ∷ []) [] lost u.goes goes);
        by_call = (u.goes.cpu, u.goes.call);
        held = ap (λ (z : PassView). z.view.held) is ∙ ap holds_below h.held;
        notes = ap (λ (z : PassView). z.view.notes) is ∙ (none_handed_on stands_is.0 stands can.notes can.notes_below r.view.notes stands_is.1 can.notes_are owners_is ∙ (sym (ap notes_below can.notes_are) ∙ (ap notes_below h.notes ∙ u.below_is)));
        spares = ap (λ (z : PassView). z.spares) is ∙ u.spares;
        carried = ap (λ (z : PassView). z.view.carried) is ∙ u.carried;
        hand_is = ap (λ (z : PassView). z.view.hand) is ∙ u.hand_is;
        bits = λ plain. ap (λ (z : PassView). z.view.bits) is ∙ u.bits plain;
        learns = subst (Learns t.shape q.view s.view (step ∷ [])) (ap (λ (l : List ℕ). map sets_bit l ++ []) marks_are ∙ sym (told_bits t.shape made part refl))
            (learns_on t.shape q.view r.view s.view [] (step ∷ []) (map sets_bit marked) [] u.learns gave);
      }
    where
      named_by : (meant : CanGive t (Bucket bucket) r back (parts.Bucket part)) → lock_named t.shape meant.hold.lock ≡ Bucket bucket
      named_by meant = ap (lock_named t.shape) meant.lock_is ∙ named_by_number t.shape (Bucket bucket) (bucket_there t.shape bucket u.holds.there)

  -- what is told of it is so
  tells : (n : ℕ) (back : Content) (part : BucketPart) (hold : Hold) (other : Part) (can : CanGive t (Bucket bucket) r back (parts.Bucket part)) → hold ≡ can.hold → TellsTurn t.shape (given_turn r n hold other) (parts.Bucket part)
  tells n back part hold other can same = tells_turn can n hold other same (clears_noted can.notes) refl

  -- two parts that could be given at once: the turn of the one could be that of the other
  could_be : (n : ℕ) (back : Content) (part : BucketPart) (stands : Part) (can : CanGive t (Bucket bucket) r back (parts.Bucket part)) (other : CanGive t (Bucket bucket) r back stands) → CouldBe t.shape (given_turn r n other.hold stands) (given_turn r n can.hold (parts.Bucket part))
  could_be n back part stands can other =
      let same : can.hold ≡ other.hold = same_head (sym can.innermost ∙ other.innermost) in
      let notes : can.notes ≡ other.notes = same_head (sym can.notes_are ∙ other.notes_are) in
      let hold_is : other.hold ≡ u.holds.hold = same_head (sym other.innermost ∙ u.holds.held) in
      let stands_is = part_here stands (subst (λ (h : Hold). Allows t.shape r.cpu stands (content t.shape (lock_named t.shape h.lock) h.log)) hold_is other.may_put.allowed) in
      record {
        lock = ap (λ (h : Hold). h.lock) same;
        earlier = ap (λ (h : Hold). h.log) same;
        cpu = refl;
        call = refl;
        moment = refl;
        allowed = subst (λ (h : Hold). Allows t.shape r.cpu (parts.Bucket part) (content t.shape (lock_named t.shape h.lock) h.log)) same can.may_put.allowed;
        same_marks = sym can.notes_fit.marks_are ∙ (ap (λ (n : Notes). n.marks) notes ∙ other.notes_fit.marks_are);
        same_clears = λ e. sym (ap (λ (p : Part). times e (clears p)) stands_is.1);
        leaves = sym (subst (λ (h : Hold). content_told (lock_named t.shape h.lock) back ≡ content_after t.shape r.cpu (parts.Bucket part) (content t.shape (lock_named t.shape h.lock) h.log)) same can.may_put.told_is) ∙ other.may_put.told_is;
      }

  -- what is owed where the bucket is given back with this entry, if memory for it was found, and what it leaves
  abbrev pub Gives : BodyList → BucketPart → Option Part → Type 0
  Gives back part found =
      MayGiveBack t (Bucket bucket) r (contents.Bucket back) found × ((s : PassView) → GaveBack t (Bucket bucket) r s (contents.Bucket back) found → GivenBack t bucket q s (parts.Bucket part) hand)

  gives_by : (back : BodyList) (part : BucketPart) (found : Option Part) → marked ≡ marks t.shape (parts.Bucket part) → CanGive t (Bucket bucket) r (contents.Bucket back) (parts.Bucket part) → IfSome found (λ x. x ≡ parts.Bucket part) → Gives back part found
  gives_by back part None marks_are can is = (
    (parts.Bucket part, can),
    λ s gave.
        given_by (contents.Bucket back) part gave.part (gave.can.hold.lock ∷ []) (ticket_of (ready r.view gave.took)) gave.took gave.at r.view.kept s marks_are (inr (λ i. gave.can.lock_is i ∷ [])) gave.can can (goes_gave_some t (Bucket bucket) r s (contents.Bucket back) gave) gave.after_is (
          inr (among_first gave.can.hold.lock [], could_be (ticket_of (ready r.view gave.took)) (contents.Bucket back) part gave.part can gave.can),
          tells (ticket_of (ready r.view gave.took)) (contents.Bucket back) part gave.can.hold gave.part can (same_head (sym gave.can.innermost ∙ can.innermost)),
        ),
  )
  gives_by back part (Some x) marks_are can is = (
    subst (CanGive t (Bucket bucket) r (contents.Bucket back)) (sym is) can,
    λ s gave.
        let hold_is : gave.hold ≡ can.hold = same_head (sym gave.innermost ∙ can.innermost) in
        let recorded : Goes r s (given_turn r gave.ticket can.hold (parts.Bucket part) ∷ []) [] = subst (λ (z : Hold × Part). Goes r s (given_turn r gave.ticket z.0 z.1 ∷ []) []) (λ i. (hold_is i, is i)) (goes_gave r s x gave) in
        given_by (contents.Bucket back) part (parts.Bucket part) [] gave.ticket gave.took gave.at gave.kept s marks_are (inl refl) can can recorded (gave.after_is ∙ (λ i. with_view r (given gave.at (hold_is i) (entry_of r gave.ticket (is i)) gave.kept (ready r.view gave.took))))
        (inl refl, tells gave.ticket (contents.Bucket back) part can.hold (parts.Bucket part) can refl),
  )

  pub gives : (back : BodyList) (part : BucketPart) (elements : List ℕ) → IsTurnWith t.shape q.cpu part bodies back.bodies elements → ((x : ℕ) → times x elements ≡ times x (rows now)) → now.free ≡ [] → bucket_probes part ≡ [] → marked ≡ marks t.shape (parts.Bucket part)
      → (IsTrue (is_lru t.shape.kind) → AreChangedBy t.shape bucket q.cpu part changed) → (found : Option Part) → IfSome found (λ x. x ≡ parts.Bucket part) → Gives back part found
  gives back part elements turn counted no_free no_probes marks_are changes found is = gives_by back part found marks_are (can_give back part elements (subst (λ (c : ℕ). IsTurnWith t.shape c part bodies back.bodies elements) (sym u.goes.cpu) turn) counted no_free no_probes marks_are (λ lru. subst (λ (c : ℕ). AreChangedBy t.shape bucket c part changed) (sym u.goes.cpu) (changes lru))) is
