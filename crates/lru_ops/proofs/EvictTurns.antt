-- The turn of a bucket that a probe makes, from its take to its give.
use Rattle.place_table.proofs.TicketsTaken.{took_touched}
use Rattle.std.proofs.Common.{◌≡◌, ◌≢◌, ℕ, ◌<◌, ◌≤◌, ◌+◌, inl, cond, true, false, Bool, List, [], ◌∷◌, ◌++◌, sym, refl, ap, ◌∙◌, subst, arith, Option, Some, None, append_assoc}
use Rattle.std.proofs.lemmas.List.Elements.{recursion_from_All, All-nil, All-cons}
use Rattle.std.specs.List.{AllByRecursion}
use Rattle.std.specs.Prelude.{◌==◌, find, reverse, IsTrue, IsFalse, is_some, All, suc}
use Rattle.std.proofs.lemmas.Bool.{eqb-true, lt-ltb}
use Rattle.map_types.specs.declared.attr.Shape.{Shape}
use Rattle.map_types.specs.declared.kind.DomainId.{DomainId}
use Rattle.map_types.specs.declared.kind.DomainId.TheVariants.{Bucket, CpuLru, Freelist, Global, Local}
use Rattle.map_types.specs.ElementLists.{one, times, without, IsIn}
use Rattle.map_types.specs.Kind.{is_lru}
use Rattle.map_types.specs.Stored.{Stored, IsSized}
use Rattle.map_types.proofs.RowLemmas.{by_test}
use Rattle.percpu_values.specs.BodyList.{BodyList}
use Rattle.bucket_chain.specs.Turns.{IsTurn}
use Rattle.bucket_chain.proofs.SizeLaws.{sizes_stay}
use Rattle.bucket_chain.proofs.Turns.{evict_finds_held, evict_takes}
use Rattle.owner_words.specs.Owners.{owner_told}
use Rattle.place_words.specs.declared.bucket_part.BucketPart.TheVariants.{Evict}
use Rattle.place_words.specs.declared.bucket_part.Seen.{Seen}
use Rattle.place_words.specs.declared.bucket_part.Seen.TheVariants.{Removed, Held}
use Rattle.place_words.specs.declared.history.Part.{Part}
use Rattle.place_words.specs.declared.history.Part.TheVariants as parts
use Rattle.place_words.specs.declared.owner.Owner.{Owner}
use Rattle.place_words.specs.declared.owner.Owner.TheVariants as owners
use Rattle.place_words.specs.Bodies.{has_number, body_of, without_element, numbers}
use Rattle.place_words.specs.Buckets.{bucket_after}
use Rattle.place_words.specs.Codes.{owner_code}
use Rattle.place_words.specs.Histories.{Content, in_bucket, content, content_after, Allows, IsLegal}
use Rattle.place_words.specs.Locks.{is_lock, lock_named, lock_number, rank_of}
use Rattle.place_words.proofs.BucketLaws.{element_taken}
use Rattle.place_words.proofs.LockLemmas.{named_by_number}
use Rattle.place_words.proofs.Splits.{find_passes}
use Rattle.place_words.specs.declared.step.Lists.{Lists}
use Rattle.place_words.specs.Places.{is_in_bucket}
use Rattle.place_words.specs.State.{rows, is_bucket}
use Rattle.place_words.specs.Steps.{without_row}
use Rattle.place_words.proofs.ElementLemmas.{times_cons_same}
use Rattle.place_table.specs.declared.content.Content.TheVariants as contents
use Rattle.place_table.specs.declared.view.View.{View}
use Rattle.place_table.specs.declared.view.Hold.{Hold}
use Rattle.place_table.specs.declared.view.InHand.{InHand}
use Rattle.place_table.specs.declared.view.Notes.{Notes}
use Rattle.place_table.specs.declared.view.Turned.{Turned}
use Rattle.place_table.specs.declared.view.WordStep.{WordStep}
use Rattle.place_table.specs.Contents.{lists_of, FitsLock}
use Rattle.place_table.specs.Known.{Learns}
use Rattle.place_table.specs.Nested.{IsLocalLast}
use Rattle.place_table.specs.Passes.{PassView, TableView, CanTake, CanDetach, CanMark, TookLock, CanGive, Gave, Goes, with_view, entry_of, ready}
use Rattle.place_table.specs.Owners.{IsFreeAround, IsProbed, owner_left, change_in}
use Rattle.place_table.specs.Plays.{OwnerFits, IsListedHere}
use Rattle.place_table.specs.Rules.{IsAboveAll, is_hand_of}
use Rattle.place_table.specs.Flushes.{flushes}
use Rattle.place_table.specs.StoredHashes.{stored_in}
use Rattle.place_table.specs.TurnNotes.{HasOnlyHash, WasRead, ProbeFits, CameToHand, clears_among, clears_noted}
use Rattle.place_table.specs.Views.{is_among, is_in_hand_of, with_changed, hold_at, now_under, with_now, with_in_hand, detached, owner_read, with_owner_read, holding, known_log, no_notes, given, holds_below, notes_below, with_owners_read, passed_on, hold_with}
use Rattle.place_table.specs.Words.{owner_word}
use Rattle.place_table.proofs.Entries.{append_nil}
use Rattle.place_table.proofs.Going.{goes_on, goes_took, goes_moved, goes_noted, goes_gave, goes_of_table, goes_begun, given_turn, same_head, learns_on, learns_nothing, learns_took, learns_given}
use Rattle.place_table.proofs.Hands.{now_at_is}
use Rattle.place_table.proofs.Worlds.{hold_at_first, hold_at_other, some_is, none_some, true_false}
use Rattle.place_table.proofs.BucketTurns.{left_is}
use Rattle.place_table.proofs.Telling.{tells_turn}
use Rattle.lru_ops.specs.Evictions.{HoldsLists, CanProbe, Inside, IsEvict, hand_with, EndedWith, EvictedWith, owners_probed}
use Rattle.lru_ops.proofs.Holders.{SawSeen, saw_on, saw_none, saw_probe}
use Rattle.lru_ops.proofs.OwnersAround.{free_here}

-- The body of an element that was found

found_here : {X : Type 0} (P : X → Type 0) (y x : X) (rest : Option X) (b : Bool) → P y → (rest ≡ Some x → P x) → cond b (Some y) rest ≡ Some x → P x
found_here P y x rest true here later found = subst P (some_is found) here
found_here P y x rest false here later found = later found

pub found_has : {X : Type 0} (P : X → Type 0) (test : X → Bool) (xs : List X) (x : X) → AllByRecursion P xs → find test xs ≡ Some x → P x
found_has P test [] x all found = absurd (none_some found)
found_has P test (y ∷ ys) x all found = found_here P y x (find test ys) (test y) all.0 (λ later. found_has P test ys x all.1 later) found

pub found_body : (shape : Shape) (e : ℕ) (bodies : List Stored) (body : Stored) → All (IsSized shape) bodies → body_of e bodies ≡ Some body → (body.element ≡ e) × IsSized shape body
found_body shape e bodies body sized found =
    (eqb-true body.element e (find_passes (has_number e) bodies body found), found_has (IsSized shape) (has_number e) bodies body (recursion_from_All (IsSized shape) bodies sized) found)

none_cons : (b : Bool) (body : Stored) (rest : Option Stored) (n : ℕ) → (rest ≡ None → n ≡ 0) → cond b (Some body) rest ≡ None → cond b (suc n) n ≡ 0
none_cons true body rest n later none = absurd (none_some (sym none))
none_cons false body rest n later none = later none

none_of : (e : ℕ) (bodies : List Stored) → body_of e bodies ≡ None → times e (numbers bodies) ≡ 0
none_of e [] none = refl
none_of e (body ∷ bodies) none = none_cons (has_number e body) body (body_of e bodies) (times e (numbers bodies)) (none_of e bodies) none

-- a probe is of one element, with one answer
probes_one : (e x : ℕ) (seen : Seen) (holder : ℕ) → parts.Bucket (Evict e seen) ≡ parts.Bucket (Evict x (Held holder)) → e ≡ x
probes_one e x seen holder is = cc

probes_seen : (e x : ℕ) (seen : Seen) (holder : ℕ) → parts.Bucket (Evict e seen) ≡ parts.Bucket (Evict x (Held holder)) → seen ≡ Held holder
probes_seen e x seen holder is = cc

held_none : (holder : ℕ) → Removed ≡ Held holder → ⊥
held_none holder is = cc

one_number : (n : ℕ) → (n == n) ≡ true
one_number n = by_test n n (λ b. b ≡ true) (λ _. refl) (λ other. absurd (other refl))

-- Locks

bucket_no_local : (bucket cpu : ℕ) → Bucket bucket ≡ Local cpu → ⊥
bucket_no_local bucket cpu e = cc

-- a lock of lists is no bucket
pub no_bucket : (lock : DomainId) → rank_of lock < 3 → IsFalse (is_bucket lock)
no_bucket (Local cpu) low = refl
no_bucket Global low = refl
no_bucket (CpuLru cpu) low = refl
no_bucket (Bucket bucket) low = absurd (omega (arith, low))
no_bucket (Freelist cpu) low = refl

-- locks of two names have two numbers
pub names_apart : (shape : Shape) (lock other : DomainId) → IsTrue (is_lock shape lock) → IsTrue (is_lock shape other) → (lock ≡ other → ⊥) → lock_number shape lock ≢ lock_number shape other
names_apart shape lock other there other_there apart same =
    apart (sym (named_by_number shape lock there) ∙ (ap (lock_named shape) same ∙ named_by_number shape other other_there))

pub bucket_apart : (shape : Shape) (bucket : ℕ) (lock : DomainId) → IsTrue (is_lock shape (Bucket bucket)) → IsTrue (is_lock shape lock) → rank_of lock < 3 → lock_number shape (Bucket bucket) ≢ lock_number shape lock
bucket_apart shape bucket lock there lists_there low =
    names_apart shape (Bucket bucket) lock there lists_there (λ one. let high : 3 ≡ rank_of lock = ap rank_of one in omega (arith, high, low))

pub other_lock : (shape : Shape) (bucket cpu : ℕ) → IsTrue (is_lock shape (Bucket bucket)) → IsTrue (is_lock shape (CpuLru cpu)) → lock_number shape (Bucket bucket) ≢ lock_number shape (CpuLru cpu)
other_lock shape bucket cpu there own_there = bucket_apart shape bucket (CpuLru cpu) there own_there (omega arith)

above_more : (shape : Shape) (rank more : ℕ) (holds : List Hold) → rank ≤ more → IsAboveAll shape rank holds → IsAboveAll shape more holds
above_more shape rank more [] less above = tt
above_more shape rank more (hold ∷ holds) less above =
    (let low : rank_of (lock_named shape hold.lock) < rank = above.0 in omega (arith, less, low), above_more shape rank more holds less above.1)

-- buckets are above the locks that such a pass holds
above_lists : (t : TableView) (lock : DomainId) (p : PassView) (h : HoldsLists t lock p) → IsAboveAll t.shape 3 (h.hold ∷ h.outer)
above_lists t lock p h =
    let named : lock_named t.shape h.hold.lock ≡ lock = ap (lock_named t.shape) h.lock_is ∙ named_by_number t.shape lock h.there in
    let low : rank_of lock < 3 = h.lists in
    (subst (λ (d : DomainId). rank_of d < 3) (sym named) low, above_more t.shape (rank_of lock) 3 h.outer (omega (arith, low)) h.above)

-- nothing in a bucket tells a stored hash
pub none_stored_in : (bodies : List Stored) (e : ℕ) → stored_in (in_bucket bodies) e ≡ None
unfolding stored_in
none_stored_in bodies e = refl

pub no_hash_in : (found : Content) (bodies : List Stored) (e h : ℕ) → in_bucket bodies ≡ found → stored_in found e ≡ Some h → ⊥
no_hash_in found bodies e h is stored = none_some (sym (none_stored_in bodies e) ∙ (ap (λ (c : Content). stored_in c e) is ∙ stored))

-- Taking

-- above a lock of lists a bucket may be taken
pub can_take_bucket : (t : TableView) (bucket e : ℕ) (p : PassView) → CanProbe t bucket e p → CanTake t (Bucket bucket) p
can_take_bucket t bucket e p can =
    let h = can.holds in record {
      of_table = h.of_table;
      begun = h.begun;
      there = lt-ltb bucket t.shape.buckets can.there;
      above = subst (IsAboveAll t.shape 3) (sym h.held) (above_lists t can.lock p h);
    }

-- no row under a bucket that was taken has a hash: the hash of the others is that of all
hashed_inside : (t : TableView) (bucket e hash : ℕ) (p q : PassView) (chain : BodyList) → bucket < t.shape.buckets → HasOnlyHash t.shape p.view e hash → TookLock t (Bucket bucket) p q (contents.Bucket chain) → HasOnlyHash t.shape q.view e hash
hashed_inside t bucket e hash p q chain there hashed took k h hold held stored =
    let named : lock_named t.shape took.hold.lock ≡ Bucket bucket = ap (lock_named t.shape) took.lock_is ∙ named_by_number t.shape (Bucket bucket) (lt-ltb bucket t.shape.buckets there) in
    by_test took.hold.lock k (λ b. cond b (Some took.hold) (hold_at k p.view.held) ≡ Some hold → h ≡ hash)
    (λ same found.
    let bare : stored_in (content t.shape (Bucket bucket) took.hold.log) e ≡ Some h = (λ i. stored_in (content t.shape ((sym named ∙ ap (lock_named t.shape) same) i) ((some_is found) i).log) e) ∙ stored in
    absurd (no_hash_in (content t.shape (Bucket bucket) took.hold.log) chain.bodies e h took.told_is bare))
    (λ _ found. hashed k h hold found stored)
    (ap (λ (z : PassView). hold_at k z.view.held) (sym took.after_is) ∙ held)

pub inside : (t : TableView) (bucket e : ℕ) (p q : PassView) (chain : BodyList) → CanProbe t bucket e p → TookLock t (Bucket bucket) p q (contents.Bucket chain) → Inside t bucket e q chain.bodies
inside t bucket e p q chain can took =
    let h = can.holds in
    let m = can.may in
    let goes = goes_took t (Bucket bucket) p q (contents.Bucket chain) took in
    let view : q.view ≡ holding took.at took.hold p.view = ap (λ (z : PassView). z.view) took.after_is in
    let one : m.hold ≡ h.hold = same_head (sym m.held ∙ h.held) in
    record {
      lock = can.lock;
      of_table = goes_of_table t p q [] [] goes h.of_table;
      begun = goes_begun p q [] [] goes h.begun;
      real = m.real;
      there = can.there;
      hold = took.hold;
      lists = h.hold;
      outer = h.outer;
      below = p.view.notes;
      held = ap (λ (v : View). v.held) view ∙ ap (λ (l : List Hold). took.hold ∷ l) h.held;
      above = above_lists t can.lock p h;
      notes = ap (λ (v : View). v.notes) view;
      lock_is = took.lock_is;
      cpu_is = took.cpu_is ∙ sym goes.cpu;
      content_is = took.told_is;
      legal = took.legal;
      now = took.now;
      sized = took.fits;
      known = λ log is. took.known log (ap (λ (v : View). known_log (lock_number t.shape (Bucket bucket)) v.known) (sym view) ∙ is);
      evicts = h.evicts;
      lists_there = h.there;
      lists_are = h.lists;
      lists_lock = h.lock_is;
      under = can.under;
      in_no_hand = λ cpu among. ap (λ (v : View). is_in_hand_of e cpu v.hand) view ∙ m.in_no_hand cpu (ap (λ (v : View). is_among cpu v.cpus) (sym view) ∙ among);
      listed = subst (λ (z : Hold). IsIn e (rows z.now)) one m.listed;
      hash = can.hash;
      hashed = hashed_inside t bucket e can.hash p q chain can.there m.hashed took;
      bucket_is = can.bucket_is;
      around = λ owner is. free_here h e owner is;
    }

-- Under the bucket

no_marks : (b : Bool) (none : List ℕ) → none ≡ cond b none none
no_marks true none = refl
no_marks false none = refl

-- What was done there: this lies in the bucket now, this was noted, and this is in hand.
pub record Worked (t : TableView) (bucket e : ℕ) (q r : PassView) (bodies : List Stored) (b : Inside t bucket e q bodies) (now : Lists) (notes : Notes) (hand : List InHand) : Type 0 where
  pub goes : Goes q r [] []
  pub held : r.view.held ≡ hold_with b.hold now ∷ b.lists ∷ b.outer
  pub notes_are : r.view.notes ≡ notes ∷ b.below
  pub marks : notes.marks ≡ []
  pub asked : notes.asked ≡ []
  pub off : notes.off ≡ []
  pub carried : r.view.carried ≡ q.view.carried
  pub knows : Learns t.shape q.view r.view [] []
  pub in_hand : r.view.hand ≡ hand
  pub spares : r.spares ≡ q.spares
  pub touched : List WordStep
  pub touched_are : r.view.touched ≡ q.view.touched ++ touched

module _ {t : TableView} {bucket e : ℕ} {q : PassView} {bodies : List Stored} (b : Inside t bucket e q bodies) where
  is_there : IsTrue (is_lock t.shape (Bucket bucket))
  is_there = lt-ltb bucket t.shape.buckets b.there

  held_here : (k : ℕ) → k ≡ b.hold.lock → hold_at k q.view.held ≡ Some b.hold
  held_here k is =
      ap (hold_at k) b.held ∙ (ap (λ (n : ℕ). hold_at n (b.hold ∷ b.lists ∷ b.outer)) is ∙ hold_at_first b.hold (b.lists ∷ b.outer))

  bucket_held : hold_at (lock_number t.shape (Bucket bucket)) q.view.held ≡ Some b.hold
  bucket_held = held_here (lock_number t.shape (Bucket bucket)) (sym b.lock_is)

  lists_held : hold_at (lock_number t.shape b.lock) q.view.held ≡ Some b.lists
  lists_held =
      ap (hold_at (lock_number t.shape b.lock)) b.held
      ∙ (hold_at_other (lock_number t.shape b.lock) b.hold (b.lists ∷ b.outer) (λ same. bucket_apart t.shape bucket b.lock is_there b.lists_there b.lists_are (sym b.lock_is ∙ sym same))
      ∙ (ap (λ (n : ℕ). hold_at n (b.lists ∷ b.outer)) (sym b.lists_lock) ∙ hold_at_first b.lists b.outer))

  named_bucket : lock_named t.shape (lock_number t.shape (Bucket bucket)) ≡ Bucket bucket
  named_bucket = named_by_number t.shape (Bucket bucket) is_there

  listed_here : IsListedHere t.shape q.view e
  listed_here = record {
    lock = lock_number t.shape b.lock;
    hold = b.lists;
    held = lists_held;
    no_bucket = ap is_bucket (named_by_number t.shape b.lock b.lists_there) ∙ no_bucket b.lock b.lists_are;
    listed = b.listed;
  }

  -- What isn't in its bucket is in the hand of a CPU that isn't the pass's

  pub not_free : (owner : Owner) → OwnerFits t.shape q.view e owner → owner ≡ owners.Free → ⊥
  not_free owner fits free =
      let none : times e (rows b.lists.now) ≡ 0 = fits.listed free (lock_number t.shape b.lock) b.lists lists_held in
      let some : 0 < times e (rows b.lists.now) = b.listed in
      omega (arith, none, some)

  pub not_in_bucket : (owner : Owner) (x : ℕ) → OwnerFits t.shape q.view e owner → body_of e bodies ≡ None → owner ≡ owners.Bucket x → ⊥
  not_in_bucket owner x fits none is =
      let here : x ≡ bucket = fits.of_hash b.evicts b.hash x listed_here b.hashed is ∙ sym b.bucket_is in
      let counted : times e (rows b.hold.now) ≡ one (is_in_bucket bucket owner) = fits.in_held_bucket bucket b.hold b.there bucket_held in
      let inside_it : one (is_in_bucket bucket owner) ≡ 1 = ap (λ (o : Owner). one (is_in_bucket bucket o)) (is ∙ ap owners.Bucket here) ∙ ap one (one_number bucket) in
      let nothing : times e (rows b.hold.now) ≡ 0 = ap (λ (l : Lists). times e (rows l)) b.now ∙ (ap (times e) (append_nil (numbers bodies)) ∙ none_of e bodies none) in
      omega (arith, counted, inside_it, nothing)

  pub not_own_hand : (owner : Owner) (holder : ℕ) → OwnerFits t.shape q.view e owner → owner ≡ owners.Hand holder → holder ≢ q.cpu
  not_own_hand owner holder fits is same =
      let mine : is_hand_of q.cpu owner ≡ true = ap (is_hand_of q.cpu) is ∙ (ap (λ (c : ℕ). is_hand_of q.cpu (owners.Hand c)) same ∙ one_number q.cpu) in
      true_false (sym mine ∙ (fits.in_own_hand q.cpu b.begun ∙ b.in_no_hand q.cpu b.begun))

  pub is_in_hand : (owner : Owner) → OwnerFits t.shape q.view e owner → body_of e bodies ≡ None → ((holder : ℕ) → owner ≡ owners.Hand holder → ⊥) → ⊥
  is_in_hand owners.Free fits none other = not_free owners.Free fits refl
  is_in_hand (owners.Bucket x) fits none other = not_in_bucket (owners.Bucket x) x fits none refl
  is_in_hand (owners.Hand holder) fits none other = other holder refl

  -- where the element was changed in the turns around the bucket's, it was set free
  free_around : (r : PassView) (hold : Hold) (n : Notes) → r.view.held ≡ hold ∷ b.lists ∷ b.outer → r.view.notes ≡ n ∷ b.below → IsFreeAround r.view e
  free_around r hold n held notes owner is = b.around owner (sym (λ i. change_in e (holds_below (held i)) (notes_below (notes i))) ∙ is)

  is_there_inside : (body : Stored) → Some body ≡ body_of e bodies → CanMark t e bucket q
  is_there_inside body taken =
      let more : times e (e ∷ numbers (without_element e bodies)) ≡ times e (numbers bodies) = element_taken e bodies (ap is_some (sym taken)) e in
      let some : IsIn e (numbers bodies) = omega (arith, more, times_cons_same e (numbers (without_element e bodies))) in
      record {
        of_table = b.of_table;
        begun = b.begun;
        hold = b.hold;
        real = b.real;
        there = b.there;
        held = bucket_held;
        cpu_is = b.cpu_is;
        inside = subst (λ (l : Lists). IsIn e l.first) (sym b.now) some;
      }

  pub can_detach : (body : Stored) → Some body ≡ body_of e bodies → CanDetach t e bucket q
  can_detach body taken = record { there = is_there_inside body taken; around = λ _. free_around q b.hold no_notes b.held b.notes }

  -- what is noted once the element was taken out
  abbrev pub taken_notes : Notes
  taken_notes = record no_notes { changed = record { element = e; owner = owners.Hand q.cpu } ∷ [] }

  pub worked_detached : (at : ℕ) → Worked t bucket e q (with_view q (detached at bucket e q.cpu q.view)) bodies b (without_row e (lists_of (in_bucket bodies))) taken_notes (with_in_hand e q.cpu q.view.hand)
  worked_detached at =
      let k : ℕ = lock_number q.view.shape (Bucket bucket) in
      let k_is : k ≡ b.hold.lock = ap (λ (s : Shape). lock_number s (Bucket bucket)) b.of_table.1 ∙ sym b.lock_is in
      let now : now_under (Bucket bucket) q.view ≡ lists_of (in_bucket bodies) = now_at_is k q.view.held b.hold (held_here k k_is) ∙ b.now in
      let then : Lists = without_row e (lists_of (in_bucket bodies)) in
      record {
        goes = goes_moved at k (without_row e (now_under (Bucket bucket) q.view)) (with_in_hand e q.cpu q.view.hand) _ _ _ q (with_view q (detached at bucket e q.cpu q.view)) refl;
        held = ap (λ (l : Lists). with_now k (without_row e l) q.view.held) now
            ∙ (ap (with_now k then) b.held
            ∙ by_test b.hold.lock k (λ z. cond z (hold_with b.hold then ∷ b.lists ∷ b.outer) (b.hold ∷ with_now k then (b.lists ∷ b.outer)) ≡ hold_with b.hold then ∷ b.lists ∷ b.outer) (λ _. refl) (λ other. absurd (other (sym k_is))));
        notes_are = ap (with_changed e (owners.Hand q.cpu)) b.notes;
        marks = refl;
        asked = refl;
        off = refl;
        carried = refl;
        knows = learns_nothing t.shape q.view (detached at bucket e q.cpu q.view) refl refl refl refl;
        in_hand = refl;
        spares = refl;
        touched = record { at = at; word = owner_word q.view.shape e; seen = None; left = 1 + q.cpu } ∷ [];
        touched_are = refl;
      }

  abbrev pub read_step : ℕ → Owner → WordStep
  read_step at owner = record { at = at; word = owner_word q.view.shape e; seen = Some (owner_code owner); left = owner_code owner }

  abbrev pub seen_notes : Owner → Notes
  seen_notes owner = record no_notes { owners = record { element = e; owner = owner } ∷ [] }

  pub worked_seen : (at : ℕ) (owner : Owner) → Worked t bucket e q (with_view q (owner_read at e owner q.view)) bodies b b.hold.now (seen_notes owner) q.view.hand
  worked_seen at owner = record {
    goes = goes_noted (with_owner_read e owner q.view.notes) q.view.bits _ q.view.readings q (with_view q (owner_read at e owner q.view)) refl;
    held = b.held;
    notes_are = ap (with_owner_read e owner) b.notes;
    marks = refl;
    asked = refl;
    off = refl;
    carried = refl;
    knows = learns_nothing t.shape q.view (owner_read at e owner q.view) refl refl refl refl;
    in_hand = refl;
    spares = refl;
    touched = read_step at owner ∷ [];
    touched_are = refl;
  }

  -- the read of an owner that is the hand of a CPU
  read_holder : (at holder : ℕ) (owner : Owner) → owner ≡ owners.Hand holder → SawSeen t.shape (read_step at owner ∷ []) e (Held holder)
  read_holder at holder owner hand = inl (λ i. record { at = at; word = owner_word (b.of_table.1 i) e; seen = Some (owner_code (hand i)); left = owner_code (hand i) })

  -- the probed bucket is that of the stored hash
  is_probed : (at : ℕ) (owner : Owner) → IsProbed t.shape (owner_read at e owner q.view) (lock_named t.shape b.hold.lock) e
  is_probed at owner = record {
    listed = record {
      lock = lock_number t.shape b.lock;
      hold = b.lists;
      held = lists_held;
      no_bucket = ap is_bucket (named_by_number t.shape b.lock b.lists_there) ∙ no_bucket b.lock b.lists_are;
      listed = b.listed;
    };
    hash = b.hash;
    only = b.hashed;
    lock_is = ap (lock_named t.shape) b.lock_is ∙ (named_bucket ∙ ap Bucket b.bucket_is);
    around = free_around (with_view q (owner_read at e owner q.view)) b.hold (seen_notes owner) b.held (ap (with_owner_read e owner) b.notes);
  }

  can_give : (r : PassView) (now : Lists) (notes : Notes) (hand : List InHand) (back : BodyList) (seen : Seen) → Worked t bucket e q r bodies b now notes hand
      → IsTurn t.shape q.cpu (Evict e seen) bodies back.bodies → All (IsSized t.shape) back.bodies → ((x : ℕ) → times x (numbers back.bodies) ≡ times x (rows now)) → now.free ≡ []
      → ProbeFits notes.owners (record { element = e; probed = seen })
      → ((x : ℕ) (owner : Owner) → owner_left notes.changed x owner ≡ owner_told t.shape (lock_named t.shape b.hold.lock) r.cpu (parts.Bucket (Evict e seen)) x owner)
      → ((holder : ℕ) → seen ≡ Held holder → IsProbed t.shape r.view (lock_named t.shape b.hold.lock) e)
      → CanGive t (Bucket bucket) r (contents.Bucket back) (parts.Bucket (Evict e seen))
  can_give r now notes hand back seen w turn sized counted no_free fits changes probed =
      let named : lock_named t.shape b.hold.lock ≡ Bucket bucket = ap (lock_named t.shape) b.lock_is ∙ named_bucket in
      let begun = goes_begun q r [] [] w.goes b.begun in
      let part : Part = parts.Bucket (Evict e seen) in
      let found : in_bucket bodies ≡ content t.shape (lock_named t.shape b.hold.lock) b.hold.log = b.content_is ∙ ap (λ (d : DomainId). content t.shape d b.hold.log) (sym named) in
      record {
        of_table = goes_of_table t q r [] [] w.goes b.of_table;
        begun = begun;
        hold = hold_with b.hold now;
        below = b.lists ∷ b.outer;
        innermost = w.held;
        notes = notes;
        notes_below = b.below;
        notes_are = w.notes_are;
        there = is_there;
        lock_is = b.lock_is;
        may_put = record {
          cpu = begun;
          told_is = ap in_bucket turn.left ∙ (ap (λ (c : ℕ). content_after t.shape c part (in_bucket bodies)) (sym w.goes.cpu) ∙ ap (content_after t.shape r.cpu part) found);
          fits = subst (λ (d : DomainId). FitsLock t.shape d (contents.Bucket back)) (sym named) sized;
          allowed = subst (Allows t.shape r.cpu part) found (subst (λ (c : ℕ). Allows t.shape c part (in_bucket bodies)) (sym w.goes.cpu) turn.allowed);
          same_free = λ x. ap (times x) (sym no_free);
          same_rows = λ x. ap (times x) (append_nil (numbers back.bodies)) ∙ counted x;
          rows_kept = λ _ j x h n other held _ not_mine before after. absurd (none_some (sym (none_stored_in back.bodies x) ∙ after));
          gone = λ _ c x h is. absurd (bucket_no_local bucket c (sym named ∙ is));
        };
        inside = record {
          outer = b.lists;
          others = b.outer;
          held_are = refl;
          may_be = subst (λ (d : DomainId). (rank_of d < 3) × (d ≡ Global → IsLocalLast t.shape b.outer)) (sym (ap (lock_named t.shape) b.lists_lock ∙ named_by_number t.shape b.lock b.lists_there)) (b.lists_are, b.under);
        };
        notes_fit = record {
          marks_are = w.marks ∙ no_marks (is_lru t.shape.kind) [];
          clears_are = (λ i. clears_among (reverse (w.asked i)));
          reads = All-nil (WasRead notes.asked);
          flushed = tt;
          off = subst (All (λ x. flushes x part ≡ true)) (sym w.off) (All-nil (λ x. flushes x part ≡ true));
          held = All-cons (ProbeFits notes.owners) (record { element = e; probed = seen }) [] fits (All-nil (ProbeFits notes.owners));
          came = All-nil (CameToHand r.view (hold_with b.hold now) notes);
        };
        owners_fit = λ _. record { changes = changes; probed = λ x holder is. subst (IsProbed t.shape r.view (lock_named t.shape b.hold.lock)) (probes_one e x seen holder is) (probed holder (probes_seen e x seen holder is)) };
      }

  ended : (r s : PassView) (now : Lists) (notes : Notes) (hand : List InHand) (back : BodyList) (seen : Seen) → (w : Worked t bucket e q r bodies b now notes hand) → hand ≡ hand_with q.cpu e seen q.view.hand → SawSeen t.shape w.touched e seen → with_owners_read notes.owners b.below ≡ owners_probed e seen b.below
      → (can : CanGive t (Bucket bucket) r (contents.Bucket back) (parts.Bucket (Evict e seen))) → Gave r s (parts.Bucket (Evict e seen)) → EndedWith t bucket e q s seen
  ended r s now notes hand back seen w hand_is saw handed_on can gave =
      let part : Part = parts.Bucket (Evict e seen) in
      let can_is : can.hold ≡ hold_with b.hold now = same_head (sym can.innermost ∙ w.held) in
      let gave_is : gave.hold ≡ can.hold = same_head (sym gave.innermost ∙ can.innermost) in
      let turn : Turned = given_turn r gave.ticket can.hold part in
      let given_back : WordStep = record { at = gave.at; word = can.hold.lock; seen = None; left = 0 } in
      let made = took_touched r.view gave.took.drawn gave.took.ticket gave.took.reached gave.took.touched gave.took.takes in
      let touched_by : s.view.touched ≡ gave.took.touched ++ given_back ∷ [] → s.view.touched ≡ r.view.touched ++ (made.more ++ given_back ∷ []) = λ is. is ∙ (ap (λ (l : List WordStep). l ++ given_back ∷ []) made.are ∙ append_assoc r.view.touched made.more (given_back ∷ [])) in
      let after : s ≡ with_view r (given gave.at can.hold (entry_of r gave.ticket part) gave.kept (ready r.view gave.took)) = gave.after_is ∙ ap (λ (h : Hold). with_view r (given gave.at h (entry_of r gave.ticket part) gave.kept (ready r.view gave.took))) gave_is in
      record {
        turn = turn;
        goes = goes_on q r s [] (turn ∷ []) [] [] w.goes (subst (λ (h : Hold). Goes r s (given_turn r gave.ticket h part ∷ []) []) gave_is (goes_gave r s part gave));
        held = ap (λ (z : PassView). z.view.held) after ∙ (ap holds_below w.held ∙ sym (ap holds_below b.held));
        notes = ap (λ (z : PassView). z.view.notes) after ∙ (ap (passed_on part) w.notes_are ∙ (handed_on ∙ sym (ap (λ (l : List Notes). owners_probed e seen (notes_below l)) b.notes)));
        carried = ap (λ (z : PassView). z.view.carried) after ∙ w.carried;
        hand = ap (λ (z : PassView). z.view.hand) after ∙ (w.in_hand ∙ hand_is);
        spares = ap (λ (z : PassView). z.spares) after ∙ w.spares;
        is_evict = record {
          lock = ap (λ (h : Hold). h.lock) can_is ∙ b.lock_is;
          entry = λ i. record { ticket = gave.ticket; cpu = w.goes.cpu i; call = w.goes.call i; part = part };
          tells = tells_turn can gave.ticket can.hold part refl (clears_noted can.notes) refl;
        };
        saw = saw_probe t.shape q r s w.touched _ e seen turn w.touched_are saw (touched_by (ap (λ (z : PassView). z.view.touched) after)) refl;
        learns = learns_given t (Bucket bucket) q r (contents.Bucket back) [] gave.ticket part s.view can
            (subst (λ (h : Hold). IsLegal t.shape (Bucket bucket) h.log) (sym can_is) b.legal)
            (λ log known. ap (λ (h : Hold). h.log) can_is ∙ b.known log known) tt
            w.knows
            (ap (λ (z : PassView). z.view.known) after) (ap (λ (z : PassView). z.view.bits) after) (ap (λ (z : PassView). z.view.cpus) after) (ap (λ (z : PassView). z.view.shape) after);
      }

  sized_without : All (IsSized t.shape) (without_element e bodies)
  unfolding bucket_after
  sized_without = sizes_stay t.shape q.cpu bodies b.sized (Evict e Removed) tt

  pub can_give_removed : (at : ℕ) (body : Stored) (back : BodyList) → Some body ≡ body_of e bodies → back.bodies ≡ without_element e bodies
      → CanGive t (Bucket bucket) (with_view q (detached at bucket e q.cpu q.view)) (contents.Bucket back) (parts.Bucket (Evict e Removed))
  can_give_removed at body back taken left =
      can_give (with_view q (detached at bucket e q.cpu q.view)) (without_row e (lists_of (in_bucket bodies))) taken_notes (with_in_hand e q.cpu q.view.hand) back Removed (worked_detached at)
      (evict_takes t.shape q.cpu bodies back.bodies e body taken left)
      (subst (All (IsSized t.shape)) (sym left) sized_without)
      (λ x. ap (λ (l : List Stored). times x (numbers l)) left ∙ (left_is e (numbers (without_element e bodies)) (numbers bodies) (element_taken e bodies (ap is_some (sym taken))) x ∙ ap (times x) (sym (append_nil (without e (numbers bodies))))))
      refl tt
      (λ x owner. refl) (λ holder is. absurd (held_none holder is))

  pub ended_removed : (at : ℕ) (body : Stored) (back : BodyList) (s : PassView) → Some body ≡ body_of e bodies → back.bodies ≡ without_element e bodies
      → Gave (with_view q (detached at bucket e q.cpu q.view)) s (parts.Bucket (Evict e Removed)) → EndedWith t bucket e q s Removed
  ended_removed at body back s taken left gave =
      ended (with_view q (detached at bucket e q.cpu q.view)) s (without_row e (lists_of (in_bucket bodies))) taken_notes (with_in_hand e q.cpu q.view.hand) back Removed (worked_detached at) refl tt refl
      (can_give_removed at body back taken left) gave

  pub can_give_held : (at holder : ℕ) (owner : Owner) (back : BodyList) → body_of e bodies ≡ None → back.bodies ≡ bodies → owner ≡ owners.Hand holder → holder < t.shape.cpus → holder ≢ q.cpu
      → CanGive t (Bucket bucket) (with_view q (owner_read at e owner q.view)) (contents.Bucket back) (parts.Bucket (Evict e (Held holder)))
  can_give_held at holder owner back none same hand few other =
      can_give (with_view q (owner_read at e owner q.view)) b.hold.now (seen_notes owner) q.view.hand back (Held holder) (worked_seen at owner)
      (subst (IsTurn t.shape q.cpu (Evict e (Held holder)) bodies) (sym same) (evict_finds_held t.shape q.cpu bodies e holder (sym none) few other))
      (subst (All (IsSized t.shape)) (sym same) b.sized)
      (λ x. ap (λ (l : List Stored). times x (numbers l)) same ∙ sym (ap (λ (l : Lists). times x (rows l)) b.now ∙ ap (times x) (append_nil (numbers bodies))))
      (ap (λ (l : Lists). l.free) b.now) (inl (refl, hand))
      (λ x owner. refl) (λ _ _. is_probed at owner)

  pub ended_held : (at holder : ℕ) (owner : Owner) (back : BodyList) (s : PassView) → body_of e bodies ≡ None → back.bodies ≡ bodies → owner ≡ owners.Hand holder → holder < t.shape.cpus → holder ≢ q.cpu
      → Gave (with_view q (owner_read at e owner q.view)) s (parts.Bucket (Evict e (Held holder))) → EndedWith t bucket e q s (Held holder)
  unfolding worked_seen
  ended_held at holder owner back s none same hand few other gave =
      ended (with_view q (owner_read at e owner q.view)) s b.hold.now (seen_notes owner) q.view.hand back (Held holder) (worked_seen at owner) refl (read_holder at holder owner hand) (ap (λ (o : Owner). with_owner_read e o b.below) hand)
      (can_give_held at holder owner back none same hand few other) gave

-- from before the take
pub evicted : (t : TableView) (bucket e : ℕ) (p q s : PassView) (chain : BodyList) (seen : Seen) → TookLock t (Bucket bucket) p q (contents.Bucket chain) → EndedWith t bucket e q s seen → EvictedWith t bucket e p s seen
evicted t bucket e p q s chain seen took ended =
    let first = goes_took t (Bucket bucket) p q (contents.Bucket chain) took in
    record {
      turn = ended.turn;
      goes = goes_on p q s [] (ended.turn ∷ []) [] [] first ended.goes;
      held = ended.held ∙ ap (λ (z : PassView). holds_below z.view.held) took.after_is;
      notes = ended.notes ∙ ap (λ (z : PassView). owners_probed e seen (notes_below z.view.notes)) took.after_is;
      carried = ended.carried ∙ ap (λ (z : PassView). z.view.carried) took.after_is;
      hand = ended.hand ∙ ap (λ (z : PassView). hand_with z.cpu e seen z.view.hand) took.after_is;
      spares = ended.spares ∙ ap (λ (z : PassView). z.spares) took.after_is;
      is_evict = subst (λ (z : PassView). IsEvict t.shape z.cpu z.call bucket e seen ended.turn) took.after_is ended.is_evict;
      saw = saw_on t.shape p q s [] (ended.turn ∷ []) (saw_none t.shape p q _ (ap (λ (z : PassView). z.view.touched) took.after_is)) ended.saw;
      learns = learns_on t.shape p.view q.view s.view [] (ended.turn ∷ []) [] [] (learns_took t (Bucket bucket) p q (contents.Bucket chain) took) ended.learns;
    }
