-- From what the steps of a seat tell to what a caller with a pass knows.
use Rattle.std.proofs.Common.{◌≡◌, ℕ, Bool, true, false, List, [], ◌∷◌, ◌++◌, length, Option, Some, None, MatchOption, sym, refl, ap, ◌∙◌, subst, ⊎_elim, arith, inl, inr}
use Rattle.std.specs.Prelude.{◌<◌, Vec, IfSome, IsTrue}
use Rattle.std.specs.Global.{Global}
use Rattle.atomic_table.specs.Table.{rest}
use Rattle.map_types.specs.Stored.{Stored, IsSized}
use Rattle.map_types.specs.declared.attr.Shape.{Shape}
use Rattle.map_types.specs.declared.kind.DomainId.{DomainId}
use Rattle.map_types.specs.declared.kind.DomainId.TheVariants.{CpuLru}
use Rattle.map_types.specs.Kind.{is_lru}
use Rattle.map_types.specs.Creation.{IsShape}
use Rattle.map_types.proofs.CreationLemmas.{bounds_of_shape}
use Rattle.map_types.proofs.RowLemmas.{by_test}
use Rattle.place_words.specs.declared.history.Entry.{Entry}
use Rattle.place_words.specs.declared.history.Part.{Part}
use Rattle.place_words.specs.declared.history.StrandStep.{StrandStep}
use Rattle.place_words.specs.declared.owner.Owner.{Owner}
use Rattle.place_words.specs.Codes.{owner_code, HasOwnerCode, home_code, HasHomeCode}
use Rattle.place_words.specs.declared.home.Home.{Home}
use Rattle.place_words.specs.Histories.{content, IsLegal}
use Rattle.place_words.specs.Locks.{is_lock, lock_named, lock_number}
use Rattle.place_words.specs.Takings.{set_of}
use Rattle.place_words.proofs.LockLemmas.{named_by_number}
use Rattle.place_words.specs.Places.{MayOwn}
use Rattle.place_words.specs.State.{is_bucket}
use Rattle.place_table.specs.declared.view.HomeRead.{HomeRead}
use Rattle.place_table.specs.declared.content.Behind.{Behind}
use Rattle.place_table.specs.declared.content.Content.{Content}
use Rattle.place_words.specs.declared.turn_logs.LoggedTurn.{LoggedTurn}
use Rattle.place_table.specs.declared.content.SlotTurns.{SlotTurns}
use Rattle.place_table.specs.declared.strands.TurnsMade.{TurnsMade}
use Rattle.place_table.specs.declared.view.View.{View}
use Rattle.place_table.specs.declared.view.Hold.{Hold}
use Rattle.place_table.specs.declared.view.Notes.{Notes}
use Rattle.place_table.specs.declared.view.BitSeen.{BitSeen}
use Rattle.place_table.specs.Rules.{KeptAs}
use Rattle.place_table.specs.Contents.{content_told, lists_of, FitsLock}
use Rattle.place_table.specs.Flushes.{flushed_since}
use Rattle.place_table.specs.Views.{is_among, is_in_hand_of, hold_at, known_log, home_known, holding, turned, given, with_lost, losing, holds_below, noted, owner_read, home_read, with_homes_read}
use Rattle.place_table.specs.declared.view.Ticket.{Ticket}
use Rattle.place_table.specs.declared.view.Ticket.TheVariants.{Unread, Drawn}
use Rattle.place_table.specs.Views.{ticketed, ticket_of, number_by, next, numbered_entry, reached_by, refused_by}
use Rattle.place_table.specs.Tickets.{IsTaken}
use Rattle.place_table.specs.Nested.{IsInside, AreOutside}
use Rattle.place_table.specs.Plays.{TakesTicket}
use Rattle.place_table.specs.Owners.{InnermostOwnersFit}
use Rattle.place_table.proofs.TicketsTaken.{IsTicketed, put_unticketed, notes_unticketed, owners_unticketed, numbered_by}
use Rattle.place_table.specs.Recording.{Recorded, Records, recorded_step}
use Rattle.place_table.specs.SlotTurns.{HasTurns}
use Rattle.place_table.specs.Logged.{IsLogOf}
use Rattle.place_table.proofs.Recorded.{IsHeldHistory, its_ticket, log_given, log_more, number_recorded, one_more, only_if, renumbered}
use Rattle.place_table.specs.Plays.{IsInnermost, Seated, Took, AreElements, IsApartFromHands, GivesBack, GivesSome, entry_by, IsKeptOrLost, MayPut, MayGive, OwnerFits, SeesOwner, HomeFits, SeesHome}
use Rattle.place_table.specs.TurnNotes.{NotesFit, InnermostFits}
use Rattle.place_table.specs.Passes.{PassView, TableView, Carries, HandsReal, IsPass, IsPassOf, with_view, without_content, entry_of, HasBegun, SparesDiffer, TookLock, CanGive, Gave, GaveSome, SawOwner, SawHome, spare_of}
use Rattle.place_table.proofs.CodeLemmas.{one_owner, one_home, has_owner_code}
use Rattle.place_table.proofs.Worlds.{some_is}
use Rattle.place_table.specs.declared.view.WordStep.{WordStep}
use Rattle.place_table.specs.declared.view.HomeIn.{HomeIn}

first_behind : Behind → List (ℕ × Behind) → Behind
first_behind other [] = other
first_behind other (slot ∷ slots) = slot.1

-- two readings of one first slot
pub same_behind : (slots : List (ℕ × Behind)) (k : ℕ) (a b : Behind) (below others : List (ℕ × Behind)) → slots ≡ (k, a) ∷ below → slots ≡ (k, b) ∷ others → a ≡ b
unfolding first_behind
same_behind slots k a b below others one other = ap (first_behind a) (sym one ∙ other)

-- a pass once a lock is taken and its content is out
pub is_pass_taken : {flags : List Bool} {past : TurnsMade} (v : View) (slots : List (ℕ × Behind)) (strand : List StrandStep) (spares : List (Option Stored)) (k cpu : ℕ) (taken out : Seated) → IsPass v slots strand spares flags past → Took k cpu (v, slots) taken
    → (b : Behind) → taken.1 ≡ (k, b) ∷ rest taken.1 → out ≡ (taken.0, (k, without_content b) ∷ rest taken.1) → IsPass out.0 out.1 strand spares flags past
is_pass_taken {flags} {past} v slots strand spares k cpu taken out pass took b slot left =
    let b_is : b ≡ took.behind = same_behind taken.1 k b took.behind (rest taken.1) slots slot (ap (λ (z : Seated). z.1) took.after_is) in
    let out_is : out ≡ (holding took.at took.hold v, (k, without_content took.behind) ∷ slots) = left ∙ (λ i. ((took.after_is i).0, (k, without_content (b_is i)) ∷ rest (took.after_is i).1)) in
    subst (λ (z : Seated). IsPass z.0 z.1 strand spares flags past) (sym out_is) record {
      carries = (sym took.lock, refl, subst (λ (n : ℕ). KeptAs (lock_named v.shape n) took.hold.lost took.hold.log took.behind) (sym took.lock) took.reads.kept, pass.carries);
      strand_is = pass.strand_is;
      log_is = pass.log_is;
      cpus_are = pass.cpus_are;
      ended_are = pass.ended_are;
      logs_are = pass.logs_are;
      spares_fit = pass.spares_fit;
      within = pass.within;
      ended_within = pass.ended_within;
      hands_real = pass.hands_real;
      unread = pass.unread;
    }

-- what a caller with a pass knows then
pub takes_of : (t : TableView) (lock : DomainId) (before after : PassView) (here : Content) (k cpu : ℕ) (old taken out : Seated) (b : Behind) → IsTrue (is_lock t.shape lock) → HasBegun before → ((c : ℕ) → is_among c old.0.cpus ≡ true → c < old.0.shape.cpus) → HandsReal old.0.shape old.0.cpus old.0.hand → before.view.shape ≡ t.shape → k ≡ lock_number t.shape lock → cpu ≡ before.cpu → old.0 ≡ before.view
    → Took k cpu old taken → taken.1 ≡ (k, b) ∷ rest taken.1 → Some here ≡ b.content → out ≡ (taken.0, (k, without_content b) ∷ rest taken.1) → after ≡ with_view before out.0 → TookLock t lock before after here
takes_of t lock before after here k cpu old taken out b is begun mine real before_shape k_is cpu_is old_is took slot content_is left after_is =
    let b_is : b ≡ took.behind = same_behind taken.1 k b took.behind (rest taken.1) old.1 slot (ap (λ (z : Seated). z.1) took.after_is) in
    let shape_is : old.0.shape ≡ t.shape = ap (λ (v : View). v.shape) old_is ∙ before_shape in
    let named : lock_named t.shape k ≡ lock = ap (lock_named t.shape) k_is ∙ named_by_number t.shape lock is in
    let here_is : took.reads.here ≡ here = some_is (sym took.reads.content_is ∙ (ap (λ (x : Behind). x.content) (sym b_is) ∙ sym content_is)) in
    let content_then : content old.0.shape (lock_named old.0.shape k) took.hold.log ≡ content t.shape lock took.hold.log = ap (λ (z : Shape). content z (lock_named z k) took.hold.log) shape_is ∙ ap (λ (d : DomainId). content t.shape d took.hold.log) named in
    let told_as : content_told (lock_named old.0.shape k) took.reads.here ≡ content_told lock here = (λ i. content_told (lock_named (shape_is i) k) (here_is i)) ∙ ap (λ (d : DomainId). content_told d here) named in
    let told_then : content_told lock here ≡ content t.shape lock took.hold.log = sym told_as ∙ (took.reads.told_is ∙ content_then) in
    let view_is : after.view ≡ taken.0 = ap (λ (z : PassView). z.view) after_is ∙ ap (λ (z : Seated). z.0) left in
    record {
      hold = took.hold;
      lock_is = took.lock ∙ k_is;
      cpu_is = took.cpu_is ∙ cpu_is;
      within = subst (λ (z : Shape). before.cpu < z.cpus) shape_is (mine before.cpu (ap (λ (v : View). is_among before.cpu v.cpus) old_is ∙ begun));
      at = took.at;
      after_is = after_is ∙ (ap (λ (z : Seated). with_view before z.0) left ∙ (ap (λ (z : Seated). with_view before z.0) took.after_is ∙ ap (λ (v : View). with_view before (holding took.at took.hold v)) old_is));
      told_is = told_then;
      fits = subst (λ (z : Content). FitsLock t.shape lock z) here_is (subst (λ (d : DomainId). FitsLock t.shape d took.reads.here) named (subst (λ (z : Shape). FitsLock z (lock_named z k) took.reads.here) shape_is took.reads.fits));
      now = took.now ∙ ap lists_of (content_then ∙ sym told_then);
      elements = subst (λ (z : Shape). AreElements z took.hold.now) shape_is took.elements;
      apart = subst (λ (v : View). IsApartFromHands v lock took.hold.now) old_is (subst (λ (d : DomainId). IsApartFromHands old.0 d took.hold.now) named (subst (λ (z : Shape). IsApartFromHands old.0 (lock_named z k) took.hold.now) shape_is took.apart));
      legal = subst (λ (d : DomainId). IsLegal t.shape d took.hold.log) named (subst (λ (z : Shape). IsLegal z (lock_named z k) took.hold.log) shape_is took.legal);
      known = λ log found. took.known log ((λ i. known_log (k_is i) ((old_is i).known)) ∙ found);
      outside = subst (λ (z : ℕ × View). AreOutside z.0 took.hold.log z.1.steps) (λ i. (sym took.lock i, old_is i)) took.outside;
      at_home = λ e c read within found read_is. took.at_home e c lock read (subst (λ (z : Shape). c < z.cpus) (sym shape_is) within) (ap (λ (v : View). home_known e c v.readings) (sym view_is) ∙ found) read_is (ap (λ (z : Shape). lock_number z lock) shape_is ∙ sym k_is);
      moved_on = λ e c d read within lock_is found read_is none.
          subst (λ (l : DomainId). flushed_since t.shape l read.turns e took.hold.log ≡ true) named (subst (λ (z : Shape). flushed_since z (lock_named z k) read.turns e took.hold.log ≡ true) shape_is
          (took.moved_on e c d read (subst (λ (z : Shape). c < z.cpus) (sym shape_is) within) (ap (λ (z : Shape). lock_named z k) shape_is ∙ (named ∙ lock_is)) (ap (λ (v : View). home_known e c v.readings) old_is ∙ found) read_is none));
      alone = λ lru no_bucket j e other found nor_other inside.
          took.alone (ap (λ (z : Shape). is_lru z.kind) shape_is ∙ lru) (ap is_bucket (ap (λ (z : Shape). lock_named z k) shape_is ∙ named) ∙ no_bucket) j e other
          (ap (λ (v : View). hold_at j v.held) old_is ∙ found) (ap (λ (z : Shape). is_bucket (lock_named z j)) shape_is ∙ nor_other) inside;
      lives = λ lru own e c mine in_hand at.
          let held : is_in_hand_of e c old.0.hand ≡ true = ap (λ (v : View). is_in_hand_of e c v.hand) old_is ∙ in_hand in
          took.lives (ap (λ (z : Shape). is_lru z.kind) shape_is ∙ lru) (ap (λ (z : Shape). z.common) shape_is ∙ own) e c (real e c held).0 (ap (λ (v : View). is_among c v.cpus) old_is ∙ mine) held
          (ap (λ (z : Shape). lock_number z (CpuLru (set_of z e))) shape_is ∙ (ap (lock_number t.shape) (sym at) ∙ sym k_is));
    }

-- what a pass carries for the lock that it took last
pub carried_head : (shape : Shape) (held : List Hold) (slots : List (ℕ × Behind)) (hold : Hold) (below : List Hold) (k : ℕ) → held ≡ hold ∷ below → hold.lock ≡ k → Carries shape held slots
    → (b : Behind) × (slots ≡ (k, b) ∷ rest slots) × (b.content ≡ None) × KeptAs (lock_named shape hold.lock) hold.lost hold.log b × Carries shape below (rest slots)
carried_head shape held slots hold below k held_is lock carries = go slots (subst (λ l. Carries shape l slots) held_is carries)
  where
    go : (slots : List (ℕ × Behind)) → Carries shape (hold ∷ below) slots → (b : Behind) × (slots ≡ (k, b) ∷ rest slots) × (b.content ≡ None) × KeptAs (lock_named shape hold.lock) hold.lost hold.log b × Carries shape below (rest slots)
    go [] carries = absurd carries
    go (slot ∷ slots) carries = (slot.1, ap (λ (j : ℕ). (j, slot.1) ∷ slots) (carries.0 ∙ lock), carries.1, carries.2, carries.3)

-- and for those below it
carries_below : (shape : Shape) (held : List Hold) (slots : List (ℕ × Behind)) → Carries shape held slots → Carries shape (holds_below held) (rest slots)
carries_below shape [] [] carries = tt
carries_below shape [] (slot ∷ slots) carries = absurd carries
carries_below shape (hold ∷ holds) [] carries = absurd carries
carries_below shape (hold ∷ holds) (slot ∷ slots) carries = carries.3

-- the slot of the lock that is given back
pub slot_given : (t : TableView) (lock : DomainId) (p : PassView) (here : Content) (part : Part) (can : CanGive t lock p here part) (v : View) (slots : List (ℕ × Behind)) (k : ℕ) → v ≡ p.view → k ≡ lock_number t.shape lock → Carries v.shape v.held slots
    → (b : Behind) × (slots ≡ (k, b) ∷ rest slots) × (b.content ≡ None) × KeptAs (lock_named v.shape can.hold.lock) can.hold.lost can.hold.log b × Carries v.shape can.below (rest slots)
slot_given t lock p here part can v slots k v_is k_is carries =
    carried_head v.shape v.held slots can.hold can.below k (ap (λ (z : View). z.held) v_is ∙ can.innermost) (can.lock_is ∙ sym k_is) carries

-- its record is that of the hold
pub kept_given : (t : TableView) (lock : DomainId) (p : PassView) (here : Content) (part : Part) (can : CanGive t lock p here part) (v : View) (slots : List (ℕ × Behind)) (k : ℕ) (found : Behind) (below : List (ℕ × Behind))
    → v ≡ p.view → k ≡ lock_number t.shape lock → Carries v.shape v.held slots → slots ≡ (k, found) ∷ below → KeptAs lock can.hold.lost can.hold.log found
kept_given t lock p here part can v slots k found below v_is k_is carries read =
    let slot = slot_given t lock p here part can v slots k v_is k_is carries in
    let shape_is : v.shape ≡ t.shape = ap (λ (z : View). z.shape) v_is ∙ can.of_table.1 in
    let named : lock_named v.shape can.hold.lock ≡ lock = (λ i. lock_named (shape_is i) (can.lock_is i)) ∙ named_by_number t.shape lock can.there in
    subst (λ (z : DomainId × Behind). KeptAs z.0 can.hold.lost can.hold.log z.1) (λ i. (named i, same_behind slots k slot.0 found (rest slots) below slot.1 read i)) slot.3

-- what is put back, at the seat
may_put_at : (shape key : Shape) (v w : View) (hold : Hold) (entry e : Entry) (here : Content) → key ≡ shape → w ≡ v → e ≡ entry → MayPut shape v hold entry.cpu entry.part here → MayPut key w hold e.cpu e.part here
may_put_at shape key v w hold entry e here key_is w_is e_is may =
    subst (λ (z : Shape × View × Entry). MayPut z.0 z.1 hold z.2.cpu z.2.part here) (λ i. (sym key_is i, sym w_is i, sym e_is i)) may

-- the lock may be given back with what was recorded
pub may_give : (t : TableView) (lock : DomainId) (p : PassView) (here : Content) (ticket : ℕ) (part : Part) (can : CanGive t lock p here part) (key : Shape) (v : View) (history : Option SlotTurns) (log : List LoggedTurn) (entry e : Entry) (strand now : List StrandStep) (recorded : Recorded)
    → key ≡ t.shape → v ≡ p.view → entry ≡ entry_of p ticket part → e ≡ numbered_entry v entry → IsTaken v.ticket → strand ≡ p.view.kept → IsHeldHistory lock can.hold history → MatchOption history (Unit {0}) (λ _. v.ticket ≡ Drawn entry.ticket)
    → Records history log lock entry strand now recorded
    → MayGive key v can.hold e now record { content = Some here; history = recorded.history }
may_give t lock p here ticket part can key v history log entry e strand now recorded key_is v_is entry_is e_is taken strand_is kept drawn records =
    let hold : Hold = can.hold in
    let named : lock_named key hold.lock ≡ lock = (λ i. lock_named (key_is i) (can.lock_is i)) ∙ named_by_number t.shape lock can.there in
    let strand_kept : strand ≡ v.kept = strand_is ∙ sym (ap (λ (z : View). z.kept) v_is) in
    record {
      here = here;
      content_is = refl;
      may_put = may_put_at t.shape key p.view v hold (numbered_entry v (entry_of p ticket part)) e here key_is v_is (e_is ∙ ap (numbered_entry v) entry_is) can.may_put;
      taken = taken;
      numbered = ap (λ (z : Entry). z.ticket) e_is;
      ticketed = only_if recorded.history (v.ticket ≡ Drawn entry.ticket) (v.ticket ≡ Drawn e.ticket) (λ is. is ∙ ap Drawn (sym (ap (λ (z : Entry). z.ticket) e_is ∙ ap (λ (x : Ticket). number_by x (next v)) is)))
          (its_ticket history log lock entry strand now recorded (v.ticket ≡ Drawn entry.ticket) drawn records);
      records = subst (λ (z : List StrandStep × DomainId × Entry). MatchOption recorded.history (now ≡ z.0) (λ turns. (hold.lost ≡ false) × HasTurns z.1 (hold.log ++ z.2 ∷ []) turns × (now ≡ z.0 ++ recorded_step z.1 (length hold.log) ∷ [])))
          (λ i. (strand_kept i, sym named i, sym e_is i))
          (renumbered recorded.history v entry (now ≡ strand) (λ turns (z : Entry). (hold.lost ≡ false) × HasTurns lock (hold.log ++ z ∷ []) turns × (now ≡ strand ++ recorded_step lock (length hold.log) ∷ []))
          (its_ticket history log lock entry strand now recorded (v.ticket ≡ Drawn entry.ticket) drawn records) (one_more history log lock entry strand now recorded hold kept records));
      inside = subst (λ (z : Shape × Part × List Hold). IsInside z.0 z.1 z.2)
          (λ i. (sym key_is i, ap (λ (y : Entry). y.part) (sym (e_is ∙ ap (numbered_entry v) entry_is)) i, sym (ap (λ (z : View). holds_below z.held) v_is ∙ ap holds_below can.innermost) i)) can.inside;
      noted = subst (λ (z : Shape × View × Part × List Notes). InnermostFits z.0 z.1 hold z.2 z.3)
          (λ i. (sym key_is i, sym v_is i, ap (λ (y : Entry). y.part) (sym (e_is ∙ ap (numbered_entry v) entry_is)) i, sym (ap (λ (z : View). z.notes) v_is ∙ can.notes_are) i)) can.notes_fit;
      owners_fit = λ lru. subst (λ (z : (Shape × View) × (Entry × List Notes)). InnermostOwnersFit z.0.0 z.0.1 hold z.1.0.cpu z.1.0.part z.1.1)
          (λ i. ((sym key_is i, sym v_is i), (sym (e_is ∙ ap (numbered_entry v) entry_is) i, sym (ap (λ (z : View). z.notes) v_is ∙ can.notes_are) i))) (can.owners_fit (subst (λ (z : Shape). IsTrue (is_lru z.kind)) key_is lru));
    }

-- and with nothing recorded
pub may_lose : (t : TableView) (lock : DomainId) (p : PassView) (here : Content) (part : Part) (can : CanGive t lock p here part) (key : Shape) (v : View) → key ≡ t.shape → v ≡ p.view
    → IsTaken v.ticket → MayGive key v can.hold (entry_of p (ticket_of v) part) v.kept record { content = Some here; history = None }
may_lose t lock p here part can key v key_is v_is taken = record {
  here = here;
  content_is = refl;
  may_put = may_put_at t.shape key p.view v can.hold (entry_of p 0 part) (entry_of p 0 part) here key_is v_is refl can.may_put;
  taken = taken;
  numbered = refl;
  ticketed = tt;
  records = refl;
  inside = subst (λ (z : Shape × List Hold). IsInside z.0 part z.1) (λ i. (sym key_is i, sym (ap (λ (z : View). holds_below z.held) v_is ∙ ap holds_below can.innermost) i)) can.inside;
  noted = subst (λ (z : Shape × View × List Notes). InnermostFits z.0 z.1 can.hold part z.2) (λ i. (sym key_is i, sym v_is i, sym (ap (λ (z : View). z.notes) v_is ∙ can.notes_are) i)) can.notes_fit;
  owners_fit = λ lru. subst (λ (z : Shape × View × List Notes). InnermostOwnersFit z.0 z.1 can.hold p.cpu part z.2) (λ i. (sym key_is i, sym v_is i, sym (ap (λ (z : View). z.notes) v_is ∙ can.notes_are) i)) (can.owners_fit (subst (λ (z : Shape). IsTrue (is_lru z.kind)) key_is lru));
}

-- the log with what was recorded
pub log_at_give : (t : TableView) (lock : DomainId) (p : PassView) (here : Content) (part : Part) (can : CanGive t lock p here part) (v ready : View) (x : Ticket) (n : ℕ) (xs : List WordStep) (history : Option SlotTurns) (log : List LoggedTurn) (entry e : Entry) (strand now : List StrandStep) (recorded : Recorded)
    → v ≡ p.view → ready ≡ ticketed x n xs v → e ≡ numbered_entry ready entry → strand ≡ v.kept → IsLogOf v.shape v.steps v.kept log → IsHeldHistory lock can.hold history → MatchOption history (Unit {0}) (λ _. ready.ticket ≡ Drawn entry.ticket) → Records history log lock entry strand now recorded
    → (hold : Hold) (below : List Hold) → IsInnermost ready hold below → IsLogOf v.shape (v.steps ++ turned hold.lock hold.log e (ticketed x n xs v) ∷ []) now recorded.log
log_at_give t lock p here part can v ready x n xs history log entry e strand now recorded v_is ready_is e_is strand_is log_is kept drawn records hold below inner =
    let same : hold ≡ can.hold = head_is (sym inner ∙ (ap (λ (z : View). z.held) ready_is ∙ (ap (λ (z : View). z.held) v_is ∙ can.innermost))) in
    let shape_is : v.shape ≡ t.shape = ap (λ (z : View). z.shape) v_is ∙ can.of_table.1 in
    let named : lock_named v.shape can.hold.lock ≡ lock = (λ i. lock_named (shape_is i) (can.lock_is i)) ∙ named_by_number t.shape lock can.there in
    subst (λ (h : Hold). IsLogOf v.shape (v.steps ++ turned h.lock h.log e (ticketed x n xs v) ∷ []) now recorded.log) (sym same)
    (log_given history v.shape v.steps (turned can.hold.lock can.hold.log e (ticketed x n xs v)) log lock entry strand now recorded can.hold named refl
    (λ none. e_is ∙ number_recorded history log lock ready entry strand now recorded drawn records none) (subst (λ (l : List StrandStep). IsLogOf v.shape v.steps l log) (sym strand_is) log_is) kept records)
  where
    head_is : {A : Type 0} {x y : A} {xs ys : List A} → x ∷ xs ≡ y ∷ ys → x ≡ y
    head_is e = cc

-- a pass once its lock is given back
is_pass_back : {flags : List Bool} {past : TurnsMade} (v : View) (x : Ticket) (n : ℕ) (xs : List WordStep) (slots : List (ℕ × Behind)) (strand now : List StrandStep) (log : Vec LoggedTurn Global) (spares : List (Option Stored)) (at : ℕ) (hold : Hold) (entry : Entry) (kept : List StrandStep) (lost : List ℕ) (after : Seated) → IsPass v slots strand spares flags past
    → IsLogOf v.shape (v.steps ++ turned hold.lock hold.log entry (ticketed x n xs v) ∷ []) kept log.items
    → after ≡ (with_lost lost (given at hold entry kept (ticketed x n xs v)), rest slots) → now ≡ kept → IsPass after.0 after.1 now spares flags (record past { log = log })
is_pass_back {flags} {past} v x n xs slots strand now log spares at hold entry kept lost after pass log_is after_is now_is =
    subst (λ (z : Seated). IsPass z.0 z.1 now spares flags (record past { log = log })) (sym after_is) record {
      carries = carries_below v.shape v.held slots pass.carries;
      strand_is = now_is;
      log_is = log_is;
      cpus_are = pass.cpus_are;
      ended_are = pass.ended_are;
      logs_are = pass.logs_are;
      spares_fit = pass.spares_fit;
      within = pass.within;
      ended_within = pass.ended_within;
      hands_real = pass.hands_real;
      unread = refl;
    }

pub is_pass_given : {flags : List Bool} {past : TurnsMade} (v : View) (x : Ticket) (n : ℕ) (xs : List WordStep) (slots : List (ℕ × Behind)) (strand now : List StrandStep) (log : Vec LoggedTurn Global) (spares : List (Option Stored)) (entry : Entry) (kept : List StrandStep) (put after : Seated) → IsPass v slots strand spares flags past
    → ((hold : Hold) (below : List Hold) → IsInnermost put.0 hold below → IsLogOf v.shape (v.steps ++ turned hold.lock hold.log entry (ticketed x n xs v) ∷ []) kept log.items)
    → put.0 ≡ ticketed x n xs v → rest put.1 ≡ rest slots → GivesBack entry kept put after → now ≡ kept → IsPass after.0 after.1 now spares flags (record past { log = log })
is_pass_given v x n xs slots strand now log spares entry kept put after pass log_is put_is below_is gives now_is =
    let after_is : after ≡ (given gives.at gives.hold entry kept (ticketed x n xs v), rest slots) = gives.after_is ∙ (λ i. (given gives.at gives.hold entry kept (put_is i), below_is i)) in
    is_pass_back v x n xs slots strand now log spares gives.at gives.hold entry kept v.lost after pass (log_is gives.hold gives.below gives.innermost) after_is now_is

-- and the same without a part
pub is_pass_lost : {flags : List Bool} {past : TurnsMade} (v : View) (x : Ticket) (n : ℕ) (xs : List WordStep) (slots : List (ℕ × Behind)) (strand : List StrandStep) (spares : List (Option Stored)) (cpu call : ℕ) (put after : Seated) → IsPass v slots strand spares flags past
    → put.0 ≡ ticketed x n xs v → rest put.1 ≡ rest slots → GivesSome cpu call put after → IsPass after.0 after.1 strand spares flags past
is_pass_lost {flags} {past} v x n xs slots strand spares cpu call put after pass put_is below_is gives =
    let entry : Entry = entry_by (ticket_of (ticketed x n xs v)) cpu call gives.part in
    let after_is : after ≡ (losing gives.at gives.hold entry (ticketed x n xs v), rest slots) = gives.after_is ∙ (λ i. (losing gives.at gives.hold (entry_by (ticket_of (put_is i)) cpu call gives.part) (put_is i), below_is i)) in
    is_pass_back {flags = flags} {past = past} v x n xs slots strand strand past.log spares gives.at gives.hold entry v.kept (gives.hold.lock ∷ v.lost) after pass (log_more v.shape v.steps (turned gives.hold.lock gives.hold.log entry (ticketed x n xs v) ∷ []) v.kept past.log.items pass.log_is) after_is pass.strand_is

pub gave_of : (before after : PassView) (ticket : ℕ) (part : Part) (drawn : Option ℕ) (ready : View) (is : IsTicketed (before.view, []) drawn (ready, [])) (entry : Entry) (kept : List StrandStep) (put given_seat : Seated) → TakesTicket (before.view, []) drawn (ready, []) → put.0 ≡ ready → entry ≡ numbered_entry ready (entry_of before ticket part) → GivesBack entry kept put given_seat
    → before.view.ticket ≡ Unread → after ≡ with_view before given_seat.0 → Gave before after part
gave_of before after ticket part drawn ready is entry kept put given_seat takes put_is entry_is gives unread after_is = record {
  hold = gives.hold;
  below = gives.below;
  innermost = sym (ap (λ (z : Seated). z.0.held) is.after_is) ∙ (ap (λ (z : View). z.held) (sym put_is) ∙ gives.innermost);
  kept = kept;
  kept_is = subst (λ (z : View). IsKeptOrLost z gives.hold kept) (ap (λ (z : Seated). z.0) is.after_is) (subst (λ (z : View). IsKeptOrLost z gives.hold kept) put_is gives.kept_is);
  took = record { drawn = drawn; ticket = is.ticket; reached = is.reached; touched = is.touched; takes = subst (TakesTicket (before.view, []) drawn) is.after_is takes };
  ticket = ticket_of (ticketed is.ticket is.reached is.touched before.view);
  numbered = let view_is = ap (λ (z : PassView). z.view) after_is ∙ ap (λ (z : Seated). z.0) gives.after_is in
      numbered_by before.view drawn is.ticket is.reached is.touched (subst (TakesTicket (before.view, []) drawn) is.after_is takes) unread after.view
      (ap (λ (z : View). z.reached) view_is ∙ ap (λ (z : View). reached_by z.ticket z.reached) (put_is ∙ ap (λ (z : Seated). z.0) is.after_is))
      (ap (λ (z : View). z.refused) view_is ∙ ap (λ (z : View). refused_by z.ticket z.refused) (put_is ∙ ap (λ (z : Seated). z.0) is.after_is));
  ticket_is = ⊎_elim
      (λ (stays : kept ≡ put.0.kept). inl (stays ∙ (ap (λ (z : View). z.kept) put_is ∙ ap (λ (z : Seated). z.0.kept) is.after_is)))
      (λ (has : put.0.ticket ≡ Drawn entry.ticket). inr (is.drawn_by (ticket_of (ticketed is.ticket is.reached is.touched before.view)) (ap (λ (z : View). z.ticket) (sym put_is) ∙ (has ∙ (ap (λ (z : Entry). Drawn z.ticket) entry_is ∙ ap (λ (z : Seated). Drawn (ticket_of z.0)) is.after_is)))))
      gives.ticket_is;
  at = gives.at;
  after_is = after_is ∙ (ap (λ (z : Seated). with_view before z.0) gives.after_is ∙ (λ i. with_view before (given gives.at gives.hold ((entry_is ∙ ap (λ (z : Seated). numbered_entry z.0 (entry_of before ticket part)) is.after_is) i) kept ((put_is ∙ ap (λ (z : Seated). z.0) is.after_is) i))));
}

-- a lock was given back with nothing recorded, by a part that could be given
pub gave_some_of : (t : TableView) (lock : DomainId) (before after : PassView) (here : Content) (part : Part) (can : CanGive t lock before here part) (drawn : Option ℕ) (ready : View) (is : IsTicketed (before.view, []) drawn (ready, [])) (put given_seat : Seated) (behind : Behind) (k : ℕ) → TakesTicket (before.view, []) drawn (ready, []) → put.0 ≡ ready → put.1 ≡ (k, behind) ∷ rest put.1 → behind.content ≡ Some here
    → GivesSome before.cpu before.call put given_seat → before.view.ticket ≡ Unread → after ≡ with_view before given_seat.0 → GaveSome t lock before after here
gave_some_of t lock before after here part can drawn ready is put given_seat behind k takes put_is_ready slot content_is some unread after_is =
    let ready_is : ready ≡ ticketed is.ticket is.reached is.touched before.view = ap (λ (z : Seated). z.0) is.after_is in
    let put_is : put.0 ≡ ticketed is.ticket is.reached is.touched before.view = put_is_ready ∙ ready_is in
    let shape_is : put.0.shape ≡ t.shape = ap (λ (z : View). z.shape) put_is ∙ can.of_table.1 in
    let same_hold : some.hold ≡ can.hold = same_head (sym some.innermost ∙ (ap (λ (z : View). z.held) put_is ∙ can.innermost)) in
    let same_slot : some.behind ≡ behind = ap (λ (z : ℕ × Behind). z.1) (same_head (sym some.slot ∙ slot)) in
    let same_here : some.may.here ≡ here = some_is (sym some.may.content_is ∙ (ap (λ (z : Behind). z.content) same_slot ∙ content_is)) in
    let may : MayPut t.shape (ticketed is.ticket is.reached is.touched before.view) some.hold before.cpu some.part here =
    subst (λ (z : Shape × View × Content). MayPut z.0 z.1 some.hold before.cpu some.part z.2) (λ i. (shape_is i, put_is i, same_here i)) some.may.may_put in record {
      part = some.part;
      can = record {
        of_table = can.of_table;
        begun = can.begun;
        hold = some.hold;
        below = some.below;
        innermost = ap (λ (z : View). z.held) (sym put_is) ∙ some.innermost;
        notes = some.notes;
        notes_below = some.notes_below;
        notes_are = ap (λ (z : View). z.notes) (sym put_is) ∙ some.notes_are;
        there = can.there;
        lock_is = ap (λ (z : Hold). z.lock) same_hold ∙ can.lock_is;
        may_put = put_unticketed t.shape before.view is.ticket is.reached is.touched some.hold before.cpu some.part here may;
        inside = subst (λ (z : Shape × List Hold). IsInside z.0 some.part z.1) (λ i. (shape_is i, ap holds_below some.innermost i)) some.may.inside;
        notes_fit = notes_unticketed t.shape before.view is.ticket is.reached is.touched some.hold some.part some.notes (subst (λ (z : Shape × View). NotesFit z.0 z.1 some.hold some.part some.notes) (λ i. (shape_is i, put_is i)) some.notes_fit);
        owners_fit = λ lru. owners_unticketed t.shape before.view is.ticket is.reached is.touched some.hold before.cpu some.part some.notes
            (subst (λ (z : Shape × View × List Notes). InnermostOwnersFit z.0 z.1 some.hold before.cpu some.part z.2) (λ i. (shape_is i, put_is i, some.notes_are i)) (some.may.owners_fit (subst (λ (z : Shape). IsTrue (is_lru z.kind)) (sym shape_is) lru)));
      };
      took = record { drawn = drawn; ticket = is.ticket; reached = is.reached; touched = is.touched; takes = subst (TakesTicket (before.view, []) drawn) is.after_is takes };
      numbered = let view_is = ap (λ (z : PassView). z.view) after_is ∙ ap (λ (z : Seated). z.0) some.after_is in
          numbered_by before.view drawn is.ticket is.reached is.touched (subst (TakesTicket (before.view, []) drawn) is.after_is takes) unread after.view
          (ap (λ (z : View). z.reached) view_is ∙ ap (λ (z : View). reached_by z.ticket z.reached) put_is)
          (ap (λ (z : View). z.refused) view_is ∙ ap (λ (z : View). refused_by z.ticket z.refused) put_is);
      at = some.at;
      after_is = after_is ∙ (ap (λ (z : Seated). with_view before z.0) some.after_is ∙ ap (λ (z : View). with_view before (losing some.at some.hold (entry_of before (ticket_of z) some.part) z)) put_is);
    }
  where
    same_head : {A : Type 0} {x y : A} {xs ys : List A} → x ∷ xs ≡ y ∷ ys → x ≡ y
    same_head e = cc

-- a pass that has made a note, and a look at a home
pub is_pass_read : {flags : List Bool} {past : TurnsMade} (v : View) (slots : List (ℕ × Behind)) (strand : List StrandStep) (spares : List (Option Stored)) (homes_read : List HomeRead) (notes : List Notes) (bits : List BitSeen) (touched : List WordStep) (readings : List HomeIn) (after : Seated) → IsPass v slots strand spares flags past → after ≡ (with_homes_read homes_read (noted notes bits touched readings v), slots) → IsPass after.0 after.1 strand spares flags past
is_pass_read {flags} {past} v slots strand spares homes_read notes bits touched readings after pass after_is =
    subst (λ (z : Seated). IsPass z.0 z.1 strand spares flags past) (sym after_is) record { carries = pass.carries; strand_is = pass.strand_is; log_is = pass.log_is; cpus_are = pass.cpus_are; ended_are = pass.ended_are; logs_are = pass.logs_are; spares_fit = pass.spares_fit; within = pass.within; ended_within = pass.ended_within; hands_real = pass.hands_real; unread = pass.unread }

-- a pass that has made a note
pub is_pass_noted : {flags : List Bool} {past : TurnsMade} (v : View) (slots : List (ℕ × Behind)) (strand : List StrandStep) (spares : List (Option Stored)) (notes : List Notes) (bits : List BitSeen) (touched : List WordStep) (readings : List HomeIn) (after : Seated) → IsPass v slots strand spares flags past → after ≡ (noted notes bits touched readings v, slots) → IsPass after.0 after.1 strand spares flags past
is_pass_noted {flags} {past} v slots strand spares notes bits touched readings after pass after_is = is_pass_read {flags = flags} {past = past} v slots strand spares v.homes_read notes bits touched readings after pass after_is

-- the owner that was read has a code
pub read_has_code : (t : TableView) (e : ℕ) (before : PassView) (old new : Seated) (found : ℕ) → IsShape t.shape → IsPassOf t before → old.0 ≡ before.view → (sees : SeesOwner e old found new) → HasOwnerCode sees.owner
read_has_code t e before old new found is of_table old_is sees =
    has_owner_code t.shape sees.owner is (subst (λ (shape : Shape). MayOwn shape sees.owner) (ap (λ (v : View). v.shape) old_is ∙ of_table.1) sees.exists_there)

-- and what the code stands for is that owner
pub saw_owner : (t : TableView) (e : ℕ) (before after : PassView) (old new : Seated) (found : ℕ) (owner : Owner) → IsShape t.shape → IsPassOf t before → old.0 ≡ before.view → SeesOwner e old found new → HasOwnerCode owner → owner_code owner ≡ found
    → after ≡ with_view before new.0 → SawOwner t e before after owner
saw_owner t e before after old new found owner is of_table old_is sees has code after_is =
    let shape_is : old.0.shape ≡ t.shape = ap (λ (v : View). v.shape) old_is ∙ of_table.1 in
    let same : sees.owner ≡ owner = one_owner sees.owner owner (read_has_code t e before old new found is of_table old_is sees) has (sym sees.found_is ∙ sym code) in
    record {
      exists_there = subst (λ (z : Shape × Owner). MayOwn z.0 z.1) (λ i. (shape_is i, same i)) sees.exists_there;
      fits = subst (λ (z : Shape × View × Owner). OwnerFits z.0 z.1 e z.2) (λ i. (shape_is i, old_is i, same i)) sees.fits;
      at = sees.at;
      after_is = after_is ∙ (ap (λ (z : Seated). with_view before z.0) sees.after_is ∙ (λ i. with_view before (owner_read sees.at e (same i) (old_is i))));
    }

-- and so for a home
pub saw_home : (t : TableView) (e : ℕ) (before after : PassView) (old new : Seated) (found : ℕ) (home : Home) → IsPassOf t before → old.0 ≡ before.view → SeesHome e old found new → HasHomeCode home → home_code home ≡ found
    → after ≡ with_view before new.0 → SawHome t e before after home
saw_home t e before after old new found home of_table old_is sees has code after_is =
    let shape_is : old.0.shape ≡ t.shape = ap (λ (v : View). v.shape) old_is ∙ of_table.1 in
    let same : sees.home ≡ home = one_home sees.home home sees.has_code has (sym sees.found_is ∙ sym code) in
    record {
      has_code = has;
      fits = subst (λ (z : Shape × View × Home). HomeFits z.0 z.1 e z.2) (λ i. (shape_is i, old_is i, same i)) sees.fits;
      at = sees.at;
      turns = sees.turns;
      after_is = after_is ∙ (ap (λ (z : Seated). with_view before z.0) sees.after_is ∙ (λ i. with_view before (home_read sees.at sees.turns e (same i) (old_is i))));
    }

-- the CPU of a pass is one of the sixteen at most that a map has
pub cpu_is_few : (t : TableView) (p : PassView) (cpu : ℕ) (v : View) → IsShape t.shape → IsPassOf t p → HasBegun p → cpu ≡ p.cpu → v ≡ p.view → ((c : ℕ) → is_among c v.cpus ≡ true → c < v.shape.cpus) → cpu < 16
cpu_is_few t p cpu v is of_table begun cpu_is v_is within =
    let bounds = bounds_of_shape t.shape is in
    let has : is_among cpu v.cpus ≡ true = (λ i. is_among (cpu_is i) ((v_is i).cpus)) ∙ begun in
    let shape_is : v.shape ≡ t.shape = ap (λ (w : View). w.shape) v_is ∙ of_table.1 in
    let below : cpu < t.shape.cpus = subst (λ (s : Shape). cpu < s.cpus) shape_is (within cpu has) in
    omega arith

-- a pass with another spare for one CPU, or with none
pub is_pass_spared : {flags : List Bool} {past : TurnsMade} (v : View) (slots : List (ℕ × Behind)) (strand : List StrandStep) (cpu : ℕ) (spares now : List (Option Stored)) (found : Option Stored) → IsPass v slots strand spares flags past → spare_of cpu now ≡ found → IfSome found (IsSized v.shape) → SparesDiffer cpu spares now → IsPass v slots strand now flags past
is_pass_spared v slots strand cpu spares now found pass here sized others = record {
  carries = pass.carries;
  strand_is = pass.strand_is;
  log_is = pass.log_is;
  cpus_are = pass.cpus_are;
  ended_are = pass.ended_are;
  logs_are = pass.logs_are;
  spares_fit = λ c body kept. by_test c cpu (λ _. IsSized v.shape body)
      (λ same. subst (λ (o : Option Stored). IfSome o (IsSized v.shape)) (sym here ∙ (ap (λ (z : ℕ). spare_of z now) (sym same) ∙ kept)) sized)
      (λ other. pass.spares_fit c body (sym (others c other) ∙ kept));
  within = pass.within;
  ended_within = pass.ended_within;
  hands_real = pass.hands_real;
  unread = pass.unread;
}
