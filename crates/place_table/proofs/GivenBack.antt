-- The step by which a lock is given back, with its slot and a turn.
use Rattle.std.proofs.Common.{◌≡◌, ◌≢◌, ℕ, ◌+◌, ◌<◌, ◌≤◌, ◌⊎◌, inl, inr, ⊎_elim, eqb, cond, Bool, true, false, List, [], ◌∷◌, ◌++◌, length, get_or, set, sym, refl, ap, ◌∙◌, subst, arith, Option, Some, None, length-append, length-set, get_or-set_other, get_or-set_same}
use Rattle.std.specs.Prelude.{◌&&◌, IsTrue, IsFalse, MatchOption, option_map}
use mathlib.Core.Option.{some}
use lib.ListN.{get_elem?}
use Rattle.atomic_table.specs.Table.{State, Allows, gives, stepped, rest, step, put_back}
use Rattle.atomic_table.proofs.Lists.{at_set, set_here, set_else}
use Rattle.map_types.specs.declared.attr.Shape.{Shape}
use Rattle.map_types.specs.declared.kind.DomainId.{DomainId}
use Rattle.map_types.specs.declared.kind.DomainId.TheVariants.{Local, Global, CpuLru, Bucket, Freelist}
use Rattle.map_types.proofs.CreationLemmas.{bounds_of_shape}
use Rattle.place_words.specs.declared.history.Entry.{Entry}
use Rattle.place_words.specs.declared.home.Home.TheVariants as homes
use Rattle.place_words.specs.declared.history.Part.{Part}
use Rattle.place_words.specs.declared.history.StrandStep.{StrandStep}
use Rattle.map_types.specs.ElementLists.{put, times, IsIn}
use Rattle.key_hash.specs.Bucket.{bucket_number}
use Rattle.place_words.specs.Histories as histories
use Rattle.place_words.specs.Histories.{content, content_after, IsLegal}
use Rattle.place_words.specs.Locks.{is_lock, lock_named, lock_number, lock_count, rank_of}
use Rattle.place_words.specs.Strands.{places_on}
use Rattle.place_words.proofs.HistoryLemmas.{content_more, legal_more}
use Rattle.place_words.proofs.LockLemmas.{named_by_number, number_of_named, one_number, number_within, same_lock, other_lock}
use Rattle.place_words.specs.declared.step.Lists.{Lists}
use Rattle.place_words.specs.declared.step.Step.TheVariants.{Give}
use Rattle.place_words.specs.declared.owner.Owner.TheVariants as owners
use Rattle.place_words.specs.Openings.{is_free}
use Rattle.map_types.specs.Kind.{is_lru}
use Rattle.map_types.proofs.RowLemmas.{by_test}
use Rattle.place_words.specs.State.{rows, is_bucket, HasOnlyItsLists, HasCursorInside}
use Rattle.place_words.specs.Steps.{CanGive, given}
use Rattle.place_words.proofs.ElementLemmas.{at_put, put_here, put_else}
use Rattle.place_words.proofs.StepLaws.{step_keeps_places, step_keeps_ranks}
use Rattle.place_table.specs.declared.content.Behind.{Behind}
use Rattle.place_table.specs.declared.content.Content.{Content}
use Rattle.place_table.specs.declared.content.Content.TheVariants as contents
use Rattle.place_table.specs.declared.view.View.{View}
use Rattle.place_table.specs.declared.view.Hold.{Hold}
use Rattle.place_table.specs.declared.view.Notes.{Notes}
use Rattle.place_table.specs.Contents.{content_told, lists_of, FitsLock}
use Rattle.place_table.specs.Laws.{StepsAs, goes_by, LeadsOn}
use Rattle.place_table.specs.declared.view.Turned.{Turned}
use Rattle.place_table.specs.Views as views
use Rattle.place_table.specs.Views.{is_among, hold_at, known_log, holding, has_all, is_in_hand_of, home_then, passed_on}
use Rattle.place_table.specs.SlotTurns.{HasTurns}
use Rattle.place_table.specs.Rules.{World, Rule, PassKnows, givers, strands_of, AtHome, Tagged, entries, hold, hold_of, IsAboveAll, Ascends, turns_on, turns_of, indexes, logs_of, AreTagged, HashesRight, StillHome, HasRow, IsHashed, is_hand_of, LeadTo, AreNoted, IsCounted, marks_under}
use Rattle.place_table.specs.Words.{lock_code, owner_word, home_word, bit_word, ticket_word, opening_words}
use Rattle.place_table.specs.Plays.{Seated, MayPut, MayGive, HasItsTicket, IsRecorded, IsKeptOrLost, GivesBack, GivesSome, entry_by}
use Rattle.place_table.specs.TurnNotes.{NotesFit, InnermostFits}
use Rattle.place_table.specs.StoredHashes.{stored_in}
use Rattle.place_table.proofs.StoredHashes.{renewed, elsewhere, hashes_gave, hash_stays, hashed_gave, IsGiven, IsOlder, given_known, given_kept, given_new, in_all, lies_on, stored_no_bucket, stored_listed}
use Rattle.place_table.proofs.Came.{came_first, came_other, came_passed}
use Rattle.place_table.proofs.HashSteps.{no_bucket_home}
use Rattle.place_table.proofs.Entries.{append_nil, entries_more, entries_length, turns_of_same, turns_of_other, turns_on_same, turns_on_other, places_on_same, places_on_other, indexes_more}
use Rattle.place_table.proofs.Stands.{Grows, stand_more, stand_behind}
use Rattle.place_table.proofs.Worlds.{at_put4, by_bool, true_false, some_is, none_some, hold_of_mine, IsMineOrFree, hold_of_other, HoldIs, hold_of_is, hold_at_first, hold_at_other, none_below, above_each, lock_still_lost, all_here, here_all, among_first, others, past_stays, tagged_stays, tagged_more, SameStrands, knows_none, hand_is, both_true}
use Rattle.place_table.proofs.Readings.{still_gave, home_is_hand, listed_at_home}
use Rattle.place_table.specs.Flushes.{flushes}
use Rattle.place_table.specs.declared.view.HashIn.{HashIn}
use Rattle.place_words.specs.Wholeness.{all_of}
use Rattle.place_table.specs.declared.view.WordStep.{WordStep}
use Rattle.place_table.proofs.StepLog.{made, time_more, givers_other, givers_here, strands_more, touches_with, lead_with, of_strands_with, mine_more, past_same, other_same}
use Rattle.place_table.proofs.NotesDone.{noted_gave}
use Rattle.place_table.specs.declared.view.Ticket.{Ticket}
use Rattle.place_table.specs.declared.view.Ticket.TheVariants.{Unread, Drawn}
use Rattle.place_table.specs.Owners.{Owners, AreGuarded, undrawn, IsHomeHere, InnermostOwnersFit}
use Rattle.place_table.proofs.OwnersKept.{only_changes}
use Rattle.place_table.proofs.OwnersNoted.{changes_passed, noted_first}
use Rattle.place_table.proofs.OwnersOrder.{AreApart, IsToldOf, apart_there, home_apart, knows_hashed, owners_given}
use Rattle.place_table.proofs.OwnersGiven.{no_bucket_below, none_last_below, told_of_turn}
use Rattle.place_table.proofs.OwnerSteps.{cpu_here, home_here}
use Rattle.place_table.specs.Tickets.{Tickets, NoneLost}
use Rattle.place_table.specs.Nested.{log_held}
use Rattle.place_table.specs.Views.{ticket_of}
use Rattle.place_table.proofs.TicketLemmas.{theirs_there}
use Rattle.place_table.proofs.TicketChanges.{tickets_given}
use Rattle.place_table.proofs.Locks.{allows_of, there, elements_there}
use Rattle.place_table.specs.declared.view.HomeIn.{HomeIn}
use Rattle.place_table.proofs.Counted.{counted_more, counted_within, homes_more}
use Rattle.place_words.specs.Real.{IsReal, IsAlwaysReal}
use Rattle.place_table.proofs.RealContents.{real_there, real_more}
use Rattle.place_table.proofs.MarksNoted.{marked_on, marks_gave}

-- what lies under a lock of one kind has only the lists of that kind, and its cursor in its place
fits_lists : (shape : Shape) (lock : DomainId) (here : Content) → FitsLock shape lock here → HasOnlyItsLists lock (lists_of (content_told lock here))
fits_lists shape (Bucket b) (contents.Bucket chain) fits = (refl, refl)
fits_lists shape (Bucket b) (contents.Freelist freelist) fits = absurd fits
fits_lists shape (Bucket b) (contents.Local lists) fits = absurd fits
fits_lists shape (Bucket b) (contents.Set set) fits = absurd fits
fits_lists shape (Freelist c) (contents.Freelist freelist) fits = (refl, refl)
fits_lists shape (Freelist c) (contents.Bucket chain) fits = absurd fits
fits_lists shape (Freelist c) (contents.Local lists) fits = absurd fits
fits_lists shape (Freelist c) (contents.Set set) fits = absurd fits
fits_lists shape (Local c) (contents.Bucket chain) fits = absurd fits
fits_lists shape (Local c) (contents.Freelist freelist) fits = absurd fits
fits_lists shape (Local c) (contents.Local lists) fits = refl
fits_lists shape (Local c) (contents.Set set) fits = absurd fits
fits_lists shape Global (contents.Bucket chain) fits = absurd fits
fits_lists shape Global (contents.Freelist freelist) fits = absurd fits
fits_lists shape Global (contents.Local lists) fits = absurd fits
fits_lists shape Global (contents.Set set) fits = tt
fits_lists shape (CpuLru c) (contents.Bucket chain) fits = absurd fits
fits_lists shape (CpuLru c) (contents.Freelist freelist) fits = absurd fits
fits_lists shape (CpuLru c) (contents.Local lists) fits = absurd fits
fits_lists shape (CpuLru c) (contents.Set set) fits = tt

fits_cursor : (shape : Shape) (lock : DomainId) (here : Content) → FitsLock shape lock here → HasCursorInside (lists_of (content_told lock here))
fits_cursor shape lock (contents.Bucket chain) fits = tt
fits_cursor shape lock (contents.Freelist freelist) fits = tt
fits_cursor shape lock (contents.Local lists) fits = tt
fits_cursor shape (Bucket b) (contents.Set set) fits = absurd fits
fits_cursor shape (Freelist c) (contents.Set set) fits = absurd fits
fits_cursor shape (Local c) (contents.Set set) fits = absurd fits
fits_cursor shape Global (contents.Set set) fits = fits.whole.placed
fits_cursor shape (CpuLru c) (contents.Set set) fits = fits.whole.placed

-- what follows of the record of a lock, where there is one and where there is none
pub lost_of : {A : Type 0} → Option A → Bool
lost_of None = true
lost_of (Some x) = false

recorded : {A : Type 0} (o : Option A) (P P' : Type 0) (Q Q' : A → Type 0) → MatchOption o P Q → (lost_of o ≡ true → P → P') → ((x : A) → lost_of o ≡ false → Q x → Q' x) → MatchOption o P' Q'
unfolding lost_of
recorded None P P' Q Q' h f g = f refl h
recorded (Some x) P P' Q Q' h f g = g x refl h

either_record : {A : Type 0} (o : Option A) (P R : Type 0) (Q : A → Type 0) → MatchOption o P Q → (lost_of o ≡ true → P → R) → ((x : A) → lost_of o ≡ false → Q x → R) → R
unfolding lost_of
either_record None P R Q h f g = f refl h
either_record (Some x) P R Q h f g = g x refl h

-- the steps that are recorded then
kept_or_lost : (shape : Shape) (v : View) (h : Hold) (e : Entry) (kept : List StrandStep) (b : Behind) → v.shape ≡ shape → IsRecorded shape v h e kept b → IsKeptOrLost v h kept
kept_or_lost shape v h e kept b shape_is rec =
    either_record b.history _ _ _ rec (λ _ p. inl p) (λ x _ p. inr (p.2 ∙ ap (λ (z : Shape). v.kept ++ views.kept_step z h.lock (length h.log) ∷ []) (sym shape_is)))

-- and where one is, it has the ticket
has_ticket : (v : View) (e : Entry) (kept : List StrandStep) (b : Behind) (shape : Shape) (h : Hold) → IsRecorded shape v h e kept b → HasItsTicket v e b → (kept ≡ v.kept) ⊎ (v.ticket ≡ Drawn e.ticket)
has_ticket v e kept b shape h rec drawn =
    either_record b.history _ _ _ rec (λ _ p. inl p) (λ x some _. inr (either_record b.history _ _ _ drawn (λ none _. true_false (sym none ∙ some)) (λ _ _ is. is)))

module _ (shape : Shape) (slots pass : ℕ) (v : View) (b : Behind) (cs : List (ℕ × Behind)) (lock : DomainId) (h : Hold) (below : List Hold) (is_held : v.held ≡ h ∷ below) (is : IsTrue (is_lock shape lock)) (at_lock : h.lock ≡ lock_number shape lock)
    (e : Entry) (kept : List StrandStep) (may : MayGive shape v h e kept b) where
  -- what is put back, as histories tell it
  abbrev back : histories.Content
  back = content_told (lock_named shape (lock_number shape lock)) may.here

  gave_step : World → WordStep
  gave_step w = record { at = made w; word = h.lock; seen = None; left = 0 }

  gave_world : World → World
  gave_world w = record {
    core = given shape w.core lock (lists_of back);
    log = put w.log (lock_number shape lock) (w.log (lock_number shape lock) ++ (w.current pass, e) ∷ []);
    lost = put w.lost (lock_number shape lock) (lost_of b.history);
    pass_of_cpu = w.pass_of_cpu;
    pass_of_strand = w.pass_of_strand;
    cpus_of_strand = w.cpus_of_strand;
    current = w.current;
    past = w.past;
    next = w.next;
    hash = λ x. renewed (is_lru shape.kind) (stored_in back x) (w.hash x);
    touches = touches_with w pass (gave_step w);
  }

  -- the hold, as the world has it
  found_hold : (w : World) → PassKnows shape w pass v → HoldIs w.pass_of_cpu pass (lock_number shape lock) (w.core.holder (lock_number shape lock)) (w.log (lock_number shape lock)) (w.core.lists (lock_number shape lock)) (w.lost (lock_number shape lock)) h
  found_hold w kn =
      let k : ℕ = lock_number shape lock in
      hold_of_is w.pass_of_cpu pass k (w.core.holder k) (w.log k) (w.core.lists k) (w.lost k) h
      (sym (kn.held k) ∙ (ap (hold_at k) is_held ∙ subst (λ (z : ℕ). hold_at z (h ∷ below) ≡ Some h) at_lock (hold_at_first h below)))

  -- what is put back, told of the world
  put_back_there : (w : World) (kn : PassKnows shape w pass v) → MayPut shape v (hold (lock_number shape lock) h.cpu (w.log (lock_number shape lock)) (w.core.lists (lock_number shape lock)) (w.lost (lock_number shape lock))) e.cpu e.part may.here
  put_back_there w kn = subst (λ (z : Hold). MayPut shape v z e.cpu e.part may.here) (found_hold w kn).hold_is may.may_put

  recorded_there : (w : World) (kn : PassKnows shape w pass v) → IsRecorded shape v (hold (lock_number shape lock) h.cpu (w.log (lock_number shape lock)) (w.core.lists (lock_number shape lock)) (w.lost (lock_number shape lock))) e kept b
  recorded_there w kn = subst (λ (z : Hold). IsRecorded shape v z e kept b) (found_hold w kn).hold_is may.records

  can_give : (s : State Behind View) (r : Rule shape s) → get_elem? s.views pass ≡ some v → CanGive shape r.world.core h.cpu lock (lists_of back)
  can_give s r at_pass =
      let w = r.world in let k : ℕ = lock_number shape lock in let kn = r.knows pass v at_pass in
      let at = found_hold w kn in
      let m = put_back_there w kn in
      let named = named_by_number shape lock is in
      let there = elements_there shape s r k in
      record {
        holds = record { is_cpu = r.ranked.within h.cpu k at.holder_is; is_lock = is; held = at.holder_is };
        fit = subst (λ (d : DomainId). HasOnlyItsLists d (lists_of back)) named (fits_lists shape (lock_named shape (lock_number shape lock)) may.here m.fits);
        same_free = m.same_free;
        same_rows = m.same_rows;
        free_once = λ x. subst (λ (n : ℕ). n ≤ 1) (sym (m.same_free x)) (there.free_once x);
        rows_once = λ x. subst (λ (n : ℕ). n ≤ 1) (sym (m.same_rows x)) (there.rows_once x);
        cursor = fits_cursor shape (lock_named shape (lock_number shape lock)) may.here m.fits;
      }

  same_hands : (c d : ℕ) → owners.Hand c ≡ owners.Hand d → c ≡ d
  same_hands c d e = cc

  -- what came in the turn and is in the hand of its CPU
  fresh : ℕ → Bool
  fresh x = is_in_hand_of x h.cpu v.hand && is_among x (views.came_last v.notes)

  came_is : views.came_at (lock_number shape lock) v.held v.notes ≡ views.came_last v.notes
  came_is = (λ i. views.came_at (sym at_lock i) (is_held i) v.notes) ∙ came_first h below v.notes

  fresh_there : (s : State Behind View) (r : Rule shape s) → get_elem? s.views pass ≡ some v → (x : ℕ) → fresh x ≡ true → r.world.core.owner x ≡ owners.Hand h.cpu
  unfolding fresh
  fresh_there s r at_pass x is =
      let w = r.world in let kn = r.knows pass v at_pass in
      let at = found_hold w kn in
      hand_is h.cpu (w.core.owner x) (both_true _ _ (sym (kn.hands x h.cpu (r.ranked.within h.cpu (lock_number shape lock) at.holder_is)) ∙ (both_true _ _ is).0)).0

  -- what came in the turn
  come : ℕ → Bool
  come x = is_among x (views.came_last v.notes)

  come_to_hand : (s : State Behind View) (r : Rule shape s) → get_elem? s.views pass ≡ some v → (x : ℕ) → come x ≡ true → r.world.core.owner x ≡ owners.Hand h.cpu → fresh x ≡ true
  unfolding fresh come
  come_to_hand s r at_pass x came owner_is =
      let w = r.world in let kn = r.knows pass v at_pass in
      let at = found_hold w kn in
      let within : h.cpu < shape.cpus = r.ranked.within h.cpu (lock_number shape lock) at.holder_is in
      let in_hand : is_in_hand_of x h.cpu v.hand ≡ true = kn.hands x h.cpu within ∙ ((λ i. is_hand_of h.cpu (owner_is i) && eqb (at.mine i) pass) ∙ by_test h.cpu h.cpu (λ t. (t && eqb pass pass) ≡ true) (λ _. by_test pass pass (λ t. t ≡ true) (λ _. refl) (λ ne. absurd (ne refl))) (λ ne. absurd (ne refl))) in
      λ i. in_hand i && came i

  -- what is listed there has a row there, or came in the turn
  rowed_there : (s : State Behind View) (r : Rule shape s) → get_elem? s.views pass ≡ some v → IsTrue (is_lru shape.kind) → (x : ℕ) → IsFalse (is_bucket (lock_named shape (lock_number shape lock))) → IsIn x (rows (r.world.core.lists (lock_number shape lock)))
      → HasRow shape r.world.log r.world.hash (lock_number shape lock) x ⊎ (come x ≡ true)
  unfolding come
  rowed_there s r at_pass lru x no_bucket listed =
      let w = r.world in let k : ℕ = lock_number shape lock in let kn = r.knows pass v at_pass in
      let at = found_hold w kn in
      let its : Hold = hold k h.cpu (w.log k) (w.core.lists k) (w.lost k) in
      let found : hold_at k v.held ≡ Some its = kn.held k ∙ (ap (λ (z : Option ℕ). hold_of pass w.pass_of_cpu k z (w.log k) (w.core.lists k) (w.lost k)) at.holder_is ∙ hold_of_mine w.pass_of_cpu pass k h.cpu (w.log k) (w.core.lists k) (w.lost k) at.mine) in
      ⊎_elim
      (λ (had : stored_in (content shape (lock_named shape k) (entries (w.log k))) x ≡ Some (w.hash x)). inl record { stored = had })
      (λ (came : is_among x (views.came_at k v.held v.notes) ≡ true). inr (ap (is_among x) (sym came_is) ∙ came))
      (kn.rowed lru k x its found no_bucket listed)

  own_hashes : (s : State Behind View) (r : Rule shape s) → get_elem? s.views pass ≡ some v → (x c : ℕ) (noted : HashIn) → c < shape.cpus → (IsTrue (is_lru shape.kind) → fresh x ≡ false → renewed true (stored_in back x) (r.world.hash x) ≡ r.world.hash x) → views.hash_known x c (views.given (made r.world) h e kept v).hashes ≡ Some noted → (is_in_hand_of x c v.hand ≡ true) × (bucket_number (renewed (is_lru shape.kind) (stored_in back x) (r.world.hash x)) shape.buckets ≡ noted.bucket)
  unfolding gave_world fresh
  own_hashes s r at_pass x c noted within stays found =
      let w = r.world in let kn = r.knows pass v at_pass in
      let came : List ℕ = views.came_last v.notes in
      let here : histories.Content = content_after v.shape e.cpu e.part (content v.shape (lock_named v.shape h.lock) h.log) in
      let same : here ≡ back = ap (λ z. content_after z e.cpu e.part (content z (lock_named z h.lock) h.log)) kn.shape_is ∙ (sym may.may_put.told_is ∙ ap (λ (z : ℕ). content_told (lock_named shape z) may.here) at_lock) in
      by_bool (is_lru shape.kind) (λ t. is_lru shape.kind ≡ t → views.hash_known x c (cond t (views.hashes_given h.cpu v.shape.buckets here came v.hand v.hashes) v.hashes) ≡ Some noted → (is_in_hand_of x c v.hand ≡ true) × (bucket_number (renewed t (stored_in back x) (w.hash x)) shape.buckets ≡ noted.bucket))
      (λ lru _ f. ⊎_elim
      (λ (given : IsGiven here v.shape.buckets x c noted v.hand). (
        given.in_hand,
        ap (λ (o : Option ℕ). bucket_number (renewed true o (w.hash x)) shape.buckets) (sym (ap (λ z. stored_in z x) same) ∙ given.stored) ∙ (ap (λ z. bucket_number given.hash z.buckets) (sym kn.shape_is) ∙ given.bucket_is),
      ))
      (λ (older : IsOlder here h.cpu came x c noted v.hand v.hashes). let was = kn.hashes x c noted within older.known in (
        was.in_hand,
        by_bool (fresh x) (λ t. fresh x ≡ t → bucket_number (renewed true (stored_in back x) (w.hash x)) shape.buckets ≡ noted.bucket)
            (λ yes _.
            let mine : c ≡ h.cpu = same_hands c h.cpu (sym (hand_is c (w.core.owner x) (both_true _ _ (sym (kn.hands x c within) ∙ was.in_hand)).0) ∙ fresh_there s r at_pass x yes) in
            ap (λ (o : Option ℕ). bucket_number (renewed true o (w.hash x)) shape.buckets) (sym (ap (λ z. stored_in z x) same) ∙ older.none_stored mine was.in_hand (both_true _ _ yes).1) ∙ was.bucket_is)
            (λ no _. ap (λ (n : ℕ). bucket_number n shape.buckets) (stays lru no) ∙ was.bucket_is) refl,
      ))
      (given_known here h.cpu v.shape.buckets came x c v.hashes noted v.hand f))
      (λ _ _ f. let was = kn.hashes x c noted within f in (was.in_hand, was.bucket_is)) refl
      (ap (λ z. views.hash_known x c (cond (is_lru z.kind) (views.hashes_given h.cpu v.shape.buckets here came v.hand v.hashes) v.hashes)) (sym kn.shape_is) ∙ found)

  -- what the rule says of owners, once the turn is recorded
  owners_then : (s : State Behind View) (r : Rule shape s) (at_pass : get_elem? s.views pass ≡ some v) (nv : View) → nv.cpus ≡ v.cpus → nv.held ≡ below → nv.notes ≡ passed_on e.part v.notes → nv.ticket ≡ Unread
      → IsTrue (is_lru shape.kind) → NoneLost shape r.world.lost → lost_of b.history ≡ false → (IsTrue (is_lru shape.kind) → (x : ℕ) → fresh x ≡ false → renewed true (stored_in back x) (r.world.hash x) ≡ r.world.hash x)
      → Owners shape (get_or s.words (ticket_word shape) 0) r.world.core.owner r.world.core.home (λ x. renewed (is_lru shape.kind) (stored_in back x) (r.world.hash x)) (logs_of (gave_world r.world)) (set s.views pass nv)
  unfolding gave_world fresh
  owners_then s r at_pass nv cpus held notes unread lru none some_there stays =
      let k : ℕ = lock_number shape lock in
      let w = r.world in let kn = r.knows pass v at_pass in
      let at = found_hold w kn in
      let o = r.owners lru none in
      let named : lock_named shape k ≡ lock = named_by_number shape lock is in
      let first = noted_first shape v.touched k h v.held v.notes (ap (hold_at k) is_held ∙ subst (λ (z : ℕ). hold_at z (h ∷ below) ≡ Some h) at_lock (hold_at_first h below)) kn.noted in
      let n : Notes = first.3 in let ns : List Notes = first.4 in
      let drawn : v.ticket ≡ Drawn e.ticket = either_record b.history _ _ _ may.ticketed (λ lost _. true_false (sym lost ∙ some_there)) (λ _ _ d. d) in
      let above : IsAboveAll shape (rank_of lock) below = subst (λ (d : DomainId). IsAboveAll shape (rank_of d) below) (ap (lock_named shape) at_lock ∙ named) (subst (Ascends shape) is_held kn.ascends).0 in
      let guarded : AreGuarded shape w.core.owner w.core.home w.hash v.cpus below ns =
      subst (λ (z : Ticket × (List Hold × List Notes)). AreGuarded shape w.core.owner w.core.home w.hash v.cpus (undrawn z.0 z.1.0) (undrawn z.0 z.1.1)) (λ i. (drawn i, (is_held i, first.5 i))) (o.known pass v at_pass).guarded in
      let told : IsToldOf shape w.core.owner w.core.home w.hash v h.lock e n =
      told_of_turn shape s r pass v at_pass lru h below is_held n ns first.5 e (subst (InnermostFits shape v h e.part) first.5 may.noted) (subst (InnermostOwnersFit shape v h e.cpu e.part) first.5 (may.owners_fit lru)) guarded in
      owners_given shape (get_or s.words (ticket_word shape) 0) w.core.owner w.core.home w.hash (λ x. renewed (is_lru shape.kind) (stored_in back x) (w.hash x)) (logs_of w) (logs_of (gave_world w)) s.views pass k v nv e at_pass h below is_held n ns first.5 drawn
      (no_bucket_below shape lock below (bounds_of_shape shape r.is_shape) lru is above) (none_last_below shape lock below lru is above)
      (subst (λ (m : ℕ). IsToldOf shape w.core.owner w.core.home w.hash v m e n) at_lock told) cpus held (ap only_changes notes ∙ (changes_passed e.part v.notes ∙ (λ i. only_changes (views.notes_below (first.5 i))))) unread
      (ap entries (put_here w.log k (w.log k ++ (w.current pass, e) ∷ [])) ∙ entries_more (w.log k) (w.current pass, e)) (λ m ne. ap entries (put_else w.log k (w.log k ++ (w.current pass, e) ∷ []) m ne))
      (λ canon j u at_u other.
      let between = apart_there shape w s.views pass v r.knows at_pass j u at_u other in
      knows_hashed shape canon w.core.owner w.core.home w.hash (λ x. renewed (is_lru shape.kind) (stored_in back x) (w.hash x)) u
      (λ x. by_bool (fresh x) (λ t. fresh x ≡ t → (renewed (is_lru shape.kind) (stored_in back x) (w.hash x) ≡ w.hash x) ⊎ (((c : ℕ) → w.core.owner x ≡ owners.Hand c → is_among c u.cpus ≡ true → ⊥) × (IsHomeHere shape u.cpus u.held (w.core.home x) → ⊥)))
      (λ yes _. hash_or_home x (fresh_there s r at_pass x yes) u between (stored_in back x) refl)
      (λ no _. inl (ap (λ (t : Bool). renewed t (stored_in back x) (w.hash x)) lru ∙ stays lru x no)) refl))
      o
    where
      hash_or_home : (x : ℕ) → r.world.core.owner x ≡ owners.Hand h.cpu → (u : View) → AreApart v u → (found : Option ℕ) → stored_in back x ≡ found
          → (renewed (is_lru shape.kind) found (r.world.hash x) ≡ r.world.hash x) ⊎ (((c : ℕ) → r.world.core.owner x ≡ owners.Hand c → is_among c u.cpus ≡ true → ⊥) × (IsHomeHere shape u.cpus u.held (r.world.core.home x) → ⊥))
      hash_or_home x was u between None found = inl (ap (λ (t : Bool). renewed t None (r.world.hash x)) lru)
      hash_or_home x was u between (Some z) found =
          let k : ℕ = lock_number shape lock in
          let w = r.world in let kn = r.knows pass v at_pass in
          let m = put_back_there w kn in
          let found_here : hold_at k v.held ≡ Some h = ap (hold_at k) is_held ∙ subst (λ (z : ℕ). hold_at z (h ∷ below) ≡ Some h) at_lock (hold_at_first h below) in
          let no_bucket = stored_no_bucket shape (lock_named shape k) may.here x z m.fits found in
          let listed : IsIn x (rows (w.core.lists k)) = subst (λ (c : ℕ). 0 < c) (m.same_rows x) (stored_listed back x z found) in
          let here = home_here shape s r pass v at_pass k h found_here x lru ((elements_there shape s r k).rows_real x listed) (lies_on shape w.core.lists w.core.owner w.core.home r.placed.place r.placed.placed k x no_bucket (in_all x (w.core.lists k) listed)) in inr (
            (λ c owner_is theirs. between.cpu c (ap (λ (d : ℕ). is_among d v.cpus) (same_hands c h.cpu (sym owner_is ∙ was)) ∙ cpu_here shape s r pass v at_pass k h found_here) theirs),
            (λ theirs. home_apart shape v u (w.core.home x) between here theirs),
          )

  -- the pass may come to know that the record of this lock is lost
  gave_rule : (s : State Behind View) (r : Rule shape s) → get_elem? s.views pass ≡ some v
      → (known_lost : List ℕ) → ((m : ℕ) → is_among m known_lost ≡ true → (is_among m v.lost ≡ true) ⊎ ((m ≡ lock_number shape lock) × (lost_of b.history ≡ true)))
      → (after : Rule shape record { words = set s.words (lock_number shape lock) 0; homes = set s.homes (lock_number shape lock) (some b); views = set s.views pass (views.with_lost known_lost (views.given (made r.world) h e kept v)) })
      × goes_by shape (Give h.cpu lock (lists_of (content_told lock may.here))) 0 r.world.core after.world.core
  unfolding gave_step gave_world fresh come
  gave_rule s r at_pass known_lost is_lost =
      let k : ℕ = lock_number shape lock in
      let w = r.world in let kn = r.knows pass v at_pass in
      let at = found_hold w kn in
      let m0 = put_back_there w kn in
      let rec = recorded_there w kn in
      let can = can_give s r at_pass in
      let bounds = bounds_of_shape shape r.is_shape in
      let real : k < lock_count shape = number_within shape lock is in
      let es : List Entry = entries (w.log k) in
      let log_is : h.log ≡ es = ap (λ (z : Hold). z.log) at.hold_is in
      let l' : List Tagged = w.log k ++ (w.current pass, e) ∷ [] in
      let lo' : Bool = lost_of b.history in
      let n' : Lists = lists_of back in
      let es_is : entries l' ≡ es ++ e ∷ [] = entries_more (w.log k) (w.current pass, e) in
      let content_is : content shape (lock_named shape k) (entries l') ≡ back = ap (content shape (lock_named shape k)) es_is ∙ (content_more shape (lock_named shape k) es e ∙ sym m0.told_is) in
      let w' : World = gave_world w in
      let nv : View = views.with_lost known_lost (views.given (made w) h e kept v) in
      let last : WordStep = gave_step w in
      let new_turn : Turned = views.turned h.lock h.log e v in
      let grown : (m : ℕ) → Grows (entries (w.log m)) (entries (put w.log k l' m)) = λ m. at_put w.log k l' (λ i l. Grows (entries (w.log i)) (entries l)) m (e ∷ [], es_is) (λ _. ([], sym (append_nil _))) in
      let same : SameStrands w w' = record { pass_of_strand = λ _. refl; cpus_of_strand = λ _. refl; next = refl; current = λ _. refl; past = λ _. refl; pass_of_cpu = λ _. refl; still = λ steps z. stand_more (logs_of w) (logs_of w') steps grown z } in
      let mine_lock : IsMineOrFree w.pass_of_cpu pass (w.core.holder k) = subst (IsMineOrFree w.pass_of_cpu pass) (sym at.holder_is) at.mine in
      let losses : (m : ℕ) → put w.lost k lo' m ≡ false → w.lost m ≡ false = λ m. at_put w.lost k lo' (λ i lo. lo ≡ false → w.lost i ≡ false) m
      (λ lo. either_record b.history _ _ _ rec (λ lost _. true_false (sym lost ∙ lo)) (λ x _ p. p.0)) (λ _ lo. lo) in
      let on_here : turns_on k (v.steps ++ new_turn ∷ []) ≡ turns_on k v.steps ++ (length h.log, e) ∷ [] = turns_on_same k h.log e v v.steps new_turn (ap (λ (z : ℕ). views.turned z h.log e v) at_lock) in
      let on_else : (m : ℕ) → m ≢ k → turns_on m (v.steps ++ new_turn ∷ []) ≡ turns_on m v.steps = λ m ne. turns_on_other m v.steps new_turn (λ y. ne (sym y ∙ at_lock)) in
      let kept_else : (m : ℕ) → m ≢ k → places_on (lock_named shape m) kept ≡ places_on (lock_named shape m) v.kept = λ m ne. either_record b.history _ _ _ rec
      (λ _ p. ap (places_on (lock_named shape m)) p)
      (λ x _ p. ap (places_on (lock_named shape m)) p.2 ∙ places_on_other (lock_named shape m) v.kept (views.kept_step shape k (length es)) (other_lock (lock_named shape k) (lock_named shape m) (λ y. ne (sym (one_number shape k m y))))) in
      let ranks : Ascends shape (h ∷ below) = subst (Ascends shape) is_held kn.ascends in
      let none_there : hold_at k below ≡ None = none_below shape k below (subst (λ (z : ℕ). IsAboveAll shape (rank_of (lock_named shape z)) below) at_lock ranks.0) in
      let innermost : (m : ℕ) → m ≢ k → w.core.holder m ≡ Some h.cpu → rank_of (lock_named shape m) < rank_of (lock_named shape k) = λ m ne holds.
      let there_is : hold_at m below ≡ Some (hold m h.cpu (w.log m) (w.core.lists m) (w.lost m)) = sym (hold_at_other m h below (λ y. ne (y ∙ at_lock))) ∙ (sym (ap (hold_at m) is_held) ∙ (kn.held m ∙ (ap (λ (z : Option ℕ). hold_of pass w.pass_of_cpu m z (w.log m) (w.core.lists m) (w.lost m)) holds ∙ hold_of_mine w.pass_of_cpu pass m h.cpu (w.log m) (w.core.lists m) (w.lost m) at.mine))) in
      above_each shape (rank_of (lock_named shape k)) below m (hold m h.cpu (w.log m) (w.core.lists m) (w.lost m)) (subst (λ (z : ℕ). IsAboveAll shape (rank_of (lock_named shape z)) below) at_lock ranks.0) there_is in
      let rows_stay : IsTrue (is_lru shape.kind) → (j x n m : ℕ) → (j ≡ k) ⊎ (come x ≡ true) → fresh x ≡ false → w.core.holder j ≡ Some h.cpu → stored_in (content shape (lock_named shape j) (entries (w.log j))) x ≡ Some n → stored_in back x ≡ Some m → n ≡ m = λ lru j x n m from other holds.
      m0.rows_kept lru j x n m (hold j h.cpu (w.log j) (w.core.lists j) (w.lost j)) (kn.held j ∙ (ap (λ (z : Option ℕ). hold_of pass w.pass_of_cpu j z (w.log j) (w.core.lists j) (w.lost j)) holds ∙ hold_of_mine w.pass_of_cpu pass j h.cpu (w.log j) (w.core.lists j) (w.lost j) at.mine)) from other in
      let gone_there : IsTrue (is_lru shape.kind) → (c x n : ℕ) → lock_named shape k ≡ Local c → stored_in (content shape (lock_named shape k) es) x ≡ Some n → times x (all_of (w.core.lists k)) ≡ 0 → (w.core.home x ≡ homes.Hand h.cpu) ⊎ (flushes x e.part ≡ true) = λ lru c x n named was none. ⊎_elim
      (λ (off : is_in_hand_of x h.cpu v.carried ≡ true). inl (home_is_hand h.cpu (w.core.home x) (both_true _ _ (sym (kn.carried x h.cpu (r.ranked.within h.cpu k at.holder_is)) ∙ off)).0))
      (λ (by_it : flushes x e.part ≡ true). inr by_it)
      (m0.gone lru c x n named was none) in
      let still_there : (x : ℕ) (read : HomeIn) → x < shape.elements → IsCounted shape w.touches read.at read.turns read.home → StillHome shape w.core.holder w.log read.turns x (w.core.home x) read.home → StillHome shape (put w.core.holder k None) (put w.log k l') read.turns x (w.core.home x) read.home = λ x read x_real counted.
      still_gave shape w.core.holder w.core.lists w.core.owner w.core.home r.placed.place r.placed.placed w.log k h.cpu may.here m0.fits l' e es_is content_is m0.same_rows gone_there read.turns x read.home
      (λ c read_is at_k. counted_within shape w.touches read.at read.turns k c read.home (w.log k) (r.gave_back k real) counted read_is at_k) x_real in
      let hash_there : IsTrue (is_lru shape.kind) → (x : ℕ) → fresh x ≡ false → renewed true (stored_in back x) (w.hash x) ≡ w.hash x = λ lru x other.
      hash_stays shape w.core.holder w.core.lists w.core.owner w.core.home r.placed.place r.placed.placed w.log w.hash (r.hashes lru) k h.cpu at.holder_is may.here m0.fits l' content_is m0.same_rows innermost fresh (fresh_there s r at_pass) come (come_to_hand s r at_pass) (rowed_there s r at_pass lru) (rows_stay lru) x other in
      let held_now : w.core.holder k ≡ Some h.cpu = at.holder_is in
      let hash_else : (m x : ℕ) → IsFalse (is_bucket (lock_named shape m)) → m ≢ k → IsIn x (rows (w.core.lists m)) → renewed (is_lru shape.kind) (stored_in back x) (w.hash x) ≡ w.hash x = λ m x no_bucket ne inside.
      by_bool (is_lru shape.kind) (λ t. is_lru shape.kind ≡ t → renewed t (stored_in back x) (w.hash x) ≡ w.hash x)
      (λ lru _. elsewhere shape w.core.holder w.core.lists w.core.owner w.core.home r.placed.place r.placed.placed w.log w.hash (r.hashes lru) k h.cpu held_now may.here m0.fits l' content_is m0.same_rows innermost fresh (fresh_there s r at_pass) come (come_to_hand s r at_pass) (rowed_there s r at_pass lru) (rows_stay lru)
      m x no_bucket ne (in_all x (w.core.lists m) inside) (stored_in back x) refl)
      (λ _ _. refl) refl in
      let counted : length h.log ≡ length (w.log k) + 0 = ap length log_is ∙ (entries_length (w.log k) ∙ (let g : length (w.log k) ≡ length (w.log k) + 0 = omega arith in g)) in (
        record {
          world = w';
          is_shape = r.is_shape;
          words = length-set s.words k 0 ∙ r.words;
          slots = length-set s.homes k (some b) ∙ r.slots;
          lock_words = λ m within. at_put w.core.holder k None (λ i x. i < lock_count shape → get_or (set s.words k 0) i 0 ≡ lock_code x) m
              (λ _. get_or-set_same s.words k 0 0 (omega (arith, r.words, real)))
              (λ ne within. get_or-set_other s.words k m 0 0 (λ y. ne (omega arith)) ∙ r.lock_words m within) within;
          owner_words = λ x within. get_or-set_other s.words k (owner_word shape x) 0 0 (λ y. omega (arith, real)) ∙ r.owner_words x within;
          home_words = λ x within. get_or-set_other s.words k (home_word shape x) 0 0 (λ y. omega (arith, real)) ∙ r.home_words x within;
          bit_words = λ x within. get_or-set_other s.words k (bit_word shape x) 0 0 (λ y. omega (arith, real)) ∙ r.bit_words x within;
          placed = step_keeps_places shape w.core (Give h.cpu lock n') bounds can r.placed;
          ranked = step_keeps_ranks shape w.core (Give h.cpu lock n') can r.ranked;
          hashes = λ lru. subst (λ (t : Bool). HashesRight shape (put w.core.holder k None) (put w.core.lists k n') w.core.owner (put w.log k l') (λ x. renewed t (stored_in back x) (w.hash x))) (sym lru)
              (hashes_gave shape w.core.holder w.core.lists w.core.owner w.core.home r.placed.place r.placed.placed w.log w.hash (r.hashes lru) k h.cpu at.holder_is may.here m0.fits l' content_is m0.same_rows innermost fresh (fresh_there s r at_pass) come (come_to_hand s r at_pass) (rowed_there s r at_pass lru) (rows_stay lru));
          legal = λ m. at_put w.log k l' (λ i l. IsLegal shape (lock_named shape i) (entries l)) m
              (subst (IsLegal shape (lock_named shape k)) (sym es_is) (legal_more shape (lock_named shape k) es e (r.legal k) m0.allowed))
              (λ _. r.legal m);
          real = λ m. at_put w.log k l' (λ i l. i < lock_count shape → IsTrue (is_lock shape (lock_named shape i)) → IsAlwaysReal shape (lock_named shape i) (entries l)) m
              (λ below there_is. subst (IsAlwaysReal shape (lock_named shape k)) (sym es_is) (real_more shape (lock_named shape k) es e (r.real k below there_is)
              (subst (IsReal shape) (sym content_is ∙ ap (content shape (lock_named shape k)) es_is) (real_there shape (given shape w.core lock n') (step_keeps_places shape w.core (Give h.cpu lock n') bounds can r.placed) k back (put_here w.core.lists k n')))))
              (λ _. r.real m);
          unmarked = λ plain x is_set. marked_on s.views pass v nv at_pass
              (λ y inside. subst (λ (l : List Hold). IsIn y (marks_under (views.holds_below l) (passed_on e.part v.notes))) (sym is_held)
              (marks_gave shape v h e.part below v.notes plain may.noted y (subst (λ (l : List Hold). IsIn y (marks_under l v.notes)) is_held inside)))
              x (r.unmarked plain x is_set);
          homes = λ m within there_is. at_put4 w.core.holder w.log w.core.lists w.lost k None l' n' lo' (λ i ho l n lo. i < lock_count shape → IsTrue (is_lock shape (lock_named shape i)) → AtHome shape i ho (entries l) n lo (get_elem? (set s.homes k (some b)) i)) m
              (λ _ _. (
                (
                  b,
                  set_here s.homes k (some b) (omega (arith, r.slots, real)),
                  record {
                    here = may.here;
                    content_is = may.content_is;
                    told_is = sym content_is;
                    fits = m0.fits;
                    kept = recorded b.history _ (lo' ≡ true) _ (λ turns. (lo' ≡ false) × HasTurns (lock_named shape k) (entries l') turns) rec (λ lo _. lo)
                        (λ turns lo p. (lo, subst (λ (z : List Entry). HasTurns (lock_named shape k) z turns) (sym es_is) p.1));
                  },
                ),
                sym (ap lists_of content_is),
              ))
              (λ ne within there_is. subst (λ z. AtHome shape m (w.core.holder m) (entries (w.log m)) (w.core.lists m) (w.lost m) z) (sym (set_else s.homes k m (some b) ne)) (r.homes m within there_is)) within there_is;
          seated = λ x less. subst (λ (z : ℕ). w.pass_of_cpu x < z) (sym (length-set s.views pass nv)) (r.seated x less);
          tagged = λ m. tagged_stays w w' (length s.views) (length (set s.views pass nv)) (put w.log k l' m) (sym (length-set s.views pass nv)) same
              (at_put w.log k l' (λ i l. AreTagged w (length s.views) l) m
              (tagged_more w (length s.views) (w.log k) (w.current pass, e) (r.tagged k) record {
                seated = subst (λ (z : ℕ). z < length s.views) (sym kn.strand.pass_of_strand) (there s.views pass v at_pass);
                numbered = kn.strand.numbered;
                has_cpu = ap (is_among e.cpu) kn.strand.cpus_of_strand ∙ m0.cpu;
                listed = subst (λ (z : ℕ). is_among (w.current pass) (w.current z ∷ w.past z) ≡ true) (sym kn.strand.pass_of_strand) (among_first (w.current pass) (w.past pass));
              })
              (λ _. r.tagged m));
          in_time = time_more w.touches (w.current pass, last) r.in_time refl;
          gave_back = λ m within. at_put w.log k l' (λ i l. givers i (touches_with w pass last) ≡ strands_of l) m
              (givers_here k w.touches (w.current pass, last) at_lock refl ∙ (ap (λ (z : List ℕ). z ++ w.current pass ∷ []) (r.gave_back k real) ∙ sym (strands_more (w.log k) (w.current pass, e))))
              (λ ne. givers_other m w.touches (w.current pass, last) (λ y _. ne (sym y ∙ at_lock)) ∙ r.gave_back m within);
          lead = λ m within. subst (λ (z : ℕ). LeadTo m (get_or (opening_words shape) m 0) (w.touches ++ (w.current pass, record { at = made w; word = z; seen = None; left = 0 }) ∷ []) (get_or (set s.words k 0) m 0)) (sym at_lock)
              (lead_with shape s r (w.current pass) record { at = made w; word = k; seen = None; left = 0 } (omega (arith, r.words, real)) tt m within);
          tickets = subst (λ (z : ℕ). Tickets shape z (logs_of w') w'.lost w'.pass_of_cpu (set s.views pass nv)) (sym (get_or-set_other s.words k (ticket_word shape) 0 0 (λ y. omega (arith, real))))
              (tickets_given shape (get_or s.words (ticket_word shape) 0) (logs_of w) (logs_of w') w.lost w'.lost w.pass_of_cpu s.views pass k v nv e new_turn at_pass
              (theirs_there shape s r) record { own = h; held_are = is_held ∙ ap (λ (l : List Hold). h ∷ l) (sym (ap views.holds_below is_held)); moment_is = refl; lock_is = refl; earlier_is = refl; ascends = kn.ascends; inside = may.inside }
              (ap (log_held k) is_held ∙ (subst (λ (z : ℕ). log_held z (h ∷ below) ≡ Some h.log) at_lock (ap (option_map (λ (z : Hold). z.log)) (hold_at_first h below)) ∙ ap Some log_is)) real (subst (λ (d : DomainId). IsTrue (is_lock shape d)) (sym (named_by_number shape lock is)) is)
              (ap entries (put_here w.log k l') ∙ es_is) (λ m ne. ap entries (put_else w.log k l' m ne)) (λ m ne. put_else w.lost k lo' m ne)
              (λ stays. let lo = sym (put_here w.lost k lo') ∙ stays in
              (either_record b.history _ _ _ may.ticketed (λ lost _. true_false (sym lost ∙ lo)) (λ _ _ drawn. drawn), either_record b.history _ _ _ rec (λ lost _. true_false (sym lost ∙ lo)) (λ _ _ p. p.0)))
              may.taken may.numbered refl refl refl refl refl refl r.tickets);
          owners = λ lru none. subst (λ (z : ℕ). Owners shape z w.core.owner w.core.home w'.hash (logs_of w') (set s.views pass nv)) (sym (get_or-set_other s.words k (ticket_word shape) 0 0 (λ y. omega (arith, real))))
              (owners_then s r at_pass nv refl (ap views.holds_below is_held) refl refl lru (λ m below there_is. losses m (none m below there_is)) (sym (put_here w.lost k lo') ∙ none k real (subst (λ (d : DomainId). IsTrue (is_lock shape d)) (sym (named_by_number shape lock is)) is))
              (λ lru x other. hash_there lru x other));
          of_strands = of_strands_with shape w pass v kn last w' (length s.views) (length (set s.views pass nv)) (there s.views pass v at_pass) (sym (length-set s.views pass nv)) same r.of_strands;
          knows = λ j u f. ⊎_elim
              (λ t. subst (λ (z : ℕ × View). PassKnows shape w' z.0 z.1) (λ i. (sym t.0 i, t.1 i)) record {
                shape_is = kn.shape_is;
                cpus = kn.cpus;
                within = kn.within;
                held = λ m. ap (hold_at m) (ap views.holds_below is_held) ∙ at_put4 w.core.holder w.log w.core.lists w.lost k None l' n' lo' (λ i ho l n lo. hold_at i below ≡ hold_of pass w.pass_of_cpu i ho l n lo) m
                    none_there
                    (λ ne. sym (ap (hold_at m) is_held ∙ hold_at_other m h below (λ y. ne (y ∙ at_lock))) ∙ kn.held m);
                ascends = subst (Ascends shape) (sym (ap views.holds_below is_held)) ranks.1;
                hands = kn.hands;
                carried = kn.carried;
                hashes = λ x d noted within found. let own = own_hashes s r at_pass x d noted within (λ lru. hash_there lru x) found in record { in_hand = own.0; bucket_is = own.1 };
                hashed = λ lru x d at real_x within in_hand at_home.
                    let m : ℕ = lock_number shape at in
                    let owner_is : w.core.owner x ≡ owners.Hand d = hand_is d (w.core.owner x) (both_true _ _ (sym (kn.hands x d within) ∙ in_hand)).0 in
                    let here : histories.Content = content_after v.shape e.cpu e.part (content v.shape (lock_named v.shape h.lock) h.log) in
                    let here_is : here ≡ back = ap (λ z. content_after z e.cpu e.part (content z (lock_named z h.lock) h.log)) kn.shape_is ∙ (sym may.may_put.told_is ∙ ap (λ (z : ℕ). content_told (lock_named shape z) may.here) at_lock) in
                    let came : List ℕ = views.came_last v.notes in
                    let hashes' : List HashIn = views.hashes_given h.cpu v.shape.buckets here came v.hand v.hashes in
                    let came' : List ℕ = views.came_at m (views.holds_below v.held) (passed_on e.part v.notes) in
                    subst (λ (t : Bool). IsHashed shape (put w.core.holder k None) (put w.log k l') (λ y. renewed t (stored_in back y) (w.hash y)) (cond (is_lru v.shape.kind) hashes' v.hashes) came' m x d) (sym lru)
                    (subst (λ (t : Bool). IsHashed shape (put w.core.holder k None) (put w.log k l') (λ y. renewed true (stored_in back y) (w.hash y)) (cond t hashes' v.hashes) came' m x d) (sym (ap (λ z. is_lru z.kind) kn.shape_is ∙ lru))
                    (hashed_gave shape w.core.holder w.core.lists w.core.owner w.core.home r.placed.place r.placed.placed w.log w.hash (r.hashes lru) k h.cpu held_now may.here m0.fits l' content_is m0.same_rows innermost fresh (fresh_there s r at_pass) come (come_to_hand s r at_pass) (rowed_there s r at_pass lru) (rows_stay lru)
                    v.hashes hashes' (views.came_at m v.held v.notes) came' m x d
                    (no_bucket_home shape w.core.lists w.core.owner w.core.home r.placed.place r.placed.placed lru x at real_x at_home)
                    (listed_at_home shape w.core.holder w.core.lists w.core.owner w.core.home r.placed.place r.placed.placed w.log x at real_x (ap is_free owner_is) at_home)
                    (λ noted found. given_kept here h.cpu v.shape.buckets came x d v.hashes v.hand record { noted = noted; last = found })
                    (λ mine inside same_lock n stored. given_new here h.cpu v.shape.buckets came x d v.hashes n v.hand in_hand mine (ap (is_among x) (sym came_is) ∙ (ap (λ (z : ℕ). is_among x (views.came_at z v.held v.notes)) (sym same_lock) ∙ inside)) (ap (λ z. stored_in z x) here_is ∙ stored))
                    (λ ne. ap (λ (l : List Hold). views.came_at m (views.holds_below l) (passed_on e.part v.notes)) is_held ∙ (came_passed e.part m below v.notes ∙ (sym (came_other m h below v.notes (λ y. ne (y ∙ at_lock))) ∙ ap (λ (l : List Hold). views.came_at m l v.notes) (sym is_held))))
                    (kn.hashed lru x d at real_x within in_hand at_home)));
                rowed = λ lru m x other found no_bucket inside.
                    let there_is : hold_at m below ≡ Some other = ap (hold_at m) (sym (ap views.holds_below is_held)) ∙ found in
                    let ne : m ≢ k = λ same. none_some (sym none_there ∙ (ap (λ (z : ℕ). hold_at z below) (sym same) ∙ there_is)) in
                    let apart : m ≢ h.lock = λ y. ne (y ∙ at_lock) in
                    let was : hold_at m v.held ≡ Some other = ap (hold_at m) is_held ∙ (hold_at_other m h below apart ∙ there_is) in
                    let is = hold_of_is w.pass_of_cpu pass m (w.core.holder m) (w.log m) (w.core.lists m) (w.lost m) other (sym (kn.held m) ∙ was) in
                    let listed : IsIn x (rows (w.core.lists m)) = subst (λ (z : Hold). IsIn x (rows z.now)) is.hold_is inside in
                    ⊎_elim
                    (λ (had : stored_in (content shape (lock_named shape m) other.log) x ≡ Some (w.hash x)). inl (had ∙ ap Some (sym (hash_else m x no_bucket ne listed))))
                    (λ (came : is_among x (views.came_at m v.held v.notes) ≡ true). inr (ap (is_among x)
                    (ap (λ (l : List Hold). views.came_at m (views.holds_below l) (passed_on e.part v.notes)) is_held ∙ (came_passed e.part m below v.notes ∙ (sym (came_other m h below v.notes apart) ∙ ap (λ (l : List Hold). views.came_at m l v.notes) (sym is_held)))) ∙ came))
                    (kn.rowed lru m x other was no_bucket inside);
                homes_read = homes_more shape w.touches (w.current pass, last) v.homes_read kn.homes_read;
                readings = λ x d read within found. let was = kn.readings x d read within found in record { real = was.real; in_hand = was.in_hand; counted = counted_more shape w.touches (w.current pass, last) read.at read.turns read.home was.counted; still = still_there x read was.real was.counted was.still };
                known = λ m log. by_bool (has_all v) (λ t. known_log m (cond t (record { lock = h.lock; log = h.log ++ e ∷ [] } ∷ v.known) v.known) ≡ Some log → entries (put w.log k l' m) ≡ log)
                    (λ _. at_put w.log k l' (λ i l. cond (eqb h.lock i) (Some (h.log ++ e ∷ [])) (known_log i v.known) ≡ Some log → entries l ≡ log) m
                    (by_test h.lock k (λ t. cond t (Some (h.log ++ e ∷ [])) (known_log k v.known) ≡ Some log → entries l' ≡ log)
                    (λ _ f. es_is ∙ (ap (λ (z : List Entry). z ++ e ∷ []) (sym log_is) ∙ some_is f)) (λ n. absurd (n at_lock)))
                    (λ ne. by_test h.lock m (λ t. cond t (Some (h.log ++ e ∷ [])) (known_log m v.known) ≡ Some log → entries (w.log m) ≡ log) (λ y. absurd (ne (sym y ∙ at_lock))) (λ _ f. kn.known m log f)))
                    (λ few f. ⊎_elim (λ empty. absurd (none_some (sym (ap (known_log m) empty.0) ∙ f))) (λ all. true_false (sym (all_here v.shape.cpus v.cpus (λ c lt. all c (subst (λ z. c < z.cpus) kn.shape_is lt))) ∙ few)) kn.only);
                bits = kn.bits;
                only = by_bool (has_all v) (λ t. ((cond t (record { lock = h.lock; log = h.log ++ e ∷ [] } ∷ v.known) v.known ≡ []) × (v.bits ≡ [])) ⊎ ((c : ℕ) → c < shape.cpus → is_among c v.cpus ≡ true))
                    (λ all. inr (λ c lt. here_all v.shape.cpus v.cpus all c (subst (λ z. c < z.cpus) (sym kn.shape_is) lt)))
                    (λ _. kn.only);
                losses = λ m among. ⊎_elim
                    (λ (before : is_among m v.lost ≡ true). lock_still_lost shape w w' m (losses m) (kn.losses m before))
                    (λ (here : (m ≡ k) × (lo' ≡ true)). record {
                      below = subst (λ (z : ℕ). z < lock_count shape) (sym here.0) real;
                      there = subst (λ (d : DomainId). IsTrue (is_lock shape d)) (sym (ap (lock_named shape) here.0 ∙ named_by_number shape lock is)) is;
                      lost = at_put w.lost k lo' (λ i lo. i ≡ k → lo ≡ true) m (λ _. here.1) (λ ne same. absurd (ne same)) here.0;
                    })
                    (is_lost m among);
                noted = subst (λ (l : List Hold). AreNoted shape (v.touched ++ last ∷ []) l (passed_on e.part v.notes)) (sym (ap views.holds_below is_held))
                    (noted_gave shape v.touched last h below v.notes e.part refl ranks.0 (subst (λ (l : List Hold). AreNoted shape v.touched l v.notes) is_held kn.noted));
                strand = record {
                  pass_of_strand = kn.strand.pass_of_strand;
                  numbered = kn.strand.numbered;
                  cpus_of_strand = kn.strand.cpus_of_strand;
                  steps_are = λ m. at_put w.log k l' (λ i l. turns_on i (v.steps ++ new_turn ∷ []) ≡ turns_of (w.current pass) 0 l) m
                      (on_here ∙ (ap (λ z. z ++ (length h.log, e) ∷ []) (kn.strand.steps_are k)
                      ∙ (ap (λ (n : ℕ). turns_of (w.current pass) 0 (w.log k) ++ (n, e) ∷ []) counted ∙ sym (turns_of_same (w.current pass) 0 (w.log k) e))))
                      (λ ne. on_else m ne ∙ kn.strand.steps_are m);
                  stand = stand_behind (logs_of w') v.steps new_turn (stand_more (logs_of w) (logs_of w') v.steps grown kn.strand.stand) record {
                    later = [];
                    log_is = ap (λ (z : ℕ). entries (put w.log k l' z)) at_lock ∙ (ap entries (put_here w.log k l') ∙ (es_is ∙ ap (λ (z : List Entry). z ++ e ∷ []) (sym log_is)));
                  };
                  kept_are = λ m within there_is. at_put w.lost k lo' (λ i lo. i < lock_count shape → IsTrue (is_lock shape (lock_named shape i)) → lo ≡ false → places_on (lock_named shape i) kept ≡ indexes (turns_on i (v.steps ++ new_turn ∷ []))) m
                      (λ within there_is lo. either_record b.history _ _ _ rec (λ lost _. true_false (sym lost ∙ lo))
                      (λ x _ p. ap (places_on (lock_named shape k)) p.2 ∙ (places_on_same (lock_named shape k) v.kept (views.kept_step shape k (length es)) (same_lock (lock_named shape k))
                      ∙ (ap (λ (z : List ℕ). z ++ length es ∷ []) (kn.strand.kept_are k within there_is p.0)
                      ∙ sym (ap indexes on_here ∙ (indexes_more (turns_on k v.steps) ((length h.log, e) ∷ []) ∙ ap (λ (n : ℕ). indexes (turns_on k v.steps) ++ n ∷ []) (ap length log_is)))))))
                      (λ ne within there_is lo. kept_else m ne ∙ (kn.strand.kept_are m within there_is lo ∙ ap indexes (sym (on_else m ne)))) within there_is;
                  touched_are = mine_more shape w pass v kn last;
                };
                past = past_stays shape w w' pass (w.past pass) v.ended same
                    (λ t m among own. at_put w.log k l' (λ i l. turns_of t 0 l ≡ turns_of t 0 (w.log i)) m (turns_of_other t (w.current pass) 0 (w.log k) e (λ is_same. true_false (sym among ∙ (ap (λ (z : ℕ). is_among z (w.past pass)) (sym is_same) ∙ kn.apart)))) (λ _. refl))
                    losses (λ t among _. past_same shape w pass v kn last t among) kn.past;
                apart = kn.apart;
                idle = λ empty. true_false (sym m0.cpu ∙ ap (is_among e.cpu) empty);
              })
              (λ t. let ku = r.knows j u t.1 in let no_more = knows_none shape w pass j u h.cpu ku (r.ranked.within h.cpu k at.holder_is) at.mine t.0 in
              others shape w w' j u same ku
              (λ m. at_put4 w.core.holder w.log w.core.lists w.lost k None l' n' lo' (λ i ho l n lo. hold_of j w.pass_of_cpu i ho l n lo ≡ hold_of j w.pass_of_cpu i (w.core.holder i) (w.log i) (w.core.lists i) (w.lost i)) m
              (sym (hold_of_other w.pass_of_cpu pass j k (w.core.holder k) (w.log k) (w.core.lists k) (w.lost k) mine_lock t.0))
              (λ _. refl))
              (λ _ _ _. refl)
              (λ _ _ _. refl)
              (λ tag m own. at_put w.log k l' (λ i l. turns_of tag 0 l ≡ turns_of tag 0 (w.log i)) m
              (turns_of_other tag (w.current pass) 0 (w.log k) e (λ is_same. t.0 (sym own ∙ (ap w.pass_of_strand (sym is_same) ∙ kn.strand.pass_of_strand)))) (λ _. refl))
              losses
              (λ m log f. absurd (none_some (sym (ap (known_log m) no_more.0) ∙ f)))
              ku.bits
              (λ x d in_hand theirs. by_bool (is_lru shape.kind) (λ t. is_lru shape.kind ≡ t → renewed t (stored_in back x) (w.hash x) ≡ w.hash x)
              (λ lru _. hash_there lru x (by_bool (fresh x) (λ t. t ≡ false)
              (λ yes. absurd (t.0 (sym theirs ∙ (ap w.pass_of_cpu (same_hands d h.cpu (sym in_hand ∙ fresh_there s r at_pass x yes)) ∙ at.mine)))) (λ _. refl)))
              (λ _ _. refl) refl)
              (λ _ _ _ _ _ _ at. inl at)
              (λ m x other found no_bucket inside.
              let is = hold_of_is w.pass_of_cpu j m (w.core.holder m) (w.log m) (w.core.lists m) (w.lost m) other (sym (ku.held m) ∙ found) in
              hash_else m x no_bucket (λ m_is. t.0 (sym is.mine ∙ (ap w.pass_of_cpu (some_is (sym is.holder_is ∙ (ap w.core.holder m_is ∙ held_now))) ∙ at.mine))) (subst (λ (z : Hold). IsIn x (rows z.now)) is.hold_is inside))
              (λ tag own. other_same shape w pass v kn last j tag t.0 own)
              (λ read. counted_more shape w.touches (w.current pass, last) read.at read.turns read.home)
              (λ x d read real _ _ counted still. still_there x read real counted still))
              (at_set s.views pass j nv u f);
        },
        record {
          enabled = subst (λ (d : DomainId). CanGive shape w.core h.cpu lock (lists_of (content_told d may.here))) (named_by_number shape lock is) can;
          changed = ap (λ (d : DomainId). given shape w.core lock (lists_of (content_told d may.here))) (named_by_number shape lock is);
        },
      )

  pub gives_back : StepsAs shape slots pass (v, (lock_number shape lock, b) ∷ cs) (lock_number shape lock) (λ _. 0) (goes_by shape (Give h.cpu lock (lists_of (content_told lock may.here)))) (λ _. GivesBack e kept (v, (lock_number shape lock, b) ∷ cs))
  gives_back s r wide at_pass _ = (
    views.given (made r.world) h e kept v,
    gives,
    tt,
    gave_rule s r at_pass v.lost (λ m among. inl among),
    record { hold = h; below = below; innermost = is_held; kept_is = kept_or_lost shape v h e kept b (r.knows pass v at_pass).shape_is may.records; numbered = may.numbered; ticket_is = has_ticket v e kept b shape h may.records may.ticketed; at = made r.world; after_is = refl },
  )

  -- what is put back is what the turn makes of what lay there, and the lock's turns go on by it
  pub gives_lead : (lost : List ℕ) → (lost ≡ v.lost) ⊎ ((b.history ≡ None) × (lost ≡ h.lock ∷ v.lost)) → (s : State Behind View) (r : Rule shape s) → get_elem? s.views pass ≡ some v
      → (at : ℕ) × ((after : Rule shape (stepped s (lock_number shape lock) 0 pass ((lock_number shape lock, b) ∷ cs) (views.with_lost lost (views.given at h e kept v)) gives)) × LeadsOn shape (lock_number shape lock) e b (logs_of r.world) (logs_of after.world))
  unfolding gave_rule gave_world lost_of
  gives_lead lost lost_is s r at_pass =
      let k : ℕ = lock_number shape lock in
      let w = r.world in let kn = r.knows pass v at_pass in
      let m = put_back_there w kn in
      let known : (m : ℕ) → is_among m lost ≡ true → (is_among m v.lost ≡ true) ⊎ ((m ≡ k) × (lost_of b.history ≡ true)) = λ m among. ⊎_elim
      (λ (same : lost ≡ v.lost). inl (ap (is_among m) (sym same) ∙ among))
      (λ (more : (b.history ≡ None) × (lost ≡ h.lock ∷ v.lost)). by_test h.lock m (λ t. cond t true (is_among m v.lost) ≡ true → (is_among m v.lost ≡ true) ⊎ ((m ≡ k) × (lost_of b.history ≡ true)))
      (λ same _. inr (sym same ∙ at_lock, ap lost_of more.0)) (λ _ f. inl f) (ap (is_among m) (sym more.1) ∙ among))
      lost_is in
      let rule = gave_rule s r at_pass lost known in (
        made w,
        (
          rule.0,
          record {
            here = may.here;
            content_is = may.content_is;
            allowed = m.allowed;
            told_is = m.told_is;
            log_is = ap entries (put_here w.log k (w.log k ++ (w.current pass, e) ∷ [])) ∙ entries_more (w.log k) (w.current pass, e);
            others = λ j ne. ap entries (put_else w.log k (w.log k ++ (w.current pass, e) ∷ []) j ne);
          },
        ),
      )

-- the same, at the seat and the number that a caller has
pub gives_at : (shape : Shape) (slots pass : ℕ) (me : Seated) (b : Behind) (cs : List (ℕ × Behind)) (h : Hold) (below : List Hold) (k : ℕ) (e : Entry) (kept : List StrandStep) → me.1 ≡ (k, b) ∷ cs → me.0.held ≡ h ∷ below → h.lock ≡ k → IsTrue (is_lock shape (lock_named shape k))
    → MayGive shape me.0 h e kept b → Allows (Rule shape) slots pass me k (λ _. 0) (λ _. GivesBack e kept me)
gives_at shape slots pass me b cs h below k e kept slots_are held at_lock is may =
    let num = number_of_named shape k in
    subst (λ (z : ℕ × List (ℕ × Behind)). Allows (Rule shape) slots pass (me.0, z.1) z.0 (λ _. 0) (λ _. GivesBack e kept (me.0, z.1))) (λ i. (num i, (ap (λ (y : ℕ). (y, b) ∷ cs) num ∙ sym slots_are) i))
    (allows_of shape slots pass (me.0, (lock_number shape (lock_named shape k), b) ∷ cs) (lock_number shape (lock_named shape k)) (λ _. 0) (goes_by shape (Give h.cpu (lock_named shape k) (lists_of (content_told (lock_named shape k) may.here)))) (λ _. GivesBack e kept (me.0, (lock_number shape (lock_named shape k), b) ∷ cs))
    (gives_back shape slots pass me.0 b cs (lock_named shape k) h below held is (at_lock ∙ sym num) e kept may))

-- where the strand has no step more, no history is there
none_recorded : (shape : Shape) (v : View) (h : Hold) (e : Entry) (b : Behind) → IsRecorded shape v h e v.kept b → lost_of b.history ≡ true
none_recorded shape v h e b rec =
    either_record b.history _ _ _ rec (λ lost _. lost) (λ x _ p. absurd (longer v.kept (views.kept_step shape h.lock (length h.log)) p.2))
  where
    longer : (steps : List StrandStep) (step : StrandStep) → steps ≡ steps ++ step ∷ [] → ⊥
    longer steps step same = let counted = ap length same ∙ length-append steps (step ∷ []) in omega arith

-- the same with no record, by some part of a CPU and a call
pub gives_some : (shape : Shape) (slots pass : ℕ) (me : Seated) (b : Behind) (h : Hold) (below : List Hold) (k cpu call : ℕ) (part : Part) (notes : Notes) (notes_below : List Notes) → me.1 ≡ (k, b) ∷ rest me.1 → me.0.held ≡ h ∷ below → h.lock ≡ k → IsTrue (is_lock shape (lock_named shape k))
    → MayGive shape me.0 h (entry_by (ticket_of me.0) cpu call part) me.0.kept b → me.0.notes ≡ notes ∷ notes_below → NotesFit shape me.0 h part notes → Allows (Rule shape) slots pass me k (λ _. 0) (λ _. GivesSome cpu call me)
gives_some shape slots pass me b h below k cpu call part notes notes_below slots_are held at_lock is may notes_are notes_fit s r wide at_pass small =
    let num = number_of_named shape k in
    let e : Entry = entry_by (ticket_of me.0) cpu call part in
    let kn = r.knows pass me.0 at_pass in
    let rule = gave_rule shape slots pass me.0 b (rest me.1) (lock_named shape k) h below held is (at_lock ∙ sym num) e me.0.kept may s r at_pass (h.lock ∷ me.0.lost)
    (λ m among. by_test h.lock m (λ t. cond t true (is_among m me.0.lost) ≡ true → (is_among m me.0.lost ≡ true) ⊎ ((m ≡ lock_number shape (lock_named shape k)) × (lost_of b.history ≡ true)))
    (λ same _. inr (sym same ∙ (at_lock ∙ sym num), none_recorded shape me.0 h e b may.records)) (λ _ f. inl f) among) in (
      views.losing (made r.world) h e me.0,
      gives,
      tt,
      subst (λ (z : ℕ × List (ℕ × Behind)). Rule shape record { words = set s.words z.0 0; homes = put_back s.homes z.1; views = set s.views pass (views.losing (made r.world) h e me.0) }) (λ i. (num i, (ap (λ (y : ℕ). (y, b) ∷ rest me.1) num ∙ sym slots_are) i)) rule.0,
      record {
        hold = h;
        below = below;
        behind = b;
        part = part;
        innermost = held;
        slot = slots_are ∙ ap (λ (y : ℕ). (y, b) ∷ rest me.1) (sym at_lock);
        may = subst (λ z. MayGive z me.0 h e me.0.kept b) (sym kn.shape_is) may;
        notes = notes;
        notes_below = notes_below;
        notes_are = notes_are;
        notes_fit = subst (λ z. NotesFit z me.0 h part notes) (sym kn.shape_is) notes_fit;
        at = made r.world;
        after_is = refl;
      },
    )
