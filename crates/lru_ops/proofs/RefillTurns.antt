-- The own local lists are refilled within a turn of theirs, and their head is given out, if any came.
use Rattle.std.proofs.Common.{inl, inr, ◌≡◌, ◌≢◌, ℕ, ◌<◌, cond, eqb, true, Bool, List, [], ◌∷◌, ◌++◌, map, sym, refl, ap, ◌∙◌, subst, Option, Some, None, suc, arith}
use Rattle.std.specs.Prelude.{◌⊎◌, ◌&&◌, drop, reverse, slice_get, option_map, IfSome, IsTrue, All, MatchBool}
use Rattle.std.proofs.lemmas.List.{map-append, reverse-reverse}
use Rattle.std.specs.List.{AllByRecursion}
use Rattle.std.proofs.lemmas.List.Elements.{recursion_from_All, All-nil, All-cons}
use Rattle.map_types.specs.declared.kind.DomainId.TheVariants.{Local}
use Rattle.map_types.specs.declared.row.Row.{Row}
use Rattle.map_types.specs.ElementLists.{times, IsIn}
use Rattle.map_types.specs.Listed.{elements_of}
use Rattle.map_types.specs.Stored.{Stored}
use Rattle.map_types.proofs.RowLemmas.{by_test}
use Rattle.place_words.specs.declared.owner.Owner.TheVariants as owners
use Rattle.place_words.specs.declared.history.Part.{Part}
use Rattle.place_words.specs.declared.history.Part.TheVariants as parts
use Rattle.place_words.specs.declared.list_part.LocalPart.{LocalPart}
use Rattle.place_words.specs.declared.list_part.LocalPart.TheVariants as local
use Rattle.place_words.specs.declared.visits.Flush.{Flush}
use Rattle.place_words.specs.declared.visits.Visit.{Visit}
use Rattle.place_words.specs.Bodies.{numbers}
use Rattle.place_words.specs.Globals.{flush_visit, flushed_elements, flushed_rows}
use Rattle.place_words.specs.Histories.{in_locals, content}
use Rattle.place_words.specs.Locals.{AllowsOnLocal, local_after}
use Rattle.place_words.specs.Locks.{is_lock, lock_number}
use Rattle.place_words.specs.Rotation.{visited_elements}
use Rattle.place_words.specs.Takings.{Refills, TakesByRefill, TakesFree, TakesOwn, freed_by, stored_hash}
use Rattle.place_words.specs.declared.step.Lists.{Lists}
use Rattle.place_words.specs.State.{rows}
use Rattle.place_words.proofs.ElementLemmas.{times_cons_same}
use Rattle.place_table.specs.declared.content.Content.{Content as Slot}
use Rattle.place_table.specs.declared.content.Content.TheVariants as contents
use Rattle.place_table.specs.declared.view.BitAsked.{BitAsked}
use Rattle.place_table.specs.declared.view.Hold.{Hold}
use Rattle.place_table.specs.declared.view.Notes.{Notes}
use Rattle.place_table.specs.declared.view.Turned.{Turned}
use Rattle.place_table.specs.Calls.{CanCall, bits_of_turns, clears_bit}
use Rattle.place_table.specs.Flushes.{is_visited}
use Rattle.place_table.specs.Known.{Learns, turn_at}
use Rattle.place_table.specs.Nested.{AreOutside}
use Rattle.place_table.specs.Passes.{PassView, TableView, CanGive, Gave, GaveBack, Goes, MayGiveBack, TookLock}
use Rattle.place_table.specs.TurnNotes.{WasRead, ProbeFits, CameToHand, clears_among}
use Rattle.place_table.specs.Views.{is_among, is_in_hand_of, notes_below, bucket_known, with_in_hand, hold_with}
use Rattle.place_table.specs.Owners.{owner_left}
use Rattle.place_table.specs.declared.view.OwnerSeen.{OwnerSeen}
use Rattle.place_table.proofs.Came.{came_among}
use Rattle.place_table.proofs.Entries.{append_nil}
use Rattle.place_table.proofs.Going.{AreElsewhere, given_turn, goes_on, goes_of_table, goes_begun, learns_on, same_head}
use Rattle.place_table.proofs.StoredHashes.{stored_is_in}
use Rattle.place_table.proofs.Worlds.{none_some, true_false}
use Rattle.row_list.proofs.ElementLemmas.{times_reverse}
use Rattle.row_list.proofs.RowLemmas.{elements_reverse}
use Rattle.local_lists.specs.LocalLists.{LocalView, local_told}
use Rattle.local_lists.proofs.ToldLemmas.{popped_numbers}
use Rattle.lru_ops.specs.declared.refill.Refilled.{Refilled}
use Rattle.lru_ops.specs.Refills.{CanRefill, FilledFrom}
use Rattle.lru_ops.specs.Lists.{MapEvicts, Acquired, GaveNone}
use Rattle.lru_ops.specs.LocalWork.{CanMakePending, MadePending, MakesPending}
use Rattle.lru_ops.specs.Shared.{CanTakeShared, IsRefillPart, RefilledNone}
use Rattle.lru_ops.proofs.BroughtHome.{given_hash, row_behind, row_first}
use Rattle.lru_ops.proofs.Ends.{changed_all, in_no_hand}
use Rattle.lru_ops.proofs.GivingOut.{head_got}
use Rattle.lru_ops.proofs.Holders.{saw_on_none}
use Rattle.lru_ops.proofs.LocalTurns.{OnLocal, ReadyAround, to_q, taken_held, taken_noted, named_around, lists_around, can_give_around, may_give_around, changed_around, saw_around, hashes_around, stored_pending}
use Rattle.lru_ops.proofs.MadePending.{now_given, to_given, held_given, noted_with, noted_given, hand_given, in_hand_given, carried_given, spares_given, learns_given, saw_given, free_given, pending_given}
use Rattle.lru_ops.proofs.OwnTurns.{GaveAs, gave_as, gave_some_as, lock_among}
use Rattle.lru_ops.proofs.Popped.{on_taken}

-- What was flushed

visited_flushed : (flushed : List Flush) → visited_elements (map flush_visit flushed) ≡ flushed_elements flushed
visited_flushed [] = refl
visited_flushed (flush ∷ flushed) = ap (λ (l : List ℕ). flush.element ∷ l) (visited_flushed flushed)

pub elements_flushed : (flushed : List Flush) → elements_of (flushed_rows flushed) ≡ flushed_elements flushed
elements_flushed [] = refl
elements_flushed (flush ∷ flushed) = ap (λ (l : List ℕ). flush.element ∷ l) (elements_flushed flushed)

-- all that was pending, the tail first
all_flushed : (flushed : List Flush) (pending : List Row) → flushed_rows flushed ≡ reverse pending → flushed_elements flushed ≡ reverse (elements_of pending)
all_flushed flushed pending are = sym (elements_flushed flushed) ∙ (ap elements_of are ∙ elements_reverse pending)

flushed_is_visited : (e : ℕ) (flushed : List Flush) → IsIn e (flushed_elements flushed) → is_visited e (map flush_visit flushed) ≡ true
flushed_is_visited e [] inside = absurd (let none : 0 < 0 = inside in omega (arith, none))
flushed_is_visited e (flush ∷ flushed) inside =
    by_test flush.element e (λ b. 0 < cond b (suc (times e (flushed_elements flushed))) (times e (flushed_elements flushed)) → cond b true (is_visited e (map flush_visit flushed)) ≡ true)
    (λ _ _. refl) (λ _ later. flushed_is_visited e flushed later) inside

all_among : (P : ℕ → Type 0) (xs : List ℕ) → ((e : ℕ) → IsIn e xs → P e) → All P xs
all_among P [] each = All-nil P
all_among P (x ∷ xs) each =
    All-cons P x xs (each x (let here = times_cons_same x xs in omega (arith, here)))
    (all_among P xs (λ e inside. each e (by_test x e (λ b. 0 < cond b (suc (times e xs)) (times e xs)) (λ _. omega arith) (λ _. inside))))

off_visited : (flushed : List Flush) → All (λ e. is_visited e (map flush_visit flushed) ≡ true) (reverse (flushed_elements flushed))
off_visited flushed =
    all_among (λ e. is_visited e (map flush_visit flushed) ≡ true) (reverse (flushed_elements flushed))
    (λ e inside. flushed_is_visited e flushed (let same = times_reverse e (flushed_elements flushed) in let some : 0 < times e (reverse (flushed_elements flushed)) = inside in omega (arith, same, some)))

-- what was pending was flushed
pending_flushed : (x h : ℕ) (flushed : List Flush) (pending : List Row) → flushed_rows flushed ≡ reverse pending → stored_hash x pending ≡ Some h → is_visited x (map flush_visit flushed) ≡ true
pending_flushed x h flushed pending are stored =
    let inside : 0 < times x (elements_of pending) = stored_is_in x h pending stored in
    let same = times_reverse x (elements_of pending) in
    let all : times x (flushed_elements flushed) ≡ times x (reverse (elements_of pending)) = ap (times x) (all_flushed flushed pending are) in
    flushed_is_visited x flushed (omega (arith, inside, same, all))

empty_reverse : (xs : List ℕ) → [] ≡ reverse xs → xs ≡ []
empty_reverse xs is = sym (reverse-reverse xs) ∙ ap reverse (sym is)

apart_each : (k : ℕ) (steps : List Turned) → All (λ (step : Turned). step.lock ≢ k) steps → AreElsewhere k steps
apart_each k steps all = go steps (recursion_from_All (λ (step : Turned). step.lock ≢ k) steps all)
  where
    go : (steps : List Turned) → AllByRecursion (λ (step : Turned). step.lock ≢ k) steps → AreElsewhere k steps
    go [] all = tt
    go (step ∷ steps) all = (all.0, go steps all.1)

-- The own local lists were taken, and none was free.
module _ {t : TableView} {lists : LocalView} {p q : PassView} (b : OnLocal t p.cpu lists p q) (common : IsTrue t.shape.common) (calls : CanCall t p) (none_free : lists.free.bodies ≡ []) where
  pub can_refill : CanRefill t lists q
  can_refill = record {
    of_table = goes_of_table t p q [] [] (to_q b) b.of_table;
    begun = goes_begun p q [] [] (to_q b) b.begun;
    is_shape = b.is_shape;
    evicts = b.evicts;
    common = common;
    there = subst (λ (c : ℕ). IsTrue (is_lock t.shape (Local c))) (sym (to_q b).cpu) b.there;
    hold = b.took.hold;
    held = taken_held b;
    lock_is = b.took.lock_is ∙ ap (λ (c : ℕ). lock_number t.shape (Local c)) (sym (to_q b).cpu);
    cpu_is = b.took.cpu_is ∙ sym (to_q b).cpu;
    outside = subst (λ (z : PassView). AreOutside b.took.hold.lock b.took.hold.log z.view.steps) (sym b.took.after_is) b.took.outside;
    found = b.took.told_is ∙ ap (λ (c : ℕ). content t.shape (Local c) b.took.hold.log) (sym (to_q b).cpu);
    now = b.took.now;
    fits = b.took.fits;
    none_free = none_free;
    below = p.view.notes;
    noted = taken_noted b;
    hands_empty = λ e cpu among. ap (λ (z : PassView). is_in_hand_of e cpu z.view.hand) b.took.after_is ∙ in_no_hand calls b.evicts e cpu (ap (λ (z : PassView). is_among cpu z.view.cpus) (sym b.took.after_is) ∙ among);
  }

  -- They were refilled.
  module _ {filled : LocalView} {r : PassView} {told_refill : Option Refilled} (f : FilledFrom t lists filled q r told_refill) where
    abbrev hold : Hold
    hold = b.took.hold

    abbrev gained : List ℕ
    gained = f.free ++ freed_by f.shrink

    abbrev visits : List Visit
    visits = map flush_visit f.flushed

    hold_same : f.hold ≡ hold
    hold_same = same_head (sym f.was ∙ taken_held b)

    pub held_r : r.view.held ≡ hold_with hold f.now ∷ []
    held_r = f.held ∙ ap (λ (h : Hold). hold_with h f.now ∷ []) hold_same

    pub to_r : Goes p r f.steps f.lost
    to_r = subst (Goes p r f.steps) (append_nil f.lost) (goes_on p q r [] f.steps [] f.lost (to_q b) f.goes)

    abbrev pub can_make_filled : CanMakePending t filled r
    can_make_filled = record {
      of_table = goes_of_table t p r f.steps f.lost to_r b.of_table;
      begun = goes_begun p r f.steps f.lost to_r b.begun;
      there = subst (λ (c : ℕ). IsTrue (is_lock t.shape (Local c))) (sym to_r.cpu) b.there;
      hold = hold_with hold f.now;
      held = held_r;
      lock_is = b.took.lock_is ∙ ap (λ (c : ℕ). lock_number t.shape (Local c)) (sym to_r.cpu);
      cpu_is = b.took.cpu_is ∙ sym to_r.cpu;
      fits = f.fits;
      free_is = f.same_free;
    }

    abbrev pub refill_told : ℕ → Option ℕ → LocalPart
    refill_told hash got = local.Refill hash visits gained got

    allowed_refill : (hash : ℕ) (got : Option ℕ) → got ≡ slice_get (numbers filled.free.bodies) 0 → AllowsOnLocal t.shape (refill_told hash got) (local_told lists)
    allowed_refill hash got is = (
      ap numbers none_free,
      visited_flushed f.flushed ∙ all_flushed f.flushed lists.pending f.with_hashes,
      is ∙ ap (λ (l : List ℕ). slice_get l 0) f.free_is,
    )

    noted_below : notes_below q.view.notes ≡ f.below
    noted_below = ap notes_below f.was_noted

    elsewhere : AreElsewhere hold.lock f.steps
    elsewhere = subst (λ (k : ℕ). AreElsewhere k f.steps) (ap (λ (c : ℕ). lock_number t.shape (Local c)) (to_q b).cpu ∙ sym b.took.lock_is) (apart_each (lock_number t.shape (Local q.cpu)) f.steps f.elsewhere)

    none_on : (x n : ℕ) (pending : List Row) → pending ≡ [] → stored_hash x pending ≡ Some n → ⊥
    none_on x n pending none stored = none_some (ap (stored_hash x) (sym none) ∙ stored)

    -- Nothing came.
    left_nothing : (hash : ℕ) → filled.free.bodies ≡ [] → local_after (refill_told hash None) (local_told lists) ≡ local_told filled
    unfolding local_after
    left_nothing hash none =
        let free : drop 1 (reverse gained) ≡ numbers filled.free.bodies = ap (λ (l : List ℕ). drop 1 l) (sym f.free_is ∙ ap numbers none) ∙ sym (ap numbers none) in
        λ i. record { free = free i; pending = sym f.none_pending i; steal = sym f.steal_is i }

    pub ready_nothing : (hash : ℕ) → filled.free.bodies ≡ [] → ReadyAround t (refill_told hash None) lists filled hold q r
    ready_nothing hash none = record {
      steps = f.steps;
      inner = f.told_steps;
      inner_lost = f.lost;
      inner_told = f.told_are;
      goes = f.goes;
      by_call = f.by_call;
      elsewhere = elsewhere;
      inner_stay = f.stay;
      now = f.now;
      held = held_r;
      notes = f.notes;
      noted = f.noted ∙ ap (λ (l : List Notes). f.notes ∷ l) (sym noted_below);
      spares = f.spares;
      left = left_nothing hash none;
      allowed = allowed_refill hash None (sym (ap (λ (l : List Stored). slice_get (numbers l) 0) none));
      fits = f.fits;
      same_free = λ x. ap (times x) (sym f.same_free);
      same_rows = λ x. ap (λ (l : List Row). times x (elements_of l)) f.none_pending ∙ sym (f.no_rows x);
      rows_kept = λ x h n _ _ after. absurd (none_on x n filled.pending f.none_pending after);
      gone = λ x h before _. inr (pending_flushed x h f.flushed lists.pending f.with_hashes before);
      notes_fit = record {
        marks_are = f.no_marks;
        clears_are = ap (λ (l : List BitAsked). clears_among (reverse l)) f.none_asked;
        reads = All-nil (WasRead f.notes.asked);
        flushed = f.told_inside;
        off = subst (All (λ e. is_visited e visits ≡ true)) (sym f.off_is) (off_visited f.flushed);
        held = All-nil (ProbeFits f.notes.owners);
        came = All-nil (CameToHand r.view (hold_with hold f.now) f.notes);
      };
      owners_told = λ lock x owner. ap (λ (l : List OwnerSeen). owner_left l x owner) f.none_changed;
      stays = refl;
      saw = f.saw;
      learns = subst (Learns t.shape q.view r.view f.steps) (sym (append_nil (bits_of_turns t.shape f.told_steps))) f.learns;
    }

    -- The last that came was given out.
    module _ {hash : ℕ} {out : LocalView} {s : PassView} {body : Stored} (g : MadePending t hash filled out r s body) where
      abbrev can : CanMakePending t filled r
      can = can_make_filled

      abbrev e : ℕ
      e = body.element

      abbrev row : Row
      row = record { element = e; hash = hash }

      abbrev now : Lists
      now = now_given can g

      abbrev noted_here : Notes
      noted_here = noted_with can g f.notes

      pending_is : out.pending ≡ row ∷ []
      pending_is = pending_given can g ∙ ap (λ (l : List Row). row ∷ l) f.none_pending

      listed_now : (x : ℕ) → times x (rows now) ≡ times x (e ∷ [])
      listed_now x = ap (λ (n : ℕ). cond (eqb e x) (suc n) n) (f.no_rows x)

      left_given : local_after (refill_told hash (Some e)) (local_told lists) ≡ local_told out
      unfolding local_after
      left_given =
          let free : drop 1 (reverse gained) ≡ numbers out.free.bodies = ap (λ (l : List ℕ). drop 1 l) (sym f.free_is) ∙ sym (ap (λ (z : LocalView). numbers z.free.bodies) g.after_is ∙ popped_numbers filled.free) in
          λ i. record { free = free i; pending = sym pending_is i; steal = sym (ap (λ (z : LocalView). z.steal) g.after_is ∙ f.steal_is) i }

      goes_s : Goes q s f.steps f.lost
      goes_s = subst (λ (l : List Turned). Goes q s l f.lost) (append_nil f.steps) (goes_on q r s f.steps [] f.lost [] f.goes (to_given can g))

      pub ready_given : ReadyAround t (refill_told hash (Some e)) lists out hold q s
      ready_given = record {
        steps = f.steps;
        inner = f.told_steps;
        inner_lost = f.lost;
        inner_told = f.told_are;
        goes = goes_s;
        by_call = f.by_call;
        elsewhere = elsewhere;
        inner_stay = f.stay;
        now = now;
        held = held_given can g;
        notes = noted_here;
        noted = noted_given can g f.notes f.below f.noted ∙ ap (λ (l : List Notes). noted_here ∷ l) (sym noted_below);
        spares = spares_given can g ∙ f.spares;
        left = left_given;
        allowed = allowed_refill hash (Some e) (head_got filled.free.bodies (Some body) g.head);
        fits = g.fits;
        same_free = λ x. ap (times x) (sym (free_given can g));
        same_rows = λ x. ap (λ (l : List Row). times x (elements_of l)) pending_is ∙ sym (listed_now x);
        rows_kept = λ x h n not_mine _ after.
            let other : e ≢ x = λ same. true_false (sym ((λ i. in_hand_given can g i && came_among e (e ∷ f.notes.came) (let more = times_cons_same e f.notes.came in omega (arith, more)) i)) ∙ ((λ i. is_in_hand_of (same i) hold.cpu s.view.hand && is_among (same i) (e ∷ f.notes.came)) ∙ not_mine)) in
            absurd (none_some (sym (row_behind x row [] other) ∙ (ap (stored_hash x) (sym pending_is) ∙ after)));
        gone = λ x h before _. inr (pending_flushed x h f.flushed lists.pending f.with_hashes before);
        notes_fit = record {
          marks_are = f.no_marks;
          clears_are = ([], g.bit, [], ap (λ (l : List BitAsked). clears_among (reverse (record { element = e; bit = g.bit; cleared = true } ∷ l))) f.none_asked, refl);
          reads = All-nil (WasRead noted_here.asked);
          flushed = f.told_inside;
          off = subst (All (λ e. is_visited e visits ≡ true)) (sym f.off_is) (off_visited f.flushed);
          held = All-nil (ProbeFits f.notes.owners);
          came = All-cons (CameToHand s.view (hold_with hold now) noted_here) e [] ((let more = times_cons_same e f.notes.came in omega (arith, more)), in_hand_given can g) (All-nil (CameToHand s.view (hold_with hold now) noted_here));
        };
        owners_told = λ lock x owner. λ i. cond (eqb e x) (owners.Hand (f.goes.cpu i)) (owner_left (f.none_changed i) x owner);
        stays = refl;
        saw = saw_on_none t.shape q r s (f.steps ++ f.told_steps) f.saw (saw_given can g);
        learns = subst (λ (l : List Turned). Learns t.shape q.view s.view l (bits_of_turns t.shape f.told_steps ++ clears_bit e ∷ [])) (append_nil f.steps)
            (learns_on t.shape q.view r.view s.view f.steps [] (bits_of_turns t.shape f.told_steps) (clears_bit e ∷ []) f.learns (learns_given can g));
      }

    -- Once they are given back, the turns are those of a refill.
    module _ {hash : ℕ} {got : Option ℕ} {out : LocalView} {s u : PassView} {lost : List ℕ} (y : ReadyAround t (refill_told hash got) lists out hold q s) (actual : Part)
        (meant : CanGive t (Local p.cpu) s (contents.Local out) actual) (a : GaveAs t s u meant.hold actual lost) (told_as : (actual ≡ parts.Local (refill_told hash got)) ⊎ (is_among meant.hold.lock lost ≡ true)) where
      abbrev told_end : Turned
      told_end = given_turn s a.ticket meant.hold (parts.Local (refill_told hash got))

      pub refills_told : Refills t.shape p.cpu hash (local_told lists) got (map (turn_at t.shape) (f.told_steps ++ told_end ∷ []))
      refills_told = record {
        flushed = f.flushed;
        active = f.active;
        inactive = f.inactive;
        free = f.free;
        shrink = f.shrink;
        inner = map (turn_at t.shape) f.told_steps;
        last = turn_at t.shape told_end;
        turns_are = map-append (turn_at t.shape) f.told_steps (told_end ∷ []);
        chased = f.chased;
        last_is = λ i. record { lock = named_around b y actual meant a told_as i; part = parts.Local (refill_told hash got) };
        found_there = sym (lists_around b y actual meant a told_as);
        with_hashes = f.with_hashes;
      }

    -- with what was given out
    module _ {hash : ℕ} {out : LocalView} {s u : PassView} {body : Stored} {lost : List ℕ} (g : MadePending t hash filled out r s body) (actual : Part) (meant : CanGive t (Local p.cpu) s (contents.Local out) actual) (a : GaveAs t s u meant.hold actual lost)
        (told_as : (actual ≡ parts.Local (refill_told hash (Some body.element))) ⊎ (is_among meant.hold.lock lost ≡ true)) where
      got_filled : Acquired t hash p u (Some body)
      unfolding ready_given
      got_filled =
          let e : ℕ = body.element in
          let can : CanMakePending t filled r = can_make_filled in
          let y = ready_given g in
          let told : List Turned = f.told_steps ++ given_turn s a.ticket meant.hold (parts.Local (refill_told hash (Some e))) ∷ [] in
          let cpu_is : u.cpu ≡ p.cpu = a.goes.cpu ∙ ((to_given can g).cpu ∙ to_r.cpu) in
          let hand_r : r.view.hand ≡ p.view.hand = f.hand ∙ ap (λ (z : PassView). z.view.hand) b.took.after_is in
          let hand_s : s.view.hand ≡ with_in_hand e p.cpu p.view.hand = hand_given can g ∙ (λ i. with_in_hand e (to_r.cpu i) (hand_r i)) in
          let in_hand : is_in_hand_of e p.cpu s.view.hand ≡ true = ap (λ (c : ℕ). is_in_hand_of e c s.view.hand) (sym b.took.cpu_is) ∙ in_hand_given can g in
          record {
            steps = f.steps ++ given_turn s a.ticket meant.hold actual ∷ [];
            told = told;
            lost = lost ++ f.lost;
            changed = changed_all (changed_around b y actual meant a told_as) (a.carried ∙ (carried_given can g ∙ (f.carried ∙ ap (λ (z : PassView). z.view.carried) b.took.after_is)));
            trace = subst (λ (z : Bool). MatchBool z (TakesFree p.cpu hash (Some e) (map (turn_at t.shape) told) ⊎ TakesByRefill t.shape p.cpu hash (Some e) (map (turn_at t.shape) told)) (TakesOwn t.shape p.cpu hash (Some e) (map (turn_at t.shape) told))) (sym common)
                (inr (record {
                  lists = local_told lists;
                  gave = Some e;
                  refilling = map (turn_at t.shape) told;
                  stealing = [];
                  turns_are = sym (append_nil (map (turn_at t.shape) told));
                  refills = refills_told y actual meant a told_as;
                  steals = (refl, refl);
                }));
            hand = a.hand ∙ hand_s;
            taken = record {
              real = g.real;
              sized = g.sized;
              hashed = (λ i. bucket_known e (cpu_is i) (hashes_around b y actual meant a told_as i))
                  ∙ given_hash p.cpu t.shape.buckets e hash (in_locals (local_told out)) (e ∷ f.notes.came) s.view.hand s.view.hashes (came_among e (e ∷ f.notes.came) (let more = times_cons_same e f.notes.came in omega (arith, more)))
                  (stored_pending out e ∙ (ap (stored_hash e) (pending_is g) ∙ row_first e hash [])) in_hand;
            };
            none = tt;
            saw = saw_around b y actual meant a told_as;
          }

    -- with nothing
    module _ {hash cursor : ℕ} {u : PassView} {lost : List ℕ} (none : filled.free.bodies ≡ []) (cursor_is : cursor ≡ filled.steal) (actual : Part) (meant : CanGive t (Local p.cpu) r (contents.Local filled) actual) (a : GaveAs t r u meant.hold actual lost)
        (told_as : (actual ≡ parts.Local (refill_told hash None)) ⊎ (is_among meant.hold.lock lost ≡ true)) where
      filled_none : RefilledNone t hash cursor p u
      unfolding ready_nothing
      filled_none =
          let y = ready_nothing hash none in
          let last : Turned = given_turn r a.ticket meant.hold (parts.Local (refill_told hash None)) in
          let nothing : gained ≡ [] = empty_reverse gained (sym (ap numbers none) ∙ f.free_is) in
          record {
            steps = f.steps ++ given_turn r a.ticket meant.hold actual ∷ [];
            told = f.told_steps ++ last ∷ [];
            lost = lost ++ f.lost;
            changed = changed_all (changed_around b y actual meant a told_as) (a.carried ∙ (f.carried ∙ ap (λ (z : PassView). z.view.carried) b.took.after_is));
            evicts = b.evicts;
            inner = f.told_steps;
            last = last;
            told_is = refl;
            lists = local_told lists;
            none_free = ap numbers none_free;
            cursor_is = cursor_is ∙ f.steal_is;
            refills = refills_told y actual meant a told_as;
            found_there = sym (lists_around b y actual meant a told_as);
            flushed = visits;
            last_is = λ i. record { lock = named_around b y actual meant a told_as i; part = parts.Local (local.Refill hash visits (nothing i) None) };
            gave_none = subst (λ (c : ℕ). GaveNone t.shape c f.told_steps) (to_q b).cpu (f.none none);
            hand = a.hand ∙ (f.hand ∙ ap (λ (z : PassView). z.view.hand) b.took.after_is);
            saw = saw_around b y actual meant a told_as;
          }

    -- The part is what the refill told, or none.
    as_refill : (hash : ℕ) (got : Option ℕ) (given_part : Option Part) → IfSome given_part (IsRefillPart hash told_refill got) → IfSome given_part (λ x. x ≡ parts.Local (refill_told hash got))
    as_refill hash got given_part is = go given_part told_refill is f.told_is
      where
        go : (given_part : Option Part) (told : Option Refilled) → IfSome given_part (IsRefillPart hash told got) → IfSome told (λ (refilled : Refilled). (refilled.flushed ≡ visits) × (refilled.gained ≡ gained)) → IfSome given_part (λ x. x ≡ parts.Local (refill_told hash got))
        go None told is tells = tt
        go (Some x) None is tells = absurd is
        go (Some x) (Some refilled) is tells = is ∙ (λ i. parts.Local (local.Refill hash (tells.0 i) (tells.1 i) got))

    pub may_give_filled : (hash : ℕ) (out : LocalView) (s : PassView) (found : Option Stored) (given_part : Option Part) → MakesPending t hash filled out r s found
        → IfSome given_part (IsRefillPart hash told_refill (option_map (λ (body : Stored). body.element) found)) → MayGiveBack t (Local p.cpu) s (contents.Local out) given_part
    may_give_filled hash out s None given_part made is =
        subst (λ (z : LocalView × PassView). MayGiveBack t (Local p.cpu) z.1 (contents.Local z.0) given_part) (λ i. (sym made.1 i, sym made.2 i))
        (may_give_around b (ready_nothing hash made.0) given_part (as_refill hash None given_part is))
    may_give_filled hash out s (Some body) given_part made is = may_give_around b (ready_given made) given_part (as_refill hash (Some body.element) given_part is)

    pub filled_got : {hash : ℕ} {out : LocalView} {s u : PassView} {body : Stored} (given_part : Option Part) → MadePending t hash filled out r s body → IfSome given_part (IsRefillPart hash told_refill (Some body.element))
        → GaveBack t (Local p.cpu) s u (contents.Local out) given_part → Acquired t hash p u (Some body)
    filled_got {hash} {out} {s} {u} {body} given_part made is gave = go given_part (as_refill hash (Some body.element) given_part is) gave
      where
        go : (given_part : Option Part) → IfSome given_part (λ x. x ≡ parts.Local (refill_told hash (Some body.element))) → GaveBack t (Local p.cpu) s u (contents.Local out) given_part → Acquired t hash p u (Some body)
        go None is gave = got_filled made gave.part gave.can (gave_some_as t (Local p.cpu) s u (contents.Local out) gave) (inr (lock_among gave.can.hold.lock))
        go (Some x) is gave =
            let part : Part = parts.Local (refill_told hash (Some body.element)) in
            let meant : CanGive t (Local p.cpu) s (contents.Local out) part = can_give_around b (ready_given made) in
            let given : Gave s u part = subst (Gave s u) is gave in
            let one : given.hold ≡ meant.hold = same_head (sym given.innermost ∙ meant.innermost) in
            got_filled made part meant (subst (λ (h : Hold). GaveAs t s u h part []) one (gave_as t s u part given)) (inl refl)

    pub filled_nothing : {hash cursor : ℕ} {u : PassView} (out : LocalView) (s : PassView) (given_part : Option Part) → MakesPending t hash filled out r s None → cursor ≡ out.steal → IfSome given_part (IsRefillPart hash told_refill None)
        → GaveBack t (Local p.cpu) s u (contents.Local out) given_part → RefilledNone t hash cursor p u
    filled_nothing {hash} {cursor} {u} out s given_part made cursor_is is gave =
        go given_part (as_refill hash None given_part is) (subst (λ (z : LocalView × PassView). GaveBack t (Local p.cpu) z.1 u (contents.Local z.0) given_part) (λ i. (made.1 i, made.2 i)) gave)
      where
        cursor_filled : cursor ≡ filled.steal
        cursor_filled = cursor_is ∙ ap (λ (z : LocalView). z.steal) made.1

        go : (given_part : Option Part) → IfSome given_part (λ x. x ≡ parts.Local (refill_told hash None)) → GaveBack t (Local p.cpu) r u (contents.Local filled) given_part → RefilledNone t hash cursor p u
        go None is gave = filled_none made.0 cursor_filled gave.part gave.can (gave_some_as t (Local p.cpu) r u (contents.Local filled) gave) (inr (lock_among gave.can.hold.lock))
        go (Some x) is gave =
            let part : Part = parts.Local (refill_told hash None) in
            let meant : CanGive t (Local p.cpu) r (contents.Local filled) part = can_give_around b (ready_nothing hash made.0) in
            let given : Gave r u part = subst (Gave r u) is gave in
            let one : given.hold ≡ meant.hold = same_head (sym given.innermost ∙ meant.innermost) in
            filled_none made.0 cursor_filled part meant (subst (λ (h : Hold). GaveAs t r u h part []) one (gave_as t r u part given)) (inl refl)

-- From the clauses of the calls
module _ {t : TableView} {cpu : ℕ} {p q again : PassView} {here : Slot} {lists left : LocalView} (lru : MapEvicts t) (can : CanTakeShared t p)
    (mine : cpu ≡ p.cpu) (few : cpu < t.shape.cpus) (here_is : here ≡ contents.Local lists) (took : TookLock t (Local cpu) p q here) (none : (lists.free.bodies ≡ []) × (left ≡ lists) × (again ≡ q)) where
  abbrev on_lists : OnLocal t p.cpu lists p q
  on_lists = on_taken lru can mine few here_is took

  pub may_refill : CanRefill t left again
  may_refill = subst (λ (z : LocalView × PassView). CanRefill t z.0 z.1) (λ i. (sym none.1 i, sym none.2 i)) (can_refill on_lists can.common can.can none.0)

  module _ {filled : LocalView} {r : PassView} {told_refill : Option Refilled} (refilled : FilledFrom t left filled again r told_refill) where
    abbrev f : FilledFrom t lists filled q r told_refill
    f = subst (λ (z : LocalView × PassView). FilledFrom t z.0 filled z.1 r told_refill) (λ i. (none.1 i, none.2 i)) refilled

    pub may_make_more : CanMakePending t filled r
    may_make_more = can_make_filled on_lists can.common can.can none.0 f

    pub lock_still : Local cpu ≡ Local r.cpu
    lock_still = ap Local (mine ∙ sym (f.goes.cpu ∙ (to_q on_lists).cpu))

    pub may_give_refilled : {got : Option ℕ} (hash : ℕ) (out : LocalView) (s : PassView) (found : Option Stored) (given_part : Option Part) → MakesPending t hash filled out r s found → got ≡ option_map (λ (body : Stored). body.element) found
        → IfSome given_part (IsRefillPart hash told_refill got) → MayGiveBack t (Local cpu) s (contents.Local out) given_part
    may_give_refilled {got} hash out s found given_part made got_is told =
        subst (λ (n : ℕ). MayGiveBack t (Local n) s (contents.Local out) given_part) (sym mine)
        (may_give_filled on_lists can.common can.can none.0 f hash out s found given_part made (subst (λ (z : Option ℕ). IfSome given_part (IsRefillPart hash told_refill z)) got_is told))

    pub refilled_got : {u : PassView} {got : Option ℕ} {found : Option Stored} {body : Stored} (hash : ℕ) (out : LocalView) (s : PassView) (given_part : Option Part) → found ≡ Some body → MakesPending t hash filled out r s found → got ≡ option_map (λ (body : Stored). body.element) found
        → IfSome given_part (IsRefillPart hash told_refill got) → GaveBack t (Local cpu) s u (contents.Local out) given_part → Acquired t hash p u (Some body)
    refilled_got {u} {got} {found} {body} hash out s given_part found_is made got_is told gave =
        filled_got on_lists can.common can.can none.0 f given_part (subst (MakesPending t hash filled out r s) found_is made)
        (subst (λ (z : Option ℕ). IfSome given_part (IsRefillPart hash told_refill z)) (got_is ∙ ap (option_map (λ (x : Stored). x.element)) found_is) told)
        (subst (λ (n : ℕ). GaveBack t (Local n) s u (contents.Local out) given_part) mine gave)

    pub refilled_none : {u : PassView} {got : Option ℕ} {found : Option Stored} {cursor : ℕ} (hash : ℕ) (out : LocalView) (s : PassView) (given_part : Option Part) → found ≡ None → MakesPending t hash filled out r s found → got ≡ option_map (λ (body : Stored). body.element) found → cursor ≡ out.steal
        → IfSome given_part (IsRefillPart hash told_refill got) → GaveBack t (Local cpu) s u (contents.Local out) given_part → (cursor < t.shape.cpus) × RefilledNone t hash cursor p u
    refilled_none {u} {got} {found} {cursor} hash out s given_part found_is made got_is cursor_is told gave =
        let made_none : MakesPending t hash filled out r s None = subst (MakesPending t hash filled out r s) found_is made in
        let few_cpus : cursor < t.shape.cpus = subst (λ (n : ℕ). n < t.shape.cpus) (sym (cursor_is ∙ ap (λ (z : LocalView). z.steal) made_none.1)) f.fits.steal in (
          few_cpus,
          filled_nothing on_lists can.common can.can none.0 f out s given_part made_none cursor_is
              (subst (λ (z : Option ℕ). IfSome given_part (IsRefillPart hash told_refill z)) (got_is ∙ ap (option_map (λ (x : Stored). x.element)) found_is) told)
              (subst (λ (n : ℕ). GaveBack t (Local n) s u (contents.Local out) given_part) mine gave),
        )
