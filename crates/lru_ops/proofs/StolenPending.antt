-- A theft that searches the pending list of the local lists of a CPU: a turn of them, from its take to its give.
use Rattle.std.proofs.Common.{inl, inr, ◌≡◌, ℕ, ◌<◌, ◌≤◌, ◌-◌, ◌+◌, cond, true, false, List, [], ◌∷◌, ◌++◌, map, sym, refl, ap, ◌∙◌, subst, Option, Some, None, arith}
use Rattle.std.specs.Prelude.{◌⊎◌, ◌==◌, reverse, slice_get, option_map, MatchBool, MatchOption, IfSome, All}
use Rattle.std.proofs.lemmas.List.{reverse-reverse}
use Rattle.std.proofs.lemmas.List.Elements.{All-nil, All-cons}
use Rattle.map_types.specs.declared.attr.Shape.{Shape}
use Rattle.map_types.specs.declared.kind.DomainId.TheVariants.{Local}
use Rattle.map_types.specs.declared.row.Row.{Row}
use Rattle.map_types.specs.ElementLists.{times, IsIn}
use Rattle.map_types.specs.Listed.{elements_of}
use Rattle.map_types.specs.Stored.{Stored, IsSized}
use Rattle.map_types.specs.declared.kind.DomainId.{DomainId}
use Rattle.map_types.proofs.RowLemmas.{times_append, by_test}
use Rattle.percpu_values.specs.BodyList.{BodyList, popped_from, popped}
use Rattle.owner_words.specs.Owners.{owner_by}
use Rattle.place_words.specs.declared.history.Part.{Part}
use Rattle.place_words.specs.declared.history.Part.TheVariants as parts
use Rattle.place_words.specs.declared.list_part.LocalPart.TheVariants as local
use Rattle.place_words.specs.declared.list_part.Stolen.{Stolen}
use Rattle.place_words.specs.declared.visits.Look.{Look}
use Rattle.place_words.specs.declared.visits.Try.{Try}
use Rattle.place_words.specs.declared.visits.Visit.{Visit}
use Rattle.place_words.specs.Bodies.{numbers}
use Rattle.place_words.specs.Histories.{look_visit}
use Rattle.place_words.specs.Locals.{AreUnsparing, AllowsSteal, IsSearch, local_after}
use Rattle.place_words.specs.Shrinking.{freed}
use Rattle.place_words.specs.Takings.{stored_hash, stolen_element, walk_probes}
use Rattle.place_words.specs.declared.step.Lists.{Lists}
use Rattle.place_words.specs.State.{rows}
use Rattle.place_words.specs.Wholeness.{all_of}
use Rattle.place_words.specs.Interleaving.{local_steps}
use Rattle.place_words.specs.declared.owner.Owner.{Owner}
use Rattle.place_table.specs.declared.content.Content.{Content as Slot}
use Rattle.place_table.specs.declared.content.Content.TheVariants as contents
use Rattle.place_table.specs.declared.view.BitAsked.{BitAsked}
use Rattle.place_table.specs.declared.view.Hold.{Hold}
use Rattle.place_table.specs.declared.view.InHand.{InHand}
use Rattle.place_table.specs.declared.view.Notes.{Notes}
use Rattle.place_table.specs.declared.view.Turned.{Turned}
use Rattle.place_table.specs.Calls.{reads_bit}
use Rattle.place_table.specs.Contents.{FitsLocal}
use Rattle.place_table.specs.Flushes.{flushes}
use Rattle.place_table.specs.Known.{BitTouch, Learns}
use Rattle.place_table.specs.Passes.{PassView, TableView, CanGive, Gave, GaveBack, MayGiveBack, TookLock}
use Rattle.place_table.specs.TurnNotes.{WasRead, ProbeFits, CameToHand, clears_among}
use Rattle.place_table.specs.Views.{is_among, is_in_hand_of, no_notes, notes_below, with_in_hand, hold_with}
use Rattle.place_table.specs.Owners.{owner_left}
use Rattle.place_table.specs.declared.view.OwnerSeen.{OwnerSeen}
use Rattle.place_table.proofs.Entries.{append_nil}
use Rattle.place_table.proofs.Going.{given_turn, goes_of_table, goes_begun, same_head}
use Rattle.place_table.proofs.Hands.{in_hand_more}
use Rattle.place_table.proofs.StoredHashes.{stored_is_in}
use Rattle.place_table.proofs.Worlds.{none_some, some_is}
use Rattle.row_list.specs.RowWords.{row_of, without_row}
use Rattle.row_list.proofs.RowLemmas.{gone_without, kept_without, row_of_absent}
use Rattle.local_lists.specs.LocalLists.{LocalView, local_told, with_free}
use Rattle.local_lists.proofs.LocalLemmas.{without_is_local}
use Rattle.lru_lists.specs.declared.bits.BitCall.{BitCall}
use Rattle.lru_lists.specs.declared.notes.Noted.{Noted}
use Rattle.lru_lists.specs.declared.notes.Noted.TheVariants as noted
use Rattle.lru_shrink.specs.Searches.{bits_read, IsFound}
use Rattle.lru_ops.specs.declared.probing.Destination.TheVariants.{OwnHand}
use Rattle.lru_ops.specs.Askings.{asked_by, asked_after, notes_after, held_after, owners_after, touch_by}
use Rattle.lru_ops.specs.Lists.{MapEvicts, StoleNone, IsHeldByOther}
use Rattle.lru_ops.specs.OwnTurns.{try_of}
use Rattle.lru_ops.specs.Shared.{CanSteal, StoleFrom}
use Rattle.lru_ops.specs.Thefts.{CanSearch, Walked, Searched, lists_without, stolen_of, IsTheft, both_walks}
use Rattle.lru_ops.proofs.GivingOut.{asked_are, probes_fit}
use Rattle.lru_ops.proofs.LocalTurns.{OnLocal, ReadyLocal, to_q, taken_held, taken_noted, may_give_local, changed_local, chased_local, saw_local, lists_there, named_there, can_give_local}
use Rattle.lru_ops.proofs.LocalWalk.{left_after, left_free, left_rows}
use Rattle.lru_ops.proofs.NoneFound.{nothing_freed, tries_all, none_removed, held_elsewhere}
use Rattle.lru_ops.proofs.OwnTurns.{GaveAs, gave_as, gave_some_as, lock_among}
use Rattle.lru_ops.proofs.Pushes.{left_row}
use Rattle.lru_ops.proofs.SetWork.{taken_by, walk_taken, walk_tried}
use Rattle.lru_ops.proofs.StolenFree.{on_lists}
use Rattle.lru_ops.proofs.ThiefWalk.{hand_held, hand_came, hand_taken, in_hands, hand_changed}

-- Bits that were only read

read_on : (calls : List BitCall) (asked : List BitAsked) (visit : Visit) → WasRead asked visit → WasRead (asked_after calls asked) visit
read_on [] asked visit was = was
read_on (call ∷ calls) asked visit was = read_on calls (asked_by call ∷ asked) visit (inr was)

looks_read : (looks : List Look) (asked : List BitAsked) → All (WasRead (asked_after (bits_read looks) asked)) (map look_visit looks)
looks_read [] asked = All-nil (WasRead asked)
looks_read (look ∷ looks) asked =
    let first : BitAsked = record { element = look.element; bit = look.bit; cleared = false } in
    All-cons (WasRead (asked_after (bits_read looks) (first ∷ asked))) (look_visit look) (map look_visit looks)
    (read_on (bits_read looks) (first ∷ asked) (look_visit look) (inl refl)) (looks_read looks (first ∷ asked))

none_cleared : (looks : List Look) → clears_among (map asked_by (bits_read looks)) ≡ []
none_cleared [] = refl
none_cleared (look ∷ looks) = none_cleared looks

reads_clear_none : (looks : List Look) → clears_among (reverse (asked_after (bits_read looks) [])) ≡ []
reads_clear_none looks =
    let made : List BitCall = bits_read looks in
    ap (λ (l : List BitAsked). clears_among (reverse l)) (asked_are made [] ∙ append_nil (reverse (map asked_by made)))
    ∙ (ap clears_among (reverse-reverse (map asked_by made)) ∙ none_cleared looks)

touches_read : (looks : List Look) → map touch_by (bits_read looks) ≡ map reads_bit (map look_visit looks)
touches_read [] = refl
touches_read (look ∷ looks) = ap (λ (l : List BitTouch). reads_bit (look_visit look) ∷ l) (touches_read looks)

-- What leaves the pending list

abbrev elements_found : Option Stored → List ℕ
elements_found None = []
elements_found (Some body) = body.element ∷ []

found_elements : (gives : Stored → Type 0) (removed : List ℕ) (found : Option Stored) → IsFound gives removed found → removed ≡ elements_found found
found_elements gives removed None is = is
found_elements gives removed (Some body) is = is.0

pending_left : (found : Option Stored) (lists : LocalView) (x : ℕ) → times x (elements_of lists.pending) ≤ 1 → IfSome found (λ body. IsIn body.element (elements_of lists.pending)) → times x (elements_of (lists_without found lists).pending) ≡ times x (elements_of lists.pending) - times x (elements_found found)
pending_left None lists x once there = omega arith
pending_left (Some body) lists x once there =
    by_test body.element x (λ b. times x (elements_of (without_row body.element lists.pending)) ≡ times x (elements_of lists.pending) - cond b 1 0)
    (λ same.
    let gone : times x (elements_of (without_row body.element lists.pending)) ≡ 0 = subst (λ (y : ℕ). times y (elements_of (without_row body.element lists.pending)) ≡ 0) same (gone_without body.element lists.pending) in
    omega (arith, gone, once))
    (λ other. let kept = kept_without x body.element lists.pending (λ is. other (sym is)) in omega (arith, kept))

row_left : (found : Option Stored) (lists : LocalView) (x n : ℕ) → stored_hash x (lists_without found lists).pending ≡ Some n → stored_hash x lists.pending ≡ Some n
row_left None lists x n is = is
row_left (Some body) lists x n is =
    let e : ℕ = body.element in
    by_test x e (λ _. stored_hash x lists.pending ≡ Some n)
    (λ same. absurd (none_some (sym (ap (option_map (λ (r : Row). r.hash)) (ap (λ (k : ℕ). row_of k (without_row e lists.pending)) same ∙ row_of_absent e (without_row e lists.pending) (gone_without e lists.pending))) ∙ is)))
    (λ other. ap (option_map (λ (r : Row). r.hash)) (sym (left_row e x lists.pending other)) ∙ is)

fits_without : (shape : Shape) (found : Option Stored) (lists : LocalView) → FitsLocal shape lists → FitsLocal shape (lists_without found lists)
fits_without shape None lists fits = fits
fits_without shape (Some body) lists fits = record {
  sized = fits.sized;
  bound = fits.bound;
  room = fits.room;
  whole = without_is_local body.element lists fits.whole;
  steal = fits.steal;
}

searched_after : (found : Option Stored) (looks : List Look) (tries : List Try) (lists : LocalView) → local_after (local.Steal (stolen_of found) looks tries) (local_told lists) ≡ local_told (lists_without found lists)
unfolding local_after
searched_after None looks tries lists = refl
searched_after (Some body) looks tries lists = refl

same_free_without : (found : Option Stored) (lists : LocalView) → (lists_without found lists).free ≡ lists.free
same_free_without None lists = refl
same_free_without (Some body) lists = refl

allowed_search : (gives : Stored → Type 0) (found : Option Stored) (looks : List Look) (tries : List Try) (lists : LocalView) → IsSearch (local_told lists) looks tries → IsFound gives (freed looks tries) found → AllowsSteal (stolen_of found) looks tries (local_told lists)
allowed_search gives None looks tries lists search removed = (search, removed)
allowed_search gives (Some body) looks tries lists search removed = (search, removed.0)

in_hand_found : (found : Option Stored) (e cpu : ℕ) (hand : List InHand) → IsIn e (elements_found found) → is_in_hand_of e cpu (in_hands cpu (elements_found found) hand) ≡ true
in_hand_found None e cpu hand inside = absurd (let none : 0 < 0 = inside in omega (arith, none))
in_hand_found (Some body) e cpu hand inside =
    by_test body.element e (λ b. 0 < cond b 1 0 → is_in_hand_of e cpu (with_in_hand body.element cpu hand) ≡ true)
    (λ same _. subst (λ (y : ℕ). is_in_hand_of y cpu (with_in_hand body.element cpu hand) ≡ true) same (in_hand_more body.element cpu hand))
    (λ _ none. absurd (omega (arith, none))) inside

-- a theft of what was found in a bucket changes no owner, once it was found
stolen_left : (found : Option Stored) (looks : List Look) (tries : List Try) (cpu : ℕ) (lock : DomainId) (x : ℕ) (owner : Owner) → owner ≡ owner_by (local_steps cpu lock (local.Steal (stolen_of found) looks tries)) x owner
stolen_left None looks tries cpu lock x owner = refl
stolen_left (Some body) looks tries cpu lock x owner = refl

-- The lists were taken by a pass with nothing in hand.
module _ {t : TableView} {from : ℕ} {lists : LocalView} {p q : PassView} (can : CanSteal t p) (b : OnLocal t from lists p q) where
  pub can_search : CanSearch t lists q
  can_search = record {
    from = from;
    holds = record {
      of_table = goes_of_table t p q [] [] (to_q b) can.of_table;
      begun = goes_begun p q [] [] (to_q b) can.begun;
      is_shape = b.is_shape;
      evicts = b.evicts;
      there = b.there;
      lists = omega arith;
      hold = b.took.hold;
      outer = [];
      held = taken_held b;
      above = tt;
      lock_is = b.took.lock_is;
      cpu_is = b.took.cpu_is ∙ sym (to_q b).cpu;
      notes = no_notes;
      below = p.view.notes;
      notes_are = taken_noted b;
      freed = tt;
      unchanged = λ x. refl;
    };
    alone = refl;
    hands_empty = λ e cpu among.
        ap (λ (z : PassView). is_in_hand_of e cpu z.view.hand) b.took.after_is ∙ can.hands_empty e cpu (ap (λ (z : PassView). is_among cpu z.view.cpus) (sym b.took.after_is) ∙ among);
    found = b.took.told_is;
    now = b.took.now;
    fits = b.took.fits;
  }

  -- and searched
  module _ {first first_after : Noted Look} {second second_after : Noted Try} {s : PassView} {found : Option Stored} (w : Walked t lists (both_walks first second q) (both_walks first_after second_after s) found) where
    abbrev hold : Hold
    hold = b.took.hold

    abbrev out : LocalView
    out = lists_without found lists

    taken : taken_by w.probes ≡ elements_found found
    taken = ap taken_by w.probes_are ∙ (walk_taken lists.pending w.looks w.tries ∙ found_elements (IsSized t.shape) (freed w.looks w.tries) found w.removed)

    tried : map try_of w.probes ≡ walk_probes w.looks w.tries
    tried = ap (map try_of) w.probes_are ∙ walk_tried lists.pending w.looks w.tries

    fresh : w.does.notes ≡ no_notes
    fresh = same_head (sym w.does.was_noted ∙ taken_noted b)

    below_is : w.does.below ≡ p.view.notes
    below_is = ap notes_below (sym w.does.was_noted ∙ taken_noted b)

    abbrev now : Lists
    now = left_after w.probes hold.now

    abbrev noted_here : Notes
    noted_here = notes_after OwnHand (bits_read w.looks) w.probes no_notes

    once : (x : ℕ) → times x (rows hold.now) ≤ 1
    once x = b.took.elements.rows_once x

    pending_now : (x : ℕ) → times x (rows hold.now) ≡ times x (elements_of lists.pending)
    pending_now x = ap (λ (l : Lists). times x (rows l)) b.took.now ∙ ap (times x) (append_nil (elements_of lists.pending))

    left_now : (x : ℕ) → times x (rows now) ≡ times x (elements_of lists.pending) - times x (elements_found found)
    left_now x =
        let left = left_rows x w.probes hold.now (once x) in
        let was = pending_now x in
        let gone : times x (taken_by w.probes) ≡ times x (elements_found found) = ap (times x) taken in
        omega (arith, left, was, gone)

    cpu_q : q.cpu ≡ p.cpu
    cpu_q = (to_q b).cpu

    carried_s : s.view.carried ≡ in_hands p.cpu (elements_found found) p.view.carried
    carried_s =
        w.does.carried ∙ (hand_taken q.cpu w.probes q.view.carried
        ∙ ((λ i. in_hands (cpu_q i) (taken i) q.view.carried) ∙ ap (λ (z : PassView). in_hands p.cpu (elements_found found) z.view.carried) b.took.after_is))

    hand_s : s.view.hand ≡ in_hands p.cpu (elements_found found) p.view.hand
    hand_s =
        w.does.hand ∙ (hand_taken q.cpu w.probes q.view.hand
        ∙ ((λ i. in_hands (cpu_q i) (taken i) q.view.hand) ∙ ap (λ (z : PassView). in_hands p.cpu (elements_found found) z.view.hand) b.took.after_is))

    pub ready_search : ReadyLocal t (local.Steal (stolen_of found) w.looks w.tries) lists out hold q s
    ready_search =
        let d = w.does in record {
          turns = d.turns;
          goes = d.goes;
          now = now;
          held = d.held ∙ (ap (held_after OwnHand w.probes) (taken_held b) ∙ hand_held w.probes hold);
          notes = noted_here;
          noted = d.noted ∙ (λ i. notes_after OwnHand (bits_read w.looks) w.probes (fresh i) ∷ (hand_came w.probes d.below ∙ (below_is ∙ sym (ap notes_below (taken_noted b)))) i);
          spares = d.spares;
          left = searched_after found w.looks w.tries lists;
          allowed = allowed_search (IsSized t.shape) found w.looks w.tries lists w.search w.removed;
          fits = fits_without t.shape found lists b.took.fits;
          same_free = λ x. ap (λ (z : BodyList). times x (numbers z.bodies)) (same_free_without found lists) ∙ ap (times x) (sym (left_free w.probes hold.now ∙ ap (λ (l : Lists). l.free) b.took.now));
          same_rows = λ x. pending_left found lists x (let was = pending_now x in let one = once x in omega (arith, was, one)) w.there ∙ sym (left_now x);
          rows_kept = λ x h n _ before after. some_is (sym before ∙ row_left found lists x n after);
          gone = λ x h before none.
              let inside : IsIn x (elements_of lists.pending) = stored_is_in x h lists.pending before in
              let both : times x (all_of now) ≡ times x now.free + times x (rows now) = times_append x now.free (rows now) in
              let left = left_now x in
              let removed : IsIn x (elements_found found) = omega (arith, inside, both, left, none) in
              (λ i. is_in_hand_of x (b.took.cpu_is i) (carried_s i)) ∙ in_hand_found found x p.cpu p.view.carried removed;
          notes_fit = record {
            marks_are = refl;
            clears_are = reads_clear_none w.looks;
            reads = looks_read w.looks [];
            flushed = tt;
            off = All-nil (λ x. flushes x (parts.Local (local.Steal (stolen_of found) w.looks w.tries)) ≡ true);
            held = subst (All (ProbeFits (owners_after w.probes []))) tried (probes_fit w.probes []);
            came = All-nil (CameToHand s.view (hold_with hold now) noted_here);
          };
          owners_told = λ lock x owner. ap (λ (l : List OwnerSeen). owner_left l x owner) (hand_changed w.probes []) ∙ stolen_left found w.looks w.tries q.cpu lock x owner;
          stays = refl;
          probes = w.probes;
          are_evicts = d.are_evicts;
          tried = tried;
          saw = d.saw;
          learns = subst (Learns t.shape q.view s.view d.turns) (touches_read w.looks ∙ sym (append_nil (map reads_bit (map look_visit w.looks)))) d.learns;
        }

    abbrev part_made : Part
    part_made = parts.Local (local.Steal (stolen_of found) w.looks w.tries)

    element_stolen : (found : Option Stored) → stolen_element (stolen_of found) ≡ option_map (λ (body : Stored). body.element) found
    element_stolen None = refl
    element_stolen (Some body) = refl

    in_hand_by : (found : Option Stored) (hand hand_after : List InHand) → hand_after ≡ in_hands p.cpu (elements_found found) hand → MatchOption found (hand_after ≡ hand) (λ body. hand_after ≡ with_in_hand body.element p.cpu hand)
    in_hand_by None hand hand_after is = is
    in_hand_by (Some body) hand hand_after is = is

    body_by : (found : Option Stored) → IsFound (IsSized t.shape) (freed w.looks w.tries) found → IfSome found (λ body. IsIn body.element (elements_of lists.pending)) → MatchOption found (Unit {0}) (λ body. (body.element < t.shape.elements) × IsSized t.shape body)
    body_by None removed there = tt
    body_by (Some body) removed there =
        (subst (λ (n : ℕ). body.element < n) b.took.fits.bound (b.took.fits.whole.below body.element (let some : 0 < times body.element (elements_of lists.pending) = there in omega (arith, some))), removed.1)

    -- once they are given back
    module _ {u : PassView} {lost : List ℕ} (actual : Part) (meant : CanGive t (Local from) s (contents.Local out) actual) (g : GaveAs t s u meant.hold actual lost) (told_as : (actual ≡ part_made) ⊎ (is_among meant.hold.lock lost ≡ true)) where
      abbrev told_last : Turned
      told_last = given_turn s g.ticket meant.hold part_made

      none_by : (found_is : found ≡ None) → StoleNone t.shape p.cpu from (w.does.turns ++ told_last ∷ [])
      unfolding ready_search
      none_by found_is =
          let nothing : freed w.looks w.tries ≡ [] = subst (IsFound (IsSized t.shape) (freed w.looks w.tries)) found_is w.removed in
          let counted = nothing_freed w.looks w.tries nothing in
          let are : AreUnsparing lists.pending w.tries = subst (λ (n : ℕ). MatchBool (n == 0) (AreUnsparing lists.pending w.tries) (w.tries ≡ [])) counted.0 w.search.unsparing in
          record {
            probing = w.does.turns;
            last = told_last;
            turns_are = refl;
            lists = local_told lists;
            found_there = sym (lists_there b ready_search actual meant g told_as);
            none_free = w.search.none_free;
            first = w.looks;
            second = w.tries;
            last_is = λ i. record { lock = named_there b ready_search actual meant g told_as i; part = parts.Local (local.Steal (stolen_of (found_is i)) w.looks w.tries) };
            tried_all = tries_all lists.pending w.tries are.from_tail are.until.here counted.1;
            held = subst (λ (c : ℕ). All (IsHeldByOther c) (walk_probes w.looks w.tries)) cpu_q
                (held_elsewhere t.shape q.cpu q.call lists.pending w.probes w.does.turns w.looks w.tries w.does.are_evicts w.does.learns.allowed tried (none_removed w.looks w.tries nothing));
          }

      none_for : (found' : Option Stored) → (found' ≡ None → StoleNone t.shape p.cpu from (w.does.turns ++ told_last ∷ [])) → MatchOption found' (StoleNone t.shape p.cpu from (w.does.turns ++ told_last ∷ [])) (λ body. Unit {0})
      none_for None shows = shows refl
      none_for (Some body) shows = tt

      stole_by : StoleFrom t from p u found
      unfolding ready_search
      stole_by = record {
        steps = w.does.turns ++ given_turn s g.ticket meant.hold actual ∷ [];
        told = w.does.turns ++ told_last ∷ [];
        lost = lost;
        changed = changed_local b ready_search actual meant g told_as;
        stolen = stolen_of found;
        first = w.looks;
        second = w.tries;
        trace = chased_local b ready_search actual meant g told_as;
        stolen_is = element_stolen found;
        hand = in_hand_by found p.view.hand u.view.hand (g.hand ∙ hand_s);
        carried = in_hand_by found p.view.carried u.view.carried (g.carried ∙ carried_s);
        body = body_by found w.removed w.there;
        none = none_for found none_by;
        saw = saw_local b ready_search actual meant g told_as;
      }

    pub may_give_search : (given_part : Option Part) → IfSome given_part (λ x. x ≡ part_made) → MayGiveBack t (Local from) s (contents.Local out) given_part
    may_give_search given_part is = may_give_local b ready_search given_part is

    pub stole_searched : {u : PassView} (given_part : Option Part) → IfSome given_part (λ x. x ≡ part_made) → GaveBack t (Local from) s u (contents.Local out) given_part → StoleFrom t from p u found
    stole_searched {u} None is gave = stole_by gave.part gave.can (gave_some_as t (Local from) s u (contents.Local out) gave) (inr (lock_among gave.can.hold.lock))
    stole_searched {u} (Some x) is gave =
        let can_give : CanGive t (Local from) s (contents.Local out) part_made = can_give_local b ready_search in
        let made : Gave s u part_made = subst (Gave s u) is gave in
        let one : made.hold ≡ can_give.hold = same_head (sym made.innermost ∙ can_give.innermost) in
        stole_by part_made can_give (subst (λ (h : Hold). GaveAs t s u h part_made []) one (gave_as t s u part_made made)) (inl refl)

-- The whole turn, from the clauses of its calls

none_popped : (lists : LocalView) → None ≡ slice_get lists.free.bodies 0 → with_free (popped lists.free) lists ≡ lists
none_popped lists none = by lists.free.bodies none
  where
    by : (bodies : List Stored) → None ≡ slice_get bodies 0 → record lists { free = popped_from bodies lists.free.spare } ≡ record lists { free = record { bodies = bodies; spare = lists.free.spare } }
    by [] none = refl
    by (body ∷ bodies) none = absurd (none_some none)

module _ {t : TableView} {from : ℕ} {p q : PassView} {here : Slot} {lists left : LocalView} (lru : MapEvicts t) (can : CanSteal t p) (there : from < t.shape.cpus)
    (here_is : here ≡ contents.Local lists) (took : TookLock t (Local from) p q here) (none : None ≡ slice_get lists.free.bodies 0) (left_is : left ≡ with_free (popped lists.free) lists) where
  same_lists : left ≡ lists
  same_lists = left_is ∙ none_popped lists none

  pub may_search : CanSearch t left q
  may_search =
      subst (λ (z : LocalView). CanSearch t z q) (sym same_lists)
      (can_search can (on_lists lru can there here_is took))

  module _ (given_part : Option Part) {out : LocalView} {first first_after : Noted Look} {second second_after : Noted Try} {s : PassView} {found : Option Stored} {stolen : Stolen} (first_is : first ≡ noted.Kept []) (second_is : second ≡ noted.Kept [])
      (searched : Searched t left out (both_walks first second q) (both_walks first_after second_after s) found) (stolen_is : stolen ≡ stolen_of found) (told : IfSome given_part (IsTheft stolen first_after second_after)) where
    abbrev w : Walked t lists (both_walks (noted.Kept []) (noted.Kept []) q) (both_walks first_after second_after s) found
    w = subst (λ (z : LocalView × Noted Look × Noted Try). Walked t z.0 (both_walks z.1 z.2 q) (both_walks first_after second_after s) found) (λ i. (same_lists i, first_is i, second_is i)) searched.walked

    abbrev left_out : out ≡ lists_without found lists
    left_out = searched.after_is ∙ ap (lists_without found) same_lists

    by_notes : (kept : Option Part) → IfSome kept (IsTheft stolen first_after second_after) → IfSome kept (λ x. x ≡ parts.Local (local.Steal (stolen_of found) w.looks w.tries))
    by_notes None is_told = tt
    by_notes (Some x) is_told = is_told w.looks w.tries w.noted_first w.noted_second ∙ ap (λ (z : Stolen). parts.Local (local.Steal z w.looks w.tries)) stolen_is

    pub may_give_found : MayGiveBack t (Local from) s (contents.Local out) given_part
    may_give_found =
        subst (λ (z : LocalView). MayGiveBack t (Local from) s (contents.Local z) given_part) (sym left_out)
        (may_give_search can (on_lists lru can there here_is took) w given_part (by_notes given_part told))

    pub found_stolen : {u : PassView} → GaveBack t (Local from) s u (contents.Local out) given_part → StoleFrom t from p u found
    found_stolen {u} gave =
        stole_searched can (on_lists lru can there here_is took) w given_part (by_notes given_part told)
        (subst (λ (z : LocalView). GaveBack t (Local from) s u (contents.Local z) given_part) left_out gave)
