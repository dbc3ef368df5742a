-- An element that is stolen from the head of the free list of the local lists of a CPU: a turn of them, from its take to its give.
use Rattle.std.proofs.Common.{inl, ◌≡◌, ℕ, ◌<◌, ◌+◌, true, List, [], ◌∷◌, ◌++◌, drop, sym, refl, ap, ◌∙◌, subst, Some, arith}
use Rattle.std.specs.Prelude.{slice_get}
use Rattle.std.proofs.lemmas.List.Elements.{recursion_from_All, All-from_recursion, All-nil}
use Rattle.map_types.specs.declared.attr.Shape.{Shape}
use Rattle.map_types.specs.declared.kind.DomainId.TheVariants.{Local}
use Rattle.map_types.specs.ElementLists.{times, without, IsHead, IsIn}
use Rattle.map_types.specs.Listed.{elements_of}
use Rattle.map_types.specs.Stored.{Stored, IsSized}
use Rattle.map_types.proofs.RowLemmas.{times_append}
use Rattle.place_words.specs.declared.history.Part.{Part}
use Rattle.place_words.specs.declared.history.Part.TheVariants as parts
use Rattle.place_words.specs.declared.home.Home.TheVariants as homes
use Rattle.place_words.specs.declared.list_part.LocalPart.{LocalPart}
use Rattle.place_words.specs.declared.list_part.LocalPart.TheVariants as local
use Rattle.place_words.specs.declared.list_part.Stolen.TheVariants.{Free}
use Rattle.place_words.specs.declared.owner.Owner.TheVariants as owners
use Rattle.place_words.specs.Bodies.{numbers}
use Rattle.place_words.specs.Locals.{local_after}
use Rattle.place_words.specs.Locks.{lock_number}
use Rattle.place_words.specs.declared.step.Lists.{Lists}
use Rattle.place_words.specs.State.{rows}
use Rattle.place_words.specs.Steps.{with_row, without_free, without_row}
use Rattle.place_words.specs.Wholeness.{all_of}
use Rattle.place_words.proofs.ElementLemmas.{times_cons_same}
use Rattle.place_table.specs.declared.content.Content.{Content as Slot}
use Rattle.place_table.specs.declared.content.Content.TheVariants as contents
use Rattle.place_table.specs.declared.view.Hold.{Hold}
use Rattle.place_table.specs.declared.view.Notes.{Notes}
use Rattle.place_table.specs.Flushes.{flushes}
use Rattle.place_table.specs.Passes.{PassView, TableView, CanGive, CanRehome, Claimed, Gave, Goes, Rehomed, TookLock, with_view}
use Rattle.place_table.specs.Plays.{HoldsLock}
use Rattle.place_table.specs.TurnNotes.{WasRead, ProbeFits, CameToHand}
use Rattle.place_table.specs.Views.{is_in_hand_of, hold_at, no_notes, notes_below, now_at, now_under, with_came, with_in_hand, with_now, rehomed as rehomed_view, hold_with, with_changed}
use Rattle.place_table.proofs.Entries.{append_nil}
use Rattle.place_table.proofs.Going.{given_turn, goes_on, goes_of_table, goes_begun, learns_on, same_head}
use Rattle.place_table.proofs.Hands.{in_hand_more, now_at_is}
use Rattle.place_table.proofs.StoredHashes.{stored_is_in}
use Rattle.place_table.proofs.Worlds.{hand_is, hold_at_first, some_is}
use Rattle.local_lists.specs.LocalLists.{LocalView, IsLocal, local_told, with_free}
use Rattle.local_lists.proofs.ToldLemmas.{top_is_head, popped_numbers, popped_room}
use Rattle.lru_ops.specs.Lists.{MapEvicts}
use Rattle.lru_ops.specs.Shared.{CanSteal, StoleFrom}
use Rattle.lru_ops.proofs.GivingOut.{came_first, popped_sized, first_of, head_number, without_head}
use Rattle.lru_ops.proofs.Holders.{saw_on_none, saw_none}
use Rattle.lru_ops.proofs.LocalTurns.{OnLocal, ReadyLocal, local_there, to_q, taken_held, taken_noted, can_give_local, changed_local, chased_local, saw_local}
use Rattle.lru_ops.proofs.OwnTurns.{GaveAs, gave_as}
use Rattle.lru_ops.proofs.Removed.{changed_first, goes_placed, learns_placed, now_first, row_passes, without_gone}
use Rattle.lru_ops.proofs.OwnersAround.{unchanged_alone}
use Rattle.percpu_values.specs.BodyList.{popped}

-- The lists were taken, and these bodies were free, the first of which is to be stolen.
module _ {t : TableView} {from : ℕ} {lists : LocalView} {p q : PassView} {body : Stored} (can : CanSteal t p) (b : OnLocal t from lists p q) (top : Some body ≡ slice_get lists.free.bodies 0) where
  abbrev hold : Hold
  hold = b.took.hold

  abbrev e : ℕ
  e = body.element

  shape_q : q.view.shape ≡ t.shape
  shape_q = (to_q b).shape ∙ can.of_table.1

  number_is : lock_number q.view.shape (Local from) ≡ hold.lock
  number_is = ap (λ (s : Shape). lock_number s (Local from)) shape_q ∙ sym b.took.lock_is

  free_head : IsHead e (numbers lists.free.bodies)
  free_head = top_is_head lists.free.bodies body top

  free_is : hold.now.free ≡ e ∷ drop 1 (numbers lists.free.bodies)
  free_is = ap (λ (l : Lists). l.free) b.took.now ∙ head_number lists.free.bodies body (sym top)

  is_free : IsIn e (numbers lists.free.bodies)
  is_free =
      let first : times e (numbers lists.free.bodies) ≡ times e (e ∷ drop 1 (numbers lists.free.bodies)) = ap (times e) (head_number lists.free.bodies body (sym top)) in
      let more = times_cons_same e (drop 1 (numbers lists.free.bodies)) in omega (arith, first, more)

  real : e < t.shape.elements
  real =
      let free : 0 < times e (numbers lists.free.bodies) = is_free in
      subst (λ (n : ℕ). e < n) b.took.fits.bound (b.took.fits.whole.below e (omega (arith, free)))

  none_pending : times e (elements_of lists.pending) ≡ 0
  none_pending = let once = b.took.fits.whole.once e in let free : 0 < times e (numbers lists.free.bodies) = is_free in omega (arith, once, free)

  none_first : times e hold.now.first ≡ 0
  none_first = ap (λ (l : Lists). times e l.first) b.took.now ∙ none_pending

  -- it was claimed
  module _ {m : PassView} (claim : Claimed (Local from) e q m) where
    abbrev claimed_now : Lists
    claimed_now = with_row (Local from) e (without_free e hold.now)

    to_m : Goes q m [] []
    to_m = goes_placed _ _ _ _ _ _ q m claim.1

    known : now_under (Local from) q.view ≡ hold.now
    known = now_at_is (lock_number q.view.shape (Local from)) q.view.held hold ((λ i. hold_at (number_is i) (taken_held b i)) ∙ hold_at_first hold [])

    held_m : m.view.held ≡ hold_with hold claimed_now ∷ []
    held_m =
        let k : ℕ = lock_number q.view.shape (Local from) in
        ap (λ (z : PassView). z.view.held) claim.1
        ∙ ((λ i. with_now k (with_row (Local from) e (without_free e (known i))) (taken_held b i)) ∙ now_first k claimed_now hold number_is)

    noted_m : m.view.notes ≡ record no_notes { came = e ∷ []; changed = record { element = e; owner = owners.Hand q.cpu } ∷ [] } ∷ p.view.notes
    noted_m =
        let k : ℕ = lock_number q.view.shape (Local from) in
        ap (λ (z : PassView). z.view.notes) claim.1
        ∙ ((λ i. with_changed e (owners.Hand q.cpu) (with_came k e (taken_held b i) (taken_noted b i))) ∙ ap (with_changed e (owners.Hand q.cpu)) (came_first k e hold no_notes p.view.notes number_is))

    in_hand_m : is_in_hand_of e m.cpu m.view.hand ≡ true
    in_hand_m = ap (λ (z : PassView). is_in_hand_of e z.cpu z.view.hand) claim.1 ∙ in_hand_more e q.cpu q.view.hand

    number_m : lock_number t.shape (Local from) ≡ (hold_with hold claimed_now).lock
    number_m = sym b.took.lock_is

    holds_m : HoldsLock t.shape m.view m.cpu (Local from)
    holds_m = record {
      hold = hold_with hold claimed_now;
      there = b.there;
      held = (λ i. hold_at (number_m i) (held_m i)) ∙ hold_at_first (hold_with hold claimed_now) [];
      cpu_is = b.took.cpu_is ∙ sym (to_m.cpu ∙ (to_q b).cpu);
    }

    listed_m : IsIn e (all_of claimed_now)
    listed_m =
        let both = times_append e (without e hold.now.free) ((e ∷ hold.now.first) ++ hold.now.second) in
        let more = times_cons_same e (hold.now.first ++ hold.now.second) in omega (arith, both, more)

    pub can_carry : (cpu : ℕ) → cpu ≡ p.cpu → CanRehome t e (homes.Hand cpu) m
    unfolding holds_m
    can_carry cpu mine = record {
      of_table = goes_of_table t q m [] [] to_m (goes_of_table t p q [] [] (to_q b) can.of_table);
      begun = goes_begun q m [] [] to_m (goes_begun p q [] [] (to_q b) can.begun);
      common = can.common;
      real = real;
      from = homes.In (Local from);
      home = (holds_m, refl, listed_m);
      goes = (mine ∙ sym (to_m.cpu ∙ (to_q b).cpu), in_hand_m);
      around = λ _. unchanged_alone m.view (hold_with hold claimed_now) e held_m;
    }

    -- and went off
    module _ {s : PassView} (off : Rehomed t e (homes.Hand p.cpu) m s) where
      abbrev left_now : Lists
      left_now = without_row e (without_free e hold.now)

      off_view : s ≡ with_view m (rehomed_view off.at (homes.In (Local from)) (homes.Hand p.cpu) (owners.Hand m.cpu) e m.view)
      unfolding holds_m
      off_view =
          let left : off.from ≡ homes.In (Local from) = sym (off.known (homes.In (Local from)) (holds_m, refl, listed_m)) in
          let owner : off.owner ≡ owners.Hand m.cpu = hand_is m.cpu off.owner (off.fits.in_own_hand m.cpu (goes_begun q m [] [] to_m (goes_begun p q [] [] (to_q b) can.begun)) ∙ in_hand_m) in
          off.after_is ∙ (λ i. with_view m (rehomed_view off.at (left i) (homes.Hand p.cpu) (owner i) e m.view))

      to_s : Goes m s [] []
      to_s = goes_placed _ _ _ _ _ _ m s off_view

      held_s : s.view.held ≡ hold_with hold left_now ∷ []
      held_s =
          let k : ℕ = lock_number m.view.shape (Local from) in
          let k_is : k ≡ hold.lock = ap (λ (z : Shape). lock_number z (Local from)) (to_m.shape ∙ shape_q) ∙ number_m in
          ap (λ (z : PassView). z.view.held) off_view
          ∙ (ap (λ (l : List Hold). with_now k (without_row e (now_at k l)) l) held_m
          ∙ (changed_first (without_row e) k (hold_with hold claimed_now) [] k_is ∙ ap (λ (l : Lists). hold_with hold l ∷ []) (row_passes from e (without_free e hold.now) none_first)))

      hand_s : s.view.hand ≡ with_in_hand e p.cpu p.view.hand
      hand_s = ap (λ (z : PassView). z.view.hand) off_view ∙ (ap (λ (z : PassView). z.view.hand) claim.1 ∙ ap (λ (z : PassView). with_in_hand e z.cpu z.view.hand) b.took.after_is)

      carried_s : s.view.carried ≡ with_in_hand e p.cpu p.view.carried
      carried_s = ap (λ (z : PassView). z.view.carried) off_view ∙ (ap (λ (z : PassView). with_in_hand e p.cpu z.view.carried) claim.1 ∙ ap (λ (z : PassView). with_in_hand e p.cpu z.view.carried) b.took.after_is)

      first_same : left_now.first ≡ elements_of lists.pending
      first_same = without_gone e hold.now.first none_first ∙ ap (λ (l : Lists). l.first) b.took.now

      left_rows : (x : ℕ) → times x (rows left_now) ≡ times x (elements_of lists.pending)
      left_rows x =
          let second : left_now.second ≡ [] = ap (λ (l : Lists). without e l.second) b.took.now in
          ap (times x) ((λ i. first_same i ++ second i) ∙ append_nil (elements_of lists.pending))

      abbrev noted_here : Notes
      noted_here = record no_notes { came = e ∷ []; changed = record { element = e; owner = owners.Hand q.cpu } ∷ [] }

      abbrev pub left_lists : LocalView
      left_lists = with_free (popped lists.free) lists

      freed_after : local_after (local.Steal (Free e) [] []) (local_told lists) ≡ local_told left_lists
      unfolding local_after
      freed_after = (λ i. record { free = sym (popped_numbers lists.free) i; pending = lists.pending; steal = lists.steal })

      pub ready_free : IsLocal left_lists → ReadyLocal t (local.Steal (Free e) [] []) lists left_lists hold q s
      ready_free whole = record {
        turns = [];
        goes = goes_on q m s [] [] [] [] to_m to_s;
        now = left_now;
        held = held_s;
        notes = noted_here;
        noted = ap (λ (z : PassView). z.view.notes) off_view ∙ (noted_m ∙ ap (λ (l : List Notes). noted_here ∷ l) (sym (ap notes_below (taken_noted b))));
        spares = ap (λ (z : PassView). z.spares) off_view ∙ ap (λ (z : PassView). z.spares) claim.1;
        left = freed_after;
        allowed = (free_head, refl, refl);
        fits = record {
          sized = All-from_recursion (IsSized t.shape) (popped lists.free).bodies (popped_sized (IsSized t.shape) lists.free.bodies lists.free.spare (recursion_from_All (IsSized t.shape) lists.free.bodies b.took.fits.sized));
          bound = b.took.fits.bound;
          room = popped_room lists.free ∙ b.took.fits.room;
          whole = whole;
          steal = b.took.fits.steal;
        };
        same_free = λ x. ap (times x) (popped_numbers lists.free ∙ sym (without_head e hold.now.free (drop 1 (numbers lists.free.bodies)) free_is));
        same_rows = λ x. sym (left_rows x);
        rows_kept = λ x h n _ before after. some_is (sym before ∙ after);
        gone = λ x h before none.
            let inside : IsIn x (elements_of lists.pending) = stored_is_in x h lists.pending before in
            let both : times x (all_of left_now) ≡ times x left_now.free + times x (rows left_now) = times_append x left_now.free (rows left_now) in
            let listed = left_rows x in
            absurd (omega (arith, inside, both, listed, none));
        notes_fit = record {
          marks_are = refl;
          clears_are = refl;
          reads = All-nil (WasRead noted_here.asked);
          flushed = tt;
          off = All-nil (λ x. flushes x (parts.Local (local.Steal (Free e) [] [])) ≡ true);
          held = All-nil (ProbeFits []);
          came = All-nil (CameToHand s.view (hold_with hold left_now) noted_here);
        };
        owners_told = λ lock x owner. refl;
        stays = refl;
        probes = [];
        are_evicts = tt;
        tried = refl;
        saw = saw_on_none t.shape q m s [] (saw_none t.shape q m _ (ap (λ (z : PassView). z.view.touched) claim.1)) (saw_none t.shape m s _ (ap (λ (z : PassView). z.view.touched) off_view));
        learns = learns_on t.shape q.view m.view s.view [] [] [] [] (learns_placed t.shape _ _ _ _ _ _ q m claim.1) (learns_placed t.shape _ _ _ _ _ _ m s off_view);
      }

      pub can_give_free : IsLocal left_lists → CanGive t (Local from) s (contents.Local left_lists) (parts.Local (local.Steal (Free e) [] []))
      can_give_free whole = can_give_local b (ready_free whole)

      -- once they are given back
      pub stole_free : {u : PassView} → IsLocal left_lists → Gave s u (parts.Local (local.Steal (Free e) [] [])) → StoleFrom t from p u (Some body)
      unfolding ready_free
      stole_free {u} whole gave =
          let y = ready_free whole in
          let part : Part = parts.Local (local.Steal (Free e) [] []) in
          let meant : CanGive t (Local from) s (contents.Local left_lists) part = can_give_free whole in
          let one : gave.hold ≡ meant.hold = same_head (sym gave.innermost ∙ meant.innermost) in
          let g : GaveAs t s u meant.hold part [] = subst (λ (h : Hold). GaveAs t s u h part []) one (gave_as t s u part gave) in
          record {
            steps = given_turn s g.ticket meant.hold part ∷ [];
            told = given_turn s g.ticket meant.hold part ∷ [];
            lost = [];
            changed = changed_local b y part meant g (inl refl);
            stolen = Free e;
            first = [];
            second = [];
            trace = chased_local b y part meant g (inl refl);
            stolen_is = refl;
            hand = g.hand ∙ hand_s;
            carried = g.carried ∙ carried_s;
            body = (real, first_of (IsSized t.shape) lists.free.bodies body (recursion_from_All (IsSized t.shape) lists.free.bodies b.took.fits.sized) (sym top));
            none = tt;
            saw = saw_local b y part meant g (inl refl);
          }

-- The whole turn, from the clauses of its calls
module _ {t : TableView} {from : ℕ} {p q : PassView} {here : Slot} {lists : LocalView} (lru : MapEvicts t) (can : CanSteal t p) (there : from < t.shape.cpus)
    (here_is : here ≡ contents.Local lists) (took : TookLock t (Local from) p q here) where
  abbrev pub on_lists : OnLocal t from lists p q
  on_lists = record {
    is_shape = lru.0;
    evicts = lru.1;
    there = local_there t.shape from can.common there;
    of_table = can.of_table;
    begun = can.begun;
    alone = can.no_lock;
    took = subst (TookLock t (Local from) p q) here_is took;
  }

  module _ {left : LocalView} {body : Stored} {e cpu : ℕ} {m : PassView} (top : Some body ≡ slice_get lists.free.bodies 0) (left_is : left ≡ with_free (popped lists.free) lists) (whole : IsLocal left) (e_is : e ≡ body.element) (mine : cpu ≡ p.cpu)
      (claim : Claimed (Local from) e q m) where
    abbrev claimed_here : Claimed (Local from) body.element q m
    claimed_here = subst (λ (n : ℕ). Claimed (Local from) n q m) e_is claim

    pub may_carry : CanRehome t e (homes.Hand cpu) m
    may_carry = subst (λ (n : ℕ). CanRehome t n (homes.Hand cpu) m) (sym e_is) (can_carry can on_lists top claimed_here cpu mine)

    module _ {s : PassView} {part : LocalPart} (off : Rehomed t e (homes.Hand cpu) m s) (part_is : part ≡ local.Steal (Free e) [] []) where
      abbrev off_here : Rehomed t body.element (homes.Hand p.cpu) m s
      off_here = subst (λ (z : ℕ × ℕ). Rehomed t z.0 (homes.Hand z.1) m s) (λ i. (e_is i, mine i)) off

      abbrev told_is : parts.Local part ≡ parts.Local (local.Steal (Free body.element) [] [])
      told_is = ap parts.Local part_is ∙ ap (λ (n : ℕ). parts.Local (local.Steal (Free n) [] [])) e_is

      pub may_give_free : CanGive t (Local from) s (contents.Local left) (parts.Local part)
      may_give_free =
          subst (λ (z : LocalView × Part). CanGive t (Local from) s (contents.Local z.0) z.1) (λ i. (sym left_is i, sym told_is i))
          (can_give_free can on_lists top claimed_here off_here (subst IsLocal left_is whole))

      pub free_stolen : {u : PassView} → Gave s u (parts.Local part) → StoleFrom t from p u (Some body)
      free_stolen {u} gave =
          stole_free can on_lists top claimed_here off_here (subst IsLocal left_is whole) (subst (Gave s u) told_is gave)
