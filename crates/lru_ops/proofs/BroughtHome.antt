-- An element that was stolen comes to the own pending list: a turn of the own local lists, from its take to its give.
use Rattle.std.proofs.Common.{inl, inr, ◌≡◌, ◌≢◌, ℕ, ◌<◌, ◌≤◌, ◌+◌, cond, true, false, Bool, List, [], ◌∷◌, ◌++◌, sym, refl, ap, ◌∙◌, subst, Option, Some, None, ⊎_elim, suc, arith}
use Rattle.std.specs.Prelude.{◌==◌, ◌&&◌, find, option_map}
use Rattle.std.proofs.Math.Nat.{eq-zero-or-pos}
use Rattle.std.proofs.lemmas.Bool.{eqb-true}
use Rattle.std.proofs.lemmas.List.Elements.{All-nil, All-cons}
use Rattle.map_types.specs.declared.attr.Shape.{Shape}
use Rattle.map_types.specs.declared.kind.DomainId.TheVariants.{Local}
use Rattle.map_types.specs.declared.row.Row.{Row}
use Rattle.map_types.specs.ElementLists.{times, IsIn}
use Rattle.map_types.specs.Listed.{elements_of}
use Rattle.map_types.proofs.RowLemmas.{times_append, by_test}
use Rattle.key_hash.specs.Bucket.{bucket_number}
use Rattle.place_words.specs.declared.history.Part.{Part}
use Rattle.place_words.specs.declared.history.Part.TheVariants as parts
use Rattle.place_words.specs.declared.home.Home.TheVariants as homes
use Rattle.place_words.specs.declared.list_part.LocalPart.TheVariants as local
use Rattle.place_words.specs.declared.owner.Owner.TheVariants as owners
use Rattle.place_words.specs.Bodies.{numbers}
use Rattle.place_words.specs.Codes.{home_code}
use Rattle.place_words.specs.Histories.{Content, in_locals}
use Rattle.place_words.specs.Locals.{local_after}
use Rattle.place_words.specs.Locks.{lock_number}
use Rattle.place_words.specs.Takings.{ring_next, stored_hash}
use Rattle.place_words.proofs.GlobalChoices.{not_there}
use Rattle.place_words.specs.declared.step.Lists.{Lists}
use Rattle.place_words.specs.State.{rows}
use Rattle.place_words.specs.Steps.{with_row}
use Rattle.place_words.specs.Wholeness.{all_of}
use Rattle.place_words.proofs.ElementLemmas.{times_cons_same}
use Rattle.place_table.specs.declared.content.Content.TheVariants as contents
use Rattle.place_table.specs.declared.view.HashIn.{HashIn}
use Rattle.place_table.specs.declared.view.Hold.{Hold}
use Rattle.place_table.specs.declared.view.InHand.{InHand}
use Rattle.place_table.specs.declared.view.Notes.{Notes}
use Rattle.place_table.specs.declared.view.View.{View}
use Rattle.place_table.specs.Calls.{clears_bit}
use Rattle.place_table.specs.Flushes.{flushes}
use Rattle.place_table.specs.Known.{Learns}
use Rattle.place_table.specs.declared.content.Content.{Content as Slot}
use Rattle.place_table.specs.Passes.{PassView, TableView, CanGive, CanRehome, Cleared, Gave, Goes, Rehomed, TookLock, with_view}
use Rattle.place_table.specs.Plays.{HoldsLock, IsKnownHome}
use Rattle.place_table.specs.StoredHashes.{stored_in}
use Rattle.place_table.specs.TurnNotes.{WasRead, ProbeFits, CameToHand}
use Rattle.place_table.specs.Views.{is_among, is_in_hand_of, hold_at, bucket_known, hash_given, hashes_given, no_notes, notes_below, now_at, with_clear, with_came, with_now, without_in_hand, cleared as cleared_view, rehomed as rehomed_view, hold_with}
use Rattle.place_table.proofs.Came.{came_among, come_from_other}
use Rattle.place_table.proofs.Going.{goes_on, given_turn, goes_noted, goes_of_table, goes_begun, learns_on, learns_cleared, same_head}
use Rattle.place_table.proofs.StoredHashes.{stored_is_in}
use Rattle.place_table.proofs.Worlds.{both_true, hand_is, hold_at_first, some_is, true_false}
use Rattle.local_lists.specs.LocalLists.{LocalView, IsLocal, local_told, times_on, with_pending_row, with_steal}
use Rattle.lru_ops.specs.Lists.{MapEvicts}
use Rattle.lru_ops.specs.Shared.{CanBringHome, BroughtHome}
use Rattle.lru_ops.proofs.GivingOut.{came_first, forget_seen, skip_row}
use Rattle.lru_ops.proofs.Holders.{saw_on_none, saw_none}
use Rattle.lru_ops.proofs.LocalTurns.{OnLocal, ReadyLocal, local_there, to_q, taken_held, taken_noted, can_give_local, changed_local, saw_local, hashes_local, named_there, stored_pending}
use Rattle.lru_ops.proofs.OwnTurns.{GaveAs, gave_as, first_hash}
use Rattle.lru_ops.proofs.Removed.{changed_first, goes_placed, learns_placed}
use Rattle.lru_ops.proofs.OwnersAround.{unchanged_alone}

-- The hash that was given to what is in the CPU's hand and came in the turn

given_elsewhere : (e cpu buckets : ℕ) (x : InHand) (b : Bool) (found : Option ℕ) (rest : List HashIn) → ((x.element == e) && (x.cpu == cpu)) ≡ false → bucket_known e cpu (cond b (hash_given buckets x found rest) rest) ≡ bucket_known e cpu rest
given_elsewhere e cpu buckets x false found rest other = refl
given_elsewhere e cpu buckets x true None rest other = refl
given_elsewhere e cpu buckets x true (Some h) rest other = ap (λ (b : Bool). cond b (Some (bucket_number h buckets)) (bucket_known e cpu rest)) other

pub given_hash : (cpu buckets e h : ℕ) (there : Content) (came : List ℕ) (hand : List InHand) (hashes : List HashIn) → is_among e came ≡ true → stored_in there e ≡ Some h → is_in_hand_of e cpu hand ≡ true
    → bucket_known e cpu (hashes_given cpu buckets there came hand hashes) ≡ Some (bucket_number h buckets)
given_hash cpu buckets e h there came [] hashes inside stored in_hand = true_false (sym in_hand)
given_hash cpu buckets e h there came (x ∷ xs) hashes inside stored in_hand = go ((x.element == e) && (x.cpu == cpu)) refl (given_hash cpu buckets e h there came xs hashes inside stored) in_hand
  where
    go : (b : Bool) → ((x.element == e) && (x.cpu == cpu)) ≡ b → (is_in_hand_of e cpu xs ≡ true → bucket_known e cpu (hashes_given cpu buckets there came xs hashes) ≡ Some (bucket_number h buckets)) → cond b true (is_in_hand_of e cpu xs) ≡ true
        → bucket_known e cpu (hashes_given cpu buckets there came (x ∷ xs) hashes) ≡ Some (bucket_number h buckets)
    go true is _ _ =
        let both = both_true (x.element == e) (x.cpu == cpu) is in
        let e_is : x.element ≡ e = eqb-true x.element e both.0 in
        let c_is : x.cpu ≡ cpu = eqb-true x.cpu cpu both.1 in
        (λ i. bucket_known e cpu (hashes_given cpu buckets there came (record { element = e_is i; cpu = c_is i } ∷ xs) hashes))
        ∙ first_hash cpu cpu buckets e h there came xs hashes refl inside stored
    go false is rest later =
        given_elsewhere e cpu buckets x ((x.cpu == cpu) && is_among x.element came) (stored_in there x.element) (hashes_given cpu buckets there came xs hashes) is
        ∙ rest later

-- Rows behind a new one

pub row_behind : (x : ℕ) (row : Row) (rows : List Row) → row.element ≢ x → stored_hash x (row ∷ rows) ≡ stored_hash x rows
row_behind x row rows other = ap (option_map (λ (r : Row). r.hash)) (skip_row (λ (r : Row). r.element == x) row [] rows (by_test row.element x (λ b. b ≡ false) (λ same. absurd (other same)) (λ _. refl)))

pub row_first : (e hash : ℕ) (rows : List Row) → stored_hash e (record { element = e; hash = hash } ∷ rows) ≡ Some hash
row_first e hash rows = by_test e e (λ b. option_map (λ (r : Row). r.hash) (cond b (Some (record { element = e; hash = hash })) (find (λ (r : Row). r.element == e) rows)) ≡ Some hash) (λ _. refl) (λ other. absurd (other refl))

hand_no_local : (c d : ℕ) → homes.Hand c ≡ homes.In (Local d) → ⊥
hand_no_local c d is = cc

-- The own local lists were taken.
module _ {t : TableView} {e : ℕ} {lists : LocalView} {p q : PassView} (can : CanBringHome t e p) (b : OnLocal t p.cpu lists p q) where
  abbrev hold : Hold
  hold = b.took.hold

  shape_q : q.view.shape ≡ t.shape
  shape_q = (to_q b).shape ∙ can.of_table.1

  number_is : lock_number q.view.shape (Local p.cpu) ≡ hold.lock
  number_is = ap (λ (s : Shape). lock_number s (Local p.cpu)) shape_q ∙ sym b.took.lock_is

  local_held : hold_at (lock_number t.shape (Local p.cpu)) q.view.held ≡ Some hold
  local_held = (λ i. hold_at (sym b.took.lock_is i) (taken_held b i)) ∙ hold_at_first hold []

  holds_here : HoldsLock t.shape q.view q.cpu (Local p.cpu)
  holds_here = record { hold = hold; there = b.there; held = local_held; cpu_is = b.took.cpu_is ∙ sym (to_q b).cpu }

  in_hand_q : is_in_hand_of e q.cpu q.view.hand ≡ true
  in_hand_q = ap (λ (z : PassView). is_in_hand_of e z.cpu z.view.hand) b.took.after_is ∙ can.in_hand

  carried_q : IsKnownHome t.shape q.view q.cpu e (homes.Hand p.cpu)
  carried_q = (sym (to_q b).cpu, ap (λ (z : PassView). is_in_hand_of e z.cpu z.view.carried) b.took.after_is ∙ can.carried)

  pub can_come_here : (cpu : ℕ) → cpu ≡ p.cpu → CanRehome t e (homes.In (Local cpu)) q
  can_come_here cpu mine =
      subst (λ (c : ℕ). CanRehome t e (homes.In (Local c)) q) (sym mine) record {
        of_table = goes_of_table t p q [] [] (to_q b) can.of_table;
        begun = goes_begun p q [] [] (to_q b) can.begun;
        common = can.common;
        real = can.real;
        from = homes.Hand p.cpu;
        home = carried_q;
        goes = (holds_here, inr in_hand_q);
        around = λ _. unchanged_alone q.view hold e (taken_held b);
      }

  -- it came there
  module _ {r : PassView} (home : Rehomed t e (homes.In (Local p.cpu)) q r) where
    -- what the CPU carries is on no lists
    none_here : times e (all_of hold.now) ≡ 0
    unfolding holds_here
    none_here =
        ⊎_elim (λ (none : times e (all_of hold.now) ≡ 0). none)
        (λ (some : 0 < times e (all_of hold.now)). absurd (hand_no_local p.cpu p.cpu (home.known (homes.Hand p.cpu) carried_q ∙ sym (home.known (homes.In (Local p.cpu)) (holds_here, refl, some)))))
        (eq-zero-or-pos (times e (all_of hold.now)))

    none_free : times e (numbers lists.free.bodies) ≡ 0
    none_free =
        let both : times e (all_of hold.now) ≡ times e hold.now.free + times e (rows hold.now) = times_append e hold.now.free (rows hold.now) in
        let free : times e hold.now.free ≡ times e (numbers lists.free.bodies) = ap (λ (l : Lists). times e l.free) b.took.now in
        let none = none_here in omega (arith, both, free, none)

    none_pending : times e (elements_of lists.pending) ≡ 0
    none_pending =
        let both : times e (all_of hold.now) ≡ times e hold.now.free + times e (rows hold.now) = times_append e hold.now.free (rows hold.now) in
        let listed : times e (rows hold.now) ≡ times e (elements_of lists.pending ++ []) = ap (λ (l : Lists). times e (rows l)) b.took.now in
        let parts = times_append e (elements_of lists.pending) [] in
        let none = none_here in omega (arith, both, listed, parts, none)

    pub none_on : times_on e lists ≡ 0
    none_on = let free = none_free in let pending = none_pending in omega (arith, free, pending)

    came_view : r ≡ with_view q (rehomed_view home.at (homes.Hand p.cpu) (homes.In (Local p.cpu)) (owners.Hand q.cpu) e q.view)
    came_view =
        let from : home.from ≡ homes.Hand p.cpu = sym (home.known (homes.Hand p.cpu) carried_q) in
        let owner : home.owner ≡ owners.Hand q.cpu = hand_is q.cpu home.owner (home.fits.in_own_hand q.cpu (goes_begun p q [] [] (to_q b) can.begun) ∙ in_hand_q) in
        home.after_is ∙ (λ i. with_view q (rehomed_view home.at (from i) (homes.In (Local p.cpu)) (owner i) e q.view))

    to_r : Goes q r [] []
    to_r = goes_placed _ _ _ _ _ _ q r came_view

    held_r : r.view.held ≡ hold_with hold (with_row (Local p.cpu) e hold.now) ∷ []
    held_r =
        let k : ℕ = lock_number q.view.shape (Local p.cpu) in
        ap (λ (z : PassView). z.view.held) came_view
        ∙ (ap (λ (l : List Hold). with_now k (with_row (Local p.cpu) e (now_at k l)) l) (taken_held b) ∙ changed_first (with_row (Local p.cpu) e) k hold [] number_is)

    apart : home_code (homes.Hand p.cpu) ≢ home_code (homes.In (Local p.cpu))
    apart same = omega (arith, same)

    noted_r : r.view.notes ≡ record no_notes { came = e ∷ [] } ∷ p.view.notes
    noted_r =
        let k : ℕ = lock_number q.view.shape (Local p.cpu) in
        ap (λ (z : PassView). z.view.notes) came_view
        ∙ (come_from_other q.view.shape (homes.Hand p.cpu) (Local p.cpu) e q.view.held q.view.notes apart
        ∙ ((λ i. with_came k e (taken_held b i) (taken_noted b i)) ∙ came_first k e hold no_notes p.view.notes number_is))

    hand_r : r.view.hand ≡ p.view.hand
    hand_r = ap (λ (z : PassView). z.view.hand) came_view ∙ ap (λ (z : PassView). z.view.hand) b.took.after_is

    carried_r : r.view.carried ≡ without_in_hand e p.cpu p.view.carried
    carried_r = ap (λ (z : PassView). z.view.carried) came_view ∙ ap (λ (z : PassView). without_in_hand e p.cpu z.view.carried) b.took.after_is

    -- and its bit was cleared
    module _ {s : PassView} {bit : Bool} (clear : Cleared e r s bit) where
      abbrev noted_here : Notes
      noted_here = record no_notes { came = e ∷ []; asked = record { element = e; bit = bit; cleared = true } ∷ [] }

      to_s : Goes r s [] []
      to_s =
          let v : View = cleared_view clear.at e bit r.view in
          goes_noted v.notes v.bits v.touched v.readings r s clear.after_is

      hand_s : s.view.hand ≡ p.view.hand
      hand_s = ap (λ (z : PassView). z.view.hand) clear.after_is ∙ hand_r

      in_hand_s : is_in_hand_of e hold.cpu s.view.hand ≡ true
      in_hand_s = (λ i. is_in_hand_of e (b.took.cpu_is i) (hand_s i)) ∙ can.in_hand

      learns_s : Learns t.shape q.view s.view [] (clears_bit e ∷ [])
      learns_s =
          let v : View = cleared_view clear.at e bit r.view in
          learns_on t.shape q.view r.view s.view [] [] [] (clears_bit e ∷ []) (learns_placed t.shape _ _ _ _ _ _ q r came_view)
          (subst (λ (z : PassView). Learns t.shape r.view z.view [] (clears_bit e ∷ [])) (sym clear.after_is) (forget_seen t.shape r.view v e bit (learns_cleared t.shape clear.at e bit r.view clear.known)))

      abbrev pub brought_lists : ℕ → ℕ → LocalView
      brought_lists hash cursor = with_steal cursor (with_pending_row (record { element = e; hash = hash }) lists)

      module _ {hash cursor : ℕ} (below : cursor < t.shape.cpus) (whole : IsLocal (brought_lists hash cursor)) where
        abbrev now : Lists
        now = with_row (Local p.cpu) e hold.now

        listed_now : (x : ℕ) → times x (rows now) ≡ times x (e ∷ elements_of lists.pending)
        listed_now x =
            let parts : times x (e ∷ (elements_of lists.pending ++ [])) ≡ times x (e ∷ elements_of lists.pending) = times_append x (e ∷ elements_of lists.pending) [] ∙ (let none : times x (e ∷ elements_of lists.pending) + 0 ≡ times x (e ∷ elements_of lists.pending) = omega arith in none) in
            ap (λ (l : Lists). times x (rows (with_row (Local p.cpu) e l))) b.took.now ∙ parts

        added_after : local_after (local.Add hash e cursor) (local_told lists) ≡ local_told (brought_lists hash cursor)
        unfolding local_after
        added_after = refl

        pub ready_brought : ReadyLocal t (local.Add hash e cursor) lists (brought_lists hash cursor) hold q s
        ready_brought = record {
          turns = [];
          goes = goes_on q r s [] [] [] [] to_r to_s;
          now = now;
          held = ap (λ (z : PassView). z.view.held) clear.after_is ∙ held_r;
          notes = noted_here;
          noted = ap (λ (z : PassView). z.view.notes) clear.after_is ∙ (ap (with_clear e bit) noted_r ∙ ap (λ (l : List Notes). noted_here ∷ l) (sym (ap notes_below (taken_noted b))));
          spares = ap (λ (z : PassView). z.spares) clear.after_is ∙ ap (λ (z : PassView). z.spares) came_view;
          left = added_after;
          allowed = (not_there e lists.pending none_pending, none_free, below);
          fits = record {
            sized = b.took.fits.sized;
            bound = b.took.fits.bound;
            room = b.took.fits.room;
            whole = whole;
            steal = below;
          };
          same_free = λ x. ap (λ (l : Lists). times x l.free) (sym b.took.now);
          same_rows = λ x. sym (listed_now x);
          rows_kept = λ x h n not_mine before after.
              let other : e ≢ x = λ same. true_false (sym ((λ i. in_hand_s i && came_among e (e ∷ []) (let more = times_cons_same e [] in omega (arith, more)) i)) ∙ ((λ i. is_in_hand_of (same i) hold.cpu s.view.hand && is_among (same i) (e ∷ [])) ∙ not_mine)) in
              some_is (sym before ∙ (sym (row_behind x (record { element = e; hash = hash }) lists.pending other) ∙ after));
          gone = λ x h before none.
              let inside : IsIn x (elements_of lists.pending) = stored_is_in x h lists.pending before in
              let both : times x (all_of now) ≡ times x now.free + times x (rows now) = times_append x now.free (rows now) in
              let listed = listed_now x in
              let more : times x (elements_of lists.pending) ≤ times x (e ∷ elements_of lists.pending) = by_test e x (λ z. times x (elements_of lists.pending) ≤ cond z (suc (times x (elements_of lists.pending))) (times x (elements_of lists.pending))) (λ _. omega arith) (λ _. omega arith) in
              absurd (omega (arith, inside, both, listed, more, none));
          notes_fit = record {
            marks_are = refl;
            clears_are = ([], bit, [], refl, refl);
            reads = All-nil (WasRead noted_here.asked);
            flushed = tt;
            off = All-nil (λ x. flushes x (parts.Local (local.Add hash e cursor)) ≡ true);
            held = All-nil (ProbeFits []);
            came = All-cons (CameToHand s.view (hold_with hold now) noted_here) e [] ((let more = times_cons_same e [] in omega (arith, more)), in_hand_s) (All-nil (CameToHand s.view (hold_with hold now) noted_here));
          };
          owners_told = λ lock x owner. refl;
          stays = refl;
          probes = [];
          are_evicts = tt;
          tried = refl;
          saw = saw_on_none t.shape q r s [] (saw_none t.shape q r _ (ap (λ (z : PassView). z.view.touched) came_view)) (saw_none t.shape r s _ (ap (λ (z : PassView). z.view.touched) clear.after_is));
          learns = learns_s;
        }

        pub can_give_brought : CanGive t (Local p.cpu) s (contents.Local (brought_lists hash cursor)) (parts.Local (local.Add hash e cursor))
        can_give_brought = can_give_local b ready_brought

        -- once they are given back
        pub brought : {u : PassView} (from : ℕ) → cursor ≡ ring_next from t.shape.cpus → Gave s u (parts.Local (local.Add hash e cursor)) → BroughtHome t hash from e p u
        unfolding ready_brought
        brought {u} from cursor_is gave =
            let part : Part = parts.Local (local.Add hash e cursor) in
            let meant : CanGive t (Local p.cpu) s (contents.Local (brought_lists hash cursor)) part = can_give_brought in
            let one : gave.hold ≡ meant.hold = same_head (sym gave.innermost ∙ meant.innermost) in
            let g : GaveAs t s u meant.hold part [] = subst (λ (h : Hold). GaveAs t s u h part []) one (gave_as t s u part gave) in
            let cpu_is : u.cpu ≡ p.cpu = g.goes.cpu ∙ (to_s.cpu ∙ (to_r.cpu ∙ (to_q b).cpu)) in
            record {
              step = given_turn s g.ticket meant.hold part;
              changed = changed_local b ready_brought part meant g (inl refl);
              turn_is = (λ i. record { lock = named_there b ready_brought part meant g (inl refl) i; part = parts.Local (local.Add hash e (cursor_is i)) });
              hand = g.hand ∙ hand_s;
              carried = g.carried ∙ (ap (λ (z : PassView). z.view.carried) clear.after_is ∙ carried_r);
              taken = λ body is sized. record {
                real = subst (λ (n : ℕ). n < t.shape.elements) (sym is) can.real;
                sized = sized;
                hashed = (λ i. bucket_known (is i) (cpu_is i) (hashes_local b ready_brought part meant g (inl refl) i))
                    ∙ given_hash p.cpu t.shape.buckets e hash (in_locals (local_told (brought_lists hash cursor))) (e ∷ []) s.view.hand s.view.hashes (came_among e (e ∷ []) (let more = times_cons_same e [] in omega (arith, more)))
                    (stored_pending (brought_lists hash cursor) e ∙ row_first e hash lists.pending) (ap (is_in_hand_of e p.cpu) hand_s ∙ can.in_hand);
              };
              saw = saw_local b ready_brought part meant g (inl refl);
            }

-- The whole turn, from the clauses of its calls
module _ {t : TableView} {e cpu : ℕ} {p q : PassView} {here : Slot} {lists : LocalView} (lru : MapEvicts t) (can : CanBringHome t e p)
    (mine : cpu ≡ p.cpu) (few : cpu < t.shape.cpus) (here_is : here ≡ contents.Local lists) (took : TookLock t (Local cpu) p q here) where
  abbrev on_own : OnLocal t p.cpu lists p q
  on_own = record {
    is_shape = lru.0;
    evicts = lru.1;
    there = local_there t.shape p.cpu can.common (subst (λ (n : ℕ). n < t.shape.cpus) mine few);
    of_table = can.of_table;
    begun = can.begun;
    alone = can.no_lock;
    took = subst (λ (z : ℕ × Slot). TookLock t (Local z.0) p q z.1) (λ i. (mine i, here_is i)) took;
  }

  pub may_come : CanRehome t e (homes.In (Local cpu)) q
  may_come = can_come_here can on_own cpu mine

  module _ {r : PassView} (home : Rehomed t e (homes.In (Local cpu)) q r) where
    abbrev came : Rehomed t e (homes.In (Local p.cpu)) q r
    came = subst (λ (c : ℕ). Rehomed t e (homes.In (Local c)) q r) mine home

    pub is_absent : times_on e lists ≡ 0
    is_absent = none_on can on_own came

    module _ (from : ℕ) {s : PassView} {bit : Bool} {hash cursor : ℕ} {shape : Shape} {added out : LocalView} (clear : Cleared e r s bit) (shape_is : shape ≡ t.shape) (cursor_is : cursor ≡ ring_next from shape.cpus) (below : cursor < shape.cpus)
        (added_is : added ≡ with_pending_row (record { element = e; hash = hash }) lists) (out_is : out ≡ with_steal cursor added) (whole : IsLocal out) where
      abbrev then : LocalView
      then = with_steal cursor (with_pending_row (record { element = e; hash = hash }) lists)

      then_is : out ≡ then
      then_is = out_is ∙ ap (with_steal cursor) added_is

      few_cursor : cursor < t.shape.cpus
      few_cursor = subst (λ (z : Shape). cursor < z.cpus) shape_is below

      pub may_give_brought : CanGive t (Local cpu) s (contents.Local out) (parts.Local (local.Add hash e cursor))
      may_give_brought =
          subst (λ (z : ℕ × LocalView). CanGive t (Local z.0) s (contents.Local z.1) (parts.Local (local.Add hash e cursor))) (λ i. (sym mine i, sym then_is i))
          (can_give_brought can on_own came clear few_cursor (subst IsLocal then_is whole))

      pub brought_home : {u : PassView} → Gave s u (parts.Local (local.Add hash e cursor)) → BroughtHome t hash from e p u
      brought_home {u} gave =
          brought can on_own came clear few_cursor (subst IsLocal then_is whole) from (cursor_is ∙ ap (λ (z : Shape). ring_next from z.cpus) shape_is) gave
