-- The head of the own local free list is given out: a turn of the own local lists, from its take to its give.
use Rattle.std.proofs.Common.{inl, ◌≡◌, ◌≢◌, ℕ, ◌<◌, ◌≤◌, ◌+◌, cond, true, Bool, List, [], ◌∷◌, ◌++◌, map, sym, refl, ap, ◌∙◌, subst, Some, suc, arith}
use Rattle.std.specs.Prelude.{◌⊎◌, ◌&&◌, IsTrue, MatchBool}
use Rattle.std.proofs.lemmas.List.Elements.{All-nil, All-cons}
use Rattle.map_types.specs.declared.kind.DomainId.TheVariants.{Local}
use Rattle.map_types.specs.declared.row.Row.{Row}
use Rattle.map_types.specs.ElementLists.{times, IsIn}
use Rattle.map_types.specs.Listed.{elements_of}
use Rattle.map_types.specs.Stored.{Stored}
use Rattle.map_types.proofs.RowLemmas.{times_append, by_test}
use Rattle.place_words.specs.declared.history.Part.{Part}
use Rattle.place_words.specs.declared.history.Part.TheVariants as parts
use Rattle.place_words.specs.declared.list_part.LocalPart.TheVariants as local
use Rattle.place_words.specs.Histories.{in_locals}
use Rattle.place_words.specs.Locals.{local_after}
use Rattle.place_words.specs.Locks.{is_lock, lock_number}
use Rattle.place_words.specs.Takings.{stored_hash, TakesFree, TakesByRefill, TakesOwn}
use Rattle.place_words.specs.declared.step.Lists.{Lists}
use Rattle.place_words.specs.State.{rows}
use Rattle.place_words.specs.Wholeness.{all_of}
use Rattle.place_words.proofs.ElementLemmas.{times_cons_same}
use Rattle.place_table.specs.declared.content.Content.{Content as Slot}
use Rattle.place_table.specs.declared.content.Content.TheVariants as contents
use Rattle.place_table.specs.declared.view.Hold.{Hold}
use Rattle.place_table.specs.declared.view.Notes.{Notes}
use Rattle.place_table.specs.declared.view.Turned.{Turned}
use Rattle.place_table.specs.Flushes.{flushes}
use Rattle.place_table.specs.Known.{turn_at}
use Rattle.place_table.specs.Passes.{PassView, TableView, CanGive, Gave, TookLock}
use Rattle.place_table.specs.TurnNotes.{WasRead, ProbeFits, CameToHand}
use Rattle.place_table.specs.Views.{is_in_hand_of, is_among, no_notes, notes_below, bucket_known, with_in_hand, hold_with}
use Rattle.place_table.proofs.Came.{came_among}
use Rattle.place_table.proofs.Going.{given_turn, goes_of_table, goes_begun, same_head}
use Rattle.place_table.proofs.StoredHashes.{stored_is_in}
use Rattle.place_table.proofs.Worlds.{some_is, true_false}
use Rattle.local_lists.specs.LocalLists.{LocalView, local_told}
use Rattle.local_lists.proofs.ToldLemmas.{top_is_head, popped_numbers}
use Rattle.lru_ops.specs.Lists.{MapEvicts, Acquired}
use Rattle.lru_ops.specs.LocalWork.{CanMakePending, MadePending}
use Rattle.lru_ops.specs.Shared.{CanTakeShared}
use Rattle.lru_ops.proofs.Ends.{changed_all}
use Rattle.lru_ops.proofs.BroughtHome.{given_hash, row_behind, row_first}
use Rattle.lru_ops.proofs.LocalTurns.{OnLocal, ReadyLocal, local_there, to_q, taken_held, taken_noted, named_there, can_give_local, changed_local, saw_local, hashes_local, stored_pending}
use Rattle.lru_ops.proofs.MadePending.{now_given, to_given, held_given, noted_with, noted_given, hand_given, in_hand_given, carried_given, spares_given, learns_given, saw_given, free_given, pending_given}
use Rattle.lru_ops.proofs.OwnTurns.{GaveAs, gave_as}

-- The lists were taken.
module _ {t : TableView} {lists : LocalView} {p q : PassView} (b : OnLocal t p.cpu lists p q) where
  abbrev pub can_make_pending : CanMakePending t lists q
  can_make_pending = record {
    of_table = goes_of_table t p q [] [] (to_q b) b.of_table;
    begun = goes_begun p q [] [] (to_q b) b.begun;
    there = subst (λ (c : ℕ). IsTrue (is_lock t.shape (Local c))) (sym (to_q b).cpu) b.there;
    hold = b.took.hold;
    held = taken_held b;
    lock_is = b.took.lock_is ∙ ap (λ (c : ℕ). lock_number t.shape (Local c)) (sym (to_q b).cpu);
    cpu_is = b.took.cpu_is ∙ sym (to_q b).cpu;
    fits = b.took.fits;
    free_is = ap (λ (l : Lists). l.free) b.took.now;
  }

  -- and their head was given out
  module _ {hash : ℕ} {out : LocalView} {s : PassView} {body : Stored} (g : MadePending t hash lists out q s body) where
    abbrev can : CanMakePending t lists q
    can = can_make_pending

    abbrev e : ℕ
    e = body.element

    abbrev hold : Hold
    hold = b.took.hold

    abbrev now : Lists
    now = now_given can g

    abbrev noted_here : Notes
    noted_here = noted_with can g no_notes

    listed_now : (x : ℕ) → times x (rows now) ≡ times x (e ∷ elements_of lists.pending)
    listed_now x =
        let parts : times x (e ∷ (elements_of lists.pending ++ [])) ≡ times x (e ∷ elements_of lists.pending) = times_append x (e ∷ elements_of lists.pending) [] ∙ (let none : times x (e ∷ elements_of lists.pending) + 0 ≡ times x (e ∷ elements_of lists.pending) = omega arith in none) in
        ap (λ (l : Lists). times x (e ∷ (l.first ++ l.second))) b.took.now ∙ parts

    popped_after : local_after (local.Pop hash e) (local_told lists) ≡ local_told out
    unfolding local_after
    popped_after = (λ i. record { free = sym (popped_numbers lists.free) i; pending = record { element = e; hash = hash } ∷ lists.pending; steal = lists.steal }) ∙ sym (ap local_told g.after_is)

    pub ready_popped : ReadyLocal t (local.Pop hash e) lists out hold q s
    ready_popped = record {
      turns = [];
      goes = to_given can g;
      now = now;
      held = held_given can g;
      notes = noted_here;
      noted = noted_given can g no_notes p.view.notes (taken_noted b) ∙ ap (λ (l : List Notes). noted_here ∷ l) (sym (ap notes_below (taken_noted b)));
      spares = spares_given can g;
      left = popped_after;
      allowed = top_is_head lists.free.bodies body (sym g.head);
      fits = g.fits;
      same_free = λ x. ap (times x) (sym (free_given can g));
      same_rows = λ x. ap (λ (l : List Row). times x (elements_of l)) (pending_given can g) ∙ sym (listed_now x);
      rows_kept = λ x h n not_mine before after.
          let other : e ≢ x = λ same. true_false (sym ((λ i. in_hand_given can g i && came_among e (e ∷ []) (let more = times_cons_same e [] in omega (arith, more)) i)) ∙ ((λ i. is_in_hand_of (same i) hold.cpu s.view.hand && is_among (same i) (e ∷ [])) ∙ not_mine)) in
          some_is (sym before ∙ (sym (row_behind x (record { element = e; hash = hash }) lists.pending other) ∙ (ap (stored_hash x) (sym (pending_given can g)) ∙ after)));
      gone = λ x h before none.
          let inside : IsIn x (elements_of lists.pending) = stored_is_in x h lists.pending before in
          let both : times x (all_of now) ≡ times x now.free + times x (rows now) = times_append x now.free (rows now) in
          let listed = listed_now x in
          let more : times x (elements_of lists.pending) ≤ times x (e ∷ elements_of lists.pending) = by_test e x (λ z. times x (elements_of lists.pending) ≤ cond z (suc (times x (elements_of lists.pending))) (times x (elements_of lists.pending))) (λ _. omega arith) (λ _. omega arith) in
          absurd (omega (arith, inside, both, listed, more, none));
      notes_fit = record {
        marks_are = refl;
        clears_are = ([], g.bit, [], refl, refl);
        reads = All-nil (WasRead noted_here.asked);
        flushed = tt;
        off = All-nil (λ x. flushes x (parts.Local (local.Pop hash e)) ≡ true);
        held = All-nil (ProbeFits []);
        came = All-cons (CameToHand s.view (hold_with hold now) noted_here) e [] ((let more = times_cons_same e [] in omega (arith, more)), in_hand_given can g) (All-nil (CameToHand s.view (hold_with hold now) noted_here));
      };
      owners_told = λ lock x owner. refl;
      stays = refl;
      probes = [];
      are_evicts = tt;
      tried = refl;
      saw = saw_given can g;
      learns = learns_given can g;
    }

    pub can_give_popped : CanGive t (Local p.cpu) s (contents.Local out) (parts.Local (local.Pop hash e))
    can_give_popped = can_give_local b ready_popped

    -- once they are given back
    pub took_free : {u : PassView} → IsTrue t.shape.common → Gave s u (parts.Local (local.Pop hash e)) → Acquired t hash p u (Some body)
    unfolding ready_popped
    took_free {u} common gave =
        let part : Part = parts.Local (local.Pop hash e) in
        let meant : CanGive t (Local p.cpu) s (contents.Local out) part = can_give_popped in
        let one : gave.hold ≡ meant.hold = same_head (sym gave.innermost ∙ meant.innermost) in
        let a : GaveAs t s u meant.hold part [] = subst (λ (h : Hold). GaveAs t s u h part []) one (gave_as t s u part gave) in
        let cpu_is : u.cpu ≡ p.cpu = a.goes.cpu ∙ ((to_given can g).cpu ∙ (to_q b).cpu) in
        let told : List Turned = given_turn s a.ticket meant.hold part ∷ [] in
        let hand_s : s.view.hand ≡ with_in_hand e p.cpu p.view.hand = hand_given can g ∙ ap (λ (z : PassView). with_in_hand e z.cpu z.view.hand) b.took.after_is in
        let in_hand : is_in_hand_of e p.cpu s.view.hand ≡ true = ap (λ (c : ℕ). is_in_hand_of e c s.view.hand) (sym b.took.cpu_is) ∙ in_hand_given can g in
        record {
          steps = told;
          told = told;
          lost = [];
          changed = changed_all (changed_local b ready_popped part meant a (inl refl)) (a.carried ∙ (carried_given can g ∙ ap (λ (z : PassView). z.view.carried) b.took.after_is));
          trace = subst (λ (z : Bool). MatchBool z (TakesFree p.cpu hash (Some e) (map (turn_at t.shape) told) ⊎ TakesByRefill t.shape p.cpu hash (Some e) (map (turn_at t.shape) told)) (TakesOwn t.shape p.cpu hash (Some e) (map (turn_at t.shape) told))) (sym common)
              (inl (λ i. record { lock = named_there b ready_popped part meant a (inl refl) i; part = part } ∷ []));
          hand = a.hand ∙ hand_s;
          taken = record {
            real = g.real;
            sized = g.sized;
            hashed = (λ i. bucket_known e (cpu_is i) (hashes_local b ready_popped part meant a (inl refl) i))
                ∙ given_hash p.cpu t.shape.buckets e hash (in_locals (local_told out)) (e ∷ []) s.view.hand s.view.hashes (came_among e (e ∷ []) (let more = times_cons_same e [] in omega (arith, more)))
                (stored_pending out e ∙ (ap (stored_hash e) (pending_given can g) ∙ row_first e hash lists.pending)) in_hand;
          };
          none = tt;
          saw = saw_local b ready_popped part meant a (inl refl);
        }

-- From the clauses of the calls
module _ {t : TableView} {cpu : ℕ} {p q : PassView} {here : Slot} {lists : LocalView} (lru : MapEvicts t) (can : CanTakeShared t p)
    (mine : cpu ≡ p.cpu) (few : cpu < t.shape.cpus) (here_is : here ≡ contents.Local lists) (took : TookLock t (Local cpu) p q here) where
  abbrev pub on_taken : OnLocal t p.cpu lists p q
  on_taken = record {
    is_shape = lru.0;
    evicts = lru.1;
    there = local_there t.shape p.cpu can.common (subst (λ (n : ℕ). n < t.shape.cpus) mine few);
    of_table = can.can.of_table;
    begun = can.can.begun;
    alone = can.can.in_no_call.holds_nothing;
    took = subst (λ (z : ℕ × Slot). TookLock t (Local z.0) p q z.1) (λ i. (mine i, here_is i)) took;
  }

  pub may_make_pending : CanMakePending t lists q
  may_make_pending = can_make_pending on_taken

  pub lock_taken : Local cpu ≡ Local q.cpu
  lock_taken = ap Local (mine ∙ sym (to_q on_taken).cpu)

  module _ {hash element : ℕ} {out : LocalView} {s : PassView} {body : Stored} (made : MadePending t hash lists out q s body) (number : element ≡ body.element) where
    pub may_give_popped : CanGive t (Local cpu) s (contents.Local out) (parts.Local (local.Pop hash element))
    may_give_popped =
        subst (λ (z : ℕ × ℕ). CanGive t (Local z.0) s (contents.Local out) (parts.Local (local.Pop hash z.1))) (λ i. (sym mine i, sym number i)) (can_give_popped on_taken made)

    pub got_free : {u : PassView} → Gave s u (parts.Local (local.Pop hash element)) → Acquired t hash p u (Some body)
    got_free {u} gave =
        took_free on_taken made can.common (subst (λ (n : ℕ). Gave s u (parts.Local (local.Pop hash n))) number gave)
