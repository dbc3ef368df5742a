-- How what the rule says of tickets changes with a read of the ticket word, with a draw and with a give.
use Rattle.std.proofs.Common.{◌≡◌, ◌≢◌, ℕ, suc, ◌+◌, ◌<◌, ◌≤◌, ◌⊎◌, inl, inr, ⊎_elim, cond, Bool, true, false, List, [], ◌∷◌, ◌++◌, length, set, sym, refl, ap, ◌∙◌, subst, arith, Some}
use Rattle.std.specs.Prelude.{IsTrue, slice_get, nat_lt}
use Rattle.std.proofs.lemmas.Bool.{ltb-true, ltb-false}
use mathlib.Core.Option.{some}
use lib.ListN.{get_elem?}
use Rattle.atomic_table.proofs.Lists.{at_set, set_here}
use Rattle.map_types.specs.declared.attr.Shape.{Shape}
use Rattle.map_types.specs.ElementLists.{put}
use Rattle.map_types.proofs.RowLemmas.{by_test}
use Rattle.place_words.specs.declared.history.Entry.{Entry}
use Rattle.place_words.specs.Locks.{is_lock, lock_named, lock_count}
use Rattle.place_words.proofs.ElementLemmas.{at_put, put_here, put_else}
use Rattle.place_table.specs.declared.view.Known.{Known}
use Rattle.place_table.specs.declared.view.View.{View}
use Rattle.place_table.specs.declared.view.Turned.{Turned}
use Rattle.place_table.specs.declared.view.Ended.{Ended}
use Rattle.place_table.specs.declared.view.Ticket.{Ticket}
use Rattle.place_table.specs.declared.view.Ticket.TheVariants.{Unread, Drawing, Drawn, Refused}
use Rattle.place_table.specs.declared.view.WordStep.{WordStep}
use Rattle.place_table.specs.Views.{learning, found_below, reached_by, refused_by, next, number_by, ticket_of, ticketed}
use Rattle.place_table.specs.Words.{ticket_bound}
use Rattle.place_words.specs.Tickets.{tickets_of, AscendIn}
use Rattle.place_table.specs.Tickets.{Stand, in_log, with_cpu, turn_tickets, EachAscends, NoneLost, Inner, innermost, IsUnderWay, TicketFits, IsTaken, IsRead, KnowsTickets, IsNewest, IsAt, Tickets}
use Rattle.place_table.specs.Nested.{log_held, AreNested, EachNested}
use Rattle.place_table.proofs.Worlds.{by_bool}
use Rattle.place_table.proofs.Nesting.{Ends, nested_ended, each_nested_on}
use Rattle.place_words.proofs.Ascending.{ascend_to, ascend_more, tickets_more, ticket_below}
use Rattle.place_table.proofs.TicketLemmas.{each_to, turn_tickets_more, got_before, got_last, got_either, count_most, count_off, unread_drawn, drawing_drawn, refused_drawn, drawn_is, cpu_is_not_log, cpu_of, seat_below, newest_moves, newest_here, out_else, knows_else, taken_read, AreTheirs}

-- THE READ: the ticket word is read by a pass that holds a lock.
pub tickets_read : (shape : Shape) (word : ℕ) (log : ℕ → List Entry) (lost : ℕ → Bool) (pass_of_cpu : ℕ → ℕ) (views : List View) (pass : ℕ) (v : View) (inner : Inner) (touched : List WordStep) → get_elem? views pass ≡ some v → v.ticket ≡ Unread
    → innermost v.held ≡ Some inner → ((k : ℕ) (l : List Entry) → log_held k v.held ≡ Some l → l ≡ log k) → shape.cpus ≤ 16 → inner.cpu < shape.cpus → pass_of_cpu inner.cpu ≡ pass
    → Tickets shape word log lost pass_of_cpu views → Tickets shape word log lost pass_of_cpu (set views pass (ticketed (found_below word) word touched v))
tickets_read shape word log lost pass_of_cpu views pass v inner touched at_pass unread inner_is logs few within mine r =
    by_bool (nat_lt word ticket_bound) (λ b. nat_lt word ticket_bound ≡ b → Tickets shape word log lost pass_of_cpu (set views pass (ticketed (cond b Drawing Refused) word touched v)))
    (λ _ low. record {
      drawing = put r.drawing inner.cpu true;
      stand = r.stand;
      bounded = let most = count_most (put r.drawing inner.cpu true) shape.cpus in let less = ltb-true word ticket_bound low in omega arith;
      stands = r.stands;
      ascend = r.ascend;
      filled = λ none t less. at_stays t (ticketed Drawing word touched v) (r.stand t) (r.filled none t less);
      known = λ j x at. ⊎_elim
          (λ (here : (j ≡ pass) × (ticketed Drawing word touched v ≡ x)). subst (KnowsTickets shape word lost (put r.drawing inner.cpu true) r.stand) here.1 record {
            reached = omega arith;
            refused = later;
            all_drawn = kn.all_drawn;
            strand = ascend_to 0 (turn_tickets v.steps) (next v) (word + v.refused) further kn.strand;
            ended = each_to v.ended (next v) (word + v.refused) further kn.ended;
            ticket = (record { inner = inner; inner_is = inner_is }, ltb-true word ticket_bound low, put_here r.drawing inner.cpu true);
            below = λ _. all_below;
            nested = kn.nested;
            ended_nested = kn.ended_nested;
          })
          (λ (other : (j ≢ pass) × (get_elem? views j ≡ some x)). knows_else shape word word lost lost r.drawing (put r.drawing inner.cpu true) r.stand r.stand x (omega arith) (λ _ lo. lo)
          (λ found _ is. at_put r.drawing inner.cpu true (λ _ b. b ≡ true) found.cpu refl (λ _. is)) (λ _ _ _ _ is. is) (r.known j x other.1))
          (at_set views pass j (ticketed Drawing word touched v) x at);
      newest = newest_here shape.cpus word pass_of_cpu views pass inner.cpu v (ticketed Drawing word touched v) at_pass within mine refl;
    })
    (λ _ high. record {
      drawing = r.drawing;
      stand = r.stand;
      bounded = r.bounded;
      stands = r.stands;
      ascend = r.ascend;
      filled = λ none t less. at_stays t (ticketed Refused word touched v) (r.stand t) (r.filled none t less);
      known = λ j x at. ⊎_elim
          (λ (here : (j ≡ pass) × (ticketed Refused word touched v ≡ x)). subst (KnowsTickets shape word lost r.drawing r.stand) here.1 record {
            reached = omega arith;
            refused = later;
            all_drawn = kn.all_drawn;
            strand = ascend_to 0 (turn_tickets v.steps) (next v) (word + v.refused) further kn.strand;
            ended = each_to v.ended (next v) (word + v.refused) further kn.ended;
            ticket = ltb-false word ticket_bound high;
            below = λ _. all_below;
            nested = kn.nested;
            ended_nested = kn.ended_nested;
          })
          (λ (other : (j ≢ pass) × (get_elem? views j ≡ some x)). r.known j x other.1)
          (at_set views pass j (ticketed Refused word touched v) x at);
      newest = newest_here shape.cpus word pass_of_cpu views pass inner.cpu v (ticketed Refused word touched v) at_pass within mine refl;
    })
    refl
  where
    kn : KnowsTickets shape word lost r.drawing r.stand v
    kn = r.known pass v at_pass

    further : next v ≤ word + v.refused
    further = let low = kn.reached in omega arith

    later : (v.refused ≡ 0) ⊎ (ticket_bound ≤ word)
    later = ⊎_elim (λ (none : v.refused ≡ 0). inl none) (λ (high : ticket_bound ≤ v.reached). inr (let low = kn.reached in omega arith)) kn.refused

    all_below : (k : ℕ) (l : List Entry) → log_held k v.held ≡ Some l → lost k ≡ false → AscendIn 0 (tickets_of l) word
    all_below k l is lo = subst (λ (z : List Entry). AscendIn 0 (tickets_of z) word) (sym (logs k l is)) (r.ascend k lo)

    at_stays : (t : ℕ) (u : View) (x : Stand) → IsAt shape log pass_of_cpu views t x → IsAt shape log pass_of_cpu (set views pass u) t x
    at_stays t u (in_log m place) is = is
    at_stays t u (with_cpu c) out = out_else pass_of_cpu views pass v u t c at_pass (λ drawn. unread_drawn (sym unread ∙ drawn)) out

-- THE LOOK: the ticket word is read by a pass that draws none.
pub tickets_seen : (shape : Shape) (word : ℕ) (log : ℕ → List Entry) (lost : ℕ → Bool) (pass_of_cpu : ℕ → ℕ) (views : List View) (pass : ℕ) (v : View) (touched : List WordStep) (learned : List Known) → get_elem? views pass ≡ some v → v.ticket ≡ Unread
    → Tickets shape word log lost pass_of_cpu views → Tickets shape word log lost pass_of_cpu (set views pass (learning learned (ticketed v.ticket word touched v)))
tickets_seen shape word log lost pass_of_cpu views pass v touched learned at_pass unread r = record {
  drawing = r.drawing;
  stand = r.stand;
  bounded = r.bounded;
  stands = r.stands;
  ascend = r.ascend;
  filled = λ none t less. at_stays t (r.stand t) (r.filled none t less);
  known = λ j x at. ⊎_elim
      (λ (here : (j ≡ pass) × (u ≡ x)). subst (KnowsTickets shape word lost r.drawing r.stand) here.1 record {
        reached = omega arith;
        refused = later;
        all_drawn = kn.all_drawn;
        strand = ascend_to 0 (turn_tickets v.steps) (next v) (word + v.refused) further kn.strand;
        ended = each_to v.ended (next v) (word + v.refused) further kn.ended;
        ticket = subst (TicketFits word r.drawing r.stand u) (sym unread) tt;
        below = λ read. absurd (subst IsRead unread read);
        nested = kn.nested;
        ended_nested = kn.ended_nested;
      })
      (λ (other : (j ≢ pass) × (get_elem? views j ≡ some x)). r.known j x other.1)
      (at_set views pass j u x at);
  newest = newest_moves shape.cpus word word pass_of_cpu views pass v u at_pass (λ _. ap (λ (x : Ticket). reached_by x word) unread) refl r.newest;
}
  where
    u : View
    u = learning learned (ticketed v.ticket word touched v)

    kn : KnowsTickets shape word lost r.drawing r.stand v
    kn = r.known pass v at_pass

    further : next v ≤ word + v.refused
    further = let low = kn.reached in omega arith

    later : (v.refused ≡ 0) ⊎ (ticket_bound ≤ word)
    later = ⊎_elim (λ (none : v.refused ≡ 0). inl none) (λ (high : ticket_bound ≤ v.reached). inr (let low = kn.reached in omega arith)) kn.refused

    at_stays : (t : ℕ) (x : Stand) → IsAt shape log pass_of_cpu views t x → IsAt shape log pass_of_cpu (set views pass u) t x
    at_stays t (in_log m place) is = is
    at_stays t (with_cpu c) out = out_else pass_of_cpu views pass v u t c at_pass (λ drawn. unread_drawn (sym unread ∙ drawn)) out

-- THE DRAW: the pass that was about to draw does.
pub tickets_drawn : (shape : Shape) (word : ℕ) (log : ℕ → List Entry) (lost : ℕ → Bool) (pass_of_cpu : ℕ → ℕ) (views : List View) (pass : ℕ) (v : View) (touched : List WordStep) → get_elem? views pass ≡ some v → v.ticket ≡ Drawing
    → AreTheirs pass_of_cpu views → ((inner : Inner) → innermost v.held ≡ Some inner → inner.cpu < shape.cpus)
    → Tickets shape word log lost pass_of_cpu views → Tickets shape (1 + word) log lost pass_of_cpu (set views pass (ticketed (Drawn word) v.reached touched v))
tickets_drawn shape word log lost pass_of_cpu views pass v touched at_pass is_drawing theirs within r = record {
  drawing = put r.drawing c false;
  stand = put r.stand word (with_cpu c);
  bounded = let was = r.bounded in let off = count_off r.drawing c shape.cpus (within turn.inner turn.inner_is) fits.2 in omega arith;
  stands = λ k place entry kept got. put_else r.stand word (with_cpu c) entry.ticket (λ same. let less = ticket_below 0 (log k) word place entry (r.ascend k kept) got in omega (arith, same, less)) ∙ r.stands k place entry kept got;
  ascend = λ k kept. ascend_to 0 (tickets_of (log k)) word (1 + word) (omega arith) (r.ascend k kept);
  filled = λ none t less. at_put r.stand word (with_cpu c) (λ i x. i < 1 + word → IsAt shape log pass_of_cpu (set views pass u) i x) t
      (λ _. record {
        view = u;
        inner = turn.inner;
        seat = ap (get_elem? (set views pass u)) (theirs pass v turn.inner at_pass turn.inner_is) ∙ set_here views pass u (seat_below views pass v at_pass);
        inner_is = turn.inner_is;
        cpu_is = refl;
        drawn = refl;
      })
      (λ other low. at_stays t (r.stand t) (r.filled none t (omega (arith, low, other)))) less;
  known = λ j x at. ⊎_elim
      (λ (here : (j ≡ pass) × (u ≡ x)). subst (KnowsTickets shape (1 + word) lost (put r.drawing c false) (put r.stand word (with_cpu c))) here.1 record {
        reached = let was = kn.reached in omega arith;
        refused = kn.refused;
        all_drawn = kn.all_drawn;
        strand = kn.strand;
        ended = kn.ended;
        ticket = (record { inner = turn.inner; inner_is = turn.inner_is }, fits.1, kn.reached, omega arith, put_here r.stand word (with_cpu c));
        below = λ _. kn.below (subst IsRead (sym is_drawing) tt);
        nested = kn.nested;
        ended_nested = kn.ended_nested;
      })
      (λ (other : (j ≢ pass) × (get_elem? views j ≡ some x)). knows_else shape word (1 + word) lost lost r.drawing (put r.drawing c false) r.stand (put r.stand word (with_cpu c)) x (omega arith) (λ _ lo. lo)
      (λ inner inner_is is. put_else r.drawing c false inner.cpu (λ same. other.0 (sym (theirs j x inner other.1 inner_is) ∙ (ap pass_of_cpu same ∙ theirs pass v turn.inner at_pass turn.inner_is))) ∙ is)
      (λ inner t _ less is. put_else r.stand word (with_cpu c) t (λ same. omega (arith, same, less)) ∙ is)
      (r.known j x other.1))
      (at_set views pass j u x at);
  newest = newest_here shape.cpus (1 + word) pass_of_cpu views pass c v u at_pass (within turn.inner turn.inner_is) (theirs pass v turn.inner at_pass turn.inner_is) (omega arith);
}
  where
    u : View
    u = ticketed (Drawn word) v.reached touched v

    kn : KnowsTickets shape word lost r.drawing r.stand v
    kn = r.known pass v at_pass

    fits : TicketFits word r.drawing r.stand v Drawing
    fits = subst (TicketFits word r.drawing r.stand v) is_drawing kn.ticket

    turn : IsUnderWay v
    turn = fits.0

    c : ℕ
    c = turn.inner.cpu

    at_stays : (t : ℕ) (x : Stand) → IsAt shape log pass_of_cpu views t x → IsAt shape log pass_of_cpu (set views pass u) t x
    at_stays t (in_log m place) is = is
    at_stays t (with_cpu d) out = out_else pass_of_cpu views pass v u t d at_pass (λ drawn. drawing_drawn (sym is_drawing ∙ drawn)) out

-- THE GIVE: the lock k, which the pass took last, is given back with an entry that has the ticket drawn, or its record is lost.
pub tickets_given : (shape : Shape) (word : ℕ) (log logs : ℕ → List Entry) (lost losts : ℕ → Bool) (pass_of_cpu : ℕ → ℕ) (views : List View) (pass k : ℕ) (v u : View) (entry : Entry) (step : Turned) → get_elem? views pass ≡ some v
    → AreTheirs pass_of_cpu views → Ends shape v.held u.held step → log_held k v.held ≡ Some (log k) → k < lock_count shape → IsTrue (is_lock shape (lock_named shape k))
    → logs k ≡ log k ++ entry ∷ [] → ((m : ℕ) → m ≢ k → logs m ≡ log m) → ((m : ℕ) → m ≢ k → losts m ≡ lost m)
    → (losts k ≡ false → (v.ticket ≡ Drawn entry.ticket) × (lost k ≡ false))
    → IsTaken v.ticket → entry.ticket ≡ ticket_of v → u.reached ≡ reached_by v.ticket v.reached → u.refused ≡ refused_by v.ticket v.refused → u.steps ≡ v.steps ++ step ∷ [] → step.entry ≡ entry → u.ended ≡ v.ended → u.ticket ≡ Unread
    → Tickets shape word log lost pass_of_cpu views → Tickets shape word logs losts pass_of_cpu (set views pass u)
tickets_given shape word log logs lost losts pass_of_cpu views pass k v u entry step at_pass theirs ends held_is real there grown log_else lost_else fits taken numbered reached refused steps step_is ended unread r = go v.ticket refl
  where
    kn : KnowsTickets shape word lost r.drawing r.stand v
    kn = r.known pass v at_pass

    kept : (m : ℕ) → losts m ≡ false → lost m ≡ false
    kept m is = by_test m k (λ _. lost m ≡ false) (λ same. ap lost same ∙ (fits (ap losts (sym same) ∙ is)).1) (λ other. sym (lost_else m other) ∙ is)

    losses : NoneLost shape losts → NoneLost shape lost
    losses none m below is = kept m (none m below is)

    -- the turns before of each lock that is held have lower tickets
    before_each : (m : ℕ) (l : List Entry) → log_held m v.held ≡ Some l → lost m ≡ false → AscendIn 0 (tickets_of l) v.reached
    before_each = kn.below (taken_read v.ticket taken)

    nested_now : v.reached ≤ entry.ticket → AreNested shape losts u.steps u.held
    nested_now low = subst (λ (l : List Turned). AreNested shape losts l u.held) (sym steps) (nested_ended ends lost losts v.steps kept
        (λ m l is lo. subst (AscendIn 0 (tickets_of l)) (sym (ap (λ (z : Entry). z.ticket) step_is)) (ascend_to 0 (tickets_of l) v.reached entry.ticket low (before_each m l is (kept m lo)))) kn.nested)

    ended_now : EachNested shape losts u.ended
    ended_now = subst (EachNested shape losts) (sym ended) (each_nested_on shape lost losts v.ended kept kn.ended_nested)

    over : IsNewest shape.cpus word pass_of_cpu (set views pass u)
    over = newest_moves shape.cpus word word pass_of_cpu views pass v u at_pass (λ is. ap (λ (x : Ticket). reached_by x u.reached) unread ∙ (reached ∙ is)) refl r.newest

    -- nothing was drawn: the record of the lock is lost
    undrawn : ((t : ℕ) → v.ticket ≡ Drawn t → ⊥) → reached_by v.ticket v.reached ≡ v.reached → refused_by v.ticket v.refused ≡ suc v.refused → ticket_of v ≡ next v → ticket_bound ≤ v.reached → Tickets shape word logs losts pass_of_cpu (set views pass u)
    undrawn none_drawn stays one_more its_number high = record {
      drawing = r.drawing;
      stand = r.stand;
      bounded = r.bounded;
      stands = λ m place e is got. by_test m k (λ _. r.stand e.ticket ≡ in_log m place)
          (λ same. absurd (gone (ap losts (sym same) ∙ is)))
          (λ other. r.stands m place e (kept m is) (ap (λ (l : List Entry). slice_get l place) (sym (log_else m other)) ∙ got));
      ascend = λ m is. by_test m k (λ _. AscendIn 0 (tickets_of (logs m)) word)
          (λ same. absurd (gone (ap losts (sym same) ∙ is)))
          (λ other. subst (λ (l : List Entry). AscendIn 0 (tickets_of l) word) (sym (log_else m other)) (r.ascend m (kept m is)));
      filled = λ none. absurd (gone (none k real there));
      known = λ j x at. ⊎_elim
          (λ (here : (j ≡ pass) × (u ≡ x)). subst (KnowsTickets shape word losts r.drawing r.stand) here.1 record {
            reached = subst (λ (z : ℕ). z ≤ word) (sym (reached ∙ stays)) kn.reached;
            refused = inr (subst (λ (z : ℕ). ticket_bound ≤ z) (sym (reached ∙ stays)) high);
            all_drawn = λ none. absurd (gone (none k real there));
            strand = subst (λ (z : List Turned × ℕ × ℕ). AscendIn 0 (turn_tickets z.0) (z.1 + z.2)) (λ i. (sym steps i, sym (reached ∙ stays) i, sym (refused ∙ one_more) i))
                (subst (λ (l : List ℕ). AscendIn 0 l (v.reached + suc v.refused)) (sym (turn_tickets_more v.steps step ∙ ap (λ (n : ℕ). turn_tickets v.steps ++ n ∷ []) (ap (λ (z : Entry). z.ticket) step_is ∙ (numbered ∙ its_number))))
                (ascend_more 0 (turn_tickets v.steps) (next v) (next v) (v.reached + suc v.refused) (omega arith) (omega arith) kn.strand));
            ended = subst (λ (z : List Ended × ℕ × ℕ). EachAscends z.0 (z.1 + z.2)) (λ i. (sym ended i, sym (reached ∙ stays) i, sym (refused ∙ one_more) i))
                (each_to v.ended (next v) (v.reached + suc v.refused) (omega arith) kn.ended);
            ticket = subst (TicketFits word r.drawing r.stand u) (sym unread) tt;
            below = λ read. absurd (subst IsRead unread read);
            nested = nested_now (omega (arith, numbered, its_number));
            ended_nested = ended_now;
          })
          (λ (other : (j ≢ pass) × (get_elem? views j ≡ some x)). knows_else shape word word lost losts r.drawing r.drawing r.stand r.stand x (omega arith) kept (λ _ _ is. is) (λ _ _ _ _ is. is) (r.known j x other.1))
          (at_set views pass j u x at);
      newest = over;
    }
      where
        gone : losts k ≡ false → ⊥
        gone is = none_drawn entry.ticket (fits is).0

    -- a ticket was drawn, which is that of the entry where the record isn't lost
    drew : (t : ℕ) → v.ticket ≡ Drawn t → TicketFits word r.drawing r.stand v (Drawn t) → Tickets shape word logs losts pass_of_cpu (set views pass u)
    drew t drawn is_so = record {
      drawing = r.drawing;
      stand = put r.stand t last;
      bounded = r.bounded;
      stands = λ m place e is got. by_test m k (λ _. put r.stand t last e.ticket ≡ in_log m place)
          (λ same.
          let here = ap losts (sym same) ∙ is in
          ⊎_elim
          (λ (before : slice_get (log k) place ≡ Some e).
          let less = ticket_below 0 (log k) v.reached place e (before_is here) before in
          let low : v.reached ≤ t = is_so.2 in
          put_else r.stand t last e.ticket (λ equal. omega (arith, equal, less, low)) ∙ (r.stands k place e (kept k here) before ∙ ap (λ (n : ℕ). in_log n place) (sym same)))
          (λ (newest : (place ≡ length (log k)) × (e ≡ entry)).
          let its : e.ticket ≡ t = ap (λ (z : Entry). z.ticket) newest.1 ∙ its_ticket here in
          ap (put r.stand t last) its ∙ (put_here r.stand t last ∙ (λ i. in_log (sym same i) (sym newest.0 i))))
          (got_either (log k) entry place e (ap (λ (l : List Entry). slice_get l place) (sym grown ∙ ap logs (sym same)) ∙ got)))
          (λ other.
          let was = r.stands m place e (kept m is) (ap (λ (l : List Entry). slice_get l place) (sym (log_else m other)) ∙ got) in
          put_else r.stand t last e.ticket (λ equal. cpu_is_not_log (sym is_so.4 ∙ (ap r.stand (sym equal) ∙ was))) ∙ was);
      ascend = λ m is. by_test m k (λ _. AscendIn 0 (tickets_of (logs m)) word)
          (λ same.
          let here = ap losts (sym same) ∙ is in
          subst (λ (l : List ℕ). AscendIn 0 l word) (sym (ap tickets_of (ap logs same ∙ grown) ∙ (tickets_more (log k) entry ∙ ap (λ (n : ℕ). tickets_of (log k) ++ n ∷ []) (its_ticket here))))
          (ascend_more 0 (tickets_of (log k)) v.reached t word is_so.2 is_so.3 (before_is here)))
          (λ other. subst (λ (l : List Entry). AscendIn 0 (tickets_of l) word) (sym (log_else m other)) (r.ascend m (kept m is)));
      filled = λ none x less. at_put r.stand t last (λ i z. i < word → IsAt shape logs pass_of_cpu (set views pass u) i z) x
          (λ _. record { below = real; there = there; entry = entry; at = ap (λ (l : List Entry). slice_get l (length (log k))) grown ∙ got_last (log k) entry; ticket_is = its_ticket (none k real there) })
          (λ other low. at_stays x other (r.stand x) (r.filled (losses none) x low)) less;
      known = λ j x at. ⊎_elim
          (λ (here : (j ≡ pass) × (u ≡ x)). subst (KnowsTickets shape word losts r.drawing (put r.stand t last)) here.1 record {
            reached = subst (λ (z : ℕ). z ≤ word) (sym reached_is) is_so.3;
            refused = inl none_refused;
            all_drawn = λ none. none_refused;
            strand = subst (λ (z : List Turned × ℕ × ℕ). AscendIn 0 (turn_tickets z.0) (z.1 + z.2)) (λ i. (sym steps i, sym reached_is i, sym none_refused i))
                (subst (λ (l : List ℕ). AscendIn 0 l (suc t + 0)) (sym (turn_tickets_more v.steps step ∙ ap (λ (n : ℕ). turn_tickets v.steps ++ n ∷ []) (ap (λ (z : Entry). z.ticket) step_is ∙ (numbered ∙ ap (λ (x : Ticket). number_by x (next v)) drawn))))
                (ascend_more 0 (turn_tickets v.steps) (next v) t (suc t + 0) next_low (omega arith) kn.strand));
            ended = subst (λ (z : List Ended × ℕ × ℕ). EachAscends z.0 (z.1 + z.2)) (λ i. (sym ended i, sym reached_is i, sym none_refused i))
                (each_to v.ended (next v) (suc t + 0) (omega (arith, next_low)) kn.ended);
            ticket = subst (TicketFits word r.drawing (put r.stand t last) u) (sym unread) tt;
            below = λ read. absurd (subst IsRead unread read);
            nested = nested_now (let low : v.reached ≤ t = is_so.2 in let its : entry.ticket ≡ t = numbered ∙ ap (λ (x : Ticket). number_by x (next v)) drawn in omega (arith, low, its));
            ended_nested = ended_now;
          })
          (λ (other : (j ≢ pass) × (get_elem? views j ≡ some x)). knows_else shape word word lost losts r.drawing r.drawing r.stand (put r.stand t last) x (omega arith) kept (λ _ _ is. is)
          (λ found n found_is _ is. put_else r.stand t last n (λ equal. other.0 (sym (theirs j x found other.1 found_is) ∙ (ap pass_of_cpu (cpu_of (sym is ∙ (ap r.stand equal ∙ is_so.4))) ∙ theirs pass v is_so.0.inner at_pass is_so.0.inner_is))) ∙ is)
          (r.known j x other.1))
          (at_set views pass j u x at);
      newest = over;
    }
      where
        last : Stand
        last = in_log k (length (log k))

        reached_is : u.reached ≡ suc t
        reached_is = reached ∙ ap (λ (x : Ticket). reached_by x v.reached) drawn

        was_none : v.refused ≡ 0
        was_none = ⊎_elim (λ (none : v.refused ≡ 0). none) (λ (high : ticket_bound ≤ v.reached). let low : v.reached < ticket_bound = is_so.1 in absurd (omega arith)) kn.refused

        none_refused : u.refused ≡ 0
        none_refused = refused ∙ (ap (λ (x : Ticket). refused_by x v.refused) drawn ∙ was_none)

        next_low : next v ≤ t
        next_low = let low : v.reached ≤ t = is_so.2 in omega (arith, low, was_none)

        its_ticket : losts k ≡ false → entry.ticket ≡ t
        its_ticket is = drawn_is (sym (fits is).0 ∙ drawn)

        before_is : losts k ≡ false → AscendIn 0 (tickets_of (log k)) v.reached
        before_is is = before_each k (log k) held_is (fits is).1

        at_stays : (x : ℕ) → x ≢ t → (z : Stand) → IsAt shape log pass_of_cpu views x z → IsAt shape logs pass_of_cpu (set views pass u) x z
        at_stays x other (in_log m place) is = record {
          below = is.below;
          there = is.there;
          entry = is.entry;
          at = by_test m k (λ _. slice_get (logs m) place ≡ Some is.entry)
              (λ same. ap (λ (l : List Entry). slice_get l place) (ap logs same ∙ grown) ∙ got_before (log k) entry place is.entry (ap (λ (n : ℕ). slice_get (log n) place) (sym same) ∙ is.at))
              (λ else. ap (λ (l : List Entry). slice_get l place) (log_else m else) ∙ is.at);
          ticket_is = is.ticket_is;
        }
        at_stays x other (with_cpu c) out = out_else pass_of_cpu views pass v u x c at_pass (λ same. other (drawn_is (sym same ∙ drawn))) out

    go : (x : Ticket) → v.ticket ≡ x → Tickets shape word logs losts pass_of_cpu (set views pass u)
    go Unread is = absurd (subst IsTaken is taken)
    go Drawing is = absurd (subst IsTaken is taken)
    go (Drawn t) is = drew t is (subst (TicketFits word r.drawing r.stand v) is kn.ticket)
    go Refused is = undrawn (λ t drawn. refused_drawn (sym is ∙ drawn)) (ap (λ (x : Ticket). reached_by x v.reached) is) (ap (λ (x : Ticket). refused_by x v.refused) is) (ap (λ (x : Ticket). number_by x (next v)) is) (subst (TicketFits word r.drawing r.stand v) is kn.ticket)
