-- How what the rule says of tickets changes with a split and with a join.
use Rattle.std.proofs.Common.{◌≡◌, ◌≢◌, ℕ, ◌+◌, ◌<◌, ◌≤◌, ◌⊎◌, inl, inr, ⊎_elim, Bool, List, [], ◌∷◌, ◌++◌, length, set, sym, refl, ap, ◌∙◌, subst, arith}
use Rattle.std.specs.Prelude.{max}
use Rattle.std.proofs.Math.Nat.{le-max_left, le-max_right, max-le}
use mathlib.Core.Option.{some, some-injective}
use lib.ListN.{get_elem?}
use Rattle.atomic_table.proofs.Lists.{at_set, set_here, set_else, at_longer, at_snoc, at_last}
use Rattle.map_types.specs.declared.attr.Shape.{Shape}
use Rattle.map_types.proofs.RowLemmas.{by_test}
use Rattle.place_words.specs.declared.history.Entry.{Entry}
use Rattle.place_table.specs.declared.view.View.{View}
use Rattle.place_table.specs.declared.view.Ticket.{Ticket}
use Rattle.place_table.specs.declared.view.Ticket.TheVariants.{Unread, Drawing, Drawn, Refused}
use Rattle.place_table.specs.Views.{reached_by, next, split_from, split_off, joined, spent, current_strand, all_strands}
use Rattle.place_table.specs.Words.{ticket_bound}
use Rattle.place_table.specs.Tickets.{Stand, in_log, with_cpu, turn_tickets, innermost, TicketFits, KnowsTickets, IsOut, IsNewest, IsAt, Tickets}
use Rattle.place_table.proofs.Worlds.{none_some}
use Rattle.place_words.proofs.Ascending.{ascend_to}
use Rattle.place_table.specs.Nested.{AreNested, EachNested}
use Rattle.place_table.proofs.Nesting.{each_nested_append}
use Rattle.place_table.proofs.TicketLemmas.{each_to, each_append, seat_below}

-- A pass that holds no lock has no turn under way.
pub out_elsewhere : (pass_of_cpu : ℕ → ℕ) (views : List View) (pass : ℕ) (v : View) (t c : ℕ) → get_elem? views pass ≡ some v → v.held ≡ [] → IsOut pass_of_cpu views t c → pass_of_cpu c ≢ pass
out_elsewhere pass_of_cpu views pass v t c at_pass idle out here =
    let is : out.view ≡ v = some-injective out.view v (sym out.seat ∙ (ap (get_elem? views) here ∙ at_pass)) in
    none_some (sym (ap (λ (z : View). innermost z.held) is ∙ ap innermost idle) ∙ out.inner_is)

-- and what it has reached is what it knows
pub idle_reached : (word : ℕ) (drawing : ℕ → Bool) (stand : ℕ → Stand) (v : View) (x : Ticket) → v.held ≡ [] → TicketFits word drawing stand v x → reached_by x v.reached ≡ v.reached
idle_reached word drawing stand v Unread idle fits = refl
idle_reached word drawing stand v Drawing idle fits = refl
idle_reached word drawing stand v (Drawn t) idle fits = absurd (none_some (sym (ap innermost idle) ∙ fits.0.inner_is))
idle_reached word drawing stand v Refused idle fits = refl

-- the turns of all its strands are nested
pub all_nested : (shape : Shape) (lost : ℕ → Bool) (v : View) → v.held ≡ [] → AreNested shape lost v.steps v.held → EachNested shape lost v.ended → EachNested shape lost (all_strands v)
all_nested shape lost v idle nested ended = each_nested_append shape lost v.ended (current_strand v ∷ []) ended (subst (AreNested shape lost v.steps) idle nested, tt)

-- THE SPLIT: a CPU goes from a pass, which holds no lock, to a new one, and so do all strands.
pub tickets_split : (shape : Shape) (word : ℕ) (log : ℕ → List Entry) (lost : ℕ → Bool) (pass_of_cpu passes_of_cpu : ℕ → ℕ) (views : List View) (pass c : ℕ) (v : View) → get_elem? views pass ≡ some v → v.held ≡ []
    → ((d : ℕ) → pass_of_cpu d ≢ pass → passes_of_cpu d ≡ pass_of_cpu d) → c < shape.cpus → passes_of_cpu c ≡ length (set views pass (split_from c v))
    → Tickets shape word log lost pass_of_cpu views → Tickets shape word log lost passes_of_cpu (set views pass (split_from c v) ++ split_off c v ∷ [])
tickets_split shape word log lost pass_of_cpu passes_of_cpu views pass c v at_pass idle stay within seat r = record {
  drawing = r.drawing;
  stand = r.stand;
  bounded = r.bounded;
  stands = r.stands;
  ascend = r.ascend;
  filled = λ none t less. at_stays t (r.stand t) (r.filled none t less);
  known = λ j x at. ⊎_elim
      (λ (before : get_elem? (set views pass (split_from c v)) j ≡ some x). ⊎_elim
      (λ (here : (j ≡ pass) × (split_from c v ≡ x)). subst (KnowsTickets shape word lost r.drawing r.stand) here.1 record { reached = kn.reached; refused = kn.refused; all_drawn = kn.all_drawn; strand = omega arith; ended = tt; ticket = tt; below = λ read. absurd read; nested = tt; ended_nested = tt })
      (λ (other : (j ≢ pass) × (get_elem? views j ≡ some x)). r.known j x other.1)
      (at_set views pass j (split_from c v) x before))
      (λ (new : split_off c v ≡ x). subst (KnowsTickets shape word lost r.drawing r.stand) new record {
        reached = kn.reached;
        refused = kn.refused;
        all_drawn = kn.all_drawn;
        strand = omega arith;
        ended = each_append v.ended (current_strand v ∷ []) (next v) kn.ended (kn.strand, tt);
        ticket = tt;
        below = λ read. absurd read;
        nested = tt;
        ended_nested = all_nested shape lost v idle kn.nested kn.ended_nested;
      })
      (at_snoc (set views pass (split_from c v)) (split_off c v) x j at);
  newest = let is = r.newest in
      by_test (pass_of_cpu is.cpu) pass (λ _. IsNewest shape.cpus word passes_of_cpu (set views pass (split_from c v) ++ split_off c v ∷ []))
      (λ here. record {
        cpu = c;
        within = within;
        view = split_off c v;
        seat = ap (get_elem? (set views pass (split_from c v) ++ split_off c v ∷ [])) seat ∙ at_last (set views pass (split_from c v)) (split_off c v) (length (set views pass (split_from c v))) refl;
        reached = sym (idle_reached word r.drawing r.stand v v.ticket idle kn.ticket) ∙ (ap (λ (z : View). reached_by z.ticket z.reached) (sym (some-injective is.view v (sym is.seat ∙ (ap (get_elem? views) here ∙ at_pass)))) ∙ is.reached);
      })
      (λ other. record {
        cpu = is.cpu;
        within = is.within;
        view = is.view;
        seat = ap (get_elem? (set views pass (split_from c v) ++ split_off c v ∷ [])) (stay is.cpu other)
            ∙ at_longer (set views pass (split_from c v)) (split_off c v ∷ []) (pass_of_cpu is.cpu) is.view (set_else views pass (pass_of_cpu is.cpu) (split_from c v) other ∙ is.seat);
        reached = is.reached;
      });
}
  where
    kn : KnowsTickets shape word lost r.drawing r.stand v
    kn = r.known pass v at_pass

    at_stays : (t : ℕ) (x : Stand) → IsAt shape log pass_of_cpu views t x → IsAt shape log passes_of_cpu (set views pass (split_from c v) ++ split_off c v ∷ []) t x
    at_stays t (in_log k place) is = is
    at_stays t (with_cpu d) out =
        let other = out_elsewhere pass_of_cpu views pass v t d at_pass idle out in
        record {
          view = out.view;
          inner = out.inner;
          seat = ap (get_elem? (set views pass (split_from c v) ++ split_off c v ∷ [])) (stay d other)
              ∙ at_longer (set views pass (split_from c v)) (split_off c v ∷ []) (pass_of_cpu d) out.view (set_else views pass (pass_of_cpu d) (split_from c v) other ∙ out.seat);
          inner_is = out.inner_is;
          cpu_is = out.cpu_is;
          drawn = out.drawn;
        }

-- THE JOIN: a pass takes in another, and neither holds a lock.
pub tickets_joined : (shape : Shape) (word : ℕ) (log : ℕ → List Entry) (lost : ℕ → Bool) (pass_of_cpu passes_of_cpu : ℕ → ℕ) (views : List View) (pass other : ℕ) (v u : View) → get_elem? views pass ≡ some v → get_elem? views other ≡ some u → v.held ≡ [] → u.held ≡ []
    → ((d : ℕ) → pass_of_cpu d ≢ pass → pass_of_cpu d ≢ other → passes_of_cpu d ≡ pass_of_cpu d) → ((d : ℕ) → (pass_of_cpu d ≡ pass) ⊎ (pass_of_cpu d ≡ other) → passes_of_cpu d ≡ pass) → other ≢ pass
    → Tickets shape word log lost pass_of_cpu views → Tickets shape word log lost passes_of_cpu (set (set views pass (joined v u)) other (spent u.shape))
tickets_joined shape word log lost pass_of_cpu passes_of_cpu views pass other v u at_pass at_other idle idle_too stay folds apart r = record {
  drawing = r.drawing;
  stand = r.stand;
  bounded = r.bounded;
  stands = r.stands;
  ascend = r.ascend;
  filled = λ none t less. at_stays t (r.stand t) (r.filled none t less);
  known = λ j x at. ⊎_elim
      (λ (here : (j ≡ other) × (spent u.shape ≡ x)). subst (KnowsTickets shape word lost r.drawing r.stand) here.1 record { reached = omega arith; refused = inl refl; all_drawn = λ _. refl; strand = omega arith; ended = tt; ticket = tt; below = λ read. absurd read; nested = tt; ended_nested = tt })
      (λ (elsewhere : (j ≢ other) × (get_elem? (set views pass (joined v u)) j ≡ some x)). ⊎_elim
      (λ (here : (j ≡ pass) × (joined v u ≡ x)). subst (KnowsTickets shape word lost r.drawing r.stand) here.1 record {
        reached = most;
        refused = both_refused;
        all_drawn = λ none. (let a = kn.all_drawn none in let b = ku.all_drawn none in omega arith);
        strand = omega arith;
        ended = each_append (all_strands v) (all_strands u) (max v.reached u.reached + (v.refused + u.refused))
            (each_append v.ended (current_strand v ∷ []) (max v.reached u.reached + (v.refused + u.refused)) (each_to v.ended (next v) (max v.reached u.reached + (v.refused + u.refused)) (omega (arith, left)) kn.ended) (ascend_to 0 (turn_tickets v.steps) (next v) (max v.reached u.reached + (v.refused + u.refused)) (omega (arith, left)) kn.strand, tt))
            (each_append u.ended (current_strand u ∷ []) (max v.reached u.reached + (v.refused + u.refused)) (each_to u.ended (next u) (max v.reached u.reached + (v.refused + u.refused)) (omega (arith, right)) ku.ended) (ascend_to 0 (turn_tickets u.steps) (next u) (max v.reached u.reached + (v.refused + u.refused)) (omega (arith, right)) ku.strand, tt));
        ticket = tt;
        below = λ read. absurd read;
        nested = tt;
        ended_nested = each_nested_append shape lost (all_strands v) (all_strands u) (all_nested shape lost v idle kn.nested kn.ended_nested) (all_nested shape lost u idle_too ku.nested ku.ended_nested);
      })
      (λ (others : (j ≢ pass) × (get_elem? views j ≡ some x)). r.known j x others.1)
      (at_set views pass j (joined v u) x elsewhere.1))
      (at_set (set views pass (joined v u)) other j (spent u.shape) x at);
  newest = let is = r.newest in
      by_test (pass_of_cpu is.cpu) pass (λ _. IsNewest shape.cpus word passes_of_cpu (set (set views pass (joined v u)) other (spent u.shape)))
      (λ here. both_know is.cpu is.within (inl here)
      (let is_v = some-injective is.view v (sym is.seat ∙ (ap (get_elem? views) here ∙ at_pass)) in
      let mine = sym (idle_reached word r.drawing r.stand v v.ticket idle kn.ticket) ∙ (ap (λ (z : View). reached_by z.ticket z.reached) (sym is_v) ∙ is.reached) in
      omega (arith, mine, left, most)))
      (λ not_here. by_test (pass_of_cpu is.cpu) other (λ _. IsNewest shape.cpus word passes_of_cpu (set (set views pass (joined v u)) other (spent u.shape)))
      (λ there. both_know is.cpu is.within (inr there)
      (let is_u = some-injective is.view u (sym is.seat ∙ (ap (get_elem? views) there ∙ at_other)) in
      let theirs = sym (idle_reached word r.drawing r.stand u u.ticket idle_too ku.ticket) ∙ (ap (λ (z : View). reached_by z.ticket z.reached) (sym is_u) ∙ is.reached) in
      omega (arith, theirs, right, most)))
      (λ not_there. record {
        cpu = is.cpu;
        within = is.within;
        view = is.view;
        seat = ap (get_elem? (set (set views pass (joined v u)) other (spent u.shape))) (stay is.cpu not_here not_there)
            ∙ (set_else (set views pass (joined v u)) other (pass_of_cpu is.cpu) (spent u.shape) not_there ∙ (set_else views pass (pass_of_cpu is.cpu) (joined v u) not_here ∙ is.seat));
        reached = is.reached;
      }));
}
  where
    kn : KnowsTickets shape word lost r.drawing r.stand v
    kn = r.known pass v at_pass

    ku : KnowsTickets shape word lost r.drawing r.stand u
    ku = r.known other u at_other

    left : v.reached ≤ max v.reached u.reached
    left = le-max_left v.reached u.reached

    right : u.reached ≤ max v.reached u.reached
    right = le-max_right v.reached u.reached

    most : max v.reached u.reached ≤ word
    most = max-le kn.reached ku.reached

    both_refused : (v.refused + u.refused ≡ 0) ⊎ (ticket_bound ≤ max v.reached u.reached)
    both_refused = ⊎_elim
        (λ (none : v.refused ≡ 0). ⊎_elim (λ (nor : u.refused ≡ 0). inl (omega arith)) (λ (up : ticket_bound ≤ u.reached). inr (omega (arith, right, up))) ku.refused)
        (λ (up : ticket_bound ≤ v.reached). inr (omega (arith, left, up)))
        kn.refused

    both_know : (d : ℕ) → d < shape.cpus → (pass_of_cpu d ≡ pass) ⊎ (pass_of_cpu d ≡ other) → max v.reached u.reached ≡ word → IsNewest shape.cpus word passes_of_cpu (set (set views pass (joined v u)) other (spent u.shape))
    both_know d within which is = record {
      cpu = d;
      within = within;
      view = joined v u;
      seat = ap (get_elem? (set (set views pass (joined v u)) other (spent u.shape))) (folds d which)
          ∙ (set_else (set views pass (joined v u)) other pass (spent u.shape) (λ same. apart (sym same)) ∙ set_here views pass (joined v u) (seat_below views pass v at_pass));
      reached = is;
    }

    at_stays : (t : ℕ) (x : Stand) → IsAt shape log pass_of_cpu views t x → IsAt shape log passes_of_cpu (set (set views pass (joined v u)) other (spent u.shape)) t x
    at_stays t (in_log k place) is = is
    at_stays t (with_cpu d) out =
        let not_here = out_elsewhere pass_of_cpu views pass v t d at_pass idle out in
        let not_there = out_elsewhere pass_of_cpu views other u t d at_other idle_too out in
        record {
          view = out.view;
          inner = out.inner;
          seat = ap (get_elem? (set (set views pass (joined v u)) other (spent u.shape))) (stay d not_here not_there)
              ∙ (set_else (set views pass (joined v u)) other (pass_of_cpu d) (spent u.shape) not_there ∙ (set_else views pass (pass_of_cpu d) (joined v u) not_here ∙ out.seat));
          inner_is = out.inner_is;
          cpu_is = out.cpu_is;
          drawn = out.drawn;
        }
