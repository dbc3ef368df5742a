-- What the rule says of tickets, where a step changes nothing that counts for them, and what of it other passes keep.
use Rattle.std.proofs.Common.{◌≡◌, ◌≢◌, ℕ, zero, suc, ◌+◌, ◌<◌, ◌≤◌, ◌⊎◌, inl, inr, ⊎_elim, Bool, true, false, List, [], ◌∷◌, ◌++◌, length, set, sym, refl, ap, ◌∙◌, subst, arith, Some}
use Rattle.std.specs.Prelude.{slice_get}
use mathlib.Core.Option.{some, some-ne-none, some-injective}
use lib.ListN.{get_elem?}
use Rattle.atomic_table.proofs.Lists.{at_set, set_here, set_else}
use Rattle.map_types.specs.declared.attr.Shape.{Shape}
use Rattle.map_types.specs.ElementLists.{put, one}
use Rattle.map_types.proofs.RowLemmas.{by_test}
use Rattle.place_words.specs.declared.history.Entry.{Entry}
use Rattle.place_words.proofs.ElementLemmas.{put_here, put_else}
use Rattle.place_table.specs.declared.view.View.{View}
use Rattle.place_table.specs.declared.view.Hold.{Hold}
use Rattle.place_table.specs.declared.view.Turned.{Turned}
use Rattle.place_table.specs.declared.view.Ended.{Ended}
use Rattle.place_table.specs.declared.view.Ticket.{Ticket}
use Rattle.place_table.specs.declared.view.Ticket.TheVariants.{Unread, Drawing, Drawn, Refused}
use Rattle.place_table.specs.Views.{reached_by}
use Rattle.place_table.specs.Words.{ticket_bound}
use Rattle.place_words.specs.Tickets.{tickets_of, AscendIn}
use Rattle.place_table.specs.Nested.{AreNested, EachNested}
use Rattle.place_table.specs.Tickets.{Stand, in_log, with_cpu, turn_tickets, EachAscends, count_drawing, Inner, innermost, IsUnderWay, TicketFits, IsTaken, IsRead, KnowsTickets, IsOut, IsNewest, IsAt, Tickets}
use Rattle.atomic_table.specs.Table.{State}
use Rattle.place_table.specs.declared.content.Behind.{Behind}
use Rattle.place_table.specs.Views.{hold_at}
use Rattle.place_table.specs.Rules.{Rule}
use Rattle.place_table.proofs.Worlds.{some_is, none_some, HoldIs, hold_of_is, hold_at_first}
use Rattle.place_words.proofs.Ascending.{ascend_to}
use Rattle.place_table.proofs.Nesting.{HoldsOn, without_lists, inner_same, same_logs, KeepWithGlobal, keep_fewer, nested_on, each_nested_on}

pub each_to : (strands : List Ended) (to more : ℕ) → to ≤ more → EachAscends strands to → EachAscends strands more
each_to [] to more less are = tt
each_to (x ∷ xs) to more less are = (ascend_to 0 (turn_tickets x.steps) to more less are.0, each_to xs to more less are.1)

pub each_append : (xs ys : List Ended) (to : ℕ) → EachAscends xs to → EachAscends ys to → EachAscends (xs ++ ys) to
each_append [] ys to are more = more
each_append (x ∷ xs) ys to are more = (are.0, each_append xs ys to are.1 more)

pub turn_tickets_more : (xs : List Turned) (s : Turned) → turn_tickets (xs ++ s ∷ []) ≡ turn_tickets xs ++ s.entry.ticket ∷ []
turn_tickets_more [] s = refl
turn_tickets_more (x ∷ xs) s = ap (λ (l : List ℕ). x.entry.ticket ∷ l) (turn_tickets_more xs s)

-- Entries at places

pub got_before : (xs : List Entry) (x : Entry) (place : ℕ) (e : Entry) → slice_get xs place ≡ Some e → slice_get (xs ++ x ∷ []) place ≡ Some e
got_before [] x place e at = absurd (none_some at)
got_before (y ∷ ys) x zero e at = at
got_before (y ∷ ys) x (suc place) e at = got_before ys x place e at

pub got_last : (xs : List Entry) (x : Entry) → slice_get (xs ++ x ∷ []) (length xs) ≡ Some x
got_last [] x = refl
got_last (y ∷ ys) x = got_last ys x

pub got_either : (xs : List Entry) (x : Entry) (place : ℕ) (e : Entry) → slice_get (xs ++ x ∷ []) place ≡ Some e → (slice_get xs place ≡ Some e) ⊎ ((place ≡ length xs) × (e ≡ x))
got_either [] x zero e at = inr (refl, sym (some_is at))
got_either [] x (suc place) e at = absurd (none_some at)
got_either (y ∷ ys) x zero e at = inl at
got_either (y ∷ ys) x (suc place) e at = ⊎_elim (λ (before : slice_get ys place ≡ Some e). inl before) (λ (last : (place ≡ length ys) × (e ≡ x)). inr (ap suc last.0, last.1)) (got_either ys x place e at)

-- CPUs that are about to draw

pub one_most : (b : Bool) → one b ≤ 1
one_most true = omega arith
one_most false = omega arith

pub count_most : (drawing : ℕ → Bool) (n : ℕ) → count_drawing drawing n ≤ n
count_most drawing zero = omega arith
count_most drawing (suc n) = let rest = count_most drawing n in let this = one_most (drawing n) in omega arith

pub count_same : (drawing others : ℕ → Bool) (n : ℕ) → ((c : ℕ) → c < n → others c ≡ drawing c) → count_drawing others n ≡ count_drawing drawing n
count_same drawing others zero same = refl
count_same drawing others (suc n) same =
    let rest = count_same drawing others n (λ c less. same c (omega arith)) in let this = ap one (same n (omega arith)) in omega arith

-- one of them isn't any more
pub count_off : (drawing : ℕ → Bool) (c n : ℕ) → c < n → drawing c ≡ true → suc (count_drawing (put drawing c false) n) ≡ count_drawing drawing n
count_off drawing c zero less is = absurd (omega arith)
count_off drawing c (suc n) less is =
    by_test n c (λ _. suc (count_drawing (put drawing c false) (suc n)) ≡ count_drawing drawing (suc n))
    (λ here.
    let rest = count_same drawing (put drawing c false) n (λ d below. put_else drawing c false d (λ same. omega (arith, here, same, below))) in
    let now : one (put drawing c false n) ≡ 0 = ap one (ap (put drawing c false) here ∙ put_here drawing c false) in
    let was : one (drawing n) ≡ 1 = ap one (ap drawing here ∙ is) in
    omega arith)
    (λ other.
    let rest = count_off drawing c n (omega (arith, less, other)) is in
    let same : one (put drawing c false n) ≡ one (drawing n) = ap one (put_else drawing c false n other) in
    omega arith)

-- Passes

pub unread_drawn : {A : Type 0} {t : ℕ} → Unread ≡ Drawn t → A
unread_drawn {A} {t} e = absurd cc

pub drawing_drawn : {A : Type 0} {t : ℕ} → Drawing ≡ Drawn t → A
drawing_drawn {A} {t} e = absurd cc

pub refused_drawn : {A : Type 0} {t : ℕ} → Refused ≡ Drawn t → A
refused_drawn {A} {t} e = absurd cc

pub drawn_is : {t u : ℕ} → Drawn t ≡ Drawn u → t ≡ u
drawn_is {t} {u} e = cc

pub cpu_is_not_log : {A : Type 0} {c k place : ℕ} → with_cpu c ≡ in_log k place → A
cpu_is_not_log {A} {c} {k} {place} e = absurd cc

pub cpu_of : {c d : ℕ} → with_cpu c ≡ with_cpu d → c ≡ d
cpu_of {c} {d} e = cc

pub seat_below : (views : List View) (pass : ℕ) (v : View) → get_elem? views pass ≡ some v → pass < length views
seat_below [] pass v at = absurd (some-ne-none v (sym at))
seat_below (x ∷ xs) zero v at = omega arith
seat_below (x ∷ xs) (suc pass) v at = let rest = seat_below xs pass v at in omega arith

-- Nothing that counts for tickets changes.
pub record SameTickets (shape : Shape) (v u : View) : Type 0 where
  pub reached : u.reached ≡ v.reached
  pub refused : u.refused ≡ v.refused
  pub steps : u.steps ≡ v.steps
  pub ended : u.ended ≡ v.ended
  pub ticket : ((u.ticket ≡ v.ticket) × (without_lists u.held ≡ without_lists v.held)) ⊎ ((v.ticket ≡ Unread) × (u.ticket ≡ Unread) × HoldsOn v.held u.held × KeepWithGlobal shape v.held u.held v.steps)

pub under_way_stays : (v u : View) → innermost u.held ≡ innermost v.held → (turn : IsUnderWay v) → IsUnderWay u
under_way_stays v u held turn = record { inner = turn.inner; inner_is = held ∙ turn.inner_is }

pub fits_stays : (word : ℕ) (drawing : ℕ → Bool) (stand : ℕ → Stand) (v u : View) (x : Ticket) → u.reached ≡ v.reached → innermost u.held ≡ innermost v.held → TicketFits word drawing stand v x → TicketFits word drawing stand u x
unfolding under_way_stays
fits_stays word drawing stand v u Unread reached held fits = tt
fits_stays word drawing stand v u Drawing reached held fits = (under_way_stays v u held fits.0, subst (λ (z : ℕ). z < ticket_bound) (sym reached) fits.1, fits.2)
fits_stays word drawing stand v u (Drawn t) reached held fits =
    (under_way_stays v u held fits.0, subst (λ (z : ℕ). z < ticket_bound) (sym reached) fits.1, subst (λ (z : ℕ). z ≤ t) (sym reached) fits.2, fits.3, fits.4)
fits_stays word drawing stand v u Refused reached held fits = subst (λ (z : ℕ). ticket_bound ≤ z) (sym reached) fits

pub knows_stays : (shape : Shape) (word : ℕ) (lost drawing : ℕ → Bool) (stand : ℕ → Stand) (v u : View) → SameTickets shape v u → KnowsTickets shape word lost drawing stand v → KnowsTickets shape word lost drawing stand u
knows_stays shape word lost drawing stand v u same kn = record {
  reached = subst (λ (z : ℕ). z ≤ word) (sym same.reached) kn.reached;
  refused = subst (λ (z : ℕ × ℕ). (z.1 ≡ 0) ⊎ (ticket_bound ≤ z.0)) (λ i. (sym same.reached i, sym same.refused i)) kn.refused;
  all_drawn = λ none. same.refused ∙ kn.all_drawn none;
  strand = subst (λ (z : List Turned × ℕ × ℕ). AscendIn 0 (turn_tickets z.0) (z.1 + z.2)) (λ i. (sym same.steps i, sym same.reached i, sym same.refused i)) kn.strand;
  ended = subst (λ (z : List Ended × ℕ × ℕ). EachAscends z.0 (z.1 + z.2)) (λ i. (sym same.ended i, sym same.reached i, sym same.refused i)) kn.ended;
  ticket = ⊎_elim
      (λ (s : (u.ticket ≡ v.ticket) × (without_lists u.held ≡ without_lists v.held)). subst (TicketFits word drawing stand u) (sym s.0) (fits_stays word drawing stand v u v.ticket same.reached (inner_same v.held u.held s.1) kn.ticket))
      (λ (s : (v.ticket ≡ Unread) × (u.ticket ≡ Unread) × HoldsOn v.held u.held × KeepWithGlobal shape v.held u.held v.steps). subst (TicketFits word drawing stand u) (sym s.1) tt)
      same.ticket;
  below = λ read k log is lo. ⊎_elim
      (λ (s : (u.ticket ≡ v.ticket) × (without_lists u.held ≡ without_lists v.held)). subst (AscendIn 0 (tickets_of log)) (sym same.reached) (kn.below (subst IsRead s.0 read) k log (sym (same_logs v.held u.held s.1 k) ∙ is) lo))
      (λ (s : (v.ticket ≡ Unread) × (u.ticket ≡ Unread) × HoldsOn v.held u.held × KeepWithGlobal shape v.held u.held v.steps). absurd (subst IsRead s.1 read))
      same.ticket;
  nested = subst (λ (l : List Turned). AreNested shape lost l u.held) (sym same.steps) (nested_on shape lost lost v.steps v.held u.held
      (⊎_elim
      (λ (s : (u.ticket ≡ v.ticket) × (without_lists u.held ≡ without_lists v.held)). λ k log is. same_logs v.held u.held s.1 k ∙ is)
      (λ (s : (v.ticket ≡ Unread) × (u.ticket ≡ Unread) × HoldsOn v.held u.held × KeepWithGlobal shape v.held u.held v.steps). s.2)
      same.ticket)
      (⊎_elim
      (λ (s : (u.ticket ≡ v.ticket) × (without_lists u.held ≡ without_lists v.held)). keep_fewer shape v.held u.held v.steps (λ k log is. sym (same_logs v.held u.held s.1 k) ∙ is))
      (λ (s : (v.ticket ≡ Unread) × (u.ticket ≡ Unread) × HoldsOn v.held u.held × KeepWithGlobal shape v.held u.held v.steps). s.3)
      same.ticket)
      (λ _ lo. lo) kn.nested);
  ended_nested = subst (EachNested shape lost) (sym same.ended) kn.ended_nested;
}

-- Who knows what the word is, where a pass has another view then.
pub newest_moves : (cpus word more : ℕ) (pass_of_cpu : ℕ → ℕ) (views : List View) (pass : ℕ) (v u : View) → get_elem? views pass ≡ some v → (reached_by v.ticket v.reached ≡ word → reached_by u.ticket u.reached ≡ more) → word ≡ more → IsNewest cpus word pass_of_cpu views
    → IsNewest cpus more pass_of_cpu (set views pass u)
newest_moves cpus word more pass_of_cpu views pass v u at_pass moves same is =
    by_test (pass_of_cpu is.cpu) pass (λ _. IsNewest cpus more pass_of_cpu (set views pass u))
    (λ here.
    let mine : is.view ≡ v = some-injective is.view v (sym is.seat ∙ (ap (get_elem? views) here ∙ at_pass)) in
    record {
      cpu = is.cpu;
      within = is.within;
      view = u;
      seat = ap (get_elem? (set views pass u)) here ∙ set_here views pass u (seat_below views pass v at_pass);
      reached = moves (ap (λ (z : View). reached_by z.ticket z.reached) (sym mine) ∙ is.reached);
    })
    (λ other. record {
      cpu = is.cpu;
      within = is.within;
      view = is.view;
      seat = set_else views pass (pass_of_cpu is.cpu) u other ∙ is.seat;
      reached = is.reached ∙ same;
    })

-- a pass that has the CPU and knows it
pub newest_here : (cpus more : ℕ) (pass_of_cpu : ℕ → ℕ) (views : List View) (pass c : ℕ) (v u : View) → get_elem? views pass ≡ some v → c < cpus → pass_of_cpu c ≡ pass → reached_by u.ticket u.reached ≡ more → IsNewest cpus more pass_of_cpu (set views pass u)
newest_here cpus more pass_of_cpu views pass c v u at_pass within mine is = record {
  cpu = c;
  within = within;
  view = u;
  seat = ap (get_elem? (set views pass u)) mine ∙ set_here views pass u (seat_below views pass v at_pass);
  reached = is;
}

-- a pass that has all CPUs knows it
pub exact_there : (shape : Shape) (word : ℕ) (log : ℕ → List Entry) (lost : ℕ → Bool) (pass_of_cpu : ℕ → ℕ) (views : List View) (pass : ℕ) (v : View) → get_elem? views pass ≡ some v → ((c : ℕ) → c < shape.cpus → pass_of_cpu c ≡ pass) → Tickets shape word log lost pass_of_cpu views → word ≡ reached_by v.ticket v.reached
exact_there shape word log lost pass_of_cpu views pass v at_pass all r =
    let is = r.newest in
    let mine : is.view ≡ v = some-injective is.view v (sym is.seat ∙ (ap (get_elem? views) (all is.cpu is.within) ∙ at_pass)) in
    sym is.reached ∙ ap (λ (z : View). reached_by z.ticket z.reached) mine

-- THE FRAME: a step of a pass that changes nothing that counts for tickets.
pub tickets_stay : (shape : Shape) (word : ℕ) (log : ℕ → List Entry) (lost : ℕ → Bool) (pass_of_cpu : ℕ → ℕ) (views : List View) (pass : ℕ) (v u : View) → get_elem? views pass ≡ some v → SameTickets shape v u
    → Tickets shape word log lost pass_of_cpu views → Tickets shape word log lost pass_of_cpu (set views pass u)
tickets_stay shape word log lost pass_of_cpu views pass v u at_pass same r = record {
  drawing = r.drawing;
  stand = r.stand;
  bounded = r.bounded;
  stands = r.stands;
  ascend = r.ascend;
  filled = λ none t less. at_stays t (r.stand t) (r.filled none t less);
  known = λ j x at. ⊎_elim
      (λ (here : (j ≡ pass) × (u ≡ x)). subst (KnowsTickets shape word lost r.drawing r.stand) here.1 (knows_stays shape word lost r.drawing r.stand v u same (r.known pass v at_pass)))
      (λ (other : (j ≢ pass) × (get_elem? views j ≡ some x)). r.known j x other.1)
      (at_set views pass j u x at);
  newest = newest_moves shape.cpus word word pass_of_cpu views pass v u at_pass
      (λ is. ⊎_elim
      (λ (s : (u.ticket ≡ v.ticket) × (without_lists u.held ≡ without_lists v.held)). (λ i. reached_by (s.0 i) (same.reached i)) ∙ is)
      (λ (s : (v.ticket ≡ Unread) × (u.ticket ≡ Unread) × HoldsOn v.held u.held × KeepWithGlobal shape v.held u.held v.steps). (λ i. reached_by (s.1 i) (same.reached i)) ∙ ((λ i. reached_by (sym s.0 i) v.reached) ∙ is))
      same.ticket)
      refl r.newest;
}
  where
    out_stays : (t c : ℕ) → IsOut pass_of_cpu views t c → IsOut pass_of_cpu (set views pass u) t c
    out_stays t c out =
        by_test (pass_of_cpu c) pass (λ _. IsOut pass_of_cpu (set views pass u) t c)
        (λ here.
        let is : out.view ≡ v = some-injective out.view v (sym out.seat ∙ (ap (get_elem? views) here ∙ at_pass)) in
        let drawn : v.ticket ≡ Drawn t = ap (λ (z : View). z.ticket) (sym is) ∙ out.drawn in
        ⊎_elim
        (λ (s : (u.ticket ≡ v.ticket) × (without_lists u.held ≡ without_lists v.held)). record {
          view = u;
          inner = out.inner;
          seat = ap (get_elem? (set views pass u)) here ∙ set_here views pass u (seat_below views pass v at_pass);
          inner_is = inner_same v.held u.held s.1 ∙ (ap (λ (z : View). innermost z.held) (sym is) ∙ out.inner_is);
          cpu_is = out.cpu_is;
          drawn = s.0 ∙ drawn;
        })
        (λ (s : (v.ticket ≡ Unread) × (u.ticket ≡ Unread) × HoldsOn v.held u.held × KeepWithGlobal shape v.held u.held v.steps). unread_drawn (sym s.0 ∙ drawn))
        same.ticket)
        (λ other. record {
          view = out.view;
          inner = out.inner;
          seat = set_else views pass (pass_of_cpu c) u other ∙ out.seat;
          inner_is = out.inner_is;
          cpu_is = out.cpu_is;
          drawn = out.drawn;
        })

    at_stays : (t : ℕ) (x : Stand) → IsAt shape log pass_of_cpu views t x → IsAt shape log pass_of_cpu (set views pass u) t x
    at_stays t (in_log k place) is = is
    at_stays t (with_cpu c) out = out_stays t c out

-- The turn of a CPU that a pass hasn't drawn for is under way as before.
pub out_else : (pass_of_cpu : ℕ → ℕ) (views : List View) (pass : ℕ) (v u : View) (t c : ℕ) → get_elem? views pass ≡ some v → (v.ticket ≡ Drawn t → ⊥) → IsOut pass_of_cpu views t c → IsOut pass_of_cpu (set views pass u) t c
out_else pass_of_cpu views pass v u t c at_pass none out =
    by_test (pass_of_cpu c) pass (λ _. IsOut pass_of_cpu (set views pass u) t c)
    (λ here.
    let is : out.view ≡ v = some-injective out.view v (sym out.seat ∙ (ap (get_elem? views) here ∙ at_pass)) in
    absurd (none (ap (λ (z : View). z.ticket) (sym is) ∙ out.drawn)))
    (λ other. record {
      view = out.view;
      inner = out.inner;
      seat = set_else views pass (pass_of_cpu c) u other ∙ out.seat;
      inner_is = out.inner_is;
      cpu_is = out.cpu_is;
      drawn = out.drawn;
    })

-- what a pass that makes no step knows of its tickets
pub fits_else : (word more : ℕ) (drawing drawings : ℕ → Bool) (stand stands : ℕ → Stand) (u : View) (x : Ticket) → word ≤ more
    → ((inner : Inner) → innermost u.held ≡ Some inner → drawing inner.cpu ≡ true → drawings inner.cpu ≡ true)
    → ((inner : Inner) (t : ℕ) → innermost u.held ≡ Some inner → t < word → stand t ≡ with_cpu inner.cpu → stands t ≡ with_cpu inner.cpu)
    → TicketFits word drawing stand u x → TicketFits more drawings stands u x
fits_else word more drawing drawings stand stands u Unread less also stays fits = tt
fits_else word more drawing drawings stand stands u Drawing less also stays fits = (fits.0, fits.1, also fits.0.inner fits.0.inner_is fits.2)
fits_else word more drawing drawings stand stands u (Drawn t) less also stays fits =
    let below : t < word = fits.3 in
    (fits.0, fits.1, fits.2, omega arith, stays fits.0.inner t fits.0.inner_is below fits.4)
fits_else word more drawing drawings stand stands u Refused less also stays fits = fits

pub knows_else : (shape : Shape) (word more : ℕ) (lost losts drawing drawings : ℕ → Bool) (stand stands : ℕ → Stand) (u : View) → word ≤ more → ((k : ℕ) → losts k ≡ false → lost k ≡ false)
    → ((inner : Inner) → innermost u.held ≡ Some inner → drawing inner.cpu ≡ true → drawings inner.cpu ≡ true)
    → ((inner : Inner) (t : ℕ) → innermost u.held ≡ Some inner → t < word → stand t ≡ with_cpu inner.cpu → stands t ≡ with_cpu inner.cpu)
    → KnowsTickets shape word lost drawing stand u → KnowsTickets shape more losts drawings stands u
knows_else shape word more lost losts drawing drawings stand stands u less kept also stays kn = record {
  reached = let was = kn.reached in omega arith;
  refused = kn.refused;
  all_drawn = λ none. kn.all_drawn (λ k real there. kept k (none k real there));
  strand = kn.strand;
  ended = kn.ended;
  ticket = fits_else word more drawing drawings stand stands u u.ticket less also stays kn.ticket;
  below = λ read k log is lo. kn.below read k log is (kept k lo);
  nested = nested_on shape lost losts u.steps u.held u.held (λ _ _ is. is) (keep_fewer shape u.held u.held u.steps (λ _ _ is. is)) kept kn.nested;
  ended_nested = each_nested_on shape lost losts u.ended kept kn.ended_nested;
}

pub taken_read : (x : Ticket) → IsTaken x → IsRead x
taken_read Unread taken = taken
taken_read Drawing taken = tt
taken_read (Drawn t) taken = tt
taken_read Refused taken = tt

-- the CPU of the lock that a pass took last is one of the pass
abbrev pub AreTheirs : (ℕ → ℕ) → List View → Type 0
AreTheirs pass_of_cpu views = (pass : ℕ) (v : View) (inner : Inner) → get_elem? views pass ≡ some v → innermost v.held ≡ Some inner → pass_of_cpu inner.cpu ≡ pass

-- The lock that a pass took last, in the world.
pub inner_there : (held : List Hold) (inner : Inner) → innermost held ≡ Some inner → (h : Hold) × (below : List Hold) × (held ≡ h ∷ below) × (inner ≡ record { cpu = h.cpu })
inner_there [] inner is = absurd (none_some is)
inner_there (h ∷ hs) inner is = (h, hs, refl, sym (some_is is))

pub first_there : (shape : Shape) (s : State Behind View) (r : Rule shape s) (pass : ℕ) (v : View) → get_elem? s.views pass ≡ some v → (h : Hold) (below : List Hold) → v.held ≡ h ∷ below
    → HoldIs r.world.pass_of_cpu pass h.lock (r.world.core.holder h.lock) (r.world.log h.lock) (r.world.core.lists h.lock) (r.world.lost h.lock) h
first_there shape s r pass v at_pass h below is =
    let w = r.world in let kn = r.knows pass v at_pass in let k : ℕ = h.lock in
    hold_of_is w.pass_of_cpu pass k (w.core.holder k) (w.log k) (w.core.lists k) (w.lost k) h (sym (kn.held k) ∙ (ap (hold_at k) is ∙ hold_at_first h below))

pub theirs_there : (shape : Shape) (s : State Behind View) (r : Rule shape s) → AreTheirs r.world.pass_of_cpu s.views
theirs_there shape s r pass v inner at_pass is =
    let found = inner_there v.held inner is in
    ap (λ (z : Inner). r.world.pass_of_cpu z.cpu) found.3 ∙ (first_there shape s r pass v at_pass found.0 found.1 found.2).mine
