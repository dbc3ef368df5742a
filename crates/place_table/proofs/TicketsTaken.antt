-- What a pass still knows when a ticket was taken.
use Rattle.std.proofs.lemmas.Bool.{ltb-true, ltb-false}
use Rattle.place_table.specs.Tickets.{IsTaken}
use Rattle.std.proofs.Common.{arith, append_assoc, ◌++◌, suc, ◌≤◌, ⊎_elim, ◌≡◌, ℕ, ◌+◌, ◌<◌, Bool, true, subst, cond, List, [], ◌∷◌, Option, Some, None, refl, sym, ap, ◌∙◌}
use Rattle.std.specs.Prelude.{nat_lt, MatchOption, unwrap_or}
use Rattle.std.specs.Global.{Global}
use Rattle.place_table.specs.Recording.{history_with}
use Rattle.atomic_table.specs.Table.{rest}
use Rattle.place_table.specs.declared.content.Behind.{Behind}
use Rattle.map_types.specs.declared.attr.Shape.{Shape}
use Rattle.map_types.specs.declared.kind.DomainId.{DomainId}
use Rattle.place_words.specs.declared.history.Part.{Part}
use Rattle.place_words.specs.declared.history.Part.TheVariants as parts
use Rattle.place_words.specs.declared.list_part.GlobalPart.TheVariants as global
use Rattle.place_words.specs.declared.visits.Flush.{Flush}
use Rattle.place_table.specs.declared.content.Content.{Content}
use Rattle.place_table.specs.declared.view.View.{View}
use Rattle.place_table.specs.declared.view.Hold.{Hold}
use Rattle.place_table.specs.declared.view.Notes.{Notes}
use Rattle.place_table.specs.declared.view.WordStep.{WordStep}
use Rattle.place_table.specs.declared.view.Ticket.{Ticket}
use Rattle.place_table.specs.declared.view.Ticket.TheVariants.{Unread, Drawing, Drawn, Refused}
use Rattle.place_table.specs.Views.{is_among, has_all, ticket_of, number_by, refused_by, reached_by, ticket_seen, learning, ticketed, ticket_read, touching, found_below}
use Rattle.place_table.specs.Words.{ticket_word, ticket_bound}
use Rattle.place_table.specs.TurnNotes.{NotesFit, FlushedFit}
use Rattle.place_table.specs.Owners.{OwnersFit}
use Rattle.place_table.specs.Idle.{LearnsAll}
use Rattle.place_table.specs.Plays.{Seated, MayPut, TakesTicket, SeesTicket}
use Rattle.place_table.specs.Passes.{PassView, TableView, CanGive, with_view, IsPass, IsPassOf, SawTicket, IsNumbered}
use Rattle.place_table.specs.declared.content.SlotTurns.{SlotTurns}
use Rattle.place_table.specs.declared.strands.TurnsMade.{TurnsMade}
use Rattle.place_words.specs.declared.history.StrandStep.{StrandStep}
use Rattle.map_types.specs.Stored.{Stored}
use Rattle.place_table.proofs.Worlds.{none_some, some_is, by_bool, all_here}

pub record IsTicketed (before : Seated) (drawn : Option ℕ) (after : Seated) : Type 0 where
  pub ticket : Ticket
  pub reached : ℕ
  pub touched : List WordStep
  pub after_is : after ≡ (ticketed ticket reached touched before.0, before.1)
  pub drawn_is : (t : ℕ) → drawn ≡ Some t → after.0.ticket ≡ Drawn t
  pub drawn_by : (t : ℕ) → after.0.ticket ≡ Drawn t → drawn ≡ Some t
  pub taken : IsTaken after.0.ticket

near_is : {A : Type 0} {t : ℕ} → Drawing ≡ Drawn t → A
near_is {A} {t} e = absurd cc

refused_is : {A : Type 0} {t : ℕ} → Refused ≡ Drawn t → A
refused_is {A} {t} e = absurd cc

one_ticket : {t u : ℕ} → Drawn t ≡ Drawn u → t ≡ u
one_ticket {t} {u} e = cc

pub ticketed_by : (before : Seated) (drawn : Option ℕ) (after : Seated) → TakesTicket before drawn after → IsTicketed before drawn after
ticketed_by before None after takes = record {
  ticket = found_below takes.0;
  reached = takes.0;
  touched = touching takes.1 (ticket_word before.0.shape) (Some takes.0) takes.0 before.0;
  after_is = takes.4;
  drawn_is = λ t e. absurd (none_some e);
  drawn_by = λ t e. not_drawn takes.0 t (ap (λ (z : Seated). z.0.ticket) (sym takes.4) ∙ e);
  taken = subst (λ (z : Seated). IsTaken z.0.ticket) (sym takes.4) (refused_taken takes.0 takes.3);
}
  where
    refused_taken : (n : ℕ) → ticket_bound ≤ n → IsTaken (found_below n)
    refused_taken n high = by_bool (nat_lt n ticket_bound) (λ b. nat_lt n ticket_bound ≡ b → IsTaken (cond b Drawing Refused)) (λ _ low. let less = ltb-true n ticket_bound low in absurd (omega (arith, less, high))) (λ _ _. tt) refl

    not_drawn : (n t : ℕ) → found_below n ≡ Drawn t → None ≡ Some t
    not_drawn n t = by_bool (nat_lt n ticket_bound) (λ b. cond b Drawing Refused ≡ Drawn t → None ≡ Some t) (λ _ e. near_is e) (λ _ e. refused_is e)
ticketed_by before (Some t) after takes = record {
  ticket = Drawn t;
  reached = takes.0;
  touched = touching takes.2 (ticket_word before.0.shape) (Some t) (1 + t) (ticket_read takes.1 takes.0 before.0);
  after_is = takes.6;
  drawn_is = λ u e. ap (λ (z : Seated). z.0.ticket) takes.6 ∙ ap Drawn (some_is e);
  taken = subst (λ (z : Seated). IsTaken z.0.ticket) (sym takes.6) tt;
  drawn_by = λ u e. ap Some (one_ticket (ap (λ (z : Seated). z.0.ticket) (sym takes.6) ∙ e));
}

-- the same over the view alone
pub takes_view : (before : Seated) (drawn : Option ℕ) (after : Seated) → TakesTicket before drawn after → TakesTicket (before.0, []) drawn (after.0, [])
takes_view before None after takes = (takes.0, takes.1, takes.2, takes.3, ap (λ (z : Seated). (z.0, [])) takes.4)
takes_view before (Some t) after takes = (takes.0, takes.1, takes.2, takes.3, takes.4, takes.5, ap (λ (z : Seated). (z.0, [])) takes.6)

module _ (shape : Shape) (v : View) (ticket : Ticket) (reached : ℕ) (touched : List WordStep) (hold : Hold) where
  pub put_ticketed : (by : ℕ) (part : Part) (here : Content) → MayPut shape v hold by part here → MayPut shape (ticketed ticket reached touched v) hold by part here
  put_ticketed by part here may = record { cpu = may.cpu; told_is = may.told_is; fits = may.fits; allowed = may.allowed; same_free = may.same_free; same_rows = may.same_rows; rows_kept = may.rows_kept; gone = may.gone }

  pub put_unticketed : (by : ℕ) (part : Part) (here : Content) → MayPut shape (ticketed ticket reached touched v) hold by part here → MayPut shape v hold by part here
  put_unticketed by part here may = record { cpu = may.cpu; told_is = may.told_is; fits = may.fits; allowed = may.allowed; same_free = may.same_free; same_rows = may.same_rows; rows_kept = may.rows_kept; gone = may.gone }

  flushed_forth : (part : Part) (inside : List Flush) → FlushedFit shape v part inside → FlushedFit shape (ticketed ticket reached touched v) part inside
  flushed_forth (parts.Bucket part) inside fit = fit
  flushed_forth (parts.Free part) inside fit = fit
  flushed_forth (parts.Local part) inside fit = fit
  flushed_forth (parts.Global (global.Turn flushed active inactive free shrink)) inside fit = fit
  flushed_forth (parts.Global (global.Push e)) inside fit = fit
  flushed_forth (parts.Own part) inside fit = fit

  flushed_back : (part : Part) (inside : List Flush) → FlushedFit shape (ticketed ticket reached touched v) part inside → FlushedFit shape v part inside
  flushed_back (parts.Bucket part) inside fit = fit
  flushed_back (parts.Free part) inside fit = fit
  flushed_back (parts.Local part) inside fit = fit
  flushed_back (parts.Global (global.Turn flushed active inactive free shrink)) inside fit = fit
  flushed_back (parts.Global (global.Push e)) inside fit = fit
  flushed_back (parts.Own part) inside fit = fit

  pub notes_ticketed : (part : Part) (notes : Notes) → NotesFit shape v hold part notes → NotesFit shape (ticketed ticket reached touched v) hold part notes
  notes_ticketed part notes fit = record { marks_are = fit.marks_are; clears_are = fit.clears_are; reads = fit.reads; flushed = flushed_forth part notes.flushed fit.flushed; off = fit.off; held = fit.held; came = fit.came }

  pub notes_unticketed : (part : Part) (notes : Notes) → NotesFit shape (ticketed ticket reached touched v) hold part notes → NotesFit shape v hold part notes
  notes_unticketed part notes fit = record { marks_are = fit.marks_are; clears_are = fit.clears_are; reads = fit.reads; flushed = flushed_back part notes.flushed fit.flushed; off = fit.off; held = fit.held; came = fit.came }

  pub owners_ticketed : (cpu : ℕ) (part : Part) (notes : Notes) → OwnersFit shape v hold cpu part notes → OwnersFit shape (ticketed ticket reached touched v) hold cpu part notes
  owners_ticketed cpu part notes fit = record {
    changes = fit.changes;
    probed = λ e holder is. let it = fit.probed e holder is in
        record { listed = record { lock = it.listed.lock; hold = it.listed.hold; held = it.listed.held; no_bucket = it.listed.no_bucket; listed = it.listed.listed }; hash = it.hash; only = it.only; lock_is = it.lock_is; around = it.around };
  }

  pub owners_unticketed : (cpu : ℕ) (part : Part) (notes : Notes) → OwnersFit shape (ticketed ticket reached touched v) hold cpu part notes → OwnersFit shape v hold cpu part notes
  owners_unticketed cpu part notes fit = record {
    changes = fit.changes;
    probed = λ e holder is. let it = fit.probed e holder is in
        record { listed = record { lock = it.listed.lock; hold = it.listed.hold; held = it.listed.held; no_bucket = it.listed.no_bucket; listed = it.listed.listed }; hash = it.hash; only = it.only; lock_is = it.lock_is; around = it.around };
  }

-- so the lock can still be given back
abbrev pub can_ticketed : (t : TableView) (lock : DomainId) (p : PassView) (here : Content) (part : Part) (ticket : Ticket) (reached : ℕ) (touched : List WordStep) → CanGive t lock p here part → CanGive t lock (with_view p (ticketed ticket reached touched p.view)) here part
can_ticketed t lock p here part ticket reached touched can = record {
  of_table = can.of_table;
  begun = can.begun;
  hold = can.hold;
  below = can.below;
  innermost = can.innermost;
  notes = can.notes;
  notes_below = can.notes_below;
  notes_are = can.notes_are;
  there = can.there;
  lock_is = can.lock_is;
  may_put = put_ticketed t.shape p.view ticket reached touched can.hold p.cpu part here can.may_put;
  inside = can.inside;
  notes_fit = notes_ticketed t.shape p.view ticket reached touched can.hold part can.notes can.notes_fit;
  owners_fit = λ lru. owners_ticketed t.shape p.view ticket reached touched can.hold p.cpu part can.notes (can.owners_fit lru);
}

-- where there is still a history, the ticket was drawn
pub drawn_if : (drawn : Option ℕ) (history : Option SlotTurns) (v : View) (n : ℕ) → n ≡ unwrap_or drawn 0 → ((t : ℕ) → drawn ≡ Some t → v.ticket ≡ Drawn t) → MatchOption (history_with drawn history) (Unit {0}) (λ _. v.ticket ≡ Drawn n)
drawn_if None history v n is drawn = tt
drawn_if (Some t) history v n is drawn = go history
  where
    go : (history : Option SlotTurns) → MatchOption history (Unit {0}) (λ _. v.ticket ≡ Drawn n)
    go None = tt
    go (Some u) = drawn t refl ∙ ap Drawn (sym is)

-- the slots stay
pub slots_stay : (before : Seated) (drawn : Option ℕ) (after : Seated) → IsTicketed before drawn after → (k : ℕ) (b : Behind) → before.1 ≡ (k, b) ∷ rest before.1 → after.1 ≡ (k, b) ∷ rest after.1
slots_stay before drawn after is k b slots =
    let same = ap (λ (z : Seated). z.1) is.after_is in
    same ∙ (slots ∙ ap (λ (l : List (ℕ × Behind)). (k, b) ∷ rest l) (sym same))

-- a pass that has read the ticket word
pub is_pass_seen : {flags : List Bool} {past : TurnsMade} (v : View) (slots : List (ℕ × Behind)) (strand : List StrandStep) (spares : List (Option Stored)) (n : ℕ) (after : Seated) → IsPass v slots strand spares flags past → SeesTicket (v, slots) n after → IsPass after.0 after.1 strand spares flags past
is_pass_seen {flags} {past} v slots strand spares n after pass sees =
    subst (λ (z : Seated). IsPass z.0 z.1 strand spares flags past) (sym sees.after_is) record {
      carries = pass.carries;
      strand_is = pass.strand_is;
      cpus_are = pass.cpus_are;
      log_is = pass.log_is;
      ended_are = pass.ended_are;
      logs_are = pass.logs_are;
      spares_fit = pass.spares_fit;
      within = pass.within;
      ended_within = pass.ended_within;
      hands_real = pass.hands_real;
      unread = pass.unread;
    }

pub saw_ticket : (t : TableView) (before after : PassView) (old new : Seated) (n : ℕ) → IsPassOf t before → ((c : ℕ) → c < t.shape.cpus → is_among c before.view.cpus ≡ true) → old.0 ≡ before.view → old.0.ticket ≡ Unread → SeesTicket old n new → after ≡ with_view before new.0 → SawTicket before after n
saw_ticket t before after old new n of_table all old_is unread sees after_is =
    let has : has_all old.0 ≡ true = ap has_all old_is ∙ all_here before.view.shape.cpus before.view.cpus (λ c less. all c (subst (λ (z : Shape). c < z.cpus) of_table.1 less)) in record {
      exact = sees.fits.exact has
          ∙ (ap (λ (x : Ticket). reached_by x old.0.reached) unread ∙ ap (λ (v : View). v.reached) old_is);
      at = sees.at;
      after_is = after_is ∙ (ap (λ (z : Seated). with_view before z.0) sees.after_is ∙ ap (λ (v : View). with_view before (learning sees.learned (ticket_seen sees.at n v))) old_is);
      learned = sees.learned;
      learns = subst (λ (v : View). LearnsAll v.shape v sees.learned) old_is (sees.learns has);
    }

-- the number of a turn that is given back
pub numbered_by : (before : View) (drawn : Option ℕ) (x : Ticket) (n : ℕ) (xs : List WordStep) → TakesTicket (before, []) drawn (ticketed x n xs before, []) → before.ticket ≡ Unread → (after : View) → after.reached ≡ reached_by x n → after.refused ≡ refused_by x before.refused
    → IsNumbered before (ticket_of (ticketed x n xs before)) after
numbered_by before None x n xs takes unread after reached refused =
    let is : x ≡ found_below takes.0 = ap (λ (z : Seated). z.0.ticket) takes.4 in
    let n_is : n ≡ takes.0 = ap (λ (z : Seated). z.0.reached) takes.4 in
    let high : ticket_bound ≤ takes.0 = takes.3 in
    let fits = takes.2 in
    let none : x ≡ Refused = is ∙ is_refused takes.0 high in
    let low : before.reached ≤ takes.0 = fits.reached in
    let number : ticket_of (ticketed x n xs before) ≡ n + before.refused = ap (λ (z : Ticket). number_by z (n + before.refused)) none in
    let more : after.reached ≡ n = reached ∙ ap (λ (z : Ticket). reached_by z n) none in
    let one : after.refused ≡ suc before.refused = refused ∙ ap (λ (z : Ticket). refused_by z before.refused) none in
    record {
      reached = omega (arith, more, n_is, low);
      refused = omega (arith, one);
      ascends = omega (arith, number, n_is, low);
      next_is = omega (arith, number, more, one);
      exact = λ all. let same : takes.0 ≡ before.reached = fits.exact all ∙ ap (λ (z : Ticket). reached_by z before.reached) unread in omega (arith, number, n_is, same);
    }
  where
    is_refused : (n : ℕ) → ticket_bound ≤ n → found_below n ≡ Refused
    is_refused n high = by_bool (nat_lt n ticket_bound) (λ b. nat_lt n ticket_bound ≡ b → cond b Drawing Refused ≡ Refused) (λ _ yes. let less = ltb-true n ticket_bound yes in absurd (omega (arith, less, high))) (λ _ _. refl) refl
numbered_by before (Some t) x n xs takes unread after reached refused =
    let is : x ≡ Drawn t = ap (λ (z : Seated). z.0.ticket) takes.6 in
    let n_is : n ≡ takes.0 = ap (λ (z : Seated). z.0.reached) takes.6 in
    let first = takes.3 in
    let second = takes.5 in
    let less : takes.0 < ticket_bound = takes.4 in
    let none : before.refused ≡ 0 = ⊎_elim (λ (zero_is : before.refused ≡ 0). zero_is) (λ (high : ticket_bound ≤ takes.0). absurd (omega (arith, high, less))) first.refused in
    let low : before.reached ≤ takes.0 = first.reached in
    let later : takes.0 ≤ t = second.reached in
    let number : ticket_of (ticketed x n xs before) ≡ t = ap (λ (z : Ticket). number_by z (n + before.refused)) is in
    let more : after.reached ≡ suc t = reached ∙ ap (λ (z : Ticket). reached_by z n) is in
    let one : after.refused ≡ before.refused = refused ∙ ap (λ (z : Ticket). refused_by z before.refused) is in
    record {
      reached = omega (arith, more, low, later);
      refused = omega (arith, one);
      ascends = omega (arith, number, none, low, later);
      next_is = omega (arith, number, more, one, none);
      exact = λ all.
          let same : takes.0 ≡ before.reached = first.exact all ∙ ap (λ (z : Ticket). reached_by z before.reached) unread in
          let mine : t ≡ takes.0 = second.exact all ∙ ap (λ (z : Ticket). reached_by z takes.0) (near_then takes.0 less) in
          omega (arith, number, none, same, mine);
    }
  where
    near_then : (n : ℕ) → n < ticket_bound → found_below n ≡ Drawing
    near_then n low = by_bool (nat_lt n ticket_bound) (λ b. nat_lt n ticket_bound ≡ b → cond b Drawing Refused ≡ Drawing) (λ _ _. refl) (λ _ no. let past = ltb-false n ticket_bound no in absurd (omega (arith, past, low))) refl

-- the steps that took a ticket stand behind those that were made before
pub record HasTouched (before after : List WordStep) : Type 0 where
  pub more : List WordStep
  pub are : after ≡ before ++ more

pub took_touched : (v : View) (drawn : Option ℕ) (x : Ticket) (n : ℕ) (xs : List WordStep) → TakesTicket (v, []) drawn (ticketed x n xs v, []) → HasTouched v.touched xs
took_touched v None x n xs takes = record { more = record { at = takes.1; word = ticket_word v.shape; seen = Some takes.0; left = takes.0 } ∷ []; are = ap (λ (z : Seated). z.0.touched) takes.4 }
took_touched v (Some t) x n xs takes =
    let first : WordStep = record { at = takes.1; word = ticket_word v.shape; seen = Some takes.0; left = takes.0 } in
    let second : WordStep = record { at = takes.2; word = ticket_word v.shape; seen = Some t; left = 1 + t } in
    record { more = first ∷ second ∷ []; are = ap (λ (z : Seated). z.0.touched) takes.6 ∙ append_assoc v.touched (first ∷ []) (second ∷ []) }
