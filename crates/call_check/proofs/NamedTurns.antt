-- The turns that the steps of a call name, by their entries.
use Rattle.std.proofs.Common.{◌≡◌, inl, inr, ℕ, ◌<◌, Bool, true, false, cond, eqb, ◌&&◌, List, [], ◌∷◌, ◌++◌, Option, None, Some, refl, ap, sym, ◌∙◌, subst, arith}
use Rattle.std.specs.Prelude.{slice_get, take, option_map, option_to_list, unwrap_or}
use Rattle.std.specs.List.{list_all}
use Rattle.std.proofs.lemmas.Bool.{cond-true, cond-false, eqb-true, and_parts}
use Rattle.map_types.specs.declared.kind.DomainId.{DomainId}
use Rattle.place_words.specs.declared.history.Entry.{Entry}
use Rattle.place_words.specs.declared.history.LockHistory.{LockHistory}
use Rattle.place_words.specs.declared.history.StrandStep.{StrandStep}
use Rattle.place_words.specs.Interleaving.{Drawn}
use Rattle.place_words.specs.Named.{entries_of, Names, NameAll}
use Rattle.place_words.specs.Tickets as by_entry
use Rattle.place_words.specs.Tickets.{AscendIn}
use Rattle.place_words.specs.Turns.{TurnAt, on_lock}
use Rattle.turn_order.proofs.Members.{IsAmong}
use Rattle.call_check.proofs.StepTurns.{drawn_by}
use Rattle.call_check.specs.RightCalls.{call_named, earlier_of, entries_below, is_moved, is_of_call, is_of_cpu, named_by, steps_of_call, turn_named, turns_named}
use Rattle.call_check.proofs.BelowTicket.{drawn_of, below_at}

pub all_member : {A : Type 0} (p : A → Bool) (xs : List A) → list_all p xs ≡ true → (x : A) → IsAmong x xs → p x ≡ true
all_member p [] all x there = absurd there
all_member p (y ∷ xs) all x (inl same) = sym (ap p same) ∙ (and_parts (p y) (list_all p xs) all).0
all_member p (y ∷ xs) all x (inr later) = all_member p xs (and_parts (p y) (list_all p xs) all).1 x later

pub member_all : {A : Type 0} (p : A → Bool) (xs : List A) → ((x : A) → IsAmong x xs → p x ≡ true) → list_all p xs ≡ true
member_all p [] each = refl
member_all p (x ∷ xs) each = by (p x) (each x (inl refl)) (member_all p xs (λ y there. each y (inr there)))
  where
    by : (b : Bool) → b ≡ true → list_all p xs ≡ true → (b && list_all p xs) ≡ true
    by true is rest = rest
    by false is rest = absurd cc

module _ (histories : List LockHistory) where
  -- A step names an entry of a CPU's call.
  pub record StepOf (cpu number : ℕ) (step : StrandStep) : Type 0 where
    pub entry : Entry
    pub at : named_by histories step ≡ Some entry
    pub cpu_is : entry.cpu ≡ cpu
    pub call_is : entry.call ≡ number

  pub call_at : (step : StrandStep) (e : Entry) → named_by histories step ≡ Some e → call_named histories step ≡ e.call
  call_at step e at = ap (λ (o : Option Entry). unwrap_or (option_map (λ (entry : Entry). entry.call) o) 0) at

  pub cpu_at : (cpu : ℕ) (step : StrandStep) (e : Entry) → named_by histories step ≡ Some e → is_of_cpu histories cpu step ≡ eqb e.cpu cpu
  cpu_at cpu step e at = ap (λ (o : Option Entry). unwrap_or (option_map (λ (entry : Entry). eqb entry.cpu cpu) o) false) at

  pub turn_at : (step : StrandStep) (steps : List StrandStep) (e : Entry) → named_by histories step ≡ Some e → turns_named histories (step ∷ steps) ≡ turn_named histories step e ∷ turns_named histories steps
  turn_at step steps e at = ap (λ (o : Option Entry). option_to_list (option_map (turn_named histories step) o) ++ turns_named histories steps) at

  -- a step of a call is such
  pub step_of : (cpu number : ℕ) → 0 < number → (step : StrandStep) → call_named histories step ≡ number → is_of_cpu histories cpu step ≡ true → StepOf cpu number step
  step_of cpu number some step is on = by (named_by histories step) refl
    where
      by : (o : Option Entry) → named_by histories step ≡ o → StepOf cpu number step
      by None at = absurd (let none : 0 ≡ number = sym (ap (λ (o : Option Entry). unwrap_or (option_map (λ (entry : Entry). entry.call) o) 0) at) ∙ is in omega (arith, none, some))
      by (Some e) at = record { entry = e; at = at; cpu_is = eqb-true e.cpu cpu (sym (cpu_at cpu step e at) ∙ on); call_is = sym (call_at step e at) ∙ is }

  module _ (n : ℕ) (ascend : (lock : DomainId) → AscendIn 0 (by_entry.tickets_of (entries_of histories lock)) n) where
    earlier_is : (entries : List Entry) (i : ℕ) (e : Entry) → AscendIn 0 (by_entry.tickets_of entries) n → slice_get entries i ≡ Some e → earlier_of entries i e ≡ take i entries
    earlier_is entries i e up at = by (is_moved e.part) (below_at entries n i e up at)
      where
        by : (b : Bool) → entries_below e.ticket entries ≡ take i entries → cond b (entries_below e.ticket entries) (take i entries) ≡ take i entries
        by true same = same
        by false same = refl

    -- the turns of named steps are those that they name
    turn_is : (cpu number : ℕ) (step : StrandStep) (at : TurnAt) (names : Names histories cpu number step at)
        → turn_named histories step (record { ticket = names.ticket; cpu = cpu; call = number; part = at.turn.part }) ≡ at
    turn_is cpu number step at names =
        ap (λ (l : DomainId). record { turn = on_lock l at.turn.part; earlier = earlier_of (entries_of histories step.lock) step.index (record { ticket = names.ticket; cpu = cpu; call = number; part = at.turn.part }) }) names.lock
        ∙ ap (λ (l : List Entry). record { turn = at.turn; earlier = l })
        (earlier_is (entries_of histories step.lock) step.index (record { ticket = names.ticket; cpu = cpu; call = number; part = at.turn.part }) (ascend step.lock) names.entry ∙ sym names.earlier)

    pub turns_are : (cpu number : ℕ) (steps : List StrandStep) (turns : List TurnAt) → NameAll histories cpu number steps turns → turns_named histories steps ≡ turns
    turns_are cpu number [] [] names = refl
    turns_are cpu number [] (turn ∷ turns) names = absurd names
    turns_are cpu number (step ∷ steps) [] names = absurd names
    turns_are cpu number (step ∷ steps) (turn ∷ turns) names =
        turn_at step steps (record { ticket = names.0.ticket; cpu = cpu; call = number; part = turn.turn.part }) names.0.entry
        ∙ (ap (λ (t : TurnAt). t ∷ turns_named histories steps) (turn_is cpu number step turn names.0) ∙ ap (λ (l : List TurnAt). turn ∷ l) (turns_are cpu number steps turns names.1))

    -- and the other way round
    names_one : (cpu number : ℕ) (step : StrandStep) (of : StepOf cpu number step) → Names histories cpu number step (turn_named histories step of.entry)
    names_one cpu number step of = record {
      lock = refl;
      ticket = of.entry.ticket;
      entry = of.at ∙ (ap (λ (c : ℕ). Some (record { ticket = of.entry.ticket; cpu = c; call = of.entry.call; part = of.entry.part })) of.cpu_is
          ∙ ap (λ (c : ℕ). Some (record { ticket = of.entry.ticket; cpu = cpu; call = c; part = of.entry.part })) of.call_is);
      earlier = earlier_is (entries_of histories step.lock) step.index of.entry (ascend step.lock) of.at;
    }

    pub names_of : (cpu number : ℕ) (steps : List StrandStep) → ((step : StrandStep) → IsAmong step steps → StepOf cpu number step) → NameAll histories cpu number steps (turns_named histories steps)
    names_of cpu number [] each = tt
    names_of cpu number (step ∷ steps) each =
        let of : StepOf cpu number step = each step (inl refl) in
        subst (λ (l : List TurnAt). NameAll histories cpu number (step ∷ steps) l) (sym (turn_at step steps of.entry of.at))
        (names_one cpu number step of, names_of cpu number steps (λ s there. each s (inr there)))

  -- what is named belongs to the call
  pub named_of : (cpu number : ℕ) (steps : List StrandStep) (turns : List TurnAt) → NameAll histories cpu number steps turns → (step : StrandStep) → IsAmong step steps → StepOf cpu number step
  named_of cpu number [] turns names step there = absurd there
  named_of cpu number (first ∷ steps) [] names step there = absurd names
  named_of cpu number (first ∷ steps) (turn ∷ turns) names step (inl same) =
      subst (StepOf cpu number) same (record { entry = record { ticket = names.0.ticket; cpu = cpu; call = number; part = turn.turn.part }; at = names.0.entry; cpu_is = refl; call_is = refl })
  named_of cpu number (first ∷ steps) (turn ∷ turns) names step (inr later) = named_of cpu number steps turns names.1 step later

  -- the turns of the steps of a call are those of the call among the turns of all steps
  pub drawn_of_call : (number : ℕ) → 0 < number → (steps : List StrandStep) → drawn_by histories (steps_of_call histories number steps) ≡ drawn_of number (drawn_by histories steps)
  drawn_of_call number some [] = refl
  drawn_of_call number some (step ∷ steps) = by (named_by histories step) refl (is_of_call histories number step) refl (drawn_of_call number some steps)
    where
      abbrev_drawn : Entry → Drawn
      abbrev_drawn e = record { lock = step.lock; entry = e }

      by : (o : Option Entry) → named_by histories step ≡ o → (b : Bool) → is_of_call histories number step ≡ b
          → drawn_by histories (steps_of_call histories number steps) ≡ drawn_of number (drawn_by histories steps)
          → drawn_by histories (cond b (step ∷ steps_of_call histories number steps) (steps_of_call histories number steps))
          ≡ drawn_of number (option_to_list (option_map (λ (entry : Entry). record { lock = step.lock; entry = entry }) o) ++ drawn_by histories steps)
      by None at true is rest =
          absurd (let none : eqb 0 number ≡ true = sym (ap (λ (o : Option Entry). eqb (unwrap_or (option_map (λ (entry : Entry). entry.call) o) 0) number) at) ∙ is in let same : 0 ≡ number = eqb-true 0 number none in omega (arith, same, some))
      by None at false is rest = rest
      by (Some e) at true is rest =
          let same : eqb e.call number ≡ true = sym (ap (λ (c : ℕ). eqb c number) (call_at step e at)) ∙ is in
          ap (λ (o : Option Entry). option_to_list (option_map (λ (entry : Entry). record { lock = step.lock; entry = entry }) o) ++ drawn_by histories (steps_of_call histories number steps)) at
          ∙ (ap (λ (l : List Drawn). (record { lock = step.lock; entry = e }) ∷ l) rest
          ∙ sym (cond-true (eqb e.call number) ((record { lock = step.lock; entry = e }) ∷ drawn_of number (drawn_by histories steps)) (drawn_of number (drawn_by histories steps)) same))
      by (Some e) at false is rest =
          let other : eqb e.call number ≡ false = sym (ap (λ (c : ℕ). eqb c number) (call_at step e at)) ∙ is in
          rest ∙ sym (cond-false (eqb e.call number) ((record { lock = step.lock; entry = e }) ∷ drawn_of number (drawn_by histories steps)) (drawn_of number (drawn_by histories steps)) other)
