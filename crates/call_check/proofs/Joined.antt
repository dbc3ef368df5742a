-- A concatenation from what is known of each of its calls.
use Rattle.std.proofs.Common.{◌≡◌, ◌≢◌, ◌⊎◌, inl, inr, ℕ, suc, ◌+◌, ◌<◌, ◌≤◌, Bool, true, false, eqb, ltb, List, [], ◌∷◌, ◌++◌, length, Option, Some, refl, ap, sym, ◌∙◌, subst, arith}
use Rattle.std.specs.Prelude.{MatchBool, filter, slice_get}
use Rattle.std.proofs.lemmas.Bool.{cases_eq, cond-true, cond-false, eq-eqb, eqb-true, lt-ltb, le-ltb, ltb-true, ne_eqb}
use Rattle.map_types.specs.ElementLists.{put}
use Rattle.map_types.specs.declared.attr.Shape.{Shape}
use Rattle.map_types.specs.declared.call.Call.{Call}
use Rattle.map_types.specs.declared.reply.Reply.{Reply}
use Rattle.place_words.specs.declared.history.LockHistory.{LockHistory}
use Rattle.place_words.specs.declared.history.StrandStep.{StrandStep}
use Rattle.place_words.specs.Named.{NameAll}
use Rattle.place_words.specs.Traces.{IsTrace}
use Rattle.place_words.specs.Turns.{TurnAt}
use Rattle.place_words.specs.Walks.{spare_left}
use Rattle.map_report.specs.Record.{IsCallOf, IsConcatenation, has_cpu}
use Rattle.turn_order.proofs.Members.{IsAmong, filter_among}
use Rattle.call_check.proofs.Filtered.{keeps_all, keeps_none}
use Rattle.call_check.specs.RightCalls.{call_named, is_of_call, steps_of_call}
use Rattle.call_check.proofs.Concatenated.{Rises, laters_of, rises_member}
use Rattle.call_check.proofs.SparesInOrder.{put_at, put_beside}

module _ (histories : List LockHistory) where
  -- the steps of later calls
  abbrev steps_past : ℕ → List StrandStep → List StrandStep
  steps_past number steps = filter (λ (step : StrandStep). ltb number (call_named histories step)) steps

  split_first : (number : ℕ) (steps : List StrandStep) → Rises histories number steps → steps ≡ steps_of_call histories number steps ++ steps_past number steps
  split_first number [] rises = refl
  split_first number (step ∷ steps) rises = by (cases_eq (call_named histories step) number) (split_first number steps)
    where
      by : (call_named histories step ≡ number) ⊎ (call_named histories step ≡ number → ⊥) → (Rises histories number steps → steps ≡ steps_of_call histories number steps ++ steps_past number steps)
          → step ∷ steps ≡ steps_of_call histories number (step ∷ steps) ++ steps_past number (step ∷ steps)
      by (inl same) rest =
          ap (λ (l : List StrandStep). step ∷ l) (rest (subst (λ (k : ℕ). Rises histories k steps) same rises.1))
          ∙ (ap (λ (l : List StrandStep). l ++ steps_past number steps)
          (sym (cond-true (eqb (call_named histories step) number) (step ∷ steps_of_call histories number steps) (steps_of_call histories number steps) (eq-eqb (call_named histories step) number same)))
          ∙ ap (λ (l : List StrandStep). steps_of_call histories number (step ∷ steps) ++ l)
          (sym (cond-false (ltb number (call_named histories step)) (step ∷ steps_past number steps) (steps_past number steps) (le-ltb number (call_named histories step) (omega (arith, same))))))
      by (inr other) rest =
          let least : number ≤ call_named histories step = rises.0 in
          let above : number < call_named histories step = omega (arith, least, other) in
          sym
          (ap (λ (l : List StrandStep). l ++ steps_past number (step ∷ steps))
          (keeps_none (is_of_call histories number) (step ∷ steps)
          (λ s there. ne_eqb (call_named histories s) number (λ same. absurd (let high = rises_member histories (call_named histories step) (step ∷ steps) (omega arith, rises.1) s there in omega (arith, high, above, same)))))
          ∙ keeps_all (λ (s : StrandStep). ltb number (call_named histories s)) (step ∷ steps)
          (λ s there. lt-ltb number (call_named histories s) (let high = rises_member histories (call_named histories step) (step ∷ steps) (omega arith, rises.1) s there in omega (arith, high, above))))

  -- what is left of steps that rise rises
  rises_behind : (from : ℕ) (front rest : List StrandStep) → Rises histories from (front ++ rest) → (least : ℕ) → ((step : StrandStep) → IsAmong step rest → least ≤ call_named histories step) → Rises histories least rest
  rises_behind from [] [] rises least each = tt
  rises_behind from [] (step ∷ rest) rises least each = (each step (inl refl), rises.1)
  rises_behind from (step ∷ front) rest rises least each = rises_behind (call_named histories step) front rest rises.1 least each

  past_member : (number : ℕ) (steps : List StrandStep) (step : StrandStep) → IsAmong step (steps_past number steps) → IsAmong step steps × (number < call_named histories step)
  past_member number steps step there =
      let found = filter_among (λ (s : StrandStep). ltb number (call_named histories s)) step steps there in
      (found.0, ltb-true number (call_named histories step) found.1)

  rises_past : (number : ℕ) (steps : List StrandStep) → Rises histories number steps → Rises histories (suc number) (steps_past number steps)
  rises_past number steps rises =
      rises_behind number (steps_of_call histories number steps) (steps_past number steps) (subst (Rises histories number) (split_first number steps rises) rises) (suc number)
      (λ step there. let above = (past_member number steps step there).1 in omega (arith, above))

  its_number : (number : ℕ) (steps : List StrandStep) (step : StrandStep) → IsAmong step (steps_of_call histories number steps) → call_named histories step ≡ number
  its_number number steps step there = eqb-true (call_named histories step) number (filter_among (is_of_call histories number) step steps there).1

-- A call's steps are its trace by the spare of its CPU, and leave that the next one.
pub record IsJoined (shape : Shape) (histories : List LockHistory) (spare : ℕ → ℕ → Option ℕ) (number : ℕ) (call : Call) (reply : Reply) (steps : List StrandStep) : Type 0 where
  pub turns : List TurnAt
  pub names : NameAll histories call.cpu number steps turns
  pub trace : IsTrace shape call.cpu (spare call.cpu number) call.verb turns reply
  pub next : spare call.cpu (suc number) ≡ spare_left shape (spare call.cpu number) turns

module _ (shape : Shape) (histories : List LockHistory) (cpus : List ℕ) (spare : ℕ → ℕ → Option ℕ) (whole : List StrandStep) where
  -- what is known of calls, the first of which has this number
  pub record AreJoined (number : ℕ) (calls : List Call) (replies : List Reply) : Type 0 where
    pub here : (m n : ℕ) (call : Call) (reply : Reply) → n ≡ number + m → slice_get calls m ≡ Some call → slice_get replies m ≡ Some reply → has_cpu call.cpu cpus ≡ true
        → IsJoined shape histories spare n call reply (steps_of_call histories n whole)
    pub stays : (m n : ℕ) (call : Call) → n ≡ number + m → slice_get calls m ≡ Some call → (cpu : ℕ) → cpu ≢ call.cpu → spare cpu (suc n) ≡ spare cpu n
    pub absent : (m n : ℕ) (call : Call) → n ≡ number + m → slice_get calls m ≡ Some call → has_cpu call.cpu cpus ≡ false → steps_of_call histories n whole ≡ []

  joined_next : (number : ℕ) (call : Call) (calls : List Call) (reply : Reply) (replies : List Reply) → AreJoined number (call ∷ calls) (reply ∷ replies) → AreJoined (suc number) calls replies
  joined_next number call calls reply replies are = record {
    here = λ m n c r is at answered has. are.here (suc m) n c r (omega (arith, is)) at answered has;
    stays = λ m n c is at cpu other. are.stays (suc m) n c (omega (arith, is)) at cpu other;
    absent = λ m n c is at off. are.absent (suc m) n c (omega (arith, is)) at off;
  }

  -- the spares and steps from a call on
  pub record Left (number count : ℕ) (spares last : ℕ → Option ℕ) (steps : List StrandStep) : Type 0 where
    pub rises : Rises histories number steps
    pub few : (step : StrandStep) → IsAmong step steps → call_named histories step < number + count
    pub theirs : (n : ℕ) → number ≤ n → steps_of_call histories n steps ≡ steps_of_call histories n whole
    pub now : (cpu : ℕ) → has_cpu cpu cpus ≡ true → spares cpu ≡ spare cpu number
    pub end : (cpu : ℕ) → has_cpu cpu cpus ≡ true → last cpu ≡ spare cpu (number + count)

  none_left : (number : ℕ) (steps : List StrandStep) → Rises histories number steps → ((step : StrandStep) → IsAmong step steps → call_named histories step < number + 0) → steps ≡ []
  none_left number [] rises few = refl
  none_left number (step ∷ steps) rises few = absurd (let less = few step (inl refl) in let least = rises.0 in omega (arith, less, least))

  left_on : (number count : ℕ) (spares next last : ℕ → Option ℕ) (steps : List StrandStep) → Left number (suc count) spares last steps
      → ((cpu : ℕ) → has_cpu cpu cpus ≡ true → next cpu ≡ spare cpu (suc number)) → Left (suc number) count next last (steps_past histories number steps)
  left_on number count spares next last steps left now = record {
    rises = rises_past histories number steps left.rises;
    few = λ step there. let less = left.few step (past_member histories number steps step there).0 in omega (arith, less);
    theirs = λ n above. sym (laters_of histories number (steps_of_call histories number steps) (steps_past histories number steps) (its_number histories number steps) (rises_past histories number steps left.rises) n (omega (arith, above)))
        ∙ (ap (steps_of_call histories n) (sym (split_first histories number steps left.rises)) ∙ left.theirs n (omega (arith, above)));
    now = now;
    end = λ cpu has. let same : number + suc count ≡ suc number + count = omega arith in left.end cpu has ∙ ap (spare cpu) same;
  }

  pub joins : (number : ℕ) (calls : List Call) (replies : List Reply) (spares last : ℕ → Option ℕ) (steps : List StrandStep) → length replies ≡ length calls
      → AreJoined number calls replies → Left number (length calls) spares last steps → IsConcatenation shape histories cpus number calls replies spares last steps
  joins number [] replies spares last steps long are left =
      let same : number + 0 ≡ number = omega arith in
      (none_left number steps left.rises left.few, λ cpu has. left.end cpu has ∙ (ap (spare cpu) same ∙ sym (left.now cpu has)))
  joins number (call ∷ calls) [] spares last steps long are left = absurd (omega (arith, long))
  joins number (call ∷ calls) (reply ∷ replies) spares last steps long are left =
      by (has_cpu call.cpu cpus) refl
      (λ next rest more. joins (suc number) calls replies next last rest (omega (arith, long)) (joined_next number call calls reply replies are) more)
    where
      own : has_cpu call.cpu cpus ≡ true → IsJoined shape histories spare number call reply (steps_of_call histories number steps)
      own has =
          subst (IsJoined shape histories spare number call reply) (sym (left.theirs number (omega arith)))
          (are.here 0 number call reply (omega arith) refl refl has)

      of_call : has_cpu call.cpu cpus ≡ true → (of : IsJoined shape histories spare number call reply (steps_of_call histories number steps)) → IsCallOf shape histories number call reply (spares call.cpu) (steps_of_call histories number steps) of.turns
      of_call has of = record { names = of.names; trace = subst (λ (s : Option ℕ). IsTrace shape call.cpu s call.verb of.turns reply) (sym (left.now call.cpu has)) of.trace }

      next_own : has_cpu call.cpu cpus ≡ true → (of : IsJoined shape histories spare number call reply (steps_of_call histories number steps)) → (cpu : ℕ) → has_cpu cpu cpus ≡ true
          → (cpu ≡ call.cpu) ⊎ (cpu ≡ call.cpu → ⊥) → put spares call.cpu (spare_left shape (spares call.cpu) of.turns) cpu ≡ spare cpu (suc number)
      next_own on of cpu has (inl same) =
          ap (put spares call.cpu (spare_left shape (spares call.cpu) of.turns)) same
          ∙ (put_at spares call.cpu (spare_left shape (spares call.cpu) of.turns)
          ∙ (ap (λ (s : Option ℕ). spare_left shape s of.turns) (left.now call.cpu on) ∙ (sym of.next ∙ ap (λ (c : ℕ). spare c (suc number)) (sym same))))
      next_own on of cpu has (inr other) =
          put_beside spares call.cpu (spare_left shape (spares call.cpu) of.turns) cpu other ∙ (left.now cpu has ∙ sym (are.stays 0 number call (omega arith) refl cpu other))

      next_other : has_cpu call.cpu cpus ≡ false → (cpu : ℕ) → has_cpu cpu cpus ≡ true → spares cpu ≡ spare cpu (suc number)
      next_other off cpu has =
          left.now cpu has
          ∙ sym (are.stays 0 number call (omega arith) refl cpu (λ same. absurd (let no : true ≡ false = sym has ∙ (ap (λ (c : ℕ). has_cpu c cpus) same ∙ off) in cc)))

      none : has_cpu call.cpu cpus ≡ false → steps ≡ steps_past histories number steps
      none off = split_first histories number steps left.rises ∙ ap (λ (l : List StrandStep). l ++ steps_past histories number steps) (left.theirs number (omega arith) ∙ are.absent 0 number call (omega arith) refl off)

      by : (b : Bool) → has_cpu call.cpu cpus ≡ b
          → ((next : ℕ → Option ℕ) (rest : List StrandStep) → Left (suc number) (length calls) next last rest → IsConcatenation shape histories cpus (suc number) calls replies next last rest)
          → MatchBool b
          ((mine : List StrandStep) × (rest : List StrandStep) × (turns : List TurnAt) × (steps ≡ mine ++ rest)
          × IsCallOf shape histories number call reply (spares call.cpu) mine turns
          × IsConcatenation shape histories cpus (suc number) calls replies (put spares call.cpu (spare_left shape (spares call.cpu) turns)) last rest)
          (IsConcatenation shape histories cpus (suc number) calls replies spares last steps)
      by true has later = with_own (own has)
        where
          with_own : IsJoined shape histories spare number call reply (steps_of_call histories number steps)
              → (mine : List StrandStep) × (rest : List StrandStep) × (turns : List TurnAt) × (steps ≡ mine ++ rest)
              × IsCallOf shape histories number call reply (spares call.cpu) mine turns
              × IsConcatenation shape histories cpus (suc number) calls replies (put spares call.cpu (spare_left shape (spares call.cpu) turns)) last rest
          with_own of = (
            steps_of_call histories number steps,
            steps_past histories number steps,
            of.turns,
            split_first histories number steps left.rises,
            of_call has of,
            later (put spares call.cpu (spare_left shape (spares call.cpu) of.turns)) (steps_past histories number steps)
                (left_on number (length calls) spares (put spares call.cpu (spare_left shape (spares call.cpu) of.turns)) last steps left (λ cpu on. next_own has of cpu on (cases_eq cpu call.cpu))),
          )
      by false off later =
          later spares steps
          (subst (λ (l : List StrandStep). Left (suc number) (length calls) spares last l) (sym (none off)) (left_on number (length calls) spares spares last steps left (next_other off)))
