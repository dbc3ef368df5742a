-- The calls of a concatenation: each has the steps with its number, and carries the spares on.
use Rattle.std.proofs.Common.{◌≡◌, ◌≢◌, inl, inr, ℕ, zero, suc, ◌+◌, ◌<◌, ◌≤◌, Bool, true, false, List, [], ◌∷◌, ◌++◌, length, Option, Some, refl, ap, sym, ◌∙◌, subst, arith}
use Rattle.std.specs.Prelude.{All, MatchBool, slice_get}
use Rattle.std.proofs.lemmas.Bool.{eq-eqb, ne_eqb}
use Rattle.std.proofs.lemmas.List.{append-nil}
use Rattle.std.proofs.lemmas.List.Elements.{filter-append}
use Rattle.std.proofs.lemmas.Option.{none-some, same_Some}
use Rattle.map_types.specs.ElementLists.{put}
use Rattle.map_types.specs.declared.attr.Shape.{Shape}
use Rattle.map_types.specs.declared.call.Call.{Call}
use Rattle.map_types.specs.declared.reply.Reply.{Reply}
use Rattle.place_words.specs.declared.history.LockHistory.{LockHistory}
use Rattle.place_words.specs.declared.history.StrandStep.{StrandStep}
use Rattle.place_words.specs.Named.{NameAll}
use Rattle.place_words.specs.Traces.{IsTrace}
use Rattle.place_words.specs.Turns.{TurnAt}
use Rattle.place_words.specs.Walks.{spare_left}
use Rattle.map_report.specs.Record.{IsCallOf, IsConcatenation, has_cpu}
use Rattle.turn_order.proofs.Members.{IsAmong, all_among}
use Rattle.call_check.proofs.Filtered.{keeps_all, keeps_none}
use Rattle.call_check.specs.RightCalls.{call_named, is_of_call, steps_of_call}
use Rattle.call_check.proofs.NamedTurns.{call_at, named_of}

-- the numbers of the calls of steps never fall
abbrev pub Rises : List LockHistory → ℕ → List StrandStep → Type 0
Rises histories from [] = Unit {0}
Rises histories from (step ∷ steps) = (from ≤ call_named histories step) × Rises histories (call_named histories step) steps

module _ (histories : List LockHistory) where
  pub rises_member : (from : ℕ) (steps : List StrandStep) → Rises histories from steps → (step : StrandStep) → IsAmong step steps → from ≤ call_named histories step
  rises_member from [] rises step there = absurd there
  rises_member from (first ∷ steps) rises step (inl same) = subst (λ (s : StrandStep). from ≤ call_named histories s) same rises.0
  rises_member from (first ∷ steps) rises step (inr later) =
      let least : from ≤ call_named histories first = rises.0 in
      let rest = rises_member (call_named histories first) steps rises.1 step later in omega (arith, least, rest)

  pub rises_lower : (low from : ℕ) (steps : List StrandStep) → low ≤ from → Rises histories from steps → Rises histories low steps
  rises_lower low from [] less rises = tt
  rises_lower low from (step ∷ steps) less rises = let least : from ≤ call_named histories step = rises.0 in (omega (arith, least, less), rises.1)

  pub rises_on : (number : ℕ) (mine rest : List StrandStep) → ((step : StrandStep) → IsAmong step mine → call_named histories step ≡ number) → Rises histories (suc number) rest
      → Rises histories number (mine ++ rest)
  rises_on number [] rest its rises = rises_lower number (suc number) rest (omega arith) rises
  rises_on number (step ∷ mine) rest its rises =
      let is : call_named histories step ≡ number = its step (inl refl) in
      (omega (arith, is), rises_lower (call_named histories step) number (mine ++ rest) (omega (arith, is)) (rises_on number mine rest (λ s there. its s (inr there)) rises))

  -- behind a step of a later call stands none of a call
  rises_behind : (from : ℕ) (before later : List StrandStep) (step : StrandStep) → Rises histories from (before ++ step ∷ later) → Rises histories (call_named histories step) later
  rises_behind from [] later step rises = rises.1
  rises_behind from (first ∷ before) later step rises = rises_behind (call_named histories first) before later step rises.1

  pub rises_apart : (from number : ℕ) (steps : List StrandStep) → Rises histories from steps → (before later : List StrandStep) (step : StrandStep) → steps ≡ before ++ step ∷ later
      → number < call_named histories step → All (λ (other : StrandStep). call_named histories other ≢ number) later
  rises_apart from number steps rises before later step is above =
      let behind : Rises histories (call_named histories step) later = rises_behind from before later step (subst (Rises histories from) is rises) in
      all_among (λ (other : StrandStep). call_named histories other ≢ number) later
      (λ other there same. absurd (let least = rises_member (call_named histories step) later behind other there in omega (arith, least, same, above)))

  -- where each step is followed by none of an earlier call, they rise
  pub rises_of : (from : ℕ) (steps : List StrandStep) → ((step : StrandStep) → IsAmong step steps → from ≤ call_named histories step)
      → ((before later : List StrandStep) (step other : StrandStep) → steps ≡ before ++ step ∷ later → IsAmong other later → call_named histories step ≤ call_named histories other)
      → Rises histories from steps
  rises_of from [] least pairs = tt
  rises_of from (step ∷ steps) least pairs = (
    least step (inl refl),
    rises_of (call_named histories step) steps (λ other there. pairs [] steps step other refl there)
        (λ before later s other is there. pairs (step ∷ before) later s other (ap (λ (l : List StrandStep). step ∷ l) is) there),
  )

  -- the steps of the first call, and those of later ones
  module _ (number : ℕ) (mine rest : List StrandStep) (its : (step : StrandStep) → IsAmong step mine → call_named histories step ≡ number) (rises : Rises histories (suc number) rest) where
    pub firsts_of : (n : ℕ) → n ≡ number → steps_of_call histories n (mine ++ rest) ≡ mine
    firsts_of n is =
        filter-append (is_of_call histories n) mine rest
        ∙ (ap (λ (l : List StrandStep). l ++ steps_of_call histories n rest) (keeps_all (is_of_call histories n) mine (λ step there. eq-eqb (call_named histories step) n (its step there ∙ sym is)))
        ∙ (ap (λ (l : List StrandStep). mine ++ l)
        (keeps_none (is_of_call histories n) rest (λ step there. ne_eqb (call_named histories step) n (λ same. absurd (let above = rises_member (suc number) rest rises step there in omega (arith, above, same, is)))))
        ∙ append-nil mine))

    pub laters_of : (n : ℕ) → number < n → steps_of_call histories n (mine ++ rest) ≡ steps_of_call histories n rest
    laters_of n above =
        filter-append (is_of_call histories n) mine rest
        ∙ ap (λ (l : List StrandStep). l ++ steps_of_call histories n rest)
        (keeps_none (is_of_call histories n) mine (λ step there. ne_eqb (call_named histories step) n (λ same. absurd (let is = its step there in omega (arith, is, same, above)))))

-- what stands at each place, with something before it
abbrev pub shifted : {A : Type 0} → A → (ℕ → A) → ℕ → A
shifted first later zero = first
shifted first later (suc m) = later m

-- A call of a strand has the steps with its number, by the spare that its CPU has then, and leaves it another.
pub record MadeAt (shape : Shape) (histories : List LockHistory) (steps : List StrandStep) (now next : ℕ → Option ℕ) (number : ℕ) (call : Call) (reply : Reply) : Type 0 where
  pub turns : List TurnAt
  pub names : NameAll histories call.cpu number (steps_of_call histories number steps) turns
  pub trace : IsTrace shape call.cpu (now call.cpu) call.verb turns reply
  pub next_is : next ≡ put now call.cpu (spare_left shape (now call.cpu) turns)

module _ (shape : Shape) (histories : List LockHistory) (cpus : List ℕ) where
  pub record Carried (number : ℕ) (calls : List Call) (replies : List Reply) (spares last : ℕ → Option ℕ) (steps : List StrandStep) : Type 0 where
    -- the spares before the call at each place
    pub now : ℕ → ℕ → Option ℕ
    pub first : now 0 ≡ spares
    pub end : (cpu : ℕ) → has_cpu cpu cpus ≡ true → last cpu ≡ now (length calls) cpu
    pub made : (m n : ℕ) (call : Call) → n ≡ number + m → slice_get calls m ≡ Some call → has_cpu call.cpu cpus ≡ true
        → (reply : Reply) × (slice_get replies m ≡ Some reply) × MadeAt shape histories steps (now m) (now (suc m)) n call reply
    pub passed : (m : ℕ) (call : Call) → slice_get calls m ≡ Some call → has_cpu call.cpu cpus ≡ false → now (suc m) ≡ now m
    pub rises : Rises histories number steps

  abbrev IsFirst : ℕ → Call → List Call → Reply → List Reply → (ℕ → Option ℕ) → (ℕ → Option ℕ) → List StrandStep → Type 0
  IsFirst number call calls reply replies spares last steps =
      (mine : List StrandStep) × (rest : List StrandStep) × (turns : List TurnAt) × (steps ≡ mine ++ rest)
      × IsCallOf shape histories number call reply (spares call.cpu) mine turns
      × IsConcatenation shape histories cpus (suc number) calls replies (put spares call.cpu (spare_left shape (spares call.cpu) turns)) last rest

  module _ (number : ℕ) (call : Call) (calls : List Call) (reply : Reply) (replies : List Reply) (spares last : ℕ → Option ℕ) where
    -- a call of these CPUs comes first
    with_first : (mine rest : List StrandStep) (turns : List TurnAt) → has_cpu call.cpu cpus ≡ true → IsCallOf shape histories number call reply (spares call.cpu) mine turns
        → Carried (suc number) calls replies (put spares call.cpu (spare_left shape (spares call.cpu) turns)) last rest → Carried number (call ∷ calls) (reply ∷ replies) spares last (mine ++ rest)
    with_first mine rest turns has of later = record {
      now = shifted spares later.now;
      first = refl;
      end = later.end;
      made = made;
      passed = passed;
      rises = rises_on histories number mine rest its later.rises;
    }
      where
        its : (step : StrandStep) → IsAmong step mine → call_named histories step ≡ number
        its step there = let is = named_of histories call.cpu number mine turns of.names step there in call_at histories step is.entry is.at ∙ is.call_is

        at_first : (n : ℕ) (other : Call) → n ≡ number → call ≡ other → MadeAt shape histories (mine ++ rest) spares (later.now 0) n other reply
        at_first n other is same =
            subst (λ (c : Call). MadeAt shape histories (mine ++ rest) spares (later.now 0) n c reply) same
            (record {
              turns = turns;
              names = subst (λ (k : ℕ). NameAll histories call.cpu k (steps_of_call histories n (mine ++ rest)) turns) (sym is)
                  (subst (λ (l : List StrandStep). NameAll histories call.cpu number l turns) (sym (firsts_of histories number mine rest its later.rises n is)) of.names);
              trace = of.trace;
              next_is = later.first;
            })

        made : (m n : ℕ) (other : Call) → n ≡ number + m → slice_get (call ∷ calls) m ≡ Some other → has_cpu other.cpu cpus ≡ true
            → (answer : Reply) × (slice_get (reply ∷ replies) m ≡ Some answer) × MadeAt shape histories (mine ++ rest) (shifted spares later.now m) (later.now m) n other answer
        made zero n other is at on = (reply, refl, at_first n other (omega (arith, is)) (same_Some call other at))
        made (suc m) n other is at on =
            let found = later.made m n other (omega (arith, is)) at on in (
              found.0,
              found.1,
              record {
                turns = found.2.turns;
                names = subst (λ (l : List StrandStep). NameAll histories other.cpu n l found.2.turns) (sym (laters_of histories number mine rest its later.rises n (omega (arith, is)))) found.2.names;
                trace = found.2.trace;
                next_is = found.2.next_is;
              },
            )

        passed : (m : ℕ) (other : Call) → slice_get (call ∷ calls) m ≡ Some other → has_cpu other.cpu cpus ≡ false → later.now m ≡ shifted spares later.now m
        passed zero other at off = absurd (let same : call ≡ other = same_Some call other at in let no : true ≡ false = sym has ∙ (ap (λ (c : Call). has_cpu c.cpu cpus) same ∙ off) in cc)
        passed (suc m) other at off = later.passed m other at off

    -- or one of another CPU
    without_first : (steps : List StrandStep) → has_cpu call.cpu cpus ≡ false → Carried (suc number) calls replies spares last steps → Carried number (call ∷ calls) (reply ∷ replies) spares last steps
    without_first steps has later = record {
      now = shifted spares later.now;
      first = refl;
      end = later.end;
      made = made;
      passed = passed;
      rises = rises_lower histories number (suc number) steps (omega arith) later.rises;
    }
      where
        made : (m n : ℕ) (other : Call) → n ≡ number + m → slice_get (call ∷ calls) m ≡ Some other → has_cpu other.cpu cpus ≡ true
            → (answer : Reply) × (slice_get (reply ∷ replies) m ≡ Some answer) × MadeAt shape histories steps (shifted spares later.now m) (later.now m) n other answer
        made zero n other is at on = absurd (let same : call ≡ other = same_Some call other at in let no : false ≡ true = sym has ∙ (ap (λ (c : Call). has_cpu c.cpu cpus) same ∙ on) in cc)
        made (suc m) n other is at on = later.made m n other (omega (arith, is)) at on

        passed : (m : ℕ) (other : Call) → slice_get (call ∷ calls) m ≡ Some other → has_cpu other.cpu cpus ≡ false → later.now m ≡ shifted spares later.now m
        passed zero other at off = later.first
        passed (suc m) other at off = later.passed m other at off

  pub carried_on : (number : ℕ) (calls : List Call) (replies : List Reply) (spares last : ℕ → Option ℕ) (steps : List StrandStep)
      → IsConcatenation shape histories cpus number calls replies spares last steps → Carried number calls replies spares last steps
  carried_on number [] replies spares last steps are = record {
    now = λ m. spares;
    first = refl;
    end = are.1;
    made = λ m n call is at on. absurd (none-some call at);
    passed = λ m call at off. absurd (none-some call at);
    rises = subst (Rises histories number) (sym are.0) tt;
  }
  carried_on number (call ∷ calls) [] spares last steps are = absurd are
  carried_on number (call ∷ calls) (reply ∷ replies) spares last steps are =
      by (has_cpu call.cpu cpus) refl are (λ now rest more. carried_on (suc number) calls replies now last rest more)
    where
      by : (b : Bool) → has_cpu call.cpu cpus ≡ b
          → MatchBool b (IsFirst number call calls reply replies spares last steps) (IsConcatenation shape histories cpus (suc number) calls replies spares last steps)
          → ((now : ℕ → Option ℕ) (rest : List StrandStep) → IsConcatenation shape histories cpus (suc number) calls replies now last rest → Carried (suc number) calls replies now last rest)
          → Carried number (call ∷ calls) (reply ∷ replies) spares last steps
      by true has whole later =
          subst (Carried number (call ∷ calls) (reply ∷ replies) spares last) (sym whole.3)
          (with_first number call calls reply replies spares last whole.0 whole.1 whole.2 has whole.4 (later (put spares call.cpu (spare_left shape (spares call.cpu) whole.2)) whole.1 whole.5))
      by false has whole later = without_first number call calls reply replies spares last steps has (later spares steps whole)
