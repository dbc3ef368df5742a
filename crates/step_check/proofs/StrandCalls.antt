-- Each turn of a strand is of one of its calls, whose turns are those of the strand that have its number.
use Rattle.std.proofs.Common.{◌≡◌, ◌⊎◌, inl, inr, ℕ, suc, ◌+◌, Bool, true, false, cond, eqb, List, [], ◌∷◌, ◌++◌, map, refl, ap, sym, ◌∙◌, subst, arith}
use Rattle.std.specs.Prelude.{filter, Option, Some, slice_get, option_to_list, MatchBool}
use Rattle.std.proofs.lemmas.Bool.{cond-true, cond-false, eq-eqb, ne_eqb}
use Rattle.std.proofs.lemmas.Grind.{flat_map-append}
use Rattle.std.proofs.lemmas.List.{append-nil}
use Rattle.std.proofs.lemmas.List.Elements.{filter-append}
use Rattle.map_types.specs.declared.attr.Shape.{Shape}
use Rattle.map_types.specs.declared.call.Call.{Call}
use Rattle.map_types.specs.declared.reply.Reply.{Reply}
use Rattle.map_types.specs.ElementLists.{put}
use Rattle.place_words.specs.declared.history.LockHistory.{LockHistory}
use Rattle.place_words.specs.declared.history.StrandStep.{StrandStep}
use Rattle.place_words.specs.Interleaving.{Drawn}
use Rattle.place_words.specs.Named.{entries_of}
use Rattle.place_words.specs.Tickets as by_entry
use Rattle.place_words.specs.Tickets.{AscendIn}
use Rattle.place_words.specs.Traces.{IsTrace}
use Rattle.place_words.specs.Turns.{TurnAt}
use Rattle.place_words.specs.Walks.{spare_left}
use Rattle.map_report.specs.Record.{IsConcatenation, IsCallOf, has_cpu}
use Rattle.map_types.specs.declared.kind.DomainId.{DomainId}
use Rattle.turn_order.proofs.Members.{IsAmong, append_among}
use Rattle.step_check.proofs.PlacedTurns.{at_of}
use Rattle.step_check.proofs.StepTurns.{drawn_at, drawn_by, IsOf, named, named_of}

-- Filters

pub keeps_all : {A : Type 0} (p : A → Bool) (xs : List A) → ((x : A) → IsAmong x xs → p x ≡ true) → filter p xs ≡ xs
keeps_all p [] each = refl
keeps_all p (x ∷ xs) each = cond-true (p x) (x ∷ filter p xs) (filter p xs) (each x (inl refl)) ∙ ap (λ (l : List _). x ∷ l) (keeps_all p xs (λ y there. each y (inr there)))

pub keeps_none : {A : Type 0} (p : A → Bool) (xs : List A) → ((x : A) → IsAmong x xs → p x ≡ false) → filter p xs ≡ []
keeps_none p [] each = refl
keeps_none p (x ∷ xs) each = cond-false (p x) (x ∷ filter p xs) (filter p xs) (each x (inl refl)) ∙ keeps_none p xs (λ y there. each y (inr there))

-- of what one test picks another one picks what it picks of all, where it picks less
pub picks_less : {A : Type 0} (p q : A → Bool) (xs : List A) → ((x : A) → IsAmong x xs → p x ≡ true → q x ≡ true) → filter p (filter q xs) ≡ filter p xs
picks_less p q [] less = refl
picks_less p q (x ∷ xs) less = by (p x) refl (q x) refl (picks_less p q xs (λ y there. less y (inr there)))
  where
    by : (b : Bool) → p x ≡ b → (c : Bool) → q x ≡ c → filter p (filter q xs) ≡ filter p xs → filter p (cond c (x ∷ filter q xs) (filter q xs)) ≡ cond b (x ∷ filter p xs) (filter p xs)
    by true is true is_too rest = cond-true (p x) (x ∷ filter p (filter q xs)) (filter p (filter q xs)) is ∙ ap (λ (l : List _). x ∷ l) rest
    by true is false is_not rest = absurd (let no : true ≡ false = sym (less x (inl refl) is) ∙ is_not in cc)
    by false is true is_too rest = cond-false (p x) (x ∷ filter p (filter q xs)) (filter p (filter q xs)) is ∙ rest
    by false is false is_not rest = rest

abbrev pub is_call : ℕ → Drawn → Bool
is_call number drawn = eqb drawn.entry.call number

-- The call of a turn of a strand, by its place among the calls, which have numbers from the first one's on.
pub record HasCall (shape : Shape) (histories : List LockHistory) (first : ℕ) (calls : List Call) (steps : List StrandStep) (x : Drawn) : Type 0 where
  pub at : ℕ
  pub call : Call
  pub spare : Option ℕ
  pub reply : Reply
  pub call_is : slice_get calls at ≡ Some call
  pub number_is : x.entry.call ≡ first + at
  pub cpu_is : x.entry.cpu ≡ call.cpu
  pub trace : IsTrace shape call.cpu spare call.verb (map (at_of histories) (filter (is_call x.entry.call) (drawn_by histories steps))) reply

module _ (shape : Shape) (histories : List LockHistory) (n : ℕ) (ascend : (lock : DomainId) → AscendIn 0 (by_entry.tickets_of (entries_of histories lock)) n) where
  abbrev turns_by : List StrandStep → List Drawn
  turns_by steps = drawn_by histories steps

  joined : (mine rest : List StrandStep) → turns_by (mine ++ rest) ≡ turns_by mine ++ turns_by rest
  joined mine rest = flat_map-append (λ (step : StrandStep). option_to_list (drawn_at histories step)) mine rest

  -- the calls one number further on
  one_on : (first : ℕ) (call : Call) (calls : List Call) (steps : List StrandStep) (x : Drawn) → HasCall shape histories (suc first) calls steps x → HasCall shape histories first (call ∷ calls) steps x
  one_on first call calls steps x has = record {
    at = suc has.at;
    call = has.call;
    spare = has.spare;
    reply = has.reply;
    call_is = has.call_is;
    number_is = let is = has.number_is in omega arith;
    cpu_is = has.cpu_is;
    trace = has.trace;
  }

  not_first : (first : ℕ) (calls : List Call) (steps : List StrandStep) (x : Drawn) → HasCall shape histories (suc first) calls steps x → x.entry.call ≡ first → ⊥
  not_first first calls steps x has same = let is = has.number_is in absurd (omega arith)

  module _ (first : ℕ) (call : Call) (calls : List Call) (mine rest : List StrandStep) (of : (y : Drawn) → IsAmong y (turns_by mine) → IsOf call.cpu first y) (others : (y : Drawn) → IsAmong y (turns_by rest) → HasCall shape histories (suc first) calls rest y) where
    -- the turns of the first call
    firsts : (number : ℕ) → number ≡ first → filter (is_call number) (turns_by (mine ++ rest)) ≡ turns_by mine
    firsts number same =
        ap (filter (is_call number)) (joined mine rest) ∙ (filter-append (is_call number) (turns_by mine) (turns_by rest)
        ∙ (ap (λ (l : List Drawn). l ++ filter (is_call number) (turns_by rest)) (keeps_all (is_call number) (turns_by mine) (λ y there. eq-eqb y.entry.call number ((of y there).call_is ∙ sym same)))
        ∙ (ap (λ (l : List Drawn). turns_by mine ++ l) (keeps_none (is_call number) (turns_by rest) (λ y there. ne_eqb y.entry.call number (λ is. not_first first calls rest y (others y there) (is ∙ same))))
        ∙ append-nil (turns_by mine))))

    -- and those of a later one
    laters : (number : ℕ) → (number ≡ first → ⊥) → filter (is_call number) (turns_by (mine ++ rest)) ≡ filter (is_call number) (turns_by rest)
    laters number other =
        ap (filter (is_call number)) (joined mine rest) ∙ (filter-append (is_call number) (turns_by mine) (turns_by rest)
        ∙ ap (λ (l : List Drawn). l ++ filter (is_call number) (turns_by rest)) (keeps_none (is_call number) (turns_by mine) (λ y there. ne_eqb y.entry.call number (λ is. other (sym is ∙ (of y there).call_is)))))

    in_joined : (spare : Option ℕ) (reply : Reply) (turns : List TurnAt) → turns ≡ map (at_of histories) (turns_by mine) → IsTrace shape call.cpu spare call.verb turns reply → (x : Drawn) → IsAmong x (turns_by mine) ⊎ IsAmong x (turns_by rest) → HasCall shape histories first (call ∷ calls) (mine ++ rest) x
    in_joined spare reply turns are trace x (inl here) =
        let is : IsOf call.cpu first x = of x here in
        record {
          at = 0;
          call = call;
          spare = spare;
          reply = reply;
          call_is = refl;
          number_is = let number = is.call_is in omega arith;
          cpu_is = is.cpu_is;
          trace = subst (λ (l : List TurnAt). IsTrace shape call.cpu spare call.verb l reply) (are ∙ ap (map (at_of histories)) (sym (firsts x.entry.call is.call_is))) trace;
        }
    in_joined spare reply turns are trace x (inr later) =
        let has = others x later in
        record {
          at = suc has.at;
          call = has.call;
          spare = has.spare;
          reply = has.reply;
          call_is = has.call_is;
          number_is = let is = has.number_is in omega arith;
          cpu_is = has.cpu_is;
          trace = subst (λ (l : List Drawn). IsTrace shape has.call.cpu has.spare has.call.verb (map (at_of histories) l) has.reply) (sym (laters x.entry.call (not_first first calls rest x has))) has.trace;
        }

  pub call_found : (cpus : List ℕ) (first : ℕ) (calls : List Call) (replies : List Reply) (spares last : ℕ → Option ℕ) (steps : List StrandStep)
      → IsConcatenation shape histories cpus first calls replies spares last steps → (x : Drawn) → IsAmong x (turns_by steps) → HasCall shape histories first calls steps x
  call_found cpus first [] replies spares last steps are x there = absurd (subst (λ (l : List StrandStep). IsAmong x (turns_by l)) are.0 there)
  call_found cpus first (call ∷ calls) [] spares last steps are x there = absurd are
  call_found cpus first (call ∷ calls) (reply ∷ replies) spares last steps are x there =
      by (has_cpu call.cpu cpus) are (λ now rest more. call_found cpus (suc first) calls replies now last rest more)
    where
      by : (b : Bool)
          → MatchBool b
          ((mine : List StrandStep) × (rest : List StrandStep) × (turns : List TurnAt) × (steps ≡ mine ++ rest)
          × IsCallOf shape histories first call reply (spares call.cpu) mine turns
          × IsConcatenation shape histories cpus (suc first) calls replies (put spares call.cpu (spare_left shape (spares call.cpu) turns)) last rest)
          (IsConcatenation shape histories cpus (suc first) calls replies spares last steps)
          → ((now : ℕ → Option ℕ) (rest : List StrandStep) → IsConcatenation shape histories cpus (suc first) calls replies now last rest → (y : Drawn) → IsAmong y (turns_by rest) → HasCall shape histories (suc first) calls rest y)
          → HasCall shape histories first (call ∷ calls) steps x
      by true whole found =
          let mine : List StrandStep = whole.0 in
          let rest : List StrandStep = whole.1 in
          let turns : List TurnAt = whole.2 in
          subst (λ (l : List StrandStep). HasCall shape histories first (call ∷ calls) l x) (sym whole.3)
          (in_joined first call calls mine rest (named_of histories n ascend call.cpu first mine turns whole.4.names) (found (put spares call.cpu (spare_left shape (spares call.cpu) turns)) rest whole.5)
          (spares call.cpu) reply turns (named histories n ascend call.cpu first mine turns whole.4.names) whole.4.trace x
          (append_among x (turns_by mine) (turns_by rest) (subst (λ (l : List Drawn). IsAmong x l) (ap turns_by whole.3 ∙ joined mine rest) there)))
      by false whole found = one_on first call calls steps x (found spares steps whole x there)
