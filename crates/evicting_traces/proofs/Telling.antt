-- What is read of a turn with those of its probes, by that turn alone.
use Rattle.std.proofs.Common.{◌≡◌, ℕ, Bool, true, false, List, [], ◌∷◌, Option, None, Some, refl, ap, sym, ◌∙◌}
use Rattle.std.specs.Prelude.{option_map}
use Rattle.map_types.specs.declared.attr.Shape.{Shape}
use Rattle.map_types.specs.declared.kind.DomainId.TheVariants.{Local, Global, CpuLru}
use Rattle.place_words.specs.Takings.{stolen_element}
use Rattle.place_words.specs.Turns.{Turn}
use Rattle.trace_check.specs.Reading.{when, checked}
use Rattle.evicting_traces.specs.Reading.{Seen, told, then_read, with_rest, read_seen}
use Rattle.evicting_traces.specs.Parts.{on, of_local, of_global, of_own, Theft, stolen_in, Giving, given_in, OwnGiving, own_given_in}
use Rattle.evicting_traces.specs.Calls.{read_group, answers, answered_turn, what_it_tells, chased, read_chased, own_got, theft_of, refilled, refilled_by, read_own, read_refill, read_home, after_theft, read_steals}
use Rattle.evicting_traces.proofs.Grouping.{with_group, group_before}

module _ {A : Type 0} (shape : Shape) (says : Turn → Option A) where
  by_answers : (b : Bool) (o : Option A) (last : Seen) (rest : List Seen) → says last.turn ≡ o → with_rest rest (checked (λ a. b) o) ≡ what_it_tells says (with_rest rest (when b last))
  by_answers true None last rest is = ap (with_rest rest) (sym is)
  by_answers true (Some a) last rest is = ap (with_rest rest) (sym is)
  by_answers false None last rest is = refl
  by_answers false (Some a) last rest is = refl

  by_group : (o : Option ((List Turn × Seen) × List Seen)) → with_group (chased shape says) o ≡ what_it_tells says (with_group (λ before last. when (answers shape before last) last) o)
  by_group None = refl
  by_group (Some ((before, last), rest)) = by_answers (answers shape before last) (says last.turn) last rest refl

  chased_is : (seens : List Seen) → read_chased shape says seens ≡ what_it_tells says (answered_turn shape seens)
  unfolding answered_turn
  chased_is seens =
      let found : Option ((List Turn × Seen) × List Seen) = read_group seens (λ before last. Some (before, last)) in
      group_before (λ l. l) seens (chased shape says) ∙ by_group found ∙ ap (what_it_tells says) (sym (group_before (λ l. l) seens (λ before last. when (answers shape before last) last)))

  pub none_first : (seens : List Seen) → answered_turn shape seens ≡ None → read_chased shape says seens ≡ None
  none_first seens none = chased_is seens ∙ ap (what_it_tells says) none

  pub one_first : (seens : List Seen) (last : Seen) (rest : List Seen) → answered_turn shape seens ≡ Some (last, rest) → read_chased shape says seens ≡ with_rest rest (says last.turn)
  one_first seens last rest is = chased_is seens ∙ ap (what_it_tells says) is

told_with : {A B : Type 0} (f : A → B) (rest : List Seen) (o : Option A) → told f (with_rest rest o) ≡ with_rest rest (option_map f o)
told_with f rest None = refl
told_with f rest (Some a) = refl

module _ (shape : Shape) (cpu hash : ℕ) (seens : List Seen) where
  -- from the own lists
  abbrev own_says : Turn → Option OwnGiving
  own_says = on (CpuLru cpu) (of_own (own_given_in hash))

  pub own_none : answered_turn shape seens ≡ None → read_own shape cpu hash seens ≡ None
  own_none none = ap (told (λ (given : OwnGiving). given.3)) (none_first shape own_says seens none)

  pub own_one : (last : Seen) (rest : List Seen) (o : Option (Option ℕ)) → answered_turn shape seens ≡ Some (last, rest) → own_got cpu hash last.turn ≡ o → read_own shape cpu hash seens ≡ with_rest rest o
  own_one last rest o found is =
      ap (told (λ (given : OwnGiving). given.3)) (one_first shape own_says seens last rest found) ∙ told_with (λ (given : OwnGiving). given.3) rest (own_says last.turn) ∙ ap (with_rest rest) is

  -- a refill
  abbrev given_says : Turn → Option Giving
  given_says = on Global (of_global given_in)

  abbrev next : Giving → List Seen → Option ((Option ℕ × ℕ) × List Seen)
  next given = read_seen (refilled cpu hash given)

  pub refill_none : answered_turn shape seens ≡ None → read_refill shape cpu hash seens ≡ None
  refill_none none = ap (then_read next) (none_first shape given_says seens none)

  next_empty : (o : Option Giving) → then_read next (with_rest [] o) ≡ None
  next_empty None = refl
  next_empty (Some given) = refl

  next_one : (o : Option Giving) (last : Seen) (behind : List Seen) → then_read next (with_rest (last ∷ behind) o) ≡ with_rest behind (refilled_by cpu hash o last)
  next_one None last behind = refl
  next_one (Some given) last behind = refl

  pub refill_empty : (first : Seen) (rest : List Seen) → answered_turn shape seens ≡ Some (first, rest) → rest ≡ [] → read_refill shape cpu hash seens ≡ None
  refill_empty first rest found none =
      ap (then_read next) (one_first shape given_says seens first rest found) ∙ ap (λ l. then_read next (with_rest l (given_says first.turn))) none ∙ next_empty (given_says first.turn)

  pub refill_one : (first last : Seen) (rest behind : List Seen) (r : Option (Option ℕ × ℕ)) → answered_turn shape seens ≡ Some (first, rest) → rest ≡ last ∷ behind → refilled_by cpu hash (on Global (of_global given_in) first.turn) last ≡ r
      → read_refill shape cpu hash seens ≡ with_rest behind r
  refill_one first last rest behind r found split is =
      ap (then_read next) (one_first shape given_says seens first rest found) ∙ ap (λ l. then_read next (with_rest l (given_says first.turn))) split ∙ next_one (given_says first.turn) last behind ∙ ap (with_rest behind) is

  -- a theft
  abbrev steal_says : ℕ → Turn → Option Theft
  steal_says from = on (Local from) (of_local stolen_in)

  abbrev after : ℕ → List ℕ → Theft → List Seen → Option (Option ℕ × List Seen)
  after from others theft = after_theft (read_steals shape cpu hash others) (read_home shape cpu hash from) (stolen_element theft.0)

  after_try : ℕ → List ℕ → List Seen → Option (Option ℕ) → Option (Option ℕ × List Seen)
  after_try from others rest None = None
  after_try from others rest (Some o) = after_theft (read_steals shape cpu hash others) (read_home shape cpu hash from) o rest

  after_one : (from : ℕ) (others : List ℕ) (rest : List Seen) (o : Option Theft) → then_read (after from others) (with_rest rest o) ≡ after_try from others rest (option_map (λ (theft : Theft). stolen_element theft.0) o)
  unfolding after_try
  after_one from others rest None = refl
  after_one from others rest (Some theft) = refl

  steals_one : (from : ℕ) (others : List ℕ) (last : Seen) (rest : List Seen) (o : Option (Option ℕ)) → answered_turn shape seens ≡ Some (last, rest) → theft_of from last.turn ≡ o → read_steals shape cpu hash (from ∷ others) seens ≡ after_try from others rest o
  steals_one from others last rest o found is =
      ap (then_read (after from others)) (one_first shape (steal_says from) seens last rest found) ∙ after_one from others rest (steal_says from last.turn) ∙ ap (after_try from others rest) is

  module _ {from : ℕ} {cpus others : List ℕ} (cpus_are : cpus ≡ from ∷ others) where
    in_order : {r : Option (Option ℕ × List Seen)} → read_steals shape cpu hash (from ∷ others) seens ≡ r → read_steals shape cpu hash cpus seens ≡ r
    in_order is = ap (λ l. read_steals shape cpu hash l seens) cpus_are ∙ is

    pub steals_none : answered_turn shape seens ≡ None → read_steals shape cpu hash cpus seens ≡ None
    steals_none none = in_order (ap (then_read (after from others)) (none_first shape (steal_says from) seens none))

    pub steals_other : (last : Seen) (rest : List Seen) → answered_turn shape seens ≡ Some (last, rest) → theft_of from last.turn ≡ None → read_steals shape cpu hash cpus seens ≡ None
    unfolding after_try
    steals_other last rest found is = in_order (steals_one from others last rest None found is)

    pub steals_on : (last : Seen) (rest : List Seen) → answered_turn shape seens ≡ Some (last, rest) → theft_of from last.turn ≡ Some None → read_steals shape cpu hash cpus seens ≡ read_steals shape cpu hash others rest
    unfolding after_try
    steals_on last rest found is = in_order (steals_one from others last rest (Some None) found is)

    pub steals_home : (last : Seen) (rest : List Seen) (e : ℕ) → answered_turn shape seens ≡ Some (last, rest) → theft_of from last.turn ≡ Some (Some e) → read_steals shape cpu hash cpus seens ≡ read_home shape cpu hash from e rest
    unfolding after_try
    steals_home last rest e found is = in_order (steals_one from others last rest (Some (Some e)) found is)
