-- The loop over the turns of probes up to the first turn behind them.
use Rattle.std.proofs.Common.{◌≡◌, ℕ, zero, suc, ◌+◌, ◌≤◌, Bool, true, false, List, [], ◌∷◌, ◌++◌, length, take, drop, Option, None, Some, refl, ap, sym, ◌∙◌, subst, arith, take-append-drop, length-drop, ◌-◌}
use Rattle.std.specs.Prelude.{is_some, if◌then◌else◌}
use Rattle.std.proofs.lemmas.List.{append-nil}
use Rattle.place_words.specs.Turns.{Turn}
use Rattle.evicting_traces.specs.Reading.{Seen, with_rest, turns_in}
use Rattle.evicting_traces.specs.Parts.{evicted}
use Rattle.map_types.specs.declared.attr.Shape.{Shape}
use Rattle.trace_check.specs.Reading.{when}
use Rattle.evicting_traces.specs.Calls.{read_group, group, answers, answered_turn}
use Rattle.evicting_traces.proofs.Chases.{AreEvicted}
use Rattle.evicting_traces.proofs.Ways.{nothing}

-- so many turns of probes were passed by, and these turns are left
pub record ArePassed (seens : List Seen) (count : ℕ) (rest : List Seen) : Type 0 where
  pub rest_is : rest ≡ drop count seens
  pub are_evicted : AreEvicted (turns_in (take count seens))

pub all_passed : {seens : List Seen} {count : ℕ} {rest : List Seen} → ArePassed seens count rest → length seens ≤ count → rest ≡ []
all_passed {seens = seens} {count = count} {rest = rest} passed all =
    let long : length rest ≡ length seens - count = ap (λ (l : List Seen). length l) passed.rest_is ∙ length-drop count seens in
    nothing rest (omega arith)

pub none_passed : (seens : List Seen) → ArePassed seens 0 seens
none_passed seens = record { rest_is = refl; are_evicted = tt }

one_more : (k : ℕ) → k + 1 ≡ suc k
one_more k = omega arith

module _ {X : Type 0} where
  taken_more : (k : ℕ) (xs : List X) (x : X) (rest : List X) → drop k xs ≡ x ∷ rest → take (suc k) xs ≡ take k xs ++ x ∷ []
  taken_more zero [] x rest at = absurd cc
  taken_more zero (y ∷ xs) x rest at = cc
  taken_more (suc k) [] x rest at = absurd cc
  taken_more (suc k) (y ∷ xs) x rest at = ap (λ ys. y ∷ ys) (taken_more k xs x rest at)

  left_more : (k : ℕ) (xs : List X) (x : X) (rest : List X) → drop k xs ≡ x ∷ rest → drop (suc k) xs ≡ rest
  left_more zero [] x rest at = absurd cc
  left_more zero (y ∷ xs) x rest at = cc
  left_more (suc k) [] x rest at = absurd cc
  left_more (suc k) (y ∷ xs) x rest at = left_more k xs x rest at

evicted_more : (xs : List Seen) (t : Seen) → AreEvicted (turns_in xs) → is_some (evicted t.turn.part) ≡ true → AreEvicted (turns_in (xs ++ t ∷ []))
evicted_more [] t are is = (is, tt)
evicted_more (x ∷ xs) t are is = (are.0, evicted_more xs t are.1 is)

pub one_passed : {seens : List Seen} {count : ℕ} {rest behind : List Seen} {t : Seen} → ArePassed seens count rest → rest ≡ t ∷ behind → is_some (evicted t.turn.part) ≡ true → ArePassed seens (count + 1) behind
one_passed {seens = seens} {count = count} {behind = behind} {t = t} passed split evicts =
    let at : drop count seens ≡ t ∷ behind = sym passed.rest_is ∙ split in
    record {
      rest_is = sym (ap (λ n. drop n seens) (one_more count) ∙ left_more count seens t behind at);
      are_evicted = subst (λ (l : List Seen). AreEvicted (turns_in l)) (sym (ap (λ n. take n seens) (one_more count) ∙ taken_more count seens t behind at)) (evicted_more (take count seens) t passed.are_evicted evicts);
    }

module _ {A : Type 0} where
  evicted_group : (before rest : List Seen) (says : List Turn → Seen → Option A) → AreEvicted (turns_in before) → read_group (before ++ rest) says ≡ read_group rest (λ more. says (turns_in before ++ more))
  evicted_group [] rest says are = refl
  evicted_group (t ∷ before) rest says are =
      ap (λ (b : Bool). if b then read_group (before ++ rest) (λ more. says (t.turn ∷ more)) else with_rest (before ++ rest) (says [] t)) are.0
      ∙ evicted_group before rest (λ more. says (t.turn ∷ more)) are.1

  split_group : (seens : List Seen) (count : ℕ) (rest : List Seen) (says : List Turn → Seen → Option A) → ArePassed seens count rest → read_group seens says ≡ read_group rest (λ more. says (turns_in (take count seens) ++ more))
  split_group seens count rest says passed =
      ap (λ (l : List Seen). read_group l says) (sym (take-append-drop count seens) ∙ ap (λ (l : List Seen). take count seens ++ l) (sym passed.rest_is))
      ∙ evicted_group (take count seens) rest says passed.are_evicted

  no_group_by : {seens : List Seen} {count : ℕ} {rest : List Seen} (says : List Turn → Seen → Option A) → ArePassed seens count rest → rest ≡ [] → None ≡ read_group seens says
  no_group_by {seens = seens} {count = count} {rest = rest} says passed none =
      sym (split_group seens count rest says passed ∙ ap (λ (l : List Seen). read_group l (λ more. says (turns_in (take count seens) ++ more))) none)

  one_group_by : {seens : List Seen} {count : ℕ} {rest behind : List Seen} {t : Seen} (says : List Turn → Seen → Option A) → ArePassed seens count rest → rest ≡ t ∷ behind → is_some (evicted t.turn.part) ≡ false
      → with_rest behind (says (turns_in (take count seens)) t) ≡ read_group seens says
  one_group_by {seens = seens} {count = count} {rest = rest} {behind = behind} {t = t} says passed split last =
      sym
      (split_group seens count rest says passed
      ∙ ap (λ (l : List Seen). read_group l (λ more. says (turns_in (take count seens) ++ more))) split
      ∙ ap (λ (b : Bool). if b then read_group behind (λ more. says (turns_in (take count seens) ++ t.turn ∷ more)) else with_rest behind (says (turns_in (take count seens) ++ []) t)) last
      ∙ ap (λ (l : List Turn). with_rest behind (says l t)) (append-nil (turns_in (take count seens))))

pub no_group : {seens : List Seen} {count : ℕ} {rest : List Seen} → ArePassed seens count rest → rest ≡ [] → None ≡ group seens
unfolding group
no_group passed none = no_group_by (λ before last. Some (before, last)) passed none

pub one_group : {seens : List Seen} {count : ℕ} {rest behind : List Seen} {t : Seen} → ArePassed seens count rest → rest ≡ t ∷ behind → is_some (evicted t.turn.part) ≡ false → Some ((turns_in (take count seens), t), behind) ≡ group seens
unfolding group
one_group passed split last = one_group_by (λ before last. Some (before, last)) passed split last

-- what a group tells in other ways
abbrev pub with_group : {A : Type 0} → (List Turn → Seen → Option A) → Option ((List Turn × Seen) × List Seen) → Option (A × List Seen)
with_group says None = None
with_group says (Some found) = with_rest found.1 (says found.0.0 found.0.1)

module _ {A : Type 0} where
  pub group_before : (front : List Turn → List Turn) (seens : List Seen) (says : List Turn → Seen → Option A) → read_group seens (λ before last. says (front before) last) ≡ with_group says (read_group seens (λ before last. Some (front before, last)))
  group_before front [] says = refl
  group_before front (t ∷ seens) says = by (is_some (evicted t.turn.part)) (group_before (λ before. front (t.turn ∷ before)) seens says)
    where
      by : (b : Bool) → read_group seens (λ before last. says (front (t.turn ∷ before)) last) ≡ with_group says (read_group seens (λ before last. Some (front (t.turn ∷ before), last)))
          → (if b then read_group seens (λ before last. says (front (t.turn ∷ before)) last) else with_rest seens (says (front []) t))
          ≡ with_group says (if b then read_group seens (λ before last. Some (front (t.turn ∷ before), last)) else with_rest seens (Some (front [], t)))
      by true more = more
      by false more = refl

pub nowhere : (shape : Shape) (seens : List Seen) → None ≡ group seens → answered_turn shape seens ≡ None
unfolding group answered_turn
nowhere shape seens none = group_before (λ before. before) seens (λ before last. when (answers shape before last) last) ∙ ap (with_group (λ before last. when (answers shape before last) last)) (sym none)

answered_by : (shape : Shape) (seens : List Seen) (before : List Turn) (last : Seen) (rest : List Seen) (b : Bool) → Some ((before, last), rest) ≡ group seens → answers shape before last ≡ b → answered_turn shape seens ≡ with_rest rest (when b last)
unfolding group answered_turn
answered_by shape seens before last rest b found is =
    group_before (λ l. l) seens (λ l s. when (answers shape l s) s) ∙ ap (with_group (λ l s. when (answers shape l s) s)) (sym found) ∙ ap (λ c. with_rest rest (when c last)) is

pub answered : (shape : Shape) (seens : List Seen) {before : List Turn} {last : Seen} {rest : List Seen} → Some ((before, last), rest) ≡ group seens → answers shape before last ≡ true → answered_turn shape seens ≡ Some (last, rest)
answered shape seens {before = before} {last = last} {rest = rest} found is = answered_by shape seens before last rest true found is

pub unanswered : (shape : Shape) (seens : List Seen) {before : List Turn} {last : Seen} {rest : List Seen} → Some ((before, last), rest) ≡ group seens → answers shape before last ≡ false → answered_turn shape seens ≡ None
unanswered shape seens {before = before} {last = last} {rest = rest} found is = answered_by shape seens before last rest false found is
