-- A round of thefts, CPU by CPU.
use Rattle.std.proofs.Common.{◌≡◌, ℕ, cond, false, Bool, List, [], ◌∷◌, ◌++◌, map, sym, refl, ap, ◌∙◌, subst, Option, Some, None}
use Rattle.std.specs.Prelude.{IsTrue, IsFalse, MatchOption, option_map}
use Rattle.std.proofs.lemmas.List.{map-append}
use Rattle.std.proofs.lemmas.List.Elements.{All-nil}
use Rattle.map_types.specs.Kind.{is_lru}
use Rattle.map_types.specs.Stored.{Stored}
use Rattle.place_words.specs.Takings.{Steals, brings_home}
use Rattle.place_words.specs.Turns.{Turn, TurnAt, turns_of}
use Rattle.place_table.specs.declared.view.Turned.{Turned}
use Rattle.place_table.specs.Calls.{finds_moved_on}
use Rattle.place_table.specs.Known.{Learns, turn_at, IsBy}
use Rattle.place_table.specs.Passes.{PassView, TableView}
use Rattle.place_table.specs.Views.{is_among, is_in_hand_of, with_in_hand, without_in_hand}
use Rattle.place_table.proofs.Going.{goes_nowhere, goes_of_table, goes_begun, learns_none}
use Rattle.place_table.proofs.Hands.{in_hand_more}
use Rattle.lru_ops.specs.Lists.{StoleNoneOf}
use Rattle.lru_ops.specs.Shared.{CanSteal, StoleFrom, CanBringHome, BroughtHome, StoleRound}
use Rattle.lru_ops.proofs.Ends.{changed_on, changed_all, hands_on}
use Rattle.lru_ops.proofs.Holders.{saw_nothing, saw_on_both}
use Rattle.lru_ops.proofs.Removed.{comes_and_goes}

-- What a round over the CPUs that are left makes is made by one over all of them.
abbrev pub MakesRound : TableView → ℕ → List ℕ → List ℕ → PassView → PassView → Type 0
MakesRound t hash left cpus start now = (after : PassView) (found : Option Stored) → StoleRound t hash left now after found → StoleRound t hash cpus start after found

-- no CPU is left
pub round_none : {t : TableView} (hash : ℕ) (p : PassView) → IsTrue (is_lru t.shape.kind) → StoleRound t hash [] p p None
round_none {t} hash p evicts = record {
  steps = [];
  told = [];
  lost = [];
  changed = record {
    told_are = tt;
    made = record { goes = goes_nowhere p; held = refl; notes = refl };
    by_call = All-nil (IsBy p.cpu p.call);
    spares = refl;
    carried = refl;
    learns = subst (Learns t.shape p.view p.view []) (sym (ap (λ (b : Bool). cond b [] []) evicts)) (learns_none t.shape p.view);
    none_moved = λ _ _ _. All-nil (λ (turn : Turned). IsFalse (finds_moved_on turn.entry.part));
  };
  trace = (refl, refl);
  hand = refl;
  taken = tt;
  none = refl;
  saw = saw_nothing t.shape p;
}

-- A theft that found none, and then the others
module _ {t : TableView} {from : ℕ} {p q : PassView} (s : StoleFrom t from p q None) where
  cpu_is : q.cpu ≡ p.cpu
  cpu_is = s.changed.made.goes.cpu

  hand_on : (r : PassView) (found : Option Stored) → MatchOption found (r.view.hand ≡ q.view.hand) (λ body. r.view.hand ≡ with_in_hand body.element q.cpu q.view.hand) → MatchOption found (r.view.hand ≡ p.view.hand) (λ body. r.view.hand ≡ with_in_hand body.element p.cpu p.view.hand)
  hand_on r None is = is ∙ s.hand
  hand_on r (Some body) is = is ∙ (λ i. with_in_hand body.element (cpu_is i) (s.hand i))

  none_on : (others : List ℕ) (told : List Turned) (found : Option Stored) → MatchOption found (StoleNoneOf t.shape q.cpu others told) (λ body. Unit {0}) → MatchOption found (StoleNoneOf t.shape p.cpu (from ∷ others) (s.told ++ told)) (λ body. Unit {0})
  none_on others told None none = (s.told, told, (refl, s.none, subst (λ (c : ℕ). StoleNoneOf t.shape c others told) cpu_is none))
  none_on others told (Some body) none = tt

  pub round_more : {hash : ℕ} {others : List ℕ} {r : PassView} {found : Option Stored} → StoleRound t hash others q r found → StoleRound t hash (from ∷ others) p r found
  round_more {hash} {others} {r} {found} x =
      let got : Option ℕ = option_map (λ (body : Stored). body.element) found in
      let tried : List TurnAt = map (turn_at t.shape) s.told in
      let rest : List TurnAt = map (turn_at t.shape) x.told in
      record {
        steps = s.steps ++ x.steps;
        told = s.told ++ x.told;
        lost = x.lost ++ s.lost;
        changed = changed_on (changed_all s.changed s.carried) x.changed;
        trace = (
          tried,
          rest,
          s.stolen,
          s.first,
          s.second,
          map-append (turn_at t.shape) s.told x.told,
          s.trace,
          subst (λ (e : Option ℕ). MatchOption e (Steals t.shape p.cpu hash others got rest) (λ n. (got ≡ Some n) × (turns_of rest ≡ brings_home t.shape p.cpu hash from n ∷ []))) (sym s.stolen_is)
              (subst (λ (c : ℕ). Steals t.shape c hash others got rest) cpu_is x.trace),
        );
        hand = hand_on r found x.hand;
        taken = x.taken;
        none = none_on others x.told found x.none;
        saw = saw_on_both t.shape p q r s.steps x.steps s.told x.told s.saw x.saw;
      }

  -- the pass may steal from another CPU
  pub steals_on : CanSteal t p → CanSteal t q
  steals_on can =
      let goes = s.changed.made.goes in
      record {
        of_table = goes_of_table t p q s.steps s.lost goes can.of_table;
        begun = goes_begun p q s.steps s.lost goes can.begun;
        common = can.common;
        no_lock = s.changed.made.held ∙ can.no_lock;
        carries_nothing = s.carried ∙ can.carries_nothing;
        hands_empty = λ e cpu among. ap (is_in_hand_of e cpu) s.hand ∙ can.hands_empty e cpu (ap (is_among cpu) (sym goes.cpus) ∙ among);
      }

-- A theft that found one
module _ {t : TableView} {from : ℕ} {p q : PassView} {body : Stored} (can : CanSteal t p) (s : StoleFrom t from p q (Some body)) where
  cpu_same : q.cpu ≡ p.cpu
  cpu_same = s.changed.made.goes.cpu

  pub can_bring : (e : ℕ) → e ≡ body.element → CanBringHome t e q
  can_bring e is =
      let goes = s.changed.made.goes in
      subst (λ (n : ℕ). CanBringHome t n q) (sym is) record {
        of_table = goes_of_table t p q s.steps s.lost goes can.of_table;
        begun = goes_begun p q s.steps s.lost goes can.begun;
        common = can.common;
        no_lock = s.changed.made.held ∙ can.no_lock;
        real = s.body.0;
        in_hand = (λ i. is_in_hand_of body.element (cpu_same i) (s.hand i)) ∙ in_hand_more body.element p.cpu p.view.hand;
        carried = (λ i. is_in_hand_of body.element (cpu_same i) (s.carried i)) ∙ in_hand_more body.element p.cpu p.view.carried;
      }

  -- it is brought home, and no other CPU is looked at
  pub round_got : {hash e : ℕ} {r : PassView} (others : List ℕ) → e ≡ body.element → BroughtHome t hash from e q r → StoleRound t hash (from ∷ others) p r (Some body)
  round_got {hash} {e} {r} others is brought =
      let h : BroughtHome t hash from body.element q r = subst (λ (n : ℕ). BroughtHome t hash from n q r) is brought in
      let none : is_in_hand_of body.element p.cpu p.view.carried ≡ false = ap (is_in_hand_of body.element p.cpu) can.carries_nothing in
      let carried : r.view.carried ≡ p.view.carried = h.carried ∙ ((λ i. without_in_hand body.element (cpu_same i) (s.carried i)) ∙ comes_and_goes body.element p.cpu p.view.carried none) in
      let tried : List TurnAt = map (turn_at t.shape) s.told in
      let rest : List TurnAt = map (turn_at t.shape) (h.step ∷ []) in
      let home : turns_of rest ≡ brings_home t.shape p.cpu hash from body.element ∷ [] = ap (λ (turn : Turn). turn ∷ []) (h.turn_is ∙ ap (λ (c : ℕ). brings_home t.shape c hash from body.element) cpu_same) in
      record {
        steps = s.steps ++ h.step ∷ [];
        told = s.told ++ h.step ∷ [];
        lost = s.lost;
        changed = changed_all (hands_on s.changed h.changed) carried;
        trace = (
          tried,
          rest,
          s.stolen,
          s.first,
          s.second,
          map-append (turn_at t.shape) s.told (h.step ∷ []),
          s.trace,
          subst (λ (e : Option ℕ). MatchOption e (Steals t.shape p.cpu hash others (Some body.element) rest) (λ n. (Some body.element ≡ Some n) × (turns_of rest ≡ brings_home t.shape p.cpu hash from n ∷ []))) (sym s.stolen_is) (refl, home),
        );
        hand = h.hand ∙ s.hand;
        taken = h.taken body refl s.body.1;
        none = tt;
        saw = saw_on_both t.shape p q r s.steps (h.step ∷ []) s.told (h.step ∷ []) s.saw h.saw;
      }
