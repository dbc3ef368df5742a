-- A taking where the CPUs share lists: the own local lists gave an element, or none, and then a round of thefts was made.
use Rattle.std.proofs.Common.{inr, ◌≡◌, ℕ, Bool, List, ◌++◌, map, sym, ap, ◌∙◌, subst, Option, Some, None}
use Rattle.std.specs.Prelude.{◌⊎◌, MatchBool, MatchOption, option_map}
use Rattle.std.proofs.lemmas.List.{map-append}
use Rattle.map_types.specs.Stored.{Stored}
use Rattle.place_words.specs.Takings.{Steals, TakesByRefill, TakesFree, TakesOwn}
use Rattle.place_words.specs.Turns.{TurnAt, ring}
use Rattle.place_table.specs.declared.view.Turned.{Turned}
use Rattle.place_table.specs.Known.{turn_at}
use Rattle.place_table.specs.Passes.{PassView, TableView}
use Rattle.place_table.specs.Views.{is_among, is_in_hand_of, with_in_hand}
use Rattle.place_table.proofs.Going.{goes_of_table, goes_begun}
use Rattle.lru_ops.specs.Lists.{Acquired, FoundNone, FoundNoneOwn, FoundNoneShared, StoleNoneOf}
use Rattle.lru_ops.specs.Shared.{CanSteal, CanTakeShared, RefilledNone, StoleRound}
use Rattle.lru_ops.proofs.Ends.{changed_on, in_no_hand}
use Rattle.lru_ops.proofs.Holders.{saw_on_both}

module _ {t : TableView} {hash cursor : ℕ} {p q : PassView} (can : CanTakeShared t p) (r : RefilledNone t hash cursor p q) where
  -- the pass may steal
  pub may_steal_then : CanSteal t q
  may_steal_then =
      let goes = r.changed.made.goes in
      record {
        of_table = goes_of_table t p q r.steps r.lost goes can.can.of_table;
        begun = goes_begun p q r.steps r.lost goes can.can.begun;
        common = can.common;
        no_lock = r.changed.made.held ∙ can.can.in_no_call.holds_nothing;
        carries_nothing = r.changed.carried ∙ can.can.in_no_call.carries_nothing;
        hands_empty = λ e cpu among. ap (is_in_hand_of e cpu) r.hand ∙ in_no_hand can.can r.evicts e cpu (ap (is_among cpu) (sym goes.cpus) ∙ among);
      }

  -- and what it stole is taken
  module _ {s : PassView} {found : Option Stored} (x : StoleRound t hash (ring cursor t.shape.cpus) q s found) where
    cpu_is : q.cpu ≡ p.cpu
    cpu_is = r.changed.made.goes.cpu

    hand_on : (found : Option Stored) → MatchOption found (s.view.hand ≡ q.view.hand) (λ body. s.view.hand ≡ with_in_hand body.element q.cpu q.view.hand) → MatchOption found (s.view.hand ≡ p.view.hand) (λ body. s.view.hand ≡ with_in_hand body.element p.cpu p.view.hand)
    hand_on None is = is ∙ r.hand
    hand_on (Some body) is = is ∙ (λ i. with_in_hand body.element (cpu_is i) (r.hand i))

    none_on : (found : Option Stored) → MatchOption found (StoleNoneOf t.shape q.cpu (ring cursor t.shape.cpus) x.told) (λ body. Unit {0}) → MatchOption found (FoundNone t.shape p.cpu hash (r.told ++ x.told)) (λ body. Unit {0})
    none_on None none =
        subst (λ (b : Bool). MatchBool b (FoundNoneShared t.shape p.cpu hash (r.told ++ x.told)) (FoundNoneOwn t.shape p.cpu hash (r.told ++ x.told))) (sym can.common) (record {
          inner = r.inner;
          last = r.last;
          stealing = x.told;
          turns_are = ap (λ (l : List Turned). l ++ x.told) r.told_is;
          gave_none = r.gave_none;
          lists = r.lists;
          found_there = r.found_there;
          none_free = r.none_free;
          flushed = r.flushed;
          last_is = r.last_is;
          stole_none = subst (λ (z : ℕ × ℕ). StoleNoneOf t.shape z.0 (ring z.1 t.shape.cpus) x.told) (λ i. (cpu_is i, r.cursor_is i)) none;
        })
    none_on (Some body) none = tt

    pub took_after : Acquired t hash p s found
    took_after =
        let got : Option ℕ = option_map (λ (body : Stored). body.element) found in
        let turns : List TurnAt = map (turn_at t.shape) (r.told ++ x.told) in
        record {
          steps = r.steps ++ x.steps;
          told = r.told ++ x.told;
          lost = x.lost ++ r.lost;
          changed = changed_on r.changed x.changed;
          trace = subst (λ (b : Bool). MatchBool b (TakesFree p.cpu hash got turns ⊎ TakesByRefill t.shape p.cpu hash got turns) (TakesOwn t.shape p.cpu hash got turns)) (sym can.common)
              (inr (record {
                lists = r.lists;
                gave = None;
                refilling = map (turn_at t.shape) r.told;
                stealing = map (turn_at t.shape) x.told;
                turns_are = map-append (turn_at t.shape) r.told x.told;
                refills = r.refills;
                steals = subst (λ (z : ℕ × ℕ). Steals t.shape z.0 hash (ring z.1 t.shape.cpus) got (map (turn_at t.shape) x.told)) (λ i. (cpu_is i, r.cursor_is i)) x.trace;
              }));
          hand = hand_on found x.hand;
          taken = x.taken;
          none = none_on found x.none;
          saw = saw_on_both t.shape p q s r.steps x.steps r.told x.told r.saw x.saw;
        }
