-- On a map that evicts turns are a call's exactly where the reader of calls reads so many as there are.
use Rattle.std.proofs.Common.{◌≡◌, ◌≢◌, ℕ, true, eqb, Bool, List, length, take, Option, None, Some, ap, sym, ◌∙◌, subst, inl, inr, arith}
use Rattle.std.specs.Prelude.{MatchBool}
use Rattle.std.proofs.lemmas.Bool.{cases_eq, eq-eqb, ne_eqb}
use Rattle.std.proofs.lemmas.List.{take_all}
use Rattle.std.proofs.lemmas.Option.{same_Some}
use Rattle.map_types.specs.declared.attr.Shape.{Shape}
use Rattle.map_types.specs.declared.call.Verb.{Verb}
use Rattle.map_types.specs.declared.reply.Reply.{Reply}
use Rattle.map_types.specs.Kind.{is_lru}
use Rattle.place_words.specs.Traces.{IsTrace}
use Rattle.place_words.specs.Turns.{TurnAt}
use Rattle.evicting_traces.specs.Laws.{read_count}
use Rattle.evicting_traces.specs.Reading.{AreRefillsLegal, all_seen}
use Rattle.evicting_traces.proofs.Counting.{counts_turns}

module _ (shape : Shape) (evicts : is_lru shape.kind ≡ true) (cpu : ℕ) (verb : Verb) (reply : Reply) (turns : List TurnAt) where
  abbrev Is : Type 0
  Is = IsTrace shape cpu None verb turns reply

  abbrev read : Option (ℕ × Reply)
  read = read_count shape cpu verb (all_seen shape turns)

  whole : take (length turns) turns ≡ turns
  whole = take_all (length turns) turns (omega (arith))

  to_read : Is → read ≡ Some (length turns, reply)
  to_read is =
      (counts_turns shape cpu None verb evicts turns (length turns) reply).1 (omega (arith), subst (λ (ts : List TurnAt). IsTrace shape cpu None verb ts reply) (sym whole) is)

  pub none_read : ((n : ℕ) → read ≢ Some (n, reply)) → Is → ⊥
  none_read none is = none (length turns) (to_read is)

  pub some_read : AreRefillsLegal shape cpu turns → (count : ℕ) → read ≡ Some (count, reply) → MatchBool (eqb count (length turns)) Is (Is → ⊥)
  some_read legal count found = elim (cases_eq count (length turns)) [
    | inl same ↦ subst (λ (b : Bool). MatchBool b Is (Is → ⊥)) (sym (eq-eqb count (length turns) same))
        (subst (λ (ts : List TurnAt). IsTrace shape cpu None verb ts reply) (ap (λ (n : ℕ). take n turns) same ∙ whole)
        ((counts_turns shape cpu None verb evicts turns count reply).0 legal found).1)
    | inr other ↦ subst (λ (b : Bool). MatchBool b Is (Is → ⊥)) (sym (ne_eqb count (length turns) other))
        (λ is. let one : Some (count, reply) ≡ Some (length turns, reply) = sym found ∙ to_read is in other (ap (λ (p : ℕ × Reply). p.0) (same_Some (count, reply) (length turns, reply) one)))
  ]
