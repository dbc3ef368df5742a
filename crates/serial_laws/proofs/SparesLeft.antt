-- The spares after turns of a CPU in serial order: its own is the one that they leave, and those of the others stay.
use Rattle.std.proofs.Common.{◌≡◌, ◌≢◌, ℕ, Bool, true, false, cond, eqb, List, [], ◌∷◌, refl, ap, ◌∙◌}
use Rattle.std.specs.Prelude.{Option}
use Rattle.std.proofs.lemmas.Bool.{cond-true, cond-false, ne_eqb}
use Rattle.map_types.specs.declared.attr.Shape.{Shape}
use Rattle.map_types.specs.ElementLists.{put}
use Rattle.map_types.specs.Kind.{is_lru}
use Rattle.place_words.specs.Logs.{State, turned, all_turned}
use Rattle.place_words.specs.PlainTraces.{spare_after_part, spare_after}
use Rattle.place_words.specs.Turns.{Turn, TurnAt, turns_of}
use Rattle.place_words.specs.Walks.{spare_left}
use Rattle.place_words.proofs.PlacedLaws.{spares_after}
use Rattle.serial_laws.proofs.HistoryTurns.{by_bool}

module _ (shape : Shape) (cpu number : ℕ) where
  one_elsewhere : (turn : Turn) (state : State) (c : ℕ) → c ≢ cpu → (turned shape cpu number turn state).spares c ≡ state.spares c
  unfolding put
  one_elsewhere turn state c other = by (is_lru shape.kind)
    where
      by : (b : Bool) → (cond b state.spares (put state.spares cpu (spare_after_part (state.spares cpu) turn.part))) c ≡ state.spares c
      by true = refl
      by false = cond-false (eqb c cpu) _ _ (ne_eqb c cpu other)

  pub spares_elsewhere : (turns : List Turn) (state : State) (c : ℕ) → c ≢ cpu → (all_turned shape cpu number turns state).spares c ≡ state.spares c
  spares_elsewhere [] state c other = refl
  spares_elsewhere (turn ∷ turns) state c other = spares_elsewhere turns (turned shape cpu number turn state) c other ∙ one_elsewhere turn state c other

  -- a map that evicts has no spares, and its turns leave what there is
  evicting_keeps : is_lru shape.kind ≡ true → (turns : List Turn) (state : State) → (all_turned shape cpu number turns state).spares ≡ state.spares
  evicting_keeps lru [] state = refl
  evicting_keeps lru (turn ∷ turns) state = evicting_keeps lru turns (turned shape cpu number turn state) ∙ cond-true (is_lru shape.kind) _ _ lru

  pub own_spare : (turns : List TurnAt) (state : State) → (all_turned shape cpu number (turns_of turns) state).spares cpu ≡ spare_left shape (state.spares cpu) turns
  own_spare turns state =
      by_bool (is_lru shape.kind) (λ b. (all_turned shape cpu number (turns_of turns) state).spares cpu ≡ cond b (state.spares cpu) (spare_after (state.spares cpu) (turns_of turns)))
      (λ lru. ap (λ (spares : ℕ → Option ℕ). spares cpu) (evicting_keeps lru (turns_of turns) state))
      (λ plain. spares_after shape cpu number (turns_of turns) state plain)
