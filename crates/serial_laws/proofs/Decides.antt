-- What the turns of a taking and of a freeing are is determined by their traces, on a map whose CPUs have list sets of their own.
use Rattle.std.proofs.Common.{◌≡◌, ℕ, ◌<◌, false, List, [], ◌∷◌, ap, ◌∙◌, sym, subst}
use Rattle.std.specs.Prelude.{Option}
use Rattle.std.proofs.lemmas.Bool.{cond-false}
use Rattle.map_types.specs.declared.attr.Shape.{Shape}
use Rattle.key_hash.specs.Bucket.{bucket_number}
use Rattle.place_words.specs.Logs.{State, Taking, lies_in, acquired, freeing}
use Rattle.place_words.specs.Takings.{Acquires, Frees}
use Rattle.place_words.specs.Turns.{Turn, TurnAt, turns_of}
use Rattle.place_words.proofs.Settled.{IsSettled}
use Rattle.place_words.proofs.PlainLaws.{second_chosen}
use Rattle.serial_laws.proofs.OwnTakes.{takes_own_is}
use Rattle.serial_laws.proofs.TurnsMade.{AreMade, EachTurn}

-- what was taken, by these turns, is what a run in serial order takes
pub record IsTakenAs (taking : Taking) (got : Option ℕ) (turns : List TurnAt) : Type 0 where
  pub turns_are : turns_of turns ≡ taking.turns
  pub got_is : got ≡ taking.got

-- On this CPU the turns of a taking and of a freeing are those of a run in serial order, where this holds of each of them.
pub record Decides (Fact : State → Turn → Type 0) (shape : Shape) (cpu : ℕ) : Type 0 where
  pub takes : (number key_hash : ℕ) (state : State) (got : Option ℕ) (turns : List TurnAt) → IsSettled shape (lies_in shape state) (bucket_number key_hash shape.buckets) []
      → Acquires shape cpu key_hash got turns → AreMade shape cpu number turns state → EachTurn Fact shape cpu number turns state → IsTakenAs (acquired shape cpu number key_hash state) got turns
  pub frees : (number : ℕ) (state : State) (home e : ℕ) (others : List ℕ) (turns : List TurnAt) → IsSettled shape (lies_in shape state) home (e ∷ others)
      → Frees shape e turns → AreMade shape cpu number turns state → EachTurn Fact shape cpu number turns state → turns_of turns ≡ freeing shape state e ∷ []

pub own_decides : (Fact : State → Turn → Type 0) (shape : Shape) (cpu : ℕ) → shape.common ≡ false → cpu < shape.cpus → Decides Fact shape cpu
unfolding acquired freeing
own_decides Fact shape cpu apart within = record {
  takes = λ number key_hash state got turns settled acquires made each.
      let is = takes_own_is shape cpu number key_hash state apart within settled got turns (second_chosen shape.common _ _ apart acquires) made in
      subst (λ (taking : Taking). IsTakenAs taking got turns) (sym (cond-false shape.common _ _ apart)) (record { turns_are = is.0; got_is = is.1 });
  frees = λ number state home e others turns settled frees made each.
      second_chosen shape.common _ _ apart frees ∙ ap (λ (turn : Turn). turn ∷ []) (sym (cond-false shape.common _ _ apart));
}
