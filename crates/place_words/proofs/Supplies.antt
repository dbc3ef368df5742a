-- What is asked of a map that evicts for its calls on one key: that in serial order it gives elements out and takes them back by
-- its rules, each turn at its place, and is settled before and after.
use Rattle.std.proofs.Common.{◌≡◌, ℕ, zero, suc, Bool, true, false, cond, ◌&&◌, eqb, List, [], ◌∷◌, ◌++◌, refl, ap, ◌∙◌, sym, subst}
use Rattle.std.specs.Prelude.{MatchBool, Option, None, Some, option_to_list}
use Rattle.map_types.specs.declared.attr.Shape.{Shape}
use Rattle.map_types.specs.declared.kind.DomainId.{DomainId}
use Rattle.key_hash.specs.Bucket.{bucket_number}
use Rattle.place_words.specs.declared.history.Part.{Part}
use Rattle.place_words.specs.Histories.{Content, Allows}
use Rattle.place_words.specs.Logs.{State, Taking, lies_in, all_turned, placed, acquired, freeing}
use Rattle.place_words.specs.RowMoves.{rows_of}
use Rattle.place_words.specs.Sets.{row_with}
use Rattle.place_words.specs.Takings.{listed_rows, rows_brought, probes_of, Chase, IsChased, Acquires, Frees}
use Rattle.place_words.specs.Turns.{Turn, on_lock, after_turn, after_turns, AreAllowed}
use Rattle.place_words.proofs.PlacedContents.{lies_after_all}
use Rattle.place_words.proofs.PlacedLaws.{placed-append, placed_turns}
use Rattle.place_words.proofs.Settled.{is_of, held, IsSettled}

pub first_of_two : (b : Bool) (A B : Type 0) → b ≡ true → A → MatchBool b A B
first_of_two true A B is it = it
first_of_two false A B is it = absurd cc

-- an element was taken for a key of this hash, or none
pub record IsTaken (shape : Shape) (cpu number key_hash : ℕ) (state : State) (taking : Taking) : Type 0 where
  pub takes : Acquires shape cpu key_hash taking.got (placed shape cpu number taking.turns state)
  pub allowed : AreAllowed shape cpu (lies_in shape state) taking.turns
  pub settled : IsSettled shape (after_turns shape cpu (lies_in shape state) taking.turns) (bucket_number key_hash shape.buckets) (option_to_list taking.got)

-- an element was freed, and these are still in hand
pub record IsFreed (shape : Shape) (cpu number : ℕ) (state : State) (home e : ℕ) (hand : List ℕ) (turn : Turn) : Type 0 where
  pub frees : Frees shape e (placed shape cpu number (turn ∷ []) state)
  pub allowed : Allows shape cpu turn.part (lies_in shape state turn.lock)
  pub settled : IsSettled shape (after_turn shape cpu (lies_in shape state) turn) home hand

-- On this CPU elements are given out and taken back by the rules.
pub record Supplies (shape : Shape) (cpu : ℕ) : Type 0 where
  pub takes : (number key_hash : ℕ) (state : State) → IsSettled shape (lies_in shape state) (bucket_number key_hash shape.buckets) [] → IsTaken shape cpu number key_hash state (acquired shape cpu number key_hash state)
  pub frees : (number : ℕ) (state : State) (home e : ℕ) (hand : List ℕ) → IsSettled shape (lies_in shape state) home (e ∷ hand) → IsFreed shape cpu number state home e hand (freeing shape state e)

-- the row of what is given out counts for what is in hand
pub row_held : (shape : Shape) (hash : ℕ) (got : Option ℕ) (e bucket : ℕ) → rows_of e (is_of shape bucket) (row_with hash got) ≡ held (bucket_number hash shape.buckets) (option_to_list got) e bucket
row_held shape hash None e bucket = none (eqb (bucket_number hash shape.buckets) bucket)
  where
    none : (b : Bool) → zero ≡ cond b 0 0
    none true = refl
    none false = refl
row_held shape hash (Some x) e bucket = both (eqb x e) (eqb (bucket_number hash shape.buckets) bucket)
  where
    both : (a b : Bool) → cond (a && b) (suc zero) zero ≡ cond b (cond a (suc zero) zero) zero
    both true true = refl
    both true false = refl
    both false true = refl
    both false false = refl

-- a turn of a list lock with the turns of its probes, at their places
pub is_chased : (shape : Shape) (cpu number : ℕ) (state : State) (lock : DomainId) (part : Part) (turns : List Turn) → after_turns shape cpu (lies_in shape state) turns lock ≡ lies_in shape state lock
    → Chase shape (rows_brought part ++ listed_rows (lies_in shape state lock)) (probes_of part) turns → IsChased shape lock part (placed shape cpu number (turns ++ on_lock lock part ∷ []) state)
is_chased shape cpu number state lock part turns same chase = record {
  probing = placed shape cpu number turns state;
  last = record { turn = on_lock lock part; earlier = (all_turned shape cpu number turns state).logs lock };
  turns_are = placed-append shape cpu number turns (on_lock lock part ∷ []) state;
  last_is = refl;
  chase = subst (λ (l : List Turn). Chase shape (rows_brought part ++ listed_rows (lies_in shape (all_turned shape cpu number turns state) lock)) (probes_of part) l) (sym (placed_turns shape cpu number turns state))
      (subst (λ (content : Content). Chase shape (rows_brought part ++ listed_rows content) (probes_of part) turns)
      (sym (ap (λ (contents : DomainId → Content). contents lock) (lies_after_all shape cpu number turns state) ∙ same)) chase);
}
