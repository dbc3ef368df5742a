-- What a closed table leaves of turns: those that are recorded, and what is made of each lock's.
use Rattle.std.proofs.Common.{◌≡◌, ℕ, zero, suc, ◌+◌, ◌<◌, ◌≤◌, Bool, true, false, not, cond, eqb, List, [], ◌∷◌, ◌++◌, length, map, Option, refl, ap, sym, ◌∙◌, inl, inr, arith, append-nil, append_assoc}
use Rattle.std.specs.Prelude.{IsTrue, All, filter, option_map}
use Rattle.std.specs.List.{range_with_len}
use Rattle.std.proofs.lemmas.List.Elements.{All-head, All-tail}
use Rattle.map_types.specs.declared.attr.Shape.{Shape}
use Rattle.map_types.specs.declared.kind.DomainId.{DomainId}
use Rattle.map_types.specs.Stored.{Stored}
use Rattle.map_types.proofs.RowLemmas.{by_test}
use Rattle.place_words.specs.declared.history.Entry.{Entry}
use Rattle.place_words.specs.declared.history.StrandStep.{StrandStep}
use Rattle.place_words.specs.Locks.{is_lock, is_same_lock, lock_named, lock_count}
use Rattle.place_words.specs.Strands.{places_on}
use Rattle.place_table.specs.declared.view.Turned.{Turned}
use Rattle.place_table.specs.Passes.{IsKeptOf}
use Rattle.place_table.specs.Rules.{turns_on, indexes}
use Rattle.place_table.specs.Views.{place_of, kept_step}
use Rattle.map_report.proofs.LogTickets.{same_number}
use Rattle.map_report.specs.Serial.{has_spares, spare_count}
use Rattle.run_records.specs.ByLogs.{IsOfMap}

-- Recorded steps

places_more : (lock : DomainId) (before : List StrandStep) (step : StrandStep) → length (places_on lock (before ++ step ∷ [])) ≡ length (places_on lock before) + cond (is_same_lock step.lock lock) 1 0
places_more lock [] step = by (is_same_lock step.lock lock)
  where
    by : (b : Bool) → length (cond b (step.index ∷ []) []) ≡ 0 + cond b 1 0
    by true = omega arith
    by false = omega arith
places_more lock (first ∷ before) step = by (is_same_lock first.lock lock) (places_more lock before step)
  where
    by : (b : Bool) → length (places_on lock (before ++ step ∷ [])) ≡ length (places_on lock before) + cond (is_same_lock step.lock lock) 1 0
        → length (cond b (first.index ∷ places_on lock (before ++ step ∷ [])) (places_on lock (before ++ step ∷ []))) ≡ length (cond b (first.index ∷ places_on lock before) (places_on lock before)) + cond (is_same_lock step.lock lock) 1 0
    by true rest = omega arith
    by false rest = rest

turns_more : (k : ℕ) (step : Turned) (steps : List Turned) → length (turns_on k (step ∷ steps)) ≡ cond (eqb step.lock k) 1 0 + length (turns_on k steps)
turns_more k step steps = by (eqb step.lock k)
  where
    by : (b : Bool) → length (cond b ((place_of step, step.entry) ∷ turns_on k steps) (turns_on k steps)) ≡ cond b 1 0 + length (turns_on k steps)
    by true = omega arith
    by false = omega arith

counts_one : (k : ℕ) → cond {A = ℕ} (eqb k k) 1 0 ≡ 1
counts_one k = by_test k k (λ b. cond {A = ℕ} b 1 0 ≡ 1) (λ _. refl) (λ other. absurd (other refl))

-- one step more that is recorded, on each lock
kept_more : (shape : Shape) (k : ℕ) (step : Turned) (before : List StrandStep)
    → length (places_on (lock_named shape k) (before ++ kept_step shape step.lock (place_of step) ∷ [])) ≡ length (places_on (lock_named shape k) before) + cond (eqb step.lock k) 1 0
kept_more shape k step before =
    places_more (lock_named shape k) before (kept_step shape step.lock (place_of step))
    ∙ ap (λ (b : Bool). length (places_on (lock_named shape k) before) + cond b 1 0) (same_number shape step.lock k)

-- on no lock more is recorded than happened
pub kept_few : (shape : Shape) (k : ℕ) (steps : List Turned) (before after : List StrandStep) → IsKeptOf shape steps before after
    → length (places_on (lock_named shape k) after) ≤ length (places_on (lock_named shape k) before) + length (turns_on k steps)
kept_few shape k [] before after kept = let same = ap (λ (l : List StrandStep). length (places_on (lock_named shape k) l)) kept in omega arith
kept_few shape k (step ∷ steps) before after (inl dropped) =
    let rest = kept_few shape k steps before after dropped in
    let turns = turns_more k step steps in
    omega arith
kept_few shape k (step ∷ steps) before after (inr more) =
    let rest = kept_few shape k steps (before ++ kept_step shape step.lock (place_of step) ∷ []) after more in
    let turns = turns_more k step steps in
    let places = kept_more shape k step before in
    omega arith

-- so where on each lock as much is recorded, every step is
pub kept_all : (shape : Shape) (steps : List Turned) (before after : List StrandStep) → IsKeptOf shape steps before after → All (IsOfMap shape) steps
    → ((k : ℕ) → k < lock_count shape → IsTrue (is_lock shape (lock_named shape k)) → length (places_on (lock_named shape k) before) + length (turns_on k steps) ≤ length (places_on (lock_named shape k) after))
    → after ≡ before ++ map (λ (step : Turned). kept_step shape step.lock (place_of step)) steps
kept_all shape [] before after kept real enough = kept ∙ sym (append-nil before)
kept_all shape (step ∷ steps) before after (inl dropped) real enough =
    let here = All-head (IsOfMap shape) step steps real in
    let few = kept_few shape step.lock steps before after dropped in
    let many = enough step.lock here.0 here.1 in
    let turns = turns_more step.lock step steps in
    let one = counts_one step.lock in
    absurd (omega arith)
kept_all shape (step ∷ steps) before after (inr more) real enough =
    let first : StrandStep = kept_step shape step.lock (place_of step) in
    kept_all shape steps (before ++ first ∷ []) after more (All-tail (IsOfMap shape) step steps real)
    (λ k below there.
    let many = enough k below there in
    let turns = turns_more k step steps in
    let places = kept_more shape k step before in
    omega arith)
    ∙ append_assoc before (first ∷ []) (map (λ (step : Turned). kept_step shape step.lock (place_of step)) steps)

-- Histories

-- what is made of each of them is the same
pub made_of_all : {A : Type 0} (has lost : ℕ → Bool) (f g : ℕ → A) (a n : ℕ) → ((k : ℕ) → a ≤ k → k < a + n → has k ≡ true → (lost k ≡ false) × (f k ≡ g k))
    → map f (filter (λ k. not (lost k)) (filter has (range_with_len a n))) ≡ map g (filter has (range_with_len a n))
made_of_all has lost f g a zero each = refl
made_of_all has lost f g a (suc n) each = by (has a) refl (made_of_all has lost f g (a + 1) n (λ k low high there. each k (omega arith) (omega arith) there))
  where
    rest : List ℕ
    rest = filter has (range_with_len (a + 1) n)

    by : (b : Bool) → has a ≡ b → map f (filter (λ k. not (lost k)) rest) ≡ map g rest → map f (filter (λ k. not (lost k)) (cond b (a ∷ rest) rest)) ≡ map g (cond b (a ∷ rest) rest)
    by true is same =
        let here = each a (omega arith) (omega arith) is in
        ap (λ b. map f (cond (not b) (a ∷ filter (λ k. not (lost k)) rest) (filter (λ k. not (lost k)) rest))) here.0 ∙ (λ i. here.1 i ∷ same i)
    by false is same = same

-- Lists at the end

abbrev pub number_in : Option Stored → Option ℕ
number_in spare = option_map (λ (body : Stored). body.element) spare

pub few_spares : (shape : Shape) → spare_count shape ≤ shape.cpus
few_spares shape = by (has_spares shape.kind)
  where
    by : (b : Bool) → cond b shape.cpus 0 ≤ shape.cpus
    by true = omega arith
    by false = omega arith

pub length_indexes : (turns : List (ℕ × Entry)) → length (indexes turns) ≡ length turns
length_indexes [] = refl
length_indexes (turn ∷ turns) = ap suc (length_indexes turns)
