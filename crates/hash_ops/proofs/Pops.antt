-- A pop looks at freelists in their order.
use Rattle.std.proofs.Common.{◌≡◌, ℕ, ◌+◌, ◌-◌, ◌<◌, ◌≤◌, min, List, [], ◌∷◌, ◌++◌, sym, refl, ap, ◌∙◌, subst, append_assoc, arith, Option, Some, None}
use Rattle.std.specs.List.{range_with_len}
use Rattle.std.proofs.lemmas.List.{map-append}
use Rattle.map_types.specs.Stored.{Stored}
use Rattle.place_words.specs.declared.free_part.FreePart.TheVariants as turns
use Rattle.place_words.specs.Traces.{Turn, ring, found_empty, on_freelist_of}
use Rattle.place_table.specs.Passes.{PassView, TableView}
use Rattle.place_table.specs.Views.{is_among, is_in_hand_of, with_in_hand}
use Rattle.place_table.proofs.Ranges.{range_split, range_at}
use Rattle.hash_ops.specs.Calls.{turn_of}
use Rattle.hash_ops.specs.Free.{IsFresh, PoppedAmong, Popped}
use Rattle.hash_ops.proofs.FreeTurns.{reached_nowhere, reached_on}

fresh_before : (t : TableView) (p q : PassView) (body : Stored) → q.view.hand ≡ p.view.hand → q.view.cpus ≡ p.view.cpus → IsFresh t q body → IsFresh t p body
fresh_before t p q body hand cpus fresh = record {
  real = fresh.real;
  sized = fresh.sized;
  in_no_hand = λ c has. ap (is_in_hand_of body.element c) (sym hand) ∙ fresh.in_no_hand c (ap (is_among c) cpus ∙ has);
}

among_none : (t : TableView) (p : PassView) → PoppedAmong t [] p p None
among_none t p = record { steps = []; reached = reached_nowhere t p; trace = refl; hand = refl; fresh = tt }

found_on : (xs ys : List ℕ) → found_empty (xs ++ ys) ≡ found_empty xs ++ found_empty ys
found_on xs ys = map-append (λ (cpu : ℕ). on_freelist_of cpu turns.FoundEmpty) xs ys

-- those that gave nothing, and then others
among_on : (t : TableView) (xs ys : List ℕ) (p q r : PassView) (found : Option Stored) → PoppedAmong t xs p q None → PoppedAmong t ys q r found → PoppedAmong t (xs ++ ys) p r found
among_on t xs ys p q r None a b = record {
  steps = a.steps ++ b.steps;
  reached = reached_on t p q r a.steps b.steps a.reached b.reached;
  trace = map-append (turn_of t.shape) a.steps b.steps ∙ ((λ i. a.trace i ++ b.trace i) ∙ sym (found_on xs ys));
  hand = b.hand ∙ a.hand;
  fresh = tt;
}
among_on t xs ys p q r (Some body) a b = record {
  steps = a.steps ++ b.steps;
  reached = reached_on t p q r a.steps b.steps a.reached b.reached;
  trace = record {
    passed = xs ++ b.trace.passed;
    giver = b.trace.giver;
    left = b.trace.left;
    cpus_are = ap (λ (l : List ℕ). xs ++ l) b.trace.cpus_are ∙ sym (append_assoc xs b.trace.passed (b.trace.giver ∷ b.trace.left));
    looks_are = map-append (turn_of t.shape) a.steps b.steps ∙ ((λ i. a.trace i ++ b.trace.looks_are i)
        ∙ (sym (append_assoc (found_empty xs) (found_empty b.trace.passed) (on_freelist_of b.trace.giver (turns.Popped body.element) ∷ []))
        ∙ ap (λ (l : List Turn). l ++ on_freelist_of b.trace.giver (turns.Popped body.element) ∷ []) (sym (found_on xs b.trace.passed))));
  };
  hand = b.hand ∙ (λ i. with_in_hand body.element (a.reached.goes.cpu i) (a.hand i));
  fresh = fresh_before t p q body a.hand a.reached.goes.cpus b.fresh;
}

-- one of them gave an element, and others are left
among_here : (t : TableView) (xs ys : List ℕ) (p q : PassView) (body : Stored) → PoppedAmong t xs p q (Some body) → PoppedAmong t (xs ++ ys) p q (Some body)
among_here t xs ys p q body a = record {
  steps = a.steps;
  reached = a.reached;
  trace = record {
    passed = a.trace.passed;
    giver = a.trace.giver;
    left = a.trace.left ++ ys;
    cpus_are = ap (λ (l : List ℕ). l ++ ys) a.trace.cpus_are ∙ append_assoc a.trace.passed (a.trace.giver ∷ a.trace.left) ys;
    looks_are = a.trace.looks_are;
  };
  hand = a.hand;
  fresh = a.fresh;
}

-- in ring order this is a pop
popped_ring : (t : TableView) (p q : PassView) (found : Option Stored) → PoppedAmong t (ring p.cpu t.shape.cpus) p q found → Popped t p q found
popped_ring t p q None a = record { steps = a.steps; reached = a.reached; trace = a.trace; hand = a.hand; fresh = a.fresh }
popped_ring t p q (Some body) a = record {
  steps = a.steps;
  reached = a.reached;
  trace = record { passed = a.trace.passed; giver = a.trace.giver; left = a.trace.left; ring_is = a.trace.cpus_are; turns_are = a.trace.looks_are };
  hand = a.hand;
  fresh = a.fresh;
}

-- the looks so far, where the next is at this CPU
abbrev pub LookedBefore : TableView → ℕ → ℕ → ℕ → PassView → PassView → Type 0
LookedBefore t from cpu to p q = PoppedAmong t (range_with_len from (min cpu to - from)) p q None

pub looks_begin : (t : TableView) (from to : ℕ) (p : PassView) → LookedBefore t from from to p p
looks_begin t from to p =
    let none : 0 ≡ min from to - from = omega arith in
    subst (λ (n : ℕ). PoppedAmong t (range_with_len from n) p p None) none (among_none t p)

pub looks_more : (t : TableView) (from cpu to : ℕ) (p q r : PassView) → from ≤ cpu → cpu < to → LookedBefore t from cpu to p q → PoppedAmong t (cpu ∷ []) q r None → LookedBefore t from (cpu + 1) to p r
looks_more t from cpu to p q r after before looks more =
    let here : min cpu to - from ≡ cpu - from = omega arith in
    let next : cpu - from + 1 ≡ min (cpu + 1) to - from = omega arith in
    let start : from + (cpu - from) ≡ cpu = omega arith in
    let all : range_with_len from (min cpu to - from) ++ cpu ∷ [] ≡ range_with_len from (min (cpu + 1) to - from) =
    ap (λ n. range_with_len from n ++ cpu ∷ []) here ∙ (ap (λ k. range_with_len from (cpu - from) ++ k ∷ []) (sym start) ∙ (sym (range_split from (cpu - from) 1) ∙ ap (range_with_len from) next)) in
    subst (λ (cpus : List ℕ). PoppedAmong t cpus p r None) all (among_on t (range_with_len from (min cpu to - from)) (cpu ∷ []) p q r None looks more)

pub looks_give : (t : TableView) (from cpu to : ℕ) (p q r : PassView) (body : Stored) → from ≤ cpu → cpu < to → LookedBefore t from cpu to p q → PoppedAmong t (cpu ∷ []) q r (Some body) → PoppedAmong t (range_with_len from (to - from)) p r (Some body)
looks_give t from cpu to p q r body after before looks gives =
    let here : min cpu to - from ≡ cpu - from = omega arith in
    let left = range_with_len (cpu + 1) (to - (cpu + 1)) in
    let all : range_with_len from (min cpu to - from) ++ (cpu ∷ [] ++ left) ≡ range_with_len from (to - from) =
    ap (λ n. range_with_len from n ++ cpu ∷ left) here ∙ sym (range_at from cpu to after before) in
    subst (λ (cpus : List ℕ). PoppedAmong t cpus p r (Some body)) all (among_on t (range_with_len from (min cpu to - from)) (cpu ∷ [] ++ left) p q r (Some body) looks (among_here t (cpu ∷ []) left q r body gives))

pub looks_end : (t : TableView) (from cpu to : ℕ) (p q : PassView) → to ≤ cpu → LookedBefore t from cpu to p q → PoppedAmong t (range_with_len from (to - from)) p q None
looks_end t from cpu to p q past looks =
    let all : min cpu to - from ≡ to - from = omega arith in
    subst (λ (n : ℕ). PoppedAmong t (range_with_len from n) p q None) all looks

-- A pop looks from its CPU's freelist on, and then at those before it.

ring_is : (cpu cpus : ℕ) (p : PassView) (t : TableView) → cpu ≡ p.cpu → cpus ≡ t.shape.cpus → range_with_len cpu (cpus - cpu) ++ range_with_len 0 cpu ≡ ring p.cpu t.shape.cpus
ring_is cpu cpus p t mine all = λ i. ring (mine i) (all i)

pub popped_behind : (t : TableView) (cpu cpus : ℕ) (p q : PassView) (body : Stored) → cpu ≡ p.cpu → cpus ≡ t.shape.cpus → PoppedAmong t (range_with_len cpu (cpus - cpu)) p q (Some body) → Popped t p q (Some body)
popped_behind t cpu cpus p q body mine all behind =
    popped_ring t p q (Some body) (subst (λ (l : List ℕ). PoppedAmong t l p q (Some body)) (ring_is cpu cpus p t mine all) (among_here t (range_with_len cpu (cpus - cpu)) (range_with_len 0 cpu) p q body behind))

pub popped_before : (t : TableView) (cpu cpus : ℕ) (p q r : PassView) (found : Option Stored) → cpu ≡ p.cpu → cpus ≡ t.shape.cpus → PoppedAmong t (range_with_len cpu (cpus - cpu)) p q None → PoppedAmong t (range_with_len 0 (cpu - 0)) q r found → Popped t p r found
popped_before t cpu cpus p q r found mine all behind before =
    let count : cpu - 0 ≡ cpu = omega arith in
    popped_ring t p r found (subst (λ (l : List ℕ). PoppedAmong t l p r found) (ring_is cpu cpus p t mine all)
    (among_on t (range_with_len cpu (cpus - cpu)) (range_with_len 0 cpu) p q r found behind (subst (λ (n : ℕ). PoppedAmong t (range_with_len 0 n) q r found) count before)))
