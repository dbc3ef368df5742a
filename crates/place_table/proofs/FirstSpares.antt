-- The spares of a map at first: no element is one twice, each CPU has one on a map of kind HASH, and they are what the
-- first pass has in hand.
use Rattle.std.proofs.Common.{◌≡◌, ℕ, zero, suc, ◌+◌, ◌<◌, ◌≤◌, Bool, true, false, ◌&&◌, cond, eqb, List, [], ◌∷◌, ◌++◌, length, take, get_or, Option, Some, refl, ap, ◌∙◌, sym, subst, ⊎_elim, inl, inr, arith}
use Rattle.std.specs.List.{range_with_len, flat_map, position_from}
use Rattle.std.proofs.lemmas.Bool.{cases_lt, lt-ltb, le-ltb}
use Rattle.std.proofs.lemmas.List.{length-append, length-take-le}
use Rattle.std.proofs.lemmas.Iterator.Adapters.{position_from-zero}
use Rattle.map_types.specs.declared.attr.Shape.{Shape}
use Rattle.map_types.specs.declared.kind.MapKind.{MapKind}
use Rattle.map_types.specs.declared.kind.MapKind.TheVariants.{Hash, PercpuHash, LruHash, LruPercpuHash}
use Rattle.map_types.specs.Shape.{HasBounds}
use Rattle.place_words.specs.declared.owner.Owner.TheVariants as owners
use Rattle.map_types.specs.ElementLists.{times}
use Rattle.map_types.proofs.RowLemmas.{times_append, by_test}
use Rattle.place_words.specs.Openings.{opening_stack, opening_spares, spare_owner, opening_owner}
use Rattle.place_words.specs.Shares.{share_first, share_count, pushed_from}
use Rattle.place_words.specs.OpeningState.{opening}
use Rattle.place_words.proofs.OpeningLemmas.{pushed_in, pushed_out, first_next, first_of_all}
use Rattle.place_words.proofs.StartLemmas.{flat_more}
use Rattle.place_table.specs.Views.{is_in_hand_of, spares_from, first_hand}
use Rattle.place_table.specs.Rules.{is_hand_of}

-- Stacks

-- the stacks of the first n CPUs, one after another
abbrev stacks : Shape → ℕ → List ℕ
stacks shape n = flat_map (opening_stack shape) (range_with_len 0 n)

stacks_more : (shape : Shape) (n : ℕ) → stacks shape (suc n) ≡ stacks shape n ++ opening_stack shape n
stacks_more shape n =
    let more : suc n ≡ n + 1 = omega arith in
    let here : 0 + n ≡ n = omega arith in
    ap (stacks shape) more ∙ (flat_more (opening_stack shape) 0 n ∙ ap (λ (k : ℕ). stacks shape n ++ opening_stack shape k) here)

pub length_pushed : (a n : ℕ) → length (pushed_from a n) ≡ n
length_pushed a zero = refl
length_pushed a (suc n) = ap suc (length_pushed a n)

pub length_stack : (shape : Shape) (cpu : ℕ) → length (opening_stack shape cpu) ≡ share_count shape.elements shape.cpus cpu
unfolding opening_stack
length_stack shape cpu = length_pushed (share_first shape.elements shape.cpus cpu) (share_count shape.elements shape.cpus cpu)

length_stacks : (shape : Shape) (n : ℕ) → length (stacks shape n) ≡ share_first shape.elements shape.cpus n
length_stacks shape zero = omega arith
length_stacks shape (suc n) =
    let rest = length_stacks shape n in
    let here = length_stack shape n in
    let next = first_next shape n in
    ap length (stacks_more shape n) ∙ (length-append (stacks shape n) (opening_stack shape n) ∙ omega arith)

stack_before : (shape : Shape) (e n : ℕ) → e < share_first shape.elements shape.cpus n → times e (opening_stack shape n) ≡ 0
unfolding opening_stack
stack_before shape e n before = pushed_out _ _ e (inl before)

stack_past : (shape : Shape) (e n : ℕ) → share_first shape.elements shape.cpus (suc n) ≤ e → times e (opening_stack shape n) ≡ 0
unfolding opening_stack
stack_past shape e n past = let next = first_next shape n in pushed_out _ _ e (inr (omega arith))

stack_once : (shape : Shape) (e n : ℕ) → times e (opening_stack shape n) ≤ 1
unfolding opening_stack
stack_once shape e n =
    let first = share_first shape.elements shape.cpus n in
    let count = share_count shape.elements shape.cpus n in
    ⊎_elim
    (λ (before : e < first). let none = pushed_out first count e (inl before) in omega arith)
    (λ (from_there : first ≤ e). ⊎_elim
    (λ (inside : e < first + count). let here = pushed_in first count e from_there inside in omega arith)
    (λ (past : first + count ≤ e). let none = pushed_out first count e (inr past) in omega arith)
    (cases_lt e (first + count)))
    (cases_lt e first)

-- no element stands twice in all stacks, and one past their shares in none
record StandOnce (shape : Shape) (e n : ℕ) : Type 0 where
  once : times e (stacks shape n) ≤ 1
  none_past : share_first shape.elements shape.cpus n ≤ e → times e (stacks shape n) ≡ 0

stand_once : (shape : Shape) (e n : ℕ) → StandOnce shape e n
stand_once shape e zero = record { once = omega arith; none_past = λ past. refl }
stand_once shape e (suc n) =
    let rest = stand_once shape e n in
    let next = first_next shape n in
    let sum : times e (stacks shape (suc n)) ≡ times e (stacks shape n) + times e (opening_stack shape n) = ap (times e) (stacks_more shape n) ∙ times_append e (stacks shape n) (opening_stack shape n) in
    let below = rest.once in
    let here = stack_once shape e n in
    record {
      once = ⊎_elim
          (λ (before : e < share_first shape.elements shape.cpus n). let none = stack_before shape e n before in omega arith)
          (λ (past : share_first shape.elements shape.cpus n ≤ e). let none = rest.none_past past in omega arith)
          (cases_lt e (share_first shape.elements shape.cpus n));
      none_past = λ past. let none = rest.none_past (omega arith) in let none_here = stack_past shape e n past in omega arith;
    }

-- Spares

times_take : (e n : ℕ) (xs : List ℕ) → times e (take n xs) ≤ times e xs
times_take e zero xs = omega arith
times_take e (suc n) [] = omega arith
times_take e (suc n) (x ∷ xs) =
    let rest = times_take e n xs in
    by_test x e (λ b. cond b (suc (times e (take n xs))) (times e (take n xs)) ≤ cond b (suc (times e xs)) (times e xs)) (λ _. omega arith) (λ _. rest)

spares_once : (shape : Shape) (e : ℕ) → times e (opening_spares shape) ≤ 1
unfolding opening_spares
spares_once shape e =
    let taken = times_take e shape.cpus (stacks shape shape.cpus) in
    let once = (stand_once shape e shape.cpus).once in
    omega arith

spares_real : (shape : Shape) → HasBounds shape → (e : ℕ) → shape.elements ≤ e → times e (opening_spares shape) ≡ 0
unfolding opening_spares
spares_real shape bounds e past =
    let whole = first_of_all shape bounds.some_cpu in
    let taken = times_take e shape.cpus (stacks shape shape.cpus) in
    let none = (stand_once shape e shape.cpus).none_past (omega arith) in
    omega arith

pub spares_count : (shape : Shape) → HasBounds shape → shape.kind ≡ Hash → length (opening_spares shape) ≡ shape.cpus
unfolding opening_spares
spares_count shape bounds hash =
    let whole = first_of_all shape bounds.some_cpu in
    let count = length_stacks shape shape.cpus in
    let elements = bounds.spares_of_hash hash in
    length-take-le shape.cpus (stacks shape shape.cpus) (omega arith)

-- Hands

not_in_hand : (e c b : ℕ) (xs : List ℕ) → times e xs ≡ 0 → is_in_hand_of e c (spares_from b xs) ≡ false
not_in_hand e c b [] none = refl
not_in_hand e c b (x ∷ xs) none =
    by_test x e (λ t. cond t (suc (times e xs)) (times e xs) ≡ 0 → cond (t && eqb b c) true (is_in_hand_of e c (spares_from (suc b) xs)) ≡ false)
    (λ _ some. absurd (omega arith))
    (λ _ rest. not_in_hand e c (suc b) xs rest)
    none

-- an element that stands once is in the hand of the CPU by its place
hand_by_place : (e c b : ℕ) (xs : List ℕ) → times e xs ≤ 1 → is_in_hand_of e c (spares_from b xs) ≡ is_hand_of c (spare_owner (position_from (λ x. eqb x e) b xs))
hand_by_place e c b [] once = refl
hand_by_place e c b (x ∷ xs) once =
    by_test x e (λ t. cond t (suc (times e xs)) (times e xs) ≤ 1 → cond (t && eqb b c) true (is_in_hand_of e c (spares_from (suc b) xs)) ≡ is_hand_of c (spare_owner (cond t (Some b) (position_from (λ y. eqb y e) (b + 1) xs))))
    (λ _ here. either (eqb b c) (not_in_hand e c (suc b) xs (omega arith)))
    (λ _ rest. let next : suc b ≡ b + 1 = omega arith in hand_by_place e c (suc b) xs rest ∙ ap (λ (k : ℕ). is_hand_of c (spare_owner (position_from (λ y. eqb y e) k xs))) next)
    once
  where
    either : (t : Bool) {rest : Bool} → rest ≡ false → cond t true rest ≡ t
    either true none = refl
    either false none = none

-- the hand of the first pass, by kind
hand_by_owner : (shape : Shape) (kind : MapKind) (e c : ℕ) → is_in_hand_of e c (first_hand kind shape) ≡ is_hand_of c (opening_owner shape kind e)
unfolding opening_owner
hand_by_owner shape Hash e c =
    hand_by_place e c 0 (opening_spares shape) (spares_once shape e) ∙ ap (λ (found : Option ℕ). is_hand_of c (spare_owner found)) (sym (position_from-zero (λ x. eqb x e) (opening_spares shape)))
hand_by_owner shape PercpuHash e c = refl
hand_by_owner shape LruHash e c = refl
hand_by_owner shape LruPercpuHash e c = refl

pub hand_past : (shape : Shape) (kind : MapKind) → HasBounds shape → (e c : ℕ) → shape.elements ≤ e → is_in_hand_of e c (first_hand kind shape) ≡ false
hand_past shape Hash bounds e c past = not_in_hand e c 0 (opening_spares shape) (spares_real shape bounds e past)
hand_past shape PercpuHash bounds e c past = refl
hand_past shape LruHash bounds e c past = refl
hand_past shape LruPercpuHash bounds e c past = refl

-- the first pass has in hand what its CPUs own at first
pub hand_at_first : (shape : Shape) → HasBounds shape → (e c : ℕ) → is_in_hand_of e c (first_hand shape.kind shape) ≡ is_hand_of c ((opening shape).owner e)
unfolding opening
hand_at_first shape bounds e c =
    ⊎_elim
    (λ (real : e < shape.elements). hand_by_owner shape shape.kind e c ∙ sym (ap (λ b. is_hand_of c (cond b (opening_owner shape shape.kind e) owners.Free)) (lt-ltb e shape.elements real)))
    (λ (past : shape.elements ≤ e). hand_past shape shape.kind bounds e c past ∙ sym (ap (λ b. is_hand_of c (cond b (opening_owner shape shape.kind e) owners.Free)) (le-ltb e shape.elements past)))
    (cases_lt e shape.elements)

-- a spare in hand stands at its CPU's place
pub spare_in_hand : (e c b : ℕ) (xs : List ℕ) → is_in_hand_of e c (spares_from b xs) ≡ true → (i : ℕ) × (i < length xs) × (c ≡ b + i) × (get_or xs i 0 ≡ e)
spare_in_hand e c b [] is = absurd cc
spare_in_hand e c b (x ∷ xs) is =
    by_test x e (λ t. cond (t && eqb b c) true (is_in_hand_of e c (spares_from (suc b) xs)) ≡ true → (i : ℕ) × (i < length (x ∷ xs)) × (c ≡ b + i) × (get_or (x ∷ xs) i 0 ≡ e))
    (λ same. by_test b c (λ t. cond t true (is_in_hand_of e c (spares_from (suc b) xs)) ≡ true → (i : ℕ) × (i < length (x ∷ xs)) × (c ≡ b + i) × (get_or (x ∷ xs) i 0 ≡ e))
    (λ here _. (0, omega arith, omega arith, same))
    (λ _ later. further (spare_in_hand e c (suc b) xs later)))
    (λ _ later. further (spare_in_hand e c (suc b) xs later))
    is
  where
    further : (i : ℕ) × (i < length xs) × (c ≡ suc b + i) × (get_or xs i 0 ≡ e) → (i : ℕ) × (i < length (x ∷ xs)) × (c ≡ b + i) × (get_or (x ∷ xs) i 0 ≡ e)
    further found = let within = found.1 in let at = found.2 in (suc found.0, omega arith, omega arith, found.3)

-- and what stands at a CPU's place is in its hand
pub spare_at_place : (i b : ℕ) (xs : List ℕ) → i < length xs → is_in_hand_of (get_or xs i 0) (b + i) (spares_from b xs) ≡ true
spare_at_place i b [] within = absurd (omega arith)
spare_at_place zero b (x ∷ xs) within =
    by_test x x (λ t. cond (t && eqb b (b + 0)) true (is_in_hand_of x (b + 0) (spares_from (suc b) xs)) ≡ true)
    (λ _. by_test b (b + 0) (λ t. cond t true (is_in_hand_of x (b + 0) (spares_from (suc b) xs)) ≡ true) (λ _. refl) (λ other. absurd (other (omega arith))))
    (λ other. absurd (other refl))
spare_at_place (suc i) b (x ∷ xs) within =
    let next : suc b + i ≡ b + suc i = omega arith in
    let later : is_in_hand_of (get_or xs i 0) (b + suc i) (spares_from (suc b) xs) ≡ true = subst (λ (c : ℕ). is_in_hand_of (get_or xs i 0) c (spares_from (suc b) xs) ≡ true) next (spare_at_place i (suc b) xs (omega arith)) in
    either (eqb x (get_or xs i 0) && eqb b (b + suc i)) later
  where
    either : (t : Bool) {rest : Bool} → rest ≡ true → cond t true rest ≡ true
    either true is = refl
    either false is = is
