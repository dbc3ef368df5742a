-- Histories and strands that have one turn more.
use Rattle.std.proofs.Common.{◌≡◌, ◌≢◌, ℕ, suc, ◌+◌, cond, Bool, true, false, List, [], ◌∷◌, ◌++◌, length, sym, refl, ap, ◌∙◌, subst, arith}
use Rattle.map_types.specs.declared.kind.DomainId.{DomainId}
use Rattle.map_types.proofs.RowLemmas.{by_test}
use Rattle.place_words.specs.declared.history.Entry.{Entry}
use Rattle.place_words.specs.declared.history.StrandStep.{StrandStep}
use Rattle.place_words.specs.Locks.{is_same_lock}
use Rattle.place_words.specs.Strands.{places_on}
use Rattle.place_table.specs.declared.view.View.{View}
use Rattle.place_table.specs.declared.view.WordStep.{WordStep}
use Rattle.place_table.specs.declared.view.Turned.{Turned}
use Rattle.place_table.specs.Views.{turned, place_of}
use Rattle.place_table.specs.Rules.{Tagged, entries, turns_on, turns_of, indexes, Touch, touches_of}
use Rattle.place_table.proofs.Worlds.{by_bool}

pub append_nil : {A : Type 0} (l : List A) → l ++ [] ≡ l
append_nil [] = refl
append_nil (x ∷ xs) = ap (λ l. x ∷ l) (append_nil xs)

pub entries_more : (log : List Tagged) (x : Tagged) → entries (log ++ x ∷ []) ≡ entries log ++ x.1 ∷ []
entries_more [] x = refl
entries_more (y ∷ ys) x = ap (λ l. y.1 ∷ l) (entries_more ys x)

pub entries_length : (log : List Tagged) → length (entries log) ≡ length log
entries_length [] = refl
entries_length (y ∷ ys) = ap suc (entries_length ys)

-- the turns of a strand
pub turns_of_same : (t i : ℕ) (log : List Tagged) (e : Entry) → turns_of t i (log ++ (t, e) ∷ []) ≡ turns_of t i log ++ (length log + i, e) ∷ []
turns_of_same t i [] e =
    by_test t t (λ b. cond {A = List (ℕ × Entry)} b ((i, e) ∷ []) [] ≡ (0 + i, e) ∷ []) (λ _. ap (λ (n : ℕ). (n, e) ∷ []) (omega arith)) (λ n. absurd (n refl))
turns_of_same t i (x ∷ xs) e =
    let rest = turns_of_same t (suc i) xs e ∙ ap (λ (n : ℕ). turns_of t (suc i) xs ++ (n, e) ∷ []) (let g : length xs + suc i ≡ suc (length xs) + i = omega arith in g) in
    by_test x.0 t (λ b. cond b ((i, x.1) ∷ turns_of t (suc i) (xs ++ (t, e) ∷ [])) (turns_of t (suc i) (xs ++ (t, e) ∷ [])) ≡ cond b ((i, x.1) ∷ turns_of t (suc i) xs) (turns_of t (suc i) xs) ++ (suc (length xs) + i, e) ∷ [])
    (λ _. ap (λ l. (i, x.1) ∷ l) rest) (λ _. rest)

pub turns_of_other : (t u i : ℕ) (log : List Tagged) (e : Entry) → u ≢ t → turns_of t i (log ++ (u, e) ∷ []) ≡ turns_of t i log
turns_of_other t u i [] e n =
    by_test u t (λ b. cond {A = List (ℕ × Entry)} b ((i, e) ∷ []) [] ≡ []) (λ h. absurd (n h)) (λ _. refl)
turns_of_other t u i (x ∷ xs) e n =
    let rest = turns_of_other t u (suc i) xs e n in
    by_test x.0 t (λ b. cond b ((i, x.1) ∷ turns_of t (suc i) (xs ++ (u, e) ∷ [])) (turns_of t (suc i) (xs ++ (u, e) ∷ [])) ≡ cond b ((i, x.1) ∷ turns_of t (suc i) xs) (turns_of t (suc i) xs))
    (λ _. ap (λ l. (i, x.1) ∷ l) rest) (λ _. rest)

-- the steps on one lock
pub turns_on_same : (k : ℕ) (before : List Entry) (e : Entry) (v : View) (steps : List Turned) (s : Turned) → s ≡ turned k before e v → turns_on k (steps ++ s ∷ []) ≡ turns_on k steps ++ (length before, e) ∷ []
turns_on_same k before e v [] s is =
    subst (λ (z : Turned). turns_on k (z ∷ []) ≡ (length before, e) ∷ []) (sym is) (by_test k k (λ b. cond {A = List (ℕ × Entry)} b ((length before, e) ∷ []) [] ≡ (length before, e) ∷ []) (λ _. refl) (λ n. absurd (n refl)))
turns_on_same k before e v (x ∷ xs) s is =
    let rest = turns_on_same k before e v xs s is in
    by_test x.lock k (λ b. cond b ((place_of x, x.entry) ∷ turns_on k (xs ++ s ∷ [])) (turns_on k (xs ++ s ∷ [])) ≡ cond b ((place_of x, x.entry) ∷ turns_on k xs) (turns_on k xs) ++ (length before, e) ∷ [])
    (λ _. ap (λ l. (place_of x, x.entry) ∷ l) rest) (λ _. rest)

pub turns_on_other : (m : ℕ) (steps : List Turned) (s : Turned) → s.lock ≢ m → turns_on m (steps ++ s ∷ []) ≡ turns_on m steps
turns_on_other m [] s other =
    by_test s.lock m (λ b. cond {A = List (ℕ × Entry)} b ((place_of s, s.entry) ∷ []) [] ≡ []) (λ h. absurd (other h)) (λ _. refl)
turns_on_other m (x ∷ xs) s other =
    let rest = turns_on_other m xs s other in
    by_test x.lock m (λ b. cond b ((place_of x, x.entry) ∷ turns_on m (xs ++ s ∷ [])) (turns_on m (xs ++ s ∷ [])) ≡ cond b ((place_of x, x.entry) ∷ turns_on m xs) (turns_on m xs))
    (λ _. ap (λ l. (place_of x, x.entry) ∷ l) rest) (λ _. rest)

-- the steps of a strand on words
pub touches_of_same : (t : ℕ) (xs : List Touch) (x : WordStep) → touches_of t (xs ++ (t, x) ∷ []) ≡ touches_of t xs ++ x ∷ []
touches_of_same t [] x = by_test t t (λ b. cond {A = List WordStep} b (x ∷ []) [] ≡ x ∷ []) (λ _. refl) (λ n. absurd (n refl))
touches_of_same t (y ∷ ys) x =
    let rest = touches_of_same t ys x in
    by_test y.0 t (λ b. cond b (y.1 ∷ touches_of t (ys ++ (t, x) ∷ [])) (touches_of t (ys ++ (t, x) ∷ [])) ≡ cond b (y.1 ∷ touches_of t ys) (touches_of t ys) ++ x ∷ [])
    (λ _. ap (λ l. y.1 ∷ l) rest) (λ _. rest)

pub touches_of_other : (t u : ℕ) (xs : List Touch) (x : WordStep) → u ≢ t → touches_of t (xs ++ (u, x) ∷ []) ≡ touches_of t xs
touches_of_other t u [] x n = by_test u t (λ b. cond {A = List WordStep} b (x ∷ []) [] ≡ []) (λ h. absurd (n h)) (λ _. refl)
touches_of_other t u (y ∷ ys) x n =
    let rest = touches_of_other t u ys x n in
    by_test y.0 t (λ b. cond b (y.1 ∷ touches_of t (ys ++ (u, x) ∷ [])) (touches_of t (ys ++ (u, x) ∷ [])) ≡ cond b (y.1 ∷ touches_of t ys) (touches_of t ys))
    (λ _. ap (λ l. y.1 ∷ l) rest) (λ _. rest)

-- the recorded steps on one lock
pub places_on_same : (lock : DomainId) (kept : List StrandStep) (s : StrandStep) → is_same_lock s.lock lock ≡ true → places_on lock (kept ++ s ∷ []) ≡ places_on lock kept ++ s.index ∷ []
places_on_same lock [] s same =
    subst (λ (b : Bool). cond {A = List ℕ} b (s.index ∷ []) [] ≡ s.index ∷ []) (sym same) refl
places_on_same lock (x ∷ xs) s same =
    let rest = places_on_same lock xs s same in
    by_bool (is_same_lock x.lock lock) (λ b. cond b (x.index ∷ places_on lock (xs ++ s ∷ [])) (places_on lock (xs ++ s ∷ [])) ≡ cond b (x.index ∷ places_on lock xs) (places_on lock xs) ++ s.index ∷ [])
    (λ _. ap (λ l. x.index ∷ l) rest) (λ _. rest)

pub places_on_other : (lock : DomainId) (kept : List StrandStep) (s : StrandStep) → is_same_lock s.lock lock ≡ false → places_on lock (kept ++ s ∷ []) ≡ places_on lock kept
places_on_other lock [] s other =
    subst (λ (b : Bool). cond {A = List ℕ} b (s.index ∷ []) [] ≡ []) (sym other) refl
places_on_other lock (x ∷ xs) s other =
    let rest = places_on_other lock xs s other in
    by_bool (is_same_lock x.lock lock) (λ b. cond b (x.index ∷ places_on lock (xs ++ s ∷ [])) (places_on lock (xs ++ s ∷ [])) ≡ cond b (x.index ∷ places_on lock xs) (places_on lock xs))
    (λ _. ap (λ l. x.index ∷ l) rest) (λ _. rest)

pub indexes_more : (l m : List (ℕ × Entry)) → indexes (l ++ m) ≡ indexes l ++ indexes m
indexes_more [] m = refl
indexes_more (x ∷ xs) m = ap (λ l. x.0 ∷ l) (indexes_more xs m)
