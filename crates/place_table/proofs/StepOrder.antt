-- Steps on words in the order in which they were made, as their numbers fix it.
use Rattle.std.proofs.Common.{◌≡◌, ℕ, suc, ◌+◌, ◌<◌, ◌≤◌, ◌⊎◌, inl, inr, ⊎_elim, cond, List, [], ◌∷◌, ◌++◌, length, sym, refl, ap, ◌∙◌, subst, arith}
use Rattle.std.specs.Prelude.{MatchBool}
use Rattle.place_table.specs.declared.view.WordStep.{WordStep}
use Rattle.place_table.specs.Rules.{World, Touch, AreInTime, touches_of, IsSeen, LeadTo, IsOfStrand, AreOfStrands}
use Rattle.place_table.proofs.StrandNumbers.{cons_nil}
use Rattle.map_types.proofs.RowLemmas.{by_test}

abbrev pub Has : WordStep → List WordStep → Type 0
Has x [] = ⊥
Has x (y ∷ ys) = (y ≡ x) ⊎ Has x ys

-- made by this strand
abbrev pub HasBy : ℕ → WordStep → List Touch → Type 0
HasBy t x [] = ⊥
HasBy t x (y ∷ ys) = ((y.0 ≡ t) × (y.1 ≡ x)) ⊎ HasBy t x ys

-- whoever made them
abbrev pub steps_of : List Touch → List WordStep
steps_of [] = []
steps_of (x ∷ xs) = x.1 ∷ steps_of xs

pub heads : {A : Type 0} {x y : A} {xs ys : List A} → x ∷ xs ≡ y ∷ ys → x ≡ y
heads {A} {x} {y} {xs} {ys} e = cc

pub tails : {A : Type 0} {x y : A} {xs ys : List A} → x ∷ xs ≡ y ∷ ys → xs ≡ ys
tails {A} {x} {y} {xs} {ys} e = cc

-- Steps among others

pub has_last : (l : List WordStep) (x : WordStep) → Has x (l ++ x ∷ [])
has_last [] x = inl refl
has_last (y ∷ ys) x = inr (has_last ys x)

pub has_first : (l : List WordStep) (x y : WordStep) → Has y l → Has y (l ++ x ∷ [])
has_first [] x y has = absurd has
has_first (z ∷ zs) x y has = ⊎_elim (λ (same : z ≡ y). inl same) (λ (later : Has y zs). inr (has_first zs x y later)) has

pub has_split : (l : List WordStep) (x y : WordStep) → Has y (l ++ x ∷ []) → Has y l ⊎ (y ≡ x)
has_split [] x y has = ⊎_elim (λ (same : x ≡ y). inr (sym same)) (λ (none : ⊥). absurd none) has
has_split (z ∷ zs) x y has =
    ⊎_elim
    (λ (same : z ≡ y). inl (inl same))
    (λ (later : Has y (zs ++ x ∷ [])). ⊎_elim (λ (before : Has y zs). inl (inr before)) (λ (last : y ≡ x). inr last) (has_split zs x y later))
    has

pub touches_by : (t : ℕ) (xs : List Touch) (x : WordStep) → Has x (touches_of t xs) → HasBy t x xs
touches_by t [] x has = absurd has
touches_by t (y ∷ ys) x has =
    by_test y.0 t (λ b. Has x (cond {A = List WordStep} b (y.1 ∷ touches_of t ys) (touches_of t ys)) → HasBy t x (y ∷ ys))
    (λ same h. ⊎_elim (λ (is : y.1 ≡ x). inl (same, is)) (λ (later : Has x (touches_of t ys)). inr (touches_by t ys x later)) h)
    (λ _ h. inr (touches_by t ys x h)) has

pub by_touches : (t : ℕ) (xs : List Touch) (x : WordStep) → HasBy t x xs → Has x (touches_of t xs)
by_touches t [] x has = absurd has
by_touches t (y ∷ ys) x has =
    by_test y.0 t (λ b. Has x (cond {A = List WordStep} b (y.1 ∷ touches_of t ys) (touches_of t ys)))
    (λ _. ⊎_elim (λ (here : (y.0 ≡ t) × (y.1 ≡ x)). inl here.1) (λ (later : HasBy t x ys). inr (by_touches t ys x later)) has)
    (λ other. ⊎_elim (λ (here : (y.0 ≡ t) × (y.1 ≡ x)). absurd (other here.0)) (λ (later : HasBy t x ys). by_touches t ys x later) has)

pub by_steps : (t : ℕ) (xs : List Touch) (x : WordStep) → HasBy t x xs → Has x (steps_of xs)
by_steps t [] x has = absurd has
by_steps t (y ∷ ys) x has = ⊎_elim (λ (here : (y.0 ≡ t) × (y.1 ≡ x)). inl here.1) (λ (later : HasBy t x ys). inr (by_steps t ys x later)) has

pub some_by : (xs : List Touch) (x : WordStep) → Has x (steps_of xs) → (t : ℕ) × HasBy t x xs
some_by [] x has = absurd has
some_by (y ∷ ys) x has =
    ⊎_elim (λ (here : y.1 ≡ x). (y.0, inl (refl, here))) (λ (later : Has x (steps_of ys)). let found = some_by ys x later in (found.0, inr found.1)) has

pub strand_by : (w : World) (n t : ℕ) (xs : List Touch) (x : WordStep) → AreOfStrands w n xs → HasBy t x xs → IsOfStrand w n t
strand_by w n t [] x are has = absurd has
strand_by w n t (y ∷ ys) x are has =
    ⊎_elim (λ (here : (y.0 ≡ t) × (y.1 ≡ x)). subst (IsOfStrand w n) here.0 are.0) (λ (later : HasBy t x ys). strand_by w n t ys x are.1 later) has

-- Their numbers

pub low : (n : ℕ) (xs : List Touch) (y : WordStep) → AreInTime n xs → Has y (steps_of xs) → n ≤ y.at
low n [] y are has = absurd has
low n (x ∷ xs) y are has =
    ⊎_elim
    (λ (here : x.1 ≡ y). let same = ap (λ (z : WordStep). z.at) here in omega (arith, same, are.0))
    (λ (later : Has y (steps_of xs)). let above = low (suc n) xs y are.1 later in omega (arith, above))
    has

-- a step is of one strand
pub one_strand_by : (n : ℕ) (xs : List Touch) (t u : ℕ) (x : WordStep) → AreInTime n xs → HasBy t x xs → HasBy u x xs → t ≡ u
one_strand_by n [] t u x are a b = absurd a
one_strand_by n (z ∷ zs) t u x are a b =
    ⊎_elim
    (λ (here : (z.0 ≡ t) × (z.1 ≡ x)). ⊎_elim
    (λ (too : (z.0 ≡ u) × (z.1 ≡ x)). sym here.0 ∙ too.0)
    (λ (later : HasBy u x zs). absurd (twice here.1 u later))
    b)
    (λ (later : HasBy t x zs). ⊎_elim
    (λ (here : (z.0 ≡ u) × (z.1 ≡ x)). absurd (twice here.1 t later))
    (λ (too : HasBy u x zs). one_strand_by (suc n) zs t u x are.1 later too)
    b)
    a
  where
    twice : z.1 ≡ x → (v : ℕ) → HasBy v x zs → ⊥
    twice here v later =
        let same = ap (λ (y : WordStep). y.at) here in
        let above = low (suc n) zs x are.1 (by_steps v zs x later) in
        omega (arith, same, above, are.0)

-- those of one strand ascend
abbrev pub Ascend : ℕ → List WordStep → Type 0
Ascend n [] = Unit {0}
Ascend n (x ∷ xs) = (n ≤ x.at) × Ascend (suc x.at) xs

pub ascends : (t n m : ℕ) (xs : List Touch) → n ≤ m → AreInTime m xs → Ascend n (touches_of t xs)
ascends t n m [] below are = tt
ascends t n m (x ∷ xs) below are =
    by_test x.0 t (λ b. Ascend n (cond {A = List WordStep} b (x.1 ∷ touches_of t xs) (touches_of t xs)))
    (λ _. (omega (arith, below, are.0), ascends t (suc x.1.at) (suc m) xs (omega (arith, are.0)) are.1)) (λ _. ascends t n (suc m) xs (omega (arith, below)) are.1)

last_above : (n : ℕ) (l : List WordStep) (x : WordStep) → Ascend n (l ++ x ∷ []) → n ≤ x.at
last_above n [] x asc = asc.0
last_above n (y ∷ ys) x asc = let above = last_above (suc y.at) ys x asc.1 in omega (arith, above, asc.0)

pub before_last : (n : ℕ) (l : List WordStep) (x y : WordStep) → Ascend n (l ++ x ∷ []) → Has y l → y.at < x.at
before_last n [] x y asc has = absurd has
before_last n (z ∷ zs) x y asc has =
    ⊎_elim
    (λ (here : z ≡ y). let same = ap (λ (s : WordStep). s.at) here in let above = last_above (suc z.at) zs x asc.1 in omega (arith, same, above))
    (λ (later : Has y zs). before_last (suc z.at) zs x y asc.1 later)
    has

-- One step more

none_more : (n : ℕ) (ys : List Touch) (x : WordStep) → AreInTime (suc n) ys → ((y : WordStep) → Has y (steps_of ys) → y ≡ x) → x.at ≡ n → steps_of ys ≡ []
none_more n [] x are only number = refl
none_more n (y ∷ ys) x are only number = let same = ap (λ (z : WordStep). z.at) (only y.1 (inl refl)) in absurd (omega (arith, same, number, are.0))

-- Where all steps of the one order are among those of another, and these are the same but for one more, this is the last.
pub order_is : (n : ℕ) (xs ys : List Touch) (x : WordStep) → AreInTime n xs → AreInTime n ys → ((y : WordStep) → Has y (steps_of xs) → Has y (steps_of ys)) → ((y : WordStep) → Has y (steps_of ys) → Has y (steps_of xs) ⊎ (y ≡ x))
    → Has x (steps_of ys) → (Has x (steps_of xs) → ⊥) → steps_of ys ≡ steps_of xs ++ x ∷ []
order_is n [] [] x earlier later on back there none = absurd there
order_is n [] (q ∷ qs) x earlier later on back there none =
    let only : (y : WordStep) → Has y (steps_of (q ∷ qs)) → y ≡ x = λ y has. ⊎_elim (λ (nowhere : ⊥). absurd nowhere) (λ (same : y ≡ x). same) (back y has) in
    let first : q.1 ≡ x = only q.1 (inl refl) in
    let rest = none_more n qs x later.1 (λ y has. only y (inr has)) (ap (λ (z : WordStep). z.at) (sym first) ∙ later.0) in
    (λ i. first i ∷ rest i)
order_is n (p ∷ ps) [] x earlier later on back there none = absurd (on p.1 (inl refl))
order_is n (p ∷ ps) (q ∷ qs) x earlier later on back there none =
    let same : q.1 ≡ p.1 = ⊎_elim
    (λ (is : q.1 ≡ p.1). is)
    (λ (further : Has p.1 (steps_of qs)). let above = low (suc n) qs p.1 later.1 further in absurd (omega (arith, above, earlier.0)))
    (on p.1 (inl refl)) in
    let rest = order_is (suc n) ps qs x earlier.1 later.1
    (λ y has. ⊎_elim
    (λ (is : q.1 ≡ y). let number = ap (λ (z : WordStep). z.at) is in let above = low (suc n) ps y earlier.1 has in absurd (omega (arith, above, number, later.0)))
    (λ (further : Has y (steps_of qs)). further)
    (on y (inr has)))
    (λ y has. ⊎_elim
    (λ (old : Has y (steps_of (p ∷ ps))). ⊎_elim
    (λ (is : p.1 ≡ y). let number = ap (λ (z : WordStep). z.at) is in let above = low (suc n) qs y later.1 has in absurd (omega (arith, above, number, earlier.0)))
    (λ (further : Has y (steps_of ps)). inl further)
    old)
    (λ (is : y ≡ x). inr is)
    (back y (inr has)))
    (⊎_elim (λ (is : q.1 ≡ x). absurd (none (inl (sym same ∙ is)))) (λ (further : Has x (steps_of qs)). further) there)
    (λ has. none (inr has)) in
    (λ i. same i ∷ rest i)

-- its number is how many came before it
pub number_is : (n : ℕ) (xs ys : List Touch) (x : WordStep) → AreInTime n ys → steps_of ys ≡ steps_of xs ++ x ∷ [] → x.at ≡ length xs + n
number_is n [] [] x are is = absurd (cons_nil (sym is))
number_is n [] (q ∷ qs) x are is = let same = ap (λ (z : WordStep). z.at) (sym (heads is)) in omega (arith, same, are.0)
number_is n (p ∷ ps) [] x are is = absurd (cons_nil (sym is))
number_is n (p ∷ ps) (q ∷ qs) x are is = let rest = number_is (suc n) ps qs x are.1 (tails is) in omega (arith, rest)

-- it saw what they lead its word to, and what it left is what all lead it to
none_lead : (i from to : ℕ) (ys : List Touch) → steps_of ys ≡ [] → LeadTo i from ys to → from ≡ to
none_lead i from to [] is lead = lead
none_lead i from to (y ∷ ys) is lead = absurd (cons_nil is)

pub lead_last : (i from now then : ℕ) (xs ys : List Touch) (x : WordStep) → x.word ≡ i → steps_of ys ≡ steps_of xs ++ x ∷ [] → LeadTo i from xs now → LeadTo i from ys then → IsSeen x.seen now × (then ≡ x.left)
lead_last i from now then [] [] x on is lead lead_then = absurd (cons_nil (sym is))
lead_last i from now then [] (q ∷ qs) x on is lead lead_then =
    let first : q.1 ≡ x = heads is in
    by_test x.word i (λ b. MatchBool b (IsSeen x.seen from × LeadTo i x.left qs then) (LeadTo i from qs then) → IsSeen x.seen now × (then ≡ x.left))
    (λ _ l. (subst (IsSeen x.seen) lead l.0, sym (none_lead i x.left then qs (tails is) l.1))) (λ off. absurd (off on))
    (subst (λ (z : WordStep). LeadTo i from ((q.0, z) ∷ qs) then) first lead_then)
lead_last i from now then (p ∷ ps) [] x on is lead lead_then = absurd (cons_nil (sym is))
lead_last i from now then (p ∷ ps) (q ∷ qs) x on is lead lead_then =
    by_test p.1.word i
    (λ b. MatchBool b (IsSeen p.1.seen from × LeadTo i p.1.left ps now) (LeadTo i from ps now) → MatchBool b (IsSeen p.1.seen from × LeadTo i p.1.left qs then) (LeadTo i from qs then) → IsSeen x.seen now × (then ≡ x.left))
    (λ _ a b. lead_last i p.1.left now then ps qs x on (tails is) a.1 b.1) (λ _ a b. lead_last i from now then ps qs x on (tails is) a b)
    lead (subst (λ (z : WordStep). LeadTo i from ((q.0, z) ∷ qs) then) (heads is) lead_then)
