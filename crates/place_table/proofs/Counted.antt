-- How many turns the lock of local lists had had when a home was read as these.
use Rattle.std.proofs.Common.{◌≡◌, ℕ, zero, suc, ◌≤◌, eqb, cond, List, [], ◌∷◌, ◌++◌, length, take, length-append, sym, refl, ap, ◌∙◌, subst, arith, Option}
use Rattle.std.specs.Prelude.{◌&&◌}
use Rattle.std.proofs.Math.Seq.{take-length}
use Rattle.map_types.specs.declared.attr.Shape.{Shape}
use Rattle.map_types.specs.declared.kind.DomainId.TheVariants.{Local, Global, CpuLru, Bucket, Freelist}
use Rattle.map_types.specs.ElementLists.{times}
use Rattle.place_words.specs.declared.home.Home.{Home}
use Rattle.place_words.specs.declared.home.Home.TheVariants as homes
use Rattle.place_words.specs.Locks.{lock_number}
use Rattle.place_words.specs.State.{rows}
use Rattle.place_table.specs.declared.view.Hold.{Hold}
use Rattle.place_table.specs.declared.view.HomeIn.{HomeIn}
use Rattle.place_table.specs.declared.view.HomeRead.{HomeRead}
use Rattle.place_table.specs.declared.view.InHand.{InHand}
use Rattle.place_table.specs.declared.view.WordStep.{WordStep}
use Rattle.place_table.specs.Views.{home_then}
use Rattle.place_table.specs.Rules.{Tagged, Touch, entries, givers, strands_of, IsCounted, AreReadingsCounted, IsReading}
use Rattle.place_table.proofs.StepOrder.{steps_of, heads, tails}
use Rattle.place_table.proofs.StrandNumbers.{cons_nil}
use Rattle.place_table.proofs.Worlds.{by_bool, homes_stay}

taken_more : (n : ℕ) (xs : List Touch) (x : Touch) → n ≤ length xs → take n (xs ++ x ∷ []) ≡ take n xs
taken_more zero xs x few = refl
taken_more (suc n) [] x few = absurd (omega (arith, few))
taken_more (suc n) (y ∷ ys) x few = ap (λ (l : List Touch). y ∷ l) (taken_more n ys x (omega (arith, few)))

gives_few : (k n : ℕ) (xs : List Touch) → length (givers k (take n xs)) ≤ length (givers k xs)
gives_few k zero xs = omega arith
gives_few k (suc n) [] = omega arith
gives_few k (suc n) (y ∷ ys) =
    let rest = gives_few k n ys in
    by_bool (eqb y.1.word k && eqb y.1.left 0) (λ b. length (cond {A = List ℕ} b (y.0 ∷ givers k (take n ys)) (givers k (take n ys))) ≤ length (cond {A = List ℕ} b (y.0 ∷ givers k ys) (givers k ys)))
    (λ _. omega (arith, rest)) (λ _. rest)

pub strands_long : (log : List Tagged) → length (strands_of log) ≡ length (entries log)
strands_long [] = refl
strands_long (x ∷ xs) = ap suc (strands_long xs)

-- A step more changes no count
pub counted_more : (shape : Shape) (touches : List Touch) (x : Touch) (at n : ℕ) (read : Home) → IsCounted shape touches at n read → IsCounted shape (touches ++ x ∷ []) at n read
counted_more shape touches x at n homes.Unlisted is = tt
counted_more shape touches x at n (homes.In (Local c)) is =
    (let more = length-append touches (x ∷ []) in omega (arith, is.0, more), is.1 ∙ ap (λ (l : List Touch). length (givers (lock_number shape (Local c)) l)) (sym (taken_more at touches x is.0)))
counted_more shape touches x at n (homes.In Global) is = tt
counted_more shape touches x at n (homes.In (CpuLru c)) is = tt
counted_more shape touches x at n (homes.In (Bucket b)) is = tt
counted_more shape touches x at n (homes.In (Freelist c)) is = tt
counted_more shape touches x at n (homes.Hand c) is = tt

pub reading_more : (shape : Shape) (holder : ℕ → Option ℕ) (log : ℕ → List Tagged) (home : ℕ → Home) (touches : List Touch) (x : Touch) (hand : List InHand) (e c : ℕ) (read : HomeIn) → IsReading shape holder log home touches hand e c read → IsReading shape holder log home (touches ++ x ∷ []) hand e c read
reading_more shape holder log home touches x hand e c read is = record {
  real = is.real;
  in_hand = is.in_hand;
  counted = counted_more shape touches x read.at read.turns read.home is.counted;
  still = is.still;
}

pub homes_more : (shape : Shape) (touches : List Touch) (x : Touch) (homes_read : List HomeRead) → AreReadingsCounted shape touches homes_read → AreReadingsCounted shape (touches ++ x ∷ []) homes_read
homes_more shape touches x homes_read are = homes_stay shape touches (touches ++ x ∷ []) (λ read. counted_more shape touches x read.at read.turns read.home) homes_read are

-- one look more
pub homes_with : (shape : Shape) (touches : List Touch) (homes_read : List HomeRead) (x : HomeRead) → AreReadingsCounted shape touches homes_read → IsCounted shape touches x.at x.turns x.home → AreReadingsCounted shape touches (homes_read ++ x ∷ [])
homes_with shape touches [] x are is = (is, tt)
homes_with shape touches (y ∷ ys) x are is = (are.0, homes_with shape touches ys x are.1 is)

pub home_last : (shape : Shape) (touches : List Touch) (homes_read : List HomeRead) (x : HomeRead) → AreReadingsCounted shape touches (homes_read ++ x ∷ []) → IsCounted shape touches x.at x.turns x.home
home_last shape touches [] x are = are.0
home_last shape touches (y ∷ ys) x are = home_last shape touches ys x are.1

-- nor does a take
pub counted_then : (shape : Shape) (h : Hold) (e : ℕ) (touches : List Touch) (at n : ℕ) (old : Home) → IsCounted shape touches at n old → IsCounted shape touches at n (home_then shape h e old)
counted_then shape h e touches at n homes.Unlisted is = tt
counted_then shape h e touches at n (homes.In (Local c)) is =
    by_bool (eqb (lock_number shape (Local c)) h.lock && eqb (times e (rows h.now)) 0) (λ t. IsCounted shape touches at n (cond t (homes.In Global) (homes.In (Local c)))) (λ _. tt) (λ _. is)
counted_then shape h e touches at n (homes.In Global) is = tt
counted_then shape h e touches at n (homes.In (CpuLru c)) is = tt
counted_then shape h e touches at n (homes.In (Bucket b)) is = tt
counted_then shape h e touches at n (homes.In (Freelist c)) is = tt
counted_then shape h e touches at n (homes.Hand c) is = tt

-- so many turns are there
pub counted_within : (shape : Shape) (touches : List Touch) (at n k c : ℕ) (read : Home) (log : List Tagged) → givers k touches ≡ strands_of log → IsCounted shape touches at n read → read ≡ homes.In (Local c) → lock_number shape (Local c) ≡ k → n ≤ length (entries log)
counted_within shape touches at n k c read log gave counted read_is at_k =
    let is : IsCounted shape touches at n (homes.In (Local c)) = subst (IsCounted shape touches at n) read_is counted in
    let few = gives_few (lock_number shape (Local c)) at touches in
    let all : length (givers (lock_number shape (Local c)) touches) ≡ length (entries log) = ap (λ (z : ℕ). length (givers z touches)) at_k ∙ (ap length gave ∙ strands_long log) in
    let counted_is = is.1 in omega (arith, counted_is, few, all)

-- what a look tells that is made now
pub turns_told : Shape → List Touch → Home → ℕ
turns_told shape touches (homes.In (Local c)) = length (givers (lock_number shape (Local c)) touches)
turns_told shape touches home = 0

pub counted_now : (shape : Shape) (touches : List Touch) (home : Home) → IsCounted shape touches (length touches) (turns_told shape touches home) home
unfolding turns_told
counted_now shape touches homes.Unlisted = tt
counted_now shape touches (homes.In (Local c)) = (omega arith, ap (λ (l : List Touch). length (givers (lock_number shape (Local c)) l)) (sym (take-length touches)))
counted_now shape touches (homes.In Global) = tt
counted_now shape touches (homes.In (CpuLru c)) = tt
counted_now shape touches (homes.In (Bucket b)) = tt
counted_now shape touches (homes.In (Freelist c)) = tt
counted_now shape touches (homes.Hand c) = tt

-- Where other steps are the same with one more, a lock was given back as often before that one.
pub gives_before : (k : ℕ) (xs ys : List Touch) (x : WordStep) → steps_of ys ≡ steps_of xs ++ x ∷ [] → length (givers k (take (length xs) ys)) ≡ length (givers k xs)
gives_before k [] ys x is = refl
gives_before k (p ∷ ps) [] x is = absurd (cons_nil (sym is))
gives_before k (p ∷ ps) (q ∷ qs) x is =
    let rest = gives_before k ps qs x (tails is) in
    subst (λ (z : WordStep). length (cond {A = List ℕ} (eqb z.word k && eqb z.left 0) (q.0 ∷ givers k (take (length ps) qs)) (givers k (take (length ps) qs))) ≡ length (cond {A = List ℕ} (eqb p.1.word k && eqb p.1.left 0) (p.0 ∷ givers k ps) (givers k ps))) (sym (heads is))
    (by_bool (eqb p.1.word k && eqb p.1.left 0) (λ b. length (cond {A = List ℕ} b (q.0 ∷ givers k (take (length ps) qs)) (givers k (take (length ps) qs))) ≡ length (cond {A = List ℕ} b (p.0 ∷ givers k ps) (givers k ps))) (λ _. ap suc rest) (λ _. rest))
