-- Marks of free elements.
use Rattle.std.proofs.Common.{◌≡◌, ◌≢◌, ℕ, zero, suc, ◌<◌, ◌≤◌, ◌+◌, Bool, true, false, List, [], ◌∷◌, take, drop, length, get_or, set as set_at, length-set, refl, ap, ◌∙◌, sym, subst, arith}
use Rattle.std.specs.Prelude.{replicate}
use Rattle.std.proofs.lemmas.List.{take_more, take_all, take-append-drop, get_or-set_other, length-replicate}
use Rattle.std.proofs.lemmas.Grind.{get_or-set_at}
use Rattle.map_types.specs.ElementLists.{times, IsIn, one}
use Rattle.map_types.proofs.RowLemmas.{by_test, times_append}
use Rattle.place_words.specs.Sets.{ListSet}
use Rattle.row_list.proofs.ElementLemmas.{times_elsewhere, times_here}
use Rattle.lru_lists.specs.Sets.{SetView}
use Rattle.set_replay.specs.GlobalTurns.{AreMarked, AreMarksOf}
use Rattle.set_replay.specs.Replayed.{Opens}
use Rattle.set_replay.proofs.SetRoom.{is_real}

none_at : (n e : ℕ) → get_or (replicate n false) e false ≡ false
none_at zero e = refl
none_at (suc n) zero = refl
none_at (suc n) (suc e) = none_at n e

pub no_marks : (elements : ℕ) (marks : List Bool) → marks ≡ replicate elements false → AreMarksOf [] elements marks
no_marks elements marks are = record {
  long = ap (λ (l : List Bool). length l) are ∙ length-replicate elements false;
  each = λ e. sym (ap one (ap (λ (l : List Bool). get_or l e false) are ∙ none_at elements e));
}

pub marks_within : (elements : ℕ) (free : List ℕ) (i : ℕ) (marked : List ℕ) (marks : List Bool) → ((e : ℕ) → IsIn e free → e < elements) → AreMarksOf marked elements marks → i < length free → get_or free i 0 < length marks
marks_within elements free i marked marks below are within = subst (λ (n : ℕ). get_or free i 0 < n) (sym are.long) (is_real elements free i (get_or free i 0) below within refl)

pub marks_more : (elements : ℕ) (free : List ℕ) (i : ℕ) (marks : List Bool) → ((e : ℕ) → times e free ≤ 1) → ((e : ℕ) → IsIn e free → e < elements) → AreMarksOf (take i free) elements marks → i < length free
    → AreMarksOf (take (i + 1) free) elements (set_at marks (get_or free i 0) true)
marks_more elements free i marks once below are within = record {
  long = length-set marks e true ∙ are.long;
  each = λ x. by_test x e (λ b. times x (take (i + 1) free) ≡ one (get_or (set_at marks e true) x false)) (here x) (there x);
}
  where
    e : ℕ
    e = get_or free i 0

    split : (x : ℕ) → times x (take (i + 1) free) ≡ times x (take i free) + times x (e ∷ [])
    split x = ap (times x) (take_more free i 0 within) ∙ times_append x (take i free) (e ∷ [])

    few : times e (take (i + 1) free) ≤ 1
    few =
        let whole : times e free ≡ times e (take (i + 1) free) + times e (drop (i + 1) free) = ap (times e) (sym (take-append-drop (i + 1) free)) ∙ times_append e (take (i + 1) free) (drop (i + 1) free) in
        let most = once e in
        omega (arith, whole, most)

    one_there : times e (take (i + 1) free) ≡ 1
    one_there = let now = split e in let first = times_here e e [] refl in omega (arith, few, now, first)

    here : (x : ℕ) → x ≡ e → times x (take (i + 1) free) ≡ one (get_or (set_at marks e true) x false)
    here x same = ap (λ (n : ℕ). times n (take (i + 1) free)) same ∙ one_there ∙ ap one (sym (get_or-set_at marks e x true false same (marks_within elements free i (take i free) marks below are within)))

    there : (x : ℕ) → x ≢ e → times x (take (i + 1) free) ≡ one (get_or (set_at marks e true) x false)
    there x other =
        (let now = split x in let none = times_elsewhere e x [] (λ same. other (sym same)) in omega (arith, now, none))
        ∙ (are.each x ∙ ap one (sym (get_or-set_other marks e x true false other)))

pub all_marks : (elements : ℕ) (free : List ℕ) (i : ℕ) (marks : List Bool) → AreMarksOf (take i free) elements marks → length free ≤ i → AreMarksOf free elements marks
all_marks elements free i marks are past = subst (λ (l : List ℕ). AreMarksOf l elements marks) (take_all i free past) are

pub opening_marked : (elements : ℕ) (free : List ℕ) (set : SetView) (marks : List Bool) → Opens elements free set → AreMarksOf free elements marks → AreMarked marks set
opening_marked elements free set marks opens are = record {
  long = are.long ∙ sym opens.bound;
  each = λ e. ap (λ (z : ListSet). times e z.free) opens.is ∙ are.each e;
}
