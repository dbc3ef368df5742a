-- From records to what is asked of the turns of a race: which turns enclose one, and that each may be made where it stands.
use Rattle.std.proofs.Common.{◌≡◌, ℕ, Bool, true, false, ◌&&◌, cond, eqb, ltb, List, [], ◌∷◌, ◌++◌, map, filter, refl, ap, ◌∙◌, sym, subst, ⊎_elim}
use Rattle.std.specs.Prelude.{IsTrue}
use Rattle.std.proofs.lemmas.Bool.{cases_Bool, cond-true, cond-false, eqb-true, and_parts}
use Rattle.map_types.specs.declared.attr.Shape.{Shape}
use Rattle.map_types.specs.declared.kind.DomainId.{DomainId}
use Rattle.place_words.specs.Histories.{Content, content_after, Allows, AllAllowed}
use Rattle.place_words.specs.Locks.{rank_of, is_lock, is_same_lock}
use Rattle.place_words.specs.Turns.{after_turn}
use Rattle.place_words.proofs.LockLemmas.{same_lock}
use Rattle.place_words.specs.Interleaving.{Drawn, turn_of, is_inner, encloses, enclosing, entry_of, drawn_on}

abbrev pub of_call : ℕ → ℕ → Drawn → Bool
of_call cpu call y = eqb y.entry.cpu cpu && eqb y.entry.call call

and_false : (a : Bool) → (a && false) ≡ false
and_false true = refl
and_false false = refl

-- What encloses a turn is found among the turns of its call, whatever other CPUs did between.
pub enclosing_own : (cpu call : ℕ) (later : List Drawn) (x : Drawn) → x.entry.cpu ≡ cpu → x.entry.call ≡ call → enclosing x later ≡ enclosing x (filter (of_call cpu call) later)
unfolding enclosing
enclosing_own cpu call [] x cpu_is call_is = refl
enclosing_own cpu call (y ∷ later) x cpu_is call_is =
    ⊎_elim
    (λ (mine : of_call cpu call y ≡ true).
    let parts = and_parts (eqb y.entry.cpu cpu) (eqb y.entry.call call) mine in
    ap (λ (l : List Drawn). cond (encloses y x) (l ++ y ∷ []) (enclosing x later)) (enclosing_own cpu call later y (eqb-true y.entry.cpu cpu parts.0) (eqb-true y.entry.call call parts.1))
    ∙ ap (λ (l : List Drawn). cond (encloses y x) (enclosing y (filter (of_call cpu call) later) ++ y ∷ []) l) (enclosing_own cpu call later x cpu_is call_is)
    ∙ sym (ap (enclosing x) (cond-true (of_call cpu call y) (y ∷ filter (of_call cpu call) later) (filter (of_call cpu call) later) mine)))
    (λ (other : of_call cpu call y ≡ false).
    let none : encloses y x ≡ false =
    ap (λ (c : ℕ). (is_inner x.entry.part && ltb (rank_of y.lock) (rank_of x.lock)) && (eqb y.entry.cpu c && eqb y.entry.call x.entry.call)) cpu_is
    ∙ ap (λ (c : ℕ). (is_inner x.entry.part && ltb (rank_of y.lock) (rank_of x.lock)) && (eqb y.entry.cpu cpu && eqb y.entry.call c)) call_is
    ∙ ap (λ (b : Bool). (is_inner x.entry.part && ltb (rank_of y.lock) (rank_of x.lock)) && b) other
    ∙ and_false (is_inner x.entry.part && ltb (rank_of y.lock) (rank_of x.lock)) in
    cond-false (encloses y x) (enclosing y later ++ y ∷ []) (enclosing x later) none
    ∙ enclosing_own cpu call later x cpu_is call_is
    ∙ sym (ap (enclosing x) (cond-false (of_call cpu call y) (y ∷ filter (of_call cpu call) later) (filter (of_call cpu call) later) other)))
    (cases_Bool (of_call cpu call y))

-- Each turn may be made where it stands, contents carried along; and each is of a lock of the map.
abbrev pub AllowAlong : Shape → (DomainId → Content) → List Drawn → Type 0
AllowAlong shape contents [] = Unit {0}
AllowAlong shape contents (x ∷ later) = Allows shape x.entry.cpu x.entry.part (contents x.lock) × AllowAlong shape (after_turn shape x.entry.cpu contents (turn_of x)) later

abbrev pub AreOnLocks : Shape → List Drawn → Type 0
AreOnLocks shape [] = Unit {0}
AreOnLocks shape (x ∷ later) = IsTrue (is_lock shape x.lock) × AreOnLocks shape later

-- Where the history of each lock replays by the kernel's rules, so do the turns in the order of their tickets.
pub legal_along : (shape : Shape) (turns : List Drawn) (contents : DomainId → Content) → AreOnLocks shape turns → ((lock : DomainId) → IsTrue (is_lock shape lock) → AllAllowed shape (contents lock) (map entry_of (drawn_on lock turns)))
    → AllowAlong shape contents turns
unfolding AllAllowed
legal_along shape [] contents on legal = tt
legal_along shape (x ∷ later) contents on legal =
    let here = subst (λ (l : List Drawn). AllAllowed shape (contents x.lock) (map entry_of l)) (cond-true (is_same_lock x.lock x.lock) (x ∷ drawn_on x.lock later) (drawn_on x.lock later) (same_lock x.lock)) (legal x.lock on.0) in
    (here.0, legal_along shape later (after_turn shape x.entry.cpu contents (turn_of x)) on.1 (λ lock is. by lock (is_same_lock x.lock lock) (legal lock is)))
  where
    by : (lock : DomainId) (b : Bool) → AllAllowed shape (contents lock) (map entry_of (cond b (x ∷ drawn_on lock later) (drawn_on lock later)))
        → AllAllowed shape (cond b (content_after shape x.entry.cpu x.entry.part (contents lock)) (contents lock)) (map entry_of (drawn_on lock later))
    by lock true may = may.1
    by lock false may = may
