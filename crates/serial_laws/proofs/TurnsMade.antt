-- Turns that one call made after another, from a state of a run in serial order on: each stands at the end of its lock's log, may
-- be made there, and tells the bits of its moment.
use Rattle.std.proofs.Common.{◌≡◌, ℕ, suc, ◌<◌, ◌≤◌, Bool, true, false, cond, ◌||◌, eqb, List, [], ◌∷◌, ◌++◌, map, refl, ap, ◌∙◌, sym, subst, arith}
use Rattle.std.proofs.lemmas.Bool.{ne_eqb}
use Rattle.std.proofs.Math.Path.{fun_ext}
use Rattle.std.specs.Prelude.{IsTrue}
use Rattle.map_types.specs.declared.attr.Shape.{Shape}
use Rattle.map_types.specs.declared.kind.DomainId.{DomainId}
use Rattle.map_types.specs.declared.row.Row.{Row}
use Rattle.map_types.specs.ElementLists.{times}
use Rattle.map_types.specs.Listed.{elements_of}
use Rattle.map_types.proofs.RowLemmas.{by_test, AreOnce}
use Rattle.place_words.specs.declared.visits.Visit.{Visit}
use Rattle.place_words.specs.Choices.{among, without_bits}
use Rattle.place_words.specs.Histories.{Content, Allows, bits_cleared}
use Rattle.place_words.specs.Locks.{is_lock}
use Rattle.place_words.specs.Logs.{State, lies_in, turned, all_turned}
use Rattle.place_words.specs.Rotation.{visited_elements, visits_of}
use Rattle.place_words.specs.Turns.{Turn, TurnAt, turns_of, AreAllowed}
use Rattle.place_words.proofs.BucketLaws.{times_more}
use Rattle.place_words.proofs.ChaseDone.{times_one}
use Rattle.place_words.proofs.PlacedLaws.{lies_after}

-- the bits of so many elements that visits find, one after another, where each clears the bit that it finds
abbrev pub FindBits : ℕ → (ℕ → Bool) → List Visit → Type 0
FindBits n bits [] = Unit {0}
FindBits n bits (visit ∷ visits) = (visit.element < n → visit.bit ≡ bits visit.element) × FindBits n (without_bits (visit.element ∷ []) bits) visits

pub record IsMade (shape : Shape) (cpu : ℕ) (at : TurnAt) (state : State) : Type 0 where
  pub there : IsTrue (is_lock shape at.turn.lock)
  pub earlier : at.earlier ≡ state.logs at.turn.lock
  pub allowed : Allows shape cpu at.turn.part (lies_in shape state at.turn.lock)
  pub bits : FindBits shape.elements state.bits (bits_cleared at.turn.part)

abbrev pub AreMade : Shape → ℕ → ℕ → List TurnAt → State → Type 0
AreMade shape cpu number [] state = Unit {0}
AreMade shape cpu number (at ∷ turns) state = IsMade shape cpu at state × AreMade shape cpu number turns (turned shape cpu number at.turn state)

-- what holds of each turn where it is made
abbrev pub EachTurn : (State → Turn → Type 0) → Shape → ℕ → ℕ → List TurnAt → State → Type 0
EachTurn Fact shape cpu number [] state = Unit {0}
EachTurn Fact shape cpu number (at ∷ turns) state = Fact state at.turn × EachTurn Fact shape cpu number turns (turned shape cpu number at.turn state)

-- nothing more
abbrev pub NothingMore : State → Turn → Type 0
NothingMore state turn = Unit {0}

module _ (shape : Shape) (cpu number : ℕ) where
  pub each_both : (Fact : State → Turn → Type 0) (xs ys : List TurnAt) (state : State) → EachTurn Fact shape cpu number (xs ++ ys) state → EachTurn Fact shape cpu number xs state × EachTurn Fact shape cpu number ys (all_turned shape cpu number (turns_of xs) state)
  each_both Fact [] ys state each = (tt, each)
  each_both Fact (x ∷ xs) ys state each = let rest = each_both Fact xs ys (turned shape cpu number x.turn state) each.1 in ((each.0, rest.0), rest.1)

  pub each_weaker : (Fact Other : State → Turn → Type 0) → ((state : State) (turn : Turn) → Fact state turn → Other state turn) → (turns : List TurnAt) (state : State) → EachTurn Fact shape cpu number turns state → EachTurn Other shape cpu number turns state
  each_weaker Fact Other weaker [] state each = tt
  each_weaker Fact Other weaker (x ∷ xs) state each = (weaker state x.turn each.0, each_weaker Fact Other weaker xs (turned shape cpu number x.turn state) each.1)

  pub nothing_more : (turns : List TurnAt) (state : State) → EachTurn NothingMore shape cpu number turns state
  nothing_more [] state = tt
  nothing_more (x ∷ xs) state = (tt, nothing_more xs (turned shape cpu number x.turn state))

  pub made_both : (xs ys : List TurnAt) (state : State) → AreMade shape cpu number (xs ++ ys) state → AreMade shape cpu number xs state × AreMade shape cpu number ys (all_turned shape cpu number (turns_of xs) state)
  made_both [] ys state made = (tt, made)
  made_both (x ∷ xs) ys state made = let rest = made_both xs ys (turned shape cpu number x.turn state) made.1 in ((made.0, rest.0), rest.1)

  pub made_allowed : (turns : List TurnAt) (state : State) → AreMade shape cpu number turns state → AreAllowed shape cpu (lies_in shape state) (turns_of turns)
  made_allowed [] state made = tt
  made_allowed (x ∷ xs) state made =
      (made.0.allowed, subst (λ (contents : DomainId → Content). AreAllowed shape cpu contents (turns_of xs)) (lies_after shape cpu number x.turn state) (made_allowed xs (turned shape cpu number x.turn state) made.1))

-- Bits that are cleared one after another

pub cleared_both : (e : ℕ) (xs ys : List ℕ) (bit : Bool) → cond (among ys e) false (cond (among xs e) false bit) ≡ cond (among (xs ++ ys) e) false bit
cleared_both e [] ys bit = refl
cleared_both e (x ∷ xs) ys bit = by (eqb x e) (cleared_both e xs ys bit)
  where
    none : (b : Bool) → cond b false false ≡ false
    none true = refl
    none false = refl

    by : (b : Bool) → cond (among ys e) false (cond (among xs e) false bit) ≡ cond (among (xs ++ ys) e) false bit
        → cond (among ys e) false (cond (b || among xs e) false bit) ≡ cond (b || among (xs ++ ys) e) false bit
    by true is = none (among ys e)
    by false is = is

pub without_both : (xs ys : List ℕ) (bits : ℕ → Bool) → without_bits ys (without_bits xs bits) ≡ without_bits (xs ++ ys) bits
without_both xs ys bits = fun_ext (λ e. cleared_both e xs ys (bits e))

pub find_both : (n : ℕ) (bits : ℕ → Bool) (xs ys : List Visit) → FindBits n bits (xs ++ ys) → FindBits n bits xs × FindBits n (without_bits (visited_elements xs) bits) ys
find_both n bits [] ys found = (tt, found)
find_both n bits (x ∷ xs) ys found =
    let rest = find_both n (without_bits (x.element ∷ []) bits) xs ys found.1 in
    ((found.0, rest.0), subst (λ (now : ℕ → Bool). FindBits n now ys) (without_both (x.element ∷ []) (visited_elements xs) bits) rest.1)

-- visits of distinct elements find the bits that there are before all of them

abbrev pub found_of : (ℕ → Bool) → List ℕ → List Visit
found_of bits es = map (λ (e : ℕ). record { element = e; bit = bits e }) es

found_without : (x : ℕ) (bits : ℕ → Bool) (es : List ℕ) → times x es ≡ 0 → found_of (without_bits (x ∷ []) bits) es ≡ found_of bits es
found_without x bits [] none = refl
found_without x bits (e ∷ es) none =
    by_test e x (λ b. cond b (suc (times x es)) (times x es) ≡ 0 → found_of (without_bits (x ∷ []) bits) (e ∷ es) ≡ found_of bits (e ∷ es))
    (λ same is. absurd (omega (arith, is)))
    (λ other is.
    let apart : without_bits (x ∷ []) bits e ≡ bits e = ap (λ b. cond (b || false) false (bits e)) (ne_eqb x e (λ same. other (sym same))) in
    let rest = found_without x bits es is in
    (λ i. record { element = e; bit = apart i } ∷ rest i))
    none

found_are : (n : ℕ) (bits : ℕ → Bool) (visits : List Visit) → ((e : ℕ) → times e (visited_elements visits) ≤ 1) → ((e : ℕ) → 1 ≤ times e (visited_elements visits) → e < n) → FindBits n bits visits
    → visits ≡ found_of bits (visited_elements visits)
found_are n bits [] once real found = refl
found_are n bits (visit ∷ visits) once real found =
    let named = λ (e : ℕ). times_more e visit.element (visited_elements visits) in
    let alone : times visit.element (visited_elements visits) ≡ 0 = omega (arith, once visit.element, named visit.element, times_one visit.element) in
    let rest : visits ≡ found_of (without_bits (visit.element ∷ []) bits) (visited_elements visits) =
    found_are n (without_bits (visit.element ∷ []) bits) visits (λ e. omega (arith, once e, named e)) (λ e some. real e (omega (arith, some, named e))) found.1 in
    let same : visits ≡ found_of bits (visited_elements visits) = rest ∙ found_without visit.element bits (visited_elements visits) alone in
    let bit : visit.bit ≡ bits visit.element = found.0 (real visit.element (omega (arith, named visit.element, times_one visit.element))) in
    (λ i. record { element = visit.element; bit = bit i } ∷ same i)

pub found_rows : (bits : ℕ → Bool) (rows : List Row) → found_of bits (elements_of rows) ≡ visits_of bits rows
found_rows bits [] = refl
found_rows bits (row ∷ rows) = ap (λ (visits : List Visit). record { element = row.element; bit = bits row.element } ∷ visits) (found_rows bits rows)

pub visits_found : (n : ℕ) (bits : ℕ → Bool) (rows : List Row) (visits : List Visit) → AreOnce rows → ((e : ℕ) → 1 ≤ times e (elements_of rows) → e < n) → visited_elements visits ≡ elements_of rows → FindBits n bits visits
    → visits ≡ visits_of bits rows
visits_found n bits rows visits once real named found =
    found_are n bits visits (λ e. subst (λ (es : List ℕ). times e es ≤ 1) (sym named) (once e)) (λ e some. real e (subst (λ (es : List ℕ). 1 ≤ times e es) named some)) found
    ∙ ap (found_of bits) named ∙ found_rows bits rows
