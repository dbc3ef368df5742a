-- Which turns enclose one, by the innermost of them.
use Rattle.std.proofs.Common.{◌≡◌, ℕ, ◌+◌, ◌<◌, ◌≤◌, All, Bool, cond, None, Some, List, [], ◌∷◌, ◌++◌, length, get_or, drop, refl, ap, ◌∙◌, sym, subst, arith}
use Rattle.std.specs.List.{range_with_len}
use Rattle.std.proofs.lemmas.List.{get_or-drop, get_or-map, length-drop}
use Rattle.std.proofs.lemmas.List.FromFn.{get_or-range_with_len}
use Rattle.std.proofs.lemmas.List.Elements.{All-nil, All-head, All-tail, All-push}
use Rattle.place_words.specs.Interleaving.{Drawn, enclosing, encloses, tickets_of}
use Rattle.step_check.specs.Begun.{around_in, turn_in}
use Rattle.step_check.specs.Outer.{first_from, outer_of}
use Rattle.step_check.specs.Places.{no_turn}
use Rattle.step_check.proofs.AllPlaces.{LeftAt, left_at}
use Rattle.step_check.proofs.Cases.{by_value}

abbrev inside : Drawn → Drawn → Bool
inside inner outer = encloses outer inner

none_encloses : (inner : Drawn) (from : ℕ) (later : List Drawn) → first_from (inside inner) from later ≡ None → enclosing inner later ≡ []
unfolding enclosing
none_encloses inner from [] none = refl
none_encloses inner from (outer ∷ later) none =
    by_value (encloses outer inner) (λ b. cond b (Some from) (first_from (inside inner) (from + 1) later) ≡ None → cond b (enclosing outer later ++ outer ∷ []) (enclosing inner later) ≡ [])
    (λ is one. absurd (cc))
    (λ other rest. none_encloses inner (from + 1) later rest)
    none

-- the innermost one, and those around it
record IsInner (inner : Drawn) (turns later : List Drawn) (from outer : ℕ) : Type 0 where
  after : from ≤ outer
  within : outer < length turns
  around : enclosing inner later ≡ around_in turns outer ++ turn_in turns outer ∷ []

one_encloses : (inner : Drawn) (turns : List Drawn) (from : ℕ) (later : List Drawn) (outer : ℕ) → drop from turns ≡ later → first_from (inside inner) from later ≡ Some outer → IsInner inner turns later from outer
unfolding enclosing
one_encloses inner turns from [] outer left one = absurd (cc)
one_encloses inner turns from (first ∷ later) outer left one =
    let here : LeftAt turns from no_turn first later = left_at turns from no_turn first later left in
    let parts : (from ≤ outer) × (outer < length turns) × (enclosing inner (first ∷ later) ≡ around_in turns outer ++ turn_in turns outer ∷ []) =
    by_value (encloses first inner)
    (λ b. cond b (Some from) (first_from (inside inner) (from + 1) later) ≡ Some outer → (from ≤ outer) × (outer < length turns) × (cond b (enclosing first later ++ first ∷ []) (enclosing inner later) ≡ around_in turns outer ++ turn_in turns outer ∷ []))
    (λ is found.
    let same : from ≡ outer = cc in
    let around : enclosing first later ++ first ∷ [] ≡ around_in turns from ++ turn_in turns from ∷ [] = λ j. enclosing (sym here.here j) (sym here.after j) ++ sym here.here j ∷ [] in
    (omega (arith, same), subst (λ n. n < length turns) same here.within, subst (λ n. enclosing first later ++ first ∷ [] ≡ around_in turns n ++ turn_in turns n ∷ []) same around))
    (λ other found. let rest : IsInner inner turns later (from + 1) outer = one_encloses inner turns (from + 1) later outer here.after found in (omega (arith, rest.after), rest.within, rest.around))
    one in
    record { after = parts.0; within = parts.1; around = parts.2 }

pub around_none : (turns : List Drawn) (ticket : ℕ) → outer_of turns ticket ≡ None → around_in turns ticket ≡ []
around_none turns ticket none = none_encloses (turn_in turns ticket) (ticket + 1) (drop (ticket + 1) turns) none

-- a turn that is enclosed
pub record HasOuter (turns : List Drawn) (ticket outer : ℕ) : Type 0 where
  pub later : ticket < outer
  pub within : outer < length turns
  pub around : around_in turns ticket ≡ around_in turns outer ++ turn_in turns outer ∷ []

pub around_some : (turns : List Drawn) (ticket outer : ℕ) → outer_of turns ticket ≡ Some outer → HasOuter turns ticket outer
around_some turns ticket outer one =
    let is : IsInner (turn_in turns ticket) turns (drop (ticket + 1) turns) (ticket + 1) outer = one_encloses (turn_in turns ticket) turns (ticket + 1) (drop (ticket + 1) turns) outer refl one in
    record { later = omega (arith, is.after); within = is.within; around = is.around }

-- What encloses a turn comes later.
all_enclosing : (P : Drawn → Type 0) (inner : Drawn) (later : List Drawn) → All P later → All P (enclosing inner later)
unfolding enclosing
all_enclosing P inner [] all = All-nil P
all_enclosing P inner (outer ∷ later) all =
    by_value (encloses outer inner) (λ b. All P (cond b (enclosing outer later ++ outer ∷ []) (enclosing inner later)))
    (λ is. All-push P (enclosing outer later) outer (all_enclosing P outer later (All-tail P outer later all)) (All-head P outer later all))
    (λ other. all_enclosing P inner later (All-tail P outer later all))

-- the turn of each ticket has this ticket
pub its_ticket : (turns : List Drawn) (d : Drawn) → tickets_of turns ≡ range_with_len 0 (length turns) → (k : ℕ) → k < length turns → (get_or turns k d).entry.ticket ≡ k
its_ticket turns d tickets k less =
    sym (get_or-map (λ (drawn : Drawn). drawn.entry.ticket) turns k d 0 less)
    ∙ (ap (λ (l : List ℕ). get_or l k 0) tickets ∙ (get_or-range_with_len 0 (length turns) k 0 less ∙ (let z : 0 + k ≡ k = omega arith in z)))

pub around_later : (turns : List Drawn) (ticket : ℕ) → tickets_of turns ≡ range_with_len 0 (length turns) → All (λ (drawn : Drawn). ticket < drawn.entry.ticket) (around_in turns ticket)
around_later turns ticket tickets =
    all_enclosing (λ (drawn : Drawn). ticket < drawn.entry.ticket) (turn_in turns ticket) (drop (ticket + 1) turns)
    (λ k d less.
    let within : (ticket + 1) + k < length turns = omega (arith, less, length-drop (ticket + 1) turns) in
    let own : (get_or (drop (ticket + 1) turns) k d).entry.ticket ≡ (ticket + 1) + k = ap (λ (x : Drawn). x.entry.ticket) (get_or-drop (ticket + 1) turns k d) ∙ its_ticket turns d tickets ((ticket + 1) + k) within in
    omega (arith, own))
