-- The steps of turns that stand together: a turn with those made inside it.
use Rattle.std.proofs.Common.{◌≡◌, ℕ, suc, ◌+◌, ◌<◌, ◌≤◌, Bool, true, false, ◌&&◌, ◌||◌, not, cond, eqb, ltb, List, [], ◌∷◌, ◌++◌, length, map, refl, ap, ◌∙◌, sym, arith}
use Rattle.std.specs.Prelude.{IsTrue}
use Rattle.std.proofs.lemmas.Bool.{cond-true, cond-false, eq-eqb, ne_eqb}
use Rattle.std.proofs.lemmas.List.{append_assoc}
use Rattle.map_types.specs.declared.attr.Shape.{Shape}
use Rattle.map_types.specs.declared.kind.DomainId.{DomainId}
use Rattle.place_words.specs.Choices.{among}
use Rattle.place_words.specs.Histories.{Content}
use Rattle.place_words.specs.Locks.{rank_of}
use Rattle.place_words.specs.Turns.{Turn, after_turn}
use Rattle.place_words.specs.Interleaving.{Drawn, turn_of, Event, does, is_inner, encloses, enclosing, bucket_around, part_steps, seen_by, lists_in, takes, not_begun, tickets_of, turn_events, interleaved}
use Rattle.place_words.specs.declared.step.Step.TheVariants as steps

abbrev pub drawn : ℕ → ℕ → ℕ → Turn → Drawn
drawn n cpu call turn = record { lock = turn.lock; entry = record { ticket = n; cpu = cpu; call = call; part = turn.part } }

-- turns of a call that draw their tickets one after another
abbrev pub stamped : ℕ → ℕ → ℕ → List Turn → List Drawn
stamped n cpu call [] = []
stamped n cpu call (turn ∷ turns) = drawn n cpu call turn ∷ stamped (suc n) cpu call turns

-- each ticket is at least this
abbrev pub AreFrom : ℕ → List Drawn → Type 0
AreFrom n [] = Unit {0}
AreFrom n (drawn ∷ later) = (n ≤ drawn.entry.ticket) × AreFrom n later

pub from_both : (n : ℕ) (xs ys : List Drawn) → AreFrom n xs → AreFrom n ys → AreFrom n (xs ++ ys)
from_both n [] ys from more = more
from_both n (x ∷ xs) ys from more = (from.0, from_both n xs ys from.1 more)

pub from_less : (m n : ℕ) (xs : List Drawn) → m ≤ n → AreFrom n xs → AreFrom m xs
from_less m n [] less from = tt
from_less m n (x ∷ xs) less from = (omega (arith, less, from.0), from_less m n xs less from.1)

pub stamped_from : (n cpu call : ℕ) (turns : List Turn) → AreFrom n (stamped n cpu call turns)
stamped_from n cpu call [] = tt
stamped_from n cpu call (turn ∷ turns) = (omega arith, from_less n (suc n) (stamped (suc n) cpu call turns) (omega arith) (stamped_from (suc n) cpu call turns))

-- what encloses a turn comes after it
pub enclosing_from : (n : ℕ) (x : Drawn) (later : List Drawn) → AreFrom n later → AreFrom n (enclosing x later)
unfolding enclosing
enclosing_from n x [] from = tt
enclosing_from n x (y ∷ later) from =
    elim (encloses y x) as (λ b. AreFrom n (cond b (enclosing y later ++ y ∷ []) (enclosing x later))) [
      | true ↦ from_both n (enclosing y later) (y ∷ []) (enclosing_from n y later from.1) (from.0, tt)
      | false ↦ enclosing_from n x later from.1
    ]

-- a turn that isn't made inside another
pub outermost : (x : Drawn) (later : List Drawn) → is_inner x.entry.part ≡ false → enclosing x later ≡ []
unfolding enclosing
outermost x [] outer = refl
outermost x (y ∷ later) outer =
    cond-false (encloses y x) _ _ (ap (λ (b : Bool). (b && ltb (rank_of y.lock) (rank_of x.lock)) && (eqb y.entry.cpu x.entry.cpu && eqb y.entry.call x.entry.call)) outer) ∙ outermost x later outer

-- Which turns have begun

-- two lists have the same tickets from some on
abbrev pub AreAlike : ℕ → List ℕ → List ℕ → Type 0
AreAlike n begun other = (t : ℕ) → n ≤ t → among begun t ≡ among other t

pub alike_behind : (n : ℕ) (front begun other : List ℕ) → AreAlike n begun other → AreAlike n (front ++ begun) (front ++ other)
alike_behind n [] begun other alike = alike
alike_behind n (x ∷ front) begun other alike = λ t at. ap (λ (b : Bool). eqb x t || b) (alike_behind n front begun other alike t at)

same_not_begun : (n : ℕ) (begun other : List ℕ) → AreAlike n begun other → (turns : List Drawn) → AreFrom n turns → not_begun begun turns ≡ not_begun other turns
same_not_begun n begun other alike [] from = refl
same_not_begun n begun other alike (x ∷ turns) from =
    ap (λ (b : Bool). cond (not b) (x ∷ not_begun begun turns) (not_begun begun turns)) (alike x.entry.ticket from.0)
    ∙ ap (λ (l : List Drawn). cond (not (among other x.entry.ticket)) (x ∷ l) l) (same_not_begun n begun other alike turns from.1)

pub same_interleaved : (shape : Shape) (n : ℕ) (turns : List Drawn) (contents : DomainId → Content) (begun other : List ℕ) → AreAlike n begun other → AreFrom n turns → interleaved shape contents begun turns ≡ interleaved shape contents other turns
unfolding interleaved turn_events
same_interleaved shape n [] contents begun other alike from = refl
same_interleaved shape n (x ∷ later) contents begun other alike from =
    let around : List Drawn = enclosing x later in
    let now : DomainId → Content = after_turn shape x.entry.cpu contents (turn_of x) in
    ap (λ (l : List Drawn). (map takes l ++ map does (part_steps shape x.entry.cpu x.lock (bucket_around around) x.entry.part) ++ seen_by x.entry.part ++ does (steps.Give x.entry.cpu x.lock (lists_in (now x.lock))) ∷ [])
    ++ interleaved shape now (x.entry.ticket ∷ tickets_of around ++ begun) later)
    (same_not_begun n begun other alike (around ++ x ∷ []) (from_both n around (x ∷ []) (enclosing_from n x later from.1) (from.0, tt)))
    ∙ ap (λ (l : List Event). turn_events shape around other (lists_in (now x.lock)) x ++ l)
    (same_interleaved shape n later now (x.entry.ticket ∷ tickets_of around ++ begun) (x.entry.ticket ∷ tickets_of around ++ other) (alike_behind n (x.entry.ticket ∷ tickets_of around) begun other alike) from.1)

-- A turn's steps, and then more

abbrev pub lists_after : Shape → (DomainId → Content) → Drawn → Rattle.place_words.specs.declared.step.Lists.Lists
lists_after shape contents x = lists_in (after_turn shape x.entry.cpu contents (turn_of x) x.lock)

-- the steps of a turn whose lock is taken, its giving back, and more
abbrev pub goes_on : Shape → (DomainId → Content) → List Drawn → Drawn → List Event → List Event
goes_on shape contents around x more =
    map does (part_steps shape x.entry.cpu x.lock (bucket_around around) x.entry.part)
    ++ (seen_by x.entry.part ++ does (steps.Give x.entry.cpu x.lock (lists_after shape contents x)) ∷ more)

-- the first turn of some
pub first_turn : (shape : Shape) (contents : DomainId → Content) (begun : List ℕ) (x : Drawn) (later around : List Drawn) → enclosing x later ≡ around
    → interleaved shape contents begun (x ∷ later) ≡ map takes (not_begun begun (around ++ x ∷ [])) ++ goes_on shape contents around x (interleaved shape (after_turn shape x.entry.cpu contents (turn_of x)) (x.entry.ticket ∷ tickets_of around ++ begun) later)
unfolding interleaved turn_events
first_turn shape contents begun x later around is =
    let now : DomainId → Content = after_turn shape x.entry.cpu contents (turn_of x) in
    let give : List Event = does (steps.Give x.entry.cpu x.lock (lists_after shape contents x)) ∷ [] in
    let more : List Event = interleaved shape now (x.entry.ticket ∷ tickets_of around ++ begun) later in
    let word : List Event = map does (part_steps shape x.entry.cpu x.lock (bucket_around around) x.entry.part) in
    ap (λ (l : List Drawn). turn_events shape l begun (lists_after shape contents x) x ++ interleaved shape now (x.entry.ticket ∷ tickets_of l ++ begun) later) is
    ∙ append_assoc (map takes (not_begun begun (around ++ x ∷ [])) ++ word ++ seen_by x.entry.part) give more
    ∙ append_assoc (map takes (not_begun begun (around ++ x ∷ [])) ++ word) (seen_by x.entry.part) (give ++ more)
    ∙ append_assoc (map takes (not_begun begun (around ++ x ∷ []))) word (seen_by x.entry.part ++ (give ++ more))

-- A turn alone: it isn't made inside another, and none has begun.
pub turn_alone : (shape : Shape) (contents : DomainId → Content) (x : Drawn) (later : List Drawn) → is_inner x.entry.part ≡ false → AreFrom (suc x.entry.ticket) later
    → interleaved shape contents [] (x ∷ later) ≡ takes x ∷ goes_on shape contents [] x (interleaved shape (after_turn shape x.entry.cpu contents (turn_of x)) [] later)
turn_alone shape contents x later outer from =
    first_turn shape contents [] x later [] (outermost x later outer)
    ∙ ap (λ (l : List Event). takes x ∷ goes_on shape contents [] x l)
    (same_interleaved shape (suc x.entry.ticket) later (after_turn shape x.entry.cpu contents (turn_of x)) (x.entry.ticket ∷ []) [] (λ t past. passed x.entry.ticket t past) from)
  where
    passed : (ticket t : ℕ) → suc ticket ≤ t → (eqb ticket t || false) ≡ false
    passed ticket t past = rw (ne_eqb ticket t (λ same. omega (arith, same, past))) refl

-- Turns made inside another

-- A turn inside encloses none of those with it, and is enclosed by the outer one.
abbrev pub AreBeside : ℕ → List Turn → Type 0
AreBeside rank [] = Unit {0}
AreBeside rank (turn ∷ turns) = ((ltb (rank_of turn.lock) rank ≡ false) × IsTrue (is_inner turn.part)) × AreBeside rank turns

abbrev pub AreOfRank : ℕ → List Turn → Type 0
AreOfRank rank [] = Unit {0}
AreOfRank rank (turn ∷ turns) = (rank_of turn.lock ≡ rank) × AreOfRank rank turns

module _ (shape : Shape) (cpu call : ℕ) (outer : Turn) (outermost_is : is_inner outer.part ≡ false) where
  -- the outer turn, with its ticket
  abbrev pub at : ℕ → Drawn
  at n = drawn n cpu call outer

  -- some turns inside it, it, and what comes later
  abbrev pub nest : ℕ → ℕ → List Turn → List Drawn → List Drawn
  nest last n inner later = stamped n cpu call inner ++ at last ∷ later

  pub enclosed : (x : Drawn) (rank : ℕ) → x.entry.cpu ≡ cpu → x.entry.call ≡ call → is_inner x.entry.part ≡ true → rank_of x.lock ≡ rank → ltb (rank_of outer.lock) rank ≡ true
      → (last n : ℕ) (inner : List Turn) (later : List Drawn) → AreBeside rank inner → enclosing x (nest last n inner later) ≡ at last ∷ []
  unfolding enclosing
  enclosed x rank same_cpu same_call inside rank_is below last n [] later beside =
      cond-true (encloses (at last) x) _ _ (rw (inside, rank_is, below, same_cpu, same_call, eq-eqb cpu cpu refl, eq-eqb call call refl) refl) ∙ ap (λ (l : List Drawn). l ++ at last ∷ []) (outermost (at last) later outermost_is)
  enclosed x rank same_cpu same_call inside rank_is below last n (turn ∷ inner) later beside =
      let first : Drawn = drawn n cpu call turn in
      cond-false (encloses first x) _ _ (rw (inside, rank_is, beside.0.0) refl)
      ∙ enclosed x rank same_cpu same_call inside rank_is below last (suc n) inner later beside.1

  -- the tickets that have begun where those inside from n on haven't, and the outer turn has
  pub record HasBegun (begun : List ℕ) (n last : ℕ) : Type 0 where
    pub outer_has : among begun last ≡ true
    pub inner_not : (t : ℕ) → n ≤ t → t < last → among begun t ≡ false
    pub later_not : (t : ℕ) → last < t → among begun t ≡ false

  pub begun_first : (n last : ℕ) → HasBegun (last ∷ []) n last
  begun_first n last = record {
    outer_has = rw (eq-eqb last last refl) refl;
    inner_not = λ t at_least below. rw (ne_eqb last t (λ same. omega (arith, same, below))) refl;
    later_not = λ t past. rw (ne_eqb last t (λ same. omega (arith, same, past))) refl;
  }

  pub begun_next : (begun : List ℕ) (n last : ℕ) → n < last → HasBegun begun n last → HasBegun (n ∷ last ∷ begun) (suc n) last
  begun_next begun n last less has = record {
    outer_has = rw (ne_eqb n last (λ same. omega (arith, same, less)), eq-eqb last last refl) refl;
    inner_not = λ t at_least below. rw (ne_eqb n t (λ same. omega (arith, same, at_least)), ne_eqb last t (λ same. omega (arith, same, below)), has.inner_not t (omega (arith, at_least)) below) refl;
    later_not = λ t past. rw (ne_eqb n t (λ same. omega (arith, same, past, less)), ne_eqb last t (λ same. omega (arith, same, past)), has.later_not t past) refl;
  }

  -- The outer turn's lock is taken first.
  pub nest_begins : (contents : DomainId → Content) (last n rank : ℕ) (turn : Turn) (inner : List Turn) (later : List Drawn) → n < last → AreBeside rank inner → is_inner turn.part ≡ true → rank_of turn.lock ≡ rank
      → ltb (rank_of outer.lock) rank ≡ true → AreFrom (suc last) later
      → interleaved shape contents [] (nest last n (turn ∷ inner) later) ≡ takes (at last) ∷ interleaved shape contents (last ∷ []) (nest last n (turn ∷ inner) later)
  nest_begins contents last n rank turn inner later less beside inside rank_is below from =
      let x : Drawn = drawn n cpu call turn in
      let now : DomainId → Content = after_turn shape cpu contents turn in
      let others : List Drawn = nest last (suc n) inner later in
      let around : enclosing x others ≡ at last ∷ [] = enclosed x rank refl refl inside rank_is below last (suc n) inner later beside in
      let others_from : AreFrom (suc n) others = from_both (suc n) (stamped (suc n) cpu call inner) (at last ∷ later) (stamped_from (suc n) cpu call inner) (omega (arith, less), from_less (suc n) (suc last) later (omega (arith, less)) from) in
      first_turn shape contents [] x others (at last ∷ []) around
      ∙ ap (λ (l : List Event). takes (at last) ∷ takes x ∷ goes_on shape contents (at last ∷ []) x l)
      (same_interleaved shape (suc n) others now (n ∷ last ∷ []) (n ∷ last ∷ last ∷ []) (λ t past. twice (eqb n t) (eqb last t)) others_from)
      ∙ sym (ap (λ (l : List Event). takes (at last) ∷ l) (first_turn shape contents (last ∷ []) x others (at last ∷ []) around
      ∙ ap (λ (l : List Drawn). map takes l ++ goes_on shape contents (at last ∷ []) x (interleaved shape now (n ∷ last ∷ last ∷ []) others)) (only_first n last x less refl)))
    where
      twice : (a b : Bool) → (a || (b || false)) ≡ (a || (b || (b || false)))
      twice true b = refl
      twice false true = refl
      twice false false = refl

      only_first : (n last : ℕ) (x : Drawn) → n < last → x.entry.ticket ≡ n → not_begun (last ∷ []) (at last ∷ x ∷ []) ≡ x ∷ []
      only_first n last x less is = rw (eq-eqb last last refl, is, ne_eqb last n (λ same. omega (arith, same, less))) refl

  -- Then come the turns inside it, one after another.
  pub nest_goes : (contents : DomainId → Content) (begun : List ℕ) (last n rank : ℕ) (turn : Turn) (inner : List Turn) (later : List Drawn) → n < last → AreBeside rank inner → is_inner turn.part ≡ true → rank_of turn.lock ≡ rank
      → ltb (rank_of outer.lock) rank ≡ true → HasBegun begun n last
      → interleaved shape contents begun (nest last n (turn ∷ inner) later)
      ≡ does (steps.Take cpu turn.lock) ∷ goes_on shape contents (at last ∷ []) (drawn n cpu call turn)
      (interleaved shape (after_turn shape cpu contents turn) (n ∷ last ∷ begun) (nest last (suc n) inner later))
  nest_goes contents begun last n rank turn inner later less beside inside rank_is below has =
      let x : Drawn = drawn n cpu call turn in
      let now : DomainId → Content = after_turn shape cpu contents turn in
      let others : List Drawn = nest last (suc n) inner later in
      first_turn shape contents begun x others (at last ∷ []) (enclosed x rank refl refl inside rank_is below last (suc n) inner later beside)
      ∙ ap (λ (l : List Drawn). map takes l ++ goes_on shape contents (at last ∷ []) x (interleaved shape now (n ∷ last ∷ begun) others)) (only_first last x has.outer_has (has.inner_not n (omega arith) less))
    where
      only_first : (last : ℕ) (x : Drawn) → among begun last ≡ true → among begun x.entry.ticket ≡ false → not_begun begun (at last ∷ x ∷ []) ≡ x ∷ []
      only_first last x is is_not = rw (is, is_not) refl

  -- And the outer turn is last.
  pub nest_ends : (contents : DomainId → Content) (begun : List ℕ) (last n : ℕ) (later : List Drawn) → HasBegun begun n last → AreFrom (suc last) later
      → interleaved shape contents begun (at last ∷ later) ≡ goes_on shape contents [] (at last) (interleaved shape (after_turn shape cpu contents outer) [] later)
  nest_ends contents begun last n later has from =
      first_turn shape contents begun (at last) later [] (outermost (at last) later outermost_is)
      ∙ ap (λ (l : List Drawn). map takes l ++ goes_on shape contents [] (at last) (interleaved shape (after_turn shape cpu contents outer) (last ∷ begun) later)) (none has.outer_has)
      ∙ ap (goes_on shape contents [] (at last)) (same_interleaved shape (suc last) later (after_turn shape cpu contents outer) (last ∷ begun) [] (λ t past. rw (ne_eqb last t (λ same. omega (arith, same, past)), has.later_not t (omega (arith, past))) refl) from)
    where
      none : among begun last ≡ true → not_begun begun (at last ∷ []) ≡ []
      none is = rw is refl

  -- whether or not a turn is made inside it, the outer turn's lock is taken first
  pub begins : (contents : DomainId → Content) (last n rank : ℕ) (inner : List Turn) (later : List Drawn) → last ≡ n + length inner → AreBeside rank inner → AreOfRank rank inner
      → ltb (rank_of outer.lock) rank ≡ true → AreFrom (suc last) later
      → interleaved shape contents [] (nest last n inner later) ≡ takes (at last) ∷ interleaved shape contents (last ∷ []) (nest last n inner later)
  begins contents last n rank [] later is beside of below from =
      turn_alone shape contents (at last) later outermost_is from
      ∙ ap (λ (l : List Event). takes (at last) ∷ l) (sym (nest_ends contents (last ∷ []) last n later (begun_first n last) from))
  begins contents last n rank (turn ∷ inner) later is beside of below from =
      nest_begins contents last n rank turn inner later (omega (arith, is)) beside.1 beside.0.1 of.0 below from

-- How turns go on that are made inside others: `tail` begins with the innermost of these, `Begun` says which have begun, and
-- `after` what has begun after one more.
pub record Inside (shape : Shape) (cpu call rank last : ℕ) (tail : List Drawn) (Begun : List ℕ → ℕ → Type 0) (around : List Drawn) (after : List ℕ → ℕ → List ℕ) : Type 0 where
  pub goes : (contents : DomainId → Content) (begun : List ℕ) (n : ℕ) (turn : Turn) (inner : List Turn) → n < last → AreBeside rank inner → is_inner turn.part ≡ true → rank_of turn.lock ≡ rank → Begun begun n
      → interleaved shape contents begun (stamped n cpu call (turn ∷ inner) ++ tail)
      ≡ does (steps.Take cpu turn.lock) ∷ goes_on shape contents around (drawn n cpu call turn) (interleaved shape (after_turn shape cpu contents turn) (after begun n) (stamped (suc n) cpu call inner ++ tail))
  pub next : (begun : List ℕ) (n : ℕ) → n < last → Begun begun n → Begun (after begun n) (suc n)

-- inside one turn
pub inside_one : (shape : Shape) (cpu call : ℕ) (outer : Turn) (outermost_is : is_inner outer.part ≡ false) (rank last : ℕ) (later : List Drawn) → ltb (rank_of outer.lock) rank ≡ true
    → Inside shape cpu call rank last (drawn last cpu call outer ∷ later) (λ begun n. HasBegun shape cpu call outer outermost_is begun n last) (drawn last cpu call outer ∷ []) (λ begun n. n ∷ last ∷ begun)
inside_one shape cpu call outer outermost_is rank last later below = record {
  goes = λ contents begun n turn inner less beside inside rank_is has. nest_goes shape cpu call outer outermost_is contents begun last n rank turn inner later less beside inside rank_is below has;
  next = λ begun n less has. begun_next shape cpu call outer outermost_is begun n last less has;
}

-- A turn inside another, with turns inside it
module _ (shape : Shape) (cpu call : ℕ) (outer middle : Turn) (outer_is : is_inner outer.part ≡ false) (middle_is : is_inner middle.part ≡ true) (below : ltb (rank_of outer.lock) (rank_of middle.lock) ≡ true) where
  -- what has begun: the middle turn has the ticket before the outer one's
  pub record BothBegun (begun : List ℕ) (n last : ℕ) : Type 0 where
    pub middle_has : among begun last ≡ true
    pub outer_has : among begun (suc last) ≡ true
    pub inner_not : (t : ℕ) → n ≤ t → t < last → among begun t ≡ false
    pub later_not : (t : ℕ) → suc last < t → among begun t ≡ false

  abbrev pub deep : ℕ → List Drawn → List Drawn
  deep last later = drawn last cpu call middle ∷ drawn (suc last) cpu call outer ∷ later

  abbrev pub both_around : ℕ → List Drawn
  both_around last = drawn (suc last) cpu call outer ∷ drawn last cpu call middle ∷ []

  -- the outer turn encloses the middle one
  pub middle_enclosed : (last : ℕ) (later : List Drawn) → enclosing (drawn last cpu call middle) (drawn (suc last) cpu call outer ∷ later) ≡ drawn (suc last) cpu call outer ∷ []
  unfolding enclosing
  middle_enclosed last later =
      cond-true (encloses (drawn (suc last) cpu call outer) (drawn last cpu call middle)) _ _ (rw (middle_is, below, eq-eqb cpu cpu refl, eq-eqb call call refl) refl)
      ∙ ap (λ (l : List Drawn). l ++ drawn (suc last) cpu call outer ∷ []) (outermost (drawn (suc last) cpu call outer) later outer_is)

  pub both_enclose : (x : Drawn) (rank : ℕ) → x.entry.cpu ≡ cpu → x.entry.call ≡ call → is_inner x.entry.part ≡ true → rank_of x.lock ≡ rank → ltb (rank_of middle.lock) rank ≡ true
      → (last n : ℕ) (inner : List Turn) (later : List Drawn) → AreBeside rank inner → enclosing x (stamped n cpu call inner ++ deep last later) ≡ both_around last
  unfolding enclosing
  both_enclose x rank same_cpu same_call inside rank_is deeper last n [] later beside =
      cond-true (encloses (drawn last cpu call middle) x) _ _ (rw (inside, rank_is, deeper, same_cpu, same_call, eq-eqb cpu cpu refl, eq-eqb call call refl) refl) ∙ ap (λ (l : List Drawn). l ++ drawn last cpu call middle ∷ []) (middle_enclosed last later)
  both_enclose x rank same_cpu same_call inside rank_is deeper last n (turn ∷ inner) later beside =
      cond-false (encloses (drawn n cpu call turn) x) _ _ (rw (inside, rank_is, beside.0.0) refl)
      ∙ both_enclose x rank same_cpu same_call inside rank_is deeper last (suc n) inner later beside.1

  pub both_first : (n last : ℕ) → n ≤ last → BothBegun (suc last ∷ last ∷ []) n last
  both_first n last most = record {
    middle_has = rw (ne_eqb (suc last) last (λ same. omega (arith, same)), eq-eqb last last refl) refl;
    outer_has = rw (eq-eqb (suc last) (suc last) refl) refl;
    inner_not = λ t at_least less. rw (ne_eqb (suc last) t (λ same. omega (arith, same, less)), ne_eqb last t (λ same. omega (arith, same, less))) refl;
    later_not = λ t past. rw (ne_eqb (suc last) t (λ same. omega (arith, same, past)), ne_eqb last t (λ same. omega (arith, same, past))) refl;
  }

  -- turns inside both
  pub inside_both : (rank last : ℕ) (later : List Drawn) → ltb (rank_of middle.lock) rank ≡ true
      → Inside shape cpu call rank last (deep last later) (λ begun n. BothBegun begun n last) (both_around last) (λ begun n. n ∷ suc last ∷ last ∷ begun)
  inside_both rank last later deeper = record {
    goes = λ contents begun n turn inner less beside inside rank_is has.
        let x : Drawn = drawn n cpu call turn in
        first_turn shape contents begun x (stamped (suc n) cpu call inner ++ deep last later) (both_around last) (both_enclose x rank refl refl inside rank_is deeper last (suc n) inner later beside)
        ∙ ap (λ (l : List Drawn). map takes l ++ goes_on shape contents (both_around last) x (interleaved shape (after_turn shape cpu contents turn) (n ∷ suc last ∷ last ∷ begun) (stamped (suc n) cpu call inner ++ deep last later))) (only last begun x has.middle_has has.outer_has (has.inner_not n (omega arith) less));
    next = λ begun n less has. record {
      middle_has = rw (ne_eqb n last (λ same. omega (arith, same, less)), ne_eqb (suc last) last (λ same. omega (arith, same)), eq-eqb last last refl) refl;
      outer_has = rw (ne_eqb n (suc last) (λ same. omega (arith, same, less)), eq-eqb (suc last) (suc last) refl) refl;
      inner_not = λ t at_least below_last. rw (ne_eqb n t (λ same. omega (arith, same, at_least)), ne_eqb (suc last) t (λ same. omega (arith, same, below_last)), ne_eqb last t (λ same. omega (arith, same, below_last)), has.inner_not t (omega (arith, at_least)) below_last) refl;
      later_not = λ t past. rw (ne_eqb n t (λ same. omega (arith, same, past, less)), ne_eqb (suc last) t (λ same. omega (arith, same, past)), ne_eqb last t (λ same. omega (arith, same, past)), has.later_not t past) refl;
    };
  }
    where
      only : (last : ℕ) (begun : List ℕ) (x : Drawn) → among begun last ≡ true → among begun (suc last) ≡ true → among begun x.entry.ticket ≡ false → not_begun begun (drawn (suc last) cpu call outer ∷ drawn last cpu call middle ∷ x ∷ []) ≡ x ∷ []
      only last begun x one two three = rw (two, one, three) refl

  -- the middle turn ends
  pub middle_ends : (contents : DomainId → Content) (begun : List ℕ) (n last : ℕ) (later : List Drawn) → BothBegun begun n last
      → interleaved shape contents begun (deep last later) ≡ goes_on shape contents (drawn (suc last) cpu call outer ∷ []) (drawn last cpu call middle) (interleaved shape (after_turn shape cpu contents middle) (last ∷ suc last ∷ begun) (drawn (suc last) cpu call outer ∷ later))
  middle_ends contents begun n last later has =
      first_turn shape contents begun (drawn last cpu call middle) (drawn (suc last) cpu call outer ∷ later) (drawn (suc last) cpu call outer ∷ []) (middle_enclosed last later)
      ∙ ap (λ (l : List Drawn). map takes l ++ goes_on shape contents (drawn (suc last) cpu call outer ∷ []) (drawn last cpu call middle) (interleaved shape (after_turn shape cpu contents middle) (last ∷ suc last ∷ begun) (drawn (suc last) cpu call outer ∷ later)))
      (none last begun has.middle_has has.outer_has)
    where
      none : (last : ℕ) (begun : List ℕ) → among begun last ≡ true → among begun (suc last) ≡ true → not_begun begun (drawn (suc last) cpu call outer ∷ drawn last cpu call middle ∷ []) ≡ []
      none last begun one two = rw (two, one) refl

  -- then the outer one is as if it had begun alone
  pub outer_left : (begun : List ℕ) (n last : ℕ) → BothBegun begun n last → HasBegun shape cpu call outer outer_is (last ∷ suc last ∷ begun) (suc last) (suc last)
  outer_left begun n last has = record {
    outer_has = rw (ne_eqb last (suc last) (λ same. omega (arith, same)), eq-eqb (suc last) (suc last) refl) refl;
    inner_not = λ t at_least less. absurd (omega (arith, at_least, less));
    later_not = λ t past. rw (ne_eqb last t (λ same. omega (arith, same, past)), ne_eqb (suc last) t (λ same. omega (arith, same, past)), has.later_not t past) refl;
  }

  -- Both locks are taken first.
  pub deep_begins : (contents : DomainId → Content) (rank last n : ℕ) (inner : List Turn) (later : List Drawn) → last ≡ n + length inner → AreBeside rank inner → AreOfRank rank inner → ltb (rank_of middle.lock) rank ≡ true → AreFrom (suc (suc last)) later
      → interleaved shape contents [] (stamped n cpu call inner ++ deep last later)
      ≡ takes (drawn (suc last) cpu call outer) ∷ takes (drawn last cpu call middle) ∷ interleaved shape contents (suc last ∷ last ∷ []) (stamped n cpu call inner ++ deep last later)
  deep_begins contents rank last n [] later is beside of deeper from =
      let o : Drawn = drawn (suc last) cpu call outer in
      let m : Drawn = drawn last cpu call middle in
      let now : DomainId → Content = after_turn shape cpu contents middle in
      first_turn shape contents [] m (o ∷ later) (o ∷ []) (middle_enclosed last later)
      ∙ ap (λ (l : List Event). takes o ∷ takes m ∷ goes_on shape contents (o ∷ []) m l)
      (same_interleaved shape (suc last) (o ∷ later) now (last ∷ suc last ∷ []) (last ∷ suc last ∷ suc last ∷ last ∷ []) (λ t past. four last t past) (omega arith, from_less (suc last) (suc (suc last)) later (omega arith) from))
      ∙ ap (λ (l : List Event). takes o ∷ takes m ∷ l) (sym (middle_ends contents (suc last ∷ last ∷ []) last last later (both_first last last (omega arith))))
    where
      four : (last t : ℕ) → suc last ≤ t → among (last ∷ suc last ∷ []) t ≡ among (last ∷ suc last ∷ suc last ∷ last ∷ []) t
      four last t past = by (eqb last t) (eqb (suc last) t)
        where
          by : (a b : Bool) → (a || (b || false)) ≡ (a || (b || (b || (a || false))))
          by true b = refl
          by false true = refl
          by false false = refl
  deep_begins contents rank last n (turn ∷ inner) later is beside of deeper from =
      let o : Drawn = drawn (suc last) cpu call outer in
      let m : Drawn = drawn last cpu call middle in
      let x : Drawn = drawn n cpu call turn in
      let now : DomainId → Content = after_turn shape cpu contents turn in
      let others : List Drawn = stamped (suc n) cpu call inner ++ deep last later in
      let less : n < last = omega (arith, is) in
      let others_from : AreFrom (suc n) others = from_both (suc n) (stamped (suc n) cpu call inner) (deep last later) (stamped_from (suc n) cpu call inner) (omega (arith, less), (omega (arith, less), from_less (suc n) (suc (suc last)) later (omega (arith, less)) from)) in
      first_turn shape contents [] x others (both_around last) (both_enclose x rank refl refl beside.0.1 of.0 deeper last (suc n) inner later beside.1)
      ∙ ap (λ (l : List Event). takes o ∷ takes m ∷ takes x ∷ goes_on shape contents (both_around last) x l)
      (same_interleaved shape (suc n) others now (n ∷ suc last ∷ last ∷ []) (n ∷ suc last ∷ last ∷ suc last ∷ last ∷ []) (λ t past. five n last t) others_from)
      ∙ ap (λ (l : List Event). takes o ∷ takes m ∷ l) (sym ((inside_both rank last later deeper).goes contents (suc last ∷ last ∷ []) n turn inner less beside.1 beside.0.1 of.0 (both_first n last (omega (arith, less)))))
    where
      five : (n last t : ℕ) → among (n ∷ suc last ∷ last ∷ []) t ≡ among (n ∷ suc last ∷ last ∷ suc last ∷ last ∷ []) t
      five n last t = by (eqb n t) (eqb (suc last) t) (eqb last t)
        where
          by : (a b c : Bool) → (a || (b || (c || false))) ≡ (a || (b || (c || (b || (c || false)))))
          by true b c = refl
          by false true c = refl
          by false false true = refl
          by false false false = refl
