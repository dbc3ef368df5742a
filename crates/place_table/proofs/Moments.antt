-- Each lock's turns go on from those of an earlier moment: the turns of that moment's strands keep their places.
use Rattle.std.proofs.Common.{◌≡◌, ◌⊎◌, inl, inr, ⊎_elim, ℕ, zero, suc, ◌+◌, ◌<◌, ◌≤◌, Bool, true, false, cond, eqb, List, [], ◌∷◌, ◌++◌, length, append-nil, refl, ap, sym, ◌∙◌, subst, arith}
use Rattle.std.specs.Prelude.{Some, slice_get}
use Rattle.std.proofs.lemmas.Bool.{lt-ltb, le-ltb}
use Rattle.std.proofs.lemmas.Option.{none-some, same_Some}
use Rattle.map_types.proofs.RowLemmas.{by_test}
use Rattle.place_words.specs.declared.history.Entry.{Entry}
use Rattle.place_words.specs.Phases.{drawn_before}
use Rattle.place_words.proofs.Cuts.{before_both}
use Rattle.place_table.specs.declared.view.Ended.{Ended}
use Rattle.place_table.specs.declared.view.Turned.{Turned}
use Rattle.place_table.specs.Rules.{turns_on}
use Rattle.place_table.specs.StrandTurns.{numbered, turns_by, AreTurnsOf}
use Rattle.place_table.specs.Views.{place_of}

-- a turn with its place is among some
abbrev pub In : ℕ → Entry → List (ℕ × Entry) → Type 0
In place entry [] = ⊥
In place entry (turn ∷ turns) = ((place ≡ turn.0) × (entry ≡ turn.1)) ⊎ In place entry turns

in_numbered : (from place : ℕ) (entry : Entry) (xs : List Entry) → slice_get xs place ≡ Some entry → In (from + place) entry (numbered from xs)
in_numbered from place entry [] at = absurd (none-some entry at)
in_numbered from zero entry (x ∷ xs) at = inl (omega arith, sym (same_Some x entry at))
in_numbered from (suc place) entry (x ∷ xs) at =
    let next : suc from + place ≡ from + suc place = omega arith in
    inr (subst (λ (p : ℕ). In p entry (numbered (suc from) xs)) next (in_numbered (suc from) place entry xs at))

in_first_numbered : (place : ℕ) (entry : Entry) (xs : List Entry) → slice_get xs place ≡ Some entry → In place entry (numbered 0 xs)
in_first_numbered place entry xs at =
    let same : 0 + place ≡ place = omega arith in
    subst (λ (p : ℕ). In p entry (numbered 0 xs)) same (in_numbered 0 place entry xs at)

numbered_in : (from place : ℕ) (entry : Entry) (xs : List Entry) → In place entry (numbered from xs) → (p : ℕ) × (place ≡ from + p) × (slice_get xs p ≡ Some entry)
numbered_in from place entry [] inside = absurd inside
numbered_in from place entry (x ∷ xs) (inl is) = (0, omega (arith, is.0), ap Some (sym is.1))
numbered_in from place entry (x ∷ xs) (inr inside) =
    let rest = numbered_in (suc from) place entry xs inside in
    (suc rest.0, omega (arith, rest.1), rest.2)

in_turns_by : (strand_at : ℕ → ℕ) (n place : ℕ) (entry : Entry) (turns : List (ℕ × Entry)) → strand_at place ≡ n → In place entry turns → In place entry (turns_by strand_at n turns)
in_turns_by strand_at n place entry [] is inside = absurd inside
in_turns_by strand_at n place entry (turn ∷ turns) is (inl same) =
    by_test (strand_at turn.0) n (λ b. In place entry (cond b (turn ∷ turns_by strand_at n turns) (turns_by strand_at n turns)))
    (λ here. inl same) (λ other. absurd (other (sym (ap strand_at same.0) ∙ is)))
in_turns_by strand_at n place entry (turn ∷ turns) is (inr inside) = by (eqb (strand_at turn.0) n) (in_turns_by strand_at n place entry turns is inside)
  where
    by : (b : Bool) → In place entry (turns_by strand_at n turns) → In place entry (cond b (turn ∷ turns_by strand_at n turns) (turns_by strand_at n turns))
    by true rest = inr rest
    by false rest = rest

turns_by_in : (strand_at : ℕ → ℕ) (n place : ℕ) (entry : Entry) (turns : List (ℕ × Entry)) → In place entry (turns_by strand_at n turns) → In place entry turns
turns_by_in strand_at n place entry [] inside = absurd inside
turns_by_in strand_at n place entry (turn ∷ turns) inside = by (eqb (strand_at turn.0) n) inside (turns_by_in strand_at n place entry turns)
  where
    by : (b : Bool) → In place entry (cond b (turn ∷ turns_by strand_at n turns) (turns_by strand_at n turns)) → (In place entry (turns_by strand_at n turns) → In place entry turns) → In place entry (turn ∷ turns)
    by true (inl same) rest = inl same
    by true (inr more) rest = inr (rest more)
    by false more rest = inr (rest more)

in_first : (place : ℕ) (entry : Entry) (xs ys : List (ℕ × Entry)) → In place entry xs → In place entry (xs ++ ys)
in_first place entry [] ys inside = absurd inside
in_first place entry (x ∷ xs) ys (inl same) = inl same
in_first place entry (x ∷ xs) ys (inr inside) = inr (in_first place entry xs ys inside)

turns_both : (k : ℕ) (xs ys : List Turned) → turns_on k (xs ++ ys) ≡ turns_on k xs ++ turns_on k ys
turns_both k [] ys = refl
turns_both k (step ∷ xs) ys = by (eqb step.lock k) (turns_both k xs ys)
  where
    by : (b : Bool) → turns_on k (xs ++ ys) ≡ turns_on k xs ++ turns_on k ys → cond b ((place_of step, step.entry) ∷ turns_on k (xs ++ ys)) (turns_on k (xs ++ ys)) ≡ cond b ((place_of step, step.entry) ∷ turns_on k xs) (turns_on k xs) ++ turns_on k ys
    by true rest = ap (λ (turns : List (ℕ × Entry)). (place_of step, step.entry) ∷ turns) rest
    by false rest = rest

there_at : {A : Type 0} (xs : List A) (n : ℕ) → n < length xs → (x : A) × (slice_get xs n ≡ Some x)
there_at [] n few = absurd (omega (arith, few))
there_at (x ∷ xs) zero few = (x, refl)
there_at (x ∷ xs) (suc n) few = there_at xs n (omega (arith, few))

-- Each strand of then has the same place among the strands of now, and its steps go on from what they were.
abbrev pub GoOn : List Ended → List Ended → Type 0
GoOn then now = (n : ℕ) (strand : Ended) → slice_get then n ≡ Some strand → (later : Ended) × (more : List Turned) × (slice_get now n ≡ Some later) × (later.steps ≡ strand.steps ++ more)

module _ (k : ℕ) (then now : List Ended) (log_then log_now : List Entry) (turns_then : AreTurnsOf k then log_then) (turns_now : AreTurnsOf k now log_now) (go_on : GoOn then now) where
  same_place : (place : ℕ) (entry : Entry) → slice_get log_then place ≡ Some entry → place < length log_then → slice_get log_now place ≡ Some entry
  same_place place entry at below =
      let n : ℕ = turns_then.strand_at place in
      let mine = there_at then n (turns_then.within place below) in
      let later = go_on n mine.0 mine.1 in
      let first : In place entry (turns_on k mine.0.steps) = subst (In place entry) (sym (turns_then.turns n mine.0 mine.1)) (in_turns_by turns_then.strand_at n place entry (numbered 0 log_then) refl (in_first_numbered place entry log_then at)) in
      let still : In place entry (turns_on k later.0.steps) = subst (λ (steps : List Turned). In place entry (turns_on k steps)) (sym later.3)
      (subst (In place entry) (sym (turns_both k mine.0.steps later.1)) (in_first place entry (turns_on k mine.0.steps) (turns_on k later.1) first)) in
      let found = numbered_in 0 place entry log_now (turns_by_in turns_now.strand_at n place entry (numbered 0 log_now) (subst (In place entry) (turns_now.turns n later.0 later.2) still)) in
      let same : found.0 ≡ place = omega (arith, found.1) in
      subst (λ (p : ℕ). slice_get log_now p ≡ Some entry) same found.2

  -- so the turns of now go on from those of then
  pub goes_on : (rest : List Entry) × (log_now ≡ log_then ++ rest)
  goes_on = prefix log_then log_now (λ place entry at. same_place place entry at (few log_then place entry at))
    where
      few : (xs : List Entry) (place : ℕ) (entry : Entry) → slice_get xs place ≡ Some entry → place < length xs
      few [] place entry at = absurd (none-some entry at)
      few (x ∷ xs) zero entry at = omega arith
      few (x ∷ xs) (suc place) entry at = omega (arith, few xs place entry at)

      prefix : (xs ys : List Entry) → ((place : ℕ) (entry : Entry) → slice_get xs place ≡ Some entry → slice_get ys place ≡ Some entry) → (rest : List Entry) × (ys ≡ xs ++ rest)
      prefix [] ys same = (ys, refl)
      prefix (x ∷ xs) [] same = absurd (none-some x (same 0 x refl))
      prefix (x ∷ xs) (y ∷ ys) same =
          let rest = prefix xs ys (λ place entry at. same (suc place) entry at) in
          (rest.0, λ i. same_Some y x (same 0 x refl) i ∷ rest.1 i)

-- The turns of then are those of now whose tickets are below a number

all_below : (n : ℕ) (xs : List Entry) → ((place : ℕ) (entry : Entry) → slice_get xs place ≡ Some entry → entry.ticket < n) → drawn_before n xs ≡ xs
all_below n [] below = refl
all_below n (x ∷ xs) below =
    ap (λ (b : Bool). cond b (x ∷ drawn_before n xs) (drawn_before n xs)) (lt-ltb x.ticket n (below 0 x refl))
    ∙ ap (λ (entries : List Entry). x ∷ entries) (all_below n xs (λ place entry at. below (suc place) entry at))

none_below : (n : ℕ) (xs : List Entry) → ((place : ℕ) (entry : Entry) → slice_get xs place ≡ Some entry → n ≤ entry.ticket) → drawn_before n xs ≡ []
none_below n [] past = refl
none_below n (x ∷ xs) past =
    ap (λ (b : Bool). cond b (x ∷ drawn_before n xs) (drawn_before n xs)) (le-ltb x.ticket n (past 0 x refl))
    ∙ none_below n xs (λ place entry at. past (suc place) entry at)

behind : (xs ys : List Entry) (place : ℕ) → slice_get (xs ++ ys) (length xs + place) ≡ slice_get ys place
behind [] ys place = let same : 0 + place ≡ place = omega arith in ap (slice_get ys) same
behind (x ∷ xs) ys place = let next : suc (length xs) + place ≡ suc (length xs + place) = omega arith in ap (slice_get (x ∷ xs ++ ys)) next ∙ behind xs ys place

inside_of : (xs : List Entry) (place : ℕ) (entry : Entry) → slice_get xs place ≡ Some entry → place < length xs
inside_of [] place entry at = absurd (none-some entry at)
inside_of (x ∷ xs) zero entry at = omega arith
inside_of (x ∷ xs) (suc place) entry at = omega (arith, inside_of xs place entry at)

-- a turn of one of these strands on the lock
pub record IsTurnOf (k : ℕ) (strands : List Ended) (place : ℕ) (entry : Entry) : Type 0 where
  pub n : ℕ
  pub strand : Ended
  pub at : slice_get strands n ≡ Some strand
  pub inside : In place entry (turns_on k strand.steps)

turn_at : (k : ℕ) (strands : List Ended) (log : List Entry) (turns : AreTurnsOf k strands log) (place : ℕ) (entry : Entry) → slice_get log place ≡ Some entry → IsTurnOf k strands place entry
turn_at k strands log turns place entry at =
    let n : ℕ = turns.strand_at place in
    let mine = there_at strands n (turns.within place (inside_of log place entry at)) in
    record { n = n; strand = mine.0; at = mine.1; inside = subst (In place entry) (sym (turns.turns n mine.0 mine.1)) (in_turns_by turns.strand_at n place entry (numbered 0 log) refl (in_first_numbered place entry log at)) }

module _ (k found : ℕ) (then now : List Ended) (log_then log_now : List Entry) (turns_then : AreTurnsOf k then log_then) (turns_now : AreTurnsOf k now log_now) (go_on : GoOn then now)
    (earlier : (place : ℕ) (entry : Entry) → IsTurnOf k then place entry → entry.ticket < found)
    (later : (place : ℕ) (entry : Entry) → IsTurnOf k now place entry → IsTurnOf k then place entry ⊎ (found ≤ entry.ticket)) where
  pub moment_is : drawn_before found log_now ≡ log_then
  moment_is =
      let more = goes_on k then now log_then log_now turns_then turns_now go_on in
      ap (drawn_before found) more.1
      ∙ (before_both found log_then more.0
      ∙ ((λ i. all_below found log_then (λ place entry at. earlier place entry (turn_at k then log_then turns_then place entry at)) i
      ++ none_below found more.0 (λ place entry at. past more.0 more.1 place entry at) i)
      ∙ append-nil log_then))
    where
      past : (rest : List Entry) → log_now ≡ log_then ++ rest → (place : ℕ) (entry : Entry) → slice_get rest place ≡ Some entry → found ≤ entry.ticket
      past rest is place entry at =
          let here : slice_get log_now (length log_then + place) ≡ Some entry = ap (λ (xs : List Entry). slice_get xs (length log_then + place)) is ∙ (behind log_then rest place ∙ at) in
          ⊎_elim
          (λ (old : IsTurnOf k then (length log_then + place) entry).
          let found_there = numbered_in 0 (length log_then + place) entry log_then (turns_by_in turns_then.strand_at old.n (length log_then + place) entry (numbered 0 log_then) (subst (In (length log_then + place) entry) (turns_then.turns old.n old.strand old.at) old.inside)) in
          absurd (omega (arith, found_there.1, inside_of log_then found_there.0 entry found_there.2)))
          (λ (new : found ≤ entry.ticket). new)
          (later (length log_then + place) entry (turn_at k now log_now turns_now (length log_then + place) entry here))
