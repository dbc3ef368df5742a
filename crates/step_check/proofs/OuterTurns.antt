-- The innermost turn that encloses one, found from the last ticket on.
use Rattle.std.proofs.Common.{◌≡◌, ℕ, ◌+◌, ◌<◌, ◌≤◌, All, Bool, true, false, cond, eqb, ltb, ◌&&◌, Option, None, Some, List, [], ◌∷◌, length, get_or, set, drop, replicate, refl, ap, ◌∙◌, sym, subst, ⊎_elim, arith}
use Rattle.std.proofs.lemmas.Bool.{cases_lt, eq-eqb}
use Rattle.std.proofs.lemmas.List.{drop_more, drop_all, get_or-set_same, get_or-set_other, get_or-replicate, get_or_default, get_or-map, length-map, length-set}
use Rattle.std.proofs.lemmas.List.Elements.{All-head, All-tail, All-drop}
use Rattle.map_types.proofs.RowLemmas.{by_test}
use Rattle.map_types.specs.declared.kind.DomainId.{DomainId}
use Rattle.map_types.specs.declared.kind.DomainId.TheVariants.{Local, Global, CpuLru, Bucket, Freelist}
use Rattle.place_words.specs.declared.history.Entry.{Entry}
use Rattle.place_words.specs.Interleaving.{Drawn, encloses, is_inner}
use Rattle.place_words.specs.Locks.{rank_of}
use Rattle.step_check.specs.declared.outer.NextTurns.{NextTurns}
use Rattle.step_check.specs.Outer.{AreOuter, HaveOneCpu, first_below, first_from, is_below, next_turns, no_next, outer_of, with_turn}
use Rattle.place_words.specs.declared.history.LockHistory.{LockHistory}
use Rattle.step_check.specs.declared.places.TurnPlace.{TurnPlace}
use Rattle.step_check.specs.Places.{entry_at, history_at, no_turn, turn_at, turns_at}
use Rattle.step_check.proofs.Cases.{by_bool}

and_false : (a : Bool) → (a && false) ≡ false
and_false true = refl
and_false false = refl

-- tests that are alike on turns find the same one, and one that none passes finds none
first_alike : (p q : Drawn → Bool) (ticket : ℕ) (later : List Drawn) → All (λ (drawn : Drawn). p drawn ≡ q drawn) later → first_from p ticket later ≡ first_from q ticket later
first_alike p q ticket [] alike = refl
first_alike p q ticket (drawn ∷ later) alike =
    λ j. cond (All-head (λ (drawn : Drawn). p drawn ≡ q drawn) drawn later alike j) (Some ticket) (first_alike p q (ticket + 1) later (All-tail (λ (drawn : Drawn). p drawn ≡ q drawn) drawn later alike) j)

none_found : (p : Drawn → Bool) (ticket : ℕ) (later : List Drawn) → ((drawn : Drawn) → p drawn ≡ false) → first_from p ticket later ≡ None
none_found p ticket [] none = refl
none_found p ticket (drawn ∷ later) none = λ j. cond (none drawn j) (Some ticket) (none_found p (ticket + 1) later none j)

-- no lock's rank is below 1
none_lower : (call : ℕ) (lock : DomainId) (entry : Entry) → is_below call 1 record { lock = lock; entry = entry } ≡ false
none_lower call (Local cpu) entry = refl
none_lower call Global entry = refl
none_lower call (CpuLru cpu) entry = refl
none_lower call (Bucket bucket) entry = refl
none_lower call (Freelist cpu) entry = refl

below_told : (call ticket : ℕ) (later : List Drawn) (lock : DomainId) → first_below (next_turns call ticket later) lock ≡ first_from (is_below call (rank_of lock)) ticket later
below_told call ticket later (Local cpu) = sym (none_found (is_below call 1) ticket later (λ drawn. none_lower call drawn.lock drawn.entry))
below_told call ticket later Global = refl
below_told call ticket later (CpuLru cpu) = refl
below_told call ticket later (Bucket bucket) = refl
below_told call ticket later (Freelist cpu) = refl

-- on turns whose calls have one CPU each, an inner turn is enclosed by the lower ones of its call
alike : (inner outer : Drawn) → is_inner inner.entry.part ≡ true → (outer.entry.call ≡ inner.entry.call → outer.entry.cpu ≡ inner.entry.cpu) → is_below inner.entry.call (rank_of inner.lock) outer ≡ encloses outer inner
alike inner outer is_one one_cpu =
    let lower : Bool = ltb (rank_of outer.lock) (rank_of inner.lock) in
    let by_inner : ((lower && (eqb outer.entry.cpu inner.entry.cpu && eqb outer.entry.call inner.entry.call)) ≡ encloses outer inner) =
    ap (λ b. (b && lower) && (eqb outer.entry.cpu inner.entry.cpu && eqb outer.entry.call inner.entry.call)) (sym is_one) in
    by_test outer.entry.call inner.entry.call (λ b. (lower && b) ≡ (lower && (eqb outer.entry.cpu inner.entry.cpu && b)))
    (λ is. ap (λ b. lower && (b && true)) (sym (eq-eqb outer.entry.cpu inner.entry.cpu (one_cpu is))))
    (λ other. ap (λ b. lower && b) (sym (and_false (eqb outer.entry.cpu inner.entry.cpu))))
    ∙ by_inner

outer_told : (inner : Drawn) (ticket : ℕ) (later : List Drawn) → All (λ (other : Drawn). other.entry.call ≡ inner.entry.call → other.entry.cpu ≡ inner.entry.cpu) later
    → cond (is_inner inner.entry.part) (first_below (next_turns inner.entry.call ticket later) inner.lock) None ≡ first_from (λ (outer : Drawn). encloses outer inner) ticket later
outer_told inner ticket later one_cpu =
    let of : (b : Bool) → is_inner inner.entry.part ≡ b → cond b (first_below (next_turns inner.entry.call ticket later) inner.lock) None ≡ first_from (λ (outer : Drawn). encloses outer inner) ticket later =
    λ b is. by_bool b (λ b. is_inner inner.entry.part ≡ b → cond b (first_below (next_turns inner.entry.call ticket later) inner.lock) None ≡ first_from (λ (outer : Drawn). encloses outer inner) ticket later)
    (λ is_one. below_told inner.entry.call ticket later inner.lock
    ∙ first_alike (is_below inner.entry.call (rank_of inner.lock)) (λ (outer : Drawn). encloses outer inner) ticket later (λ k d less. alike inner (get_or later k d) is_one (one_cpu k d less)))
    (λ is_none. sym (none_found (λ (outer : Drawn). encloses outer inner) ticket later (λ (outer : Drawn). ap (λ b. (b && ltb (rank_of outer.lock) (rank_of inner.lock)) && (eqb outer.entry.cpu inner.entry.cpu && eqb outer.entry.call inner.entry.call)) is_none)))
    is in
    of (is_inner inner.entry.part) refl

-- the next turns of a call, with one more before them
abbrev next_of_test : Bool → DomainId → ℕ → ℕ → List Drawn → NextTurns
next_of_test same lock call ticket later = record {
  below_lists = cond (ltb (rank_of lock) 2 && same) (Some ticket) (first_from (is_below call 2) (ticket + 1) later);
  below_buckets = cond (ltb (rank_of lock) 3 && same) (Some ticket) (first_from (is_below call 3) (ticket + 1) later);
  below_freelists = cond (ltb (rank_of lock) 4 && same) (Some ticket) (first_from (is_below call 4) (ticket + 1) later);
}

added : (lock : DomainId) (call ticket : ℕ) (later : List Drawn) → with_turn (next_turns call (ticket + 1) later) lock ticket ≡ next_of_test true lock call ticket later
added (Local cpu) call ticket later = refl
added Global call ticket later = refl
added (CpuLru cpu) call ticket later = refl
added (Bucket bucket) call ticket later = refl
added (Freelist cpu) call ticket later = refl

passed : (lock : DomainId) (call ticket : ℕ) (later : List Drawn) → next_turns call (ticket + 1) later ≡ next_of_test false lock call ticket later
passed (Local cpu) call ticket later = refl
passed Global call ticket later = refl
passed (CpuLru cpu) call ticket later = refl
passed (Bucket bucket) call ticket later = refl
passed (Freelist cpu) call ticket later = refl

-- What is found from a ticket on.
pub record AreFound (turns : List Drawn) (from : ℕ) (calls : ℕ) (outer : List (Option ℕ)) (next : List NextTurns) : Type 0 where
  pub long : length outer ≡ length turns
  pub room : length next ≡ calls
  pub each : (ticket : ℕ) → from ≤ ticket → ticket < length turns → get_or outer ticket None ≡ outer_of turns ticket
  pub later : (call : ℕ) → call < calls → get_or next call no_next ≡ next_turns call from (drop from turns)

pub found_more : (turns : List Drawn) (ticket from calls : ℕ) (outer : List (Option ℕ)) (next : List NextTurns) (turn : Drawn) (before : NextTurns) (d : NextTurns) → HaveOneCpu turns → ticket < length turns → turn ≡ get_or turns ticket no_turn
    → turn.entry.call < calls → from ≡ ticket + 1 → before ≡ get_or next turn.entry.call d → AreFound turns from calls outer next
    → AreFound turns ticket calls (set outer ticket (cond (is_inner turn.entry.part) (first_below before turn.lock) None)) (set next turn.entry.call (with_turn before turn.lock ticket))
found_more turns ticket from calls outer next turn before d one_cpu less at numbered from_is read found =
    let rest : List Drawn = drop (ticket + 1) turns in
    let left : drop ticket turns ≡ turn ∷ rest = drop_more turns ticket no_turn less ∙ ap (λ (x : Drawn). x ∷ rest) (sym at) in
    let of_call : (call : ℕ) → call < calls → get_or next call no_next ≡ next_turns call (ticket + 1) rest =
    λ call call_less. found.later call call_less ∙ ap (λ n. next_turns call n (drop n turns)) from_is in
    let room_call : turn.entry.call < length next = subst (λ n. turn.entry.call < n) (sym found.room) numbered in
    let before_is : before ≡ next_turns turn.entry.call (ticket + 1) rest =
    read ∙ (get_or_default next turn.entry.call d no_next room_call ∙ of_call turn.entry.call numbered) in
    let its_cpu : All (λ (other : Drawn). other.entry.call ≡ turn.entry.call → other.entry.cpu ≡ turn.entry.cpu) rest =
    All-drop (λ (other : Drawn). other.entry.call ≡ turn.entry.call → other.entry.cpu ≡ turn.entry.cpu) (ticket + 1) turns
    (subst (λ (x : Drawn). All (λ (other : Drawn). other.entry.call ≡ x.entry.call → other.entry.cpu ≡ x.entry.cpu) turns) (sym at) (one_cpu ticket no_turn less)) in
    let mine : Option ℕ = cond (is_inner turn.entry.part) (first_below before turn.lock) None in
    let mine_is : mine ≡ outer_of turns ticket =
    ap (λ (n : NextTurns). cond (is_inner turn.entry.part) (first_below n turn.lock) None) before_is
    ∙ (outer_told turn (ticket + 1) rest its_cpu ∙ ap (λ (x : Drawn). first_from (λ (outer : Drawn). encloses outer x) (ticket + 1) rest) at) in
    record {
      long = length-set outer ticket mine ∙ found.long;
      room = length-set next turn.entry.call (with_turn before turn.lock ticket) ∙ found.room;
      each = λ other from_there within.
          ⊎_elim
          (λ (after : ticket < other). get_or-set_other outer ticket other mine None (λ is. absurd (omega (arith, is, after))) ∙ found.each other (omega (arith, after, from_is)) within)
          (λ (here : other ≤ ticket). let same : other ≡ ticket = omega (arith, here, from_there) in
          ap (λ n. get_or (set outer ticket mine) n None) same ∙ (get_or-set_same outer ticket mine None (subst (λ n. ticket < n) (sym found.long) less) ∙ (mine_is ∙ ap (outer_of turns) (sym same))))
          (cases_lt ticket other);
      later = λ call call_less.
          by_test turn.entry.call call (λ b. get_or (set next turn.entry.call (with_turn before turn.lock ticket)) call no_next ≡ next_of_test b turn.lock call ticket rest)
          (λ is. ap (λ n. get_or (set next turn.entry.call (with_turn before turn.lock ticket)) n no_next) (sym is)
          ∙ (get_or-set_same next turn.entry.call (with_turn before turn.lock ticket) no_next room_call
          ∙ (ap (λ (n : NextTurns). with_turn n turn.lock ticket) before_is ∙ (added turn.lock turn.entry.call ticket rest ∙ ap (λ n. next_of_test true turn.lock n ticket rest) is))))
          (λ other. get_or-set_other next turn.entry.call call (with_turn before turn.lock ticket) no_next (λ is. other (sym is)) ∙ (of_call call call_less ∙ passed turn.lock call ticket rest))
          ∙ ap (next_turns call ticket) (sym left);
    }

-- before any turn, and after all
pub found_none : (turns : List Drawn) (from calls : ℕ) (outer : List (Option ℕ)) (next : List NextTurns) → length turns ≤ from → length outer ≡ length turns → length next ≡ calls → next ≡ replicate calls no_next → AreFound turns from calls outer next
found_none turns from calls outer next past long room none = record {
  long = long;
  room = room;
  each = λ ticket from_there within. absurd (omega (arith, from_there, within, past));
  later = λ call less. ap (λ (l : List NextTurns). get_or l call no_next) none ∙ (get_or-replicate calls call no_next no_next less ∙ ap (next_turns call from) (sym (drop_all from turns past)));
}

pub found_all : (turns : List Drawn) (from calls : ℕ) (outer : List (Option ℕ)) (next : List NextTurns) → from ≡ 0 → AreFound turns from calls outer next → AreOuter turns outer
found_all turns from calls outer next from_is found = record { long = found.long; each = λ ticket within. found.each ticket (omega (arith, from_is)) within }

-- the turn of a ticket, as it is read
pub turn_read : (histories : List LockHistory) (places : List TurnPlace) (ticket : ℕ) (lock : DomainId) (entry : Entry) (d : TurnPlace) → ticket < length places → lock ≡ (history_at histories (get_or places ticket d)).lock
    → entry ≡ entry_at histories (get_or places ticket d) → record { lock = lock; entry = entry } ≡ get_or (turns_at histories places) ticket no_turn
turn_read histories places ticket lock entry d less lock_is entry_is =
    (λ j. record { lock = lock_is j; entry = entry_is j }) ∙ sym (get_or-map (turn_at histories) places ticket d no_turn less)

pub its_call : (turns : List Drawn) (ticket calls : ℕ) (turn : Drawn) → All (λ (drawn : Drawn). drawn.entry.call < calls) turns → ticket < length turns → turn ≡ get_or turns ticket no_turn → turn.entry.call < calls
its_call turns ticket calls turn numbered less at = subst (λ (x : Drawn). x.entry.call < calls) (sym at) (numbered ticket no_turn less)

-- the call of the turn that is looked at has a place
pub call_within : (histories : List LockHistory) (places : List TurnPlace) (ticket calls : ℕ) (next : List NextTurns) (lock : DomainId) (entry : Entry) (d : TurnPlace) → ticket < length places → All (λ (drawn : Drawn). drawn.entry.call < calls) (turns_at histories places) → length next ≡ calls
    → lock ≡ (history_at histories (get_or places ticket d)).lock → entry ≡ entry_at histories (get_or places ticket d) → entry.call < length next
call_within histories places ticket calls next lock entry d less numbered room lock_is entry_is =
    subst (λ n. entry.call < n) (sym room)
    (its_call (turns_at histories places) ticket calls record { lock = lock; entry = entry } numbered (subst (λ n. ticket < n) (sym (length-map places (turn_at histories))) less) (turn_read histories places ticket lock entry d less lock_is entry_is))

-- what is found, by what was told of it
pub found_told : (turns : List Drawn) (ticket calls : ℕ) (outer : List (Option ℕ)) (next : List NextTurns) (turn : Drawn) (before : NextTurns) (mine : Option ℕ) (now : NextTurns) → mine ≡ cond (is_inner turn.entry.part) (first_below before turn.lock) None → now ≡ with_turn before turn.lock ticket
    → AreFound turns ticket calls (set outer ticket (cond (is_inner turn.entry.part) (first_below before turn.lock) None)) (set next turn.entry.call (with_turn before turn.lock ticket)) → AreFound turns ticket calls (set outer ticket mine) (set next turn.entry.call now)
found_told turns ticket calls outer next turn before mine now mine_is now_is found =
    subst (λ (x : Option ℕ). AreFound turns ticket calls (set outer ticket x) (set next turn.entry.call now)) (sym mine_is)
    (subst (λ (x : NextTurns). AreFound turns ticket calls (set outer ticket (cond (is_inner turn.entry.part) (first_below before turn.lock) None)) (set next turn.entry.call x)) (sym now_is) found)

pub found_end : (turns : List Drawn) (ticket from calls : ℕ) (outer : List (Option ℕ)) (next : List NextTurns) → ticket ≡ from → AreFound turns ticket calls outer next → AreFound turns from calls outer next
found_end turns ticket from calls outer next same found = subst (λ n. AreFound turns n calls outer next) same found
