-- The locks that are taken for a turn, and which turns have begun then.
use Rattle.std.proofs.Common.{◌≡◌, ℕ, ◌<◌, All, Bool, true, false, not, cond, eqb, ◌||◌, Option, None, Some, List, [], ◌∷◌, ◌++◌, length, get_or, set, map, refl, ap, ◌∙◌, sym, subst, arith}
use Rattle.std.specs.List.{range_with_len}
use Rattle.std.proofs.lemmas.List.{get_or-set_same, get_or-set_other, get_or_default, length-map, length-set, map-append}
use Rattle.std.proofs.lemmas.List.Elements.{All-head, All-tail, filter-append}
use Rattle.map_types.proofs.RowLemmas.{by_test}
use Rattle.map_types.specs.declared.kind.DomainId.{DomainId}
use Rattle.place_words.specs.declared.history.Entry.{Entry}
use Rattle.place_words.specs.Choices.{among}
use Rattle.place_words.specs.Interleaving.{Drawn, Event, not_begun, takes, tickets_of}
use Rattle.place_words.specs.declared.history.LockHistory.{LockHistory}
use Rattle.step_check.specs.declared.places.TurnPlace.{TurnPlace}
use Rattle.step_check.specs.declared.takes.Turns.{Turns}
use Rattle.step_check.specs.Begun.{AreBegun, AreTurns, HasTaken, around_in, turn_in, turns_of}
use Rattle.step_check.specs.Outer.{outer_of}
use Rattle.step_check.specs.Places.{IsPlace, entry_at, history_at, no_turn, turn_at}
use Rattle.step_check.proofs.Enclosing.{HasOuter, around_later, around_none, around_some, its_ticket}
use Rattle.step_check.proofs.OuterTurns.{turn_read}
use Rattle.step_check.specs.Ran.{Ran}
use Rattle.step_check.specs.WordsView.{WordsView, AreWords}
use Rattle.step_check.proofs.RunLemmas.{ran_none, ran_then, ran_not}

swapped : (p q r : Bool) → (p || (q || r)) ≡ (q || (p || r))
swapped true true r = refl
swapped true false r = refl
swapped false q r = refl

-- what is among tickets, with those of a turn at the end or at the front
among_last : (turns : List Drawn) (turn : Drawn) (ticket : ℕ) (begun : List ℕ) (k : ℕ) → turn.entry.ticket ≡ ticket → among (tickets_of (turns ++ turn ∷ []) ++ begun) k ≡ among (ticket ∷ (tickets_of turns ++ begun)) k
among_last [] turn ticket begun k own = ap (λ n. eqb n k || among begun k) own
among_last (first ∷ turns) turn ticket begun k own =
    ap (λ b. eqb first.entry.ticket k || b) (among_last turns turn ticket begun k own) ∙ swapped (eqb first.entry.ticket k) (eqb ticket k) (among (tickets_of turns ++ begun) k)

-- a ticket that comes before those of these turns isn't among them
among_later : (turns : List Drawn) (ticket : ℕ) (begun : List ℕ) → All (λ (drawn : Drawn). ticket < drawn.entry.ticket) turns → among (tickets_of turns ++ begun) ticket ≡ among begun ticket
among_later [] ticket begun later = refl
among_later (first ∷ turns) ticket begun later =
    by_test first.entry.ticket ticket (λ b. (b || among (tickets_of turns ++ begun) ticket) ≡ among begun ticket)
    (λ is. absurd (let less : ticket < first.entry.ticket = All-head (λ (drawn : Drawn). ticket < drawn.entry.ticket) first turns later in omega (arith, is, less)))
    (λ other. among_later turns ticket begun (All-tail (λ (drawn : Drawn). ticket < drawn.entry.ticket) first turns later))

pub last_begun : (turns : List Drawn) (turn : Drawn) (ticket : ℕ) (begun : List ℕ) (bits : List Bool) → turn.entry.ticket ≡ ticket → AreBegun (ticket ∷ (tickets_of turns ++ begun)) bits → AreBegun (tickets_of (turns ++ turn ∷ []) ++ begun) bits
last_begun turns turn ticket begun bits own are k less = are k less ∙ sym (among_last turns turn ticket begun k own)

-- one turn whose lock may have been taken
one_new : (begun : List ℕ) (turn : Drawn) (b : Bool) → among begun turn.entry.ticket ≡ b → map takes (not_begun begun (turn ∷ [])) ≡ cond b [] (takes turn ∷ [])
one_new begun turn true has = ap (λ b. map takes (cond (not b) (turn ∷ []) [])) has
one_new begun turn false has = ap (λ b. map takes (cond (not b) (turn ∷ []) [])) has

begun_more : (begun : List ℕ) (bits now : List Bool) (ticket : ℕ) → AreBegun begun bits → length now ≡ length bits → ticket < length bits → get_or now ticket false ≡ true → ((k : ℕ) → (k ≡ ticket → ⊥) → get_or now k false ≡ get_or bits k false) → AreBegun (ticket ∷ begun) now
begun_more begun bits now ticket are long less is others k within =
    by_test ticket k (λ b. get_or now k false ≡ (b || among begun k))
    (λ same. ap (λ n. get_or now n false) (sym same) ∙ is)
    (λ other. others k (λ same. other (sym same)) ∙ are k (subst (λ n. k < n) long within))

-- a turn that has begun
pub took_before : (begun : List ℕ) (turn : Drawn) (ticket : ℕ) (kept : WordsView) (bits : List Bool) → AreWords kept → turn.entry.ticket ≡ ticket → ticket < length bits → get_or bits ticket false ≡ true → AreBegun begun bits
    → HasTaken begun (ticket ∷ begun) (turn ∷ []) kept kept bits true
took_before begun turn ticket kept bits are own less has begun_are = record {
  ran = subst (λ (es : List Event). Ran kept es kept true) (sym (one_new begun turn true (ap (among begun) own ∙ (sym (begun_are ticket less) ∙ has)))) (ran_none kept are);
  marked = λ yes. begun_more begun bits bits ticket begun_are refl less has (λ k other. refl);
}

-- and one that hasn't
pub took_one : (begun : List ℕ) (turn : Drawn) (ticket : ℕ) (before now : WordsView) (bits : List Bool) (answer : Bool) → turn.entry.ticket ≡ ticket → ticket < length bits → get_or bits ticket false ≡ false → Ran before (takes turn ∷ []) now answer → AreBegun begun bits
    → HasTaken begun (ticket ∷ begun) (turn ∷ []) before now (set bits ticket true) answer
took_one begun turn ticket before now bits answer own less has ran begun_are = record {
  ran = subst (λ (es : List Event). Ran before es now answer) (sym (one_new begun turn false (ap (among begun) own ∙ (sym (begun_are ticket less) ∙ has)))) ran;
  marked = λ yes. begun_more begun bits (set bits ticket true) ticket begun_are (length-set bits ticket true) less (get_or-set_same bits ticket true false less) (λ k other. get_or-set_other bits ticket k true false other);
}

-- no turn
pub took_none : (begun : List ℕ) (turns : List Drawn) (kept : WordsView) (bits : List Bool) → AreWords kept → turns ≡ [] → AreBegun begun bits → HasTaken begun (tickets_of turns ++ begun) turns kept kept bits true
took_none begun turns kept bits are none begun_are =
    subst (λ (l : List Drawn). HasTaken begun (tickets_of l ++ begun) l kept kept bits true) (sym none) record { ran = ran_none kept are; marked = λ yes. begun_are }

both_new : (begun : List ℕ) (turns : List Drawn) (turn : Drawn) → map takes (not_begun begun (turns ++ turn ∷ [])) ≡ map takes (not_begun begun turns) ++ map takes (not_begun begun (turn ∷ []))
both_new begun turns turn =
    ap (map takes) (filter-append (λ (drawn : Drawn). not (among begun drawn.entry.ticket)) turns (turn ∷ [])) ∙ map-append takes (not_begun begun turns) (not_begun begun (turn ∷ []))

-- turns, and then one that comes before them all
pub took_not : (begun middle then : List ℕ) (turns : List Drawn) (turn : Drawn) (before now : WordsView) (bits : List Bool) (answer : Bool) → HasTaken begun middle turns before now bits answer → answer ≡ false → HasTaken begun then (turns ++ turn ∷ []) before now bits false
took_not begun middle then turns turn before now bits answer took fails = record {
  ran = subst (λ (es : List Event). Ran before es now false) (sym (both_new begun turns turn))
      (ran_not before now (map takes (not_begun begun turns)) (map takes (not_begun begun (turn ∷ []))) (subst (λ b. Ran before (map takes (not_begun begun turns)) now b) fails took.ran));
  marked = λ yes. absurd (cc);
}

pub took_both : (begun : List ℕ) (turns : List Drawn) (turn : Drawn) (ticket : ℕ) (before middle now : WordsView) (bits after : List Bool) (answer last : Bool) → turn.entry.ticket ≡ ticket → All (λ (drawn : Drawn). ticket < drawn.entry.ticket) turns
    → HasTaken begun (tickets_of turns ++ begun) turns before middle bits answer → answer ≡ true → (AreBegun (tickets_of turns ++ begun) bits → HasTaken (tickets_of turns ++ begun) (ticket ∷ (tickets_of turns ++ begun)) (turn ∷ []) middle now after last)
    → HasTaken begun (ticket ∷ (tickets_of turns ++ begun)) (turns ++ turn ∷ []) before now after last
took_both begun turns turn ticket before middle now bits after answer last own later took holds then =
    let more : HasTaken (tickets_of turns ++ begun) (ticket ∷ (tickets_of turns ++ begun)) (turn ∷ []) middle now after last = then (took.marked holds) in
    let same : map takes (not_begun (tickets_of turns ++ begun) (turn ∷ [])) ≡ map takes (not_begun begun (turn ∷ [])) =
    ap (λ b. map takes (cond (not b) (turn ∷ []) []))
    (among_later turns turn.entry.ticket begun (subst (λ n. All (λ (drawn : Drawn). n < drawn.entry.ticket) turns) (sym own) later)) in
    record {
      ran = subst (λ (es : List Event). Ran before es now last) (sym (both_new begun turns turn))
          (ran_then before middle now (map takes (not_begun begun turns)) (map takes (not_begun begun (turn ∷ []))) last
          (subst (λ b. Ran before (map takes (not_begun begun turns)) middle b) holds took.ran)
          (subst (λ (es : List Event). Ran middle es now last) same more.ran));
      marked = more.marked;
    }

-- The turn of a ticket

pub as_many_turns : (histories : List LockHistory) (turns : Turns) → length (turns_of histories turns) ≡ length turns.places.items
as_many_turns histories turns = length-map turns.places.items (turn_at histories)

pub own_ticket : (histories : List LockHistory) (turns : Turns) (ticket : ℕ) → AreTurns histories turns → ticket < length turns.places.items → (turn_in (turns_of histories turns) ticket).entry.ticket ≡ ticket
own_ticket histories turns ticket are less =
    its_ticket (turns_of histories turns) no_turn (are.tickets ∙ ap (range_with_len 0) (sym (as_many_turns histories turns))) ticket (subst (λ n. ticket < n) (sym (as_many_turns histories turns)) less)

pub around_after : (histories : List LockHistory) (turns : Turns) (ticket : ℕ) → AreTurns histories turns → All (λ (drawn : Drawn). ticket < drawn.entry.ticket) (around_in (turns_of histories turns) ticket)
around_after histories turns ticket are = around_later (turns_of histories turns) ticket (are.tickets ∙ ap (range_with_len 0) (sym (as_many_turns histories turns)))

pub turn_told : (histories : List LockHistory) (turns : Turns) (ticket : ℕ) (place d : TurnPlace) (lock : DomainId) (entry : Entry) → ticket < length turns.places.items → place ≡ get_or turns.places.items ticket d → lock ≡ (history_at histories place).lock → entry ≡ entry_at histories place
    → record { lock = lock; entry = entry } ≡ turn_in (turns_of histories turns) ticket
turn_told histories turns ticket place d lock entry less place_is lock_is entry_is =
    turn_read histories turns.places.items ticket lock entry d less (lock_is ∙ ap (λ (p : TurnPlace). (history_at histories p).lock) place_is) (entry_is ∙ ap (entry_at histories) place_is)

-- which turn encloses it, as it is read
outer_read : (histories : List LockHistory) (turns : Turns) (ticket : ℕ) (found d : Option ℕ) → AreTurns histories turns → ticket < length turns.places.items → found ≡ get_or turns.outer.items ticket d → outer_of (turns_of histories turns) ticket ≡ found
outer_read histories turns ticket found d are less read =
    let within : ticket < length (turns_of histories turns) = subst (λ n. ticket < n) (sym (as_many_turns histories turns)) less in
    sym (are.outer.each ticket within) ∙ (get_or_default turns.outer.items ticket None d (subst (λ n. ticket < n) (sym are.outer.long) within) ∙ sym read)

pub outer_told_none : (histories : List LockHistory) (turns : Turns) (ticket : ℕ) (found d : Option ℕ) → AreTurns histories turns → ticket < length turns.places.items → found ≡ get_or turns.outer.items ticket d → found ≡ None → around_in (turns_of histories turns) ticket ≡ []
outer_told_none histories turns ticket found d are less read none =
    around_none (turns_of histories turns) ticket (outer_read histories turns ticket found d are less read ∙ none)

pub outer_told_some : (histories : List LockHistory) (turns : Turns) (ticket outer : ℕ) (found d : Option ℕ) → AreTurns histories turns → ticket < length turns.places.items → found ≡ get_or turns.outer.items ticket d → found ≡ Some outer → HasOuter (turns_of histories turns) ticket outer
outer_told_some histories turns ticket outer found d are less read one =
    around_some (turns_of histories turns) ticket outer (outer_read histories turns ticket found d are less read ∙ one)

pub outer_within : (histories : List LockHistory) (turns : Turns) (ticket outer : ℕ) → HasOuter (turns_of histories turns) ticket outer → outer < length turns.places.items
outer_within histories turns ticket outer has = subst (λ n. outer < n) (as_many_turns histories turns) has.within

-- What encloses a turn, outermost first: what encloses the innermost one, and then that.
pub took_around_not : (turns : List Drawn) (ticket outer : ℕ) (begun : List ℕ) (before now : WordsView) (bits : List Bool) (answer : Bool) → HasOuter turns ticket outer → HasTaken begun (tickets_of (around_in turns outer) ++ begun) (around_in turns outer) before now bits answer → answer ≡ false
    → HasTaken begun (tickets_of (around_in turns ticket) ++ begun) (around_in turns ticket) before now bits false
took_around_not turns ticket outer begun before now bits answer has took fails =
    subst (λ (l : List Drawn). HasTaken begun (tickets_of l ++ begun) l before now bits false) (sym has.around)
    (took_not begun (tickets_of (around_in turns outer) ++ begun) (tickets_of (around_in turns outer ++ turn_in turns outer ∷ []) ++ begun) (around_in turns outer) (turn_in turns outer) before now bits answer took fails)

pub took_around : (turns : List Drawn) (ticket outer : ℕ) (begun : List ℕ) (before middle now : WordsView) (bits after : List Bool) (answer last : Bool) → HasOuter turns ticket outer → (turn_in turns outer).entry.ticket ≡ outer
    → All (λ (drawn : Drawn). outer < drawn.entry.ticket) (around_in turns outer) → HasTaken begun (tickets_of (around_in turns outer) ++ begun) (around_in turns outer) before middle bits answer → answer ≡ true
    → (AreBegun (tickets_of (around_in turns outer) ++ begun) bits → HasTaken (tickets_of (around_in turns outer) ++ begun) (outer ∷ (tickets_of (around_in turns outer) ++ begun)) (turn_in turns outer ∷ []) middle now after last)
    → HasTaken begun (tickets_of (around_in turns ticket) ++ begun) (around_in turns ticket) before now after last
took_around turns ticket outer begun before middle now bits after answer last has own later took holds then =
    let both : HasTaken begun (outer ∷ (tickets_of (around_in turns outer) ++ begun)) (around_in turns outer ++ turn_in turns outer ∷ []) before now after last =
    took_both begun (around_in turns outer) (turn_in turns outer) outer before middle now bits after answer last own later took holds then in
    subst (λ (l : List Drawn). HasTaken begun (tickets_of l ++ begun) l before now after last) (sym has.around)
    record { ran = both.ran; marked = λ yes. last_begun (around_in turns outer) (turn_in turns outer) outer begun after own (both.marked yes) }

pub place_told : (histories : List LockHistory) (turns : Turns) (ticket : ℕ) (place d : TurnPlace) → AreTurns histories turns → ticket < length turns.places.items → place ≡ get_or turns.places.items ticket d → IsPlace histories place
place_told histories turns ticket place d are less place_is = subst (IsPlace histories) (sym place_is) (are.real ticket d less)

pub lock_told : (histories : List LockHistory) (turns : Turns) (ticket : ℕ) (place d : TurnPlace) (lock : DomainId) → ticket < length turns.places.items → place ≡ get_or turns.places.items ticket d → lock ≡ (history_at histories place).lock → lock ≡ (turn_in (turns_of histories turns) ticket).lock
lock_told histories turns ticket place d lock less place_is lock_is =
    ap (λ (x : Drawn). x.lock) (turn_told histories turns ticket place d lock (entry_at histories place) less place_is lock_is refl)
