-- The turns that a pass made in one call, from what it knew where a run in serial order had come to a state: they go on from there.
use Rattle.place_table.specs.Passes.{AreCounted}
use Rattle.std.proofs.Common.{◌≡◌, ℕ, ◌<◌, Bool, true, false, cond, ◌||◌, eqb, List, [], ◌∷◌, ◌++◌, length, map, Option, Some, refl, ap, ◌∙◌, sym, subst, append-nil}
use Rattle.std.specs.Prelude.{All, MatchOption}
use Rattle.std.specs.List.{flat_map}
use Rattle.std.proofs.lemmas.List.Elements.{All-head, All-tail}
use Rattle.map_types.specs.declared.attr.Shape.{Shape}
use Rattle.map_types.specs.declared.kind.DomainId.{DomainId}
use Rattle.map_types.proofs.RowLemmas.{by_test}
use Rattle.place_words.specs.declared.history.Entry.{Entry}
use Rattle.place_words.specs.declared.history.Part.{Part}
use Rattle.place_words.specs.declared.history.Part.TheVariants as parts
use Rattle.place_words.specs.declared.visits.Visit.{Visit}
use Rattle.place_words.specs.Choices.{among, with_bits, without_bits}
use Rattle.place_words.specs.Histories.{content, Allows, marks, bits_cleared, bits_read, also_cleared, clears}
use Rattle.place_words.specs.Locks.{is_same_lock, lock_named}
use Rattle.place_words.specs.Logs.{State, turned, all_turned}
use Rattle.place_words.specs.Rotation.{visited_elements}
use Rattle.place_words.proofs.LockLemmas.{one_number, same_lock, other_lock}
use Rattle.place_words.proofs.ElementLemmas.{at_put}
use Rattle.place_table.specs.declared.view.Turned.{Turned}
use Rattle.place_table.specs.Calls.{reads_bit, sets_bit, clears_found, clears_bit, bits_of_part}
use Rattle.place_table.specs.Known.{BitTouch, bit_then, bit_after_all, SeesBit, SeesOn, SeeOn, log_after, logs_after, FollowOn, turn_of, turn_at, IsBy}
use Rattle.place_table.specs.Views.{place_of, kept_step}
use Rattle.place_table.proofs.Going.{bit_append}
use Rattle.map_report.specs.Runs.{steps_of_turns}
use Rattle.serial_laws.proofs.BitsRead.{ReadBits, ReadsBits}
use Rattle.serial_laws.proofs.TurnsMade.{FindBits, AreMade, EachTurn, cleared_both}

-- Bits

-- what is known of some elements
abbrev pub BitsAre : ℕ → (ℕ → Option Bool) → (ℕ → Bool) → Type 0
BitsAre n known bits = (e : ℕ) → e < n → known e ≡ Some (bits e)

see_both : (e : ℕ) (known : Option Bool) (first second : List BitTouch) → SeeOn e known (first ++ second) → SeeOn e known first × SeeOn e (bit_after_all e known first) second
see_both e known [] second see = (tt, see)
see_both e known (touch ∷ touches) second see = let rest = see_both e (bit_then e known touch) touches second see.1 in ((see.0, rest.0), rest.1)

chosen_some : (b x y : Bool) → cond b (Some x) (Some y) ≡ Some (cond b x y)
chosen_some true x y = refl
chosen_some false x y = refl

-- after some steps of one kind: all of them leave the same
after_these : {A : Type 0} (touch : A → BitTouch) (named : A → ℕ) (left : Bool) → ((x : A) → (touch x).element ≡ named x) → ((x : A) → (touch x).left ≡ left) → (xs : List A) (e : ℕ) (b : Bool)
    → bit_after_all e (Some b) (map touch xs) ≡ Some (cond (among (map named xs) e) left b)
after_these touch named left names leaves [] e b = refl
after_these touch named left names leaves (x ∷ xs) e b =
    first ∙ after_these touch named left names leaves xs e (cond (eqb (named x) e) left b) ∙ ap Some (joined (eqb (named x) e) (among (map named xs) e))
  where
    first : bit_after_all e (bit_then e (Some b) (touch x)) (map touch xs) ≡ bit_after_all e (Some (cond (eqb (named x) e) left b)) (map touch xs)
    first = ap (λ (o : Option Bool). bit_after_all e o (map touch xs)) ((λ i. cond (eqb (names x i) e) (Some (leaves x i)) (Some b)) ∙ chosen_some (eqb (named x) e) left b)

    joined : (c d : Bool) → cond d left (cond c left b) ≡ cond (c || d) left b
    joined true true = refl
    joined true false = refl
    joined false d = refl

same_names : (es : List ℕ) → map (λ (e : ℕ). e) es ≡ es
same_names [] = refl
same_names (e ∷ es) = ap (λ (l : List ℕ). e ∷ l) (same_names es)

after_marks : (es : List ℕ) (e : ℕ) (b : Bool) → bit_after_all e (Some b) (map sets_bit es) ≡ Some (cond (among es e) true b)
after_marks es e b = after_these sets_bit (λ x. x) true (λ x. refl) (λ x. refl) es e b ∙ ap (λ (l : List ℕ). Some (cond (among l e) true b)) (same_names es)

after_found : (visits : List Visit) (e : ℕ) (b : Bool) → bit_after_all e (Some b) (map clears_found visits) ≡ Some (cond (among (visited_elements visits) e) false b)
after_found visits e b = after_these clears_found (λ (visit : Visit). visit.element) false (λ visit. refl) (λ visit. refl) visits e b

after_clears : (es : List ℕ) (e : ℕ) (b : Bool) → bit_after_all e (Some b) (map clears_bit es) ≡ Some (cond (among es e) false b)
after_clears es e b = after_these clears_bit (λ x. x) false (λ x. refl) (λ x. refl) es e b ∙ ap (λ (l : List ℕ). Some (cond (among l e) false b)) (same_names es)

-- after marks alone, and after clears alone
after_only_marks : (es : List ℕ) (e : ℕ) (b : Bool) → bit_after_all e (Some b) ((map sets_bit es ++ map clears_found []) ++ map clears_bit []) ≡ Some (cond (among es e) true b)
after_only_marks es e b = bit_append e (Some b) (map sets_bit es ++ []) [] ∙ bit_append e (Some b) (map sets_bit es) [] ∙ after_marks es e b

after_only_clears : (visits : List Visit) (es : List ℕ) (e : ℕ) (b : Bool) → bit_after_all e (Some b) (map clears_found visits ++ map clears_bit es) ≡ Some (cond (among (visited_elements visits ++ es) e) false b)
after_only_clears visits es e b =
    bit_append e (Some b) (map clears_found visits) (map clears_bit es)
    ∙ ap (λ (o : Option Bool). bit_after_all e o (map clears_bit es)) (after_found visits e b)
    ∙ after_clears es e (cond (among (visited_elements visits) e) false b)
    ∙ ap Some (cleared_both e (visited_elements visits) es b)

-- reads leave each bit as they find it
read_then : (visit : Visit) (e : ℕ) (b : Bool) → SeesOn e (Some b) (reads_bit visit) → bit_then e (Some b) (reads_bit visit) ≡ Some b
read_then visit e b sees = by_test visit.element e (λ c. cond c (Some visit.bit) (Some b) ≡ Some b) (λ here. ap Some (sees here)) (λ other. refl)

after_reads : (visits : List Visit) (e : ℕ) (b : Bool) → SeeOn e (Some b) (map reads_bit visits) → bit_after_all e (Some b) (map reads_bit visits) ≡ Some b
after_reads [] e b see = refl
after_reads (visit ∷ visits) e b see =
    let same = read_then visit e b see.0 in
    ap (λ (o : Option Bool). bit_after_all e o (map reads_bit visits)) same ∙ after_reads visits e b (subst (λ (o : Option Bool). SeeOn e o (map reads_bit visits)) same see.1)

-- the steps of a turn of local lists: those that it read come first
reads_of : (visits : List Visit) (es : List ℕ) → ((map reads_bit visits ++ map sets_bit []) ++ map clears_found []) ++ map clears_bit es ≡ map reads_bit visits ++ map clears_bit es
reads_of visits es = ap (λ (l : List BitTouch). l ++ map clears_bit es) (append-nil (map reads_bit visits ++ []) ∙ append-nil (map reads_bit visits))

after_reads_and_clears : (visits : List Visit) (es : List ℕ) (e : ℕ) (b : Bool) → SeeOn e (Some b) (map reads_bit visits ++ map clears_bit es) → bit_after_all e (Some b) (map reads_bit visits ++ map clears_bit es) ≡ Some (cond (among es e) false b)
after_reads_and_clears visits es e b see =
    bit_append e (Some b) (map reads_bit visits) (map clears_bit es)
    ∙ ap (λ (o : Option Bool). bit_after_all e o (map clears_bit es)) (after_reads visits e b (see_both e (Some b) (map reads_bit visits) (map clears_bit es) see).0)
    ∙ after_clears es e b

-- what a turn tells of bits leads to what it leaves, where it goes on from what was there
part_bits : (shape : Shape) (part : Part) (bits : ℕ → Bool) (e : ℕ) → SeeOn e (Some (bits e)) (bits_of_part shape part) → bit_after_all e (Some (bits e)) (bits_of_part shape part) ≡ Some (with_bits (marks shape part) (without_bits (clears part) bits) e)
part_bits shape (parts.Bucket part) bits e see = after_only_marks (marks shape (parts.Bucket part)) e (bits e)
part_bits shape (parts.Free part) bits e see = refl
part_bits shape (parts.Local part) bits e see =
    let told = reads_of (bits_read (parts.Local part)) (also_cleared (parts.Local part)) in
    ap (bit_after_all e (Some (bits e))) told
    ∙ after_reads_and_clears (bits_read (parts.Local part)) (also_cleared (parts.Local part)) e (bits e) (subst (SeeOn e (Some (bits e))) told see)
part_bits shape (parts.Global part) bits e see = after_only_clears (bits_cleared (parts.Global part)) (also_cleared (parts.Global part)) e (bits e)
part_bits shape (parts.Own part) bits e see = after_only_clears (bits_cleared (parts.Own part)) (also_cleared (parts.Own part)) e (bits e)

-- visits whose clears go on from what was known find these bits
finds : (n : ℕ) (known : ℕ → Option Bool) (bits : ℕ → Bool) (visits : List Visit) → BitsAre n known bits → ((e : ℕ) → SeeOn e (known e) (map clears_found visits)) → FindBits n bits visits
finds n known bits [] are see = tt
finds n known bits (visit ∷ visits) are see = (
  λ real. subst (λ (o : Option Bool). MatchOption o (Unit {0}) (SeesBit (Some visit.bit))) (are visit.element real) ((see visit.element).0 refl),
  finds n (λ e. bit_then e (known e) (clears_found visit)) (without_bits (visit.element ∷ []) bits) visits then_are (λ e. (see e).1),
)
  where
    chosen : (b c : Bool) (o : Option Bool) → o ≡ Some c → cond b (Some false) o ≡ Some (cond (b || false) false c)
    chosen true c o is = refl
    chosen false c o is = is

    then_are : BitsAre n (λ e. bit_then e (known e) (clears_found visit)) (without_bits (visit.element ∷ []) bits)
    then_are e real = chosen (eqb visit.element e) (bits e) (known e) (are e real)

part_finds : (shape : Shape) (part : Part) (n : ℕ) (known : ℕ → Option Bool) (bits : ℕ → Bool) → BitsAre n known bits → ((e : ℕ) → SeeOn e (known e) (bits_of_part shape part)) → FindBits n bits (bits_cleared part)
part_finds shape (parts.Bucket part) n known bits are see = tt
part_finds shape (parts.Free part) n known bits are see = tt
part_finds shape (parts.Local part) n known bits are see = tt
part_finds shape (parts.Global part) n known bits are see =
    finds n known bits (bits_cleared (parts.Global part)) are (λ e. (see_both e (known e) (map clears_found (bits_cleared (parts.Global part))) (map clears_bit (also_cleared (parts.Global part))) (see e)).0)
part_finds shape (parts.Own part) n known bits are see =
    finds n known bits (bits_cleared (parts.Own part)) are (λ e. (see_both e (known e) (map clears_found (bits_cleared (parts.Own part))) (map clears_bit (also_cleared (parts.Own part))) (see e)).0)

-- and visits that are read tell these bits
reads : (n : ℕ) (known : ℕ → Option Bool) (bits : ℕ → Bool) (visits : List Visit) → BitsAre n known bits → ((e : ℕ) → SeeOn e (known e) (map reads_bit visits)) → ReadBits n bits visits
reads n known bits [] are see = tt
reads n known bits (visit ∷ visits) are see = (seen, reads n (λ e. bit_then e (known e) (reads_bit visit)) bits visits then_are (λ e. (see e).1))
  where
    seen : visit.element < n → visit.bit ≡ bits visit.element
    seen real = subst (λ (o : Option Bool). MatchOption o (Unit {0}) (SeesBit (Some visit.bit))) (are visit.element real) ((see visit.element).0 refl)

    then_are : BitsAre n (λ e. bit_then e (known e) (reads_bit visit)) bits
    then_are e real =
        by_test visit.element e (λ c. cond c (Some visit.bit) (known e) ≡ Some (bits e))
        (λ here. subst (λ (x : ℕ). Some visit.bit ≡ Some (bits x)) here (ap Some (seen (subst (λ (x : ℕ). x < n) (sym here) real))))
        (λ other. are e real)

part_reads : (shape : Shape) (part : Part) (n : ℕ) (known : ℕ → Option Bool) (bits : ℕ → Bool) → BitsAre n known bits → ((e : ℕ) → SeeOn e (known e) (bits_of_part shape part)) → ReadBits n bits (bits_read part)
part_reads shape (parts.Bucket part) n known bits are see = tt
part_reads shape (parts.Free part) n known bits are see = tt
part_reads shape (parts.Local part) n known bits are see =
    reads n known bits (bits_read (parts.Local part)) are
    (λ e.
    (see_both e (known e) (map reads_bit (bits_read (parts.Local part))) (map clears_bit (also_cleared (parts.Local part)))
    (subst (SeeOn e (known e)) (reads_of (bits_read (parts.Local part)) (also_cleared (parts.Local part))) (see e))).0)
part_reads shape (parts.Global part) n known bits are see = tt
part_reads shape (parts.Own part) n known bits are see = tt

-- Logs

abbrev pub LogsAre : Shape → (ℕ → List Entry) → State → Type 0
LogsAre shape logs state = (k : ℕ) → logs k ≡ state.logs (lock_named shape k)

abbrev pub AllBy : ℕ → ℕ → List Turned → Type 0
AllBy cpu number steps = All (IsBy cpu number) steps

module _ (shape : Shape) (cpu number : ℕ) where
  logs_more : (logs : ℕ → List Entry) (state : State) (step : Turned) → IsBy cpu number step → step.entry.ticket ≡ state.next_ticket → LogsAre shape logs state → LogsAre shape (log_after logs step) (turned shape cpu number (turn_of shape step) state)
  logs_more logs state step by its are k =
      at_put logs step.lock (logs step.lock ++ step.entry ∷ []) (λ j l. l ≡ cond (is_same_lock (lock_named shape step.lock) (lock_named shape j)) (state.logs (lock_named shape j) ++ entry_then ∷ []) (state.logs (lock_named shape j))) k
      ((λ i. are step.lock i ++ entry_is i ∷ []) ∙ sym (ap (λ (b : Bool). cond b (state.logs (lock_named shape step.lock) ++ entry_then ∷ []) (state.logs (lock_named shape step.lock))) (same_lock (lock_named shape step.lock))))
      (λ other.
      are k ∙ sym (ap (λ (b : Bool). cond b (state.logs (lock_named shape k) ++ entry_then ∷ []) (state.logs (lock_named shape k)))
      (other_lock (lock_named shape step.lock) (lock_named shape k) (λ same. other (sym (one_number shape step.lock k same))))))
    where
      entry_then : Entry
      entry_then = record { ticket = state.next_ticket; cpu = cpu; call = number; part = step.entry.part }

      entry_is : step.entry ≡ entry_then
      entry_is = (λ i. record { ticket = its i; cpu = by.0 i; call = by.1 i; part = step.entry.part })

  abbrev pub touches_of : List Turned → List BitTouch
  touches_of steps = flat_map (λ (step : Turned). bits_of_part shape step.entry.part) steps

  abbrev pub state_then : List Turned → State → State
  state_then steps state = all_turned shape cpu number (map (turn_of shape) steps) state

  -- these turns were made from this state on, and lead to what is known then
  pub record GoOnBy (steps : List Turned) (state : State) (logs : ℕ → List Entry) (known : ℕ → Option Bool) (last : ℕ) : Type 0 where
    pub counted : last ≡ (state_then steps state).next_ticket
    pub made : AreMade shape cpu number (map (turn_at shape) steps) state
    pub read : EachTurn (ReadsBits shape) shape cpu number (map (turn_at shape) steps) state
    pub logs_are : LogsAre shape (logs_after logs steps) (state_then steps state)
    pub bits_are : BitsAre shape.elements (λ e. bit_after_all e (known e) (touches_of steps)) (state_then steps state).bits
    pub steps_are : map (λ (step : Turned). kept_step shape step.lock (place_of step)) steps ≡ steps_of_turns shape cpu number (map (turn_of shape) steps) state

  pub made_by : (steps : List Turned) (state : State) (logs : ℕ → List Entry) (known : ℕ → Option Bool) (last : ℕ) → AreCounted state.next_ticket steps last → LogsAre shape logs state → BitsAre shape.elements known state.bits → FollowOn shape logs steps
      → ((e : ℕ) → SeeOn e (known e) (touches_of steps)) → AllBy cpu number steps → GoOnBy steps state logs known last
  made_by [] state logs known last count are bits follow see by = record { counted = count; made = tt; read = tt; logs_are = are; bits_are = bits; steps_are = refl }
  made_by (step ∷ steps) state logs known last count are bits follow see by =
      let by_here : IsBy cpu number step = All-head (IsBy cpu number) step steps by in
      let part : Part = step.entry.part in
      let lock : DomainId = lock_named shape step.lock in
      let next : State = turned shape cpu number (turn_of shape step) state in
      let earlier : step.earlier ≡ state.logs lock = follow.0.earlier_is ∙ are step.lock in
      let apart = λ (e : ℕ). see_both e (known e) (bits_of_part shape part) (touches_of steps) (see e) in
      let allowed : Allows shape cpu part (content shape lock (state.logs lock)) =
      subst (λ (l : List Entry). Allows shape cpu part (content shape lock l)) (are step.lock)
      (subst (λ (c : ℕ). Allows shape c part (content shape lock (logs step.lock))) by_here.0 follow.0.allowed) in
      let bits_next : BitsAre shape.elements (λ e. bit_after_all e (known e) (bits_of_part shape part)) next.bits =
      (λ e real. ap (λ (o : Option Bool). bit_after_all e o (bits_of_part shape part)) (bits e real)
      ∙ part_bits shape part state.bits e (subst (λ (o : Option Bool). SeeOn e o (bits_of_part shape part)) (bits e real) (apart e).0)) in
      let rest = made_by steps next (log_after logs step) (λ e. bit_after_all e (known e) (bits_of_part shape part)) last count.1 (logs_more logs state step by_here count.0 are) bits_next follow.1 (λ e. (apart e).1) (All-tail (IsBy cpu number) step steps by) in
      record {
        counted = rest.counted;
        made = (record { there = follow.0.there; earlier = earlier; allowed = allowed; bits = part_finds shape part shape.elements known state.bits bits (λ e. (apart e).0) }, rest.made);
        read = (part_reads shape part shape.elements known state.bits bits (λ e. (apart e).0), rest.read);
        logs_are = rest.logs_are;
        bits_are = λ e real. bit_append e (known e) (bits_of_part shape part) (touches_of steps) ∙ rest.bits_are e real;
        steps_are = (λ i. record { lock = lock; index = length (earlier i) } ∷ rest.steps_are i);
      }
