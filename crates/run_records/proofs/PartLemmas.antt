-- Strands that are cut into parts.
use Rattle.std.proofs.Common.{◌≡◌, ℕ, zero, suc, ◌+◌, ◌<◌, ◌≤◌, Bool, true, false, not, cond, eqb, List, [], ◌∷◌, ◌++◌, length, map, take, drop, Some, None, refl, ap, sym, ◌∙◌, subst, arith, append-nil, append_assoc, ◌⊎◌, inl, inr}
use Rattle.std.specs.Prelude.{All, filter, slice_get}
use Rattle.std.specs.List.{AllByRecursion, flat_map, range_with_len}
use Rattle.std.proofs.lemmas.Bool.{ne_eqb, eq-eqb, lt-ltb, le-ltb}
use Rattle.std.proofs.lemmas.List.{map-append, length-append, length-map, take_at, drop_at}
use Rattle.std.proofs.lemmas.List.Elements.{All-map, All-weaker, All-from_recursion, recursion_from_All, filter_passes, All-nil, All-cons, All-head, All-tail, All-append, All-filter, filter-append}
use Rattle.std.proofs.lemmas.Option.{none-some, same_Some, slice_get_within}
use Rattle.std.proofs.lemmas.List.Concat.{flat_map-append}
use Rattle.map_types.specs.declared.attr.Shape.{Shape}
use Rattle.map_types.specs.declared.kind.DomainId.{DomainId}
use Rattle.map_types.specs.Shape.{HasBounds}
use Rattle.place_words.specs.declared.history.Entry.{Entry}
use Rattle.place_words.specs.declared.history.Strand.{Strand}
use Rattle.place_words.specs.declared.history.StrandStep.{StrandStep}
use Rattle.place_words.specs.Locks.{is_same_lock, lock_named}
use Rattle.place_words.specs.Strands.{places_on}
use Rattle.place_table.specs.declared.view.Ended.{Ended}
use Rattle.place_table.specs.declared.view.Turned.{Turned}
use Rattle.place_table.specs.declared.view.WordStep.{WordStep}
use Rattle.place_table.specs.Closing.{ClosedView, IsClosed, strand_told, strands_told}
use Rattle.place_table.specs.Passes.{PassView, IsKeptOf}
use Rattle.place_table.specs.Rules.{turns_on, indexes, StandIn}
use Rattle.place_table.specs.StrandTurns.{numbered, turns_by, AreTurnsOf}
use Rattle.place_table.specs.Views.{is_among, is_recorded, all_strands, place_of, kept_step}
use Rattle.map_report.specs.Record.{Ascend}
use Rattle.run_records.specs.Parts.{Part, cpus_of, has_turns, cpus_in, AreCut, first_steps, behind_steps, cut_strands}
use Rattle.run_records.specs.ByLogs.{IsOfMap}
use Rattle.run_records.specs.Copies.{has_step, IsCutOf}
use Rattle.run_records.specs.Work.{has_turn}
use Rattle.run_records.specs.declared.pieces.Piece.{Piece}
use Rattle.run_records.proofs.Closing.{kept_all, kept_few, length_indexes}
use Rattle.serial_laws.proofs.HistoryTurns.{by_bool}
use Rattle.run_records.proofs.RaceKept.{steps_of, no_turn, recorded_turn}
use Rattle.run_records.proofs.Whole.{none_lost, strands_are_told}
use Rattle.serial_laws.proofs.ListPlaces.{stands, kept_stands, passing_kept, filter_through, one_passes, all_at, all_from, in_either, in_first, in_second, all_in_both}
use Rattle.serial_laws.proofs.TurnLocks.{range_below}
use Rattle.serial_laws.proofs.LooksTold.{heads, tails}

-- what some parts have of turns, and of recorded steps
abbrev pub turns_in : List Part → List Turned
turns_in parts = flat_map (λ (part : Part). part.turns) parts

abbrev pub kept_in : List Part → List StrandStep
kept_in parts = flat_map (λ (part : Part). part.kept) parts

-- strands that are cut, and behind them others that are
pub cut_both : (shape : Shape) (a b : List Part) (xs ys : List Ended) → AreCut shape a xs → AreCut shape b ys → AreCut shape (a ++ b) (xs ++ ys)
cut_both shape a b [] ys is more = subst (λ (l : List Part). AreCut shape (l ++ b) ys) (sym is) more
cut_both shape a b (x ∷ xs) ys is more =
    (is.0, is.1 ++ b, ap (λ (l : List Part). l ++ b) is.2 ∙ append_assoc is.0 is.1 b, is.3, is.4, is.5, is.6, cut_both shape is.1 b xs ys is.7 more)

-- Tests

-- a strand has a turn where it made one, since none is recorded of none
pub same_test : (turns : List Turned) (kept : List StrandStep) → (turns ≡ [] → kept ≡ []) → not (eqb (length turns + length kept) 0) ≡ not (eqb (length turns) 0)
same_test [] kept none = ap (λ (l : List StrandStep). not (eqb (0 + length l) 0)) (none refl)
same_test (turn ∷ turns) kept none =
    ap not (ne_eqb (suc (length turns) + length kept) 0 (λ is. omega arith) ∙ sym (ne_eqb (suc (length turns)) 0 (λ is. omega arith)))

-- a part without turns
pub no_turns : (turns : List Turned) → not (eqb (length turns) 0) ≡ false → turns ≡ []
no_turns [] none = refl
no_turns (turn ∷ turns) none = let other = ap not (ne_eqb (suc (length turns)) 0 (λ zero. omega arith)) in absurd cc

-- and one with a turn
pub some_turns : (turn : Turned) (turns : List Turned) → not (eqb (length (turn ∷ turns)) 0) ≡ true
some_turns turn turns = ap not (ne_eqb (suc (length turns)) 0 (λ zero. omega arith))

-- The last strand goes on

all_phases : (phase : ℕ) (parts : List Part) → All (λ (q : Part). q.phase < phase) parts → All (λ (n : ℕ). n < phase) (map (λ (q : Part). q.phase) parts)
all_phases phase [] below = All-nil (λ (n : ℕ). n < phase)
all_phases phase (q ∷ parts) below =
    All-cons (λ (n : ℕ). n < phase) q.phase (map (λ (q : Part). q.phase) parts) (All-head (λ (q : Part). q.phase < phase) q parts below)
    (all_phases phase parts (All-tail (λ (q : Part). q.phase < phase) q parts below))

-- a list of numbers that ascends, and behind it one above them
pub ascend_last : (numbers : List ℕ) (last : ℕ) → All (λ (n : ℕ). n < last) numbers → Ascend numbers → Ascend (numbers ++ last ∷ [])
ascend_last [] last below up = (All-nil (λ (n : ℕ). last < n), tt)
ascend_last (n ∷ numbers) last below up = (
  All-append (λ (m : ℕ). n < m) numbers (last ∷ []) up.0 (All-cons (λ (m : ℕ). n < m) last [] (All-head (λ (m : ℕ). m < last) n numbers below) (All-nil (λ (m : ℕ). n < m))),
  ascend_last numbers last (All-tail (λ (m : ℕ). m < last) n numbers below) up.1,
)

module _ (shape : Shape) (now later : Ended) (part : Part) (of_all : cpus_in shape later ≡ cpus_of shape.cpus part.cpu) (cpus : later.cpus ≡ now.cpus)
    (steps : later.steps ≡ now.steps ++ part.turns) (kept : later.kept ≡ now.kept ++ part.kept) where
  -- by a part more
  cut_on : (parts : List Part) (ended : List Ended) → All (λ (q : Part). q.phase < part.phase) parts → AreCut shape parts (ended ++ now ∷ []) → AreCut shape (parts ++ part ∷ []) (ended ++ later ∷ [])
  cut_on parts [] below is =
      let mine : List Part = is.0 in
      let split : parts ≡ mine = is.2 ∙ ap (λ (l : List Part). mine ++ l) is.7 ∙ append-nil mine in
      let own : All (λ (q : Part). q.phase < part.phase) mine = subst (All (λ (q : Part). q.phase < part.phase)) split below in
      let same : cpus_in shape later ≡ cpus_in shape now = ap (λ (l : List ℕ). filter (λ cpu. is_among cpu l) (range_with_len 0 shape.cpus)) cpus in (
        mine ++ part ∷ [],
        [],
        ap (λ (l : List Part). l ++ part ∷ []) split ∙ sym (append-nil (mine ++ part ∷ [])),
        steps ∙ ap (λ (l : List Turned). l ++ part.turns) is.3 ∙ ap (λ (l : List Turned). turns_in mine ++ l) (sym (append-nil part.turns)) ∙ sym (flat_map-append (λ (q : Part). q.turns) mine (part ∷ [])),
        kept ∙ ap (λ (l : List StrandStep). l ++ part.kept) is.4 ∙ ap (λ (l : List StrandStep). kept_in mine ++ l) (sym (append-nil part.kept)) ∙ sym (flat_map-append (λ (q : Part). q.kept) mine (part ∷ [])),
        All-append (λ (q : Part). cpus_in shape later ≡ cpus_of shape.cpus q.cpu) mine (part ∷ [])
            (subst (λ (l : List ℕ). All (λ (q : Part). l ≡ cpus_of shape.cpus q.cpu) mine) (sym same) is.5)
            (All-cons (λ (q : Part). cpus_in shape later ≡ cpus_of shape.cpus q.cpu) part [] of_all (All-nil (λ (q : Part). cpus_in shape later ≡ cpus_of shape.cpus q.cpu))),
        subst Ascend (sym (map-append (λ (q : Part). q.phase) mine (part ∷ []))) (ascend_last (map (λ (q : Part). q.phase) mine) part.phase (all_phases part.phase mine own) is.6),
        refl,
      )
  cut_on parts (x ∷ xs) below is =
      let rest : List Part = is.1 in
      let own : All (λ (q : Part). q.phase < part.phase) rest = (all_in_both (λ (q : Part). q.phase < part.phase) is.0 rest (subst (All (λ (q : Part). q.phase < part.phase)) is.2 below)).1 in
      (is.0, rest ++ part ∷ [], ap (λ (l : List Part). l ++ part ∷ []) is.2 ∙ append_assoc is.0 rest (part ∷ []), is.3, is.4, is.5, is.6, cut_on rest xs own is.7)

  -- by one without turns
  cut_same : (parts : List Part) (ended : List Ended) → part.turns ≡ [] → part.kept ≡ [] → AreCut shape parts (ended ++ now ∷ []) → AreCut shape parts (ended ++ later ∷ [])
  cut_same parts [] none nothing is =
      let same : cpus_in shape later ≡ cpus_in shape now = ap (λ (l : List ℕ). filter (λ cpu. is_among cpu l) (range_with_len 0 shape.cpus)) cpus in (
        is.0,
        is.1,
        is.2,
        steps ∙ ap (λ (l : List Turned). now.steps ++ l) none ∙ append-nil now.steps ∙ is.3,
        kept ∙ ap (λ (l : List StrandStep). now.kept ++ l) nothing ∙ append-nil now.kept ∙ is.4,
        subst (λ (l : List ℕ). All (λ (q : Part). l ≡ cpus_of shape.cpus q.cpu) is.0) (sym same) is.5,
        is.6,
        is.7,
      )
  cut_same parts (x ∷ xs) none nothing is = (is.0, is.1, is.2, is.3, is.4, is.5, is.6, cut_same is.1 xs none nothing is.7)

-- The last strand, of all CPUs, goes on by a part more.
pub cut_lone : (shape : Shape) (parts : List Part) (ended : List Ended) (now later : Ended) (part : Part) → All (λ (q : Part). q.phase < part.phase) parts → part.cpu ≡ None
    → cpus_in shape later ≡ range_with_len 0 shape.cpus → later.cpus ≡ now.cpus → later.steps ≡ now.steps ++ part.turns → later.kept ≡ now.kept ++ part.kept
    → (part.turns ≡ [] → part.kept ≡ []) → (now.steps ≡ [] → now.kept ≡ []) → AreCut shape (filter has_turns parts) (filter has_turn (ended ++ now ∷ []))
    → AreCut shape (filter has_turns (parts ++ part ∷ [])) (filter has_turn (ended ++ later ∷ []))
cut_lone shape parts ended now later part below lone all cpus steps kept none nothing cut =
    let of_all : cpus_in shape later ≡ cpus_of shape.cpus part.cpu = all ∙ sym (ap (cpus_of shape.cpus) lone) in
    let before : List Part = filter has_turns parts in
    let strands : List Ended = filter has_turn ended in
    let was : AreCut shape before (strands ++ filter has_turn (now ∷ [])) = subst (AreCut shape before) (filter-append has_turn ended (now ∷ [])) cut in
    let lower : All (λ (q : Part). q.phase < part.phase) before = All-filter has_turns (λ (q : Part). q.phase < part.phase) parts below in
    let now_test : has_turn now ≡ not (eqb (length now.steps) 0) = same_test now.steps now.kept nothing in
    let is : AreCut shape (before ++ filter has_turns (part ∷ [])) (strands ++ filter has_turn (later ∷ [])) =
    by_bool (has_turns part)
    (λ b. has_turns part ≡ b → AreCut shape (before ++ cond b (part ∷ []) []) (strands ++ filter has_turn (later ∷ [])))
    (λ _ some.
    let there : has_turn later ≡ true = with_turn part.turns some now.steps later.steps steps (length later.kept) in
    subst (λ (b : Bool). AreCut shape (before ++ part ∷ []) (strands ++ cond b (later ∷ []) [])) (sym there)
    (by_bool (has_turn now) (λ b. AreCut shape before (strands ++ cond b (now ∷ []) []) → has_turn now ≡ b → AreCut shape (before ++ part ∷ []) (strands ++ later ∷ []))
    (λ _ cut_before _. cut_on shape now later part of_all cpus steps kept before strands lower cut_before)
    (λ _ cut_before is_none.
    let empty = no_turn now is_none in
    cut_both shape before (part ∷ []) strands (later ∷ []) (subst (AreCut shape before) (append-nil strands) cut_before) (
      part ∷ [],
      [],
      refl,
      steps ∙ ap (λ (l : List Turned). l ++ part.turns) empty.0 ∙ sym (append-nil part.turns),
      kept ∙ ap (λ (l : List StrandStep). l ++ part.kept) empty.1 ∙ sym (append-nil part.kept),
      All-cons (λ (q : Part). cpus_in shape later ≡ cpus_of shape.cpus q.cpu) part [] of_all (All-nil (λ (q : Part). cpus_in shape later ≡ cpus_of shape.cpus q.cpu)),
      (All-nil (λ (n : ℕ). part.phase < n), tt),
      refl,
    ))
    was refl))
    (λ _ no.
    let turns : part.turns ≡ [] = no_turns part.turns no in
    let steps_same : later.steps ≡ now.steps = steps ∙ ap (λ (l : List Turned). now.steps ++ l) turns ∙ append-nil now.steps in
    let kept_same : later.kept ≡ now.kept = kept ∙ ap (λ (l : List StrandStep). now.kept ++ l) (none turns) ∙ append-nil now.kept in
    let alike : has_turn later ≡ has_turn now = λ i. not (eqb (length (steps_same i) + length (kept_same i)) 0) in
    subst (λ (l : List Part). AreCut shape l (strands ++ filter has_turn (later ∷ []))) (sym (append-nil before))
    (subst (λ (b : Bool). AreCut shape before (strands ++ cond b (later ∷ []) [])) (sym alike)
    (by_bool (has_turn now) (λ b. AreCut shape before (strands ++ cond b (now ∷ []) []) → AreCut shape before (strands ++ cond b (later ∷ []) []))
    (λ _ cut_before. cut_same shape now later part of_all cpus steps kept before strands turns (none turns) cut_before)
    (λ _ cut_before. cut_before)
    was)))
    refl in
    subst (AreCut shape (filter has_turns (parts ++ part ∷ []))) (sym (filter-append has_turn ended (later ∷ [])))
    (subst (λ (l : List Part). AreCut shape l (strands ++ filter has_turn (later ∷ []))) (sym (filter-append has_turns parts (part ∷ []))) is)
  where
    with_turn : (turns : List Turned) → not (eqb (length turns) 0) ≡ true → (before after : List Turned) → after ≡ before ++ turns → (n : ℕ) → not (eqb (length after + n) 0) ≡ true
    with_turn [] some before after is n = cc
    with_turn (turn ∷ turns) some before after is n =
        let long : length after ≡ length before + suc (length turns) = ap length is ∙ length-append before (turn ∷ turns) in
        ap not (ne_eqb (length after + n) 0 (λ zero. omega (arith, long)))

-- The strands of workers, one of each CPU, are each a part.
module _ (shape : Shape) (phase : ℕ) (turns : ℕ → List Turned) (kept : ℕ → List StrandStep) (touched : ℕ → List WordStep) where
  abbrev pub part_of_cpu : ℕ → Part
  part_of_cpu cpu = record { phase = phase; cpu = Some cpu; turns = turns cpu; kept = kept cpu }

  abbrev pub worker_of : ℕ → Ended
  worker_of cpu = record { cpus = cpu ∷ []; steps = turns cpu; kept = kept cpu; touched = touched cpu }

  its_cpu : (cpu : ℕ) → cpu < shape.cpus → cpus_in shape (worker_of cpu) ≡ cpu ∷ []
  its_cpu cpu real =
      one_passes (λ c. is_among c (cpu ∷ [])) cpu 0 shape.cpus (omega arith) (omega arith)
      (ap (λ b. cond b true false) (eq-eqb cpu cpu refl))
      (λ e other. ap (λ b. cond b true false) (ne_eqb cpu e (λ is. other (sym is))))

  pub cut_workers : (numbers : List ℕ) → All (λ cpu. cpu < shape.cpus) numbers → ((cpu : ℕ) → turns cpu ≡ [] → kept cpu ≡ [])
      → AreCut shape (filter has_turns (map part_of_cpu numbers)) (filter has_turn (map worker_of numbers))
  cut_workers [] real none = refl
  cut_workers (cpu ∷ numbers) real none =
      let parts : List Part = filter has_turns (map part_of_cpu numbers) in
      let strands : List Ended = filter has_turn (map worker_of numbers) in
      let rest : AreCut shape parts strands = cut_workers numbers (All-tail (λ c. c < shape.cpus) cpu numbers real) none in
      subst (λ (b : Bool). AreCut shape (cond (has_turns (part_of_cpu cpu)) (part_of_cpu cpu ∷ parts) parts) (cond b (worker_of cpu ∷ strands) strands)) (sym (same_test (turns cpu) (kept cpu) (none cpu)))
      (by_bool (has_turns (part_of_cpu cpu)) (λ b. AreCut shape (cond b (part_of_cpu cpu ∷ parts) parts) (cond b (worker_of cpu ∷ strands) strands))
      (λ _. (
        part_of_cpu cpu ∷ [],
        parts,
        refl,
        sym (append-nil (turns cpu)),
        sym (append-nil (kept cpu)),
        All-cons (λ (q : Part). cpus_in shape (worker_of cpu) ≡ cpus_of shape.cpus q.cpu) (part_of_cpu cpu) [] (its_cpu cpu (All-head (λ c. c < shape.cpus) cpu numbers real)) (All-nil (λ (q : Part). cpus_in shape (worker_of cpu) ≡ cpus_of shape.cpus q.cpu)),
        (All-nil (λ (n : ℕ). phase < n), tt),
        rest,
      ))
      (λ _. rest))

  -- of all CPUs
  pub cut_all_workers : ((cpu : ℕ) → turns cpu ≡ [] → kept cpu ≡ []) → AreCut shape (filter has_turns (map part_of_cpu (range_with_len 0 shape.cpus))) (filter has_turn (map worker_of (range_with_len 0 shape.cpus)))
  cut_all_workers none = cut_workers (range_with_len 0 shape.cpus) (All-from_recursion (λ cpu. cpu < shape.cpus) (range_with_len 0 shape.cpus) (range_below shape.cpus 0 shape.cpus (omega arith))) none

-- Turns that stand where others do

same_there : {X : Type 0} (xs ys : List X) (i : ℕ) (x : X) → xs ≡ ys → slice_get ys i ≡ Some x → slice_get xs i ≡ Some x
same_there {X} xs ys i x same is = ap (λ (l : List X). slice_get l i) same ∙ is

-- The turns of a lock

turns_on_append : (k : ℕ) (xs ys : List Turned) → turns_on k (xs ++ ys) ≡ turns_on k xs ++ turns_on k ys
turns_on_append k [] ys = refl
turns_on_append k (step ∷ xs) ys =
    let rest = turns_on_append k xs ys in
    by_bool (eqb step.lock k) (λ b. cond b ((place_of step, step.entry) ∷ turns_on k (xs ++ ys)) (turns_on k (xs ++ ys)) ≡ cond b ((place_of step, step.entry) ∷ turns_on k xs) (turns_on k xs) ++ turns_on k ys)
    (λ _. ap (λ l. (place_of step, step.entry) ∷ l) rest) (λ _. rest)

-- where there is one there are turns
turns_there : (k j : ℕ) (turn : ℕ × Entry) (turns : List Turned) → slice_get (turns_on k turns) j ≡ Some turn → not (eqb (length turns) 0) ≡ true
turns_there k j turn [] is = absurd (none-some turn is)
turns_there k j turn (step ∷ turns) is = some_turns step turns

strand_there : (k j : ℕ) (turn : ℕ × Entry) (strand : Ended) → slice_get (turns_on k strand.steps) j ≡ Some turn → has_turn strand ≡ true
strand_there k j turn strand is = go strand.steps (length strand.kept) is
  where
    go : (turns : List Turned) (n : ℕ) → slice_get (turns_on k turns) j ≡ Some turn → not (eqb (length turns + n) 0) ≡ true
    go [] n is = absurd (none-some turn is)
    go (step ∷ turns) n is = ap not (ne_eqb (suc (length turns) + n) 0 (λ zero. omega arith))

-- each turn of some parts is of one of them, and each of one is one of them all
in_one : (k : ℕ) (mine : List Part) (j : ℕ) (turn : ℕ × Entry) → slice_get (turns_on k (turns_in mine)) j ≡ Some turn
    → (i : ℕ) × (part : Part) × (slice_get mine i ≡ Some part) × (m : ℕ) × (slice_get (turns_on k part.turns) m ≡ Some turn)
in_one k [] j turn is = absurd (none-some turn is)
in_one k (part ∷ mine) j turn is =
    by (in_either (turns_on k part.turns) (turns_on k (turns_in mine)) j turn (sym (ap (λ (l : List (ℕ × Entry)). slice_get l j) (turns_on_append k part.turns (turns_in mine))) ∙ is)) (λ m at. in_one k mine m turn at)
  where
    by : (slice_get (turns_on k part.turns) j ≡ Some turn) ⊎ ((m : ℕ) × (j ≡ length (turns_on k part.turns) + m) × (slice_get (turns_on k (turns_in mine)) m ≡ Some turn))
        → ((m : ℕ) → slice_get (turns_on k (turns_in mine)) m ≡ Some turn → (i : ℕ) × (q : Part) × (slice_get mine i ≡ Some q) × (n : ℕ) × (slice_get (turns_on k q.turns) n ≡ Some turn))
        → (i : ℕ) × (q : Part) × (slice_get (part ∷ mine) i ≡ Some q) × (n : ℕ) × (slice_get (turns_on k q.turns) n ≡ Some turn)
    by (inl here) more = (0, part, refl, j, here)
    by (inr later) more = let rest = more later.0 later.2 in (suc rest.0, rest.1, rest.2, rest.3, rest.4)

of_one : (k : ℕ) (mine : List Part) (i : ℕ) (part : Part) (j : ℕ) (turn : ℕ × Entry) → slice_get mine i ≡ Some part → slice_get (turns_on k part.turns) j ≡ Some turn
    → (m : ℕ) × (slice_get (turns_on k (turns_in mine)) m ≡ Some turn)
of_one k [] i part j turn at is = absurd (none-some part at)
of_one k (q ∷ mine) zero part j turn at is = (
  j,
  ap (λ (l : List (ℕ × Entry)). slice_get l j) (turns_on_append k q.turns (turns_in mine))
      ∙ in_first (turns_on k q.turns) (turns_on k (turns_in mine)) j turn (ap (λ (p : Part). slice_get (turns_on k p.turns) j) (same_Some q part at) ∙ is),
)
of_one k (q ∷ mine) (suc i) part j turn at is =
    let rest = of_one k mine i part j turn at is in
    let at : ℕ = length (turns_on k q.turns) + rest.0 in
    (at, ap (λ (l : List (ℕ × Entry)). slice_get l at) (turns_on_append k q.turns (turns_in mine)) ∙ in_second (turns_on k q.turns) (turns_on k (turns_in mine)) at rest.0 turn refl rest.1)

-- The strand of a part

module _ (shape : Shape) where
  -- where a part stands its strand does, which has the turns of parts that stand there
  pub its_strand : (parts : List Part) (strands : List Ended) → AreCut shape parts strands → (i : ℕ) (part : Part) → slice_get parts i ≡ Some part
      → (n : ℕ) × (strand : Ended) × (mine : List Part) × (m : ℕ) × (slice_get strands n ≡ Some strand) × (slice_get mine m ≡ Some part) × (strand.steps ≡ turns_in mine) × (strand.kept ≡ kept_in mine)
      × ((j : ℕ) (q : Part) → slice_get mine j ≡ Some q → (l : ℕ) × (slice_get parts l ≡ Some q))
  its_strand parts [] cut i part at = absurd (none-some part (sym (ap (λ (l : List Part). slice_get l i) cut) ∙ at))
  its_strand parts (x ∷ xs) cut i part at =
      by (in_either cut.0 cut.1 i part (sym (ap (λ (l : List Part). slice_get l i) cut.2) ∙ at)) (λ j found. its_strand cut.1 xs cut.7 j part found)
    where
      by : (slice_get cut.0 i ≡ Some part) ⊎ ((j : ℕ) × (i ≡ length cut.0 + j) × (slice_get cut.1 j ≡ Some part))
          → ((j : ℕ) → slice_get cut.1 j ≡ Some part
          → (n : ℕ) × (strand : Ended) × (mine : List Part) × (m : ℕ) × (slice_get xs n ≡ Some strand) × (slice_get mine m ≡ Some part) × (strand.steps ≡ turns_in mine) × (strand.kept ≡ kept_in mine)
          × ((j : ℕ) (q : Part) → slice_get mine j ≡ Some q → (l : ℕ) × (slice_get cut.1 l ≡ Some q)))
          → (n : ℕ) × (strand : Ended) × (mine : List Part) × (m : ℕ) × (slice_get (x ∷ xs) n ≡ Some strand) × (slice_get mine m ≡ Some part) × (strand.steps ≡ turns_in mine) × (strand.kept ≡ kept_in mine)
          × ((j : ℕ) (q : Part) → slice_get mine j ≡ Some q → (l : ℕ) × (slice_get parts l ≡ Some q))
      by (inl here) more =
          (0, x, cut.0, i, refl, here, cut.3, cut.4, λ j q found. (j, ap (λ (l : List Part). slice_get l j) cut.2 ∙ in_first cut.0 cut.1 j q found))
      by (inr later) more =
          let rest = more later.0 later.2 in (
            suc rest.0,
            rest.1,
            rest.2,
            rest.3,
            rest.4,
            rest.5,
            rest.6,
            rest.7,
            λ j q found. let inside = rest.8 j q found in let at : ℕ = length cut.0 + inside.0 in (at, ap (λ (l : List Part). slice_get l at) cut.2 ∙ in_second cut.0 cut.1 at inside.0 q refl inside.1),
          )

  -- the parts of a strand
  its_parts : (parts : List Part) (strands : List Ended) → AreCut shape parts strands → (n : ℕ) (strand : Ended) → slice_get strands n ≡ Some strand
      → (mine : List Part) × (strand.steps ≡ turns_in mine) × ((j : ℕ) (q : Part) → slice_get mine j ≡ Some q → (l : ℕ) × (slice_get parts l ≡ Some q))
  its_parts parts [] cut n strand at = absurd (none-some strand at)
  its_parts parts (x ∷ xs) cut zero strand at =
      (cut.0, ap (λ (e : Ended). e.steps) (sym (same_Some x strand at)) ∙ cut.3, λ j q found. (j, ap (λ (l : List Part). slice_get l j) cut.2 ∙ in_first cut.0 cut.1 j q found))
  its_parts parts (x ∷ xs) cut (suc n) strand at =
      let rest = its_parts cut.1 xs cut.7 n strand at in
      (rest.0, rest.1, λ j q found. let inside = rest.2 j q found in let at : ℕ = length cut.0 + inside.0 in (at, ap (λ (l : List Part). slice_get l at) cut.2 ∙ in_second cut.0 cut.1 at inside.0 q refl inside.1))

-- Places in a history

by_its_strand : (at : ℕ → ℕ) (n a : ℕ) (log : List Entry) (i place : ℕ) (entry : Entry) → place ≡ a + i → slice_get log i ≡ Some entry → at place ≡ n
    → (j : ℕ) × (slice_get (turns_by at n (numbered a log)) j ≡ Some (place, entry))
by_its_strand at n a [] i place entry here is own = absurd (none-some entry is)
by_its_strand at n a (e ∷ log) zero place entry here is own =
    let first : a ≡ place = omega arith in (
      0,
      ap (λ b. slice_get (cond b ((a, e) ∷ turns_by at n (numbered (suc a) log)) (turns_by at n (numbered (suc a) log))) 0) (eq-eqb (at a) n (ap at first ∙ own))
          ∙ (λ j. Some (first j, same_Some e entry is j)),
    )
by_its_strand at n a (e ∷ log) (suc i) place entry here is own =
    let rest = by_its_strand at n (suc a) log i place entry (omega arith) is own in
    by_bool (eqb (at a) n) (λ b. (j : ℕ) × (slice_get (cond b ((a, e) ∷ turns_by at n (numbered (suc a) log)) (turns_by at n (numbered (suc a) log))) j ≡ Some (place, entry)))
    (λ _. (suc rest.0, rest.1)) (λ _. rest)

parts_same : (a place : ℕ) (e entry : Entry) → ◌≡◌ {A = ℕ × Entry} (a, e) (place, entry) → (place ≡ a + 0) × (Some e ≡ Some entry)
parts_same a place e entry same =
    let here : a ≡ place = ap (λ (turn : ℕ × Entry). turn.0) {x = (a, e)} {y = (place, entry)} same in
    (omega (arith, here), ap (λ (turn : ℕ × Entry). Some turn.1) {x = (a, e)} {y = (place, entry)} same)

in_history : (at : ℕ → ℕ) (n a : ℕ) (log : List Entry) (j place : ℕ) (entry : Entry) → slice_get (turns_by at n (numbered a log)) j ≡ Some (place, entry)
    → (i : ℕ) × (place ≡ a + i) × (slice_get log i ≡ Some entry)
in_history at n a [] j place entry is = absurd (none-some (place, entry) is)
in_history at n a (e ∷ log) j place entry is =
    by_bool (eqb (at a) n)
    (λ b. slice_get (cond b ((a, e) ∷ turns_by at n (numbered (suc a) log)) (turns_by at n (numbered (suc a) log))) j ≡ Some (place, entry) → (i : ℕ) × (place ≡ a + i) × (slice_get (e ∷ log) i ≡ Some entry))
    (λ _ found. first j (λ m. in_history at n (suc a) log m place entry) found)
    (λ _ found. let rest = in_history at n (suc a) log j place entry found in (suc rest.0, let more = rest.1 in omega arith, rest.2))
    is
  where
    first : (m : ℕ) → ((m : ℕ) → slice_get (turns_by at n (numbered (suc a) log)) m ≡ Some (place, entry) → (i : ℕ) × (place ≡ suc a + i) × (slice_get log i ≡ Some entry))
        → slice_get ((a, e) ∷ turns_by at n (numbered (suc a) log)) m ≡ Some (place, entry) → (i : ℕ) × (place ≡ a + i) × (slice_get (e ∷ log) i ≡ Some entry)
    first zero more found =
        let here = parts_same a place e entry (same_Some (a, e) (place, entry) found) in
        (0, here.0, here.1)
    first (suc m) more found = let rest = more m found in (suc rest.0, let later = rest.1 in omega arith, rest.2)

in_whole : (at : ℕ → ℕ) (n : ℕ) (log : List Entry) (j place : ℕ) (entry : Entry) → slice_get (turns_by at n (numbered 0 log)) j ≡ Some (place, entry) → slice_get log place ≡ Some entry
in_whole at n log j place entry is = go (in_history at n 0 log j place entry is)
  where
    go : (i : ℕ) × (place ≡ 0 + i) × (slice_get log i ≡ Some entry) → slice_get log place ≡ Some entry
    go found =
        let where_is = found.1 in
        let same : place ≡ found.0 = omega (arith, where_is) in
        ap (slice_get log) same ∙ found.2

-- Where strands are cut into parts, the turns of a lock are those of the parts.
module _ (shape : Shape) (parts : List Part) (strands : List Ended) (cut : AreCut shape (filter has_turns parts) (filter has_turn strands)) (k : ℕ) (log : List Entry) (turns : AreTurnsOf k strands log) where
  -- each is a turn of a part
  pub covered : (place : ℕ) (entry : Entry) → slice_get log place ≡ Some entry
      → (i : ℕ) × (part : Part) × (slice_get parts i ≡ Some part) × (j : ℕ) × (slice_get (turns_on k part.turns) j ≡ Some (place, entry))
  covered place entry is =
      let found = stands strands (turns.strand_at place) (turns.within place (slice_get_within log place entry is)) in
      let own = by_its_strand turns.strand_at (turns.strand_at place) 0 log place place entry (omega arith) is refl in
      of_strand (turns.strand_at place) found.0 own.0 (place, entry) found.1 (same_there (turns_on k found.0.steps) (turns_by turns.strand_at (turns.strand_at place) (numbered 0 log)) own.0 (place, entry) (turns.turns (turns.strand_at place) found.0 found.1) own.1)
    where
      of_strand : (n : ℕ) (strand : Ended) (j : ℕ) (turn : ℕ × Entry) → slice_get strands n ≡ Some strand → slice_get (turns_on k strand.steps) j ≡ Some turn
          → (i : ℕ) × (part : Part) × (slice_get parts i ≡ Some part) × (m : ℕ) × (slice_get (turns_on k part.turns) m ≡ Some turn)
      of_strand n strand j turn at here =
          let passing = passing_kept has_turn strands n strand at (strand_there k j turn strand here) in
          let mine = its_parts shape (filter has_turns parts) (filter has_turn strands) cut passing.0 strand passing.1 in
          let one = in_one k mine.0 j turn (same_there (turns_on k (turns_in mine.0)) (turns_on k strand.steps) j turn (ap (turns_on k) (sym mine.1)) here) in
          let among = mine.2 one.0 one.1 one.2 in
          let found = kept_stands has_turns parts among.0 one.1 among.1 in
          (found.0, one.1, found.1, one.3, one.4)

  -- and what a part has stands there
  pub there : (i j place : ℕ) (part : Part) (entry : Entry) → slice_get parts i ≡ Some part → slice_get (turns_on k part.turns) j ≡ Some (place, entry) → slice_get log place ≡ Some entry
  there i j place part entry at is =
      let passing = passing_kept has_turns parts i part at (turns_there k j (place, entry) part.turns is) in
      let its = its_strand shape (filter has_turns parts) (filter has_turn strands) cut passing.0 part passing.1 in
      let one = of_one k its.2 its.3 part j (place, entry) its.5 is in
      let found = kept_stands has_turn strands its.0 its.1 its.4 in
      let here : slice_get (turns_by turns.strand_at found.0 (numbered 0 log)) one.0 ≡ Some (place, entry) =
      same_there (turns_by turns.strand_at found.0 (numbered 0 log)) (turns_on k (turns_in its.2)) one.0 (place, entry) (sym (turns.turns found.0 its.1 found.1) ∙ ap (turns_on k) its.6) one.1 in
      in_whole turns.strand_at found.0 log one.0 place entry here

-- Recorded steps of parts

places_append : (lock : DomainId) (xs ys : List StrandStep) → places_on lock (xs ++ ys) ≡ places_on lock xs ++ places_on lock ys
places_append lock [] ys = refl
places_append lock (step ∷ xs) ys =
    let rest = places_append lock xs ys in
    by_bool (is_same_lock step.lock lock) (λ b. cond b (step.index ∷ places_on lock (xs ++ ys)) (places_on lock (xs ++ ys)) ≡ cond b (step.index ∷ places_on lock xs) (places_on lock xs) ++ places_on lock ys)
    (λ _. ap (λ l. step.index ∷ l) rest) (λ _. rest)

-- what is recorded of some turns, on a lock, and of those of some parts
abbrev count_kept : Shape → ℕ → List StrandStep → ℕ
count_kept shape k kept = length (places_on (lock_named shape k) kept)

abbrev count_turns : ℕ → List Turned → ℕ
count_turns k turns = length (turns_on k turns)

kept_both : (shape : Shape) (k : ℕ) (xs ys : List StrandStep) → count_kept shape k (xs ++ ys) ≡ count_kept shape k xs + count_kept shape k ys
kept_both shape k xs ys = ap length (places_append (lock_named shape k) xs ys) ∙ length-append (places_on (lock_named shape k) xs) (places_on (lock_named shape k) ys)

turns_both : (k : ℕ) (xs ys : List Turned) → count_turns k (xs ++ ys) ≡ count_turns k xs + count_turns k ys
turns_both k xs ys = ap length (turns_on_append k xs ys) ∙ length-append (turns_on k xs) (turns_on k ys)

module _ (shape : Shape) (k : ℕ) where
  few_of_one : (part : Part) → IsKeptOf shape part.turns [] part.kept → count_kept shape k part.kept ≤ count_turns k part.turns
  few_of_one part is =
      let few : count_kept shape k part.kept ≤ 0 + count_turns k part.turns = kept_few shape k part.turns [] part.kept is in
      omega (arith, few)

  few_of_all : (mine : List Part) → ((i : ℕ) (part : Part) → slice_get mine i ≡ Some part → IsKeptOf shape part.turns [] part.kept) → count_kept shape k (kept_in mine) ≤ count_turns k (turns_in mine)
  few_of_all [] each = omega arith
  few_of_all (q ∷ mine) each =
      let rest = few_of_all mine (λ i part at. each (suc i) part at) in
      let here = few_of_one q (each 0 q refl) in
      let kept = kept_both shape k q.kept (kept_in mine) in
      let turns = turns_both k q.turns (turns_in mine) in
      omega (arith, rest, here, kept, turns)

  -- where all turns of the parts are recorded, each part's are
  enough : (mine : List Part) → ((i : ℕ) (part : Part) → slice_get mine i ≡ Some part → IsKeptOf shape part.turns [] part.kept) → count_turns k (turns_in mine) ≤ count_kept shape k (kept_in mine)
      → (i : ℕ) (part : Part) → slice_get mine i ≡ Some part → count_turns k part.turns ≤ count_kept shape k part.kept
  enough [] each many i part at = absurd (none-some part at)
  enough (q ∷ mine) each many zero part at =
      let rest = few_of_all mine (λ i other found. each (suc i) other found) in
      let kept = kept_both shape k q.kept (kept_in mine) in
      let turns = turns_both k q.turns (turns_in mine) in
      let here : count_turns k q.turns ≤ count_kept shape k q.kept = omega (arith, rest, kept, turns, many) in
      subst (λ (p : Part). count_turns k p.turns ≤ count_kept shape k p.kept) (same_Some q part at) here
  enough (q ∷ mine) each many (suc i) part at =
      let here = few_of_one q (each 0 q refl) in
      let kept = kept_both shape k q.kept (kept_in mine) in
      let turns = turns_both k q.turns (turns_in mine) in
      let less : count_turns k (turns_in mine) ≤ count_kept shape k (kept_in mine) = omega (arith, here, kept, turns, many) in
      enough mine (λ j other found. each (suc j) other found) less i part at

-- what stands of some turns stands of each part's
stand_of_one : (log : ℕ → List Entry) (mine : List Part) → StandIn log (turns_in mine) → (i : ℕ) (part : Part) → slice_get mine i ≡ Some part → StandIn log part.turns
stand_of_one log [] stand i part at = absurd (none-some part at)
stand_of_one log (q ∷ mine) stand i part at = by i (both q.turns stand) (λ rest j found. stand_of_one log mine rest j part found) at
  where
    both : (turns : List Turned) → StandIn log (turns ++ turns_in mine) → StandIn log turns × StandIn log (turns_in mine)
    both [] all = (tt, all)
    both (step ∷ turns) all = let rest = both turns all.1 in ((all.0, rest.0), rest.1)

    by : (j : ℕ) → StandIn log q.turns × StandIn log (turns_in mine) → (StandIn log (turns_in mine) → (m : ℕ) → slice_get mine m ≡ Some part → StandIn log part.turns) → slice_get (q ∷ mine) j ≡ Some part → StandIn log part.turns
    by zero two more found = subst (λ (p : Part). StandIn log p.turns) (same_Some q part found) two.0
    by (suc j) two more found = more two.1 j found

-- Parts of a closed table

-- a part as a piece, and as a strand of the record
abbrev pub piece_of : Part → Piece
piece_of part = record { phase = part.phase; cpu = part.cpu; count = length part.kept }

abbrev pub strand_of : Shape → Part → Strand
strand_of shape part = record { phase = part.phase; cpus = cpus_of shape.cpus part.cpu; steps = steps_of shape part.turns }

abbrev pub IsAllKept : Shape → Part → Type 0
IsAllKept shape part = part.kept ≡ steps_of shape part.turns

abbrev HasKept : Part → Type 0
HasKept part = 0 < length part.kept

-- strands as the table tells them, of parts each of which has a step
abbrev AreToldOf : List Part → List Strand → Type 0
AreToldOf parts [] = parts ≡ []
AreToldOf parts (strand ∷ strands) =
    (first : Part) × (more : List Part) × (rest : List Part) × (parts ≡ first ∷ (more ++ rest)) × (strand.steps ≡ first.kept ++ kept_in more) × HasKept first × AllByRecursion HasKept more × AreToldOf rest strands

long_steps : (shape : Shape) (turns : List Turned) → length (steps_of shape turns) ≡ length turns
long_steps shape turns = length-map turns (λ (step : Turned). kept_step shape step.lock (place_of step))

-- a strand with a turn has a step recorded
told_one : (mine : List Part) (strand : Ended) → strand.steps ≡ turns_in mine → strand.kept ≡ kept_in mine → has_turn strand ≡ true → All HasKept mine
    → (first : Part) × (more : List Part) × (mine ≡ first ∷ more) × (is_recorded strand ≡ true)
told_one [] strand turns kept there have =
    let none : has_turn strand ≡ false = λ i. not (eqb (length (turns i) + length (kept i)) 0) in
    absurd cc
told_one (first ∷ more) strand turns kept there have =
    let some : 0 < length first.kept = All-head HasKept first more have in
    let long : length strand.kept ≡ length first.kept + length (kept_in more) = ap length kept ∙ length-append first.kept (kept_in more) in
    (first, more, refl, ap not (ne_eqb (length strand.kept) 0 (λ zero. omega (arith, some, long))))

module _ (shape : Shape) where
  -- the table tells of each strand, and its steps are those of its parts
  are_told : (parts : List Part) (strands : List Ended) → AreCut shape parts strands → All HasKept parts → All (λ (e : Ended). has_turn e ≡ true) strands → AreToldOf parts (strands_told shape strands)
  are_told parts [] cut have there = cut
  are_told parts (x ∷ xs) cut have there =
      let both : All HasKept (cut.0 ++ cut.1) = subst (All HasKept) cut.2 have in
      let mine = (all_in_both HasKept cut.0 cut.1 both).0 in
      let one = told_one cut.0 x cut.3 cut.4 (All-head (λ (e : Ended). has_turn e ≡ true) x xs there) mine in
      let own : All HasKept (one.0 ∷ one.1) = subst (All HasKept) one.2 mine in
      subst (λ (b : Bool). AreToldOf parts (map (strand_told shape) (cond b (x ∷ filter is_recorded xs) (filter is_recorded xs)))) (sym one.3) (
        one.0,
        one.1,
        cut.1,
        cut.2 ∙ ap (λ (l : List Part). l ++ cut.1) one.2,
        cut.4 ∙ ap kept_in one.2,
        All-head HasKept one.0 one.1 own,
        recursion_from_All HasKept one.1 (All-tail HasKept one.0 one.1 own),
        are_told cut.1 xs cut.7 (all_in_both HasKept cut.0 cut.1 both).1 (All-tail (λ (e : Ended). has_turn e ≡ true) x xs there),
      )

  steps_in : (mine : List Part) → All (IsAllKept shape) mine → kept_in mine ≡ flat_map (λ (part : Strand). part.steps) (map (strand_of shape) mine)
  steps_in [] all = refl
  steps_in (q ∷ mine) all =
      let here = All-head (IsAllKept shape) q mine all in
      let rest = steps_in mine (All-tail (IsAllKept shape) q mine all) in
      λ i. here i ++ rest i

  phases_in : (mine : List Part) → map (λ (part : Strand). part.phase) (map (strand_of shape) mine) ≡ map (λ (part : Part). part.phase) mine
  phases_in [] = refl
  phases_in (q ∷ mine) = ap (λ l. q.phase ∷ l) (phases_in mine)

  -- so the strands of the record are theirs, cut
  cut_told : (parts : List Part) (strands : List Ended) → AreCut shape parts strands → All (IsAllKept shape) parts → All HasKept parts → All (λ (e : Ended). has_turn e ≡ true) strands
      → IsCutOf (map (strand_of shape) parts) (strands_told shape strands)
  cut_told parts [] cut all have there = ap (map (strand_of shape)) cut
  cut_told parts (x ∷ xs) cut all have there =
      let both : All HasKept (cut.0 ++ cut.1) = subst (All HasKept) cut.2 have in
      let each : All (IsAllKept shape) (cut.0 ++ cut.1) = subst (All (IsAllKept shape)) cut.2 all in
      let one = told_one cut.0 x cut.3 cut.4 (All-head (λ (e : Ended). has_turn e ≡ true) x xs there) (all_in_both HasKept cut.0 cut.1 both).0 in
      subst (λ (b : Bool). IsCutOf (map (strand_of shape) parts) (map (strand_told shape) (cond b (x ∷ filter is_recorded xs) (filter is_recorded xs)))) (sym one.3) (
        map (strand_of shape) cut.0,
        map (strand_of shape) cut.1,
        ap (map (strand_of shape)) cut.2 ∙ map-append (strand_of shape) cut.0 cut.1,
        cut.4 ∙ steps_in cut.0 (all_in_both (IsAllKept shape) cut.0 cut.1 each).0,
        All-map (λ (part : Strand). part.cpus ≡ cpus_in shape x) (strand_of shape) cut.0
            (All-weaker (λ (q : Part). cpus_in shape x ≡ cpus_of shape.cpus q.cpu) (λ (q : Part). cpus_of shape.cpus q.cpu ≡ cpus_in shape x) (λ q is. sym is) cut.0 cut.5),
        subst Ascend (sym (phases_in cut.0)) cut.6,
        cut_told cut.1 xs cut.7 (all_in_both (IsAllKept shape) cut.0 cut.1 each).1 (all_in_both HasKept cut.0 cut.1 both).1 (All-tail (λ (e : Ended). has_turn e ≡ true) x xs there),
      )

  -- of parts those with a step are those with a turn
  with_steps : (parts : List Part) → filter has_step (map (strand_of shape) parts) ≡ map (strand_of shape) (filter has_turns parts)
  with_steps [] = refl
  with_steps (q ∷ parts) =
      let rest = with_steps parts in
      ap (λ (n : ℕ). cond (not (eqb n 0)) (strand_of shape q ∷ filter has_step (map (strand_of shape) parts)) (filter has_step (map (strand_of shape) parts))) (long_steps shape q.turns)
      ∙ by_bool (has_turns q) (λ b. cond b (strand_of shape q ∷ filter has_step (map (strand_of shape) parts)) (filter has_step (map (strand_of shape) parts)) ≡ map (strand_of shape) (cond b (q ∷ filter has_turns parts) (filter has_turns parts)))
      (λ _. ap (λ l. strand_of shape q ∷ l) rest) (λ _. rest)

-- The strands that a table left, cut into the parts

nothing_behind : (parts : List Part) (strands : List Strand) → AreToldOf parts strands → behind_steps 0 strands ≡ strands
nothing_behind parts [] told = refl
nothing_behind parts (strand ∷ strands) told =
    let some : 0 < length told.0.kept = told.5 in
    let long : length strand.steps ≡ length told.0.kept + length (kept_in told.1) = ap length told.4 ∙ length-append told.0.kept (kept_in told.1) in
    ap (λ (b : Bool). cond b (strand ∷ strands) strands) (lt-ltb 0 (length strand.steps) (omega (arith, some, long)))

-- behind the first part's steps the rest is told
told_behind : (part : Part) (more rest : List Part) (strand : Strand) (strands : List Strand) → strand.steps ≡ part.kept ++ kept_in more → AllByRecursion HasKept more → AreToldOf rest strands
    → AreToldOf (more ++ rest) (behind_steps (length part.kept) (strand ∷ strands))
told_behind part [] rest strand strands steps have told =
    let long : length strand.steps ≡ length part.kept = ap length (steps ∙ append-nil part.kept) in
    subst (λ (b : Bool). AreToldOf rest (cond b (record { phase = strand.phase; cpus = strand.cpus; steps = drop (length part.kept) strand.steps } ∷ strands) strands))
    (sym (le-ltb (length part.kept) (length strand.steps) (omega (arith, long)))) told
told_behind part (q ∷ more) rest strand strands steps have told =
    let some : 0 < length q.kept = have.0 in
    let long : length strand.steps ≡ length part.kept + length (q.kept ++ kept_in more) = ap length steps ∙ length-append part.kept (q.kept ++ kept_in more) in
    let both : length (q.kept ++ kept_in more) ≡ length q.kept + length (kept_in more) = length-append q.kept (kept_in more) in
    let left : drop (length part.kept) strand.steps ≡ q.kept ++ kept_in more = ap (drop (length part.kept)) steps ∙ drop_at part.kept (q.kept ++ kept_in more) (length part.kept) refl in
    subst (λ (b : Bool). AreToldOf (q ∷ (more ++ rest)) (cond b (record { phase = strand.phase; cpus = strand.cpus; steps = drop (length part.kept) strand.steps } ∷ strands) strands))
    (sym (lt-ltb (length part.kept) (length strand.steps) (omega (arith, some, long, both))))
    (q, more, rest, refl, left, have.0, have.1, told)

module _ (shape : Shape) where
  -- the first part, where it has a turn
  first_cut : (part : Part) (parts : List Part) (strands : List Strand) → AreToldOf (part ∷ parts) strands → IsAllKept shape part
      → (take (length part.kept) (first_steps strands) ≡ steps_of shape part.turns) × AreToldOf parts (behind_steps (length part.kept) strands)
  first_cut part parts [] told kept = let none : suc (length parts) ≡ 0 = ap length told in absurd (omega (arith, none))
  first_cut part parts (strand ∷ strands) told kept =
      let first : part ≡ told.0 = heads part told.0 parts (told.1 ++ told.2) told.3 in
      let rest : parts ≡ told.1 ++ told.2 = tails part told.0 parts (told.1 ++ told.2) told.3 in
      let steps : strand.steps ≡ part.kept ++ kept_in told.1 = told.4 ∙ ap (λ (p : Part). p.kept ++ kept_in told.1) (sym first) in (
        ap (take (length part.kept)) steps ∙ take_at part.kept (kept_in told.1) (length part.kept) refl ∙ kept,
        subst (λ (l : List Part). AreToldOf l (behind_steps (length part.kept) (strand ∷ strands))) (sym rest) (told_behind part told.1 told.2 strand strands steps told.6 told.7),
      )

  cut_is : (parts : List Part) (strands : List Strand) → AreToldOf (filter has_turns parts) strands → All (IsAllKept shape) parts → cut_strands shape.cpus (map piece_of parts) strands ≡ map (strand_of shape) parts
  cut_is [] strands told all = refl
  cut_is (part ∷ parts) strands told all =
      let kept : IsAllKept shape part = All-head (IsAllKept shape) part parts all in
      let others : List Part = filter has_turns parts in
      let step : (take (length part.kept) (first_steps strands) ≡ steps_of shape part.turns) × AreToldOf others (behind_steps (length part.kept) strands) =
      by_bool (has_turns part)
      (λ b. has_turns part ≡ b → AreToldOf (cond b (part ∷ others) others) strands → (take (length part.kept) (first_steps strands) ≡ steps_of shape part.turns) × AreToldOf others (behind_steps (length part.kept) strands))
      (λ _ _ is. first_cut part others strands is kept)
      (λ _ no is.
      let none : part.turns ≡ [] = no_turns part.turns no in
      let zero_kept : length part.kept ≡ 0 = ap length (kept ∙ ap (steps_of shape) none) in (
        ap (λ (n : ℕ). take n (first_steps strands)) zero_kept ∙ sym (ap (steps_of shape) none),
        subst (AreToldOf others) (sym (ap (λ (n : ℕ). behind_steps n strands) zero_kept ∙ nothing_behind others strands is)) is,
      ))
      refl told in
      let rest = cut_is parts (behind_steps (length part.kept) strands) step.1 (All-tail (IsAllKept shape) part parts all) in
      λ i. record { phase = part.phase; cpus = cpus_of shape.cpus part.cpu; steps = step.0 i } ∷ rest i

-- Where no record is lost, the strands that a table left are those of the parts, cut.
module _ (shape : Shape) (p : PassView) (closed : ClosedView) (ends : IsClosed shape p closed) (whole : closed.lost ≡ false) (bounds : HasBounds shape) (parts : List Part)
    (cut : AreCut shape (filter has_turns parts) (filter has_turn (all_strands p.view))) (are_kept : All (λ (part : Part). IsKeptOf shape part.turns [] part.kept) parts)
    (real : All (λ (part : Part). All (IsOfMap shape) part.turns) parts) where
  -- every turn is recorded
  all_kept_at : (i : ℕ) (part : Part) → slice_get parts i ≡ Some part → has_turns part ≡ true → IsAllKept shape part
  all_kept_at i part at some =
      let passing = passing_kept has_turns parts i part at some in
      let its = its_strand shape (filter has_turns parts) (filter has_turn (all_strands p.view)) cut passing.0 part passing.1 in
      let strand = kept_stands has_turn (all_strands p.view) its.0 its.1 its.4 in
      kept_all shape part.turns [] part.kept (all_at (λ (q : Part). IsKeptOf shape q.turns [] q.kept) parts are_kept i part at) (all_at (λ (q : Part). All (IsOfMap shape) q.turns) parts real i part at)
      (λ k below there.
      as_many k its.2 its.1 its.6 its.7 (ends.recorded strand.0 its.1 strand.1 k below there (none_lost shape p closed ends whole k below there))
      (λ j q found. let among = its.8 j q found in let stood = kept_stands has_turns parts among.0 q among.1 in all_at (λ (r : Part). IsKeptOf shape r.turns [] r.kept) parts are_kept stood.0 q stood.1)
      its.3 part its.5)
    where
      as_many : (k : ℕ) (mine : List Part) (strand : Ended) → strand.steps ≡ turns_in mine → strand.kept ≡ kept_in mine → places_on (lock_named shape k) strand.kept ≡ indexes (turns_on k strand.steps)
          → ((j : ℕ) (q : Part) → slice_get mine j ≡ Some q → IsKeptOf shape q.turns [] q.kept) → (m : ℕ) (q : Part) → slice_get mine m ≡ Some q
          → length (places_on (lock_named shape k) []) + length (turns_on k q.turns) ≤ length (places_on (lock_named shape k) q.kept)
      as_many k mine strand steps kept recorded each m q found =
          let same : count_kept shape k strand.kept ≡ count_turns k strand.steps = ap length recorded ∙ length_indexes (turns_on k strand.steps) in
          let turns : count_turns k strand.steps ≡ count_turns k (turns_in mine) = ap (count_turns k) steps in
          let recorded_in : count_kept shape k strand.kept ≡ count_kept shape k (kept_in mine) = ap (count_kept shape k) kept in
          let many : count_turns k q.turns ≤ count_kept shape k q.kept = enough shape k mine each (omega (arith, same, turns, recorded_in)) m q found in
          omega (arith, many)

  kept_at : (i : ℕ) (part : Part) → slice_get parts i ≡ Some part → IsAllKept shape part
  kept_at i part at =
      by_turns part.turns part.kept (all_at (λ (q : Part). IsKeptOf shape q.turns [] q.kept) parts are_kept i part at) (λ some. all_kept_at i part at some)
    where
      by_turns : (turns : List Turned) (kept : List StrandStep) → IsKeptOf shape turns [] kept → (not (eqb (length turns) 0) ≡ true → kept ≡ steps_of shape turns) → kept ≡ steps_of shape turns
      by_turns [] kept is more = is
      by_turns (turn ∷ turns) kept is more = more (some_turns turn turns)

  pub kept_are : All (λ (part : Part). part.kept ≡ steps_of shape part.turns) parts
  kept_are = all_from (IsAllKept shape) parts kept_at

  kept_left : All (IsAllKept shape) (filter has_turns parts)
  kept_left = All-filter has_turns (IsAllKept shape) parts kept_are

  have_kept : All HasKept (filter has_turns parts)
  have_kept =
      all_from HasKept (filter has_turns parts)
      (λ i part at.
      some_kept part.turns part.kept (all_at (λ (q : Part). has_turns q ≡ true) (filter has_turns parts) (filter_passes has_turns parts) i part at) (all_at (IsAllKept shape) (filter has_turns parts) kept_left i part at))
    where
      some_kept : (turns : List Turned) (kept : List StrandStep) → not (eqb (length turns) 0) ≡ true → kept ≡ steps_of shape turns → 0 < length kept
      some_kept [] kept some is = cc
      some_kept (turn ∷ turns) kept some is = let long : length kept ≡ suc (length (steps_of shape turns)) = ap length is in omega (arith, long)

  have_turns : All (λ (e : Ended). has_turn e ≡ true) (filter has_turn (all_strands p.view))
  have_turns = filter_passes has_turn (all_strands p.view)

  told : closed.strands ≡ strands_told shape (filter has_turn (all_strands p.view))
  told = strands_are_told shape p closed ends whole bounds ∙ ap (map (strand_told shape)) (filter_through is_recorded has_turn (all_strands p.view) recorded_turn)

  pub strands_are : cut_strands shape.cpus (map piece_of parts) closed.strands ≡ map (strand_of shape) parts
  strands_are =
      ap (cut_strands shape.cpus (map piece_of parts)) told
      ∙ cut_is shape parts (strands_told shape (filter has_turn (all_strands p.view))) (are_told shape (filter has_turns parts) (filter has_turn (all_strands p.view)) cut have_kept have_turns) kept_are

  pub are_cut_of : IsCutOf (filter has_step (map (strand_of shape) parts)) closed.strands
  are_cut_of =
      subst (IsCutOf (filter has_step (map (strand_of shape) parts))) (sym told)
      (subst (λ (l : List Strand). IsCutOf l (strands_told shape (filter has_turn (all_strands p.view)))) (sym (with_steps shape parts))
      (cut_told shape (filter has_turns parts) (filter has_turn (all_strands p.view)) cut kept_left have_kept have_turns))

  -- and each part's turns stand in the histories
  pub stand : All (λ (part : Part). StandIn ends.log part.turns) parts
  stand =
      all_from (λ (part : Part). StandIn ends.log part.turns) parts
      (λ i part at. by_turns part.turns (λ some. stand_at i part at some))
    where
      by_turns : (turns : List Turned) → (not (eqb (length turns) 0) ≡ true → StandIn ends.log turns) → StandIn ends.log turns
      by_turns [] more = tt
      by_turns (turn ∷ turns) more = more (some_turns turn turns)

      stand_at : (i : ℕ) (part : Part) → slice_get parts i ≡ Some part → has_turns part ≡ true → StandIn ends.log part.turns
      stand_at i part at some =
          let passing = passing_kept has_turns parts i part at some in
          let its = its_strand shape (filter has_turns parts) (filter has_turn (all_strands p.view)) cut passing.0 part passing.1 in
          let strand = kept_stands has_turn (all_strands p.view) its.0 its.1 its.4 in
          stand_of_one ends.log its.2 (subst (StandIn ends.log) its.6 (ends.stand strand.0 its.1 strand.1)) its.3 part its.5
