-- Passes once a CPU was split off, and once two were joined.
use Rattle.std.proofs.Common.{◌≡◌, ◌≢◌, ℕ, ◌<◌, cond, Bool, true, false, List, [], ◌∷◌, ◌++◌, Option, None, Some, sym, refl, ap, ◌∙◌, subst, arith}
use Rattle.std.specs.Prelude.{All}
use Rattle.std.proofs.lemmas.List.Elements.{All-append, All-cons, All-nil}
use Rattle.atomic_table.specs.Seated.{TableId}
use Rattle.map_types.specs.declared.attr.Shape.{Shape}
use Rattle.map_types.specs.declared.kind.MapKind.TheVariants.{Hash}
use Rattle.map_types.specs.Stored.{Stored, IsSized}
use Rattle.map_types.specs.Creation.{IsShape}
use Rattle.map_types.proofs.CreationLemmas.{bounds_of_shape}
use Rattle.map_types.proofs.RowLemmas.{by_test}
use Rattle.place_words.specs.declared.history.StrandStep.{StrandStep}
use Rattle.place_table.specs.declared.content.Behind.{Behind}
use Rattle.place_table.specs.declared.strands.TurnsMade.{TurnsMade}
use Rattle.place_table.specs.declared.view.View.{View}
use Rattle.place_table.specs.declared.view.Hold.{Hold}
use Rattle.place_table.specs.declared.view.InHand.{InHand}
use Rattle.place_table.specs.Views.{is_among, is_in_hand_of, without_cpu, in_hand_of, in_other_hands, in_no_hand_of, current_strand, all_strands, split_from, split_off, joined}
use Rattle.place_table.specs.Plays.{Seated}
use Rattle.place_table.specs.Logged.{HaveLogs}
use Rattle.place_table.specs.Passes.{PassView, TableView, Carries, HasCpusOf, IsPass, IsPassOf, IsInNoCall, AreFinished, flags_of, spare_of, SparesDiffer, with_view, with_spares, CanSplit, Split, CanJoin, either_spare, Joined}
use Rattle.place_table.proofs.Recorded.{no_log}
use Rattle.place_table.proofs.Worlds.{true_false, by_bool, none_some, among_first}
use Rattle.place_table.proofs.StrandMoves.{among_append}
use Rattle.place_table.proofs.Splits.{among_without_same, among_without_other, others_same, others_other, own_same, own_other}
use Rattle.place_table.proofs.Joins.{hand_append, in_either, in_others, in_no_others}

-- a CPU of which what is left doesn't tell is another
other_than : (c cpu : ℕ) (P : ℕ → Bool) → P cpu ≡ false → P c ≡ true → c ≢ cpu
other_than c cpu P never is same = true_false (sym is ∙ (ap P same ∙ never))

alone : (c cpu : ℕ) → is_among c (cpu ∷ []) ≡ true → c ≡ cpu
alone c cpu among = by_test cpu c (λ b. cond b true false ≡ true → c ≡ cpu) (λ same _. sym same) (λ _ f. true_false (sym f)) among

-- the CPUs of all strands are the map's
pub all_within : (v : View) → All (HasCpusOf v.shape) v.ended → HasCpusOf v.shape (current_strand v) → All (HasCpusOf v.shape) (all_strands v)
all_within v ended current =
    All-append (HasCpusOf v.shape) v.ended (current_strand v ∷ []) ended (All-cons (HasCpusOf v.shape) (current_strand v) [] current (All-nil (HasCpusOf v.shape)))

module _ {v : View} {slots : List (ℕ × Behind)} {strand : List StrandStep} {spares : List (Option Stored)} {flags : List Bool} {past : TurnsMade} (cpu : ℕ) (pass : IsPass v slots strand spares flags past) where
  -- what stays, once a CPU is split off
  pub is_pass_left : (now : List (Option Stored)) (steps : List StrandStep) (left : List Bool) (kept : TurnsMade) (after : Seated) → v.held ≡ [] → after ≡ (split_from cpu v, slots) → steps ≡ [] → left ≡ flags_of (without_cpu cpu v.cpus) → kept.log.items ≡ [] → AreFinished [] kept.ended → HaveLogs v.shape [] kept.logs
      → spare_of cpu now ≡ None → SparesDiffer cpu spares now → IsPass after.0 after.1 steps now left kept
  is_pass_left now steps left kept after no_lock after_is no_steps flags_are no_turns no_strands no_logs gone stay =
      subst (λ (z : Seated). IsPass z.0 z.1 steps now left kept) (sym after_is) record {
        carries = subst (λ (l : List Hold). Carries v.shape l slots) no_lock pass.carries;
        strand_is = no_steps;
        log_is = no_log v.shape kept.log.items no_turns;
        cpus_are = flags_are;
        ended_are = no_strands;
        logs_are = no_logs;
        spares_fit = λ c body here. by_test c cpu (λ _. IsSized v.shape body)
            (λ same. absurd (none_some (sym gone ∙ (ap (λ (z : ℕ). spare_of z now) (sym same) ∙ here))))
            (λ other. pass.spares_fit c body (sym (stay c other) ∙ here));
        ended_within = All-nil (HasCpusOf v.shape);
        within = λ c among. let other = other_than c cpu (λ z. is_among z (without_cpu cpu v.cpus)) (among_without_same cpu v.cpus) among in pass.within c (sym (among_without_other c cpu v.cpus other) ∙ among);
        unread = refl;
        hands_real = λ e c in_hand.
            let other = other_than c cpu (λ z. is_in_hand_of e z (in_other_hands cpu v.hand)) (others_same e cpu v.hand) in_hand in
            let real = pass.hands_real e c (sym (others_other e c cpu v.hand other) ∙ in_hand) in
            (real.0, among_without_other c cpu v.cpus other ∙ real.1);
      }

  -- and the new one
  pub is_pass_off : (off : List (Option Stored)) (steps : List StrandStep) (one : List Bool) (kept : TurnsMade) (after : Seated) → is_among cpu v.cpus ≡ true → after ≡ (split_off cpu v, []) → steps ≡ [] → one ≡ flags_of (cpu ∷ []) → kept.log.items ≡ [] → AreFinished (all_strands v) kept.ended → HaveLogs v.shape (all_strands v) kept.logs
      → spare_of cpu off ≡ spare_of cpu spares → ((c : ℕ) → c ≢ cpu → spare_of c off ≡ None) → IsPass after.0 after.1 steps off one kept
  is_pass_off off steps one kept after has after_is none flags_are no_turns finished logged own no_others =
      subst (λ (z : Seated). IsPass z.0 z.1 steps off one kept) (sym after_is) record {
        carries = tt;
        strand_is = none;
        log_is = no_log v.shape kept.log.items no_turns;
        cpus_are = flags_are;
        ended_are = finished;
        logs_are = logged;
        spares_fit = λ c body here. by_test c cpu (λ _. IsSized v.shape body)
            (λ same. pass.spares_fit cpu body (sym own ∙ (ap (λ (z : ℕ). spare_of z off) (sym same) ∙ here)))
            (λ other. absurd (none_some (sym (no_others c other) ∙ here)));
        ended_within = all_within v pass.ended_within pass.within;
        within = λ c among. subst (λ (z : ℕ). z < v.shape.cpus) (sym (alone c cpu among)) (pass.within cpu has);
        unread = refl;
        hands_real = λ e c in_hand. by_test c cpu (λ _. (e < v.shape.elements) × (is_among c (cpu ∷ []) ≡ true))
            (λ same. (
              (pass.hands_real e cpu (sym (own_same e cpu v.hand) ∙ (ap (λ (z : ℕ). is_in_hand_of e z (in_hand_of cpu v.hand)) (sym same) ∙ in_hand))).0,
              subst (λ (z : ℕ). is_among z (cpu ∷ []) ≡ true) (sym same) (among_first cpu []),
            ))
            (λ other. true_false (sym in_hand ∙ own_other e c cpu v.hand other));
      }

-- neither is in a call

left_in_no_call : (before : PassView) (cpu : ℕ) (now : List (Option Stored)) → IsInNoCall before → spare_of cpu now ≡ None → SparesDiffer cpu before.spares now → IsInNoCall (with_spares (with_view before (split_from cpu before.view)) now)
left_in_no_call before cpu now is gone stay =
    let v = before.view in record {
      holds_nothing = refl;
      spares_only = λ e c among in_hand.
          let other = other_than c cpu (λ z. is_among z (without_cpu cpu v.cpus)) (among_without_same cpu v.cpus) among in
          let kept = is.spares_only e c (sym (among_without_other c cpu v.cpus other) ∙ among) (sym (others_other e c cpu v.hand other) ∙ in_hand) in
          (kept.0, stay c other ∙ kept.1, kept.2, kept.3);
      spares_in_hand = λ c body here. by_test c cpu (λ _. is_in_hand_of body.element c (in_other_hands cpu v.hand) ≡ true)
          (λ same. absurd (none_some (sym gone ∙ (ap (λ (z : ℕ). spare_of z now) (sym same) ∙ here))))
          (λ other. others_other body.element c cpu v.hand other ∙ is.spares_in_hand c body (sym (stay c other) ∙ here));
      none_out = λ hash c among.
          let other = other_than c cpu (λ z. is_among z (without_cpu cpu v.cpus)) (among_without_same cpu v.cpus) among in
          let kept = is.none_out hash c (sym (among_without_other c cpu v.cpus other) ∙ among) in
          (kept.0, stay c other ∙ kept.1);
      carries_nothing = ap (in_other_hands cpu) is.carries_nothing;
    }

off_in_no_call : (before off : PassView) (cpu : ℕ) → IsInNoCall before → is_among cpu before.view.cpus ≡ true → off.view ≡ split_off cpu before.view → spare_of cpu off.spares ≡ spare_of cpu before.spares → ((c : ℕ) → c ≢ cpu → spare_of c off.spares ≡ None) → IsInNoCall off
off_in_no_call before off cpu is has view_is own no_others =
    let v = before.view in record {
      holds_nothing = ap (λ (z : View). z.held) view_is;
      spares_only = λ e c among in_hand.
          let same = alone c cpu (subst (λ (z : View). is_among c z.cpus ≡ true) view_is among) in
          let here : is_in_hand_of e cpu (in_hand_of cpu v.hand) ≡ true = subst (λ (z : View × ℕ). is_in_hand_of e z.1 z.0.hand ≡ true) (λ i. (view_is i, same i)) in_hand in
          let kept = is.spares_only e cpu has (sym (own_same e cpu v.hand) ∙ here) in
          (kept.0, ap (λ (z : ℕ). spare_of z off.spares) same ∙ (own ∙ kept.1), kept.2, ap (λ (z : View). z.shape.kind) view_is ∙ kept.3);
      spares_in_hand = λ c body here. by_test c cpu (λ _. is_in_hand_of body.element c off.view.hand ≡ true)
          (λ same. ap (λ (z : View). is_in_hand_of body.element c z.hand) view_is
          ∙ (ap (λ (z : ℕ). is_in_hand_of body.element z (in_hand_of cpu v.hand)) same
          ∙ (own_same body.element cpu v.hand ∙ is.spares_in_hand cpu body (sym own ∙ (ap (λ (z : ℕ). spare_of z off.spares) (sym same) ∙ here)))))
          (λ other. absurd (none_some (sym (no_others c other) ∙ here)));
      none_out = λ hash c among.
          let same = alone c cpu (subst (λ (z : View). is_among c z.cpus ≡ true) view_is among) in
          let kept = is.none_out (ap (λ (z : View). z.shape.kind) (sym view_is) ∙ hash) cpu has in
          (kept.0, ap (λ (z : ℕ). spare_of z off.spares) same ∙ (own ∙ kept.1));
      carries_nothing = ap (λ (z : View). z.carried) view_is ∙ ap (in_hand_of cpu) is.carries_nothing;
    }

split_is : (t : TableView) (cpu : ℕ) (before off : PassView) (table : TableId) (seat : ℕ) (view : View) (now : List (Option Stored)) → CanSplit t cpu before → table ≡ before.table → seat ≡ before.seat → view ≡ split_from cpu before.view → spare_of cpu now ≡ None → SparesDiffer cpu before.spares now
    → off.table ≡ before.table → off.view ≡ split_off cpu before.view → spare_of cpu off.spares ≡ spare_of cpu before.spares → ((c : ℕ) → c ≢ cpu → spare_of c off.spares ≡ None)
    → Split cpu before record { table = table; seat = seat; cpu = before.cpu; call = before.call; view = view; spares = now } off
split_is t cpu before off table seat view now can table_is seat_is view_is gone stay of_table off_is own no_others =
    let after : PassView = record { table = table; seat = seat; cpu = before.cpu; call = before.call; view = view; spares = now } in
    let after_is : after ≡ with_spares (with_view before (split_from cpu before.view)) now =
    (λ i. record { table = table_is i; seat = seat_is i; cpu = before.cpu; call = before.call; view = view_is i; spares = now }) in record {
      after_is = after_is;
      spare_gone = gone;
      spares_stay = stay;
      table = of_table;
      view_is = off_is;
      spare_is = own;
      no_others = no_others;
      in_no_call = subst IsInNoCall (sym after_is) (left_in_no_call before cpu now can.in_no_call gone stay);
      off_in_no_call = off_in_no_call before off cpu can.in_no_call can.has_cpu off_is own no_others;
    }

-- the same of the pass as a caller sees it
pub split_of : (t : TableView) (cpu : ℕ) (p before off : PassView) (table : TableId) (seat : ℕ) (view : View) (now : List (Option Stored)) → before ≡ p → CanSplit t cpu p → table ≡ before.table → seat ≡ before.seat → view ≡ split_from cpu before.view → spare_of cpu now ≡ None → SparesDiffer cpu before.spares now
    → off.table ≡ before.table → off.view ≡ split_off cpu before.view → spare_of cpu off.spares ≡ spare_of cpu before.spares → ((c : ℕ) → c ≢ cpu → spare_of c off.spares ≡ None)
    → Split cpu p record { table = table; seat = seat; cpu = before.cpu; call = before.call; view = view; spares = now } off
split_of t cpu p before off table seat view now is can table_is seat_is view_is gone stay of_table off_is own no_others =
    subst (λ (z : PassView). Split cpu z record { table = table; seat = seat; cpu = before.cpu; call = before.call; view = view; spares = now } off) is
    (split_is t cpu before off table seat view now (subst (CanSplit t cpu) (sym is) can) table_is seat_is view_is gone stay of_table off_is own no_others)

-- a CPU of a pass is one of the sixteen at most that a map has
pub split_few : (t : TableView) (p : PassView) (cpu : ℕ) (v : View) → IsShape t.shape → IsPassOf t p → is_among cpu p.view.cpus ≡ true → v ≡ p.view → ((c : ℕ) → is_among c v.cpus ≡ true → c < v.shape.cpus) → cpu < 16
split_few t p cpu v is of_table has v_is within =
    let bounds = bounds_of_shape t.shape is in
    let shape_is : v.shape ≡ t.shape = ap (λ (w : View). w.shape) v_is ∙ of_table.1 in
    let below : cpu < t.shape.cpus = subst (λ (s : Shape). cpu < s.cpus) shape_is (within cpu (ap (λ (w : View). is_among cpu w.cpus) v_is ∙ has)) in
    omega arith

-- Two passes that were joined

-- a spare that is kept after is kept in one of them
kept_in_either : {P : Type 0} (first second after : Option Stored) (body : Stored) → after ≡ either_spare first second → after ≡ Some body → (first ≡ Some body → P) → (first ≡ None → second ≡ Some body → P) → P
kept_in_either None second after body is here f g = g refl (sym is ∙ here)
kept_in_either (Some x) second after body is here f g = f (sym is ∙ here)

-- what a pass that was joined to another brings was in its hands
in_theirs : (e c : ℕ) (cpus : List ℕ) (hand : List InHand) → is_in_hand_of e c (in_no_hand_of cpus hand) ≡ true → is_in_hand_of e c hand ≡ true
in_theirs e c cpus hand in_hand = sym (in_others e c cpus hand (in_no_others e c cpus hand in_hand)) ∙ in_hand

pub is_pass_joined : (v u : View) (slots others : List (ℕ × Behind)) (strand steps now : List StrandStep) (spares theirs all : List (Option Stored)) (flags more both : List Bool) (past other_past kept : TurnsMade) (after : Seated)
    → IsPass v slots strand spares flags past → IsPass u others steps theirs more other_past → v.held ≡ [] → u.shape ≡ v.shape → after ≡ (joined v u, slots) → now ≡ [] → both ≡ flags_of (v.cpus ++ u.cpus) → kept.log.items ≡ [] → AreFinished (all_strands v ++ all_strands u) kept.ended
    → HaveLogs v.shape (all_strands v ++ all_strands u) kept.logs
    → ((cpu : ℕ) → spare_of cpu all ≡ either_spare (spare_of cpu spares) (spare_of cpu theirs)) → IsPass after.0 after.1 now all both kept
is_pass_joined v u slots others strand steps now spares theirs all flags more both past other_past kept after pass other no_lock same_shape after_is none flags_are no_turns finished logged spares_are =
    subst (λ (z : Seated). IsPass z.0 z.1 now all both kept) (sym after_is) record {
      carries = subst (λ (l : List Hold). Carries v.shape l slots) no_lock pass.carries;
      strand_is = none;
      log_is = no_log v.shape kept.log.items no_turns;
      cpus_are = flags_are;
      ended_are = finished;
      logs_are = logged;
      spares_fit = λ c body here. kept_in_either (spare_of c spares) (spare_of c theirs) (spare_of c all) body (spares_are c) here
          (λ ours. pass.spares_fit c body ours)
          (λ _ is. subst (λ (z : Shape). IsSized z body) same_shape (other.spares_fit c body is));
      ended_within = All-append (HasCpusOf v.shape) (all_strands v) (all_strands u) (all_within v pass.ended_within pass.within)
          (subst (λ (z : Shape). All (HasCpusOf z) (all_strands u)) same_shape (all_within u other.ended_within other.within));
      within = λ c among. in_either (is_among c v.cpus) (is_among c u.cpus) (c < v.shape.cpus) (pass.within c) (λ is. subst (λ (z : Shape). c < z.cpus) same_shape (other.within c is)) (sym (among_append c v.cpus u.cpus) ∙ among);
      unread = refl;
      hands_real = λ e c in_hand. in_either (is_in_hand_of e c v.hand) (is_in_hand_of e c (in_no_hand_of v.cpus u.hand)) ((e < v.shape.elements) × (is_among c (v.cpus ++ u.cpus) ≡ true))
          (λ ours. let real = pass.hands_real e c ours in (real.0, among_append c v.cpus u.cpus ∙ ap (λ b. cond b true (is_among c u.cpus)) real.1))
          (λ is. let real = other.hands_real e c (in_theirs e c v.cpus u.hand is) in (subst (λ (z : Shape). e < z.elements) same_shape real.0, among_append c v.cpus u.cpus ∙ either_true (is_among c v.cpus) (is_among c u.cpus) real.1))
          (sym (hand_append e c v.hand (in_no_hand_of v.cpus u.hand)) ∙ in_hand);
    }
  where
    either_true : (a b : Bool) → b ≡ true → cond a true b ≡ true
    either_true true b is = refl
    either_true false b is = is

-- what is in hand of a pass is in the hand of one of its CPUs
abbrev pub HandsOwn : View → Type 0
HandsOwn v = (e cpu : ℕ) → is_in_hand_of e cpu v.hand ≡ true → is_among cpu v.cpus ≡ true

no_spare_here : (p : PassView) (cpu : ℕ) → IsInNoCall p → HandsOwn p.view → is_among cpu p.view.cpus ≡ false → spare_of cpu p.spares ≡ None
no_spare_here p cpu is own apart = go (spare_of cpu p.spares) refl
  where
    go : (found : Option Stored) → spare_of cpu p.spares ≡ found → found ≡ None
    go None here = refl
    go (Some body) here = true_false (sym (own body.element cpu (is.spares_in_hand cpu body here)) ∙ apart)

module _ (before other : PassView) (all : List (Option Stored)) (is : IsInNoCall before) (other_is : IsInNoCall other) (own : HandsOwn before.view) (other_own : HandsOwn other.view) (same_shape : other.view.shape ≡ before.view.shape)
    (spares_are : (cpu : ℕ) → spare_of cpu all ≡ either_spare (spare_of cpu before.spares) (spare_of cpu other.spares)) where
  abbrev HasOne : ℕ → Type 0
  HasOne cpu = (body : Stored) × (spare_of cpu all ≡ Some body)

  -- the spare of a CPU of the pass is the one that it had, and that of a CPU of the other alone is the other's
  ours : (cpu : ℕ) (body : Stored) → spare_of cpu before.spares ≡ Some body → spare_of cpu all ≡ Some body
  ours cpu body here = spares_are cpu ∙ ap (λ (o : Option Stored). either_spare o (spare_of cpu other.spares)) here

  theirs : (cpu : ℕ) (body : Stored) → spare_of cpu before.spares ≡ None → spare_of cpu other.spares ≡ Some body → spare_of cpu all ≡ Some body
  theirs cpu body none here = spares_are cpu ∙ ap (λ (o : Option Stored). either_spare o (spare_of cpu other.spares)) none ∙ here

  one_of_both : (cpu : ℕ) (body : Stored) → spare_of cpu other.spares ≡ Some body → HasOne cpu
  one_of_both cpu body here = go (spare_of cpu before.spares) refl
    where
      go : (found : Option Stored) → spare_of cpu before.spares ≡ found → HasOne cpu
      go None none = (body, theirs cpu body none here)
      go (Some x) at = (x, ours cpu x at)

  -- a CPU whose spare only the other keeps is none of the pass
  not_ours : (cpu : ℕ) (body : Stored) → spare_of cpu before.spares ≡ None → spare_of cpu other.spares ≡ Some body → is_among cpu before.view.cpus ≡ false
  not_ours cpu body none here =
      let held = other_is.spares_in_hand cpu body here in
      let kept = other_is.spares_only body.element cpu (other_own body.element cpu held) held in
      by_bool (is_among cpu before.view.cpus) (λ b. is_among cpu before.view.cpus ≡ b → b ≡ false)
      (λ _ mine. absurd (none_some (sym none ∙ (is.none_out (ap (λ (z : Shape). z.kind) (sym same_shape) ∙ kept.3) cpu mine).1)))
      (λ _ _. refl) refl

  joined_in_no_call : IsInNoCall (with_spares (with_view before (joined before.view other.view)) all)
  joined_in_no_call =
      let v = before.view in let u = other.view in record {
        holds_nothing = refl;
        spares_only = λ e cpu _ in_hand. in_either (is_in_hand_of e cpu v.hand) (is_in_hand_of e cpu (in_no_hand_of v.cpus u.hand)) ((body : Stored) × (spare_of cpu all ≡ Some body) × (body.element ≡ e) × (v.shape.kind ≡ Hash))
            (λ here. let kept = is.spares_only e cpu (own e cpu here) here in (kept.0, ours cpu kept.0 kept.1, kept.2, kept.3))
            (λ left.
            let here = in_theirs e cpu v.cpus u.hand left in
            let kept = other_is.spares_only e cpu (other_own e cpu here) here in
            (kept.0, theirs cpu kept.0 (no_spare_here before cpu is own (in_no_others e cpu v.cpus u.hand left)) kept.1, kept.2, ap (λ (z : Shape). z.kind) (sym same_shape) ∙ kept.3))
            (sym (hand_append e cpu v.hand (in_no_hand_of v.cpus u.hand)) ∙ in_hand);
        spares_in_hand = λ cpu body here. hand_append body.element cpu v.hand (in_no_hand_of v.cpus u.hand) ∙ kept_in_either (spare_of cpu before.spares) (spare_of cpu other.spares) (spare_of cpu all) body (spares_are cpu) here
            (λ at. ap (λ b. cond b true (is_in_hand_of body.element cpu (in_no_hand_of v.cpus u.hand))) (is.spares_in_hand cpu body at))
            (λ none at. either_true (is_in_hand_of body.element cpu v.hand) (is_in_hand_of body.element cpu (in_no_hand_of v.cpus u.hand))
            (in_others body.element cpu v.cpus u.hand (not_ours cpu body none at) ∙ other_is.spares_in_hand cpu body at));
        none_out = λ hash cpu among. in_either (is_among cpu v.cpus) (is_among cpu u.cpus) (HasOne cpu)
            (λ mine. let kept = is.none_out hash cpu mine in (kept.0, ours cpu kept.0 kept.1))
            (λ mine. let kept = other_is.none_out (ap (λ (z : Shape). z.kind) same_shape ∙ hash) cpu mine in one_of_both cpu kept.0 kept.1)
            (sym (among_append cpu v.cpus u.cpus) ∙ among);
        carries_nothing = (λ i. is.carries_nothing i ++ other_is.carries_nothing i);
      }
    where
      either_true : (a b : Bool) → b ≡ true → cond a true b ≡ true
      either_true true b at = refl
      either_true false b at = at

joined_is : (t : TableView) (before other : PassView) (table : TableId) (seat : ℕ) (view : View) (all : List (Option Stored)) → CanJoin t before other → HandsOwn before.view → HandsOwn other.view → table ≡ before.table → seat ≡ before.seat → view ≡ joined before.view other.view
    → ((cpu : ℕ) → spare_of cpu all ≡ either_spare (spare_of cpu before.spares) (spare_of cpu other.spares)) → Joined before other record { table = table; seat = seat; cpu = before.cpu; call = before.call; view = view; spares = all }
joined_is t before other table seat view all can own other_own table_is seat_is view_is spares_are =
    let after : PassView = record { table = table; seat = seat; cpu = before.cpu; call = before.call; view = view; spares = all } in
    let after_is : after ≡ with_spares (with_view before (joined before.view other.view)) all =
    (λ i. record { table = table_is i; seat = seat_is i; cpu = before.cpu; call = before.call; view = view_is i; spares = all }) in record {
      after_is = after_is;
      spares_are = spares_are;
      in_no_call = subst IsInNoCall (sym after_is) (joined_in_no_call before other all can.in_no_call can.other_in_no_call own other_own (can.other_of_table.1 ∙ sym can.of_table.1) spares_are);
    }

-- the same of the passes as a caller sees them
pub joined_of : (t : TableView) (p q before other : PassView) (table : TableId) (seat : ℕ) (view : View) (all : List (Option Stored)) → before ≡ p → other ≡ q → CanJoin t p q → HandsOwn before.view → HandsOwn other.view → table ≡ before.table → seat ≡ before.seat → view ≡ joined before.view other.view
    → ((cpu : ℕ) → spare_of cpu all ≡ either_spare (spare_of cpu before.spares) (spare_of cpu other.spares)) → Joined p q record { table = table; seat = seat; cpu = before.cpu; call = before.call; view = view; spares = all }
joined_of t p q before other table seat view all is other_is can own other_own table_is seat_is view_is spares_are =
    subst (λ (z : PassView × PassView). Joined z.0 z.1 record { table = table; seat = seat; cpu = before.cpu; call = before.call; view = view; spares = all }) (λ i. (is i, other_is i))
    (joined_is t before other table seat view all (subst (λ (z : PassView × PassView). CanJoin t z.0 z.1) (λ i. (sym is i, sym other_is i)) can) own other_own table_is seat_is view_is spares_are)
