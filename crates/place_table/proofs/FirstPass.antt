-- The first pass of a table is in no call, and keeps the spares that it has in hand.
use Rattle.std.proofs.Common.{◌≡◌, ℕ, ◌+◌, ◌<◌, ◌≤◌, Bool, true, List, [], length, get_or, Option, None, Some, refl, ap, ◌∙◌, sym, subst, arith, ⊎_elim}
use Rattle.std.specs.Prelude.{MatchOption}
use Rattle.std.proofs.lemmas.Bool.{cases_lt}
use Rattle.std.proofs.lemmas.List.Elements.{All-nil}
use Rattle.map_types.specs.declared.attr.Shape.{Shape}
use Rattle.map_types.specs.declared.kind.MapKind.{MapKind}
use Rattle.map_types.specs.declared.kind.MapKind.TheVariants.{Hash, PercpuHash, LruHash, LruPercpuHash}
use Rattle.map_types.specs.Shape.{HasBounds}
use Rattle.map_types.specs.Stored.{Stored, IsSized}
use Rattle.place_words.specs.declared.history.StrandStep.{StrandStep}
use Rattle.place_words.specs.Openings.{opening_spares, first_spares}
use Rattle.place_table.specs.declared.content.Behind.{Behind}
use Rattle.place_table.specs.declared.strands.TurnsMade.{TurnsMade}
use Rattle.place_table.specs.declared.view.View.{View}
use Rattle.place_table.specs.declared.view.InHand.{InHand}
use Rattle.place_table.specs.Views.{is_among, is_in_hand_of, numbers_below, spares_from, first_hand, first_view}
use Rattle.place_table.specs.Logged.{HaveLogs}
use Rattle.place_table.specs.Passes.{PassView, TableView, spare_of, flags_of, AreFinished, SparesFit, HasCpusOf, IsPass, IsInNoCall, IsFirstPass}
use Rattle.place_table.specs.Opening.{AreBodiesOf}
use Rattle.place_table.proofs.FirstSpares.{hand_past, spares_count, spare_in_hand, spare_at_place}
use Rattle.place_table.proofs.Opens.{among, among_below}
use Rattle.place_table.proofs.Recorded.{no_log}
use Rattle.place_table.proofs.Worlds.{true_false}

-- the body that stands at a CPU's place
body_at : (shape : Shape) (elements : List ℕ) (bodies : List (Option Stored)) (cpu : ℕ) → AreBodiesOf shape elements bodies → cpu < length elements → (body : Stored) × (spare_of cpu bodies ≡ Some body) × (body.element ≡ get_or elements cpu 0)
body_at shape elements bodies cpu are within = go (spare_of cpu bodies) refl (are cpu)
  where
    go : (found : Option Stored) → spare_of cpu bodies ≡ found → MatchOption found (length elements ≤ cpu) (λ body. (cpu < length elements) × (body.element ≡ get_or elements cpu 0) × IsSized shape body) → (body : Stored) × (spare_of cpu bodies ≡ Some body) × (body.element ≡ get_or elements cpu 0)
    go None is past = absurd (omega arith)
    go (Some body) is fact = (body, is, fact.1)

first_count : (shape : Shape) → HasBounds shape → shape.kind ≡ Hash → length (first_spares shape shape.kind) ≡ shape.cpus
first_count shape bounds hash = ap (λ (kind : MapKind). length (first_spares shape kind)) hash ∙ spares_count shape bounds hash

-- each spare that is kept is the CPU's, and has the sizes of the map
kept_fact : (shape : Shape) (spares : List (Option Stored)) → AreBodiesOf shape (first_spares shape shape.kind) spares → (cpu : ℕ) (body : Stored) → spare_of cpu spares ≡ Some body
    → (cpu < length (first_spares shape shape.kind)) × (body.element ≡ get_or (first_spares shape shape.kind) cpu 0) × IsSized shape body
kept_fact shape spares are cpu body kept =
    subst (λ (found : Option Stored). MatchOption found (length (first_spares shape shape.kind) ≤ cpu) (λ stored. (cpu < length (first_spares shape shape.kind)) × (stored.element ≡ get_or (first_spares shape shape.kind) cpu 0) × IsSized shape stored)) kept (are cpu)

first_spares_fit : (shape : Shape) (spares : List (Option Stored)) → AreBodiesOf shape (first_spares shape shape.kind) spares → SparesFit (first_view shape) spares
first_spares_fit shape spares are cpu body kept = (kept_fact shape spares are cpu body kept).2

first_in_hand : (shape : Shape) (spares : List (Option Stored)) → AreBodiesOf shape (first_spares shape shape.kind) spares → (cpu : ℕ) (body : Stored) → spare_of cpu spares ≡ Some body → is_in_hand_of body.element cpu (first_hand shape.kind shape) ≡ true
first_in_hand shape spares are cpu body kept =
    let fact = kept_fact shape spares are cpu body kept in
    let place : 0 + cpu ≡ cpu = omega arith in
    let hand : is_in_hand_of (get_or (first_spares shape shape.kind) cpu 0) cpu (spares_from 0 (first_spares shape shape.kind)) ≡ true = subst (λ (c : ℕ). is_in_hand_of (get_or (first_spares shape shape.kind) cpu 0) c (spares_from 0 (first_spares shape shape.kind)) ≡ true) place (spare_at_place cpu 0 (first_spares shape shape.kind) fact.0) in
    ap (λ (e : ℕ). is_in_hand_of e cpu (first_hand shape.kind shape)) fact.1 ∙ hand

pub first_in_no_call : (shape : Shape) (p : PassView) → HasBounds shape → p.view ≡ first_view shape → AreBodiesOf shape (first_spares shape shape.kind) p.spares → IsInNoCall p
first_in_no_call shape p bounds is are = record {
  holds_nothing = ap (λ (v : View). v.held) is;
  spares_only = λ e cpu mine in_hand.
      let hand : is_in_hand_of e cpu (spares_from 0 (first_spares shape shape.kind)) ≡ true = subst (λ (hand : List InHand). is_in_hand_of e cpu hand ≡ true) (ap (λ (v : View). v.hand) is) in_hand in
      let found = spare_in_hand e cpu 0 (first_spares shape shape.kind) hand in
      let at : found.0 ≡ cpu = let place = found.2 in omega arith in
      let kept = body_at shape (first_spares shape shape.kind) p.spares cpu are (let within = found.1 in omega arith) in (
        kept.0,
        kept.1,
        kept.2 ∙ (ap (λ (i : ℕ). get_or (first_spares shape shape.kind) i 0) (sym at) ∙ found.3),
        ap (λ (v : View). v.shape.kind) is ∙ only_hash e cpu shape shape.kind (ap (λ (v : View). is_in_hand_of e cpu v.hand) (sym is) ∙ in_hand),
      );
  spares_in_hand = λ cpu body kept. subst (λ (hand : List InHand). is_in_hand_of body.element cpu hand ≡ true) (sym (ap (λ (v : View). v.hand) is)) (first_in_hand shape p.spares are cpu body kept);
  none_out = λ hash cpu mine.
      let is_hash : shape.kind ≡ Hash = ap (λ (v : View). v.shape.kind) (sym is) ∙ hash in
      let few : cpu < shape.cpus = among_below cpu shape.cpus (subst (λ (v : View). is_among cpu v.cpus ≡ true) is mine) in
      let kept = body_at shape (first_spares shape shape.kind) p.spares cpu are (omega (arith, first_count shape bounds is_hash)) in
      (kept.0, kept.1);
  carries_nothing = ap (λ (v : View). v.carried) is;
}
  where
    only_hash : (e cpu : ℕ) (shape : Shape) (kind : MapKind) → is_in_hand_of e cpu (first_hand kind shape) ≡ true → kind ≡ Hash
    only_hash e cpu shape Hash in_hand = refl
    only_hash e cpu shape PercpuHash in_hand = true_false (sym in_hand)
    only_hash e cpu shape LruHash in_hand = true_false (sym in_hand)
    only_hash e cpu shape LruPercpuHash in_hand = true_false (sym in_hand)

first_real : (shape : Shape) → HasBounds shape → (e cpu : ℕ) → is_in_hand_of e cpu (first_hand shape.kind shape) ≡ true → e < shape.elements
first_real shape bounds e cpu in_hand =
    ⊎_elim
    (λ (real : e < shape.elements). real)
    (λ (past : shape.elements ≤ e). true_false (sym in_hand ∙ hand_past shape shape.kind bounds e cpu past))
    (cases_lt e shape.elements)

-- what is in hand at first is in the hand of a CPU of the map
first_mine : (shape : Shape) → HasBounds shape → (e cpu : ℕ) → is_in_hand_of e cpu (first_hand shape.kind shape) ≡ true → cpu < shape.cpus
first_mine shape bounds e cpu in_hand = go shape.kind refl in_hand
  where
    go : (kind : MapKind) → shape.kind ≡ kind → is_in_hand_of e cpu (first_hand kind shape) ≡ true → cpu < shape.cpus
    go Hash hash is =
        let found = spare_in_hand e cpu 0 (opening_spares shape) is in
        let within = found.1 in let place = found.2 in
        omega (arith, spares_count shape bounds hash)
    go PercpuHash hash is = true_false (sym is)
    go LruHash hash is = true_false (sym is)
    go LruPercpuHash hash is = true_false (sym is)

pub first_is_pass : (shape : Shape) → HasBounds shape → (v : View) (slots : List (ℕ × Behind)) (strand : List StrandStep) (spares : List (Option Stored)) (flags : List Bool) (past : TurnsMade) → v ≡ first_view shape → slots ≡ [] → strand ≡ [] → AreBodiesOf shape (first_spares shape shape.kind) spares
    → flags ≡ flags_of (numbers_below shape.cpus) → past.log.items ≡ [] → AreFinished [] past.ended → HaveLogs shape [] past.logs → IsPass v slots strand spares flags past
first_is_pass shape bounds v slots strand spares flags past is none no_steps are all_cpus no_turns none_ended no_logs =
    subst (λ (w : View). IsPass w slots strand spares flags past) (sym is)
    (subst (λ (xs : List (ℕ × Behind)). IsPass (first_view shape) xs strand spares flags past) (sym none)
    record { carries = tt; strand_is = no_steps; log_is = no_log shape past.log.items no_turns; cpus_are = all_cpus; ended_are = none_ended; logs_are = no_logs; spares_fit = first_spares_fit shape spares are; within = λ cpu has. among_below cpu shape.cpus has; ended_within = All-nil (HasCpusOf shape); hands_real = λ e cpu in_hand. (first_real shape bounds e cpu in_hand, among cpu shape.cpus (first_mine shape bounds e cpu in_hand)); unread = refl })

pub is_first_pass : (t : TableView) (p : PassView) → HasBounds t.shape → p.table ≡ t.id → p.view ≡ first_view t.shape → AreBodiesOf t.shape (first_spares t.shape t.shape.kind) p.spares → IsFirstPass t p
is_first_pass t p bounds of_table is are =
    record { table_is = of_table; view_is = is; in_no_call = first_in_no_call t.shape p bounds is are }
