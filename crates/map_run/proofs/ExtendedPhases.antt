-- The phases of a script, and those of the script with more calls at the end of its last phase.
use Rattle.std.proofs.Common.{◌≡◌, ℕ, zero, suc, ◌+◌, ◌-◌, ◌<◌, ◌≤◌, List, [], ◌∷◌, ◌++◌, length, map, take, drop, refl, ap, sym, ◌∙◌, subst, arith, append_assoc}
use Rattle.std.specs.Prelude.{None}
use Rattle.std.specs.List.{flat_map}
use Rattle.std.proofs.lemmas.List.{drop-append-le, get_or_default, length-append, length-drop, take-append-le, take_all}
use Rattle.std.proofs.lemmas.List.Elements.{All-append}
use Rattle.map_types.specs.Creation.{IsShape}
use Rattle.map_types.specs.declared.attr.CreateAttr.{CreateAttr}
use Rattle.map_types.specs.declared.call.Call.{Call}
use Rattle.map_types.specs.declared.reply.Reply.{Reply}
use Rattle.map_script.specs.declared.script.Script.{Script}
use Rattle.map_script.specs.WellFormed.{AreCuts}
use Rattle.map_copy.specs.Copied.{Step}
use Rattle.map_copy.specs.CopyScripts.{extended, put_calls, read_call, target_script}
use Rattle.map_report.specs.declared.record.PhaseStart.{PhaseStart}
use Rattle.place_words.specs.Phases.{calls_before, of_phase, phase_count}
use Rattle.place_table.specs.Passes.{PassView, TableView, IsFirstPass}
use Rattle.run_records.specs.declared.pieces.Piece.{Piece}
use Rattle.run_records.specs.Phased.{Started}
use Rattle.run_records.specs.Races.{HaveComeTo, RanCalls, calls_of, first_of}
use Rattle.run_records.specs.SerialPhases.{HaveRunPhases}
use Rattle.run_records.proofs.RunEnds.{past_cuts, phase_on, phase_rises, phase_within}
use Rattle.run_records.proofs.RunPhases.{phases_first}
use Rattle.serial_laws.specs.Served.{IsServed, IsServedCall}
use Rattle.map_run.specs.Copying.{HavePut}
use Rattle.map_run.proofs.CopiedPages.{reads_served}

-- where the phases that aren't the last one end, whatever the number of calls
before_same : (cuts : List ℕ) (all more p : ℕ) → p ≤ length cuts → calls_before cuts all p ≡ calls_before cuts more p
before_same cuts all more zero within = refl
before_same cuts all more (suc p) within = get_or_default cuts p all more (omega arith)

take_first : {A : Type 0} (xs ys : List A) (n m : ℕ) → m ≤ n → n ≤ length xs → take (n - m) (drop m (xs ++ ys)) ≡ take (n - m) (drop m xs)
take_first xs ys n m low high =
    let left = length-drop m xs in
    ap (take (n - m)) (drop-append-le m xs ys (omega (arith, low, high)))
    ∙ take-append-le (n - m) (drop m xs) ys (omega (arith, left, low, high))

take_last : {A : Type 0} (xs ys : List A) (m : ℕ) → m ≤ length xs → take (length (xs ++ ys) - m) (drop m (xs ++ ys)) ≡ take (length xs - m) (drop m xs) ++ ys
take_last {A} xs ys m within =
    let long = length-append xs ys in
    let left = length-drop m xs in
    let all_left = length-drop m (xs ++ ys) in
    take_all (length (xs ++ ys) - m) (drop m (xs ++ ys)) (omega (arith, all_left))
    ∙ drop-append-le m xs ys within
    ∙ ap (λ (l : List A). l ++ ys) (sym (take_all (length xs - m) (drop m xs) (omega (arith, left))))

-- what stands behind all that is of the calls is in the last phase
pub last_of : {A : Type 0} (cuts : List ℕ) (xs ys : List A) → AreCuts 0 (length xs) cuts → of_phase cuts (length cuts) (xs ++ ys) ≡ of_phase cuts (length cuts) xs ++ ys
last_of cuts xs ys rise =
    let p : ℕ = length cuts in
    let first : ℕ = calls_before cuts (length xs) p in
    let same : calls_before cuts (length (xs ++ ys)) p ≡ first = sym (before_same cuts (length xs) (length (xs ++ ys)) p (omega arith)) in
    (λ i. take (past_cuts cuts (length (xs ++ ys)) i - same i) (drop (same i) (xs ++ ys)))
    ∙ take_last xs ys first (phase_within cuts (length xs) p rise)
    ∙ ap (λ (k : ℕ). take (k - first) (drop first xs) ++ ys) (sym (past_cuts cuts (length xs)))

no_length : {A : Type 0} (xs : List A) → length xs ≡ 0 → xs ≡ []
no_length [] none = refl
no_length (x ∷ xs) none = absurd (omega (arith, none))

-- Where the last phase has none of some, it has none of as many others.
pub none_of : {A B : Type 0} (cuts : List ℕ) (xs : List A) (ys : List B) → length ys ≡ length xs → of_phase cuts (length cuts) xs ≡ [] → of_phase cuts (length cuts) ys ≡ []
none_of {A} {B} cuts xs ys as_many none =
    let p : ℕ = length cuts in
    let first : ℕ = calls_before cuts (length xs) p in
    let other : ℕ = calls_before cuts (length ys) p in
    let same : other ≡ first = ap (λ (n : ℕ). calls_before cuts n p) as_many in
    let long = length-drop first xs in
    let other_long = length-drop other ys in
    let past = past_cuts cuts (length xs) in
    let other_past = past_cuts cuts (length ys) in
    let whole : take (calls_before cuts (length xs) (suc p) - first) (drop first xs) ≡ drop first xs = take_all (calls_before cuts (length xs) (suc p) - first) (drop first xs) (omega (arith, long, past)) in
    let gone : length (drop first xs) ≡ 0 = ap length (sym whole ∙ none) in
    take_all (calls_before cuts (length ys) (suc p) - other) (drop other ys) (omega (arith, other_long, other_past))
    ∙ no_length (drop other ys) (omega (arith, other_long, same, as_many, long, gone))

module _ (script : Script) (steps : List Step) (rise : AreCuts 0 (length script.calls) script.cuts) where
  abbrev cuts : List ℕ
  cuts = script.cuts

  abbrev more : List Call
  more = map read_call steps

  pub first_same : (p : ℕ) → p ≤ length cuts → first_of script p ≡ first_of (extended script steps) p
  first_same p within = before_same cuts (length script.calls) (length (script.calls ++ more)) p within

  calls_same : (p : ℕ) → p < length cuts → calls_of script p ≡ calls_of (extended script steps) p
  calls_same p within =
      sym ((λ i. take (sym (first_same (suc p) (omega arith)) i - sym (first_same p (omega arith)) i) (drop (sym (first_same p (omega arith)) i) (script.calls ++ more)))
      ∙ take_first script.calls more (first_of script (suc p)) (first_of script p) (phase_rises cuts (length script.calls) p rise) (phase_within cuts (length script.calls) (suc p) rise))

  -- to the calls of the last phase the reads are added
  last_calls : calls_of script (length cuts) ++ more ≡ calls_of (extended script steps) (length cuts)
  last_calls =
      sym ((λ i. take (past_cuts cuts (length (script.calls ++ more)) i - sym (first_same (length cuts) (omega arith)) i) (drop (sym (first_same (length cuts) (omega arith)) i) (script.calls ++ more)))
      ∙ take_last script.calls more (first_of script (length cuts)) (phase_within cuts (length script.calls) (length cuts) rise)
      ∙ ap (λ (k : ℕ). take (k - first_of script (length cuts)) (drop (first_of script (length cuts)) script.calls) ++ more) (sym (past_cuts cuts (length script.calls))))

  module _ (t : TableView) where
    come_same : (p : ℕ) (now : PassView) (replies : List Reply) (starts : List PhaseStart) (pieces : List Piece) → p ≤ length cuts → HaveComeTo t script p now replies starts pieces → HaveComeTo t (extended script steps) p now replies starts pieces
    come_same zero now replies starts pieces within come = come
    come_same (suc p) now replies starts pieces within come = (
      come.0,
      come.1,
      come.2,
      come.3,
      come.4,
      come.5,
      come.6,
      come.7,
      come_same p come.0 come.2 come.4 come.6 (omega arith) come.8,
      come.9,
      subst (λ (z : ℕ × List Call). RanCalls t p z.0 z.1 come.1 now come.3 come.7) (λ i. (first_same p (omega arith) i, calls_same p (omega arith) i)) come.10,
      come.11,
      come.12,
      come.13,
    )

    -- the phases before the last one, and that one with the reads behind its calls
    pub come_to_end : (before begun now : PassView) (earlier all told reads : List Reply) (others starts : List PhaseStart) (start : PhaseStart) (done pieces more_pieces : List Piece) → HaveComeTo t script (length cuts) before earlier others done → Started t before begun start
        → RanCalls t (length cuts) (first_of script (length cuts)) (calls_of script (length cuts) ++ more) begun now (told ++ reads) more_pieces → all ≡ earlier ++ told → starts ≡ others ++ start ∷ [] → pieces ≡ done ++ more_pieces
        → HaveComeTo t (extended script steps) (phase_count cuts) now (all ++ reads) starts pieces
    come_to_end before begun now earlier all told reads others starts start done pieces more_pieces come begins ran replies_are starts_are pieces_are = (
      before,
      begun,
      earlier,
      told ++ reads,
      others,
      start,
      done,
      more_pieces,
      come_same (length cuts) before earlier others done (omega arith) come,
      begins,
      subst (λ (z : ℕ × List Call). RanCalls t (length cuts) z.0 z.1 begun now (told ++ reads) more_pieces) (λ i. (first_same (length cuts) (omega arith) i, last_calls i)) ran,
      ap (λ (l : List Reply). l ++ reads) replies_are ∙ append_assoc earlier told reads,
      starts_are,
      pieces_are,
    )

-- the script with the reads is served
pub extended_served : (script : Script) (steps : List Step) → IsShape script.shape → IsServed script → IsServed (extended script steps)
extended_served script steps shape_is served = record {
  bounds = served.bounds;
  calls = All-append (IsServedCall script.shape) script.calls (map read_call steps) served.calls (reads_served script.shape shape_is steps);
}

-- The target's run is that of its script, which has one phase.
pub target_run : (t : TableView) (steps : List Step) (attr : CreateAttr) (first begun now : PassView) (start : PhaseStart) (puts : List Reply) (starts : List PhaseStart) (pieces : List Piece) (count : ℕ) → IsShape t.shape → IsFirstPass t first → Started t first begun start → HavePut t steps begun now puts
    → count + length begun.view.kept ≡ length now.view.kept → starts ≡ start ∷ [] → pieces ≡ (record { phase = 0; cpu = None; count = count }) ∷ [] → HaveRunPhases t (target_script attr t.shape steps) 1 now puts starts pieces
target_run t steps attr first begun now start puts starts pieces count shape_is is_first begins put counted starts_are pieces_are =
    let calls : List Call = flat_map put_calls steps in
    phase_on t (target_script attr t.shape steps) 0 1 0 (length calls) first begun now start [] puts puts [] starts [] pieces count calls
    refl shape_is put.served tt refl refl (sym (take_all (length calls - 0) calls (omega arith))) refl
    (phases_first t (target_script attr t.shape steps) first [] [] [] is_first refl refl refl) begins put.ran put.gone counted refl starts_are pieces_are
