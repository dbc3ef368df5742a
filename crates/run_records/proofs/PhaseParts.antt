-- What a race did in each of the phases that it has come through, and how its strands are cut by phase.
use Rattle.std.proofs.Common.{◌≡◌, inl, inr, ℕ, zero, suc, ◌<◌, ◌≤◌, Bool, cond, eqb, ltb, List, [], ◌∷◌, ◌++◌, map, Option, Some, None, refl, ap, sym, ◌∙◌, subst, arith, append-nil, append_assoc}
use Rattle.std.specs.Prelude.{All, filter, MatchOption}
use Rattle.std.specs.List.{range_with_len}
use Rattle.std.proofs.lemmas.Bool.{eq-eqb, ne_eqb, lt-ltb, ltb-true}
use Rattle.std.proofs.lemmas.List.Elements.{All-nil, All-cons, All-append, filter-append}
use Rattle.map_types.specs.ElementLists.{put}
use Rattle.map_types.specs.declared.attr.Shape.{Shape}
use Rattle.map_types.specs.declared.reply.Reply.{Reply}
use Rattle.map_script.specs.declared.script.Script.{Script}
use Rattle.place_words.specs.declared.history.StrandStep.{StrandStep}
use Rattle.place_words.proofs.ElementLemmas.{put_here}
use Rattle.place_table.specs.declared.view.Ended.{Ended}
use Rattle.place_table.specs.declared.view.Turned.{Turned}
use Rattle.place_table.specs.declared.view.View.{View}
use Rattle.place_table.specs.declared.view.WordStep.{WordStep}
use Rattle.place_table.specs.Passes.{PassView, TableView, IsKeptOf}
use Rattle.place_table.specs.Views.{is_among, all_strands, current_strand, place_of, kept_step}
use Rattle.place_table.proofs.Going.{kept_on}
use Rattle.place_table.proofs.TakeToGive.{first_has}
use Rattle.map_report.specs.declared.record.PhaseStart.{PhaseStart}
use Rattle.run_records.specs.declared.pieces.Piece.{Piece}
use Rattle.run_records.specs.Parts.{Part, has_turns, cpus_in, AreCut, lone_cpu}
use Rattle.run_records.specs.Phased.{IsWhole, Started}
use Rattle.run_records.specs.Races.{calls_of, RanAlone, RanAtOnce, HaveComeTo}
use Rattle.run_records.specs.Work.{has_turn}
use Rattle.run_records.proofs.PartLemmas.{cut_both, cut_all_workers, cut_lone}
use Rattle.serial_laws.proofs.HistoryTurns.{by_bool}
use Rattle.serial_laws.proofs.ListPlaces.{all_pass}
use Rattle.serial_laws.proofs.ListPlaces.{made_same}
use Rattle.run_records.proofs.BitsSeen.{whole_still}

-- Recorded steps behind others

kept_behind : (shape : Shape) (made : List Turned) (first before after : List StrandStep) → IsKeptOf shape made before after → IsKeptOf shape made (first ++ before) (first ++ after)
kept_behind shape [] first before after is = ap (λ (steps : List StrandStep). first ++ steps) is
kept_behind shape (step ∷ made) first before after (inl rest) = inl (kept_behind shape made first before after rest)
kept_behind shape (step ∷ made) first before after (inr rest) =
    inr (subst (λ (steps : List StrandStep). IsKeptOf shape made steps (first ++ after)) (sym (append_assoc first before (kept_step shape step.lock (place_of step) ∷ []))) (kept_behind shape made first (before ++ kept_step shape step.lock (place_of step) ∷ []) after rest))

-- what is recorded of turns behind what was recorded before
pub kept_more : (shape : Shape) (made : List Turned) (before after : List StrandStep) → IsKeptOf shape made before after → (more : List StrandStep) × (after ≡ before ++ more) × IsKeptOf shape made [] more
kept_more shape [] before after is = ([], is ∙ sym (append-nil before), refl)
kept_more shape (step ∷ made) before after (inl rest) = let more = kept_more shape made before after rest in (more.0, more.1, inl more.2)
kept_more shape (step ∷ made) before after (inr rest) =
    let here : StrandStep = kept_step shape step.lock (place_of step) in
    let more = kept_more shape made (before ++ here ∷ []) after rest in
    (here ∷ more.0, more.1 ∙ append_assoc before (here ∷ []) more.0, inr (kept_behind shape made (here ∷ []) [] more.0 more.2))

pub none_kept : (shape : Shape) (made : List Turned) (kept : List StrandStep) → IsKeptOf shape made [] kept → made ≡ [] → kept ≡ []
none_kept shape [] kept is none = is
none_kept shape (step ∷ made) kept is none = cc

-- what is said of the CPUs below a number
within_same : {A : Type 0} (cpus : ℕ) (its : ℕ → List A) (cpu : ℕ) → cpu < cpus → cond (ltb cpu cpus) (its cpu) [] ≡ its cpu
within_same cpus its cpu real = ap (λ (b : Bool). cond b (its cpu) []) (lt-ltb cpu cpus real)

-- A phase

-- What was done in a phase: the pass before it, the one that has read what stands at its start, and the one after it; the start, the
-- replies, and of each CPU its turns and those of them that are recorded.
pub record Done : Type 0 where
  pub was : PassView
  pub begun : PassView
  pub now : PassView
  pub start : PhaseStart
  pub told : List Reply
  pub turns : ℕ → List Turned
  pub kept : ℕ → List StrandStep

-- of one CPU alone
abbrev only : {A : Type 0} → ℕ → List A → ℕ → List A
only cpu its = put (λ other. []) cpu its

module _ (t : TableView) (script : Script) where
  abbrev shape : Shape
  shape = t.shape

  abbrev pub turns_by : (p : ℕ) (lone : Option ℕ) (start now : PassView) (told : List Reply) (pieces : List Piece) → MatchOption lone (RanAtOnce t script p start now told pieces) (λ cpu. RanAlone t script p cpu start now told pieces) → ℕ → List Turned
  turns_by p None start now told pieces ran = ran.raced.turns
  turns_by p (Some cpu) start now told pieces ran = only cpu ran.worked.made

  abbrev pub steps_by : (p : ℕ) (lone : Option ℕ) (start now : PassView) (told : List Reply) (pieces : List Piece) → MatchOption lone (RanAtOnce t script p start now told pieces) (λ cpu. RanAlone t script p cpu start now told pieces) → ℕ → List StrandStep
  steps_by p None start now told pieces ran = ran.raced.kept
  steps_by p (Some cpu) start now told pieces ran = only cpu (kept_more shape ran.worked.made start.view.kept now.view.kept ran.worked.kept).0

  abbrev pub done_by : (p : ℕ) (lone : Option ℕ) (before start now : PassView) (first : PhaseStart) (told : List Reply) (pieces : List Piece) → MatchOption lone (RanAtOnce t script p start now told pieces) (λ cpu. RanAlone t script p cpu start now told pieces) → Done
  done_by p lone before start now first told pieces ran = record {
    was = before;
    begun = start;
    now = now;
    start = first;
    told = told;
    turns = turns_by p lone start now told pieces ran;
    kept = steps_by p lone start now told pieces ran;
  }

  -- of a phase among those that were run
  pub done_in : (p : ℕ) (now : PassView) (replies : List Reply) (starts : List PhaseStart) (pieces : List Piece) → HaveComeTo t script p now replies starts pieces → ℕ → Done
  done_in zero now replies starts pieces come q = record { was = now; begun = now; now = now; start = record { ticket = 0; marked = [] }; told = []; turns = λ cpu. []; kept = λ cpu. [] }
  done_in (suc p) now replies starts pieces come q =
      cond (eqb q p) (done_by p (lone_cpu (calls_of script p)) come.0 come.1 now come.5 come.3 come.7 come.10) (done_in p come.0 come.2 come.4 come.6 come.8 q)

  -- Parts

  abbrev pub parts_of : ℕ → Option ℕ → Done → List Part
  parts_of p None did = map (λ cpu. record { phase = p; cpu = Some cpu; turns = did.turns cpu; kept = did.kept cpu }) (range_with_len 0 shape.cpus)
  parts_of p (Some cpu) did = record { phase = p; cpu = None; turns = did.turns cpu; kept = did.kept cpu } ∷ []

  unfoldable pub parts_to : (ℕ → Done) → ℕ → List Part
  parts_to did zero = []
  parts_to did (suc p) = parts_to did p ++ parts_of p (lone_cpu (calls_of script p)) (did p)

  pub same_parts : (p : ℕ) (did other : ℕ → Done) → ((q : ℕ) → q < p → did q ≡ other q) → parts_to did p ≡ parts_to other p
  unfolding parts_to
  same_parts zero did other same = refl
  same_parts (suc p) did other same =
      let rest = same_parts p did other (λ q less. same q (omega arith)) in
      (λ i. rest i ++ parts_of p (lone_cpu (calls_of script p)) (same p (omega arith) i))

  phases_below : (p : ℕ) (did : ℕ → Done) (n : ℕ) → p ≤ n → All (λ (part : Part). part.phase < n) (parts_to did p)
  unfolding parts_to
  phases_below zero did n less = All-nil (λ (part : Part). part.phase < n)
  phases_below (suc p) did n less =
      All-append (λ (part : Part). part.phase < n) (parts_to did p) (parts_of p (lone_cpu (calls_of script p)) (did p)) (phases_below p did n (omega arith)) (here (lone_cpu (calls_of script p)))
    where
      each : (numbers : List ℕ) → All (λ (part : Part). part.phase < n) (map (λ (cpu : ℕ). record { phase = p; cpu = Some cpu; turns = (did p).turns cpu; kept = (did p).kept cpu }) numbers)
      each [] = All-nil (λ (part : Part). part.phase < n)
      each (cpu ∷ numbers) = All-cons (λ (part : Part). part.phase < n) _ _ (omega arith) (each numbers)

      here : (lone : Option ℕ) → All (λ (part : Part). part.phase < n) (parts_of p lone (did p))
      here None = each (range_with_len 0 shape.cpus)
      here (Some cpu) = All-cons (λ (part : Part). part.phase < n) _ [] (omega arith) (All-nil (λ (part : Part). part.phase < n))

  -- what was done in the last phase, and in those before it
  pub done_last : (p : ℕ) (now : PassView) (replies : List Reply) (starts : List PhaseStart) (pieces : List Piece) (come : HaveComeTo t script (suc p) now replies starts pieces)
      → done_in (suc p) now replies starts pieces come p ≡ done_by p (lone_cpu (calls_of script p)) come.0 come.1 now come.5 come.3 come.7 come.10
  unfolding done_in
  done_last p now replies starts pieces come =
      ap (λ (b : Bool). cond b (done_by p (lone_cpu (calls_of script p)) come.0 come.1 now come.5 come.3 come.7 come.10) (done_in p come.0 come.2 come.4 come.6 come.8 p)) (eq-eqb p p refl)

  pub done_before : (p : ℕ) (now : PassView) (replies : List Reply) (starts : List PhaseStart) (pieces : List Piece) (come : HaveComeTo t script (suc p) now replies starts pieces) (q : ℕ) → q < p
      → done_in (suc p) now replies starts pieces come q ≡ done_in p come.0 come.2 come.4 come.6 come.8 q
  unfolding done_in
  done_before p now replies starts pieces come q less =
      ap (λ (b : Bool). cond b (done_by p (lone_cpu (calls_of script p)) come.0 come.1 now come.5 come.3 come.7 come.10) (done_in p come.0 come.2 come.4 come.6 come.8 q)) (ne_eqb q p (λ is. omega arith))

  pub parts_more : (p : ℕ) (now : PassView) (replies : List Reply) (starts : List PhaseStart) (pieces : List Piece) (come : HaveComeTo t script (suc p) now replies starts pieces)
      → parts_to (done_in (suc p) now replies starts pieces come) (suc p)
      ≡ parts_to (done_in p come.0 come.2 come.4 come.6 come.8) p ++ parts_of p (lone_cpu (calls_of script p)) (done_by p (lone_cpu (calls_of script p)) come.0 come.1 now come.5 come.3 come.7 come.10)
  unfolding parts_to
  parts_more p now replies starts pieces come =
      let before = same_parts p (done_in (suc p) now replies starts pieces come) (done_in p come.0 come.2 come.4 come.6 come.8) (λ q less. done_before p now replies starts pieces come q less) in
      (λ i. before i ++ parts_of p (lone_cpu (calls_of script p)) (done_last p now replies starts pieces come i))

  -- The steps that are recorded of the strand under way

  whole_by : (p : ℕ) (lone : Option ℕ) (start now : PassView) (told : List Reply) (pieces : List Piece) → MatchOption lone (RanAtOnce t script p start now told pieces) (λ cpu. RanAlone t script p cpu start now told pieces) → IsWhole t now
  whole_by p None start now told pieces ran = ran.raced.whole
  whole_by p (Some cpu) start now told pieces ran = ran.whole

  abbrev IsKeptNow : PassView → Type 0
  IsKeptNow v = IsKeptOf shape v.view.steps [] v.view.kept

  kept_by : (p : ℕ) (lone : Option ℕ) (start now : PassView) (told : List Reply) (pieces : List Piece) → MatchOption lone (RanAtOnce t script p start now told pieces) (λ cpu. RanAlone t script p cpu start now told pieces) → IsKeptNow start → IsKeptNow now
  kept_by p None start now told pieces ran before = subst (λ (z : List Turned × List StrandStep). IsKeptOf shape z.0 [] z.1) (λ i. (sym ran.raced.no_steps.0 i, sym ran.raced.no_steps.1 i)) refl
  kept_by p (Some cpu) start now told pieces ran before =
      subst (λ (steps : List Turned). IsKeptOf shape steps [] now.view.kept) (sym ran.worked.steps)
      (kept_on shape start.view.steps ran.worked.made [] start.view.kept now.view.kept before ran.worked.kept)

  kept_started : (before begun : PassView) (start : PhaseStart) → Started t before begun start → IsKeptNow before → IsKeptNow begun
  kept_started before begun start started was = subst (λ (z : List Turned × List StrandStep). IsKeptOf shape z.0 [] z.1) (λ i. (sym started.stays.steps i, sym started.stays.kept i)) was

  pub kept_now : (p : ℕ) (now : PassView) (replies : List Reply) (starts : List PhaseStart) (pieces : List Piece) → HaveComeTo t script p now replies starts pieces → IsKeptNow now
  kept_now zero now replies starts pieces come = subst (λ (v : View). IsKeptOf shape v.steps [] v.kept) (sym come.0.view_is) refl
  kept_now (suc p) now replies starts pieces come =
      kept_by p (lone_cpu (calls_of script p)) come.1 now come.3 come.7 come.10
      (kept_started come.0 come.1 come.5 come.9 (kept_now p come.0 come.2 come.4 come.6 come.8))

  pub whole_to : (p : ℕ) (now : PassView) (replies : List Reply) (starts : List PhaseStart) (pieces : List Piece) → HaveComeTo t script p now replies starts pieces → IsWhole t now
  whole_to zero now replies starts pieces come = record {
    of_table = (come.0.table_is, ap (λ (v : View). v.shape) come.0.view_is);
    all_cpus = λ cpu real. first_has t now cpu come.0 real;
    in_no_call = come.0.in_no_call;
  }
  whole_to (suc p) now replies starts pieces come = whole_by p (lone_cpu (calls_of script p)) come.1 now come.3 come.7 come.10

  -- Cut

  -- the workers of a phase; what the functions say past the map's CPUs doesn't matter
  cut_workers_within : (p : ℕ) (turns : ℕ → List Turned) (kept : ℕ → List StrandStep) (touched : ℕ → List WordStep) → ((cpu : ℕ) → cpu < shape.cpus → IsKeptOf shape (turns cpu) [] (kept cpu))
      → AreCut shape (filter has_turns (map (λ cpu. record { phase = p; cpu = Some cpu; turns = turns cpu; kept = kept cpu }) (range_with_len 0 shape.cpus)))
      (filter has_turn (map (λ cpu. record { cpus = cpu ∷ []; steps = turns cpu; kept = kept cpu; touched = touched cpu }) (range_with_len 0 shape.cpus)))
  cut_workers_within p turns kept touched are =
      let turns_within : ℕ → List Turned = λ cpu. cond (ltb cpu shape.cpus) (turns cpu) [] in
      let kept_within : ℕ → List StrandStep = λ cpu. cond (ltb cpu shape.cpus) (kept cpu) [] in
      let none : (cpu : ℕ) → turns_within cpu ≡ [] → kept_within cpu ≡ [] = λ cpu.
      by_bool (ltb cpu shape.cpus) (λ b. ltb cpu shape.cpus ≡ b → cond b (turns cpu) [] ≡ [] → cond b (kept cpu) [] ≡ [])
      (λ _ less is. none_kept shape (turns cpu) (kept cpu) (are cpu (ltb-true cpu shape.cpus less)) is) (λ _ _ _. refl) refl in
      subst (λ (z : List Part × List Ended). AreCut shape (filter has_turns z.0) (filter has_turn z.1))
      (λ i. (
        made_same (λ cpu. record { phase = p; cpu = Some cpu; turns = turns_within cpu; kept = kept_within cpu }) (λ cpu. record { phase = p; cpu = Some cpu; turns = turns cpu; kept = kept cpu }) 0 shape.cpus
            (λ cpu low high. λ j. record { phase = p; cpu = Some cpu; turns = within_same shape.cpus turns cpu (omega arith) j; kept = within_same shape.cpus kept cpu (omega arith) j }) i,
        made_same (λ cpu. record { cpus = cpu ∷ []; steps = turns_within cpu; kept = kept_within cpu; touched = touched cpu }) (λ cpu. record { cpus = cpu ∷ []; steps = turns cpu; kept = kept cpu; touched = touched cpu }) 0 shape.cpus
            (λ cpu low high. λ j. record { cpus = cpu ∷ []; steps = within_same shape.cpus turns cpu (omega arith) j; kept = within_same shape.cpus kept cpu (omega arith) j; touched = touched cpu }) i,
      ))
      (cut_all_workers shape p turns_within kept_within touched none)

  abbrev pub IsCutNow : List Part → PassView → Type 0
  IsCutNow parts v = AreCut shape (filter has_turns parts) (filter has_turn (all_strands v.view))

  all_in : (v : PassView) → IsWhole t v → cpus_in shape (current_strand v.view) ≡ range_with_len 0 shape.cpus
  all_in v whole = all_pass (λ cpu. is_among cpu v.view.cpus) 0 shape.cpus (λ cpu low high. whole.all_cpus cpu (omega arith))

  -- reading what stands at the start of a phase leaves the strands
  cut_started : (p : ℕ) (did : ℕ → Done) (before begun : PassView) (start : PhaseStart) → Started t before begun start → IsWhole t before → IsKeptNow before → IsCutNow (parts_to did p) before → IsCutNow (parts_to did p) begun
  cut_started p did before begun start started whole kept cut =
      let none : Part = record { phase = p; cpu = None; turns = []; kept = [] } in
      let more = cut_lone shape (parts_to did p) before.view.ended (current_strand before.view) (current_strand begun.view) none (phases_below p did p (omega arith)) refl
      (all_in begun (whole_still t before begun start started whole)) started.stays.cpus (started.stays.steps ∙ sym (append-nil before.view.steps)) (started.stays.kept ∙ sym (append-nil before.view.kept)) (λ _. refl)
      (none_kept shape before.view.steps before.view.kept kept) cut in
      subst (λ (z : List Part × List Ended). AreCut shape z.0 (filter has_turn (z.1 ++ current_strand begun.view ∷ [])))
      (λ i. ((filter-append has_turns (parts_to did p) (none ∷ []) ∙ append-nil (filter has_turns (parts_to did p))) i, sym started.stays.ended i)) more

  cut_by : (p : ℕ) (lone : Option ℕ) (parts : List Part) (before start now : PassView) (first : PhaseStart) (told : List Reply) (pieces : List Piece) (ran : MatchOption lone (RanAtOnce t script p start now told pieces) (λ cpu. RanAlone t script p cpu start now told pieces))
      → All (λ (part : Part). part.phase < p) parts → IsKeptNow start → IsCutNow parts start → IsCutNow (parts ++ parts_of p lone (done_by p lone before start now first told pieces ran)) now
  cut_by p None parts before start now first told pieces ran below kept cut =
      let raced = ran.raced in
      let workers = cut_workers_within p raced.turns raced.kept raced.touched raced.are_kept in
      subst (λ (z : List Part × List Ended). AreCut shape z.0 z.1)
      (λ i. (sym (filter-append has_turns parts (parts_of p None (done_by p None before start now first told pieces ran))) i, sym raced.strands i))
      (cut_both shape (filter has_turns parts) _ (filter has_turn (all_strands start.view)) _ cut workers)
  cut_by p (Some cpu) parts before start now first told pieces ran below kept cut =
      let worked = ran.worked in
      let more = kept_more shape worked.made start.view.kept now.view.kept worked.kept in
      let part : Part = record { phase = p; cpu = None; turns = worked.made; kept = more.0 } in
      let one = cut_lone shape parts start.view.ended (current_strand start.view) (current_strand now.view) part below refl (all_in now ran.whole) worked.cpus worked.steps more.1
      (none_kept shape worked.made more.0 more.2) (none_kept shape start.view.steps start.view.kept kept) cut in
      subst (λ (z : (List Turned × List StrandStep) × List Ended). AreCut shape (filter has_turns (parts ++ record { phase = p; cpu = None; turns = z.0.0; kept = z.0.1 } ∷ [])) (filter has_turn (z.1 ++ current_strand now.view ∷ [])))
      (λ i. ((sym (put_here (λ other. []) cpu worked.made) i, sym (put_here (λ other. []) cpu more.0) i), sym worked.ended i)) one

  pub cut_to : (p : ℕ) (now : PassView) (replies : List Reply) (starts : List PhaseStart) (pieces : List Piece) (come : HaveComeTo t script p now replies starts pieces) → IsCutNow (parts_to (done_in p now replies starts pieces come) p) now
  unfolding parts_to
  cut_to zero now replies starts pieces come = subst (λ (v : View). AreCut shape [] (filter has_turn (all_strands v))) (sym come.0.view_is) refl
  cut_to (suc p) now replies starts pieces come =
      let did = done_in p come.0 come.2 come.4 come.6 come.8 in
      let kept = kept_now p come.0 come.2 come.4 come.6 come.8 in
      let began = cut_started p did come.0 come.1 come.5 come.9 (whole_to p come.0 come.2 come.4 come.6 come.8) kept (cut_to p come.0 come.2 come.4 come.6 come.8) in
      subst (λ (parts : List Part). IsCutNow parts now) (sym (parts_more p now replies starts pieces come))
      (cut_by p (lone_cpu (calls_of script p)) (parts_to did p) come.0 come.1 now come.5 come.3 come.7 come.10 (phases_below p did p (omega arith)) (kept_started come.0 come.1 come.5 come.9 kept) began)
