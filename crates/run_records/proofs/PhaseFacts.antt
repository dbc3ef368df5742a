-- What is known of each phase that a race has come through.
use Rattle.std.proofs.Common.{◌≡◌, ◌≢◌, ◌⊎◌, ℕ, zero, suc, ◌+◌, ◌<◌, ◌≤◌, List, [], ◌∷◌, length, map, Option, Some, None, refl, ap, sym, ◌∙◌, subst, arith, inl, inr}
use Rattle.std.specs.Prelude.{MatchOption}
use Rattle.std.specs.List.{range_with_len}
use Rattle.std.proofs.lemmas.Bool.{cases_eq}
use Rattle.std.proofs.lemmas.Option.{none-some, same_Some}
use Rattle.map_types.specs.ElementLists.{put}
use Rattle.map_types.specs.declared.attr.Shape.{Shape}
use Rattle.map_types.specs.declared.reply.Reply.{Reply}
use Rattle.map_script.specs.declared.script.Script.{Script}
use Rattle.place_words.specs.declared.history.StrandStep.{StrandStep}
use Rattle.place_words.specs.Tickets.{AscendIn}
use Rattle.place_words.proofs.Ascending.{ascend_within}
use Rattle.place_words.proofs.ElementLemmas.{put_here, put_else}
use Rattle.place_table.specs.declared.view.Turned.{Turned}
use Rattle.place_table.specs.Calls.{element_of}
use Rattle.place_table.specs.Passes.{PassView, TableView, IsKeptOf, spare_of}
use Rattle.place_table.specs.Tickets.{turn_tickets}
use Rattle.place_table.specs.Views.{next}
use Rattle.map_report.specs.declared.record.PhaseStart.{PhaseStart}
use Rattle.run_records.specs.declared.pieces.Piece.{Piece}
use Rattle.run_records.specs.Parts.{lone_cpu, pieces_by}
use Rattle.run_records.specs.Phased.{Started}
use Rattle.run_records.specs.Races.{first_of, calls_of, RanAlone, RanAtOnce}
use Rattle.file_order.specs.Replies.{replies_of}
use Rattle.run_records.specs.Work.{AreCallsBy}
use Rattle.run_records.proofs.PartLemmas.{piece_of}
use Rattle.run_records.proofs.PhaseParts.{Done, done_by, kept_more}
use Rattle.run_records.proofs.LoneCalls.{AreOf, calls_of_other, count_of_one, lone_is, replies_of_one, replies_of_other}

-- Pieces

pub pieces_told : (p first : ℕ) (turns : ℕ → List Turned) (kept : ℕ → List StrandStep) (n : ℕ)
    → pieces_by p first (map (λ cpu. length (kept cpu)) (range_with_len first n)) ≡ map piece_of (map (λ cpu. record { phase = p; cpu = Some cpu; turns = turns cpu; kept = kept cpu }) (range_with_len first n))
pieces_told p first turns kept zero = refl
pieces_told p first turns kept (suc n) =
    let here : Piece = record { phase = p; cpu = Some first; count = length (kept first) } in
    let next_is : suc first ≡ first + 1 = omega arith in
    ap (λ (k : ℕ). here ∷ pieces_by p k (map (λ cpu. length (kept cpu)) (range_with_len (first + 1) n))) next_is ∙ ap (λ (l : List Piece). here ∷ l) (pieces_told p (first + 1) turns kept n)

module _ (t : TableView) (script : Script) where
  abbrev shape : Shape
  shape = t.shape

  -- what is known of a phase that was run
  pub record IsPhase (q : ℕ) (did : Done) : Type 0 where
    pub started : Started t did.was did.begun did.start
    pub rise : next did.begun.view ≤ next did.now.view
    pub windows : (cpu : ℕ) → cpu < shape.cpus → AscendIn (next did.begun.view) (turn_tickets (did.turns cpu)) (next did.now.view)
    pub kept : (cpu : ℕ) → cpu < shape.cpus → IsKeptOf shape (did.turns cpu) [] (did.kept cpu)
    pub refused : did.begun.view.refused ≤ did.now.view.refused
    pub lost : did.now.view.lost ≡ [] → did.begun.view.lost ≡ []
    pub counted : length did.told ≡ length (calls_of script q)
    pub calls_are : did.now.view.lost ≡ [] → (cpu : ℕ) → cpu < shape.cpus
        → AreCallsBy shape cpu (suc (first_of script q)) (calls_of script q) (element_of (spare_of cpu did.begun.spares)) (element_of (spare_of cpu did.now.spares)) (replies_of cpu (calls_of script q) did.told) (did.turns cpu)
    pub alone : (cpu : ℕ) → lone_cpu (calls_of script q) ≡ Some cpu → (pieces : List Piece) × RanAlone t script q cpu did.begun did.now did.told pieces
    pub others : (cpu other : ℕ) → lone_cpu (calls_of script q) ≡ Some cpu → other ≢ cpu → did.turns other ≡ []

  pub phase_by : (p : ℕ) (lone : Option ℕ) → lone_cpu (calls_of script p) ≡ lone → (before start now : PassView) (first : PhaseStart) (told : List Reply) (pieces : List Piece)
      → Started t before start first → (ran : MatchOption lone (RanAtOnce t script p start now told pieces) (λ cpu. RanAlone t script p cpu start now told pieces)) → IsPhase p (done_by t script p lone before start now first told pieces ran)
  phase_by p None is before start now first told pieces started ran =
      let raced = ran.raced in record {
        started = started;
        rise = raced.next_is;
        windows = raced.tickets;
        kept = raced.are_kept;
        refused = raced.refused;
        lost = raced.lost;
        counted = raced.counted;
        calls_are = raced.calls_are;
        alone = λ cpu some. absurd (none-some cpu (sym is ∙ some));
        others = λ cpu other some apart. absurd (none-some cpu (sym is ∙ some));
      }
  phase_by p (Some c) is before start now first told pieces started ran =
      let worked = ran.worked in
      let are : AreOf c (calls_of script p) = lone_is (calls_of script p) c is in
      let up : next start.view ≤ next now.view = ascend_within (next start.view) (turn_tickets worked.made) (next now.view) worked.tickets in
      let more = kept_more shape worked.made start.view.kept now.view.kept worked.kept in
      let counts : length told ≡ length (calls_of script p) = worked.counted ∙ count_of_one c (calls_of script p) are in
      let one : (cpu : ℕ) → lone_cpu (calls_of script p) ≡ Some cpu → c ≡ cpu = λ cpu some. same_Some c cpu (sym is ∙ some) in record {
        started = started;
        rise = up;
        windows = λ cpu real. in_one (λ (l : List Turned). AscendIn (next start.view) (turn_tickets l) (next now.view)) c cpu worked.made worked.tickets up;
        kept = λ cpu real. in_both (λ (l : List Turned) (k : List StrandStep). IsKeptOf shape l [] k) c cpu worked.made more.0 more.2 refl;
        refused = worked.refused;
        lost = worked.lost;
        counted = counts;
        calls_are = λ none cpu real. calls_by_cpu c cpu worked.made told (worked.calls_are none) are counts (worked.other_spares cpu);
        alone = λ cpu some. subst (λ (d : ℕ). (pieces : List Piece) × RanAlone t script p d start now told pieces) (one cpu some) (pieces, ran);
        others = λ cpu other some apart. put_else (λ o. []) c worked.made other (λ same. apart (same ∙ one cpu some));
      }
    where
      in_one : (P : List Turned → Type 0) (c cpu : ℕ) (made : List Turned) → P made → P [] → P (put (λ other. []) c made cpu)
      in_one P c cpu made here none = by (cases_eq cpu c)
        where
          by : (cpu ≡ c) ⊎ (cpu ≢ c) → P (put (λ other. []) c made cpu)
          by (inl same) = subst P (ap (put (λ other. []) c made) (sym same)) (subst P (sym (put_here (λ other. []) c made)) here)
          by (inr other) = subst P (sym (put_else (λ o. []) c made cpu other)) none

      in_both : (P : List Turned → List StrandStep → Type 0) (c cpu : ℕ) (made : List Turned) (kept : List StrandStep) → P made kept → P [] [] → P (put (λ other. []) c made cpu) (put (λ other. []) c kept cpu)
      in_both P c cpu made kept here none = by (cases_eq cpu c)
        where
          by : (cpu ≡ c) ⊎ (cpu ≢ c) → P (put (λ other. []) c made cpu) (put (λ other. []) c kept cpu)
          by (inl same) = subst (λ (d : ℕ). P (put (λ other. []) c made d) (put (λ other. []) c kept d)) (sym same) (subst (λ (z : List Turned × List StrandStep). P z.0 z.1) (λ i. (sym (put_here (λ other. []) c made) i, sym (put_here (λ other. []) c kept) i)) here)
          by (inr other) = subst (λ (z : List Turned × List StrandStep). P z.0 z.1) (λ i. (sym (put_else (λ o. []) c made cpu other) i, sym (put_else (λ o. []) c kept cpu other) i)) none

      calls_by_cpu : (c cpu : ℕ) (made : List Turned) (told : List Reply) → AreCallsBy shape c (suc (first_of script p)) (calls_of script p) (element_of (spare_of c start.spares)) (element_of (spare_of c now.spares)) told made → AreOf c (calls_of script p) → length told ≡ length (calls_of script p)
          → (cpu ≢ c → spare_of cpu now.spares ≡ spare_of cpu start.spares)
          → AreCallsBy shape cpu (suc (first_of script p)) (calls_of script p) (element_of (spare_of cpu start.spares)) (element_of (spare_of cpu now.spares)) (replies_of cpu (calls_of script p) told) (put (λ other. []) c made cpu)
      calls_by_cpu c cpu made told own are counts stays = by (cases_eq cpu c)
        where
          Its : ℕ → List Reply → List Turned → Type 0
          Its d replies steps = AreCallsBy shape d (suc (first_of script p)) (calls_of script p) (element_of (spare_of d start.spares)) (element_of (spare_of d now.spares)) replies steps

          by : (cpu ≡ c) ⊎ (cpu ≢ c) → Its cpu (replies_of cpu (calls_of script p) told) (put (λ other. []) c made cpu)
          by (inl same) =
              subst (λ (d : ℕ). Its d (replies_of d (calls_of script p) told) (put (λ other. []) c made d)) (sym same)
              (subst (λ (z : List Reply × List Turned). Its c z.0 z.1) (λ i. (sym (replies_of_one c (calls_of script p) told are counts) i, sym (put_here (λ other. []) c made) i)) own)
          by (inr other) =
              subst (λ (z : List Reply × List Turned). Its cpu z.0 z.1) (λ i. (sym (replies_of_other c cpu (calls_of script p) told other are) i, sym (put_else (λ o. []) c made cpu other) i))
              (calls_of_other shape c cpu (suc (first_of script p)) (calls_of script p) (element_of (spare_of cpu start.spares)) (element_of (spare_of cpu now.spares)) other are (ap element_of (stays other)))
