-- What is kept of a copy: the records of both maps.
use Rattle.std.proofs.Common.{◌≡◌, ℕ, ◌≤◌, false, List, ◌++◌, length, All, inl, refl, ap, sym, ◌∙◌, subst, arith}
use Rattle.std.specs.Prelude.{IfOk, Result, Ok, Err}
use Rattle.std.specs.List.{flat_map}
use Rattle.std.proofs.lemmas.List.{length-map}
use Rattle.map_types.proofs.CreationLemmas.{bounds_of_shape}
use Rattle.map_types.specs.Creation.{IsShape}
use Rattle.map_types.specs.declared.attr.CreateAttr.{CreateAttr}
use Rattle.map_types.specs.declared.attr.Shape.{Shape}
use Rattle.map_types.specs.declared.reply.Reply.{Reply}
use Rattle.map_script.specs.declared.script.Script.{Script}
use Rattle.map_script.specs.declared.script.Target.{Target}
use Rattle.map_copy.specs.Answers.{AreAnswered}
use Rattle.map_copy.specs.Copied.{Step}
use Rattle.map_copy.specs.CopyScripts.{extended, put_calls, target_script}
use Rattle.map_copy.specs.Plans.{IsCopied}
use Rattle.map_copy.proofs.BoundLemmas.{has_few_reads}
use Rattle.map_copy.proofs.ScriptLemmas.{has_extended}
use Rattle.map_report.specs.declared.record.PhaseStart.{PhaseStart}
use Rattle.map_report.specs.declared.record.RunRecord.{RunRecord}
use Rattle.map_report.specs.Runs.{serial}
use Rattle.map_report.proofs.CutLemmas.{cuts_rise}
use Rattle.place_words.specs.Interleaving.{CoreRun}
use Rattle.place_table.specs.Closing.{ClosedView, IsClosed}
use Rattle.place_table.specs.Passes.{PassView, TableView}
use Rattle.run_records.specs.declared.pieces.Piece.{Piece}
use Rattle.run_records.specs.Copies.{IsCopyOf, record_left}
use Rattle.run_records.specs.Races.{IsRaceRecord}
use Rattle.run_records.proofs.RaceEnds.{race_is_record}
use Rattle.run_records.proofs.RunEnds.{copy_by_phases, end_by_phases}
use Rattle.serial_laws.specs.Laws.{SerialLaws}
use Rattle.serial_laws.specs.Served.{IsScript, IsServedCall, SuitsItsMap}
use Rattle.serial_laws.proofs.SerialLaws.{suited_laws}
use Rattle.serial_laws.proofs.ServedLemmas.{IsServed-from_script, served_suit, well_formed}
use Rattle.map_run.specs.Copying.{FitsSource, HasCopiedLast, IsCopyRecord}
use Rattle.map_run.proofs.CopiedOver.{all_copied, buckets_left}
use Rattle.map_run.proofs.OneOrder.{race_is_run}
use Rattle.map_run.proofs.Linearizable.{source_is_linearizable}
use Rattle.map_run.proofs.ExtendedPhases.{extended_served}

-- the calls of the target's script are for its map
target_suits : (attr : CreateAttr) (shape : Shape) (steps : List Step) → IsShape shape → All (IsServedCall shape) (flat_map put_calls steps) → SuitsItsMap (target_script attr shape steps)
target_suits attr shape steps is served = record {
  shape = is;
  calls = served_suit shape (flat_map put_calls steps) served;
  phases = record { known = inl (refl, refl); few = omega arith; rise = tt };
}

module _ {script : Script} {t u : TableView} {count : ℕ} {now put_now : PassView} {told : List Reply} {starts : List PhaseStart} {pieces : List Piece} {reads puts : List Reply} {put_starts : List PhaseStart} {put_pieces : List Piece} {closed put_closed : ClosedView}
    (is : IsScript script) (same : t.shape ≡ script.shape) (target_shape : IsShape u.shape) (some : 1 ≤ count) (copied : HasCopiedLast t u script count now put_now told starts pieces reads puts put_starts put_pieces)
    (ends : IsClosed t.shape now closed) (whole : closed.lost ≡ false) (put_ends : IsClosed u.shape put_now put_closed) (put_whole : put_closed.lost ≡ false) where
  abbrev steps : List Step
  steps = copied.steps

  -- the source's record, with the reads' replies at its end
  source_both : IsRaceRecord (extended script steps) (record_left script.shape.cpus pieces (told ++ reads) starts closed) × IsCopyOf (record_left script.shape.cpus pieces (told ++ reads) starts closed) closed
  source_both =
      let well = well_formed script is in
      let on_its_map = has_extended script steps well in
      race_is_record (extended script steps) t now (told ++ reads) starts pieces closed same well.shape (extended_served script steps well.shape (IsServed-from_script script is))
      (cuts_rise 0 script.cuts (length (extended script steps).calls) (omega arith) on_its_map.phases.rise) copied.come ends whole

  put_is : (attr : CreateAttr) → record_left u.shape.cpus put_pieces puts put_starts put_closed ≡ serial (target_script attr u.shape steps)
  put_is attr = end_by_phases (target_script attr u.shape steps) u put_now put_closed puts put_starts put_pieces refl target_shape tt (copied.put attr) put_ends put_whole

  suits_target : (attr : CreateAttr) (shape : Shape) → u.shape ≡ shape → SuitsItsMap (target_script attr shape steps)
  suits_target attr shape is = subst (λ (s : Shape). SuitsItsMap (target_script attr s steps)) is (target_suits attr u.shape steps target_shape copied.put_served)

  -- what is kept of the target
  target_kept : (target : Target) → u.shape ≡ target.shape → record_left u.shape.cpus put_pieces puts put_starts put_closed ≡ serial (target_script target.attr target.shape steps)
  target_kept target shape_is = put_is target.attr ∙ ap (λ (s : Shape). serial (target_script target.attr s steps)) shape_is

  pub copy_is_record : (kept put : RunRecord) → kept ≡ record_left script.shape.cpus pieces told starts closed → put ≡ record_left u.shape.cpus put_pieces puts put_starts put_closed → (target : Target) → u.shape ≡ target.shape → count ≡ target.count → FitsSource script.shape target.shape → IsCopyRecord script target kept reads put
  copy_is_record kept put kept_is put_is_left target shape_is count_is fits =
      let laws : SerialLaws (target_script target.attr target.shape steps) = suited_laws (target_script target.attr target.shape steps) (suits_target target.attr target.shape shape_is) in
      let ended = subst (λ (s : Shape). IsCopied count s.elements steps × AreAnswered s steps) same (copied.copied, copied.answered) in
      subst (λ (z : RunRecord × RunRecord). IsCopyRecord script target z.0 reads z.1) (λ i. (sym kept_is i, sym put_is_left i)) record {
        steps = steps;
        copied = subst (λ (n : ℕ). IsCopied n script.shape.elements steps) count_is ended.0;
        answered = ended.1;
        reads_are = copied.reads_are;
        puts_are = copied.puts_are;
        few = let few = has_few_reads script.shape count steps (well_formed script is).shape some ended.0 ended.1 in
            let long : length reads ≡ length steps = ap length copied.reads_are ∙ length-map steps (λ (step : Step). step.page) in
            omega (arith, few, long);
        source = source_both.0;
        one_run = race_is_run (extended script steps) (record_left script.shape.cpus pieces (told ++ reads) starts closed) (bounds_of_shape script.shape (well_formed script is).shape) source_both.0;
        linear = source_is_linearizable script steps (record_left script.shape.cpus pieces (told ++ reads) starts closed) (well_formed script is) source_both.0;
        target_is = target_kept target shape_is;
        target_run = subst (λ (r : RunRecord). CoreRun target.shape r.histories) (sym (target_kept target shape_is)) laws.on_core;
        target_laws = laws;
        source_buckets = λ bucket below. buckets_left script is steps (record_left script.shape.cpus pieces told starts closed) reads source_both.0 bucket below;
        same_contents = λ alone went kind.
            all_copied script is steps (record_left script.shape.cpus pieces told starts closed) reads source_both.0 copied.reads_are alone count target.attr target.shape (record_left u.shape.cpus put_pieces puts put_starts put_closed)
            fits ended.0 went kind laws (target_kept target shape_is) copied.puts_are;
      }

  pub copies_are_kept : (kept put : RunRecord) (left put_left : ClosedView) → kept ≡ record_left script.shape.cpus pieces told starts closed → put ≡ record_left u.shape.cpus put_pieces puts put_starts put_closed → left ≡ closed → put_left ≡ put_closed → IsCopyOf kept left × IsCopyOf put put_left
  copies_are_kept kept put left put_left kept_is put_is_left left_is put_left_is =
      let own = source_both.1 in
      let own_copy : IsCopyOf (record_left script.shape.cpus pieces told starts closed) closed = record { histories = own.histories; strands = own.strands; finals = own.finals; whole = own.whole } in (
        subst (λ (z : RunRecord × ClosedView). IsCopyOf z.0 z.1) (λ i. (sym kept_is i, sym left_is i)) own_copy,
        copy_by_phases (target_script (well_formed script is).shape.attr u.shape steps) u put_now put_closed puts put_starts put_pieces refl target_shape tt (copied.put (well_formed script is).shape.attr) put_ends put_whole put put_left put_is_left put_left_is,
      )

-- three clauses as one
pub all_kept : {A E : Type 0} (P Q R : A → Type 0) (result : Result A E) → IfOk result P → IfOk result Q → IfOk result R → IfOk result (λ kept. P kept × Q kept × R kept)
all_kept P Q R (Ok kept) one two three = (one, two, three)
all_kept P Q R (Err refusal) one two three = tt
