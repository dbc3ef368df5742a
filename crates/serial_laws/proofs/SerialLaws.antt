-- The laws of a run in serial order.
use Rattle.std.proofs.Common.{◌≡◌, false, ◌↔◌, ℕ, suc, List, [], ◌∷◌, length, take, All, Option, Some, None, option_map, slice_get, refl, ap, sym, ◌∙◌, subst}
use Rattle.map_types.proofs.CreationLemmas.{bounds_of_shape}
use Rattle.map_types.specs.Kind.{is_lru}
use Rattle.map_types.specs.Shape.{HasBounds}
use Rattle.map_types.specs.Stored.{Stored}
use Rattle.map_types.specs.declared.attr.Shape.{Shape}
use Rattle.map_types.specs.declared.call.Call.{Call}
use Rattle.map_types.specs.declared.refusal.Errno.TheVariants.{E2big}
use Rattle.map_types.specs.declared.reply.Reply.{Reply}
use Rattle.map_types.specs.declared.reply.Reply.TheVariants.{Refused}
use Rattle.map_script.specs.declared.script.Script.{Script}
use Rattle.place_words.specs.declared.finals.Finals.{Finals}
use Rattle.place_words.specs.Bodies.{present}
use Rattle.place_words.proofs.AnyStart.{created_always_gets}
use Rattle.place_words.proofs.AnyStart.{always_removes}
use Rattle.core_runs.proofs.ScriptRuns.{runs_on_core}
use Rattle.serial_laws.specs.Entries.{Entry, entry_of, answers_from, entries_after, TellsThere}
use Rattle.serial_laws.specs.Laws.{lists_before, Sees, FindsNoRoom, PlainLaws, SerialLaws}
use Rattle.map_report.specs.declared.record.RunRecord.{RunRecord}
use Rattle.map_report.specs.Record.{EachAnswered}
use Rattle.map_report.specs.Runs.{serial}
use Rattle.map_report.specs.Serial.{bucket_at}
use Rattle.serial_laws.specs.Served.{IsCallFor, IsScript, SuitsItsMap}
use Rattle.serial_laws.proofs.AnyRecord.{suited_is_record, suited_starts_rise}
use Rattle.serial_laws.proofs.LogLaws.{buckets_run}
use Rattle.serial_laws.proofs.LooksLeave.{looks_leave}
use Rattle.serial_laws.proofs.NeverFull.{never_full}
use Rattle.serial_laws.proofs.ServedLemmas.{well_formed, well_formed_suits}
use Rattle.serial_laws.proofs.SameRecord.{one_record}
use Rattle.serial_laws.proofs.SoundRun.{sound_run}
use Rattle.serial_laws.proofs.StayLaws.{replies_are, finals_are, looks_stay, refusals_stay}
use Rattle.serial_laws.proofs.AnswerLaws.{too_big}
use Rattle.serial_laws.proofs.ToldThere.{tells_there}
use Rattle.serial_laws.proofs.WalksGive.{walk_laws}
use Rattle.serial_laws.proofs.EntryRun.{list_replies, plain_run, agrees_run}
use Rattle.serial_laws.proofs.EntrySteps.{Agrees, Have, look_ups, entry_hits}

-- What is seen

-- a look-up of a key finds the same values in its bucket and in the entries
same_values : (found : Option Stored) (entry : Option Entry) (held : List (List (List ℕ))) → Have found entry held
    → option_map (λ (e : Entry). e.values) entry ≡ option_map (λ (stored : Stored). stored.values) found
same_values None None held have = refl
same_values None (Some entry) held have = cc
same_values (Some stored) None held have = cc
same_values (Some stored) (Some entry) held have =
    let same : entry.values ≡ stored.values = cc in
    ap Some same

sees_agreeing : (shape : Shape) (lists : Finals) (entries : List Entry) → Agrees shape lists entries → Sees shape lists entries
sees_agreeing shape lists entries agree = record {
  each_key = λ key. same_values (present key (bucket_at shape lists key)) (entry_of key entries) (entry_hits key entries) (look_ups shape lists.buckets entries key agree);
  count = agree.count;
}

-- Before each call of a script its user sees what the lists hold.
pub seen_run : (script : Script) → HasBounds script.shape → All (IsCallFor script.shape) script.calls → is_lru script.shape.kind ≡ false
    → (n : ℕ) → Sees script.shape (lists_before script n) (entries_after script.shape [] (take n script.calls) (list_replies script))
seen_run script bounds are plain n =
    sees_agreeing script.shape (lists_before script n) (entries_after script.shape [] (take n script.calls) (list_replies script)) (agrees_run script bounds are plain n)

-- All laws

-- those of a map that doesn't evict
plain_laws : (script : Script) → HasBounds script.shape → All (IsCallFor script.shape) script.calls → is_lru script.shape.kind ≡ false → PlainLaws script
plain_laws script bounds are plain =
    let same = one_record script bounds are plain in
    let told : (serial script).replies ≡ list_replies script = ap (λ (kept : RunRecord). kept.replies) same ∙ replies_are script in
    record {
      on_lists = same;
      sound = sound_run script bounds are plain;
      finals = ap (λ (kept : RunRecord). kept.finals) same ∙ finals_are script;
      buckets = buckets_run script bounds are plain;
      looks_stay = looks_stay script;
      refusals_stay = λ n errno is. refusals_stay script n errno (ap (λ (kept : RunRecord). slice_get kept.replies n) (sym same) ∙ is);
      plain = subst (λ (replies : List Reply). replies ≡ answers_from script.shape [] script.calls replies) (sym told) (plain_run script bounds are plain);
      told = λ n call reply at is.
          subst (λ (replies : List Reply). TellsThere script.shape call.cpu (entries_after script.shape [] (take n script.calls) replies) call.verb reply) (sym told)
          (tells_there script bounds are plain n call reply at (ap (λ (replies : List Reply). slice_get replies n) (sym told) ∙ is));
      seen = λ n. subst (λ (replies : List Reply). Sees script.shape (lists_before script n) (entries_after script.shape [] (take n script.calls) replies)) (sym told) (seen_run script bounds are plain n);
      too_big = λ n call at.
          subst (λ (replies : List Reply). (slice_get replies n ≡ Some (Refused E2big)) ↔ FindsNoRoom script.shape (entries_after script.shape [] (take n script.calls) replies) call.verb) (sym told)
          (too_big script bounds are plain n call at);
    }

one_for_each : (shape : Shape) (calls : List Call) (replies : List Reply) → EachAnswered shape calls replies → length replies ≡ length calls
one_for_each shape [] [] each = refl
one_for_each shape [] (reply ∷ replies) each = absurd each
one_for_each shape (call ∷ calls) [] each = absurd each
one_for_each shape (call ∷ calls) (reply ∷ replies) each = ap suc (one_for_each shape calls replies each.1)

pub suited_laws : (script : Script) → SuitsItsMap script → SerialLaws script
suited_laws script like =
    let bounds : HasBounds script.shape = bounds_of_shape script.shape like.shape in
    let whole = suited_is_record script like in
    record {
      is_record = whole;
      starts_rise = suited_starts_rise script like;
      one_each = one_for_each script.shape script.calls (serial script).replies whole.replies;
      always_gets = created_always_gets script.shape like.shape script.calls (λ k d below. (like.calls k d below).cpu);
      never_full = never_full script;
      always_removes = always_removes script.shape script.calls;
      looks_leave = looks_leave script;
      on_core = runs_on_core script record { shape = like.shape; cpus = λ k d below. (like.calls k d below).cpu };
      walks = walk_laws script like;
      plain = λ kind. plain_laws script bounds like.calls kind;
    }

-- so those of each script that is run
pub serial_laws : (script : Script) → IsScript script → SerialLaws script
serial_laws script is = suited_laws script (well_formed_suits script (well_formed script is))
