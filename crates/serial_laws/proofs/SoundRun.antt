-- The lists of a run in serial order are sound before each call and at the end.
use Rattle.std.proofs.Common.{false, ◌≡◌, ℕ, ◌<◌, List, [], ◌∷◌, take, All}
use Rattle.std.specs.List.{AllByRecursion}
use Rattle.std.proofs.lemmas.List.Elements.{recursion_from_All, All-take}
use Rattle.map_types.specs.Shape.{HasBounds}
use Rattle.map_types.specs.declared.attr.Shape.{Shape}
use Rattle.map_types.specs.declared.call.Call.{Call}
use Rattle.map_types.specs.declared.call.Verb.{Verb}
use Rattle.map_types.specs.Kind.{is_lru}
use Rattle.map_script.specs.WellFormed.{HasSizes}
use Rattle.serial_laws.specs.Served.{IsCallFor}
use Rattle.map_script.specs.declared.script.Script.{Script}
use Rattle.place_words.specs.declared.finals.Finals.{Finals}
use Rattle.place_words.proofs.DoneLaws.{IsKeyVerb}
use Rattle.serial_laws.specs.Laws.{lists_before}
use Rattle.map_report.specs.Serial.{opening, after_call, lists_after}
use Rattle.map_report.specs.Soundness.{IsSound}
use Rattle.serial_laws.proofs.BucketLaws.{buckets_opening, buckets_key}
use Rattle.serial_laws.proofs.EachCall.{call_keeps}
use Rattle.serial_laws.proofs.EachOnceOpening.{each_once_opening}
use Rattle.serial_laws.proofs.EachOnceRun.{each_once_key}
use Rattle.serial_laws.proofs.Emptied.{sound_emptied}

pub sound_opening : (shape : Shape) → HasBounds shape → is_lru shape.kind ≡ false → IsSound shape (opening shape)
sound_opening shape bounds plain =
    let whole = each_once_opening shape bounds plain in
    let keys = buckets_opening shape in
    record { lengths = whole.0; each_once = whole.1; each_bucket = keys.0; no_lru_lists = keys.1 }

-- over a call on one key
pub sound_key : (shape : Shape) (cpu : ℕ) (verb : Verb) (lists : Finals) → HasBounds shape → is_lru shape.kind ≡ false → cpu < shape.cpus → IsKeyVerb verb → HasSizes shape verb → IsSound shape lists → IsSound shape (after_call shape cpu verb lists).0
sound_key shape cpu verb lists bounds plain within is sizes sound =
    let whole = each_once_key shape shape.elements cpu verb lists bounds plain within is sound.lengths sound.each_once in
    let keys = buckets_key shape cpu verb lists is sizes sound.each_bucket sound.no_lru_lists in
    record { lengths = whole.lengths; each_once = whole.once; each_bucket = keys.0; no_lru_lists = keys.1 }

-- over any call
pub sound_step : (shape : Shape) (call : Call) (lists : Finals) → HasBounds shape → is_lru shape.kind ≡ false → IsCallFor shape call → IsSound shape lists → IsSound shape (after_call shape call.cpu call.verb lists).0
sound_step shape call lists bounds plain is sound =
    call_keeps shape call.cpu (IsSound shape)
    (λ verb one sizes now before. sound_key shape call.cpu verb now bounds plain is.cpu one sizes before)
    (λ bucket below now before. sound_emptied shape call.cpu bucket now is.cpu below before)
    call.verb is.sizes lists sound

sound_calls : (shape : Shape) (calls : List Call) (lists : Finals) → HasBounds shape → is_lru shape.kind ≡ false → AllByRecursion (IsCallFor shape) calls → IsSound shape lists → IsSound shape (lists_after shape lists calls)
sound_calls shape [] lists bounds plain are sound = sound
sound_calls shape (call ∷ calls) lists bounds plain are sound =
    sound_calls shape calls (after_call shape call.cpu call.verb lists).0 bounds plain are.1 (sound_step shape call lists bounds plain are.0 sound)

pub sound_from_opening : (shape : Shape) (calls : List Call) → HasBounds shape → is_lru shape.kind ≡ false → All (IsCallFor shape) calls → IsSound shape (lists_after shape (opening shape) calls)
sound_from_opening shape calls bounds plain are =
    sound_calls shape calls (opening shape) bounds plain (recursion_from_All (IsCallFor shape) calls are) (sound_opening shape bounds plain)

-- Before each call of a script the lists are sound.
pub sound_run : (script : Script) → HasBounds script.shape → All (IsCallFor script.shape) script.calls → is_lru script.shape.kind ≡ false → (n : ℕ) → IsSound script.shape (lists_before script n)
sound_run script bounds are plain n =
    sound_from_opening script.shape (take n script.calls) bounds plain (All-take (IsCallFor script.shape) n script.calls are)

-- So they are at the end.
pub sound_end : (script : Script) → HasBounds script.shape → All (IsCallFor script.shape) script.calls → is_lru script.shape.kind ≡ false → IsSound script.shape (lists_after script.shape (opening script.shape) script.calls)
sound_end script bounds are plain = sound_from_opening script.shape script.calls bounds plain are
