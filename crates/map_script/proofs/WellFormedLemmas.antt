-- What is read is well formed.
use Rattle.std.proofs.Common.{◌≡◌, ℕ, ◌≤◌, List, [], ◌∷◌, ◌++◌, length, Option, Some, None, Result, Ok, Err, IfOk, All, ◌⊎◌, inl, inr, refl, sym, subst, ◌∙◌, length-append, arith}
use Rattle.std.proofs.lemmas.List.Elements.{All-nil, All-cons, All-append, All-weaker}
use Rattle.map_types.specs.Creation.{creation}
use Rattle.map_types.specs.declared.attr.CreateAttr.{CreateAttr}
use Rattle.map_types.specs.declared.attr.Shape.{Shape}
use Rattle.map_types.specs.declared.call.Call.{Call}
use Rattle.map_types.specs.declared.refusal.CreateRefusal.{CreateRefusal}
use Rattle.map_script.specs.declared.body.Body.{Body}
use Rattle.map_script.specs.declared.body.BodyLine.{BodyLine}
use Rattle.map_script.specs.declared.body.BodyLine.TheVariants as says
use Rattle.map_script.specs.declared.refusal.ScriptRefusal.{ScriptRefusal}
use Rattle.map_script.specs.declared.refusal.ScriptRefusal.TheVariants.{Fault, Create, NoMemory}
use Rattle.map_script.specs.declared.script.Form.{Form}
use Rattle.map_script.specs.declared.script.Form.TheVariants as forms
use Rattle.map_script.specs.declared.script.GenSpec.{GenSpec}
use Rattle.map_script.specs.declared.script.Script.{Script}
use Rattle.map_script.specs.declared.script.Target.{Target}
use Rattle.map_script.specs.Grammar.{reply_room, version_line, map_line, target_line}
use Rattle.map_script.specs.Lines.{Line, lines_of, end_number}
use Rattle.map_script.specs.Places.{◌>>=◌, Tokens}
use Rattle.map_script.specs.Reading.{at_line, or_create, no_body, with_next, body_from, copied_from, spec_of, script_of, target_with, copy_of, target_of, body_of, map_of, version_of, read_as, IsReading}
use Rattle.map_script.specs.WellFormed.{GivesBytes, IsCallOn, AreCuts, HasPhases, last_calls, AreOfOthers, IsTarget, IsWellFormed}
use Rattle.map_script.proofs.BodyLines.{Tells, few_more, room_more, lines_hold}
use Rattle.map_script.proofs.CallScripts.{IsAttr, map_gives}
use Rattle.map_script.proofs.CallSizes.{call_has}
use Rattle.map_script.proofs.CopyReads.{plain_read, copied_free}
use Rattle.map_script.proofs.Gives.{at_line_gives, IsVersion, version_gives}
use Rattle.map_script.proofs.PlaceLemmas.{step_found, same_ok}
use Rattle.map_script.proofs.TargetLines.{IsAsked, target_gives}

-- ---- cuts

-- where more calls stand behind them
cuts_stay : (least count more : ℕ) (cuts : List ℕ) → count ≤ more → AreCuts least count cuts → AreCuts least more cuts
cuts_stay least count more [] le h = tt
cuts_stay least count more (cut ∷ cuts) le h = (h.0, omega (arith, h.1), cuts_stay cut count more cuts le h.2)

-- one more, behind all calls
cut_more : (least count : ℕ) (cuts : List ℕ) → least ≤ count → AreCuts least count cuts → AreCuts least count (cuts ++ count ∷ [])
cut_more least count [] le h = (le, omega arith, tt)
cut_more least count (cut ∷ cuts) le h = (h.0, h.1, cut_more cut count cuts h.1 h.2)

-- ---- what is read behind the map line

record IsWithin (version : ℕ) (shape : Shape) (body : Body) : Type 0 where
  each : All (IsCallOn shape) body.calls
  few : length body.calls ≤ 200000
  replied : reply_room shape body.calls ≤ 67108864
  phases : HasPhases version (length body.calls) body.cuts

no_cuts : (form : Form) (version : ℕ) → IsVersion form version → ((version ≡ 1) × (no_body.cuts ≡ [])) ⊎ (version ≡ 2)
no_cuts forms.Calls version (inl first) = inl (first, refl)
no_cuts forms.Calls version (inr second) = inr second
no_cuts forms.Generator version first = inl (first, refl)
no_cuts forms.Copy version second = inr second

-- nothing yet
none_within : (form : Form) (version : ℕ) (shape : Shape) → IsVersion form version → IsWithin version shape no_body
none_within form version shape is =
    record { each = All-nil (IsCallOn shape); few = omega arith; replied = omega arith; phases = record { known = no_cuts form version is; few = omega arith; rise = tt } }

-- a line more
more_within : (version : ℕ) (shape : Shape) (body : Body) (tokens : Tokens) (next : BodyLine) → IsWithin version shape body → Tells version shape body tokens next → IsWithin version shape (with_next body next)
more_within version shape body tokens (says.Call call) h told =
    let long = length-append body.calls (call ∷ []) in
    record {
      each = All-append (IsCallOn shape) body.calls (call ∷ []) h.each (All-cons (IsCallOn shape) call [] (call_has version shape tokens call told.read) (All-nil (IsCallOn shape)));
      few = few_more version shape body tokens (says.Call call) told h.few;
      replied = room_more version shape body tokens (says.Call call) told h.replied;
      phases = record { known = h.phases.known; few = h.phases.few; rise = cuts_stay 0 (length body.calls) (length (body.calls ++ call ∷ [])) body.cuts (omega (arith, long)) h.phases.rise };
    }
more_within version shape body tokens says.Phase h told =
    let count = length body.calls in
    record {
      each = h.each;
      few = h.few;
      replied = h.replied;
      phases = record { known = inr told.0; few = omega (arith, told.1, length-append body.cuts (count ∷ [])); rise = cut_more 0 count body.cuts (omega arith) h.phases.rise };
    }

-- ---- the script

created : (answer : Result Shape CreateRefusal) (shape : Shape) → or_create answer ≡ Ok shape → answer ≡ Ok shape
created (Ok found) shape is = cc
created (Err refusal) shape is = absurd cc

whole : (version : ℕ) (attr : CreateAttr) (shape : Shape) (body : Body) (spec : Option GenSpec) → creation attr ≡ Ok shape → IsWithin version shape body → IsWellFormed (script_of version attr shape body.calls body.cuts spec)
whole version attr shape body spec accepted within = record {
  created = accepted;
  shape = record { attr = attr; accepted = accepted };
  calls = within.each;
  few = within.few;
  room = within.replied;
  phases = within.phases;
  target = tt;
}

-- what the lines of form Calls say
lines_within : (form : Form) (version : ℕ) (shape : Shape) (lines : List Line) (body : Body) → IsVersion form version → body_from version shape no_body lines ≡ Ok body → IsWithin version shape body
lines_within form version shape lines body is read =
    lines_hold version shape (λ (body : Body) (lines : List Line). IsWithin version shape body) (λ body line lines tokens next h said told. more_within version shape body tokens next h told) no_body lines body (none_within form version shape is) read

is_target : (source : CreateAttr) (asked : CreateAttr × ℕ) (made : Shape) → IsAsked source asked → creation asked.0 ≡ Ok made → IsTarget source (target_with asked.0 made asked.1)
is_target source asked made h accepted = record {
  created = accepted;
  shape = record { attr = asked.0; accepted = accepted };
  key_size = h.key_size;
  value_size = h.value_size;
  cpus = h.cpus;
  values = h.values;
  some = h.some;
  few = h.few;
}

-- the script that was found
found_ok : (found script : Script) → ◌≡◌ {A = Result Script ScriptRefusal} (Ok found) (Ok script) → found ≡ script
found_ok found script is = cc

whole_copy : (version : ℕ) (attr : CreateAttr) (shape : Shape) (body : Body) (target : Target) (script : Script) → version ≡ 2 → creation attr ≡ Ok shape → IsWithin version shape body → IsTarget attr target
    → AreOfOthers (last_calls body.cuts body.calls) → ◌≡◌ {A = Result Script ScriptRefusal} (Ok (copy_of version attr shape body.calls body.cuts target)) (Ok script) → IsWellFormed script
whole_copy version attr shape body target script second accepted within is others found =
    let formed : IsWellFormed (copy_of version attr shape body.calls body.cuts target) = record {
      created = accepted;
      shape = record { attr = attr; accepted = accepted };
      calls = within.each;
      few = within.few;
      room = within.replied;
      phases = within.phases;
      target = record { version = second; no_spec = refl; into = is; last = others };
    } in
    subst IsWellFormed (found_ok (copy_of version attr shape body.calls body.cuts target) script found) formed

target_has : (version : ℕ) (attr : CreateAttr) (shape : Shape) (end : ℕ) (lines : List Line) (script : Script) → version ≡ 2 → IsAttr attr → creation attr ≡ Ok shape → target_of version attr shape end lines ≡ Ok script → IsWellFormed script
unfolding target_of
target_has version attr shape end [] script is numbers accepted read = absurd cc
target_has version attr shape end (line ∷ lines) script is numbers accepted read =
    let asked = step_found (at_line line (target_line attr)) (λ asked. or_create (creation asked.0) >>= λ made. copied_from version shape no_body lines >>= λ body. Ok (copy_of version attr shape body.calls body.cuts (target_with asked.0 made asked.1))) script read in
    let made = step_found (or_create (creation asked.0.0)) (λ made. copied_from version shape no_body lines >>= λ body. Ok (copy_of version attr shape body.calls body.cuts (target_with asked.0.0 made asked.0.1))) script asked.2 in
    let target = target_with asked.0.0 made.0 asked.0.1 in
    let body = step_found (copied_from version shape no_body lines) (λ body. Ok (copy_of version attr shape body.calls body.cuts target)) script made.2 in
    let P : Result (CreateAttr × ℕ) ScriptRefusal → Type 0 = λ r. IfOk r (IsAsked attr) in
    let known = subst P asked.1 (at_line_gives (IsAsked attr) line (target_line attr) (λ tokens. target_gives attr tokens numbers)) in
    whole_copy version attr shape body.0 target script is accepted
    (lines_within forms.Copy version shape lines body.0 is (plain_read version shape no_body lines body.0 body.1))
    (is_target attr asked.0 made.0 known (created (creation asked.0.0) made.0 made.1))
    (copied_free version shape lines body.0 body.1) body.2

body_has : (form : Form) (version : ℕ) (attr : CreateAttr) (shape : Shape) (end : ℕ) (lines : List Line) (script : Script) → IsVersion form version → IsAttr attr → creation attr ≡ Ok shape → body_of form version attr shape end lines ≡ Ok script → IsWellFormed script
unfolding body_of
body_has forms.Calls version attr shape end lines script is numbers accepted read =
    let body = step_found (body_from version shape no_body lines) (λ body. Ok (script_of version attr shape body.calls body.cuts None)) script read in
    let within = lines_within forms.Calls version shape lines body.0 is body.1 in
    subst IsWellFormed (same_ok (body_of forms.Calls version attr shape end lines) (script_of version attr shape body.0.calls body.0.cuts None) script (read ∙ sym body.2) read) (whole version attr shape body.0 None accepted within)
body_has forms.Generator version attr shape end lines script is numbers accepted read =
    let spec = step_found (spec_of shape end lines) (λ spec. Ok (script_of version attr shape [] [] (Some spec))) script read in
    subst IsWellFormed (same_ok (body_of forms.Generator version attr shape end lines) (script_of version attr shape [] [] (Some spec.0)) script (read ∙ sym spec.2) read) (whole version attr shape no_body (Some spec.0) accepted (none_within forms.Generator version shape is))
body_has forms.Copy version attr shape end lines script is numbers accepted read =
    target_has version attr shape end lines script is numbers accepted read

map_has : (form : Form) (version end : ℕ) (lines : List Line) (script : Script) → IsVersion form version → map_of form version end lines ≡ Ok script → IsWellFormed script
unfolding map_of
map_has form version end [] script is read = absurd cc
map_has form version end (line ∷ lines) script is read =
    let attr = step_found (at_line line map_line) (λ attr. or_create (creation attr) >>= λ shape. body_of form version attr shape end lines) script read in
    let shape = step_found (or_create (creation attr.0)) (λ shape. body_of form version attr.0 shape end lines) script attr.2 in
    let P : Result CreateAttr ScriptRefusal → Type 0 = λ r. IfOk r IsAttr in
    let numbers = subst P attr.1 (at_line_gives IsAttr line map_line map_gives) in
    body_has form version attr.0 shape.0 end lines script is numbers (created (creation attr.0) shape.0 shape.1) shape.2

version_has : (form : Form) (end : ℕ) (lines : List Line) (script : Script) → version_of form end lines ≡ Ok script → IsWellFormed script
unfolding version_of
version_has form end [] script read = absurd cc
version_has form end (line ∷ lines) script read =
    let version = step_found (at_line line (version_line form)) (λ version. map_of form version end lines) script read in
    let P : Result ℕ ScriptRefusal → Type 0 = λ r. IfOk r (IsVersion form) in
    let is = subst P version.1 (at_line_gives (IsVersion form) line (version_line form) (version_gives form)) in
    map_has form version.0 end lines script is version.2

-- each script that is read is well formed
pub IsWellFormed-read_as : (form : Form) (text : List ℕ) (script : Script) → read_as form text ≡ Ok script → IsWellFormed script
unfolding read_as
IsWellFormed-read_as form text script read = version_has form (end_number text) (lines_of text) script read

pub IsWellFormed-reading : (form : Form) (text : List ℕ) (returned : Result Script ScriptRefusal) → IsReading returned (read_as form text) → IfOk returned IsWellFormed
IsWellFormed-reading form text (Ok script) is = IsWellFormed-read_as form text script is
IsWellFormed-reading form text (Err (Fault line cause)) is = tt
IsWellFormed-reading form text (Err (Create refusal)) is = tt
IsWellFormed-reading form text (Err NoMemory) is = tt

-- the keys and values that the calls of such a script give are bytes
pub calls_give_bytes : (script : Script) → IsWellFormed script → All (λ (call : Call). GivesBytes call.verb) script.calls
calls_give_bytes script well =
    All-weaker (IsCallOn script.shape) (λ (call : Call). GivesBytes call.verb) (λ call is. is.bytes) script.calls well.calls
