-- The canonical text of a script is read as the script again.
use Rattle.std.proofs.Common.{◌≡◌, ℕ, ◌+◌, List, ◌∷◌, ◌++◌, length, Option, None, Ok, refl, sym, ap, subst, ◌∙◌, inl, inr}
use Rattle.std.specs.Prelude.{IfSome, codes}
use Rattle.map_script.specs.declared.script.Form.TheVariants as forms
use Rattle.map_script.specs.declared.script.Script.{Script}
use Rattle.map_script.specs.declared.script.Target.{Target}
use Rattle.map_script.specs.Canonical.{canonical, map_tokens}
use Rattle.map_script.specs.Lines.{lines_of, end_number}
use Rattle.map_script.specs.Reading.{or_fault, or_create, body_with, body_of, map_of, version_of, read_as, script_of, IsReadAs}
use Rattle.map_script.specs.WellFormed.{HasPhases}
use Rattle.map_script.proofs.Gives.{IsVersion}
use Rattle.map_script.proofs.TokenLines.{saying_from, lines_of-text_of_lines}
use Rattle.map_script.proofs.CallScripts.{script_with, IsCallScript, AreAsked, IsListed, script_lists}
use Rattle.map_script.proofs.CanonicalTokens.{version_tokens, phased_lines, target_lines, script_lines, canonical-lines, script_are_lines}
use Rattle.map_script.proofs.LinesRead.{then, version_read, map_read}
use Rattle.map_script.proofs.PhasesRead.{lines_read}
use Rattle.map_script.proofs.TargetTold.{target_told, none_told}
use Rattle.map_script.proofs.WellFormedLemmas.{IsWellFormed-read_as}

known_version : (version count : ℕ) (cuts : List ℕ) → HasPhases version count cuts → IsVersion forms.Calls version
known_version version count cuts h = elim h.known [ inl first ↦ inl first.0 | inr second ↦ inr second ]

body_read : (script : Script) (end at : ℕ) → IsCallScript script
    → body_of forms.Calls script.version script.attr script.shape end (saying_from at (phased_lines 0 script.cuts script.calls)) ≡ Ok (script_of script.version script.attr script.shape script.calls script.cuts None)
unfolding body_of
body_read script end at h =
    then _ _ (body_with script.calls script.cuts) _ (lines_read script.version script.shape at script.cuts script.calls h.calls h.phases) refl

map_of_read : (script : Script) (end at : ℕ) → IsCallScript script
    → map_of forms.Calls script.version end (saying_from at ((codes "map" ∷ map_tokens script.attr) ∷ phased_lines 0 script.cuts script.calls)) ≡ Ok (script_of script.version script.attr script.shape script.calls script.cuts None)
unfolding map_of
map_of_read script end at h =
    then _ _ script.attr _ (ap (or_fault at) (map_read script.attr h.numbers))
    (then _ _ script.shape _ (ap or_create h.created) (body_read script end (at + 1) h))

-- the lines of a script of form Calls
abbrev call_lines : Script → List (List (List ℕ))
call_lines script =
    version_tokens script.version ∷ (codes "map" ∷ map_tokens script.attr) ∷ phased_lines 0 script.cuts script.calls

version_of_read : (script : Script) (end at : ℕ) → IsCallScript script → version_of forms.Calls end (saying_from at (call_lines script)) ≡ Ok (script_of script.version script.attr script.shape script.calls script.cuts None)
unfolding version_of
version_of_read script end at h =
    then _ _ script.version _ (ap (or_fault at) (version_read forms.Calls script.version (known_version script.version (length script.calls) script.cuts h.phases))) (map_of_read script end (at + 1) h)

listed : (script : Script) → IsCallScript script → IsListed script
listed script h =
    record { numbers = h.numbers; calls = h.calls; no_spec = h.no_spec; target = subst (λ (target : Option Target). IfSome target AreAsked) (sym h.no_target) tt }

-- a script of calls is what form Calls reads from its canonical text
pub call_script_read : (script : Script) → IsCallScript script → read_as forms.Calls (canonical script) ≡ Ok script
unfolding read_as
call_script_read script h =
    let end = end_number (canonical script) in
    let no_line : script_lines script ≡ call_lines script = ap (λ (target : Option Target). version_tokens script.version ∷ (codes "map" ∷ map_tokens script.attr) ∷ (target_lines target ++ phased_lines 0 script.cuts script.calls)) h.no_target in
    let lines : lines_of (canonical script) ≡ saying_from 1 (script_lines script) = ap lines_of (canonical-lines script h.no_spec) ∙ lines_of-text_of_lines (script_lines script) (script_are_lines script (listed script h) h.created h.phases) in
    ap (version_of forms.Calls end) (lines ∙ ap (saying_from 1) no_line) ∙ version_of_read script end 1 h
    ∙ (λ n. Ok (script_with script.version script.attr script.shape script.calls script.cuts (sym h.no_spec n) (sym h.no_target n)))

-- what is known of each script that form Calls gives
script_gives : (given : List ℕ) (script : Script) → read_as forms.Calls given ≡ Ok script → IsCallScript script
script_gives given script read =
    let listed = script_lists given script read in
    let formed = IsWellFormed-read_as forms.Calls given script read in
    record {
      numbers = listed.numbers;
      created = formed.created;
      calls = listed.calls;
      phases = formed.phases;
      no_spec = listed.no_spec;
      no_target = none_told script.target (target_told forms.Calls given script read);
    }

-- and so is one that form Calls gives
pub read_as-canonical : (script : Script) → IsReadAs forms.Calls script → read_as forms.Calls (canonical script) ≡ Ok script
read_as-canonical script read = call_script_read script (script_gives read.0 script read.1)
