-- The canonical text of a script that form Copy gives is read as the script again.
use Rattle.std.proofs.Common.{◌≡◌, ℕ, ◌+◌, List, [], ◌∷◌, ◌++◌, length, Option, Some, Result, Ok, refl, sym, ap, subst, ◌∙◌, arith}
use Rattle.std.specs.Prelude.{IfSome, IfOk, codes}
use Rattle.map_types.specs.Creation.{creation}
use Rattle.map_types.specs.declared.attr.CreateAttr.{CreateAttr}
use Rattle.map_types.specs.declared.attr.Shape.{Shape}
use Rattle.map_script.specs.declared.body.Body.{Body}
use Rattle.map_script.specs.declared.refusal.ScriptRefusal.{ScriptRefusal}
use Rattle.map_script.specs.declared.script.Form.TheVariants as forms
use Rattle.map_script.specs.declared.script.Script.{Script}
use Rattle.map_script.specs.declared.script.Target.{Target}
use Rattle.map_script.specs.Canonical.{canonical, map_tokens, target_tokens}
use Rattle.map_script.specs.Grammar.{version_line, map_line, target_line}
use Rattle.map_script.specs.Lines.{Line, lines_of, end_number}
use Rattle.map_script.specs.Reading.{at_line, or_fault, or_create, body_with, no_body, copied_from, copy_of, target_of, body_of, map_of, version_of, read_as, IsReadAs}
use Rattle.map_script.specs.WellFormed.{HasPhases, IsCopy}
use Rattle.map_script.proofs.CallScripts.{IsAttr, AreAsked, AreCalls, IsListed, script_with, map_gives, lines_give}
use Rattle.map_script.proofs.CanonicalTokens.{version_tokens, phased_lines, target_lines, script_lines, canonical-lines, script_are_lines}
use Rattle.map_script.proofs.CopyReads.{plain_read, copied_read}
use Rattle.map_script.proofs.Gives.{found_gives, and_then, and_any, at_line_gives}
use Rattle.map_script.proofs.LinesRead.{then, version_read, map_read}
use Rattle.map_script.proofs.PhasesRead.{lines_read}
use Rattle.map_script.proofs.TargetLines.{IsAsked, target_gives, target_read}
use Rattle.map_script.proofs.TargetTold.{target_told, some_told}
use Rattle.map_script.proofs.TokenLines.{saying_from, lines_of-text_of_lines}
use Rattle.map_script.proofs.WellFormedLemmas.{IsWellFormed-read_as}

-- ---- what is known of each script that form Copy gives

record IsCopyScript (script : Script) : Type 0 where
  listed : IsListed script
  created : creation script.attr ≡ Ok script.shape
  phases : HasPhases script.version (length script.calls) script.cuts
  target : Target
  has_target : script.target ≡ Some target
  copies : IsCopy script target

lines_copied : (version : ℕ) (shape : Shape) (lines : List Line) → IfOk (copied_from version shape no_body lines) (λ body. AreCalls version shape 0 0 body.calls)
lines_copied version shape lines =
    found_gives (λ (body : Body). AreCalls version shape 0 0 body.calls) (copied_from version shape no_body lines) (λ body read.
    subst (λ (r : Result Body ScriptRefusal). IfOk r (λ body. AreCalls version shape 0 0 body.calls)) (plain_read version shape no_body lines body read) (lines_give version shape lines))

target_of_gives : (version : ℕ) (attr : CreateAttr) (shape : Shape) (end : ℕ) (lines : List Line) → IsAttr attr → IfOk (target_of version attr shape end lines) IsListed
unfolding target_of
target_of_gives version attr shape end [] numbers = tt
target_of_gives version attr shape end (line ∷ lines) numbers =
    and_then (IsAsked attr) IsListed (at_line line (target_line attr)) _ (at_line_gives (IsAsked attr) line (target_line attr) (λ tokens. target_gives attr tokens numbers)) (λ asked known.
    and_any IsListed (or_create (creation asked.0)) _ (λ made.
    and_then (λ body. AreCalls version shape 0 0 body.calls) IsListed (copied_from version shape no_body lines) _ (lines_copied version shape lines) (λ body calls_are.
    record { numbers = numbers; calls = calls_are; no_spec = refl; target = record { attr = known.numbers; count = known.counted } })))

body_gives : (version : ℕ) (attr : CreateAttr) (shape : Shape) (end : ℕ) (lines : List Line) → IsAttr attr → IfOk (body_of forms.Copy version attr shape end lines) IsListed
unfolding body_of
body_gives version attr shape end lines numbers = target_of_gives version attr shape end lines numbers

map_of_gives : (version end : ℕ) (lines : List Line) → IfOk (map_of forms.Copy version end lines) IsListed
unfolding map_of
map_of_gives version end [] = tt
map_of_gives version end (line ∷ lines) =
    and_then IsAttr IsListed (at_line line map_line) _ (at_line_gives IsAttr line map_line map_gives) (λ attr numbers.
    and_any IsListed (or_create (creation attr)) _ (λ shape. body_gives version attr shape end lines numbers))

version_of_gives : (end : ℕ) (lines : List Line) → IfOk (version_of forms.Copy end lines) IsListed
unfolding version_of
version_of_gives end [] = tt
version_of_gives end (line ∷ lines) =
    and_any IsListed (at_line line (version_line forms.Copy)) _ (λ version. map_of_gives version end lines)

script_lists : (given : List ℕ) (script : Script) → read_as forms.Copy given ≡ Ok script → IsListed script
unfolding read_as
script_lists given script read =
    let P : Result Script ScriptRefusal → Type 0 = λ r. IfOk r IsListed in
    subst P read (version_of_gives (end_number given) (lines_of given))

copy_gives : (given : List ℕ) (script : Script) → read_as forms.Copy given ≡ Ok script → IsCopyScript script
copy_gives given script read =
    let formed = IsWellFormed-read_as forms.Copy given script read in
    let target = some_told script.target (target_told forms.Copy given script read) in
    record {
      listed = script_lists given script read;
      created = formed.created;
      phases = formed.phases;
      target = target.0;
      has_target = target.1;
      copies = subst (λ (t : Option Target). IfSome t (IsCopy script)) target.1 formed.target;
    }

-- ---- its lines are read as the script

target_of_read : (script : Script) (end at : ℕ) (h : IsCopyScript script)
    → target_of script.version script.attr script.shape end (saying_from at ((codes "target" ∷ target_tokens h.target) ∷ phased_lines 0 script.cuts script.calls)) ≡ Ok (copy_of script.version script.attr script.shape script.calls script.cuts h.target)
unfolding target_of
target_of_read script end at h =
    let target = h.target in
    let asked = subst (λ (t : Option Target). IfSome t AreAsked) h.has_target h.listed.target in
    let lines = saying_from (at + 1) (phased_lines 0 script.cuts script.calls) in
    let body = body_with script.calls script.cuts in
    then _ _ (target.attr, target.count) _ (ap (or_fault at) (target_read script.attr target asked h.copies.into))
    (then _ _ target.shape _ (ap or_create h.copies.into.created)
    (then _ _ body _ (copied_read script.version script.shape no_body lines body (omega arith) (lines_read script.version script.shape (at + 1) script.cuts script.calls h.listed.calls h.phases) h.copies.last) refl))

body_read : (script : Script) (end at : ℕ) (h : IsCopyScript script)
    → body_of forms.Copy script.version script.attr script.shape end (saying_from at ((codes "target" ∷ target_tokens h.target) ∷ phased_lines 0 script.cuts script.calls)) ≡ Ok (copy_of script.version script.attr script.shape script.calls script.cuts h.target)
unfolding body_of
body_read script end at h = target_of_read script end at h

-- the lines of a script of form Copy
abbrev copy_lines : Script → Target → List (List (List ℕ))
copy_lines script target =
    version_tokens script.version ∷ (codes "map" ∷ map_tokens script.attr) ∷ (codes "target" ∷ target_tokens target) ∷ phased_lines 0 script.cuts script.calls

map_of_read : (script : Script) (end at : ℕ) (h : IsCopyScript script)
    → map_of forms.Copy script.version end (saying_from at ((codes "map" ∷ map_tokens script.attr) ∷ (codes "target" ∷ target_tokens h.target) ∷ phased_lines 0 script.cuts script.calls))
    ≡ Ok (copy_of script.version script.attr script.shape script.calls script.cuts h.target)
unfolding map_of
map_of_read script end at h =
    then _ _ script.attr _ (ap (or_fault at) (map_read script.attr h.listed.numbers))
    (then _ _ script.shape _ (ap or_create h.created) (body_read script end (at + 1) h))

version_of_read : (script : Script) (end at : ℕ) (h : IsCopyScript script) → version_of forms.Copy end (saying_from at (copy_lines script h.target)) ≡ Ok (copy_of script.version script.attr script.shape script.calls script.cuts h.target)
unfolding version_of
version_of_read script end at h =
    then _ _ script.version _ (ap (or_fault at) (version_read forms.Copy script.version h.copies.version)) (map_of_read script end (at + 1) h)

copy_script_read : (script : Script) → IsCopyScript script → read_as forms.Copy (canonical script) ≡ Ok script
unfolding read_as
copy_script_read script h =
    let end = end_number (canonical script) in
    let no_spec = h.listed.no_spec in
    let same : script_lines script ≡ copy_lines script h.target = ap (λ (target : Option Target). version_tokens script.version ∷ (codes "map" ∷ map_tokens script.attr) ∷ (target_lines target ++ phased_lines 0 script.cuts script.calls)) h.has_target in
    let lines : lines_of (canonical script) ≡ saying_from 1 (script_lines script) = ap lines_of (canonical-lines script no_spec) ∙ lines_of-text_of_lines (script_lines script) (script_are_lines script h.listed h.created h.phases) in
    ap (version_of forms.Copy end) (lines ∙ ap (saying_from 1) same) ∙ version_of_read script end 1 h
    ∙ (λ n. Ok (script_with script.version script.attr script.shape script.calls script.cuts (sym no_spec n) (sym h.has_target n)))

-- a script that form Copy gives is what form Copy reads from its canonical text
pub copy-canonical : (script : Script) → IsReadAs forms.Copy script → read_as forms.Copy (canonical script) ≡ Ok script
copy-canonical script read = copy_script_read script (copy_gives read.0 script read.1)
