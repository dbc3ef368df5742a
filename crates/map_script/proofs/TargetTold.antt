-- A target is there exactly where form Copy gave the script.
use Rattle.std.proofs.Common.{◌≡◌, ℕ, true, false, List, [], ◌∷◌, None, Some, Option, Result, Ok, Err, refl, subst, ◌∙◌, arith}
use Rattle.std.specs.Prelude.{IfSome, IfOk, is_some}
use Rattle.map_types.specs.Creation.{creation}
use Rattle.map_types.specs.declared.attr.CreateAttr.{CreateAttr}
use Rattle.map_types.specs.declared.attr.Shape.{Shape}
use Rattle.map_script.specs.declared.refusal.ScriptRefusal.{ScriptRefusal}
use Rattle.map_script.specs.declared.refusal.ScriptRefusal.TheVariants.{Fault, Create, NoMemory}
use Rattle.map_script.specs.declared.script.Form.{Form}
use Rattle.map_script.specs.declared.script.Form.TheVariants as forms
use Rattle.map_script.specs.declared.script.Script.{Script}
use Rattle.map_script.specs.declared.script.Target.{Target}
use Rattle.map_script.specs.Grammar.{version_line, map_line, target_line}
use Rattle.map_script.specs.Lines.{Line, lines_of, end_number}
use Rattle.map_script.specs.Reading.{at_line, or_create, no_body, body_from, copied_from, spec_of, target_of, body_of, map_of, version_of, read_as, is_copy, IsReadAs, IsReading}
use Rattle.map_script.specs.WellFormed.{IsCopy, IsWellFormed}
use Rattle.map_script.proofs.Gives.{and_any}

abbrev Tells : Form → Script → Type 0
Tells form script = is_some script.target ≡ is_copy form

target_tells : (version : ℕ) (attr : CreateAttr) (shape : Shape) (end : ℕ) (lines : List Line) → IfOk (target_of version attr shape end lines) (Tells forms.Copy)
unfolding target_of
target_tells version attr shape end [] = tt
target_tells version attr shape end (line ∷ lines) =
    and_any (Tells forms.Copy) (at_line line (target_line attr)) _ (λ asked.
    and_any (Tells forms.Copy) (or_create (creation asked.0)) _ (λ made.
    and_any (Tells forms.Copy) (copied_from version shape no_body lines) _ (λ body. refl)))

body_tells : (form : Form) (version : ℕ) (attr : CreateAttr) (shape : Shape) (end : ℕ) (lines : List Line) → IfOk (body_of form version attr shape end lines) (Tells form)
unfolding body_of
body_tells forms.Calls version attr shape end lines =
    and_any (Tells forms.Calls) (body_from version shape no_body lines) _ (λ body. refl)
body_tells forms.Generator version attr shape end lines =
    and_any (Tells forms.Generator) (spec_of shape end lines) _ (λ spec. refl)
body_tells forms.Copy version attr shape end lines = target_tells version attr shape end lines

map_tells : (form : Form) (version end : ℕ) (lines : List Line) → IfOk (map_of form version end lines) (Tells form)
unfolding map_of
map_tells form version end [] = tt
map_tells form version end (line ∷ lines) =
    and_any (Tells form) (at_line line map_line) _ (λ attr.
    and_any (Tells form) (or_create (creation attr)) _ (λ shape. body_tells form version attr shape end lines))

version_tells : (form : Form) (end : ℕ) (lines : List Line) → IfOk (version_of form end lines) (Tells form)
unfolding version_of
version_tells form end [] = tt
version_tells form end (line ∷ lines) =
    and_any (Tells form) (at_line line (version_line form)) _ (λ version. map_tells form version end lines)

pub target_told : (form : Form) (text : List ℕ) (script : Script) → read_as form text ≡ Ok script → is_some script.target ≡ is_copy form
unfolding read_as
target_told form text script read =
    let P : Result Script ScriptRefusal → Type 0 = λ r. IfOk r (Tells form) in
    subst P read (version_tells form (end_number text) (lines_of text))

pub target-reading : (form : Form) (text : List ℕ) (returned : Result Script ScriptRefusal) → IsReading returned (read_as form text) → IfOk returned (λ script. is_some script.target ≡ is_copy form)
target-reading form text (Ok script) is = target_told form text script is
target-reading form text (Err (Fault line cause)) is = tt
target-reading form text (Err (Create refusal)) is = tt
target-reading form text (Err NoMemory) is = tt

-- where none is there
pub none_told : (target : Option Target) → is_some target ≡ false → target ≡ None
none_told None is = refl
none_told (Some target) is = absurd cc

-- where one is there
pub some_told : (target : Option Target) → is_some target ≡ true → (found : Target) × (target ≡ Some found)
some_told None is = absurd cc
some_told (Some target) is = (target, refl)

-- in the other forms, and in version 1, none is
pub no_target : (form : Form) (script : Script) → is_copy form ≡ false → IsReadAs form script → script.target ≡ None
no_target form script other read = none_told script.target (target_told form read.0 script read.1 ∙ other)

pub first_has_none : (script : Script) → IsWellFormed script → script.version ≡ 1 → script.target ≡ None
first_has_none script well first = go script.target refl
  where
    go : (target : Option Target) → script.target ≡ target → target ≡ None
    go None is = refl
    go (Some target) is =
        let copy = subst (λ (t : Option Target). IfSome t (IsCopy script)) is well.target in
        let second = copy.version in
        absurd (omega (arith, first, second))
