-- What lines lead to, whatever lines follow.
use Rattle.std.proofs.Common.{◌≡◌, ℕ, ◌||◌, Bool, true, false, cond, List, [], ◌∷◌, ◌++◌, Option, None, Some, Result, Ok, Err, refl, sym, ap, ◌∙◌}
use Rattle.std.proofs.lemmas.List.Folds.{list_any-append}
use Rattle.map_types.specs.Creation.{creation}
use Rattle.map_types.specs.declared.attr.CreateAttr.{CreateAttr}
use Rattle.map_types.specs.declared.attr.Shape.{Shape}
use Rattle.map_types.specs.declared.refusal.CreateRefusal.{CreateRefusal}
use Rattle.map_script.specs.declared.body.Body.{Body}
use Rattle.map_script.specs.declared.body.BodyLine.{BodyLine}
use Rattle.map_script.specs.declared.refusal.Cause.{Cause}
use Rattle.map_script.specs.declared.refusal.Cause.TheVariants.{Gen, Copier}
use Rattle.map_script.specs.declared.refusal.ScriptRefusal.{ScriptRefusal}
use Rattle.map_script.specs.declared.refusal.ScriptRefusal.TheVariants.{Fault, Create, NoMemory}
use Rattle.map_script.specs.declared.script.Form.{Form}
use Rattle.map_script.specs.declared.script.Form.TheVariants as forms
use Rattle.map_script.specs.declared.script.GenSpec.{GenSpec}
use Rattle.map_script.specs.declared.script.Script.{Script}
use Rattle.map_script.specs.declared.script.Target.{Target}
use Rattle.map_script.specs.declared.copied.Stop.TheVariants.{Refused, Either}
use Rattle.map_script.specs.declared.stage.Copying.{Copying}
use Rattle.map_script.specs.declared.stage.EitherFault.{EitherFault}
use Rattle.map_script.specs.declared.stage.Head.{Head}
use Rattle.map_script.specs.declared.stage.Stage.{Stage}
use Rattle.map_script.specs.declared.stage.Stage.TheVariants as stages
use Rattle.map_script.specs.CallsSoFar.{calls_of}
use Rattle.map_script.specs.CopySoFar.{copied_of, target_on, unless_held}
use Rattle.map_script.specs.CopyLines.{copied_behind, ReadsCopied}
use Rattle.map_script.specs.Grammar.{version_line, map_line, gen_line, target_line}
use Rattle.map_script.specs.Lines.{Line, tokens_said}
use Rattle.map_script.specs.Pieces.{ReadsOn, read_on, read_behind, spec_script}
use Rattle.map_script.specs.Places.{◌>>=◌, Tokens}
use Rattle.map_script.specs.Reading.{at_line, or_fault, or_create, body_with, with_next, body_from, line_behind, begins_phase, phase_begins, copied_from, script_of, target_with, copy_of, target_of, body_of, map_of, version_of, IsReading}

-- what lines are read as, by the number of a fault at the end
abbrev pub Reads : Type 0
Reads = ℕ → List Line → Result Script ScriptRefusal

-- ---- what was returned

pub refused : (read : Reads) (refusal : ScriptRefusal) → ((end : ℕ) (more : List Line) → read end more ≡ Err refusal) → ReadsOn read (Err refusal)
refused read (Fault line cause) is = is
refused read (Create refusal) is = is
refused read NoMemory is = tt

pub reads_as : (read other : Reads) (returned : Result Stage ScriptRefusal) → ((end : ℕ) (more : List Line) → read end more ≡ other end more) → ReadsOn other returned → ReadsOn read returned
reads_as read other (Ok stage) same on = λ end more. same end more ∙ on end more
reads_as read other (Err (Fault line cause)) same on = λ end more. same end more ∙ on end more
reads_as read other (Err (Create refusal)) same on = λ end more. same end more ∙ on end more
reads_as read other (Err NoMemory) same on = tt

pub goes_on : (read : Reads) (returned : Result Stage ScriptRefusal) → ReadsOn read returned → (returned ≡ Err NoMemory → ⊥) → (end : ℕ) (more : List Line) → read end more ≡ read_behind returned end more
goes_on read (Ok stage) on some = on
goes_on read (Err (Fault line cause)) on some = on
goes_on read (Err (Create refusal)) on some = on
goes_on read (Err NoMemory) on some = absurd (some refl)

pub reading_is : (returned read : Result Script ScriptRefusal) → returned ≡ read → IsReading returned read
reading_is (Ok script) read is = sym is
reading_is (Err (Fault line cause)) read is = sym is
reading_is (Err (Create refusal)) read is = sym is
reading_is (Err NoMemory) read is = tt

-- where nothing more was read, the stage stays
pub stays : (stage : Stage) (lines : List Line) → lines ≡ [] → ReadsOn (λ end more. read_on stage end (lines ++ more)) (Ok stage)
stays stage lines none = λ end more. ap (λ (l : List Line). read_on stage end (l ++ more)) none

-- ---- the version line

pub version_fault : (form : Form) (lines rest : List Line) (line : Line) (refusal : ScriptRefusal) → lines ≡ line ∷ rest → at_line line (version_line form) ≡ Err refusal
    → ReadsOn (λ end more. version_of form end (lines ++ more)) (Err refusal)
unfolding version_of
version_fault form lines rest line refusal first is =
    refused (λ end more. version_of form end (lines ++ more)) refusal (λ end more.
    ap (λ (l : List Line). version_of form end (l ++ more)) first
    ∙ ap (λ (r : Result ℕ ScriptRefusal). r >>= λ version. map_of form version end (rest ++ more)) is)

pub version_next : (form : Form) (lines rest : List Line) (line : Line) (version : ℕ) (returned : Result Stage ScriptRefusal) → lines ≡ line ∷ rest → at_line line (version_line form) ≡ Ok version
    → ReadsOn (λ end more. map_of form version end (rest ++ more)) returned → ReadsOn (λ end more. version_of form end (lines ++ more)) returned
unfolding version_of
version_next form lines rest line version returned first is on =
    reads_as (λ end more. version_of form end (lines ++ more)) (λ end more. map_of form version end (rest ++ more)) returned (λ end more.
    ap (λ (l : List Line). version_of form end (l ++ more)) first
    ∙ ap (λ (r : Result ℕ ScriptRefusal). r >>= λ version. map_of form version end (rest ++ more)) is) on

-- ---- the map line

pub map_fault : (form : Form) (version : ℕ) (lines rest : List Line) (line : Line) (refusal : ScriptRefusal) → lines ≡ line ∷ rest → at_line line map_line ≡ Err refusal
    → ReadsOn (λ end more. map_of form version end (lines ++ more)) (Err refusal)
unfolding map_of
map_fault form version lines rest line refusal first is =
    refused (λ end more. map_of form version end (lines ++ more)) refusal (λ end more.
    ap (λ (l : List Line). map_of form version end (l ++ more)) first
    ∙ ap (λ (r : Result CreateAttr ScriptRefusal). r >>= λ attr. or_create (creation attr) >>= λ shape. body_of form version attr shape end (rest ++ more)) is)

-- what stands behind a map line that is read
map_read : (form : Form) (version : ℕ) (lines rest : List Line) (line : Line) (attr : CreateAttr) (made : Result Shape CreateRefusal) → lines ≡ line ∷ rest → at_line line map_line ≡ Ok attr → creation attr ≡ made
    → (end : ℕ) (more : List Line) → map_of form version end (lines ++ more) ≡ (or_create made >>= λ shape. body_of form version attr shape end (rest ++ more))
unfolding map_of
map_read form version lines rest line attr made first is creates end more =
    ap (λ (l : List Line). map_of form version end (l ++ more)) first
    ∙ ap (λ (r : Result CreateAttr ScriptRefusal). r >>= λ attr. or_create (creation attr) >>= λ shape. body_of form version attr shape end (rest ++ more)) is
    ∙ ap (λ (r : Result Shape CreateRefusal). or_create r >>= λ shape. body_of form version attr shape end (rest ++ more)) creates

pub map_refused : (form : Form) (version : ℕ) (lines rest : List Line) (line : Line) (attr : CreateAttr) (why : CreateRefusal) (refusal : ScriptRefusal) → lines ≡ line ∷ rest → at_line line map_line ≡ Ok attr
    → creation attr ≡ Err why → refusal ≡ Create why → ReadsOn (λ end more. map_of form version end (lines ++ more)) (Err refusal)
map_refused form version lines rest line attr why refusal first is creates gives =
    refused (λ end more. map_of form version end (lines ++ more)) refusal (λ end more.
    map_read form version lines rest line attr (Err why) first is creates end more ∙ ap Err (sym gives))

pub map_next : (form : Form) (version : ℕ) (lines rest : List Line) (line : Line) (attr : CreateAttr) (shape : Shape) (returned : Result Stage ScriptRefusal) → lines ≡ line ∷ rest → at_line line map_line ≡ Ok attr
    → creation attr ≡ Ok shape → ReadsOn (λ end more. body_of form version attr shape end (rest ++ more)) returned → ReadsOn (λ end more. map_of form version end (lines ++ more)) returned
map_next form version lines rest line attr shape returned first is creates on =
    reads_as (λ end more. map_of form version end (lines ++ more)) (λ end more. body_of form version attr shape end (rest ++ more)) returned
    (map_read form version lines rest line attr (Ok shape) first is creates) on

-- ---- what stands behind it

pub body_calls : (head : Head) (lines : List Line) (returned : Result Stage ScriptRefusal)
    → ReadsOn (λ end more. read_on (stages.Calls (script_of head.version head.attr head.shape [] [] None)) end (lines ++ more)) returned
    → ReadsOn (λ end more. body_of forms.Calls head.version head.attr head.shape end (lines ++ more)) returned
unfolding body_of
body_calls head lines returned on = on

pub body_spec : (head : Head) (lines : List Line) (returned : Result Stage ScriptRefusal)
    → ReadsOn (λ end more. read_on (stages.Map head) end (lines ++ more)) returned
    → ReadsOn (λ end more. body_of forms.Generator head.version head.attr head.shape end (lines ++ more)) returned
unfolding body_of
body_spec head lines returned on = on

-- ---- calls

body_more : (version : ℕ) (shape : Shape) (body : Body) (lines more : List Line) → body_from version shape body (lines ++ more) ≡ (body_from version shape body lines >>= λ body. body_from version shape body more)
body_more version shape body [] more = refl
body_more version shape body (line ∷ lines) more = go (λ next. body_more version shape (with_next body next) lines more) (at_line line (line_behind version shape body))
  where
    go : ((next : BodyLine) → body_from version shape (with_next body next) (lines ++ more) ≡ (body_from version shape (with_next body next) lines >>= λ body. body_from version shape body more))
        → (read : Result BodyLine ScriptRefusal)
        → (read >>= λ next. body_from version shape (with_next body next) (lines ++ more)) ≡ ((read >>= λ next. body_from version shape (with_next body next) lines) >>= λ body. body_from version shape body more)
    go again (Ok next) = again next
    go again (Err refusal) = refl

calls_more : (script : Script) (lines more : List Line) → calls_of script (lines ++ more) ≡ (calls_of script lines >>= λ script. calls_of script more)
calls_more script lines more =
    ap (λ (r : Result Body ScriptRefusal). r >>= λ body. Ok (script_of script.version script.attr script.shape body.calls body.cuts None))
    (body_more script.version script.shape (body_with script.calls script.cuts) lines more)
    ∙ go (body_from script.version script.shape (body_with script.calls script.cuts) lines)
  where
    go : (read : Result Body ScriptRefusal)
        → ((read >>= λ body. body_from script.version script.shape body more) >>= λ body. Ok (script_of script.version script.attr script.shape body.calls body.cuts None))
        ≡ ((read >>= λ body. Ok (script_of script.version script.attr script.shape body.calls body.cuts None)) >>= λ script. calls_of script more)
    go (Ok body) = refl
    go (Err refusal) = refl

pub calls_next : (script read : Script) (lines : List Line) → calls_of script lines ≡ Ok read → ReadsOn (λ end more. read_on (stages.Calls script) end (lines ++ more)) (Ok (stages.Calls read))
calls_next script read lines is = λ end more. calls_more script lines more ∙ ap (λ (r : Result Script ScriptRefusal). r >>= λ script. calls_of script more) is

pub calls_refused : (script : Script) (lines : List Line) (refusal : ScriptRefusal) → IsReading (Err refusal) (calls_of script lines) → ReadsOn (λ end more. read_on (stages.Calls script) end (lines ++ more)) (Err refusal)
calls_refused script lines (Fault line cause) is = λ end more. calls_more script lines more ∙ ap (λ (r : Result Script ScriptRefusal). r >>= λ script. calls_of script more) is
calls_refused script lines (Create refusal) is = λ end more. calls_more script lines more ∙ ap (λ (r : Result Script ScriptRefusal). r >>= λ script. calls_of script more) is
calls_refused script lines NoMemory is = tt

-- ---- the generator line

-- a line where none may stand says the same of a spec and of the script
no_spec : (number : ℕ) (says : Result Tokens Cause) (head : Head)
    → (or_fault {A = GenSpec} number (says >>= λ (tokens : Tokens). Err Gen) >>= λ spec. Ok (spec_script head spec)) ≡ or_fault {A = Script} number (says >>= λ (tokens : Tokens). Err Gen)
no_spec number (Ok tokens) head = refl
no_spec number (Err cause) head = refl

spec_read : (head : Head) (line : Line) (spec : GenSpec) (rest : List Line) → at_line line (gen_line head.shape) ≡ Ok spec
    → (end : ℕ) → read_on (stages.Map head) end (line ∷ rest) ≡ read_on (stages.Whole (spec_script head spec)) end rest
spec_read head line spec [] is end = ap (λ (r : Result GenSpec ScriptRefusal). r >>= λ spec. Ok (spec_script head spec)) is
spec_read head line spec (next ∷ rest) is end =
    ap (λ (r : Result GenSpec ScriptRefusal). (r >>= λ spec. at_line next (λ tokens. Err Gen)) >>= λ spec. Ok (spec_script head spec)) is
    ∙ no_spec next.number (tokens_said next.says) head

pub spec_next : (head : Head) (lines rest : List Line) (line : Line) (spec : GenSpec) (returned : Result Stage ScriptRefusal) → lines ≡ line ∷ rest → at_line line (gen_line head.shape) ≡ Ok spec
    → ReadsOn (λ end more. read_on (stages.Whole (spec_script head spec)) end (rest ++ more)) returned → ReadsOn (λ end more. read_on (stages.Map head) end (lines ++ more)) returned
spec_next head lines rest line spec returned first is on =
    reads_as (λ end more. read_on (stages.Map head) end (lines ++ more)) (λ end more. read_on (stages.Whole (spec_script head spec)) end (rest ++ more)) returned (λ end more.
    ap (λ (l : List Line). read_on (stages.Map head) end (l ++ more)) first ∙ spec_read head line spec (rest ++ more) is end) on

spec_stops : (head : Head) (line : Line) (refusal : ScriptRefusal) (rest : List Line) → at_line line (gen_line head.shape) ≡ Err refusal → (end : ℕ) → read_on (stages.Map head) end (line ∷ rest) ≡ Err refusal
spec_stops head line refusal [] is end = ap (λ (r : Result GenSpec ScriptRefusal). r >>= λ spec. Ok (spec_script head spec)) is
spec_stops head line refusal (next ∷ rest) is end =
    ap (λ (r : Result GenSpec ScriptRefusal). (r >>= λ spec. at_line next (λ tokens. Err Gen)) >>= λ spec. Ok (spec_script head spec)) is

pub spec_fault : (head : Head) (lines rest : List Line) (line : Line) (refusal : ScriptRefusal) → lines ≡ line ∷ rest → at_line line (gen_line head.shape) ≡ Err refusal
    → ReadsOn (λ end more. read_on (stages.Map head) end (lines ++ more)) (Err refusal)
spec_fault head lines rest line refusal first is =
    refused (λ end more. read_on (stages.Map head) end (lines ++ more)) refusal (λ end more.
    ap (λ (l : List Line). read_on (stages.Map head) end (l ++ more)) first ∙ spec_stops head line refusal (rest ++ more) is end)

-- ---- a line where none may stand

pub nothing_more : (script : Script) (lines rest : List Line) (line : Line) (refusal : ScriptRefusal) → lines ≡ line ∷ rest → at_line {A = Script} line (λ tokens. Err Gen) ≡ Err refusal
    → ReadsOn (λ end more. read_on (stages.Whole script) end (lines ++ more)) (Err refusal)
nothing_more script lines rest line refusal first is =
    refused (λ end more. read_on (stages.Whole script) end (lines ++ more)) refusal (λ end more.
    ap (λ (l : List Line). read_on (stages.Whole script) end (l ++ more)) first ∙ is)

-- ---- the target line

target_is : (version : ℕ) (attr : CreateAttr) (shape : Shape) (end : ℕ) (lines : List Line) → target_of version attr shape end lines ≡ target_on (script_of version attr shape [] [] None) end lines
unfolding target_of
target_is version attr shape end [] = refl
target_is version attr shape end (line ∷ lines) = refl

pub body_target : (head : Head) (lines : List Line) (returned : Result Stage ScriptRefusal)
    → ReadsOn (λ end more. read_on (stages.Target (script_of head.version head.attr head.shape [] [] None)) end (lines ++ more)) returned
    → ReadsOn (λ end more. body_of forms.Copy head.version head.attr head.shape end (lines ++ more)) returned
unfolding body_of
body_target head lines returned on =
    reads_as (λ end more. body_of forms.Copy head.version head.attr head.shape end (lines ++ more)) (λ end more. read_on (stages.Target (script_of head.version head.attr head.shape [] [] None)) end (lines ++ more)) returned
    (λ end more. target_is head.version head.attr head.shape end (lines ++ more)) on

pub target_fault : (script : Script) (lines rest : List Line) (line : Line) (refusal : ScriptRefusal) → lines ≡ line ∷ rest → at_line line (target_line script.attr) ≡ Err refusal
    → ReadsOn (λ end more. read_on (stages.Target script) end (lines ++ more)) (Err refusal)
target_fault script lines rest line refusal first is =
    refused (λ end more. read_on (stages.Target script) end (lines ++ more)) refusal (λ end more.
    ap (λ (l : List Line). target_on script end (l ++ more)) first
    ∙ ap (λ (r : Result (CreateAttr × ℕ) ScriptRefusal). r >>= λ asked. or_create (creation asked.0) >>= λ made. copied_of script (target_with asked.0 made asked.1) (rest ++ more)) is)

-- what stands behind a target line that is read
target_reads : (script : Script) (lines rest : List Line) (line : Line) (asked : CreateAttr × ℕ) (made : Result Shape CreateRefusal) → lines ≡ line ∷ rest → at_line line (target_line script.attr) ≡ Ok asked → creation asked.0 ≡ made
    → (end : ℕ) (more : List Line) → read_on (stages.Target script) end (lines ++ more) ≡ (or_create made >>= λ made. copied_of script (target_with asked.0 made asked.1) (rest ++ more))
target_reads script lines rest line asked made first is creates end more =
    ap (λ (l : List Line). target_on script end (l ++ more)) first
    ∙ ap (λ (r : Result (CreateAttr × ℕ) ScriptRefusal). r >>= λ asked. or_create (creation asked.0) >>= λ made. copied_of script (target_with asked.0 made asked.1) (rest ++ more)) is
    ∙ ap (λ (r : Result Shape CreateRefusal). or_create r >>= λ made. copied_of script (target_with asked.0 made asked.1) (rest ++ more)) creates

pub target_refused : (script : Script) (lines rest : List Line) (line : Line) (asked : CreateAttr × ℕ) (why : CreateRefusal) (refusal : ScriptRefusal) → lines ≡ line ∷ rest → at_line line (target_line script.attr) ≡ Ok asked
    → creation asked.0 ≡ Err why → refusal ≡ Create why → ReadsOn (λ end more. read_on (stages.Target script) end (lines ++ more)) (Err refusal)
target_refused script lines rest line asked why refusal first is creates gives =
    refused (λ end more. read_on (stages.Target script) end (lines ++ more)) refusal (λ end more.
    target_reads script lines rest line asked (Err why) first is creates end more ∙ ap Err (sym gives))

abbrev pub copying : Script → Target → Option ℕ → Copying
copying script target held = record { read = script; target = target; held = held }

pub target_next : (script : Script) (lines rest : List Line) (line : Line) (asked : CreateAttr × ℕ) (shape : Shape) (returned : Result Stage ScriptRefusal) → lines ≡ line ∷ rest → at_line line (target_line script.attr) ≡ Ok asked
    → creation asked.0 ≡ Ok shape → ReadsOn (λ end more. read_on (stages.Copy (copying script (target_with asked.0 shape asked.1) None)) end (rest ++ more)) returned
    → ReadsOn (λ end more. read_on (stages.Target script) end (lines ++ more)) returned
target_next script lines rest line asked shape returned first is creates on =
    reads_as (λ end more. read_on (stages.Target script) end (lines ++ more)) (λ end more. read_on (stages.Copy (copying script (target_with asked.0 shape asked.1) None)) end (rest ++ more)) returned
    (target_reads script lines rest line asked (Ok shape) first is creates) on

-- ---- calls of a map that is copied

-- one step behind lines before which a call may be held back
held_then : {A B : Type 0} (held : Option ℕ) (lines : List Line) (read : Result A ScriptRefusal) (next : A → Result B ScriptRefusal) → unless_held held lines (read >>= next) ≡ (unless_held held lines read >>= next)
held_then None lines read next = refl
held_then {A} {B} (Some number) lines read next = go (phase_begins lines)
  where
    go : (begins : Bool) → cond begins (read >>= next) (Err (Fault number Copier)) ≡ (cond begins read (Err (Fault number Copier)) >>= next)
    go true = refl
    go false = refl

-- the script of what was read
abbrev copied_script : Script → Target → Body → Result Script ScriptRefusal
copied_script script target body = Ok (copy_of script.version script.attr script.shape body.calls body.cuts target)

copy_reads : (script : Script) (target : Target) (held : Option ℕ) (end : ℕ) (lines : List Line)
    → read_on (stages.Copy (copying script target held)) end lines ≡ (copied_behind script.version script.shape held (body_with script.calls script.cuts) lines >>= copied_script script target)
copy_reads script target held end lines = held_then held lines (copied_from script.version script.shape (body_with script.calls script.cuts) lines) (copied_script script target)

pub copy_next : (head : Head) (before after : Body) (target : Target) (held now : Option ℕ) (lines : List Line)
    → ((more : List Line) → copied_behind head.version head.shape held before (lines ++ more) ≡ copied_behind head.version head.shape now after more)
    → ReadsOn (λ end more. read_on (stages.Copy (copying (script_of head.version head.attr head.shape before.calls before.cuts None) target held)) end (lines ++ more))
    (Ok (stages.Copy (copying (script_of head.version head.attr head.shape after.calls after.cuts None) target now)))
copy_next head before after target held now lines same = λ end more.
    let first = script_of head.version head.attr head.shape before.calls before.cuts None in
    let second = script_of head.version head.attr head.shape after.calls after.cuts None in
    copy_reads first target held end (lines ++ more)
    ∙ ap (λ (r : Result Body ScriptRefusal). r >>= copied_script first target) (same more)
    ∙ sym (copy_reads second target now end more)

pub copy_stops : (head : Head) (before found : Body) (target : Target) (held : Option ℕ) (lines rest : List Line) (refusal : ScriptRefusal)
    → ReadsCopied head.version head.shape (λ more. copied_behind head.version head.shape held before (lines ++ more)) found rest (Err (Refused refusal))
    → ReadsOn (λ end more. read_on (stages.Copy (copying (script_of head.version head.attr head.shape before.calls before.cuts None) target held)) end (lines ++ more)) (Err refusal)
copy_stops head before found target held lines rest (Fault line cause) is = λ end more.
    copy_reads (script_of head.version head.attr head.shape before.calls before.cuts None) target held end (lines ++ more)
    ∙ ap (λ (r : Result Body ScriptRefusal). r >>= copied_script (script_of head.version head.attr head.shape before.calls before.cuts None) target) (is more)
copy_stops head before found target held lines rest (Create why) is = λ end more.
    copy_reads (script_of head.version head.attr head.shape before.calls before.cuts None) target held end (lines ++ more)
    ∙ ap (λ (r : Result Body ScriptRefusal). r >>= copied_script (script_of head.version head.attr head.shape before.calls before.cuts None) target) (is more)
copy_stops head before found target held lines rest NoMemory is = tt

pub copy_either : (head : Head) (before found : Body) (target : Target) (held : Option ℕ) (lines rest : List Line) (fault : EitherFault) (returned : Result Stage ScriptRefusal)
    → ReadsCopied head.version head.shape (λ more. copied_behind head.version head.shape held before (lines ++ more)) found rest (Err (Either fault))
    → ReadsOn (λ end more. read_on (stages.Either fault) end (rest ++ more)) returned
    → ReadsOn (λ end more. read_on (stages.Copy (copying (script_of head.version head.attr head.shape before.calls before.cuts None) target held)) end (lines ++ more)) returned
copy_either head before found target held lines rest fault returned is on =
    let script = script_of head.version head.attr head.shape before.calls before.cuts None in
    reads_as (λ end more. read_on (stages.Copy (copying script target held)) end (lines ++ more)) (λ end more. read_on (stages.Either fault) end (rest ++ more)) returned (λ end more.
    copy_reads script target held end (lines ++ more)
    ∙ ap (λ (r : Result Body ScriptRefusal). r >>= copied_script script target) (is more)
    ∙ sym (held_then {A = Body} (Some fault.copier) (rest ++ more) (Err (Fault fault.line fault.cause)) (copied_script script target))) on

-- ---- either of two faults

pub either_begins : (fault : EitherFault) (lines : List Line) → phase_begins lines ≡ true → ReadsOn (λ end more. read_on (stages.Either fault) end (lines ++ more)) (Err (Fault fault.line fault.cause))
either_begins fault lines begins = λ end more.
    ap (λ (b : Bool). cond b (Err (Fault fault.line fault.cause)) (Err (Fault fault.copier Copier))) (list_any-append begins_phase lines more ∙ ap (λ (b : Bool). b || phase_begins more) begins)

pub either_stays : (fault : EitherFault) (lines : List Line) → phase_begins lines ≡ false → ReadsOn (λ end more. read_on (stages.Either fault) end (lines ++ more)) (Ok (stages.Either fault))
either_stays fault lines none = λ end more.
    ap (λ (b : Bool). cond b (Err (Fault fault.line fault.cause)) (Err (Fault fault.copier Copier))) (list_any-append begins_phase lines more ∙ ap (λ (b : Bool). b || phase_begins more) none)
