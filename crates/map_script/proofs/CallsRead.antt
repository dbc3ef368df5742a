-- What holds of each call that is read from a line holds of all calls that the lines say.
use Rattle.std.proofs.Common.{◌≡◌, ℕ, List, [], ◌∷◌, Ok, All}
use Rattle.std.specs.List.{AllByRecursion}
use Rattle.std.proofs.lemmas.List.Elements.{All-nil, All-cons, All-append}
use Rattle.map_types.specs.declared.attr.Shape.{Shape}
use Rattle.map_types.specs.declared.call.Call.{Call}
use Rattle.map_script.specs.declared.body.Body.{Body}
use Rattle.map_script.specs.declared.body.BodyLine.{BodyLine}
use Rattle.map_script.specs.declared.body.BodyLine.TheVariants as says
use Rattle.map_script.specs.Grammar.{call_line}
use Rattle.map_script.specs.Lines.{Line, tokens_said}
use Rattle.map_script.specs.Places.{Tokens}
use Rattle.map_script.specs.Reading.{no_body, with_next, body_from}
use Rattle.map_script.proofs.BodyLines.{Tells, lines_hold}

-- a line more
line_more : (version : ℕ) (shape : Shape) (P : Call → Type 0) (body : Body) (tokens : Tokens) (next : BodyLine) → All P body.calls
    → ((call : Call) → call_line version shape tokens ≡ Ok call → P call) → Tells version shape body tokens next → All P (with_next body next).calls
line_more version shape P body tokens (says.Call call) all here told =
    All-append P body.calls (call ∷ []) all (All-cons P call [] (here call told.read) (All-nil P))
line_more version shape P body tokens says.Phase all here told = all

-- where something is known of each line
pub calls_hold : (version : ℕ) (shape : Shape) (P : Call → Type 0) (Q : Line → Type 0)
    → ((line : Line) (tokens : Tokens) (call : Call) → Q line → tokens_said line.says ≡ Ok tokens → call_line version shape tokens ≡ Ok call → P call)
    → (lines : List Line) (body : Body) → AllByRecursion Q lines → body_from version shape no_body lines ≡ Ok body → All P body.calls
calls_hold version shape P Q here lines body known read =
    (lines_hold version shape (λ (body : Body) (lines : List Line). All P body.calls × AllByRecursion Q lines)
    (λ body line lines tokens next held said told. (line_more version shape P body tokens next held.0 (λ call read. here line tokens call held.1.0 said read) told, held.1.1))
    no_body lines body (All-nil P, known) read).0
