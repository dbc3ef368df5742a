-- What lines of form Copy say is what lines of form Calls say, with no call of CPU 0 in the last phase.
use Rattle.std.proofs.Common.{◌≡◌, ◌≢◌, ℕ, ◌≤◌, ◌==◌, ◌&&◌, ◌||◌, not, Bool, true, false, true≢false, cond, List, [], ◌∷◌, ◌++◌, length, drop, Result, Ok, Err, refl, sym, ap, subst, ◌∙◌, append_assoc, append-nil, length-append, arith}
use Rattle.std.proofs.Math.Seq.{drop-append_seam}
use Rattle.std.proofs.lemmas.Bool.{eqb-false, ne_eqb}
use Rattle.std.proofs.lemmas.List.{drop_all, drop-append-le}
use Rattle.std.proofs.lemmas.List.Elements.{All-nil, All-cons, All-head, All-append, All-drop}
use Rattle.map_types.specs.declared.attr.Shape.{Shape}
use Rattle.map_types.specs.declared.call.Call.{Call}
use Rattle.map_script.specs.declared.body.Body.{Body}
use Rattle.map_script.specs.declared.body.BodyLine.{BodyLine}
use Rattle.map_script.specs.declared.body.BodyLine.TheVariants as says
use Rattle.map_script.specs.declared.refusal.Cause.{Cause}
use Rattle.map_script.specs.declared.refusal.Cause.TheVariants.{Copier}
use Rattle.map_script.specs.Lines.{Line, tokens_said}
use Rattle.map_script.specs.Places.{◌>>=◌}
use Rattle.map_script.specs.Reading.{of_line, at_line, or_fault, line_behind, no_body, with_next, body_from, begins_phase, phase_begins, unless_copier, copied_from}
use Rattle.map_script.specs.WellFormed.{last_from, last_calls, AreOfOthers}
use Rattle.map_script.proofs.CopyLemmas.{starts, regroup, line_begins, copied_next}
use Rattle.map_script.proofs.PlaceLemmas.{step_found, at_found, same_ok}

-- ---- a line

-- a line that is no fault says the same in both forms
abbrev Says : ℕ → Shape → Body → Line → List Line → BodyLine → Type 0
Says version shape body line lines next =
    (of_line line (line_behind version shape body) ≡ Ok next) × (unless_copier lines next ≡ Ok next)

said_same : (lines : List Line) (said next : BodyLine) → unless_copier lines said ≡ Ok next → said ≡ next
said_same lines says.Phase next is = cc
said_same lines (says.Call call) next is = go (call.cpu == 0 && not (phase_begins lines)) is
  where
    go : (own : Bool) → cond own (Err Copier) (Ok (says.Call call)) ≡ Ok next → says.Call call ≡ next
    go true is = absurd cc
    go false is = cc

says_next : (version : ℕ) (shape : Shape) (body : Body) (line : Line) (lines : List Line) (next : BodyLine)
    → at_line line (λ tokens. line_behind version shape body tokens >>= unless_copier lines) ≡ Ok next → Says version shape body line lines next
says_next version shape body line lines next read =
    let whole = at_found line.number (of_line line (λ tokens. line_behind version shape body tokens >>= unless_copier lines)) next read in
    let made = step_found (of_line line (line_behind version shape body)) (unless_copier lines) next (sym (regroup (tokens_said line.says) (line_behind version shape body) (unless_copier lines)) ∙ whole) in
    let same : made.0 ≡ next = said_same lines made.0 next made.2 in
    (made.1 ∙ ap Ok same, subst (λ (said : BodyLine). unless_copier lines said ≡ Ok next) same made.2)

body_next : (version : ℕ) (shape : Shape) (body : Body) (line : Line) (lines : List Line) (next : BodyLine) → of_line line (line_behind version shape body) ≡ Ok next
    → body_from version shape body (line ∷ lines) ≡ body_from version shape (with_next body next) lines
body_next version shape body line lines next read =
    ap (λ (r : Result BodyLine Cause). or_fault line.number r >>= λ next. body_from version shape (with_next body next) lines) read

-- ---- lines

-- What holds of what was read and of the lines that are left, and behind one line more holds still, holds at the end.
copied_hold : (version : ℕ) (shape : Shape) (P : Body → List Line → Type 0)
    → ((body : Body) (line : Line) (lines : List Line) (next : BodyLine) → P body (line ∷ lines) → Says version shape body line lines next → P (with_next body next) lines)
    → (body : Body) (lines : List Line) (found : Body) → P body lines → copied_from version shape body lines ≡ Ok found → P found []
copied_hold version shape P more body [] found holds read =
    subst (λ (body : Body). P body []) (same_ok (copied_from version shape body []) body found refl read) holds
copied_hold version shape P more body (line ∷ lines) found holds read =
    let next = step_found (at_line line (λ tokens. line_behind version shape body tokens >>= unless_copier lines)) (λ next. copied_from version shape (with_next body next) lines) found read in
    copied_hold version shape P more (with_next body next.0) lines found (more body line lines next.0 holds (says_next version shape body line lines next.0 next.1)) next.2

-- they say the same in form Calls
pub plain_read : (version : ℕ) (shape : Shape) (body : Body) (lines : List Line) (found : Body) → copied_from version shape body lines ≡ Ok found → body_from version shape body lines ≡ Ok found
plain_read version shape body lines found read =
    copied_hold version shape (λ (now : Body) (rest : List Line). body_from version shape body lines ≡ body_from version shape now rest)
    (λ now line rest next same said. same ∙ body_next version shape now line rest next said.0)
    body lines found refl read

-- ---- the last phase

last_more : (before cut : ℕ) (cuts : List ℕ) → last_from before (cuts ++ cut ∷ []) ≡ cut
last_more before cut [] = refl
last_more before cut (first ∷ cuts) = last_more first cut cuts

-- calls of the last phase, and of no further one
abbrev pub IsLastBefore : Body → Type 0
IsLastBefore body = last_from 0 body.cuts ≤ length body.calls

last_before : (body : Body) (next : BodyLine) → IsLastBefore body → IsLastBefore (with_next body next)
last_before body (says.Call call) within = omega (arith, within, length-append body.calls (call ∷ []))
last_before body says.Phase within = omega (arith, last_more 0 (length body.calls) body.cuts)

-- a call that may stand in the last phase is of another CPU
of_another : (call : Call) (lines : List Line) → unless_copier lines (says.Call call) ≡ Ok (says.Call call) → phase_begins lines ≡ false → call.cpu ≢ 0
of_another call lines may none = eqb-false call.cpu 0 (by (call.cpu == 0) refl)
  where
    by : (own : Bool) → (call.cpu == 0) ≡ own → own ≡ false
    by false is = refl
    by true is =
        let fault : unless_copier lines (says.Call call) ≡ Err Copier = ap (λ (own : Bool). cond (own && not (phase_begins lines)) (Err Copier) (Ok (says.Call call))) is ∙ ap (λ (begins : Bool). cond (not begins) (Err Copier) (Ok (says.Call call))) none in
        let wrong : Err Copier ≡ Ok (says.Call call) = sym fault ∙ may in
        absurd cc

-- Where no phase begins behind, the calls since the last phase began are of other CPUs.
abbrev IsFreeSoFar : Body → List Line → Type 0
IsFreeSoFar body lines = IsLastBefore body × (phase_begins lines ≡ false → AreOfOthers (last_calls body.cuts body.calls))

free_more : (version : ℕ) (shape : Shape) (body : Body) (line : Line) (lines : List Line) (next : BodyLine) → IsFreeSoFar body (line ∷ lines) → Says version shape body line lines next → IsFreeSoFar (with_next body next) lines
free_more version shape body line lines (says.Call call) so_far said = (
  last_before body (says.Call call) so_far.0,
  λ none.
      let still : phase_begins (line ∷ lines) ≡ false = ap (λ (begins : Bool). begins || phase_begins lines) (line_begins version shape body line (says.Call call) said.0) ∙ none in
      subst AreOfOthers (sym (drop-append-le (last_from 0 body.cuts) body.calls (call ∷ []) so_far.0))
      (All-append (λ (call : Call). call.cpu ≢ 0) (last_calls body.cuts body.calls) (call ∷ []) (so_far.1 still)
      (All-cons (λ (call : Call). call.cpu ≢ 0) call [] (of_another call lines said.1 none) (All-nil (λ (call : Call). call.cpu ≢ 0)))),
)
free_more version shape body line lines says.Phase so_far said = (
  last_before body says.Phase so_far.0,
  λ none.
      let nothing : last_calls (body.cuts ++ length body.calls ∷ []) body.calls ≡ [] =
      ap (λ (n : ℕ). drop n body.calls) (last_more 0 (length body.calls) body.cuts) ∙ drop_all (length body.calls) body.calls (omega arith) in
      subst AreOfOthers (sym nothing) (All-nil (λ (call : Call). call.cpu ≢ 0)),
)

-- CPU 0 has no call in the last phase
pub copied_free : (version : ℕ) (shape : Shape) (lines : List Line) (found : Body) → copied_from version shape no_body lines ≡ Ok found → AreOfOthers (last_calls found.cuts found.calls)
copied_free version shape lines found read =
    (copied_hold version shape IsFreeSoFar (λ body line lines next so_far said. free_more version shape body line lines next so_far said) no_body lines found
    (omega arith, λ none. All-nil (λ (call : Call). call.cpu ≢ 0)) read).1 refl

-- ---- the converse

-- lines none of which begins a phase say calls alone
record HasMore (body found : Body) : Type 0 where
  more : List Call
  calls : found.calls ≡ body.calls ++ more
  cuts : found.cuts ≡ body.cuts

others_false : (first others : Bool) → (first || others) ≡ false → (first ≡ false) × (others ≡ false)
others_false true others is = absurd cc
others_false false others is = (refl, is)

line_before : (body found : Body) (line : Line) (next : BodyLine) → begins_phase line ≡ starts next → begins_phase line ≡ false → HasMore (with_next body next) found → HasMore body found
line_before body found line (says.Call call) begins none has =
    record { more = call ∷ has.more; calls = has.calls ∙ append_assoc body.calls (call ∷ []) has.more; cuts = has.cuts }
line_before body found line says.Phase begins none has = absurd (true≢false (sym begins ∙ none))

one_phase : (version : ℕ) (shape : Shape) (body : Body) (lines : List Line) (found : Body) → body_from version shape body lines ≡ Ok found → phase_begins lines ≡ false → HasMore body found
one_phase version shape body [] found read none =
    let same : body ≡ found = same_ok (body_from version shape body []) body found refl read in
    subst (HasMore body) same record { more = []; calls = sym (append-nil body.calls); cuts = refl }
one_phase version shape body (line ∷ lines) found read none =
    let next = step_found (at_line line (line_behind version shape body)) (λ next. body_from version shape (with_next body next) lines) found read in
    let said = at_found line.number (of_line line (line_behind version shape body)) next.0 next.1 in
    let both = others_false (begins_phase line) (phase_begins lines) none in
    line_before body found line next.0 (line_begins version shape body line next.0 said) both.0 (one_phase version shape (with_next body next.0) lines found next.2 both.1)

-- a call of the last phase is among the last calls
is_last : (body found : Body) (call : Call) → IsLastBefore body → HasMore (with_next body (says.Call call)) found → AreOfOthers (last_calls found.cuts found.calls) → call.cpu ≢ 0
is_last body found call within has others =
    let last = last_from 0 body.cuts in
    let before = drop last body.calls in
    let calls_are : last_calls found.cuts found.calls ≡ before ++ call ∷ has.more =
    ap (λ (cuts : List ℕ). last_calls cuts found.calls) has.cuts
    ∙ ap (λ (calls : List Call). drop last calls) (has.calls ∙ append_assoc body.calls (call ∷ []) has.more)
    ∙ drop-append-le last body.calls (call ∷ has.more) within in
    let behind = All-drop (λ (call : Call). call.cpu ≢ 0) (length before) (before ++ call ∷ has.more) (subst AreOfOthers calls_are others) in
    All-head (λ (call : Call). call.cpu ≢ 0) call has.more (subst AreOfOthers (drop-append_seam before (call ∷ has.more)) behind)

-- so that it may stand where it does
may_stand : (version : ℕ) (shape : Shape) (body : Body) (lines : List Line) (found : Body) (next : BodyLine) → IsLastBefore body → body_from version shape (with_next body next) lines ≡ Ok found
    → AreOfOthers (last_calls found.cuts found.calls) → unless_copier lines next ≡ Ok next
may_stand version shape body lines found says.Phase within read others = refl
may_stand version shape body lines found (says.Call call) within read others = go (phase_begins lines) refl
  where
    another : phase_begins lines ≡ false → (call.cpu == 0) ≡ false
    another none =
        ne_eqb call.cpu 0 (is_last body found call within (one_phase version shape (with_next body (says.Call call)) lines found read none) others)

    with_phase : (own : Bool) → cond (own && not true) (Err Copier) (Ok (says.Call call)) ≡ Ok (says.Call call)
    with_phase true = refl
    with_phase false = refl

    go : (begins : Bool) → phase_begins lines ≡ begins → unless_copier lines (says.Call call) ≡ Ok (says.Call call)
    go true begins =
        ap (λ (b : Bool). cond (call.cpu == 0 && not b) (Err Copier) (Ok (says.Call call))) begins ∙ with_phase (call.cpu == 0)
    go false none =
        ap (λ (own : Bool). cond (own && not (phase_begins lines)) (Err Copier) (Ok (says.Call call))) (another none)

-- Where form Calls reads lines so that CPU 0 has no call in the last phase, form Copy reads the same.
pub copied_read : (version : ℕ) (shape : Shape) (body : Body) (lines : List Line) (found : Body) → IsLastBefore body → body_from version shape body lines ≡ Ok found
    → AreOfOthers (last_calls found.cuts found.calls) → copied_from version shape body lines ≡ Ok found
copied_read version shape body [] found within read others = read
copied_read version shape body (line ∷ lines) found within read others =
    let next = step_found (at_line line (line_behind version shape body)) (λ next. body_from version shape (with_next body next) lines) found read in
    let said = at_found line.number (of_line line (line_behind version shape body)) next.0 next.1 in
    copied_next version shape body line lines (Ok next.0) said
    ∙ ap (λ (r : Result BodyLine Cause). or_fault line.number r >>= λ next. copied_from version shape (with_next body next) lines) (may_stand version shape body lines found next.0 within next.2 others)
    ∙ copied_read version shape (with_next body next.0) lines found (last_before body next.0 within) next.2 others
