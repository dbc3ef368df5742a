-- Reading one line behind the map line after another.
use Rattle.std.proofs.Common.{◌≡◌, ℕ, ◌+◌, ◌<◌, ◌≤◌, ◌==◌, ◌&&◌, Bool, true, false, nat_lt, cond, List, [], ◌∷◌, ◌++◌, length, Option, Some, Result, Ok, Err, refl, sym, ap, subst, ◌∙◌, length-append, arith}
use Rattle.std.specs.Prelude.{bytes_eq, codes}
use Rattle.std.proofs.Math.Bool.{and-false}
use Rattle.std.proofs.lemmas.Bool.{and_parts, eqb-true, ltb-true}
use Rattle.std.proofs.lemmas.List.Sums.{sum_by-append}
use Rattle.std.proofs.lemmas.Slice.Eq.{bytes_eq-Decides}
use Rattle.map_types.specs.declared.attr.Shape.{Shape}
use Rattle.map_types.specs.declared.call.Call.{Call}
use Rattle.map_script.specs.declared.body.Body.{Body}
use Rattle.map_script.specs.declared.body.BodyLine.{BodyLine}
use Rattle.map_script.specs.declared.body.BodyLine.TheVariants as says
use Rattle.map_script.specs.declared.refusal.Cause.{Cause}
use Rattle.map_script.specs.declared.refusal.Cause.TheVariants.{Phases}
use Rattle.map_script.specs.declared.refusal.ScriptRefusal.{ScriptRefusal}
use Rattle.map_script.specs.Grammar.{call_line, starts_phase, phase_line, reply_bytes, reply_room}
use Rattle.map_script.specs.Lines.{Line, tokens_said}
use Rattle.map_script.specs.Places.{◌>>=◌, Tokens, is_next}
use Rattle.map_script.specs.Plain.{saying, FirstIs, FirstAt, IsNext}
use Rattle.map_script.specs.Reading.{of_line, at_line, or_fault, call_within, phase_within, body_line, line_behind, with_next, body_from}
use Rattle.map_script.proofs.CallLines.{IsWithin, within_has}
use Rattle.map_script.proofs.PlaceLemmas.{step_found, chosen, same_ok, at_found}

-- ---- a line that is a call

no_number : (version : ℕ) (shape : Shape) (rest : Tokens) (call : Call) → call_line version shape (codes "phase" ∷ rest) ≡ Ok call → ⊥
unfolding call_line
no_number version shape rest call read = cc

-- a call line starts no phase
pub no_phase : (version : ℕ) (shape : Shape) (tokens : Tokens) (call : Call) → call_line version shape tokens ≡ Ok call → is_next (codes "phase") tokens ≡ false
no_phase version shape [] call read = refl
no_phase version shape (first ∷ rest) call read = go (bytes_eq first (codes "phase")) refl
  where
    go : (same : Bool) → bytes_eq first (codes "phase") ≡ same → same ≡ false
    go false is = refl
    go true is =
        let first_is : first ≡ codes "phase" = (bytes_eq-Decides first (codes "phase")).0 is in
        absurd (no_number version shape rest call (subst (λ (word : List ℕ). call_line version shape (word ∷ rest) ≡ Ok call) first_is read))

-- a line that is a call within the limits says that call
pub call_said : (version : ℕ) (shape : Shape) (count room cuts : ℕ) (tokens : Tokens) (call : Call) → call_within version shape count room tokens ≡ Ok call → body_line version shape count room cuts tokens ≡ Ok (says.Call call)
call_said version shape count room cuts tokens call found =
    let none : starts_phase version tokens ≡ false = ap (λ (next : Bool). version == 2 && next) (no_phase version shape tokens call (within_has version shape count room tokens call found).read) ∙ and-false (version == 2) in
    rw (none, found) refl

-- the same, of the first of some lines
pub first_said : (version : ℕ) (shape : Shape) (count room cuts number : ℕ) (lines rest : List Line) (call : Call) → FirstAt number (call_within version shape count room) lines call rest
    → FirstIs (body_line version shape count room cuts) lines (says.Call call) rest
first_said version shape count room cuts number lines rest call found = record {
  line = saying number found.tokens;
  first = found.first;
  reads = call_said version shape count room cuts found.tokens call found.reads;
}

-- ---- what a line that is read tells

-- of its tokens, behind what was read before it
abbrev pub Tells : ℕ → Shape → Body → Tokens → BodyLine → Type 0
Tells version shape body tokens (says.Call call) =
    IsWithin version shape (length body.calls) (reply_room shape body.calls) tokens call
Tells version shape body tokens says.Phase = (version ≡ 2) × (length body.cuts < 63)

few_cuts : (cuts : ℕ) (tokens : Tokens) (started : Unit {0}) → phase_within cuts tokens ≡ Ok started → cuts < 63
few_cuts cuts tokens started read =
    let made = step_found (phase_line tokens) (λ begun. cond (nat_lt cuts 63) (Ok begun) (Err Phases)) started read in
    ltb-true cuts 63 (chosen (nat_lt cuts 63) (Ok made.0) Phases started made.2).0

tokens_tell : (version : ℕ) (shape : Shape) (body : Body) (tokens : Tokens) (next : BodyLine) → line_behind version shape body tokens ≡ Ok next → Tells version shape body tokens next
tokens_tell version shape body tokens next read = go (starts_phase version tokens) refl read
  where
    go : (starts : Bool) → starts_phase version tokens ≡ starts
        → cond starts (phase_within (length body.cuts) tokens >>= λ started. Ok says.Phase) (call_within version shape (length body.calls) (reply_room shape body.calls) tokens >>= λ call. Ok (says.Call call)) ≡ Ok next
        → Tells version shape body tokens next
    go true is read =
        let made = step_found (phase_within (length body.cuts) tokens) (λ started. Ok says.Phase) next read in
        let same : says.Phase ≡ next = cc (made.2) in
        let second = eqb-true version 2 (and_parts (version == 2) (is_next (codes "phase") tokens) is).0 in
        subst (Tells version shape body tokens) same (second, few_cuts (length body.cuts) tokens made.0 made.1)
    go false is read =
        let made = step_found (call_within version shape (length body.calls) (reply_room shape body.calls) tokens) (λ call. Ok (says.Call call)) next read in
        let same : says.Call made.0 ≡ next = cc (made.2) in
        subst (Tells version shape body tokens) same (within_has version shape (length body.calls) (reply_room shape body.calls) tokens made.0 made.1)

-- the same, of a line with its number
pub line_tells : (version : ℕ) (shape : Shape) (body : Body) (line : Line) (next : BodyLine) → of_line line (line_behind version shape body) ≡ Ok next
    → (tokens : Tokens) × (tokens_said line.says ≡ Ok tokens) × Tells version shape body tokens next
line_tells version shape body line next read =
    let made = step_found (tokens_said line.says) (line_behind version shape body) next read in
    (made.0, made.1, tokens_tell version shape body made.0 next made.2)

-- ---- a line more

pub reply_room_more : (shape : Shape) (calls : List Call) (call : Call) → reply_room shape (calls ++ call ∷ []) ≡ reply_room shape calls + reply_bytes shape call.verb
reply_room_more shape calls call =
    let reply = λ (call : Call). reply_bytes shape call.verb in
    omega (arith, sum_by-append reply calls (call ∷ []))

pub few_more : (version : ℕ) (shape : Shape) (body : Body) (tokens : Tokens) (next : BodyLine) → Tells version shape body tokens next
    → length body.calls ≤ 200000 → length (with_next body next).calls ≤ 200000
few_more version shape body tokens (says.Call call) told few = omega (arith, told.counted, length-append body.calls (call ∷ []))
few_more version shape body tokens says.Phase told few = few

pub room_more : (version : ℕ) (shape : Shape) (body : Body) (tokens : Tokens) (next : BodyLine) → Tells version shape body tokens next
    → reply_room shape body.calls ≤ 67108864 → reply_room shape (with_next body next).calls ≤ 67108864
room_more version shape body tokens (says.Call call) told fits = omega (arith, told.replied, reply_room_more shape body.calls call)
room_more version shape body tokens says.Phase told fits = fits

-- ---- the next line

-- that was found
pub next_found : {A : Type 0} (read : Tokens → Result A Cause) (lines rest : List Line) (returned : Result (Option A) ScriptRefusal) (found : Option A) (x : A)
    → IsNext read lines rest returned → returned ≡ Ok found → found ≡ Some x → FirstIs read lines x rest
next_found {A} read lines rest returned found x next is is_x =
    subst (λ (r : Result (Option A) ScriptRefusal). IsNext read lines rest r) (is ∙ ap Ok is_x) next

-- what it says, and then what the lines behind it say
pub body_next : (version : ℕ) (shape : Shape) (body : Body) (lines rest : List Line) (next : BodyLine) → FirstIs (line_behind version shape body) lines next rest
    → body_from version shape body lines ≡ body_from version shape (with_next body next) rest
body_next version shape body lines rest next found =
    ap (body_from version shape body) found.first
    ∙ ap (λ (read : Result BodyLine Cause). or_fault found.line.number read >>= λ next. body_from version shape (with_next body next) rest) found.reads

-- ---- a loop over the lines

-- What was read so far, with that of the lines that are left, is what all lines say, and it is within the limits.
pub record SoFar (version : ℕ) (shape : Shape) (whole : Result Body ScriptRefusal) (body : Body) (room : ℕ) (lines : List Line) : Type 0 where
  pub all : body_from version shape body lines ≡ whole
  pub replies : room ≡ reply_room shape body.calls
  pub fits : room ≤ 67108864
  pub few : length body.calls ≤ 200000

-- the next line, as it is read behind what was read so far
first_behind : (version : ℕ) (shape : Shape) (body : Body) (count room cuts : ℕ) (lines rest : List Line) (next : BodyLine)
    → count ≡ length body.calls → room ≡ reply_room shape body.calls → cuts ≡ length body.cuts
    → FirstIs (body_line version shape count room cuts) lines next rest → FirstIs (line_behind version shape body) lines next rest
first_behind version shape body count room cuts lines rest next counted replied cut found =
    subst (λ (n : ℕ). FirstIs (body_line version shape n (reply_room shape body.calls) (length body.cuts)) lines next rest) counted
    (subst (λ (n : ℕ). FirstIs (body_line version shape count n (length body.cuts)) lines next rest) replied
    (subst (λ (n : ℕ). FirstIs (body_line version shape count room n) lines next rest) cut found))

pub one_more : (version : ℕ) (shape : Shape) (whole : Result Body ScriptRefusal) (body after : Body) (count room cuts more : ℕ) (lines rest : List Line) (next : BodyLine)
    → SoFar version shape whole body room lines → count ≡ length body.calls → cuts ≡ length body.cuts
    → FirstIs (body_line version shape count room cuts) lines next rest → after ≡ with_next body next → more ≡ reply_room shape after.calls
    → SoFar version shape whole after more rest
one_more version shape whole body after count room cuts more lines rest next so_far counted cut found is replied =
    let first = first_behind version shape body count room cuts lines rest next counted so_far.replies cut found in
    let told = line_tells version shape body first.line next first.reads in
    let fits : reply_room shape body.calls ≤ 67108864 = omega (arith, so_far.replies, so_far.fits) in
    let same : after.calls ≡ (with_next body next).calls = ap (λ (body : Body). body.calls) is in
    let replies : reply_room shape after.calls ≤ 67108864 = rw same (room_more version shape body told.0 next told.2 fits) in
    record {
      all = ap (λ (body : Body). body_from version shape body rest) is ∙ sym (body_next version shape body lines rest next first) ∙ so_far.all;
      replies = replied;
      fits = omega arith;
      few = rw same (few_more version shape body told.0 next told.2 so_far.few);
    }

-- ---- all lines

-- What holds of what was read and of the lines that are left, and behind one line more holds still, holds at the end.
pub lines_hold : (version : ℕ) (shape : Shape) (P : Body → List Line → Type 0)
    → ((body : Body) (line : Line) (lines : List Line) (tokens : Tokens) (next : BodyLine) → P body (line ∷ lines) → tokens_said line.says ≡ Ok tokens → Tells version shape body tokens next → P (with_next body next) lines)
    → (body : Body) (lines : List Line) (found : Body) → P body lines → body_from version shape body lines ≡ Ok found → P found []
lines_hold version shape P more body [] found holds read =
    subst (λ (body : Body). P body []) (same_ok (body_from version shape body []) body found refl read) holds
lines_hold version shape P more body (line ∷ lines) found holds read =
    let next = step_found (at_line line (line_behind version shape body)) (λ next. body_from version shape (with_next body next) lines) found read in
    let told = line_tells version shape body line next.0 (at_found line.number (of_line line (line_behind version shape body)) next.0 next.1) in
    lines_hold version shape P more (with_next body next.0) lines found (more body line lines told.0 next.0 holds told.1 told.2) next.2
