-- Reading the lines of a script of form Copy one after another.
use Rattle.std.proofs.Common.{◌≡◌, ℕ, ◌≤◌, ◌==◌, ◌&&◌, ◌||◌, not, Bool, true, false, cond, List, [], ◌∷◌, ◌++◌, length, Option, None, Some, Result, Ok, Err, refl, sym, ap, subst, ◌∙◌, arith}
use Rattle.std.specs.Prelude.{codes}
use Rattle.std.proofs.lemmas.Bool.{and_parts}
use Rattle.map_types.specs.declared.attr.Shape.{Shape}
use Rattle.map_types.specs.declared.call.Call.{Call}
use Rattle.map_script.specs.declared.body.Body.{Body}
use Rattle.map_script.specs.declared.body.BodyLine.{BodyLine}
use Rattle.map_script.specs.declared.body.BodyLine.TheVariants as says
use Rattle.map_script.specs.declared.copied.NumberedLine.{NumberedLine}
use Rattle.map_script.specs.declared.copied.Stop.{Stop}
use Rattle.map_script.specs.declared.copied.Stop.TheVariants.{Refused, Either}
use Rattle.map_script.specs.declared.refusal.Cause.{Cause}
use Rattle.map_script.specs.declared.refusal.Cause.TheVariants.{Copier}
use Rattle.map_script.specs.declared.refusal.ScriptRefusal.{ScriptRefusal}
use Rattle.map_script.specs.declared.refusal.ScriptRefusal.TheVariants.{Fault, Create, NoMemory}
use Rattle.map_script.specs.CopyLines.{held_call, held_by, held_behind, either_fault, stop_at, FirstNumbered, FirstStops, IsNextCopied, copied_behind, ReadsCopied}
use Rattle.map_script.specs.CopySoFar.{unless_held}
use Rattle.map_script.specs.Grammar.{starts_phase, reply_room}
use Rattle.map_script.specs.Lines.{Said, Line, tokens_said}
use Rattle.map_script.specs.Places.{◌>>=◌, Tokens, is_next}
use Rattle.map_script.specs.Plain.{saying, FirstAt}
use Rattle.map_script.specs.Reading.{of_line, or_fault, call_within, phase_within, body_line, line_behind, with_next, begins_phase, phase_begins, unless_copier, copied_from}
use Rattle.map_script.proofs.BodyLines.{no_phase, call_said, line_tells, few_more, room_more}
use Rattle.map_script.proofs.CallLines.{within_has}
use Rattle.map_script.proofs.PlaceLemmas.{step_found}

-- ---- whether a line begins a phase

said_tokens : (said : Said) (tokens : Tokens) → tokens_said said ≡ Ok tokens → tokens ≡ said.tokens
said_tokens said tokens is = go said.allowed is
  where
    go : (allowed : Bool) → tokens_said record { tokens = said.tokens; allowed = allowed } ≡ Ok tokens → tokens ≡ said.tokens
    go true is = cc
    go false is = absurd cc

-- whether a line more begins a phase
abbrev pub starts : BodyLine → Bool
starts (says.Call call) = false
starts says.Phase = true

tokens_start : (version : ℕ) (shape : Shape) (body : Body) (tokens : Tokens) (next : BodyLine) → line_behind version shape body tokens ≡ Ok next → is_next (codes "phase") tokens ≡ starts next
tokens_start version shape body tokens next read = go (starts_phase version tokens) refl read
  where
    go : (start : Bool) → starts_phase version tokens ≡ start
        → cond start (phase_within (length body.cuts) tokens >>= λ started. Ok says.Phase) (call_within version shape (length body.calls) (reply_room shape body.calls) tokens >>= λ call. Ok (says.Call call)) ≡ Ok next
        → is_next (codes "phase") tokens ≡ starts next
    go true is read =
        let made = step_found (phase_within (length body.cuts) tokens) (λ started. Ok says.Phase) next read in
        let same : says.Phase ≡ next = cc (made.2) in
        (and_parts (version == 2) (is_next (codes "phase") tokens) is).1 ∙ ap starts same
    go false is read =
        let made = step_found (call_within version shape (length body.calls) (reply_room shape body.calls) tokens) (λ call. Ok (says.Call call)) next read in
        let same : says.Call made.0 ≡ next = cc (made.2) in
        no_phase version shape tokens made.0 (within_has version shape (length body.calls) (reply_room shape body.calls) tokens made.0 made.1).read ∙ ap starts same

-- of a line that is read
pub line_begins : (version : ℕ) (shape : Shape) (body : Body) (line : Line) (next : BodyLine) → of_line line (line_behind version shape body) ≡ Ok next → begins_phase line ≡ starts next
line_begins version shape body line next read =
    let made = step_found (tokens_said line.says) (line_behind version shape body) next read in
    ap (λ (tokens : Tokens). is_next (codes "phase") tokens) (sym (said_tokens line.says made.0 made.1)) ∙ tokens_start version shape body made.0 next made.2

-- ---- one line

-- one step behind two others
pub regroup : {A B C E : Type 0} (r : Result A E) (g : A → Result B E) (f : B → Result C E) → (r >>= λ a. g a >>= f) ≡ ((r >>= g) >>= f)
regroup (Ok a) g f = refl
regroup (Err e) g f = refl

-- what a line says in form Copy, by what it says in form Calls
pub copied_next : (version : ℕ) (shape : Shape) (body : Body) (line : Line) (rest : List Line) (read : Result BodyLine Cause) → of_line line (line_behind version shape body) ≡ read
    → copied_from version shape body (line ∷ rest) ≡ (or_fault line.number (read >>= unless_copier rest) >>= λ next. copied_from version shape (with_next body next) rest)
copied_next version shape body line rest read is =
    ap (λ (r : Result BodyLine Cause). or_fault line.number r >>= λ next. copied_from version shape (with_next body next) rest)
    (regroup (tokens_said line.says) (line_behind version shape body) (unless_copier rest) ∙ ap (λ (r : Result BodyLine Cause). r >>= unless_copier rest) is)

-- the read of lines, or the fault of the call that is held back, by whether a phase begins
abbrev held_or : {A : Type 0} → Option ℕ → Bool → Result A ScriptRefusal → Result A ScriptRefusal
held_or None begins read = read
held_or (Some number) begins read = cond begins read (Err (Fault number Copier))

held_is : {A : Type 0} (held : Option ℕ) (lines : List Line) (read : Result A ScriptRefusal) → unless_held held lines read ≡ held_or held (phase_begins lines) read
held_is None lines read = refl
held_is (Some number) lines read = refl

-- a line that begins a phase
phase_step : (held : Option ℕ) (behind : Bool) (after : Result Body ScriptRefusal) → held_or held (true || behind) after ≡ after
phase_step None behind after = refl
phase_step (Some number) behind after = refl

-- what is held back behind a call, which is of CPU 0 or not
abbrev held_own : Option ℕ → Bool → ℕ → Option ℕ
held_own None own number = cond own (Some number) None
held_own (Some copier) own number = Some copier

own_held : (held : Option ℕ) (number : ℕ) (call : Call) → held_call held number call ≡ held_own held (call.cpu == 0) number
own_held None number call = refl
own_held (Some copier) number call = refl

call_step : (held : Option ℕ) (number : ℕ) (own behind : Bool) (said : BodyLine) (next : BodyLine → Result Body ScriptRefusal)
    → held_or held (false || behind) (or_fault number (cond (own && not behind) (Err Copier) (Ok said)) >>= next) ≡ held_or (held_own held own number) behind (next said)
call_step None number true true said next = refl
call_step None number true false said next = refl
call_step None number false behind said next = refl
call_step (Some copier) number true true said next = refl
call_step (Some copier) number false true said next = refl
call_step (Some copier) number own false said next = refl

-- a line that is read
line_step : (version : ℕ) (shape : Shape) (held : Option ℕ) (body : Body) (line : Line) (rest : List Line) (next : BodyLine) → of_line line (line_behind version shape body) ≡ Ok next
    → copied_behind version shape held body (line ∷ rest) ≡ copied_behind version shape (held_by held line.number next) (with_next body next) rest
line_step version shape held body line rest says.Phase read =
    let whole = copied_from version shape body (line ∷ rest) in
    held_is held (line ∷ rest) whole
    ∙ ap (λ (begins : Bool). held_or held (begins || phase_begins rest) whole) (line_begins version shape body line says.Phase read)
    ∙ phase_step held (phase_begins rest) whole
    ∙ copied_next version shape body line rest (Ok says.Phase) read
line_step version shape held body line rest (says.Call call) read =
    let whole = copied_from version shape body (line ∷ rest) in
    let after = copied_from version shape (with_next body (says.Call call)) rest in
    held_is held (line ∷ rest) whole
    ∙ ap (λ (begins : Bool). held_or held (begins || phase_begins rest) whole) (line_begins version shape body line (says.Call call) read)
    ∙ ap (held_or held (false || phase_begins rest)) (copied_next version shape body line rest (Ok (says.Call call)) read)
    ∙ call_step held line.number (call.cpu == 0) (phase_begins rest) (says.Call call) (λ next. copied_from version shape (with_next body next) rest)
    ∙ ap (λ (h : Option ℕ). held_or h (phase_begins rest) after) (sym (own_held held line.number call))
    ∙ sym (held_is (held_by held line.number (says.Call call)) rest after)

-- a line that has a cause
line_stops : (version : ℕ) (shape : Shape) (body : Body) (line : Line) (rest : List Line) (cause : Cause) → of_line line (line_behind version shape body) ≡ Err cause
    → copied_from version shape body (line ∷ rest) ≡ Err (Fault line.number cause)
line_stops version shape body line rest cause read = copied_next version shape body line rest (Err cause) read

-- what it stops
stop_reads : (version : ℕ) (shape : Shape) (held : Option ℕ) (body found : Body) (line : Line) (rest : List Line) (cause : Cause) (read : List Line → Result Body ScriptRefusal)
    → of_line line (line_behind version shape body) ≡ Err cause → ((more : List Line) → read more ≡ copied_behind version shape held body (line ∷ (rest ++ more)))
    → ReadsCopied version shape read found rest (Err (stop_at held line cause))
stop_reads version shape None body found line rest cause read is all =
    λ more. all more ∙ line_stops version shape body line (rest ++ more) cause is
stop_reads version shape (Some copier) body found line rest cause read is all = go (begins_phase line) refl
  where
    go : (begins : Bool) → begins_phase line ≡ begins → ReadsCopied version shape read found rest (Err (cond begins (Refused (Fault line.number cause)) (Either (either_fault copier line.number cause))))
    go true begins = λ more.
        all more
        ∙ ap (λ (b : Bool). cond (b || phase_begins (rest ++ more)) (copied_from version shape body (line ∷ (rest ++ more))) (Err (Fault copier Copier))) begins
        ∙ line_stops version shape body line (rest ++ more) cause is
    go false begins = λ more.
        all more
        ∙ ap (λ (b : Bool). cond (b || phase_begins (rest ++ more)) (copied_from version shape body (line ∷ (rest ++ more))) (Err (Fault copier Copier))) begins
        ∙ ap (λ (r : Result Body ScriptRefusal). unless_held (Some copier) (rest ++ more) r) (line_stops version shape body line (rest ++ more) cause is)

-- ---- the next line

-- a call at the front
pub first_numbered : (version : ℕ) (shape : Shape) (count room cuts number : ℕ) (lines rest : List Line) (call : Call) (next : NumberedLine)
    → FirstAt number (call_within version shape count room) lines call rest → next.number ≡ number → next.says ≡ says.Call call
    → FirstNumbered (body_line version shape count room cuts) lines next rest
first_numbered version shape count room cuts number lines rest call next found is says_is = record {
  line = saying number found.tokens;
  first = found.first;
  number = is;
  reads = call_said version shape count room cuts found.tokens call found.reads ∙ ap Ok (sym says_is);
}

-- what a line is read as behind the calls and cuts that are counted so
behind : (version : ℕ) (shape : Shape) (body : Body) (count room cuts : ℕ) (line : Line) (read : Result BodyLine Cause) → count ≡ length body.calls → room ≡ reply_room shape body.calls → cuts ≡ length body.cuts
    → of_line line (body_line version shape count room cuts) ≡ read → of_line line (line_behind version shape body) ≡ read
behind version shape body count room cuts line read counted replied cut is =
    subst (λ (n : ℕ). of_line line (body_line version shape n (reply_room shape body.calls) (length body.cuts)) ≡ read) counted
    (subst (λ (n : ℕ). of_line line (body_line version shape count n (length body.cuts)) ≡ read) replied
    (subst (λ (n : ℕ). of_line line (body_line version shape count room n) ≡ read) cut is))

-- ---- a loop over the lines

-- What was read so far, with that of the lines that are left and of any behind them, is what all lines say, and it is within the
-- limits.
pub record CopiedSoFar (version : ℕ) (shape : Shape) (read : List Line → Result Body ScriptRefusal) (held : Option ℕ) (body : Body) (room : ℕ) (lines : List Line) : Type 0 where
  pub all : (more : List Line) → read more ≡ copied_behind version shape held body (lines ++ more)
  pub replies : room ≡ reply_room shape body.calls
  pub fits : room ≤ 67108864
  pub few : length body.calls ≤ 200000

-- a line more
pub copied_more : (version : ℕ) (shape : Shape) (read : List Line → Result Body ScriptRefusal) (held now : Option ℕ) (body after : Body) (count room cuts more : ℕ) (lines rest : List Line) (next : NumberedLine)
    → CopiedSoFar version shape read held body room lines → count ≡ length body.calls → cuts ≡ length body.cuts
    → FirstNumbered (body_line version shape count room cuts) lines next rest → now ≡ held_behind held next → after ≡ with_next body next.says → more ≡ reply_room shape after.calls
    → CopiedSoFar version shape read now after more rest
copied_more version shape read held now body after count room cuts more lines rest next so_far counted cut found now_is is replied =
    let reads = behind version shape body count room cuts found.line (Ok next.says) counted so_far.replies cut found.reads in
    let told = line_tells version shape body found.line next.says reads in
    let fits : reply_room shape body.calls ≤ 67108864 = omega (arith, so_far.replies, so_far.fits) in
    let same : after.calls ≡ (with_next body next.says).calls = ap (λ (body : Body). body.calls) is in
    let replies : reply_room shape after.calls ≤ 67108864 = rw same (room_more version shape body told.0 next.says told.2 fits) in
    let held_now : held_by held found.line.number next.says ≡ now = ap (λ (n : ℕ). held_by held n next.says) (sym found.number) ∙ sym now_is in
    record {
      all = λ others.
          so_far.all others
          ∙ ap (λ (l : List Line). copied_behind version shape held body (l ++ others)) found.first
          ∙ line_step version shape held body found.line (rest ++ others) next.says reads
          ∙ ap (λ (h : Option ℕ). copied_behind version shape h (with_next body next.says) (rest ++ others)) held_now
          ∙ ap (λ (b : Body). copied_behind version shape now b (rest ++ others)) (sym is);
      replies = replied;
      fits = omega arith;
      few = rw same (few_more version shape body told.0 next.says told.2 so_far.few);
    }

-- a line that stops the reading
first_stops : (version : ℕ) (shape : Shape) (read : List Line → Result Body ScriptRefusal) (held : Option ℕ) (body found : Body) (count room cuts : ℕ) (lines rest : List Line) (stop : Stop)
    → CopiedSoFar version shape read held body room lines → count ≡ length body.calls → cuts ≡ length body.cuts
    → FirstStops (body_line version shape count room cuts) held lines stop rest → ReadsCopied version shape read found rest (Err stop)
first_stops version shape read held body found count room cuts lines rest stop so_far counted cut stops =
    subst (λ (s : Stop). ReadsCopied version shape read found rest (Err s)) (sym stops.stops)
    (stop_reads version shape held body found stops.line rest stops.cause read (behind version shape body count room cuts stops.line (Err stops.cause) counted so_far.replies cut stops.reads)
    (λ more. so_far.all more ∙ ap (λ (l : List Line). copied_behind version shape held body (l ++ more)) stops.first))

pub stopped : (version : ℕ) (shape : Shape) (read : List Line → Result Body ScriptRefusal) (held : Option ℕ) (body found : Body) (count room cuts : ℕ) (lines rest : List Line) (stop : Stop)
    → CopiedSoFar version shape read held body room lines → count ≡ length body.calls → cuts ≡ length body.cuts
    → IsNextCopied (body_line version shape count room cuts) held lines rest (Err stop) → ReadsCopied version shape read found rest (Err stop)
stopped version shape read held body found count room cuts lines rest (Refused (Fault line cause)) so_far counted cut stops =
    first_stops version shape read held body found count room cuts lines rest (Refused (Fault line cause)) so_far counted cut stops
stopped version shape read held body found count room cuts lines rest (Refused (Create refusal)) so_far counted cut stops =
    first_stops version shape read held body found count room cuts lines rest (Refused (Create refusal)) so_far counted cut stops
stopped version shape read held body found count room cuts lines rest (Refused NoMemory) so_far counted cut stops = tt
stopped version shape read held body found count room cuts lines rest (Either fault) so_far counted cut stops =
    first_stops version shape read held body found count room cuts lines rest (Either fault) so_far counted cut stops

-- no line is left
pub none_left : (version : ℕ) (shape : Shape) (read : List Line → Result Body ScriptRefusal) (held : Option ℕ) (body : Body) (room : ℕ) (lines : List Line) → CopiedSoFar version shape read held body room lines → lines ≡ []
    → (more : List Line) → read more ≡ copied_behind version shape held body more
none_left version shape read held body room lines so_far none more =
    so_far.all more ∙ ap (λ (l : List Line). copied_behind version shape held body (l ++ more)) none

-- what was found of the next line
pub numbered_found : (read : Tokens → Result BodyLine Cause) (held : Option ℕ) (lines rest : List Line) (returned : Result (Option NumberedLine) Stop) (found : Option NumberedLine) (next : NumberedLine)
    → IsNextCopied read held lines rest returned → returned ≡ Ok found → found ≡ Some next → FirstNumbered read lines next rest
numbered_found read held lines rest returned found next is ok some =
    subst (λ (r : Result (Option NumberedLine) Stop). IsNextCopied read held lines rest r) (ok ∙ ap Ok some) is

pub none_found : (read : Tokens → Result BodyLine Cause) (held : Option ℕ) (lines rest : List Line) (returned : Result (Option NumberedLine) Stop) (found : Option NumberedLine)
    → IsNextCopied read held lines rest returned → returned ≡ Ok found → found ≡ None → lines ≡ []
none_found read held lines rest returned found is ok none =
    subst (λ (r : Result (Option NumberedLine) Stop). IsNextCopied read held lines rest r) (ok ∙ ap Ok none) is
