-- The lines of calls and phases of a canonical text are read as these calls and their cuts.
use Rattle.std.proofs.Common.{◌≡◌, ℕ, ◌+◌, ◌<◌, ◌≤◌, true, nat_lt, List, [], ◌∷◌, ◌++◌, ◌-◌, map, length, take, drop, Result, Ok, refl, sym, ap, subst, ◌∙◌, inl, inr, append-nil, append_assoc, take-append-drop, length-append, arith}
use Rattle.std.proofs.lemmas.Bool.{lt-ltb}
use Rattle.std.proofs.lemmas.List.{length-take}
use Rattle.std.proofs.lemmas.List.Sums.{sum_by-append}
use Rattle.map_types.specs.declared.attr.Shape.{Shape}
use Rattle.map_types.specs.declared.call.Call.{Call}
use Rattle.map_script.specs.declared.body.Body.{Body}
use Rattle.map_script.specs.declared.body.BodyLine.TheVariants as says
use Rattle.map_script.specs.declared.refusal.ScriptRefusal.{ScriptRefusal}
use Rattle.map_script.specs.Grammar.{phase_line, reply_bytes, reply_room}
use Rattle.map_script.specs.Places.{start}
use Rattle.map_script.specs.Reading.{or_fault, body_line, body_with, no_body, body_from}
use Rattle.map_script.specs.WellFormed.{AreCuts, HasPhases}
use Rattle.map_script.proofs.BodyLines.{call_said, reply_room_more}
use Rattle.map_script.proofs.TokenLines.{saying_from}
use Rattle.map_script.proofs.CallScripts.{AreCalls}
use Rattle.map_script.proofs.CanonicalTokens.{call_tokens, phase_tokens, phased_lines, calls_front, calls_back}
use Rattle.map_script.proofs.LinesRead.{then, within_read}

-- what is read behind the lines of calls is read behind these calls
calls_read : (version : ℕ) (shape : Shape) (at : ℕ) (before : List Call) (cuts : List ℕ) (calls : List Call) (lines : List (List (List ℕ))) (answer : Result Body ScriptRefusal)
    → AreCalls version shape (length before) (reply_room shape before) calls
    → ((at : ℕ) → body_from version shape (body_with (before ++ calls) cuts) (saying_from at lines) ≡ answer)
    → body_from version shape (body_with before cuts) (saying_from at (map call_tokens calls ++ lines)) ≡ answer
calls_read version shape at before cuts [] lines answer h others =
    subst (λ (all : List Call). body_from version shape (body_with all cuts) (saying_from at lines) ≡ answer) (append-nil before) (others at)
calls_read version shape at before cuts (call ∷ calls) lines answer h others =
    let with_call = before ++ call ∷ [] in
    let long : length before + 1 ≡ length with_call = sym (length-append before (call ∷ [])) in
    let reply : reply_room shape before + reply_bytes shape call.verb ≡ reply_room shape with_call = sym (reply_room_more shape before call) in
    let behind = subst (λ (n : ℕ). AreCalls version shape n (reply_room shape with_call) calls) long (subst (λ (n : ℕ). AreCalls version shape (length before + 1) n calls) reply h.3) in
    let same : (before ++ call ∷ []) ++ calls ≡ before ++ call ∷ calls = append_assoc before (call ∷ []) calls in
    then _ _ (says.Call call) _ (ap (or_fault at) (call_said version shape (length before) (reply_room shape before) (length cuts) (call_tokens call) call (within_read version shape (length before) (reply_room shape before) call h.0 h.1 h.2)))
    (calls_read version shape (at + 1) with_call cuts calls lines answer behind (λ at.
    subst (λ (all : List Call). body_from version shape (body_with all cuts) (saying_from at lines) ≡ answer) (sym same) (others at)))

-- the calls of the last phase
last_read : (version : ℕ) (shape : Shape) (at : ℕ) (before : List Call) (cuts : List ℕ) (calls : List Call) → AreCalls version shape (length before) (reply_room shape before) calls
    → body_from version shape (body_with before cuts) (saying_from at (map call_tokens calls)) ≡ Ok (body_with (before ++ calls) cuts)
last_read version shape at before cuts calls h =
    ap (λ (lines : List (List (List ℕ))). body_from version shape (body_with before cuts) (saying_from at lines)) (sym (append-nil (map call_tokens calls)))
    ∙ calls_read version shape at before cuts calls [] (Ok (body_with (before ++ calls) cuts)) h (λ at. refl)

phase_read : (shape : Shape) (count room cuts : ℕ) → cuts < 63 → body_line 2 shape count room cuts phase_tokens ≡ Ok says.Phase
unfolding phase_line
phase_read shape count room cuts few = let test : nat_lt cuts 63 ≡ true = lt-ltb cuts 63 few in rw test refl

-- the lines of calls and phases, behind other calls and cuts
phases_read : (shape : Shape) (at from : ℕ) (before : List Call) (done cuts : List ℕ) (calls : List Call)
    → from ≡ length before → AreCalls 2 shape (length before) (reply_room shape before) calls → AreCuts from (length before + length calls) cuts → length done + length cuts ≤ 63
    → body_from 2 shape (body_with before done) (saying_from at (phased_lines from cuts calls)) ≡ Ok (body_with (before ++ calls) (done ++ cuts))
phases_read shape at from before done [] calls start h rise few =
    last_read 2 shape at before done calls h ∙ ap (λ (cuts : List ℕ). Ok (body_with (before ++ calls) cuts)) (sym (append-nil done))
phases_read shape at from before done (cut ∷ cuts) calls start h rise few =
    let now = take (cut - from) calls in
    let behind = drop (cut - from) calls in
    let parts : now ++ behind ≡ calls = take-append-drop (cut - from) calls in
    let both = subst (AreCalls 2 shape (length before) (reply_room shape before)) (sym parts) h in
    let upto = before ++ now in
    let long : length upto ≡ length before + length now = length-append before now in
    let least = rise.0 in
    let most = rise.1 in
    let counted : length upto ≡ cut = omega (arith, length-take (cut - from) calls) in
    let some : length calls ≡ length now + length behind = ap length (sym parts) ∙ length-append now behind in
    let total : length before + length calls ≡ length upto + length behind = omega arith in
    let replied : reply_room shape before + reply_room shape now ≡ reply_room shape upto = sym (sum_by-append (λ (call : Call). reply_bytes shape call.verb) before now) in
    let rest = subst (λ (n : ℕ). AreCalls 2 shape n (reply_room shape upto) behind) (sym long) (subst (λ (n : ℕ). AreCalls 2 shape (length before + length now) n behind) replied (calls_back 2 shape (length before) (reply_room shape before) now behind both)) in
    let all : upto ++ behind ≡ before ++ calls = append_assoc before now behind ∙ ap (λ (calls : List Call). before ++ calls) parts in
    let fewer : length (done ++ length upto ∷ []) + length cuts ≤ 63 = omega (arith, length-append done (length upto ∷ [])) in
    let done_all : (done ++ length upto ∷ []) ++ cuts ≡ done ++ cut ∷ cuts = append_assoc done (length upto ∷ []) cuts ∙ ap (λ (n : ℕ). done ++ n ∷ cuts) counted in
    calls_read 2 shape at before done now (phase_tokens ∷ phased_lines cut cuts behind) (Ok (body_with (before ++ calls) (done ++ cut ∷ cuts)))
    (calls_front 2 shape (length before) (reply_room shape before) now behind both)
    (λ at. then _ _ says.Phase _ (ap (or_fault at) (phase_read shape (length upto) (reply_room shape upto) (length done) (omega arith)))
    (phases_read shape (at + 1) cut upto (done ++ length upto ∷ []) cuts behind (sym counted) rest (subst (λ (n : ℕ). AreCuts cut n cuts) total rise.2) fewer
    ∙ ap (λ (calls : List Call). Ok (body_with calls ((done ++ length upto ∷ []) ++ cuts))) all
    ∙ ap (λ (cuts : List ℕ). Ok (body_with (before ++ calls) cuts)) done_all))

-- version 1 has no cuts, and version 2 may have some
pub lines_read : (version : ℕ) (shape : Shape) (at : ℕ) (cuts : List ℕ) (calls : List Call) → AreCalls version shape 0 0 calls → HasPhases version (length calls) cuts
    → body_from version shape no_body (saying_from at (phased_lines 0 cuts calls)) ≡ Ok (body_with calls cuts)
lines_read version shape at cuts calls h phases =
    let total : length calls ≡ 0 + length calls = omega arith in
    elim phases.known [
      | inl first ↦
          subst (λ (cuts : List ℕ). body_from version shape no_body (saying_from at (phased_lines 0 cuts calls)) ≡ Ok (body_with calls cuts)) (sym first.1)
          (last_read version shape at [] [] calls h)
      | inr second ↦
          subst (λ (v : ℕ). body_from v shape no_body (saying_from at (phased_lines 0 cuts calls)) ≡ Ok (body_with calls cuts)) (sym second)
          (phases_read shape at 0 [] [] cuts calls refl (subst (λ (v : ℕ). AreCalls v shape 0 0 calls) second h) (subst (λ (n : ℕ). AreCuts 0 n cuts) total phases.rise) (omega (arith, phases.few)))
    ]
