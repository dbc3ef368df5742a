-- One call more of a run in serial order, wherever the run had come to.
use Rattle.std.proofs.Common.{◌≡◌, ℕ, suc, ◌+◌, ◌<◌, ◌≤◌, List, [], ◌∷◌, ◌++◌, length, take, get_or, refl, ap, sym, ◌∙◌, subst, arith, append-nil, append_assoc}
use Rattle.std.specs.Prelude.{All}
use Rattle.std.proofs.lemmas.List.{length-append, get_or-append-add, take_all}
use Rattle.std.proofs.lemmas.List.Elements.{All-append}
use Rattle.map_types.specs.Creation.{IsShape}
use Rattle.map_types.specs.declared.call.Call.{Call}
use Rattle.map_types.specs.declared.reply.Reply.{Reply}
use Rattle.place_words.specs.AtRest.{IsStart}
use Rattle.place_table.specs.Calls.{Called}
use Rattle.place_table.specs.Passes.{PassView, TableView, begun}
use Rattle.run_records.specs.ByLogs.{RunStart, HaveRunFrom}
use Rattle.serial_laws.specs.Served.{IsServedCall}
use Rattle.run_records.proofs.BothRuns.{run_next}

pub take_past : {A : Type 0} (xs ys : List A) (n : ℕ) → take (length xs + n) (xs ++ ys) ≡ xs ++ take n ys
take_past [] ys n = let same : 0 + n ≡ n = omega arith in ap (λ (k : ℕ). take k ys) same
take_past (x ∷ xs) ys n =
    let next : suc (length xs) + n ≡ suc (length xs + n) = omega arith in
    ap (λ (k : ℕ). take k (x ∷ (xs ++ ys))) next ∙ ap (λ l. x ∷ l) (take_past xs ys n)

-- One call more, wherever the run had come to

abbrev pub GoesOnFrom : TableView → ℕ → List Call → PassView → PassView → List Reply → Type 0
GoesOnFrom t before calls start p replies =
    (from : RunStart) (done : List Call) (told : List Reply) → from.number + length done ≡ suc before → IsStart t.shape from.state → All (IsServedCall t.shape) done
    → HaveRunFrom t from done start told → HaveRunFrom t from (done ++ calls) p (told ++ replies)

pub from_first : (t : TableView) (before : ℕ) (calls : List Call) (start : PassView) (replies : List Reply) → replies ≡ [] → GoesOnFrom t before (take 0 calls) start start replies
from_first t before calls start replies none from done told count is_start served ran =
    subst (λ (z : List Call × List Reply). HaveRunFrom t from z.0 start z.1) (λ i. (sym (append-nil done) i, (sym (append-nil told) ∙ ap (λ (l : List Reply). told ++ l) (sym none)) i)) ran

pub from_more : (t : TableView) (before : ℕ) (calls : List Call) (n : ℕ) (call : Call) (start p q : PassView) (place : ℕ) (reply : Reply) (replies after : List Reply) → IsShape t.shape → All (IsServedCall t.shape) calls
    → n < length calls → call ≡ get_or calls n call → place ≡ before + n + 1 → GoesOnFrom t before (take n calls) start p replies → Called t (begun p call.cpu place) q call.verb reply → after ≡ replies ++ reply ∷ []
    → GoesOnFrom t before (take (n + 1) calls) start q after
from_more t before calls n call start p q place reply replies after shape_is served within is count goes called pushed from done told number is_start served_done ran =
    let long : length (done ++ calls) ≡ length done + length calls = length-append done calls in
    let here : call ≡ get_or (done ++ calls) (length done + n) call = is ∙ sym (get_or-append-add done calls n call) in
    let next : length done + n + 1 ≡ length done + (n + 1) = omega arith in
    subst (λ (z : List Call × List Reply). HaveRunFrom t from z.0 q z.1)
    (λ i. ((ap (λ (k : ℕ). take k (done ++ calls)) next ∙ take_past done calls (n + 1)) i, (append_assoc told replies (reply ∷ []) ∙ ap (λ (l : List Reply). told ++ l) (sym pushed)) i))
    (run_next t from (done ++ calls) (length done + n) call p q place reply (told ++ replies) ((told ++ replies) ++ reply ∷ []) shape_is is_start (All-append (IsServedCall t.shape) done calls served_done served) (omega arith) here (omega arith)
    (subst (λ (l : List Call). HaveRunFrom t from l p (told ++ replies)) (sym (take_past done calls n)) (goes from done told number is_start served_done ran)) called refl)

pub from_all : (t : TableView) (before : ℕ) (calls : List Call) (n : ℕ) (start p : PassView) (replies : List Reply) → length calls ≤ n → GoesOnFrom t before (take n calls) start p replies → GoesOnFrom t before calls start p replies
from_all t before calls n start p replies past goes = subst (λ (l : List Call). GoesOnFrom t before l start p replies) (take_all n calls past) goes
