-- The calls that a CPU has made, by one call more: its own, or another CPU's.
use Rattle.std.proofs.Common.{◌≡◌, ◌≢◌, ℕ, suc, ◌+◌, ◌<◌, List, [], ◌∷◌, ◌++◌, length, get_or, map, take, Option, refl, ap, sym, ◌∙◌, subst, arith, append_assoc, append-nil}
use Rattle.std.specs.Prelude.{MatchBool}
use Rattle.map_types.specs.declared.attr.Shape.{Shape}
use Rattle.map_types.specs.declared.call.Call.{Call}
use Rattle.map_types.specs.declared.reply.Reply.{Reply}
use Rattle.map_types.proofs.RowLemmas.{by_test}
use Rattle.place_words.specs.Walks.{spare_left}
use Rattle.place_table.specs.declared.view.Turned.{Turned}
use Rattle.place_table.specs.Known.{turn_at}
use Rattle.place_table.specs.Passes.{PassView, TableView, spare_of, IsPassOf, IsInNoCall}
use Rattle.place_table.specs.Calls.{element_of}
use Rattle.file_order.proofs.FileOrder.{calls_taken, count_other}
use Rattle.run_records.specs.Work.{AreCallsBy, HasWorked, IsCallBy}

-- the first call of a CPU's among calls, and the others
abbrev pub Begins : Shape → ℕ → ℕ → Call → List Call → Option ℕ → Option ℕ → List Reply → List Turned → Type 0
Begins shape cpu number call calls spare last replies steps =
    (mine : List Turned) × (rest : List Turned) × (reply : Reply) × (more : List Reply) × (steps ≡ mine ++ rest) × (replies ≡ reply ∷ more)
    × IsCallBy shape number call spare reply mine
    × AreCallsBy shape cpu (suc number) calls (spare_left shape spare (map (turn_at shape) mine)) last more rest

pub own_more : (shape : Shape) (cpu number place : ℕ) (calls : List Call) (call : Call) (spare before : Option ℕ) (replies : List Reply) (reply : Reply) (steps mine : List Turned)
    → AreCallsBy shape cpu number calls spare before replies steps → call.cpu ≡ cpu → place ≡ number + length calls → IsCallBy shape place call before reply mine
    → AreCallsBy shape cpu number (calls ++ call ∷ []) spare (spare_left shape before (map (turn_at shape) mine)) (replies ++ reply ∷ []) (steps ++ mine)
own_more shape cpu number place [] call spare before replies reply steps mine are own at by =
    let last = spare_left shape before (map (turn_at shape) mine) in
    let is_call : IsCallBy shape number call spare reply mine =
    subst (λ (z : ℕ × Option ℕ). IsCallBy shape z.0 call z.1 reply mine) (λ i. ((let same : place ≡ number = omega arith in same) i, are.2 i)) by in
    by_test call.cpu cpu (λ b. MatchBool b (Begins shape cpu number call [] spare last (replies ++ reply ∷ []) (steps ++ mine)) (AreCallsBy shape cpu (suc number) [] spare last (replies ++ reply ∷ []) (steps ++ mine)))
    (λ _. (
      mine,
      [],
      reply,
      [],
      ap (λ (l : List Turned). l ++ mine) are.1 ∙ sym (append-nil mine),
      ap (λ (l : List Reply). l ++ reply ∷ []) are.0,
      is_call,
      (refl, refl, ap (λ (s : Option ℕ). spare_left shape s (map (turn_at shape) mine)) are.2),
    ))
    (λ other. absurd (other own))
own_more shape cpu number place (x ∷ calls) call spare before replies reply steps mine are own at by =
    let last = spare_left shape before (map (turn_at shape) mine) in
    by_test x.cpu cpu
    (λ b. MatchBool b (Begins shape cpu number x calls spare before replies steps) (AreCallsBy shape cpu (suc number) calls spare before replies steps)
    → MatchBool b (Begins shape cpu number x (calls ++ call ∷ []) spare last (replies ++ reply ∷ []) (steps ++ mine)) (AreCallsBy shape cpu (suc number) (calls ++ call ∷ []) spare last (replies ++ reply ∷ []) (steps ++ mine)))
    (λ _ y. (
      y.0,
      y.1 ++ mine,
      y.2,
      y.3 ++ reply ∷ [],
      ap (λ (l : List Turned). l ++ mine) y.4 ∙ append_assoc y.0 y.1 mine,
      ap (λ (l : List Reply). l ++ reply ∷ []) y.5,
      y.6,
      own_more shape cpu (suc number) place calls call (spare_left shape spare (map (turn_at shape) y.0)) before y.3 reply y.1 mine y.7 own (omega arith) by,
    ))
    (λ _ y. own_more shape cpu (suc number) place calls call spare before replies reply steps mine y own (omega arith) by)
    are

other_more : (shape : Shape) (cpu number : ℕ) (calls : List Call) (call : Call) (spare last : Option ℕ) (replies : List Reply) (steps : List Turned)
    → AreCallsBy shape cpu number calls spare last replies steps → call.cpu ≢ cpu → AreCallsBy shape cpu number (calls ++ call ∷ []) spare last replies steps
other_more shape cpu number [] call spare last replies steps are other =
    by_test call.cpu cpu (λ b. MatchBool b (Begins shape cpu number call [] spare last replies steps) (AreCallsBy shape cpu (suc number) [] spare last replies steps))
    (λ is. absurd (other is)) (λ _. are)
other_more shape cpu number (x ∷ calls) call spare last replies steps are other =
    by_test x.cpu cpu
    (λ b. MatchBool b (Begins shape cpu number x calls spare last replies steps) (AreCallsBy shape cpu (suc number) calls spare last replies steps)
    → MatchBool b (Begins shape cpu number x (calls ++ call ∷ []) spare last replies steps) (AreCallsBy shape cpu (suc number) (calls ++ call ∷ []) spare last replies steps))
    (λ _ y. (y.0, y.1, y.2, y.3, y.4, y.5, y.6, other_more shape cpu (suc number) calls call (spare_left shape spare (map (turn_at shape) y.0)) last y.3 y.1 y.7 other))
    (λ _ y. other_more shape cpu (suc number) calls call spare last replies steps y other)
    are

-- a pass that made no call yet
pub none_worked : (t : TableView) (cpu number : ℕ) (p : PassView) → IsPassOf t p → IsInNoCall p → HasWorked t cpu number [] p p []
none_worked t cpu number p of_table in_no_call = record {
  of_table = of_table;
  cpus = refl;
  in_no_call = in_no_call;
  other_spares = λ other _. refl;
  ended = refl;
  made = [];
  steps = sym (append-nil p.view.steps);
  kept = refl;
  tickets = omega arith;
  refused = omega arith;
  lost = λ none. none;
  counted = refl;
  calls_are = λ _. (refl, refl, refl);
}

pub passes_by : (t : TableView) (cpu number : ℕ) (calls : List Call) (n : ℕ) (call : Call) (start p : PassView) (replies : List Reply) → n < length calls → call ≡ get_or calls n call
    → call.cpu ≢ cpu → HasWorked t cpu number (take n calls) start p replies → HasWorked t cpu number (take (n + 1) calls) start p replies
passes_by t cpu number calls n call start p replies within is other worked =
    subst (λ (l : List Call). HasWorked t cpu number l start p replies) (sym (calls_taken calls n call within is)) record {
      of_table = worked.of_table;
      cpus = worked.cpus;
      in_no_call = worked.in_no_call;
      other_spares = worked.other_spares;
      ended = worked.ended;
      made = worked.made;
      steps = worked.steps;
      kept = worked.kept;
      tickets = worked.tickets;
      refused = worked.refused;
      lost = worked.lost;
      counted = worked.counted ∙ sym (count_other cpu (take n calls) call other);
      calls_are = λ none. other_more t.shape cpu number (take n calls) call (element_of (spare_of cpu start.spares)) (element_of (spare_of cpu p.spares)) replies worked.made (worked.calls_are none) other;
    }
