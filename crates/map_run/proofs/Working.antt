-- A call that a worker makes on the table, as one call more of its CPU.
use Rattle.std.proofs.Common.{◌≡◌, ℕ, suc, ◌+◌, ◌<◌, List, [], ◌∷◌, ◌++◌, length, get_or, map, take, Option, refl, ap, sym, ◌∙◌, subst, arith, append_assoc}
use Rattle.std.proofs.lemmas.List.{length-append, length-take-le}
use Rattle.map_types.specs.declared.attr.Shape.{Shape}
use Rattle.map_types.specs.declared.call.Call.{Call}
use Rattle.map_types.specs.declared.reply.Reply.{Reply}
use Rattle.place_words.specs.Tickets.{AscendIn}
use Rattle.place_words.specs.Walks.{spare_left}
use Rattle.place_words.proofs.Ascending.{ascend_on}
use Rattle.place_words.proofs.ShrinkProbes.{append_empty}
use Rattle.place_table.specs.declared.view.Turned.{Turned}
use Rattle.place_table.specs.Known.{turn_at}
use Rattle.place_table.specs.Passes.{PassView, TableView, spare_of, begun, IsKeptOf}
use Rattle.place_table.specs.Tickets.{turn_tickets}
use Rattle.place_table.specs.Views.{next}
use Rattle.place_table.proofs.Going.{goes_of_table, kept_on}
use Rattle.hash_ops.specs.Calls.{Called, element_of}
use Rattle.hash_ops.proofs.Under.{trace_made, spare_made}
use Rattle.map_report.specs.Record.{MayAnswer}
use Rattle.file_order.proofs.FileOrder.{calls_taken, count_own}
use Rattle.run_records.specs.Work.{AreCallsBy, HasWorked}
use Rattle.run_records.proofs.CallsByLogs.{all_real}
use Rattle.run_records.proofs.OwnCalls.{own_more}

turn_tickets_append : (xs ys : List Turned) → turn_tickets (xs ++ ys) ≡ turn_tickets xs ++ turn_tickets ys
turn_tickets_append [] ys = refl
turn_tickets_append (x ∷ xs) ys = ap (λ (l : List ℕ). x.entry.ticket ∷ l) (turn_tickets_append xs ys)

module _ (t : TableView) (number : ℕ) (calls : List Call) (call : Call) (start p q : PassView) (place : ℕ) (reply : Reply) (replies : List Reply)
    (count : place ≡ number + length calls) (worked : HasWorked t call.cpu number calls start p replies) (called : Called t (begun p call.cpu place) q call.verb reply) (answers : MayAnswer t.shape call.verb reply) where
  calls_more : q.view.lost ≡ []
      → AreCallsBy t.shape call.cpu number (calls ++ call ∷ []) (element_of (spare_of call.cpu start.spares)) (element_of (spare_of call.cpu q.spares)) (replies ++ reply ∷ []) (worked.made ++ called.steps)
  calls_more none =
      let left = append_empty called.lost p.view.lost (sym called.leaves.made.goes.lost_is ∙ none) in
      let last_is : spare_left t.shape (element_of (spare_of call.cpu p.spares)) (map (turn_at t.shape) called.steps) ≡ element_of (spare_of call.cpu q.spares) =
      sym (spare_made t (begun p call.cpu place) q call.verb reply called left.0) ∙ ap (λ (c : ℕ). element_of (spare_of c q.spares)) called.leaves.made.goes.cpu in
      subst
      (λ (last : Option ℕ). AreCallsBy t.shape call.cpu number (calls ++ call ∷ []) (element_of (spare_of call.cpu start.spares)) last (replies ++ reply ∷ []) (worked.made ++ called.steps))
      last_is
      (own_more t.shape call.cpu number place calls call (element_of (spare_of call.cpu start.spares)) (element_of (spare_of call.cpu p.spares)) replies reply worked.made called.steps
      (worked.calls_are left.1) refl count record { by_call = called.leaves.by_call; of_map = all_real t.shape called.steps called.leaves.learns.allowed; trace = trace_made t (begun p call.cpu place) q call.verb reply called left.0; answers = answers })

  pub worked_more : HasWorked t call.cpu number (calls ++ call ∷ []) start q (replies ++ reply ∷ [])
  worked_more =
      let goes = called.leaves.made.goes in
      record {
        of_table = goes_of_table t (begun p call.cpu place) q called.steps called.lost goes worked.of_table;
        cpus = goes.cpus ∙ worked.cpus;
        in_no_call = called.leaves.in_no_call;
        other_spares = λ other apart. called.leaves.other_spares other apart ∙ worked.other_spares other apart;
        ended = goes.ended ∙ worked.ended;
        made = worked.made ++ called.steps;
        steps = goes.steps ∙ ap (λ (l : List Turned). l ++ called.steps) worked.steps ∙ append_assoc start.view.steps worked.made called.steps;
        kept = kept_on t.shape worked.made called.steps start.view.kept p.view.kept q.view.kept worked.kept
            (subst (λ (shape : Shape). IsKeptOf shape called.steps p.view.kept q.view.kept) worked.of_table.1 goes.kept);
        tickets = subst (λ (l : List ℕ). AscendIn (next start.view) l (next q.view)) (sym (turn_tickets_append worked.made called.steps))
            (ascend_on (next start.view) (next p.view) (next q.view) (turn_tickets worked.made) (turn_tickets called.steps) worked.tickets goes.numbers.ascend);
        refused = omega (arith, worked.refused, goes.numbers.refused);
        lost = λ none. worked.lost (append_empty called.lost p.view.lost (sym goes.lost_is ∙ none)).1;
        counted = length-append replies (reply ∷ []) ∙ ap (λ (k : ℕ). k + 1) worked.counted ∙ sym (count_own call.cpu calls call refl);
        calls_are = calls_more;
      }

pub works_on : (t : TableView) (cpu before : ℕ) (calls : List Call) (n : ℕ) (call : Call) (start p q : PassView) (place : ℕ) (reply : Reply) (replies after : List Reply) → n < length calls → call ≡ get_or calls n call
    → place ≡ before + n + 1 → call.cpu ≡ cpu → HasWorked t cpu (suc before) (take n calls) start p replies → Called t (begun p call.cpu place) q call.verb reply → MayAnswer t.shape call.verb reply
    → after ≡ replies ++ reply ∷ [] → HasWorked t cpu (suc before) (take (n + 1) calls) start q after
works_on t cpu before calls n call start p q place reply replies after within is count own worked called answers pushed =
    let long : length (take n calls) ≡ n = length-take-le n calls (omega arith) in
    let so_far = subst (λ (c : ℕ). HasWorked t c (suc before) (take n calls) start p replies) (sym own) worked in
    let more = worked_more t (suc before) (take n calls) call start p q place reply replies (count ∙ (let next_place : before + n + 1 ≡ suc before + length (take n calls) = omega arith in next_place)) so_far called answers in
    subst (λ (z : List Call × List Reply). HasWorked t cpu (suc before) z.0 start q z.1) (λ i. (sym (calls_taken calls n call within is) i, sym pushed i))
    (subst (λ (c : ℕ). HasWorked t c (suc before) (take n calls ++ call ∷ []) start q (replies ++ reply ∷ [])) own more)
