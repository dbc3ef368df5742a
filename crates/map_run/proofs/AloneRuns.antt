-- The calls of one CPU alone, one after another, by a pass that may have other CPUs too.
use Rattle.std.proofs.Common.{◌≡◌, ℕ, suc, ◌+◌, ◌<◌, ◌≤◌, All, List, [], ◌∷◌, ◌++◌, length, get_or, take, refl, ap, sym, ◌∙◌, subst, arith, append_assoc, append-nil}
use Rattle.std.proofs.lemmas.List.{take_all}
use Rattle.std.proofs.lemmas.List.Elements.{All-get_or}
use Rattle.map_types.specs.declared.attr.Shape.{Shape}
use Rattle.map_types.specs.declared.call.Call.{Call}
use Rattle.map_types.specs.declared.reply.Reply.{Reply}
use Rattle.place_words.proofs.ShrinkProbes.{append_empty}
use Rattle.place_table.specs.declared.view.Turned.{Turned}
use Rattle.place_table.specs.Passes.{PassView, TableView, begun, IsPassOf, IsKeptOf}
use Rattle.place_table.specs.Views.{is_among}
use Rattle.place_table.proofs.Going.{goes_of_table, kept_on}
use Rattle.hash_ops.specs.Calls.{Called}
use Rattle.map_report.specs.Record.{MayAnswer}
use Rattle.run_records.specs.Phased.{HasGone, IsWhole}
use Rattle.run_records.specs.Work.{HasWorked}
use Rattle.run_records.proofs.OwnCalls.{none_worked}
use Rattle.map_run.proofs.Working.{works_on}

pub alone_first : (t : TableView) (before : ℕ) (calls : List Call) (p : PassView) (replies : List Reply) → replies ≡ [] → IsWhole t p → (cpu : ℕ) → All (λ (call : Call). call.cpu ≡ cpu) calls → HasWorked t cpu (suc before) (take 0 calls) p p replies
alone_first t before calls p replies none whole cpu all = subst (HasWorked t cpu (suc before) [] p p) (sym none) (none_worked t cpu (suc before) p whole.of_table whole.in_no_call)

pub alone_all : (t : TableView) (before : ℕ) (calls : List Call) (n : ℕ) (start p : PassView) (replies : List Reply) → length calls ≤ n → ((cpu : ℕ) → All (λ (call : Call). call.cpu ≡ cpu) calls → HasWorked t cpu (suc before) (take n calls) start p replies)
    → (cpu : ℕ) → All (λ (call : Call). call.cpu ≡ cpu) calls → HasWorked t cpu (suc before) calls start p replies
alone_all t before calls n start p replies past worked cpu all = subst (λ (l : List Call). HasWorked t cpu (suc before) l start p replies) (take_all n calls past) (worked cpu all)

-- one call more, of those that are all of one CPU
pub alone_on : (t : TableView) (before : ℕ) (calls : List Call) (n : ℕ) (call : Call) (start p q : PassView) (place : ℕ) (reply : Reply) (replies after : List Reply) → n < length calls → call ≡ get_or calls n call
    → place ≡ before + n + 1 → ((cpu : ℕ) → All (λ (one : Call). one.cpu ≡ cpu) calls → HasWorked t cpu (suc before) (take n calls) start p replies) → Called t (begun p call.cpu place) q call.verb reply → MayAnswer t.shape call.verb reply
    → after ≡ replies ++ reply ∷ [] → (cpu : ℕ) → All (λ (one : Call). one.cpu ≡ cpu) calls → HasWorked t cpu (suc before) (take (n + 1) calls) start q after
alone_on t before calls n call start p q place reply replies after within is count worked called answers pushed cpu all =
    let own : call.cpu ≡ cpu = ap (λ (c : Call). c.cpu) is ∙ All-get_or (λ (one : Call). one.cpu ≡ cpu) calls n call within all in
    works_on t cpu before calls n call start p q place reply replies after within is count own (worked cpu all) called answers pushed

-- What any calls leave

pub gone_nowhere : (shape : Shape) (p : PassView) → HasGone shape p p
gone_nowhere shape p = record { made = []; steps = sym (append-nil p.view.steps); kept = refl; refused = omega arith; lost = λ none. none }

pub gone_more : (t : TableView) (start p q : PassView) (call : Call) (place : ℕ) (reply : Reply) → IsPassOf t p → HasGone t.shape start p → Called t (begun p call.cpu place) q call.verb reply → HasGone t.shape start q
gone_more t start p q call place reply of_table gone called =
    let goes = called.leaves.made.goes in
    record {
      made = gone.made ++ called.steps;
      steps = goes.steps ∙ ap (λ (l : List Turned). l ++ called.steps) gone.steps ∙ append_assoc start.view.steps gone.made called.steps;
      kept = kept_on t.shape gone.made called.steps start.view.kept p.view.kept q.view.kept gone.kept
          (subst (λ (shape : Shape). IsKeptOf shape called.steps p.view.kept q.view.kept) of_table.1 goes.kept);
      refused = omega (arith, gone.refused, goes.numbers.refused);
      lost = λ none. gone.lost (append_empty called.lost p.view.lost (sym goes.lost_is ∙ none)).1;
    }

pub whole_on : (t : TableView) (p q : PassView) (call : Call) (place : ℕ) (reply : Reply) → IsWhole t p → Called t (begun p call.cpu place) q call.verb reply → IsWhole t q
whole_on t p q call place reply whole called =
    let goes = called.leaves.made.goes in
    record {
      of_table = goes_of_table t (begun p call.cpu place) q called.steps called.lost goes whole.of_table;
      all_cpus = λ cpu real. ap (is_among cpu) goes.cpus ∙ whole.all_cpus cpu real;
      in_no_call = called.leaves.in_no_call;
    }
