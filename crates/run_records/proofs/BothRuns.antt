-- A run in serial order on a map of either sort: its calls are determined by their traces. On a map that evicts they are since the
-- takings and freeings of each CPU are: where CPUs share lists, by the bits that each turn reads too, and since no element is found
-- moved on.
use Rattle.std.proofs.Common.{◌≡◌, ℕ, ◌+◌, ◌<◌, true, List, [], ◌∷◌, ◌++◌, length, get_or, map, take, All, sym, subst}
use Rattle.std.proofs.lemmas.List.Elements.{All-get_or, All-take, All-weaker}
use Rattle.map_types.specs.Creation.{IsShape}
use Rattle.map_types.specs.Kind.{is_lru}
use Rattle.map_types.specs.declared.attr.Shape.{Shape}
use Rattle.map_types.specs.declared.call.Call.{Call}
use Rattle.map_types.specs.declared.reply.Reply.{Reply}
use Rattle.place_words.specs.Logs.{State, lies_in, does}
use Rattle.place_words.specs.Turns.{Turn}
use Rattle.place_words.proofs.EvictingDone.{IsAtRest}
use Rattle.place_words.proofs.AnyStart.{IsStart, done_from}
use Rattle.place_words.proofs.EvictingRuns.{supplies}
use Rattle.place_table.specs.Calls.{Called}
use Rattle.place_table.specs.Known.{turn_at}
use Rattle.place_table.specs.Passes.{PassView, TableView, begun}
use Rattle.run_records.specs.ByLogs.{RunStart, HaveRunFrom}
use Rattle.serial_laws.specs.Served.{IsServedCall}
use Rattle.run_records.proofs.CallsByLogs.{tells_shared, IsDetermined}
use Rattle.serial_laws.proofs.Decides.{Decides, own_decides}
use Rattle.serial_laws.proofs.EveryCallIs.{evicting_call_is, plain_call_is}
use Rattle.serial_laws.proofs.HistoryTurns.{by_bool}
use Rattle.serial_laws.proofs.KeyCalls.{IsAs}
use Rattle.serial_laws.proofs.PlainKeyIs.{plain_decides}
use Rattle.run_records.proofs.RunByLogs.{come_from, next_by_logs}
use Rattle.run_records.proofs.SharedFreesIs.{TellsShared, shared_decides}
use Rattle.serial_laws.proofs.TurnsMade.{NothingMore, nothing_more}

-- One call more

-- what lies under the locks of a map that evicts
rests_by : (shape : Shape) (from : RunStart) (calls : List Call) → IsStart shape from.state → is_lru shape.kind ≡ true → All (IsServedCall shape) calls → IsAtRest shape (lies_in shape (come_from shape from calls))
rests_by shape from calls start lru served =
    (done_from shape from.number calls from.state (All-weaker (IsServedCall shape) (λ (call : Call). call.cpu < shape.cpus) (λ call is. is.cpu) calls served) start).1.rests lru

-- A call that is served is determined by its trace, wherever such a run has come to.
pub determined_by : (Fact : State → Turn → Type 0) (shape : Shape) (from : RunStart) (calls : List Call) (call : Call) (number : ℕ) → IsStart shape from.state → (is_lru shape.kind ≡ true → Decides Fact shape call.cpu) → All (IsServedCall shape) calls → IsServedCall shape call
    → IsDetermined Fact shape call.cpu number (come_from shape from calls) call.verb
determined_by Fact shape from calls call number start decides served own turns reply trace made each =
    by_bool (is_lru shape.kind) (λ _. IsAs (does shape call.cpu number (come_from shape from calls) call.verb) turns reply)
    (λ lru.
    evicting_call_is Fact shape call.cpu (supplies shape call.cpu own.cpu) (decides lru) lru number (come_from shape from calls) (rests_by shape from calls start lru served)
    ((come_from shape from calls).spares call.cpu) call.verb turns reply trace made each)
    (λ plain.
    plain_call_is Fact shape call.cpu number (λ state. Unit {0}) plain (plain_decides Fact shape call.cpu plain) (come_from shape from calls) tt call.verb turns reply trace made each)

pub run_next : (t : TableView) (from : RunStart) (calls : List Call) (n : ℕ) (call : Call) (p q : PassView) (number : ℕ) (reply : Reply) (replies after : List Reply)
    → IsShape t.shape → IsStart t.shape from.state → All (IsServedCall t.shape) calls → n < length calls → call ≡ get_or calls n call → number ≡ from.number + n
    → HaveRunFrom t from (take n calls) p replies → Called t (begun p call.cpu number) q call.verb reply → after ≡ replies ++ reply ∷ [] → HaveRunFrom t from (take (n + 1) calls) q after
run_next t from calls n call p q number reply replies after shape_is start served within is count ran called pushed =
    let before = All-take (IsServedCall t.shape) n calls served in
    let own : IsServedCall t.shape call = subst (IsServedCall t.shape) (sym is) (All-get_or (IsServedCall t.shape) calls n call within served) in
    by_bool t.shape.common (λ b. HaveRunFrom t from (take (n + 1) calls) q after)
    (λ shared.
    next_by_logs (TellsShared t.shape) t from calls n call p q number reply replies after shape_is
    (λ k. determined_by (TellsShared t.shape) t.shape from (take n calls) call k start (λ lru. shared_decides t.shape call.cpu shared own.cpu) before own) within is count ran called
    (λ state strand knows none. tells_shared t state strand p q call number reply shape_is knows called none shared) pushed)
    (λ apart.
    next_by_logs NothingMore t from calls n call p q number reply replies after shape_is
    (λ k. determined_by NothingMore t.shape from (take n calls) call k start (λ lru. own_decides NothingMore t.shape call.cpu apart own.cpu) before own) within is count ran called
    (λ state strand knows none. nothing_more t.shape call.cpu number (map (turn_at t.shape) called.steps) state) pushed)
