use Rattle.std.proofs.Common.{◌≡◌, ℕ, ◌+◌, ◌<◌, List, [], ◌∷◌, ◌++◌, length, ap, sym, ◌∙◌, subst}
use Rattle.std.proofs.lemmas.List.{length-append, map-append, map-id}
use Rattle.std.proofs.lemmas.Iterator.Adapters.{YieldsList-from_vec}
use Rattle.std.proofs.lemmas.Iterator.Consumers.{YieldsList-turn, YieldsList-end}
use Rattle.map_types.specs.declared.reply.Reply.{Reply}
use Rattle.map_batch.specs.Calls.{table_of}
use Rattle.place_table.specs.Passes.{TableView, CanJoin}
use Rattle.map_run.specs.declared.worker.Worker.{Worker}
use Rattle.map_run.specs.Joined.{HaveJoined, told_by}
use Rattle.map_run.proofs.Joining.{WorkerAt, none_joined, can_join, joined_more, worker_at}
use Rattle.map_run.proofs.race.join_workers.Goals as goal

pub loop-worker-init : goal.loop-worker-init
loop-worker-init c = (
  tt,
  tt,
  λ number calls start ended. subst (λ (z : List (List Reply) × List ℕ). HaveJoined (table_of c.args.map.now) number calls start 0 c.args.pass.now z.0 z.1) (λ i. (sym c.in_ok-replies.ensures.items i, sym c.in_ok-counts.ensures.items i))
      (none_joined (table_of c.args.map.now) number calls start c.args.pass.now c.requires.shape ended.split),
  c.in_ok-replies.ensures.items,
)

pub join-requires : goal.join-requires
join-requires c =
    let t = (table_of c.args.map.now) in
    let n : ℕ = length c.loop-worker.yielded in
    let worker = c.in-Some.worker in
    let number = c.requires.ended.0 in
    let calls = c.requires.ended.1 in
    let start = c.requires.ended.2 in
    let ended = c.requires.ended.3 in
    let made = c.into_iter-worker-iterator.ensures.into_iter_gives in
    let turn = YieldsList-turn (YieldsList-from_vec {s = c.into_iter-worker-iterator.result} c.args.workers.items made.0 (made.1 ∙ c.args.workers.ok.0)) c.loop-worker.yielded c.loop-worker.worker-iterator c.loop-worker.yielded_by c.next.result c.next.new.self worker c.in-Some.is c.next.ensures.steps in
    let here : WorkerAt t number calls start n worker = subst (WorkerAt t number calls start n) (sym turn.1) (worker_at t number calls start c.args.pass.now c.args.workers.items n worker ended turn.0) in
    let real : n < t.shape.cpus = subst (λ (k : ℕ). n < k) ended.count turn.0 in
    subst (λ (z : TableView). CanJoin z c.loop-worker.pass worker.pass) (sym c.table.ensures.value) (can_join (c.loop-worker.invariant.2 number calls start ended) real here.split here.worked)

pub loop-worker-preserved : goal.loop-worker-preserved
loop-worker-preserved c =
    let t = (table_of c.args.map.now) in
    let n : ℕ = length c.loop-worker.yielded in
    let worker = c.in-Some.worker in
    let made = c.into_iter-worker-iterator.ensures.into_iter_gives in
    let turn = YieldsList-turn (YieldsList-from_vec {s = c.into_iter-worker-iterator.result} c.args.workers.items made.0 (made.1 ∙ c.args.workers.ok.0)) c.loop-worker.yielded c.loop-worker.worker-iterator c.loop-worker.yielded_by c.next.result c.next.new.self worker c.in-Some.is c.next.ensures.steps in (
      tt,
      tt,
      λ number calls start ended.
          let here : WorkerAt t number calls start n worker = subst (WorkerAt t number calls start n) (sym turn.1) (worker_at t number calls start c.args.pass.now c.args.workers.items n worker ended turn.0) in
          let real : n < t.shape.cpus = subst (λ (k : ℕ). n < k) ended.count turn.0 in
          let one_more : n + 1 ≡ length (c.loop-worker.yielded ++ worker ∷ []) = sym (length-append c.loop-worker.yielded (worker ∷ [])) in
          let lists : c.loop-worker.replies.items ++ worker.replies ∷ [] ≡ c.push-in-loop-worker.new.self.items = sym {A = List (List Reply)} c.in_ok-push-2.ensures.items in
          let counted : c.push.new.self.items ≡ c.loop-worker.counts.items ++ length worker.pass.view.kept ∷ [] = c.in_ok-push.ensures.items ∙ ap (λ (k : ℕ). c.loop-worker.counts.items ++ k ∷ []) c.step_count.ensures in
          let counts : c.loop-worker.counts.items ++ length worker.pass.view.kept ∷ [] ≡ c.push.new.self.items = sym {A = List ℕ} counted in
          subst (λ (z : ℕ × List (List Reply) × List ℕ). HaveJoined t number calls start z.0 c.join.new.pass z.1 z.2)
          (λ i. (one_more i, lists i, counts i))
          (joined_more (c.loop-worker.invariant.2 number calls start ended) real here.split here.worked c.join.ensures),
      let pushed : c.push-in-loop-worker.new.self.items ≡ c.loop-worker.replies.items ++ worker.replies ∷ [] = c.in_ok-push-2.ensures.items in
          pushed ∙ ap (λ (l : List (List Reply)). l ++ worker.replies ∷ []) c.loop-worker.invariant.3
          ∙ sym (map-append (λ (w : Worker). w.replies) c.loop-worker.yielded (worker ∷ [])),
    )

pub returns-clause-joined : goal.returns-clause-joined
returns-clause-joined c =
    let t = (table_of c.args.map.now) in
    let made = c.into_iter-worker-iterator.ensures.into_iter_gives in
    let end = YieldsList-end (YieldsList-from_vec {s = c.into_iter-worker-iterator.result} c.args.workers.items made.0 (made.1 ∙ c.args.workers.ok.0)) c.loop-worker.yielded c.loop-worker.worker-iterator c.loop-worker.yielded_by c.next.result c.next.new.self c.in-None.is c.next.ensures.steps in
    λ number calls start ended.
    subst (λ (k : ℕ). HaveJoined t number calls start k c.loop-worker.pass c.loop-worker.replies.items c.loop-worker.counts.items) (end.1 ∙ ended.count) (c.loop-worker.invariant.2 number calls start ended)

pub returns-clause-replies : goal.returns-clause-replies
returns-clause-replies c =
    let made = c.into_iter-worker-iterator.ensures.into_iter_gives in
    let end = YieldsList-end (YieldsList-from_vec {s = c.into_iter-worker-iterator.result} c.args.workers.items made.0 (made.1 ∙ c.args.workers.ok.0)) c.loop-worker.yielded c.loop-worker.worker-iterator c.loop-worker.yielded_by c.next.result c.next.new.self c.in-None.is c.next.ensures.steps in
    c.loop-worker.invariant.3 ∙ ap told_by (sym (map-id c.loop-worker.yielded) ∙ end.0)
