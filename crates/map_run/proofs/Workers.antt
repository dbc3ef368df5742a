-- Workers of a phase: passes split off the one that was there, and the workers at work.
use Rattle.std.proofs.Common.{◌≡◌, ◌≢◌, ℕ, suc, ◌+◌, ◌<◌, true, false, cond, eqb, All, List, [], ◌∷◌, ◌++◌, length, get_or, None, refl, ap, sym, ◌∙◌, subst, arith}
use Rattle.std.specs.Prelude.{filter}
use Rattle.std.proofs.lemmas.List.Elements.{All-nil, All-cons}
use Rattle.map_types.specs.declared.call.Call.{Call}
use Rattle.map_types.specs.declared.reply.Reply.{Reply}
use Rattle.map_types.proofs.RowLemmas.{by_test}
use Rattle.place_words.specs.declared.history.StrandStep.{StrandStep}
use Rattle.place_table.specs.declared.view.Ended.{Ended}
use Rattle.place_table.specs.declared.view.View.{View}
use Rattle.place_table.specs.Passes.{PassView, TableView, spare_of, IsKeptOf, Split}
use Rattle.place_table.specs.Views.{is_among, all_strands, without_cpu}
use Rattle.map_run.specs.declared.worker.Worker.{Worker}
use Rattle.run_records.specs.Phased.{IsWhole}
use Rattle.run_records.specs.Work.{HasWorked, has_turn}
use Rattle.map_run.specs.Workers.{IsSplitOff, IsReady, AreSplitOff, HaveDone, HaveEnded, HasDone, HasSplit}

-- CPUs

pub among_one : (n : ℕ) → is_among n (n ∷ []) ≡ true
among_one n = by_test n n (λ b. cond b true false ≡ true) (λ _. refl) (λ other. absurd (other refl))

pub not_among_one : (d n : ℕ) → d ≢ n → is_among d (n ∷ []) ≡ false
not_among_one d n other = by_test n d (λ b. cond b true false ≡ false) (λ is. absurd (other (sym is))) (λ _. refl)

pub among_append : (d : ℕ) (xs ys : List ℕ) → is_among d (xs ++ ys) ≡ cond (is_among d xs) true (is_among d ys)
among_append d [] ys = refl
among_append d (x ∷ xs) ys =
    let rest = among_append d xs ys in
    by_test x d (λ b. cond b true (is_among d (xs ++ ys)) ≡ cond (cond b true (is_among d xs)) true (is_among d ys)) (λ _. refl) (λ _. rest)

without_gone : (n : ℕ) (xs : List ℕ) → is_among n (without_cpu n xs) ≡ false
without_gone n [] = refl
without_gone n (x ∷ xs) =
    let rest = without_gone n xs in
    by_test x n (λ b. is_among n (cond b (without_cpu n xs) (x ∷ without_cpu n xs)) ≡ false) (λ _. rest)
    (λ other. by_test x n (λ b. cond b true (is_among n (without_cpu n xs)) ≡ false) (λ is. absurd (other is)) (λ _. rest))

without_other : (d n : ℕ) (xs : List ℕ) → d ≢ n → is_among d (without_cpu n xs) ≡ is_among d xs
without_other d n [] other = refl
without_other d n (x ∷ xs) other =
    let rest = without_other d n xs other in
    by_test x n (λ b. is_among d (cond b (without_cpu n xs) (x ∷ without_cpu n xs)) ≡ is_among d (x ∷ xs))
    (λ is. by_test x d (λ b. is_among d (without_cpu n xs) ≡ cond b true (is_among d xs)) (λ same. absurd (other (sym same ∙ is))) (λ _. rest))
    (λ _. by_test x d (λ b. cond b true (is_among d (without_cpu n xs)) ≡ cond b true (is_among d xs)) (λ _. refl) (λ _. rest))

-- a fact of each number below n + 1, from those of the numbers below n and that of n
pub below_more : (n : ℕ) (F : ℕ → Type 0) → F n → ((cpu : ℕ) → cpu ≢ n → cpu < n → F cpu) → (cpu : ℕ) → cpu < n + 1 → F cpu
below_more n F here before cpu less =
    by_test cpu n (λ _. F cpu) (λ is. subst F (sym is) here) (λ other. before cpu other (omega arith))

-- Passes split off

pub whole_split : (t : TableView) (p : PassView) → IsWhole t p → HasSplit t p 0 p
whole_split t p whole = record {
  of_table = whole.of_table;
  in_no_call = whole.in_no_call;
  gone = λ cpu none. absurd (omega arith);
  here = λ cpu _ below. whole.all_cpus cpu below;
  spares_gone = λ cpu none. absurd (omega arith);
  spares = λ cpu _. refl;
  strands = refl;
  reached = refl;
  refused = refl;
  lost = refl;
}

-- of CPUs one at least was split off, so no strand with a turn is left
none_left : (n : ℕ) (strands : List Ended) → [] ≡ cond (eqb (n + 1) 0) strands []
none_left n strands = by_test (n + 1) 0 (λ b. [] ≡ cond b strands []) (λ same. absurd (omega (arith, same))) (λ _. refl)

module _ {t : TableView} {start : PassView} {n : ℕ} {p q off : PassView} (before : HasSplit t start n p) (split : Split n p q off) where
  pub split_more : HasSplit t start (n + 1) q
  split_more =
      let is = split.after_is in
      record {
        of_table = (ap (λ (z : PassView). z.table) is ∙ before.of_table.0, ap (λ (z : PassView). z.view.shape) is ∙ before.of_table.1);
        in_no_call = split.in_no_call;
        gone = λ cpu less. ap (λ (z : PassView). is_among cpu z.view.cpus) is
            ∙ below_more n (λ c. is_among c (without_cpu n p.view.cpus) ≡ false) (without_gone n p.view.cpus)
            (λ c other below. without_other c n p.view.cpus other ∙ before.gone c below) cpu less;
        here = λ cpu from below. ap (λ (z : PassView). is_among cpu z.view.cpus) is
            ∙ (without_other cpu n p.view.cpus (λ same. omega arith) ∙ before.here cpu (omega arith) below);
        spares_gone = below_more n (λ c. spare_of c q.spares ≡ None) split.spare_gone (λ c other below. split.spares_stay c other ∙ before.spares_gone c below);
        spares = λ cpu from. split.spares_stay cpu (λ same. omega arith) ∙ before.spares cpu (omega arith);
        strands = ap (λ (z : PassView). filter has_turn (all_strands z.view)) is ∙ none_left n (filter has_turn (all_strands start.view));
        reached = ap (λ (z : PassView). z.view.reached) is ∙ before.reached;
        refused = ap (λ (z : PassView). z.view.refused) is ∙ before.refused;
        lost = ap (λ (z : PassView). z.view.lost) is ∙ before.lost;
      }

  pub off_split : IsSplitOff t start n off
  off_split = record {
    of_table = (split.table ∙ before.of_table.0, ap (λ (v : View). v.shape) split.view_is ∙ before.of_table.1);
    one_cpu = ap (λ (v : View). v.cpus) split.view_is;
    in_no_call = split.off_in_no_call;
    spare = split.spare_is ∙ before.spares n (omega arith);
    no_others = split.no_others;
    ended = ap (λ (v : View). filter has_turn v.ended) split.view_is ∙ before.strands;
    no_steps = (ap (λ (v : View). v.steps) split.view_is, ap (λ (v : View). v.kept) split.view_is);
    reached = ap (λ (v : View). v.reached) split.view_is ∙ before.reached;
    refused = ap (λ (v : View). v.refused) split.view_is ∙ before.refused;
    lost = ap (λ (v : View). v.lost) split.view_is ∙ before.lost;
  }

pub workers_more : (t : TableView) (start : PassView) (first n : ℕ) (workers : List Worker) (worker : Worker) → AreSplitOff t start first workers → n ≡ first + length workers
    → worker.cpu ≡ n → IsSplitOff t start n worker.pass → worker.replies ≡ [] → AreSplitOff t start first (workers ++ worker ∷ [])
workers_more t start first n [] worker have is cpu_is off none =
    subst (λ (k : ℕ). (worker.cpu ≡ k) × IsSplitOff t start k worker.pass × (worker.replies ≡ []) × Unit {0}) (let same : n ≡ first = omega arith in same) (cpu_is, off, none, tt)
workers_more t start first n (x ∷ workers) worker have is cpu_is off none =
    (have.0, have.1, have.2, workers_more t start (suc first) n workers worker have.3 (omega arith) cpu_is off none)

-- The workers at work

off_ready : (t : TableView) (start : PassView) (cpu : ℕ) (worker : Worker) → worker.cpu ≡ cpu → IsSplitOff t start cpu worker.pass → worker.replies ≡ [] → IsReady t worker
off_ready t start cpu worker cpu_is off none = record {
  of_table = off.of_table;
  has_cpu = (λ i. is_among (cpu_is i) (off.one_cpu i)) ∙ among_one cpu;
  in_no_call = off.in_no_call;
  none = none;
}

pub each_ready : (t : TableView) (start : PassView) (first : ℕ) (workers : List Worker) → AreSplitOff t start first workers → All (IsReady t) workers
each_ready t start first [] have = All-nil (IsReady t)
each_ready t start first (worker ∷ workers) have =
    All-cons (IsReady t) worker workers (off_ready t start first worker have.0 have.1 have.2) (each_ready t start (suc first) workers have.3)

pub all_done : (t : TableView) (number : ℕ) (calls : List Call) (before after : List Worker) → length after ≡ length before
    → ((k : ℕ) (d : Worker) → k < length before → HasDone t number calls (get_or before k d) (get_or after k d))
    → ((k : ℕ) (d : Worker) → k < length after → (get_or after k d).failed ≡ false) → HaveDone t number calls before after
all_done t number calls [] [] same done none = tt
all_done t number calls [] (y ∷ after) same done none = absurd (omega (arith, same))
all_done t number calls (x ∷ before) [] same done none = absurd (omega (arith, same))
all_done t number calls (x ∷ before) (y ∷ after) same done none =
    let own = done 0 x (omega arith) in (
      own.0,
      own.1 (none 0 y (omega arith)),
      all_done t number calls before after (omega arith) (λ k d less. done (suc k) d (omega arith)) (λ k d less. none (suc k) d (omega arith)),
    )

-- all that is there when the workers have made their calls
pub all_ended : (t : TableView) (number : ℕ) (calls : List Call) (start p : PassView) (cpus : ℕ) (before after : List Worker) → cpus ≡ t.shape.cpus → HasSplit t start cpus p → AreSplitOff t start 0 before
    → length before ≡ cpus → HaveDone t number calls before after → length after ≡ length before → HaveEnded t number calls start p after
all_ended t number calls start p cpus before after cpus_are split off count done same = record {
  split = subst (λ (n : ℕ). HasSplit t start n p) cpus_are split;
  before = before;
  off = off;
  done = done;
  count = same ∙ count ∙ cpus_are;
}

-- the steps that are recorded of a worker whose pass was split off
pub kept_off : {t : TableView} {start off : PassView} {cpu number : ℕ} {calls : List Call} {p : PassView} {replies : List Reply} → IsSplitOff t start cpu off → (worked : HasWorked t cpu number calls off p replies)
    → IsKeptOf t.shape worked.made [] p.view.kept
kept_off {t} {start} {off} {cpu} {number} {calls} {p} {replies} split worked = subst (λ (before : List StrandStep). IsKeptOf t.shape worked.made before p.view.kept) split.no_steps.1 worked.kept
