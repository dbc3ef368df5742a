-- The calls of a phase, and behind them those of a CPU that has none of them.
use Rattle.std.proofs.Common.{◌≡◌, ◌≢◌, ℕ, suc, ◌+◌, ◌<◌, Bool, true, false, cond, eqb, All, List, [], ◌∷◌, ◌++◌, length, map, Option, None, Some, refl, ap, sym, ◌∙◌, subst, arith}
use Rattle.std.specs.Prelude.{MatchBool, filter, not, ◌||◌}
use Rattle.std.specs.List.{list_any}
use Rattle.std.proofs.lemmas.List.{length-append}
use Rattle.std.proofs.lemmas.List.Elements.{All-nil, All-cons, All-head, All-tail, filter-append}
use Rattle.map_types.specs.declared.attr.Shape.{Shape}
use Rattle.map_types.specs.declared.call.Call.{Call}
use Rattle.map_types.specs.declared.reply.Reply.{Reply}
use Rattle.map_types.proofs.RowLemmas.{by_test}
use Rattle.map_script.specs.WellFormed.{AreOfOthers}
use Rattle.map_copy.specs.Copied.{Step}
use Rattle.map_copy.specs.CopyScripts.{read_call}
use Rattle.place_words.specs.Walks.{spare_left}
use Rattle.place_table.specs.declared.view.Turned.{Turned}
use Rattle.place_table.specs.Calls.{element_of}
use Rattle.place_table.specs.Known.{turn_at}
use Rattle.place_table.specs.Passes.{PassView, TableView, spare_of}
use Rattle.file_order.specs.Replies.{count_of, replies_of}
use Rattle.run_records.specs.Parts.{lone_cpu}
use Rattle.run_records.specs.Work.{AreCallsBy, HasWorked}
use Rattle.run_records.proofs.LoneCalls.{AreOf, calls_of_other}
use Rattle.run_records.proofs.OwnCalls.{Begins}

-- the calls of a CPU, behind calls of others, and before them
module _ (shape : Shape) (cpu : ℕ) where
  calls_behind : (number : ℕ) (calls more : List Call) (spare last : Option ℕ) (replies : List Reply) (steps : List Turned) → All (λ (call : Call). call.cpu ≢ cpu) calls
      → AreCallsBy shape cpu (number + length calls) more spare last replies steps → AreCallsBy shape cpu number (calls ++ more) spare last replies steps
  calls_behind number [] more spare last replies steps others are =
      subst (λ (k : ℕ). AreCallsBy shape cpu k more spare last replies steps) (let same : number + 0 ≡ number = omega arith in same) are
  calls_behind number (call ∷ calls) more spare last replies steps others are =
      by_test call.cpu cpu
      (λ b. MatchBool b (Begins shape cpu number call (calls ++ more) spare last replies steps) (AreCallsBy shape cpu (suc number) (calls ++ more) spare last replies steps))
      (λ is. absurd (All-head (λ (c : Call). c.cpu ≢ cpu) call calls others is))
      (λ _. calls_behind (suc number) calls more spare last replies steps (All-tail (λ (c : Call). c.cpu ≢ cpu) call calls others)
      (subst (λ (k : ℕ). AreCallsBy shape cpu k more spare last replies steps) (let same : number + suc (length calls) ≡ suc number + length calls = omega arith in same) are))

  calls_before : (other number : ℕ) (calls more : List Call) (spare last : Option ℕ) (replies : List Reply) (steps : List Turned) → cpu ≢ other → AreOf other more
      → AreCallsBy shape cpu number calls spare last replies steps → AreCallsBy shape cpu number (calls ++ more) spare last replies steps
  calls_before other number [] more spare last replies steps apart of are =
      subst (λ (z : List Reply × List Turned). AreCallsBy shape cpu number more spare last z.0 z.1) (λ i. (sym are.0 i, sym are.1 i))
      (calls_of_other shape other cpu number more spare last apart of are.2)
  calls_before other number (call ∷ calls) more spare last replies steps apart of are =
      by_test call.cpu cpu
      (λ b. MatchBool b (Begins shape cpu number call calls spare last replies steps) (AreCallsBy shape cpu (suc number) calls spare last replies steps)
      → MatchBool b (Begins shape cpu number call (calls ++ more) spare last replies steps) (AreCallsBy shape cpu (suc number) (calls ++ more) spare last replies steps))
      (λ _ y. (y.0, y.1, y.2, y.3, y.4, y.5, y.6, calls_before other (suc number) calls more (spare_left shape spare (map (turn_at shape) y.0)) last y.3 y.1 apart of y.7))
      (λ _ y. calls_before other (suc number) calls more spare last replies steps apart of y)
      are

-- how many calls a CPU has among both, and its replies

pub count_both : (cpu : ℕ) (calls more : List Call) → count_of cpu (calls ++ more) ≡ count_of cpu calls + count_of cpu more
count_both cpu calls more =
    ap length (filter-append (λ (call : Call). eqb call.cpu cpu) calls more) ∙ length-append (filter (λ (call : Call). eqb call.cpu cpu) calls) (filter (λ (call : Call). eqb call.cpu cpu) more)

pub count_none : (cpu : ℕ) (calls : List Call) → All (λ (call : Call). call.cpu ≢ cpu) calls → count_of cpu calls ≡ 0
count_none cpu [] others = refl
count_none cpu (call ∷ calls) others =
    let rest = count_none cpu calls (All-tail (λ (c : Call). c.cpu ≢ cpu) call calls others) in
    by_test call.cpu cpu (λ b. length (cond b (call ∷ filter (λ (c : Call). eqb c.cpu cpu) calls) (filter (λ (c : Call). eqb c.cpu cpu) calls)) ≡ 0)
    (λ is. absurd (All-head (λ (c : Call). c.cpu ≢ cpu) call calls others is)) (λ _. rest)

pub replies_both : (cpu : ℕ) (calls more : List Call) (replies others : List Reply) → length replies ≡ length calls → replies_of cpu (calls ++ more) (replies ++ others) ≡ replies_of cpu calls replies ++ replies_of cpu more others
replies_both cpu [] more [] others same = refl
replies_both cpu [] more (reply ∷ replies) others same = absurd (omega (arith, same))
replies_both cpu (call ∷ calls) more [] others same = absurd (omega (arith, same))
replies_both cpu (call ∷ calls) more (reply ∷ replies) others same =
    let rest = replies_both cpu calls more replies others (omega (arith, same)) in
    by_test call.cpu cpu
    (λ b. cond b (reply ∷ replies_of cpu (calls ++ more) (replies ++ others)) (replies_of cpu (calls ++ more) (replies ++ others))
    ≡ cond b (reply ∷ replies_of cpu calls replies) (replies_of cpu calls replies) ++ replies_of cpu more others)
    (λ _. ap (λ (l : List Reply). reply ∷ l) rest) (λ _. rest)

pub replies_none : (cpu : ℕ) (calls : List Call) (replies : List Reply) → All (λ (call : Call). call.cpu ≢ cpu) calls → replies_of cpu calls replies ≡ []
replies_none cpu [] replies others = refl
replies_none cpu (call ∷ calls) [] others = refl
replies_none cpu (call ∷ calls) (reply ∷ replies) others =
    let rest = replies_none cpu calls replies (All-tail (λ (c : Call). c.cpu ≢ cpu) call calls others) in
    by_test call.cpu cpu (λ b. cond b (reply ∷ replies_of cpu calls replies) (replies_of cpu calls replies) ≡ [])
    (λ is. absurd (All-head (λ (c : Call). c.cpu ≢ cpu) call calls others is)) (λ _. rest)

-- The reads of a copy

pub reads_own : (steps : List Step) → AreOf 0 (map read_call steps)
reads_own [] = All-nil (λ (call : Call). call.cpu ≡ 0)
reads_own (step ∷ steps) = All-cons (λ (call : Call). call.cpu ≡ 0) (read_call step) (map read_call steps) refl (reads_own steps)

pub count_of_other : (cpu other : ℕ) (calls : List Call) → other ≢ cpu → AreOf cpu calls → count_of other calls ≡ 0
count_of_other cpu other [] apart are = refl
count_of_other cpu other (call ∷ calls) apart are =
    let here : call.cpu ≡ cpu = All-head (λ (c : Call). c.cpu ≡ cpu) call calls are in
    let rest = count_of_other cpu other calls apart (All-tail (λ (c : Call). c.cpu ≡ cpu) call calls are) in
    by_test call.cpu other (λ b. length (cond b (call ∷ filter (λ (c : Call). eqb c.cpu other) calls) (filter (λ (c : Call). eqb c.cpu other) calls)) ≡ 0)
    (λ is. absurd (apart (sym is ∙ here))) (λ _. rest)

-- the worker of CPU 0, which has made the reads alone
pub reads_worked : (t : TableView) (before : ℕ) (calls : List Call) (steps : List Step) (start p : PassView) (reads : List Reply) → AreOfOthers calls
    → HasWorked t 0 (suc (before + length calls)) (map read_call steps) start p reads → HasWorked t 0 (suc before) (calls ++ map read_call steps) start p reads
reads_worked t before calls steps start p reads others worked = record {
  of_table = worked.of_table;
  cpus = worked.cpus;
  in_no_call = worked.in_no_call;
  other_spares = worked.other_spares;
  ended = worked.ended;
  made = worked.made;
  steps = worked.steps;
  kept = worked.kept;
  tickets = worked.tickets;
  refused = worked.refused;
  lost = worked.lost;
  counted =
      let both = count_both 0 calls (map read_call steps) in
      let no_other = count_none 0 calls others in
      worked.counted ∙ omega (arith, both, no_other);
  calls_are = λ none. calls_behind t.shape 0 (suc before) calls (map read_call steps) (element_of (spare_of 0 start.spares)) (element_of (spare_of 0 p.spares)) reads worked.made others
      (subst (λ (k : ℕ). AreCallsBy t.shape 0 k (map read_call steps) (element_of (spare_of 0 start.spares)) (element_of (spare_of 0 p.spares)) reads worked.made) (let same : suc (before + length calls) ≡ suc before + length calls = omega arith in same) (worked.calls_are none));
}

-- that of another CPU, which has made its calls alone
pub others_worked : (t : TableView) (cpu number : ℕ) (calls : List Call) (steps : List Step) (start p : PassView) (replies : List Reply) → cpu ≢ 0
    → HasWorked t cpu number calls start p replies → HasWorked t cpu number (calls ++ map read_call steps) start p replies
others_worked t cpu number calls steps start p replies apart worked = record {
  of_table = worked.of_table;
  cpus = worked.cpus;
  in_no_call = worked.in_no_call;
  other_spares = worked.other_spares;
  ended = worked.ended;
  made = worked.made;
  steps = worked.steps;
  kept = worked.kept;
  tickets = worked.tickets;
  refused = worked.refused;
  lost = worked.lost;
  counted =
      let both = count_both cpu calls (map read_call steps) in
      let no_more = count_of_other 0 cpu (map read_call steps) apart (reads_own steps) in
      worked.counted ∙ omega (arith, both, no_more);
  calls_are = λ none. calls_before t.shape cpu 0 number calls (map read_call steps) (element_of (spare_of cpu start.spares)) (element_of (spare_of cpu p.spares)) replies worked.made apart (reads_own steps) (worked.calls_are none);
}

-- Whether one CPU makes all

pub reads_alone : (steps : List Step) → lone_cpu (map read_call steps) ≡ Some 0
reads_alone [] = refl
reads_alone (step ∷ steps) = ap (λ b. cond b None (Some 0)) (none_other steps)
  where
    none_other : (steps : List Step) → list_any (λ (other : Call). not (eqb other.cpu 0)) (map read_call steps) ≡ false
    none_other [] = refl
    none_other (step ∷ steps) = none_other steps

or_so : (b c : Bool) → c ≡ true → (b || c) ≡ true
or_so true c is = refl
or_so false c is = is

-- of calls and others behind them, some is another CPU's
any_behind : (cpu : ℕ) (calls more : List Call) → list_any (λ (other : Call). not (eqb other.cpu cpu)) more ≡ true → list_any (λ (other : Call). not (eqb other.cpu cpu)) (calls ++ more) ≡ true
any_behind cpu [] more is = is
any_behind cpu (call ∷ calls) more is = or_so (not (eqb call.cpu cpu)) (list_any (λ (other : Call). not (eqb other.cpu cpu)) (calls ++ more)) (any_behind cpu calls more is)

pub reads_beside : (calls : List Call) (step : Step) (steps : List Step) → 0 < length calls → AreOfOthers calls → lone_cpu (calls ++ map read_call (step ∷ steps)) ≡ None
reads_beside [] step steps some others = absurd (omega (arith, some))
reads_beside (call ∷ calls) step steps some others =
    ap (λ b. cond b None (Some call.cpu))
    (any_behind call.cpu calls (map read_call (step ∷ steps))
    (by_test 0 call.cpu (λ b. (not b || list_any (λ (other : Call). not (eqb other.cpu call.cpu)) (map read_call steps)) ≡ true)
    (λ is. absurd (All-head (λ (c : Call). c.cpu ≢ 0) call calls others (sym is))) (λ _. refl)))
