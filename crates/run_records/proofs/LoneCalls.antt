-- Calls that are all of one CPU.
use Rattle.std.proofs.Common.{◌≡◌, ◌≢◌, ◌||◌, ℕ, suc, ◌<◌, ◌≤◌, false, not, eqb, List, [], ◌∷◌, length, Option, Some, None, refl, ap, sym, ◌∙◌, subst, arith, ◌-◌, cond, take, drop, get_or}
use Rattle.std.specs.Prelude.{All, MatchBool, if◌then◌else◌, filter}
use Rattle.std.specs.List.{list_any}
use Rattle.std.proofs.lemmas.Bool.{eq-eqb}
use Rattle.std.proofs.lemmas.List.Elements.{All-nil, All-cons, All-head, All-tail}
use Rattle.std.proofs.lemmas.Option.{none-some, same_Some}
use Rattle.std.proofs.lemmas.List.{take_rest}
use Rattle.map_types.proofs.RowLemmas.{by_test}
use Rattle.map_types.specs.declared.attr.Shape.{Shape}
use Rattle.map_types.specs.declared.call.Call.{Call}
use Rattle.map_types.specs.declared.reply.Reply.{Reply}
use Rattle.run_records.specs.Parts.{lone_cpu}
use Rattle.file_order.specs.Replies.{count_of, replies_of}
use Rattle.run_records.specs.Work.{AreCallsBy}
use Rattle.serial_laws.proofs.HistoryTurns.{by_bool}
use Rattle.run_records.proofs.OwnCalls.{Begins}

abbrev pub AreOf : ℕ → List Call → Type 0
AreOf cpu calls = All (λ (call : Call). call.cpu ≡ cpu) calls

none_other : (cpu : ℕ) (calls : List Call) → list_any (λ (other : Call). not (eqb other.cpu cpu)) calls ≡ false → AreOf cpu calls
none_other cpu [] none = All-nil (λ (call : Call). call.cpu ≡ cpu)
none_other cpu (call ∷ calls) none =
    by_test call.cpu cpu (λ b. (not b || list_any (λ (other : Call). not (eqb other.cpu cpu)) calls) ≡ false → AreOf cpu (call ∷ calls))
    (λ is rest. All-cons (λ (c : Call). c.cpu ≡ cpu) call calls is (none_other cpu calls rest)) (λ other is. cc) none

some_other : (cpu : ℕ) (calls : List Call) → AreOf cpu calls → list_any (λ (other : Call). not (eqb other.cpu cpu)) calls ≡ false
some_other cpu [] are = refl
some_other cpu (call ∷ calls) are =
    ap (λ b. not b || list_any (λ (other : Call). not (eqb other.cpu cpu)) calls) (eq-eqb call.cpu cpu (All-head (λ (c : Call). c.cpu ≡ cpu) call calls are))
    ∙ some_other cpu calls (All-tail (λ (c : Call). c.cpu ≡ cpu) call calls are)

-- the CPU that makes all calls of a phase
pub lone_is : (calls : List Call) (cpu : ℕ) → lone_cpu calls ≡ Some cpu → AreOf cpu calls
lone_is [] cpu is = All-nil (λ (call : Call). call.cpu ≡ cpu)
lone_is (call ∷ calls) cpu is =
    by_bool (list_any (λ (other : Call). not (eqb other.cpu call.cpu)) calls)
    (λ b. list_any (λ (other : Call). not (eqb other.cpu call.cpu)) calls ≡ b → (if b then None else Some call.cpu) ≡ Some cpu → AreOf cpu (call ∷ calls))
    (λ _ _ none. absurd (none-some cpu none))
    (λ _ none one.
    let same : call.cpu ≡ cpu = same_Some call.cpu cpu one in
    subst (λ (c : ℕ). AreOf c (call ∷ calls)) same (All-cons (λ (c : Call). c.cpu ≡ call.cpu) call calls refl (none_other call.cpu calls none)))
    refl is

-- as the code finds it: the first call's, where no other CPU's is behind it
pub lone_found : (calls : List Call) (first : Call) (found : Option ℕ) → 1 ≤ length calls → first ≡ get_or calls 0 first
    → found ≡ cond (list_any (λ (other : Call). not (eqb other.cpu first.cpu)) (take (length calls - 1) (drop 1 calls))) None (Some first.cpu) → found ≡ lone_cpu calls
lone_found [] first found some is told = absurd (omega arith)
lone_found (call ∷ calls) first found some is told =
    subst (λ (c : Call). found ≡ cond (list_any (λ (other : Call). not (eqb other.cpu c.cpu)) calls) None (Some c.cpu)) is
    (told ∙ ap (λ (l : List Call). cond (list_any (λ (other : Call). not (eqb other.cpu first.cpu)) l) None (Some first.cpu)) (take_rest (call ∷ calls) 1))

pub lone_some : (calls : List Call) (cpu : ℕ) → AreOf cpu calls → (c : ℕ) × (lone_cpu calls ≡ Some c)
lone_some [] cpu are = (0, refl)
lone_some (call ∷ calls) cpu are =
    let here : call.cpu ≡ cpu = All-head (λ (c : Call). c.cpu ≡ cpu) call calls are in
    let rest = some_other call.cpu calls (subst (λ (c : ℕ). AreOf c calls) (sym here) (All-tail (λ (c : Call). c.cpu ≡ cpu) call calls are)) in
    (call.cpu, ap (λ b. if b then None else Some call.cpu) rest)

pub lone_within : (cpus : ℕ) (calls : List Call) (cpu : ℕ) → 0 < cpus → All (λ (call : Call). call.cpu < cpus) calls → lone_cpu calls ≡ Some cpu → cpu < cpus
lone_within cpus [] cpu some served is = subst (λ (c : ℕ). c < cpus) (same_Some 0 cpu is) some
lone_within cpus (call ∷ calls) cpu some served is =
    subst (λ (c : ℕ). c < cpus) (All-head (λ (c : Call). c.cpu ≡ cpu) call calls (lone_is (call ∷ calls) cpu is)) (All-head (λ (c : Call). c.cpu < cpus) call calls served)

-- another CPU makes none of these calls
pub calls_of_other : (shape : Shape) (cpu other number : ℕ) (calls : List Call) (spare last : Option ℕ) → other ≢ cpu → AreOf cpu calls → last ≡ spare → AreCallsBy shape other number calls spare last [] []
calls_of_other shape cpu other number [] spare last apart are same = (refl, refl, same)
calls_of_other shape cpu other number (call ∷ calls) spare last apart are same =
    let here : call.cpu ≡ cpu = All-head (λ (c : Call). c.cpu ≡ cpu) call calls are in
    let rest = calls_of_other shape cpu other (suc number) calls spare last apart (All-tail (λ (c : Call). c.cpu ≡ cpu) call calls are) same in
    by_test call.cpu other (λ b. MatchBool b (Begins shape other number call calls spare last [] []) (AreCallsBy shape other (suc number) calls spare last [] [])) (λ is. absurd (apart (sym is ∙ here))) (λ _. rest)

pub replies_of_other : (cpu other : ℕ) (calls : List Call) (replies : List Reply) → other ≢ cpu → AreOf cpu calls → replies_of other calls replies ≡ []
replies_of_other cpu other [] replies apart are = refl
replies_of_other cpu other (call ∷ calls) [] apart are = refl
replies_of_other cpu other (call ∷ calls) (reply ∷ replies) apart are =
    let here : call.cpu ≡ cpu = All-head (λ (c : Call). c.cpu ≡ cpu) call calls are in
    let rest = replies_of_other cpu other calls replies apart (All-tail (λ (c : Call). c.cpu ≡ cpu) call calls are) in
    by_test call.cpu other (λ b. (if b then reply ∷ replies_of other calls replies else replies_of other calls replies) ≡ []) (λ is. absurd (apart (sym is ∙ here))) (λ _. rest)

pub replies_of_one : (cpu : ℕ) (calls : List Call) (replies : List Reply) → AreOf cpu calls → length replies ≡ length calls → replies_of cpu calls replies ≡ replies
replies_of_one cpu [] [] are same = refl
replies_of_one cpu [] (reply ∷ replies) are same = absurd (omega (arith, same))
replies_of_one cpu (call ∷ calls) [] are same = refl
replies_of_one cpu (call ∷ calls) (reply ∷ replies) are same =
    ap (λ b. if b then reply ∷ replies_of cpu calls replies else replies_of cpu calls replies) (eq-eqb call.cpu cpu (All-head (λ (c : Call). c.cpu ≡ cpu) call calls are))
    ∙ ap (λ (l : List Reply). reply ∷ l) (replies_of_one cpu calls replies (All-tail (λ (c : Call). c.cpu ≡ cpu) call calls are) (omega (arith, same)))

pub count_of_one : (cpu : ℕ) (calls : List Call) → AreOf cpu calls → count_of cpu calls ≡ length calls
count_of_one cpu [] are = refl
count_of_one cpu (call ∷ calls) are =
    ap (λ b. length (if b then call ∷ filter (λ (c : Call). eqb c.cpu cpu) calls else filter (λ (c : Call). eqb c.cpu cpu) calls)) (eq-eqb call.cpu cpu (All-head (λ (c : Call). c.cpu ≡ cpu) call calls are))
    ∙ ap suc (count_of_one cpu calls (All-tail (λ (c : Call). c.cpu ≡ cpu) call calls are))
