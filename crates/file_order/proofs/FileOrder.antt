-- Replies that are taken one by one, in the order of the calls, each from those of its call's CPU.
use Rattle.std.proofs.Common.{◌≡◌, ◌≢◌, ℕ, zero, suc, ◌+◌, ◌<◌, ◌≤◌, Bool, cond, eqb, List, [], ◌∷◌, ◌++◌, length, get_or, take, drop, Some, slice_get, refl, ap, sym, ◌∙◌, subst, arith, append_assoc, append-nil}
use Rattle.std.specs.Prelude.{filter}
use Rattle.std.proofs.lemmas.List.{length-append, length-take-le, take-append-drop}
use Rattle.std.proofs.lemmas.List.Elements.{filter-append}
use Rattle.std.proofs.lemmas.Option.{none-some, same_Some, slice_get_read}
use Rattle.map_types.specs.declared.call.Call.{Call}
use Rattle.map_types.specs.declared.reply.Reply.{Reply}
use Rattle.map_types.proofs.RowLemmas.{by_test}
use Rattle.file_order.specs.Replies.{count_of, replies_by, replies_of}

-- The call of an index

pub take_next : (calls : List Call) (n : ℕ) (call : Call) → slice_get calls n ≡ Some call → take (suc n) calls ≡ take n calls ++ call ∷ []
take_next [] n call is = absurd (none-some call is)
take_next (first ∷ calls) zero call is = ap (λ (c : Call). c ∷ []) (same_Some first call is)
take_next (first ∷ calls) (suc n) call is = ap (λ (rest : List Call). first ∷ rest) (take_next calls n call is)

-- The calls of a CPU, by one call more

abbrev is_on : ℕ → Call → Bool
is_on cpu call = eqb call.cpu cpu

count_more : (cpu : ℕ) (calls : List Call) (call : Call) → count_of cpu (calls ++ call ∷ []) ≡ count_of cpu calls + length (cond (is_on cpu call) (call ∷ []) [])
count_more cpu calls call = ap length (filter-append (is_on cpu) calls (call ∷ [])) ∙ length-append (filter (is_on cpu) calls) (filter (is_on cpu) (call ∷ []))

pub count_own : (cpu : ℕ) (calls : List Call) (call : Call) → call.cpu ≡ cpu → count_of cpu (calls ++ call ∷ []) ≡ count_of cpu calls + 1
count_own cpu calls call own =
    count_more cpu calls call ∙ ap (λ (k : ℕ). count_of cpu calls + k) (by_test call.cpu cpu (λ b. length (cond b (call ∷ []) []) ≡ 1) (λ _. refl) (λ other. absurd (other own)))

pub count_other : (cpu : ℕ) (calls : List Call) (call : Call) → call.cpu ≢ cpu → count_of cpu (calls ++ call ∷ []) ≡ count_of cpu calls
count_other cpu calls call other =
    count_more cpu calls call ∙ ap (λ (k : ℕ). count_of cpu calls + k) (by_test call.cpu cpu (λ b. length (cond b (call ∷ []) []) ≡ 0) (λ own. absurd (other own)) (λ _. refl))
    ∙ (let same : count_of cpu calls + 0 ≡ count_of cpu calls = omega arith in same)

pub calls_taken : (calls : List Call) (n : ℕ) (call : Call) → n < length calls → call ≡ get_or calls n call → take (n + 1) calls ≡ take n calls ++ call ∷ []
calls_taken calls n call within is =
    let next : n + 1 ≡ suc n = omega arith in
    ap (λ (k : ℕ). take k calls) next ∙ take_next calls n call (slice_get_read calls (length calls) n call refl within is)

-- The replies of a CPU that are left

-- of the replies of a CPU those to these calls were taken, and the others are left
abbrev pub AreTaken : List Call → List Call → List Reply → List (List Reply) → List (List Reply) → ℕ → Type 0
AreTaken taken calls all left lists cpu =
    (replies_of cpu taken all ++ replies_by cpu left ≡ replies_by cpu lists) × (count_of cpu taken + length (replies_by cpu left) ≡ count_of cpu calls)

replies_more : (cpu : ℕ) (calls : List Call) (call : Call) (replies : List Reply) (reply : Reply) → length replies ≡ length calls
    → replies_of cpu (calls ++ call ∷ []) (replies ++ reply ∷ []) ≡ replies_of cpu calls replies ++ cond (eqb call.cpu cpu) (reply ∷ []) []
replies_more cpu [] call [] reply same = refl
replies_more cpu [] call (y ∷ replies) reply same = absurd (omega (arith, same))
replies_more cpu (x ∷ calls) call [] reply same = absurd (omega (arith, same))
replies_more cpu (x ∷ calls) call (y ∷ replies) reply same =
    let rest = replies_more cpu calls call replies reply (omega arith) in
    by_test x.cpu cpu
    (λ b. cond b (y ∷ replies_of cpu (calls ++ call ∷ []) (replies ++ reply ∷ [])) (replies_of cpu (calls ++ call ∷ []) (replies ++ reply ∷ []))
    ≡ cond b (y ∷ replies_of cpu calls replies) (replies_of cpu calls replies) ++ cond (eqb call.cpu cpu) (reply ∷ []) [])
    (λ _. ap (λ (l : List Reply). y ∷ l) rest) (λ _. rest)

count_within : (cpu : ℕ) (some others : List Call) → count_of cpu some ≤ count_of cpu (some ++ others)
count_within cpu some others =
    let both : count_of cpu (some ++ others) ≡ count_of cpu some + count_of cpu others = ap length (filter-append (λ (call : Call). eqb call.cpu cpu) some others) ∙ length-append (filter (λ (call : Call). eqb call.cpu cpu) some) (filter (λ (call : Call). eqb call.cpu cpu) others) in
    omega arith

pub some_left : (cpu : ℕ) (taken rest : List Call) (call : Call) (all : List Reply) (left lists : List (List Reply)) → call.cpu ≡ cpu
    → AreTaken taken ((taken ++ call ∷ []) ++ rest) all left lists cpu → replies_by cpu left ≢ []
some_left cpu taken rest call all left lists own are none =
    let one = count_own cpu taken call own in
    let within = count_within cpu (taken ++ call ∷ []) rest in
    let told = are.1 in
    let empty : length (replies_by cpu left) ≡ 0 = ap length none in
    absurd (omega arith)

pub taken_more : (cpu : ℕ) (taken calls : List Call) (call : Call) (all : List Reply) (reply : Reply) (left after lists : List (List Reply)) → length all ≡ length taken
    → replies_by call.cpu left ≡ reply ∷ replies_by call.cpu after → (cpu ≢ call.cpu → replies_by cpu after ≡ replies_by cpu left)
    → AreTaken taken calls all left lists cpu → AreTaken (taken ++ call ∷ []) calls (all ++ reply ∷ []) after lists cpu
taken_more cpu taken calls call all reply left after lists same first others are =
    by_test call.cpu cpu (λ b. cond {A = List Reply} (eqb call.cpu cpu) (reply ∷ []) [] ≡ cond b (reply ∷ []) [] → AreTaken (taken ++ call ∷ []) calls (all ++ reply ∷ []) after lists cpu)
    (λ own chosen.
    let here : replies_by cpu left ≡ reply ∷ replies_by cpu after = subst (λ (c : ℕ). replies_by c left ≡ reply ∷ replies_by c after) own first in (
      ap (λ (l : List Reply). l ++ replies_by cpu after) (replies_more cpu taken call all reply same ∙ ap (λ (l : List Reply). replies_of cpu taken all ++ l) chosen)
          ∙ append_assoc (replies_of cpu taken all) (reply ∷ []) (replies_by cpu after) ∙ ap (λ (l : List Reply). replies_of cpu taken all ++ l) (sym here) ∙ are.0,
      (let one = count_own cpu taken call own in let long : length (replies_by cpu left) ≡ suc (length (replies_by cpu after)) = ap length here in let told = are.1 in omega arith),
    ))
    (λ other chosen.
    let stays = others (λ is. other (sym is)) in (
      ap (λ (l : List Reply). l ++ replies_by cpu after) (replies_more cpu taken call all reply same ∙ ap (λ (l : List Reply). replies_of cpu taken all ++ l) chosen ∙ append-nil (replies_of cpu taken all))
          ∙ ap (λ (l : List Reply). replies_of cpu taken all ++ l) stays ∙ are.0,
      ap (λ (k : ℕ). k + length (replies_by cpu after)) (count_other cpu taken call other) ∙ ap (λ (l : List Reply). count_of cpu taken + length l) stays ∙ are.1,
    ))
    refl

pub reply_left : (calls : List Call) (n : ℕ) (call : Call) (all : List Reply) (left lists : List (List Reply)) → n < length calls → call ≡ get_or calls n call
    → AreTaken (take n calls) calls all left lists call.cpu → replies_by call.cpu left ≢ []
reply_left calls n call all left lists within is are =
    let whole : (take n calls ++ call ∷ []) ++ drop (n + 1) calls ≡ calls =
    ap (λ (l : List Call). l ++ drop (n + 1) calls) (sym (calls_taken calls n call within is)) ∙ take-append-drop (n + 1) calls in
    some_left call.cpu (take n calls) (drop (n + 1) calls) call all left lists refl (subst (λ (l : List Call). AreTaken (take n calls) l all left lists call.cpu) (sym whole) are)

pub reply_taken : (calls : List Call) (n : ℕ) (call : Call) (all more : List Reply) (reply : Reply) (left after lists : List (List Reply)) (cpu : ℕ) → n < length calls → call ≡ get_or calls n call
    → length all ≡ n → replies_by call.cpu left ≡ reply ∷ replies_by call.cpu after → (cpu ≢ call.cpu → replies_by cpu after ≡ replies_by cpu left) → more ≡ all ++ reply ∷ []
    → AreTaken (take n calls) calls all left lists cpu → AreTaken (take (n + 1) calls) calls more after lists cpu
reply_taken calls n call all more reply left after lists cpu within is counted first others pushed are =
    subst (λ (z : List Call × List Reply). AreTaken z.0 calls z.1 after lists cpu) (λ i. (sym (calls_taken calls n call within is) i, sym pushed i))
    (taken_more cpu (take n calls) calls call all reply left after lists (counted ∙ sym (length-take-le n calls (omega arith))) first others are)
