-- A run in serial order, cut into phases: the calls of a phase are run from the state that those before it leave.
use Rattle.std.proofs.Common.{◌≡◌, ℕ, zero, suc, ◌+◌, ◌-◌, ◌≤◌, List, [], ◌∷◌, ◌++◌, length, take, drop, refl, ap, sym, ◌∙◌, arith}
use Rattle.std.proofs.lemmas.List.{take-append-drop, length-take-le}
use Rattle.std.proofs.Math.Seq.{drop-append_seam, take-append_seam}
use Rattle.map_types.specs.declared.attr.Shape.{Shape}
use Rattle.map_types.specs.declared.call.Call.{Call}
use Rattle.map_types.specs.declared.reply.Reply.{Reply}
use Rattle.place_words.specs.Logs.{State, new_state, after_one, does, run, answers}
use Rattle.place_words.specs.Phases.{calls_before, of_phase}
use Rattle.map_script.specs.declared.script.Script.{Script}
use Rattle.map_report.specs.Runs.{state_before}
use Rattle.map_report.proofs.CutLemmas.{Rise, next_phase, before_end}

-- Lists

take_none : {A : Type 0} (n : ℕ) → take {A = A} n [] ≡ []
take_none zero = refl
take_none (suc n) = refl

pub take_more : {A : Type 0} (a b : ℕ) (xs : List A) → a ≤ b → take b xs ≡ take a xs ++ take (b - a) (drop a xs)
take_more zero b xs less = let same : b ≡ b - 0 = omega arith in ap (λ (n : ℕ). take n xs) same
take_more (suc a) zero xs less = absurd (omega (arith, less))
take_more (suc a) (suc b) [] less = sym (take_none (suc b - suc a))
take_more (suc a) (suc b) (x ∷ xs) less =
    let same : b - a ≡ suc b - suc a = omega arith in
    ap (λ (l : List _). x ∷ l) (take_more a b xs (omega (arith, less)) ∙ ap (λ (n : ℕ). take a xs ++ take n (drop a xs)) same)

pub length_drop : {A : Type 0} (a : ℕ) (xs : List A) → a ≤ length xs → length (drop a xs) + a ≡ length xs
length_drop zero xs less = omega arith
length_drop (suc a) [] less = absurd (omega (arith, less))
length_drop (suc a) (x ∷ xs) less = let rest = length_drop a xs (omega (arith, less)) in omega (arith, rest)

-- Runs

pub run_both : (shape : Shape) (number : ℕ) (xs ys : List Call) (state : State) → run shape number (xs ++ ys) state ≡ run shape (number + length xs) ys (run shape number xs state)
run_both shape number [] ys state = let same : number ≡ number + 0 = omega arith in ap (λ (n : ℕ). run shape n ys state) same
run_both shape number (x ∷ xs) ys state =
    let same : suc number + length xs ≡ number + suc (length xs) = omega arith in
    run_both shape (suc number) xs ys (after_one shape number x state) ∙ ap (λ (n : ℕ). run shape n ys (run shape (suc number) xs (after_one shape number x state))) same

pub answers_both : (shape : Shape) (number : ℕ) (xs ys : List Call) (state : State)
    → answers shape number (xs ++ ys) state ≡ answers shape number xs state ++ answers shape (number + length xs) ys (run shape number xs state)
answers_both shape number [] ys state = let same : number ≡ number + 0 = omega arith in ap (λ (n : ℕ). answers shape n ys state) same
answers_both shape number (x ∷ xs) ys state =
    let same : suc number + length xs ≡ number + suc (length xs) = omega arith in
    ap (λ (l : List Reply). (does shape x.cpu number state x.verb).reply ∷ l) (answers_both shape (suc number) xs ys (after_one shape number x state)
    ∙ ap (λ (n : ℕ). answers shape (suc number) xs (after_one shape number x state) ++ answers shape n ys (run shape (suc number) xs (after_one shape number x state))) same)

pub answers_each : (shape : Shape) (number : ℕ) (calls : List Call) (state : State) → length (answers shape number calls state) ≡ length calls
answers_each shape number [] state = refl
answers_each shape number (call ∷ calls) state = ap suc (answers_each shape (suc number) calls (after_one shape number call state))

-- Phases

module _ (script : Script) (are : Rise 0 script.cuts (length script.calls)) where
  abbrev shape : Shape
  shape = script.shape

  abbrev cuts : List ℕ
  cuts = script.cuts

  abbrev calls : List Call
  calls = script.calls

  abbrev at : ℕ → ℕ
  at p = calls_before cuts (length calls) p

  -- the calls up to the end of a phase
  pub calls_then : (p : ℕ) → take (at (suc p)) calls ≡ take (at p) calls ++ of_phase cuts p calls
  calls_then p = take_more (at p) (at (suc p)) calls (next_phase cuts (length calls) are p)

  pub taken_before : (p : ℕ) → length (take (at p) calls) ≡ at p
  taken_before p = length-take-le (at p) calls (before_end cuts (length calls) are p)

  -- a phase's calls lead from the state before it to that before the next one
  pub next_state : (p : ℕ) → run shape (suc (at p)) (of_phase cuts p calls) (state_before script p) ≡ state_before script (suc p)
  next_state p =
      let same : 1 + length (take (at p) calls) ≡ suc (at p) = omega (arith, taken_before p) in
      sym (ap (λ (l : List Call). run shape 1 l (new_state shape)) (calls_then p) ∙ (run_both shape 1 (take (at p) calls) (of_phase cuts p calls) (new_state shape)
      ∙ ap (λ (n : ℕ). run shape n (of_phase cuts p calls) (state_before script p)) same))

  -- and the state before a phase, to the end
  pub end_state : (p : ℕ) → run shape 1 calls (new_state shape) ≡ run shape (suc (at p)) (drop (at p) calls) (state_before script p)
  end_state p =
      let same : 1 + length (take (at p) calls) ≡ suc (at p) = omega (arith, taken_before p) in
      ap (λ (l : List Call). run shape 1 l (new_state shape)) (sym (take-append-drop (at p) calls)) ∙ (run_both shape 1 (take (at p) calls) (drop (at p) calls) (new_state shape)
      ∙ ap (λ (n : ℕ). run shape n (drop (at p) calls) (state_before script p)) same)

  count : ℕ → ℕ
  count p = at (suc p) - at p

  pub phase_long : (p : ℕ) → length (of_phase cuts p calls) ≡ at (suc p) - at p
  phase_long p =
      length-take-le (at (suc p) - at p) (drop (at p) calls)
      (let left = length_drop (at p) calls (before_end cuts (length calls) are p) in let most = before_end cuts (length calls) are (suc p) in let up = next_phase cuts (length calls) are p in omega (arith, left, most, up))

  -- its replies are those of the whole run at its place
  pub replies_of : (p : ℕ) → answers shape (suc (at p)) (of_phase cuts p calls) (state_before script p) ≡ of_phase cuts p (answers shape 1 calls (new_state shape))
  replies_of p =
      let same : 1 + length (take (at p) calls) ≡ suc (at p) = omega (arith, taken_before p) in
      let before : List Reply = answers shape 1 (take (at p) calls) (new_state shape) in
      let later : List Reply = answers shape (suc (at p)) (drop (at p) calls) (state_before script p) in
      let mine : List Reply = answers shape (suc (at p)) (of_phase cuts p calls) (state_before script p) in
      let others : List Reply = answers shape (suc (at p) + length (of_phase cuts p calls)) (drop (at (suc p) - at p) (drop (at p) calls)) (run shape (suc (at p)) (of_phase cuts p calls) (state_before script p)) in
      let whole : answers shape 1 calls (new_state shape) ≡ before ++ later =
      ap (λ (l : List Call). answers shape 1 l (new_state shape)) (sym (take-append-drop (at p) calls)) ∙ (answers_both shape 1 (take (at p) calls) (drop (at p) calls) (new_state shape)
      ∙ ap (λ (n : ℕ). before ++ answers shape n (drop (at p) calls) (state_before script p)) same) in
      let parts : later ≡ mine ++ others =
      ap (λ (l : List Call). answers shape (suc (at p)) l (state_before script p)) (sym (take-append-drop (at (suc p) - at p) (drop (at p) calls)))
      ∙ answers_both shape (suc (at p)) (of_phase cuts p calls) (drop (at (suc p) - at p) (drop (at p) calls)) (state_before script p) in
      let long_before : at p ≡ length before = sym (answers_each shape 1 (take (at p) calls) (new_state shape) ∙ taken_before p) in
      let long_mine : at (suc p) - at p ≡ length mine = sym (answers_each shape (suc (at p)) (of_phase cuts p calls) (state_before script p) ∙ phase_long p) in
      let every : length (answers shape 1 calls (new_state shape)) ≡ length calls = answers_each shape 1 calls (new_state shape) in
      sym (ap (λ (n : ℕ). take (calls_before cuts n (suc p) - calls_before cuts n p) (drop (calls_before cuts n p) (answers shape 1 calls (new_state shape)))) every
      ∙ (ap (λ (l : List Reply). take (at (suc p) - at p) (drop (at p) l)) whole
      ∙ (ap (λ (n : ℕ). take (at (suc p) - at p) (drop n (before ++ later))) long_before
      ∙ (ap (take (at (suc p) - at p)) (drop-append_seam before later)
      ∙ (ap (take (at (suc p) - at p)) parts
      ∙ (ap (λ (n : ℕ). take n (mine ++ others)) long_mine ∙ take-append_seam mine others))))))
