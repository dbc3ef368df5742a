-- How many turns are a call's, and that no other number of them is.
use Rattle.std.proofs.Common.{◌≡◌, ℕ, suc, ◌+◌, ◌-◌, ◌≤◌, List, [], ◌∷◌, ◌++◌, length, take, drop, Option, None, Some, refl, ap, ◌∙◌, sym, subst, arith, length-append, length-drop, take-append-drop}
use Rattle.std.proofs.lemmas.Option.{same_Some}
use Rattle.place_words.specs.Turns.{Turn, TurnAt, turns_of}
use Rattle.trace_check.specs.Calls.{Answer, read_plain}
use Rattle.trace_check.specs.Laws.{IsCall, AreCall, counted, read_count, CountsTurns, OneBeginning}
use Rattle.trace_check.proofs.Lifting.{turns_both}
use Rattle.trace_check.proofs.Whole.{reads_calls}

turns_length : (turns : List TurnAt) → length (turns_of turns) ≡ length turns
turns_length [] = refl
turns_length (at ∷ turns) = ap suc (turns_length turns)

take_front : (one more : List TurnAt) → take (length one) (one ++ more) ≡ one
take_front [] more = refl
take_front (at ∷ one) more = ap (λ (l : List TurnAt). at ∷ l) (take_front one more)

left_over : (n one more whole rest : ℕ) → whole - rest ≡ n → whole ≡ one + more → rest ≡ more → n ≡ one
left_over n one more whole rest is whole_is rest_is = omega (arith, is, whole_is, rest_is)

within_all : (n one more whole : ℕ) → n ≡ one → whole ≡ one + more → n ≤ whole
within_all n one more whole is all = omega (arith, is, all)

pub counts_turns : CountsTurns
counts_turns shape cpu spare verb plain turns n answer = (forth (read_plain shape cpu spare verb (turns_of turns)) refl, back)
  where
    forth : (o : Option (Answer × List Turn)) → read_plain shape cpu spare verb (turns_of turns) ≡ o → counted (length (turns_of turns)) o ≡ Some (n, answer) → AreCall shape cpu spare verb turns n answer
    forth None is none = absurd cc
    forth (Some (a, rest)) is some =
        let pair : (length (turns_of turns) - length rest, a) ≡ (n, answer) = same_Some (length (turns_of turns) - length rest, a) (n, answer) some in
        let found = (reads_calls shape cpu spare verb plain).sound turns rest a is in
        let whole : length (turns_of turns) ≡ length found.one + length found.more = turns_length turns ∙ ap (λ (l : List TurnAt). length l) found.turns_are ∙ length-append found.one found.more in
        let rest_is : length rest ≡ length found.more = ap (λ (l : List Turn). length l) (sym found.rest_is) ∙ turns_length found.more in
        let n_is : n ≡ length found.one =
        left_over n (length found.one) (length found.more) (length (turns_of turns)) (length rest) (ap (λ (p : ℕ × Answer). p.0) pair) whole rest_is in
        let all : length turns ≡ length found.one + length found.more = ap (λ (l : List TurnAt). length l) found.turns_are ∙ length-append found.one found.more in
        let front : take n turns ≡ found.one = ap (λ (k : ℕ). take k turns) n_is ∙ ap (λ (l : List TurnAt). take (length found.one) l) found.turns_are ∙ take_front found.one found.more in (
          within_all n (length found.one) (length found.more) (length turns) n_is all,
          subst (λ (b : Answer). IsCall shape cpu spare verb (take n turns) b) (ap (λ (p : ℕ × Answer). p.1) pair)
              (subst (λ (l : List TurnAt). IsCall shape cpu spare verb l a) (sym front) found.is),
        )

    back : AreCall shape cpu spare verb turns n answer → read_count shape cpu spare verb (turns_of turns) ≡ Some (n, answer)
    back is =
        let within : n ≤ length turns = is.0 in
        let parts : turns_of turns ≡ turns_of (take n turns) ++ turns_of (drop n turns) =
        ap turns_of (sym (take-append-drop n turns)) ∙ turns_both (take n turns) (drop n turns) in
        let read : read_plain shape cpu spare verb (turns_of turns) ≡ Some (answer, turns_of (drop n turns)) =
        ap (read_plain shape cpu spare verb) parts ∙ (reads_calls shape cpu spare verb plain).complete (take n turns) (turns_of (drop n turns)) answer is.1 in
        let whole : length (turns_of turns) ≡ length turns = turns_length turns in
        let left : length (turns_of (drop n turns)) ≡ length turns - n = turns_length (drop n turns) ∙ length-drop n turns in
        let count : length (turns_of turns) - length (turns_of (drop n turns)) ≡ n = omega (arith, whole, left, within) in
        ap (counted (length (turns_of turns))) read ∙ ap (λ (k : ℕ). Some (k, answer)) count

pub one_beginning : OneBeginning
one_beginning shape cpu spare verb plain turns n m first second one other =
    let here = (counts_turns shape cpu spare verb plain turns n first).1 one in
    let there = (counts_turns shape cpu spare verb plain turns m second).1 other in
    let pair : (n, first) ≡ (m, second) = same_Some (n, first) (m, second) (sym here ∙ there) in
    (ap (λ (p : ℕ × Answer). p.0) pair, ap (λ (p : ℕ × Answer). p.1) pair)
