-- How many turns are a call's, and that no other number of them is.
use Rattle.std.proofs.Common.{◌≡◌, ℕ, suc, ◌+◌, ◌-◌, ◌≤◌, List, [], ◌∷◌, ◌++◌, length, take, drop, Option, None, Some, refl, ap, ◌∙◌, sym, subst, arith, length-append, length-drop, take-append-drop}
use Rattle.std.proofs.lemmas.Option.{same_Some}
use Rattle.map_types.specs.declared.attr.Shape.{Shape}
use Rattle.map_types.specs.declared.reply.Reply.{Reply}
use Rattle.place_words.specs.Traces.{IsTrace}
use Rattle.place_words.specs.Turns.{TurnAt}
use Rattle.evicting_traces.specs.Reading.{Seen, all_seen, AreRefillsLegal}
use Rattle.evicting_traces.specs.Calls.{read_evicting}
use Rattle.evicting_traces.specs.Laws.{AreCall, counted, read_count, CountsTurns, OneBeginning}
use Rattle.evicting_traces.proofs.Readers.{all_both}
use Rattle.evicting_traces.proofs.Whole.{reads_calls}

seen_length : (shape : Shape) (turns : List TurnAt) → length (all_seen shape turns) ≡ length turns
seen_length shape [] = refl
seen_length shape (at ∷ turns) = ap suc (seen_length shape turns)

take_front : (one more : List TurnAt) → take (length one) (one ++ more) ≡ one
take_front [] more = refl
take_front (at ∷ one) more = ap (λ (l : List TurnAt). at ∷ l) (take_front one more)

first_many : (n one more whole rest : ℕ) → whole - rest ≡ n → whole ≡ one + more → rest ≡ more → n ≡ one
first_many n one more whole rest is whole_is rest_is = omega (arith, is, whole_is, rest_is)

within_all : (n one more whole : ℕ) → n ≡ one → whole ≡ one + more → n ≤ whole
within_all n one more whole is all = omega (arith, is, all)

pub counts_turns : CountsTurns
counts_turns shape cpu spare verb evicts turns n reply = (forth, back)
  where
    seens : List Seen
    seens = all_seen shape turns

    by : AreRefillsLegal shape cpu turns → (o : Option (Reply × List Seen)) → read_evicting shape cpu verb seens ≡ o → counted (length seens) o ≡ Some (n, reply) → AreCall shape cpu spare verb turns n reply
    by legal None is none = absurd cc
    by legal (Some (a, rest)) is some =
        let pair : (length seens - length rest, a) ≡ (n, reply) = same_Some (length seens - length rest, a) (n, reply) some in
        let found = (reads_calls shape cpu spare verb evicts).sound turns rest a legal is in
        let all : length turns ≡ length found.one + length found.more = ap (λ (l : List TurnAt). length l) found.turns_are ∙ length-append found.one found.more in
        let whole : length seens ≡ length found.one + length found.more = seen_length shape turns ∙ all in
        let rest_is : length rest ≡ length found.more = ap (λ (l : List Seen). length l) (sym found.rest_is) ∙ seen_length shape found.more in
        let n_is : n ≡ length found.one = first_many n (length found.one) (length found.more) (length seens) (length rest) (ap (λ (p : ℕ × Reply). p.0) pair) whole rest_is in
        let front : take n turns ≡ found.one = ap (λ (k : ℕ). take k turns) n_is ∙ ap (λ (l : List TurnAt). take (length found.one) l) found.turns_are ∙ take_front found.one found.more in (
          within_all n (length found.one) (length found.more) (length turns) n_is all,
          subst (λ (r : Reply). IsTrace shape cpu spare verb (take n turns) r) (ap (λ (p : ℕ × Reply). p.1) pair)
              (subst (λ (l : List TurnAt). IsTrace shape cpu spare verb l a) (sym front) found.is),
        )

    forth : AreRefillsLegal shape cpu turns → read_count shape cpu verb seens ≡ Some (n, reply) → AreCall shape cpu spare verb turns n reply
    forth legal is = by legal (read_evicting shape cpu verb seens) refl is

    back : AreCall shape cpu spare verb turns n reply → read_count shape cpu verb seens ≡ Some (n, reply)
    back is =
        let within : n ≤ length turns = is.0 in
        let two : seens ≡ all_seen shape (take n turns) ++ all_seen shape (drop n turns) =
        ap (all_seen shape) (sym (take-append-drop n turns)) ∙ all_both shape (take n turns) (drop n turns) in
        let read : read_evicting shape cpu verb seens ≡ Some (reply, all_seen shape (drop n turns)) =
        ap (read_evicting shape cpu verb) two ∙ (reads_calls shape cpu spare verb evicts).complete (take n turns) (all_seen shape (drop n turns)) reply is.1 in
        let whole : length seens ≡ length turns = seen_length shape turns in
        let left : length (all_seen shape (drop n turns)) ≡ length turns - n = seen_length shape (drop n turns) ∙ length-drop n turns in
        let count : length seens - length (all_seen shape (drop n turns)) ≡ n = omega (arith, whole, left, within) in
        ap (counted (length seens)) read ∙ ap (λ (k : ℕ). Some (k, reply)) count

pub one_beginning : OneBeginning
one_beginning shape cpu spare verb evicts turns n m first second one other =
    let here = (counts_turns shape cpu spare verb evicts turns n first).1 one in
    let there = (counts_turns shape cpu spare verb evicts turns m second).1 other in
    let pair : (n, first) ≡ (m, second) = same_Some (n, first) (m, second) (sym here ∙ there) in
    (ap (λ (p : ℕ × Reply). p.0) pair, ap (λ (p : ℕ × Reply). p.1) pair)
