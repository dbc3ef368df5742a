-- Every call that is told the spare before each turn, and how many turns are its.
use Rattle.std.proofs.Common.{◌≡◌, ℕ, suc, ◌+◌, ◌-◌, ◌≤◌, Bool, true, false, List, [], ◌∷◌, ◌++◌, length, take, drop, Option, None, Some, refl, ap, ◌∙◌, sym, subst, arith, MatchBool, MatchOption, length-append, length-drop, take-append-drop}
use Rattle.std.specs.Prelude.{◌==◌, if◌then◌else◌}
use Rattle.std.proofs.lemmas.Option.{same_Some}
use Rattle.map_types.specs.declared.attr.Shape.{Shape}
use Rattle.map_types.specs.declared.call.Verb.{Verb}
use Rattle.map_types.specs.declared.call.Verb.TheVariants as verbs
use Rattle.map_types.specs.declared.refusal.Errno.{Errno}
use Rattle.map_types.specs.declared.refusal.Errno.TheVariants.{Einval}
use Rattle.map_types.specs.declared.reply.Reply.{Reply}
use Rattle.map_types.specs.declared.reply.Reply.TheVariants.{Refused, Count}
use Rattle.map_types.specs.Kind.{is_lru}
use Rattle.place_words.specs.Turns.{Turn, TurnAt, turns_of}
use Rattle.place_words.specs.Traces.{IsTrace}
use Rattle.place_words.specs.Walks.{Writes, spare_left, refused_with, updates_of, deletes_of}
use Rattle.trace_check.specs.BySpares.{Spares, Left, WritesBy, IsTraceBy, read_reply, read_writes_by, read_plain_by}
use Rattle.trace_check.specs.Calls.{Answer, read_plain}
use Rattle.trace_check.specs.Laws.{FoundAt, IsReaderAt}
use Rattle.trace_check.specs.LawsBySpares.{AreSpares, IsReaderBy, ReadsCallsBy, counted_by, read_count_by, AreCallBy, CountsTurnsBy, OneBeginningBy}
use Rattle.trace_check.specs.Reading.{Reads, told, read_nothing}
use Rattle.trace_check.proofs.Lifting.{turns_both}
use Rattle.trace_check.proofs.Readers.{match_both}
use Rattle.trace_check.proofs.Whole.{reads_calls}
use Rattle.trace_check.proofs.WritingBy.{key_sound, key_complete, writes_sound, writes_complete}

-- the reply alone
as_by : (Rel : List TurnAt → Reply → Type 0) (left : List TurnAt → Option ℕ) (read : Reads Answer) (turns : List TurnAt) → IsReaderAt (λ ts (answer : Answer). Rel ts answer.0 × (answer.1 ≡ left ts)) read
    → IsReaderBy Rel (read_reply read) turns
as_by Rel left read turns reads = record {
  sound = λ rest reply is. from rest reply (read (turns_of turns)) refl is;
  complete = λ one more reply is rel.
      ap (λ (l : List Turn). told (λ (answer : Answer). answer.0) (read l)) (ap turns_of is ∙ turns_both one more)
      ∙ ap (told (λ (answer : Answer). answer.0)) (reads.complete one (turns_of more) (reply, left one) (rel, refl));
}
  where
    from : (rest : List Turn) (reply : Reply) (o : Option (Answer × List Turn)) → read (turns_of turns) ≡ o → told (λ (answer : Answer). answer.0) o ≡ Some (reply, rest) → FoundAt Rel turns rest reply
    from rest reply None at none = absurd cc
    from rest reply (Some (answer, behind)) at some =
        let pair : ◌≡◌ {A = Reply × List Turn} (answer.0, behind) (reply, rest) = same_Some (answer.0, behind) (reply, rest) some in
        let found = reads.sound turns behind answer at in
        record {
          one = found.one;
          more = found.more;
          turns_are = found.turns_are;
          rest_is = found.rest_is ∙ ap (λ (p : Reply × List Turn). p.1) pair;
          is = subst (Rel found.one) (ap (λ (p : Reply × List Turn). p.0) pair) found.is.0;
        }

same_by : (Rel Other : List TurnAt → Reply → Type 0) (read : Reads Reply) (turns : List TurnAt) → ((ts : List TurnAt) (r : Reply) → Rel ts r → Other ts r) → ((ts : List TurnAt) (r : Reply) → Other ts r → Rel ts r)
    → IsReaderBy Rel read turns → IsReaderBy Other read turns
same_by Rel Other read turns there back reads = record {
  sound = λ rest reply is.
      let found = reads.sound rest reply is in
      record { one = found.one; more = found.more; turns_are = found.turns_are; rest_is = found.rest_is; is = there found.one reply found.is };
  complete = λ one more reply is rel. reads.complete one more reply is (back one reply rel);
}

nothing_by : (answer : Reply) (turns : List TurnAt) → IsReaderBy (λ ts r. (ts ≡ []) × (r ≡ answer)) (read_nothing answer) turns
nothing_by answer turns = record {
  sound = λ rest reply is.
      let pair : ◌≡◌ {A = Reply × List Turn} (answer, turns_of turns) (reply, rest) = same_Some (answer, turns_of turns) (reply, rest) is in
      record { one = []; more = turns; turns_are = refl; rest_is = ap (λ (p : Reply × List Turn). p.1) pair; is = (refl, sym (ap (λ (p : Reply × List Turn). p.0) pair)) };
  complete = λ one more reply is rel.
      ap (λ (l : List TurnAt). Some (answer, turns_of l)) (is ∙ ap (λ (l : List TurnAt). l ++ more) rel.0) ∙ ap (λ (r : Reply). Some (r, turns_of more)) (sym rel.1);
}

module _ (shape : Shape) (cpu : ℕ) (spares : Spares) (left : Left) (plain : is_lru shape.kind ≡ false) (turns : List TurnAt) (are : AreSpares spares left turns) where
  batch_by : (entries : List Verb) (b : Bool)
      → IsReaderBy (λ ts r. MatchBool b (WritesBy shape cpu spares entries 0 ts r) ((ts ≡ []) × (r ≡ Refused Einval))) (λ l. if b then read_writes_by shape cpu left entries 0 l else read_nothing (Refused Einval) l) turns
  batch_by entries true = record {
    sound = λ rest reply is. writes_sound shape cpu spares left plain entries 0 turns rest reply are is;
    complete = λ one more reply is rel. writes_complete shape cpu spares left plain entries 0 turns one more reply are is rel;
  }
  batch_by entries false = nothing_by (Refused Einval) turns

  other_call : (verb : Verb) → IsReaderBy (λ ts r. IsTrace shape cpu None verb ts r) (read_reply (read_plain shape cpu None verb)) turns
  other_call verb = as_by (λ ts r. IsTrace shape cpu None verb ts r) (spare_left shape None) (read_plain shape cpu None verb) turns (reads_calls shape cpu None verb plain)

-- deletes look at no spare
module _ (shape : Shape) (cpu : ℕ) (spares : Spares) where
  deletes_back : (keys : List (List ℕ)) (s : Option ℕ) (done : ℕ) (turns : List TurnAt) (reply : Reply) → WritesBy shape cpu spares (deletes_of keys) done turns reply → Writes shape cpu s (deletes_of keys) done turns reply
  deletes_back [] s done turns reply is = is
  deletes_back (key ∷ keys) s done turns reply (answer, one, rest, (are, trace, goes)) =
      (answer, one, rest, (are, trace, by (refused_with answer) goes (deletes_back keys (spare_left shape s one) (suc done) rest reply)))
    where
      by : (o : Option Errno) → MatchOption o (WritesBy shape cpu spares (deletes_of keys) (suc done) rest reply) (λ errno. (rest ≡ []) × (reply ≡ Count (Some errno) done))
          → (WritesBy shape cpu spares (deletes_of keys) (suc done) rest reply → Writes shape cpu (spare_left shape s one) (deletes_of keys) (suc done) rest reply)
          → MatchOption o (Writes shape cpu (spare_left shape s one) (deletes_of keys) (suc done) rest reply) (λ errno. (rest ≡ []) × (reply ≡ Count (Some errno) done))
      by None goes later = later goes
      by (Some errno) ends later = ends

  deletes_there : (keys : List (List ℕ)) (s : Option ℕ) (done : ℕ) (turns : List TurnAt) (reply : Reply) → Writes shape cpu s (deletes_of keys) done turns reply → WritesBy shape cpu spares (deletes_of keys) done turns reply
  deletes_there [] s done turns reply is = is
  deletes_there (key ∷ keys) s done turns reply (answer, one, rest, (are, trace, goes)) =
      (answer, one, rest, (are, trace, by (refused_with answer) goes (deletes_there keys (spare_left shape s one) (suc done) rest reply)))
    where
      by : (o : Option Errno) → MatchOption o (Writes shape cpu (spare_left shape s one) (deletes_of keys) (suc done) rest reply) (λ errno. (rest ≡ []) × (reply ≡ Count (Some errno) done))
          → (Writes shape cpu (spare_left shape s one) (deletes_of keys) (suc done) rest reply → WritesBy shape cpu spares (deletes_of keys) (suc done) rest reply)
          → MatchOption o (WritesBy shape cpu spares (deletes_of keys) (suc done) rest reply) (λ errno. (rest ≡ []) × (reply ≡ Count (Some errno) done))
      by None goes later = later goes
      by (Some errno) ends later = ends

pub reads_calls_by : ReadsCallsBy
reads_calls_by shape cpu spares left (verbs.Lookup side key) plain turns are = other_call shape cpu spares left plain turns are (verbs.Lookup side key)
reads_calls_by shape cpu spares left (verbs.Update side flags key value) plain turns are = record {
  sound = λ rest reply is. key_sound shape cpu spares left plain (verbs.Update side flags key value) turns rest reply are is;
  complete = λ one more reply is rel. key_complete shape cpu spares left plain (verbs.Update side flags key value) turns one more reply are is rel;
}
reads_calls_by shape cpu spares left (verbs.Delete key) plain turns are = other_call shape cpu spares left plain turns are (verbs.Delete key)
reads_calls_by shape cpu spares left (verbs.Take key) plain turns are = other_call shape cpu spares left plain turns are (verbs.Take key)
reads_calls_by shape cpu spares left (verbs.Next key) plain turns are = other_call shape cpu spares left plain turns are (verbs.Next key)
reads_calls_by shape cpu spares left (verbs.BatchRead remove count start flags) plain turns are = other_call shape cpu spares left plain turns are (verbs.BatchRead remove count start flags)
reads_calls_by shape cpu spares left (verbs.BatchUpdate flags pairs) plain turns are = batch_by shape cpu spares left plain turns are (updates_of pairs) (flags == 0)
reads_calls_by shape cpu spares left (verbs.BatchDelete flags keys) plain turns are =
    same_by (λ ts r. MatchBool (flags == 0) (WritesBy shape cpu spares (deletes_of keys) 0 ts r) ((ts ≡ []) × (r ≡ Refused Einval))) (IsTraceBy shape cpu spares (verbs.BatchDelete flags keys))
    (λ l. if flags == 0 then read_writes_by shape cpu left (deletes_of keys) 0 l else read_nothing (Refused Einval) l) turns
    (λ ts r is. match_both (flags == 0) (deletes_back shape cpu spares keys None 0 ts r) (λ none. none) is) (λ ts r is. match_both (flags == 0) (deletes_there shape cpu spares keys None 0 ts r) (λ none. none) is)
    (batch_by shape cpu spares left plain turns are (deletes_of keys) (flags == 0))
reads_calls_by shape cpu spares left (verbs.Each flags stop) plain turns are = other_call shape cpu spares left plain turns are (verbs.Each flags stop)

turns_length : (turns : List TurnAt) → length (turns_of turns) ≡ length turns
turns_length [] = refl
turns_length (at ∷ turns) = ap suc (turns_length turns)

take_front : (one more : List TurnAt) → take (length one) (one ++ more) ≡ one
take_front [] more = refl
take_front (at ∷ one) more = ap (λ (l : List TurnAt). at ∷ l) (take_front one more)

left_over : (n one more whole rest : ℕ) → whole - rest ≡ n → whole ≡ one + more → rest ≡ more → n ≡ one
left_over n one more whole rest is whole_is rest_is = omega (arith, is, whole_is, rest_is)

within_all : (n one more whole : ℕ) → n ≡ one → whole ≡ one + more → n ≤ whole
within_all n one more whole is all = omega (arith, is, all)

pub counts_turns_by : CountsTurnsBy
counts_turns_by shape cpu spares left verb plain turns are n reply = (forth (read_plain_by shape cpu left verb (turns_of turns)) refl, back)
  where
    reads : IsReaderBy (IsTraceBy shape cpu spares verb) (read_plain_by shape cpu left verb) turns
    reads = reads_calls_by shape cpu spares left verb plain turns are

    forth : (o : Option (Reply × List Turn)) → read_plain_by shape cpu left verb (turns_of turns) ≡ o → counted_by (length (turns_of turns)) o ≡ Some (n, reply) → AreCallBy shape cpu spares verb turns n reply
    forth None is none = absurd cc
    forth (Some (a, rest)) is some =
        let pair : ◌≡◌ {A = ℕ × Reply} (length (turns_of turns) - length rest, a) (n, reply) = same_Some (length (turns_of turns) - length rest, a) (n, reply) some in
        let found = reads.sound rest a is in
        let whole : length (turns_of turns) ≡ length found.one + length found.more = turns_length turns ∙ ap (λ (l : List TurnAt). length l) found.turns_are ∙ length-append found.one found.more in
        let rest_is : length rest ≡ length found.more = ap (λ (l : List Turn). length l) (sym found.rest_is) ∙ turns_length found.more in
        let n_is : n ≡ length found.one =
        left_over n (length found.one) (length found.more) (length (turns_of turns)) (length rest) (ap (λ (p : ℕ × Reply). p.0) pair) whole rest_is in
        let all : length turns ≡ length found.one + length found.more = ap (λ (l : List TurnAt). length l) found.turns_are ∙ length-append found.one found.more in
        let front : take n turns ≡ found.one = ap (λ (k : ℕ). take k turns) n_is ∙ ap (λ (l : List TurnAt). take (length found.one) l) found.turns_are ∙ take_front found.one found.more in (
          within_all n (length found.one) (length found.more) (length turns) n_is all,
          subst (λ (r : Reply). IsTraceBy shape cpu spares verb (take n turns) r) (ap (λ (p : ℕ × Reply). p.1) pair)
              (subst (λ (l : List TurnAt). IsTraceBy shape cpu spares verb l a) (sym front) found.is),
        )

    back : AreCallBy shape cpu spares verb turns n reply → read_count_by shape cpu left verb (turns_of turns) ≡ Some (n, reply)
    back is =
        let within : n ≤ length turns = is.0 in
        let read : read_plain_by shape cpu left verb (turns_of turns) ≡ Some (reply, turns_of (drop n turns)) = reads.complete (take n turns) (drop n turns) reply (sym (take-append-drop n turns)) is.1 in
        let whole : length (turns_of turns) ≡ length turns = turns_length turns in
        let rest : length (turns_of (drop n turns)) ≡ length turns - n = turns_length (drop n turns) ∙ length-drop n turns in
        let count : length (turns_of turns) - length (turns_of (drop n turns)) ≡ n = omega (arith, whole, rest, within) in
        ap (counted_by (length (turns_of turns))) read ∙ ap (λ (k : ℕ). Some (k, reply)) count

pub one_beginning_by : OneBeginningBy
one_beginning_by shape cpu spares left verb plain turns are n m first second one other =
    let here = (counts_turns_by shape cpu spares left verb plain turns are n first).1 one in
    let there = (counts_turns_by shape cpu spares left verb plain turns are m second).1 other in
    let pair : ◌≡◌ {A = ℕ × Reply} (n, first) (m, second) = same_Some (n, first) (m, second) (sym here ∙ there) in
    (ap (λ (p : ℕ × Reply). p.0) pair, ap (λ (p : ℕ × Reply). p.1) pair)
