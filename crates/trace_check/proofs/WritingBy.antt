-- Calls that are told the spare before each turn are read as their traces.
use Rattle.std.proofs.Common.{◌≡◌, ℕ, suc, Bool, true, false, List, [], ◌∷◌, ◌++◌, length, Option, None, Some, refl, ap, ◌∙◌, sym, subst, MatchBool, MatchOption}
use Rattle.std.proofs.lemmas.List.{append_assoc, append-nil}
use Rattle.std.proofs.Common.{inl, inr}
use Rattle.std.proofs.lemmas.Option.{same_Some}
use Rattle.map_types.specs.declared.attr.Shape.{Shape}
use Rattle.map_types.specs.declared.call.Verb.{Verb}
use Rattle.map_types.specs.declared.call.Verb.TheVariants as verbs
use Rattle.map_types.specs.declared.refusal.Errno.{Errno}
use Rattle.map_types.specs.declared.reply.Reply.{Reply}
use Rattle.map_types.specs.declared.reply.Reply.TheVariants.{Count}
use Rattle.map_types.specs.Kind.{is_lru}
use Rattle.place_words.specs.Evicting.{IsEvictingTrace}
use Rattle.place_words.specs.PlainTraces.{IsPlainTrace}
use Rattle.place_words.specs.Turns.{Turn, TurnAt, turns_of}
use Rattle.place_words.specs.Walks.{IsKeyTrace, spare_left, refused_with}
use Rattle.trace_check.specs.BySpares.{Spares, Left, WritesBy, read_key_by, read_writes_by, after_write_by}
use Rattle.trace_check.specs.Calls.{Answer, read_key}
use Rattle.trace_check.specs.Laws.{FoundAt}
use Rattle.trace_check.specs.LawsBySpares.{AreSpares}
use Rattle.trace_check.specs.Reading.{told, then_read}
use Rattle.trace_check.proofs.Lifting.{turns_both}
use Rattle.trace_check.proofs.Whole.{key_call}

not_last : {A : Type 0} (looks : List A) (x : A) → [] ≡ looks ++ x ∷ [] → ⊥
not_last [] x is = absurd cc
not_last (l ∷ looks) x is = absurd cc

-- where there is no turn, no spare is looked at
plain_nothing : (shape : Shape) (cpu : ℕ) (s t : Option ℕ) (verb : Verb) (reply : Reply) → IsPlainTrace shape cpu s verb [] reply → IsPlainTrace shape cpu t verb [] reply
plain_nothing shape cpu s t (verbs.Lookup side key) reply is = is
plain_nothing shape cpu s t (verbs.Update side flags key value) reply (inl is) = inl is
plain_nothing shape cpu s t (verbs.Update side flags key value) reply (inr is) = absurd (not_last is.1.looks _ is.1.turns_are)
plain_nothing shape cpu s t (verbs.Delete key) reply is = is
plain_nothing shape cpu s t (verbs.Take key) reply is = is
plain_nothing shape cpu s t (verbs.Next key) reply is = is
plain_nothing shape cpu s t (verbs.BatchRead remove count start flags) reply is = is
plain_nothing shape cpu s t (verbs.BatchUpdate flags pairs) reply is = is
plain_nothing shape cpu s t (verbs.BatchDelete flags keys) reply is = is
plain_nothing shape cpu s t (verbs.Each flags stop) reply is = is

key_nothing : (shape : Shape) (cpu : ℕ) (s t : Option ℕ) (verb : Verb) (reply : Reply) → IsKeyTrace shape cpu s verb [] reply → IsKeyTrace shape cpu t verb [] reply
key_nothing shape cpu s t verb reply is = by (is_lru shape.kind) is
  where
    by : (b : Bool) → MatchBool b (IsEvictingTrace shape cpu verb [] reply) (IsPlainTrace shape cpu s verb [] reply) → MatchBool b (IsEvictingTrace shape cpu verb [] reply) (IsPlainTrace shape cpu t verb [] reply)
    by true is = is
    by false is = plain_nothing shape cpu s t verb reply is

turns_length : (turns : List TurnAt) → length (turns_of turns) ≡ length turns
turns_length [] = refl
turns_length (at ∷ turns) = ap suc (turns_length turns)

pub behind_one : (spares : Spares) (left : Left) (turns one more : List TurnAt) → AreSpares spares left turns → turns ≡ one ++ more → AreSpares spares left more
behind_one spares left turns one more are is = λ before first rest at more_is.
    are (one ++ before) first rest at (is ∙ ap (λ (l : List TurnAt). one ++ l) more_is ∙ sym (append_assoc one before ((at ∷ first) ++ rest)))

module _ (shape : Shape) (cpu : ℕ) (spares : Spares) (left : Left) where
  spare_there : (turns more ones : List TurnAt) (at : TurnAt) → AreSpares spares left turns → turns ≡ (at ∷ ones) ++ more → spares (at ∷ ones) ≡ left (length (turns_of turns))
  spare_there turns more ones at are is = are [] ones more at is ∙ ap left (ap (λ (l : List TurnAt). length l) (sym is) ∙ sym (turns_length turns))

  by_table : (turns one more : List TurnAt) (verb : Verb) (reply : Reply) → AreSpares spares left turns → turns ≡ one ++ more → IsKeyTrace shape cpu (left (length (turns_of turns))) verb one reply → IsKeyTrace shape cpu (spares one) verb one reply
  by_table turns [] more verb reply are is trace = key_nothing shape cpu (left (length (turns_of turns))) (spares []) verb reply trace
  by_table turns (at ∷ ones) more verb reply are is trace = subst (λ (s : Option ℕ). IsKeyTrace shape cpu s verb (at ∷ ones) reply) (sym (spare_there turns more ones at are is)) trace

  by_place : (turns one more : List TurnAt) (verb : Verb) (reply : Reply) → AreSpares spares left turns → turns ≡ one ++ more → IsKeyTrace shape cpu (spares one) verb one reply → IsKeyTrace shape cpu (left (length (turns_of turns))) verb one reply
  by_place turns [] more verb reply are is trace = key_nothing shape cpu (spares []) (left (length (turns_of turns))) verb reply trace
  by_place turns (at ∷ ones) more verb reply are is trace = subst (λ (s : Option ℕ). IsKeyTrace shape cpu s verb (at ∷ ones) reply) (spare_there turns more ones at are is) trace

  module _ (plain : is_lru shape.kind ≡ false) where
    pub key_sound : (verb : Verb) (turns : List TurnAt) (rest : List Turn) (reply : Reply) → AreSpares spares left turns → read_key_by shape cpu left verb (turns_of turns) ≡ Some (reply, rest)
        → FoundAt (λ one r. IsKeyTrace shape cpu (spares one) verb one r) turns rest reply
    key_sound verb turns rest reply are is = from (read_key shape cpu (left (length (turns_of turns))) verb (turns_of turns)) refl is
      where
        from : (o : Option (Answer × List Turn)) → read_key shape cpu (left (length (turns_of turns))) verb (turns_of turns) ≡ o → told (λ (answer : Answer). answer.0) o ≡ Some (reply, rest)
            → FoundAt (λ one r. IsKeyTrace shape cpu (spares one) verb one r) turns rest reply
        from None read none = absurd cc
        from (Some (answer, behind)) read some =
            let pair : ◌≡◌ {A = Reply × List Turn} (answer.0, behind) (reply, rest) = same_Some (answer.0, behind) (reply, rest) some in
            let found = (key_call shape cpu (left (length (turns_of turns))) plain verb).sound turns behind answer read in
            record {
              one = found.one;
              more = found.more;
              turns_are = found.turns_are;
              rest_is = found.rest_is ∙ ap (λ (p : Reply × List Turn). p.1) pair;
              is = subst (λ (r : Reply). IsKeyTrace shape cpu (spares found.one) verb found.one r) (ap (λ (p : Reply × List Turn). p.0) pair)
                  (by_table turns found.one found.more verb answer.0 are found.turns_are found.is.0);
            }

    pub key_complete : (verb : Verb) (turns one more : List TurnAt) (reply : Reply) → AreSpares spares left turns → turns ≡ one ++ more → IsKeyTrace shape cpu (spares one) verb one reply
        → read_key_by shape cpu left verb (turns_of turns) ≡ Some (reply, turns_of more)
    key_complete verb turns one more reply are is trace =
        let s : Option ℕ = left (length (turns_of turns)) in
        ap (λ (l : List Turn). told (λ (answer : Answer). answer.0) (read_key shape cpu s verb l)) (ap turns_of is ∙ turns_both one more)
        ∙ ap (told (λ (answer : Answer). answer.0))
        ((key_call shape cpu s plain verb).complete one (turns_of more) (reply, spare_left shape s one) (by_place turns one more verb reply are is trace, refl))

    pub writes_sound : (entries : List Verb) (done : ℕ) (turns : List TurnAt) (rest : List Turn) (reply : Reply) → AreSpares spares left turns → read_writes_by shape cpu left entries done (turns_of turns) ≡ Some (reply, rest)
        → FoundAt (WritesBy shape cpu spares entries done) turns rest reply
    writes_sound [] done turns rest reply are is =
        let pair : ◌≡◌ {A = Reply × List Turn} (Count None done, turns_of turns) (reply, rest) = same_Some (Count None done, turns_of turns) (reply, rest) is in
        record { one = []; more = turns; turns_are = refl; rest_is = ap (λ (p : Reply × List Turn). p.1) pair; is = (refl, sym (ap (λ (p : Reply × List Turn). p.0) pair)) }
    writes_sound (entry ∷ entries) done turns rest reply are is = from (read_key_by shape cpu left entry (turns_of turns)) refl (λ more. writes_sound entries (suc done) more) is
      where
        from : (o : Option (Reply × List Turn)) → read_key_by shape cpu left entry (turns_of turns) ≡ o
            → ((more : List TurnAt) (rest : List Turn) (reply : Reply) → AreSpares spares left more → read_writes_by shape cpu left entries (suc done) (turns_of more) ≡ Some (reply, rest) → FoundAt (WritesBy shape cpu spares entries (suc done)) more rest reply)
            → then_read (after_write_by done (read_writes_by shape cpu left entries (suc done))) (told (λ r. refused_with r) o) ≡ Some (reply, rest)
            → FoundAt (WritesBy shape cpu spares (entry ∷ entries) done) turns rest reply
        from None read later none = absurd cc
        from (Some (answer, behind)) read later some = by (refused_with answer) refl some
          where
            found : FoundAt (λ one r. IsKeyTrace shape cpu (spares one) entry one r) turns behind answer
            found = key_sound entry turns behind answer are read

            by : (o : Option Errno) → refused_with answer ≡ o → after_write_by done (read_writes_by shape cpu left entries (suc done)) o behind ≡ Some (reply, rest)
                → FoundAt (WritesBy shape cpu spares (entry ∷ entries) done) turns rest reply
            by None refusal goes =
                let more = later found.more rest reply (behind_one spares left turns found.one found.more are found.turns_are)
                (ap (read_writes_by shape cpu left entries (suc done)) found.rest_is ∙ goes) in
                record {
                  one = found.one ++ more.one;
                  more = more.more;
                  turns_are = found.turns_are ∙ ap (λ (l : List TurnAt). found.one ++ l) more.turns_are ∙ sym (append_assoc found.one more.one more.more);
                  rest_is = more.rest_is;
                  is = (
                    answer,
                    found.one,
                    more.one,
                    (
                      refl,
                      found.is,
                      subst (λ (o : Option Errno). MatchOption o (WritesBy shape cpu spares entries (suc done) more.one reply) (λ errno. (more.one ≡ []) × (reply ≡ Count (Some errno) done)))
                          (sym refusal) more.is,
                    ),
                  );
                }
            by (Some errno) refusal ends =
                let pair : ◌≡◌ {A = Reply × List Turn} (Count (Some errno) done, behind) (reply, rest) = same_Some (Count (Some errno) done, behind) (reply, rest) ends in
                record {
                  one = found.one;
                  more = found.more;
                  turns_are = found.turns_are;
                  rest_is = found.rest_is ∙ ap (λ (p : Reply × List Turn). p.1) pair;
                  is = (
                    answer,
                    found.one,
                    [],
                    (
                      sym (append-nil found.one),
                      found.is,
                      subst (λ (o : Option Errno). MatchOption o (WritesBy shape cpu spares entries (suc done) [] reply) (λ errno. (◌≡◌ {A = List TurnAt} [] []) × (reply ≡ Count (Some errno) done)))
                          (sym refusal) (refl, sym (ap (λ (p : Reply × List Turn). p.0) pair)),
                    ),
                  );
                }

    pub writes_complete : (entries : List Verb) (done : ℕ) (turns one more : List TurnAt) (reply : Reply) → AreSpares spares left turns → turns ≡ one ++ more → WritesBy shape cpu spares entries done one reply
        → read_writes_by shape cpu left entries done (turns_of turns) ≡ Some (reply, turns_of more)
    writes_complete [] done turns one more reply are is trace =
        ap (λ (l : List TurnAt). Some (Count None done, turns_of l)) (is ∙ ap (λ (l : List TurnAt). l ++ more) trace.0) ∙ ap (λ (r : Reply). Some (r, turns_of more)) (sym trace.1)
    writes_complete (entry ∷ entries) done turns one more reply are is (answer, first, others, (one_is, key, goes)) =
        ap (λ (o : Option (Reply × List Turn)). then_read (after_write_by done (read_writes_by shape cpu left entries (suc done))) (told (λ r. refused_with r) o))
        (key_complete entry turns first (others ++ more) answer are parts key)
        ∙ by (refused_with answer) goes (writes_complete entries (suc done) (others ++ more) others more reply (behind_one spares left turns first (others ++ more) are parts) refl)
      where
        parts : turns ≡ first ++ (others ++ more)
        parts = is ∙ ap (λ (l : List TurnAt). l ++ more) one_is ∙ append_assoc first others more

        by : (o : Option Errno) → MatchOption o (WritesBy shape cpu spares entries (suc done) others reply) (λ errno. (others ≡ []) × (reply ≡ Count (Some errno) done))
            → (WritesBy shape cpu spares entries (suc done) others reply → read_writes_by shape cpu left entries (suc done) (turns_of (others ++ more)) ≡ Some (reply, turns_of more))
            → after_write_by done (read_writes_by shape cpu left entries (suc done)) o (turns_of (others ++ more)) ≡ Some (reply, turns_of more)
        by None goes later = later goes
        by (Some errno) ends later =
            ap (λ (l : List TurnAt). Some (Count (Some errno) done, turns_of (l ++ more))) ends.0 ∙ ap (λ (r : Reply). Some (r, turns_of more)) (sym ends.1)
