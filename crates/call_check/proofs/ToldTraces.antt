-- A trace by spares in the words of the reader of calls.
use Rattle.std.proofs.Common.{◌≡◌, ℕ, suc, Bool, true, false, List, [], ◌∷◌, Option, Some, None}
use Rattle.std.specs.Prelude.{◌==◌, MatchBool, MatchOption}
use Rattle.map_types.specs.declared.attr.Shape.{Shape}
use Rattle.map_types.specs.declared.call.Verb.{Verb}
use Rattle.map_types.specs.declared.call.Verb.TheVariants as verbs
use Rattle.map_types.specs.declared.refusal.Errno.{Errno}
use Rattle.map_types.specs.declared.reply.Reply.{Reply}
use Rattle.map_types.specs.declared.reply.Reply.TheVariants.{Count}
use Rattle.place_words.specs.Turns.{TurnAt}
use Rattle.place_words.specs.Walks.{Writes, deletes_of, refused_with, spare_left}
use Rattle.trace_check.specs.BySpares as told
use Rattle.call_check.specs.By.{IsTraceBy, WritesBy}

by_test : {P Q : Type 0} (R : Type 0) (b : Bool) → (P → Q) → MatchBool b P R → MatchBool b Q R
by_test R true more is = more is
by_test R false more is = is

by_refusal : {P Q : Type 0} (R : Errno → Type 0) (o : Option Errno) → (P → Q) → MatchOption o P R → MatchOption o Q R
by_refusal R None more is = more is
by_refusal R (Some errno) more is = is

module _ (shape : Shape) (cpu : ℕ) (spares : List TurnAt → Option ℕ) where
  writes_to : (entries : List Verb) (done : ℕ) (turns : List TurnAt) (reply : Reply) → WritesBy shape cpu spares entries done turns reply → told.WritesBy shape cpu spares entries done turns reply
  writes_to [] done turns reply is = is
  writes_to (entry ∷ entries) done turns reply (answer, one, rest, (are, trace, goes)) =
      (answer, one, rest, (are, trace, by_refusal (λ errno. (rest ≡ []) × (reply ≡ Count (Some errno) done)) (refused_with answer) (writes_to entries (suc done) rest reply) goes))

  writes_from : (entries : List Verb) (done : ℕ) (turns : List TurnAt) (reply : Reply) → told.WritesBy shape cpu spares entries done turns reply → WritesBy shape cpu spares entries done turns reply
  writes_from [] done turns reply is = is
  writes_from (entry ∷ entries) done turns reply (answer, one, rest, (are, trace, goes)) =
      (answer, one, rest, (are, trace, by_refusal (λ errno. (rest ≡ []) × (reply ≡ Count (Some errno) done)) (refused_with answer) (writes_from entries (suc done) rest reply) goes))

  -- a delete looks at no spare of a map that doesn't evict
  deletes_to : (keys : List (List ℕ)) (spare : Option ℕ) (done : ℕ) (turns : List TurnAt) (reply : Reply) → WritesBy shape cpu spares (deletes_of keys) done turns reply → Writes shape cpu spare (deletes_of keys) done turns reply
  deletes_to [] spare done turns reply is = is
  deletes_to (key ∷ keys) spare done turns reply (answer, one, rest, (are, trace, goes)) =
      (answer, one, rest, (are, trace, by_refusal (λ errno. (rest ≡ []) × (reply ≡ Count (Some errno) done)) (refused_with answer) (deletes_to keys (spare_left shape spare one) (suc done) rest reply) goes))

  deletes_from : (keys : List (List ℕ)) (spare : Option ℕ) (done : ℕ) (turns : List TurnAt) (reply : Reply) → Writes shape cpu spare (deletes_of keys) done turns reply → WritesBy shape cpu spares (deletes_of keys) done turns reply
  deletes_from [] spare done turns reply is = is
  deletes_from (key ∷ keys) spare done turns reply (answer, one, rest, (are, trace, goes)) =
      (answer, one, rest, (are, trace, by_refusal (λ errno. (rest ≡ []) × (reply ≡ Count (Some errno) done)) (refused_with answer) (deletes_from keys (spare_left shape spare one) (suc done) rest reply) goes))

  pub to_told : (verb : Verb) (turns : List TurnAt) (reply : Reply) → IsTraceBy shape cpu spares verb turns reply → told.IsTraceBy shape cpu spares verb turns reply
  to_told (verbs.Lookup side key) turns reply is = is
  to_told (verbs.Update side flags key value) turns reply is = is
  to_told (verbs.Delete key) turns reply is = is
  to_told (verbs.Take key) turns reply is = is
  to_told (verbs.Next key) turns reply is = is
  to_told (verbs.BatchRead remove count start flags) turns reply is = is
  to_told (verbs.BatchUpdate flags pairs) turns reply is = by_test _ (flags == 0) (writes_to _ 0 turns reply) is
  to_told (verbs.BatchDelete flags keys) turns reply is = by_test _ (flags == 0) (deletes_to keys None 0 turns reply) is
  to_told (verbs.Each flags stop) turns reply is = is

  pub from_told : (verb : Verb) (turns : List TurnAt) (reply : Reply) → told.IsTraceBy shape cpu spares verb turns reply → IsTraceBy shape cpu spares verb turns reply
  from_told (verbs.Lookup side key) turns reply is = is
  from_told (verbs.Update side flags key value) turns reply is = is
  from_told (verbs.Delete key) turns reply is = is
  from_told (verbs.Take key) turns reply is = is
  from_told (verbs.Next key) turns reply is = is
  from_told (verbs.BatchRead remove count start flags) turns reply is = is
  from_told (verbs.BatchUpdate flags pairs) turns reply is = by_test _ (flags == 0) (writes_from _ 0 turns reply) is
  from_told (verbs.BatchDelete flags keys) turns reply is = by_test _ (flags == 0) (deletes_from keys None 0 turns reply) is
  from_told (verbs.Each flags stop) turns reply is = is
