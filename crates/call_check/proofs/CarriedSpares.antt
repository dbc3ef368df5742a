-- A trace by the spares before each of its turns is one by a spare that is carried from turn to turn.
use Rattle.std.proofs.Common.{◌≡◌, inl, inr, ℕ, suc, Bool, true, false, cond, List, [], ◌∷◌, ◌++◌, Option, None, Some, refl, ap, sym, ◌∙◌, subst, append_assoc}
use Rattle.std.specs.Prelude.{◌==◌, MatchBool, MatchOption}
use Rattle.std.proofs.lemmas.List.{append-nil}
use Rattle.map_types.specs.Kind.{is_lru}
use Rattle.map_types.specs.declared.attr.Shape.{Shape}
use Rattle.map_types.specs.declared.call.Verb.{Verb}
use Rattle.map_types.specs.declared.call.Verb.TheVariants as verbs
use Rattle.map_types.specs.declared.refusal.Errno.{Errno}
use Rattle.map_types.specs.declared.refusal.Errno.TheVariants.{Einval}
use Rattle.map_types.specs.declared.reply.Reply.{Reply}
use Rattle.map_types.specs.declared.reply.Reply.TheVariants.{Refused, Count}
use Rattle.place_words.specs.Evicting.{IsEvictingTrace}
use Rattle.place_words.specs.PlainTraces.{IsPlainTrace, spare_after}
use Rattle.place_words.specs.Traces.{IsTrace}
use Rattle.place_words.specs.Turns.{Turn, TurnAt, turns_of}
use Rattle.place_words.specs.Walks.{IsKeyTrace, IsWriteBatch, Writes, refused_with, spare_left, updates_of, deletes_of}
use Rattle.call_check.specs.By.{IsBatchBy, IsTraceBy, WritesBy}

pub spare_joined : (spare : Option ℕ) (xs ys : List Turn) → spare_after spare (xs ++ ys) ≡ spare_after (spare_after spare xs) ys
spare_joined spare [] ys = refl
spare_joined spare (x ∷ xs) ys = spare_joined _ xs ys

pub turns_joined : (xs ys : List TurnAt) → turns_of (xs ++ ys) ≡ turns_of xs ++ turns_of ys
turns_joined [] ys = refl
turns_joined (x ∷ xs) ys = ap (λ (l : List Turn). x.turn ∷ l) (turns_joined xs ys)

pub left_joined : (shape : Shape) (spare : Option ℕ) (xs ys : List TurnAt) → spare_left shape spare (xs ++ ys) ≡ spare_left shape (spare_left shape spare xs) ys
left_joined shape spare xs ys = by (is_lru shape.kind) (ap (spare_after spare) (turns_joined xs ys) ∙ spare_joined spare (turns_of xs) (turns_of ys))
  where
    by : (lru : Bool) → spare_after spare (turns_of (xs ++ ys)) ≡ spare_after (spare_after spare (turns_of xs)) (turns_of ys)
        → cond lru spare (spare_after spare (turns_of (xs ++ ys))) ≡ cond lru (cond lru spare (spare_after spare (turns_of xs))) (spare_after (cond lru spare (spare_after spare (turns_of xs))) (turns_of ys))
    by true joined = refl
    by false joined = joined

-- The spare before some turns is what those before them left of a spare. On a map that evicts nothing is asked of it.
abbrev pub Carries : Shape → (List TurnAt → Option ℕ) → Option ℕ → List TurnAt → Type 0
Carries shape spares spare turns =
    is_lru shape.kind ≡ false → (before one rest : List TurnAt) (at : TurnAt) → turns ≡ before ++ ((at ∷ one) ++ rest) → spares (at ∷ one) ≡ spare_left shape spare before

-- a call on one key asks of a spare only where it has turns
no_end : {A : Type 0} (xs : List A) (y : A) (ys : List A) → [] ≡ xs ++ y ∷ ys → ⊥
no_end [] y ys same = absurd cc
no_end (x ∷ xs) y ys same = absurd cc

module _ (shape : Shape) (cpu : ℕ) (one other : Option ℕ) (reply : Reply) where
  no_turns : (verb : Verb) → IsPlainTrace shape cpu one verb [] reply → IsPlainTrace shape cpu other verb [] reply
  no_turns (verbs.Lookup side key) trace = trace
  no_turns (verbs.Update side flags key value) (inl refused) = inl refused
  no_turns (verbs.Update side flags key value) (inr put) = absurd (no_end put.1.looks _ [] put.1.turns_are)
  no_turns (verbs.Delete key) trace = trace
  no_turns (verbs.Take key) trace = trace
  no_turns (verbs.Next key) trace = trace
  no_turns (verbs.BatchRead remove count start flags) trace = trace
  no_turns (verbs.BatchUpdate flags pairs) trace = trace
  no_turns (verbs.BatchDelete flags keys) trace = trace
  no_turns (verbs.Each flags stop) trace = trace

  plain_by : (verb : Verb) (turns : List TurnAt) → ((at : TurnAt) (more : List TurnAt) → turns ≡ at ∷ more → one ≡ other)
      → IsPlainTrace shape cpu one verb (turns_of turns) reply → IsPlainTrace shape cpu other verb (turns_of turns) reply
  plain_by verb [] same trace = no_turns verb trace
  plain_by verb (at ∷ more) same trace = subst (λ (spare : Option ℕ). IsPlainTrace shape cpu spare verb (turns_of (at ∷ more)) reply) (same at more refl) trace

  pub key_by : (verb : Verb) (turns : List TurnAt) → (is_lru shape.kind ≡ false → (at : TurnAt) (more : List TurnAt) → turns ≡ at ∷ more → one ≡ other)
      → IsKeyTrace shape cpu one verb turns reply → IsKeyTrace shape cpu other verb turns reply
  key_by verb turns same trace = by (is_lru shape.kind) refl trace
    where
      by : (lru : Bool) → is_lru shape.kind ≡ lru → MatchBool lru (IsEvictingTrace shape cpu verb turns reply) (IsPlainTrace shape cpu one verb (turns_of turns) reply)
          → MatchBool lru (IsEvictingTrace shape cpu verb turns reply) (IsPlainTrace shape cpu other verb (turns_of turns) reply)
      by true is either = either
      by false is either = plain_by verb turns (same is) either

goes_on : (o : Option Errno) (P Q : Type 0) (Stops : Errno → Type 0) → (P → Q) → MatchOption o P Stops → MatchOption o Q Stops
goes_on None P Q Stops more is = more is
goes_on (Some errno) P Q Stops more is = is

module _ (shape : Shape) (cpu : ℕ) (spares : List TurnAt → Option ℕ) (spare : Option ℕ) (whole : List TurnAt) (carries : Carries shape spares spare whole) where
  -- what is carried to some turns of an entry
  carried : (before one rest : List TurnAt) → whole ≡ before ++ (one ++ rest) → is_lru shape.kind ≡ false → (at : TurnAt) (more : List TurnAt) → one ≡ at ∷ more → spares one ≡ spare_left shape spare before
  carried before one rest are plain at more same = ap spares same ∙ carries plain before more rest at (are ∙ ap (λ (l : List TurnAt). before ++ (l ++ rest)) same)

  next_are : (before turns one rest : List TurnAt) → whole ≡ before ++ turns → turns ≡ one ++ rest → whole ≡ (before ++ one) ++ rest
  next_are before turns one rest are split = are ∙ (ap (λ (l : List TurnAt). before ++ l) split ∙ sym (append_assoc before one rest))

  writes_to : (entries : List Verb) (done : ℕ) (before turns : List TurnAt) (reply : Reply) → whole ≡ before ++ turns
      → WritesBy shape cpu spares entries done turns reply → Writes shape cpu (spare_left shape spare before) entries done turns reply
  writes_to [] done before turns reply are writes = writes
  writes_to (entry ∷ entries) done before turns reply are writes =
      let answer : Reply = writes.0 in
      let one : List TurnAt = writes.1 in
      let rest : List TurnAt = writes.2 in
      let now : Option ℕ = spare_left shape spare before in (
        answer,
        one,
        rest,
        (
          writes.3.0,
          key_by shape cpu (spares one) now answer entry one (carried before one rest (are ∙ ap (λ (l : List TurnAt). before ++ l) writes.3.0)) writes.3.1,
          goes_on (refused_with answer) (WritesBy shape cpu spares entries (suc done) rest reply) (Writes shape cpu (spare_left shape now one) entries (suc done) rest reply)
              (λ (errno : Errno). (rest ≡ []) × (reply ≡ Count (Some errno) done))
              (λ more. subst (λ (s : Option ℕ). Writes shape cpu s entries (suc done) rest reply) (left_joined shape spare before one) (writes_to entries (suc done) (before ++ one) rest reply (next_are before turns one rest are writes.3.0) more))
              writes.3.2,
        ),
      )

  writes_from : (entries : List Verb) (done : ℕ) (before turns : List TurnAt) (reply : Reply) → whole ≡ before ++ turns
      → Writes shape cpu (spare_left shape spare before) entries done turns reply → WritesBy shape cpu spares entries done turns reply
  writes_from [] done before turns reply are writes = writes
  writes_from (entry ∷ entries) done before turns reply are writes =
      let answer : Reply = writes.0 in
      let one : List TurnAt = writes.1 in
      let rest : List TurnAt = writes.2 in
      let now : Option ℕ = spare_left shape spare before in (
        answer,
        one,
        rest,
        (
          writes.3.0,
          key_by shape cpu now (spares one) answer entry one (λ plain at more same. sym (carried before one rest (are ∙ ap (λ (l : List TurnAt). before ++ l) writes.3.0) plain at more same)) writes.3.1,
          goes_on (refused_with answer) (Writes shape cpu (spare_left shape now one) entries (suc done) rest reply) (WritesBy shape cpu spares entries (suc done) rest reply)
              (λ (errno : Errno). (rest ≡ []) × (reply ≡ Count (Some errno) done))
              (λ more. writes_from entries (suc done) (before ++ one) rest reply (next_are before turns one rest are writes.3.0) (subst (λ (s : Option ℕ). Writes shape cpu s entries (suc done) rest reply) (sym (left_joined shape spare before one)) more))
              writes.3.2,
        ),
      )

  none_before : spare_left shape spare [] ≡ spare
  none_before = by (is_lru shape.kind)
    where
      by : (lru : Bool) → cond lru spare spare ≡ spare
      by true = refl
      by false = refl

  batch_to : (flags : ℕ) (entries : List Verb) (reply : Reply) → IsBatchBy shape cpu spares flags entries whole reply → IsWriteBatch shape cpu spare flags entries whole reply
  batch_to flags entries reply batch = by (flags == 0) batch
    where
      by : (b : Bool) → MatchBool b (WritesBy shape cpu spares entries 0 whole reply) ((whole ≡ []) × (reply ≡ Refused Einval)) → MatchBool b (Writes shape cpu spare entries 0 whole reply) ((whole ≡ []) × (reply ≡ Refused Einval))
      by true writes = subst (λ (s : Option ℕ). Writes shape cpu s entries 0 whole reply) none_before (writes_to entries 0 [] whole reply refl writes)
      by false refused = refused

  batch_from : (flags : ℕ) (entries : List Verb) (reply : Reply) → IsWriteBatch shape cpu spare flags entries whole reply → IsBatchBy shape cpu spares flags entries whole reply
  batch_from flags entries reply batch = by (flags == 0) batch
    where
      by : (b : Bool) → MatchBool b (Writes shape cpu spare entries 0 whole reply) ((whole ≡ []) × (reply ≡ Refused Einval)) → MatchBool b (WritesBy shape cpu spares entries 0 whole reply) ((whole ≡ []) × (reply ≡ Refused Einval))
      by true writes = writes_from entries 0 [] whole reply refl (subst (λ (s : Option ℕ). Writes shape cpu s entries 0 whole reply) (sym none_before) writes)
      by false refused = refused

  first_is : is_lru shape.kind ≡ false → (at : TurnAt) (more : List TurnAt) → whole ≡ at ∷ more → spares whole ≡ spare
  first_is plain at more same = carried [] whole [] (sym (append-nil whole)) plain at more same ∙ none_before

  pub trace_to : (verb : Verb) (reply : Reply) → IsTraceBy shape cpu spares verb whole reply → IsTrace shape cpu spare verb whole reply
  trace_to (verbs.Lookup side key) reply trace = trace
  trace_to (verbs.Update side flags key value) reply trace = key_by shape cpu (spares whole) spare reply (verbs.Update side flags key value) whole first_is trace
  trace_to (verbs.Delete key) reply trace = trace
  trace_to (verbs.Take key) reply trace = trace
  trace_to (verbs.Next key) reply trace = trace
  trace_to (verbs.BatchRead remove count start flags) reply trace = trace
  trace_to (verbs.BatchUpdate flags pairs) reply trace = batch_to flags (updates_of pairs) reply trace
  trace_to (verbs.BatchDelete flags keys) reply trace = batch_to flags (deletes_of keys) reply trace
  trace_to (verbs.Each flags stop) reply trace = trace

  pub trace_from : (verb : Verb) (reply : Reply) → IsTrace shape cpu spare verb whole reply → IsTraceBy shape cpu spares verb whole reply
  trace_from (verbs.Lookup side key) reply trace = trace
  trace_from (verbs.Update side flags key value) reply trace =
      key_by shape cpu spare (spares whole) reply (verbs.Update side flags key value) whole (λ plain at more same. sym (first_is plain at more same)) trace
  trace_from (verbs.Delete key) reply trace = trace
  trace_from (verbs.Take key) reply trace = trace
  trace_from (verbs.Next key) reply trace = trace
  trace_from (verbs.BatchRead remove count start flags) reply trace = trace
  trace_from (verbs.BatchUpdate flags pairs) reply trace = batch_from flags (updates_of pairs) reply trace
  trace_from (verbs.BatchDelete flags keys) reply trace = batch_from flags (deletes_of keys) reply trace
  trace_from (verbs.Each flags stop) reply trace = trace
