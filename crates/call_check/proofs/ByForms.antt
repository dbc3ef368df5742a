-- On maps that evict a call's turns are its trace with no spare at all.
use Rattle.std.proofs.Common.{◌≡◌, ℕ, suc, Bool, true, false, eqb, List, [], ◌∷◌, Option, None, Some, refl}
use Rattle.std.specs.Prelude.{MatchBool, MatchOption}
use Rattle.std.proofs.lemmas.Bool.{both_ways}
use Rattle.map_types.specs.declared.attr.Shape.{Shape}
use Rattle.map_types.specs.declared.call.Verb.{Verb}
use Rattle.map_types.specs.declared.call.Verb.TheVariants as verbs
use Rattle.map_types.specs.declared.refusal.Errno.{Errno}
use Rattle.map_types.specs.declared.refusal.Errno.TheVariants.{Einval}
use Rattle.map_types.specs.declared.reply.Reply.{Reply}
use Rattle.map_types.specs.declared.reply.Reply.TheVariants.{Refused, Count}
use Rattle.map_types.specs.Kind.{is_lru}
use Rattle.place_words.specs.Evicting.{IsEvictingTrace}
use Rattle.place_words.specs.PlainTraces.{IsPlainTrace}
use Rattle.place_words.specs.Traces.{IsTrace}
use Rattle.place_words.specs.Turns.{TurnAt, turns_of}
use Rattle.place_words.specs.Walks.{IsKeyTrace, Writes, refused_with, spare_left, updates_of, deletes_of}
use Rattle.record_shape.specs.Fits.{AllFit}
use Rattle.call_check.specs.By.{IsTraceBy, WritesBy}

-- what a batch does whose flags aren't refused, told in another way
flagged : {A B : Type 0} (turns : List TurnAt) (reply : Reply) (b : Bool) → (A → B) → MatchBool b A ((turns ≡ []) × (reply ≡ Refused Einval)) → MatchBool b B ((turns ≡ []) × (reply ≡ Refused Einval))
flagged turns reply true change is = change is
flagged turns reply false change is = is

-- what holds exactly where something else does
pub decided : {A B : Type 0} (b : Bool) → (A → B) → (B → A) → MatchBool b A (A → ⊥) → MatchBool b B (B → ⊥)
decided true to from is = to is
decided false to from isnt = λ other. isnt (from other)

module _ (shape : Shape) (cpu : ℕ) (spares : List TurnAt → Option ℕ) where
  -- a call on one key whose turns are the same whatever spare there is
  abbrev IsBlind : Verb → Type 0
  IsBlind verb = (spare other : Option ℕ) (turns : List TurnAt) (reply : Reply) → IsKeyTrace shape cpu spare verb turns reply → IsKeyTrace shape cpu other verb turns reply

  to_any : (entries : List Verb) → AllFit IsBlind entries → (spare : Option ℕ) (done : ℕ) (turns : List TurnAt) (reply : Reply) → WritesBy shape cpu spares entries done turns reply → Writes shape cpu spare entries done turns reply
  to_any [] blind spare done turns reply is = is
  to_any (entry ∷ entries) blind spare done turns reply (answer, one, rest, (parts, key, goes)) =
      (answer, one, rest, (parts, blind.0 (spares one) spare one answer key, by (refused_with answer) (to_any entries blind.1 (spare_left shape spare one) (suc done) rest reply) goes))
    where
      by : (o : Option Errno) → (WritesBy shape cpu spares entries (suc done) rest reply → Writes shape cpu (spare_left shape spare one) entries (suc done) rest reply)
          → MatchOption o (WritesBy shape cpu spares entries (suc done) rest reply) (λ errno. (rest ≡ []) × (reply ≡ Count (Some errno) done))
          → MatchOption o (Writes shape cpu (spare_left shape spare one) entries (suc done) rest reply) (λ errno. (rest ≡ []) × (reply ≡ Count (Some errno) done))
      by None later goes = later goes
      by (Some errno) later ends = ends

  from_any : (entries : List Verb) → AllFit IsBlind entries → (spare : Option ℕ) (done : ℕ) (turns : List TurnAt) (reply : Reply) → Writes shape cpu spare entries done turns reply → WritesBy shape cpu spares entries done turns reply
  from_any [] blind spare done turns reply is = is
  from_any (entry ∷ entries) blind spare done turns reply (answer, one, rest, (parts, key, goes)) =
      (answer, one, rest, (parts, blind.0 spare (spares one) one answer key, by (refused_with answer) (from_any entries blind.1 (spare_left shape spare one) (suc done) rest reply) goes))
    where
      by : (o : Option Errno) → (Writes shape cpu (spare_left shape spare one) entries (suc done) rest reply → WritesBy shape cpu spares entries (suc done) rest reply)
          → MatchOption o (Writes shape cpu (spare_left shape spare one) entries (suc done) rest reply) (λ errno. (rest ≡ []) × (reply ≡ Count (Some errno) done))
          → MatchOption o (WritesBy shape cpu spares entries (suc done) rest reply) (λ errno. (rest ≡ []) × (reply ≡ Count (Some errno) done))
      by None later goes = later goes
      by (Some errno) later ends = ends

  -- deletes find no spare
  blind_deletes : (keys : List (List ℕ)) → AllFit IsBlind (deletes_of keys)
  blind_deletes [] = tt
  blind_deletes (key ∷ keys) = ((λ spare other turns reply is. is), blind_deletes keys)

  -- on a map that evicts no call finds one
  module _ (evicts : is_lru shape.kind ≡ true) where
    evicts_blind : (verb : Verb) → IsBlind verb
    evicts_blind verb spare other turns reply is = by (is_lru shape.kind) evicts is
      where
        by : (b : Bool) → b ≡ true → MatchBool b (IsEvictingTrace shape cpu verb turns reply) (IsPlainTrace shape cpu spare verb (turns_of turns) reply)
            → MatchBool b (IsEvictingTrace shape cpu verb turns reply) (IsPlainTrace shape cpu other verb (turns_of turns) reply)
        by true first is = is
        by false first is = absurd (both_ways false refl first)

    each_blind : (entries : List Verb) → AllFit IsBlind entries
    each_blind [] = tt
    each_blind (entry ∷ entries) = (evicts_blind entry, each_blind entries)

    pub with_none : (verb : Verb) (turns : List TurnAt) (reply : Reply) → IsTraceBy shape cpu spares verb turns reply → IsTrace shape cpu None verb turns reply
    with_none (verbs.Lookup side key) turns reply is = is
    with_none (verbs.Update side flags key value) turns reply is = evicts_blind (verbs.Update side flags key value) (spares turns) None turns reply is
    with_none (verbs.Delete key) turns reply is = is
    with_none (verbs.Take key) turns reply is = is
    with_none (verbs.Next key) turns reply is = is
    with_none (verbs.BatchRead remove count start flags) turns reply is = is
    with_none (verbs.BatchUpdate flags pairs) turns reply is = flagged turns reply (eqb flags 0) (to_any (updates_of pairs) (each_blind (updates_of pairs)) None 0 turns reply) is
    with_none (verbs.BatchDelete flags keys) turns reply is = flagged turns reply (eqb flags 0) (to_any (deletes_of keys) (blind_deletes keys) None 0 turns reply) is
    with_none (verbs.Each flags stop) turns reply is = is

    pub by_none : (verb : Verb) (turns : List TurnAt) (reply : Reply) → IsTrace shape cpu None verb turns reply → IsTraceBy shape cpu spares verb turns reply
    by_none (verbs.Lookup side key) turns reply is = is
    by_none (verbs.Update side flags key value) turns reply is = evicts_blind (verbs.Update side flags key value) None (spares turns) turns reply is
    by_none (verbs.Delete key) turns reply is = is
    by_none (verbs.Take key) turns reply is = is
    by_none (verbs.Next key) turns reply is = is
    by_none (verbs.BatchRead remove count start flags) turns reply is = is
    by_none (verbs.BatchUpdate flags pairs) turns reply is = flagged turns reply (eqb flags 0) (from_any (updates_of pairs) (each_blind (updates_of pairs)) None 0 turns reply) is
    by_none (verbs.BatchDelete flags keys) turns reply is = flagged turns reply (eqb flags 0) (from_any (deletes_of keys) (blind_deletes keys) None 0 turns reply) is
    by_none (verbs.Each flags stop) turns reply is = is
