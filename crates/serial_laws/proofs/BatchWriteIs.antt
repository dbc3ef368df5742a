-- What a batch of writes does is determined by its trace, where its calls on one key are: its turns and its reply are those of a run in
-- serial order.
use Rattle.std.proofs.Common.{◌≡◌, ℕ, suc, Bool, true, false, eqb, List, [], ◌∷◌, ◌++◌, refl, ap, ◌∙◌, sym, subst}
use Rattle.std.specs.Prelude.{Option, None, Some, MatchOption}
use Rattle.std.proofs.lemmas.Bool.{cond-true}
use Rattle.std.proofs.lemmas.List.{map-append}
use Rattle.map_types.specs.declared.attr.Shape.{Shape}
use Rattle.map_types.specs.declared.call.Verb.{Verb}
use Rattle.map_types.specs.declared.refusal.Errno.{Errno}
use Rattle.map_types.specs.declared.reply.Reply.{Reply}
use Rattle.map_types.specs.declared.reply.Reply.TheVariants.{Count}
use Rattle.map_types.specs.Kind.{is_lru}
use Rattle.place_words.specs.Logs.{State, turned, all_turned, Does, first_does, key_does, counted_or, writes, write_does}
use Rattle.place_words.specs.Turns.{Turn, TurnAt, turns_of}
use Rattle.place_words.specs.Walks.{spare_left, refused_with, Writes, IsWriteBatch}
use Rattle.place_words.proofs.PlacedLaws.{spares_after}
use Rattle.place_words.proofs.PlainLaws.{plain_spare}
use Rattle.place_words.proofs.PlainlyDone.{AreKeyVerbs}
use Rattle.serial_laws.proofs.BatchReadIs.{either_as, answered_as}
use Rattle.serial_laws.proofs.KeyCalls.{IsAs, DecidesKeys}
use Rattle.serial_laws.proofs.TurnsMade.{AreMade, EachTurn, made_both, each_both}

-- The spare that turns leave a CPU

pub spares_stay : (shape : Shape) (cpu number : ℕ) (turns : List Turn) (state : State) → is_lru shape.kind ≡ true → (all_turned shape cpu number turns state).spares ≡ state.spares
spares_stay shape cpu number [] state lru = refl
spares_stay shape cpu number (turn ∷ turns) state lru = spares_stay shape cpu number turns (turned shape cpu number turn state) lru ∙ cond-true (is_lru shape.kind) _ _ lru

spare_then : (shape : Shape) (cpu number : ℕ) (turns : List TurnAt) (state : State) → (all_turned shape cpu number (turns_of turns) state).spares cpu ≡ spare_left shape (state.spares cpu) turns
spare_then shape cpu number turns state = by (is_lru shape.kind) refl
  where
    by : (lru : Bool) → is_lru shape.kind ≡ lru → (all_turned shape cpu number (turns_of turns) state).spares cpu ≡ spare_left shape (state.spares cpu) turns
    by true lru = ap (λ (spares : ℕ → Option ℕ). spares cpu) (spares_stay shape cpu number (turns_of turns) state lru) ∙ sym (cond-true (is_lru shape.kind) _ _ lru)
    by false plain = spares_after shape cpu number (turns_of turns) state plain ∙ sym (plain_spare shape (state.spares cpu) turns plain)

module _ (Fact : State → Turn → Type 0) (shape : Shape) (cpu number : ℕ) (Good : State → Type 0) (decides : DecidesKeys Fact shape cpu Good) where
  -- what comes after an entry
  entry_as : (did later : Does) (refused : Option Errno) (done : ℕ) (GoesOn : Type 0) (turns one rest : List TurnAt) (reply : Reply) → turns ≡ one ++ rest → turns_of one ≡ did.turns → (GoesOn → IsAs later rest reply)
      → MatchOption refused GoesOn (λ errno. (rest ≡ []) × (reply ≡ Count (Some errno) done)) → IsAs (first_does did.turns (counted_or refused done later)) turns reply
  entry_as did later None done GoesOn turns one rest reply are is next goes =
      let after = next goes in
      record {
        turns_are = ap turns_of are ∙ map-append (λ (at : TurnAt). at.turn) one rest ∙ (λ i. is i ++ after.turns_are i);
        reply_is = after.reply_is;
      }
  entry_as did later (Some errno) done GoesOn turns one rest reply are is next goes = record {
    turns_are = ap turns_of are ∙ map-append (λ (at : TurnAt). at.turn) one rest ∙ (λ i. is i ++ turns_of (goes.0 i));
    reply_is = goes.1;
  }

  writes_are : (entries : List Verb) → AreKeyVerbs entries → (state : State) → Good state → (done : ℕ) (turns : List TurnAt) (reply : Reply) → Writes shape cpu (state.spares cpu) entries done turns reply
      → AreMade shape cpu number turns state → EachTurn Fact shape cpu number turns state → IsAs (writes shape cpu number state entries done) turns reply
  writes_are [] are state good done turns reply trace made each = record { turns_are = ap turns_of trace.0; reply_is = trace.1 }
  writes_are (entry ∷ entries) are state good done turns reply trace made each =
      let answer : Reply = trace.0 in
      let one : List TurnAt = trace.1 in
      let rest : List TurnAt = trace.2 in
      let did : Does = key_does shape cpu number state entry in
      let then : State = all_turned shape cpu number did.turns state in
      let parts_made = made_both shape cpu number one rest state (subst (λ (l : List TurnAt). AreMade shape cpu number l state) trace.3.0 made) in
      let parts_each = each_both shape cpu number Fact one rest state (subst (λ (l : List TurnAt). EachTurn Fact shape cpu number l state) trace.3.0 each) in
      let is = decides.key_is number state entry one answer good are.0 trace.3.1 parts_made.0 parts_each.0 in
      let made_then : AreMade shape cpu number rest then = subst (λ (l : List Turn). AreMade shape cpu number rest (all_turned shape cpu number l state)) is.turns_are parts_made.1 in
      let each_then : EachTurn Fact shape cpu number rest then = subst (λ (l : List Turn). EachTurn Fact shape cpu number rest (all_turned shape cpu number l state)) is.turns_are parts_each.1 in
      let spare : spare_left shape (state.spares cpu) one ≡ then.spares cpu =
      sym (spare_then shape cpu number one state) ∙ ap (λ (l : List Turn). (all_turned shape cpu number l state).spares cpu) is.turns_are in
      entry_as did (writes shape cpu number then entries (suc done)) (refused_with did.reply) done (Writes shape cpu (then.spares cpu) entries (suc done) rest reply) turns one rest reply trace.3.0 is.turns_are
      (λ later. writes_are entries are.1 then (decides.stays number state entry good are.0) (suc done) rest reply later made_then each_then)
      (subst (λ (s : Option ℕ). MatchOption (refused_with did.reply) (Writes shape cpu s entries (suc done) rest reply) (λ errno. (rest ≡ []) × (reply ≡ Count (Some errno) done))) spare
      (subst (λ (r : Reply). MatchOption (refused_with r) (Writes shape cpu (spare_left shape (state.spares cpu) one) entries (suc done) rest reply) (λ errno. (rest ≡ []) × (reply ≡ Count (Some errno) done))) is.reply_is trace.3.2))

  pub write_is : (state : State) → Good state → (flags : ℕ) (entries : List Verb) → AreKeyVerbs entries → (turns : List TurnAt) (reply : Reply) → IsWriteBatch shape cpu (state.spares cpu) flags entries turns reply
      → AreMade shape cpu number turns state → EachTurn Fact shape cpu number turns state → IsAs (write_does shape cpu number state flags entries) turns reply
  write_is state good flags entries are turns reply trace made each =
      either_as turns reply (eqb flags 0) _ _ _ _ (λ goes. writes_are entries are state good 0 turns reply goes made each) (answered_as turns reply _) trace
