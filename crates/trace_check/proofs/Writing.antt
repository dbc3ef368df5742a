-- Batch writes are read as their traces.
use Rattle.std.proofs.Common.{◌≡◌, ℕ, suc, Bool, true, false, List, [], ◌∷◌, ◌++◌, Option, None, Some, ap, ◌∙◌, sym, subst}
use Rattle.std.specs.Prelude.{◌==◌, MatchBool, MatchOption}
use Rattle.map_types.specs.declared.attr.Shape.{Shape}
use Rattle.map_types.specs.declared.call.Verb.{Verb}
use Rattle.map_types.specs.declared.call.Verb.TheVariants as verbs
use Rattle.map_types.specs.declared.refusal.Errno.{Errno}
use Rattle.map_types.specs.declared.refusal.Errno.TheVariants.{Einval}
use Rattle.map_types.specs.declared.reply.Reply.{Reply}
use Rattle.map_types.specs.declared.reply.Reply.TheVariants.{Refused, Count}
use Rattle.map_types.specs.Kind.{is_lru}
use Rattle.place_words.specs.Evicting.{IsEvictingTrace}
use Rattle.place_words.specs.PlainTraces.{IsPlainTrace, spare_after}
use Rattle.place_words.specs.Turns.{Turn, TurnAt, turns_of}
use Rattle.place_words.specs.Walks.{Writes, spare_left, refused_with}
use Rattle.trace_check.specs.Reading.{Reads, IsReader, read_nothing}
use Rattle.trace_check.specs.Calls.{Answer, read_never, read_key, after_write, read_writes, read_write_batch}
use Rattle.trace_check.specs.Laws.{IsKeyCall, IsBatchCall, ReadsWriteBatches}
use Rattle.trace_check.proofs.Readers.{IsThen, IsNothing, nothing_reader, then_reader, match_reader}
use Rattle.trace_check.proofs.Keys.{reads_lookups}
use Rattle.trace_check.proofs.Puts.{reads_deletes, reads_takes, reads_updates}
use Rattle.trace_check.proofs.Lifting.{turns_both, in_two, none_of, lifted, spare_both, spare_of_turns}

pub never_reader : {A : Type 0} (Rel : List Turn → A → Type 0) → ((xs : List Turn) (a : A) → Rel xs a → ⊥) → IsReader Rel read_never
never_reader Rel never = record { sound = λ ts rest a is. absurd cc; complete = λ xs rest a is. absurd (never xs a is) }

-- any call on one key
pub reads_keys : (shape : Shape) (cpu : ℕ) (spare : Option ℕ) (verb : Verb) → IsReader (IsKeyCall shape cpu spare verb) (read_key shape cpu spare verb)
reads_keys shape cpu spare (verbs.Lookup side key) = reads_lookups shape cpu spare side key
reads_keys shape cpu spare (verbs.Update side flags key value) = reads_updates shape cpu spare side flags key value
reads_keys shape cpu spare (verbs.Delete key) = reads_deletes shape cpu spare key
reads_keys shape cpu spare (verbs.Take key) = reads_takes shape cpu spare key
reads_keys shape cpu spare (verbs.Next key) = never_reader (IsKeyCall shape cpu spare (verbs.Next key)) (λ xs a is. is.0)
reads_keys shape cpu spare (verbs.BatchRead remove count start flags) = never_reader (IsKeyCall shape cpu spare (verbs.BatchRead remove count start flags)) (λ xs a is. is.0)
reads_keys shape cpu spare (verbs.BatchUpdate flags pairs) = never_reader (IsKeyCall shape cpu spare (verbs.BatchUpdate flags pairs)) (λ xs a is. is.0)
reads_keys shape cpu spare (verbs.BatchDelete flags keys) = never_reader (IsKeyCall shape cpu spare (verbs.BatchDelete flags keys)) (λ xs a is. is.0)
reads_keys shape cpu spare (verbs.Each flags stop) = never_reader (IsKeyCall shape cpu spare (verbs.Each flags stop)) (λ xs a is. is.0)

-- such calls in a row, over turns
abbrev AfterWrite : ℕ → Option ℕ → (Option ℕ → List Turn → Answer → Type 0) → Option Errno → List Turn → Answer → Type 0
AfterWrite done left More None = More left
AfterWrite done left More (Some errno) = IsNothing (Count (Some errno) done, left)

abbrev PlainWrites : Shape → ℕ → Option ℕ → List Verb → ℕ → List Turn → Answer → Type 0
PlainWrites shape cpu spare [] done = IsNothing (Count None done, spare)
PlainWrites shape cpu spare (entry ∷ entries) done =
    IsThen (IsKeyCall shape cpu spare entry) (λ answer. AfterWrite done answer.1 (λ left. PlainWrites shape cpu left entries (suc done)) (refused_with answer.0))

write_reads : (done : ℕ) (left : Option ℕ) (More : Option ℕ → List Turn → Answer → Type 0) (more : Option ℕ → Reads Answer) → ((o : Option ℕ) → IsReader (More o) (more o)) → (refused : Option Errno) → IsReader (AfterWrite done left More refused) (after_write done left more refused)
write_reads done left More more reads None = reads left
write_reads done left More more reads (Some errno) = nothing_reader (Count (Some errno) done, left)

writes_read : (shape : Shape) (cpu : ℕ) (entries : List Verb) (done : ℕ) (spare : Option ℕ) → IsReader (PlainWrites shape cpu spare entries done) (read_writes shape cpu spare entries done)
writes_read shape cpu [] done spare = nothing_reader (Count None done, spare)
writes_read shape cpu (entry ∷ entries) done spare =
    then_reader (IsKeyCall shape cpu spare entry) (λ answer. AfterWrite done answer.1 (λ left. PlainWrites shape cpu left entries (suc done)) (refused_with answer.0))
    (read_key shape cpu spare entry) (λ answer. after_write done answer.1 (λ left. read_writes shape cpu left entries (suc done)) (refused_with answer.0))
    (reads_keys shape cpu spare entry)
    (λ answer. write_reads done answer.1 (λ left. PlainWrites shape cpu left entries (suc done)) (λ left. read_writes shape cpu left entries (suc done)) (writes_read shape cpu entries (suc done)) (refused_with answer.0))

module _ (shape : Shape) (cpu : ℕ) (plain : is_lru shape.kind ≡ false) where
  abbrev Over : Option ℕ → List Verb → ℕ → List TurnAt → Answer → Type 0
  Over spare entries done turns final = Writes shape cpu spare entries done turns final.0 × (final.1 ≡ spare_after spare (turns_of turns))

  abbrev After : Option Errno → Option ℕ → List Verb → ℕ → List TurnAt → Answer → Type 0
  After refused left entries done rest final =
      MatchOption refused (Writes shape cpu left entries (suc done) rest final.0) (λ errno. (rest ≡ []) × (final.0 ≡ Count (Some errno) done)) × (final.1 ≡ spare_after left (turns_of rest))

  after_there : (refused : Option Errno) (left : Option ℕ) (entries : List Verb) (done : ℕ) (rest : List TurnAt) (final : Answer)
      → (Over left entries (suc done) rest final → PlainWrites shape cpu left entries (suc done) (turns_of rest) final)
      → After refused left entries done rest final → AfterWrite done left (λ o. PlainWrites shape cpu o entries (suc done)) refused (turns_of rest) final
  after_there None left entries done rest final more is = more is
  after_there (Some errno) left entries done rest final more is =
      (ap turns_of is.0.0, ap (λ (r : Reply). (r, final.1)) is.0.1 ∙ ap (λ (o : Option ℕ). (Count (Some errno) done, o)) (is.1 ∙ ap (λ (l : List TurnAt). spare_after left (turns_of l)) is.0.0))

  after_back : (refused : Option Errno) (left : Option ℕ) (entries : List Verb) (done : ℕ) (rest : List TurnAt) (final : Answer)
      → (PlainWrites shape cpu left entries (suc done) (turns_of rest) final → Over left entries (suc done) rest final)
      → AfterWrite done left (λ o. PlainWrites shape cpu o entries (suc done)) refused (turns_of rest) final → After refused left entries done rest final
  after_back None left entries done rest final more is = more is
  after_back (Some errno) left entries done rest final more is =
      ((none_of rest is.0, ap (λ (b : Answer). b.0) is.1), ap (λ (b : Answer). b.1) is.1 ∙ sym (ap (spare_after left) is.0))

  spares : (spare : Option ℕ) (turns one rest : List TurnAt) → turns ≡ one ++ rest → spare_after spare (turns_of turns) ≡ spare_after (spare_left shape spare one) (turns_of rest)
  spares spare turns one rest is =
      ap (λ (l : List TurnAt). spare_after spare (turns_of l)) is ∙ ap (spare_after spare) (turns_both one rest) ∙ spare_both spare (turns_of one) (turns_of rest)
      ∙ ap (λ (o : Option ℕ). spare_after o (turns_of rest)) (sym (spare_of_turns shape spare one plain))

  writes_there : (entries : List Verb) (spare : Option ℕ) (done : ℕ) (turns : List TurnAt) (final : Answer) → Over spare entries done turns final → PlainWrites shape cpu spare entries done (turns_of turns) final
  writes_there [] spare done turns final is =
      (ap turns_of is.0.0, ap (λ (r : Reply). (r, final.1)) is.0.1 ∙ ap (λ (o : Option ℕ). (Count None done, o)) (is.1 ∙ ap (λ (l : List TurnAt). spare_after spare (turns_of l)) is.0.0))
  writes_there (entry ∷ entries) spare done turns final is =
      let answer : Reply = is.0.0 in
      let one : List TurnAt = is.0.1 in
      let rest : List TurnAt = is.0.2 in
      let left : Option ℕ = spare_left shape spare one in
      record {
        middle = (answer, left);
        ys = turns_of one;
        zs = turns_of rest;
        xs_are = ap turns_of is.0.3.0 ∙ turns_both one rest;
        first = (subst (λ (b : Bool). MatchBool b (IsEvictingTrace shape cpu entry one answer) (IsPlainTrace shape cpu spare entry (turns_of one) answer)) plain is.0.3.1, spare_of_turns shape spare one plain);
        second = after_there (refused_with answer) left entries done rest final (writes_there entries left (suc done) rest final) (is.0.3.2, is.1 ∙ spares spare turns one rest is.0.3.0);
      }

  writes_back : (entries : List Verb) (spare : Option ℕ) (done : ℕ) (turns : List TurnAt) (final : Answer) → PlainWrites shape cpu spare entries done (turns_of turns) final → Over spare entries done turns final
  writes_back [] spare done turns final is =
      ((none_of turns is.0, ap (λ (b : Answer). b.0) is.1), ap (λ (b : Answer). b.1) is.1 ∙ sym (ap (spare_after spare) is.0))
  writes_back (entry ∷ entries) spare done turns final is =
      let two = in_two turns is.ys is.zs is.xs_are in
      let answer : Reply = is.middle.0 in
      let left_is : is.middle.1 ≡ spare_left shape spare two.one = is.first.1 ∙ sym (ap (spare_after spare) two.first) ∙ sym (spare_of_turns shape spare two.one plain) in
      let After_write : Option ℕ → List Turn → Type 0 = λ o l. AfterWrite done o (λ q. PlainWrites shape cpu q entries (suc done)) (refused_with answer) l final in
      let second : After_write (spare_left shape spare two.one) (turns_of two.more) =
      subst (λ (l : List Turn). After_write (spare_left shape spare two.one) l) (sym two.second) (subst (λ (o : Option ℕ). After_write o is.zs) left_is is.second) in
      let after = after_back (refused_with answer) (spare_left shape spare two.one) entries done two.more final (writes_back entries (spare_left shape spare two.one) (suc done) two.more final) second in (
        (
          answer,
          two.one,
          two.more,
          (
            two.turns_are,
            subst (λ (b : Bool). MatchBool b (IsEvictingTrace shape cpu entry two.one answer) (IsPlainTrace shape cpu spare entry (turns_of two.one) answer)) (sym plain)
                (subst (λ (l : List Turn). IsPlainTrace shape cpu spare entry l answer) (sym two.first) is.first.0),
            after.0,
          ),
        ),
        after.1 ∙ sym (spares spare turns two.one two.more two.turns_are),
      )

  abbrev PlainBatch : Option ℕ → ℕ → List Verb → List Turn → Answer → Type 0
  PlainBatch spare flags entries xs a = MatchBool (flags == 0) (PlainWrites shape cpu spare entries 0 xs a) (IsNothing (Refused Einval, spare) xs a)

  batch_there : (b : Bool) (spare : Option ℕ) (entries : List Verb) (turns : List TurnAt) (a : Answer)
      → MatchBool b (Writes shape cpu spare entries 0 turns a.0) ((turns ≡ []) × (a.0 ≡ Refused Einval)) → a.1 ≡ spare_after spare (turns_of turns)
      → MatchBool b (PlainWrites shape cpu spare entries 0 (turns_of turns) a) (IsNothing (Refused Einval, spare) (turns_of turns) a)
  batch_there true spare entries turns a is left = writes_there entries spare 0 turns a (is, left)
  batch_there false spare entries turns a is left =
      (ap turns_of is.0, ap (λ (r : Reply). (r, a.1)) is.1 ∙ ap (λ (o : Option ℕ). (Refused Einval, o)) (left ∙ ap (λ (l : List TurnAt). spare_after spare (turns_of l)) is.0))

  batch_back : (b : Bool) (spare : Option ℕ) (entries : List Verb) (turns : List TurnAt) (a : Answer)
      → MatchBool b (PlainWrites shape cpu spare entries 0 (turns_of turns) a) (IsNothing (Refused Einval, spare) (turns_of turns) a)
      → MatchBool b (Writes shape cpu spare entries 0 turns a.0) ((turns ≡ []) × (a.0 ≡ Refused Einval)) × (a.1 ≡ spare_after spare (turns_of turns))
  batch_back true spare entries turns a is = writes_back entries spare 0 turns a is
  batch_back false spare entries turns a is =
      ((none_of turns is.0, ap (λ (b : Answer). b.0) is.1), ap (λ (b : Answer). b.1) is.1 ∙ sym (ap (spare_after spare) is.0))

  pub reads_write_batch : (spare : Option ℕ) (flags : ℕ) (entries : List Verb) → IsReader (PlainBatch spare flags entries) (read_write_batch shape cpu spare flags entries)
  reads_write_batch spare flags entries =
      match_reader (flags == 0) (PlainWrites shape cpu spare entries 0) (IsNothing (Refused Einval, spare)) (read_writes shape cpu spare entries 0) (read_nothing (Refused Einval, spare))
      (writes_read shape cpu entries 0 spare) (nothing_reader (Refused Einval, spare))

pub reads_write_batches : ReadsWriteBatches
reads_write_batches shape cpu spare flags entries plain =
    lifted (IsBatchCall shape cpu spare flags entries) (PlainBatch shape cpu plain spare flags entries) (read_write_batch shape cpu spare flags entries)
    (λ turns a is. batch_there shape cpu plain (flags == 0) spare entries turns a is.0 (is.1 ∙ spare_of_turns shape spare turns plain))
    (λ turns a is. let both = batch_back shape cpu plain (flags == 0) spare entries turns a is in (both.0, both.1 ∙ sym (spare_of_turns shape spare turns plain)))
    (reads_write_batch shape cpu plain spare flags entries)
