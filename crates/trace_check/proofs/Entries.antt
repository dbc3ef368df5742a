-- The entries of a batch write, one after another.
use Rattle.std.proofs.Common.{◌≡◌, ℕ, suc, ◌+◌, ◌<◌, List, [], ◌∷◌, length, drop, get_or, Option, None, Some, refl, ap, sym, ◌∙◌, arith}
use Rattle.std.proofs.Math.Seq.{drop-cons}
use Rattle.map_types.specs.declared.attr.Shape.{Shape}
use Rattle.map_types.specs.declared.call.Verb.{Verb}
use Rattle.map_types.specs.declared.call.Verb.TheVariants as verbs
use Rattle.map_types.specs.declared.kind.Side.TheVariants.{Sys}
use Rattle.map_types.specs.declared.refusal.Errno.{Errno}
use Rattle.map_types.specs.declared.reply.Reply.TheVariants.{Count}
use Rattle.map_types.specs.Pairs.{pair_at}
use Rattle.place_words.specs.declared.bucket_part.Put.{Put}
use Rattle.place_words.specs.PlainTraces.{reply_of_put, spare_after_put}
use Rattle.place_words.specs.Turns.{Turn}
use Rattle.place_words.specs.Walks.{refused_with, updates_of, deletes_of}
use Rattle.trace_check.specs.BySpares.{Left, read_entry, read_writes_by, after_write_by}
use Rattle.trace_check.specs.Calls.{Answer, read_what_was_put}
use Rattle.trace_check.specs.Reading.{told, then_read}
use Rattle.trace_check.proofs.WalkedPairs.{KeyValue}

one_more : (k : ℕ) → suc k ≡ k + 1
one_more k = omega arith

next_update : (pairs : List KeyValue) (i : ℕ) → i < length pairs → updates_of (drop i pairs) ≡ verbs.Update Sys 0 (pair_at pairs i).0 (pair_at pairs i).1 ∷ updates_of (drop (i + 1) pairs)
next_update pairs i within =
    ap updates_of (drop-cons pairs i ([], []) within)
    ∙ ap (λ (n : ℕ). verbs.Update Sys 0 (pair_at pairs i).0 (pair_at pairs i).1 ∷ updates_of (drop n pairs)) (one_more i)

next_delete : (keys : List (List ℕ)) (i : ℕ) (key : List ℕ) → i < length keys → key ≡ get_or keys i key → deletes_of (drop i keys) ≡ verbs.Delete key ∷ deletes_of (drop (i + 1) keys)
next_delete keys i key within is =
    ap deletes_of (drop-cons keys i key within)
    ∙ ap (λ (n : ℕ). verbs.Delete (get_or keys i key) ∷ deletes_of (drop n keys)) (one_more i)
    ∙ ap (λ (k : List ℕ). verbs.Delete k ∷ deletes_of (drop (i + 1) keys)) (sym is)

pub update_entry : (shape : Shape) (cpu : ℕ) (spares : Left) (key value : List ℕ) (turns behind : List Turn) (spare : Option ℕ) (left : ℕ) (put : Put) (refusal : Option Errno)
    → spare ≡ spares left → left ≡ length turns → Some (put, behind) ≡ read_what_was_put shape cpu spare Sys 0 key value turns → refusal ≡ refused_with (reply_of_put put)
    → Some (refusal, behind) ≡ read_entry shape cpu spares (verbs.Update Sys 0 key value) turns
update_entry shape cpu spares key value turns behind spare left put refusal spare_is left_is read is =
    ap (λ (o : Option Errno). Some (o, behind)) is
    ∙ ap (λ (o : Option (Put × List Turn)). told (λ reply. refused_with reply) (told (λ (answer : Answer). answer.0) (told (λ (p : Put). (reply_of_put p, spare_after_put spare p)) o))) read
    ∙ ap (λ (s : Option ℕ). told (λ reply. refused_with reply) (told (λ (answer : Answer). answer.0) (told (λ (p : Put). (reply_of_put p, spare_after_put s p)) (read_what_was_put shape cpu s Sys 0 key value turns))))
    (spare_is ∙ ap spares left_is)

module _ (shape : Shape) (cpu : ℕ) (spares : Left) where
  wrote : (entries others : List Verb) (entry : Verb) (done : ℕ) (turns behind : List Turn) (refusal now : Option Errno) → entries ≡ entry ∷ others → Some (refusal, behind) ≡ read_entry shape cpu spares entry turns → refusal ≡ now
      → read_writes_by shape cpu spares entries done turns ≡ after_write_by done (read_writes_by shape cpu spares others (suc done)) now behind
  wrote entries others entry done turns behind refusal now are read is =
      ap (λ (l : List Verb). read_writes_by shape cpu spares l done turns) are
      ∙ ap (then_read (after_write_by done (read_writes_by shape cpu spares others (suc done)))) (sym read)
      ∙ ap (λ (o : Option Errno). after_write_by done (read_writes_by shape cpu spares others (suc done)) o behind) is

  unwritten : (entries others : List Verb) (entry : Verb) (done : ℕ) (turns : List Turn) → entries ≡ entry ∷ others → None ≡ read_entry shape cpu spares entry turns → read_writes_by shape cpu spares entries done turns ≡ None
  unwritten entries others entry done turns are none =
      ap (λ (l : List Verb). read_writes_by shape cpu spares l done turns) are ∙ ap (then_read (after_write_by done (read_writes_by shape cpu spares others (suc done)))) (sym none)

  entry_is : (pairs : List KeyValue) (i : ℕ) (key value : List ℕ) → i < length pairs → key ≡ (pair_at pairs i).0 → value ≡ (pair_at pairs i).1 → updates_of (drop i pairs) ≡ verbs.Update Sys 0 key value ∷ updates_of (drop (i + 1) pairs)
  entry_is pairs i key value within key_is value_is =
      next_update pairs i within
      ∙ ap (λ (k : List ℕ). verbs.Update Sys 0 k (pair_at pairs i).1 ∷ updates_of (drop (i + 1) pairs)) (sym key_is)
      ∙ ap (λ (v : List ℕ). verbs.Update Sys 0 key v ∷ updates_of (drop (i + 1) pairs)) (sym value_is)

  pub update_refused : (pairs : List KeyValue) (i : ℕ) (key value : List ℕ) (turns behind : List Turn) (refusal : Option Errno) (errno : Errno) → i < length pairs → key ≡ (pair_at pairs i).0 → value ≡ (pair_at pairs i).1
      → Some (refusal, behind) ≡ read_entry shape cpu spares (verbs.Update Sys 0 key value) turns → refusal ≡ Some errno
      → read_writes_by shape cpu spares (updates_of (drop i pairs)) i turns ≡ Some (Count (Some errno) i, behind)
  update_refused pairs i key value turns behind refusal errno within key_is value_is read is =
      wrote (updates_of (drop i pairs)) (updates_of (drop (i + 1) pairs)) (verbs.Update Sys 0 key value) i turns behind refusal (Some errno) (entry_is pairs i key value within key_is value_is) read is

  pub update_done : (pairs : List KeyValue) (i : ℕ) (key value : List ℕ) (turns behind : List Turn) (refusal : Option Errno) → i < length pairs → key ≡ (pair_at pairs i).0 → value ≡ (pair_at pairs i).1
      → Some (refusal, behind) ≡ read_entry shape cpu spares (verbs.Update Sys 0 key value) turns → refusal ≡ None
      → read_writes_by shape cpu spares (updates_of (drop i pairs)) i turns ≡ read_writes_by shape cpu spares (updates_of (drop (i + 1) pairs)) (i + 1) behind
  update_done pairs i key value turns behind refusal within key_is value_is read is =
      wrote (updates_of (drop i pairs)) (updates_of (drop (i + 1) pairs)) (verbs.Update Sys 0 key value) i turns behind refusal None (entry_is pairs i key value within key_is value_is) read is
      ∙ ap (λ (n : ℕ). read_writes_by shape cpu spares (updates_of (drop (i + 1) pairs)) n behind) (one_more i)

  pub delete_unread : (keys : List (List ℕ)) (i done : ℕ) (key same : List ℕ) (turns : List Turn) → i < length keys → key ≡ get_or keys i key → same ≡ key → None ≡ read_entry shape cpu spares (verbs.Delete same) turns
      → read_writes_by shape cpu spares (deletes_of (drop i keys)) done turns ≡ None
  delete_unread keys i done key same turns within is are none =
      unwritten (deletes_of (drop i keys)) (deletes_of (drop (i + 1) keys)) (verbs.Delete same) done turns
      (next_delete keys i key within is ∙ ap (λ (k : List ℕ). verbs.Delete k ∷ deletes_of (drop (i + 1) keys)) (sym are)) none

  pub delete_refused : (keys : List (List ℕ)) (i done : ℕ) (key same : List ℕ) (turns behind : List Turn) (refusal : Option Errno) (errno : Errno) → i < length keys → key ≡ get_or keys i key → same ≡ key
      → Some (refusal, behind) ≡ read_entry shape cpu spares (verbs.Delete same) turns → refusal ≡ Some errno
      → read_writes_by shape cpu spares (deletes_of (drop i keys)) done turns ≡ Some (Count (Some errno) done, behind)
  delete_refused keys i done key same turns behind refusal errno within is are read refused =
      wrote (deletes_of (drop i keys)) (deletes_of (drop (i + 1) keys)) (verbs.Delete same) done turns behind refusal (Some errno)
      (next_delete keys i key within is ∙ ap (λ (k : List ℕ). verbs.Delete k ∷ deletes_of (drop (i + 1) keys)) (sym are)) read refused

  pub delete_done : (keys : List (List ℕ)) (i done : ℕ) (key same : List ℕ) (turns behind : List Turn) (refusal : Option Errno) → i < length keys → key ≡ get_or keys i key → same ≡ key
      → Some (refusal, behind) ≡ read_entry shape cpu spares (verbs.Delete same) turns → refusal ≡ None
      → read_writes_by shape cpu spares (deletes_of (drop i keys)) done turns ≡ read_writes_by shape cpu spares (deletes_of (drop (i + 1) keys)) (done + 1) behind
  delete_done keys i done key same turns behind refusal within is are read unrefused =
      wrote (deletes_of (drop i keys)) (deletes_of (drop (i + 1) keys)) (verbs.Delete same) done turns behind refusal None
      (next_delete keys i key within is ∙ ap (λ (k : List ℕ). verbs.Delete k ∷ deletes_of (drop (i + 1) keys)) (sym are)) read unrefused
      ∙ ap (λ (n : ℕ). read_writes_by shape cpu spares (deletes_of (drop (i + 1) keys)) n behind) (one_more done)

pub not_refused : (refusal : Option Errno) → ((errno : Errno) → refusal ≡ Some errno → ⊥) → refusal ≡ None
not_refused None none = refl
not_refused (Some errno) none = absurd (none errno refl)
