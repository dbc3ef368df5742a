-- Calls on one key are read as their traces.
use Rattle.std.proofs.Common.{◌≡◌, ℕ, true, List, [], ◌∷◌, ◌++◌, Option, Some, refl, ap, ◌∙◌, sym, subst}
use Rattle.std.specs.Prelude.{◌&&◌, bytes_eq}
use Rattle.std.proofs.lemmas.Bool.{and_parts, and_from}
use Rattle.map_types.specs.declared.call.Verb.TheVariants as verbs
use Rattle.map_types.specs.declared.kind.DomainId.TheVariants.{Bucket}
use Rattle.map_types.specs.declared.kind.Side.{Side}
use Rattle.map_types.specs.declared.reply.Reply.{Reply}
use Rattle.place_words.specs.declared.bucket_part.BucketPart.{BucketPart}
use Rattle.place_words.specs.declared.bucket_part.BucketPart.TheVariants.{Lookup, Update, Delete, Take, Next, First, Walk, Evict}
use Rattle.place_words.specs.declared.history.Part.{Part}
use Rattle.place_words.specs.declared.history.Part.TheVariants as parts
use Rattle.place_words.specs.PlainTraces.{reply_of_got, spare_after, spare_after_part}
use Rattle.place_words.specs.Turns.{Turn, on_lock, on_bucket_of, bucket_of_key}
use Rattle.trace_check.specs.Reading.{is_free, read_at, same_side, same_turns}
use Rattle.trace_check.specs.Calls.{Answer, got_in, read_lookup}
use Rattle.trace_check.specs.Laws.{IsKeyCall, ReadsLookups}
use Rattle.trace_check.proofs.Readers.{AreFree, IsAs, as_reader, same_reader}
use Rattle.trace_check.proofs.Tests.{one_side, side_same, one_key, key_same, one_row, when_told, when_so, IsAt, Tells, at_reader}

-- turns of freelists leave the spare as it is
part_spare : (spare : Option ℕ) (part : Part) → is_free part ≡ true → spare_after_part spare part ≡ spare
part_spare spare (parts.Free part) free = refl
part_spare spare (parts.Bucket part) free = absurd cc
part_spare spare (parts.Local part) free = absurd cc
part_spare spare (parts.Global part) free = absurd cc
part_spare spare (parts.Own part) free = absurd cc

pub free_spare : (spare : Option ℕ) (before : List Turn) (turn : Turn) → AreFree before → spare_after spare (before ++ turn ∷ []) ≡ spare_after_part spare turn.part
free_spare spare [] turn free = refl
free_spare spare (first ∷ before) turn free =
    ap (λ (o : Option ℕ). spare_after o (before ++ turn ∷ [])) (part_spare spare first.part free.0) ∙ free_spare spare before turn free.1

-- of a group of turns, and of all that it is
pub at_spare : {A : Type 0} {bucket : ℕ} {part_of : A → BucketPart} {Looks : A → List Turn → Type 0} (spare : Option ℕ) (xs : List Turn) (a : A) (is : IsAt bucket part_of Looks xs a) → AreFree is.before → spare_after spare xs ≡ spare_after_part spare (parts.Bucket (part_of a))
at_spare {bucket = bucket} {part_of = part_of} spare xs a is free =
    ap (spare_after spare) is.xs_are ∙ free_spare spare is.before (on_lock (Bucket bucket) (parts.Bucket (part_of a))) free

-- lookup
abbrev NoneBefore : {A : Type 0} → A → List Turn → Type 0
NoneBefore a before = before ≡ []

none_free : (before : List Turn) → before ≡ [] → AreFree before
none_free before is = subst AreFree (sym is) tt

none_so : (before : List Turn) → before ≡ [] → same_turns [] before ≡ true
none_so before is = ap (same_turns []) is

lookup_only : (side : Side) (key : List ℕ) (part : BucketPart) (got : Option (ℕ × List ℕ)) → got_in side key part ≡ Some got → part ≡ Lookup side key got
lookup_only side key (Lookup s k found) got is =
    let told = when_told (same_side side s && bytes_eq key k) found got is in
    let both = and_parts (same_side side s) (bytes_eq key k) told.0 in
    ap (λ (t : Side). Lookup t k found) (sym (one_side side s both.0)) ∙ ap (λ (l : List ℕ). Lookup side l found) (sym (one_key key k both.1)) ∙ ap (λ (o : Option (ℕ × List ℕ)). Lookup side key o) told.1
lookup_only side key (Update s flags k value offer put) got is = absurd cc
lookup_only side key (Delete k _) got is = absurd cc
lookup_only side key (Take k _) got is = absurd cc
lookup_only side key (Next k found) got is = absurd cc
lookup_only side key (First k) got is = absurd cc
lookup_only side key (Walk remove room result) got is = absurd cc
lookup_only side key (Evict e probed) got is = absurd cc

lookup_tells : (side : Side) (key : List ℕ) → Tells (λ got. Lookup side key got) NoneBefore (got_in side key) (λ got before. same_turns [] before)
lookup_tells side key = record {
  says_it = λ got. when_so (same_side side side && bytes_eq key key) got (and_from (same_side side side) (bytes_eq key key) (side_same side) (key_same key));
  says_only = lookup_only side key;
  looks_so = λ got before is. none_so before is;
  looks_only = λ got before is. sym (one_row [] before is);
  are_free = λ got before is. none_free before is;
}

pub reads_lookups : ReadsLookups
reads_lookups shape cpu spare side key =
    same_reader (IsAs answer At) (IsKeyCall shape cpu spare (verbs.Lookup side key)) (read_lookup shape spare side key) there back
    (as_reader answer At (read_at bucket (got_in side key) (λ got before. same_turns [] before)) (at_reader bucket (λ got. Lookup side key got) NoneBefore (got_in side key) (λ got before. same_turns [] before) (lookup_tells side key)))
  where
    bucket : ℕ
    bucket = bucket_of_key shape key

    answer : Option (ℕ × List ℕ) → Answer
    answer got = (reply_of_got got, spare)

    At : List Turn → Option (ℕ × List ℕ) → Type 0
    At = IsAt bucket (λ got. Lookup side key got) NoneBefore

    there : (xs : List Turn) (a : Answer) → IsAs answer At xs a → IsKeyCall shape cpu spare (verbs.Lookup side key) xs a
    there xs a is =
        let at = is.1.0 in (
          record {
            got = is.0;
            turns_are = at.xs_are ∙ ap (λ (l : List Turn). l ++ on_bucket_of shape key (Lookup side key is.0) ∷ []) at.looks;
            reply_is = ap (λ (b : Answer). b.0) is.1.1;
          },
          ap (λ (b : Answer). b.1) is.1.1 ∙ sym (at_spare spare xs is.0 at (none_free at.before at.looks)),
        )

    back : (xs : List Turn) (a : Answer) → IsKeyCall shape cpu spare (verbs.Lookup side key) xs a → IsAs answer At xs a
    back xs a is =
        let at : At xs is.0.got = record { before = []; looks = refl; xs_are = is.0.turns_are } in
        (is.0.got, (at, ap (λ (r : Reply). (r, a.1)) is.0.reply_is ∙ ap (λ (o : Option ℕ). (reply_of_got is.0.got, o)) (is.1 ∙ at_spare spare xs is.0.got at tt)))
