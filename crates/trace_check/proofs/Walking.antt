-- Next key, and buckets that are taken whole, are read as their traces.
use Rattle.std.proofs.Common.{◌≡◌, ℕ, ◌+◌, List, [], ◌∷◌, ◌++◌, Option, None, Some, refl, ap, ◌∙◌, sym}
use Rattle.std.specs.Prelude.{MatchOption, bytes_eq}
use Rattle.std.proofs.lemmas.Option.{same_Some}
use Rattle.map_types.specs.declared.attr.Shape.{Shape}
use Rattle.map_types.specs.declared.kind.DomainId.TheVariants.{Bucket}
use Rattle.map_types.specs.declared.refusal.Errno.TheVariants.{Enoent}
use Rattle.map_types.specs.declared.reply.Reply.{Reply}
use Rattle.map_types.specs.declared.reply.Reply.TheVariants.{Value, Refused}
use Rattle.place_words.specs.declared.bucket_part.BucketPart.{BucketPart}
use Rattle.place_words.specs.declared.bucket_part.BucketPart.TheVariants.{Lookup, Update, Delete, Take, Next, First, Walk, Evict}
use Rattle.place_words.specs.declared.bucket_part.NextFound.{NextFound}
use Rattle.place_words.specs.declared.bucket_part.NextFound.TheVariants as nexts
use Rattle.place_words.specs.declared.history.Part.TheVariants as parts
use Rattle.place_words.specs.Turns.{Turn, on_lock, on_bucket_of, bucket_of_key}
use Rattle.place_words.specs.Walks.{buckets_from, Firsts, GoesOn, IsAfterTrace}
use Rattle.trace_check.specs.Reading.{IsReader, read_at, same_turns}
use Rattle.trace_check.specs.Calls.{first_in, after_first, read_firsts, found_in, read_on, read_next}
use Rattle.trace_check.specs.Laws.{ReadsNext}
use Rattle.trace_check.proofs.Readers.{IsThen, nothing_reader, then_reader, same_reader}
use Rattle.trace_check.proofs.Tests.{one_key, key_same, when_told, when_so, IsAt, at_reader}
use Rattle.trace_check.proofs.Puts.{row_tells}

-- one turn of a bucket, with none before it
abbrev pub IsAlone : {A : Type 0} → ℕ → (A → BucketPart) → List Turn → A → Type 0
IsAlone {A = A} bucket part_of = IsAt bucket part_of (λ (a : A) before. before ≡ [])

pub alone : {A : Type 0} (bucket : ℕ) (part_of : A → BucketPart) (says : BucketPart → Option A) → ((a : A) → says (part_of a) ≡ Some a) → ((part : BucketPart) (a : A) → says part ≡ Some a → part ≡ part_of a)
    → IsReader (IsAlone bucket part_of) (read_at bucket says (λ a before. same_turns [] before))
alone {A = A} bucket part_of says says_it says_only =
    at_reader bucket part_of (λ (a : A) before. before ≡ []) says (λ a before. same_turns [] before) (row_tells part_of says (λ a. []) (λ a. tt) says_it says_only)

-- the turns of one that stands alone, and what follows
pub alone_then : {A : Type 0} (bucket : ℕ) (part_of : A → BucketPart) (xs ys zs : List Turn) (a : A) → IsAlone bucket part_of ys a → xs ≡ ys ++ zs → xs ≡ on_lock (Bucket bucket) (parts.Bucket (part_of a)) ∷ zs
alone_then bucket part_of xs ys zs a is xs_are =
    xs_are ∙ ap (λ (l : List Turn). l ++ zs) (is.xs_are ∙ ap (λ (l : List Turn). l ++ on_lock (Bucket bucket) (parts.Bucket (part_of a)) ∷ []) is.looks)

-- heads of buckets
first_only : (part : BucketPart) (key : Option (List ℕ)) → first_in part ≡ Some key → part ≡ First key
first_only (Lookup s k found) key is = absurd cc
first_only (Update s f k v offer put) key is = absurd cc
first_only (Delete k _) key is = absurd cc
first_only (Take k _) key is = absurd cc
first_only (Next k found) key is = absurd cc
first_only (First k) key is = ap First (same_Some k key is)
first_only (Walk remove room result) key is = absurd cc
first_only (Evict e probed) key is = absurd cc

AfterFirst : List ℕ → Option (List ℕ) → List Turn → Reply → Type 0
AfterFirst buckets key rest reply = MatchOption key (Firsts buckets rest reply) (λ first. (rest ≡ []) × (reply ≡ Value first))

first_reads : (buckets : List ℕ) → IsReader (Firsts buckets) (read_firsts buckets) → (key : Option (List ℕ)) → IsReader (AfterFirst buckets key) (after_first (read_firsts buckets) key)
unfolding AfterFirst
first_reads buckets more None = more
first_reads buckets more (Some key) = nothing_reader (Value key)

pub reads_firsts : (buckets : List ℕ) → IsReader (Firsts buckets) (read_firsts buckets)
unfolding AfterFirst
reads_firsts [] = nothing_reader (Refused Enoent)
reads_firsts (bucket ∷ buckets) =
    same_reader (IsThen (IsAlone bucket First) (AfterFirst buckets)) (Firsts (bucket ∷ buckets)) (read_firsts (bucket ∷ buckets))
    (λ xs reply is. (is.middle, is.zs, alone_then bucket First xs is.ys is.zs is.middle is.first is.xs_are, is.second))
    (λ xs reply is. record {
      middle = is.0;
      ys = on_lock (Bucket bucket) (parts.Bucket (First is.0)) ∷ [];
      zs = is.1;
      xs_are = is.2;
      first = record { before = []; looks = refl; xs_are = refl };
      second = is.3;
    })
    (then_reader (IsAlone bucket First) (AfterFirst buckets) (read_at bucket first_in (λ key before. same_turns [] before)) (after_first (read_firsts buckets))
    (alone bucket First first_in (λ key. refl) first_only) (first_reads buckets (reads_firsts buckets)))

-- what follows a key
found_only : (key : List ℕ) (part : BucketPart) (found : NextFound) → found_in key part ≡ Some found → part ≡ Next key found
found_only key (Lookup s k got) found is = absurd cc
found_only key (Update s f k v offer put) found is = absurd cc
found_only key (Delete k _) found is = absurd cc
found_only key (Take k _) found is = absurd cc
found_only key (Next k other) found is =
    let told = when_told (bytes_eq key k) other found is in
    ap (λ (l : List ℕ). Next l other) (sym (one_key key k told.0)) ∙ ap (λ (n : NextFound). Next key n) told.1
found_only key (First k) found is = absurd cc
found_only key (Walk remove room result) found is = absurd cc
found_only key (Evict e probed) found is = absurd cc

on_reads : (shape : Shape) (key : List ℕ) (found : NextFound) → IsReader (GoesOn shape key found) (read_on shape key found)
on_reads shape key nexts.Absent = reads_firsts (buckets_from shape 0)
on_reads shape key nexts.Last = reads_firsts (buckets_from shape (bucket_of_key shape key + 1))
on_reads shape key (nexts.Key next) = nothing_reader (Value next)

pub reads_next : ReadsNext
reads_next shape None = reads_firsts (buckets_from shape 0)
reads_next shape (Some key) =
    same_reader (IsThen (IsAlone bucket (Next key)) (GoesOn shape key)) (IsAfterTrace shape key) (read_next shape (Some key))
    (λ xs reply is. record { found = is.middle; rest = is.zs; turns_are = alone_then bucket (Next key) xs is.ys is.zs is.middle is.first is.xs_are; goes_on = is.second })
    (λ xs reply is. record {
      middle = is.found;
      ys = on_bucket_of shape key (Next key is.found) ∷ [];
      zs = is.rest;
      xs_are = is.turns_are;
      first = record { before = []; looks = refl; xs_are = refl };
      second = is.goes_on;
    })
    (then_reader (IsAlone bucket (Next key)) (GoesOn shape key) (read_at bucket (found_in key) (λ found before. same_turns [] before)) (read_on shape key)
    (alone bucket (Next key) (found_in key) (λ found. when_so (bytes_eq key key) found (key_same key)) (found_only key)) (on_reads shape key))
  where
    bucket : ℕ
    bucket = bucket_of_key shape key
