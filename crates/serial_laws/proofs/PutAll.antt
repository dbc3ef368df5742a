-- What a map that doesn't evict has after batch updates of which none stopped, as its user sees it.
use Rattle.std.proofs.Common.{◌≡◌, ℕ, suc, ◌<◌, Bool, true, false, not, cond, List, [], ◌∷◌, length, Option, None, Some, refl, ap, sym, ◌∙◌, subst}
use Rattle.std.specs.Prelude.{bytes_eq, filter, is_some, option_map}
use Rattle.std.proofs.lemmas.Slice.Eq.{bytes_eq-Decides}
use Rattle.key_hash.specs.Jhash.{hash}
use Rattle.key_hash.proofs.Buckets.{bucket_number-lt}
use Rattle.map_types.specs.Kind.{is_percpu}
use Rattle.map_types.specs.Parts.{AreOfSize, fields_of, new_own, part_at, values_in}
use Rattle.map_types.specs.Shape.{HasBounds}
use Rattle.map_types.specs.Sides.{new_values, part_count, value_read}
use Rattle.map_types.specs.declared.attr.Shape.{Shape}
use Rattle.map_types.specs.declared.kind.Side.TheVariants.{Sys}
use Rattle.map_types.specs.declared.refusal.Errno.{Errno}
use Rattle.map_types.specs.declared.reply.Reply.{Reply}
use Rattle.map_types.specs.declared.reply.Reply.TheVariants.{Count}
use Rattle.percpu_values.proofs.FieldLemmas.{values_in-fields_of}
use Rattle.place_words.specs.Turns.{bucket_of_key}
use Rattle.place_words.specs.Walks.{refused_with}
use Rattle.map_report.specs.Serial.{each_done, unless_stopped}
use Rattle.serial_laws.specs.Entries.{Entry, entry_of, put, put_in, refusal, unless, values_put, without}

abbrev pub Pair : Type 0
Pair = List ℕ × List ℕ

-- pairs put one after another
abbrev pub all_put : Shape → List Pair → List Entry → List Entry
all_put shape [] entries = entries
all_put shape (pair ∷ pairs) entries = all_put shape pairs (put shape Sys 0 pair.0 pair.1 entries)

-- One batch

module _ (shape : Shape) where
  abbrev one : Pair → List Entry → List Entry × Reply
  one pair entries = put_in shape Sys 0 0 pair.0 pair.1 entries

  abbrev stop_or : Option Errno → ℕ → List Entry → List Entry → (List Entry → List Entry × Reply) → List Entry × Reply
  stop_or refused done before after later = unless_stopped (refused_with (unless refused before after).1) done (unless refused before after).0 (later (unless refused before after).0)

  went_on : (refused : Option Errno) (done count : ℕ) (before after : List Entry) (later : List Entry → List Entry × Reply) (all : List Entry → List Entry)
      → ((now : List Entry) → (later now).1 ≡ Count None count → (later now).0 ≡ all now)
      → (stop_or refused done before after later).1 ≡ Count None count → (stop_or refused done before after later).0 ≡ all after
  went_on None done count before after later all rest told = rest after told
  went_on (Some errno) done count before after later all rest told = absurd cc

  -- A batch that didn't stop put all its pairs.
  pub batch_put : (pairs : List Pair) (done count : ℕ) (entries : List Entry) → (each_done one pairs done entries).1 ≡ Count None count → (each_done one pairs done entries).0 ≡ all_put shape pairs entries
  batch_put [] done count entries told = refl
  batch_put (pair ∷ pairs) done count entries told =
      went_on (refusal shape.capacity 0 (is_some (entry_of pair.0 entries)) (length entries)) done count entries (put shape Sys 0 pair.0 pair.1 entries)
      (λ now. each_done one pairs (suc done) now) (all_put shape pairs) (λ now rest. batch_put pairs (suc done) count now rest) told

-- Which key has which values

same_key : (a b : List ℕ) → bytes_eq a b ≡ true → a ≡ b
same_key a b is = (bytes_eq-Decides a b).0 is

-- where one key isn't another, an entry isn't of both
not_both : (a b c : List ℕ) → bytes_eq b c ≡ false → bytes_eq a b ≡ true → bytes_eq a c ≡ false
not_both a b c other is = subst (λ (k : List ℕ). bytes_eq k c ≡ false) (sym (same_key a b is)) other

other_kept : (key of : List ℕ) (entries : List Entry) → bytes_eq of key ≡ false → entry_of key (without of entries) ≡ entry_of key entries
other_kept key of [] other = refl
other_kept key of (entry ∷ entries) other = by (bytes_eq entry.key of) refl (other_kept key of entries other)
  where
    by : (b : Bool) → bytes_eq entry.key of ≡ b → entry_of key (without of entries) ≡ entry_of key entries
        → entry_of key (cond (not b) (entry ∷ without of entries) (without of entries)) ≡ cond (bytes_eq entry.key key) (Some entry) (entry_of key entries)
    by true is rest = rest ∙ ap (λ (c : Bool). cond c (Some entry) (entry_of key entries)) (sym (not_both entry.key of key other is))
    by false is rest = ap (λ (o : Option Entry). cond (bytes_eq entry.key key) (Some entry) o) rest

abbrev pub has_pair : List ℕ → Pair → Bool
has_pair key pair = bytes_eq pair.0 key

put_other : (shape : Shape) (key : List ℕ) (pair : Pair) (entries : List Entry) → has_pair key pair ≡ false → entry_of key (put shape Sys 0 pair.0 pair.1 entries) ≡ entry_of key entries
put_other shape key pair entries other =
    ap (λ (c : Bool). cond c (Some (record { key = pair.0; values = values_put shape Sys 0 pair.1 (entry_of pair.0 entries) })) (entry_of key (without pair.0 entries))) other
    ∙ other_kept key pair.0 entries other

put_its : (shape : Shape) (key : List ℕ) (pair : Pair) (entries : List Entry) → has_pair key pair ≡ true → entry_of key entries ≡ None
    → option_map (λ (entry : Entry). entry.values) (entry_of key (put shape Sys 0 pair.0 pair.1 entries)) ≡ Some (new_values shape Sys 0 pair.1)
put_its shape key pair entries its none =
    let absent : entry_of pair.0 entries ≡ None = ap (λ (k : List ℕ). entry_of k entries) (same_key pair.0 key its) ∙ none in
    ap (λ (c : Bool). option_map (λ (entry : Entry). entry.values) (cond c (Some (record { key = pair.0; values = values_put shape Sys 0 pair.1 (entry_of pair.0 entries) })) (entry_of key (without pair.0 entries)))) its
    ∙ ap (λ (found : Option Entry). Some (values_put shape Sys 0 pair.1 found)) absent

-- a key that none of the pairs has
pub found_none : (shape : Shape) (key : List ℕ) (pairs : List Pair) (entries : List Entry) → filter (has_pair key) pairs ≡ [] → entry_of key (all_put shape pairs entries) ≡ entry_of key entries
found_none shape key [] entries none = refl
found_none shape key (pair ∷ pairs) entries none = by (has_pair key pair) refl none (λ others. found_none shape key pairs (put shape Sys 0 pair.0 pair.1 entries) others)
  where
    by : (b : Bool) → has_pair key pair ≡ b → cond b (pair ∷ filter (has_pair key) pairs) (filter (has_pair key) pairs) ≡ []
        → (filter (has_pair key) pairs ≡ [] → entry_of key (all_put shape pairs (put shape Sys 0 pair.0 pair.1 entries)) ≡ entry_of key (put shape Sys 0 pair.0 pair.1 entries))
        → entry_of key (all_put shape pairs (put shape Sys 0 pair.0 pair.1 entries)) ≡ entry_of key entries
    by true is some later = absurd cc
    by false is others later = later others ∙ put_other shape key pair entries is

-- and one that one pair has, and that wasn't there
pub found_one : (shape : Shape) (key : List ℕ) (found : Pair) (pairs : List Pair) (entries : List Entry) → filter (has_pair key) pairs ≡ found ∷ [] → entry_of key entries ≡ None
    → option_map (λ (entry : Entry). entry.values) (entry_of key (all_put shape pairs entries)) ≡ Some (new_values shape Sys 0 found.1)
found_one shape key found [] entries one none = absurd cc
found_one shape key found (pair ∷ pairs) entries one none =
    by (has_pair key pair) refl one (λ later absent. found_one shape key found pairs (put shape Sys 0 pair.0 pair.1 entries) later absent)
  where
    by : (b : Bool) → has_pair key pair ≡ b → cond b (pair ∷ filter (has_pair key) pairs) (filter (has_pair key) pairs) ≡ found ∷ []
        → (filter (has_pair key) pairs ≡ found ∷ [] → entry_of key (put shape Sys 0 pair.0 pair.1 entries) ≡ None
        → option_map (λ (entry : Entry). entry.values) (entry_of key (all_put shape pairs (put shape Sys 0 pair.0 pair.1 entries))) ≡ Some (new_values shape Sys 0 found.1))
        → option_map (λ (entry : Entry). entry.values) (entry_of key (all_put shape pairs (put shape Sys 0 pair.0 pair.1 entries))) ≡ Some (new_values shape Sys 0 found.1)
    by true is one later =
        let same : pair ≡ found = cc in
        let rest : filter (has_pair key) pairs ≡ [] = cc in
        ap (option_map (λ (entry : Entry). entry.values)) (found_none shape key pairs (put shape Sys 0 pair.0 pair.1 entries) rest)
        ∙ put_its shape key pair entries is none
        ∙ ap (λ (p : Pair). Some (new_values shape Sys 0 p.1)) same
    by false is one later = later one (put_other shape key pair entries is ∙ none)

-- Values and buckets

-- Two maps have values alike: for each CPU or not, of one size, and for as many CPUs.
pub record HaveLikeValues (source target : Shape) : Type 0 where
  pub percpu : is_percpu target.kind ≡ is_percpu source.kind
  pub size : target.value_size ≡ source.value_size
  pub cpus : target.cpus ≡ source.cpus

-- a value that one map's system call reads, put into another by that one's, is read there
pub same_value : (source target : Shape) → HaveLikeValues source target → (values : List (List ℕ)) → length values ≡ part_count source → AreOfSize source.value_size values
    → value_read target Sys 0 (new_values target Sys 0 (value_read source Sys 0 values)) ≡ value_read source Sys 0 values
same_value source target alike values counted sized =
    elim (is_percpu source.kind) as (λ b. is_percpu target.kind ≡ b → length values ≡ cond b source.cpus 1
    → value_read target Sys 0 (new_values target Sys 0 (cond b (fields_of values) (part_at 0 values))) ≡ cond b (fields_of values) (part_at 0 values)) [
      | true ↦ λ own many.
          let count : target.cpus ≡ length values = alike.cpus ∙ sym many in
          ap (λ (b : Bool). cond b (fields_of (cond b (values_in target.cpus target.value_size (fields_of values)) (new_own 1 0 (fields_of values)))) (part_at 0 (cond b (values_in target.cpus target.value_size (fields_of values)) (new_own 1 0 (fields_of values))))) own
          ∙ (λ i. fields_of (values_in (count i) (alike.size i) (fields_of values)))
          ∙ ap fields_of (values_in-fields_of source.value_size values sized)
      | false ↦ λ shared many.
          let bytes : List ℕ = part_at 0 values in
          ap (λ (b : Bool). cond b (fields_of (cond b (values_in target.cpus target.value_size bytes) (new_own 1 0 bytes))) (part_at 0 (cond b (values_in target.cpus target.value_size bytes) (new_own 1 0 bytes)))) shared
    ] alike.percpu counted

pub key_within : (shape : Shape) → HasBounds shape → (key : List ℕ) → bucket_of_key shape key < shape.buckets
key_within shape bounds key = bucket_number-lt (hash key shape.seed) shape.buckets bounds.buckets_power
