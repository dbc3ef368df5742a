-- A copy beside which no call ran, and of which no put stopped: the target holds the source's keys and values.
use Rattle.std.proofs.Common.{◌≡◌, ℕ, ◌+◌, ◌<◌, Bool, true, false, cond, List, [], ◌∷◌, ◌++◌, map, Option, None, Some, refl, ap, sym, ◌∙◌, subst}
use Rattle.std.specs.Prelude.{All, bytes_eq, filter, option_map, option_to_list, IsTrue}
use Rattle.std.specs.List.{flat_map}
use Rattle.std.proofs.lemmas.List.Elements.{All-head, All-tail}
use Rattle.map_types.specs.Parts.{AreOfSize}
use Rattle.map_types.specs.Shape.{HasBounds}
use Rattle.map_types.specs.Sides.{value_read}
use Rattle.map_types.specs.Stored.{Stored}
use Rattle.map_types.specs.declared.attr.Shape.{Shape}
use Rattle.map_types.specs.declared.call.Call.{Call}
use Rattle.map_types.specs.declared.kind.Side.TheVariants.{Sys}
use Rattle.map_types.specs.declared.reply.Reply.{Reply}
use Rattle.map_types.specs.declared.reply.Reply.TheVariants.{Batch, Count, Done, Refused, Value}
use Rattle.place_words.specs.Bodies.{has_key, present}
use Rattle.place_words.specs.Turns.{bucket_of_key}
use Rattle.map_report.specs.Serial.{each_done, in_order, pair_read}
use Rattle.map_copy.specs.Copied.{IsPutOfPairs, Read, Step, Copies, has_stopped, pairs_in, read_behind_step}
use Rattle.map_copy.specs.CopyScripts.{put_calls, put_replies, puts_of_pairs}
use Rattle.record_shape.specs.Fits.{AllFit}
use Rattle.record_shape.specs.ShapedParts.{AreBytes}
use Rattle.record_shape.proofs.Premises.{BodyFits}
use Rattle.serial_laws.specs.Entries.{Entry, answered, answers_from, entries_after, entry_of, put, put_in}
use Rattle.serial_laws.proofs.WalkedKeys.{HaveOwnKeys, each_once_in_order}
use Rattle.map_run.proofs.CopyReads.{WentOn, pairs_told}
use Rattle.serial_laws.proofs.PutAll.{HaveLikeValues, all_put, batch_put, found_none, found_one, has_pair, key_within, same_value}

-- What the puts left

-- the entries after the puts of a page, where it has one
abbrev a_batch : Shape → List (List ℕ × List ℕ) → List Entry → List Entry × Reply
a_batch target pairs entries = each_done (λ (pair : List ℕ × List ℕ). put_in target Sys 0 0 pair.0 pair.1) pairs 0 entries

heads_and_tails : {A : Type 0} (x y : A) (xs ys : List A) → x ∷ xs ≡ y ∷ ys → (x ≡ y) × (xs ≡ ys)
heads_and_tails x y xs ys is = (cc, cc)

one_page : (target : Shape) (pairs : List (List ℕ × List ℕ)) (count : ℕ) (calls : List Call) (later : List Reply) (entries : List Entry)
    → Count None count ∷ later ≡ (a_batch target pairs entries).1 ∷ answers_from target (a_batch target pairs entries).0 calls later
    → (later ≡ answers_from target (all_put target pairs entries) calls later) × (entries_after target (a_batch target pairs entries).0 calls later ≡ entries_after target (all_put target pairs entries) calls later)
one_page target pairs count calls later entries told =
    let both = heads_and_tails (Count None count) (a_batch target pairs entries).1 later (answers_from target (a_batch target pairs entries).0 calls later) told in
    let now = batch_put target pairs 0 count entries (sym both.0) in
    (subst (λ (es : List Entry). later ≡ answers_from target es calls later) now both.1, ap (λ (es : List Entry). entries_after target es calls later) now)

after_page : (target : Shape) (pairs : List (List ℕ × List ℕ)) (put : Option Reply) (calls : List Call) (later : List Reply) (entries : List Entry) → IsPutOfPairs pairs put → ¬ (IsTrue (has_stopped put))
    → option_to_list put ++ later ≡ answers_from target entries (puts_of_pairs pairs ++ calls) (option_to_list put ++ later)
    → (later ≡ answers_from target (all_put target pairs entries) calls later) × (entries_after target entries (puts_of_pairs pairs ++ calls) (option_to_list put ++ later) ≡ entries_after target (all_put target pairs entries) calls later)
unfolding answered
after_page target [] None calls later entries is went told = (told, refl)
after_page target (pair ∷ pairs) (Some (Count None count)) calls later entries is went told = one_page target (pair ∷ pairs) count calls later entries told
after_page target (pair ∷ pairs) (Some (Count (Some errno) count)) calls later entries is went told = absurd (went refl)
after_page target [] (Some reply) calls later entries is went told = absurd is
after_page target (pair ∷ pairs) None calls later entries is went told = absurd is
after_page target (pair ∷ pairs) (Some Done) calls later entries is went told = absurd is
after_page target (pair ∷ pairs) (Some (Value bytes)) calls later entries is went told = absurd is
after_page target (pair ∷ pairs) (Some (Refused errno)) calls later entries is went told = absurd is
after_page target (pair ∷ pairs) (Some (Batch stop taken next)) calls later entries is went told = absurd is

replies_both : (step : Step) (steps : List Step) → put_replies (step ∷ steps) ≡ option_to_list step.put ++ put_replies steps
replies_both step steps = by step.put refl
  where
    by : (put : Option Reply) → step.put ≡ put → put_replies (step ∷ steps) ≡ option_to_list put ++ put_replies steps
    by None is = rw is refl
    by (Some reply) is = rw is refl

all_both : (target : Shape) (xs ys : List (List ℕ × List ℕ)) (entries : List Entry) → all_put target (xs ++ ys) entries ≡ all_put target ys (all_put target xs entries)
all_both target [] ys entries = refl
all_both target (x ∷ xs) ys entries = all_both target xs ys (put target Sys 0 x.0 x.1 entries)

pub puts_left : (target : Shape) (elements : ℕ) (from : Option Read) (steps : List Step) (entries : List Entry) → Copies elements from steps None → All WentOn steps
    → put_replies steps ≡ answers_from target entries (flat_map put_calls steps) (put_replies steps)
    → entries_after target entries (flat_map put_calls steps) (put_replies steps) ≡ all_put target (pairs_told steps) entries
puts_left target elements from [] entries copies went told = refl
puts_left target elements from (step ∷ steps) entries copies went told =
    let both = replies_both step steps in
    let page = after_page target (pairs_in step.page) step.put (flat_map put_calls steps) (put_replies steps) entries copies.1.put (All-head WentOn step steps went)
    (subst (λ (replies : List Reply). replies ≡ answers_from target entries (flat_map put_calls (step ∷ steps)) replies) both told) in
    ap (λ (replies : List Reply). entries_after target entries (flat_map put_calls (step ∷ steps)) replies) both
    ∙ page.1
    ∙ puts_left target elements (read_behind_step elements step) steps (all_put target (pairs_in step.page) entries) copies.2 (All-tail WentOn step steps went) page.0
    ∙ sym (all_both target (pairs_in step.page) (pairs_told steps) entries)

-- One key

filter_mapped : (source : Shape) (key : List ℕ) (bodies : List Stored) → filter (has_pair key) (map (pair_read source 0) bodies) ≡ map (pair_read source 0) (filter (has_key key) bodies)
filter_mapped source key [] = refl
filter_mapped source key (body ∷ bodies) = by (bytes_eq body.key key) (filter_mapped source key bodies)
  where
    by : (b : Bool) → filter (has_pair key) (map (pair_read source 0) bodies) ≡ map (pair_read source 0) (filter (has_key key) bodies)
        → cond b (pair_read source 0 body ∷ filter (has_pair key) (map (pair_read source 0) bodies)) (filter (has_pair key) (map (pair_read source 0) bodies)) ≡ map (pair_read source 0) (cond b (body ∷ filter (has_key key) bodies) (filter (has_key key) bodies))
    by true rest = ap (λ (l : List (List ℕ × List ℕ)). pair_read source 0 body ∷ l) rest
    by false rest = rest

are_sized : (shape : Shape) (values : List (List ℕ)) → AllFit (AreBytes shape.value_size) values → AreOfSize shape.value_size values
are_sized shape [] fit = tt
are_sized shape (value ∷ values) fit = (fit.0.sized, are_sized shape values fit.1)

-- what fits all fits the one that is found
found_fits : (shape : Shape) (key : List ℕ) (bodies : List Stored) (body : Stored) → AllFit (BodyFits shape) bodies → present key bodies ≡ Some body → BodyFits shape body
found_fits shape key [] body fit is = absurd cc
found_fits shape key (first ∷ bodies) body fit is = by (bytes_eq first.key key) is (λ later. found_fits shape key bodies body fit.1 later)
  where
    by : (b : Bool) → cond b (Some first) (present key bodies) ≡ Some body → (present key bodies ≡ Some body → BodyFits shape body) → BodyFits shape body
    by true is later = let same : first ≡ body = cc in subst (BodyFits shape) same fit.0
    by false is later = later is

-- of the values in a look-up the value that the system call reads
pub read_found : (shape : Shape) (found : Option Stored) (values : Option (List (List ℕ))) → option_map (λ (stored : Stored). stored.values) found ≡ values
    → option_map (λ (stored : Stored). value_read shape Sys 0 stored.values) found ≡ option_map (value_read shape Sys 0) values
read_found shape None values is = ap (option_map (value_read shape Sys 0)) is
read_found shape (Some stored) values is = ap (option_map (value_read shape Sys 0)) is

module _ (source target : Shape) (bounds : HasBounds source) (alike : HaveLikeValues source target) (lie : ℕ → List Stored) (keys : HaveOwnKeys source lie)
    (sizes : (bucket : ℕ) → bucket < source.buckets → AllFit (BodyFits source) (lie bucket)) (key : List ℕ) where
  pub key_copied : option_map (value_read target Sys 0) (option_map (λ (entry : Entry). entry.values) (entry_of key (all_put target (map (pair_read source 0) (in_order source lie)) [])))
      ≡ option_map (λ (stored : Stored). value_read source Sys 0 stored.values) (present key (lie (bucket_of_key source key)))
  key_copied = by (present key (lie (bucket_of_key source key))) refl (filter_mapped source key (in_order source lie) ∙ ap (map (pair_read source 0)) (each_once_in_order source bounds lie keys key))
    where
      by : (found : Option Stored) → present key (lie (bucket_of_key source key)) ≡ found
          → filter (has_pair key) (map (pair_read source 0) (in_order source lie)) ≡ map (pair_read source 0) (option_to_list (present key (lie (bucket_of_key source key))))
          → option_map (value_read target Sys 0) (option_map (λ (entry : Entry). entry.values) (entry_of key (all_put target (map (pair_read source 0) (in_order source lie)) [])))
          ≡ option_map (λ (stored : Stored). value_read source Sys 0 stored.values) (present key (lie (bucket_of_key source key)))
      by None is once =
          let none = once ∙ ap (λ (o : Option Stored). map (pair_read source 0) (option_to_list o)) is in
          ap (λ (o : Option Entry). option_map (value_read target Sys 0) (option_map (λ (entry : Entry). entry.values) o)) (found_none target key (map (pair_read source 0) (in_order source lie)) [] none)
          ∙ ap (option_map (λ (stored : Stored). value_read source Sys 0 stored.values)) (sym is)
      by (Some stored) is once =
          let one = once ∙ ap (λ (o : Option Stored). map (pair_read source 0) (option_to_list o)) is in
          let fits = found_fits source key (lie (bucket_of_key source key)) stored (sizes (bucket_of_key source key) (key_within source bounds key)) is in
          ap (option_map (value_read target Sys 0)) (found_one target key (pair_read source 0 stored) (map (pair_read source 0) (in_order source lie)) [] one refl)
          ∙ ap Some (same_value source target alike stored.values fits.parts (are_sized source stored.values fits.values))
          ∙ ap (option_map (λ (body : Stored). value_read source Sys 0 body.values)) (sym is)
