-- What the calls on one key keep of the lists of a map that doesn't evict, and what a bucket that is emptied keeps, is kept by
-- every call.
use Rattle.std.proofs.Common.{ℕ, suc, ◌-◌, ◌<◌, Bool, nat_lt, ◌==◌, List, [], ◌∷◌, ◌++◌, length, map, Option, Some, None}
use Rattle.std.specs.Prelude.{All, min, unwrap_or}
use Rattle.std.specs.List.{AllByRecursion}
use Rattle.std.proofs.lemmas.Bool.{cond_both}
use Rattle.std.proofs.lemmas.List.Elements.{recursion_from_All}
use Rattle.map_types.specs.Pairs.{HaveSizes}
use Rattle.map_types.specs.ValueLen.{value_len_of}
use Rattle.map_types.specs.declared.attr.Shape.{Shape}
use Rattle.map_types.specs.declared.call.Verb.{Verb}
use Rattle.map_types.specs.declared.call.Verb.TheVariants.{Lookup, Update, Delete, Take, Next, BatchRead, BatchUpdate, BatchDelete, Each}
use Rattle.map_types.specs.declared.kind.Side.TheVariants.{Sys}
use Rattle.map_types.specs.declared.refusal.Errno.{Errno}
use Rattle.map_types.specs.declared.reply.Reply.{Reply}
use Rattle.map_script.specs.WellFormed.{IsKey, HasSizes}
use Rattle.place_words.specs.declared.finals.Finals.{Finals}
use Rattle.place_words.specs.Walks.{buckets_from, refused_with}
use Rattle.place_words.proofs.DoneLaws.{IsKeyVerb}
use Rattle.place_words.proofs.EachTurn.{AreWithin, first_within, others_within, buckets_within}
use Rattle.map_report.specs.Serial.{in_bucket_at, pair_read, emptied, if_emptied, read_on, unless_stopped, each_done, after_update, after_delete, after_call}

-- the entries of a batch have the map's sizes
pub updates_fit : (shape : Shape) (pairs : List (List ℕ × List ℕ)) → HaveSizes shape.key_size (value_len_of shape Sys) pairs → AllByRecursion (λ (pair : List ℕ × List ℕ). HasSizes shape (Update Sys 0 pair.0 pair.1)) pairs
updates_fit shape [] sizes = tt
updates_fit shape (pair ∷ pairs) sizes = ((sizes.0, sizes.1), updates_fit shape pairs sizes.2)

pub deletes_fit : (shape : Shape) (keys : List (List ℕ)) → All (IsKey shape) keys → AllByRecursion (λ (key : List ℕ). HasSizes shape (Delete key)) keys
deletes_fit shape keys sizes = recursion_from_All (IsKey shape) keys sizes

module _ (shape : Shape) (cpu : ℕ) (Kept : Finals → Type 0)
    (by_key : (verb : Verb) → IsKeyVerb verb → HasSizes shape verb → (lists : Finals) → Kept lists → Kept (after_call shape cpu verb lists).0)
    (by_emptied : (bucket : ℕ) → bucket < shape.buckets → (lists : Finals) → Kept lists → Kept (emptied cpu bucket lists)) where
  read_keeps : (remove : Bool) (limit : ℕ) (buckets : List ℕ) → AreWithin (λ bucket. bucket < shape.buckets) buckets → (taken : List (List ℕ × List ℕ)) (lists : Finals) → Kept lists → Kept (read_on shape cpu remove limit buckets taken lists).0
  read_keeps remove limit [] within taken lists kept = kept
  read_keeps remove limit (bucket ∷ buckets) within taken lists kept =
      cond_both (nat_lt (limit - length taken) (length (in_bucket_at lists bucket))) _ _ (λ (after : Finals × Reply). Kept after.0) (λ over. kept)
      (λ fits. read_keeps remove limit buckets (others_within (λ b. b < shape.buckets) bucket buckets within) (taken ++ map (pair_read shape cpu) (in_bucket_at lists bucket)) (if_emptied remove cpu bucket lists)
      (cond_both remove _ _ Kept (λ gone. by_emptied bucket (first_within (λ b. b < shape.buckets) bucket buckets within) lists kept) (λ left. kept)))

  stop_keeps : (told : Option Errno) (done : ℕ) (now : Finals) (later : Finals × Reply) → Kept now → Kept later.0 → Kept (unless_stopped told done now later).0
  stop_keeps None done now later kept rest = rest
  stop_keeps (Some errno) done now later kept rest = kept

  each_keeps : {A : Type 0} (one : A → Finals → Finals × Reply) (Fits : A → Type 0) → ((entry : A) → Fits entry → (lists : Finals) → Kept lists → Kept (one entry lists).0)
      → (entries : List A) → AllByRecursion Fits entries → (done : ℕ) (lists : Finals) → Kept lists → Kept (each_done one entries done lists).0
  each_keeps one Fits step [] fit done lists kept = kept
  each_keeps one Fits step (entry ∷ entries) fit done lists kept =
      let next = step entry fit.0 lists kept in
      stop_keeps (refused_with (one entry lists).1) done (one entry lists).0 (each_done one entries (suc done) (one entry lists).0) next
      (each_keeps one Fits step entries fit.1 (suc done) (one entry lists).0 next)

  pub call_keeps : (verb : Verb) → HasSizes shape verb → (lists : Finals) → Kept lists → Kept (after_call shape cpu verb lists).0
  unfolding after_call
  call_keeps (Lookup side key) sizes lists kept = by_key (Lookup side key) tt sizes lists kept
  call_keeps (Update side flags key value) sizes lists kept = by_key (Update side flags key value) tt sizes lists kept
  call_keeps (Delete key) sizes lists kept = by_key (Delete key) tt sizes lists kept
  call_keeps (Take key) sizes lists kept = by_key (Take key) tt sizes lists kept
  call_keeps (Next key) sizes lists kept = kept
  call_keeps (BatchRead remove count start flags) sizes lists kept =
      let P : Finals × Reply → Type 0 = λ after. Kept after.0 in
      cond_both (flags == 0) _ _ P
      (λ plain. cond_both (count == 0) _ _ P (λ none. kept)
      (λ some. cond_both (nat_lt (unwrap_or start 0) shape.buckets) _ _ P
      (λ there. read_keeps remove (min count shape.elements) (buckets_from shape (unwrap_or start 0)) (buckets_within shape (unwrap_or start 0)) [] lists kept)
      (λ past. kept)))
      (λ refused. kept)
  call_keeps (BatchUpdate flags pairs) sizes lists kept =
      cond_both (flags == 0) _ _ (λ (after : Finals × Reply). Kept after.0)
      (λ plain. each_keeps (λ (pair : List ℕ × List ℕ). after_update shape Sys cpu 0 pair.0 pair.1) (λ (pair : List ℕ × List ℕ). HasSizes shape (Update Sys 0 pair.0 pair.1))
      (λ pair fits now before. by_key (Update Sys 0 pair.0 pair.1) tt fits now before) pairs (updates_fit shape pairs sizes) 0 lists kept)
      (λ refused. kept)
  call_keeps (BatchDelete flags keys) sizes lists kept =
      cond_both (flags == 0) _ _ (λ (after : Finals × Reply). Kept after.0)
      (λ plain. each_keeps (after_delete shape cpu) (λ (key : List ℕ). HasSizes shape (Delete key)) (λ key fits now before. by_key (Delete key) tt fits now before) keys (deletes_fit shape keys sizes) 0 lists kept)
      (λ refused. kept)
  call_keeps (Each flags stop) sizes lists kept = cond_both (flags == 0) _ _ (λ (after : Finals × Reply). Kept after.0) (λ plain. kept) (λ refused. kept)
