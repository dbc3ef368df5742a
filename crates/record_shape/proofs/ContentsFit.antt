-- What lies under a lock fits, after any of its turns: keys and values of the map's sizes in buckets, and hashes of 32 bits on local lists.
use Rattle.std.proofs.Common.{◌≡◌, ℕ, zero, suc, ◌+◌, ◌<◌, Bool, true, false, cond, List, [], ◌∷◌, ◌++◌, take, drop, map, subst, arith}
use Rattle.std.specs.Prelude.{Option, None, Some, filter, nat_lt, if◌then◌else◌}
use Rattle.std.specs.List.{position_or_len, before_first, after_first}
use Rattle.std.proofs.lemmas.Bool.{and_parts, ltb-true}
use Rattle.map_types.specs.declared.attr.Shape.{Shape}
use Rattle.map_types.specs.declared.kind.DomainId.{DomainId}
use Rattle.map_types.specs.declared.kind.DomainId.TheVariants.{Bucket, CpuLru, Freelist, Global, Local}
use Rattle.map_types.specs.declared.kind.Side.{Side}
use Rattle.map_types.specs.Shape.{HasBounds}
use Rattle.map_types.specs.Sides.{values_written}
use Rattle.map_types.specs.Stored.{Stored}
use Rattle.map_types.specs.ValueLen.{value_len_of}
use Rattle.place_words.specs.declared.bucket_part.BucketPart.{BucketPart}
use Rattle.place_words.specs.declared.bucket_part.BucketPart.TheVariants.{Delete, Evict, First, Lookup, Next, Take, Update, Walk}
use Rattle.place_words.specs.declared.bucket_part.Put.{Put}
use Rattle.place_words.specs.declared.bucket_part.Put.TheVariants as puts
use Rattle.place_words.specs.declared.bucket_part.Seen.TheVariants.{Held, Removed}
use Rattle.place_words.specs.declared.bucket_part.Walked.TheVariants.{Over, Taken}
use Rattle.place_words.specs.declared.history.Entry.{Entry}
use Rattle.place_words.specs.declared.history.Part.{Part}
use Rattle.place_words.specs.declared.history.Part.TheVariants as parts
use Rattle.place_words.specs.declared.list_part.LocalPart.{LocalPart}
use Rattle.place_words.specs.declared.list_part.LocalPart.TheVariants as local
use Rattle.place_words.specs.declared.list_part.Stolen.{Stolen}
use Rattle.place_words.specs.declared.list_part.Stolen.TheVariants as stolen
use Rattle.place_words.specs.Bodies.{has_key, has_number}
use Rattle.place_words.specs.Buckets.{bucket_after, bucket_after_put, new_stored, written_over}
use Rattle.place_words.specs.Histories.{AllAllowed, Allows, Content, IsLegal, content, content_after, in_bucket, in_global, in_locals, in_own, on_freelist, opening_content, replayed}
use Rattle.place_words.specs.Locals.{AllowsOnLocal, LocalLists, after_push, after_steal, local_after}
use Rattle.place_words.specs.Sets.{row_with}
use Rattle.record_shape.specs.Fits.{AllFit}
use Rattle.record_shape.specs.ShapedParts.{AreBytes, IsU32, LockFits}
use Rattle.record_shape.proofs.Premises.{BodyFits, ContentFits, RowFits, Says, SaysBucket, SaysLocal}
use Rattle.record_shape.proofs.SaysLaws.{both_fit}
use Rattle.record_shape.proofs.ValueLemmas.{new_fits, written_fits}

-- ---- lists of which each fits, and parts of them

module _ {A : Type 0} (Fits : A → Type 0) where
  first_fit : (n : ℕ) (xs : List A) → AllFit Fits xs → AllFit Fits (take n xs)
  first_fit zero xs fit = tt
  first_fit (suc n) [] fit = tt
  first_fit (suc n) (x ∷ xs) fit = (fit.0, first_fit n xs fit.1)

  later_fit : (n : ℕ) (xs : List A) → AllFit Fits xs → AllFit Fits (drop n xs)
  later_fit zero xs fit = fit
  later_fit (suc n) [] fit = tt
  later_fit (suc n) (x ∷ xs) fit = later_fit n xs fit.1

  -- without the first that passes
  pub others_fit : (test : A → Bool) (xs : List A) → AllFit Fits xs → AllFit Fits (before_first test xs ++ after_first test xs)
  others_fit test xs fit =
      both_fit Fits (before_first test xs) (after_first test xs) (first_fit (position_or_len test xs) xs fit) (later_fit (position_or_len test xs + 1) xs fit)

  kept_where : (b : Bool) (x : A) (kept : List A) → Fits x → AllFit Fits kept → AllFit Fits (cond b (x ∷ kept) kept)
  kept_where true x kept one rest = (one, rest)
  kept_where false x kept one rest = rest

  pub filtered_fit : (test : A → Bool) (xs : List A) → AllFit Fits xs → AllFit Fits (filter test xs)
  filtered_fit test [] fit = tt
  filtered_fit test (x ∷ xs) fit = kept_where (test x) x (filter test xs) fit.0 (filtered_fit test xs fit.1)

  pub mapped_fit : (change : A → A) → ((x : A) → Fits x → Fits (change x)) → (xs : List A) → AllFit Fits xs → AllFit Fits (map change xs)
  mapped_fit change stays [] fit = tt
  mapped_fit change stays (x ∷ xs) fit = (stays x fit.0, mapped_fit change stays xs fit.1)

module _ (shape : Shape) where
  -- ---- buckets

  new_body : (side : Side) (cpu e : ℕ) (key value : List ℕ) → AreBytes shape.key_size key → AreBytes (value_len_of shape side) value
      → BodyFits shape (new_stored shape side cpu e key value)
  new_body side cpu e key value bytes written =
      let fits = new_fits shape side cpu value written in
      record { key = bytes; parts = fits.counted; values = fits.fit }

  written_where : (b : Bool) (side : Side) (cpu : ℕ) (value : List ℕ) (body : Stored) → AreBytes (value_len_of shape side) value
      → BodyFits shape body → BodyFits shape (if b then record body { values = values_written shape side cpu body.values value } else body)
  written_where true side cpu value body written fits =
      let over = written_fits shape side cpu body.values value (record { counted = fits.parts; fit = fits.values }) written in
      record { key = fits.key; parts = over.counted; values = over.fit }
  written_where false side cpu value body written fits = fits

  put_fits : (side : Side) (cpu : ℕ) (key value : List ℕ) (put : Put) (bucket : List Stored) → AreBytes shape.key_size key
      → AreBytes (value_len_of shape side) value → AllFit (BodyFits shape) bucket
      → AllFit (BodyFits shape) (bucket_after_put shape side cpu key value put bucket)
  put_fits side cpu key value (puts.Added e) bucket bytes written fit = (new_body side cpu e key value bytes written, fit)
  put_fits side cpu key value (puts.Replaced new old) bucket bytes written fit =
      (new_body side cpu new key value bytes written, others_fit (BodyFits shape) (has_key key) bucket fit)
  put_fits side cpu key value (puts.Written e) bucket bytes written fit =
      mapped_fit (BodyFits shape) (written_over shape side cpu key value) (λ body fits. written_where (has_key key body) side cpu value body written fits) bucket fit
  put_fits side cpu key value puts.Exists bucket bytes written fit = fit
  put_fits side cpu key value puts.Absent bucket bytes written fit = fit
  put_fits side cpu key value puts.Full bucket bytes written fit = fit

  pub bucket_fits : (cpu : ℕ) (part : BucketPart) (bucket : List Stored) → SaysBucket shape part → AllFit (BodyFits shape) bucket
      → AllFit (BodyFits shape) (bucket_after shape cpu part bucket)
  unfolding bucket_after
  bucket_fits cpu (Lookup side key got) bucket says fit = fit
  bucket_fits cpu (Update side flags key value offer put) bucket says fit = put_fits side cpu key value put bucket says.1 says.2 fit
  bucket_fits cpu (Delete key None) bucket says fit = fit
  bucket_fits cpu (Delete key (Some e)) bucket says fit = others_fit (BodyFits shape) (has_key key) bucket fit
  bucket_fits cpu (Take key None) bucket says fit = fit
  bucket_fits cpu (Take key (Some taken)) bucket says fit = others_fit (BodyFits shape) (has_key key) bucket fit
  bucket_fits cpu (Next key found) bucket says fit = fit
  bucket_fits cpu (First key) bucket says fit = fit
  bucket_fits cpu (Walk remove room (Over n)) bucket says fit = fit
  bucket_fits cpu (Walk true room (Taken all)) bucket says fit = tt
  bucket_fits cpu (Walk false room (Taken all)) bucket says fit = fit
  bucket_fits cpu (Evict e Removed) bucket says fit = others_fit (BodyFits shape) (has_number e) bucket fit
  bucket_fits cpu (Evict e (Held holder)) bucket says fit = fit

  -- ---- local lists

  abbrev ListsFit : LocalLists → Type 0
  ListsFit lists = AllFit RowFits lists.pending × IsU32 lists.steal

  row_fits : (hash : ℕ) (got : Option ℕ) → IsU32 hash → AllFit RowFits (row_with hash got)
  row_fits hash None small = tt
  row_fits hash (Some e) small = (small, tt)

  steal_fits : (got : Stolen) (lists : LocalLists) → ListsFit lists → ListsFit (after_steal got lists)
  steal_fits (stolen.Free e) lists fit = fit
  steal_fits (stolen.Pending e) lists fit = (filtered_fit RowFits _ lists.pending fit.0, fit.1)
  steal_fits stolen.Nothing lists fit = fit

  push_fits : (e : ℕ) (is_done : Bool) (lists : LocalLists) → ListsFit lists → ListsFit (after_push e is_done lists)
  push_fits e true lists fit = (filtered_fit RowFits _ lists.pending fit.0, fit.1)
  push_fits e false lists fit = fit

  module _ (bounds : HasBounds shape) where
    pub locals_fit : (part : LocalPart) (lists : LocalLists) → SaysLocal part → AllowsOnLocal shape part lists → ListsFit lists
        → ListsFit (local_after part lists)
    unfolding local_after
    locals_fit (local.Pop hash e) lists says allowed fit = ((says, fit.0), fit.1)
    locals_fit (local.Refill hash flushed gained got) lists says allowed fit = (row_fits hash got says, fit.1)
    locals_fit (local.Steal got first second) lists says allowed fit = steal_fits got lists fit
    locals_fit (local.Add hash e cursor) lists says allowed fit = ((says, fit.0), omega (arith, bounds.cpus_bounded, allowed.2))
    locals_fit (local.Push e is_done) lists says allowed fit = push_fits e is_done lists fit

    -- ---- histories

    -- what a turn leaves fits where what it found did
    pub content_stays : (cpu : ℕ) (part : Part) (lies : Content) → Says shape part → Allows shape cpu part lies → ContentFits shape lies
        → ContentFits shape (content_after shape cpu part lies)
    content_stays cpu (parts.Bucket part) (in_bucket bodies) says allowed fits = bucket_fits cpu part bodies says fits
    content_stays cpu (parts.Local part) (in_locals lists) says allowed fits = locals_fit part lists says allowed fits
    content_stays cpu (parts.Bucket part) (on_freelist stack) says allowed fits = absurd allowed
    content_stays cpu (parts.Bucket part) (in_locals lists) says allowed fits = absurd allowed
    content_stays cpu (parts.Bucket part) (in_global set) says allowed fits = absurd allowed
    content_stays cpu (parts.Bucket part) (in_own set) says allowed fits = absurd allowed
    content_stays cpu (parts.Free part) (in_bucket bodies) says allowed fits = absurd allowed
    content_stays cpu (parts.Free part) (on_freelist stack) says allowed fits = tt
    content_stays cpu (parts.Free part) (in_locals lists) says allowed fits = absurd allowed
    content_stays cpu (parts.Free part) (in_global set) says allowed fits = absurd allowed
    content_stays cpu (parts.Free part) (in_own set) says allowed fits = absurd allowed
    content_stays cpu (parts.Local part) (in_bucket bodies) says allowed fits = absurd allowed
    content_stays cpu (parts.Local part) (on_freelist stack) says allowed fits = absurd allowed
    content_stays cpu (parts.Local part) (in_global set) says allowed fits = absurd allowed
    content_stays cpu (parts.Local part) (in_own set) says allowed fits = absurd allowed
    content_stays cpu (parts.Global part) (in_bucket bodies) says allowed fits = absurd allowed
    content_stays cpu (parts.Global part) (on_freelist stack) says allowed fits = absurd allowed
    content_stays cpu (parts.Global part) (in_locals lists) says allowed fits = absurd allowed
    content_stays cpu (parts.Global part) (in_global set) says allowed fits = tt
    content_stays cpu (parts.Global part) (in_own set) says allowed fits = absurd allowed
    content_stays cpu (parts.Own part) (in_bucket bodies) says allowed fits = absurd allowed
    content_stays cpu (parts.Own part) (on_freelist stack) says allowed fits = absurd allowed
    content_stays cpu (parts.Own part) (in_locals lists) says allowed fits = absurd allowed
    content_stays cpu (parts.Own part) (in_global set) says allowed fits = absurd allowed
    content_stays cpu (parts.Own part) (in_own set) says allowed fits = tt

    opening_fits : (lock : DomainId) → LockFits shape lock → ContentFits shape (opening_content shape lock)
    opening_fits (Local cpu) is =
        let within : cpu < shape.cpus = ltb-true cpu shape.cpus (and_parts shape.common (nat_lt cpu shape.cpus) is).1 in
        (tt, omega (arith, within, bounds.cpus_bounded))
    opening_fits Global is = tt
    opening_fits (CpuLru cpu) is = tt
    opening_fits (Bucket bucket) is = tt
    opening_fits (Freelist cpu) is = tt

    abbrev EntrySays : Entry → Type 0
    EntrySays entry = Says shape entry.part

    replayed_fits : (lies : Content) → ContentFits shape lies → (before after : List Entry) → AllAllowed shape lies (before ++ after)
        → AllFit EntrySays (before ++ after) → ContentFits shape (replayed shape lies before)
    unfolding replayed AllAllowed
    replayed_fits lies fits [] after allowed say = fits
    replayed_fits lies fits (entry ∷ before) after allowed say =
        replayed_fits (content_after shape entry.cpu entry.part lies) (content_stays entry.cpu entry.part lies say.0 allowed.0 fits) before after allowed.1 say.1

-- what lies under a lock of the map fits, after any of its turns
pub contents_fit : (shape : Shape) → HasBounds shape → (lock : DomainId) → LockFits shape lock → (entries : List Entry)
    → IsLegal shape lock entries → AllFit (λ (entry : Entry). Says shape entry.part) entries → (before after : List Entry)
    → entries ≡ before ++ after → ContentFits shape (content shape lock before)
contents_fit shape bounds lock is entries legal say before after are =
    replayed_fits shape bounds (opening_content shape lock) (opening_fits shape bounds lock is) before after
    (subst (λ (all : List Entry). IsLegal shape lock all) are legal) (subst (λ (all : List Entry). AllFit (λ (entry : Entry). Says shape entry.part) all) are say)
