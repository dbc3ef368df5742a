-- What lies in the buckets by the histories of a record: each key in its own bucket, none twice, and values of the map's sizes.
use Rattle.std.proofs.Common.{◌≡◌, ℕ, suc, ◌<◌, List, [], ◌∷◌, length, Some, refl, ap, sym, subst}
use Rattle.std.specs.Prelude.{All, slice_get, unwrap_or}
use Rattle.std.specs.List.{AllByRecursion}
use Rattle.std.proofs.lemmas.Bool.{lt-ltb}
use Rattle.std.proofs.lemmas.List.{append-nil}
use Rattle.std.proofs.lemmas.List.Elements.{All-nil, All-weaker, recursion_from_All}
use Rattle.map_types.specs.Creation.{IsShape}
use Rattle.map_types.specs.Shape.{HasBounds}
use Rattle.map_types.specs.Parts.{AreOfSize}
use Rattle.map_types.specs.Stored.{Stored, IsSized}
use Rattle.map_types.specs.declared.attr.Shape.{Shape}
use Rattle.map_types.specs.declared.call.Call.{Call}
use Rattle.map_types.specs.declared.kind.DomainId.{DomainId}
use Rattle.map_types.specs.declared.kind.DomainId.TheVariants.{Bucket}
use Rattle.map_types.proofs.CreationLemmas.{bounds_of_shape}
use Rattle.map_script.specs.declared.script.Script.{Script}
use Rattle.map_script.specs.WellFormed.{IsCallOn}
use Rattle.place_words.specs.declared.history.Entry.{Entry}
use Rattle.place_words.specs.declared.history.LockHistory.{LockHistory}
use Rattle.place_words.specs.Bodies.{HasDistinctKeys}
use Rattle.place_words.specs.Histories.{AllAllowed, Content, IsLegal, bucket_in, content, in_bucket, on_freelist, in_locals, in_global, in_own}
use Rattle.place_words.specs.Named.{entries_of}
use Rattle.place_words.specs.Turns.{TurnAt}
use Rattle.map_report.specs.declared.record.RunRecord.{RunRecord}
use Rattle.map_report.specs.Record.{IsRecord}
use Rattle.map_report.specs.Soundness.{IsBucket}
use Rattle.map_report.proofs.CutLemmas.{Rise}
use Rattle.record_shape.specs.Fits.{AllFit}
use Rattle.record_shape.specs.OfTable.{HasFew}
use Rattle.record_shape.specs.ShapedParts.{AreBytes}
use Rattle.record_shape.proofs.ByPlaces.{all_at, fit_at, fit_each}
use Rattle.record_shape.proofs.CallsOf.{OfEntry, entry_there}
use Rattle.record_shape.proofs.ContentsFit.{contents_fit}
use Rattle.record_shape.proofs.HistoriesOf.{IsHeld, is_held}
use Rattle.record_shape.proofs.Premises.{BodyFits, ContentFits, Gives, Says, gives_of}
use Rattle.record_shape.proofs.SaysLaws.{says}
use Rattle.serial_laws.proofs.OwnKeys.{IsDistinct, IsOwn, OwnOf, replay_distinct, replay_owned}
use Rattle.serial_laws.proofs.WalkedKeys.{HaveOwnKeys}
use Rattle.run_records.proofs.OwnTurns.{call_own}

each_place : {A : Type 0} (P : A → Type 0) (xs : List A) → ((k : ℕ) (x : A) → slice_get xs k ≡ Some x → P x) → AllByRecursion P xs
each_place P [] by_place = tt
each_place P (x ∷ xs) by_place = (by_place 0 x refl, each_place P xs (λ k y at. by_place (suc k) y at))

-- what is said of a bucket's content is said of the bodies that lie there
bodies_distinct : (shape : Shape) (here : Content) → IsDistinct shape here → HasDistinctKeys (unwrap_or (bucket_in here) [])
bodies_distinct shape (in_bucket bodies) distinct = distinct
bodies_distinct shape (on_freelist stack) distinct = tt
bodies_distinct shape (in_locals lists) distinct = tt
bodies_distinct shape (in_global set) distinct = tt
bodies_distinct shape (in_own set) distinct = tt

bodies_fit : (shape : Shape) (here : Content) → ContentFits shape here → AllFit (BodyFits shape) (unwrap_or (bucket_in here) [])
bodies_fit shape (in_bucket bodies) fit = fit
bodies_fit shape (on_freelist stack) fit = tt
bodies_fit shape (in_locals lists) fit = tt
bodies_fit shape (in_global set) fit = tt
bodies_fit shape (in_own set) fit = tt

parts_sized : (size : ℕ) (values : List (List ℕ)) → AllFit (AreBytes size) values → AreOfSize size values
parts_sized size [] fit = tt
parts_sized size (value ∷ values) fit = (fit.0.sized, parts_sized size values fit.1)

all_sized : (shape : Shape) (bodies : List Stored) → AllFit (BodyFits shape) bodies → AllByRecursion (IsSized shape) bodies
all_sized shape [] fit = tt
all_sized shape (body ∷ bodies) fit =
    (record { key_sized = fit.0.key.sized; parts_counted = fit.0.parts; parts_sized = parts_sized shape.value_size body.values fit.0.values }, all_sized shape bodies fit.1)

-- what the history of a bucket leads to
abbrev pub left_in : Shape → List LockHistory → ℕ → List Stored
left_in shape histories bucket = unwrap_or (bucket_in (content shape (Bucket bucket) (entries_of histories (Bucket bucket)))) []

module _ (script : Script) (kept : RunRecord) (created : IsShape script.shape) (rises : Rise 0 script.cuts (length script.calls)) (calls : All (IsCallOn script.shape) script.calls)
    (few : All (λ (call : Call). HasFew call.verb) script.calls) (is : IsRecord script kept) where
  abbrev shape : Shape
  shape = script.shape

  bounds : HasBounds shape
  bounds = bounds_of_shape shape created

  served : All (λ (call : Call). call.cpu < shape.cpus) script.calls
  served = All-weaker (IsCallOn shape) (λ (call : Call). call.cpu < shape.cpus) (λ call on. on.cpu) script.calls calls

  abbrev log : ℕ → List Entry
  log bucket = entries_of kept.histories (Bucket bucket)

  of_entry : (bucket : ℕ) → bucket < shape.buckets → (place : ℕ) (entry : Entry) → slice_get (log bucket) place ≡ Some entry → OfEntry script kept (Bucket bucket) place entry
  of_entry bucket below place entry at = entry_there script kept rises served is (Bucket bucket) place entry at (lt-ltb bucket shape.buckets below)

  writes_own : (bucket : ℕ) → bucket < shape.buckets → (place : ℕ) (entry : Entry) → slice_get (log bucket) place ≡ Some entry → IsOwn shape (Bucket bucket) entry.part
  writes_own bucket below place entry at = by (of_entry bucket below place entry at)
    where
      by : OfEntry script kept (Bucket bucket) place entry → IsOwn shape (Bucket bucket) entry.part
      by it =
          let own : IsOwn shape it.at.turn.lock it.at.turn.part = fit_at (λ (one : TurnAt). IsOwn shape one.turn.lock one.turn.part) it.of.turns (call_own shape it.call.cpu it.of.spare it.call.verb it.of.turns it.of.reply it.of.trace) it.turn it.at it.there in
          subst (IsOwn shape (Bucket bucket)) (sym it.part_is) (subst (λ (l : DomainId). IsOwn shape l it.at.turn.part) it.lock_is own)

  says_there : (bucket : ℕ) → bucket < shape.buckets → (place : ℕ) (entry : Entry) → slice_get (log bucket) place ≡ Some entry → Says shape entry.part
  says_there bucket below place entry at = by (of_entry bucket below place entry at)
    where
      by : OfEntry script kept (Bucket bucket) place entry → Says shape entry.part
      by it =
          let on : IsCallOn shape it.call = all_at (IsCallOn shape) script.calls calls it.n it.call it.called in
          let gives : Gives it.call.verb = gives_of it.call.verb on.bytes (all_at (λ (one : Call). HasFew one.verb) script.calls few it.n it.call it.called) in
          subst (Says shape) (sym it.part_is)
          (fit_at (λ (one : TurnAt). Says shape one.turn.part) it.of.turns (says shape bounds it.call.cpu it.of.spare it.call.verb on.sizes gives it.of.turns it.of.reply it.of.trace) it.turn it.at it.there)

  legal_there : (lock : DomainId) → IsLegal shape lock (entries_of kept.histories lock)
  unfolding AllAllowed
  legal_there lock = by (entries_of kept.histories lock) refl
    where
      by : (entries : List Entry) → entries_of kept.histories lock ≡ entries → IsLegal shape lock (entries_of kept.histories lock)
      by [] are = subst (IsLegal shape lock) (sym are) tt
      by (first ∷ entries) are =
          let held : IsHeld kept.histories lock = is_held kept.histories lock 0 first (ap (λ (es : List Entry). slice_get es 0) are) in
          let legal : IsLegal shape held.history.lock held.history.entries = all_at (λ (h : LockHistory). IsLegal shape h.lock h.entries) kept.histories is.legal held.place held.history held.there in
          subst (IsLegal shape lock) (sym held.entries_are) (subst (λ (l : DomainId). IsLegal shape l held.history.entries) held.lock_is legal)

  pub record_keys : HaveOwnKeys shape (left_in shape kept.histories)
  record_keys = record {
    own = λ bucket below.
        recursion_from_All (OwnOf shape bucket) (left_in shape kept.histories bucket)
        (replay_owned shape bucket [] (log bucket) (legal_there (Bucket bucket)) (each_place (λ (entry : Entry). IsOwn shape (Bucket bucket) entry.part) (log bucket) (writes_own bucket below)) (All-nil (OwnOf shape bucket)));
    distinct = λ bucket below.
        bodies_distinct shape (content shape (Bucket bucket) (log bucket)) (replay_distinct shape (in_bucket []) (log bucket) (legal_there (Bucket bucket)) tt);
  }

  pub record_sizes : (bucket : ℕ) → bucket < shape.buckets → AllFit (BodyFits shape) (left_in shape kept.histories bucket)
  record_sizes bucket below =
      bodies_fit shape (content shape (Bucket bucket) (log bucket))
      (contents_fit shape bounds (Bucket bucket) (lt-ltb bucket shape.buckets below) (log bucket) (legal_there (Bucket bucket))
      (fit_each (λ (entry : Entry). Says shape entry.part) (log bucket) (says_there bucket below)) (log bucket) [] (sym (append-nil (log bucket))))

  -- so each bucket is as on a map that doesn't evict
  pub record_buckets : (bucket : ℕ) → bucket < shape.buckets → IsBucket shape bucket (left_in shape kept.histories bucket)
  record_buckets bucket below = record {
    own = record_keys.own bucket below;
    distinct = record_keys.distinct bucket below;
    sized = all_sized shape (left_in shape kept.histories bucket) (record_sizes bucket below);
  }
