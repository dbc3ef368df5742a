-- Turns that lead from some lists of a map that doesn't evict to others.
use Rattle.std.proofs.Common.{◌≡◌, ◌≢◌, ℕ, ◌<◌, false, not, cond, List, [], ◌∷◌, ◌++◌, length, map, set, Option, refl, ap, sym, ◌∙◌, arith}
use Rattle.std.specs.Prelude.{◌&&◌, IsTrue, slice_get}
use Rattle.std.proofs.lemmas.Bool.{lt-ltb}
use Rattle.map_types.specs.declared.attr.Shape.{Shape}
use Rattle.map_types.specs.declared.kind.DomainId.{DomainId}
use Rattle.map_types.specs.declared.kind.DomainId.TheVariants.{Bucket}
use Rattle.map_types.specs.Kind.{is_lru}
use Rattle.map_types.specs.Stored.{Stored}
use Rattle.place_words.specs.declared.bucket_part.BucketPart.{BucketPart}
use Rattle.place_words.specs.declared.finals.Finals.{Finals}
use Rattle.place_words.specs.declared.free_part.FreePart.TheVariants.{Pushed}
use Rattle.place_words.specs.declared.history.Part.TheVariants as parts
use Rattle.place_words.specs.Buckets.{bucket_after}
use Rattle.place_words.specs.Histories.{Content, in_bucket, content_after}
use Rattle.place_words.specs.Locks.{is_lock, is_same_lock}
use Rattle.place_words.specs.PlainTraces.{spare_after_bucket_part}
use Rattle.place_words.specs.Traces.{Turn, on_freelist_of, after_turn, after_turns, spare_after_part, spare_after}
use Rattle.place_words.specs.Turns.{on_lock}
use Rattle.place_words.proofs.PlacedContents.{after_both}
use Rattle.map_report.specs.Freelists.{stack_at, pushed}
use Rattle.map_report.specs.Serial.{in_bucket_at, all_pushed}
use Rattle.map_report.specs.Turns.{content_under, spare_at}
use Rattle.serial_laws.proofs.TurnLocks.{OnLock, OnLocks, all_append}
use Rattle.serial_laws.proofs.TurnSteps.{with_content, after_is, after_same, lies_bucket, freelist_leaves}
use Rattle.core_runs.proofs.BatchCalls.{spare_both}

-- Turns of a CPU lead from lists to others: they are of locks of the map, they leave under each lock what lies there then, and
-- they leave the CPU the spare that it has then. The other CPUs keep theirs.
pub record Leads (shape : Shape) (cpu : ℕ) (turns : List Turn) (lists after : Finals) : Type 0 where
  pub on_locks : OnLocks shape turns
  pub leaves : (lock : DomainId) → IsTrue (is_lock shape lock) → after_turns shape cpu (content_under lists) turns lock ≡ content_under after lock
  pub spare : spare_after (spare_at lists cpu) turns ≡ spare_at after cpu
  pub other_spares : (other : ℕ) → other ≢ cpu → spare_at after other ≡ spare_at lists other

module _ (shape : Shape) (cpu : ℕ) where
  pub leads_none : (lists : Finals) → Leads shape cpu [] lists lists
  leads_none lists = record { on_locks = tt; leaves = λ lock real. refl; spare = refl; other_spares = λ other apart. refl }

  -- what turns leave under a lock rests on what lay there alone
  after_alike : (turns : List Turn) (a b : DomainId → Content) (lock : DomainId) → a lock ≡ b lock → after_turns shape cpu a turns lock ≡ after_turns shape cpu b turns lock
  after_alike [] a b lock same = same
  after_alike (turn ∷ turns) a b lock same =
      after_alike turns (after_turn shape cpu a turn) (after_turn shape cpu b turn) lock
      (ap (λ (c : Content). cond (is_same_lock turn.lock lock) (content_after shape cpu turn.part c) c) same)

  pub leads_both : (first second : List Turn) (lists middle after : Finals) → Leads shape cpu first lists middle → Leads shape cpu second middle after → Leads shape cpu (first ++ second) lists after
  leads_both first second lists middle after one two = record {
    on_locks = all_append (OnLock shape) first second one.on_locks two.on_locks;
    leaves = λ lock real.
        ap (λ (contents : DomainId → Content). contents lock) (after_both shape cpu (content_under lists) first second)
        ∙ after_alike second (after_turns shape cpu (content_under lists) first) (content_under middle) lock (one.leaves lock real) ∙ two.leaves lock real;
    spare = spare_both (spare_at lists cpu) first second ∙ ap (λ (s : Option ℕ). spare_after s second) one.spare ∙ two.spare;
    other_spares = λ other apart. two.other_spares other apart ∙ one.other_spares other apart;
  }

  -- a turn that leaves the spares
  pub leads_one : (turn : Turn) (lists after : Finals) → OnLock shape turn → after_turn shape cpu (content_under lists) turn ≡ content_under after → spare_after_part (spare_at lists cpu) turn.part ≡ spare_at lists cpu
      → after.spares ≡ lists.spares → Leads shape cpu (turn ∷ []) lists after
  leads_one turn lists after real leaves stays same = record {
    on_locks = (real, tt);
    leaves = λ lock is. ap (λ (contents : DomainId → Content). contents lock) leaves;
    spare = stays ∙ ap (λ (l : List ℕ). slice_get l cpu) (sym same);
    other_spares = λ other apart. ap (λ (l : List ℕ). slice_get l other) same;
  }

  -- one of a bucket that leaves this there
  pub bucket_leads : (bucket : ℕ) (part : BucketPart) (lists : Finals) (new : List Stored) → bucket < shape.buckets → bucket < length lists.buckets
      → bucket_after shape cpu part (in_bucket_at lists bucket) ≡ new → spare_after_bucket_part (spare_at lists cpu) part ≡ spare_at lists cpu
      → Leads shape cpu (on_lock (Bucket bucket) (parts.Bucket part) ∷ []) lists (record lists { buckets = set lists.buckets bucket new })
  bucket_leads bucket part lists new below within leaves stays =
      leads_one (on_lock (Bucket bucket) (parts.Bucket part)) lists (record lists { buckets = set lists.buckets bucket new }) (lt-ltb bucket shape.buckets below)
      (after_is shape cpu (content_under lists) (on_lock (Bucket bucket) (parts.Bucket part)) ∙ ap (λ (b : List Stored). with_content (content_under lists) (Bucket bucket) (in_bucket b)) leaves
      ∙ lies_bucket lists bucket new within)
      stays refl

  -- and one that changes nothing
  pub look_leads : (bucket : ℕ) (part : BucketPart) (lists : Finals) → bucket < shape.buckets
      → bucket_after shape cpu part (in_bucket_at lists bucket) ≡ in_bucket_at lists bucket → spare_after_bucket_part (spare_at lists cpu) part ≡ spare_at lists cpu
      → Leads shape cpu (on_lock (Bucket bucket) (parts.Bucket part) ∷ []) lists lists
  look_leads bucket part lists below leaves stays =
      leads_one (on_lock (Bucket bucket) (parts.Bucket part)) lists lists (lt-ltb bucket shape.buckets below)
      (after_same shape cpu (content_under lists) (on_lock (Bucket bucket) (parts.Bucket part)) (ap in_bucket leaves)) stays refl

  -- Elements that are pushed one after another
  module _ (plain : is_lru shape.kind ≡ false) (few : cpu < shape.cpus) where
    freelist_real : (e : ℕ) → OnLock shape (on_freelist_of cpu (Pushed e))
    freelist_real e = λ i. not (plain i) && lt-ltb cpu shape.cpus few i

    pub pushes_lead : (elements : List ℕ) (lists : Finals) → cpu < length lists.freelists
        → Leads shape cpu (map (λ e. on_freelist_of cpu (Pushed e)) elements) lists (record lists { freelists = all_pushed cpu elements lists.freelists })
    pushes_lead [] lists within = leads_none lists
    pushes_lead (element ∷ elements) lists within =
        let middle : Finals = record lists { freelists = pushed cpu element lists.freelists } in
        let long : length (pushed cpu element lists.freelists) ≡ length lists.freelists = Rattle.std.proofs.lemmas.List.length-set lists.freelists cpu (element ∷ stack_at lists.freelists cpu) in
        leads_both (on_freelist_of cpu (Pushed element) ∷ []) (map (λ e. on_freelist_of cpu (Pushed e)) elements) lists middle _
        (leads_one (on_freelist_of cpu (Pushed element)) lists middle (freelist_real element)
        (freelist_leaves shape cpu lists cpu (Pushed element) (element ∷ stack_at lists.freelists cpu) within refl) refl refl)
        (pushes_lead elements middle (omega arith))
