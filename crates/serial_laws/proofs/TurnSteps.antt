-- What turns leave under the locks of a map that doesn't evict, and where each of several turns may be made.
use Rattle.std.proofs.Common.{◌≡◌, ℕ, ◌<◌, Bool, true, false, List, [], ◌∷◌, ◌++◌, length, get_or, set, refl, ap, sym, ◌∙◌}
use Rattle.std.specs.Prelude.{if◌then◌else◌}
use Rattle.std.proofs.Math.Path.{fun_ext}
use Rattle.std.proofs.lemmas.List.{get_or-set_same, get_or-set_other}
use Rattle.map_types.specs.declared.attr.Shape.{Shape}
use Rattle.map_types.specs.declared.kind.DomainId.{DomainId}
use Rattle.map_types.specs.declared.kind.DomainId.TheVariants.{Local, Global, CpuLru, Bucket, Freelist}
use Rattle.map_types.specs.Stored.{Stored}
use Rattle.place_words.specs.declared.bucket_part.BucketPart.{BucketPart}
use Rattle.place_words.specs.declared.finals.Finals.{Finals}
use Rattle.place_words.specs.declared.free_part.FreePart.{FreePart}
use Rattle.place_words.specs.Buckets.{bucket_after}
use Rattle.place_words.specs.Freelists.{freelist_after}
use Rattle.place_words.specs.Histories.{Content, in_bucket, on_freelist, content_after}
use Rattle.place_words.specs.Locks.{is_same_lock}
use Rattle.place_words.specs.Traces.{Turn, on_bucket_of, on_freelist_of, after_turn, after_turns, AreAllowed}
use Rattle.place_words.proofs.LockLemmas.{one_lock}
use Rattle.map_types.proofs.RowLemmas.{by_test}
use Rattle.map_report.specs.Buckets.{bucket_of_key}
use Rattle.map_report.specs.Freelists.{stack_at}
use Rattle.map_report.specs.Serial.{bucket_at, with_bucket}
use Rattle.map_report.specs.Turns.{content_under}

-- Turns and then others

pub allowed_more : (shape : Shape) (cpu : ℕ) (contents : DomainId → Content) (first second : List Turn)
    → AreAllowed shape cpu contents first → AreAllowed shape cpu (after_turns shape cpu contents first) second → AreAllowed shape cpu contents (first ++ second)
allowed_more shape cpu contents [] second before after = after
allowed_more shape cpu contents (turn ∷ first) second before after =
    (before.0, allowed_more shape cpu (after_turn shape cpu contents turn) first second before.1 after)

-- A turn

-- these contents, with another one under a lock
abbrev pub with_content : (DomainId → Content) → DomainId → Content → DomainId → Content
with_content contents lock content other = if is_same_lock lock other then content else contents other

-- a turn changes what lies under its lock
pub after_is : (shape : Shape) (cpu : ℕ) (contents : DomainId → Content) (turn : Turn)
    → after_turn shape cpu contents turn ≡ with_content contents turn.lock (content_after shape cpu turn.part (contents turn.lock))
after_is shape cpu contents turn = fun_ext (λ lock. at_lock lock (is_same_lock turn.lock lock) refl)
  where
    at_lock : (lock : DomainId) (same : Bool) → is_same_lock turn.lock lock ≡ same
        → (if same then content_after shape cpu turn.part (contents lock) else contents lock) ≡ (if same then content_after shape cpu turn.part (contents turn.lock) else contents lock)
    at_lock lock true is = ap (λ l. content_after shape cpu turn.part (contents l)) (sym (one_lock turn.lock lock is))
    at_lock lock false is = refl

-- one that leaves it as it is changes nothing
pub after_same : (shape : Shape) (cpu : ℕ) (contents : DomainId → Content) (turn : Turn)
    → content_after shape cpu turn.part (contents turn.lock) ≡ contents turn.lock → after_turn shape cpu contents turn ≡ contents
after_same shape cpu contents turn stays =
    after_is shape cpu contents turn ∙ ap (with_content contents turn.lock) stays ∙ fun_ext (λ lock. at_lock lock (is_same_lock turn.lock lock) refl)
  where
    at_lock : (lock : DomainId) (same : Bool) → is_same_lock turn.lock lock ≡ same → (if same then contents turn.lock else contents lock) ≡ contents lock
    at_lock lock true is = ap contents (one_lock turn.lock lock is)
    at_lock lock false is = refl

-- Lists of which one is another

pub lies_bucket : (lists : Finals) (number : ℕ) (new : List Stored) → number < length lists.buckets
    → with_content (content_under lists) (Bucket number) (in_bucket new) ≡ content_under (record lists { buckets = set lists.buckets number new })
lies_bucket lists number new within = fun_ext at_lock
  where
    at_lock : (lock : DomainId) → with_content (content_under lists) (Bucket number) (in_bucket new) lock ≡ content_under (record lists { buckets = set lists.buckets number new }) lock
    at_lock (Local cpu) = refl
    at_lock Global = refl
    at_lock (CpuLru cpu) = refl
    at_lock (Bucket other) =
        by_test number other (λ b. (if b then in_bucket new else in_bucket (get_or lists.buckets other [])) ≡ in_bucket (get_or (set lists.buckets number new) other []))
        (λ is. ap in_bucket (sym (get_or-set_same lists.buckets number new [] within) ∙ ap (λ k. get_or (set lists.buckets number new) k []) is))
        (λ is_not. ap in_bucket (sym (get_or-set_other lists.buckets number other new [] (λ is. is_not (sym is)))))
    at_lock (Freelist cpu) = refl

pub lies_freelist : (lists : Finals) (number : ℕ) (new : List ℕ) → number < length lists.freelists
    → with_content (content_under lists) (Freelist number) (on_freelist new) ≡ content_under (record lists { freelists = set lists.freelists number new })
lies_freelist lists number new within = fun_ext at_lock
  where
    at_lock : (lock : DomainId) → with_content (content_under lists) (Freelist number) (on_freelist new) lock ≡ content_under (record lists { freelists = set lists.freelists number new }) lock
    at_lock (Local cpu) = refl
    at_lock Global = refl
    at_lock (CpuLru cpu) = refl
    at_lock (Bucket bucket) = refl
    at_lock (Freelist other) =
        by_test number other (λ b. (if b then on_freelist new else on_freelist (get_or lists.freelists other [])) ≡ on_freelist (get_or (set lists.freelists number new) other []))
        (λ is. ap on_freelist (sym (get_or-set_same lists.freelists number new [] within) ∙ ap (λ k. get_or (set lists.freelists number new) k []) is))
        (λ is_not. ap on_freelist (sym (get_or-set_other lists.freelists number other new [] (λ is. is_not (sym is)))))

-- Turns on the lists of a map

-- a turn of a key's bucket that leaves this there
pub bucket_leaves : (shape : Shape) (cpu : ℕ) (lists : Finals) (key : List ℕ) (part : BucketPart) (new : List Stored) → bucket_of_key shape key < length lists.buckets
    → bucket_after shape cpu part (bucket_at shape lists key) ≡ new → after_turn shape cpu (content_under lists) (on_bucket_of shape key part) ≡ content_under (with_bucket shape lists key new)
bucket_leaves shape cpu lists key part new within leaves =
    after_is shape cpu (content_under lists) (on_bucket_of shape key part) ∙ ap (λ b. with_content (content_under lists) (Bucket (bucket_of_key shape key)) (in_bucket b)) leaves
    ∙ lies_bucket lists (bucket_of_key shape key) new within

-- one that changes nothing
pub bucket_stays : (shape : Shape) (cpu : ℕ) (lists : Finals) (key : List ℕ) (part : BucketPart)
    → bucket_after shape cpu part (bucket_at shape lists key) ≡ bucket_at shape lists key → after_turn shape cpu (content_under lists) (on_bucket_of shape key part) ≡ content_under lists
bucket_stays shape cpu lists key part stays = after_same shape cpu (content_under lists) (on_bucket_of shape key part) (ap in_bucket stays)

-- a turn of a CPU's freelist that leaves this there
pub freelist_leaves : (shape : Shape) (cpu : ℕ) (lists : Finals) (owner : ℕ) (part : FreePart) (new : List ℕ) → owner < length lists.freelists
    → freelist_after part (stack_at lists.freelists owner) ≡ new → after_turn shape cpu (content_under lists) (on_freelist_of owner part) ≡ content_under (record lists { freelists = set lists.freelists owner new })
freelist_leaves shape cpu lists owner part new within leaves =
    after_is shape cpu (content_under lists) (on_freelist_of owner part) ∙ ap (λ s. with_content (content_under lists) (Freelist owner) (on_freelist s)) leaves
    ∙ lies_freelist lists owner new within
