-- On a map that doesn't evict no turn tells anything of bits.
use Rattle.std.proofs.Common.{◌≡◌, ◌⊎◌, ℕ, Bool, false, cond, List, [], ◌∷◌, ◌++◌, map, refl, ap, subst, inl, inr}
use Rattle.std.specs.Prelude.{None, IsTrue}
use Rattle.std.proofs.lemmas.Bool.{both_ways}
use Rattle.map_types.specs.declared.attr.Shape.{Shape}
use Rattle.map_types.specs.declared.kind.DomainId.{DomainId}
use Rattle.map_types.specs.declared.kind.DomainId.TheVariants.{Local, Global, CpuLru, Bucket, Freelist}
use Rattle.map_types.specs.Kind.{is_lru}
use Rattle.map_types.specs.Shape.{HasBounds}
use Rattle.map_types.specs.Stored.{Stored}
use Rattle.place_words.specs.declared.history.Entry.{Entry}
use Rattle.place_words.specs.declared.history.Part.{Part}
use Rattle.place_words.specs.declared.history.Part.TheVariants as parts
use Rattle.place_words.specs.Buckets.{bucket_marks}
use Rattle.place_words.specs.Histories.{Content, in_bucket, on_freelist, content, Allows}
use Rattle.place_words.specs.Locks.{is_lock, lock_named}
use Rattle.place_words.specs.Logs.{State, bucket_at, freelist_at}
use Rattle.place_words.proofs.DoneLaws.{lies_a_bucket, lies_a_freelist}
use Rattle.place_table.specs.declared.view.Turned.{Turned}
use Rattle.place_table.specs.Calls.{reads_bit, sets_bit, clears_found, clears_bit, bits_of_part}
use Rattle.place_table.specs.Known.{AreAllowedAt}
use Rattle.place_table.proofs.FirstSlots.{not_common, no_local}
use Rattle.run_records.proofs.MadeBy.{touches_of}
use Rattle.serial_laws.proofs.OpeningTurns.{no_set}

module _ (shape : Shape) (bounds : HasBounds shape) (plain : is_lru shape.kind ≡ false) where
  -- a bucket lies under a lock of the map, or a freelist
  abbrev IsPlain : Content → Type 0
  IsPlain lies = ((bodies : List Stored) × (lies ≡ in_bucket bodies)) ⊎ ((stack : List ℕ) × (lies ≡ on_freelist stack))

  abbrev with_log : List Entry → State
  with_log entries = record { next_ticket = 0; logs = λ lock. entries; bits = λ e. false; spares = λ cpu. None }

  plainly_lies : (lock : DomainId) (entries : List Entry) → IsTrue (is_lock shape lock) → IsPlain (content shape lock entries)
  plainly_lies (Local c) entries there = absurd (both_ways (is_lock shape (Local c)) (no_local shape c (not_common shape bounds plain)) there)
  plainly_lies Global entries there = absurd (both_ways shape.common (not_common shape bounds plain) there)
  plainly_lies (CpuLru c) entries there = absurd (both_ways (is_lock shape (CpuLru c)) (no_set shape c plain) there)
  plainly_lies (Bucket b) entries there = inl (bucket_at shape (with_log entries) b, lies_a_bucket shape (with_log entries) b)
  plainly_lies (Freelist c) entries there = inr (freelist_at shape (with_log entries) c, lies_a_freelist shape (with_log entries) c)

  -- a part that is allowed there tells nothing of bits
  tells_none : (cpu : ℕ) (part : Part) (lies : Content) → IsPlain lies → Allows shape cpu part lies → bits_of_part shape part ≡ []
  tells_none cpu (parts.Bucket part) lies is allowed = ap (λ (b : Bool). ((map reads_bit [] ++ map sets_bit (cond b (bucket_marks part) [])) ++ map clears_found []) ++ map clears_bit []) plain
  tells_none cpu (parts.Free part) lies is allowed = refl
  tells_none cpu (parts.Local part) lies (inl is) allowed = absurd (subst (Allows shape cpu (parts.Local part)) is.1 allowed)
  tells_none cpu (parts.Local part) lies (inr is) allowed = absurd (subst (Allows shape cpu (parts.Local part)) is.1 allowed)
  tells_none cpu (parts.Global part) lies (inl is) allowed = absurd (subst (Allows shape cpu (parts.Global part)) is.1 allowed)
  tells_none cpu (parts.Global part) lies (inr is) allowed = absurd (subst (Allows shape cpu (parts.Global part)) is.1 allowed)
  tells_none cpu (parts.Own part) lies (inl is) allowed = absurd (subst (Allows shape cpu (parts.Own part)) is.1 allowed)
  tells_none cpu (parts.Own part) lies (inr is) allowed = absurd (subst (Allows shape cpu (parts.Own part)) is.1 allowed)

  pub no_touches : (cpu number : ℕ) (steps : List Turned) → AreAllowedAt shape steps → touches_of shape cpu number steps ≡ []
  no_touches cpu number [] allowed = refl
  no_touches cpu number (step ∷ steps) allowed =
      let here = tells_none step.entry.cpu step.entry.part (content shape (lock_named shape step.lock) step.earlier) (plainly_lies (lock_named shape step.lock) step.earlier allowed.0.there) allowed.0.allowed in
      (λ i. here i ++ no_touches cpu number steps allowed.1 i)
