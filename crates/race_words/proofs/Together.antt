-- What the order of the turns of a map that doesn't evict has, by its locks and by the premise on nests: inner turns follow one another, and no
-- turn of a lock stands between a turn of it and one made inside that.
use Rattle.std.proofs.Common.{◌≡◌, ◌⊎◌, inl, inr, ◌<◌, ◌≤◌, Bool, true, false, ◌&&◌, not, ltb, List, [], ◌∷◌, ◌++◌, refl, ◌∙◌, sym, subst, ⊎_elim, arith}
use Rattle.std.specs.Prelude.{IsTrue}
use Rattle.std.proofs.lemmas.Bool.{and_parts, cases_lt, true≢false}
use Rattle.std.proofs.lemmas.List.{append_assoc}
use Rattle.map_types.specs.declared.attr.Shape.{Shape}
use Rattle.map_types.specs.declared.kind.DomainId.{DomainId}
use Rattle.map_types.specs.declared.kind.DomainId.TheVariants.{Local, Global, CpuLru, Bucket, Freelist}
use Rattle.map_types.specs.Kind.{is_lru}
use Rattle.map_types.specs.Shape.{HasBounds}
use Rattle.place_words.specs.declared.history.Entry.{Entry}
use Rattle.place_words.specs.declared.history.LockHistory.{LockHistory}
use Rattle.place_words.specs.declared.history.Part.{Part}
use Rattle.place_words.specs.declared.history.Part.TheVariants as parts
use Rattle.place_words.specs.Histories.{Content}
use Rattle.place_words.specs.Interleaving.{Drawn, turn_of, is_inner, encloses, enclosing}
use Rattle.place_words.specs.Locks.{rank_of, is_lock}
use Rattle.place_words.specs.Named.{entries_of}
use Rattle.place_words.specs.Turns.{after_turn}
use Rattle.turn_order.specs.Ordered.{ordered}
use Rattle.turn_order.proofs.Members.{IsAmong, among_all}
use Rattle.core_runs.proofs.RaceLinks.{AllowAlong, AreOnLocks}
use Rattle.step_check.proofs.Begun.{Stands, stands_around}
use Rattle.step_check.proofs.LockSorts.{AreOfTheirSorts, sorts_after, part_sort, sort_of_lock, sort_of_part}
use Rattle.step_check.proofs.PlainLinks.{plain_apart}
use Rattle.step_check.proofs.PlainNested.{all_stand}
use Rattle.turn_order.specs.Nests.{EarlierBelow, NestsApart}
use Rattle.race_words.proofs.Open.{Around, around_each}
use Rattle.race_words.proofs.Inner.{InnerBefore, InnersTogether, Ascend, Apart, encloses_from}

-- a turn of a bucket, or one of a freelist, which is inner
abbrev IsPlain : DomainId → Part → Type 0
IsPlain lock part = (rank_of lock ≡ 3) ⊎ ((rank_of lock ≡ 4) × (is_inner part ≡ true))

free_is_inner : (part : Part) → sort_of_part part ≡ 4 → is_inner part ≡ true
free_is_inner (parts.Bucket part) is = absurd (omega (arith, is))
free_is_inner (parts.Free part) is = refl
free_is_inner (parts.Local part) is = absurd (omega (arith, is))
free_is_inner (parts.Global part) is = absurd (omega (arith, is))
free_is_inner (parts.Own part) is = absurd (omega (arith, is))

is_plain : (shape : Shape) → is_lru shape.kind ≡ false → shape.common ≡ false → (lock : DomainId) (part : Part) → IsTrue (is_lock shape lock) → sort_of_part part ≡ sort_of_lock lock → IsPlain lock part
is_plain shape plain apart (Local c) part on sort = absurd (true≢false (sym (and_parts shape.common (ltb c shape.cpus) on).0 ∙ apart))
is_plain shape plain apart Global part on sort = absurd (true≢false (sym on ∙ apart))
is_plain shape plain apart (CpuLru c) part on sort =
    absurd (true≢false (sym (and_parts (is_lru shape.kind) (not shape.common) (and_parts (is_lru shape.kind && not shape.common) (ltb c shape.cpus) on).0).0 ∙ plain))
is_plain shape plain apart (Bucket b) part on sort = inl refl
is_plain shape plain apart (Freelist c) part on sort = inr (refl, free_is_inner part sort)

abbrev ArePlain : List Drawn → Type 0
ArePlain [] = Unit {0}
ArePlain (x ∷ later) = IsPlain x.lock x.entry.part × ArePlain later

are_plain : (shape : Shape) → is_lru shape.kind ≡ false → shape.common ≡ false → (turns : List Drawn) (contents : DomainId → Content) → AreOfTheirSorts contents → AreOnLocks shape turns → AllowAlong shape contents turns → ArePlain turns
are_plain shape plain apart [] contents sorts on allow = tt
are_plain shape plain apart (x ∷ later) contents sorts on allow = (
  is_plain shape plain apart x.lock x.entry.part on.0 (part_sort shape x.entry.cpu x.entry.part x.lock contents sorts allow.0),
  are_plain shape plain apart later (after_turn shape x.entry.cpu contents (turn_of x)) (sorts_after shape x.entry.cpu contents (turn_of x) sorts) on.1 allow.1,
)

plain_stands : (turns : List Drawn) → ArePlain turns → (y : Drawn) → Stands y turns → IsPlain y.lock y.entry.part
plain_stands [] plain y at = absurd at
plain_stands (x ∷ later) plain y (inl same) = subst (λ (d : Drawn). IsPlain d.lock d.entry.part) same plain.0
plain_stands (x ∷ later) plain y (inr at) = plain_stands later plain.1 y at

inner_before : (x : Drawn) → rank_of x.lock ≡ 4 → is_inner x.entry.part ≡ true → (later : List Drawn) → ArePlain later → InnerBefore x later
inner_before x four inner [] plain = tt
inner_before x four inner (w ∷ more) plain = by (encloses w x) refl plain.0 (inner_before x four inner more plain.1)
  where
    by : (b : Bool) → encloses w x ≡ b → IsPlain w.lock w.entry.part → InnerBefore x more → InnerBefore x (w ∷ more)
    by true is one rest = inl is
    by false is (inl three) rest = inr (
      λ cpu call. absurd (true≢false (sym (encloses_from w x (record { inner_is = inner; lower = omega (arith, three, four); cpu = cpu; call = call })) ∙ is)),
      rest,
    )
    by false is (inr mine) rest = inr (λ cpu call. mine.1, rest)

together : (turns : List Drawn) → ArePlain turns → InnersTogether turns
together [] plain = tt
together (x ∷ later) plain = (
  λ t at. by x plain.0 t (around_each x later t at) (plain_stands later plain.1 t (stands_around x t later at)),
  together later plain.1,
)
  where
    by : (x : Drawn) → IsPlain x.lock x.entry.part → (t : Drawn) → Around t x → IsPlain t.lock t.entry.part → InnerBefore x later
    by x (inl three) t around (inl also) = absurd (omega (arith, around.lower, three, also))
    by x (inl three) t around (inr also) = absurd (omega (arith, around.lower, three, also.0))
    by x (inr mine) t around other = inner_before x mine.0 mine.1 later plain.1

pub inners_together : {shape : Shape} → HasBounds shape → is_lru shape.kind ≡ false → (turns : List Drawn) (contents : DomainId → Content) → AreOfTheirSorts contents → AreOnLocks shape turns → AllowAlong shape contents turns → InnersTogether turns
inners_together {shape} bounds plain turns contents sorts on allow = together turns (are_plain shape plain (plain_apart bounds plain) turns contents sorts on allow)

-- By the premise, of maps of all kinds
apart_from : (histories : List LockHistory) → NestsApart histories → (before turns : List Drawn) → ordered histories ≡ before ++ turns → Ascend turns → ((z : Drawn) → Stands z turns → IsAmong z.entry (entries_of histories z.lock)) → Apart turns
apart_from histories nests before [] is ascend inside = tt
apart_from histories nests before (x ∷ later) is ascend inside = (
  λ t at z there same.
      let below : EarlierBelow histories t x.entry.ticket = all_stand (λ (outer : Drawn). EarlierBelow histories outer x.entry.ticket) (enclosing x later) (nests before x later is) t at in
      let mine : z.entry.ticket < t.entry.ticket → z.entry.ticket < x.entry.ticket =
      among_all (λ (entry : Entry). entry.ticket < t.entry.ticket → entry.ticket < x.entry.ticket) z.entry (entries_of histories t.lock) below
      (subst (λ (l : DomainId). IsAmong z.entry (entries_of histories l)) same (inside z (inr there))) in
      ⊎_elim
      (λ (less : z.entry.ticket < t.entry.ticket). absurd (omega (arith, mine less, ascend.0 z there)))
      (λ (least : t.entry.ticket ≤ z.entry.ticket). least)
      (cases_lt z.entry.ticket t.entry.ticket),
  apart_from histories nests (before ++ x ∷ []) later (is ∙ sym (append_assoc before (x ∷ []) later)) ascend.1 (λ z there. inside z (inr there)),
)

pub nests_apart : (histories : List LockHistory) → NestsApart histories → Ascend (ordered histories) → ((z : Drawn) → Stands z (ordered histories) → IsAmong z.entry (entries_of histories z.lock)) → Apart (ordered histories)
nests_apart histories nests ascend inside = apart_from histories nests [] (ordered histories) refl ascend inside
