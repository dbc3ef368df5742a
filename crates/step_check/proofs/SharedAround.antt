-- Which turns enclose one, found from how the turns of its call stand: behind a turn of the global lists the refill, and never an addition.
use Rattle.std.proofs.Common.{◌≡◌, ◌≢◌, ℕ, Bool, true, false, ◌&&◌, eqb, ltb, List, [], ◌∷◌, ◌++◌, map, filter, refl, ap, ◌∙◌, sym, subst, inl, inr}
use Rattle.std.proofs.lemmas.Bool.{cond-true, cond-false, eq-eqb, ne_eqb}
use Rattle.std.proofs.lemmas.List.{append_assoc, append-nil}
use Rattle.map_types.specs.declared.attr.Shape.{Shape}
use Rattle.map_types.specs.declared.kind.DomainId.{DomainId}
use Rattle.map_types.specs.declared.kind.DomainId.TheVariants.{Local}
use Rattle.map_types.proofs.RowLemmas.{by_test}
use Rattle.place_words.specs.declared.bucket_part.BucketPart.TheVariants.{Lookup, Update, Delete, Take, Next, First, Walk, Evict}
use Rattle.place_words.specs.declared.history.Part.{Part}
use Rattle.place_words.specs.declared.history.Part.TheVariants as parts
use Rattle.place_words.specs.declared.list_part.GlobalPart.TheVariants as global
use Rattle.place_words.specs.declared.list_part.LocalPart.TheVariants as local
use Rattle.place_words.specs.declared.visits.Flush.{Flush}
use Rattle.place_words.specs.Globals.{flush_visit}
use Rattle.place_words.specs.Locks.{rank_of}
use Rattle.place_words.specs.Turns.{Turn, TurnAt}
use Rattle.place_words.specs.Interleaving.{Drawn, is_inner, encloses, enclosing}
use Rattle.turn_order.specs.InCalls.{Placed, place, placed_after, is_of}
use Rattle.core_runs.proofs.Nests.{outermost}
use Rattle.step_check.proofs.Begun.{Stands}
use Rattle.step_check.proofs.SharedNests.{probing, filled, stage_after, Probed, Fills, AreNested}

-- the turns of a call among these, each with what comes before it on its lock
abbrev pub rest_of : ℕ → List Drawn → List Drawn → List TurnAt
rest_of number before later = map (λ (placed : Placed). placed.at) (filter (is_of number) (placed_after before later))

pub rest_its : (number : ℕ) (before : List Drawn) (x : Drawn) (later : List Drawn) → x.entry.call ≡ number → rest_of number before (x ∷ later) ≡ (place before x).at ∷ rest_of number (before ++ x ∷ []) later
rest_its number before x later is =
    let rest : List Placed = filter (is_of number) (placed_after (before ++ x ∷ []) later) in
    ap (map (λ (placed : Placed). placed.at)) (cond-true (eqb x.entry.call number) (place before x ∷ rest) rest (eq-eqb x.entry.call number is))

pub rest_other : (number : ℕ) (before : List Drawn) (x : Drawn) (later : List Drawn) → x.entry.call ≢ number → rest_of number before (x ∷ later) ≡ rest_of number (before ++ x ∷ []) later
rest_other number before x later other =
    let rest : List Placed = filter (is_of number) (placed_after (before ++ x ∷ []) later) in
    ap (map (λ (placed : Placed). placed.at)) (cond-false (eqb x.entry.call number) (place before x ∷ rest) rest (ne_eqb x.entry.call number other))

-- A turn of a call, of a lower rank, encloses an inner one; one of the same rank or of another call doesn't.
encloses_its : (y x : Drawn) → is_inner x.entry.part ≡ true → ltb (rank_of y.lock) (rank_of x.lock) ≡ true → y.entry.cpu ≡ x.entry.cpu → y.entry.call ≡ x.entry.call → encloses y x ≡ true
encloses_its y x inner below cpu call = rw (inner, below, eq-eqb y.entry.cpu x.entry.cpu cpu, eq-eqb y.entry.call x.entry.call call) refl

and_false : (a : Bool) → (a && false) ≡ false
and_false true = refl
and_false false = refl

other_call : (y x : Drawn) → y.entry.call ≢ x.entry.call → encloses y x ≡ false
other_call y x other = rw (ne_eqb y.entry.call x.entry.call other, and_false (eqb y.entry.cpu x.entry.cpu), and_false (is_inner x.entry.part && ltb (rank_of y.lock) (rank_of x.lock))) refl

not_below : (y x : Drawn) → ltb (rank_of y.lock) (rank_of x.lock) ≡ false → encloses y x ≡ false
not_below y x is = rw (is, and_false (is_inner x.entry.part)) refl

-- one that encloses a turn, and is made in none itself
outer_alone : (x y : Drawn) (later : List Drawn) → encloses y x ≡ true → is_inner y.entry.part ≡ false → enclosing x (y ∷ later) ≡ y ∷ []
unfolding enclosing
outer_alone x y later around outer = cond-true (encloses y x) (enclosing y later ++ y ∷ []) (enclosing x later) around ∙ ap (λ (l : List Drawn). l ++ y ∷ []) (outermost y later outer)

outer_inner : (x y : Drawn) (later : List Drawn) → encloses y x ≡ true → enclosing x (y ∷ later) ≡ enclosing y later ++ y ∷ []
unfolding enclosing
outer_inner x y later around = cond-true (encloses y x) (enclosing y later ++ y ∷ []) (enclosing x later) around

passed_by : (x y : Drawn) (later : List Drawn) → encloses y x ≡ false → enclosing x (y ∷ later) ≡ enclosing x later
unfolding enclosing
passed_by x y later none = cond-false (encloses y x) (enclosing y later ++ y ∷ []) (enclosing x later) none

-- Behind a turn of the global lists stands, in its call, the refill that encloses it.
pub record Around (shape : Shape) (cpu number : ℕ) (flushed : List Flush) (gained : List ℕ) (before later : List Drawn) (x : Drawn) : Type 0 where
  pub between : List Drawn
  pub outer : Drawn
  pub more : List Drawn
  pub later_is : later ≡ between ++ outer ∷ more
  pub its : outer.entry.call ≡ number
  pub fills : Fills shape cpu flushed gained (place (before ++ between) outer).at
  pub around_is : enclosing x later ≡ outer ∷ []

-- all turns of a call among these are of one CPU
abbrev pub AreOf : ℕ → ℕ → List Drawn → Type 0
AreOf cpu number later = (z : Drawn) → Stands z later → z.entry.call ≡ number → z.entry.cpu ≡ cpu

pub filled_around : (shape : Shape) (cpu number : ℕ) (flushed : List Flush) (gained : List ℕ) (before later : List Drawn) (x : Drawn) → rank_of x.lock ≡ 2 → is_inner x.entry.part ≡ true → x.entry.cpu ≡ cpu → x.entry.call ≡ number → AreOf cpu number later
    → AreNested shape cpu (filled flushed gained) (rest_of number before later) → Around shape cpu number flushed gained before later x
filled_around shape cpu number flushed gained before [] x rank inner cpu_is call_is are nested = absurd nested
filled_around shape cpu number flushed gained before (y ∷ later) x rank inner cpu_is call_is are nested =
    by_test y.entry.call number (λ _. Around shape cpu number flushed gained before (y ∷ later) x)
    (λ same.
    let both : Fills shape cpu flushed gained (place before y).at × AreNested shape cpu (stage_after y.entry.part) (rest_of number (before ++ y ∷ []) later) =
    subst (AreNested shape cpu (filled flushed gained)) (rest_its number before y later same) nested in
    let fills : Fills shape cpu flushed gained (place before y).at = both.0 in
    let lock_is : y.lock ≡ Local cpu = ap (λ (t : Turn). t.lock) fills.turn_is in
    let part_is : y.entry.part ≡ parts.Local (local.Refill fills.key (map flush_visit flushed) gained fills.got) = ap (λ (t : Turn). t.part) fills.turn_is in
    let below : ltb (rank_of y.lock) (rank_of x.lock) ≡ true = ap (λ (l : DomainId). ltb (rank_of l) (rank_of x.lock)) lock_is ∙ ap (λ (n : ℕ). ltb 1 n) rank in
    record {
      between = [];
      outer = y;
      more = later;
      later_is = refl;
      its = same;
      fills = subst (λ (l : List Drawn). Fills shape cpu flushed gained (place l y).at) (sym (append-nil before)) fills;
      around_is = outer_alone x y later (encloses_its y x inner below (are y (inl refl) same ∙ sym cpu_is) (same ∙ sym call_is)) (ap is_inner part_is);
    })
    (λ other.
    let rest = filled_around shape cpu number flushed gained (before ++ y ∷ []) later x rank inner cpu_is call_is (λ z at. are z (inr at)) (subst (AreNested shape cpu (filled flushed gained)) (rest_other number before y later other) nested) in
    record {
      between = y ∷ rest.between;
      outer = rest.outer;
      more = rest.more;
      later_is = ap (λ (l : List Drawn). y ∷ l) rest.later_is;
      its = rest.its;
      fills = subst (λ (l : List Drawn). Fills shape cpu flushed gained (place l rest.outer).at) (append_assoc before (y ∷ []) rest.between) rest.fills;
      around_is = passed_by x y later (other_call y x (λ same. other (same ∙ call_is))) ∙ rest.around_is;
    })

-- No turn is made inside an addition.
abbrev pub NoAddition : Part → Type 0
NoAddition (parts.Bucket part) = Unit {0}
NoAddition (parts.Free part) = Unit {0}
NoAddition (parts.Local (local.Pop key e)) = Unit {0}
NoAddition (parts.Local (local.Refill key flushed gained got)) = Unit {0}
NoAddition (parts.Local (local.Steal got first second)) = Unit {0}
NoAddition (parts.Local (local.Add key e cursor)) = ⊥
NoAddition (parts.Local (local.Push e done)) = Unit {0}
NoAddition (parts.Global part) = Unit {0}
NoAddition (parts.Own part) = Unit {0}

abbrev pub NoneAdds : List Drawn → Type 0
NoneAdds turns = (z : Drawn) → Stands z turns → NoAddition z.entry.part

none_adds : (turns others : List Drawn) → turns ≡ others → NoneAdds others → NoneAdds turns
none_adds turns others same none = subst NoneAdds (sym same) none

one_adds : (y : Drawn) (part : Part) → y.entry.part ≡ part → NoAddition part → NoneAdds (y ∷ [])
one_adds y part is none z (inl same) = subst NoAddition (sym is ∙ ap (λ (d : Drawn). d.entry.part) same) none
one_adds y part is none z (inr at) = absurd at

two_add : (r y : Drawn) → NoneAdds (r ∷ []) → NoneAdds (y ∷ []) → NoneAdds (r ∷ y ∷ [])
two_add r y first second z (inl same) = first z (inl same)
two_add r y first second z (inr at) = second z at

refill_adds : (shape : Shape) (cpu number : ℕ) (flushed : List Flush) (gained : List ℕ) (before later : List Drawn) (x : Drawn) (around : Around shape cpu number flushed gained before later x) → NoneAdds (around.outer ∷ [])
refill_adds shape cpu number flushed gained before later x around = one_adds around.outer _ (ap (λ (t : Turn). t.part) around.fills.turn_is) tt

-- what encloses a probe
probing_around : (shape : Shape) (cpu number : ℕ) (before later : List Drawn) (x : Drawn) → rank_of x.lock ≡ 3 → is_inner x.entry.part ≡ true → x.entry.cpu ≡ cpu → x.entry.call ≡ number → AreOf cpu number later
    → AreNested shape cpu probing (rest_of number before later) → NoneAdds (enclosing x later)
probing_around shape cpu number before [] x rank inner cpu_is call_is are nested = absurd nested
probing_around shape cpu number before (y ∷ later) x rank inner cpu_is call_is are nested =
    by_test y.entry.call number (λ _. NoneAdds (enclosing x (y ∷ later)))
    (λ same.
    let both : Probed y.lock y.entry.part × AreNested shape cpu (stage_after y.entry.part) (rest_of number (before ++ y ∷ []) later) =
    subst (AreNested shape cpu probing) (rest_its number before y later same) nested in
    its same y.entry.part refl both.0 both.1 (λ behind. probing_around shape cpu number (before ++ y ∷ []) later x rank inner cpu_is call_is (λ z at. are z (inr at)) behind))
    (λ other.
    none_adds (enclosing x (y ∷ later)) (enclosing x later) (passed_by x y later (other_call y x (λ same. other (same ∙ call_is))))
    (probing_around shape cpu number (before ++ y ∷ []) later x rank inner cpu_is call_is (λ z at. are z (inr at)) (subst (AreNested shape cpu probing) (rest_other number before y later other) nested)))
  where
    around : y.entry.call ≡ number → (rank : ℕ) → ltb rank 3 ≡ true → rank_of y.lock ≡ rank → encloses y x ≡ true
    around same n below y_rank =
        encloses_its y x inner (ap (λ (m : ℕ). ltb m (rank_of x.lock)) y_rank ∙ ap (λ (m : ℕ). ltb n m) rank ∙ below) (are y (inl refl) same ∙ sym cpu_is) (same ∙ sym call_is)

    its : y.entry.call ≡ number → (part : Part) → y.entry.part ≡ part → Probed y.lock part → AreNested shape cpu (stage_after part) (rest_of number (before ++ y ∷ []) later) → (AreNested shape cpu probing (rest_of number (before ++ y ∷ []) later) → NoneAdds (enclosing x later))
        → NoneAdds (enclosing x (y ∷ later))
    its same (parts.Bucket (Lookup side key got)) is may behind on = absurd may
    its same (parts.Bucket (Update side flags key value offer put)) is may behind on = absurd may
    its same (parts.Bucket (Delete key removed)) is may behind on = absurd may
    its same (parts.Bucket (Take key removed)) is may behind on = absurd may
    its same (parts.Bucket (Next key next)) is may behind on = absurd may
    its same (parts.Bucket (First key)) is may behind on = absurd may
    its same (parts.Bucket (Walk remove room result)) is may behind on = absurd may
    its same (parts.Bucket (Evict e probed)) is may behind on =
        none_adds (enclosing x (y ∷ later)) (enclosing x later) (passed_by x y later (not_below y x (ap (λ (m : ℕ). ltb m (rank_of x.lock)) may ∙ ap (λ (m : ℕ). ltb 3 m) rank))) (on behind)
    its same (parts.Free part) is may behind on = absurd may
    its same (parts.Local (local.Pop key e)) is may behind on = absurd may
    its same (parts.Local (local.Refill key flushed gained got)) is may behind on = absurd may
    its same (parts.Local (local.Steal got first second)) is may behind on =
        none_adds (enclosing x (y ∷ later)) (y ∷ []) (outer_alone x y later (around same 1 refl may) (ap is_inner is)) (one_adds y _ is tt)
    its same (parts.Local (local.Add key e cursor)) is may behind on = absurd may
    its same (parts.Local (local.Push e done)) is may behind on = absurd may
    its same (parts.Global (global.Turn flushed active inactive free shrink)) is may behind on =
        let refill = filled_around shape cpu number _ _ (before ++ y ∷ []) later y may (ap is_inner is) (are y (inl refl) same) same (λ z at. are z (inr at)) behind in
        none_adds (enclosing x (y ∷ later)) (refill.outer ∷ y ∷ []) (outer_inner x y later (around same 2 refl may) ∙ ap (λ (l : List Drawn). l ++ y ∷ []) refill.around_is)
        (two_add refill.outer y (refill_adds shape cpu number _ _ (before ++ y ∷ []) later y refill) (one_adds y _ is tt))
    its same (parts.Global (global.Push e)) is may behind on = absurd may
    its same (parts.Own part) is may behind on = absurd may

none_around : (x : Drawn) (later : List Drawn) (part : Part) → x.entry.part ≡ part → is_inner part ≡ false → NoneAdds (enclosing x later)
none_around x later part is outer = none_adds (enclosing x later) [] (outermost x later (ap is_inner is ∙ outer)) (λ z at. absurd at)

-- What encloses a turn adds nothing. Buckets have the third rank, the global lists the second.
abbrev pub HasRank : DomainId → Part → Type 0
HasRank lock (parts.Bucket part) = rank_of lock ≡ 3
HasRank lock (parts.Free part) = ⊥
HasRank lock (parts.Local part) = Unit {0}
HasRank lock (parts.Global part) = rank_of lock ≡ 2
HasRank lock (parts.Own part) = Unit {0}

pub around_adds : (shape : Shape) (cpu number : ℕ) (before later : List Drawn) (x : Drawn) → HasRank x.lock x.entry.part → x.entry.cpu ≡ cpu → x.entry.call ≡ number → AreOf cpu number later
    → AreNested shape cpu (stage_after x.entry.part) (rest_of number before later) → NoneAdds (enclosing x later)
around_adds shape cpu number before later x ranked cpu_is call_is are nested = by x.entry.part refl ranked nested
  where
    by : (part : Part) → x.entry.part ≡ part → HasRank x.lock part → AreNested shape cpu (stage_after part) (rest_of number before later) → NoneAdds (enclosing x later)
    by (parts.Bucket (Lookup side key got)) is rank behind = none_around x later _ is refl
    by (parts.Bucket (Update side flags key value offer put)) is rank behind = none_around x later _ is refl
    by (parts.Bucket (Delete key removed)) is rank behind = none_around x later _ is refl
    by (parts.Bucket (Take key removed)) is rank behind = none_around x later _ is refl
    by (parts.Bucket (Next key next)) is rank behind = none_around x later _ is refl
    by (parts.Bucket (First key)) is rank behind = none_around x later _ is refl
    by (parts.Bucket (Walk remove room result)) is rank behind = none_around x later _ is refl
    by (parts.Bucket (Evict e probed)) is rank behind = probing_around shape cpu number before later x rank (ap is_inner is) cpu_is call_is are behind
    by (parts.Free part) is rank behind = absurd rank
    by (parts.Local part) is rank behind = none_around x later _ is refl
    by (parts.Global (global.Turn flushed active inactive free shrink)) is rank behind =
        let refill = filled_around shape cpu number _ _ before later x rank (ap is_inner is) cpu_is call_is are behind in
        none_adds (enclosing x later) (refill.outer ∷ []) refill.around_is (refill_adds shape cpu number _ _ before later x refill)
    by (parts.Global (global.Push e)) is rank behind = none_around x later _ is refl
    by (parts.Own part) is rank behind = none_around x later _ is refl
