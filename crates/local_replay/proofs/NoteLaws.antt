-- The hashes that are noted of a theft, and of what was pending.
use Rattle.std.proofs.Common.{Less, Greater, ◌≡◌, ◌≢◌, ℕ, eqb, Bool, true, false, cond, List, [], ◌∷◌, ◌++◌, ◌+◌, ◌<◌, ◌≤◌, arith, length, take, get_or, map, reverse, Option, Some, None, refl, ap, sym, ◌∙◌, subst, ⊎_elim}
use Rattle.std.specs.Prelude.{filter, is_some}
use Rattle.std.specs.BTreeMap as tree
use Rattle.std.specs.BTreeMap.{BTreeMap}
use Rattle.std.specs.Cmp.{nat_cmp_is}
use Rattle.std.specs.List.{flat_map}
use Rattle.std.specs.Ordering.{is_eq, nat_cmp}
use Rattle.std.proofs.lemmas.Bool.{cases_eq, cases_lt, eq-eqb, ne_eqb}
use Rattle.std.proofs.lemmas.List.{append-nil, append_assoc, map-append, take_all, take_more, reverse-append}
use Rattle.map_types.specs.declared.row.Row.{Row}
use Rattle.place_words.specs.declared.bucket_part.Seen.{Seen}
use Rattle.place_words.specs.declared.visits.Look.{Look}
use Rattle.place_words.specs.declared.visits.Try.{Try}
use Rattle.place_words.specs.Takings.{look_probes, stored_hash, walk_probes}

-- A row more before the head: it is the nearest of its element.
hash_nearer : (e : ℕ) (rows : List Row) (row : Row) (old new : Option ℕ) → old ≡ stored_hash e (reverse rows)
    → (row.element ≡ e → new ≡ Some row.hash) → (row.element ≢ e → new ≡ old) → new ≡ stored_hash e (reverse (rows ++ row ∷ []))
hash_nearer e rows row old new was here apart =
    subst (λ (rs : List Row). new ≡ stored_hash e rs) (sym (reverse-append rows (row ∷ [])))
    (⊎_elim
    (λ (is : row.element ≡ e). here is ∙ sym (found true (eq-eqb row.element e is)))
    (λ (other : row.element ≢ e). apart other ∙ was ∙ sym (found false (ne_eqb row.element e other)))
    (cases_eq row.element e))
  where
    found : (b : Bool) → eqb row.element e ≡ b → stored_hash e (row ∷ reverse rows) ≡ cond b (Some row.hash) (stored_hash e (reverse rows))
    found true is = rw is refl
    found false is = rw is refl

one_looked : (look : Look) (ls : List Look) (probed : Option Seen) → look.probed ≡ probed
    → map (λ (l : Look). l.element) (filter (λ (l : Look). is_some l.probed) ls) ≡ map (λ (probe : Try). probe.element) (flat_map look_probes ls)
    → map (λ (l : Look). l.element) (filter (λ (l : Look). is_some l.probed) (look ∷ ls)) ≡ map (λ (probe : Try). probe.element) (flat_map look_probes (look ∷ ls))
one_looked look ls None is rest = rw is rest
one_looked look ls (Some seen) is rest = rw is (ap (λ (es : List ℕ). look.element ∷ es) rest)

looked_through : (ls : List Look) → map (λ (l : Look). l.element) (filter (λ (l : Look). is_some l.probed) ls) ≡ map (λ (probe : Try). probe.element) (flat_map look_probes ls)
looked_through [] = refl
looked_through (look ∷ ls) = one_looked look ls look.probed refl (looked_through ls)

apart_at : (k q : ℕ) → k ≢ q → is_eq (nat_cmp k q) ≡ false
apart_at k q apart = ⊎_elim
    (λ (less : k < q). ap is_eq (sym (nat_cmp_is k q Less less)))
    (λ (least : q ≤ k). ap is_eq (sym (nat_cmp_is k q Greater (omega (arith, least, apart)))))
    (cases_lt k q)

-- The hash of a row more is put in.
pub hashes_more : (rows : List Row) (i : ℕ) (d : Row) (old new : BTreeMap ℕ ℕ) → i < length rows
    → ((e : ℕ) → tree.get nat_cmp old e ≡ stored_hash e (reverse (take i rows)))
    → tree.Updates nat_cmp old new (get_or rows i d).element (Some (get_or rows i d).hash)
    → (e : ℕ) → tree.get nat_cmp new e ≡ stored_hash e (reverse (take (i + 1) rows))
hashes_more rows i d old new within were updates e =
    let row : Row = get_or rows i d in
    subst (λ (rs : List Row). tree.get nat_cmp new e ≡ stored_hash e (reverse rs)) (sym (take_more rows i d within))
    (hash_nearer e (take i rows) row (tree.get nat_cmp old e) (tree.get nat_cmp new e) (were e)
    (λ is. subst (λ (k : ℕ). tree.get nat_cmp new k ≡ Some row.hash) is updates.1)
    (λ apart. updates.2 e (apart_at row.element e apart)))

-- the elements that looks probed
pub looked : (looks : List Look) → map (λ (look : Look). look.element) (filter (λ (look : Look). is_some look.probed) looks) ≡ map (λ (probe : Try). probe.element) (walk_probes looks [])
looked looks = looked_through looks ∙ ap (map (λ (probe : Try). probe.element)) (sym (append-nil (flat_map look_probes looks)))

-- and tries after them
tried_too : (looks : List Look) (tries : List Try)
    → map (λ (probe : Try). probe.element) (walk_probes looks []) ++ map (λ (probe : Try). probe.element) tries ≡ map (λ (probe : Try). probe.element) (walk_probes looks tries)
tried_too looks tries =
    ap (λ (probes : List Try). map (λ (probe : Try). probe.element) probes ++ map (λ (probe : Try). probe.element) tries) (append-nil (flat_map look_probes looks))
    ∙ sym (map-append (λ (probe : Try). probe.element) (flat_map look_probes looks) tries)

-- One element more is looked up.
pub found_more : (get : ℕ → Option ℕ) (elements : List ℕ) (i : ℕ) (found more : List (Option ℕ)) (one : Option ℕ) → i < length elements
    → found ≡ map get (take i elements) → one ≡ get (get_or elements i 0) → more ≡ found ++ one ∷ [] → more ≡ map get (take (i + 1) elements)
found_more get elements i found more one within were is pushed =
    pushed ∙ ap (λ (f : List (Option ℕ)). f ++ one ∷ []) were ∙ ap (λ (o : Option ℕ). map get (take i elements) ++ o ∷ []) is
    ∙ sym (map-append get (take i elements) (get_or elements i 0 ∷ [])) ∙ ap (map get) (sym (take_more elements i 0 within))

pub tries_more : (before : List ℕ) (tries : List Try) (i : ℕ) (d : Try) (elements more : List ℕ) → i < length tries
    → elements ≡ before ++ map (λ (probe : Try). probe.element) (take i tries) → more ≡ elements ++ (get_or tries i d).element ∷ []
    → more ≡ before ++ map (λ (probe : Try). probe.element) (take (i + 1) tries)
tries_more before tries i d elements more within were pushed =
    pushed ∙ ap (λ (es : List ℕ). es ++ (get_or tries i d).element ∷ []) were
    ∙ append_assoc before (map (λ (probe : Try). probe.element) (take i tries)) ((get_or tries i d).element ∷ [])
    ∙ ap (λ (es : List ℕ). before ++ es) (sym (map-append (λ (probe : Try). probe.element) (take i tries) (get_or tries i d ∷ [])) ∙ ap (map (λ (probe : Try). probe.element)) (sym (take_more tries i d within)))

pub tries_whole : (looks : List Look) (tries : List Try) (i : ℕ) (elements : List ℕ) → length tries ≤ i
    → elements ≡ map (λ (probe : Try). probe.element) (walk_probes looks []) ++ map (λ (probe : Try). probe.element) (take i tries)
    → elements ≡ map (λ (probe : Try). probe.element) (walk_probes looks tries)
tries_whole looks tries i elements past were =
    were ∙ ap (λ (ts : List Try). map (λ (probe : Try). probe.element) (walk_probes looks []) ++ map (λ (probe : Try). probe.element) ts) (take_all i tries past) ∙ tried_too looks tries

-- what is found by element is the stored hash of each probe
hashes_found : (rows : List Row) (get : ℕ → Option ℕ) (probes : List Try) → ((e : ℕ) → get e ≡ stored_hash e (reverse rows))
    → map get (map (λ (probe : Try). probe.element) probes) ≡ map (λ (probe : Try). stored_hash probe.element (reverse rows)) probes
hashes_found rows get [] is = refl
hashes_found rows get (probe ∷ probes) is = rw (is probe.element, hashes_found rows get probes is) refl

pub found_all : (rows : List Row) (get : ℕ → Option ℕ) (probes : List Try) (elements : List ℕ) (found : List (Option ℕ)) → ((e : ℕ) → get e ≡ stored_hash e (reverse rows))
    → elements ≡ map (λ (probe : Try). probe.element) probes → found ≡ map get elements → found ≡ map (λ (probe : Try). stored_hash probe.element (reverse rows)) probes
found_all rows get probes elements found is are found_is = found_is ∙ ap (map get) are ∙ hashes_found rows get probes is
