-- Each call answers alike, and leaves the map and what strict recency holds alike, where an element is free.
use Rattle.std.proofs.Common.{◌≡◌, ℕ, suc, ◌+◌, ◌≤◌, ◌<◌, Bool, true, false, nat_lt, ◌==◌, cond, eqb, List, [], ◌∷◌, length, Option, Some, None, is_some, refl, ap, sym, ◌∙◌, subst, arith}
use Rattle.std.specs.Prelude.{bytes_eq, option_to_list}
use Rattle.std.specs.List.{list_any}
use Rattle.std.proofs.lemmas.Bool.{eqb-true}
use Rattle.std.proofs.lemmas.Slice.Eq.{bytes_eq-Decides}
use Rattle.map_types.specs.declared.attr.Shape.{Shape}
use Rattle.map_types.specs.declared.kind.DomainId.TheVariants.{CpuLru}
use Rattle.map_types.specs.declared.kind.MapKind.TheVariants.{LruHash}
use Rattle.map_types.specs.declared.kind.Side.{Side}
use Rattle.map_types.specs.declared.kind.Side.TheVariants.{Prog, Sys}
use Rattle.map_types.specs.declared.refusal.Errno.{Errno}
use Rattle.map_types.specs.declared.refusal.Errno.TheVariants.{Enoent, Eexist, Einval}
use Rattle.map_types.specs.declared.reply.Reply.TheVariants.{Value}
use Rattle.map_types.specs.Kind.{is_percpu}
use Rattle.map_types.specs.Sides.{value_read, new_values, percpu_read, percpu_new}
use Rattle.map_types.specs.Parts.{part_at, new_own}
use Rattle.map_types.specs.Stored.{Stored}
use Rattle.place_words.specs.declared.bucket_part.BucketPart.{BucketPart}
use Rattle.place_words.specs.declared.bucket_part.BucketPart.TheVariants.{Lookup, Update, Delete, Take}
use Rattle.place_words.specs.declared.bucket_part.Put.{Put}
use Rattle.place_words.specs.declared.bucket_part.Put.TheVariants as puts
use Rattle.place_words.specs.declared.history.Part.TheVariants as parts
use Rattle.place_words.specs.declared.list_part.OwnPart.TheVariants as own
use Rattle.place_words.specs.Bodies.{without_key}
use Rattle.place_words.specs.Buckets.{bucket_after, bucket_after_put, new_stored}
use Rattle.place_words.specs.Evicting.{left_over}
use Rattle.place_words.specs.Logs.{State, bucket_at, own_at, turned, all_turned, freeing, all_freed, got_by, put_offered}
use Rattle.place_words.specs.PlainTraces.{reply_of_put, reply_of_got}
use Rattle.place_words.specs.Takings.{set_of}
use Rattle.place_words.specs.Turns.{Turn, bucket_of_key, on_lock, on_bucket_of}
use Rattle.key_lists.proofs.EntryLemmas.{Turned, taken_first, taken_none, put_in}
use Rattle.lru_compare.specs.Strict.{Held, without, with_pairs, looked_up, unless_refused, refusal, within_capacity}
use Rattle.lru_compare.proofs.FewKeys.{Agree, Meet, changed, stored_hits, pair_hits, pair_key, pair_values, pair_out, pair_first}
use Rattle.lru_compare.proofs.OwnSets.{bucket_turned, own_turned, own_beside, bucket_beside, bucket_other, free_pushed}
use Rattle.lru_compare.proofs.Recency.{fitting}

pub picked_first : {A : Type 0} (b : Bool) (x y : A) → b ≡ true → cond b x y ≡ x
picked_first b x y is = ap (λ c. cond c x y) is

pub picked_second : {A : Type 0} (b : Bool) (x y : A) → b ≡ false → cond b x y ≡ y
picked_second b x y is = ap (λ c. cond c x y) is

module _ (shape : Shape) (cpu number : ℕ) where
  -- an element is freed where it lives
  pub freeing_is : (state : State) (e : ℕ) → shape.common ≡ false → set_of shape e ≡ cpu → freeing shape state e ≡ on_lock (CpuLru cpu) (parts.Own (own.Push e))
  unfolding freeing
  freeing_is state e apart lives = picked_second shape.common _ _ apart ∙ ap (λ c. on_lock (CpuLru c) (parts.Own (own.Push e))) lives

  abbrev pub key_turn : List ℕ → BucketPart → Turn
  key_turn key part = on_bucket_of shape key part

  -- a bucket's turn, and then one that frees an element
  abbrev pub after_key : List ℕ → BucketPart → State → State
  after_key key part state = turned shape cpu number (key_turn key part) state

  abbrev pub after_push : ℕ → State → State
  after_push e state = turned shape cpu number (on_lock (CpuLru cpu) (parts.Own (own.Push e))) state

  pub push_adds : (e : ℕ) (state : State) → (own_at shape (after_push e state) cpu).free ≡ e ∷ (own_at shape state cpu).free
  push_adds e state = ap (λ set. set.free) (own_turned shape cpu number cpu (own.Push e) state) ∙ free_pushed e (own_at shape state cpu)

  pub key_stays : (key : List ℕ) (part : BucketPart) (state : State) → bucket_after shape cpu part (bucket_at shape state (bucket_of_key shape key)) ≡ bucket_at shape state (bucket_of_key shape key)
      → (b : ℕ) → bucket_at shape (after_key key part state) b ≡ bucket_at shape state b
  key_stays key part state same b = by (eqb (bucket_of_key shape key) b) refl where
    by : (c : Bool) → eqb (bucket_of_key shape key) b ≡ c → bucket_at shape (after_key key part state) b ≡ bucket_at shape state b
    by true one = subst (λ n. bucket_at shape (after_key key part state) n ≡ bucket_at shape state n) (eqb-true (bucket_of_key shape key) b one) (bucket_turned shape cpu number (bucket_of_key shape key) part state ∙ same)
    by false other = bucket_other shape cpu number (bucket_of_key shape key) b part state other

  pub free_beside : (key : List ℕ) (part : BucketPart) (state : State) → (own_at shape (after_key key part state) cpu).free ≡ (own_at shape state cpu).free
  free_beside key part state = ap (λ set. set.free) (own_beside shape cpu number (bucket_of_key shape key) cpu part state)

-- turns that leave a bucket
lookup_keeps : (shape : Shape) (cpu : ℕ) (side : Side) (key : List ℕ) (got : Option (ℕ × List ℕ)) (bodies : List Stored) → bucket_after shape cpu (Lookup side key got) bodies ≡ bodies
unfolding bucket_after
lookup_keeps shape cpu side key got bodies = refl

pub delete_keeps : (shape : Shape) (cpu : ℕ) (key : List ℕ) (bodies : List Stored) → bucket_after shape cpu (Delete key None) bodies ≡ bodies
unfolding bucket_after
delete_keeps shape cpu key bodies = refl

pub take_keeps : (shape : Shape) (cpu : ℕ) (key : List ℕ) (bodies : List Stored) → bucket_after shape cpu (Take key None) bodies ≡ bodies
unfolding bucket_after
take_keeps shape cpu key bodies = refl

-- and those that take a key out or put one in
pub delete_out : (shape : Shape) (cpu : ℕ) (key : List ℕ) (e : ℕ) (bodies : List Stored) → bucket_after shape cpu (Delete key (Some e)) bodies ≡ without_key key bodies
unfolding bucket_after
delete_out shape cpu key e bodies = refl

pub take_out : (shape : Shape) (cpu : ℕ) (key : List ℕ) (got : ℕ × List ℕ) (bodies : List Stored) → bucket_after shape cpu (Take key (Some got)) bodies ≡ without_key key bodies
unfolding bucket_after
take_out shape cpu key got bodies = refl

update_after : (shape : Shape) (cpu : ℕ) (side : Side) (flags : ℕ) (key value : List ℕ) (offer : Option ℕ) (put : Put) (bodies : List Stored)
    → bucket_after shape cpu (Update side flags key value offer put) bodies ≡ bucket_after_put shape side cpu key value put bodies
unfolding bucket_after
update_after shape cpu side flags key value offer put bodies = refl

module _ {shape : Shape} {cpu : ℕ} {named : List (List ℕ)} {state : State} {held : Held} (agree : Agree shape cpu named state held) where
  -- nothing changes but which elements are free
  pub stays : (now : State) → ((b : ℕ) → bucket_at shape now b ≡ bucket_at shape state b) → length (own_at shape now cpu).free ≡ length (own_at shape state cpu).free → Agree shape cpu named now held
  stays now same free = record {
    same = λ key. ap (stored_hits key) (same (bucket_of_key shape key)) ∙ agree.same key;
    once = agree.once;
    among = agree.among;
    free = ap (λ n. n + length held.pairs) free ∙ agree.free;
    capacity = agree.capacity;
  }

  stored_once : (key : List ℕ) → length (stored_hits key (bucket_at shape state (bucket_of_key shape key))) ≤ 1
  stored_once key = omega (arith, ap length (agree.same key), agree.once key)

  module _ (number : ℕ) (kind : shape.kind ≡ LruHash) (apart : shape.common ≡ false) where
    pub reads_value : (side : Side) (c : ℕ) (values : List (List ℕ)) (value : List ℕ) → values ≡ value ∷ [] → value_read shape side c values ≡ value
    reads_value side c values value is = picked_second (is_percpu shape.kind) (percpu_read side c values) (part_at 0 values) (ap is_percpu kind) ∙ ap (part_at 0) is

    -- one that is freed where it lives
    pub frees : (e : ℕ) (before : State) (then : Held) → set_of shape e ≡ cpu → Agree shape cpu named (after_push shape cpu number e before) then
        → Agree shape cpu named (turned shape cpu number (freeing shape before e) before) then
    frees e before then lives is = subst (λ turn. Agree shape cpu named (turned shape cpu number turn before) then) (sym (freeing_is shape cpu number before e apart lives)) is

    module _ (key : List ℕ) (is_named : list_any (bytes_eq key) named ≡ true) where
      pub looks : (side : Side) (found : Option Stored) (value : Option (List ℕ)) → Meet (pair_hits key held.pairs) found value
          → (reply_of_got (got_by shape side cpu found) ≡ (looked_up side key value held).1)
          × Agree shape cpu named (after_key shape cpu number key (Lookup side key (got_by shape side cpu found)) state) (looked_up side key value held).0
      looks side None None meet = (
        refl,
        stays (after_key shape cpu number key (Lookup side key None) state) (key_stays shape cpu number key (Lookup side key None) state (lookup_keeps shape cpu side key None _))
            (ap length (free_beside shape cpu number key (Lookup side key None) state)),
      )
      looks side None (Some value) meet = absurd meet
      looks side (Some found) None meet = absurd meet
      looks Sys (Some found) (Some value) meet =
          let got : Option (ℕ × List ℕ) = Some (found.element, value_read shape Sys cpu found.values) in (
            ap Value (reads_value Sys cpu found.values value meet.0),
            stays (after_key shape cpu number key (Lookup Sys key got) state) (key_stays shape cpu number key (Lookup Sys key got) state (lookup_keeps shape cpu Sys key got _))
                (ap length (free_beside shape cpu number key (Lookup Sys key got) state)),
          )
      looks Prog (Some found) (Some value) meet =
          let got : Option (ℕ × List ℕ) = Some (found.element, value_read shape Prog cpu found.values) in
          let has : stored_hits key (bucket_at shape state (bucket_of_key shape key)) ≡ (value ∷ []) ∷ [] = agree.same key ∙ meet.1 in
          let pair : Turned pair_key pair_values key ((value ∷ []) ∷ []) held.pairs ((key, value) ∷ without key held) = pair_first key value held (agree.once key) in
          let same : (b : ℕ) → bucket_at shape (after_key shape cpu number key (Lookup Prog key got) state) b ≡ bucket_at shape state b = key_stays shape cpu number key (Lookup Prog key got) state (lookup_keeps shape cpu Prog key got _) in
          let free : length (own_at shape (after_key shape cpu number key (Lookup Prog key got) state) cpu).free ≡ length (own_at shape state cpu).free = ap length (free_beside shape cpu number key (Lookup Prog key got) state) in (
            ap Value (reads_value Prog cpu found.values value meet.0),
            changed agree key ((value ∷ []) ∷ []) (bucket_at shape state (bucket_of_key shape key)) (after_key shape cpu number key (Lookup Prog key got) state) (with_pairs held ((key, value) ∷ without key held)) is_named (omega arith)
                (record { here = has; elsewhere = λ other differ. refl; count = ap (λ h. length (bucket_at shape state (bucket_of_key shape key)) + length h) has })
                pair (same (bucket_of_key shape key)) (λ other differ. same other) (omega (arith, free, pair.count, ap length meet.1, agree.free)) refl,
          )

      -- the key goes, and its element is freed
      pub removes : (part : BucketPart) (found : Stored) (value : List ℕ) → set_of shape found.element ≡ cpu
          → bucket_after shape cpu part (bucket_at shape state (bucket_of_key shape key)) ≡ without_key key (bucket_at shape state (bucket_of_key shape key))
          → pair_hits key held.pairs ≡ (value ∷ []) ∷ []
          → Agree shape cpu named (after_push shape cpu number found.element (after_key shape cpu number key part state)) (with_pairs held (without key held))
      removes part found value lives after has =
          let bucket : ℕ = bucket_of_key shape key in
          let between : State = after_key shape cpu number key part state in
          let now : State = after_push shape cpu number found.element between in
          let pair : Turned pair_key pair_values key [] held.pairs (without key held) = pair_out key held (agree.once key) in
          let free : length (own_at shape now cpu).free ≡ suc (length (own_at shape state cpu).free) = ap length (push_adds shape cpu number found.element between) ∙ ap (λ l. suc (length l)) (free_beside shape cpu number key part state) in
          changed agree key [] (without_key key (bucket_at shape state bucket)) now (with_pairs held (without key held)) is_named (omega arith)
          (taken_first (λ (stored : Stored). stored.key) (λ (stored : Stored). stored.values) key (bucket_at shape state bucket) (stored_once key)) pair
          (bucket_beside shape cpu number bucket cpu (own.Push found.element) between ∙ bucket_turned shape cpu number bucket part state ∙ after)
          (λ other differ. bucket_beside shape cpu number other cpu (own.Push found.element) between ∙ bucket_other shape cpu number bucket other part state differ)
          (omega (arith, free, pair.count, ap length has, agree.free)) refl

      -- An update to which the element e was offered, the head of free, in a state where it is taken.
      module _ (side : Side) (flags : ℕ) (value : List ℕ) (e : ℕ) (rest : List ℕ) (is : (own_at shape state cpu).free ≡ e ∷ rest) (lives : set_of shape e ≡ cpu) (fewer : length held.pairs < held.capacity)
          (taken : State) (buckets : (b : ℕ) → bucket_at shape taken b ≡ bucket_at shape state b) (left : (own_at shape taken cpu).free ≡ rest) where
        abbrev part_of : Put → BucketPart
        part_of put = Update side flags key value (Some e) put

        abbrev with_pair : Held
        with_pair = with_pairs held ((key, value) ∷ without key held)

        new_is : new_values shape side cpu value ≡ value ∷ []
        new_is = picked_second (is_percpu shape.kind) (percpu_new shape side cpu value) (new_own 1 0 value) (ap is_percpu kind)

        -- the element isn't needed, and goes back
        gives_back : (put : Put) → ((bodies : List Stored) → bucket_after_put shape side cpu key value put bodies ≡ bodies) → Agree shape cpu named (after_push shape cpu number e (after_key shape cpu number key (part_of put) taken)) held
        gives_back put keeps =
            let between : State = after_key shape cpu number key (part_of put) taken in
            stays (after_push shape cpu number e between)
            (λ b. bucket_beside shape cpu number b cpu (own.Push e) between
            ∙ key_stays shape cpu number key (part_of put) taken (update_after shape cpu side flags key value (Some e) put _ ∙ keeps _) b ∙ buckets b)
            (ap length (push_adds shape cpu number e between ∙ ap (λ l. e ∷ l) (free_beside shape cpu number key (part_of put) taken ∙ left) ∙ sym is))

        -- the key is new
        adds : pair_hits key held.pairs ≡ [] → Agree shape cpu named (after_key shape cpu number key (part_of (puts.Added e)) taken) with_pair
        adds none =
            let bucket : ℕ = bucket_of_key shape key in
            let bodies : List Stored = bucket_at shape state bucket in
            let now : State = after_key shape cpu number key (part_of (puts.Added e)) taken in
            let pair : Turned pair_key pair_values key ((value ∷ []) ∷ []) held.pairs ((key, value) ∷ without key held) = pair_first key value held (agree.once key) in
            let stored = put_in (λ (stored : Stored). stored.key) (λ (stored : Stored). stored.values) key bodies [] bodies (new_stored shape side cpu e key value) ((bytes_eq-Decides key key).1 refl)
            (taken_none (λ (stored : Stored). stored.key) (λ (stored : Stored). stored.values) key bodies (agree.same key ∙ none)) in
            let free : length (own_at shape now cpu).free ≡ length rest = ap length (free_beside shape cpu number key (part_of (puts.Added e)) taken ∙ left) in
            changed agree key ((value ∷ []) ∷ []) (new_stored shape side cpu e key value ∷ bodies) now with_pair is_named (omega arith)
            (subst (λ values. Turned (λ (stored : Stored). stored.key) (λ (stored : Stored). stored.values) key (values ∷ []) bodies (new_stored shape side cpu e key value ∷ bodies)) new_is stored) pair
            (bucket_turned shape cpu number bucket (part_of (puts.Added e)) taken ∙ update_after shape cpu side flags key value (Some e) (puts.Added e) _ ∙ ap (λ l. new_stored shape side cpu e key value ∷ l) (buckets bucket))
            (λ other differ. bucket_other shape cpu number bucket other (part_of (puts.Added e)) taken differ ∙ buckets other)
            (omega (arith, free, pair.count, ap length none, ap length is, agree.free)) refl

        -- the key is there
        replaces : (found : Stored) (old : List ℕ) → pair_hits key held.pairs ≡ (old ∷ []) ∷ []
            → Agree shape cpu named (after_push shape cpu number found.element (after_key shape cpu number key (part_of (puts.Replaced e found.element)) taken)) with_pair
        replaces found old has =
            let bucket : ℕ = bucket_of_key shape key in
            let bodies : List Stored = bucket_at shape state bucket in
            let part : BucketPart = part_of (puts.Replaced e found.element) in
            let between : State = after_key shape cpu number key part taken in
            let now : State = after_push shape cpu number found.element between in
            let pair : Turned pair_key pair_values key ((value ∷ []) ∷ []) held.pairs ((key, value) ∷ without key held) = pair_first key value held (agree.once key) in
            let stored = put_in (λ (stored : Stored). stored.key) (λ (stored : Stored). stored.values) key bodies [] (without_key key bodies) (new_stored shape side cpu e key value) ((bytes_eq-Decides key key).1 refl)
            (taken_first (λ (stored : Stored). stored.key) (λ (stored : Stored). stored.values) key bodies (stored_once key)) in
            let free : length (own_at shape now cpu).free ≡ suc (length rest) = ap length (push_adds shape cpu number found.element between) ∙ ap (λ l. suc (length l)) (free_beside shape cpu number key part taken ∙ left) in
            changed agree key ((value ∷ []) ∷ []) (new_stored shape side cpu e key value ∷ without_key key bodies) now with_pair is_named (omega arith)
            (subst (λ values. Turned (λ (stored : Stored). stored.key) (λ (stored : Stored). stored.values) key (values ∷ []) bodies (new_stored shape side cpu e key value ∷ without_key key bodies)) new_is stored) pair
            (bucket_beside shape cpu number bucket cpu (own.Push found.element) between ∙ bucket_turned shape cpu number bucket part taken
            ∙ update_after shape cpu side flags key value (Some e) (puts.Replaced e found.element) _ ∙ ap (λ l. new_stored shape side cpu e key value ∷ without_key key l) (buckets bucket))
            (λ other differ. bucket_beside shape cpu number other cpu (own.Push found.element) between ∙ bucket_other shape cpu number bucket other part taken differ ∙ buckets other)
            (omega (arith, free, pair.count, ap length has, ap length is, agree.free)) refl

        -- no pair goes
        none_goes : length ((key, value) ∷ without key held) ≤ held.capacity → within_capacity with_pair ≡ with_pair
        none_goes room = fitting held.capacity held.evicted ((key, value) ∷ without key held) room

        room_for_one : length ((key, value) ∷ without key held) ≤ held.capacity
        room_for_one =
            let pair : Turned pair_key pair_values key ((value ∷ []) ∷ []) held.pairs ((key, value) ∷ without key held) = pair_first key value held (agree.once key) in
            omega (arith, pair.count, fewer)

        -- what an update puts, and why it is refused, if it is
        abbrev pub Puts : Put → Option Errno → Type 0
        Puts put why =
            (reply_of_put put ≡ (unless_refused why with_pair held).1)
            × Agree shape cpu named (all_turned shape cpu number (on_bucket_of shape key (part_of put) ∷ all_freed shape cpu number (after_key shape cpu number key (part_of put) taken) (option_to_list (left_over e put))) taken) (unless_refused why with_pair held).0

        absent_puts : (two : Bool) → pair_hits key held.pairs ≡ [] → Puts (cond two puts.Absent (puts.Added e)) (cond two (Some Enoent) None)
        absent_puts true none = (refl, frees e (after_key shape cpu number key (part_of puts.Absent) taken) held lives (gives_back puts.Absent (λ bodies. refl)))
        absent_puts false none = (refl, subst (λ h. Agree shape cpu named (after_key shape cpu number key (part_of (puts.Added e)) taken) h) (sym (none_goes room_for_one)) (adds none))

        present_puts : (one : Bool) (found : Stored) (old : List ℕ) → set_of shape found.element ≡ cpu → pair_hits key held.pairs ≡ (old ∷ []) ∷ []
            → Puts (cond one puts.Exists (cond (is_percpu shape.kind) (puts.Written found.element) (puts.Replaced e found.element))) (cond one (Some Eexist) None)
        present_puts true found old at has = (refl, frees e (after_key shape cpu number key (part_of puts.Exists) taken) held lives (gives_back puts.Exists (λ bodies. refl)))
        present_puts false found old at has =
            subst (λ b. Puts (cond b (puts.Written found.element) (puts.Replaced e found.element)) None) (sym (ap is_percpu kind)) (
              refl,
              frees found.element (after_key shape cpu number key (part_of (puts.Replaced e found.element)) taken) (within_capacity with_pair) at
                  (subst (λ h. Agree shape cpu named (after_push shape cpu number found.element (after_key shape cpu number key (part_of (puts.Replaced e found.element)) taken)) h) (sym (none_goes room_for_one)) (replaces found old has)),
            )

        pub puts_alike : (found : Option Stored) (old : Option (List ℕ)) → nat_lt 2 flags ≡ false → Meet (pair_hits key held.pairs) found old → ((s : Stored) → found ≡ Some s → set_of shape s.element ≡ cpu)
            → Puts (put_offered shape flags e found) (refusal flags (is_some old))
        puts_alike None None known meet at = subst (λ b. Puts (put_offered shape flags e None) (cond b (Some Einval) (cond (flags == 2) (Some Enoent) None))) (sym known) (absent_puts (flags == 2) meet)
        puts_alike None (Some old) known meet at = absurd meet
        puts_alike (Some found) None known meet at = absurd meet
        puts_alike (Some found) (Some old) known meet at =
            subst (λ b. Puts (put_offered shape flags e (Some found)) (cond b (Some Einval) (cond (flags == 1) (Some Eexist) None))) (sym known) (present_puts (flags == 1) found old (at found refl) meet.1)
