-- The laws of what one turn of a bucket's or a freelist's lock did.
use Rattle.std.proofs.Common.{◌≡◌, ℕ, ◌<◌, ◌≤◌, ◌^◌, Bool, true, false, List, [], ◌++◌, Option, Some, None, slice_index_or, subst, refl, sym, ap, ◌∙◌, arith, append_assoc}
use Rattle.std.specs.Prelude.{codes}
use Rattle.std.proofs.lemmas.List.{append-nil}
use Rattle.hex.specs.Hex.{encode_lower}
use Rattle.map_types.specs.declared.attr.Shape.{Shape}
use Rattle.map_types.specs.declared.kind.DomainId.{DomainId}
use Rattle.map_types.specs.declared.kind.DomainId.TheVariants.{Local, Global, CpuLru, Bucket, Freelist}
use Rattle.map_types.specs.declared.kind.Side.{Side}
use Rattle.map_types.specs.declared.kind.Side.TheVariants.{Prog, Sys}
use Rattle.map_types.specs.Stored.{Stored}
use Rattle.map_types.specs.ValueLen.{value_len_of}
use Rattle.place_words.specs.declared.bucket_part.BucketPart.{BucketPart}
use Rattle.place_words.specs.declared.bucket_part.BucketPart.TheVariants.{Lookup, Update, Delete, Take, Next, First, Walk, Evict}
use Rattle.place_words.specs.declared.bucket_part.NextFound.{NextFound}
use Rattle.place_words.specs.declared.bucket_part.NextFound.TheVariants as next
use Rattle.place_words.specs.declared.bucket_part.Put.{Put}
use Rattle.place_words.specs.declared.bucket_part.Put.TheVariants.{Added, Replaced, Written, Exists, Absent, Full}
use Rattle.place_words.specs.declared.bucket_part.Seen.{Seen}
use Rattle.place_words.specs.declared.bucket_part.Seen.TheVariants.{Removed, Held}
use Rattle.place_words.specs.declared.bucket_part.Walked.{Walked}
use Rattle.place_words.specs.declared.bucket_part.Walked.TheVariants.{Over, Taken}
use Rattle.place_words.specs.declared.free_part.FreePart.{FreePart}
use Rattle.place_words.specs.declared.free_part.FreePart.TheVariants.{Pushed, Popped, FoundEmpty}
use Rattle.place_words.specs.Locks.{is_lock}
use Rattle.map_report.specs.BucketParts.{read_text, gone_text, put_text, next_text, first_text, taken_text, walked_text, walk_name, seen_text, bucket_part_text, free_part_text}
use Rattle.map_report.specs.Words.{side_name, number_text, bytes_text, option_text}
use Rattle.record_reading.specs.Readers.{Reader, behind, after, nothing, both, made, or_else, counted}
use Rattle.record_reading.specs.BucketReaders.{u32_text, element_text, element_colon, cpu_text, key_text, side_word, is_padded, value, value_text, read_part, gone_part, put_part, next_part, first_part, stored_of, taken_part, walked_part, seen_part, lookup_part, Asked, update_part, delete_part, take_part, next_call, first_call, walk_part, evict_part, bucket_part, free_part}
use Rattle.record_shape.specs.ShapedParts.{AreBytes, BucketFits, FirstFits, FreeFits, IsValue, NextFits, OptionFits, PutFits, ReadFits, SeenFits, TakenFits, WalkedFits}
use Rattle.record_reading.proofs.Laws.{Stops, Reads, Opens, Makes, makes, either_right, or_here, or_next, after_reads, both_reads, tested_reads, number_text_reads, bytes_reads, counted_reads, option_reads, Marked, marked_opens, word_makes, none_or_reads, Exact, exact_both, bytes_exact, number_colon_exact}

-- numbers of locks have 32 bits
abbrev pub NameFits : DomainId → Type 0
NameFits (Local cpu) = cpu < 2 ^ 32
NameFits Global = Unit {0}
NameFits (CpuLru cpu) = cpu < 2 ^ 32
NameFits (Bucket bucket) = bucket < 2 ^ 32
NameFits (Freelist cpu) = cpu < 2 ^ 32

-- the sizes of a map's shape
pub record Small (shape : Shape) : Type 0 where
  pub elements : shape.elements ≤ 2 ^ 64
  pub cpus : shape.cpus ≤ 2 ^ 64
  pub names : (lock : DomainId) → is_lock shape lock ≡ true → NameFits lock

-- ---- small parts

pub u32_reads : Reads number_text (λ n. n < 2 ^ 32) u32_text
unfolding u32_text
u32_reads = number_text_reads 4294967296 (omega arith)

side_back : (s : Side) (rest : List ℕ) → Unit {0} → Stops rest → side_word (side_name s ++ rest) ≡ Some (s, rest)
unfolding side_word behind or_else
side_back Prog rest fits stops = refl
side_back Sys rest fits stops = refl

pub side_reads : Reads side_name (λ _. Unit {0}) side_word
unfolding side_word
side_reads = record {
  back = side_back;
  right = either_right side_name (λ _. Unit {0}) _ _ (word_makes (codes "prog") Prog side_name (λ _. Unit {0}) refl tt).right (word_makes (codes "sys") Sys side_name (λ _. Unit {0}) refl tt).right;
}

pub number_marked : Marked number_text
number_marked = record { marked = λ a rest. refl }

pub bytes_marked : Marked bytes_text
bytes_marked = record { marked = λ a rest. refl }

abbrev stored_with : ℕ → List ℕ → List (List ℕ) → Stored
stored_with element key values = record { element = element; key = key; values = values }

group_update : (w s f k v o ot pt : List ℕ) → w ++ s ++ f ++ k ++ v ++ o ++ ot ++ pt ≡ w ++ (s ++ (f ++ (k ++ (v ++ ((o ++ ot) ++ pt)))))
group_update w s f k v o ot pt = simp append_assoc

group_taken : (e c k q v : List ℕ) → e ++ c ++ k ++ q ++ (v ++ []) ≡ (e ++ c) ++ (k ++ (q ++ v))
group_taken e c k q v = simp (append_assoc, append-nil)

module _ (shape : Shape) (small : Small shape) where
  pub element_reads : Reads number_text (λ n. n < shape.elements) (element_text shape)
  unfolding element_text
  element_reads = number_text_reads shape.elements small.elements

  pub element_colon_exact : Exact (λ n. number_text n ++ codes ":") (λ n. n < shape.elements) (element_colon shape)
  unfolding element_colon
  element_colon_exact = number_colon_exact shape.elements small.elements

  pub cpu_reads : Reads number_text (λ n. n < shape.cpus) (cpu_text shape)
  unfolding cpu_text
  cpu_reads = number_text_reads shape.cpus small.cpus

  pub key_reads : Reads bytes_text (AreBytes shape.key_size) (key_text shape)
  unfolding key_text
  key_reads = after_reads (bytes_reads shape.key_size) (codes " ")

  pub value_reads : (s : Side) → Reads encode_lower (IsValue shape s) (value shape s)
  unfolding value
  value_reads s = tested_reads (bytes_reads (value_len_of shape s)) (is_padded shape s)

  pub value_text_reads : (s : Side) → Reads bytes_text (IsValue shape s) (value_text shape s)
  unfolding value_text
  value_text_reads s = after_reads (value_reads s) (codes " ")

  -- ---- what was read, put, found, walked and seen

  pub read_reads : (word : List ℕ) (s : Side) → ((a : ℕ × List ℕ) (rest : List ℕ) → behind (codes " none") (read_text word (Some a) ++ rest) ≡ None) → Reads (read_text word) (ReadFits shape s) (read_part shape word s)
  unfolding read_part
  read_reads word s apart =
      none_or_reads (codes " none") refl tt
      (makes (after_reads (both_reads element_reads (λ _. value_text_reads s) (λ _. marked_opens bytes_marked)) word) (λ read. Some read) (read_text word) (ReadFits shape s) (λ x. simp append_assoc) (λ x fits. fits) (λ x fits. fits))
      apart

  pub got_reads : (s : Side) → Reads (read_text (codes " got")) (ReadFits shape s) (read_part shape (codes " got") s)
  unfolding behind
  got_reads s = read_reads (codes " got") s (λ a rest. refl)

  pub gone_reads : (s : Side) → Reads (read_text (codes " gone")) (ReadFits shape s) (read_part shape (codes " gone") s)
  unfolding behind
  gone_reads s = read_reads (codes " gone") s (λ a rest. refl)

  pub gone_part_reads : Reads gone_text (OptionFits shape.elements) (gone_part shape)
  unfolding behind gone_part
  gone_part_reads =
      none_or_reads (codes " none") refl tt
      (makes (after_reads element_reads (codes " gone")) (λ e. Some e) gone_text (OptionFits shape.elements) (λ x. refl) (λ x fits. fits) (λ x fits. fits)) (λ a rest. refl)

  pub first_reads : Reads first_text (FirstFits shape) (first_part shape)
  unfolding behind first_part
  first_reads =
      none_or_reads (codes " none") refl tt
      (makes (after_reads key_reads (codes " key")) (λ k. Some k) first_text (FirstFits shape) (λ x. refl) (λ x fits. fits) (λ x fits. fits)) (λ a rest. refl)

  -- puts

  abbrev put_word : (word : List ℕ) (put : Put) → put_text put ≡ word → PutFits shape put → Makes (λ (_ : Unit {0}). put) put_text (PutFits shape) (made (λ _. put) (after word nothing))
  put_word word put prints fits = word_makes word put put_text (PutFits shape) prints fits

  added : Makes Added put_text (PutFits shape) (made Added (after (codes " added") (element_text shape)))
  added = makes (after_reads element_reads (codes " added")) Added put_text (PutFits shape) (λ x. refl) (λ x fits. fits) (λ x fits. fits)

  replaced : Makes (λ (x : ℕ × ℕ). Replaced x.0 x.1) put_text (PutFits shape) (made (λ (x : ℕ × ℕ). Replaced x.0 x.1) (after (codes " replaced") (both (element_text shape) (λ _. element_text shape))))
  replaced =
      makes (after_reads (both_reads element_reads (λ _. element_reads) (λ _. marked_opens number_marked)) (codes " replaced")) (λ (x : ℕ × ℕ). Replaced x.0 x.1) put_text (PutFits shape) (λ x. simp append_assoc) (λ x fits. fits) (λ x fits. fits)

  written : Makes Written put_text (PutFits shape) (made Written (after (codes " written") (element_text shape)))
  written = makes (after_reads element_reads (codes " written")) Written put_text (PutFits shape) (λ x. refl) (λ x fits. fits) (λ x fits. fits)

  put_back : (put : Put) (rest : List ℕ) → PutFits shape put → Stops rest → put_part shape (put_text put ++ rest) ≡ Some (put, rest)
  unfolding put_part behind
  put_back (Added e) rest fits stops = or_here _ _ (added.back e rest fits stops)
  put_back (Replaced new old) rest fits stops = or_next _ _ refl (or_here _ _ (replaced.back (new, old) rest fits stops))
  put_back (Written e) rest fits stops = or_next _ _ refl (or_next _ _ refl (or_here _ _ (written.back e rest fits stops)))
  put_back Exists rest fits stops = or_next _ _ refl (or_next _ _ refl (or_next _ _ refl (or_here _ _ refl)))
  put_back Absent rest fits stops = or_next _ _ refl (or_next _ _ refl (or_next _ _ refl (or_next _ _ refl (or_here _ _ refl))))
  put_back Full rest fits stops = or_next _ _ refl (or_next _ _ refl (or_next _ _ refl (or_next _ _ refl (or_next _ _ refl refl))))

  pub put_reads : Reads put_text (PutFits shape) (put_part shape)
  unfolding put_part
  put_reads = record {
    back = put_back;
    right =
        either_right put_text (PutFits shape) _ _ added.right (either_right put_text (PutFits shape) _ _ replaced.right (either_right put_text (PutFits shape) _ _ written.right
        (either_right put_text (PutFits shape) _ _ (put_word (codes " exists") Exists refl tt).right (either_right put_text (PutFits shape) _ _ (put_word (codes " absent") Absent refl tt).right (put_word (codes " full") Full refl tt).right))));
  }

  -- what follows a key

  next_key : Makes next.Key next_text (NextFits shape) (made next.Key (after (codes " key") (key_text shape)))
  next_key = makes (after_reads key_reads (codes " key")) next.Key next_text (NextFits shape) (λ x. refl) (λ x fits. fits) (λ x fits. fits)

  next_back : (found : NextFound) (rest : List ℕ) → NextFits shape found → Stops rest → next_part shape (next_text found ++ rest) ≡ Some (found, rest)
  unfolding next_part behind
  next_back next.Absent rest fits stops = or_here _ _ refl
  next_back next.Last rest fits stops = or_next _ _ refl (or_here _ _ refl)
  next_back (next.Key key) rest fits stops = or_next _ _ refl (or_next _ _ refl (next_key.back key rest fits stops))

  pub next_reads : Reads next_text (NextFits shape) (next_part shape)
  unfolding next_part
  next_reads = record {
    back = next_back;
    right =
        either_right next_text (NextFits shape) _ _ (word_makes (codes " absent") next.Absent next_text (NextFits shape) refl tt).right
        (either_right next_text (NextFits shape) _ _ (word_makes (codes " last") next.Last next_text (NextFits shape) refl tt).right next_key.right);
  }

  -- what a probe saw

  held : Makes Held seen_text (SeenFits shape) (made Held (after (codes " held") (cpu_text shape)))
  held = makes (after_reads cpu_reads (codes " held")) Held seen_text (SeenFits shape) (λ x. refl) (λ x fits. fits) (λ x fits. fits)

  seen_back : (seen : Seen) (rest : List ℕ) → SeenFits shape seen → Stops rest → seen_part shape (seen_text seen ++ rest) ≡ Some (seen, rest)
  unfolding seen_part behind
  seen_back Removed rest fits stops = or_here _ _ refl
  seen_back (Held cpu) rest fits stops = or_next _ _ refl (held.back cpu rest fits stops)

  pub seen_reads : Reads seen_text (SeenFits shape) (seen_part shape)
  unfolding seen_part
  seen_reads = record { back = seen_back; right = either_right seen_text (SeenFits shape) _ _ (word_makes (codes " removed") Removed seen_text (SeenFits shape) refl tt).right held.right }

  -- walks

  taken_prints : (x : ℕ × (List ℕ × List ℕ)) → taken_text (stored_of x) ≡ (number_text x.0 ++ codes ":") ++ (encode_lower x.1.0 ++ (codes "=" ++ encode_lower x.1.1))
  taken_prints x = group_taken (number_text x.0) (codes ":") (encode_lower x.1.0) (codes "=") (encode_lower x.1.1)

  taken_from : (x : ℕ × (List ℕ × List ℕ)) → TakenFits shape (stored_of x) → (x.0 < shape.elements) × (AreBytes shape.key_size x.1.0 × IsValue shape Sys x.1.1)
  taken_from x fits =
      let e : fits.value ≡ x.1.1 = ap (λ (l : List (List ℕ)). slice_index_or l 0 []) (sym fits.is) in
      (fits.element, (fits.key, subst (IsValue shape Sys) e fits.fits))

  taken_makes : Makes stored_of taken_text (TakenFits shape) (taken_part shape)
  unfolding taken_part
  taken_makes =
      makes
      (exact_both element_colon_exact (λ _. exact_both (bytes_exact shape.key_size) (λ _. after_reads (value_reads Sys) (codes "="))))
      stored_of taken_text (TakenFits shape) taken_prints (λ x fits. record { element = fits.0; key = fits.1.0; value = x.1.1; is = refl; fits = fits.1.1 }) taken_from

  taken_back : (stored : Stored) (rest : List ℕ) → TakenFits shape stored → Stops rest → taken_part shape (taken_text stored ++ rest) ≡ Some (stored, rest)
  taken_back stored rest fits stops =
      let x : ℕ × (List ℕ × List ℕ) = (stored.element, (stored.key, fits.value)) in
      let e : stored ≡ stored_of x = ap (λ (values : List (List ℕ)). stored_with stored.element stored.key values) fits.is in
      subst (λ (s : Stored). taken_part shape (taken_text s ++ rest) ≡ Some (s, rest)) (sym e) (taken_makes.back x rest (subst (TakenFits shape) e fits) stops)

  pub taken_reads : Reads taken_text (TakenFits shape) (taken_part shape)
  taken_reads = record { back = taken_back; right = taken_makes.right }

  over : Makes Over walked_text (WalkedFits shape) (made Over (after (codes " over") u32_text))
  over = makes (after_reads u32_reads (codes " over")) Over walked_text (WalkedFits shape) (λ x. refl) (λ x fits. fits) (λ x fits. fits)

  taken : Makes Taken walked_text (WalkedFits shape) (made Taken (after (codes " taken") (counted (taken_part shape))))
  taken =
      makes (after_reads (counted_reads taken_reads (record { opens = λ a rest fits stops. refl })) (codes " taken")) Taken walked_text (WalkedFits shape) (λ x. refl) (λ x fits. fits) (λ x fits. fits)

  walked_back : (walked : Walked) (rest : List ℕ) → WalkedFits shape walked → Stops rest → walked_part shape (walked_text walked ++ rest) ≡ Some (walked, rest)
  unfolding walked_part behind
  walked_back (Over count) rest fits stops = or_here _ _ (over.back count rest fits stops)
  walked_back (Taken elements) rest fits stops = or_next _ _ refl (taken.back elements rest fits stops)

  pub walked_reads : Reads walked_text (WalkedFits shape) (walked_part shape)
  unfolding walked_part
  walked_reads = record { back = walked_back; right = either_right walked_text (WalkedFits shape) _ _ over.right taken.right }

  -- ---- parts

  read_opens : (word : List ℕ) (s : Side) → ((a : ℕ × List ℕ) (rest : List ℕ) → Stops (read_text word (Some a) ++ rest)) → Opens (read_text word) (ReadFits shape s)
  read_opens word s stops = record { opens = opens }
    where
      opens : (a : Option (ℕ × List ℕ)) (rest : List ℕ) → ReadFits shape s a → Stops rest → Stops (read_text word a ++ rest)
      opens None rest fits more = refl
      opens (Some a) rest fits more = stops a rest

  gone_marked : (o : Option ℕ) (rest : List ℕ) → Stops (gone_text o ++ rest)
  gone_marked None rest = refl
  gone_marked (Some a) rest = refl

  put_marked : (put : Put) (rest : List ℕ) → Stops (put_text put ++ rest)
  put_marked (Added e) rest = refl
  put_marked (Replaced new old) rest = refl
  put_marked (Written e) rest = refl
  put_marked Exists rest = refl
  put_marked Absent rest = refl
  put_marked Full rest = refl

  next_marked : (found : NextFound) (rest : List ℕ) → Stops (next_text found ++ rest)
  next_marked next.Absent rest = refl
  next_marked next.Last rest = refl
  next_marked (next.Key key) rest = refl

  walked_marked : (walked : Walked) (rest : List ℕ) → Stops (walked_text walked ++ rest)
  walked_marked (Over count) rest = refl
  walked_marked (Taken elements) rest = refl

  seen_marked : (seen : Seen) (rest : List ℕ) → Stops (seen_text seen ++ rest)
  seen_marked Removed rest = refl
  seen_marked (Held cpu) rest = refl

  abbrev part_makes : {A : Type 0} → (A → BucketPart) → Reader BucketPart → Type 0
  part_makes make read = Makes make bucket_part_text (BucketFits shape) read

  lookup_makes : part_makes (λ (x : Side × (List ℕ × Option (ℕ × List ℕ))). Lookup x.0 x.1.0 x.1.1) (lookup_part shape)
  unfolding lookup_part
  lookup_makes =
      makes (after_reads (both_reads side_reads (λ s. both_reads key_reads (λ _. got_reads s) (λ _. read_opens (codes " got") s (λ a rest. refl))) (λ s. record { opens = λ a rest fits stops. refl })) (codes "lookup ")) _ bucket_part_text (BucketFits shape) (λ x. simp append_assoc) (λ x fits. fits.1) (λ x fits. (tt, fits))

  update_makes : part_makes (λ (x : Asked). Update x.0 x.1.0 x.1.1.0 x.1.1.1.0 x.1.1.1.1.0 x.1.1.1.1.1) (update_part shape)
  unfolding update_part
  update_makes =
      makes
      (after_reads (both_reads side_reads (λ s. both_reads u32_reads (λ _. both_reads key_reads (λ _. both_reads (after_reads (bytes_reads (value_len_of shape s)) (codes " ")) (λ _. both_reads (after_reads (option_reads shape.elements small.elements) (codes " offer")) (λ _. put_reads)
      (λ _. record { opens = λ a rest fits stops. put_marked a rest }))
      (λ _. record { opens = λ a rest fits stops. refl }))
      (λ _. record { opens = λ a rest fits stops. refl }))
      (λ _. record { opens = λ a rest fits stops. refl }))
      (λ _. record { opens = λ a rest fits stops. refl })) (codes "update "))
      _ bucket_part_text (BucketFits shape) (λ x. group_update (codes "update ") (side_name x.0) (number_text x.1.0) (bytes_text x.1.1.0) (bytes_text x.1.1.1.0) (codes " offer") (option_text x.1.1.1.1.0) (put_text x.1.1.1.1.1)) (λ x fits. (fits.1.0, fits.1.1.0, fits.1.1.1.0, fits.1.1.1.1.0, fits.1.1.1.1.1)) (λ x fits. (tt, (fits.0, (fits.1, (fits.2, (fits.3, fits.4))))))

  delete_makes : part_makes (λ (x : List ℕ × Option ℕ). Delete x.0 x.1) (delete_part shape)
  unfolding delete_part
  delete_makes =
      makes (after_reads (both_reads key_reads (λ _. gone_part_reads) (λ _. record { opens = λ a rest fits stops. gone_marked a rest })) (codes "delete")) _ bucket_part_text (BucketFits shape) (λ x. simp append_assoc) (λ x fits. fits) (λ x fits. fits)

  take_makes : part_makes (λ (x : List ℕ × Option (ℕ × List ℕ)). Take x.0 x.1) (take_part shape)
  unfolding take_part
  take_makes =
      makes (after_reads (both_reads key_reads (λ _. gone_reads Sys) (λ _. read_opens (codes " gone") Sys (λ a rest. refl))) (codes "take")) _ bucket_part_text (BucketFits shape) (λ x. simp append_assoc) (λ x fits. fits) (λ x fits. fits)

  next_makes : part_makes (λ (x : List ℕ × NextFound). Next x.0 x.1) (next_call shape)
  unfolding next_call
  next_makes =
      makes (after_reads (both_reads key_reads (λ _. next_reads) (λ _. record { opens = λ a rest fits stops. next_marked a rest })) (codes "next")) _ bucket_part_text (BucketFits shape) (λ x. simp append_assoc) (λ x fits. fits) (λ x fits. fits)

  first_makes : part_makes First (first_call shape)
  unfolding first_call
  first_makes = makes (after_reads first_reads (codes "first")) First bucket_part_text (BucketFits shape) (λ x. refl) (λ x fits. fits) (λ x fits. fits)

  walk_makes : (remove : Bool) (word : List ℕ) → walk_name remove ≡ word → part_makes (λ (x : ℕ × Walked). Walk remove x.0 x.1) (walk_part shape remove word)
  unfolding walk_part
  walk_makes remove word is =
      makes (after_reads (both_reads u32_reads (λ _. walked_reads) (λ _. record { opens = λ a rest fits stops. walked_marked a rest })) word) _ bucket_part_text (BucketFits shape)
      (λ x. append_assoc (walk_name remove) (number_text x.0) (walked_text x.1) ∙ ap (λ w. w ++ (number_text x.0 ++ walked_text x.1)) is) (λ x fits. fits) (λ x fits. fits)

  evict_makes : part_makes (λ (x : ℕ × Seen). Evict x.0 x.1) (evict_part shape)
  unfolding evict_part
  evict_makes =
      makes (after_reads (both_reads element_reads (λ _. seen_reads) (λ _. record { opens = λ a rest fits stops. seen_marked a rest })) (codes "evict")) _ bucket_part_text (BucketFits shape) (λ x. simp append_assoc) (λ x fits. fits) (λ x fits. fits)

  -- where a part begins with another word

  abbrev Other : Reader BucketPart → List ℕ → Type 0
  Other read word = (text : List ℕ) → behind word text ≡ None → read text ≡ None

  no_lookup : Other (lookup_part shape) (codes "lookup ")
  unfolding lookup_part
  no_lookup text h = rw h refl

  no_update : Other (update_part shape) (codes "update ")
  unfolding update_part
  no_update text h = rw h refl

  no_delete : Other (delete_part shape) (codes "delete")
  unfolding delete_part
  no_delete text h = rw h refl

  no_take : Other (take_part shape) (codes "take")
  unfolding take_part
  no_take text h = rw h refl

  no_next : Other (next_call shape) (codes "next")
  unfolding next_call
  no_next text h = rw h refl

  no_first : Other (first_call shape) (codes "first")
  unfolding first_call
  no_first text h = rw h refl

  no_walk : (remove : Bool) (word : List ℕ) → Other (walk_part shape remove word) word
  unfolding walk_part
  no_walk remove word text h = rw h refl

  bucket_back : (part : BucketPart) (rest : List ℕ) → BucketFits shape part → Stops rest → bucket_part shape (bucket_part_text part ++ rest) ≡ Some (part, rest)
  unfolding bucket_part behind
  bucket_back (Lookup s key got) rest fits stops = or_here _ _ (lookup_makes.back (s, (key, got)) rest fits stops)
  bucket_back (Update s flags key value offer put) rest fits stops =
      or_next _ _ (no_lookup _ refl) (or_here _ _ (update_makes.back (s, (flags, (key, (value, (offer, put))))) rest fits stops))
  bucket_back (Delete key gone) rest fits stops =
      or_next _ _ (no_lookup _ refl) (or_next _ _ (no_update _ refl) (or_here _ _ (delete_makes.back (key, gone) rest fits stops)))
  bucket_back (Take key gone) rest fits stops =
      or_next _ _ (no_lookup _ refl) (or_next _ _ (no_update _ refl) (or_next _ _ (no_delete _ refl) (or_here _ _ (take_makes.back (key, gone) rest fits stops))))
  bucket_back (Next key found) rest fits stops =
      or_next _ _ (no_lookup _ refl) (or_next _ _ (no_update _ refl) (or_next _ _ (no_delete _ refl) (or_next _ _ (no_take _ refl) (or_here _ _ (next_makes.back (key, found) rest fits stops)))))
  bucket_back (First key) rest fits stops =
      or_next _ _ (no_lookup _ refl) (or_next _ _ (no_update _ refl) (or_next _ _ (no_delete _ refl) (or_next _ _ (no_take _ refl) (or_next _ _ (no_next _ refl) (or_here _ _ (first_makes.back key rest fits stops))))))
  bucket_back (Walk false room result) rest fits stops =
      or_next _ _ (no_lookup _ refl) (or_next _ _ (no_update _ refl) (or_next _ _ (no_delete _ refl) (or_next _ _ (no_take _ refl) (or_next _ _ (no_next _ refl) (or_next _ _ (no_first _ refl) (or_here _ _ ((walk_makes false (codes "walk keep") refl).back (room, result) rest fits stops)))))))
  bucket_back (Walk true room result) rest fits stops =
      or_next _ _ (no_lookup _ refl) (or_next _ _ (no_update _ refl) (or_next _ _ (no_delete _ refl) (or_next _ _ (no_take _ refl) (or_next _ _ (no_next _ refl) (or_next _ _ (no_first _ refl) (or_next _ _ (no_walk false (codes "walk keep") _ refl) (or_here _ _ ((walk_makes true (codes "walk drop") refl).back (room, result) rest fits stops))))))))
  bucket_back (Evict element seen) rest fits stops =
      or_next _ _ (no_lookup _ refl) (or_next _ _ (no_update _ refl) (or_next _ _ (no_delete _ refl) (or_next _ _ (no_take _ refl) (or_next _ _ (no_next _ refl) (or_next _ _ (no_first _ refl) (or_next _ _ (no_walk false (codes "walk keep") _ refl) (or_next _ _ (no_walk true (codes "walk drop") _ refl) (evict_makes.back (element, seen) rest fits stops))))))))

  pub bucket_reads : Reads bucket_part_text (BucketFits shape) (bucket_part shape)
  unfolding bucket_part
  bucket_reads = record {
    back = bucket_back;
    right =
        either_right bucket_part_text (BucketFits shape) _ _ lookup_makes.right (either_right bucket_part_text (BucketFits shape) _ _ update_makes.right
        (either_right bucket_part_text (BucketFits shape) _ _ delete_makes.right (either_right bucket_part_text (BucketFits shape) _ _ take_makes.right
        (either_right bucket_part_text (BucketFits shape) _ _ next_makes.right (either_right bucket_part_text (BucketFits shape) _ _ first_makes.right
        (either_right bucket_part_text (BucketFits shape) _ _ (walk_makes false (codes "walk keep") refl).right (either_right bucket_part_text (BucketFits shape) _ _ (walk_makes true (codes "walk drop") refl).right evict_makes.right)))))));
  }

  -- ---- freelists

  pushed : Makes Pushed free_part_text (FreeFits shape) (made Pushed (after (codes "push") (element_text shape)))
  pushed = makes (after_reads element_reads (codes "push")) Pushed free_part_text (FreeFits shape) (λ x. refl) (λ x fits. fits) (λ x fits. fits)

  popped : Makes Popped free_part_text (FreeFits shape) (made Popped (after (codes "pop") (element_text shape)))
  popped = makes (after_reads element_reads (codes "pop")) Popped free_part_text (FreeFits shape) (λ x. refl) (λ x fits. fits) (λ x fits. fits)

  free_back : (part : FreePart) (rest : List ℕ) → FreeFits shape part → Stops rest → free_part shape (free_part_text part ++ rest) ≡ Some (part, rest)
  unfolding free_part behind
  free_back (Pushed e) rest fits stops = or_here _ _ (pushed.back e rest fits stops)
  free_back (Popped e) rest fits stops = or_next _ _ refl (or_here _ _ (popped.back e rest fits stops))
  free_back FoundEmpty rest fits stops = or_next _ _ refl (or_next _ _ refl refl)

  pub free_reads : Reads free_part_text (FreeFits shape) (free_part shape)
  unfolding free_part
  free_reads = record {
    back = free_back;
    right = either_right free_part_text (FreeFits shape) _ _ pushed.right (either_right free_part_text (FreeFits shape) _ _ popped.right (word_makes (codes "empty") FoundEmpty free_part_text (FreeFits shape) refl tt).right);
  }
