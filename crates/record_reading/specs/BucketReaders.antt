-- How it is read what one turn of a bucket's or a freelist's lock did.
use Rattle.std.specs.Prelude.{ℕ, Bool, true, false, List, [], ◌∷◌, Option, Some, None, codes, bytes_eq, if◌then◌else◌}
use Rattle.map_types.specs.declared.attr.Shape.{Shape}
use Rattle.map_types.specs.declared.kind.Side.{Side}
use Rattle.map_types.specs.declared.kind.Side.TheVariants.{Prog, Sys}
use Rattle.map_types.specs.Kind.{is_percpu}
use Rattle.map_types.specs.Parts.{fields_of, values_in}
use Rattle.map_types.specs.Stored.{Stored}
use Rattle.map_types.specs.ValueLen.{value_len_of}
use Rattle.place_words.specs.declared.bucket_part.BucketPart.{BucketPart}
use Rattle.place_words.specs.declared.bucket_part.BucketPart.TheVariants.{Lookup, Update, Delete, Take, Next, First, Walk, Evict}
use Rattle.place_words.specs.declared.bucket_part.NextFound.{NextFound}
use Rattle.place_words.specs.declared.bucket_part.NextFound.TheVariants as next
use Rattle.place_words.specs.declared.bucket_part.Put.{Put}
use Rattle.place_words.specs.declared.bucket_part.Put.TheVariants.{Added, Replaced, Written, Exists, Absent, Full}
use Rattle.place_words.specs.declared.bucket_part.Seen.{Seen}
use Rattle.place_words.specs.declared.bucket_part.Seen.TheVariants.{Removed, Held}
use Rattle.place_words.specs.declared.bucket_part.Walked.{Walked}
use Rattle.place_words.specs.declared.bucket_part.Walked.TheVariants.{Over, Taken}
use Rattle.place_words.specs.declared.free_part.FreePart.{FreePart}
use Rattle.place_words.specs.declared.free_part.FreePart.TheVariants.{Pushed, Popped, FoundEmpty}
use Rattle.record_reading.specs.Readers.{Reader, after, nothing, both, made, either, number, bytes, counted, option, tested, colon}
pub use Rattle.record_shape.specs.Fits.{is_padded}

-- ---- small parts

unfoldable pub u32_text : Reader ℕ
u32_text = after (codes " ") (number 4294967296)

unfoldable pub element_text : Shape → Reader ℕ
element_text shape = after (codes " ") (number shape.elements)

-- ` E:`
unfoldable pub element_colon : Shape → Reader ℕ
element_colon shape = colon (after (codes " ") (number shape.elements))

unfoldable pub cpu_text : Shape → Reader ℕ
cpu_text shape = after (codes " ") (number shape.cpus)

unfoldable pub key_text : Shape → Reader (List ℕ)
key_text shape = after (codes " ") (bytes shape.key_size)

unfoldable pub side_word : Reader Side
side_word = either (made (λ _. Prog) (after (codes "prog") nothing)) (made (λ _. Sys) (after (codes "sys") nothing))

unfoldable pub value : Shape → Side → Reader (List ℕ)
value shape side = tested (is_padded shape side) (bytes (value_len_of shape side))

unfoldable pub value_text : Shape → Side → Reader (List ℕ)
value_text shape side = after (codes " ") (value shape side)

-- ---- what was read, put, found, walked and seen

unfoldable pub read_part : Shape → List ℕ → Side → Reader (Option (ℕ × List ℕ))
read_part shape word side =
    either (made (λ _. None) (after (codes " none") nothing))
    (made (λ (read : ℕ × List ℕ). Some read) (after word (both (element_text shape) (λ _. value_text shape side))))

unfoldable pub gone_part : Shape → Reader (Option ℕ)
gone_part shape =
    either (made (λ _. None) (after (codes " none") nothing)) (made (λ element. Some element) (after (codes " gone") (element_text shape)))

unfoldable pub put_part : Shape → Reader Put
put_part shape =
    either (made Added (after (codes " added") (element_text shape)))
    (either (made (λ (x : ℕ × ℕ). Replaced x.0 x.1) (after (codes " replaced") (both (element_text shape) (λ _. element_text shape))))
    (either (made Written (after (codes " written") (element_text shape)))
    (either (made (λ _. Exists) (after (codes " exists") nothing))
    (either (made (λ _. Absent) (after (codes " absent") nothing)) (made (λ _. Full) (after (codes " full") nothing))))))

unfoldable pub next_part : Shape → Reader NextFound
next_part shape =
    either (made (λ _. next.Absent) (after (codes " absent") nothing))
    (either (made (λ _. next.Last) (after (codes " last") nothing)) (made next.Key (after (codes " key") (key_text shape))))

unfoldable pub first_part : Shape → Reader (Option (List ℕ))
first_part shape =
    either (made (λ _. None) (after (codes " none") nothing)) (made (λ key. Some key) (after (codes " key") (key_text shape)))

abbrev pub stored_of : ℕ × (List ℕ × List ℕ) → Stored
stored_of x = record { element = x.0; key = x.1.0; values = x.1.1 ∷ [] }

unfoldable pub taken_part : Shape → Reader Stored
taken_part shape =
    made stored_of (both (element_colon shape) (λ _. both (bytes shape.key_size) (λ _. after (codes "=") (value shape Sys))))

unfoldable pub walked_part : Shape → Reader Walked
walked_part shape =
    either (made Over (after (codes " over") u32_text)) (made Taken (after (codes " taken") (counted (taken_part shape))))

unfoldable pub seen_part : Shape → Reader Seen
seen_part shape = either (made (λ _. Removed) (after (codes " removed") nothing)) (made Held (after (codes " held") (cpu_text shape)))

-- ---- parts

unfoldable pub lookup_part : Shape → Reader BucketPart
lookup_part shape =
    made (λ (x : Side × (List ℕ × Option (ℕ × List ℕ))). Lookup x.0 x.1.0 x.1.1)
    (after (codes "lookup ") (both side_word (λ side. both (key_text shape) (λ _. read_part shape (codes " got") side))))

abbrev pub Asked : Type 0
Asked = Side × (ℕ × (List ℕ × (List ℕ × (Option ℕ × Put))))

unfoldable pub update_part : Shape → Reader BucketPart
update_part shape =
    made (λ (x : Asked). Update x.0 x.1.0 x.1.1.0 x.1.1.1.0 x.1.1.1.1.0 x.1.1.1.1.1)
    (after (codes "update ") (both side_word (λ side. both u32_text (λ _. both (key_text shape) (λ _. both (after (codes " ") (bytes (value_len_of shape side)))
    (λ _. both (after (codes " offer") (option shape.elements)) (λ _. put_part shape)))))))

unfoldable pub delete_part : Shape → Reader BucketPart
delete_part shape =
    made (λ (x : List ℕ × Option ℕ). Delete x.0 x.1) (after (codes "delete") (both (key_text shape) (λ _. gone_part shape)))

unfoldable pub take_part : Shape → Reader BucketPart
take_part shape =
    made (λ (x : List ℕ × Option (ℕ × List ℕ)). Take x.0 x.1)
    (after (codes "take") (both (key_text shape) (λ _. read_part shape (codes " gone") Sys)))

unfoldable pub next_call : Shape → Reader BucketPart
next_call shape =
    made (λ (x : List ℕ × NextFound). Next x.0 x.1) (after (codes "next") (both (key_text shape) (λ _. next_part shape)))

unfoldable pub first_call : Shape → Reader BucketPart
first_call shape = made First (after (codes "first") (first_part shape))

unfoldable pub walk_part : Shape → Bool → List ℕ → Reader BucketPart
walk_part shape remove word =
    made (λ (x : ℕ × Walked). Walk remove x.0 x.1) (after word (both u32_text (λ _. walked_part shape)))

unfoldable pub evict_part : Shape → Reader BucketPart
evict_part shape =
    made (λ (x : ℕ × Seen). Evict x.0 x.1) (after (codes "evict") (both (element_text shape) (λ _. seen_part shape)))

unfoldable pub bucket_part : Shape → Reader BucketPart
bucket_part shape =
    either (lookup_part shape) (either (update_part shape) (either (delete_part shape) (either (take_part shape)
    (either (next_call shape) (either (first_call shape) (either (walk_part shape false (codes "walk keep"))
    (either (walk_part shape true (codes "walk drop")) (evict_part shape))))))))

unfoldable pub free_part : Shape → Reader FreePart
free_part shape =
    either (made Pushed (after (codes "push") (element_text shape)))
    (either (made Popped (after (codes "pop") (element_text shape))) (made (λ _. FoundEmpty) (after (codes "empty") nothing)))
