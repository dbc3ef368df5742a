-- What one turn of a bucket's or a freelist's lock did, as text.
use Rattle.std.specs.Prelude.{ℕ, List, ◌++◌, Bool, true, false, Option, Some, None, codes}
use Rattle.std.specs.List.{flat_map}
use Rattle.hex.specs.Hex.{encode_lower}
use Rattle.map_types.specs.declared.kind.Side.{Side}
use Rattle.map_types.specs.Stored.{Stored}
use Rattle.place_words.specs.declared.bucket_part.BucketPart.{BucketPart}
use Rattle.place_words.specs.declared.bucket_part.BucketPart.TheVariants.{Lookup, Update, Delete, Take, Next, First, Walk, Evict}
use Rattle.place_words.specs.declared.bucket_part.NextFound.{NextFound}
use Rattle.place_words.specs.declared.bucket_part.NextFound.TheVariants as next
use Rattle.place_words.specs.declared.bucket_part.Put.{Put}
use Rattle.place_words.specs.declared.bucket_part.Put.TheVariants.{Added, Replaced, Written, Exists, Absent, Full}
use Rattle.place_words.specs.declared.bucket_part.Seen.{Seen}
use Rattle.place_words.specs.declared.bucket_part.Seen.TheVariants.{Removed, Held}
use Rattle.place_words.specs.declared.bucket_part.Walked.{Walked}
use Rattle.place_words.specs.declared.bucket_part.Walked.TheVariants.{Over, Taken}
use Rattle.place_words.specs.declared.free_part.FreePart.{FreePart}
use Rattle.place_words.specs.declared.free_part.FreePart.TheVariants.{Pushed, Popped, FoundEmpty}
use Rattle.map_report.specs.Words.{bytes_text, counted, number_text, option_text, side_name}

-- an element with a value that was read, as ` got E HEX` or ` gone E HEX`, and ` none` where there is none
abbrev pub read_text : List ℕ → Option (ℕ × List ℕ) → List ℕ
read_text word None = codes " none"
read_text word (Some read) = word ++ number_text read.0 ++ bytes_text read.1

abbrev pub gone_text : Option ℕ → List ℕ
gone_text None = codes " none"
gone_text (Some element) = codes " gone" ++ number_text element

abbrev pub put_text : Put → List ℕ
put_text (Added element) = codes " added" ++ number_text element
put_text (Replaced new old) = codes " replaced" ++ number_text new ++ number_text old
put_text (Written element) = codes " written" ++ number_text element
put_text Exists = codes " exists"
put_text Absent = codes " absent"
put_text Full = codes " full"

abbrev pub next_text : NextFound → List ℕ
next_text next.Absent = codes " absent"
next_text next.Last = codes " last"
next_text (next.Key key) = codes " key" ++ bytes_text key

abbrev pub first_text : Option (List ℕ) → List ℕ
first_text None = codes " none"
first_text (Some key) = codes " key" ++ bytes_text key

-- ` E:KEY=HEX`, HEX being the one value that an element of a walk has, as the system call reads it
abbrev pub taken_text : Stored → List ℕ
taken_text stored =
    number_text stored.element ++ codes ":" ++ encode_lower stored.key ++ codes "=" ++ flat_map encode_lower stored.values

abbrev pub walked_text : Walked → List ℕ
walked_text (Over count) = codes " over" ++ number_text count
walked_text (Taken elements) = codes " taken" ++ counted taken_text elements

-- whether a walk leaves the elements or takes them out
abbrev pub walk_name : Bool → List ℕ
walk_name false = codes "walk keep"
walk_name true = codes "walk drop"

abbrev pub seen_text : Seen → List ℕ
seen_text Removed = codes " removed"
seen_text (Held holder) = codes " held" ++ number_text holder

-- `update SIDE FLAGS KEY HEX`
abbrev pub asked_text : Side → ℕ → List ℕ → List ℕ → List ℕ
asked_text side flags key value =
    codes "update " ++ side_name side ++ number_text flags ++ bytes_text key ++ bytes_text value

abbrev pub bucket_part_text : BucketPart → List ℕ
bucket_part_text (Lookup side key got) = codes "lookup " ++ side_name side ++ bytes_text key ++ read_text (codes " got") got
bucket_part_text (Update side flags key value offer put) =
    asked_text side flags key value ++ codes " offer" ++ option_text offer ++ put_text put
bucket_part_text (Delete key gone) = codes "delete" ++ bytes_text key ++ gone_text gone
bucket_part_text (Take key gone) = codes "take" ++ bytes_text key ++ read_text (codes " gone") gone
bucket_part_text (Next key found) = codes "next" ++ bytes_text key ++ next_text found
bucket_part_text (First key) = codes "first" ++ first_text key
bucket_part_text (Walk remove room result) = walk_name remove ++ number_text room ++ walked_text result
bucket_part_text (Evict element probed) = codes "evict" ++ number_text element ++ seen_text probed

abbrev pub free_part_text : FreePart → List ℕ
free_part_text (Pushed element) = codes "push" ++ number_text element
free_part_text (Popped element) = codes "pop" ++ number_text element
free_part_text FoundEmpty = codes "empty"
