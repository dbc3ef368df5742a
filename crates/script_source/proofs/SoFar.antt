-- What was read of a source so far, and fed.
use Rattle.std.proofs.Common.{◌≡◌, ℕ, ◌+◌, ◌-◌, ◌^◌, ◌<◌, ◌≤◌, List, [], ◌++◌, length, count_by, Option, Result, refl, ◌∙◌, arith, length-append}
use Rattle.std.proofs.lemmas.List.Sums.{count_by-le-length}
use Rattle.map_script.specs.declared.refusal.ScriptRefusal.{ScriptRefusal}
use Rattle.map_script.specs.declared.script.Form.{Form}
use Rattle.map_script.specs.declared.script.Script.{Script}
use Rattle.map_script.specs.Lines.{is_line_feed}
use Rattle.map_script.specs.Pieces.{Reader, StandsFor, IsFed}
use Rattle.map_script.specs.Reading.{read_as, IsReading}
use Rattle.map_script.proofs.LineLaws.{count-append}
use Rattle.run_ends.specs.SourceReads.{TakesFront, TakesAll, TakesUpTo, EndsWhereNoneIsLeft}
use Rattle.run_ends.proofs.Io.{TakesFront-none, TakesFront-append, TakesAll-at_end, TakesUpTo-more}

-- So many bytes were taken from the front of what was left, and a reader stands for them.
pub record SoFar (before now : Option (List ℕ)) (form : Form) (reader : Reader) (count : ℕ) : Type 0 where
  pub bytes : List ℕ
  pub taken : TakesFront before now bytes
  pub long : length bytes ≡ count
  pub stands : StandsFor form reader bytes
  pub counted : reader.line_feeds ≡ count_by is_line_feed bytes

pub none_so_far : (before : Option (List ℕ)) (form : Form) (reader : Reader) → StandsFor form reader [] → reader.line_feeds ≡ 0 → SoFar before before form reader 0
none_so_far before form reader stands none = record { bytes = []; taken = TakesFront-none before; long = refl; stands = stands; counted = none }

module _ (before middle after : Option (List ℕ)) (form : Form) (reader fed : Reader) (count : ℕ) where
  -- a piece more
  pub more_so_far : (piece : List ℕ) (n : ℕ) → SoFar before middle form reader count → TakesFront middle after piece → length piece ≡ n → IsFed reader piece fed → SoFar before after form fed (count + n)
  more_so_far piece n so_far took long is = record {
    bytes = so_far.bytes ++ piece;
    taken = TakesFront-append before middle after so_far.bytes piece so_far.taken took;
    long = omega (arith, length-append so_far.bytes piece, so_far.long, long);
    stands = is.stands form so_far.bytes so_far.stands;
    counted = omega (arith, is.counted, so_far.counted, count-append so_far.bytes piece);
  }

  -- a read of nothing where there is room: all is read
  pub all_so_far : (piece : List ℕ) (room n : ℕ) (read : Result Script ScriptRefusal) → SoFar before middle form reader count → count ≤ 16777216 → TakesFront middle after piece → length piece ≡ n → IsFed reader piece fed → 0 < room → EndsWhereNoneIsLeft middle room n → n ≡ 0
      → ((form : Form) (bytes : List ℕ) → StandsFor form fed bytes → IsReading read (read_as form bytes)) → (input : List ℕ) × TakesAll before after input × (length input ≤ 16777216) × IsReading read (read_as form input)
  all_so_far piece room n read so_far short took long is some end none finishes = (
    so_far.bytes ++ piece,
    TakesAll-at_end before middle after so_far.bytes piece room n so_far.taken took some end long none,
    omega (arith, length-append so_far.bytes piece, so_far.long, long, none, short),
    finishes form (so_far.bytes ++ piece) (is.stands form so_far.bytes so_far.stands),
  )

  -- whatever comes of a read more
  pub bounded_more : (room : ℕ) → SoFar before middle form reader count → count + room ≤ 16777217 → TakesUpTo room middle after → TakesUpTo 16777217 before after
  bounded_more room so_far fits more =
      TakesUpTo-more before middle after so_far.bytes room 16777217 so_far.taken more (omega (arith, so_far.long, fits))

-- where no read more is made
pub bounded_so_far : {before now : Option (List ℕ)} {form : Form} {reader : Reader} {count : ℕ} → SoFar before now form reader count → count ≤ 16777217 → TakesUpTo 16777217 before now
bounded_so_far so_far fits = (so_far.bytes, so_far.taken, omega (arith, so_far.long, fits))

-- one byte past the limit was taken
pub long_so_far : {before now : Option (List ℕ)} {form : Form} {reader : Reader} {count : ℕ} → SoFar before now form reader count → count ≡ 16777217 → (bytes : List ℕ) × TakesFront before now bytes × (length bytes ≡ 16777217)
long_so_far so_far is = (so_far.bytes, so_far.taken, so_far.long ∙ is)

-- so few bytes have few line feeds
pub feeds_fit : {before now : Option (List ℕ)} {form : Form} {reader : Reader} {count : ℕ} (room : ℕ) → SoFar before now form reader count → count ≤ 16777216 → room ≤ 65536 → reader.line_feeds + room ≤ 2 ^ 32 - 3
feeds_fit room so_far short fits = omega (arith, so_far.counted, so_far.long, count_by-le-length is_line_feed so_far.bytes)

-- a piece that isn't longer than the room has few enough line feeds
pub piece_fits : (line_feeds room : ℕ) (piece : List ℕ) → length piece ≤ room → line_feeds + room ≤ 2 ^ 32 - 3 → line_feeds + count_by is_line_feed piece ≤ 2 ^ 32 - 3
piece_fits line_feeds room piece short fits = omega (arith, count_by-le-length is_line_feed piece)
