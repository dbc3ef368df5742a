-- The laws of what calls answer.
use Rattle.std.proofs.Common.{◌≡◌, ℕ, List, [], ◌∷◌, ◌+◌, refl, ap}
use Rattle.hex.specs.Hex.{encode_lower}
use Rattle.map_types.specs.declared.attr.Shape.{Shape}
use Rattle.map_types.specs.declared.call.Call.{Call}
use Rattle.map_types.specs.declared.call.Verb.{Verb}
use Rattle.map_types.specs.declared.call.Verb.TheVariants.{Lookup, Update, Delete, Take, Next, BatchRead, BatchUpdate, BatchDelete, Each}
use Rattle.map_types.specs.declared.kind.Side.TheVariants.{Sys}
use Rattle.map_types.specs.declared.reply.Reply.{Reply}
use Rattle.map_types.specs.declared.reply.Reply.TheVariants.{Done}
use Rattle.map_report.specs.Text.{reply_line}
use Rattle.map_report.specs.Words.{numbered}
use Rattle.record_reading.specs.Answers.{answer_of, with_numbers, reply_of}
use Rattle.record_reading.specs.Sections.{Line, one_line, for_each}
use Rattle.record_shape.specs.ShapedParts.{IsAnswerOf, RepliesFit, ReplyFits, pair_side}
use Rattle.record_reading.proofs.SectionLaws.{ReadsLine, Tells, NoStop, line_tells}
use Rattle.record_reading.proofs.MadeLaws.{each_print, EachFits, EachStops, each_tells}
use Rattle.record_reading.proofs.BucketLaws.{Small, value_reads}
use Rattle.record_reading.proofs.Laws.{bytes_reads}
use Rattle.record_reading.proofs.LineLaws.{whole_reads}
use Rattle.record_reading.proofs.ReplyLaws.{reply_reads}
use Rattle.record_reading.proofs.WholeLaws.{same_tells}
use Rattle.record_reading.proofs.ToEndLaws.{some_bytes_reads}

module _ (shape : Shape) (small : Small shape) where
  pub answer_reads : (verb : Verb) → ReadsLine encode_lower (IsAnswerOf shape verb) (answer_of shape verb)
  answer_reads (Lookup side key) = whole_reads (value_reads shape small side)
  answer_reads (Take key) = whole_reads (value_reads shape small Sys)
  answer_reads (Next key) = whole_reads (bytes_reads shape.key_size)
  answer_reads (Update side flags key value) = some_bytes_reads
  answer_reads (Delete key) = some_bytes_reads
  answer_reads (BatchRead remove count start flags) = some_bytes_reads
  answer_reads (BatchUpdate flags pairs) = some_bytes_reads
  answer_reads (BatchDelete flags keys) = some_bytes_reads
  answer_reads (Each flags stop) = some_bytes_reads

  abbrev pub reply_lines : ℕ × Call → Reply → List Line
  reply_lines call told = reply_line call.0 told ∷ []

  abbrev pub CallFits : ℕ × Call → Reply → Type 0
  CallFits call told = ReplyFits shape (pair_side call.1.verb) (IsAnswerOf shape call.1.verb) told

  pub replies_tell : (calls : List (ℕ × Call)) → Tells (each_print reply_lines CallFits (λ _. NoStop) calls) (EachFits reply_lines CallFits (λ _. NoStop) calls) (EachStops reply_lines CallFits (λ _. NoStop) calls) (for_each (λ call. one_line (reply_of shape call)) calls)
  replies_tell =
      each_tells reply_lines CallFits (λ _. NoStop) (λ call. line_tells (reply_reads shape small (pair_side call.1.verb) (IsAnswerOf shape call.1.verb) (answer_of shape call.1.verb) (answer_reads call.1.verb) call.0) (Done, tt))

  -- ---- one for each call

  answers_to : (first : ℕ) (calls : List Call) (replies : List Reply) → EachFits reply_lines CallFits (λ _. NoStop) (with_numbers first calls) replies → RepliesFit shape calls replies
  answers_to first [] [] fits = tt
  answers_to first [] (told ∷ replies) fits = absurd fits
  answers_to first (call ∷ calls) [] fits = absurd fits
  answers_to first (call ∷ calls) (told ∷ replies) fits = (fits.0, answers_to (first + 1) calls replies fits.1)

  answers_from : (first : ℕ) (calls : List Call) (replies : List Reply) → RepliesFit shape calls replies → EachFits reply_lines CallFits (λ _. NoStop) (with_numbers first calls) replies
  answers_from first [] [] fits = tt
  answers_from first [] (told ∷ replies) fits = absurd fits
  answers_from first (call ∷ calls) [] fits = absurd fits
  answers_from first (call ∷ calls) (told ∷ replies) fits = (fits.0, answers_from (first + 1) calls replies fits.1)

  answers_print : (first : ℕ) (calls : List Call) (replies : List Reply) → EachFits reply_lines CallFits (λ _. NoStop) (with_numbers first calls) replies
      → numbered (λ number told. reply_line number told ∷ []) first replies ≡ each_print reply_lines CallFits (λ _. NoStop) (with_numbers first calls) replies
  answers_print first [] [] fits = refl
  answers_print first [] (told ∷ replies) fits = absurd fits
  answers_print first (call ∷ calls) [] fits = absurd fits
  answers_print first (call ∷ calls) (told ∷ replies) fits = ap (λ (l : List Line). reply_line first told ∷ l) (answers_print (first + 1) calls replies fits.1)

  no_stops : (calls : List (ℕ × Call)) (replies : List Reply) (rest : List Line) → EachStops reply_lines CallFits (λ _. NoStop) calls replies rest
  no_stops [] replies rest = tt
  no_stops (call ∷ calls) [] rest = tt
  no_stops (call ∷ calls) (told ∷ replies) rest = (tt, no_stops calls replies rest)

  pub answers_tell : (calls : List Call) → Tells (numbered (λ number told. reply_line number told ∷ []) 1) (RepliesFit shape calls) NoStop (for_each (λ call. one_line (reply_of shape call)) (with_numbers 1 calls))
  answers_tell calls =
      same_tells (replies_tell (with_numbers 1 calls)) (numbered (λ number told. reply_line number told ∷ []) 1) (RepliesFit shape calls) NoStop (answers_to 1 calls) (answers_from 1 calls) (answers_print 1 calls)
      (λ replies rest fits stops. tt) (λ replies rest fits stops. no_stops (with_numbers 1 calls) replies rest)
