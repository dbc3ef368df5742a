-- What a batch lookup gives, as a page that a copy may read.
use Rattle.std.proofs.Common.{ℕ, List, [], ◌∷◌}
use Rattle.std.specs.Prelude.{Option, None, Some}
use Rattle.map_types.specs.declared.attr.Shape.{Shape}
use Rattle.map_types.specs.declared.refusal.Errno.{Errno}
use Rattle.map_types.specs.declared.refusal.Errno.TheVariants.{Enoent, Enospc}
use Rattle.map_types.specs.declared.reply.Reply.TheVariants.{Batch}
use Rattle.bucket_walks.specs.Pages.{EndsPage, IsPageFrom}
use Rattle.map_copy.specs.Answers.{IsAnswer}
use Rattle.map_copy.specs.Copied.{IsPage, read_of}
use Rattle.map_run.specs.Copying.{IsMapPage}

ends : (shape : Shape) (count start : ℕ) (stop : Option Errno) (pairs : List (List ℕ × List ℕ)) (next : ℕ) → EndsPage shape count start stop pairs next → IsPage (Batch stop pairs next) × IsAnswer shape (read_of count start) (Batch stop pairs next)
ends shape count start None (pair ∷ pairs) next is = (tt, is)
ends shape count start (Some Enospc) [] next is = (tt, is)
ends shape count start (Some Enoent) pairs next is = (tt, is)
ends shape count start stop pairs next is = absurd is

pub page_from : (shape : Shape) (count start : ℕ) (stop : Option Errno) (pairs : List (List ℕ × List ℕ)) (next : ℕ) → IsPageFrom shape count start stop pairs next → IsMapPage shape (read_of count start) (Batch stop pairs next)
page_from shape count start stop pairs next is =
    let both = ends shape count start stop pairs next is.ends in
    record { is_page = both.0; answered = both.1; few = is.few; sizes = is.sizes }
