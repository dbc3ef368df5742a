-- The copies worked by hand compute.
use Rattle.std.proofs.Common.{refl, arith}
use Rattle.std.proofs.lemmas.List.Elements.{All-from_recursion}
use Rattle.std.specs.List.{AllByRecursion}
use Rattle.std.specs.Prelude.{None}
use Rattle.map_copy.specs.Answers.{IsAnswered}
use Rattle.map_copy.specs.Rows.{source, steps, CopiesAll, StopsFull, StopsEarly, CopiesNone}

answered : AllByRecursion (IsAnswered source) (steps None 2)
answered = ((omega arith, omega arith, omega arith), ((omega arith, omega arith), (refl, tt)))

pub copies_all : CopiesAll
copies_all = (
  (refl, record { page = tt; put = tt }, (refl, record { page = tt; put = tt }, (refl, record { page = tt; put = tt }, refl))),
  All-from_recursion (IsAnswered source) (steps None 2) answered,
)

pub stops_full : StopsFull
stops_full = (refl, record { page = tt; put = tt }, (refl, record { page = tt; put = tt }, (refl, record { page = tt; put = tt }, refl)))

pub stops_early : StopsEarly
stops_early = (refl, record { page = tt; put = tt }, refl)

pub copies_none : CopiesNone
copies_none = (refl, record { page = tt; put = tt }, refl)
