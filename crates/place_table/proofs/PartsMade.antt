-- An entry that was made, where memory for it was found, is the part that a lock is given back with.
use Rattle.std.proofs.Common.{◌≡◌, sym, subst}
use Rattle.std.specs.Prelude.{Result, Ok, Err, Option, IfOk, IfSome}
use Rattle.std.specs.Result.{result_ok}
use Rattle.map_types.specs.declared.refusal.NoMemory.{NoMemory}
use Rattle.place_words.specs.declared.history.Part.{Part}

pub made_part : (T : Part → Type 0) (made : Result Part NoMemory) {part : Option Part} → part ≡ result_ok made → IfOk made T → IfSome part T
made_part T (Ok p) is holds = subst (λ (o : Option Part). IfSome o T) (sym is) holds
made_part T (Err e) is holds = subst (λ (o : Option Part). IfSome o T) (sym is) tt
