-- Notes that are added one after another.
use Rattle.std.proofs.Common.{List, [], ◌∷◌, ◌++◌, ◌∙◌, sym, ap, subst, append_assoc}
use Rattle.std.proofs.lemmas.List.{append-nil}
use Rattle.lru_lists.specs.Notes.{AreNoted}
use Rattle.lru_lists.specs.declared.notes.Noted.{Noted}
use Rattle.lru_lists.specs.declared.notes.Noted.TheVariants.{Kept, Lost}

pub noted_none : {T : Type 0} (notes : Noted T) → AreNoted [] notes notes
noted_none (Kept old) = sym (append-nil old)
noted_none Lost = tt

pub noted_more : {T : Type 0} (first second : List T) (a b c : Noted T) → AreNoted first a b → AreNoted second b c → AreNoted (first ++ second) a c
noted_more {T = T} [] second (Kept a) (Kept b) c one other = subst (λ (notes : List T). AreNoted second (Kept notes) c) (one ∙ append-nil a) other
noted_more [] second (Kept a) Lost c one other = absurd one
noted_more [] second Lost (Kept b) c one other = absurd one
noted_more [] second Lost Lost c one other = other
noted_more {T = T} (value ∷ first) second (Kept a) (Kept b) (Kept c) one other = other ∙ ap (λ (xs : List T). xs ++ second) one ∙ append_assoc a (value ∷ first) second
noted_more (value ∷ first) second (Kept a) (Kept b) Lost one other = tt
noted_more (value ∷ first) second (Kept a) Lost (Kept c) one other = absurd other
noted_more (value ∷ first) second (Kept a) Lost Lost one other = tt
noted_more (value ∷ first) second Lost (Kept b) c one other = absurd one
noted_more (value ∷ first) second Lost Lost (Kept c) one other = absurd other
noted_more (value ∷ first) second Lost Lost Lost one other = tt
