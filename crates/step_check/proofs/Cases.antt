-- By the cases of a test.
use Rattle.std.proofs.Common.{◌≡◌, Bool, true, false, refl}

pub by_bool : (b : Bool) (F : Bool → Type 0) → F true → F false → F b
by_bool true F hit miss = hit
by_bool false F hit miss = miss

-- with what is known in each case
pub by_value : (b : Bool) (F : Bool → Type 0) → (b ≡ true → F true) → (b ≡ false → F false) → F b
by_value true F hit miss = hit refl
by_value false F hit miss = miss refl
