-- What follows a refusal that is due isn't looked at.
use mathlib.Core.Path.{◌≡◌, refl, ap}
use mathlib.Core.Bool.{Bool, true, false, not, cond}

pub behind : {A : Type 0} {x y : Bool} (b : Bool) (refused : A) (rest : Bool → A)
    → (b ≡ true → x ≡ y)
    → cond (not b) refused (rest x) ≡ cond (not b) refused (rest y)
behind true refused rest e = ap rest (e refl)
behind false refused rest e = refl
