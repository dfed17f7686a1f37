-- Items that pass through a sieve one after the other. Assumes nothing.
use Rattle.std.specs.Prelude.{List, [], ◌∷◌, Option, None, Some}

-- what comes out in front of the rest
abbrev pub led_by : {T : Type 0} → Option T → List T → List T
led_by None rest = rest
led_by (Some x) rest = x ∷ rest

-- what is left of the items once they passed, where `left` and `after` say what becomes of one and of the sieve
abbrev pub sifted : {S T : Type 0} → (S → T → Option T) → (S → T → S) → S → List T → List T
sifted left after s [] = []
sifted left after s (x ∷ xs) = led_by (left s x) (sifted left after (after s x) xs)
