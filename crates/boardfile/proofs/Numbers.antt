-- Numbers in bytes: what is written is read back, what is read is written again, and std reads the same. Assumes nothing.
use Rattle.std.proofs.Common.{◌≡◌, ℕ, zero, suc, ◌+◌, ◌*◌, ◌/◌, ◌%◌, ◌^◌, ◌<◌, List, [], ◌∷◌, length, get_or, take, drop, refl, ap, ◌∙◌, mod-eq_of_lt, pow-suc, arith}
use native.Mathlib.Nat.{mod-add-div, add-mul-mod_self_left}
use Rattle.std.proofs.Math.Nat.{mul-suc}
use Rattle.std.proofs.lemmas.List.{take-take, drop-drop}
use Rattle.std.proofs.lemmas.Nat.{div_below}
use Rattle.std.specs.Simd.{first_chunks}
use Rattle.std.specs.Int.{w32, w64, from_le_bytes}
use Rattle.boardfile.specs.Bytes.{value, written, number_at, Bytes}

-- AS STD READS THEM

-- bytes that are not there count as 0
four_read : (bs : List ℕ) → from_le_bytes w32 bs ≡ value (take 4 bs)
four_read [] = omega arith
four_read (a ∷ []) = omega arith
four_read (a ∷ b ∷ []) = omega arith
four_read (a ∷ b ∷ c ∷ []) = omega arith
four_read (a ∷ b ∷ c ∷ d ∷ bs) = omega arith

eight_read : (bs : List ℕ) → from_le_bytes w64 bs ≡ value (take 8 bs)
eight_read [] = omega arith
eight_read (a ∷ []) = omega arith
eight_read (a ∷ b ∷ []) = omega arith
eight_read (a ∷ b ∷ c ∷ []) = omega arith
eight_read (a ∷ b ∷ c ∷ d ∷ []) = omega arith
eight_read (a ∷ b ∷ c ∷ d ∷ e ∷ []) = omega arith
eight_read (a ∷ b ∷ c ∷ d ∷ e ∷ f ∷ []) = omega arith
eight_read (a ∷ b ∷ c ∷ d ∷ e ∷ f ∷ g ∷ []) = omega arith
eight_read (a ∷ b ∷ c ∷ d ∷ e ∷ f ∷ g ∷ h ∷ bs) = omega arith

-- the i-th of k pieces
piece : (n k i : ℕ) (bs : List ℕ) → i < k → get_or (first_chunks n k bs) i [] ≡ take n (drop (n * i) bs)
piece n zero i bs l = absurd (omega arith)
piece n (suc k) zero bs l =
    let none : 0 ≡ n * 0 = omega arith in
    ap (λ (j : ℕ). take n (drop j bs)) none
piece n (suc k) (suc i) bs l =
    let more : n + n * i ≡ n * suc i = omega (arith, mul-suc n i) in
    piece n k i (drop n bs) (omega arith) ∙ ap (take n) (drop-drop (n * i) n bs ∙ ap (λ (j : ℕ). drop j bs) more)

-- a number of 32 bits, and one of 64, in the i-th of k pieces
pub four_at : (k i : ℕ) (bs : List ℕ) (ps : List (List ℕ)) → ps ≡ first_chunks 4 k bs → i < k → from_le_bytes w32 (get_or ps i []) ≡ number_at (4 * i) 4 bs
four_at k i bs ps e l =
    ap (λ (xs : List ℕ). from_le_bytes w32 xs) (ap (λ (qs : List (List ℕ)). get_or qs i []) e ∙ piece 4 k i bs l) ∙ four_read (take 4 (drop (4 * i) bs)) ∙ ap value (take-take 4 4 (drop (4 * i) bs) (omega arith))

pub eight_at : (k i : ℕ) (bs : List ℕ) (ps : List (List ℕ)) → ps ≡ first_chunks 8 k bs → i < k → from_le_bytes w64 (get_or ps i []) ≡ number_at (8 * i) 8 bs
eight_at k i bs ps e l =
    ap (λ (xs : List ℕ). from_le_bytes w64 xs) (ap (λ (qs : List (List ℕ)). get_or qs i []) e ∙ piece 8 k i bs l) ∙ eight_read (take 8 (drop (8 * i) bs)) ∙ ap value (take-take 8 8 (drop (8 * i) bs) (omega arith))

-- WHAT IS WRITTEN IS READ BACK

pub length_written : (w n : ℕ) → length (written w n) ≡ w
length_written zero n = refl
length_written (suc w) n = ap suc (length_written w (n / 256))

pub value_written : (w n : ℕ) → n < 256 ^ w → value (written w n) ≡ n
value_written zero n l = omega arith
value_written (suc w) n l =
    let fits : n / 256 < 256 ^ w = div_below n 256 (256 ^ w) (omega arith) (omega (arith, pow-suc 256 w)) in
    ap (λ q. n % 256 + 256 * q) (value_written w (n / 256) fits) ∙ mod-add-div n 256

pub value_four : (n : ℕ) → n < 2 ^ 32 → value (written 4 n) ≡ n
value_four n l = value_written 4 n l

pub value_eight : (n : ℕ) → n < 2 ^ 64 → value (written 8 n) ≡ n
value_eight n l = value_written 8 n l

-- WHAT IS READ IS WRITTEN AGAIN

pub written_value : (bs : List ℕ) → Bytes bs → written (length bs) (value bs) ≡ bs
written_value [] h = refl
written_value (b ∷ bs) h =
    let low : (b + 256 * value bs) % 256 ≡ b = add-mul-mod_self_left b 256 (value bs) ∙ mod-eq_of_lt h.0 in
    let high : (b + 256 * value bs) / 256 ≡ value bs = omega (arith, h.0) in
    rw (low, high, written_value bs h.1)
