-- What a kind of unit is: its loads, what may be put on them, and the laws that it keeps. Assumes nothing.
use Rattle.std.specs.Prelude.{◌≡◌, ℕ, ◌+◌, ◌<◌, ◌≤◌, Bool, ◌&&◌, Some, None, Option}
use Rattle.std.proofs.Math.Bool.{So}

-- L is a kind's load: what is taken at one minute. A claim is what one booking takes, a load too. A number in front is the capacity: how many units there are.
pub record Kind (L : Type 0) : Type 0 where
  -- the most units that a board of this kind may have
  pub most : ℕ
  -- the load of an idle minute
  pub nothing : L
  -- are the two loads equal?
  pub same : L → L → Bool
  -- one load that covers both
  pub joined : L → L → L
  -- may this claim be put on this load?
  pub clear : ℕ → L → L → Bool
  -- the load with this claim on it, or the load itself where the claim is not clear of it
  pub put : ℕ → L → L → L
  -- the load without this claim, or the load itself where it does not contain the claim
  pub lift : L → L → L
  -- how many units a claim takes
  pub size : L → ℕ
  -- how many units a load leaves
  pub free : ℕ → L → ℕ
  -- a claim of so many units for this load, or none where that is more than are free
  pub pick : ℕ → ℕ → L → Option L

-- What a kind keeps where there are c units: l, a and b are loads, p and q claims.
pub record Laws {L : Type 0} (k : Kind L) (c : ℕ) : Type 0 where
  pub same_is : (a b : L) → So (k.same a b) → a ≡ b
  pub same_self : (a : L) → So (k.same a a)
  -- 1. joining does not depend on order, bracketing or repetition, and nothing adds nothing
  pub joined_turned : (a b : L) → k.joined a b ≡ k.joined b a
  pub joined_regrouped : (a b d : L) → k.joined (k.joined a b) d ≡ k.joined a (k.joined b d)
  pub joined_self : (a : L) → k.joined a a ≡ a
  pub joined_nothing : (a : L) → k.joined k.nothing a ≡ a
  -- 2. a claim is clear of two loads joined exactly when it is clear of each
  pub clear_of_joined : (p a b : L) → k.clear c p (k.joined a b) ≡ (k.clear c p a && k.clear c p b)
  -- 3. a claim of n ≥ 1 units clear of a load exists exactly when n units are free, and pick is then such a claim; of nothing all units are free
  pub clear_within : (p l : L) → So (k.clear c p l) → k.size p ≤ k.free c l
  pub pick_enough : (n : ℕ) (l : L) → 1 ≤ n → n ≤ k.free c l → (p : L) × (k.pick c n l ≡ Some p) × (k.size p ≡ n) × So (k.clear c p l)
  pub pick_short : (n : ℕ) (l : L) → k.free c l < n → k.pick c n l ≡ None
  pub free_nothing : k.free c k.nothing ≡ c
  -- 4. lifting a claim undoes putting it on
  pub lift_put : (p l : L) → So (k.clear c p l) → k.lift p (k.put c p l) ≡ l
  -- 5. where p and then q can be put on, q and then p can too, with the same result
  pub put_turned : (p q l : L) → So (k.clear c p l) → So (k.clear c q (k.put c p l)) → So (k.clear c q l) × So (k.clear c p (k.put c q l)) × (k.put c q (k.put c p l) ≡ k.put c p (k.put c q l))
  -- 6. putting a claim on leaves exactly its size fewer free
  pub free_put : (p l : L) → So (k.clear c p l) → k.size p + k.free c (k.put c p l) ≡ k.free c l

-- It keeps them for each capacity that a board may have.
abbrev pub Lawful : {L : Type 0} → Kind L → Type 0
Lawful k = (c : ℕ) → c ≤ k.most → Laws k c
