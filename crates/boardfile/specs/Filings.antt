-- How a kind of unit goes into a board file. Assumes nothing.
use Rattle.std.specs.Prelude.{◌≡◌, ℕ, ◌^◌, ◌<◌, ◌≤◌}
use Rattle.std.proofs.Math.Bool.{So}
use Rattle.units.specs.Crews.{of_mask}
use Rattle.units.specs.Kinds.{Kind}
use Rattle.units.specs.Stocks.{of_count}
use Rattle.units.specs.declared.crew.Crew.{Crew}
use Rattle.units.specs.declared.stock.Stock.{Stock}

pub record Filing (L : Type 0) : Type 0 where
  -- the kind's number in a file
  pub code : ℕ
  -- a claim as a number, and the claim that a number stands for
  pub word : L → ℕ
  pub claim : ℕ → L

-- each claim that a board may hold goes into 64 bits and comes back, and each number is a claim's; the kind's numbers have 32 bits
pub record Faithful {L : Type 0} (k : Kind L) (f : Filing L) : Type 0 where
  pub code_fits : f.code < 2 ^ 32
  pub most_fits : k.most < 2 ^ 32
  pub word_fits : (c : ℕ) (p l : L) → c ≤ k.most → So (k.clear c p l) → f.word p < 2 ^ 64
  pub word_back : (p : L) → f.claim (f.word p) ≡ p
  pub claim_back : (n : ℕ) → f.word (f.claim n) ≡ n

-- a crew's claim is its mask, and a stock's its count
abbrev pub crew_filing : Filing Crew
crew_filing = record { code = 1; word = λ p. p.mask; claim = of_mask }

abbrev pub stock_filing : Filing Stock
stock_filing = record { code = 2; word = λ p. p.count; claim = of_count }
