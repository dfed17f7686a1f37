-- Stock: a load is a count of pieces. Assumes nothing.
use Rattle.std.specs.Prelude.{ℕ, ◌+◌, ◌-◌, max, Bool, cond, Some, None, Option, ◌==◌, nat_le}
use Rattle.units.specs.Kinds.{Kind}
use Rattle.units.specs.declared.stock.Stock.{Stock}

abbrev pub of_count : ℕ → Stock
of_count n = record { count = n }

abbrev pub stock_same : Stock → Stock → Bool
stock_same a b = a.count == b.count

abbrev pub stock_joined : Stock → Stock → Stock
stock_joined a b = of_count (max a.count b.count)

-- both together are at most the capacity
abbrev pub stock_clear : ℕ → Stock → Stock → Bool
stock_clear c p l = nat_le (l.count + p.count) c

abbrev pub stock_put : ℕ → Stock → Stock → Stock
stock_put c p l = cond (stock_clear c p l) (of_count (l.count + p.count)) l

-- a load contains every claim that is not above it
abbrev pub stock_lift : Stock → Stock → Stock
stock_lift p l = cond (nat_le p.count l.count) (of_count (l.count - p.count)) l

abbrev pub stock_free : ℕ → Stock → ℕ
stock_free c l = c - l.count

abbrev pub stock_pick : ℕ → ℕ → Stock → Option Stock
stock_pick c n l = cond (nat_le n (stock_free c l)) (Some (of_count n)) None

abbrev pub stock_kind : Kind Stock
stock_kind = record {
  most = 4095;
  nothing = of_count 0;
  same = stock_same;
  joined = stock_joined;
  clear = stock_clear;
  put = stock_put;
  lift = stock_lift;
  size = λ p. p.count;
  free = stock_free;
  pick = stock_pick;
}
