-- A request: so many units, for so many minutes, from when it is ready on and done by its deadline. Assumes nothing.
use Rattle.std.specs.Prelude.{ℕ, ◌+◌, ◌-◌, Bool, ◌&&◌, nat_le}
use Rattle.planning.specs.declared.request.Request.{Request}

-- the last start that ends by the deadline
abbrev pub latest : Request → ℕ
latest request = request.deadline - request.duration

-- the request's window: from minute s on it begins when it is ready or later, and ends by its deadline
abbrev pub in_window : Request → ℕ → Bool
in_window request s = nat_le request.ready s && nat_le (s + request.duration) request.deadline

-- the units that are wanted are among those that are free
abbrev pub enough : ℕ → ℕ → Bool
enough wanted free = nat_le wanted free
